use Prim.Native.Nat.{◌+◌, ◌-◌, ◌*◌, ◌≤◌}
use mathlib.Core.Path.{◌≡◌}
use Rattle.srecord.specs.Hex.{bytes_at, number_from}
use Rattle.srecord.proofs.Spelt.{most}
use Rattle.srecord.proofs.hex.number_at.Given as goal

abbrev pub invariant-loop-k : goal.invariant-loop-k
invariant-loop-k l = (l.number ≤ most l.k) × (number_from 0 (bytes_at l.width l.file l.at) ≡ number_from l.number (bytes_at (l.width - l.k) l.file (l.at + 2 * l.k)))
