use Prim.Native.Nat.{◌+◌, ◌-◌, ◌*◌, ◌≤◌}
use mathlib.Core.Path.{◌≡◌}
use Rattle.srecord.specs.Hex.{bytes_at}
use Rattle.srecord.specs.Found.{sum_in}
use Rattle.srecord.proofs.Spelt.{summed}
use Rattle.srecord.proofs.hex.sum_at.Given as goal

abbrev pub invariant-loop-k : goal.invariant-loop-k
invariant-loop-k l = (l.sum ≤ 255 * l.k) × (sum_in (bytes_at l.n l.file l.at) ≡ summed l.sum (bytes_at (l.n - l.k) l.file (l.at + 2 * l.k)))
