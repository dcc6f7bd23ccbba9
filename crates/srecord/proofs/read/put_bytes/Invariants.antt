use Prim.Native.Nat.{◌+◌, ◌-◌, ◌*◌}
use mathlib.Core.Path.{◌≡◌}
use mathlib.Core.Bool.{true}
use lib.ListN.{length}
use lib.Seq.{sets}
use Rattle.srecord.specs.Hex.{bytes_at, all_bytes}
use Rattle.srecord.proofs.read.put_bytes.Given as goal

abbrev pub invariant-loop-k : goal.invariant-loop-k
invariant-loop-k l = (length l.mem ≡ length l.initial.mem) × ((all_bytes (bytes_at (l.n - l.k) l.file (l.from + 2 * l.k)) ≡ true) × (sets l.initial.mem l.at (bytes_at l.n l.file l.from) ≡ sets l.mem (l.at + l.k) (bytes_at (l.n - l.k) l.file (l.from + 2 * l.k))))
