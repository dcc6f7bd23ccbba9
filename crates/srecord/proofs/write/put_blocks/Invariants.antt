use Prim.Native.Nat.{◌-◌, ◌*◌, ◌/◌}
use mathlib.Core.Path.{◌≡◌}
use lib.ListN.{length}
use lib.Seq.{sets}
use Rattle.srecord.specs.Write.{blocks}
use Rattle.srecord.proofs.write.put_blocks.Given as goal

abbrev pub invariant-loop-k : goal.invariant-loop-k
invariant-loop-k l = (length l.out ≡ length l.initial.out) × (sets l.initial.out 0 (blocks (length l.memory / 32) 0 l.memory) ≡ sets l.out (79 * l.k) (blocks (length l.memory / 32 - l.k) (32 * l.k) l.memory))
