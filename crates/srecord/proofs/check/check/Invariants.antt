use Prim.Native.Nat.{◌-◌}
use lib.ListN.{length}
use Rattle.srecord.proofs.Judge.{Going}
use Rattle.srecord.proofs.check.check.Given as goal

abbrev pub invariant-loop-at : goal.invariant-loop-at
invariant-loop-at l = Going l.file l.memory l.bytes.words l.so l.at l.line

abbrev pub decreases-loop-at : goal.decreases-loop-at
decreases-loop-at l = length l.file - l.at
