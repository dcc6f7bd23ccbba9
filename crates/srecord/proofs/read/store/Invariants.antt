use Prim.Native.Nat.{◌-◌}
use lib.ListN.{length}
use Rattle.srecord.proofs.Judge.{Storing}
use Rattle.srecord.proofs.read.store.Given as goal

abbrev pub invariant-loop-at : goal.invariant-loop-at
invariant-loop-at l = Storing l.file l.initial.mem l.mem l.at

abbrev pub decreases-loop-at : goal.decreases-loop-at
decreases-loop-at l = length l.file - l.at
