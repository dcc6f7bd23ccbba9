use Prim.Native.Nat.{◌-◌}
use mathlib.Core.Path.{◌≡◌}
use lib.ListN.{length}
use Rattle.run.specs.Run.{run_of}
use Rattle.until.specs.Until.{until_of}
use Rattle.until.proofs.Laws.{left_of}
use Rattle.until.proofs.until.accepted_until.Given as goal

abbrev pub invariant-loop-i : goal.invariant-loop-i
invariant-loop-i l = (length l.mem ≡ length l.initial.mem) × (run_of l.profile (until_of l.profile l.stops l.budget 0 l.events l.initial.s l.initial.mem) 0 l.events l.initial.s l.initial.mem ≡ left_of l.profile l.stops l.budget l.i l.stopped l.events l.s l.mem)

abbrev pub decreases-loop-i : goal.decreases-loop-i
decreases-loop-i l = l.budget - l.i
