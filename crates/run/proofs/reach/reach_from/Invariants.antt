use Prim.Native.Nat.{◌-◌}
use mathlib.Core.Bool.{◌||◌}
use mathlib.Core.Path.{◌≡◌}
use lib.ListN.{length}
use Rattle.run.specs.Run.{run_of, past_of}
use Rattle.run.proofs.reach.reach_from.Given as goal

abbrev pub invariant-loop-i : goal.invariant-loop-i
invariant-loop-i l = (length l.mem ≡ length l.initial.mem) × ((run_of l.profile (l.budget - l.initial.i) l.initial.i l.events l.initial.s l.initial.mem ≡ run_of l.profile (l.budget - l.i) l.i l.events l.s l.mem) × ((l.initial.past || past_of l.profile (l.budget - l.initial.i) l.initial.i l.events l.initial.s l.initial.mem) ≡ (l.past || past_of l.profile (l.budget - l.i) l.i l.events l.s l.mem)))

abbrev pub decreases-loop-i : goal.decreases-loop-i
decreases-loop-i l = l.budget - l.i
