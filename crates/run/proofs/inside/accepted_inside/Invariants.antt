use Prim.Native.Nat.{◌≤◌, ◌-◌}
use mathlib.Core.Path.{◌≡◌}
use lib.ListN.{length}
use Rattle.run.specs.Run.{run_of, past_of, inside_of}
use Rattle.run.proofs.Marked.{rest_of, rest_past}
use Rattle.run.proofs.inside.accepted_inside.Given as goal

abbrev pub invariant-loop-i : goal.invariant-loop-i
invariant-loop-i l = (l.i ≤ l.budget) × ((length l.mem ≡ length l.initial.mem) × ((run_of l.profile (inside_of l.profile l.budget 0 l.events l.initial.s l.initial.mem) 0 l.events l.initial.s l.initial.mem ≡ rest_of l.profile l.budget l.i l.events l.s l.mem) × (past_of l.profile l.budget 0 l.events l.initial.s l.initial.mem ≡ rest_past l.profile l.budget l.i l.events l.s l.mem)))

abbrev pub decreases-loop-i : goal.decreases-loop-i
decreases-loop-i l = l.budget - l.i
