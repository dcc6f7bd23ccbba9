use Prim.Native.Nat.{◌-◌, ◌≤◌}
use mathlib.Core.Path.{◌≡◌}
use lib.ListN.{length}
use Rattle.engine.specs.Engine.{Good, Sized}
use Rattle.engine.proofs.Runs.{Going}
use Rattle.engine.proofs.kept.kept_stretch.Given as goal

abbrev pub invariant-loop-i : goal.invariant-loop-i
invariant-loop-i l = (l.upto ≤ l.budget) × ((length l.mem ≡ length l.initial.mem) × (Going l.profile l.budget l.events l.initial.s l.initial.mem l.i l.s l.mem × (Sized l.kept × Good l.profile l.tags l.kept l.mem)))

abbrev pub decreases-loop-i : goal.decreases-loop-i
decreases-loop-i l = l.budget - l.i
