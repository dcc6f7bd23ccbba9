use Prim.Native.Nat.{◌≤◌, ◌-◌}
use mathlib.Core.Path.{◌≡◌}
use mathlib.Core.List.{[]}
use lib.ListN.{length}
use Rattle.insn.specs.declared.profile.Profile.{Profile}
use Rattle.run.specs.Lent.{after, lent_of}
use Rattle.lent.proofs.lent_run.Given as goal

abbrev pub invariant-loop-i : goal.invariant-loop-i
invariant-loop-i l = (l.steps ≤ l._i) × ((length l.mem ≡ length l.initial.mem) × (lent_of Profile.Ppe42 l.budget 0 [] l.initial.state l.initial.mem ≡ after l.steps (lent_of Profile.Ppe42 (l.budget - l._i) l._i [] l.state l.mem)))
