use Prim.Native.Nat.{ℕ, ◌<◌}
use mathlib.Core.Path.{◌≡◌}
use lib.ListN.{length, get_or, set}
use Rattle.machine.proofs.state.replaced.Given as goal

abbrev pub invariant-loop-k : goal.invariant-loop-k
invariant-loop-k l = (length l.all ≡ 16) × ((j : ℕ) → j < l.k → get_or l.all j 0 ≡ get_or (set l.gpr l.at l.v) j 0)
