-- Laws of a loop of lent steps, one turn on and at its end. Assumes nothing.
use Prim.Native.Nat.{ℕ, suc, ◌+◌, ◌-◌, ◌≤◌, ◌<◌}
use native.Mathlib.Nat.{add_assoc, add-zero}
use native.Mathlib.Numerals.{add-one}
use native.Mathlib.Omega.{arith}
use mathlib.Core.Bool.{Bool, true, false}
use mathlib.Core.Path.{◌≡◌}
use mathlib.Core.List.{List, [], ◌∷◌}
use lib.Dec.{eqb}
use Rattle.memory.specs.Access.{pick}
use Rattle.insn.specs.declared.profile.Profile.{Profile}
use Rattle.std.specs.Prelude.{Ok, Err}
use Rattle.machine.specs.Refusal.{Checked}
use Rattle.machine.specs.Step.{step_of}
use Rattle.machine.specs.declared.state.State.{State}
use Rattle.run.specs.Run.{Ran, run_of}
use Rattle.run.specs.Outcome.{check_step, state_left, answered, step_outcome, step_memory}
use Rattle.run.specs.Lent.{answer_of, counted, after, lent_of}

module _ (p : Profile) (s : State) (m : List ℕ) where
  ran_most : (b : Bool) (r : Ran) → r.steps ≤ 1 → (pick b r (record { st = s; mem = m; steps = 0 })).steps ≤ 1
  ran_most true r h = h
  ran_most false r h = omega arith

  answered_most : (c : Checked) (ran : Ran) → ran.steps ≤ 1 → counted (answer_of (answered c ran)) ≤ 1
  answered_most (Ok tt) ran h = h
  answered_most (Err r) ran h = omega arith

  -- a step counts at most one
  pub one_at_most : (e : ℕ) → counted (answer_of (step_outcome p s m e)) ≤ 1
  unfolding step_outcome run_of
  one_at_most e =
      answered_most (check_step p s m e) (run_of p 1 0 (e ∷ []) s m)
      (ran_most (eqb s.halt 0) (record { st = (step_of p s m e).st; mem = (step_of p s m e).mem; steps = 1 }) (omega arith))

  pub lent_more : (b i n : ℕ) → i < b
      → after n (lent_of p (b - i) i [] s m) ≡ after (n + counted (answer_of (step_outcome p s m 0))) (lent_of p (b - (i + 1)) (i + 1) [] (state_left s (step_outcome p s m 0)) (step_memory p s m 0))
  unfolding lent_of
  lent_more b i n h =
      let e : b - i ≡ suc (b - (i + 1)) = omega arith in
      rw (e, add-one, add_assoc)

  pub lent_spent : (b i n : ℕ) → b ≤ i → after n (lent_of p (b - i) i [] s m) ≡ record { st = s; mem = m; steps = n }
  unfolding lent_of
  lent_spent b i n h =
      let e : b - i ≡ 0 = omega arith in
      rw (e, add-zero)
