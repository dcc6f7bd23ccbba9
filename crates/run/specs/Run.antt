-- A run: steps until one halts or the budget is used. Steps past the list's end have event byte 0.
use Rattle.std.specs.Prelude.{ℕ, zero, suc, Bool, true, false, List, eqb, get_or}
use Rattle.memory.specs.Access.{pick}
use Rattle.insn.specs.declared.profile.Profile.{Profile}
use Rattle.machine.specs.Step.{step_of}
use Rattle.machine.specs.declared.state.State.{State}

-- what a run leaves, and how many steps it took
pub record Ran : Type 0 where
  pub st : State
  pub mem : List ℕ
  pub steps : ℕ

-- with n steps of the budget left and i taken
unfoldable pub run_of : Profile → ℕ → ℕ → List ℕ → State → List ℕ → Ran
run_of p zero i ev s m = record { st = s; mem = m; steps = i }
run_of p (suc n) i ev s m =
    let r = run_of p n (suc i) ev (step_of p s m (get_or ev i 0)).st (step_of p s m (get_or ev i 0)).mem in
    pick (eqb s.halt 0) r (record { st = s; mem = m; steps = i })

-- whether a fetch, a dcbz block, or a data access that is no alignment interrupt fell outside the memory
unfoldable pub past_of : Profile → ℕ → ℕ → List ℕ → State → List ℕ → Bool
past_of p zero i ev s m = false
past_of p (suc n) i ev s m =
    let r = past_of p n (suc i) ev (step_of p s m (get_or ev i 0)).st (step_of p s m (get_or ev i 0)).mem in
    pick (eqb s.halt 0) (pick (step_of p s m (get_or ev i 0)).past true r) false

-- a budget of n, cut at the first step that reaches past the memory
unfoldable pub inside_of : Profile → ℕ → ℕ → List ℕ → State → List ℕ → ℕ
inside_of p zero i ev s m = 0
inside_of p (suc n) i ev s m =
    let r = inside_of p n (suc i) ev (step_of p s m (get_or ev i 0)).st (step_of p s m (get_or ev i 0)).mem in
    suc (pick (step_of p s m (get_or ev i 0)).past 0 r)
