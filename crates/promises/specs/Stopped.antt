-- Whether a run that a stop ends came to one.
use Rattle.std.specs.Prelude.{ℕ, zero, suc, Bool, true, false, ◌&&◌, List, eqb, get_or, is_ok}
use Rattle.memory.specs.Access.{pick}
use Rattle.insn.specs.declared.profile.Profile.{Profile}
use Rattle.machine.specs.Step.{step_of}
use Rattle.machine.specs.declared.state.State.{State}
use Rattle.run.specs.Outcome.{check_run}
use Rattle.until.specs.Until.{stop_at}

-- with n steps of the budget left and i taken, whether a step leaves IAR at a stop
unfoldable pub stopped_of : Profile → List ℕ → ℕ → ℕ → List ℕ → State → List ℕ → Bool
stopped_of p stops zero i ev s m = false
stopped_of p stops (suc n) i ev s m =
    let r = stopped_of p stops n (suc i) ev (step_of p s m (get_or ev i 0)).st (step_of p s m (get_or ev i 0)).mem in
    pick (eqb s.halt 0) (pick (stop_at stops (step_of p s m (get_or ev i 0)).st.iar) true r) false

-- it is accepted and did; refused, it took no step
unfoldable pub run_stopped : Profile → State → List ℕ → List ℕ → List ℕ → ℕ → Bool
run_stopped p s m ev stops budget = is_ok (check_run p s m ev budget) && stopped_of p stops budget 0 ev s m
