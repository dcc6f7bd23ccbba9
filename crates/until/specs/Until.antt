-- A run that ends with the first step that leaves IAR at a stop.
use Rattle.std.specs.Prelude.{ℕ, zero, suc, ◌/◌, Bool, not, List, eqb, get_or, Result}
use Rattle.memory.specs.Access.{pick}
use Rattle.insn.specs.declared.profile.Profile.{Profile}
use Rattle.machine.specs.Step.{step_of}
use Rattle.machine.specs.declared.state.State.{State}
use Rattle.machine.specs.declared.refusal.Refusal.{Refusal}
use Rattle.run.specs.Run.{run_of}
use Rattle.run.specs.Outcome.{answered, remembered, check_run}
use Rattle.run.specs.declared.outcome.Outcome.{Outcome}

-- byte k of the list, where it is not 0, is a stop at the word at 4k; past the list's end there is none
unfoldable pub stop_at : List ℕ → ℕ → Bool
stop_at stops iar = not (eqb (get_or stops (iar / 4) 0) 0)

-- a budget of n, cut at the first step that leaves IAR at a stop; where the run begins is not looked at
unfoldable pub until_of : Profile → List ℕ → ℕ → ℕ → List ℕ → State → List ℕ → ℕ
until_of p stops zero i ev s m = 0
until_of p stops (suc n) i ev s m =
    let r = until_of p stops n (suc i) ev (step_of p s m (get_or ev i 0)).st (step_of p s m (get_or ev i 0)).mem in
    suc (pick (stop_at stops (step_of p s m (get_or ev i 0)).st.iar) 0 r)

-- the refusals for its budget, and the steps of the cut one; no list of stops is refused
unfoldable pub until_outcome : Profile → State → List ℕ → List ℕ → List ℕ → ℕ → Result Outcome Refusal
until_outcome p s m ev stops budget = answered (check_run p s m ev budget) (run_of p (until_of p stops budget 0 ev s m) 0 ev s m)

unfoldable pub until_memory : Profile → State → List ℕ → List ℕ → List ℕ → ℕ → List ℕ
until_memory p s m ev stops budget = remembered (check_run p s m ev budget) m (run_of p (until_of p stops budget 0 ev s m) 0 ev s m)
