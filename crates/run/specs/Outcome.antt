-- What a run and a single step answer, refusals first.
use Rattle.std.specs.Prelude.{ℕ, Bool, ◌&&◌, List, [], ◌∷◌, leb, nat_lt, length, Result, Ok, Err, is_ok}
use Rattle.std.specs.List.{list_all}
use Rattle.std.specs.Result.{result_and}
use Rattle.insn.specs.declared.profile.Profile.{Profile}
use Rattle.machine.specs.Refusal.{Checked, unless}
use Rattle.machine.specs.Register.{check_start}
use Rattle.machine.specs.declared.state.State.{State}
use Rattle.machine.specs.declared.refusal.Refusal.{Refusal}
use Rattle.run.specs.Run.{Ran, run_of, past_of, inside_of}
use Rattle.run.specs.declared.outcome.Outcome.{Outcome}
use Rattle.run.specs.declared.reach.Reached.{Reached}

-- every event byte is below 64
unfoldable pub events_good : List ℕ → Bool
events_good ev = list_all (λ e. nat_lt e 64) ev

-- 5: over 1,048,576 bytes, or a byte of 64 or more
unfoldable pub check_events : List ℕ → Checked
check_events ev = unless (leb (length ev) 1048576 && events_good ev) Refusal.Events

-- a run checks 1, 2, 3, 4, 5
unfoldable pub check_run : Profile → State → List ℕ → List ℕ → ℕ → Checked
check_run p s m ev budget = result_and (check_start p s (length m)) (result_and (unless (leb budget 1048576) Refusal.Budget) (check_events ev))

-- a single step checks 1, 2, 3, 5, its event being a list of one
unfoldable pub check_step : Profile → State → List ℕ → ℕ → Checked
check_step p s m e = result_and (check_start p s (length m)) (check_events (e ∷ []))

-- what an accepted run leaves
abbrev pub accepted : Ran → Outcome
accepted ran = record { state = ran.st; halt = ran.st.halt; steps = ran.steps }

-- and of a refused one: the state as given, and no steps
abbrev pub state_left : State → Result Outcome Refusal → State
state_left s (Ok o) = o.state
state_left s (Err r) = s

abbrev pub steps_of : Result Outcome Refusal → ℕ
steps_of (Ok o) = o.steps
steps_of (Err r) = 0

-- accepted, what the run leaves; refused, nothing done
abbrev pub answered : Checked → Ran → Result Outcome Refusal
answered c ran = result_and c (Ok (accepted ran))

-- accepted, the run's memory; refused, the memory as given
abbrev pub remembered : Checked → List ℕ → Ran → List ℕ
remembered (Ok x) m ran = ran.mem
remembered (Err r) m ran = m

-- the same answer, told whether it reached
abbrev pub told : Result Outcome Refusal → Bool → Result Reached Refusal
told (Ok o) past = Ok (record { outcome = o; past = past })
told (Err r) past = Err r

unfoldable pub run_outcome : Profile → State → List ℕ → List ℕ → ℕ → Result Outcome Refusal
run_outcome p s m ev budget = answered (check_run p s m ev budget) (run_of p budget 0 ev s m)

unfoldable pub run_memory : Profile → State → List ℕ → List ℕ → ℕ → List ℕ
run_memory p s m ev budget = remembered (check_run p s m ev budget) m (run_of p budget 0 ev s m)

-- whether it is accepted and reached past its memory
unfoldable pub run_past : Profile → State → List ℕ → List ℕ → ℕ → Bool
run_past p s m ev budget = is_ok (check_run p s m ev budget) && past_of p budget 0 ev s m

-- the run that ends with the first step that reaches: the refusals for its budget, and the steps of the cut one
unfoldable pub inside_outcome : Profile → State → List ℕ → List ℕ → ℕ → Result Outcome Refusal
inside_outcome p s m ev budget = answered (check_run p s m ev budget) (run_of p (inside_of p budget 0 ev s m) 0 ev s m)

unfoldable pub inside_memory : Profile → State → List ℕ → List ℕ → ℕ → List ℕ
inside_memory p s m ev budget = remembered (check_run p s m ev budget) m (run_of p (inside_of p budget 0 ev s m) 0 ev s m)

-- a single step is a run of one
unfoldable pub step_outcome : Profile → State → List ℕ → ℕ → Result Outcome Refusal
step_outcome p s m e = answered (check_step p s m e) (run_of p 1 0 (e ∷ []) s m)

unfoldable pub step_memory : Profile → State → List ℕ → ℕ → List ℕ
step_memory p s m e = remembered (check_step p s m e) m (run_of p 1 0 (e ∷ []) s m)
