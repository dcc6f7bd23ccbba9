-- The single step over a lent state, and a loop that lends it.
use Rattle.std.specs.Prelude.{ℕ, zero, suc, ◌+◌, List, get_or, Result, Ok, Err}
use Rattle.insn.specs.declared.profile.Profile.{Profile}
use Rattle.machine.specs.declared.state.State.{State}
use Rattle.machine.specs.declared.refusal.Refusal.{Refusal}
use Rattle.run.specs.Run.{Ran}
use Rattle.run.specs.Outcome.{step_outcome, step_memory, state_left}
use Rattle.run.specs.declared.outcome.Outcome.{Outcome}
use Rattle.run.specs.declared.outcome.Stop.{Stop}

-- an outcome less its state
abbrev pub answer_of : Result Outcome Refusal → Result Stop Refusal
answer_of (Ok o) = Ok (record { halt = o.halt; steps = o.steps })
answer_of (Err r) = Err r

-- the steps that it counts; refused, none
abbrev pub counted : Result Stop Refusal → ℕ
counted (Ok stop) = stop.steps
counted (Err r) = 0

-- a run that comes after n steps
abbrev pub after : ℕ → Ran → Ran
after n r = record { st = r.st; mem = r.mem; steps = n + r.steps }

-- n turns of such a loop, from turn i on: each lends what the one before left, and the answers' steps are added up
unfoldable pub lent_of : Profile → ℕ → ℕ → List ℕ → State → List ℕ → Ran
lent_of p zero i ev s m = record { st = s; mem = m; steps = 0 }
lent_of p (suc n) i ev s m =
    let o = step_outcome p s m (get_or ev i 0) in
    after (counted (answer_of o)) (lent_of p n (suc i) ev (state_left s o) (step_memory p s m (get_or ev i 0)))
