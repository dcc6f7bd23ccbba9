-- More memory, and a longer run.
use Rattle.std.specs.Prelude.{ℕ, ◌+◌, ◌≡◌, List, ◌++◌}
use Rattle.insn.specs.declared.profile.Profile.{Profile}
use Rattle.machine.specs.After.{After}
use Rattle.machine.specs.declared.state.State.{State}
use Rattle.run.specs.Run.{Ran, run_of}

-- what a step and a run leave, with the bytes x after the memory
abbrev pub grown : List ℕ → After → After
grown x a = record { st = a.st; mem = a.mem ++ x; past = a.past }

abbrev pub grown_run : List ℕ → Ran → Ran
grown_run x r = record { st = r.st; mem = r.mem ++ x; steps = r.steps }

-- Two runs from one state with one event list, the second with the bytes x after the memory and `more` on top of the budget. After as many steps as the
-- first the second has the same registers and halt, the same bytes in the common part, and its extra bytes as given; it goes on from there; and if the
-- first halted, the second halts there too.
pub record NeverAlters (p : Profile) (s : State) (m x ev : List ℕ) (budget more : ℕ) : Type 0 where
  pub after_as_many : run_of p (run_of p budget 0 ev s m).steps 0 ev s (m ++ x) ≡ grown_run x (run_of p budget 0 ev s m)
  pub goes_on : (let r = run_of p budget 0 ev s m in run_of p (budget + more) 0 ev s (m ++ x) ≡ run_of p more r.steps ev r.st (r.mem ++ x))
  pub halts_there : ((run_of p budget 0 ev s m).st.halt ≡ 0 → ⊥) → run_of p (budget + more) 0 ev s (m ++ x) ≡ grown_run x (run_of p budget 0 ev s m)
