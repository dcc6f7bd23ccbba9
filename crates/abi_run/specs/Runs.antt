-- What the C functions that run answer, and what they leave in their buffers.
use Rattle.std.specs.Prelude.{ℕ, ◌+◌, ◌^◌, List, Result, Ok, Err}
use Rattle.std.proofs.lemmas.List.Edits.{sets}
use Rattle.memory.specs.Access.{pick}
use Rattle.insn.specs.declared.profile.Profile.{Profile}
use Rattle.machine.specs.declared.refusal.Refusal.{Refusal}
use Rattle.run.specs.Outcome.{told, run_outcome, run_memory, run_past, inside_outcome, inside_memory, step_outcome, step_memory}
use Rattle.run.specs.declared.outcome.Outcome.{Outcome}
use Rattle.run.specs.declared.reach.Reached.{Reached}
use Rattle.capture.specs.Words.{word_bytes, words_of}
use Rattle.abi.specs.Answer.{answer_of, is_state, lent_state, with_state}

-- the new state in its place; refused, every byte as given
abbrev pub stored : List ℕ → Result Outcome Refusal → List ℕ
stored bytes (Ok o) = sets bytes 0 (word_bytes (words_of o.state))
stored bytes (Err r) = bytes

-- what is counted of a run: its steps, and 2^63 if it reached past its memory
abbrev pub steps_counted : Result Outcome Refusal → Result ℕ Refusal
steps_counted (Ok o) = Ok o.steps
steps_counted (Err r) = Err r

abbrev pub reach_counted : Result Reached Refusal → Result ℕ Refusal
reach_counted (Ok r) = Ok (r.outcome.steps + pick r.past (2 ^ 63) 0)
reach_counted (Err r) = Err r

unfoldable pub run_count : Profile → List ℕ → List ℕ → List ℕ → ℕ → Result ℕ Refusal
run_count p s m ev budget = with_state s (steps_counted (run_outcome p (lent_state s) m ev budget))

unfoldable pub run_state : Profile → List ℕ → List ℕ → List ℕ → ℕ → List ℕ
run_state p s m ev budget = pick (is_state s) (stored s (run_outcome p (lent_state s) m ev budget)) s

unfoldable pub run_lent : Profile → List ℕ → List ℕ → List ℕ → ℕ → List ℕ
run_lent p s m ev budget = pick (is_state s) (run_memory p (lent_state s) m ev budget) m

-- of the same run, told whether it reached
unfoldable pub reach_count : Profile → List ℕ → List ℕ → List ℕ → ℕ → Result ℕ Refusal
reach_count p s m ev budget = with_state s (reach_counted (told (run_outcome p (lent_state s) m ev budget) (run_past p (lent_state s) m ev budget)))

-- of the run that ends with the first step that reaches
unfoldable pub inside_count : Profile → List ℕ → List ℕ → List ℕ → ℕ → Result ℕ Refusal
inside_count p s m ev budget = with_state s (reach_counted (told (inside_outcome p (lent_state s) m ev budget) (run_past p (lent_state s) m ev budget)))

unfoldable pub inside_state : Profile → List ℕ → List ℕ → List ℕ → ℕ → List ℕ
inside_state p s m ev budget = pick (is_state s) (stored s (inside_outcome p (lent_state s) m ev budget)) s

unfoldable pub inside_lent : Profile → List ℕ → List ℕ → List ℕ → ℕ → List ℕ
inside_lent p s m ev budget = pick (is_state s) (inside_memory p (lent_state s) m ev budget) m

unfoldable pub step_count : Profile → List ℕ → List ℕ → ℕ → Result ℕ Refusal
step_count p s m e = with_state s (steps_counted (step_outcome p (lent_state s) m e))

unfoldable pub step_state : Profile → List ℕ → List ℕ → ℕ → List ℕ
step_state p s m e = pick (is_state s) (stored s (step_outcome p (lent_state s) m e)) s

unfoldable pub step_lent : Profile → List ℕ → List ℕ → ℕ → List ℕ
step_lent p s m e = pick (is_state s) (step_memory p (lent_state s) m e) m

-- and what the C functions answer
abbrev pub run_answer : Profile → List ℕ → List ℕ → List ℕ → ℕ → ℕ
run_answer p s m ev budget = answer_of (run_count p s m ev budget)

abbrev pub reach_answer : Profile → List ℕ → List ℕ → List ℕ → ℕ → ℕ
reach_answer p s m ev budget = answer_of (reach_count p s m ev budget)

abbrev pub inside_answer : Profile → List ℕ → List ℕ → List ℕ → ℕ → ℕ
inside_answer p s m ev budget = answer_of (inside_count p s m ev budget)

abbrev pub step_answer : Profile → List ℕ → List ℕ → ℕ → ℕ
step_answer p s m e = answer_of (step_count p s m e)
