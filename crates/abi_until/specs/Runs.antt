-- What the C functions that run until a stop answer, and what they leave in their buffers.
use Rattle.std.specs.Prelude.{ℕ, List, Result}
use Rattle.memory.specs.Access.{pick}
use Rattle.insn.specs.declared.profile.Profile.{Profile}
use Rattle.machine.specs.declared.refusal.Refusal.{Refusal}
use Rattle.until.specs.Until.{until_outcome, until_memory}
use Rattle.abi.specs.Answer.{answer_of, is_state, lent_state, with_state}
use Rattle.abi_run.specs.Runs.{stored, steps_counted}

unfoldable pub until_count : Profile → List ℕ → List ℕ → List ℕ → List ℕ → ℕ → Result ℕ Refusal
until_count p s m ev stops budget = with_state s (steps_counted (until_outcome p (lent_state s) m ev stops budget))

unfoldable pub until_state : Profile → List ℕ → List ℕ → List ℕ → List ℕ → ℕ → List ℕ
until_state p s m ev stops budget = pick (is_state s) (stored s (until_outcome p (lent_state s) m ev stops budget)) s

unfoldable pub until_lent : Profile → List ℕ → List ℕ → List ℕ → List ℕ → ℕ → List ℕ
until_lent p s m ev stops budget = pick (is_state s) (until_memory p (lent_state s) m ev stops budget) m

abbrev pub until_answer : Profile → List ℕ → List ℕ → List ℕ → List ℕ → ℕ → ℕ
until_answer p s m ev stops budget = answer_of (until_count p s m ev stops budget)
