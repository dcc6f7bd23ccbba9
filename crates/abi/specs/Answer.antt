-- What all C functions share: a count or a refusal as one number, a state as 144 lent bytes.
use Rattle.std.specs.Prelude.{ℕ, ◌+◌, ◌*◌, ◌^◌, Bool, List, eqb, length, Result, Ok, Err}
use Rattle.std.specs.Result.{result_and}
use Rattle.machine.specs.Refusal.{number_of, unless}
use Rattle.machine.specs.declared.state.State.{State}
use Rattle.machine.specs.declared.refusal.Refusal.{Refusal}
use Rattle.capture.specs.Words.{words_at, state_of}

-- the refusal's number above, the count below
abbrev pub refused_of : Refusal → ℕ → ℕ
refused_of r count = number_of r * 2 ^ 32 + count

abbrev pub answer_of : Result ℕ Refusal → ℕ
answer_of (Ok count) = count
answer_of (Err r) = refused_of r 0

-- a state is 36 words; any other length is refused with 7 (docs/DECISIONS.md D31)
abbrev pub is_state : List ℕ → Bool
is_state bytes = eqb (length bytes) 144

abbrev pub lent_state : List ℕ → State
lent_state bytes = state_of (words_at 36 bytes 0)

-- what is answered where the bytes are a state
abbrev pub with_state : {A : Type 0} → List ℕ → Result A Refusal → Result A Refusal
with_state bytes answer = result_and (unless (is_state bytes) Refusal.Capture) answer

unfoldable pub lent_of : List ℕ → Result State Refusal
lent_of bytes = with_state bytes (Ok (lent_state bytes))
