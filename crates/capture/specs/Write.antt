-- Writing a capture: its bytes, the checks in their order, and what is answered and left in the output.
use Rattle.std.specs.Prelude.{ℕ, ◌+◌, List, [], ◌∷◌, ◌++◌, leb, length, drop, Result, Ok, is_ok}
use Rattle.std.specs.Result.{result_and}
use Rattle.memory.specs.Access.{pick}
use Rattle.insn.specs.declared.profile.Profile.{Profile}
use Rattle.machine.specs.declared.state.State.{State}
use Rattle.machine.specs.declared.refusal.Refusal.{Refusal}
use Rattle.machine.specs.Refusal.{Checked, unless}
use Rattle.machine.specs.Register.{check_start}
use Rattle.capture.specs.Words.{word_bytes, words_of}

-- the distance from the file's end back to the state, M, the form number
abbrev pub trailer_of : ℕ → List ℕ
trailer_of m = 156 ∷ m ∷ 1 ∷ []

-- memory, state, trailer
unfoldable pub capture_of : State → List ℕ → List ℕ
capture_of s m = m ++ word_bytes (words_of s) ++ word_bytes (trailer_of (length m))

-- writing m bytes of memory into n of output checks 1, 2, 3, 8
unfoldable pub check_write : Profile → State → ℕ → ℕ → Checked
check_write p s m n = result_and (check_start p s m) (unless (leb (m + 156) n) Refusal.Output)

-- how many bytes were written, or the refusal
unfoldable pub written_of : Profile → State → List ℕ → List ℕ → Result ℕ Refusal
written_of p s m out = result_and (check_write p s (length m) (length out)) (Ok (length m + 156))

-- the output with its first M + 156 bytes written and no others; refused, as it was
unfoldable pub out_of : Profile → State → List ℕ → List ℕ → List ℕ
out_of p s m out = pick (is_ok (check_write p s (length m) (length out))) (capture_of s m ++ drop (length m + 156) out) out
