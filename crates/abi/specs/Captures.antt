-- What the C functions answer of captures.
use Rattle.std.specs.Prelude.{ℕ, List, length, Result, Ok}
use Rattle.std.specs.Result.{result_and}
use Rattle.memory.specs.Access.{pick}
use Rattle.insn.specs.declared.profile.Profile.{Profile}
use Rattle.machine.specs.declared.refusal.Refusal.{Refusal}
use Rattle.capture.specs.Read.{read_of, part_of}
use Rattle.capture.specs.Write.{written_of as capture_written, out_of}
use Rattle.abi.specs.Answer.{answer_of, is_state, lent_state, with_state}

-- M, the length of the memory part
unfoldable pub check_count : Profile → List ℕ → Result ℕ Refusal
check_count p file = result_and (read_of p file) (Ok (length (part_of p file)))

abbrev pub check_answer : Profile → List ℕ → ℕ
check_answer p file = answer_of (check_count p file)

unfoldable pub write_count : Profile → List ℕ → List ℕ → List ℕ → Result ℕ Refusal
write_count p s m out = with_state s (capture_written p (lent_state s) m out)

abbrev pub write_answer : Profile → List ℕ → List ℕ → List ℕ → ℕ
write_answer p s m out = answer_of (write_count p s m out)

unfoldable pub write_out : Profile → List ℕ → List ℕ → List ℕ → List ℕ
write_out p s m out = pick (is_state s) (out_of p (lent_state s) m out) out
