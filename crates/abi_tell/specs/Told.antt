-- What the C functions tell of a step, as numbers.
use Rattle.std.specs.Prelude.{ℕ, ◌+◌, ◌*◌, ◌^◌, List, Option, Some, None, Result, Ok}
use Rattle.std.specs.Result.{result_and, result_unwrap_or}
use Rattle.insn.specs.declared.profile.Profile.{Profile}
use Rattle.machine.specs.declared.refusal.Refusal.{Refusal}
use Rattle.tell.specs.Told.{told_of, code_of}
use Rattle.tell.specs.Uses.{use_of}
use Rattle.tell.specs.declared.uses.Use.{Use}
use Rattle.run.specs.Outcome.{check_step}
use Rattle.abi.specs.Answer.{answer_of, lent_state, with_state}

-- what the step would do, as a count, or the refusal
unfoldable pub tell_count : Profile → List ℕ → List ℕ → ℕ → Result ℕ Refusal
tell_count p s m e = with_state s (result_and (check_step p (lent_state s) m e) (Ok (code_of (told_of p (lent_state s) m e))))

abbrev pub tell_answer : Profile → List ℕ → List ℕ → ℕ → ℕ
tell_answer p s m e = answer_of (tell_count p s m e)

-- the first address below, the bytes above, and 2^63 for a write; of a frame both its headers and all between them
abbrev pub packed_of : Option Use → ℕ
packed_of None = 0
packed_of (Some (Use.Reads a n)) = n * 2 ^ 32 + a
packed_of (Some (Use.Writes a n)) = 2 ^ 63 + (n * 2 ^ 32 + a)
packed_of (Some (Use.Pops sp ea n)) = (n + 2) * 8 * 2 ^ 32 + sp
packed_of (Some (Use.Pushes sp ea n)) = 2 ^ 63 + ((n + 2) * 8 * 2 ^ 32 + ea)

-- the data access that the step would try, or the refusal; the C function answers none for it
unfoldable pub access_packed : Profile → List ℕ → List ℕ → ℕ → Result ℕ Refusal
access_packed p s m e = with_state s (result_and (check_step p (lent_state s) m e) (Ok (packed_of (use_of p (lent_state s) m e))))

abbrev pub access_answer : Profile → List ℕ → List ℕ → ℕ → ℕ
access_answer p s m e = result_unwrap_or (access_packed p s m e) 0
