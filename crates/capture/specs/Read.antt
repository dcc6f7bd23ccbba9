-- Reading a capture: where its parts stand, the checks in their order, and what is answered.
use Rattle.std.specs.Prelude.{ℕ, ◌-◌, Bool, ◌&&◌, List, [], leb, eqb, length, take, replicate, Result, Ok, Err, is_ok}
use Rattle.std.specs.Result.{result_and}
use Rattle.word.specs.declared.width.Width.{Width}
use Rattle.memory.specs.Access.{pick}
use Rattle.memory.specs.Load.{value_at}
use Rattle.insn.specs.declared.profile.Profile.{Profile}
use Rattle.machine.specs.declared.state.State.{State}
use Rattle.machine.specs.declared.refusal.Refusal.{Refusal}
use Rattle.machine.specs.Refusal.{Checked, unless}
use Rattle.machine.specs.Register.{check_start}
use Rattle.capture.specs.Words.{words_at, state_of}

-- M: all but the 36 words of the state and the 3 of the trailer
abbrev pub size_of : List ℕ → ℕ
size_of f = length f - 156

-- the state stands after the memory
unfoldable pub state_in : List ℕ → State
state_in f = state_of (words_at 36 f (size_of f))

-- 188 bytes or more, and the last three words are 156, M, 1
unfoldable pub formed_of : List ℕ → Bool
formed_of f =
    leb 188 (length f)
    && eqb (value_at Width.Word f (length f - 12)) 156
    && eqb (value_at Width.Word f (length f - 8)) (size_of f)
    && eqb (value_at Width.Word f (length f - 4)) 1

-- reading checks 7, 1, 2, 3
unfoldable pub check_read : Profile → List ℕ → Checked
check_read p f = result_and (unless (formed_of f) Refusal.Capture) (check_start p (state_in f) (size_of f))

-- the state that the file holds, or the refusal
unfoldable pub read_of : Profile → List ℕ → Result State Refusal
read_of p f = result_and (check_read p f) (Ok (state_in f))

-- the state that is handed out; refused, a zeroed state
unfoldable pub state_or_zero : Result State Refusal → State
state_or_zero (Ok s) = s
state_or_zero (Err r) = state_of (replicate 36 0)

-- the first M bytes; refused, an empty part
unfoldable pub part_of : Profile → List ℕ → List ℕ
part_of p f = pick (is_ok (check_read p f)) (take (size_of f) f) []
