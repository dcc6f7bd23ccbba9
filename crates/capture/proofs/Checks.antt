-- What the checks of reading and writing show where nothing is refused. Assumes nothing.
use Prim.Native.Nat.{ℕ, ◌+◌, ◌-◌, ◌≤◌}
use mathlib.Core.Bool.{true, ◌&&◌}
use mathlib.Core.Path.{◌≡◌, refl}
use mathlib.Core.List.{List}
use lib.Dec.{leb, eqb}
use lib.ListN.{length}
use borrow.Author.Tests.{leb-true, eqb-true}
use Rattle.word.specs.declared.width.Width.{Width}
use Rattle.memory.specs.Access.{sized_of}
use Rattle.memory.specs.Load.{value_at}
use Rattle.word.proofs.Truth.{and_true}
use Rattle.insn.specs.declared.profile.Profile.{Profile}
use Rattle.machine.specs.declared.state.State.{State}
use Rattle.machine.specs.declared.refusal.Refusal.{Refusal}
use Rattle.std.specs.Prelude.{Ok, Err, is_ok}
use Rattle.std.specs.Result.{result_and}
use Rattle.machine.specs.Refusal.{Checked, unless}
use Rattle.machine.specs.Register.{check_of, check_start}
use Rattle.machine.proofs.Refusals.{and_accepts, unless_accepts, start_accepts}
use Rattle.capture.specs.Read.{size_of, state_in, formed_of, check_read, read_of}
use Rattle.capture.specs.Write.{check_write}

-- a file's length and its last three words
pub record Formed (f : List ℕ) : Type 0 where
  pub long : 188 ≤ length f
  pub distance : value_at Width.Word f (length f - 12) ≡ 156
  pub size : value_at Width.Word f (length f - 8) ≡ size_of f
  pub form : value_at Width.Word f (length f - 4) ≡ 1

pub formed_shows : (f : List ℕ) → formed_of f ≡ true → Formed f
unfolding formed_of
formed_shows f h =
    let a = leb 188 (length f) in
    let b = eqb (value_at Width.Word f (length f - 12)) 156 in
    let c = eqb (value_at Width.Word f (length f - 8)) (size_of f) in
    let x = and_true (a && b && c) (eqb (value_at Width.Word f (length f - 4)) 1) h in
    let y = and_true (a && b) c x.0 in
    let z = and_true a b y.0 in
    record { long = leb-true 188 (length f) z.0; distance = eqb-true _ 156 z.1; size = eqb-true _ (size_of f) y.1; form = eqb-true _ 1 x.1 }

-- a capture that reads
pub record Reads (p : Profile) (f : List ℕ) : Type 0 where
  pub formed : Formed f
  pub sized : sized_of (size_of f) ≡ true
  pub state : check_of p (state_in f) ≡ Ok tt

pub read_accepts : (p : Profile) (f : List ℕ) → is_ok (check_read p f) ≡ true → Reads p f
unfolding check_read
read_accepts p f h =
    let a = and_accepts (unless (formed_of f) Refusal.Capture) (check_start p (state_in f) (size_of f)) h in
    let b = start_accepts p (state_in f) (size_of f) a.1 in
    record { formed = formed_shows f (unless_accepts _ Refusal.Capture a.0); sized = b.0; state = b.1 }

and_ok : (c : Checked) (s : State) → is_ok (result_and c (Ok s)) ≡ is_ok c
and_ok (Ok u) s = refl
and_ok (Err r) s = refl

-- a state is answered where nothing is refused
pub read_ok : (p : Profile) (f : List ℕ) → is_ok (read_of p f) ≡ is_ok (check_read p f)
unfolding read_of
read_ok p f = and_ok (check_read p f) (state_in f)

-- a state and m bytes of memory that n bytes of output take
pub record Writes (p : Profile) (s : State) (m n : ℕ) : Type 0 where
  pub sized : sized_of m ≡ true
  pub state : check_of p s ≡ Ok tt
  pub room : m + 156 ≤ n

pub write_accepts : (p : Profile) (s : State) (m n : ℕ) → is_ok (check_write p s m n) ≡ true → Writes p s m n
unfolding check_write
write_accepts p s m n h =
    let a = and_accepts (check_start p s m) (unless (leb (m + 156) n) Refusal.Output) h in
    let b = start_accepts p s m a.0 in
    record { sized = b.0; state = b.1; room = leb-true (m + 156) n (unless_accepts _ Refusal.Output a.1) }
