-- What checks in a row show where they refuse nothing. Assumes nothing.
use Prim.Native.Nat.{ℕ, ◌%◌, ◌≤◌}
use mathlib.Core.Bool.{Bool, true, false}
use mathlib.Core.Path.{◌≡◌, refl, ap, sym}
use lib.Dec.{eqb}
use borrow.Author.Tests.{leb-true}
use Rattle.std.specs.Prelude.{Result, Ok, Err, is_ok}
use Rattle.std.specs.Result.{result_and}
use Rattle.memory.specs.Access.{sized_of}
use Rattle.word.proofs.Truth.{never, and_right}
use Rattle.machine.specs.Refusal.{Checked, unless}
use Rattle.machine.specs.Register.{sound_of, check_of, check_start}
use Rattle.insn.specs.declared.profile.Profile.{Profile}
use Rattle.machine.specs.declared.state.State.{State}
use Rattle.machine.specs.declared.refusal.Refusal.{Refusal}

pub accepts_ok : (c : Checked) → is_ok c ≡ true → c ≡ Ok tt
accepts_ok (Ok tt) h = refl
accepts_ok (Err r) h = never (sym h)

-- no refusal by two checks is none by either
pub and_accepts : {A : Type 0} (a : Checked) (b : Result A Refusal) → is_ok (result_and a b) ≡ true → (is_ok a ≡ true) × (is_ok b ≡ true)
and_accepts (Ok x) b h = (refl, h)
and_accepts (Err r) b h = never (sym h)

pub unless_accepts : (t : Bool) (r : Refusal) → is_ok (unless t r) ≡ true → t ≡ true
unless_accepts true r h = refl
unless_accepts false r h = never (sym h)

-- a start that is accepted
pub start_accepts : (p : Profile) (s : State) (m : ℕ) → is_ok (check_start p s m) ≡ true → (sized_of m ≡ true) × (check_of p s ≡ Ok tt)
unfolding check_start
start_accepts p s m h =
    let a = and_accepts (unless (sized_of m) Refusal.Memory) (check_of p s) h in
    (unless_accepts (sized_of m) Refusal.Memory a.0, accepts_ok (check_of p s) a.1)

-- and its halt code
pub accepted_halt : (p : Profile) (s : State) → check_of p s ≡ Ok tt → s.halt ≤ 5
unfolding check_of sound_of
accepted_halt p s h =
    let a = and_accepts (unless (eqb (s.iar % 4) 0) Refusal.Iar) (unless (sound_of p s) Refusal.Reserved) (ap is_ok h) in
    let c : sound_of p s ≡ true = unless_accepts (sound_of p s) Refusal.Reserved a.1 in
    search (and_right, leb-true)
