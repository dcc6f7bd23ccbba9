-- Laws of widths, of the cleared block, of stores one after the other and of a memory's length. Assumes nothing.
use Prim.Native.Nat.{ℕ, suc, ◌+◌, ◌-◌, ◌%◌, ◌≤◌}
use native.Mathlib.Omega.{arith}
use mathlib.Core.Bool.{Bool, true, false, not, ◌&&◌}
use mathlib.Core.Path.{◌≡◌, refl, sym, ◌∙◌}
use mathlib.Core.List.{List, [], ◌∷◌, ◌++◌, append_assoc}
use lib.Dec.{lit≤, leb, eqb}
use lib.ListN.{length, drop, set, length-drop, replicate, take}
use lib.Seq.{sets, length-take-le, drop-drop, sets-eq}
use borrow.Author.Tests.{leb-true, eqb-true, eqb-false, not-true}
use borrow.Rule.Slice.PartMut.{put_mid}
use Rattle.word.proofs.Truth.{and_true}
use Rattle.word.specs.Width.{bytes}
use Rattle.memory.specs.Access.{judged, aligned_of, placed_of, access_of, fetch_access_of, sized_of}
use Rattle.word.specs.declared.width.Width.{Width}
use Rattle.std.specs.Prelude.{Ok}
use Rattle.memory.proofs.Board.{fetch_by_four}

pub bytes_le : (w : Width) → bytes w ≤ 4
bytes_le Width.Byte = lit≤ tt
bytes_le Width.Half = lit≤ tt
bytes_le Width.Word = lit≤ tt

-- what is served lies inside
served_cases : (m a n : ℕ) (p q : Bool) → leb (a + n) m ≡ q → judged p (a + n) m ≡ Ok tt → a + n ≤ m
served_cases m a n true true e h = leb-true (a + n) m e
served_cases m a n true false e h = absurd (let z = rw e at h in cc)
served_cases m a n false q e h = absurd cc

pub served_inside : (m a n : ℕ) → access_of m a n ≡ Ok tt → a + n ≤ m
unfolding access_of
served_inside m a n h = served_cases m a n (placed_of a n) (leb (a + n) m) refl h

pub fetched_inside : (m a : ℕ) → fetch_access_of m a ≡ Ok tt → a + 4 ≤ m
fetched_inside m a h = served_cases m a 4 (aligned_of a 4) (leb (a + 4) m) refl (sym (fetch_by_four m a) ∙ h)

-- bytes put back where they were lent from are a run of stores
pub lent_back : (a n : ℕ) (m ys bs : List ℕ) → a + n ≤ length m → ys ≡ bs → length bs ≡ n → put_mid a (a + n - a) m ys ≡ sets m a bs
lent_back a n m ys bs h e l =
    let k : a + n - a ≡ length bs = omega arith in
    rw (e, k, drop-drop, sets-eq bs m a (omega arith), append_assoc)

-- so is a block of zeros
pub block : (a : ℕ) (m ys : List ℕ) → a + 32 ≤ length m → ys ≡ replicate (length (take (a + 32 - a) (drop a m))) 0
    → put_mid a (a + 32 - a) m ys ≡ sets m a (replicate 32 0)
block a m ys h e =
    let k : a + 32 - a ≡ 32 = omega arith in
    let l : 32 ≤ length (drop a m) = simp length-drop (omega arith) in
    lent_back a 32 m ys (replicate 32 0) h (rw (e, k, length-take-le 32 (drop a m) l)) refl

-- stores one after the other are one run of stores
pub sets_at : (xs ys l : List ℕ) (i j : ℕ) → j ≡ i + length xs → sets (sets l i xs) j ys ≡ sets l i (xs ++ ys)
sets_at [] ys l i j e =
    let z : j ≡ i = omega arith in
    rw z
sets_at (x ∷ xs) ys l i j e = sets_at xs ys (set l i x) (suc i) j (omega arith)

-- a length that the board has, and that it is one of whole blocks
pub sized_bounds : (m : ℕ) → sized_of m ≡ true → (32 ≤ m) × (m ≤ 1048576)
unfolding sized_of
sized_bounds m h =
    let x = and_true (not (eqb m 0) && eqb (m % 32) 0) (leb m 1048576) h in
    let y = and_true (not (eqb m 0)) (eqb (m % 32) 0) x.0 in
    (omega (arith, eqb-false m 0 (not-true (eqb m 0) y.0), eqb-true (m % 32) 0 y.1), leb-true m 1048576 x.1)

pub sized_whole : (m : ℕ) → sized_of m ≡ true → m % 32 ≡ 0
unfolding sized_of
sized_whole m h =
    let x = and_true (not (eqb m 0) && eqb (m % 32) 0) (leb m 1048576) h in
    eqb-true (m % 32) 0 (and_true (not (eqb m 0)) (eqb (m % 32) 0) x.0).1
