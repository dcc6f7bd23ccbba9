-- Laws of the bits that stand for named addresses: a bit is set where its address was named. Assumes nothing.
use Prim.Native.Nat.{ℕ, zero, suc, ◌+◌, ◌-◌, ◌/◌, ◌%◌, ◌≤◌, ◌<◌}
use native.Mathlib.Omega.{arith}
use native.Mathlib.Numerals.{add-one}
use mathlib.Core.Bool.{Bool, true, false, ◌||◌}
use mathlib.Core.Path.{◌≡◌, refl, ap, sym, ◌∙◌}
use mathlib.Core.List.{List, [], ◌∷◌, ◌++◌}
use lib.Bits.{bit_or}
use lib.Dec.{eqb, lit≤}
use lib.ListN.{length, get_or, replicate, length-set, length-replicate}
use lib.Seq.{get_or-set_same, get_or-set_other}
use borrow.Author.Tests.{eq-eqb, ne_eqb, eqb-true, eqb-false}
use Rattle.word.specs.Bits.{bit_at, field_at}
use Rattle.word.proofs.Below.{agree_at}
use Rattle.word.proofs.ByBits.{bit_or_lem}
use Rattle.word.proofs.Truth.{or_none}
use Rattle.srecord.specs.Named.{is_named, naming, any_named, naming_all, StandsFor}
use Rattle.srecord.specs.File.{places, is_in, any_in}
use Rattle.srecord.proofs.Formed.{decide}

or_assoc : (a b c : Bool) → (a || (b || c)) ≡ ((a || b) || c)
or_assoc true b c = refl
or_assoc false b c = refl

or_swap : (a b c : Bool) → (a || (b || c)) ≡ (b || (a || c))
or_swap true true c = refl
or_swap true false c = refl
or_swap false b c = refl

or_comm : (a b : Bool) → (a || b) ≡ (b || a)
or_comm true true = refl
or_comm true false = refl
or_comm false b = sym (or_none b)

-- the loop that names n bytes: one more, and none left
pub any_more : (n p : ℕ) (b : Bool) (ws : List ℕ) → 0 < n → (b || any_named n ws p) ≡ ((b || is_named ws p) || any_named (n - 1) (naming ws p) (p + 1))
unfolding any_named
any_more zero p b ws h = absurd (omega arith)
any_more (suc n) p b ws h =
    let e : suc n - 1 ≡ n = omega arith in
    rw e (or_assoc b (is_named ws p) (any_named n (naming ws p) (p + 1)))

pub all_more : (n p : ℕ) (ws : List ℕ) → 0 < n → naming_all n ws p ≡ naming_all (n - 1) (naming ws p) (p + 1)
unfolding naming_all
all_more zero p ws h = absurd (omega arith)
all_more (suc n) p ws h =
    let e : suc n - 1 ≡ n = omega arith in
    rw e

pub any_end : (n p : ℕ) (b : Bool) (ws : List ℕ) → n ≡ 0 → (b || any_named n ws p) ≡ b
unfolding any_named
any_end n p b ws e = rw e (or_none b)

pub all_end : (n p : ℕ) (ws : List ℕ) → n ≡ 0 → naming_all n ws p ≡ ws
unfolding naming_all
all_end n p ws e = rw e

-- the bit that is set, and the others
one_bit : (b i : ℕ) → b < 32 → i < 32 → bit_at (field_at b b 1) i ≡ eqb i b
one_bit = agree_at (λ b i. bit_at (field_at b b 1) i) (λ b i. eqb i b) 32 32 tt

set_bit : (w b i : ℕ) → b < 32 → i < 32 → bit_at (bit_or w (field_at b b 1)) i ≡ (eqb i b || bit_at w i)
set_bit w b i hb hi = bit_or_lem w (field_at b b 1) i ∙ (ap (λ (x : Bool). bit_at w i || x) (one_bit b i hb hi) ∙ or_comm (bit_at w i) (eqb i b))

no_bit : (i : ℕ) → i < 32 → bit_at 0 i ≡ false
no_bit i h = agree_at (λ x i. bit_at 0 i) (λ x i. false) 1 32 tt 0 i (lit≤ tt) h

zeros : (n k : ℕ) → ◌≡◌ {A = ℕ} (get_or (replicate n 0) k 0) 0
zeros zero k = refl
zeros (suc n) zero = refl
zeros (suc n) (suc k) = zeros n k

pub stand_none : (ws : List ℕ) → ws ≡ replicate 32768 0 → StandsFor ws []
unfolding is_named is_in
stand_none ws e =
    record {
      size = ap length e ∙ length-replicate {A = ℕ} 32768 0;
      same = λ x h. let z : get_or ws (x / 32) 0 ≡ 0 = ap (λ (l : List ℕ). get_or l (x / 32) 0) e ∙ zeros 32768 (x / 32) in rw z (no_bit (x % 32) (omega arith));
    }

same_place : (x y : ℕ) → x / 32 ≡ y / 32 → eqb (x % 32) (y % 32) ≡ eqb x y
same_place x y e =
    decide (eqb x y)
    (λ t. let d = eqb-true x y t in eq-eqb (x % 32) (y % 32) (omega arith) ∙ sym t)
    (λ t. ne_eqb (x % 32) (y % 32) (λ d. eqb-false x y t (omega arith)) ∙ sym t)

stand_one : (ws named : List ℕ) (y : ℕ) → StandsFor ws named → y < 1048576 → StandsFor (naming ws y) (y ∷ named)
unfolding naming is_named is_in
stand_one ws named y m h =
    let q : y / 32 < length ws = omega (arith, m.size) in
    let v = bit_or (get_or ws (y / 32) 0) (field_at (y % 32) (y % 32) 1) in
    record {
      size = simp length-set m.size;
      same = λ x l.
          decide (eqb (x / 32) (y / 32))
          (λ t.
          let d : x / 32 ≡ y / 32 = eqb-true (x / 32) (y / 32) t in
          let s = rw d at (m.same x l) in
          rw (d, get_or-set_same ws (y / 32) v 0 q, set_bit (get_or ws (y / 32) 0) (y % 32) (x % 32) (omega arith) (omega arith), same_place x y d)
          (ap (λ (b : Bool). eqb x y || b) s))
          (λ t.
          let d = eqb-false (x / 32) (y / 32) t in
          rw (get_or-set_other ws (y / 32) (x / 32) v 0 d, ne_eqb x y (λ e. d (ap (λ (k : ℕ). k / 32) e))) (m.same x l));
    }

pub in_append : (x : ℕ) (xs ys : List ℕ) → is_in x (xs ++ ys) ≡ (is_in x xs || is_in x ys)
unfolding is_in
in_append x [] ys = refl
in_append x (z ∷ xs) ys = rw (in_append x xs ys) (or_assoc (eqb x z) (is_in x xs) (is_in x ys))

-- one more in front or behind
in_swap : (x y : ℕ) (xs ys : List ℕ) → is_in x (xs ++ (y ∷ ys)) ≡ (eqb x y || is_in x (xs ++ ys))
unfolding is_in
in_swap x y xs ys = rw (in_append x xs (y ∷ ys), in_append x xs ys) (or_swap (is_in x xs) (eqb x y) (is_in x ys))

pub stand_all : (n y : ℕ) (ws named : List ℕ) → StandsFor ws named → y + n ≤ 1048576 → StandsFor (naming_all n ws y) (places y n ++ named)
unfolding naming_all places is_in
stand_all zero y ws named m h = m
stand_all (suc n) y ws named m h =
    let r = stand_all n (y + 1) (naming ws y) (y ∷ named) (stand_one ws named y m (omega arith)) (omega arith) in
    record { size = r.size; same = λ x l. r.same x l ∙ rw add-one (in_swap x y (places (suc y) n) named) }

any_skip : (n y z : ℕ) (named : List ℕ) → y < z → any_in (places z n) (y ∷ named) ≡ any_in (places z n) named
unfolding places any_in is_in
any_skip zero y z named h = refl
any_skip (suc n) y z named h = rw (ne_eqb z y (λ e. absurd (omega arith)), any_skip n y (suc z) named (omega arith))

pub any_named_lem : (n y : ℕ) (ws named : List ℕ) → StandsFor ws named → y + n ≤ 1048576 → any_named n ws y ≡ any_in (places y n) named
unfolding any_named places any_in
any_named_lem zero y ws named m h = refl
any_named_lem (suc n) y ws named m h =
    rw (m.same y (omega arith), any_named_lem n (y + 1) (naming ws y) (y ∷ named) (stand_one ws named y m (omega arith)) (omega arith), add-one, any_skip n y (suc y) named (omega arith))
