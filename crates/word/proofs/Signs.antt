-- The definitions on words, said on the integers that the words stand for in two's complement. Assumes nothing.
use mathlib.Core.Path.{◌≡◌, refl, sym, ap, ap₂, ◌∙◌}
use Prim.Native.Nat.{ℕ, zero, suc, ◌+◌, ◌-◌, ◌*◌, ◌/◌, ◌%◌, ◌^◌, ◌≤◌, ◌<◌}
use native.Mathlib.Nat.{mod-eq_of_lt, div-eq_of_lt, mul_comm, mul-le-mul_left}
use native.Mathlib.Omega.{arith}
use lib.Arith.{digits_div}
use lib.Dec.{ltb, lit<, lit≤}
use lib.IntN.{pos, negsuc, neg_ℤ, ◌*ℤ◌}
use lib.Signed.{shr_z}
use mir.Syntax.{w8, w16, w32, w64}
use mir.Val.{to_z, of_z, sel}
use borrow.Author.Tests.{lt-ltb, le-ltb, le-leb, lt-leb}
use Rattle.word.specs.Logical.{inv}
use Rattle.word.specs.Sign.{exts}
use Rattle.word.specs.Shift.{sraw}
use Rattle.word.specs.Multiply.{mullhw, low_word}
use Rattle.word.proofs.Laws.{split}
use Rattle.word.proofs.Laws.{below}

-- EXTS keeps the number, whatever the width: half is the sign bit's place value
kept : (half x : ℕ) → zero < half → half ≤ 2 ^ 31 → x < half + half
    → x + x / half * (2 ^ 32 - (half + half)) ≡ of_z w32 (sel (ltb x half) (pos x) (negsuc (half + half - suc x)))
kept half x z h l =
    split x half (λ p. simp (lt-ltb x half p, div-eq_of_lt p) (omega arith))
    (λ p.
    let e : x ≡ 1 * half + (x - half) = omega arith in
    let q : x / half ≡ 1 = ap (λ (k : ℕ). k / half) e ∙ digits_div 1 (omega arith) in
    simp (le-ltb x half p, q) (omega arith))

pub byte_signed : (b : ℕ) → b < 2 ^ 8 → exts 8 b ≡ of_z w32 (to_z w8 b)
byte_signed b l = kept (2 ^ 7) b (lit< tt) (lit≤ tt) l

pub half_signed : (h : ℕ) → h < 2 ^ 16 → exts 16 h ≡ of_z w32 (to_z w16 h)
half_signed h l = kept (2 ^ 15) h (lit< tt) (lit≤ tt) l

-- the displacement of a branch has 26 bits
pub displacement_signed : (d : ℕ) → d < 2 ^ 26 → exts 26 d ≡ of_z w32 (sel (ltb d (2 ^ 25)) (pos d) (negsuc (2 ^ 26 - suc d)))
displacement_signed d l = kept (2 ^ 25) d (lit< tt) (lit≤ tt) l

-- sraw divides it by 2 ^ n, rounding down
pub sraw_signed : (x n : ℕ) → x < 2 ^ 32 → (sraw x n).value ≡ of_z w32 (shr_z (to_z w32 x) (2 ^ n))
sraw_signed x n l =
    split x (2 ^ 31) (λ p. simp (lt-ltb x (2 ^ 31) p, lt-leb (2 ^ 31) x p))
    (λ p.
    let e : inv x ≡ 2 ^ 32 - suc x = omega arith in
    simp (le-ltb x (2 ^ 31) p, le-leb (2 ^ 31) x p) (omega (arith, ap (λ (k : ℕ). k / 2 ^ n) e)))

-- the bits of minus k
minus : (k : ℕ) → k < 2 ^ 32 → of_z w32 (neg_ℤ (pos k)) ≡ (2 ^ 32 - k) % 2 ^ 32
minus zero h = refl
minus (suc k) h = sym (mod-eq_of_lt (omega arith))

-- products by what two words lack to 2 ^ 32
one_lacks : (a b l : ℕ) → b + l ≡ 2 ^ 32 → a * l < 2 ^ 32 → a * b % 2 ^ 32 ≡ (2 ^ 32 - a * l) % 2 ^ 32
one_lacks a b l hb h = omega (arith, ap (λ (t : ℕ). a * t) hb)

both_lack : (a b k l : ℕ) → a + k ≡ 2 ^ 32 → b + l ≡ 2 ^ 32 → a * b % 2 ^ 32 ≡ k * l % 2 ^ 32
both_lack a b k l ha hb = omega (arith, ap (λ (t : ℕ). a * t) hb, ap (λ (t : ℕ). t * l) ha)

-- what a negative halfword lacks to 2 ^ 16
lack : ℕ → ℕ
lack h = suc (2 ^ 16 - suc h)

-- a number times a negative one
pos_neg : (h g : ℕ) → h < 2 ^ 15 → 2 ^ 15 ≤ g → g < 2 ^ 16 → exts 16 h * exts 16 g % 2 ^ 32 ≡ of_z w32 (neg_ℤ (pos (h * lack g)))
unfolding lack
pos_neg h g p q l =
    let e : exts 16 h ≡ h = omega arith in
    let s : h * lack g < 2 ^ 32 = below 16 (omega arith) (omega arith) in
    ap (λ (k : ℕ). k * exts 16 g % 2 ^ 32) e ∙ one_lacks h (exts 16 g) (lack g) (omega arith) s ∙ sym (minus (h * lack g) s)

-- mullhw is the product of the two halfwords' numbers
pub product_signed : (h g : ℕ) → h < 2 ^ 16 → g < 2 ^ 16 → exts 16 h * exts 16 g % 2 ^ 32 ≡ of_z w32 (to_z w16 h *ℤ to_z w16 g)
unfolding lack
product_signed h g hh hg =
    split h (2 ^ 15)
    (λ p. split g (2 ^ 15)
    (λ q.
    let e : exts 16 h ≡ h = omega arith in
    let f : exts 16 g ≡ g = omega arith in
    simp (lt-ltb h (2 ^ 15) p, lt-ltb g (2 ^ 15) q) (ap₂ (λ (x y : ℕ). x * y % 2 ^ 32) e f ∙ mod-eq_of_lt (below 16 hh hg)))
    (λ q. simp (lt-ltb h (2 ^ 15) p, le-ltb g (2 ^ 15) q) (pos_neg h g p q hg)))
    (λ p. split g (2 ^ 15)
    (λ q.
    simp (le-ltb h (2 ^ 15) p, lt-ltb g (2 ^ 15) q)
    (ap (λ (k : ℕ). k % 2 ^ 32) (mul_comm (exts 16 h) (exts 16 g)) ∙ pos_neg g h q p hh ∙ ap (λ (k : ℕ). of_z w32 (neg_ℤ (pos k))) (mul_comm g (lack h))))
    (λ q.
    simp (le-ltb h (2 ^ 15) p, le-ltb g (2 ^ 15) q)
    (both_lack (exts 16 h) (exts 16 g) (lack h) (lack g) (omega arith) (omega arith) ∙ mod-eq_of_lt (below 16 (omega arith) (omega arith)))))

pub mullhw_signed : (a b : ℕ) → mullhw a b ≡ of_z w32 (to_z w16 (a % 2 ^ 16) *ℤ to_z w16 (b % 2 ^ 16))
mullhw_signed a b = product_signed (a % 2 ^ 16) (b % 2 ^ 16) (omega arith) (omega arith)

-- the bits of minus k among 64, as far as a word of them goes
minus_low : (k : ℕ) → of_z w64 (neg_ℤ (pos k)) % 2 ^ 32 ≡ (2 ^ 64 - k) % 2 ^ 32
minus_low zero = refl
minus_low (suc k) = refl

-- a number times a negative one, by what that lacks
low_pos_neg : (a b l : ℕ) → a < 2 ^ 32 → b + l ≡ 2 ^ 32 → a * b % 2 ^ 32 ≡ of_z w64 (neg_ℤ (pos (a * l))) % 2 ^ 32
low_pos_neg a b l ha hb =
    let fits : a * l ≤ a * 2 ^ 32 = mul-le-mul_left a (omega arith) in
    omega (arith, ap (λ (t : ℕ). a * t) hb) ∙ sym (minus_low (a * l))

-- the low word of a product is that of the 64 bits of the signed product
pub low_word_signed : (a b : ℕ) → a < 2 ^ 32 → b < 2 ^ 32 → low_word a b ≡ of_z w64 (to_z w32 a *ℤ to_z w32 b) % 2 ^ 32
low_word_signed a b ha hb =
    split a (2 ^ 31)
    (λ p. split b (2 ^ 31)
    (λ q. simp (lt-ltb a (2 ^ 31) p, lt-ltb b (2 ^ 31) q))
    (λ q. simp (lt-ltb a (2 ^ 31) p, le-ltb b (2 ^ 31) q) (low_pos_neg a b _ ha (omega arith))))
    (λ p. split b (2 ^ 31)
    (λ q.
    simp (le-ltb a (2 ^ 31) p, lt-ltb b (2 ^ 31) q)
    (ap (λ (k : ℕ). k % 2 ^ 32) (mul_comm a b) ∙ low_pos_neg b a _ hb (omega arith) ∙ ap (λ (k : ℕ). of_z w64 (neg_ℤ (pos k)) % 2 ^ 32) (mul_comm b _)))
    (λ q. simp (le-ltb a (2 ^ 31) p, le-ltb b (2 ^ 31) q) (both_lack a b _ _ (omega arith) (omega arith))))
