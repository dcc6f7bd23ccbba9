-- A word by its bits: what each operation does to bit i, and that a word is the word of its bits. Assumes nothing.
use mathlib.Core.Path.{◌≡◌, refl, sym, ap, ap₂, ◌∙◌}
use mathlib.Core.Bool.{Bool, true, false, not, ◌&&◌, ◌||◌, beq}
use Prim.Native.Nat.{ℕ, zero, suc, ◌+◌, ◌-◌, ◌*◌, ◌/◌, ◌%◌, ◌^◌, ◌≤◌, ◌<◌}
use mathlib.Core.Logic.{⊎_elim}
use native.Mathlib.Nat.{mod-lt, mod-eq_of_lt, pow-suc, zero-lt-suc, not-suc-le-zero, le_of_suc-le-suc, eq-or-lt_of_le}
use native.Mathlib.Omega.{arith}
use lib.Dec.{eqb, T}
use lib.Pow.{shr-shr, pow_pos, ones_split, ones_lt, high}
use lib.Bits.{bit_and, bit_or, bit_xor, and_shr, or_shr, xor_shr, and_mod, or_mod, xor_mod, and_mask, xor_add_and}
use Rattle.word.specs.Bits.{bit_at, digit}
use Rattle.word.specs.Logical.{inv}
use Rattle.word.specs.Rotate.{bits_of, word_of}
use Rattle.word.proofs.Below.{every, agree_at}
use Rattle.word.proofs.Laws.{digit_le}

-- the bit that stands k from the right, in a word or a doubleword
abbrev pub bit_from : ℕ → ℕ → Bool
bit_from x k = eqb (x / 2 ^ k % 2) 1

-- one of two bits, and not both
abbrev pub xor : Bool → Bool → Bool
xor a b = not (beq a b)

-- from the law at the four pairs of digits, which computes, the law at every bit
module _ (op : ℕ → ℕ → ℕ) (g : Bool → Bool → Bool)
    (shr : (a b k : ℕ) → op a b / 2 ^ k ≡ op (a / 2 ^ k) (b / 2 ^ k))
    (low : (a b k : ℕ) → op a b % 2 ^ k ≡ op (a % 2 ^ k) (b % 2 ^ k))
    (two : T (every 2 (λ x. every 2 (λ y. beq (eqb (op x y) 1) (g (eqb x 1) (eqb y 1)))))) where
  pair : (x y : ℕ) → x < 2 → y < 2 → eqb (op x y) 1 ≡ g (eqb x 1) (eqb y 1)
  pair = agree_at (λ x y. eqb (op x y) 1) (λ x y. g (eqb x 1) (eqb y 1)) 2 2 two

  each : (a b k : ℕ) → bit_from (op a b) k ≡ g (bit_from a k) (bit_from b k)
  each a b k =
      ap (λ (x : ℕ). eqb (x % 2) 1) (shr a b k)
      ∙ ap (λ (x : ℕ). eqb x 1) (low (a / 2 ^ k) (b / 2 ^ k) 1)
      ∙ pair (a / 2 ^ k % 2) (b / 2 ^ k % 2) (mod-lt _ (zero-lt-suc 1)) (mod-lt _ (zero-lt-suc 1))

pub from_and : (a b k : ℕ) → bit_from (bit_and a b) k ≡ (bit_from a k && bit_from b k)
from_and = each bit_and (λ a b. a && b) and_shr and_mod tt

pub from_or : (a b k : ℕ) → bit_from (bit_or a b) k ≡ (bit_from a k || bit_from b k)
from_or = each bit_or (λ a b. a || b) or_shr or_mod tt

pub from_xor : (a b k : ℕ) → bit_from (bit_xor a b) k ≡ xor (bit_from a k) (bit_from b k)
from_xor = each bit_xor xor xor_shr xor_mod tt

pub bit_and_lem : (a b i : ℕ) → bit_at (bit_and a b) i ≡ (bit_at a i && bit_at b i)
bit_and_lem a b i = from_and a b (31 - i)

pub bit_or_lem : (a b i : ℕ) → bit_at (bit_or a b) i ≡ (bit_at a i || bit_at b i)
bit_or_lem a b i = from_or a b (31 - i)

pub bit_xor_lem : (a b i : ℕ) → bit_at (bit_xor a b) i ≡ xor (bit_at a i) (bit_at b i)
bit_xor_lem a b i = from_xor a b (31 - i)

-- turning all w bits over is `xor` with ones
inv_xor : (w x : ℕ) → x < 2 ^ w → 2 ^ w - 1 - x ≡ bit_xor x (2 ^ w - 1)
inv_xor w x h = omega (arith, xor_add_and x (2 ^ w - 1), and_mask x w ∙ mod-eq_of_lt h)

odd : (j : ℕ) → (2 ^ suc j - 1) % 2 ≡ 1
odd j = omega (arith, pow-suc 2 j, pow_pos j)

all_one : (w k : ℕ) → k < w → bit_from (2 ^ w - 1) k ≡ true
all_one w k h =
    let e : w ≡ suc (w - suc k) + k = omega arith in
    ap (λ (m : ℕ). bit_from (2 ^ m - 1) k) e
    ∙ ap (λ (m : ℕ). bit_from m k) (ones_split (suc (w - suc k)) k)
    ∙ ap (λ (m : ℕ). eqb (m % 2) 1) (high (2 ^ suc (w - suc k) - 1) k (ones_lt k))
    ∙ ap (λ (m : ℕ). eqb m 1) (odd (w - suc k))

xor_true : (b : Bool) → xor b true ≡ not b
xor_true true = refl
xor_true false = refl

pub from_inv : (w x k : ℕ) → x < 2 ^ w → k < w → bit_from (2 ^ w - 1 - x) k ≡ not (bit_from x k)
from_inv w x k hx hk =
    ap (λ (m : ℕ). bit_from m k) (inv_xor w x hx) ∙ from_xor x (2 ^ w - 1) k ∙ ap (xor (bit_from x k)) (all_one w k hk) ∙ xor_true (bit_from x k)

pub bit_inv : (x i : ℕ) → x < 2 ^ 32 → i < 32 → bit_at (inv x) i ≡ not (bit_at x i)
bit_inv x i hx hi = from_inv 32 x (31 - i) hx (omega arith)

-- a digit is its own number
pub digit_of_lem : (d : ℕ) → d < 2 → digit (eqb d 1) ≡ d
digit_of_lem zero h = refl
digit_of_lem (suc zero) h = refl
digit_of_lem (suc (suc d)) h = omega arith

-- the bits of a word from the left make its upper part, and all of them the word
upper : (w n : ℕ) → w < 2 ^ 32 → n ≤ 32 → bits_of n (bit_at w) ≡ w / 2 ^ (32 - n)
upper w zero h l = omega arith
upper w (suc n) h l =
    let e : 32 - n ≡ 31 - n + 1 = omega arith in
    let e' : 32 - suc n ≡ 31 - n = omega arith in
    let q : bits_of n (bit_at w) ≡ w / 2 ^ (31 - n) / 2 = upper w n h (omega arith) ∙ ap (λ (k : ℕ). w / 2 ^ k) e ∙ sym (shr-shr w (31 - n) 1) in
    let d : digit (bit_at w n) ≡ w / 2 ^ (31 - n) % 2 = digit_of_lem _ (mod-lt _ (zero-lt-suc 1)) in
    let r : bits_of n (bit_at w) * 2 + digit (bit_at w n) ≡ w / 2 ^ (31 - n) = omega arith in
    r ∙ ap (λ (k : ℕ). w / 2 ^ k) (sym e')

-- numbers of the same bits are the same
pub agree : (n : ℕ) (f g : ℕ → Bool) → ((i : ℕ) → i < n → f i ≡ g i) → bits_of n f ≡ bits_of n g
agree zero f g h = refl
agree (suc n) f g h =
    ap₂ (λ (x : ℕ) (b : Bool). x * 2 + digit b) (agree n f g (λ i l. h i (omega arith))) (h n (omega arith))

-- a word whose bits are f's is the word of f
pub word_is : (w : ℕ) (f : ℕ → Bool) → w < 2 ^ 32 → ((i : ℕ) → i < 32 → bit_at w i ≡ f i) → w ≡ word_of f
unfolding word_of
word_is w f h e = let q : bits_of 32 (bit_at w) ≡ w = upper w 32 h (omega arith) ∙ omega arith in sym q ∙ agree 32 (bit_at w) f e

-- and the word of f has f's bits
digit_at : (n i : ℕ) (f : ℕ → Bool) → i < n → bits_of n f / 2 ^ (n - suc i) % 2 ≡ digit (f i)
digit_at zero i f h = absurd (not-suc-le-zero h)
digit_at (suc n) i f h =
    let d : digit (f n) ≤ 1 = digit_le (f n) in
    ⊎_elim
    (λ (e : i ≡ n).
    let z : suc n - suc i ≡ 0 = omega arith in
    ap (λ (k : ℕ). bits_of (suc n) f / 2 ^ k % 2) z ∙ omega arith ∙ ap (λ (k : ℕ). digit (f k)) (sym e))
    (λ l.
    let z : suc n - suc i ≡ 1 + (n - suc i) = omega arith in
    let q : bits_of (suc n) f / 2 ≡ bits_of n f = omega arith in
    ap (λ (k : ℕ). bits_of (suc n) f / 2 ^ k % 2) z ∙ ap (λ (k : ℕ). k % 2) (sym (shr-shr (bits_of (suc n) f) 1 (n - suc i)))
    ∙ ap (λ (k : ℕ). k / 2 ^ (n - suc i) % 2) q
    ∙ digit_at n i f l)
    (eq-or-lt_of_le (le_of_suc-le-suc h))

pub one_digit : (b : Bool) → eqb (digit b) 1 ≡ b
one_digit true = refl
one_digit false = refl

pub bits_bit : (n i : ℕ) (f : ℕ → Bool) → i < n → bit_from (bits_of n f) (n - suc i) ≡ f i
bits_bit n i f h = ap (λ (k : ℕ). eqb k 1) (digit_at n i f h) ∙ one_digit (f i)

pub word_bit : (f : ℕ → Bool) (i : ℕ) → i < 32 → bit_at (word_of f) i ≡ f i
unfolding word_of
word_bit f i h =
    let e : 31 - i ≡ 32 - suc i = omega arith in
    ap (bit_from (bits_of 32 f)) e ∙ bits_bit 32 i f h

bits_lt : (n : ℕ) (f : ℕ → Bool) → bits_of n f < 2 ^ n
bits_lt zero f = omega arith
bits_lt (suc n) f = let d : digit (f n) ≤ 1 = digit_le (f n) in let l : bits_of n f < 2 ^ n = bits_lt n f in omega arith

pub word_lt : (f : ℕ → Bool) → word_of f < 2 ^ 32
unfolding word_of
word_lt f = bits_lt 32 f
