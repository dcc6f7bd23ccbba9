-- Masks and rotations of doublewords: what the code makes is what the definitions say. Assumes nothing.
use mathlib.Core.Path.{◌≡◌, refl, ap₂, ◌∙◌}
use mathlib.Core.Bool.{Bool, true, false, ◌&&◌, ◌||◌}
use Prim.Native.Nat.{ℕ, zero, suc, ◌+◌, ◌-◌, ◌*◌, ◌/◌, ◌%◌, ◌^◌, ◌≤◌, ◌<◌, suc-le-suc}
use native.Mathlib.Nat.{zero-lt-suc}
use native.Mathlib.Omega.{arith}
use borrow.Author.Tests.{le-leb, lt-leb}
use lib.Bits.{bit_and, bit_or, and_block, or_block, or_self, or_zero_r}
use lib.Dec.{leb, leb-zero}
use Rattle.word.specs.Bits.{digit}
use Rattle.word.specs.Rotate.{bits_of, in_mask}
use Rattle.word.specs.Double.{rotl64, mask64}
use Rattle.word.proofs.Below.{same_at}
use Rattle.word.proofs.ByBits.{agree}
use Rattle.word.proofs.Laws.{split, digit_le}
use Rattle.word.proofs.Truth.{and_yes}

-- two tests with a number each, bit by bit
module _ (op : ℕ → ℕ → ℕ) (g : Bool → Bool → Bool)
    (block : (k a b r s : ℕ) → r < 2 ^ k → s < 2 ^ k → op (a * 2 ^ k + r) (b * 2 ^ k + s) ≡ op a b * 2 ^ k + op r s)
    (none : op 0 0 ≡ 0)
    (one : (a b : Bool) → op (digit a) (digit b) ≡ digit (g a b)) where
  joined : (n : ℕ) (f h : ℕ → Bool) → op (bits_of n f) (bits_of n h) ≡ bits_of n (λ i. g (f i) (h i))
  joined zero f h = none
  joined (suc n) f h =
      block 1 (bits_of n f) (bits_of n h) (digit (f n)) (digit (h n)) (suc-le-suc (digit_le (f n))) (suc-le-suc (digit_le (h n)))
      ∙ ap₂ (λ (x y : ℕ). x * 2 + y) (joined n f h) (one (f n) (h n))

and_digits : (a b : Bool) → bit_and (digit a) (digit b) ≡ digit (a && b)
and_digits true true = refl
and_digits true false = refl
and_digits false b = refl

or_digits : (a b : Bool) → bit_or (digit a) (digit b) ≡ digit (a || b)
or_digits true true = refl
or_digits true false = refl
or_digits false b = refl

-- what the code makes for MASK(b, 63) and for MASK(0, b), computed at each bit
pub from_is : (b : ℕ) → b < 64 → 2 ^ 64 - 1 - 0xFFFF_FFFF_FFFF_FFFE * 2 ^ (63 - b) % 2 ^ 64 ≡ mask64 b 63
unfolding mask64
from_is b h = same_at (λ x b. 2 ^ 64 - 1 - 0xFFFF_FFFF_FFFF_FFFE * 2 ^ (63 - b) % 2 ^ 64) (λ x b. mask64 b 63) 1 64 tt 0 b (zero-lt-suc 0) h

pub to_is : (b : ℕ) → b < 64 → 0xFFFF_FFFF_FFFF_FFFF * 2 ^ (63 - b) % 2 ^ 64 ≡ mask64 0 b
unfolding mask64
to_is b h = same_at (λ x b. 0xFFFF_FFFF_FFFF_FFFF * 2 ^ (63 - b) % 2 ^ 64) (λ x b. mask64 0 b) 1 64 tt 0 b (zero-lt-suc 0) h

pub straight64 : (mb me : ℕ) → mb ≤ me → me < 64 → bit_and (mask64 mb 63) (mask64 0 me) ≡ mask64 mb me
unfolding mask64
straight64 mb me h l =
    joined bit_and (λ a b. a && b) and_block refl and_digits 64 (in_mask mb 63) (in_mask 0 me)
    ∙ agree 64 (λ i. in_mask mb 63 i && in_mask 0 me i) (in_mask mb me)
    (λ i k. simp (le-leb mb 63 (omega arith), le-leb i 63 (omega arith), le-leb mb me h, leb-zero, and_yes (leb mb i) refl))

pub round64 : (mb me : ℕ) → me < mb → mb < 64 → bit_or (mask64 mb 63) (mask64 0 me) ≡ mask64 mb me
unfolding mask64
round64 mb me h l =
    joined bit_or (λ a b. a || b) or_block refl or_digits 64 (in_mask mb 63) (in_mask 0 me)
    ∙ agree 64 (λ i. in_mask mb 63 i || in_mask 0 me i) (in_mask mb me)
    (λ i k. simp (le-leb mb 63 (omega arith), le-leb i 63 (omega arith), lt-leb mb me h, leb-zero, and_yes (leb mb i) refl))

-- by nothing, where x comes in on the right, and by anything else
pub rotated : (x n : ℕ) → x < 2 ^ 64 → n < 64 → bit_or (x * 2 ^ n % 2 ^ 64) (x / 2 ^ ((64 - n) % 64)) ≡ rotl64 x n
rotated x n hx hn =
    split n 1
    (λ p.
    let z : n ≡ 0 = omega arith in
    let all : x * 1 % 2 ^ 64 ≡ x = omega arith in
    let same : x / 1 ≡ x = omega arith in
    let gone : x / 2 ^ 64 ≡ 0 = omega arith in
    rw z (rw (all, same, gone) (or_self x ∙ rw (or_zero_r))))
    (λ p. let e : (64 - n) % 64 ≡ 64 - n = omega arith in rw e)
