-- MASK, insertion and CR0 after a result, said as the manual says them: bit by bit, and by the order of the signed numbers. Assumes nothing.
use mathlib.Core.Path.{◌≡◌, refl, ap, ◌∙◌}
use mathlib.Core.Bool.{Bool, true, false, not, ◌&&◌, ◌||◌, cond}
use Prim.Native.Nat.{ℕ, suc, ◌-◌, ◌^◌, ◌<◌}
use native.Mathlib.Omega.{arith}
use borrow.Author.Tests.{lt-ltb, le-ltb, le-leb, lt-leb, ne_eqb}
use Rattle.word.specs.Bits.{bit_at}
use Rattle.word.specs.Rotate.{in_mask, mask, under}
use Rattle.word.specs.Double.{mask64, under64}
use Rattle.word.specs.Compare.{recorded, compared_signed}
use Rattle.word.proofs.Laws.{split}
use Rattle.word.proofs.ByBits.{bit_from, bit_and_lem, bit_or_lem, bit_inv, word_bit, from_and, from_or, from_inv, bits_bit}

-- bit i of MASK(MB, ME) is one where i lies in MB through ME, going round
pub mask_bit : (mb me i : ℕ) → i < 32 → bit_at (mask mb me) i ≡ in_mask mb me i
unfolding mask
mask_bit mb me i h = word_bit (in_mask mb me) i h

chosen : (m x y : Bool) → ((x && m) || (y && not m)) ≡ cond m x y
chosen true true y = refl
chosen true false true = refl
chosen true false false = refl
chosen false true true = refl
chosen false true false = refl
chosen false false true = refl
chosen false false false = refl

-- bit i of what is inserted under a mask comes from x where the mask has a one, and from y elsewhere
pub under_bit : (m x y i : ℕ) → m < 2 ^ 32 → i < 32 → bit_at (under m x y) i ≡ cond (bit_at m i) (bit_at x i) (bit_at y i)
under_bit m x y i hm hi = simp (bit_or_lem, bit_and_lem, bit_inv m i hm hi, chosen)

-- the same of doublewords, whose bit i stands 63 - i from the right
pub mask64_bit : (mb me i : ℕ) → i < 64 → bit_from (mask64 mb me) (63 - i) ≡ in_mask mb me i
unfolding mask64
mask64_bit mb me i h = let e : 63 - i ≡ 64 - suc i = omega arith in ap (bit_from (mask64 mb me)) e ∙ bits_bit 64 i (in_mask mb me) h

pub under64_bit : (m x y i : ℕ) → m < 2 ^ 64 → i < 64
    → bit_from (under64 m x y) (63 - i) ≡ cond (bit_from m (63 - i)) (bit_from x (63 - i)) (bit_from y (63 - i))
under64_bit m x y i hm hi = simp (from_or, from_and, from_inv 64 m (63 - i) hm (omega arith), chosen)

-- CR0 after a result is CR0 after its signed compare with 0
pub recorded_signed : (r : ℕ) (so : Bool) → r < 2 ^ 32 → recorded r so ≡ compared_signed r 0 so
recorded_signed r so h =
    split r (2 ^ 31)
    (λ p. split 0 r
    (λ q. simp (lt-ltb r (2 ^ 31) p, lt-leb (2 ^ 31) r p, le-ltb r 0 (omega arith), lt-ltb 0 r q, ne_eqb r 0 (λ e. omega arith)))
    (λ q. let e : r ≡ 0 = omega arith in rw e))
    (λ p. simp (le-ltb r (2 ^ 31) p, le-leb (2 ^ 31) r p, ne_eqb r 0 (λ e. omega arith)))
