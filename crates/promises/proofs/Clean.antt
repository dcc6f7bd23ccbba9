-- Clean contents of a register with the defined bits d, and that each way of writing a register leaves them clean. Assumes nothing.
use Prim.Native.Nat.{ℕ, ◌-◌, ◌%◌, ◌^◌, ◌<◌}
use native.Mathlib.Omega.{arith}
use native.Mathlib.Nat.{lt_of_le_of_lt, zero-div}
use mathlib.Core.Bool.{Bool, true, false, not, ◌&&◌, ◌||◌}
use mathlib.Core.Path.{◌≡◌, refl, ap, sym, ◌∙◌}
use lib.Dec.{eqb}
use lib.Bits.{bit_and, bit_or, and_comm, and_le_r, and_mask, and_zero_r}
use Rattle.word.specs.Bits.{bit_at, field_at}
use Rattle.word.specs.Logical.{inv}
use Rattle.word.specs.Rotate.{word_of, mask, put_at}
use Rattle.word.proofs.Laws.{split}
use Rattle.word.proofs.Truth.{never}
use Rattle.word.proofs.ByBits.{bit_and_lem, bit_or_lem, bit_inv, word_is}

-- no reserved bit is set; `inv d` has no bit left of the word, so no law needs w below 2 ^ 32
pub record Clean (d w : ℕ) : Type 0 where
  pub none : bit_and w (inv d) ≡ 0

-- where every bit is defined
pub clean_any : (w : ℕ) → Clean 0xFFFF_FFFF w
clean_any w = record { none = and_zero_r w }

-- a word with no bit set is 0
no_bits : (w : ℕ) → w < 2 ^ 32 → ((i : ℕ) → i < 32 → bit_at w i ≡ false) → w ≡ 0
unfolding word_of
no_bits w h e = word_is w (λ i. false) h e

-- r stands for a reserved bit
out_or : (a b r : Bool) → (a && r) ≡ false → (b && r) ≡ false → ((a || b) && r) ≡ false
out_or true b r h k = h
out_or false b r h k = k

out_and : (a b r : Bool) → (a && r) ≡ false → ((a && b) && r) ≡ false
out_and true true r h = h
out_and true false r h = refl
out_and false b r h = refl

out_more : (a b c : Bool) → (a && b) ≡ false → (a && (b && c)) ≡ false
out_more true true c h = never h
out_more true false c h = refl
out_more false b c h = refl

out_not : (a : Bool) → (a && not a) ≡ false
out_not true = refl
out_not false = refl

module _ {d : ℕ} where
  out_bit : {w : ℕ} → Clean d w → (i : ℕ) → (bit_at w i && bit_at (inv d) i) ≡ false
  out_bit {w} c i =
      sym (bit_and_lem w (inv d) i) ∙ ap (λ (x : ℕ). bit_at x i) c.none ∙ ap (λ (x : ℕ). eqb (x % 2) 1) (zero-div (2 ^ (31 - i)))

  by_bits : (w : ℕ) → ((i : ℕ) → i < 32 → (bit_at w i && bit_at (inv d) i) ≡ false) → Clean d w
  by_bits w f =
      record { none = no_bits (bit_and w (inv d)) (lt_of_le_of_lt (and_le_r w (inv d)) (omega arith)) (λ i l. bit_and_lem w (inv d) i ∙ f i l) }

  pub clean_or : {a b : ℕ} → Clean d a → Clean d b → Clean d (bit_or a b)
  clean_or {a} {b} h k =
      by_bits (bit_or a b) (λ i l. rw (bit_or_lem a b i) (out_or (bit_at a i) (bit_at b i) (bit_at (inv d) i) (out_bit h i) (out_bit k i)))

  pub clean_and : {a : ℕ} → Clean d a → (b : ℕ) → Clean d (bit_and a b)
  clean_and {a} h b =
      by_bits (bit_and a b) (λ i l. rw (bit_and_lem a b i) (out_and (bit_at a i) (bit_at b i) (bit_at (inv d) i) (out_bit h i)))

  clean_under : (a : ℕ) {b : ℕ} → Clean d b → Clean d (bit_and a b)
  clean_under a {b} h = rw (and_comm a b) (clean_and h a)

  clean_self : Clean d d
  clean_self =
      split d (2 ^ 32) (λ h. by_bits d (λ i l. rw (bit_inv d i h l) (out_not (bit_at d i))))
      (λ h. let z : inv d ≡ 0 = omega arith in record { none = rw z (and_zero_r d) })

  -- reserved bits dropped
  pub clean_defined : (v : ℕ) → Clean d (bit_and v d)
  clean_defined v = clean_under v clean_self

  -- a field of defined bits, written
  pub clean_put : {w : ℕ} (i j v : ℕ) → bit_and (mask i j) (inv d) ≡ 0 → Clean d w → Clean d (put_at w i j v)
  unfolding put_at
  clean_put i j v h c = clean_or (clean_under (field_at i j v) (record { none = h })) (clean_and c (inv (mask i j)))

  -- where the reserved bits are the last j
  pub clean_last : (j w : ℕ) → inv d ≡ 2 ^ j - 1 → w % 2 ^ j ≡ 0 → Clean d w
  clean_last j w e h = record { none = rw e (and_mask w j ∙ h) }

-- where more bits are defined
pub clean_wider : (c d : ℕ) {w : ℕ} → bit_and (inv c) (inv d) ≡ inv d → Clean c w → Clean d w
clean_wider c d {w} h k =
    by_bits w (λ i l. ap (λ (x : ℕ). bit_at w i && bit_at x i) (sym h) ∙ rw (bit_and_lem (inv c) (inv d) i) (out_more (bit_at w i) (bit_at (inv c) i) (bit_at (inv d) i) (out_bit k i)))
