-- ROTL moves each bit of a word or a doubleword n places to the left, and those that leave come in on the right. Assumes nothing.
use mathlib.Core.Path.{◌≡◌, sym, ap, ap₂, ◌∙◌}
use mathlib.Core.Bool.{◌||◌}
use Prim.Native.Nat.{ℕ, suc, ◌+◌, ◌-◌, ◌*◌, ◌/◌, ◌%◌, ◌^◌, ◌≤◌, ◌<◌}
use native.Mathlib.Nat.{mul_assoc, div-eq_of_lt, lt_of_lt_of_le}
use native.Mathlib.Omega.{arith}
use lib.Dec.{eqb}
use lib.Pow.{pow-add, pow_mono, shr-shr, shl-shr, field, mod-mod-pow}
use lib.Bits.{bit_or, shifted_even}
use Rattle.word.specs.Bits.{bit_at}
use Rattle.word.specs.Rotate.{rotl}
use Rattle.word.specs.Double.{rotl64}
use Rattle.word.proofs.ByBits.{bit_from, from_or}
use Rattle.word.proofs.Laws.{split}
use Rattle.word.proofs.Truth.{or_none}

-- shifted left by n, and right by more
left_right : (x n j : ℕ) → x * 2 ^ n / 2 ^ (n + j) ≡ x / 2 ^ j
left_right x n j = sym (shr-shr (x * 2 ^ n) n j) ∙ ap (λ (m : ℕ). m / 2 ^ j) (shl-shr x n)

-- shifted left by k and more, and right by k
left_more : (x k j : ℕ) → x * 2 ^ (j + k) / 2 ^ k ≡ x * 2 ^ j
left_more x k j = ap (λ (m : ℕ). x * m / 2 ^ k) (pow-add 2 j k) ∙ ap (λ (m : ℕ). m / 2 ^ k) (sym (mul_assoc x (2 ^ j) (2 ^ k))) ∙ shl-shr (x * 2 ^ j) k

-- x turned left by n, and its bit i: top is the number of the last bit, 31 or 63
module _ (top x n i : ℕ) (hx : x < 2 ^ suc top) (hn : n ≤ top) (hi : i ≤ top) where
  abbrev turned : ℕ
  turned = bit_or (x * 2 ^ n % 2 ^ suc top) (x / 2 ^ (suc top - n))

  -- the remainder of a shift to the left does not touch the bit
  low_bit : x * 2 ^ n % 2 ^ suc top / 2 ^ (top - i) % 2 ≡ x * 2 ^ n / 2 ^ (top - i) % 2
  low_bit =
      let e : suc top ≡ (i + 1) + (top - i) = omega arith in
      ap (λ (m : ℕ). x * 2 ^ n % 2 ^ m / 2 ^ (top - i) % 2) e ∙ ap (λ (m : ℕ). m % 2) (field (x * 2 ^ n) (i + 1) (top - i))
      ∙ mod-mod-pow (x * 2 ^ n / 2 ^ (top - i)) i 1

  gone : (k : ℕ) → suc top ≤ k → x / 2 ^ k ≡ 0
  gone k hk = div-eq_of_lt (lt_of_lt_of_le hx (pow_mono hk))

  stays : i + n ≤ top → bit_from turned (top - i) ≡ bit_from x (top - (i + n))
  stays p =
      let e : top - i ≡ n + (top - (i + n)) = omega arith in
      let s : x * 2 ^ n / 2 ^ (top - i) ≡ x / 2 ^ (top - (i + n)) = ap (λ (k : ℕ). x * 2 ^ n / 2 ^ k) e ∙ left_right x n _ in
      let z : x / 2 ^ (suc top - n) / 2 ^ (top - i) ≡ 0 = shr-shr x (suc top - n) (top - i) ∙ gone _ (omega arith) in
      from_or (x * 2 ^ n % 2 ^ suc top) (x / 2 ^ (suc top - n)) (top - i)
      ∙ ap₂ (λ (a b : ℕ). eqb a 1 || eqb (b % 2) 1) (low_bit ∙ ap (λ (m : ℕ). m % 2) s) z
      ∙ or_none _

  comes : top < i + n → bit_from turned (top - i) ≡ bit_from x (top - (i + n - suc top))
  comes p =
      let e : n ≡ suc (i + n - suc top) + (top - i) = omega arith in
      let e' : suc top - n + (top - i) ≡ top - (i + n - suc top) = omega arith in
      let s : x * 2 ^ n / 2 ^ (top - i) % 2 ≡ 0 =
      ap (λ (k : ℕ). x * 2 ^ k / 2 ^ (top - i) % 2) e ∙ ap (λ (m : ℕ). m % 2) (left_more x (top - i) (suc (i + n - suc top))) ∙ shifted_even x (i + n - suc top) in
      let r : x / 2 ^ (suc top - n) / 2 ^ (top - i) ≡ x / 2 ^ (top - (i + n - suc top)) = shr-shr x (suc top - n) (top - i) ∙ ap (λ (k : ℕ). x / 2 ^ k) e' in
      from_or (x * 2 ^ n % 2 ^ suc top) (x / 2 ^ (suc top - n)) (top - i) ∙ ap₂ (λ (a b : ℕ). eqb a 1 || eqb (b % 2) 1) (low_bit ∙ s) r

pub rotl_bit : (x n i : ℕ) → x < 2 ^ 32 → n < 32 → i < 32 → bit_at (rotl x n) i ≡ bit_at x ((i + n) % 32)
rotl_bit x n i hx hn hi =
    split (i + n) 32
    (λ p. stays 31 x n i hx (omega arith) (omega arith) (omega arith) ∙ ap (bit_from x) (omega arith))
    (λ p. comes 31 x n i hx (omega arith) (omega arith) (omega arith) ∙ ap (bit_from x) (omega arith))

pub rotl64_bit : (x n i : ℕ) → x < 2 ^ 64 → n < 64 → i < 64 → bit_from (rotl64 x n) (63 - i) ≡ bit_from x (63 - (i + n) % 64)
rotl64_bit x n i hx hn hi =
    split (i + n) 64
    (λ p. stays 63 x n i hx (omega arith) (omega arith) (omega arith) ∙ ap (bit_from x) (omega arith))
    (λ p. comes 63 x n i hx (omega arith) (omega arith) (omega arith) ∙ ap (bit_from x) (omega arith))
