-- Laws of digits, fields and products that the proofs cite. Assumes nothing.
use mathlib.Core.Path.{◌≡◌, subst⁻¹}
use mathlib.Core.Bool.{Bool, true, false}
use Prim.Native.Nat.{ℕ, ◌+◌, ◌-◌, ◌*◌, ◌%◌, ◌^◌, ◌≤◌, ◌<◌}
use native.Mathlib.Nat.{le_of_lt, lt_of_le_of_lt, mul-le-mul_left, mul-lt-mul_of_pos_right, mod-lt}
use native.Mathlib.Omega.{arith}
use native.Mathlib.Decide.{dec_lt}
use lib.Pow.{pow-add, pow_pos, shl_exact}
use lib.Dec.{lit≤}
use Rattle.word.specs.Bits.{digit}

-- a bool's number is at most 1
pub digit_le : (b : Bool) → digit b ≤ 1
digit_le true = lit≤ tt
digit_le false = lit≤ tt

-- a field that ends at bit j keeps within the word
pub field_fits : (v i j : ℕ) → i ≤ j → j < 32 → v % 2 ^ (j - i + 1) * 2 ^ (31 - j) % 2 ^ 32 ≡ v % 2 ^ (j - i + 1) * 2 ^ (31 - j)
field_fits v i j h l = shl_exact (j - i + 1) (31 - j) 32 (mod-lt v (pow_pos (j - i + 1))) (omega arith)

-- the product of two numbers of k bits has twice as many
pub below : (k : ℕ) {a b : ℕ} → a < 2 ^ k → b < 2 ^ k → a * b < 2 ^ (k + k)
below k {a} {b} ha hb =
    subst⁻¹ (λ (n : ℕ). a * b < n) (pow-add 2 k k)
    (lt_of_le_of_lt (mul-le-mul_left a (le_of_lt hb)) (mul-lt-mul_of_pos_right ha (pow_pos k)))

-- one of two numbers is the smaller
pub split : {C : Type 0} (a b : ℕ) → (a < b → C) → (b ≤ a → C) → C
split {C} a b f g = go (dec_lt a b)
  where
    go : Dec (a < b) → C
    go (yes p) = f p
    go (no n) = g (omega arith)
