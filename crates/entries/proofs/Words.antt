-- Which words some bytes lie in. Assumes nothing.
use Prim.Native.Nat.{ℕ, ◌+◌, ◌-◌, ◌*◌, ◌/◌, ◌%◌, ◌≤◌, ◌<◌}
use native.Mathlib.Decide.{dec_le}
use native.Mathlib.Omega.{arith}
use mathlib.Core.Logic.{inl, inr}
use mathlib.Core.Path.{◌≡◌}
use Rattle.entries.specs.Tags.{Apart}

-- a word that is neither that of the first byte nor that of the last has none of n bytes that lie in two words at most
pub two_words : (t a n : ℕ) → 0 < n → a % 4 + n ≤ 8 → t % 4 ≡ 0 → (t ≡ a / 4 * 4 → ⊥) → (t ≡ (a + (n - 1)) / 4 * 4 → ⊥) → Apart t a n
two_words t a n l f z x y = elim (dec_le a t) [ yes h ↦ inr (omega arith) | no h ↦ inl (omega arith) ]

-- a word that is none of a block's eight has none of its bytes
pub eight_words : (t a : ℕ) → t % 4 ≡ 0 → ((k : ℕ) → k < 8 → t ≡ a / 32 * 32 + 4 * k → ⊥) → Apart t (a / 32 * 32) 32
eight_words t a z n = elim (dec_le (a / 32 * 32) t) [ yes h ↦ inr (past h) | no h ↦ inl (omega arith) ]
  where
    past : a / 32 * 32 ≤ t → a / 32 * 32 + 32 ≤ t
    past h = elim (dec_le (a / 32 * 32 + 32) t) [ yes g ↦ g | no g ↦ absurd (n ((t - a / 32 * 32) / 4) (omega arith) (omega arith)) ]
