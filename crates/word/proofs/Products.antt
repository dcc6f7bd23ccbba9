-- Overflow by the sizes of two numbers is "the signed product leaves the range of signed words". Assumes nothing.
use mathlib.Core.Path.{◌≡◌, refl, sym}
use mathlib.Core.Bool.{Bool, not, beq}
use Prim.Native.Nat.{ℕ, zero, suc, ◌+◌, ◌-◌, ◌*◌, ◌^◌}
use lib.Dec.{leb, ltb, leb-suc-suc}
use lib.IntN.{pos, neg_ℤ, nat_abs, ◌*ℤ◌}
use borrow.Author.Tests.{lt-ltb, le-ltb}
use Rattle.word.specs.Bits.{digit}
use Rattle.word.specs.Sign.{signed, leaves_range}
use Rattle.word.proofs.Laws.{split}
use Rattle.word.proofs.Truth.{or_none}

-- below zero the range reaches one further
minus_leaves : (p : ℕ) → leb (2 ^ 31 + 1) p ≡ leaves_range (neg_ℤ (pos p))
minus_leaves zero = refl
minus_leaves (suc p) = leb-suc-suc (2 ^ 31) p

plus_leaves : (p : ℕ) → leb (2 ^ 31) p ≡ leaves_range (pos p)
plus_leaves p = sym (or_none (leb (2 ^ 31) p))

-- what a negative word lacks to 2 ^ 32
abbrev lack : ℕ → ℕ
lack a = suc (2 ^ 32 - suc a)

-- one of two words is negative
abbrev pub opposite : ℕ → ℕ → Bool
opposite a b = not (beq (ltb a (2 ^ 31)) (ltb b (2 ^ 31)))

pub product_leaves : (a b : ℕ)
    → leb (2 ^ 31 + digit (opposite a b)) (nat_abs (signed a) * nat_abs (signed b)) ≡ leaves_range (signed a *ℤ signed b)
product_leaves a b =
    split a (2 ^ 31)
    (λ p. split b (2 ^ 31)
    (λ q. simp (lt-ltb a (2 ^ 31) p, lt-ltb b (2 ^ 31) q) (plus_leaves (a * b)))
    (λ q. simp (lt-ltb a (2 ^ 31) p, le-ltb b (2 ^ 31) q) (minus_leaves (a * lack b))))
    (λ p. split b (2 ^ 31)
    (λ q. simp (le-ltb a (2 ^ 31) p, lt-ltb b (2 ^ 31) q) (minus_leaves (lack a * b)))
    (λ q. simp (le-ltb a (2 ^ 31) p, le-ltb b (2 ^ 31) q) (plus_leaves (lack a * lack b))))
