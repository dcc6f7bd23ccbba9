-- The signed order is the unsigned order of the words with 2 ^ 31 added. Assumes nothing.
use mathlib.Core.Path.{◌≡◌, sym, ◌∙◌}
use Prim.Native.Nat.{ℕ, suc, ◌+◌, ◌-◌, ◌%◌, ◌^◌, ◌<◌}
use native.Mathlib.Omega.{arith}
use lib.Dec.{ltb}
use borrow.Author.Tests.{lt-ltb, le-ltb}
use Rattle.word.specs.Compare.{less_signed}
use Rattle.word.proofs.Laws.{split}

-- two tests that mean the same
pub ltb_same : (a b c d : ℕ) → (a < b → c < d) → (c < d → a < b) → ltb a b ≡ ltb c d
ltb_same a b c d f g =
    split a b (λ p. lt-ltb a b p ∙ sym (lt-ltb c d (f p)))
    (λ p. split c d (λ q. let h : a < b = g q in let z : ⊥ = omega arith in absurd z) (λ q. le-ltb a b p ∙ sym (le-ltb c d q)))

up : ℕ → ℕ
up x = (x + 2 ^ 31) % 2 ^ 32

pub biased_lt : (a b : ℕ) → a < 2 ^ 32 → b < 2 ^ 32 → ltb ((a + 2 ^ 31) % 2 ^ 32) ((b + 2 ^ 31) % 2 ^ 32) ≡ less_signed a b
unfolding up
biased_lt a b ha hb =
    split a (2 ^ 31)
    (λ p. split b (2 ^ 31) (λ q. simp (lt-ltb a (2 ^ 31) p, lt-ltb b (2 ^ 31) q) (ltb_same (up a) (up b) a b (omega arith) (omega arith)))
    (λ q. simp (lt-ltb a (2 ^ 31) p, le-ltb b (2 ^ 31) q) (le-ltb (up a) (up b) (omega arith))))
    (λ p. split b (2 ^ 31) (λ q. simp (le-ltb a (2 ^ 31) p, lt-ltb b (2 ^ 31) q) (lt-ltb (up a) (up b) (omega arith)))
    (λ q. simp (le-ltb a (2 ^ 31) p, le-ltb b (2 ^ 31) q) (ltb_same (up a) (up b) (2 ^ 32 - suc b) (2 ^ 32 - suc a) (omega arith) (omega arith))))
