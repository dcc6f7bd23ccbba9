-- Overflow by carries is "the signed sum leaves the range of signed words". Assumes nothing.
use mathlib.Core.Path.{◌≡◌, ap, sym, ◌∙◌}
use mathlib.Core.Bool.{Bool, true, false, not, beq}
use Prim.Native.Nat.{ℕ, suc, ◌+◌, ◌-◌, ◌%◌, ◌^◌, ◌≤◌, ◌<◌}
use native.Mathlib.Omega.{arith}
use lib.Dec.{leb}
use lib.IntN.{pos, negsuc, sub_ℕ, ◌+ℤ◌}
use borrow.Author.Tests.{lt-ltb, le-ltb, le-leb, lt-leb}
use Rattle.word.specs.Bits.{digit}
use Rattle.word.specs.Sign.{signed, leaves_range}
use Rattle.word.specs.Sum.{sum_of}
use Rattle.word.proofs.Laws.{split, digit_le}

sub_inside : (x y : ℕ) → x < y + 2 ^ 31 → y ≤ x + 2 ^ 31 → leaves_range (sub_ℕ x y) ≡ false
sub_inside x y h l =
    split x y (λ p. simp (lt-ltb x y p) (le-ltb (2 ^ 31 - 1) (y - suc x) (omega arith)))
    (λ p. simp (le-ltb x y p, lt-leb (2 ^ 31) (x - y) (omega arith)))

sub_below : (x y : ℕ) → x + 2 ^ 31 < y → leaves_range (sub_ℕ x y) ≡ true
sub_below x y h = simp (lt-ltb x y (omega arith)) (lt-ltb (2 ^ 31 - 1) (y - suc x) (omega arith))

sub_plus : (x y d : ℕ) → sub_ℕ x y +ℤ pos d ≡ sub_ℕ (x + d) y
sub_plus x y d =
    split x y
    (λ p. split (x + d) y
    (λ q. simp (lt-ltb x y p, lt-ltb (x + d) y q, lt-ltb d (suc (y - suc x)) (omega arith)) (ap negsuc (omega arith)))
    (λ q. simp (lt-ltb x y p, le-ltb (x + d) y q, le-ltb d (suc (y - suc x)) (omega arith)) (ap pos (omega arith))))
    (λ p. simp (le-ltb x y p, le-ltb (x + d) y (omega arith)) (ap pos (omega arith)))

-- what a negative word lacks to 2 ^ 32
lack : ℕ → ℕ
lack b = suc (2 ^ 32 - suc b)

module _ (a b d : ℕ) (ha : a < 2 ^ 32) (hb : b < 2 ^ 32) (hd : d ≤ 1) where
  abbrev low : ℕ
  low = a % 2 ^ 31 + b % 2 ^ 31 + d

  abbrev unequal : Bool
  unequal = not (beq (leb (2 ^ 31) low) (leb (2 ^ 32) (a + b + d)))

  -- the two carries are the same where the signs are not
  mixed : (a < 2 ^ 31 → 2 ^ 31 ≤ b) → (2 ^ 31 ≤ a → b < 2 ^ 31) → unequal ≡ false
  mixed p q =
      split (a + b + d) (2 ^ 32)
      (λ s. simp (lt-leb (2 ^ 32) (a + b + d) s, lt-leb (2 ^ 31) low (split a (2 ^ 31) (λ u. let v : 2 ^ 31 ≤ b = p u in omega arith) (λ u. let v : b < 2 ^ 31 = q u in omega arith))))
      (λ s. simp (le-leb (2 ^ 32) (a + b + d) s, le-leb (2 ^ 31) low (split a (2 ^ 31) (λ u. let v : 2 ^ 31 ≤ b = p u in omega arith) (λ u. let v : b < 2 ^ 31 = q u in omega arith))))

  carries : unequal ≡ leaves_range (signed a +ℤ signed b +ℤ pos d)
  unfolding lack
  carries =
      split a (2 ^ 31)
      (λ p. split b (2 ^ 31)
      (λ q.
      simp (lt-ltb a (2 ^ 31) p, lt-ltb b (2 ^ 31) q)
      (split (a + b + d) (2 ^ 31)
      (λ s. simp (lt-leb (2 ^ 31) low (omega arith), lt-leb (2 ^ 32) (a + b + d) (omega arith), lt-leb (2 ^ 31) (a + b + d) s))
      (λ s. simp (le-leb (2 ^ 31) low (omega arith), lt-leb (2 ^ 32) (a + b + d) (omega arith), le-leb (2 ^ 31) (a + b + d) s))))
      (λ q.
      simp (lt-ltb a (2 ^ 31) p, le-ltb b (2 ^ 31) q)
      (mixed (λ u. q) (λ u. omega arith)
      ∙ sym (ap leaves_range (sub_plus a (lack b) d) ∙ sub_inside (a + d) (lack b) (omega arith) (omega arith)))))
      (λ p. split b (2 ^ 31)
      (λ q.
      simp (le-ltb a (2 ^ 31) p, lt-ltb b (2 ^ 31) q)
      (mixed (λ u. omega arith) (λ u. q)
      ∙ sym (ap leaves_range (sub_plus b (lack a) d) ∙ sub_inside (b + d) (lack a) (omega arith) (omega arith))))
      (λ q.
      simp (le-ltb a (2 ^ 31) p, le-ltb b (2 ^ 31) q)
      (split low (2 ^ 31)
      (λ s.
      simp (lt-leb (2 ^ 31) low s, le-leb (2 ^ 32) (a + b + d) (omega arith))
      (sym (sub_below d (suc (suc (2 ^ 32 - suc a + (2 ^ 32 - suc b)))) (omega arith))))
      (λ s.
      simp (le-leb (2 ^ 31) low s, le-leb (2 ^ 32) (a + b + d) (omega arith))
      (sym (sub_inside d (suc (suc (2 ^ 32 - suc a + (2 ^ 32 - suc b)))) (omega arith) (omega arith)))))))

pub overflow_signed : (a b : ℕ) (c : Bool) → a < 2 ^ 32 → b < 2 ^ 32 → (sum_of a b c).overflow ≡ leaves_range (signed a +ℤ signed b +ℤ pos (digit c))
overflow_signed a b c ha hb = carries a b (digit c) ha hb (digit_le c)
