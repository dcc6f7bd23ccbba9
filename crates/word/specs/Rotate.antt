-- ROTL(x, n) and MASK(MB, ME) of 1.2, and insertion under a mask (9.4.73).
use Rattle.std.specs.Prelude.{ℕ, zero, suc, ◌+◌, ◌-◌, ◌*◌, Bool, ◌&&◌, ◌||◌, cond, leb}
use Rattle.std.specs.Int.Bits.{bit_and, bit_or}
use Rattle.word.specs.Bits.{digit, field_at}
use Rattle.word.specs.Logical.{inv}
use Rattle.word.specs.Shift.{slw, srw}

-- n below 32: the bits that leave on the left come in on the right
abbrev pub rotl : ℕ → ℕ → ℕ
rotl x n = bit_or (slw x n) (srw x (32 - n))

-- the number whose first n bits are f 0, f 1, ..
abbrev pub bits_of : ℕ → (ℕ → Bool) → ℕ
bits_of zero f = 0
bits_of (suc n) f = bits_of n f * 2 + digit (f n)

-- the word whose bit i is f i
unfoldable pub word_of : (ℕ → Bool) → ℕ
word_of f = bits_of 32 f

-- positions MB through ME, wrapping if MB > ME
abbrev pub in_mask : ℕ → ℕ → ℕ → Bool
in_mask mb me i = cond (leb mb me) (leb mb i && leb i me) (leb mb i || leb i me)

-- ones in those positions and zeros elsewhere
unfoldable pub mask : ℕ → ℕ → ℕ
unfolding word_of
mask mb me = word_of (in_mask mb me)

-- (x ∧ m) ∨ (y ∧ ¬ m)
abbrev pub under : ℕ → ℕ → ℕ → ℕ
under m x y = bit_or (bit_and x m) (bit_and y (inv m))

-- REG[FLD] ← v of 1.2: v in bits i:j of a word, and the rest of the word as it was
unfoldable pub put_at : ℕ → ℕ → ℕ → ℕ → ℕ
put_at w i j v = under (mask i j) (field_at i j v) w
