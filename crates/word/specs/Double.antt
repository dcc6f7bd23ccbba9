-- ROTL_64(x, n) and MASK(MB, ME) over 64 bits, insertion under a mask (9.4.70 to 9.4.72), and CR0 after a result of 64 bits
-- (2.11.3.2). A doubleword is a number below 2 ^ 64, and its bit 0 is the most significant.
use Rattle.std.specs.Prelude.{ℕ, ◌-◌, ◌*◌, ◌/◌, ◌%◌, ◌^◌, Bool, not, ◌&&◌, leb, eqb}
use Rattle.std.specs.Int.Bits.{bit_and, bit_or}
use Rattle.word.specs.Rotate.{bits_of, in_mask}
use Rattle.word.specs.Compare.{cr0}

-- n below 64: the bits that leave on the left come in on the right
abbrev pub rotl64 : ℕ → ℕ → ℕ
rotl64 x n = bit_or (x * 2 ^ n % 2 ^ 64) (x / 2 ^ (64 - n))

-- ones in positions MB through ME, wrapping if MB > ME, and zeros elsewhere
unfoldable pub mask64 : ℕ → ℕ → ℕ
mask64 mb me = bits_of 64 (in_mask mb me)

-- ¬ x: every bit turned over
abbrev pub inv64 : ℕ → ℕ
inv64 x = 2 ^ 64 - 1 - x

-- (x ∧ m) ∨ (y ∧ ¬ m)
abbrev pub under64 : ℕ → ℕ → ℕ → ℕ
under64 m x y = bit_or (bit_and x m) (bit_and y (inv64 m))

-- Table 1.5 for 64 bits: bit 0 of the result is its sign
abbrev pub negative64 : ℕ → Bool
negative64 x = leb (2 ^ 63) x

abbrev pub recorded64 : ℕ → Bool → ℕ
recorded64 r so = cr0 (negative64 r) (not (eqb r 0) && not (negative64 r)) (eqb r 0) so
