-- Worked numbers of words, each beside the one that the scope gives, and of what the scope leaves out, worked by hand. Assumes nothing.
use mathlib.Core.Path.{◌≡◌, refl}
use mathlib.Core.Bool.{false, true}
use mathlib.Core.List.{List, [], ◌∷◌, map}
use Prim.Native.Nat.{ℕ}
use lib.Count.{count_leading_zeros}
use Rattle.word.specs.Bits.{digit}
use Rattle.word.specs.Logical.{inv, cntlzw}
use Rattle.word.specs.Sum.{sum_of}
use Rattle.word.specs.Sign.{exts}
use Rattle.word.specs.Shift.{shift_in, slw, sraw}
use Rattle.word.specs.Rotate.{mask}
use Rattle.word.specs.Compare.{cr0, compared_signed, compared_unsigned}
use Rattle.word.specs.Multiply.{mullhw, mullhwu, low_word, mullw}
use Rattle.word.specs.Double.{rotl64, mask64, under64, recorded64}

infix 20 ◌gives◌
pub data Row : Type 0 where
  ◌gives◌ : ℕ → ℕ → Row

abbrev pub computed : Row → ℕ
computed (a gives b) = a

abbrev pub printed : Row → ℕ
printed (a gives b) = b

-- LT, EQ and GT alone in CR0
abbrev less : ℕ
less = cr0 true false false false

abbrev equal : ℕ
equal = cr0 false false true false

abbrev greater : ℕ
greater = cr0 false true false false

abbrev pub rows : List Row
rows =
    (exts 16 0x7FFF gives 0x0000_7FFF)
    ∷ (exts 16 0x8000 gives 0xFFFF_8000)
    ∷ (compared_unsigned 0x8000 0x8000 false gives equal)
    ∷ (compared_signed 0x8000 (exts 16 0x8000) false gives greater)
    ∷ ((sum_of (inv 0x8000_0000) 0 true).value gives 0x8000_0000)
    ∷ (digit (sum_of (inv 0x8000_0000) 0 true).overflow gives 1)
    ∷ ((sum_of 0xFFFF_FFFF 0 true).value gives 0)
    ∷ (digit (sum_of 0xFFFF_FFFF 0 true).carry gives 1)
    ∷ ((sraw 0x8000_0001 1).value gives 0xC000_0000)
    ∷ (digit (sraw 0x8000_0001 1).carry gives 1)
    ∷ ((sraw 0x8000_0001 32).value gives 0xFFFF_FFFF)
    ∷ (digit (sraw 0x8000_0001 32).carry gives 1)
    ∷ ((sraw 0x4000_0001 1).value gives 0x2000_0000)
    ∷ (digit (sraw 0x4000_0001 1).carry gives 0)
    ∷ (slw 0x8765_4321 (shift_in 32).0 gives 0)
    ∷ (slw 0x8765_4321 (shift_in 64).0 gives 0x8765_4321)
    ∷ (mask 31 0 gives 0x8000_0001)
    ∷ (cntlzw 0 gives 32)
    ∷ (mullhw 0x7FFF 0xFFFF gives 0xFFFF_8001)
    ∷ (mullhwu 0x7FFF 0xFFFF gives 0x7FFE_8001)
    ∷ []

-- every row holds: two lists of numbers, both computed
pub numbers_hold : map computed rows ≡ map printed rows
unfolding mask count_leading_zeros
numbers_hold = refl

-- products of words (9.4.60, 9.4.61) and doublewords (9.4.70 to 9.4.72)
abbrev pub by_hand : List Row
by_hand =
    (low_word 7 (exts 16 0xFFFD) gives 0xFFFF_FFEB)
    ∷ ((mullw 0x8000_0000 0xFFFF_FFFF).value gives 0x8000_0000)
    ∷ (digit (mullw 0x8000_0000 0xFFFF_FFFF).overflow gives 1)
    ∷ ((mullw 0xFFFF_8000 0xFFFF_8000).value gives 0x4000_0000)
    ∷ (digit (mullw 0xFFFF_8000 0xFFFF_8000).overflow gives 0)
    ∷ ((mullw 0x0001_0000 0x0000_8000).value gives 0x8000_0000)
    ∷ (digit (mullw 0x0001_0000 0x0000_8000).overflow gives 1)
    ∷ ((mullw 0x0001_0000 0xFFFF_8000).value gives 0x8000_0000)
    ∷ (digit (mullw 0x0001_0000 0xFFFF_8000).overflow gives 0)
    ∷ ((mullw 0x0001_0000 0xFFFF_7FFF).value gives 0x7FFF_0000)
    ∷ (digit (mullw 0x0001_0000 0xFFFF_7FFF).overflow gives 1)
    ∷ ((mullw 0x8000_0000 0).value gives 0)
    ∷ (digit (mullw 0x8000_0000 0).overflow gives 0)
    ∷ (rotl64 0x8000_0000_0000_0001 1 gives 3)
    ∷ (rotl64 0x8000_0000_0000_0001 0 gives 0x8000_0000_0000_0001)
    ∷ (rotl64 0x0123_4567_89AB_CDEF 32 gives 0x89AB_CDEF_0123_4567)
    ∷ (rotl64 1 63 gives 0x8000_0000_0000_0000)
    ∷ (mask64 0 63 gives 0xFFFF_FFFF_FFFF_FFFF)
    ∷ (mask64 32 63 gives 0x0000_0000_FFFF_FFFF)
    ∷ (mask64 0 31 gives 0xFFFF_FFFF_0000_0000)
    ∷ (mask64 60 3 gives 0xF000_0000_0000_000F)
    ∷ (mask64 8 7 gives 0xFFFF_FFFF_FFFF_FFFF)
    ∷ (under64 0x00FF_0000_0000_FF00 0x1111_1111_1111_1111 0x2222_2222_2222_2222 gives 0x2211_2222_2222_1122)
    ∷ (recorded64 0x8000_0000_0000_0000 false gives less)
    ∷ (recorded64 0x0000_0000_8000_0000 false gives greater)
    ∷ (recorded64 0x0000_0001_0000_0000 false gives greater)
    ∷ (recorded64 0 false gives equal)
    ∷ []

pub by_hand_hold : map computed by_hand ≡ map printed by_hand
unfolding mask64
by_hand_hold = refl
