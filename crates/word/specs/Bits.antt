-- Bit numbers, shift amounts and the parts of a word. A word is a number below 2 ^ 32, and its bit 0 is the most significant (2.4.1).
use Rattle.std.specs.Prelude.{ℕ, ◌+◌, ◌-◌, ◌*◌, ◌/◌, ◌%◌, ◌^◌, ◌<◌, ◌≤◌, Bool, eqb}
use mir.Val.{bool_byte}
use Rattle.word.specs.declared.bits.Bit.{Bit}
use Rattle.word.specs.declared.bits.Shift.{Shift}

-- 1 for true, 0 for false
abbrev pub digit : Bool → ℕ
digit b = bool_byte b

abbrev pub IsBit : Bit → Type 0
IsBit b = b.0 < 32

-- a six-bit amount, as slw, srw and sraw take it (9.4.77, 9.4.78, 9.4.81)
abbrev pub IsShift : Shift → Type 0
IsShift s = s.0 < 64

-- the bit that a five-bit field of an instruction names
abbrev pub bit_of : ℕ → Bit
bit_of n = record { 0 = n % 32 }

-- bit b is shifted right by this much to come last
abbrev pub shift_of : Bit → Shift
shift_of b = record { 0 = 31 - b.0 }

-- bit i of a word, REG_b of 1.2
abbrev pub bit_at : ℕ → ℕ → Bool
bit_at w i = eqb (w / 2 ^ (31 - i) % 2) 1

-- bits i:j make a part of a word shorter than the word
abbrev pub IsPart : Bit → Bit → Type 0
IsPart i j = (i.0 ≤ j.0) × (j.0 < 32) × (j.0 < i.0 + 31)

-- bits i:j of a word, REG_b:b of 1.2, as a number
abbrev pub bits_at : ℕ → ℕ → ℕ → ℕ
bits_at w i j = w / 2 ^ (31 - j) % 2 ^ (j - i + 1)

-- the word with v in its bits i:j and zeros elsewhere
abbrev pub field_at : ℕ → ℕ → ℕ → ℕ
field_at i j v = v % 2 ^ (j - i + 1) * 2 ^ (31 - j)
