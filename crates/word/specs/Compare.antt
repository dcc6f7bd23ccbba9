-- CR0 after a compare and after a result (2.11.3.1, 2.11.3.2).
use Rattle.std.specs.Prelude.{ℕ, ◌+◌, ◌*◌, Bool, not, ◌&&◌, ltb, eqb}
use Rattle.std.specs.Int.Signed.{lt_z}
use Rattle.word.specs.Bits.{digit}
use Rattle.word.specs.Sign.{negative, signed}

-- LT, GT, EQ and SO from the left
abbrev pub cr0 : Bool → Bool → Bool → Bool → ℕ
cr0 lt gt eq so = digit lt * 8 + digit gt * 4 + digit eq * 2 + digit so

-- the order of the signed numbers that two words stand for
abbrev pub less_signed : ℕ → ℕ → Bool
less_signed a b = lt_z (signed a) (signed b)

-- Table 1.4: arithmetic compares take signed numbers, logical ones unsigned
abbrev pub compared_signed : ℕ → ℕ → Bool → ℕ
compared_signed a b so = cr0 (less_signed a b) (less_signed b a) (eqb a b) so

abbrev pub compared_unsigned : ℕ → ℕ → Bool → ℕ
compared_unsigned a b so = cr0 (ltb a b) (ltb b a) (eqb a b) so

-- Table 1.5: bit 0 of the result is its sign
abbrev pub recorded : ℕ → Bool → ℕ
recorded r so = cr0 (negative r) (not (eqb r 0) && not (negative r)) (eqb r 0) so
