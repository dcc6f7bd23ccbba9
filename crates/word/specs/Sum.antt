-- A sum of two words and a carry, with its carry out and its overflow (2.11.4).
use Rattle.std.specs.Prelude.{ℕ, ◌+◌, ◌%◌, ◌^◌, Bool, not, leb}
use Rattle.std.specs.Bool.{beq}
use Rattle.word.specs.Bits.{digit}
use Rattle.word.specs.declared.sum.Sum.{Sum}

-- the 32 bits of the sum
abbrev pub value : ℕ → ℕ → Bool → ℕ
value a b c = (a + b + digit c) % 2 ^ 32

-- the carry out of bit 0: the sum is over 2 ^ 32 - 1 (9.4.2, 9.4.3)
abbrev pub carry_out : ℕ → ℕ → Bool → Bool
carry_out a b c = leb (2 ^ 32) (a + b + digit c)

-- the carry into bit 0, out of the sum of bits 1:31
abbrev pub carry_in : ℕ → ℕ → Bool → Bool
carry_in a b c = leb (2 ^ 31) (a % 2 ^ 31 + b % 2 ^ 31 + digit c)

-- overflow: the carry into bit 0 is not the carry out of it
abbrev pub sum_of : ℕ → ℕ → Bool → Sum
sum_of a b c =
    record { value = value a b c; carry = carry_out a b c; overflow = not (beq (carry_in a b c) (carry_out a b c)) }
