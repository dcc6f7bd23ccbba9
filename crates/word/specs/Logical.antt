-- The complement of a word, and the count of its leading zeros; `bit_and`, `bit_or` and `bit_xor` are the library's.
use Rattle.std.specs.Prelude.{ℕ, ◌-◌, ◌^◌}
use Rattle.std.specs.Int.Count.{count_leading_zeros}

-- ¬ x of 1.2: every bit turned over
abbrev pub inv : ℕ → ℕ
inv x = 2 ^ 32 - 1 - x

-- cntlzw (9.4.29): the zeros left of the first one-bit, 32 for 0
abbrev pub cntlzw : ℕ → ℕ
cntlzw x = count_leading_zeros 32 x
