-- EXTS, and the number that a word stands for in two's complement (1.2, 2.11.3.1).
use Rattle.std.specs.Prelude.{ℕ, ◌+◌, ◌-◌, ◌*◌, ◌/◌, ◌^◌, Bool, ◌||◌, leb, ℤ, pos, negsuc}
use Rattle.std.specs.Int.Signed.{lt_z, le_z}
use Rattle.std.specs.Int.{w32}
use Rattle.std.proofs.Common.{to_z}

-- EXTS(x) of a number of n bits: ones above it where its sign bit is set
abbrev pub exts : ℕ → ℕ → ℕ
exts n x = x + x / 2 ^ (n - 1) * (2 ^ 32 - 2 ^ n)

-- bit 0 of a word is its sign
abbrev pub negative : ℕ → Bool
negative x = leb (2 ^ 31) x

-- the signed number that a word stands for
abbrev pub signed : ℕ → ℤ
signed x = to_z w32 x

-- no word stands for it: below - 2 ^ 31, or 2 ^ 31 and above
abbrev pub leaves_range : ℤ → Bool
leaves_range z = le_z (pos (2 ^ 31)) z || lt_z z (negsuc (2 ^ 31 - 1))
