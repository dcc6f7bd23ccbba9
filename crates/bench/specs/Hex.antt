-- A word as eight upper-case hex digits, in ASCII.
use Rattle.std.specs.Prelude.{ℕ, ◌+◌, ◌/◌, ◌%◌, ◌^◌, cond, List, [], ◌∷◌, ltb}

-- 0 to 9 stand from 48 on, A to F from 65 on
abbrev pub hex_digit : ℕ → ℕ
hex_digit d = cond (ltb d 10) (48 + d) (55 + d)

abbrev pub nibble : ℕ → ℕ → ℕ
nibble w k = hex_digit (w / 2 ^ k % 16)

unfoldable pub hex_of : ℕ → List ℕ
hex_of w = nibble w 28 ∷ nibble w 24 ∷ nibble w 20 ∷ nibble w 16 ∷ nibble w 12 ∷ nibble w 8 ∷ nibble w 4 ∷ hex_digit (w % 16) ∷ []
