-- How the code holds the addresses named so far: a bit for each, 32 to a word, the first at the left. It serves code.
use Rattle.std.specs.Prelude.{ℕ, zero, suc, ◌+◌, ◌/◌, ◌%◌, ◌<◌, ◌≡◌, Bool, false, ◌||◌, List, length, get_or, set}
use Rattle.std.specs.Int.Bits.{bit_or}
use Rattle.word.specs.Bits.{bit_at, field_at}
use Rattle.srecord.specs.File.{is_in}

unfoldable pub is_named : List ℕ → ℕ → Bool
is_named ws x = bit_at (get_or ws (x / 32) 0) (x % 32)

unfoldable pub naming : List ℕ → ℕ → List ℕ
naming ws x = set ws (x / 32) (bit_or (get_or ws (x / 32) 0) (field_at (x % 32) (x % 32) 1))

unfoldable pub any_named : ℕ → List ℕ → ℕ → Bool
any_named zero ws x = false
any_named (suc n) ws x = let r = any_named n (naming ws x) (x + 1) in is_named ws x || r

unfoldable pub naming_all : ℕ → List ℕ → ℕ → List ℕ
naming_all zero ws x = ws
naming_all (suc n) ws x = let r = naming_all n (naming ws x) (x + 1) in r

-- the words stand for the addresses named so far
pub record StandsFor (ws named : List ℕ) : Type 0 where
  pub size : length ws ≡ 32768
  pub same : (x : ℕ) → x < 1048576 → is_named ws x ≡ is_in x named
