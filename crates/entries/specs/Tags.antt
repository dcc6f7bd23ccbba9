-- Tags by set and way: a word's address and 1, or 0 where an entry is empty. This serves code alone: no sentence of the manual or the scope has it.
use Rattle.std.specs.Prelude.{ℕ, ◌+◌, ◌*◌, ◌/◌, ◌%◌, ◌≤◌, ◌<◌, ◌≡◌, ◌⊎◌, List, [], get_or}

abbrev pub tag_at : List (List ℕ) → ℕ → ℕ → ℕ
tag_at t s w = get_or (get_or t s []) w 0

-- the set of an address
abbrev pub set_of : ℕ → ℕ
set_of a = a / 4 % 64

-- no entry is new
unfoldable pub Fewer : List (List ℕ) → List (List ℕ) → Type 0
Fewer t u = (s w a : ℕ) → tag_at u s w ≡ a + 1 → tag_at t s w ≡ a + 1

-- and none of the word that has address a is left in its set
pub record Dropped (t u : List (List ℕ)) (a : ℕ) : Type 0 where
  pub fewer : Fewer t u
  pub none : (w : ℕ) → w < 4 → tag_at u (set_of a) w ≡ a / 4 * 4 + 1 → ⊥

-- the word at t has none of the n bytes at a
abbrev pub Apart : ℕ → ℕ → ℕ → Type 0
Apart t a n = (t + 4 ≤ a) ⊎ (a + n ≤ t)

-- no entry that stands in its set is of a word that has one of the n bytes at a
unfoldable pub Without : List (List ℕ) → ℕ → ℕ → Type 0
Without t a n = (s w b : ℕ) → w < 4 → set_of b ≡ s → b % 4 ≡ 0 → tag_at t s w ≡ b + 1 → Apart b a n
