-- An entry of a nested list, at its own place and at another. Assumes nothing.
use Prim.Native.Nat.{ℕ, ◌<◌}
use mathlib.Core.Path.{◌≡◌}
use mathlib.Core.List.{List, []}
use lib.ListN.{get_or, length, set}
use lib.Seq.{get_or-set_same, get_or-set_other}

module _ {A : Type 0} (t : List (List A)) (s v : ℕ) (x d : A) where
  pub nested_same : s < length t → v < length (get_or t s []) → get_or (get_or (set t s (set (get_or t s []) v x)) s []) v d ≡ x
  nested_same hs hv = rw (get_or-set_same t s (set (get_or t s []) v x) [] hs) (get_or-set_same (get_or t s []) v x d hv)

  pub nested_other_way : (w : ℕ) → s < length t → (w ≡ v → ⊥) → get_or (get_or (set t s (set (get_or t s []) v x)) s []) w d ≡ get_or (get_or t s []) w d
  nested_other_way w hs h = rw (get_or-set_same t s (set (get_or t s []) v x) [] hs) (get_or-set_other (get_or t s []) v w x d h)

  pub nested_other_set : (r w : ℕ) → (r ≡ s → ⊥) → get_or (get_or (set t s (set (get_or t s []) v x)) r []) w d ≡ get_or (get_or t r []) w d
  nested_other_set r w h = rw (get_or-set_other t s r (set (get_or t s []) v x) [] h)
