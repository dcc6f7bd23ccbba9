-- Entries emptied: of a way, of the four ways of a set, of the words of some bytes and of a block. Assumes nothing.
use Prim.Native.Nat.{ℕ, ◌+◌, ◌-◌, ◌*◌, ◌/◌, ◌%◌, ◌≤◌, ◌<◌}
use native.Mathlib.Nat.{mul-div_cancel}
use native.Mathlib.Omega.{arith}
use mathlib.Core.Bool.{Bool, true, false}
use mathlib.Core.Path.{◌≡◌, refl, ◌∙◌, sym}
use mathlib.Core.List.{List, []}
use lib.ListN.{get_or, length, set, get_or-eq_default}
use lib.Seq.{get_or-set_same, set_out}
use lib.Dec.{eqb, ltb, lit<}
use borrow.Author.Tests.{eqb-true, eqb-false, ltb-true, ltb-false}
use Rattle.entries.specs.Tags.{tag_at, set_of, Fewer, Dropped, Without}
use Rattle.entries.proofs.Nested.{nested_same, nested_other_way, nested_other_set}
use Rattle.entries.proofs.Words.{two_words, eight_words}

-- out of range an entry is empty, so what is emptied reads as empty wherever it stands
module _ (t : List (List ℕ)) (s v : ℕ) where
  none_here : (b e : Bool) → ltb s (length t) ≡ b → ltb v (length (get_or t s [])) ≡ e → tag_at (set t s (set (get_or t s []) v 0)) s v ≡ 0
  none_here true true h f = nested_same t s v 0 0 (ltb-true s (length t) h) (ltb-true v (length (get_or t s [])) f)
  none_here true false h f =
      rw (get_or-set_same t s (set (get_or t s []) v 0) [] (ltb-true s (length t) h), set_out (get_or t s []) v 0 (ltb-false v (length (get_or t s [])) f))
      (get_or-eq_default (get_or t s []) 0 (ltb-false v (length (get_or t s [])) f))
  none_here false e h f =
      rw (set_out t s (set (get_or t s []) v 0) (ltb-false s (length t) h), get_or-eq_default t [] (ltb-false s (length t) h)) refl

  emptied_here : tag_at (set t s (set (get_or t s []) v 0)) s v ≡ 0
  emptied_here = none_here (ltb s (length t)) (ltb v (length (get_or t s []))) refl refl

  pub emptied_none : (a : ℕ) → 0 < a → tag_at (set t s (set (get_or t s []) v 0)) s v ≡ a → ⊥
  emptied_none a h p =
      let q : 0 ≡ a = sym emptied_here ∙ p in
      omega arith

  other_way : (w : ℕ) (x : ℕ) (b : Bool) → ltb s (length t) ≡ b → (w ≡ v → ⊥) → tag_at (set t s (set (get_or t s []) v x)) s w ≡ tag_at t s w
  other_way w x true h n = nested_other_way t s v x 0 w (ltb-true s (length t) h) n
  other_way w x false h n = rw (set_out t s (set (get_or t s []) v x) (ltb-false s (length t) h)) refl

  pub other_ways : (w : ℕ) (x : ℕ) → (w ≡ v → ⊥) → tag_at (set t s (set (get_or t s []) v x)) s w ≡ tag_at t s w
  other_ways w x n = other_way w x (ltb s (length t)) refl n

  emptied_at : (r w a : ℕ) (b e : Bool) → eqb r s ≡ b → eqb w v ≡ e → tag_at (set t s (set (get_or t s []) v 0)) r w ≡ a + 1 → tag_at t r w ≡ a + 1
  emptied_at r w a false e h f p = sym (nested_other_set t s v 0 0 r w (eqb-false r s h)) ∙ p
  emptied_at r w a true false h f p =
      rw (eqb-true r s h) (sym (other_ways w 0 (eqb-false w v f)) ∙ (rw (eqb-true r s h) at p))
  emptied_at r w a true true h f p =
      let q : 0 ≡ a + 1 = sym emptied_here ∙ (rw (eqb-true r s h, eqb-true w v f) at p) in
      absurd (omega arith)

  pub emptied : Fewer t (set t s (set (get_or t s []) v 0))
  unfolding Fewer
  emptied r w a p = emptied_at r w a (eqb r s) (eqb w v) refl refl p

  -- what is written at a place is what is read there, or nothing is
  written_here : (x a : ℕ) (b e : Bool) → ltb s (length t) ≡ b → ltb v (length (get_or t s [])) ≡ e
      → tag_at (set t s (set (get_or t s []) v (x + 1))) s v ≡ a + 1 → x ≡ a
  written_here x a true true h f p =
      let q : x + 1 ≡ a + 1 = sym (nested_same t s v (x + 1) 0 (ltb-true s (length t) h) (ltb-true v (length (get_or t s [])) f)) ∙ p in
      omega arith
  written_here x a true false h f p =
      let o : tag_at (set t s (set (get_or t s []) v (x + 1))) s v ≡ 0 = rw (get_or-set_same t s (set (get_or t s []) v (x + 1)) [] (ltb-true s (length t) h), set_out (get_or t s []) v (x + 1) (ltb-false v (length (get_or t s [])) f)) (get_or-eq_default (get_or t s []) 0 (ltb-false v (length (get_or t s [])) f)) in
      let q : 0 ≡ a + 1 = sym o ∙ p in
      absurd (omega arith)
  written_here x a false e h f p =
      let o : tag_at (set t s (set (get_or t s []) v (x + 1))) s v ≡ 0 = rw (set_out t s (set (get_or t s []) v (x + 1)) (ltb-false s (length t) h), get_or-eq_default t [] (ltb-false s (length t) h)) refl in
      let q : 0 ≡ a + 1 = sym o ∙ p in
      absurd (omega arith)

  pub written : (x a : ℕ) → tag_at (set t s (set (get_or t s []) v (x + 1))) s v ≡ a + 1 → x ≡ a
  written x a p = written_here x a (ltb s (length t)) (ltb v (length (get_or t s []))) refl refl p

pub fewer_same : (t : List (List ℕ)) → Fewer t t
unfolding Fewer
fewer_same t s w a p = p

pub fewer_yet : (t u v : List (List ℕ)) → Fewer t u → Fewer u v → Fewer t v
unfolding Fewer
fewer_yet t u v f g s w a p = f s w a (g s w a p)

-- what is gone stays gone
pub without_yet : (t u : List (List ℕ)) (a n : ℕ) → Fewer t u → Without t a n → Without u a n
unfolding Fewer Without
without_yet t u a n f h s w b l q z p = h s w b l q z (f s w b p)

-- one way more of a set: in its first n the word that has address a is not left
pub record Ways (t u : List (List ℕ)) (a n : ℕ) : Type 0 where
  pub fewer : Fewer t u
  pub none : (w : ℕ) → w < n → tag_at u (set_of a) w ≡ a / 4 * 4 + 1 → ⊥

pub ways_none_yet : (t : List (List ℕ)) (a : ℕ) → Ways t t a 0
ways_none_yet t a = record { fewer = fewer_same t; none = λ w h e. omega arith }

ways_none : (t u v : List (List ℕ)) (a n : ℕ) → Ways t u a n → Fewer u v × (tag_at v (set_of a) n ≡ a / 4 * 4 + 1 → ⊥) → (w : ℕ) (x : Bool) → ltb w n ≡ x → w < n + 1
    → tag_at v (set_of a) w ≡ a / 4 * 4 + 1 → ⊥
unfolding Fewer
ways_none t u v a n p d w true e h f = p.none w (ltb-true w n e) (d.0 (set_of a) w (a / 4 * 4) f)
ways_none t u v a n p d w false e h f =
    let o : n ≤ w = ltb-false w n e in
    let z : w ≡ n = omega arith in
    d.1 (rw z at f)

pub ways_more : (t u v : List (List ℕ)) (a n : ℕ) → Ways t u a n → Fewer u v × (tag_at v (set_of a) n ≡ a / 4 * 4 + 1 → ⊥) → Ways t v a (n + 1)
ways_more t u v a n p d = record { fewer = fewer_yet t u v p.fewer d.0; none = λ w h f. ways_none t u v a n p d w (ltb w n) refl h f }

-- a word that is dropped has no entry in its set
gone : (t u : List (List ℕ)) (a : ℕ) → Dropped t u a → (s w b : ℕ) → w < 4 → set_of b ≡ s → tag_at u s w ≡ b + 1 → b ≡ a / 4 * 4 → ⊥
gone t u a d s w b l q p e =
    let f : set_of a ≡ s = omega arith in
    d.none w l (rw f (p ∙ rw e refl))

-- the words of the first byte and of the last are dropped, or are one word
pub both_dropped : (t u v : List (List ℕ)) (a n : ℕ) → 0 < n → Dropped t u a → Dropped u v (a + (n - 1)) → Fewer t v × (a % 4 + n ≤ 8 → Without v a n)
unfolding Fewer Without
both_dropped t u v a n h d e = (
  λ s w b p. d.fewer s w b (e.fewer s w b p),
  λ f s w b l q z p. two_words b a n h f z (gone t u a d s w b l q (e.fewer s w b p)) (gone u v (a + (n - 1)) e s w b l q p),
)

pub one_dropped : (t u : List (List ℕ)) (a n : ℕ) → 0 < n → (a + (n - 1)) / 4 ≡ a / 4 → Dropped t u a → Fewer t u × (a % 4 + n ≤ 8 → Without u a n)
unfolding Without
one_dropped t u a n h o d = (
  d.fewer,
  λ f s w b l q z p. two_words b a n h f z (gone t u a d s w b l q p) (λ e. gone t u a d s w b l q p (rw (← o) e)),
)

-- one word of a block more: of its first n none is left
pub record Part (t u : List (List ℕ)) (b n : ℕ) : Type 0 where
  pub fewer : Fewer t u
  pub none : (k s w c : ℕ) → k < n → w < 4 → set_of c ≡ s → tag_at u s w ≡ c + 1 → c ≡ b * 32 + 4 * k → ⊥

-- a word of a block is its own address
part_word : (b n : ℕ) → (b * 32 + 4 * n) / 4 * 4 ≡ b * 32 + 4 * n
part_word b n =
    let e : b * 32 + 4 * n ≡ (b * 8 + n) * 4 = omega arith in
    let c : (b * 8 + n) * 4 / 4 ≡ b * 8 + n = mul-div_cancel (b * 8 + n) (lit< tt) in
    rw (e, c) refl

part_none : (t u v : List (List ℕ)) (b n : ℕ) → Part t u b n → Dropped u v (b * 32 + 4 * n) → (k s w c : ℕ) → (x : Bool) → ltb k n ≡ x → k < n + 1 → w < 4
    → set_of c ≡ s → tag_at v s w ≡ c + 1 → c ≡ b * 32 + 4 * k → ⊥
unfolding Fewer
part_none t u v b n p d k s w c true e h l q g f = p.none k s w c (ltb-true k n e) l q (d.fewer s w c g) f
part_none t u v b n p d k s w c false e h l q g f =
    let o : n ≤ k = ltb-false k n e in
    let z : k ≡ n = omega arith in
    gone u v (b * 32 + 4 * n) d s w c l q g (f ∙ (rw (z, part_word b n) refl))

pub part_more : (t u v : List (List ℕ)) (b n : ℕ) → Part t u b n → Dropped u v (b * 32 + 4 * n) → Part t v b (n + 1)
unfolding Fewer
part_more t u v b n p d =
    record {
      fewer = λ i w c e. p.fewer i w c (d.fewer i w c e);
      none = λ k s w c h l q g f. part_none t u v b n p d k s w c (ltb k n) refl h l q g f;
    }

pub part_none_yet : (t : List (List ℕ)) (b : ℕ) → Part t t b 0
unfolding Fewer
part_none_yet t b = record { fewer = λ i w c e. e; none = λ k s w c h l q g f. omega arith }

pub eight_dropped : (t u : List (List ℕ)) (a : ℕ) → Part t u (a / 32) 8 → Fewer t u × Without u (a / 32 * 32) 32
unfolding Without
eight_dropped t u a p = (p.fewer, λ s w c l q z g. eight_words c a z (λ k h e. p.none k s w c h l q g e))
