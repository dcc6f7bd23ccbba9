-- Laws of the entries: none at the start, one found, one filled, a step. Assumes nothing.
use Prim.Native.Nat.{ℕ, ◌+◌, ◌<◌}
use native.Mathlib.Omega.{arith}
use mathlib.Core.Bool.{Bool, true, false}
use mathlib.Core.Path.{◌≡◌, refl, ◌∙◌, sym}
use mathlib.Core.List.{List, []}
use lib.ListN.{get_or, length, set, replicate, length-set, get_or-replicate, get_or-eq_default}
use lib.Seq.{get_or-set_same, get_or-set_other}
use lib.Dec.{eqb, ltb}
use borrow.Author.Tests.{eqb-true, eqb-false, ltb-true, ltb-false}
use Rattle.insn.specs.declared.profile.Profile.{Profile}
use Rattle.reading.specs.Reading.{reading_of}
use Rattle.reading.specs.declared.form.Form.{Form}
use Rattle.reading.specs.declared.reading.Reading.{Reading}
use Rattle.entries.specs.Tags.{tag_at, set_of}
use Rattle.entries.proofs.Nested.{nested_same, nested_other_way, nested_other_set}
use Rattle.entries.proofs.Drops.{other_ways, written}
use Rattle.perform.specs.Performed.{Still}
use Rattle.engine.specs.Engine.{kept_at, Good, Sized}

-- what stands where nothing is kept
abbrev none : Reading
none = record { word = 0; form = Form.Unaligned }

-- the kept words keep their counts
below_sets : (k : List (List Reading)) (s : ℕ) → s < 64 → Sized k → s < length k
below_sets k s h z = rw z.sets h

below_ways : (k : List (List Reading)) (s v : ℕ) → s < 64 → v < 4 → Sized k → v < length (get_or k s [])
below_ways k s v h l z = rw (z.ways s h) l

sized_ways : (k : List (List Reading)) (s v : ℕ) (x : Reading) → s < 64 → Sized k → (r : ℕ) → r < 64 → (b : Bool) → eqb r s ≡ b
    → length (get_or (set k s (set (get_or k s []) v x)) r []) ≡ 4
sized_ways k s v x h z r l true e =
    rw (eqb-true r s e, get_or-set_same k s (set (get_or k s []) v x) [] (below_sets k s h z)) (length-set (get_or k s []) v x ∙ z.ways s h)
sized_ways k s v x h z r l false e = rw (get_or-set_other k s r (set (get_or k s []) v x) [] (eqb-false r s e)) (z.ways r l)

pub sized_set : (k : List (List Reading)) (s v : ℕ) (x : Reading) → s < 64 → Sized k → Sized (set k s (set (get_or k s []) v x))
sized_set k s v x h z = record { sets = length-set k s (set (get_or k s []) v x) ∙ z.sets; ways = λ r l. sized_ways k s v x h z r l (eqb r s) refl }

pub sized_fresh : (x : Reading) → Sized (replicate 64 (replicate 4 x))
sized_fresh x = record { sets = refl; ways = λ s h. rw (get_or-replicate 64 s (replicate 4 x) [] h) refl }

pub kept_here : (k : List (List Reading)) (s v : ℕ) (x : Reading) → s < 64 → v < 4 → Sized k → kept_at (set k s (set (get_or k s []) v x)) s v ≡ x
kept_here k s v x hs hv z = nested_same k s v x none (below_sets k s hs z) (below_ways k s v hs hv z)

-- an entry is filled
module _ (p : Profile) (t : List (List ℕ)) (k : List (List Reading)) (m : List ℕ) (s v a : ℕ) (hs : s < 64) (hv : v < 4) (h : set_of a ≡ s) (z : Sized k) (g : Good p t k m) where
  filled_at : (r w b : ℕ) (x y : Bool) → eqb r s ≡ x → eqb w v ≡ y → w < 4
      → tag_at (set t s (set (get_or t s []) v (a + 1))) r w ≡ b + 1
      → (set_of b ≡ r) × (kept_at (set k s (set (get_or k s []) v (reading_of p m a))) r w ≡ reading_of p m b)
  unfolding Good
  filled_at r w b false y e f l q =
      let o = g r w b l (sym (nested_other_set t s v (a + 1) 0 r w (eqb-false r s e)) ∙ q) in
      (o.0, nested_other_set k s v (reading_of p m a) none r w (eqb-false r s e) ∙ o.1)
  filled_at r w b true false e f l q =
      let o = g s w b l (sym (other_ways t s v w (a + 1) (eqb-false w v f)) ∙ (rw (eqb-true r s e) at q)) in
      rw (eqb-true r s e) (o.0, nested_other_way k s v (reading_of p m a) none w (below_sets k s hs z) (eqb-false w v f) ∙ o.1)
  filled_at r w b true true e f l q =
      let y : a ≡ b = written t s v a b (rw (eqb-true r s e, eqb-true w v f) at q) in
      rw (eqb-true r s e, eqb-true w v f, ← y) (h, nested_same k s v (reading_of p m a) none (below_sets k s hs z) (below_ways k s v hs hv z))

  pub filled : Good p (set t s (set (get_or t s []) v (a + 1))) (set k s (set (get_or k s []) v (reading_of p m a))) m
  unfolding Good
  filled r w b l q = filled_at r w b (eqb r s) (eqb w v) refl refl l q

-- an entry is found
pub found : (p : Profile) (t : List (List ℕ)) (k : List (List Reading)) (m : List ℕ) (s w a : ℕ) → Good p t k m → w < 4 → tag_at t s w ≡ a + 1 → kept_at k s w ≡ reading_of p m a
unfolding Good
found p t k m s w a g l q = (g s w a l q).1

-- no entry at the start
no_way : (w : ℕ) (b : Bool) → ltb w 4 ≡ b → get_or (replicate {A = ℕ} 4 0) w 0 ≡ 0
no_way w true e = get_or-replicate {A = ℕ} 4 w 0 0 (ltb-true w 4 e)
no_way w false e = get_or-eq_default (replicate {A = ℕ} 4 0) 0 (ltb-false w 4 e)

no_tag : (s w : ℕ) (b : Bool) → ltb s 64 ≡ b → tag_at (replicate 64 (replicate {A = ℕ} 4 0)) s w ≡ 0
no_tag s w true e = rw (get_or-replicate 64 s (replicate {A = ℕ} 4 0) [] (ltb-true s 64 e)) (no_way w (ltb w 4) refl)
no_tag s w false e = rw (get_or-eq_default (replicate 64 (replicate {A = ℕ} 4 0)) [] (ltb-false s 64 e)) refl

pub none_yet : (p : Profile) (k : List (List Reading)) (m : List ℕ) → Good p (replicate 64 (replicate {A = ℕ} 4 0)) k m
unfolding Good
none_yet p k m s w a l q =
    let o : 0 ≡ a + 1 = sym (no_tag s w (ltb s 64) refl) ∙ q in
    absurd (omega arith)

-- a step leaves those entries whose words are as before
pub stepped : (p : Profile) (t u : List (List ℕ)) (k : List (List Reading)) (m n : List ℕ) → Good p t k m → Still t u m n → Good p u k n
unfolding Good Still reading_of
stepped p t u k m n g x s w a l q =
    let o = x s w a l q in
    let e = g s w a l o.0 in
    (e.0, e.1 ∙ rw (o.1 e.0) refl)
