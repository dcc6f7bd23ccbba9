-- The digits of a number, one by one.
use Prim.Native.Nat.{ℕ, suc, ◌+◌, ◌*◌, ◌<◌, ◌≤◌}
use native.Mathlib.Omega.{arith}
use native.Mathlib.Nat.{suc-add, add-suc, add-zero}
use native.Mathlib.Numerals.{add-one}
use mathlib.Core.Path.{◌≡◌, refl, sym, ap, ◌∙◌, subst}
use mathlib.Core.Bool.{Bool, true, false}
use mathlib.Core.List.{List, [], ◌∷◌, ◌++◌, append_assoc, append-nil}
use lib.ListN.{length, get_or, drop, drop_of_length-le}
use lib.Seq.{drop-cons}
use lib.Dec.{ltb}
use lib.IntN.{pos}
use borrow.Author.Tests.{ltb-false, le-ltb}
use Rattle.expr.specs.Grammar.{pick, is_digit, Fac}
use Rattle.expr.specs.Evaluate.{base, digit_of, digits_value, in_range}
use Rattle.expr.specs.Scan.{AtF, St, step, step_done, done, finish, finish_f, scan}
use Rattle.expr.specs.Digits.{digits_from, grown}

pub digits_more : (s : List ℕ) (h : Bool) (v i : ℕ) → i < length s → is_digit h (get_or s i 0) ≡ true → digits_from h v i (drop i s) ≡ digits_from h (grown h v (get_or s i 0)) (i + 1) (drop (i + 1) s)
unfolding digits_from
digits_more s h v i l e = rw (drop-cons s i 0 l, e, add-one)

pub digits_stop : (s : List ℕ) (h : Bool) (v i : ℕ) → i < length s → is_digit h (get_or s i 0) ≡ false → digits_from h v i (drop i s) ≡ record { end = i; value = v }
unfolding digits_from
digits_stop s h v i l e = rw (drop-cons s i 0 l, e)

pub digits_end : (s : List ℕ) (h : Bool) (v i : ℕ) → length s ≡ i → digits_from h v i (drop i s) ≡ record { end = length s; value = v }
unfolding digits_from
digits_end s h v i e = let l : length s ≤ i = omega arith in rw (drop_of_length-le s l, e)

-- the digits that a text starts with
unfoldable pub taken : Bool → List ℕ → List ℕ
taken h [] = []
taken h (c ∷ cs) = let r = taken h cs in pick (is_digit h c) (c ∷ r) []

pub finish_done : (k : AtF) (f : Fac) (i : ℕ) → finish (done k f) i ≡ finish_f k f i
unfolding finish done finish_f
finish_done (AtF.begins k) f i = refl
finish_done (AtF.times p k) f i = refl
finish_done (AtF.negates k) f i = finish_done k (Fac.minus f) i

pub step_done_lem : (k : AtF) (f : Fac) (c : ℕ) → step (done k f) c ≡ step_done k f c
unfolding step done step_done
step_done_lem (AtF.begins k) f c = refl
step_done_lem (AtF.times p k) f c = refl
step_done_lem (AtF.negates k) f c = step_done_lem k (Fac.minus f) c

abbrev Goes : AtF → Bool → ℕ → List ℕ → ℕ → List ℕ → Type 0
Goes k h d ds i cs = scan (St.digits k h d ds) i cs ≡ scan (done k (Fac.num h d (ds ++ taken h cs))) (i + length (taken h cs)) (drop (length (taken h cs)) cs)

digits_case : (k : AtF) (h : Bool) (d : ℕ) (ds : List ℕ) (i c : ℕ) (cs : List ℕ) (b : Bool) → is_digit h c ≡ b → Goes k h d (ds ++ (c ∷ [])) (suc i) cs → Goes k h d ds i (c ∷ cs)
unfolding scan step taken finish
digits_case k h d ds i c cs true e ih = rw e (ih ∙ rw (append_assoc, suc-add, ← add-suc))
digits_case k h d ds i c cs false e ih = rw e (simp (append-nil, step_done_lem, finish_done, add-zero))

pub digits_scan : (k : AtF) (h : Bool) (d : ℕ) (ds : List ℕ) (i : ℕ) (cs : List ℕ) → Goes k h d ds i cs
unfolding scan taken finish
digits_scan k h d ds i [] = simp (append-nil, finish_done, add-zero)
digits_scan k h d ds i (c ∷ cs) = digits_case k h d ds i c cs (is_digit h c) refl (digits_scan k h d (ds ++ (c ∷ [])) (suc i) cs)

-- where the digits end
end_case : (h : Bool) (v i c : ℕ) (cs : List ℕ) (b : Bool) → is_digit h c ≡ b → (digits_from h (grown h v c) (suc i) cs).end ≡ suc i + length (taken h cs) → (digits_from h v i (c ∷ cs)).end ≡ i + length (taken h (c ∷ cs))
unfolding digits_from taken
end_case h v i c cs true e ih = rw e (omega arith)
end_case h v i c cs false e ih = rw e (omega arith)

pub digits_ended : (h : Bool) (v i : ℕ) (cs : List ℕ) → (digits_from h v i cs).end ≡ i + length (taken h cs)
unfolding digits_from taken
digits_ended h v i [] = omega arith
digits_ended h v i (c ∷ cs) = end_case h v i c cs (is_digit h c) refl (digits_ended h (grown h v c) (suc i) cs)

-- their value, or both from 2^31 on
data Alike (v w : ℕ) : Type 0 where
  equal : v ≡ w → Alike v w
  large : 0x8000_0000 ≤ v → 0x8000_0000 ≤ w → Alike v w

grown_case : (h : Bool) (v c : ℕ) (b : Bool) → ltb v 0x8000_0000 ≡ b → Alike (grown h v c) (v * base h + digit_of c)
unfolding grown
grown_case h v c true e = equal (simp e)
grown_case false v c false e = let l : 0x8000_0000 ≤ v = ltb-false v 0x8000_0000 e in large (rw e l) (omega arith)
grown_case true v c false e = let l : 0x8000_0000 ≤ v = ltb-false v 0x8000_0000 e in large (rw e l) (omega arith)

large_grown : (h : Bool) (v w c : ℕ) → 0x8000_0000 ≤ v → 0x8000_0000 ≤ w → Alike (grown h v c) (w * base h + digit_of c)
unfolding grown
large_grown false v w c l m = large (rw (le-ltb v 0x8000_0000 l) l) (omega arith)
large_grown true v w c l m = large (rw (le-ltb v 0x8000_0000 l) l) (omega arith)

alike_grown : (h : Bool) (v w c : ℕ) → Alike v w → Alike (grown h v c) (w * base h + digit_of c)
alike_grown h v w c (equal e) = subst (λ (x : ℕ). Alike (grown h v c) (x * base h + digit_of c)) e (grown_case h v c (ltb v 0x8000_0000) refl)
alike_grown h v w c (large l m) = large_grown h v w c l m

value_case : (h : Bool) (v w i c : ℕ) (cs : List ℕ) (b : Bool) → is_digit h c ≡ b → Alike v w → Alike (digits_from h (grown h v c) (suc i) cs).value (digits_value h (w * base h + digit_of c) (taken h cs)) → Alike (digits_from h v i (c ∷ cs)).value (digits_value h w (taken h (c ∷ cs)))
unfolding digits_from taken digits_value
value_case h v w i c cs true e a ih = rw e ih
value_case h v w i c cs false e a ih = rw e a

digits_valued : (h : Bool) (v w i : ℕ) (cs : List ℕ) → Alike v w → Alike (digits_from h v i cs).value (digits_value h w (taken h cs))
unfolding digits_from taken digits_value
digits_valued h v w i [] a = a
digits_valued h v w i (c ∷ cs) a = value_case h v w i c cs (is_digit h c) refl a (digits_valued h (grown h v c) (w * base h + digit_of c) (suc i) cs (alike_grown h v w c a))

alike_range : (at v w : ℕ) → Alike v w → in_range at (pos v) ≡ in_range at (pos w)
alike_range at v w (equal e) = ap (λ (x : ℕ). in_range at (pos x)) e
alike_range at v w (large l m) = simp (le-ltb v 0x8000_0000 l, le-ltb w 0x8000_0000 m)

pub digits_value_lem : (at i : ℕ) (h : Bool) (cs : List ℕ) → in_range at (pos (digits_from h 0 i cs).value) ≡ in_range at (pos (digits_value h 0 (taken h cs)))
digits_value_lem at i h cs = alike_range at _ _ (digits_valued h 0 0 i cs (equal refl))

-- what cannot tell numbers from 2^31 on apart
alike_any : {A : Type 0} (f : ℕ → A) (a : A) → ((v : ℕ) → 0x8000_0000 ≤ v → f v ≡ a) → (v w : ℕ) → Alike v w → f v ≡ f w
alike_any f a g v w (equal e) = ap f e
alike_any f a g v w (large l m) = g v l ∙ sym (g w m)

pub digits_any : {A : Type 0} (f : ℕ → A) (a : A) → ((v : ℕ) → 0x8000_0000 ≤ v → f v ≡ a) → (h : Bool) (i : ℕ) (cs : List ℕ) → f (digits_from h 0 i cs).value ≡ f (digits_value h 0 (taken h cs))
digits_any f a g h i cs = alike_any f a g _ _ (digits_valued h 0 0 i cs (equal refl))
