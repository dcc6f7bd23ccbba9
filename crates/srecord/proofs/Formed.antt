-- Laws of a well-formed line: where it can stand, and what it has. Assumes nothing.
use Prim.Native.Nat.{ℕ, zero, suc, ◌+◌, ◌*◌, ◌-◌, ◌%◌, ◌≤◌, ◌<◌}
use native.Mathlib.Omega.{arith}
use mathlib.Core.Bool.{Bool, true, false, not, ◌&&◌}
use mathlib.Core.Path.{◌≡◌, refl, ap, sym, ◌∙◌}
use mathlib.Core.List.{List, [], ◌∷◌}
use lib.Dec.{ltb, leb, eqb, lit≤}
use lib.ListN.{length, get_or, get_or-eq_default}
use borrow.Author.Tests.{lt-ltb, le-leb, lt-leb, ltb-true, leb-true, eqb-true, eqb-false, ne_eqb, not-true}
use Rattle.std.specs.Prelude.{Some, None}
use Rattle.memory.specs.Access.{pick}
use Rattle.srecord.specs.Hex.{letter_of, digit_of, joined, pair_at, bytes_at, all_bytes, sum_of}
use Rattle.srecord.specs.Record.{widths, width_of, room_for, ends_at, headed_at, formed_at}
use Rattle.srecord.specs.Found.{kind_at, head_of}
use Rattle.srecord.specs.declared.line.Head.{Head}
use Rattle.word.proofs.Truth.{never, and_true, and_yes}
use Rattle.word.proofs.Laws.{split}

pub and_no : (a : Bool) → (a && false) ≡ false
and_no true = refl
and_no false = refl

-- by cases on a test, with what it says
pub decide : {C : Type 0} (t : Bool) → (t ≡ true → C) → (t ≡ false → C) → C
decide true f g = f refl
decide false f g = g refl

pub width_le : (t : ℕ) → width_of t ≤ 4
unfolding width_of
width_le zero = lit≤ tt
width_le (suc zero) = lit≤ tt
width_le (suc (suc zero)) = lit≤ tt
width_le (suc (suc (suc zero))) = lit≤ tt
width_le (suc (suc (suc (suc zero)))) = lit≤ tt
width_le (suc (suc (suc (suc (suc zero))))) = lit≤ tt
width_le (suc (suc (suc (suc (suc (suc zero)))))) = lit≤ tt
width_le (suc (suc (suc (suc (suc (suc (suc zero))))))) = lit≤ tt
width_le (suc (suc (suc (suc (suc (suc (suc (suc zero)))))))) = lit≤ tt
width_le (suc (suc (suc (suc (suc (suc (suc (suc (suc zero))))))))) = lit≤ tt
width_le (suc (suc (suc (suc (suc (suc (suc (suc (suc (suc t)))))))))) = lit≤ tt

pub width_ge : (t : ℕ) → (width_of t ≡ 0 → ⊥) → (2 ≤ width_of t) × (t ≤ 9)
unfolding width_of
width_ge zero h = (lit≤ tt, lit≤ tt)
width_ge (suc zero) h = (lit≤ tt, lit≤ tt)
width_ge (suc (suc zero)) h = (lit≤ tt, lit≤ tt)
width_ge (suc (suc (suc zero))) h = (lit≤ tt, lit≤ tt)
width_ge (suc (suc (suc (suc zero)))) h = absurd (h refl)
width_ge (suc (suc (suc (suc (suc zero))))) h = (lit≤ tt, lit≤ tt)
width_ge (suc (suc (suc (suc (suc (suc zero)))))) h = absurd (h refl)
width_ge (suc (suc (suc (suc (suc (suc (suc zero))))))) h = (lit≤ tt, lit≤ tt)
width_ge (suc (suc (suc (suc (suc (suc (suc (suc zero)))))))) h = (lit≤ tt, lit≤ tt)
width_ge (suc (suc (suc (suc (suc (suc (suc (suc (suc zero))))))))) h = (lit≤ tt, lit≤ tt)
width_ge (suc (suc (suc (suc (suc (suc (suc (suc (suc (suc t)))))))))) h = absurd (h refl)

pub width_out : (t : ℕ) → 10 ≤ t → width_of t ≡ 0
unfolding width_of
width_out t h = get_or-eq_default widths 0 {n = t} h

pub pair_outside : (p : ℕ) (f : List ℕ) → length f < p + 2 → pair_at f p ≡ 256
unfolding pair_at joined letter_of digit_of
pair_outside p f h =
    let l : length f ≤ p + 1 = omega arith in
    rw (get_or-eq_default f 0 {n = p + 1} l, and_no)

pub pair_inside : (p : ℕ) (f : List ℕ) → pair_at f p < 256 → p + 2 ≤ length f
pair_inside p f h = split (length f) (p + 2) (λ l. absurd (let e = pair_outside p f l in omega arith)) (λ l. l)

pub bytes_inside : (n p : ℕ) (f : List ℕ) → p ≤ length f → all_bytes (bytes_at n f p) ≡ true → p + 2 * n ≤ length f
unfolding bytes_at all_bytes
bytes_inside zero p f l h = omega arith
bytes_inside (suc n) p f l h =
    let x = and_true (ltb (pair_at f p) 256) (all_bytes (bytes_at n f (p + 2))) h in
    let i = pair_inside p f (ltb-true (pair_at f p) 256 x.0) in
    omega (arith, bytes_inside n (p + 2) f i x.1)

pub bytes_length : (n p : ℕ) (f : List ℕ) → length (bytes_at n f p) ≡ n
unfolding bytes_at
bytes_length zero p f = refl
bytes_length (suc n) p f = ap suc (bytes_length n (p + 2) f)

pub sum_le : (bs : List ℕ) → all_bytes bs ≡ true → sum_of bs ≤ 255 * length bs
unfolding all_bytes sum_of
sum_le [] h = omega arith
sum_le (b ∷ bs) h =
    let x = and_true (ltb b 256) (all_bytes bs) h in
    omega (arith, ltb-true b 256 x.0, sum_le bs x.1)

pub ends_outside : (p : ℕ) (f : List ℕ) → length f ≤ p → ends_at f p ≡ false
unfolding ends_at
ends_outside p f h = rw (get_or-eq_default f 0 {n = p} h)

pub ends_last : (p : ℕ) (f : List ℕ) → length f ≤ p + 1 → (get_or f p 0 ≡ 10 → ⊥) → ends_at f p ≡ false
unfolding ends_at
ends_last p f h n = rw (ne_eqb (get_or f p 0) 10 n, get_or-eq_default f 0 {n = p + 1} h, and_no)

pub headed_short : (i : ℕ) (f : List ℕ) → length f < i + 4 → headed_at f i ≡ false
unfolding headed_at
headed_short i f h =
    let e : pair_at f (i + 2) ≡ 256 = pair_outside (i + 2) f (omega arith) in
    rw (e, and_no)

pub formed_short : (i : ℕ) (f : List ℕ) → length f < i + 4 → formed_at f i ≡ false
unfolding formed_at
formed_short i f h = rw (headed_short i f h)

pub formed_headless : (i : ℕ) (f : List ℕ) → headed_at f i ≡ false → formed_at f i ≡ false
unfolding formed_at
formed_headless i f h = rw h

pub formed_endless : (i : ℕ) (f : List ℕ) → ends_at f (i + 4 + 2 * pair_at f (i + 2)) ≡ false → formed_at f i ≡ false
unfolding formed_at
formed_endless i f h = rw (h, and_no)

pub formed_garbled : (i : ℕ) (f : List ℕ) → all_bytes (bytes_at (pair_at f (i + 2)) f (i + 4)) ≡ false → formed_at f i ≡ false
unfolding formed_at
formed_garbled i f h = rw (h, and_no)

pub formed_sum : (i : ℕ) (f : List ℕ) → headed_at f i ≡ true → all_bytes (bytes_at (pair_at f (i + 2)) f (i + 4)) ≡ true
    → ends_at f (i + 4 + 2 * pair_at f (i + 2)) ≡ true
    → formed_at f i ≡ eqb ((pair_at f (i + 2) + sum_of (bytes_at (pair_at f (i + 2)) f (i + 4))) % 256) 255
unfolding formed_at
formed_sum i f h b e = rw (h, b, e)

-- what is found, or not
pub found_cases : {A : Type 0} (b : Bool) (x y : A) → pick b (Some x) None ≡ Some y → (b ≡ true) × (x ≡ y)
found_cases true x y h = (refl, cc)
found_cases false x y h = let z : ◌≡◌ {A = ℕ} 0 1 = cc in absurd (omega arith)

pub none_cases : {A : Type 0} (b : Bool) (x : A) → pick b (Some x) None ≡ None → b ≡ false
none_cases true x h = cc
none_cases false x h = refl

pub record Headed (f : List ℕ) (i : ℕ) : Type 0 where
  pub letter : get_or f i 0 ≡ 83
  pub digit : 48 ≤ get_or f (i + 1) 0
  pub count : pair_at f (i + 2) < 256
  pub room : room_for (get_or f (i + 1) 0 - 48) (pair_at f (i + 2)) ≡ true

pub headed_is : (i : ℕ) (f : List ℕ) → headed_at f i ≡ true → Headed f i
unfolding headed_at
headed_is i f h =
    let x = and_true (eqb (get_or f i 0) 83 && leb 48 (get_or f (i + 1) 0) && ltb (pair_at f (i + 2)) 256) (room_for (get_or f (i + 1) 0 - 48) (pair_at f (i + 2))) h in
    let y = and_true (eqb (get_or f i 0) 83 && leb 48 (get_or f (i + 1) 0)) (ltb (pair_at f (i + 2)) 256) x.0 in
    let z = and_true (eqb (get_or f i 0) 83) (leb 48 (get_or f (i + 1) 0)) y.0 in
    record {
      letter = eqb-true (get_or f i 0) 83 z.0;
      digit = leb-true 48 (get_or f (i + 1) 0) z.1;
      count = ltb-true (pair_at f (i + 2)) 256 y.1;
      room = x.1;
    }

pub record Formed (f : List ℕ) (i : ℕ) : Type 0 where
  pub head : Headed f i
  pub bytes : all_bytes (bytes_at (pair_at f (i + 2)) f (i + 4)) ≡ true
  pub ends : ends_at f (i + 4 + 2 * pair_at f (i + 2)) ≡ true

pub formed_is : (i : ℕ) (f : List ℕ) → formed_at f i ≡ true → Formed f i
unfolding formed_at
formed_is i f h =
    let n = pair_at f (i + 2) in
    let x = and_true (headed_at f i && all_bytes (bytes_at n f (i + 4)) && ends_at f (i + 4 + 2 * n)) (eqb ((n + sum_of (bytes_at n f (i + 4))) % 256) 255) h in
    let y = and_true (headed_at f i && all_bytes (bytes_at n f (i + 4))) (ends_at f (i + 4 + 2 * n)) x.0 in
    let z = and_true (headed_at f i) (all_bytes (bytes_at n f (i + 4))) y.0 in
    record { head = headed_is i f z.0; bytes = z.1; ends = y.1 }

-- what a line's head is, or that it has none
module _ (f : List ℕ) (i : ℕ) where
  pub head_bare : get_or f (i + 1) 0 < 48 → head_of f i ≡ None
  unfolding head_of headed_at
  head_bare h = rw (lt-leb 48 (get_or f (i + 1) 0) h, and_no)

  pub head_wide : width_of (get_or f (i + 1) 0 - 48) ≡ 0 → head_of f i ≡ None
  unfolding head_of headed_at room_for
  head_wide h = rw (h, and_no)

  pub head_odd : pair_at f (i + 2) ≡ 256 → head_of f i ≡ None
  unfolding head_of headed_at
  head_odd h = rw (h, and_no)

  pub head_is : (k w n : ℕ) → 48 ≤ get_or f (i + 1) 0 → get_or f (i + 1) 0 - 48 ≡ k → width_of k ≡ w → (w ≡ 0 → ⊥) → pair_at f (i + 2) ≡ n → n < 256
      → head_of f i ≡ pick (eqb (get_or f i 0) 83 && pick (leb k 3) (ltb w n) (eqb n (w + 1))) (Some (record { kind = k; width = w; count = n })) None
  unfolding head_of headed_at room_for
  head_is k w n l e g z p q = rw (le-leb 48 (get_or f (i + 1) 0) l, e, g, p, lt-ltb n 256 q, ne_eqb w 0 z, and_yes (eqb (get_or f i 0) 83) {b = true} refl, and_yes (eqb (get_or f i 0) 83) {b = true} refl)

-- the count has room for an address and the check byte
pub record Room (t n : ℕ) : Type 0 where
  pub low : 2 ≤ width_of t
  pub high : width_of t ≤ 4
  pub kind : t ≤ 9
  pub fits : width_of t < n

room_cases : (t n : ℕ) (b : Bool) → pick b (ltb (width_of t) n) (eqb n (width_of t + 1)) ≡ true → width_of t < n
room_cases t n true h = ltb-true (width_of t) n h
room_cases t n false h = omega (arith, eqb-true n (width_of t + 1) h)

pub room_is : (t n : ℕ) → room_for t n ≡ true → Room t n
unfolding room_for
room_is t n h =
    let x = and_true (not (eqb (width_of t) 0)) (pick (leb t 3) (ltb (width_of t) n) (eqb n (width_of t + 1))) h in
    let w = width_ge t (eqb-false (width_of t) 0 (not-true (eqb (width_of t) 0) x.0)) in
    record { low = w.0; high = width_le t; kind = w.1; fits = room_cases t n (leb t 3) x.1 }

-- what the head of a line is
pub record HeadIs (f : List ℕ) (i : ℕ) (h : Head) : Type 0 where
  pub headed : headed_at f i ≡ true
  pub kind : kind_at f i ≡ h.kind
  pub width : width_of (kind_at f i) ≡ h.width
  pub count : pair_at f (i + 2) ≡ h.count
  pub small : pair_at f (i + 2) < 256
  pub room : Room (kind_at f i) (pair_at f (i + 2))

pub head_found : (f : List ℕ) (i : ℕ) (h : Head) → head_of f i ≡ Some h → HeadIs f i h
unfolding head_of
head_found f i h e =
    let q = found_cases (headed_at f i) _ h e in
    let d = headed_is i f q.0 in
    record {
      headed = q.0;
      kind = ap (λ (x : Head). x.kind) q.1;
      width = ap (λ (x : Head). x.width) q.1;
      count = ap (λ (x : Head). x.count) q.1;
      small = d.count;
      room = room_is (kind_at f i) (pair_at f (i + 2)) d.room;
    }

pub head_none : (f : List ℕ) (i : ℕ) → head_of f i ≡ None → headed_at f i ≡ false
unfolding head_of
head_none f i e = none_cases (headed_at f i) _ e

pub ends_inside : (p : ℕ) (f : List ℕ) → ends_at f p ≡ true → p < length f
ends_inside p f h = split p (length f) (λ l. l) (λ l. never (sym h ∙ ends_outside p f l))

-- where the parts of a formed line stand
pub record Stands (f : List ℕ) (i : ℕ) : Type 0 where
  pub room : Room (get_or f (i + 1) 0 - 48) (pair_at f (i + 2))
  pub count : pair_at f (i + 2) < 256
  pub inside : i + 4 + 2 * pair_at f (i + 2) < length f

pub formed_stands : (i : ℕ) (f : List ℕ) → formed_at f i ≡ true → Stands f i
formed_stands i f h =
    let x = formed_is i f h in
    record { room = room_is (get_or f (i + 1) 0 - 48) (pair_at f (i + 2)) x.head.room; count = x.head.count; inside = ends_inside (i + 4 + 2 * pair_at f (i + 2)) f x.ends }

pub headed_yes : (i : ℕ) (f : List ℕ) → formed_at f i ≡ true → headed_at f i ≡ true
headed_yes i f h = decide (headed_at f i) (λ e. e) (λ e. never (sym h ∙ formed_headless i f e))
