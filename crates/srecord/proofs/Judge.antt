-- Laws of a record's refusal, a way through the code each; and of the verdict on what is left of a file. Assumes nothing.
use Prim.Native.Nat.{ℕ, zero, suc, ◌+◌, ◌*◌, ◌-◌, ◌%◌, ◌≤◌, ◌<◌}
use native.Mathlib.Omega.{arith}
use mathlib.Core.Bool.{true, false, not, ◌||◌}
use mathlib.Core.Path.{◌≡◌, refl, ap, sym, ◌∙◌}
use mathlib.Core.List.{List, ◌∷◌, ◌++◌}
use lib.Dec.{ltb, leb, eqb, lit≤}
use lib.ListN.{length, drop, drop_of_length-le}
use lib.Seq.{sets}
use borrow.Author.Tests.{lt-leb, le-leb, leb-true, eq-eqb, ne_eqb, ltb-true, not-true}
use Rattle.memory.specs.Access.{pick}
use Rattle.srecord.specs.Hex.{pair_at, bytes_at, all_bytes, number_from}
use Rattle.srecord.specs.Record.{malformed, holds, is_data, is_end, lines_of, ends_at, formed_at, held_at, record_at, record_of, width_of}
use Rattle.srecord.specs.Found.{kind_at, address_at, data_at, size_at, next_at, sum_in, end_of, found_at, found_of}
use Rattle.std.specs.Prelude.{Some, None, IfSome, Ok, Err, is_ok}
use Rattle.std.specs.Result.{result_and}
use Rattle.machine.specs.Refusal.{Checked, unless}
use Rattle.machine.specs.declared.refusal.Refusal.{Refusal}
use Rattle.machine.proofs.Refusals.{and_accepts, unless_accepts}
use Rattle.srecord.specs.File.{Seen, start, same_kind, at_line, places, any_in, check_data, check_end, check_count, check_record, check_line, after, after_line, refused_at, good, verdict, put, placed}
use Rattle.srecord.specs.declared.line.Head.{Head}
use Rattle.srecord.specs.declared.line.Record.{Record}
use Rattle.word.proofs.Truth.{never, and_true}
use Rattle.srecord.specs.Named.{StandsFor}
use Rattle.srecord.specs.Judged.{seen_of}
use Rattle.srecord.specs.declared.check.Sofar.{Sofar}
use Rattle.srecord.proofs.Spelt.{limit, limit_more, limit_le}
use Rattle.srecord.proofs.Formed.{decide, and_no, found_cases, none_cases, HeadIs, formed_garbled, formed_endless, formed_sum, sum_le, bytes_length, formed_is, formed_stands}
use Rattle.srecord.proofs.Lines.{first_at}

module _ (m t a n : ℕ) (s : Seen) where
  pub data_mixed : same_kind s.kind t ≡ false → Err Refusal.Record ≡ check_data m s t a n
  unfolding check_data
  data_mixed h = rw h

  module _ (h : same_kind s.kind t ≡ true) where
    pub data_none : n ≡ 0 → Ok tt ≡ check_data m s t a n
    unfolding check_data places any_in
    data_none e = rw (h, e)

    pub data_outside : (n ≡ 0 → ⊥) → m < a + n → Err Refusal.Outside ≡ check_data m s t a n
    unfolding check_data
    data_outside e l = rw (h, ne_eqb n 0 e, lt-leb (a + n) m l)

    pub data_inside : (n ≡ 0 → ⊥) → a + n ≤ m → check_data m s t a n ≡ unless (not (any_in (places a n) s.named)) Refusal.Twice
    unfolding check_data
    data_inside e l = rw (h, ne_eqb n 0 e, le-leb (a + n) m l)

  pub rec_ended : s.ended ≡ true → Err Refusal.Record ≡ check_record m s t a n
  unfolding check_record
  rec_ended e = rw e

  module _ (e : s.ended ≡ false) where
    pub rec_data : is_data t ≡ true → (check_record m s t a n ≡ check_data m s t a n) × ((after s t a n).named ≡ places a n ++ s.named)
    unfolding check_record after
    rec_data d = (rw (e, d), rw d)

    module _ (d : is_data t ≡ false) where
      pub rec_end : 7 ≤ t → (check_record m s t a n ≡ check_end s t) × ((after s t a n).named ≡ s.named)
      unfolding check_record after
      rec_end l = (rw (e, d, le-leb 7 t l), rw d)

      pub rec_count : t < 7 → t ≡ 5 → (check_record m s t a n ≡ check_count s a) × ((after s t a n).named ≡ s.named)
      unfolding check_record after
      rec_count l c = (rw (e, d, lt-leb 7 t l, eq-eqb t 5 c), rw d)

      pub rec_other : t < 7 → (t ≡ 5 → ⊥) → (Ok tt ≡ check_record m s t a n) × ((after s t a n).named ≡ s.named)
      unfolding check_record after
      rec_other l c = (rw (e, d, lt-leb 7 t l, ne_eqb t 5 c), rw d)

-- whether a type has data for memory, by where its digit lies
pub data_yes : (t : ℕ) → 1 ≤ t → t ≤ 3 → is_data t ≡ true
data_yes t l h = rw (le-leb 1 t l, le-leb t 3 h)

pub data_low : (t : ℕ) → t < 1 → is_data t ≡ false
data_low t l = rw (lt-leb 1 t l)

pub data_high : (t : ℕ) → 3 < t → is_data t ≡ false
data_high t h = rw (lt-leb t 3 h, and_no)

-- data that are not refused lie inside, and were not named before
pub record Fits (m a n : ℕ) (s : Seen) : Type 0 where
  pub inside : 0 < n → a + n ≤ m
  pub fresh : any_in (places a n) s.named ≡ false

data_fits : (m t a n : ℕ) (s : Seen) → is_ok (check_data m s t a n) ≡ true → Fits m a n s
unfolding check_data
data_fits m t a n s h =
    let x = and_accepts (unless (same_kind s.kind t) Refusal.Record) (result_and (unless (eqb n 0 || leb (a + n) m) Refusal.Outside) (unless (not (any_in (places a n) s.named)) Refusal.Twice)) h in
    let y = and_accepts (unless (eqb n 0 || leb (a + n) m) Refusal.Outside) (unless (not (any_in (places a n) s.named)) Refusal.Twice) x.1 in
    let z = unless_accepts (eqb n 0 || leb (a + n) m) Refusal.Outside y.0 in
    record {
      inside = λ l. leb-true (a + n) m (rw (ne_eqb n 0 (λ e. absurd (omega arith))) at z);
      fresh = not-true (any_in (places a n) s.named) (unless_accepts (not (any_in (places a n) s.named)) Refusal.Twice y.1);
    }

-- a record that is not refused comes before the end
pub record_going : (m t a n : ℕ) (s : Seen) → is_ok (check_record m s t a n) ≡ true → s.ended ≡ false
unfolding check_record
record_going m t a n s h =
    let x = and_accepts (unless (not s.ended) Refusal.Record) (pick (is_data t) (check_data m s t a n) (pick (is_end t) (check_end s t) (pick (eqb t 5) (check_count s a) (Ok tt)))) h in
    not-true s.ended (unless_accepts (not s.ended) Refusal.Record x.0)

pub record_fits : (m t a n : ℕ) (s : Seen) → is_ok (check_record m s t a n) ≡ true → is_data t ≡ true → Fits m a n s
record_fits m t a n s h d = data_fits m t a n s (rw (rec_data m t a n s (record_going m t a n s h) d).0 at h)

-- what stands at a place, formed or not
pub record_formed : (i : ℕ) (f : List ℕ) → formed_at f i ≡ true → record_at f i ≡ holds (kind_at f i) (address_at f i) (bytes_at (size_at f i) f (data_at f i))
unfolding record_at held_at address_at size_at data_at
record_formed i f h = rw h

pub record_bad : (i : ℕ) (f : List ℕ) → formed_at f i ≡ false → record_at f i ≡ malformed
unfolding record_at
record_bad i f h = rw h

pub record FoundIs (f : List ℕ) (i : ℕ) (q : Record) : Type 0 where
  pub formed : formed_at f i ≡ true
  pub kind : q.kind ≡ kind_at f i
  pub address : q.address ≡ address_at f i
  pub start : q.start ≡ data_at f i
  pub size : q.size ≡ size_at f i
  pub next : q.next ≡ next_at f i

pub found_is : (f : List ℕ) (i : ℕ) (q : Record) → found_of f i ≡ Some q → FoundIs f i q
unfolding found_of
found_is f i q h =
    let e = found_cases (formed_at f i) (found_at f i) q h in
    record {
      formed = e.0;
      kind = ap (λ (x : Record). x.kind) (sym e.1);
      address = ap (λ (x : Record). x.address) (sym e.1);
      start = ap (λ (x : Record). x.start) (sym e.1);
      size = ap (λ (x : Record). x.size) (sym e.1);
      next = ap (λ (x : Record). x.next) (sym e.1);
    }

pub found_bad : (f : List ℕ) (i : ℕ) → found_of f i ≡ None → formed_at f i ≡ false
unfolding found_of
found_bad f i h = none_cases (formed_at f i) (found_at f i) h

bytes_part : (n k p : ℕ) (f : List ℕ) → all_bytes (bytes_at (k + n) f p) ≡ true → all_bytes (bytes_at n f (p + 2 * k)) ≡ true
unfolding bytes_at all_bytes
bytes_part n zero p f h =
    let e : zero + n ≡ n = omega arith in
    let z : p + 2 * zero ≡ p = omega arith in
    rw z (rw e at h)
bytes_part n (suc k) p f h =
    let e : suc k + n ≡ suc (k + n) = omega arith in
    let z : p + 2 * suc k ≡ p + 2 + 2 * k = omega arith in
    let q = and_true (ltb (pair_at f p) 256) (all_bytes (bytes_at (k + n) f (p + 2))) (rw e at h) in
    rw z (bytes_part n k (p + 2) f q.1)

front_part : (n k p : ℕ) (f : List ℕ) → all_bytes (bytes_at (n + k) f p) ≡ true → all_bytes (bytes_at n f p) ≡ true
unfolding bytes_at all_bytes
front_part zero k p f h = refl
front_part (suc n) k p f h =
    let e : suc n + k ≡ suc (n + k) = omega arith in
    let q = and_true (ltb (pair_at f p) 256) (all_bytes (bytes_at (n + k) f (p + 2))) (rw e at h) in
    rw q.0 (front_part n k (p + 2) f q.1)

-- a line that is found part by part, and one that is not
module _ (f : List ℕ) (i : ℕ) where
  pub found_none : formed_at f i ≡ false → found_of f i ≡ None
  unfolding found_of
  found_none h = rw h

  module _ (h : Head) (d : HeadIs f i h) where
    bytes_none : all_bytes (bytes_at h.count f (i + 4)) ≡ false → found_of f i ≡ None
    bytes_none e = found_none (formed_garbled i f (rw d.count e))

    -- the address's bytes are the first of the line's
    pub address_none : all_bytes (bytes_at h.width f (i + 4)) ≡ false → found_of f i ≡ None
    address_none e =
        decide (all_bytes (bytes_at h.count f (i + 4)))
        (λ b.
        let z : h.width + (h.count - h.width) ≡ h.count = omega (arith, d.room.fits, d.width, d.count) in
        never (sym (front_part h.width (h.count - h.width) (i + 4) f (rw z b)) ∙ e))
        bytes_none

    pub sum_none : sum_in (bytes_at h.count f (i + 4)) ≡ None → found_of f i ≡ None
    sum_none e = bytes_none (none_cases (all_bytes (bytes_at h.count f (i + 4))) _ e)

    pub sum_small : (s : ℕ) → sum_in (bytes_at h.count f (i + 4)) ≡ Some s → s ≤ 65025
    sum_small s e =
        let q = found_cases (all_bytes (bytes_at h.count f (i + 4))) _ s e in
        omega (arith, q.1, sum_le (bytes_at h.count f (i + 4)) q.0, bytes_length h.count (i + 4) f, d.count, d.small)

    pub end_none : end_of f (i + 4 + 2 * h.count) ≡ None → found_of f i ≡ None
    unfolding end_of
    end_none e = found_none (formed_endless i f (rw d.count (none_cases (ends_at f (i + 4 + 2 * h.count)) _ e)))

    module _ (s n : ℕ) (b : sum_in (bytes_at h.count f (i + 4)) ≡ Some s) (e : end_of f (i + 4 + 2 * h.count) ≡ Some n) where
      sum_test : formed_at f i ≡ eqb ((h.count + s) % 256) 255
      unfolding end_of
      sum_test =
          let q = found_cases (all_bytes (bytes_at h.count f (i + 4))) _ s b in
          let x = found_cases (ends_at f (i + 4 + 2 * h.count)) _ n e in
          rw (d.count, q.1) at (formed_sum i f d.headed (rw d.count q.0) (rw d.count x.0))

      pub check_off : ((h.count + s) % 256 ≡ 255 → ⊥) → found_of f i ≡ None
      check_off o = found_none (sum_test ∙ ne_eqb _ 255 o)

      pub found_whole : (a : ℕ) → a ≡ number_from 0 (bytes_at h.width f (i + 4)) → (h.count + s) % 256 ≡ 255
          → found_of f i ≡ Some (record { kind = h.kind; address = a; start = i + 4 + 2 * h.width; size = h.count - 1 - h.width; next = n })
      unfolding found_of address_at data_at size_at next_at end_of
      found_whole a g o =
          let x = found_cases (ends_at f (i + 4 + 2 * h.count)) _ n e in
          rw (sum_test, eq-eqb ((h.count + s) % 256) 255 o, g, d.count, d.width, d.kind, x.1)

-- by cases on a check, with what it answers
pub result_cases : {C : Type 0} (c : Checked) → (c ≡ Ok tt → C) → ((r : Refusal) → c ≡ Err r → C) → C
result_cases (Ok tt) f g = f refl
result_cases (Err r) f g = g r refl

-- the lines from place i on, of which the first is line k
module _ (m i k : ℕ) (s : Seen) (f : List ℕ) where
  pub verdict_end : length f ≤ i → verdict m s k (lines_of (drop i f)) ≡ pick s.ended good (refused_at k Refusal.End)
  unfolding lines_of verdict
  verdict_end h = rw (drop_of_length-le f {i = i} h)

  pub verdict_bad : i < length f → formed_at f i ≡ false → verdict m s k (lines_of (drop i f)) ≡ refused_at k Refusal.Record
  unfolding verdict check_line
  verdict_bad h b =
      let q = first_at i f h in
      rw (q.lines, q.same, record_bad i f b)

  module _ (h : i < length f) (g : formed_at f i ≡ true) where
    check : Checked
    check = check_record m s (kind_at f i) (address_at f i) (size_at f i)

    verdict_step : verdict m s k (lines_of (drop i f))
        ≡ result_and (at_line k check) (verdict m (after s (kind_at f i) (address_at f i) (size_at f i)) (k + 1) (lines_of (drop (next_at f i) f)))
    unfolding verdict check_line after_line check
    verdict_step =
        let q = first_at i f h in
        rw (q.lines, q.same, record_formed i f g, q.next g, bytes_length (size_at f i) (data_at f i) f)

    pub verdict_stop : (r : Refusal) → check_record m s (kind_at f i) (address_at f i) (size_at f i) ≡ Err r → verdict m s k (lines_of (drop i f)) ≡ refused_at k r
    unfolding check
    verdict_stop r n = rw (verdict_step, n)

    pub verdict_goes : check_record m s (kind_at f i) (address_at f i) (size_at f i) ≡ Ok tt
        → verdict m s k (lines_of (drop i f)) ≡ verdict m (after s (kind_at f i) (address_at f i) (size_at f i)) (k + 1) (lines_of (drop (next_at f i) f))
    unfolding check
    verdict_goes e = rw (verdict_step, e)

number_below : (n k v p : ℕ) (f : List ℕ) → all_bytes (bytes_at n f p) ≡ true → v < limit k → number_from v (bytes_at n f p) < limit (n + k)
unfolding bytes_at all_bytes number_from
number_below zero k v p f h l = let e : zero + k ≡ k = omega arith in rw e l
number_below (suc n) k v p f h l =
    let q = and_true (ltb (pair_at f p) 256) (all_bytes (bytes_at n f (p + 2))) h in
    let e : suc n + k ≡ n + suc k = omega arith in
    rw e (number_below n (suc k) (v * 256 + pair_at f p) (p + 2) f q.1 (limit_more k v (pair_at f p) l (ltb-true (pair_at f p) 256 q.0)))

pub record Bounds (f : List ℕ) (i : ℕ) : Type 0 where
  pub kind : kind_at f i ≤ 9
  pub address : address_at f i ≤ 4311810304
  pub size : size_at f i ≤ 255
  pub bytes : data_at f i + 2 * size_at f i ≤ length f

pub found_bounds : (i : ℕ) (f : List ℕ) → formed_at f i ≡ true → Bounds f i
unfolding address_at size_at data_at
found_bounds i f h =
    let s = formed_stands i f h in
    let n = pair_at f (i + 2) in
    let w = width_of (kind_at f i) in
    let e : w + (n - w) ≡ n = omega (arith, s.room.fits) in
    let z : w + 0 ≡ w = omega arith in
    let b = front_part w (n - w) (i + 4) f (rw e (formed_is i f h).bytes) in
    let l = number_below w 0 0 (i + 4) f b (lit≤ tt) in
    record {
      kind = s.room.kind;
      address = omega (arith, rw z at l, limit_le w s.room.high);
      size = omega (arith, s.count);
      bytes = omega (arith, s.inside, s.room.fits);
    }

-- how far the check has come: the words stand for what the lines before named, and the verdict is that of the lines left
pub record Going (f : List ℕ) (m : ℕ) (ws : List ℕ) (so : Sofar) (at line : ℕ) : Type 0 where
  pub named : List ℕ
  pub words : StandsFor ws named
  pub same : verdict m start 1 (lines_of f) ≡ verdict m (seen_of so named) line (lines_of (drop at f))
  pub place : at ≤ length f
  pub count : so.count ≤ at
  pub number : line ≤ at + 1

pub after_count : (s : Seen) (t a n : ℕ) → (after s t a n).count ≤ s.count + 1
unfolding after
after_count s t a n = decide (is_data t) (λ e. rw e (omega arith)) (λ e. rw e (omega arith))

pub after_bounds : (s : Seen) (t a n : ℕ) → IfSome s.kind (λ (k : ℕ). k ≤ 9) → t ≤ 9 → IfSome (after s t a n).kind (λ (k : ℕ). k ≤ 9) × ((after s t a n).count ≤ s.count + 1)
unfolding after
after_bounds s t a n h l = (decide (is_data t) (λ e. rw e l) (λ e. rw e h), after_count s t a n)

-- a line that is not refused
pub verdict_good : (m i k : ℕ) (s : Seen) (f : List ℕ) → i < length f → is_ok (verdict m s k (lines_of (drop i f))) ≡ true
    → (formed_at f i ≡ true) × (check_record m s (kind_at f i) (address_at f i) (size_at f i) ≡ Ok tt)
verdict_good m i k s f h z =
    decide (formed_at f i)
    (λ g. (g, result_cases (check_record m s (kind_at f i) (address_at f i) (size_at f i)) (λ e. e) (λ r e. never (sym (rw (verdict_stop m i k s f h g r e) at z)))))
    (λ g. never (sym z ∙ ap is_ok (verdict_bad m i k s f h g)))

placed_cons : (m l : List ℕ) (ls : List (List ℕ)) → placed m (l ∷ ls) ≡ placed (put m (record_of l)) ls
unfolding placed
placed_cons m l ls = refl

put_holds : (m : List ℕ) (t a : ℕ) (d : List ℕ) → put m (holds t a d) ≡ pick (is_data t) (sets m a d) m
unfolding put
put_holds m t a d = refl

-- memory after the line at place i, and after the last
pub placed_more : (i : ℕ) (m f : List ℕ) → i < length f → formed_at f i ≡ true
    → placed m (lines_of (drop i f)) ≡ placed (pick (is_data (kind_at f i)) (sets m (address_at f i) (bytes_at (size_at f i) f (data_at f i))) m) (lines_of (drop (next_at f i) f))
placed_more i m f h g =
    let q = first_at i f h in
    ap (placed m) q.lines ∙ (placed_cons m q.line q.rest ∙ rw (q.same, record_formed i f g, q.next g, put_holds))

pub placed_end : (i : ℕ) (m f : List ℕ) → length f ≤ i → placed m (lines_of (drop i f)) ≡ m
unfolding placed lines_of
placed_end i m f h = rw (drop_of_length-le f {i = i} h)

-- how far the storing has come
pub record Storing (f m₀ m : List ℕ) (at : ℕ) : Type 0 where
  pub seen : Seen
  pub line : ℕ
  pub fine : is_ok (verdict (length m₀) seen line (lines_of (drop at f))) ≡ true
  pub same : placed m₀ (lines_of f) ≡ placed m (lines_of (drop at f))
  pub size : length m ≡ length m₀
  pub place : at ≤ length f

-- the data of a formed line are bytes
pub data_bytes : (i : ℕ) (f : List ℕ) → formed_at f i ≡ true → all_bytes (bytes_at (size_at f i) f (data_at f i)) ≡ true
unfolding size_at data_at
data_bytes i f h =
    let q = formed_is i f h in
    let s = formed_stands i f h in
    let n = pair_at f (i + 2) in
    let w = width_of (kind_at f i) in
    let e : w + (n - 1 - w + 1) ≡ n = omega (arith, s.room.fits) in
    let b = bytes_part (n - 1 - w + 1) w (i + 4) f (rw e q.bytes) in
    front_part (n - 1 - w) 1 (i + 4 + 2 * w) f b
