-- What an accepted file leaves: each byte that a record names is the record's, lies in memory and is named once, and every other byte
-- stays. Assumes nothing.
use Prim.Native.Nat.{ℕ, zero, suc, ◌+◌, ◌-◌, ◌≤◌, ◌<◌}
use native.Mathlib.Omega.{arith}
use mathlib.Core.Bool.{Bool, true, false, ◌&&◌, ◌||◌}
use mathlib.Core.Path.{◌≡◌, ap, refl, sym, ◌∙◌}
use mathlib.Core.List.{List, [], ◌∷◌}
use lib.Dec.{ltb, leb, eqb}
use lib.ListN.{length, get_or, set, length-set}
use lib.Seq.{sets, length-sets, get_or-set_same, get_or-set_other}
use borrow.Author.Tests.{le-leb, le-ltb, lt-leb, lt-ltb, eq-eqb, leb-true, ltb-true, ltb-false}
use Rattle.memory.specs.Access.{sized_of}
use Rattle.std.specs.Prelude.{is_ok}
use Rattle.word.proofs.Truth.{never, and_true, or_false}
use Rattle.word.proofs.Laws.{split}
use Rattle.srecord.specs.Record.{Line, malformed, holds, is_data, lines_of, record_of}
use Rattle.srecord.specs.File.{Seen, start, places, is_in, any_in, check_record, check_line, after, after_line, verdict, put, placed, read_of, memory_of}
use Rattle.srecord.proofs.Formed.{decide}
use Rattle.srecord.proofs.Naming.{in_append}
use Rattle.srecord.proofs.Judge.{result_cases, record_fits}

-- a line names the byte at x
unfoldable names : ℕ → Line → Bool
names x malformed = false
names x (holds t a d) = is_data t && leb a x && ltb x (a + length d)

unfoldable names_any : ℕ → List (List ℕ) → Bool
names_any x [] = false
names_any x (l ∷ ls) = names x (record_of l) || names_any x ls

other_kept : (vs l : List ℕ) (i x : ℕ) → (leb i x && ltb x (i + length vs)) ≡ false → get_or (sets l i vs) x 0 ≡ get_or l x 0
other_kept [] l i x h = refl
other_kept (v ∷ vs) l i x h =
    split x i
    (λ s. other_kept vs (set l i v) (suc i) x (rw (lt-leb (suc i) x (omega arith))) ∙ get_or-set_other l i x v 0 (λ e. absurd (omega arith)))
    (λ s.
    let u : ltb x (i + length (v ∷ vs)) ≡ false = rw (le-leb i x s) at h in
    let o : i + length (v ∷ vs) ≤ x = ltb-false x (i + length (v ∷ vs)) u in
    other_kept vs (set l i v) (suc i) x (rw (le-leb (suc i) x (omega arith), le-ltb x (suc i + length vs) (omega arith)))
    ∙ get_or-set_other l i x v 0 (λ e. absurd (omega arith)))

put_kept : (m : List ℕ) (x : ℕ) (l : Line) → names x l ≡ false → get_or (put m l) x 0 ≡ get_or m x 0
unfolding names put
put_kept m x malformed h = refl
put_kept m x (holds t a d) h =
    decide (is_data t)
    (λ e. rw e (other_kept d m a x (rw e at h)))
    (λ e. rw e)

-- bytes no record names stay
unnamed_stay : (ls : List (List ℕ)) (m : List ℕ) (x : ℕ) → names_any x ls ≡ false → get_or (placed m ls) x 0 ≡ get_or m x 0
unfolding names_any placed
unnamed_stay [] m x h = refl
unnamed_stay (l ∷ ls) m x h =
    let q = or_false (names x (record_of l)) (names_any x ls) h in
    unnamed_stay ls (put m (record_of l)) x q.1 ∙ put_kept m x (record_of l) q.0

or_left : (a b : Bool) → a ≡ true → (a || b) ≡ true
or_left a b e = rw e

or_right : (a b : Bool) → b ≡ true → (a || b) ≡ true
or_right true b e = refl
or_right false b e = e

any_true : (n a x : ℕ) (ys : List ℕ) → a ≤ x → x < a + n → is_in x ys ≡ true → any_in (places a n) ys ≡ true
unfolding places any_in
any_true zero a x ys l h e = absurd (omega arith)
any_true (suc n) a x ys l h e =
    split a x
    (λ s. or_right (is_in a ys) (any_in (places (suc a) n) ys) (any_true n (suc a) x ys (omega arith) (omega arith) e))
    (λ s. let z : x ≡ a = omega arith in or_left (is_in a ys) (any_in (places (suc a) n) ys) (rw z at e))

in_places : (n a x : ℕ) → a ≤ x → x < a + n → is_in x (places a n) ≡ true
unfolding places is_in
in_places zero a x l h = absurd (omega arith)
in_places (suc n) a x l h =
    split a x
    (λ s. or_right (eqb x a) (is_in x (places (suc a) n)) (in_places n (suc a) x (omega arith) (omega arith)))
    (λ s. or_left (eqb x a) (is_in x (places (suc a) n)) (eq-eqb x a (omega arith)))

line_fresh : (m x : ℕ) (s : Seen) (l : Line) → is_ok (check_line m s l) ≡ true → is_in x s.named ≡ true → names x l ≡ false
unfolding check_line names
line_fresh m x s malformed h i = refl
line_fresh m x s (holds t a d) h i =
    decide (is_data t && leb a x && ltb x (a + length d))
    (λ e.
    let p = and_true (is_data t && leb a x) (ltb x (a + length d)) e in
    let q = and_true (is_data t) (leb a x) p.0 in
    never (sym (any_true (length d) a x s.named (leb-true a x q.1) (ltb-true x (a + length d) p.1) i) ∙ (record_fits m t a (length d) s h q.0).fresh))
    (λ e. e)

line_keeps : (x : ℕ) (s : Seen) (l : Line) → is_in x s.named ≡ true → is_in x (after_line s l).named ≡ true
unfolding after_line after
line_keeps x s malformed h = h
line_keeps x s (holds t a d) h =
    decide (is_data t)
    (λ e. rw e (in_append x (places a (length d)) s.named ∙ or_right (is_in x (places a (length d))) (is_in x s.named) h))
    (λ e. rw e h)

-- a good file: its first line is good, and the others after it
pub verdict_cons : (m k : ℕ) (s : Seen) (l : List ℕ) (ls : List (List ℕ)) → is_ok (verdict m s k (l ∷ ls)) ≡ true
    → (is_ok (check_line m s (record_of l)) ≡ true) × (is_ok (verdict m (after_line s (record_of l)) (k + 1) ls) ≡ true)
unfolding verdict
verdict_cons m k s l ls h =
    result_cases (check_line m s (record_of l))
    (λ e. (ap is_ok e, rw e at h))
    (λ r e. never (sym (rw e at h)))

-- what was named is not named again
never_again : (ls : List (List ℕ)) (m x k : ℕ) (s : Seen) → is_ok (verdict m s k ls) ≡ true → is_in x s.named ≡ true → names_any x ls ≡ false
unfolding names_any
never_again [] m x k s h i = refl
never_again (l ∷ ls) m x k s h i =
    let q = verdict_cons m k s l ls h in
    rw (line_fresh m x s (record_of l) q.0 i) (never_again ls m x (k + 1) (after_line s (record_of l)) q.1 (line_keeps x s (record_of l) i))

stored_at : (vs l : List ℕ) (i j : ℕ) → j < length vs → i + length vs ≤ length l → get_or (sets l i vs) (i + j) 0 ≡ get_or vs j 0
stored_at [] l i j h k = absurd (omega arith)
stored_at (v ∷ vs) l i zero h k =
    let z : i + zero ≡ i = omega arith in
    rw z (other_kept vs (set l i v) (suc i) i (rw (lt-leb (suc i) i (omega arith))) ∙ get_or-set_same l i v 0 (omega arith))
stored_at (v ∷ vs) l i (suc j) h k =
    let z : i + suc j ≡ suc i + j = omega arith in
    rw z (stored_at vs (set l i v) (suc i) j (omega arith) (rw (length-set l i v) (omega arith)))

pub put_length : (m : List ℕ) (l : Line) → length (put m l) ≡ length m
unfolding put
put_length m malformed = refl
put_length m (holds t a d) = decide (is_data t) (λ e. rw e (length-sets m a d)) (λ e. rw e)

module _ (t a j : ℕ) (d : List ℕ) (data' : is_data t ≡ true) (j-lt : j < length d) where
  in_after : (s : Seen) → is_in (a + j) (after s t a (length d)).named ≡ true
  unfolding after
  in_after s = rw data' (in_append (a + j) (places a (length d)) s.named ∙ or_left (is_in (a + j) (places a (length d))) (is_in (a + j) s.named) (in_places (length d) a (a + j) (omega arith) (omega arith)))

  here : (m : List ℕ) (k : ℕ) (s : Seen) (ls : List (List ℕ)) → is_ok (check_record (length m) s t a (length d)) ≡ true
      → is_ok (verdict (length m) (after s t a (length d)) k ls) ≡ true → get_or (placed (put m (holds t a d)) ls) (a + j) 0 ≡ get_or d j 0
  unfolding put
  here m k s ls h g =
      unnamed_stay ls (put m (holds t a d)) (a + j) (never_again ls (length m) (a + j) k (after s t a (length d)) g (in_after s))
      ∙ rw data' (stored_at d m a j j-lt ((record_fits (length m) t a (length d) s h data').inside (omega arith)))

  stored : (i k : ℕ) (l : List ℕ) (ls : List (List ℕ)) (m : List ℕ) (s : Seen) → is_ok (verdict (length m) s k (l ∷ ls)) ≡ true → i < length (l ∷ ls)
      → record_of (get_or (l ∷ ls) i []) ≡ holds t a d → get_or (placed m (l ∷ ls)) (a + j) 0 ≡ get_or d j 0
  unfolding placed check_line after_line
  stored zero k l ls m s h b e =
      let q = verdict_cons (length m) k s l ls h in
      rw e (here m (k + 1) s ls (rw e at q.0) (rw e at q.1))
  stored (suc i) k l [] m s h b e = absurd (omega arith)
  stored (suc i) k l (l' ∷ ls) m s h b e =
      let q = verdict_cons (length m) k s l (l' ∷ ls) h in
      stored i (k + 1) l' ls (put m (record_of l)) (after_line s (record_of l)) (rw (put_length m (record_of l)) q.1) (omega arith) e

-- data of type t stand on line i + 1 of a file: bytes d, from address a on
pub record Has (f : List ℕ) (i t a : ℕ) (d : List ℕ) : Type 0 where
  pub line : i < length (lines_of f)
  pub record' : record_of (get_or (lines_of f) i []) ≡ holds t a d
  pub data' : is_data t ≡ true

line_none : (x : ℕ) (l : Line) → ((t a : ℕ) (d : List ℕ) → l ≡ holds t a d → is_data t ≡ true → a ≤ x → x < a + length d → ⊥) → names x l ≡ false
unfolding names
line_none x malformed h = refl
line_none x (holds t a d) h =
    decide (is_data t && leb a x && ltb x (a + length d))
    (λ e.
    let p = and_true (is_data t && leb a x) (ltb x (a + length d)) e in
    let q = and_true (is_data t) (leb a x) p.0 in
    absurd (h t a d refl q.0 (leb-true a x q.1) (ltb-true x (a + length d) p.1)))
    (λ e. e)

none_named : (ls : List (List ℕ)) (x : ℕ)
    → ((i t a : ℕ) (d : List ℕ) → i < length ls → record_of (get_or ls i []) ≡ holds t a d → is_data t ≡ true → a ≤ x → x < a + length d → ⊥) → names_any x ls ≡ false
unfolding names_any
none_named [] x h = refl
none_named (l ∷ ls) x h =
    rw (line_none x (record_of l) (λ t a d e. h 0 t a d (omega arith) e)) (none_named ls x (λ i t a d b e. h (suc i) t a d (omega arith) e))

any_each : (ls : List (List ℕ)) (x j : ℕ) → names_any x ls ≡ false → j < length ls → names x (record_of (get_or ls j [])) ≡ false
unfolding names_any
any_each [] x j h b = absurd (omega arith)
any_each (l ∷ ls) x zero h b = (or_false (names x (record_of l)) (names_any x ls) h).0
any_each (l ∷ ls) x (suc j) h b = any_each ls x j (or_false (names x (record_of l)) (names_any x ls) h).1 (omega arith)

names_in : (x t a : ℕ) (d : List ℕ) → is_data t ≡ true → a ≤ x → x < a + length d → names x (holds t a d) ≡ true
unfolding names
names_in x t a d e l h = rw (e, le-leb a x l, lt-ltb x (a + length d) h)

later : (i j k m x t a : ℕ) (d : List ℕ) (ls : List (List ℕ)) (s : Seen) → is_ok (verdict m s k ls) ≡ true → i < j → j < length ls
    → record_of (get_or ls i []) ≡ holds t a d → is_data t ≡ true → a ≤ x → x < a + length d → names x (record_of (get_or ls j [])) ≡ false
unfolding after_line
later i j k m x t a d [] s h l b e g p q = absurd (omega arith)
later i zero k m x t a d (y ∷ ys) s h l b e g p q = absurd (omega arith)
later zero (suc j) k m x t a d (y ∷ ys) s h l b e g p q =
    let z : a + (x - a) ≡ x = omega arith in
    let v = rw e at (verdict_cons m k s y ys h).1 in
    let i = rw z at (in_after t a (x - a) d g (omega arith) s) in
    any_each ys x j (never_again ys m x (k + 1) (after s t a (length d)) v i) (omega arith)
later (suc i) (suc j) k m x t a d (y ∷ ys) s h l b e g p q =
    later i j (k + 1) m x t a d ys (after_line s (record_of y)) (verdict_cons m k s y ys h).1 (omega arith) (omega arith) e g p q

inside : (i k m t a : ℕ) (d : List ℕ) (ls : List (List ℕ)) (s : Seen) → is_ok (verdict m s k ls) ≡ true → i < length ls
    → record_of (get_or ls i []) ≡ holds t a d → is_data t ≡ true → 0 < length d → a + length d ≤ m
unfolding check_line
inside i k m t a d [] s h b e g p = absurd (omega arith)
inside zero k m t a d (y ∷ ys) s h b e g p = (record_fits m t a (length d) s (rw e at (verdict_cons m k s y ys h).0) g).inside p
inside (suc i) k m t a d (y ∷ ys) s h b e g p = inside i (k + 1) m t a d ys (after_line s (record_of y)) (verdict_cons m k s y ys h).1 (omega arith) e g p

placed_length : (ls : List (List ℕ)) (m : List ℕ) → length (placed m ls) ≡ length m
unfolding placed
placed_length [] m = refl
placed_length (l ∷ ls) m = placed_length ls (put m (record_of l)) ∙ put_length m (record_of l)

-- of any file: a refusal leaves the memory, and its length stays
pub refused_stays : (m f : List ℕ) → is_ok (read_of (length m) f) ≡ false → memory_of m f ≡ m
unfolding memory_of
refused_stays m f h = rw h

pub memory_length : (m f : List ℕ) → length (memory_of m f) ≡ length m
unfolding memory_of
memory_length m f = decide (is_ok (read_of (length m) f)) (λ e. rw e (placed_length (lines_of f) m)) (λ e. rw e)

pub read_lines : (m : ℕ) (f : List ℕ) → is_ok (read_of m f) ≡ true → is_ok (verdict m start 1 (lines_of f)) ≡ true
unfolding read_of
read_lines m f h =
    decide (sized_of m)
    (λ e. rw e at h)
    (λ e. never (sym (rw e at h)))

pub read_sized : (m : ℕ) (f : List ℕ) → is_ok (read_of m f) ≡ true → sized_of m ≡ true
unfolding read_of
read_sized m f h = decide (sized_of m) (λ e. e) (λ e. never (sym (rw e at h)))

-- of a file that is accepted
module _ (m f : List ℕ) (ok : is_ok (read_of (length m) f) ≡ true) where
  memory_is : memory_of m f ≡ placed m (lines_of f)
  unfolding memory_of
  memory_is = rw ok

  -- the bytes of its records stand at their addresses
  pub named_stored : (i t a j : ℕ) (d : List ℕ) → Has f i t a d → j < length d → get_or (memory_of m f) (a + j) 0 ≡ get_or d j 0
  named_stored i t a j d h l = rw memory_is (by_lines (lines_of f) h.line h.record' (read_lines (length m) f ok))
    where
      by_lines : (ls : List (List ℕ)) → i < length ls → record_of (get_or ls i []) ≡ holds t a d → is_ok (verdict (length m) start 1 ls) ≡ true
          → get_or (placed m ls) (a + j) 0 ≡ get_or d j 0
      by_lines [] b e v = absurd (omega arith)
      by_lines (y ∷ ys) b e v = stored t a j d h.data' l i 1 y ys m start v b e

  -- and every other byte stays
  pub unnamed_stays : (x : ℕ) → ((i t a : ℕ) (d : List ℕ) → Has f i t a d → a ≤ x → x < a + length d → ⊥) → get_or (memory_of m f) x 0 ≡ get_or m x 0
  unnamed_stays x h =
      rw memory_is
      (unnamed_stay (lines_of f) m x (none_named (lines_of f) x (λ i t a d b e g. h i t a d (record { line = b; record' = e; data' = g }))))

  -- they lie in memory
  pub named_inside : (i t a j : ℕ) (d : List ℕ) → Has f i t a d → j < length d → a + j < length m
  named_inside i t a j d h l =
      let z : a + length d ≤ length m = inside i 1 (length m) t a d (lines_of f) start (read_lines (length m) f ok) h.line h.record' h.data' (omega arith) in
      omega arith

  -- and no two records name one of them
  pub named_once : (x i t a : ℕ) (d : List ℕ) (i' t' a' : ℕ) (d' : List ℕ) → Has f i t a d → Has f i' t' a' d'
      → a ≤ x → x < a + length d → a' ≤ x → x < a' + length d' → i ≡ i'
  named_once x i t a d i' t' a' d' h h' p q p' q' =
      split i i'
      (λ l. absurd (apart i t a d i' t' a' d' h h' p q p' q' l))
      (λ l. split i' i
      (λ l'. absurd (apart i' t' a' d' i t a d h' h p' q' p q l'))
      (λ l'. omega arith))
    where
      apart : (i t a : ℕ) (d : List ℕ) (i' t' a' : ℕ) (d' : List ℕ) → Has f i t a d → Has f i' t' a' d'
          → a ≤ x → x < a + length d → a' ≤ x → x < a' + length d' → i < i' → ⊥
      apart i t a d i' t' a' d' h h' p q p' q' l =
          never
          (sym (names_in x t' a' d' h'.data' p' q')
          ∙ (rw h'.record' at (later i i' 1 (length m) x t a d (lines_of f) start (read_lines (length m) f ok) l h'.line h.record' h.data' p q)))
