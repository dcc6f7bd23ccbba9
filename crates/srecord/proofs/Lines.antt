-- The first line of what is left of a file, and the record there: a reader by places agrees with a reader by lines. Assumes nothing.
use Prim.Native.Nat.{ℕ, zero, suc, ◌+◌, ◌*◌, ◌-◌, ◌≤◌, ◌<◌}
use native.Mathlib.Omega.{arith}
use native.Mathlib.Nat.{add_assoc, add-zero}
use mathlib.Core.Bool.{true}
use mathlib.Core.Logic.{◌⊎◌, inl, inr, ⊎_elim}
use mathlib.Core.Path.{◌≡◌, refl, ap, sym, ◌∙◌}
use mathlib.Core.List.{List, [], ◌∷◌}
use lib.Dec.{ltb, eqb}
use lib.ListN.{length, get_or, take, drop, length-drop, get_or-eq_default}
use lib.Seq.{get_or-drop, get_or-take, take_all, drop-drop}
use borrow.Author.Tests.{ltb-true, eqb-true, eqb-false, eq-eqb}
use Rattle.memory.specs.Access.{pick}
use Rattle.srecord.specs.Hex.{letter_of, digit_of, joined, pair_at, bytes_at, all_bytes}
use Rattle.srecord.specs.Record.{lines_of, width_of, ends_at, headed_at, formed_at, held_at, record_at, record_of}
use Rattle.srecord.specs.Found.{line_end, next_at}
use Rattle.word.proofs.Truth.{and_true}
use Rattle.word.proofs.Laws.{split}
use Rattle.srecord.proofs.Formed.{decide, and_no, headed_is, headed_yes, formed_is, formed_stands}

-- how long the first line is
unfoldable pub line_len : List ℕ → ℕ
line_len [] = 0
line_len (c ∷ cs) = let n = line_len cs in pick (eqb c 10) 1 (suc n)

-- the first line and the others
first_line : (c : ℕ) (cs : List ℕ) → lines_of (c ∷ cs) ≡ take (line_len (c ∷ cs)) (c ∷ cs) ∷ lines_of (drop (line_len (c ∷ cs)) (c ∷ cs))
unfolding lines_of line_len
first_line c [] = decide (eqb c 10) (λ e. rw e) (λ e. rw e)
first_line c (d ∷ ds) = decide (eqb c 10) (λ e. rw e) (λ e. rw (e, first_line d ds))

pub lines_first : (f : List ℕ) → 0 < length f → lines_of f ≡ take (line_len f) f ∷ lines_of (drop (line_len f) f)
lines_first [] h = absurd (omega arith)
lines_first (c ∷ cs) h = first_line c cs

-- a line feed ends the line
pub feed_len : (f : List ℕ) (j : ℕ) → get_or f j 0 ≡ 10 → line_len f ≤ suc j
unfolding line_len
feed_len [] j h = omega arith
feed_len (c ∷ cs) zero h = rw (eq-eqb c 10 h) (omega arith)
feed_len (c ∷ cs) (suc j) h = decide (eqb c 10) (λ e. rw e (omega arith)) (λ e. rw e (omega (arith, feed_len cs j h)))

-- the line is all there is, or a line feed ends it
pub record Feed (f : List ℕ) : Type 0 where
  pub at : ℕ
  pub len : line_len f ≡ suc at
  pub feed : get_or f at 0 ≡ 10

pub len_cases : (f : List ℕ) → (line_len f ≡ length f) ⊎ Feed f
unfolding line_len
len_cases [] = inl refl
len_cases (c ∷ cs) =
    decide (eqb c 10) (λ e. inr (record { at = 0; len = rw e; feed = eqb-true c 10 e }))
    (λ e. ⊎_elim (λ l. inl (rw e (ap suc l))) (λ q. inr (record { at = suc q.at; len = rw e (ap suc q.len); feed = q.feed })) (len_cases cs))

-- what stands from place i on is what the rest begins with
pub pair_shift : (i j : ℕ) (f : List ℕ) → pair_at (drop i f) j ≡ pair_at f (i + j)
unfolding pair_at
pair_shift i j f = rw (get_or-drop i f j 0, get_or-drop i f (j + 1) 0, add_assoc i j 1)

pub bytes_shift : (n i j : ℕ) (f : List ℕ) → bytes_at n (drop i f) j ≡ bytes_at n f (i + j)
unfolding bytes_at
bytes_shift zero i j f = refl
bytes_shift (suc n) i j f = rw (pair_shift i j f, bytes_shift n i (j + 2) f, add_assoc i j 2)

pub ends_shift : (i j : ℕ) (f : List ℕ) → ends_at (drop i f) j ≡ ends_at f (i + j)
unfolding ends_at
ends_shift i j f = rw (get_or-drop i f j 0, get_or-drop i f (j + 1) 0, add_assoc i j 1)

end_shift : (i j : ℕ) (f : List ℕ) → i + line_end (drop i f) j ≡ line_end f (i + j)
unfolding line_end
end_shift i j f =
    decide (eqb (get_or f (i + j) 0) 10)
    (λ e. rw (get_or-drop i f j 0, e) (omega arith))
    (λ e. rw (get_or-drop i f j 0, e) (omega arith))

at_zero : (i : ℕ) (f : List ℕ) → get_or (drop i f) 0 0 ≡ get_or f i 0
at_zero i f = get_or-drop i f 0 0 ∙ rw add-zero

headed_shift : (i : ℕ) (f : List ℕ) → headed_at (drop i f) 0 ≡ headed_at f i
unfolding headed_at
headed_shift i f = rw (at_zero i f, get_or-drop i f 1 0, pair_shift i 2 f)

formed_shift : (i : ℕ) (f : List ℕ) → formed_at (drop i f) 0 ≡ formed_at f i
unfolding formed_at
formed_shift i f =
    rw (headed_shift i f, pair_shift i 2 f, bytes_shift (pair_at f (i + 2)) i 4 f, ends_shift i (0 + 4 + 2 * pair_at f (i + 2)) f)
    (let e : i + (0 + 4 + 2 * pair_at f (i + 2)) ≡ i + 4 + 2 * pair_at f (i + 2) = omega arith in rw e)

held_shift : (i t n : ℕ) (f : List ℕ) → held_at (drop i f) 4 t n ≡ held_at f (i + 4) t n
unfolding held_at
held_shift i t n f = rw (bytes_shift (width_of t) i 4 f, bytes_shift (n - 1 - width_of t) i (4 + 2 * width_of t) f, add_assoc i 4 (2 * width_of t))

record_shift : (i : ℕ) (f : List ℕ) → record_at (drop i f) 0 ≡ record_at f i
unfolding record_at
record_shift i f = rw (formed_shift i f, pair_shift i 2 f, get_or-drop i f 1 0, held_shift i (get_or f (i + 1) 0 - 48) (pair_at f (i + 2)) f)

-- no digit is a line feed
pair_feed : (m j : ℕ) (x : List ℕ) → get_or x j 0 ≡ 10 → m ≤ j → j ≤ m + 1 → pair_at x m ≡ 256
unfolding pair_at joined letter_of digit_of
pair_feed m j x h l u =
    split m j
    (λ s. let e : j ≡ m + 1 = omega arith in rw (rw e at h, and_no))
    (λ s. let e : j ≡ m = omega arith in rw (rw e at h))

-- two lists that agree up to a line feed
module _ (x y : List ℕ) (j : ℕ) (feed : get_or x j 0 ≡ 10) (agree : (m : ℕ) → m ≤ j → get_or x m 0 ≡ get_or y m 0) where
  feed' : get_or y j 0 ≡ 10
  feed' = sym (agree j (omega arith)) ∙ feed

  pair_agree : (m : ℕ) → m ≤ j → pair_at x m ≡ pair_at y m
  unfolding pair_at
  pair_agree m l =
      split m j
      (λ s. rw (agree m l, agree (m + 1) (omega arith)))
      (λ s. pair_feed m j x feed l (omega arith) ∙ sym (pair_feed m j y feed' l (omega arith)))

  bytes_agree : (n m : ℕ) → m + 2 * n ≤ suc j → bytes_at n x m ≡ bytes_at n y m
  unfolding bytes_at
  bytes_agree zero m l = refl
  bytes_agree (suc n) m l = rw (pair_agree m (omega arith), bytes_agree n (m + 2) (omega arith))

  all_agree : (n m : ℕ) → m ≤ j → all_bytes (bytes_at n x m) ≡ all_bytes (bytes_at n y m)
  unfolding bytes_at all_bytes
  all_agree zero m l = refl
  all_agree (suc n) m l =
      split (m + 1) j
      (λ s. rw (pair_agree m l, all_agree n (m + 2) (omega arith)))
      (λ s. rw (pair_feed m j x feed l s, pair_feed m j y feed' l s))

  -- spelt bytes stand before the line feed
  all_before : (n m : ℕ) → m ≤ j → all_bytes (bytes_at n x m) ≡ true → m + 2 * n ≤ j
  unfolding bytes_at all_bytes
  all_before zero m l h = omega arith
  all_before (suc n) m l h =
      let q = and_true (ltb (pair_at x m) 256) (all_bytes (bytes_at n x (m + 2))) h in
      split (m + 1) j
      (λ s. omega (arith, all_before n (m + 2) (omega arith) q.1))
      (λ s. absurd (omega (arith, ltb-true (pair_at x m) 256 q.0, pair_feed m j x feed l s)))

  ends_agree : (m : ℕ) → m ≤ j → ends_at x m ≡ ends_at y m
  unfolding ends_at
  ends_agree m l =
      split m j
      (λ s. rw (agree m l, agree (m + 1) (omega arith)))
      (λ s. let e : m ≡ j = omega arith in rw (e, feed, feed'))

  headed_agree : headed_at x 0 ≡ headed_at y 0
  unfolding headed_at
  headed_agree =
      split 1 j
      (λ s. rw (agree 0 (omega arith), agree 1 (omega arith), pair_agree 2 s))
      (λ s. split 0 j
      (λ z. let e : j ≡ 1 = omega arith in rw (rw e at feed, rw e at feed', and_no, and_no))
      (λ z. let e : j ≡ 0 = omega arith in rw (rw e at feed, rw e at feed')))

  -- a head stands before the line feed
  headed_before : headed_at x 0 ≡ true → 4 ≤ j
  headed_before h =
      let q = headed_is 0 x h in
      split 3 j (λ s. s)
      (λ s. absurd
      (split 1 j
      (λ u. omega (arith, q.count, pair_feed 2 j x feed u s))
      (λ u. split 0 j
      (λ z. let e : j ≡ 1 = omega arith in omega (arith, q.digit, rw e at feed))
      (λ z. let e : j ≡ 0 = omega arith in omega (arith, q.letter, rw e at feed)))))

  -- the parts of a formed line stand before the line feed
  formed_before : formed_at x 0 ≡ true → 4 + 2 * pair_at x 2 ≤ j
  formed_before h =
      let q = formed_is 0 x h in
      all_before (pair_at x 2) 4 (headed_before (headed_yes 0 x h)) q.bytes

  formed_agree : formed_at x 0 ≡ formed_at y 0
  unfolding formed_at
  formed_agree =
      decide (headed_at x 0)
      (λ h.
      let b : 4 ≤ j = headed_before h in
      let p : pair_at x 2 ≡ pair_at y 2 = pair_agree 2 (omega arith) in
      decide (all_bytes (bytes_at (pair_at x 2) x 4))
      (λ a.
      let k : 4 + 2 * pair_at x 2 ≤ j = all_before (pair_at x 2) 4 b a in
      let e : bytes_at (pair_at x 2) x 4 ≡ bytes_at (pair_at y 2) y 4 = bytes_agree (pair_at x 2) 4 (omega arith) ∙ rw p in
      rw (← headed_agree, e, ends_agree (4 + 2 * pair_at x 2) k, p))
      (λ a. rw (← headed_agree, ← p, ← (all_agree (pair_at x 2) 4 b), a, and_no)))
      (λ h. rw (← headed_agree, h))

  record_agree : record_at x 0 ≡ record_at y 0
  unfolding record_at held_at
  record_agree =
      decide (formed_at x 0)
      (λ h.
      let b : 4 + 2 * pair_at x 2 ≤ j = formed_before h in
      let s = formed_stands 0 x h in
      let p : pair_at x 2 ≡ pair_at y 2 = pair_agree 2 (omega arith) in
      let t : get_or x 1 0 ≡ get_or y 1 0 = agree 1 (omega arith) in
      let u = bytes_agree (width_of (get_or x 1 0 - 48)) 4 (omega (arith, s.room.fits)) in
      let v = bytes_agree (pair_at x 2 - 1 - width_of (get_or x 1 0 - 48)) (4 + 2 * width_of (get_or x 1 0 - 48)) (omega (arith, s.room.fits)) in
      rw (← formed_agree, h, u, v, p, t))
      (λ h. rw (← formed_agree, h))

-- a line is the record that what it begins holds
line_record : (x : List ℕ) → record_of (take (line_len x) x) ≡ record_at x 0
line_record x =
    ⊎_elim
    (λ l. rw (l, take_all (length x) x (omega arith)))
    (λ q. sym
    (record_agree x (take (line_len x) x) q.at q.feed
    (λ m l. sym (get_or-take (line_len x) x m 0 (omega (arith, q.len))))))
    (len_cases x)

end_cases : (x : List ℕ) (p : ℕ) → ends_at x p ≡ true → get_or x (line_end x p - 1) 0 ≡ 10
unfolding ends_at line_end
end_cases x p h =
    decide (eqb (get_or x p 0) 10)
    (λ e. rw e (let z : p + 1 - 1 ≡ p = omega arith in rw z (eqb-true (get_or x p 0) 10 e)))
    (λ e.
    let q = and_true (eqb (get_or x p 0) 13) (eqb (get_or x (p + 1) 0) 10) (rw e at h) in
    rw e (let z : p + 2 - 1 ≡ p + 1 = omega arith in rw z (eqb-true (get_or x (p + 1) 0) 10 q.1)))

end_bounds : (x : List ℕ) (p : ℕ) → (p < line_end x p) × (line_end x p ≤ p + 2)
unfolding line_end
end_bounds x p = decide (eqb (get_or x p 0) 10) (λ e. rw e (omega arith, omega arith)) (λ e. rw e (omega arith, omega arith))

-- a line feed at or after the place is not before the end
end_before : (x : List ℕ) (p j : ℕ) → ends_at x p ≡ true → get_or x j 0 ≡ 10 → p ≤ j → line_end x p ≤ suc j
unfolding ends_at line_end
end_before x p j h f l =
    decide (eqb (get_or x p 0) 10)
    (λ e. rw e (omega arith))
    (λ e. rw e (split p j (λ s. omega arith) (λ s. absurd (eqb-false (get_or x p 0) 10 e (let z : p ≡ j = omega arith in rw z f)))))

pub inside_feed : (x : List ℕ) (j : ℕ) → get_or x j 0 ≡ 10 → j < length x
inside_feed x j h = split j (length x) (λ l. l) (λ l. absurd (omega (arith, get_or-eq_default x 0 {n = j} l)))

-- a formed line ends where its record does
formed_len : (x : List ℕ) → formed_at x 0 ≡ true → line_len x ≡ line_end x (4 + 2 * pair_at x 2)
formed_len x h =
    let p = 4 + 2 * pair_at x 2 in
    let q = formed_is 0 x h in
    let f : get_or x (line_end x p - 1) 0 ≡ 10 = end_cases x p q.ends in
    let a : line_len x ≤ suc (line_end x p - 1) = feed_len x (line_end x p - 1) f in
    let i : line_end x p - 1 < length x = inside_feed x (line_end x p - 1) f in
    let b = (end_bounds x p).0 in
    ⊎_elim
    (λ l. omega arith)
    (λ r. omega (arith, r.len, end_before x p r.at q.ends r.feed (formed_before x x r.at r.feed (λ m l. refl) h)))
    (len_cases x)

-- the first line from place i on
pub record First (f : List ℕ) (i : ℕ) : Type 0 where
  pub line : List ℕ
  pub rest : List (List ℕ)
  pub lines : lines_of (drop i f) ≡ line ∷ rest
  pub same : record_of line ≡ record_at f i
  pub next : formed_at f i ≡ true → rest ≡ lines_of (drop (next_at f i) f)

next_is : (i : ℕ) (f : List ℕ) → formed_at f i ≡ true → i + line_len (drop i f) ≡ next_at f i
unfolding next_at
next_is i f h =
    let e = formed_len (drop i f) (formed_shift i f ∙ h) in
    let z : i + (4 + 2 * pair_at f (i + 2)) ≡ i + 4 + 2 * pair_at f (i + 2) = omega arith in
    ap (λ (n : ℕ). i + n) e ∙ rw (pair_shift i 2 f, end_shift i (4 + 2 * pair_at f (i + 2)) f, z)

pub first_at : (i : ℕ) (f : List ℕ) → i < length f → First f i
first_at i f h =
    let n : 0 < length (drop i f) = simp length-drop (omega arith) in
    record {
      line = take (line_len (drop i f)) (drop i f);
      rest = lines_of (drop (line_len (drop i f)) (drop i f));
      lines = lines_first (drop i f) n;
      same = line_record (drop i f) ∙ record_shift i f;
      next = λ g. rw (drop-drop, next_is i f g);
    }

-- the next line begins later, and in the file or at its end
pub next_bounds : (i : ℕ) (f : List ℕ) → formed_at f i ≡ true → (i < next_at f i) × (next_at f i ≤ length f)
unfolding next_at
next_bounds i f h =
    let p = i + 4 + 2 * pair_at f (i + 2) in
    let q = formed_is i f h in
    let g : get_or f (line_end f p - 1) 0 ≡ 10 = end_cases f p q.ends in
    (omega (arith, (end_bounds f p).0), omega (arith, inside_feed f (line_end f p - 1) g))
