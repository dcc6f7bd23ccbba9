-- Laws of printing: what the stores of a row come to.
use Prim.Native.Nat.{ℕ, zero, suc, ◌+◌, ◌-◌, ◌*◌, ◌/◌, ◌%◌, ◌≤◌, ◌<◌, zero-le}
use native.Mathlib.Omega.{arith}
use mathlib.Core.Path.{◌≡◌, refl, sym, ap, ◌∙◌}
use mathlib.Core.List.{List, [], ◌∷◌, ◌++◌}
use lib.ListN.{length, get_or, drop, set, length-append, drop_of_length-le}
use lib.Seq.{sets, length-sets, drop-cons}
use lib.Dec.{eqb, ltb}
use mathlib.Core.Bool.{Bool, true, false, ◌||◌}
use Rattle.expr.specs.Grammar.{pick}
use borrow.Author.Tests.{lt-ltb, le-ltb}
use Rattle.syntax.specs.Syntax.{signed, unsigned, target, frame, Item, lit, reg, zreg, num}
use Rattle.syntax.specs.LineOf.{decimal, signed_text, number_text}
use Rattle.syntax.proofs.Walk.{pattern_cons}
use Rattle.syntax.specs.Inside.{Queue, range_of, item_at, pattern_of, operand_text, queue_after, printed, wide_item, wide}

-- w stored from a place on, and where it ends
abbrev pub Put : List ℕ → ℕ → List ℕ → ℕ → List ℕ → Type 0
Put l i w j m = (j ≡ i + length w) × (m ≡ sets l i w)

sets_at : (xs ys l : List ℕ) (i : ℕ) → sets (sets l i xs) (i + length xs) ys ≡ sets l i (xs ++ ys)
sets_at [] ys l i =
    let z : i + 0 ≡ i = omega arith in
    rw z
sets_at (x ∷ xs) ys l i =
    let z : i + suc (length xs) ≡ suc i + length xs = omega arith in
    rw z (sets_at xs ys (set l i x) (suc i))

-- stores one after the other are one run of stores
pub then : (xs ys l m n : List ℕ) (i j k : ℕ) → Put l i xs j m → Put m j ys k n → Put l i (xs ++ ys) k n
then xs ys l m n i j k p q =
    (simp length-append (omega arith), q.1 ∙ rw (p.1, p.0) (sets_at xs ys l i))

-- a number's digits: a lone one, or the last after those before it
pub put_one : (k n d : ℕ) (l m : List ℕ) (i j : ℕ) → 0 < k → n < 10 → d ≡ 48 + n → Put l i (d ∷ []) j m → Put l i (decimal k n) j m
unfolding decimal
put_one k n d l m i j p h e q =
    let s : k ≡ suc (k - 1) = omega arith in
    rw (s, lt-ltb n 10 h, ← e) q

pub put_more : (k n d : ℕ) (l m o : List ℕ) (i h j : ℕ) → 0 < k → 10 ≤ n → d ≡ 48 + n % 10 → Put l i (decimal (k - 1) (n / 10)) h m → Put m h (d ∷ []) j o → Put l i (decimal k n) j o
unfolding decimal
put_more k n d l m o i h j p g e q r =
    let s : k ≡ suc (k - 1) = omega arith in
    rw (s, le-ltb n 10 g, ← e) (then (decimal (k - 1) (n / 10)) (d ∷ []) l m o i h j q r)

-- so that the last digit has its place
pub decimal_length : (k n : ℕ) → length (decimal k n) ≤ k
unfolding decimal
decimal_length zero n = omega arith
decimal_length (suc k) n = either (ltb n 10) (decimal_length k (n / 10))
  where
    either : (b : Bool) → length (decimal k (n / 10)) ≤ k → length (pick b ((48 + n) ∷ []) (decimal k (n / 10) ++ ((48 + n % 10) ∷ []))) ≤ suc k
    either true h = omega arith
    either false h = simp length-append (omega arith)

-- a number of a signed field, and one below 0
pub put_plus : (unit h n : ℕ) (l m : List ℕ) (i j : ℕ) → n < h → Put l i (decimal 8 (unit * n)) j m → Put l i (signed_text unit h n) j m
unfolding signed_text
put_plus unit h n l m i j p q = rw (lt-ltb n h p) q

pub put_minus : (unit h n d : ℕ) (l m o : List ℕ) (i g j : ℕ) → h ≤ n → d ≡ 2 * h - n → Put l i (45 ∷ []) g m → Put m g (decimal 8 (unit * d)) j o → Put l i (signed_text unit h n) j o
unfolding signed_text
put_minus unit h n d l m o i g j p e q r =
    rw (le-ltb n h p, ← e) (then (45 ∷ []) (decimal 8 (unit * d)) l m o i g j q r)

-- the text of a number by its letter in a row
pub number_text_lem : (c n : ℕ)
    → number_text (range_of c) n ≡ pick (eqb c 83) (signed_text 1 0x8000 n) (pick (eqb c 85 || eqb c 78 || eqb c 76 || eqb c 67 || eqb c 80 || eqb c 69) (decimal 8 n) (pick (eqb c 70) (signed_text 8 0x1000 n) (pick (eqb c 74) (signed_text 4 0x80_0000 n) (signed_text 4 0x2000 n))))
unfolding range_of
number_text_lem c n = by (eqb c 83) (eqb c 85) (eqb c 78) (eqb c 76) (eqb c 67) (eqb c 80) (eqb c 69) (eqb c 70) (eqb c 74)
  where
    by : (s u f l b p e d j : Bool)
        → number_text (pick s (signed 0x8000) (pick u (unsigned 0x1_0000) (pick f (unsigned 32) (pick l (unsigned 64) (pick b (unsigned 4) (pick p (unsigned 1024) (pick e (unsigned 2) (pick d (frame 0x1000) (pick j (target 0x80_0000) (target 0x2000)))))))))) n
        ≡ pick s (signed_text 1 0x8000 n) (pick (u || f || l || b || p || e) (decimal 8 n) (pick d (signed_text 8 0x1000 n) (pick j (signed_text 4 0x80_0000 n) (signed_text 4 0x2000 n))))
    by true u f l b p e d j = refl
    by false true f l b p e d j = refl
    by false false true l b p e d j = refl
    by false false false true b p e d j = refl
    by false false false false true p e d j = refl
    by false false false false false true e d j = refl
    by false false false false false false true d j = refl
    by false false false false false false false true j = refl
    by false false false false false false false false true = refl
    by false false false false false false false false false = refl

-- an operand takes at most nine bytes
pub signed_length : (unit h n : ℕ) → length (signed_text unit h n) ≤ 9
unfolding signed_text
signed_length unit h n = by (ltb n h)
  where
    by : (b : Bool) → length (pick b (decimal 8 (unit * n)) (45 ∷ decimal 8 (unit * (2 * h - n)))) ≤ 9
    by true = omega (arith, decimal_length 8 (unit * n))
    by false = omega (arith, decimal_length 8 (unit * (2 * h - n)))

text_length : (x : Item) (n : ℕ) → length (operand_text x n) ≤ wide_item x
text_length (lit c) n = omega arith
text_length reg n = omega (arith, decimal_length 2 n)
text_length zreg n = by (eqb n 0)
  where
    by : (b : Bool) → length (pick b (48 ∷ []) (114 ∷ decimal 2 n)) ≤ 9
    by true = omega arith
    by false = omega (arith, decimal_length 2 n)
text_length (num (signed h)) n = signed_length 1 h n
text_length (num (unsigned m)) n = omega (arith, decimal_length 8 n)
text_length (num (target h)) n = signed_length 4 h n
text_length (num (frame h)) n = signed_length 8 h n

-- a row printed as far as a place of it: what is left to print
pub record Going (out₀ row : List ℕ) (fields : Queue) (out : List ℕ) (q : Queue) (at j : ℕ) : Type 0 where
  pub inside : j ≤ length row
  pub same : length out ≡ length out₀
  pub room : at + wide (pattern_of (drop j row)) ≤ length out
  pub ends : at + length (printed (pattern_of (drop j row)) q) ≡ length (printed (pattern_of row) fields)
  pub writes : sets out at (printed (pattern_of (drop j row)) q) ≡ sets out₀ 0 (printed (pattern_of row) fields)

module _ (out₀ row : List ℕ) (fields : Queue) where
  pub going : wide (pattern_of row) ≤ length out₀ → Going out₀ row fields out₀ fields 0 0
  going h = record { inside = zero-le; same = refl; room = omega arith; ends = omega arith; writes = refl }

  module _ (out : List ℕ) (q : Queue) (at j : ℕ) (g : Going out₀ row fields out q at j) where
    -- the row ends, or a semicolon stands there
    gone : pattern_of (drop j row) ≡ [] → (at ≡ length (printed (pattern_of row) fields)) × (out ≡ sets out₀ 0 (printed (pattern_of row) fields))
    unfolding printed
    gone e =
        let ends : at + 0 ≡ length (printed (pattern_of row) fields) = rw e at g.ends in
        (omega arith, rw e at g.writes)

    pub gone_end : length row ≤ j → (at ≡ length (printed (pattern_of row) fields)) × (out ≡ sets out₀ 0 (printed (pattern_of row) fields))
    unfolding pattern_of
    gone_end h = gone (rw (drop_of_length-le row h))

    pub gone_stop : j < length row → get_or row j 0 ≡ 59 → (at ≡ length (printed (pattern_of row) fields)) × (out ≡ sets out₀ 0 (printed (pattern_of row) fields))
    unfolding pattern_of
    gone_stop h e = gone (rw (drop-cons row j 0 h, e))

    -- an item more
    pub item_room : j < length row → (get_or row j 0 ≡ 59 → ⊥) → at + wide_item (item_at (get_or row j 0)) ≤ length out
    unfolding wide
    item_room h n =
        let room : at + (wide_item (item_at (get_or row j 0)) + wide (pattern_of (drop (j + 1) row))) ≤ length out = rw (pattern_cons row j h n) at g.room in
        omega arith

    pub going_on : (out' : List ℕ) (q' : Queue) (at' : ℕ) (x : Item) → j < length row → (get_or row j 0 ≡ 59 → ⊥) → x ≡ item_at (get_or row j 0)
        → Put out at (operand_text x q.a) at' out' → q' ≡ queue_after x q → Going out₀ row fields out' q' at' (j + 1)
    unfolding printed wide
    going_on out' q' at' x h n r p e =
        let xs : List Item = pattern_of (drop (j + 1) row) in
        let t : List ℕ = operand_text x q.a in
        let more : pattern_of (drop j row) ≡ x ∷ xs = pattern_cons row j h n ∙ ap (λ (y : Item). y ∷ xs) (sym r) in
        let room : at + (wide_item x + wide xs) ≤ length out = rw more at g.room in
        let ends : at + length (t ++ printed xs (queue_after x q)) ≡ length (printed (pattern_of row) fields) = rw more at g.ends in
        let writes : sets out at (t ++ printed xs (queue_after x q)) ≡ sets out₀ 0 (printed (pattern_of row) fields) = rw more at g.writes in
        let kept : length out' ≡ length out = ap length p.1 ∙ length-sets out at t in
        record {
          inside = omega arith;
          same = kept ∙ g.same;
          room = omega (arith, text_length x q.a);
          ends = rw e (omega (arith, simp length-append at ends));
          writes = rw (e, p.1, p.0) (sets_at t (printed xs (queue_after x q)) out at ∙ writes);
        }
