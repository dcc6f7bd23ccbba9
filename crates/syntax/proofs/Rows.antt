-- The rows of a letter: each stands for its instruction, and the furthest of their columns is where no line of any goes on.
use Prim.Native.Nat.{ℕ, zero, suc, ◌+◌, ◌*◌, ◌≤◌, ◌<◌}
use native.Mathlib.Omega.{arith}
use native.Mathlib.Nat.{zero-add}
use mathlib.Core.Path.{◌≡◌, refl, sym, ap, ◌∙◌, subst}
use mathlib.Core.Bool.{Bool, true, false, not, ◌&&◌, ◌||◌}
use mathlib.Core.Logic.{◌⊎◌, inl, inr, ⊎_elim}
use mathlib.Core.List.{List, [], ◌∷◌}
use borrow.Author.Tests.{ltb-true, ltb-false, eqb-true, eqb-false, leb-true, not-true}
use lib.Dec.{eqb, ltb, leb}
use lib.ListN.{length, get_or}
use Rattle.expr.specs.Grammar.{pick}
use Rattle.expr.proofs.Cases.{split_eq, clash}
use Rattle.std.proofs.lemmas.Bool.{and_parts, or_cases}
use Rattle.insn.specs.Valid.{valid_of}
use Rattle.insn.specs.Write.{word_of}
use Rattle.insn.specs.declared.instr.Instr.{Instr}
use Rattle.syntax.specs.Syntax.{Range, signed, unsigned, target, frame, Item, lit, reg, zreg, num, shape_of, plain}
use Rattle.syntax.specs.Line.{Part, Line, line_end, line_more, fits_lit, texts, text_of}
use Rattle.syntax.specs.Take.{Result, all, stopped, take_line, well_made}
use Rattle.syntax.specs.Inside.{Operands, Spot, Place, pattern_at, word_at, eq_item, eq_items, kind_of, limit_of, eq_range, operand_count, wide, well_formed, row_matches, matches_from, matches, no_operands, gathered, spot_with, spot_of, larger, tried, rows_from}
use Rattle.std.specs.Prelude.{Ok, Err}
use Rattle.expr.specs.declared.Stuck.{Stuck}
use Rattle.syntax.specs.declared.table.Found.{Found}

-- ---- rows that match

-- a range from its kind and its limit
abbrev range_with : ℕ → ℕ → Range
range_with zero n = signed n
range_with (suc zero) n = unsigned n
range_with (suc (suc zero)) n = target n
range_with (suc (suc (suc k))) n = frame n

range_is : (r : Range) → range_with (kind_of r) (limit_of r) ≡ r
range_is (signed h) = refl
range_is (unsigned m) = refl
range_is (target h) = refl
range_is (frame h) = refl

eq_range_lem : (r q : Range) → eq_range r q ≡ true → r ≡ q
eq_range_lem r q e =
    let b : (eqb (kind_of r) (kind_of q) ≡ true) × (eqb (limit_of r) (limit_of q) ≡ true) = and_parts _ _ e in
    sym (range_is r) ∙ rw (eqb-true (kind_of r) (kind_of q) b.0, eqb-true (limit_of r) (limit_of q) b.1) (range_is q)

eq_item_lem : (x y : Item) → eq_item x y ≡ true → x ≡ y
eq_item_lem (lit a) (lit b) e = ap lit (eqb-true a b e)
eq_item_lem (lit a) reg e = clash e
eq_item_lem (lit a) zreg e = clash e
eq_item_lem (lit a) (num r) e = clash e
eq_item_lem reg (lit b) e = clash e
eq_item_lem reg reg e = refl
eq_item_lem reg zreg e = clash e
eq_item_lem reg (num r) e = clash e
eq_item_lem zreg (lit b) e = clash e
eq_item_lem zreg reg e = clash e
eq_item_lem zreg zreg e = refl
eq_item_lem zreg (num r) e = clash e
eq_item_lem (num r) (lit b) e = clash e
eq_item_lem (num r) reg e = clash e
eq_item_lem (num r) zreg e = clash e
eq_item_lem (num r) (num q) e = ap num (eq_range_lem r q e)

eq_items_lem : (xs ys : List Item) → eq_items xs ys ≡ true → xs ≡ ys
unfolding eq_items
eq_items_lem [] [] e = refl
eq_items_lem [] (y ∷ ys) e = clash e
eq_items_lem (x ∷ xs) [] e = clash e
eq_items_lem (x ∷ xs) (y ∷ ys) e =
    let b : (eq_item x y ≡ true) × (eq_items xs ys ≡ true) = and_parts (eq_item x y) (eq_items xs ys) e in
    ap (λ (z : Item). z ∷ xs) (eq_item_lem x y b.0) ∙ ap (λ (zs : List Item). y ∷ zs) (eq_items_lem xs ys b.1)

-- a row that stands for an instruction
pub record Right (t : List ℕ) (n : ℕ) (i : Instr) : Type 0 where
  pub shape : pattern_at t n ≡ shape_of i
  pub word : word_at t n ≡ word_of i
  pub made : well_made (shape_of i) ≡ true
  pub few : operand_count (shape_of i) ≤ 5
  pub narrow : wide (shape_of i) ≤ 64
  pub valid : valid_of i ≡ true
  pub bare : plain i ≡ true

row_right : (t : List ℕ) (n : ℕ) (i : Instr) → row_matches t n i ≡ true → Right t n i
unfolding row_matches well_formed
row_right t n i e =
    let p : List Item = pattern_at t n in
    let a : (eq_items p (shape_of i) ≡ true) × ((eqb (word_at t n) (word_of i) && ((well_made p && (leb (operand_count p) 5 && leb (wide p) 64)) && (valid_of i && plain i))) ≡ true) = and_parts _ _ e in
    let b : (eqb (word_at t n) (word_of i) ≡ true) × (((well_made p && (leb (operand_count p) 5 && leb (wide p) 64)) && (valid_of i && plain i)) ≡ true) = and_parts _ _ a.1 in
    let d : ((well_made p && (leb (operand_count p) 5 && leb (wide p) 64)) ≡ true) × ((valid_of i && plain i) ≡ true) = and_parts _ _ b.1 in
    let f : (well_made p ≡ true) × ((leb (operand_count p) 5 && leb (wide p) 64) ≡ true) = and_parts _ _ d.0 in
    let g : (leb (operand_count p) 5 ≡ true) × (leb (wide p) 64 ≡ true) = and_parts _ _ f.1 in
    let h : (valid_of i ≡ true) × (plain i ≡ true) = and_parts _ _ d.1 in
    let q : p ≡ shape_of i = eq_items_lem p (shape_of i) a.0 in
    record {
      shape = q;
      word = eqb-true _ _ b.0;
      made = rw q at f.0;
      few = subst (λ (x : List Item). operand_count x ≤ 5) q (leb-true (operand_count p) 5 g.0);
      narrow = subst (λ (x : List Item). wide x ≤ 64) q (leb-true (wide p) 64 g.1);
      valid = h.0;
      bare = h.1;
    }

rows_right : (is : List Instr) (m : ℕ) (t : List ℕ) (n : ℕ) (d : Instr) → matches_from m t is ≡ true → n < length is → Right t (m + n) (get_or is n d)
unfolding matches_from
rows_right [] m t n d e l = let z : ⊥ = omega arith in absurd z
rows_right (i ∷ is) m t zero d e l = let b : (row_matches t m i ≡ true) × (matches_from (suc m) t is ≡ true) = and_parts _ _ e in let q : m + 0 ≡ m = omega arith in rw q (row_right t m i b.0)
rows_right (i ∷ is) m t (suc n) d e l =
    let b : (row_matches t m i ≡ true) × (matches_from (suc m) t is ≡ true) = and_parts _ _ e in
    let q : m + suc n ≡ suc m + n = omega arith in
    rw q (rows_right is (suc m) t n d b.1 (omega arith))

pub right_at : (is : List Instr) (t : List ℕ) (n : ℕ) (d : Instr) → matches t is ≡ true → n < length is → Right t n (get_or is n d)
unfolding matches
right_at is t n d e l = let b : (leb (length is * 28) (length t) ≡ true) × (matches_from 0 t is ≡ true) = and_parts _ _ e in rw zero-add at (rows_right is 0 t n d b.1 l)

pub rows_length : (is : List Instr) (t : List ℕ) → matches t is ≡ true → length is * 28 ≤ length t
unfolding matches
rows_length is t e = leb-true (length is * 28) (length t) (and_parts (leb (length is * 28) (length t)) (matches_from 0 t is) e).0

-- ---- the rows one after the other

abbrev pub no_spot : ℕ → Spot
no_spot k = Err (record { column = k })

abbrev pub no_place : ℕ → Place
no_place k = Err (record { column = k })

abbrev pub here : ℕ → Operands → Place
here w o = Ok (record { word = w; operands = o })

-- what one row says of a line
spot_stopped : (xs : List Item) (s : List ℕ) (k : ℕ) → spot_of xs s ≡ no_spot k → take_line xs 0 s ≡ stopped k
unfolding spot_of
spot_stopped xs s k e = stopped_case (take_line xs 0 s) e
  where
    stopped_case : (r : Result) → spot_with xs no_operands 0 r ≡ no_spot k → r ≡ stopped k
    stopped_case (all ps) e = let z : ◌≡◌ {A = ℕ} 0 1 = cc in let y : ⊥ = omega arith in absurd y
    stopped_case (stopped j) e = let q : ◌≡◌ {A = Stuck} (record { column = j }) (record { column = k }) = cc in ap (λ (x : Stuck). stopped x.column) q

pub record Fits (xs : List Item) (s : List ℕ) (o : Operands) : Type 0 where
  pub parts : List Part
  pub takes : take_line xs 0 s ≡ all parts
  pub operands : o ≡ gathered no_operands 0 xs parts

spot_whole : (xs : List Item) (s : List ℕ) (o : Operands) → spot_of xs s ≡ Ok o → Fits xs s o
unfolding spot_of
spot_whole xs s o e = whole_case (take_line xs 0 s) refl e
  where
    whole_case : (r : Result) → take_line xs 0 s ≡ r → spot_with xs no_operands 0 r ≡ Ok o → Fits xs s o
    whole_case (all ps) q e = record { parts = ps; takes = q; operands = sym (same _ _ e) }
      where
        same : (a b : Operands) → ◌≡◌ {A = Spot} (Ok a) (Ok b) → a ≡ b
        same a b e = cc
    whole_case (stopped j) q e = let z : ◌≡◌ {A = ℕ} 0 1 = cc in let y : ⊥ = omega arith in absurd y

pub record Stopped (t : List ℕ) (n : ℕ) (s : List ℕ) (k : ℕ) : Type 0 where
  pub column : ℕ
  pub stops : take_line (pattern_at t n) 0 s ≡ stopped column
  pub bound : column ≤ k

pub record Reached (t : List ℕ) (n c : ℕ) (s : List ℕ) (k : ℕ) : Type 0 where
  pub row : ℕ
  pub listed : row < n + c
  pub stops : take_line (pattern_at t row) 0 s ≡ stopped k

pub record Ran (t : List ℕ) (c n best : ℕ) (s : List ℕ) (k : ℕ) : Type 0 where
  pub low : best ≤ k
  pub each : (m : ℕ) → n ≤ m → m < n + c → Stopped t m s k
  pub top : (k ≡ best) ⊎ Reached t n c s k

pub bad_same : (a b : ℕ) → no_place a ≡ no_place b → a ≡ b
bad_same a b e = let q : ◌≡◌ {A = Stuck} (record { column = a }) (record { column = b }) = cc in ap (λ (x : Stuck). x.column) q

no_row : {C : Type 0} (w : ℕ) (o : Operands) (b : ℕ) → here w o ≡ no_place b → C
no_row w o b e = let z : ◌≡◌ {A = ℕ} 0 1 = cc in let y : ⊥ = omega arith in absurd y

-- one row more in front
front : (t : List ℕ) (c n best j : ℕ) (s : List ℕ) (k : ℕ) (b : Bool) → ltb best j ≡ b → take_line (pattern_at t n) 0 s ≡ stopped j → Ran t c (suc n) (pick b j best) s k → Ran t (suc c) n best s k
front t c n best j s k true q e r =
    let l : best < j = ltb-true best j q in
    record {
      low = omega (arith, r.low);
      each = λ m a b. split_eq m n (λ x. subst (λ (i : ℕ). Stopped t i s k) (sym x) (record { column = j; stops = e; bound = r.low })) (λ x. r.each m (omega arith) (omega arith));
      top = inr (⊎_elim (λ x. record { row = n; listed = omega arith; stops = e ∙ ap stopped (sym x) }) (λ x. record { row = x.row; listed = omega (arith, x.listed); stops = x.stops }) r.top);
    }
front t c n best j s k false q e r =
    let l : j ≤ best = ltb-false best j q in
    record {
      low = r.low;
      each = λ m a b. split_eq m n (λ x. subst (λ (i : ℕ). Stopped t i s k) (sym x) (record { column = j; stops = e; bound = omega (arith, r.low) })) (λ x. r.each m (omega arith) (omega arith));
      top = ⊎_elim (λ x. inl x) (λ x. inr (record { row = x.row; listed = omega (arith, x.listed); stops = x.stops })) r.top;
    }

front_spot : (t : List ℕ) (c n best : ℕ) (s : List ℕ) (k : ℕ) (sp : Spot) → spot_of (pattern_at t n) s ≡ sp → ((b : ℕ) → rows_from c (suc n) b t s ≡ no_place k → Ran t c (suc n) b s k) → tried sp (word_at t n) best (λ (b : ℕ). rows_from c (suc n) b t s) ≡ no_place k → Ran t (suc c) n best s k
front_spot t c n best s k (Ok o) e f q = no_row (word_at t n) o k q
front_spot t c n best s k (Err j) e f q = front t c n best j.column s k (ltb best j.column) refl (spot_stopped (pattern_at t n) s j.column e) (f (larger best j.column) q)

pub ran : (c n best : ℕ) (t s : List ℕ) (k : ℕ) → rows_from c n best t s ≡ no_place k → Ran t c n best s k
unfolding rows_from
ran zero n best t s k e = record { low = omega (arith, bad_same best k e); each = λ m a b. let z : ⊥ = omega arith in absurd z; top = inl (sym (bad_same best k e)) }
ran (suc c) n best t s k e = front_spot t c n best s k (spot_of (pattern_at t n) s) refl (λ b q. ran c (suc n) b t s k q) e

-- a row that was found has the line
pub record Listed (t : List ℕ) (count : ℕ) (s : List ℕ) (w : ℕ) (o : Operands) : Type 0 where
  pub row : ℕ
  pub listed : row < count
  pub word : w ≡ word_at t row
  pub fits : Fits (pattern_at t row) s o

found_spot : (c n best : ℕ) (t s : List ℕ) (w : ℕ) (o : Operands) (sp : Spot) → spot_of (pattern_at t n) s ≡ sp → ((b : ℕ) → rows_from c (suc n) b t s ≡ here w o → Listed t (suc n + c) s w o) → tried sp (word_at t n) best (λ (b : ℕ). rows_from c (suc n) b t s) ≡ here w o → Listed t (n + suc c) s w o
found_spot c n best t s w o (Ok p) q f e =
    let z : ◌≡◌ {A = Found} (record { word = word_at t n; operands = p }) (record { word = w; operands = o }) = cc in
    let x : word_at t n ≡ w = ap (λ (f : Found). f.word) z in
    let y : p ≡ o = ap (λ (f : Found). f.operands) z in
    record { row = n; listed = omega arith; word = sym x; fits = spot_whole (pattern_at t n) s o (q ∙ ap (λ (z : Operands). Ok z) y) }
found_spot c n best t s w o (Err j) q f e =
    let r = f (larger best j.column) e in
    record { row = r.row; listed = omega (arith, r.listed); word = r.word; fits = r.fits }

pub found : (c n best : ℕ) (t s : List ℕ) (w : ℕ) (o : Operands) → rows_from c n best t s ≡ here w o → Listed t (n + c) s w o
unfolding rows_from
found zero n best t s w o e = let z : ◌≡◌ {A = ℕ} 0 1 = cc in let y : ⊥ = omega arith in absurd y
found (suc c) n best t s w o e = found_spot c n best t s w o (spot_of (pattern_at t n) s) refl (λ b q. found c (suc n) b t s w o q) e

-- ---- shapes that share no line

-- two shapes that part at a byte
unfoldable pub differ : List Item → List Item → Bool
differ [] [] = false
differ [] (lit b ∷ ys) = true
differ [] (reg ∷ ys) = false
differ [] (zreg ∷ ys) = false
differ [] (num r ∷ ys) = false
differ (lit a ∷ xs) [] = true
differ (lit a ∷ xs) (lit b ∷ ys) = not (eqb a b) || differ xs ys
differ (lit a ∷ xs) (reg ∷ ys) = false
differ (lit a ∷ xs) (zreg ∷ ys) = false
differ (lit a ∷ xs) (num r ∷ ys) = false
differ (reg ∷ xs) ys = false
differ (zreg ∷ xs) ys = false
differ (num r ∷ xs) ys = false

pub differ_texts : (xs ys : List Item) (ps qs : List Part) → differ xs ys ≡ true → Line xs ps → Line ys qs → texts ps ≡ texts qs → ⊥
unfolding differ texts text_of
differ_texts [] [] ps qs d l m e = clash d
differ_texts [] (lit b ∷ ys) [] (q ∷ qs) d line_end (line_more (fits_lit _) m) e = let z : ◌≡◌ {A = ℕ} 0 1 = cc in omega arith
differ_texts [] (lit b ∷ ys) [] [] d l m e = elim m [ ]
differ_texts [] (lit b ∷ ys) (p ∷ ps) qs d l m e = elim l [ ]
differ_texts [] (reg ∷ ys) ps qs d l m e = clash d
differ_texts [] (zreg ∷ ys) ps qs d l m e = clash d
differ_texts [] (num r ∷ ys) ps qs d l m e = clash d
differ_texts (lit a ∷ xs) [] (p ∷ ps) [] d (line_more (fits_lit _) l) line_end e = let z : ◌≡◌ {A = ℕ} 0 1 = cc in omega arith
differ_texts (lit a ∷ xs) (lit b ∷ ys) (p ∷ ps) (q ∷ qs) d (line_more (fits_lit _) l) (line_more (fits_lit _) m) e =
    ⊎_elim
    (λ n. let z : a ≡ b = cc in eqb-false a b (not-true (eqb a b) n) z)
    (λ n. differ_texts xs ys ps qs n l m (cc))
    (or_cases (not (eqb a b)) (differ xs ys) d)
differ_texts (lit a ∷ xs) [] [] qs d l m e = elim l [ ]
differ_texts (lit a ∷ xs) [] (p ∷ ps) (q ∷ qs) d l m e = elim m [ ]
differ_texts (lit a ∷ xs) (lit b ∷ ys) [] qs d l m e = elim l [ ]
differ_texts (lit a ∷ xs) (lit b ∷ ys) (p ∷ ps) [] d l m e = elim m [ ]
differ_texts (lit a ∷ xs) (reg ∷ ys) ps qs d l m e = clash d
differ_texts (lit a ∷ xs) (zreg ∷ ys) ps qs d l m e = clash d
differ_texts (lit a ∷ xs) (num r ∷ ys) ps qs d l m e = clash d
differ_texts (reg ∷ xs) ys ps qs d l m e = clash d
differ_texts (zreg ∷ xs) ys ps qs d l m e = clash d
differ_texts (num r ∷ xs) ys ps qs d l m e = clash d
