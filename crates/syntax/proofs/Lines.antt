-- A line is taken exactly when its shape has it, in one way, and where none goes on, the column is right.
use Prim.Native.Nat.{ℕ, suc, ◌+◌, ◌-◌, ◌<◌, ◌≤◌}
use native.Mathlib.Omega.{arith}
use native.Mathlib.Numerals.{add-one}
use mathlib.Core.Path.{◌≡◌, refl, sym, ap, ◌∙◌, subst}
use mathlib.Core.Bool.{Bool, true, false, ◌||◌}
use mathlib.Core.List.{List, [], ◌∷◌, ◌++◌, append_assoc}
use borrow.Author.Tests.{eqb-true, eqb-false, eq-eqb, not-true}
use lib.Dec.{eqb}
use lib.ListN.{length, get_or, drop, take, length-append, length-drop, take-append-drop}
use lib.Seq.{drop_at, drop-append-le, take-suc, split_at, length-take-le, take-append-add}
use Rattle.expr.specs.Grammar.{pick, is_digit, all_digits, in_only, in_one, in_num}
use Rattle.expr.specs.Scan.{Out, scan, start}
use Rattle.expr.proofs.Numbers.{taken}
use Rattle.expr.proofs.Cases.{clash}
use Rattle.std.proofs.lemmas.Bool.{and_parts, or_parts}
use Rattle.expr.proofs.Complete.{head_of, stops_end, taken_all}
use Rattle.expr.proofs.Longest.{Follows, ended_with}
use Rattle.expr.proofs.Sound.{Cut, Read, start_read_at, zero_digit}
use Rattle.expr.proofs.Column.{column_of, local}
use Rattle.syntax.specs.Syntax.{Range, Item, lit, reg, zreg, num}
use Rattle.syntax.specs.Line.{Part, byte, register, zero as lone, value, text_of, texts, Fits, fits_lit, fits_reg, fits_zreg, fits_zero, fits_num, Line, line_end, line_more, Begins}
use Rattle.syntax.specs.Take.{Took, took, none, of_out, take_number, take_reg, take_zreg, take_byte, take_item, Result, all, stopped, put, next, take_line, ends_reg, ends_num, followed, apart, well_made}

-- ---- what may follow an item

follows_byte : (c : ℕ) (r : List ℕ) → ends_num c ≡ true → Follows (c ∷ r)
follows_byte c r e =
    let a : (is_digit true c || eqb c 120 || eqb c 42 || eqb c 43 || eqb c 45) ≡ false = not-true _ e in
    let b : ((is_digit true c || eqb c 120 || eqb c 42 || eqb c 43) ≡ false) × (eqb c 45 ≡ false) = or_parts (is_digit true c || eqb c 120 || eqb c 42 || eqb c 43) (eqb c 45) a in
    let d : ((is_digit true c || eqb c 120 || eqb c 42) ≡ false) × (eqb c 43 ≡ false) = or_parts (is_digit true c || eqb c 120 || eqb c 42) (eqb c 43) b.0 in
    let f : ((is_digit true c || eqb c 120) ≡ false) × (eqb c 42 ≡ false) = or_parts (is_digit true c || eqb c 120) (eqb c 42) d.0 in
    let g : (is_digit true c ≡ false) × (eqb c 120 ≡ false) = or_parts (is_digit true c) (eqb c 120) f.0 in
    record { stops = (g.0, eqb-false c 120 g.1); no_star = eqb-false c 42 f.1; no_sign = rw (d.1, b.1) }

follows_end : Follows []
follows_end = record { stops = stops_end; no_star = λ e. omega arith; no_sign = refl }

end_no_digit : is_digit false 256 ≡ false
unfolding is_digit
end_no_digit = refl

abbrev After : Item → List ℕ → Type 0
After (lit c) r = 0 < 1
After reg r = is_digit false (head_of r) ≡ false
After zreg r = is_digit false (head_of r) ≡ false
After (num q) r = Follows r

after_reg : (xs : List Item) (ps : List Part) → followed ends_reg xs ≡ true → Line xs ps → After reg (texts ps)
unfolding texts text_of
after_reg [] [] e line_end = end_no_digit
after_reg (lit c ∷ xs) (p ∷ ps) e (line_more (fits_lit _) l) = not-true _ e
after_reg [] (p ∷ ps) e l = elim l [ ]
after_reg (lit c ∷ xs) [] e l = elim l [ ]
after_reg (reg ∷ xs) ps e l = clash e
after_reg (zreg ∷ xs) ps e l = clash e
after_reg (num q ∷ xs) ps e l = clash e

after_num : (xs : List Item) (ps : List Part) → followed ends_num xs ≡ true → Line xs ps → Follows (texts ps)
unfolding texts text_of
after_num [] [] e line_end = follows_end
after_num (lit c ∷ xs) (p ∷ ps) e (line_more (fits_lit _) l) = follows_byte c (texts ps) e
after_num [] (p ∷ ps) e l = elim l [ ]
after_num (lit c ∷ xs) [] e l = elim l [ ]
after_num (reg ∷ xs) ps e l = clash e
after_num (zreg ∷ xs) ps e l = clash e
after_num (num q ∷ xs) ps e l = clash e

after : (x : Item) (xs : List Item) (ps : List Part) → apart x xs ≡ true → Line xs ps → After x (texts ps)
unfolding apart
after (lit c) xs ps e l = omega arith
after reg xs ps e l = after_reg xs ps e l
after zreg xs ps e l = after_reg xs ps e l
after (num q) xs ps e l = after_num xs ps e l

-- ---- every line of the pattern is taken, as itself

same_took : (p : Part) (i j : ℕ) → i ≡ j → took p i ≡ took p j
same_took p i j e = ap (λ (n : ℕ). took p n) e

item_complete : {x : Item} {p : Part} → Fits x p → (i : ℕ) (r : List ℕ) → After x r → take_item x i (text_of p ++ r) ≡ took p (i + length (text_of p))
unfolding take_item take_byte take_reg take_zreg take_number text_of all_digits
item_complete (fits_lit c) i r a = rw (eq-eqb c c refl) (same_took _ _ _ (omega arith))
item_complete (fits_reg d ds g) i r a =
    let b : (is_digit false d ≡ true) × (all_digits false ds ≡ true) = and_parts (is_digit false d) (all_digits false ds) g in
    rw (b.0, taken_all false ds r b.1 a) (same_took _ _ _ (omega arith))
item_complete (fits_zreg d ds g) i r a =
    let b : (is_digit false d ≡ true) × (all_digits false ds ≡ true) = and_parts (is_digit false d) (all_digits false ds) g in
    rw (b.0, taken_all false ds r b.1 a) (same_took _ _ _ (omega arith))
item_complete fits_zero i r a = same_took _ _ _ (omega arith)
item_complete (fits_num y) i r a = rw (ended_with y i r a)

pub line_complete : (xs : List Item) (ps : List Part) → well_made xs ≡ true → Line xs ps → (i : ℕ) → take_line xs i (texts ps) ≡ all ps
unfolding take_line texts well_made
line_complete [] [] w line_end i = refl
line_complete [] (p ∷ ps) w l i = elim l [ ]
line_complete (x ∷ xs) [] w l i = elim l [ ]
line_complete (x ∷ xs) (p ∷ ps) w (line_more f l) i =
    let b : (apart x xs ≡ true) × (well_made xs ≡ true) = and_parts (apart x xs) (well_made xs) w in
    let n : i + length (text_of p) - i ≡ length (text_of p) = omega arith in
    rw (item_complete f i (texts ps) (after x xs ps b.0 l), n, drop_at (text_of p) (texts ps) (length (text_of p)) refl, line_complete xs ps b.1 l (i + length (text_of p)))

all_same : (ps qs : List Part) → all ps ≡ all qs → ps ≡ qs
all_same ps qs e = cc

-- no text has two readings
pub line_unique : (xs : List Item) (ps qs : List Part) → well_made xs ≡ true → Line xs ps → Line xs qs → texts ps ≡ texts qs → ps ≡ qs
line_unique xs ps qs w l m e = all_same ps qs (sym (line_complete xs ps w l 0) ∙ (ap (take_line xs 0) e ∙ line_complete xs qs w m 0))

-- ---- what is taken is a line; and what was read before a column begins one

-- every item has a part, and every pattern a line
pub record Some (xs : List Item) : Type 0 where
  pub parts : List Part
  pub line : Line xs parts

pub some_line : (xs : List Item) → Some xs
some_line [] = record { parts = []; line = line_end }
some_line (lit c ∷ xs) = let r = some_line xs in record { parts = byte c ∷ r.parts; line = line_more (fits_lit c) r.line }
some_line (reg ∷ xs) = let r = some_line xs in record { parts = register 48 [] ∷ r.parts; line = line_more (fits_reg 48 [] zero_digit) r.line }
some_line (zreg ∷ xs) = let r = some_line xs in record { parts = lone ∷ r.parts; line = line_more fits_zero r.line }
some_line (num q ∷ xs) =
    let r = some_line xs in
    record { parts = value _ ∷ r.parts; line = line_more (fits_num (in_only (in_one (in_num false 48 [] zero_digit)))) r.line }

pub record BeginsItem (x : Item) (v : List ℕ) : Type 0 where
  pub part : Part
  pub fits : Fits x part
  pub rest : List ℕ
  pub text : text_of part ≡ v ++ rest

pub record Taken (x : Item) (i : ℕ) (s : List ℕ) (p : Part) (j : ℕ) : Type 0 where
  pub fits : Fits x p
  pub rest : List ℕ
  pub split : s ≡ text_of p ++ rest
  pub column : j ≡ i + length (text_of p)

abbrev pub ItemRead : Item → ℕ → List ℕ → Took → Type 0
ItemRead x i s (took p j) = Taken x i s p j
ItemRead x i s (none k) = Cut [] s i k (BeginsItem x)

item_pick : (x : Item) (i : ℕ) (s : List ℕ) (b : Bool) (t u : Took) → (b ≡ true → ItemRead x i s t) → (b ≡ false → ItemRead x i s u) → ItemRead x i s (pick b t u)
item_pick x i s true t u f g = f refl
item_pick x i s false t u f g = g refl

here : (x : Item) (s : List ℕ) (i : ℕ) → BeginsItem x [] → Cut [] s i i (BeginsItem x)
here x s i b = record { part = []; rest = s; split = refl; column = omega arith; holds = b }

some_reg : BeginsItem reg []
unfolding text_of
some_reg = record { part = register 48 []; fits = fits_reg 48 [] zero_digit; rest = 114 ∷ 48 ∷ []; text = refl }

some_byte : (c : ℕ) → BeginsItem (lit c) []
unfolding text_of
some_byte c = record { part = byte c; fits = fits_lit c; rest = c ∷ []; text = refl }

some_number : BeginsItem reg (114 ∷ [])
unfolding text_of
some_number = record { part = register 48 []; fits = fits_reg 48 [] zero_digit; rest = 48 ∷ []; text = refl }

byte_read : (c i : ℕ) (s : List ℕ) → ItemRead (lit c) i s (take_byte c i s)
unfolding take_byte text_of
byte_read c i [] = here (lit c) [] i (some_byte c)
byte_read c i (b ∷ s) =
    item_pick (lit c) i (b ∷ s) (eqb b c) _ _
    (λ e. record { fits = fits_lit c; rest = s; split = rw (eqb-true b c e); column = omega arith })
    (λ e. here (lit c) (b ∷ s) i (some_byte c))

taken_digits : (s : List ℕ) → (all_digits false (taken false s) ≡ true) × (s ≡ taken false s ++ drop (length (taken false s)) s)
unfolding taken all_digits
taken_digits [] = (refl, refl)
taken_digits (c ∷ s) = digits_case (is_digit false c) refl (taken_digits s)
  where
    digits_case : (b : Bool) → is_digit false c ≡ b → (all_digits false (taken false s) ≡ true) × (s ≡ taken false s ++ drop (length (taken false s)) s) → (all_digits false (pick b (c ∷ taken false s) []) ≡ true) × (c ∷ s ≡ pick b (c ∷ taken false s) [] ++ drop (length (pick b (c ∷ taken false s) [])) (c ∷ s))
    digits_case true e h = (rw e h.0, ap (λ (l : List ℕ). c ∷ l) h.1)
    digits_case false e h = (refl, refl)

number_read : (i : ℕ) (s : List ℕ) → ItemRead reg i (114 ∷ s) (take_number (suc i) s)
unfolding take_number text_of all_digits
number_read i [] = record { part = 114 ∷ []; rest = []; split = refl; column = omega arith; holds = some_number }
number_read i (d ∷ s) =
    item_pick reg i (114 ∷ d ∷ s) (is_digit false d) _ _
    (λ e. record { fits = fits_reg d (taken false s) (rw e (taken_digits s).0); rest = drop (length (taken false s)) s; split = ap (λ (l : List ℕ). 114 ∷ d ∷ l) (taken_digits s).1; column = omega arith })
    (λ e. record { part = 114 ∷ []; rest = d ∷ s; split = refl; column = omega arith; holds = some_number })

reg_read : (i : ℕ) (s : List ℕ) → ItemRead reg i s (take_reg i s)
unfolding take_reg
reg_read i [] = here reg [] i some_reg
reg_read i (b ∷ s) =
    item_pick reg i (b ∷ s) (eqb b 114) _ _
    (λ e. subst (λ (x : ℕ). ItemRead reg i (x ∷ s) (take_number (suc i) s)) (sym (eqb-true b 114 e)) (number_read i s))
    (λ e. here reg (b ∷ s) i some_reg)

-- what a register gives, where a lone 0 may stand too
wider : (p : Part) → Fits reg p → Fits zreg p
wider (register d ds) (fits_reg _ _ g) = fits_zreg d ds g
wider (byte _) f = elim f [ ]
wider lone f = elim f [ ]
wider (value _) f = elim f [ ]

widened : (i : ℕ) (s : List ℕ) (o : Took) → ItemRead reg i s o → ItemRead zreg i s o
widened i s (took p j) t = record { fits = wider p t.fits; rest = t.rest; split = t.split; column = t.column }
widened i s (none k) c =
    let b = c.holds in
    record { part = c.part; rest = c.rest; split = c.split; column = c.column; holds = record { part = b.part; fits = wider b.part b.fits; rest = b.rest; text = b.text } }

zreg_read : (i : ℕ) (s : List ℕ) → ItemRead zreg i s (take_zreg i s)
unfolding take_zreg text_of
zreg_read i [] = here zreg [] i (record { part = lone; fits = fits_zero; rest = 48 ∷ []; text = refl })
zreg_read i (b ∷ s) =
    item_pick zreg i (b ∷ s) (eqb b 48) _ _
    (λ e. record { fits = fits_zero; rest = s; split = rw (eqb-true b 48 e); column = omega arith })
    (λ e. widened i (b ∷ s) (take_reg i (b ∷ s)) (reg_read i (b ∷ s)))

ex_read : (q : Range) (i : ℕ) (s : List ℕ) (o : Out) → Read [] s i o → ItemRead (num q) i s (of_out o)
unfolding text_of
ex_read q i s (Out.ended e n) r =
    record { fits = fits_num r.holds.good; rest = r.rest; split = r.split ∙ ap (λ (l : List ℕ). l ++ r.rest) (sym r.holds.text); column = r.column ∙ ap (λ (l : List ℕ). i + length l) (sym r.holds.text) }
ex_read q i s (Out.bad n) r =
    record { part = r.part; rest = r.rest; split = r.split; column = r.column; holds = record { part = value r.holds.tree; fits = fits_num r.holds.good; rest = r.holds.rest; text = r.holds.text } }

pub item_read : (x : Item) (i : ℕ) (s : List ℕ) → ItemRead x i s (take_item x i s)
unfolding take_item
item_read (lit c) i s = byte_read c i s
item_read reg i s = reg_read i s
item_read zreg i s = zreg_read i s
item_read (num q) i s = ex_read q i s (scan start i s) (start_read_at s i)

pub record Parsed (xs : List Item) (s : List ℕ) (ps : List Part) : Type 0 where
  pub line : Line xs ps
  pub text : texts ps ≡ s

abbrev pub LineRead : List Item → ℕ → List ℕ → Result → Type 0
LineRead xs i s (all ps) = Parsed xs s ps
LineRead xs i s (stopped k) = Cut [] s i k (Begins xs)

begun : (x : Item) (xs : List Item) (v : List ℕ) → BeginsItem x v → Begins (x ∷ xs) v
unfolding texts
begun x xs v b =
    let r = some_line xs in
    record { parts = b.part ∷ r.parts; line = line_more b.fits r.line; rest = b.rest ++ texts r.parts; text = ap (λ (l : List ℕ). l ++ texts r.parts) b.text ∙ append_assoc v b.rest (texts r.parts) }

longer : (x : Item) (xs : List Item) (p : Part) (v : List ℕ) → Fits x p → Begins xs v → Begins (x ∷ xs) (text_of p ++ v)
unfolding texts
longer x xs p v f b = record { parts = p ∷ b.parts; line = line_more f b.line; rest = b.rest; text = ap (λ (l : List ℕ). text_of p ++ l) b.text ∙ sym (append_assoc (text_of p) v b.rest) }

put_read : (x : Item) (xs : List Item) (i : ℕ) (s : List ℕ) (p : Part) (j : ℕ) (t : Taken x i s p j) (r : Result) → LineRead xs j t.rest r → LineRead (x ∷ xs) i s (put p r)
unfolding texts
put_read x xs i s p j t (all ps) l = record { line = line_more t.fits l.line; text = ap (λ (m : List ℕ). text_of p ++ m) l.text ∙ sym t.split }
put_read x xs i s p j t (stopped k) c =
    record {
      part = text_of p ++ c.part;
      rest = c.rest;
      split = t.split ∙ (ap (λ (m : List ℕ). text_of p ++ m) c.split ∙ sym (append_assoc (text_of p) c.part c.rest));
      column = omega (arith, t.column, c.column, length-append (text_of p) c.part);
      holds = longer x xs p c.part t.fits c.holds;
    }

dropped : (x : Item) (i : ℕ) (s : List ℕ) (p : Part) (j : ℕ) (t : Taken x i s p j) → drop (j - i) s ≡ t.rest
dropped x i s p j t = ap (λ (l : List ℕ). drop (j - i) l) t.split ∙ drop_at (text_of p) t.rest (j - i) (omega (arith, t.column))

next_read : (x : Item) (xs : List Item) (i : ℕ) (s : List ℕ) (o : Took) → ItemRead x i s o → ((j : ℕ) (r : List ℕ) → LineRead xs j r (take_line xs j r)) → LineRead (x ∷ xs) i s (next o (λ (p : Part) (j : ℕ). put p (take_line xs j (drop (j - i) s))))
next_read x xs i s (took p j) t f = rw (dropped x i s p j t) (put_read x xs i s p j t (take_line xs j t.rest) (f j t.rest))
next_read x xs i s (none k) c f = record { part = c.part; rest = c.rest; split = c.split; column = c.column; holds = begun x xs c.part c.holds }

pub line_read : (xs : List Item) (i : ℕ) (s : List ℕ) → LineRead xs i s (take_line xs i s)
unfolding take_line texts
line_read [] i [] = record { line = line_end; text = refl }
line_read [] i (c ∷ s) = record { part = []; rest = c ∷ s; split = refl; column = omega arith; holds = record { parts = []; line = line_end; rest = []; text = refl } }
line_read (x ∷ xs) i s = next_read x xs i s (take_item x i s) (item_read x i s) (λ j r. line_read xs j r)

-- ---- what is answered at a column hangs on the bytes up to it alone

abbrev column_t : Took → ℕ
column_t (took p j) = j
column_t (none k) = k

taken_local : (h : Bool) (u : List ℕ) (c : ℕ) (v w : List ℕ) → length (taken h (u ++ (c ∷ v))) ≤ length u → taken h (u ++ (c ∷ w)) ≡ taken h (u ++ (c ∷ v))
unfolding taken
taken_local h [] c v w l = none_case (is_digit h c) l
  where
    none_case : (b : Bool) → length (pick b (c ∷ taken h v) []) ≤ 0 → pick b (c ∷ taken h w) [] ≡ pick b (c ∷ taken h v) []
    none_case true l = let z : ⊥ = omega arith in absurd z
    none_case false l = refl
taken_local h (d ∷ u) c v w l = more_case (is_digit h d) l (λ m. taken_local h u c v w m)
  where
    more_case : (b : Bool) → length (pick b (d ∷ taken h (u ++ (c ∷ v))) []) ≤ suc (length u) → (length (taken h (u ++ (c ∷ v))) ≤ length u → taken h (u ++ (c ∷ w)) ≡ taken h (u ++ (c ∷ v))) → pick b (d ∷ taken h (u ++ (c ∷ w))) [] ≡ pick b (d ∷ taken h (u ++ (c ∷ v))) []
    more_case true l f = ap (λ (x : List ℕ). d ∷ x) (f (omega arith))
    more_case false l f = refl

number_from_lem : (i : ℕ) (s : List ℕ) → i ≤ column_t (take_number i s)
unfolding take_number
number_from_lem i [] = omega arith
number_from_lem i (d ∷ s) = from_case (is_digit false d)
  where
    from_case : (b : Bool) → i ≤ column_t (pick b (took (register d (taken false s)) (suc i + length (taken false s))) (none i))
    from_case true = omega arith
    from_case false = omega arith

number_local : (u : List ℕ) (c : ℕ) (v w : List ℕ) (i : ℕ) → column_t (take_number i (u ++ (c ∷ v))) ≤ i + length u → take_number i (u ++ (c ∷ w)) ≡ take_number i (u ++ (c ∷ v))
unfolding take_number
number_local [] c v w i l = first_case (is_digit false c) l
  where
    first_case : (b : Bool) → column_t (pick b (took (register c (taken false v)) (suc i + length (taken false v))) (none i)) ≤ i + 0 → pick b (took (register c (taken false w)) (suc i + length (taken false w))) (none i) ≡ pick b (took (register c (taken false v)) (suc i + length (taken false v))) (none i)
    first_case true l = let z : ⊥ = omega arith in absurd z
    first_case false l = refl
number_local (d ∷ u) c v w i l = more_case (is_digit false d) l
  where
    more_case : (b : Bool) → column_t (pick b (took (register d (taken false (u ++ (c ∷ v)))) (suc i + length (taken false (u ++ (c ∷ v))))) (none i)) ≤ i + suc (length u) → pick b (took (register d (taken false (u ++ (c ∷ w)))) (suc i + length (taken false (u ++ (c ∷ w))))) (none i) ≡ pick b (took (register d (taken false (u ++ (c ∷ v)))) (suc i + length (taken false (u ++ (c ∷ v))))) (none i)
    more_case true l = ap (λ (x : List ℕ). took (register d x) (suc i + length x)) (taken_local false u c v w (omega arith))
    more_case false l = refl

reg_local : (u : List ℕ) (c : ℕ) (v w : List ℕ) (i : ℕ) → column_t (take_reg i (u ++ (c ∷ v))) ≤ i + length u → take_reg i (u ++ (c ∷ w)) ≡ take_reg i (u ++ (c ∷ v))
unfolding take_reg
reg_local [] c v w i l = first_case (eqb c 114) l
  where
    first_case : (b : Bool) → column_t (pick b (take_number (suc i) v) (none i)) ≤ i + 0 → pick b (take_number (suc i) w) (none i) ≡ pick b (take_number (suc i) v) (none i)
    first_case true l = let z : ⊥ = omega (arith, number_from_lem (suc i) v) in absurd z
    first_case false l = refl
reg_local (d ∷ u) c v w i l = more_case (eqb d 114) l
  where
    more_case : (b : Bool) → column_t (pick b (take_number (suc i) (u ++ (c ∷ v))) (none i)) ≤ i + suc (length u) → pick b (take_number (suc i) (u ++ (c ∷ w))) (none i) ≡ pick b (take_number (suc i) (u ++ (c ∷ v))) (none i)
    more_case true l = number_local u c v w (suc i) (omega arith)
    more_case false l = refl

zreg_local : (u : List ℕ) (c : ℕ) (v w : List ℕ) (i : ℕ) → column_t (take_zreg i (u ++ (c ∷ v))) ≤ i + length u → take_zreg i (u ++ (c ∷ w)) ≡ take_zreg i (u ++ (c ∷ v))
unfolding take_zreg
zreg_local [] c v w i l = first_case (eqb c 48) l
  where
    first_case : (b : Bool) → column_t (pick b (took lone (suc i)) (take_reg i (c ∷ v))) ≤ i + 0 → pick b (took lone (suc i)) (take_reg i (c ∷ w)) ≡ pick b (took lone (suc i)) (take_reg i (c ∷ v))
    first_case true l = refl
    first_case false l = reg_local [] c v w i l
zreg_local (d ∷ u) c v w i l = more_case (eqb d 48) l
  where
    more_case : (b : Bool) → column_t (pick b (took lone (suc i)) (take_reg i (d ∷ u ++ (c ∷ v)))) ≤ i + suc (length u) → pick b (took lone (suc i)) (take_reg i (d ∷ u ++ (c ∷ w))) ≡ pick b (took lone (suc i)) (take_reg i (d ∷ u ++ (c ∷ v)))
    more_case true l = refl
    more_case false l = reg_local (d ∷ u) c v w i l

column_of_lem : (o : Out) → column_t (of_out o) ≡ column_of o
column_of_lem (Out.ended e n) = refl
column_of_lem (Out.bad n) = refl

byte_local : (a : ℕ) (u : List ℕ) (c : ℕ) (v w : List ℕ) (i : ℕ) → take_byte a i (u ++ (c ∷ w)) ≡ take_byte a i (u ++ (c ∷ v))
unfolding take_byte
byte_local a [] c v w i = refl
byte_local a (d ∷ u) c v w i = refl

item_local : (x : Item) (u : List ℕ) (c : ℕ) (v w : List ℕ) (i : ℕ) → column_t (take_item x i (u ++ (c ∷ v))) ≤ i + length u → take_item x i (u ++ (c ∷ w)) ≡ take_item x i (u ++ (c ∷ v))
unfolding take_item
item_local (lit a) u c v w i l = byte_local a u c v w i
item_local reg u c v w i l = reg_local u c v w i l
item_local zreg u c v w i l = zreg_local u c v w i l
item_local (num q) u c v w i l = ap of_out (local u c v w start i (omega (arith, column_of_lem (scan start i (u ++ (c ∷ v))))))

from_cut : (xs : List Item) (j : ℕ) (r : List ℕ) (o : Result) (k : ℕ) → LineRead xs j r o → o ≡ stopped k → j ≤ k
from_cut xs j r (all ps) k l e = let z : ◌≡◌ {A = ℕ} 0 1 = cc in let y : ⊥ = omega arith in absurd y
from_cut xs j r (stopped m) k l e = let q : m ≡ k = cc in omega (arith, l.column)

put_stopped : (p : Part) (o : Result) (k : ℕ) → put p o ≡ stopped k → o ≡ stopped k
put_stopped p (all ps) k e = let z : ◌≡◌ {A = ℕ} 0 1 = cc in let y : ⊥ = omega arith in absurd y
put_stopped p (stopped m) k e = e

next_local : (x : Item) (xs : List Item) (u : List ℕ) (c : ℕ) (v w : List ℕ) (i k : ℕ) (o : Took) → take_item x i (u ++ (c ∷ v)) ≡ o → ItemRead x i (u ++ (c ∷ v)) o → ((u' : List ℕ) (j : ℕ) → take_line xs j (u' ++ (c ∷ v)) ≡ stopped k → k ≤ j + length u' → take_line xs j (u' ++ (c ∷ w)) ≡ stopped k) → next o (λ (p : Part) (j : ℕ). put p (take_line xs j (drop (j - i) (u ++ (c ∷ v))))) ≡ stopped k → k ≤ i + length u → next (take_item x i (u ++ (c ∷ w))) (λ (p : Part) (j : ℕ). put p (take_line xs j (drop (j - i) (u ++ (c ∷ w))))) ≡ stopped k
next_local x xs u c v w i k (none m) q t f e l =
    let n : m ≡ k = cc in
    rw (item_local x u c v w i (rw q (omega arith)), q) e
next_local x xs u c v w i k (took p j) q t f e l =
    let a : take_line xs j (drop (j - i) (u ++ (c ∷ v))) ≡ stopped k = put_stopped p _ k e in
    let b : j ≤ k = from_cut xs j _ _ k (line_read xs j (drop (j - i) (u ++ (c ∷ v)))) a in
    let d : j - i ≤ length u = omega (arith, t.column) in
    let g : length (drop (j - i) u) ≡ length u - (j - i) = length-drop (j - i) u in
    let h : take_line xs j (drop (j - i) u ++ (c ∷ w)) ≡ stopped k = f (drop (j - i) u) j (rw (drop-append-le (j - i) u (c ∷ v) d) at a) (omega (arith, t.column)) in
    rw (item_local x u c v w i (rw q (omega arith)), q, drop-append-le (j - i) u (c ∷ w) d, h)

pub line_local : (xs : List Item) (u : List ℕ) (c : ℕ) (v w : List ℕ) (i k : ℕ) → take_line xs i (u ++ (c ∷ v)) ≡ stopped k → k ≤ i + length u → take_line xs i (u ++ (c ∷ w)) ≡ stopped k
unfolding take_line
line_local [] [] c v w i k e l = e
line_local [] (d ∷ u) c v w i k e l = e
line_local (x ∷ xs) u c v w i k e l = next_local x xs u c v w i k (take_item x i (u ++ (c ∷ v))) refl (item_read x i (u ++ (c ∷ v))) (λ u' j a b. line_local xs u' c v w j k a b) e l

-- no line of the pattern begins with the bytes up to and with that column
pub line_stuck : (xs : List Item) (s : List ℕ) (k : ℕ) → well_made xs ≡ true → take_line xs 0 s ≡ stopped k → k < length s → Begins xs (take (k + 1) s) → ⊥
line_stuck xs s k m e l b =
    let c : ℕ = get_or s k 0 in
    let p : List ℕ = take k s in
    let z : length p ≡ k = length-take-le k s (omega arith) in
    let d : s ≡ p ++ (c ∷ drop (suc k) s) = split_at s k 0 l in
    let t : texts b.parts ≡ p ++ (c ∷ b.rest) = b.text ∙ rw (add-one, take-suc s k 0 l) (append_assoc p (c ∷ []) b.rest) in
    let f : take_line xs 0 (p ++ (c ∷ b.rest)) ≡ stopped k = line_local xs p c (drop (suc k) s) b.rest 0 k (rw (← d) e) (omega arith) in
    let g : all b.parts ≡ stopped k = sym (line_complete xs b.parts m b.line 0) ∙ (ap (take_line xs 0) t ∙ f) in
    let y : ◌≡◌ {A = ℕ} 0 1 = cc in
    omega arith

-- a shorter start begins a line too
pub sooner : (xs : List Item) (s : List ℕ) (j k : ℕ) → j ≤ k → k ≤ length s → Begins xs (take k s) → Begins xs (take j s)
sooner xs s j k l m b =
    let p : List ℕ = take j s in
    let n : length p ≡ j = length-take-le j s (omega arith) in
    let d : k ≡ length p + (k - j) = omega arith in
    let e : take k s ≡ p ++ take (k - j) (drop j s) = ap (λ (l : List ℕ). take k l) (sym (take-append-drop j s)) ∙ (ap (λ (x : ℕ). take x (p ++ drop j s)) d ∙ take-append-add p (drop j s) (k - j)) in
    record { parts = b.parts; line = b.line; rest = take (k - j) (drop j s) ++ b.rest; text = b.text ∙ (ap (λ (l : List ℕ). l ++ b.rest) e ∙ append_assoc p (take (k - j) (drop j s)) b.rest) }
