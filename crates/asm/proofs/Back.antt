-- The line that is written for an instruction reads back as it, and is short.
use Prim.Native.Nat.{ℕ, zero, suc, ◌+◌, ◌-◌, ◌*◌, ◌/◌, ◌%◌, ◌^◌, ◌<◌, ◌≤◌}
use native.Mathlib.Omega.{arith}
use mathlib.Core.Path.{◌≡◌, refl, sym, ap, ◌∙◌}
use mathlib.Core.Bool.{Bool, true, false, ◌&&◌}
use mathlib.Core.List.{List, [], ◌∷◌, ◌++◌}
use lib.Dec.{eqb, leb}
use lib.IntN.{pos, negsuc, neg_ℤ}
use lib.ListN.{length, get_or, length-append}
use borrow.Author.Tests.{lt-ltb, le-ltb, le-leb, leb-true, eq-eqb, ne_eqb}
use Rattle.std.specs.Prelude.{Ok}
use Rattle.word.proofs.Truth.{and_left, and_right}
use Rattle.insn.specs.Valid.{valid_of}
use Rattle.insn.specs.declared.profile.Profile.{Profile}
use Rattle.insn.specs.declared.instr.Instr.{Instr}
use Rattle.expr.specs.Grammar.{Expr, Prod, Fac, pick, is_digit, all_digits, text_e, InE, in_only, in_one, in_num, in_minus}
use Rattle.expr.specs.Evaluate.{Value, negated, digit_of, digits_value, eval_e}
use Rattle.expr.proofs.Cases.{split_lt, split_eq}
use Rattle.syntax.specs.Syntax.{Range, signed, unsigned, target, frame, Item, reg, zreg, num, Piece, letter, gpr, gpr_or0, number, letters, commas, spelt, written, item_of, items_of, shape_of}
use Rattle.syntax.specs.Text.{bytes}
use Rattle.syntax.specs.Line.{Part, byte, register, zero as lone, value, text_of, texts, Fits, fits_lit, fits_reg, fits_zreg, fits_zero, fits_num, Line, line_end, line_more}
use Rattle.syntax.specs.Worth.{Field, signed_code, unsigned_code, target_code, frame_code, code_of, register_field, field_of, kept, fields_from, codes, all_codes}
use Rattle.syntax.specs.LineOf.{decimal, signed_text, number_text, register_text, base_text, piece_text, piece_texts, line_of}
use Rattle.syntax.specs.Rows.{samples, samples_a, samples_b, samples_c, samples_d, samples_e, samples_l, samples_m, samples_n, samples_o, samples_r, samples_s, samples_t, samples_w, samples_x, row_of}
use Rattle.syntax.specs.Inside.{wide_item, wide}
use Rattle.syntax.proofs.Printing.{decimal_length, signed_length}
use Rattle.syntax.proofs.Spelled.{spelled_42x}
use Rattle.syntax.proofs.Samples.{sample_shape, sample_at_lem, row_in}
use Rattle.asm.proofs.Filled.{size_of, Fit, fit_written}

-- digits, one or more, and their value
record Digits (t : List ℕ) (n : ℕ) : Type 0 where
  first : ℕ
  rest : List ℕ
  is : t ≡ first ∷ rest
  all : all_digits false t ≡ true
  worth : digits_value false 0 t ≡ n

digit_all : (n : ℕ) → n < 10 → is_digit false (48 + n) ≡ true
unfolding is_digit
digit_all n h = rw (le-leb 48 (48 + n) (omega arith), le-leb (48 + n) 57 (omega arith))

digit_worth : (n : ℕ) → n < 10 → digit_of (48 + n) ≡ n
unfolding digit_of
digit_worth n h = rw (le-leb (48 + n) 57 (omega arith)) (omega arith)

all_append : (s t : List ℕ) → all_digits false s ≡ true → all_digits false t ≡ true → all_digits false (s ++ t) ≡ true
unfolding all_digits
all_append [] t a b = b
all_append (c ∷ s) t a b = rw (and_left (is_digit false c) (all_digits false s) a) (all_append s t (and_right (is_digit false c) (all_digits false s) a) b)

worth_append : (v : ℕ) (s t : List ℕ) → digits_value false v (s ++ t) ≡ digits_value false (digits_value false v s) t
unfolding digits_value
worth_append v [] t = refl
worth_append v (c ∷ s) t = worth_append (v * 10 + digit_of c) s t

one_digit : (n : ℕ) → n < 10 → Digits ((48 + n) ∷ []) n
unfolding all_digits digits_value
one_digit n h = record { first = 48 + n; rest = []; is = refl; all = rw (digit_all n h); worth = rw (digit_worth n h) (omega arith) }

more_digits : (t : List ℕ) (n : ℕ) → Digits t (n / 10) → Digits (t ++ ((48 + n % 10) ∷ [])) n
unfolding all_digits digits_value
more_digits t n r =
    let h : n % 10 < 10 = omega arith in
    record {
      first = r.first;
      rest = r.rest ++ ((48 + n % 10) ∷ []);
      is = ap (λ (s : List ℕ). s ++ ((48 + n % 10) ∷ [])) r.is;
      all = all_append t _ r.all (rw (digit_all (n % 10) h));
      worth = worth_append 0 t _ ∙ rw (r.worth, digit_worth (n % 10) h) (omega arith);
    }

decimal_short : (k n : ℕ) → n < 10 → decimal (suc k) n ≡ (48 + n) ∷ []
unfolding decimal
decimal_short k n h = rw (lt-ltb n 10 h)

decimal_long : (k n : ℕ) → 10 ≤ n → decimal (suc k) n ≡ decimal k (n / 10) ++ ((48 + n % 10) ∷ [])
unfolding decimal
decimal_long k n h = rw (le-ltb n 10 h)

decimal_digits : (k n : ℕ) → n < 10 ^ suc k → Digits (decimal (suc k) n) n
decimal_digits zero n h = rw (decimal_short zero n (omega arith)) (one_digit n (omega arith))
decimal_digits (suc k) n h =
    split_lt n 10 (λ l. rw (decimal_short (suc k) n l) (one_digit n l)) (λ l. rw (decimal_long (suc k) n l) (more_digits _ n (decimal_digits k (n / 10) (omega arith))))

-- a number's tree, and its value wherever it stands
record Tree (t : List ℕ) (v : Value) : Type 0 where
  tree : Expr
  within : InE 16 tree
  text : text_e tree ≡ t
  worth : (at : ℕ) → eval_e tree at ≡ v

neg_pos : (p : ℕ) → (p ≡ 0 → ⊥) → neg_ℤ (pos p) ≡ negsuc (p - 1)
neg_pos zero n = absurd (n refl)
neg_pos (suc k) n = ap negsuc (omega arith)

plus_tree : (n : ℕ) → n < 10 ^ 8 → Tree (decimal 8 n) (Ok (pos n))
unfolding text_e eval_e
plus_tree n h =
    let r = decimal_digits 7 n h in
    record {
      tree = Expr.only (Prod.one (Fac.num false r.first r.rest));
      within = in_only (in_one (in_num false _ _ (rw r.is at r.all)));
      text = sym r.is;
      worth = λ at. rw (← r.is, r.worth, lt-ltb n 0x8000_0000 (omega arith));
    }

minus_tree : (n : ℕ) → n < 10 ^ 8 → 0 < n → Tree (45 ∷ decimal 8 n) (Ok (negsuc (n - 1)))
unfolding text_e eval_e negated
minus_tree n h l =
    let r = decimal_digits 7 n h in
    record {
      tree = Expr.only (Prod.one (Fac.minus (Fac.num false r.first r.rest)));
      within = in_only (in_one (in_minus (in_num false _ _ (rw r.is at r.all))));
      text = ap (λ (s : List ℕ). 45 ∷ s) (sym r.is);
      worth = λ at. rw (← r.is, r.worth, lt-ltb n 0x8000_0000 (omega arith), neg_pos n (omega arith), lt-ltb (n - 1) 0x8000_0000 (omega arith));
    }

-- an operand's part, and its field wherever it stands
record Operand (x : Item) (t : List ℕ) (n : ℕ) : Type 0 where
  part : Part
  fits : Fits x part
  text : text_of part ≡ t
  field : (at : ℕ) → field_of x at part ≡ Ok n

by_tree : (r : Range) (t : List ℕ) (v : Value) (n : ℕ) → Tree t v → code_of r v ≡ Ok n → Operand (num r) t n
unfolding text_of
by_tree r t v n u e = record { part = value u.tree; fits = fits_num u.within; text = u.text; field = λ at. ap (code_of r) (u.worth at) ∙ e }

text_plus : (unit h n : ℕ) → n < h → signed_text unit h n ≡ decimal 8 (unit * n)
unfolding signed_text
text_plus unit h n l = rw (lt-ltb n h l)

text_minus : (unit h n : ℕ) → h ≤ n → signed_text unit h n ≡ 45 ∷ decimal 8 (unit * (2 * h - n))
unfolding signed_text
text_minus unit h n l = rw (le-ltb n h l)

code_plus : (h n m : ℕ) → n < h → m ≡ n → signed_code h (Ok (pos m)) ≡ Ok n
unfolding signed_code
code_plus h n m l e = rw (e, lt-ltb n h l)

code_minus : (h n m : ℕ) → h ≤ n → n < 2 * h → m ≡ 2 * h - n - 1 → signed_code h (Ok (negsuc m)) ≡ Ok n
unfolding signed_code
code_minus h n m l k e = rw (lt-ltb m h (omega arith)) (ap (λ (x : ℕ). Ok x) (omega arith))

number_read : (r : Range) (n : ℕ) → n < size_of r → size_of r ≤ 2 ^ 24 → Operand (num r) (number_text r n) n
unfolding unsigned_code target_code frame_code
number_read (unsigned m) n l k = by_tree _ _ _ _ (plus_tree n (omega arith)) (rw (lt-ltb n m l))
number_read (signed h) n l k =
    split_lt n h
    (λ u. rw (text_plus 1 h n u) (by_tree _ _ _ _ (plus_tree (1 * n) (omega arith)) (code_plus h n (1 * n) u (omega arith))))
    (λ u. rw (text_minus 1 h n u) (by_tree _ _ _ _ (minus_tree (1 * (2 * h - n)) (omega arith) (omega arith)) (code_minus h n (1 * (2 * h - n) - 1) u l (omega arith))))
number_read (target h) n l k =
    split_lt n h
    (λ u. rw (text_plus 4 h n u) (by_tree _ _ _ _ (plus_tree (4 * n) (omega arith)) (rw (eq-eqb (4 * n % 4) 0 (omega arith)) (code_plus h n (4 * n / 4) u (omega arith)))))
    (λ u. let m : ℕ = 4 * (2 * h - n) in rw (text_minus 4 h n u) (by_tree _ _ _ _ (minus_tree m (omega arith) (omega arith)) (rw (eq-eqb ((m - 1) % 4) 3 (omega arith)) (code_minus h n ((m - 1) / 4) u l (omega arith)))))
number_read (frame h) n l k =
    split_lt n h
    (λ u. rw (text_plus 8 h n u) (by_tree _ _ _ _ (plus_tree (8 * n) (omega arith)) (code_plus h n (8 * n / 8) u (omega arith))))
    (λ u. let m : ℕ = 8 * (2 * h - n) in rw (text_minus 8 h n u) (by_tree _ _ _ _ (minus_tree m (omega arith) (omega arith)) (code_minus h n ((m - 1) / 8) u l (omega arith))))

register_read : (x : Item) (n : ℕ) → n < 32 → ((d : ℕ) (ds : List ℕ) → all_digits false (d ∷ ds) ≡ true → Fits x (register d ds)) → ((at : ℕ) (p : Part) → field_of x at p ≡ register_field p) → Operand x (register_text n) n
unfolding text_of
register_read x n h f g =
    let r = decimal_digits 1 n (omega arith) in
    record {
      part = register r.first r.rest;
      fits = f _ _ (rw r.is at r.all);
      text = ap (λ (s : List ℕ). 114 ∷ s) (sym r.is);
      field = λ at. g at _ ∙ rw (← r.is, r.worth, lt-ltb n 32 h);
    }

base_read : (n : ℕ) → n < 32 → Operand zreg (base_text n) n
unfolding text_of
base_read n h =
    split_eq n 0
    (λ e. rw e (record { part = lone; fits = fits_zero; text = refl; field = λ at. refl }))
    (λ e. rw (ne_eqb n 0 e) (register_read zreg n h fits_zreg (λ at p. refl)))

-- pieces one after the other, from any column on
record Pieces (ps : List Piece) : Type 0 where
  parts : List Part
  line : Line (items_of ps) parts
  text : texts parts ≡ piece_texts ps
  fields : (at : ℕ) → fields_from at (items_of ps) parts ≡ all_codes (codes ps)

operand_more : (p : Piece) (n : ℕ) (ps : List Piece) → codes (p ∷ ps) ≡ n ∷ codes ps → ((f : Field) (fs : List Field) → kept (item_of p) f fs ≡ f ∷ fs) → Operand (item_of p) (piece_text p) n → Pieces ps → Pieces (p ∷ ps)
unfolding items_of texts piece_texts fields_from all_codes
operand_more p n ps e k o r =
    record {
      parts = o.part ∷ r.parts;
      line = line_more o.fits r.line;
      text = rw (o.text, r.text);
      fields = λ at. k _ _ ∙ rw (e, o.field at, r.fields (at + length (text_of o.part)));
    }

pieces : (ps : List Piece) → Fit ps → Pieces ps
unfolding Fit items_of texts text_of piece_texts fields_from codes all_codes
pieces [] h = record { parts = []; line = line_end; text = refl; fields = λ at. refl }
pieces (letter c ∷ ps) h =
    let r = pieces ps h in
    record { parts = byte c ∷ r.parts; line = line_more (fits_lit c) r.line; text = ap (λ (s : List ℕ). c ∷ s) r.text; fields = λ at. r.fields (at + 1) }
pieces (gpr n ∷ ps) h = operand_more (gpr n) n ps refl (λ f fs. refl) (register_read reg n h.0 fits_reg (λ at p. refl)) (pieces ps h.1)
pieces (gpr_or0 n ∷ ps) h = operand_more (gpr_or0 n) n ps refl (λ f fs. refl) (base_read n h.0) (pieces ps h.1)
pieces (number r n ∷ ps) h = operand_more (number r n) n ps refl (λ f fs. refl) (number_read r n h.0 h.1) (pieces ps h.2)

pub record LineRead (i : Instr) : Type 0 where
  pub parts : List Part
  pub line : Line (shape_of i) parts
  pub text : texts parts ≡ line_of i
  pub fields : fields_from 0 (shape_of i) parts ≡ all_codes (codes (written i))

pub line_back : (i : Instr) → valid_of i ≡ true → LineRead i
unfolding shape_of line_of
line_back i v = let r = pieces (written i) (fit_written i v) in record { parts = r.parts; line = r.line; text = r.text; fields = r.fields 0 }

-- no operand takes more than nine bytes
piece_length : (p : Piece) → length (piece_text p) ≤ wide_item (item_of p)
piece_length (letter c) = omega arith
piece_length (gpr n) = omega (arith, decimal_length 2 n)
piece_length (gpr_or0 n) = split_eq n 0 (λ e. rw e (omega arith)) (λ e. rw (ne_eqb n 0 e) (omega (arith, decimal_length 2 n)))
piece_length (number (signed h) n) = signed_length 1 h n
piece_length (number (unsigned m) n) = omega (arith, decimal_length 8 n)
piece_length (number (target h) n) = signed_length 4 h n
piece_length (number (frame h) n) = signed_length 8 h n

texts_length : (ps : List Piece) → length (piece_texts ps) ≤ wide (items_of ps)
unfolding piece_texts wide items_of
texts_length [] = omega arith
texts_length (p ∷ ps) = omega (arith, length-append (piece_text p) (piece_texts ps), piece_length p, texts_length ps)

-- every sample's shape has room
slim : List Instr → Bool
slim [] = true
slim (i ∷ is) = leb (wide (shape_of i)) 64 && slim is

slim_at : (is : List Instr) (n : ℕ) (d : Instr) → n < length is → slim is ≡ true → wide (shape_of (get_or is n d)) ≤ 64
unfolding slim
slim_at [] n d h s = let z : ⊥ = omega arith in absurd z
slim_at (i ∷ is) zero d h s = leb-true (wide (shape_of i)) 64 (and_left (leb (wide (shape_of i)) 64) (slim is) s)
slim_at (i ∷ is) (suc n) d h s = slim_at is n d (omega arith) (and_right (leb (wide (shape_of i)) 64) (slim is) s)

slim_pick : (b : Bool) (is js : List Instr) → slim is ≡ true → slim js ≡ true → slim (pick b is js) ≡ true
slim_pick true is js s t = s
slim_pick false is js s t = t

slim_samples : (c : ℕ) → slim (samples Profile.Ppe42x c) ≡ true
unfolding slim samples samples_a samples_b samples_c samples_d samples_e samples_l samples_m samples_n samples_o samples_r samples_s samples_t samples_w samples_x wide shape_of items_of spelt commas letters bytes
slim_samples c =
    let s = slim_pick in
    s (eqb c 97) samples_a _ refl (s (eqb c 98) samples_b _ refl (s (eqb c 99) samples_c _ refl (s (eqb c 100) samples_d _ refl (s (eqb c 101) samples_e _ refl
    (s (eqb c 108) (samples_l Profile.Ppe42x) _ refl (s (eqb c 109) (samples_m Profile.Ppe42x) _ refl (s (eqb c 110) samples_n _ refl (s (eqb c 111) samples_o _ refl (s (eqb c 114) (samples_r Profile.Ppe42x) _ refl
    (s (eqb c 115) (samples_s Profile.Ppe42x) _ refl (s (eqb c 116) samples_t _ refl (s (eqb c 119) samples_w _ refl (s (eqb c 120) samples_x [] refl refl)))))))))))))

pub line_length : (i : Instr) → length (line_of i) ≤ 64
unfolding line_of shape_of
line_length i =
    let w : wide (shape_of i) ≤ 64 = rw (sample_shape i, ← (sample_at_lem Profile.Ppe42x i i (spelled_42x i))) (slim_at _ _ _ (row_in Profile.Ppe42x i (spelled_42x i)) (slim_samples (row_of i).letter)) in
    omega (arith, texts_length (written i))
