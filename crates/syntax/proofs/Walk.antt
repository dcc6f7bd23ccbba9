-- The code's loops, against a row and over the rows.
use Prim.Native.Nat.{ℕ, suc, max, ◌+◌, ◌-◌, ◌≤◌, ◌<◌}
use native.Mathlib.Omega.{arith}
use native.Mathlib.Numerals.{add-one}
use mathlib.Core.Path.{◌≡◌, refl, sym, ap, ◌∙◌}
use mathlib.Core.Bool.{Bool, true, false}
use mathlib.Core.List.{List, [], ◌∷◌}
use borrow.Author.Tests.{ltb-true, ltb-false, eqb-true, eqb-false, eq-eqb, ne_eqb, le-ltb}
use lib.Dec.{eqb, ltb}
use lib.ListN.{length, get_or, drop, length-append, length-drop, drop_of_length-le}
use lib.Arith.{lt_of_le-ne}
use lib.Seq.{drop-cons, drop-drop}
use Rattle.expr.specs.Grammar.{pick, is_digit}
use Rattle.expr.specs.Evaluate.{digits_value}
use Rattle.expr.specs.Scan.{AtE, St, Out, step, step_closed, finish, finish_e, used_e}
use Rattle.expr.specs.Reads.{byte_at, expr_reads, want_e}
use Rattle.expr.specs.Digits.{digits_from}
use Rattle.expr.specs.Evaluate.{Value}
use Rattle.expr.specs.declared.Read.{Read}
use Rattle.expr.specs.declared.Stuck.{Stuck}
use Rattle.std.specs.Prelude.{Ok, Err}
use Rattle.expr.proofs.Bytes.{stop, head_at}
use Rattle.expr.proofs.Numbers.{taken, digits_ended, digits_any}
use Rattle.expr.proofs.Literal.{inside}
use Rattle.syntax.specs.Syntax.{Range, Item, lit, reg, zreg, num}
use Rattle.syntax.specs.Line.{Part, register, zero as lone, text_of}
use Rattle.syntax.specs.Worth.{Field, unfit, below, code_of, field_of}
use Rattle.syntax.specs.Take.{Took, took, none, of_out, take_number, take_reg, take_zreg, take_byte, take_item, Result, all, stopped, put, next, take_line}
use Rattle.syntax.specs.Inside.{pushed, Operands, Step, Spot, step_of, item_at, item_in, is_byte, pattern_of, pattern_at, word_at, push_on, gathered, spot_with, spot_of, finish_of, larger, rows_from}
use Rattle.syntax.specs.declared.slot.Slot.{Slot}
use Rattle.syntax.proofs.Lines.{ItemRead, item_read}

-- a step that went on, and one that did not
abbrev pub went : ℕ → Field → Step
went e f = Ok (record { end = e; value = f })

abbrev pub stuck : ℕ → Step
stuck k = Err (record { column = k })

went_end : (j : ℕ) (g : Read Field) (f : Field) → went j f ≡ Ok g → j ≡ g.end
went_end j g f e = let q : ◌≡◌ {A = Read Field} (record { end = j; value = f }) g = cc in ap (λ (x : Read Field). x.end) q

went_value : (j : ℕ) (g : Read Field) (f : Field) → went j f ≡ Ok g → f ≡ g.value
went_value j g f e = let q : ◌≡◌ {A = Read Field} (record { end = j; value = f }) g = cc in ap (λ (x : Read Field). x.value) q

-- expressions
pub num_bad : (r : Range) (s : List ℕ) (at : ℕ) (k : Stuck) → expr_reads s at at 16 want_e (Err k) → step_of (num r) at (take_item (num r) at (drop at s)) ≡ Err k
unfolding expr_reads used_e take_item
num_bad r s at k h = ap (λ (o : Out). step_of (num r) at (of_out o)) (h AtE.top refl)

pub num_read : (r : Range) (s : List ℕ) (at : ℕ) (g : Read Value) → expr_reads s at at 16 want_e (Ok g) → step_of (num r) at (take_item (num r) at (drop at s)) ≡ went g.end (code_of r g.value)
unfolding expr_reads used_e step step_closed finish finish_e take_item
num_read r s at g x = ap (λ (o : Out). step_of (num r) at (of_out o)) (x.goes AtE.top refl ∙ stop s g.end (St.closed AtE.top x.tree) refl) ∙ ap (λ (w : Value). went g.end (code_of r w)) (sym x.value)

-- a byte of the row
byte_list : (c i : ℕ) (cs : List ℕ) (b : Bool) → eqb (get_or cs 0 256) c ≡ b → c < 256 → step_of (lit c) i (take_byte c i cs) ≡ pick b (went (suc i) unfit) (stuck i)
unfolding take_byte
byte_list c i [] true e l = let q : 256 ≡ c = eqb-true 256 c e in let z : ⊥ = omega arith in absurd z
byte_list c i [] false e l = refl
byte_list c i (d ∷ cs) true e l = rw e
byte_list c i (d ∷ cs) false e l = rw e

byte_step : (s : List ℕ) (c i : ℕ) (b : Bool) → eqb (byte_at s i) c ≡ b → c < 256 → step_of (lit c) i (take_item (lit c) i (drop i s)) ≡ pick b (went (i + 1) unfit) (stuck i)
unfolding take_item
byte_step s c i b e l = byte_list c i (drop i s) b (ap (λ (x : ℕ). eqb x c) (head_at s i) ∙ e) l ∙ ap (λ (x : ℕ). pick b (went x unfit) (stuck i)) (sym (add-one i))

pub byte_took : (s : List ℕ) (c i : ℕ) → c < 256 → byte_at s i ≡ c → Ok (record { end = i + 1; value = unfit }) ≡ step_of (lit c) i (take_item (lit c) i (drop i s))
byte_took s c i l e = sym (byte_step s c i true (eq-eqb _ _ e) l)

pub byte_lacks : (s : List ℕ) (c i : ℕ) → c < 256 → (byte_at s i ≡ c → ⊥) → Err (record { column = i }) ≡ step_of (lit c) i (take_item (lit c) i (drop i s))
byte_lacks s c i l e = sym (byte_step s c i false (ne_eqb _ _ e) l)

-- registers
number_list : (i : ℕ) (cs : List ℕ) → is_digit false (get_or cs 0 256) ≡ false → take_number i cs ≡ none i
unfolding take_number
number_list i [] e = refl
number_list i (d ∷ cs) e = rw e

reg_list : (i : ℕ) (cs : List ℕ) → (get_or cs 0 256 ≡ 114 → ⊥) → take_reg i cs ≡ none i
unfolding take_reg
reg_list i [] n = refl
reg_list i (c ∷ cs) n = rw (ne_eqb c 114 n)

pub no_reg : (s : List ℕ) (i : ℕ) → (byte_at s i ≡ 114 → ⊥) → step_of reg i (take_item reg i (drop i s)) ≡ stuck i
unfolding take_item
no_reg s i n = ap (step_of reg i) (reg_list i (drop i s) (λ e. n (sym (head_at s i) ∙ e)))

reg_goes : (s : List ℕ) (i : ℕ) → byte_at s i ≡ 114 → take_reg i (drop i s) ≡ take_number (i + 1) (drop (i + 1) s)
unfolding take_reg
reg_goes s i e = rw (drop-cons s i 256 (inside s i (omega arith)), eq-eqb (byte_at s i) 114 e, add-one)

-- a number ends where it begins if there is no digit
no_digit : (cs : List ℕ) → length (taken false cs) ≡ 0 → is_digit false (get_or cs 0 256) ≡ false
unfolding taken is_digit
no_digit [] e = refl
no_digit (d ∷ cs) e = digit_case (is_digit false d) e
  where
    digit_case : (b : Bool) → length (pick b (d ∷ taken false cs) []) ≡ 0 → b ≡ false
    digit_case true e = let z : ⊥ = omega arith in absurd z
    digit_case false e = refl

some_digit : (cs : List ℕ) → (length (taken false cs) ≡ 0 → ⊥) → is_digit false (get_or cs 0 256) ≡ true
unfolding taken
some_digit [] n = absurd (n refl)
some_digit (d ∷ cs) n = digit_case (is_digit false d) n
  where
    digit_case : (b : Bool) → (length (pick b (d ∷ taken false cs) []) ≡ 0 → ⊥) → b ≡ true
    digit_case true n = refl
    digit_case false n = absurd (n refl)

run_end : (s : List ℕ) (i : ℕ) (r : Read ℕ) → r ≡ digits_from false 0 i (drop i s) → r.end ≡ i + length (taken false (drop i s))
run_end s i r q = ap (λ (x : Read ℕ). x.end) q ∙ digits_ended false 0 i (drop i s)

pub no_number : (s : List ℕ) (i : ℕ) (r : Read ℕ) → byte_at s i ≡ 114 → r ≡ digits_from false 0 (i + 1) (drop (i + 1) s) → r.end ≡ i + 1 → step_of reg i (take_item reg i (drop i s)) ≡ stuck (i + 1)
unfolding take_item
no_number s i r e q h = ap (step_of reg i) (reg_goes s i e ∙ number_list (i + 1) (drop (i + 1) s) (no_digit (drop (i + 1) s) (omega (arith, run_end s (i + 1) r q))))

number_goes : (i k : ℕ) (cs : List ℕ) → is_digit false (get_or cs 0 256) ≡ true → step_of reg k (take_number i cs) ≡ went (i + length (taken false cs)) (below 32 (digits_value false 0 (taken false cs)))
unfolding take_number taken is_digit
number_goes i k [] e = let z : ◌≡◌ {A = ℕ} 0 1 = cc in let y : ⊥ = omega arith in absurd y
number_goes i k (d ∷ cs) e = number_case e
  where
    number_case : is_digit false d ≡ true → step_of reg k (pick (is_digit false d) (took (register d (taken false cs)) (suc i + length (taken false cs))) (none i)) ≡ went (i + length (pick (is_digit false d) (d ∷ taken false cs) [])) (below 32 (digits_value false 0 (pick (is_digit false d) (d ∷ taken false cs) [])))
    number_case e = rw e (ap (λ (x : ℕ). went x (below 32 (digits_value false 0 (d ∷ taken false cs)))) (omega arith))

pub reg_step : (s : List ℕ) (i : ℕ) (r : Read ℕ) → byte_at s i ≡ 114 → r ≡ digits_from false 0 (i + 1) (drop (i + 1) s) → (r.end ≡ i + 1 → ⊥) → step_of reg i (take_item reg i (drop i s)) ≡ went r.end (below 32 r.value)
unfolding take_item
reg_step s i r b q n =
    let e : r.end ≡ i + 1 + length (taken false (drop (i + 1) s)) = run_end s (i + 1) r q in
    let v : below 32 r.value ≡ below 32 (digits_value false 0 (taken false (drop (i + 1) s))) = ap (λ (x : Read ℕ). below 32 x.value) q ∙ digits_any (below 32) unfit (λ v l. simp (le-ltb v 32 (omega arith))) false (i + 1) (drop (i + 1) s) in
    ap (step_of reg i) (reg_goes s i b)
    ∙ (number_goes (i + 1) i (drop (i + 1) s) (some_digit (drop (i + 1) s) (λ z. n (omega arith)))
    ∙ (ap (λ (x : ℕ). went x (below 32 (digits_value false 0 (taken false (drop (i + 1) s))))) (sym e) ∙ ap (λ (f : Field). went r.end f) (sym v)))

-- a lone 0, or a register
zreg_list : (i : ℕ) (cs : List ℕ) → get_or cs 0 256 ≡ 48 → take_zreg i cs ≡ took lone (suc i)
unfolding take_zreg
zreg_list i [] e = let z : ⊥ = omega arith in absurd z
zreg_list i (c ∷ cs) e = rw (eq-eqb c 48 e)

pub zero_step : (s : List ℕ) (i : ℕ) → byte_at s i ≡ 48 → step_of zreg i (take_item zreg i (drop i s)) ≡ went (i + 1) (Ok 0)
unfolding take_item
zero_step s i e = ap (step_of zreg i) (zreg_list i (drop i s) (head_at s i ∙ e)) ∙ ap (λ (x : ℕ). went x (Ok 0)) (sym (add-one i))

zreg_else : (i : ℕ) (cs : List ℕ) → (get_or cs 0 256 ≡ 48 → ⊥) → take_zreg i cs ≡ take_reg i cs
unfolding take_zreg take_reg
zreg_else i [] n = refl
zreg_else i (c ∷ cs) n = rw (ne_eqb c 48 n)

same_step : (i : ℕ) (o : Took) → step_of zreg i o ≡ step_of reg i o
same_step i (took p j) = refl
same_step i (none k) = refl

pub zreg_step : (s : List ℕ) (i : ℕ) (r : Step) → (byte_at s i ≡ 48 → ⊥) → r ≡ step_of reg i (take_item reg i (drop i s)) → r ≡ step_of zreg i (take_item zreg i (drop i s))
unfolding take_item
zreg_step s i r n e = e ∙ (sym (same_step i (take_reg i (drop i s))) ∙ ap (step_of zreg i) (sym (zreg_else i (drop i s) (λ q. n (sym (head_at s i) ∙ q)))))

-- the loop
inside_took : (x : Item) (s : List ℕ) (i : ℕ) (o : Took) (g : Read Field) → i ≤ length s → ItemRead x i (drop i s) o → step_of x i o ≡ Ok g → (i ≤ g.end) × (g.end ≤ length s)
inside_took x s i (took p j) g l t b =
    let q : j ≡ g.end = went_end j g (field_of x i p) b in
    let n : length (drop i s) ≡ length (text_of p) + length t.rest = ap length t.split ∙ length-append (text_of p) t.rest in
    (omega (arith, t.column), omega (arith, t.column, length-drop i s))
inside_took x s i (none k) g l t b = let z : ◌≡◌ {A = ℕ} 0 1 = cc in let y : ⊥ = omega arith in absurd y

pub item_inside : (x : Item) (s : List ℕ) (i : ℕ) (g : Read Field) → i ≤ length s → Ok g ≡ step_of x i (take_item x i (drop i s)) → (i ≤ g.end) × (g.end ≤ length s)
item_inside x s i g l e = inside_took x s i (take_item x i (drop i s)) g l (item_read x i (drop i s)) (sym e)

pub operand_inside : (x : Item) (s : List ℕ) (i : ℕ) (g : Read Field) → i ≤ length s → Ok g ≡ step_of x i (take_item x i (drop i s)) → g.end ≤ length s
operand_inside x s i g l e = (item_inside x s i g l e).1

-- one part more in front of a line's other parts
put_spot : (x : Item) (xs : List Item) (o : Operands) (i j : ℕ) (p : Part) → j ≡ i + length (text_of p) → (r : Result) → spot_with (x ∷ xs) o i (put p r) ≡ spot_with xs (push_on x o (field_of x i p)) j r
unfolding gathered
put_spot x xs o i j p e (all ps) = ap (λ (k : ℕ). Ok (gathered (push_on x o (field_of x i p)) k xs ps)) (sym e)
put_spot x xs o i j p e (stopped k) = refl

took_spot : (x : Item) (xs : List Item) (o : Operands) (s : List ℕ) (i : ℕ) (t : Took) (g : Read Field) → ItemRead x i (drop i s) t → step_of x i t ≡ Ok g → spot_with (x ∷ xs) o i (next t (λ (p : Part) (j : ℕ). put p (take_line xs j (drop (j - i) (drop i s))))) ≡ spot_with xs (push_on x o g.value) g.end (take_line xs g.end (drop g.end s))
took_spot x xs o s i (took p j) g t b =
    let q : j ≡ g.end = went_end j g (field_of x i p) b in
    let f : field_of x i p ≡ g.value = went_value j g (field_of x i p) b in
    let n : i + (j - i) ≡ j = omega (arith, t.column) in
    rw (← q, ← f)
    (put_spot x xs o i j p t.column (take_line xs j (drop (j - i) (drop i s))) ∙ ap (λ (cs : List ℕ). spot_with xs (push_on x o (field_of x i p)) j (take_line xs j cs)) (drop-drop (j - i) i s ∙ ap (λ (m : ℕ). drop m s) n))
took_spot x xs o s i (none k) g t b = let z : ◌≡◌ {A = ℕ} 0 1 = cc in let y : ⊥ = omega arith in absurd y

none_spot : (x : Item) (xs : List Item) (o : Operands) (s : List ℕ) (i : ℕ) (t : Took) (k : Stuck) → step_of x i t ≡ Err k → spot_with (x ∷ xs) o i (next t (λ (p : Part) (j : ℕ). put p (take_line xs j (drop (j - i) (drop i s))))) ≡ Err k
none_spot x xs o s i (took p j) k b = let z : ◌≡◌ {A = ℕ} 0 1 = cc in let y : ⊥ = omega arith in absurd y
none_spot x xs o s i (none j) k b = let q : record { column = j } ≡ k = cc in rw (← q)

pub pattern_cons : (row : List ℕ) (j : ℕ) → j < length row → (get_or row j 0 ≡ 59 → ⊥) → pattern_of (drop j row) ≡ item_at (get_or row j 0) ∷ pattern_of (drop (j + 1) row)
unfolding pattern_of
pattern_cons row j l n = rw (drop-cons row j 0 l, add-one, ne_eqb _ _ n)

-- where the loop stands: what is left of the row, the operands so far, the column
abbrev pub spot_from : List ℕ → List ℕ → Operands → ℕ → ℕ → Spot
spot_from s row o i j = spot_with (pattern_of (drop j row)) o i (take_line (pattern_of (drop j row)) i (drop i s))

line_more : (x : Item) (s row : List ℕ) (i j : ℕ) (o : Operands) (g : Read Field) → j < length row → (get_or row j 0 ≡ 59 → ⊥) → x ≡ item_at (get_or row j 0) → step_of x i (take_item x i (drop i s)) ≡ Ok g → spot_from s row o i j ≡ spot_from s row (push_on x o g.value) g.end (j + 1)
unfolding take_line
line_more x s row i j o g l n h e = rw (pattern_cons row j l n, ← h) (took_spot x (pattern_of (drop (j + 1) row)) o s i (take_item x i (drop i s)) g (item_read x i (drop i s)) e)

line_none : (x : Item) (s row : List ℕ) (i j : ℕ) (o : Operands) (k : Stuck) → j < length row → (get_or row j 0 ≡ 59 → ⊥) → x ≡ item_at (get_or row j 0) → step_of x i (take_item x i (drop i s)) ≡ Err k → spot_from s row o i j ≡ Err k
unfolding take_line
line_none x s row i j o k l n h e = rw (pattern_cons row j l n, ← h) (none_spot x (pattern_of (drop (j + 1) row)) o s i (take_item x i (drop i s)) k e)

-- an operand, or none there
push_is : (slot : Slot) (o : Operands) (f : Field) → is_byte slot ≡ false → push_on (item_in slot) o f ≡ pushed o f
push_is (Slot.Byte c) o f e = let z : ◌≡◌ {A = ℕ} 0 1 = cc in let y : ⊥ = omega arith in absurd y
push_is Slot.Register o f e = refl
push_is Slot.Base o f e = refl
push_is (Slot.Number n) o f e = refl

pub line_operand : (slot : Slot) (s row : List ℕ) (i j : ℕ) (o p : Operands) (g : Read Field) → j < length row → (get_or row j 0 ≡ 59 → ⊥) → item_in slot ≡ item_at (get_or row j 0) → is_byte slot ≡ false → Ok g ≡ step_of (item_in slot) i (take_item (item_in slot) i (drop i s)) → p ≡ pushed o g.value → spot_from s row o i j ≡ spot_from s row p g.end (j + 1)
line_operand slot s row i j o p g l n h b e q = rw (q, ← (push_is slot o g.value b)) (line_more (item_in slot) s row i j o g l n h (sym e))

pub line_stuck : (slot : Slot) (s row : List ℕ) (i j : ℕ) (o : Operands) (k : Stuck) → j < length row → (get_or row j 0 ≡ 59 → ⊥) → item_in slot ≡ item_at (get_or row j 0) → Err k ≡ step_of (item_in slot) i (take_item (item_in slot) i (drop i s)) → spot_from s row o i j ≡ Err k
line_stuck slot s row i j o k l n h e = line_none (item_in slot) s row i j o k l n h (sym e)

-- a byte, or another
pub line_byte : (s row : List ℕ) (c i j : ℕ) (o : Operands) → j < length row → (get_or row j 0 ≡ 59 → ⊥) → lit c ≡ item_at (get_or row j 0) → c < 256 → byte_at s i ≡ c → spot_from s row o i j ≡ spot_from s row o (i + 1) (j + 1)
line_byte s row c i j o l n h b e = line_more (lit c) s row i j o (record { end = i + 1; value = unfit }) l n h (byte_step s c i true (eq-eqb _ _ e) b)

pub line_lacks : (s row : List ℕ) (c i j : ℕ) (o : Operands) → j < length row → (get_or row j 0 ≡ 59 → ⊥) → lit c ≡ item_at (get_or row j 0) → c < 256 → (byte_at s i ≡ c → ⊥) → spot_from s row o i j ≡ Err (record { column = i })
line_lacks s row c i j o l n h b e = line_none (lit c) s row i j o (record { column = i }) l n h (byte_step s c i false (ne_eqb _ _ e) b)

ended : (s : List ℕ) (o : Operands) (i : ℕ) (b : Bool) → i ≤ length s → eqb i (length s) ≡ b → spot_with [] o i (take_line [] i (drop i s)) ≡ pick b (Ok o) (Err (record { column = i }))
unfolding take_line gathered
ended s o i true l e = let q : length s ≤ i = omega (arith, eqb-true i (length s) e) in rw (drop_of_length-le s q)
ended s o i false l e = let q : i < length s = lt_of_le-ne l (eqb-false i (length s) e) in rw (drop-cons s i 0 q)

pub line_ended : (s row : List ℕ) (i j : ℕ) (o : Operands) → i ≤ length s → j < length row → get_or row j 0 ≡ 59 → spot_from s row o i j ≡ finish_of (length s) i o
unfolding pattern_of
line_ended s row i j o l m e = rw (drop-cons row j 0 m, eq-eqb _ _ e) (ended s o i (eqb i (length s)) l refl)

pub line_over : (s row : List ℕ) (i j : ℕ) (o : Operands) → i ≤ length s → length row ≤ j → spot_from s row o i j ≡ finish_of (length s) i o
unfolding pattern_of
line_over s row i j o l m = rw (drop_of_length-le row m) (ended s o i (eqb i (length s)) l refl)

-- the rows one after the other
pub rows_row : (t s : List ℕ) (count n best w : ℕ) (o : Operands) → n < count → Ok o ≡ spot_of (pattern_at t n) s → w ≡ word_at t n → rows_from (count - n) n best t s ≡ Ok (record { word = w; operands = o })
unfolding rows_from
rows_row t s count n best w o l e g =
    let q : count - n ≡ suc (count - (n + 1)) = omega arith in
    rw (q, ← e, g)

pub rows_more : (t s : List ℕ) (count n best b : ℕ) (k : Stuck) → n < count → Err k ≡ spot_of (pattern_at t n) s → b ≡ larger best k.column → rows_from (count - n) n best t s ≡ rows_from (count - (n + 1)) (n + 1) b t s
unfolding rows_from
rows_more t s count n best b k l e g =
    let q : count - n ≡ suc (count - (n + 1)) = omega arith in
    rw (q, ← e, g, add-one)

pub rows_end : (t s : List ℕ) (count n best : ℕ) → count ≤ n → rows_from (count - n) n best t s ≡ Err (record { column = best })
unfolding rows_from
rows_end t s count n best l = let q : count - n ≡ 0 = omega arith in rw q

-- the further of two columns
pub larger_max : (m a b : ℕ) → m ≡ max a b → m ≡ larger a b
larger_max m a b e = larger_case (ltb a b) refl
  where
    larger_case : (t : Bool) → ltb a b ≡ t → m ≡ pick t b a
    larger_case true q = let l : a < b = ltb-true a b q in omega arith
    larger_case false q = let l : b ≤ a = ltb-false a b q in omega arith
