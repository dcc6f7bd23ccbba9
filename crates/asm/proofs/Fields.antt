-- The operands that the code gathers, and what they come to.
use Prim.Native.Nat.{ℕ, ◌+◌, ◌-◌, ◌*◌, ◌%◌, ◌≤◌, ◌<◌}
use native.Mathlib.Omega.{arith}
use mathlib.Core.Path.{◌≡◌, refl, sym, ap, ◌∙◌}
use mathlib.Core.Bool.{Bool, true, false}
use mathlib.Core.Logic.{◌⊎◌, inl, inr}
use mathlib.Core.List.{List, [], ◌∷◌}
use borrow.Author.Tests.{ltb-true}
use lib.Dec.{eqb, ltb}
use lib.IntN.{pos, negsuc}
use lib.ListN.{length}
use Rattle.syntax.specs.declared.field.Misfit.{Misfit}
use Rattle.expr.specs.declared.Off.{Off}
use Rattle.std.specs.Prelude.{Ok, Err}
use Rattle.expr.specs.Grammar.{pick}
use Rattle.expr.specs.Evaluate.{Value, eval_e, digits_value}
use Rattle.syntax.specs.Syntax.{Range, signed, unsigned, target, frame, Item, lit, reg, zreg, num}
use Rattle.syntax.specs.Line.{Part, byte, register, zero as lone, value, text_of, Line, line_end, line_more}
use Rattle.syntax.specs.Worth.{Field, unfit, below, signed_code, unsigned_code, target_code, frame_code, code_of, register_field, number_field, field_of, kept, fields_from, all_codes, none, at, first_off}
use Rattle.syntax.specs.Inside.{Operands, no_operands, push_on, gathered, operand_count}
use Rattle.asm.specs.Inside.{Check, after_of, checked_of}
use Rattle.asm.proofs.Filled.{push_all, size_of, sizes, Below, Bounded}

push_kept : (x : Item) (o : Operands) (f : Field) (fs : List Field) → push_all (push_on x o f) fs ≡ push_all o (kept x f fs)
unfolding push_all
push_kept (lit c) o f fs = refl
push_kept reg o f fs = refl
push_kept zreg o f fs = refl
push_kept (num r) o f fs = refl

pub gather_push : (xs : List Item) (ps : List Part) (o : Operands) (i : ℕ) → gathered o i xs ps ≡ push_all o (fields_from i xs ps)
unfolding gathered fields_from push_all
gather_push [] [] o i = refl
gather_push [] (p ∷ ps) o i = refl
gather_push (x ∷ xs) [] o i = refl
gather_push (x ∷ xs) (p ∷ ps) o i = gather_push xs ps (push_on x o (field_of x i p)) (i + length (text_of p)) ∙ push_kept x o (field_of x i p) (fields_from (i + length (text_of p)) xs ps)

kept_count : (x : Item) (f : Field) (fs : List Field) (n : ℕ) (xs : List Item) → length fs ≤ operand_count xs → length (kept x f fs) ≤ operand_count (x ∷ xs)
unfolding operand_count
kept_count (lit c) f fs n xs l = omega arith
kept_count reg f fs n xs l = omega arith
kept_count zreg f fs n xs l = omega arith
kept_count (num r) f fs n xs l = omega arith

pub fields_count : (xs : List Item) (ps : List Part) (i : ℕ) → length (fields_from i xs ps) ≤ operand_count xs
unfolding fields_from operand_count
fields_count [] [] i = omega arith
fields_count [] (p ∷ ps) i = omega arith
fields_count (x ∷ xs) [] i = omega arith
fields_count (x ∷ xs) (p ∷ ps) i = kept_count x (field_of x i p) (fields_from (i + length (text_of p)) xs ps) 0 xs (fields_count xs ps (i + length (text_of p)))

abbrev pub check_off : ℕ → Check
check_off k = Err (Misfit.Off (record { column = k }))

abbrev pub check_unfit : Check
check_unfit = Err Misfit.Unfit

abbrev pub check_fine : Check
check_fine = Ok tt

-- one after the other
unfoldable pub folded : Check → List Field → Check
folded c [] = c
folded c (f ∷ fs) = folded (after_of c f) fs

pub check_fold : (fs : List Field) → length fs ≤ 5 → checked_of (push_all no_operands fs) ≡ folded check_fine fs
unfolding push_all folded
check_fold [] l = refl
check_fold (a ∷ []) l = refl
check_fold (a ∷ b ∷ []) l = refl
check_fold (a ∷ b ∷ c ∷ []) l = refl
check_fold (a ∷ b ∷ c ∷ d ∷ []) l = refl
check_fold (a ∷ b ∷ c ∷ d ∷ e ∷ []) l = refl
check_fold (a ∷ b ∷ c ∷ d ∷ e ∷ f ∷ fs) l = let z : ⊥ = omega arith in absurd z

-- a value that is off decides
off_stays : (fs : List Field) (k : ℕ) → folded (check_off k) fs ≡ check_off k
unfolding folded
off_stays [] k = refl
off_stays (f ∷ fs) k = off_stays fs k

off_same : (j k : ℕ) → check_off j ≡ check_off k → j ≡ k
off_same j k e = let q : ◌≡◌ {A = Off} (record { column = j }) (record { column = k }) = cc in ap (λ (x : Off). x.column) q

unfit_off : (fs : List Field) (k : ℕ) → folded check_unfit fs ≡ check_off k → first_off fs ≡ at k
unfolding folded first_off
unfit_off [] k e = let z : ◌≡◌ {A = ℕ} 0 1 = cc in let y : ⊥ = omega arith in absurd y
unfit_off (Ok n ∷ fs) k e = unfit_off fs k e
unfit_off (Err Misfit.Unfit ∷ fs) k e = unfit_off fs k e
unfit_off (Err (Misfit.Off j) ∷ fs) k e = ap at (off_same j.column k (sym (off_stays fs j.column) ∙ e))

pub fine_off : (fs : List Field) (k : ℕ) → folded check_fine fs ≡ check_off k → first_off fs ≡ at k
unfolding folded first_off
fine_off [] k e = let z : ◌≡◌ {A = ℕ} 0 1 = cc in let y : ⊥ = omega arith in absurd y
fine_off (Ok n ∷ fs) k e = fine_off fs k e
fine_off (Err Misfit.Unfit ∷ fs) k e = unfit_off fs k e
fine_off (Err (Misfit.Off j) ∷ fs) k e = ap at (off_same j.column k (sym (off_stays fs j.column) ∙ e))

not_off : {C : Type 0} (fs : List Field) (k : ℕ) (c : Check) → (c ≡ check_unfit) ⊎ (c ≡ check_fine) → folded (check_off k) fs ≡ c → C
not_off fs k c (inl q) e = let s : check_off k ≡ check_unfit = sym (off_stays fs k) ∙ (e ∙ q) in let z : ◌≡◌ {A = ℕ} 0 1 = cc in let y : ⊥ = omega arith in absurd y
not_off fs k c (inr q) e = let s : check_off k ≡ check_fine = sym (off_stays fs k) ∙ (e ∙ q) in let z : ◌≡◌ {A = ℕ} 0 1 = cc in let y : ⊥ = omega arith in absurd y

unfit_none : (fs : List Field) → folded check_unfit fs ≡ check_unfit → first_off fs ≡ none
unfolding folded first_off
unfit_none [] e = refl
unfit_none (Ok n ∷ fs) e = unfit_none fs e
unfit_none (Err Misfit.Unfit ∷ fs) e = unfit_none fs e
unfit_none (Err (Misfit.Off j) ∷ fs) e = not_off fs j.column check_unfit (inl refl) e

pub fine_unfit : (fs : List Field) → folded check_fine fs ≡ check_unfit → first_off fs ≡ none
unfolding folded first_off
fine_unfit [] e = let z : ◌≡◌ {A = ℕ} 0 1 = cc in let y : ⊥ = omega arith in absurd y
fine_unfit (Ok n ∷ fs) e = fine_unfit fs e
fine_unfit (Err Misfit.Unfit ∷ fs) e = unfit_none fs e
fine_unfit (Err (Misfit.Off j) ∷ fs) e = not_off fs j.column check_unfit (inl refl) e

unfit_fine : {C : Type 0} (fs : List Field) → folded check_unfit fs ≡ check_fine → C
unfolding folded
unfit_fine [] e = let z : ◌≡◌ {A = ℕ} 0 1 = cc in let y : ⊥ = omega arith in absurd y
unfit_fine (Ok n ∷ fs) e = unfit_fine fs e
unfit_fine (Err Misfit.Unfit ∷ fs) e = unfit_fine fs e
unfit_fine (Err (Misfit.Off j) ∷ fs) e = not_off fs j.column check_fine (inr refl) e

-- where all is fine every operand has its contents
pub record Contents (fs : List Field) : Type 0 where
  pub numbers : List ℕ
  pub are : fs ≡ all_codes numbers

pub fine_fine : (fs : List Field) → folded check_fine fs ≡ check_fine → Contents fs
unfolding folded all_codes
fine_fine [] e = record { numbers = []; are = refl }
fine_fine (Ok n ∷ fs) e = let r = fine_fine fs e in record { numbers = n ∷ r.numbers; are = ap (λ (x : List Field). Ok n ∷ x) r.are }
fine_fine (Err Misfit.Unfit ∷ fs) e = unfit_fine fs e
fine_fine (Err (Misfit.Off j) ∷ fs) e = not_off fs j.column check_fine (inr refl) e

pub codes_fine : (ns : List ℕ) → folded check_fine (all_codes ns) ≡ check_fine
unfolding folded all_codes
codes_fine [] = refl
codes_fine (n ∷ ns) = codes_fine ns

pub codes_none : (ns : List ℕ) → first_off (all_codes ns) ≡ none
unfolding first_off all_codes
codes_none [] = refl
codes_none (n ∷ ns) = codes_none ns

pub codes_same : (ns ms : List ℕ) → all_codes ns ≡ all_codes ms → ns ≡ ms
unfolding all_codes
codes_same [] [] e = refl
codes_same [] (m ∷ ms) e = let z : ◌≡◌ {A = ℕ} 0 1 = cc in let y : ⊥ = omega arith in absurd y
codes_same (n ∷ ns) [] e = let z : ◌≡◌ {A = ℕ} 0 1 = cc in let y : ⊥ = omega arith in absurd y
codes_same (n ∷ ns) (m ∷ ms) e =
    let q : n ≡ m = cc in
    let r : all_codes ns ≡ all_codes ms = cc in
    ap (λ (x : ℕ). x ∷ ns) q ∙ ap (λ (x : List ℕ). m ∷ x) (codes_same ns ms r)

-- ---- the contents lie within the fields

no_code : {C : Type 0} (n : ℕ) → unfit ≡ Ok n → C
no_code n e = let z : ◌≡◌ {A = ℕ} 0 1 = cc in let y : ⊥ = omega arith in absurd y

off_code : {C : Type 0} (k : Off) (n : ℕ) → ◌≡◌ {A = Field} (Err (Misfit.Off k)) (Ok n) → C
off_code k n e = let z : ◌≡◌ {A = ℕ} 0 1 = cc in let y : ⊥ = omega arith in absurd y

picked : (b : Bool) (m n : ℕ) (P : Type 0) → ◌≡◌ {A = Field} (pick b (Ok m) unfit) (Ok n) → (b ≡ true → m ≡ n → P) → P
picked true m n P e f = let q : m ≡ n = cc in f refl q
picked false m n P e f = no_code n e

below_code : (m v n : ℕ) → below m v ≡ Ok n → n < m
below_code m v n e = picked (ltb v m) v n (n < m) e (λ b q. let l : v < m = ltb-true v m b in omega arith)

signed_code_lem : (h : ℕ) (v : Value) (n : ℕ) → signed_code h v ≡ Ok n → n < 2 * h
unfolding signed_code
signed_code_lem h (Ok (pos v)) n e = let l : n < h = below_code h v n e in omega arith
signed_code_lem h (Ok (negsuc v)) n e = picked (ltb v h) (2 * h - 1 - v) n (n < 2 * h) e (λ b q. let l : v < h = ltb-true v h b in omega arith)
signed_code_lem h (Err k) n e = off_code k n e

halved : (b : Bool) (f : Field) (n : ℕ) (P : Type 0) → pick b f unfit ≡ Ok n → (f ≡ Ok n → P) → P
halved true f n P e g = g e
halved false f n P e g = no_code n e

target_code_lem : (h : ℕ) (v : Value) (n : ℕ) → target_code h v ≡ Ok n → n < 2 * h
unfolding target_code
target_code_lem h (Ok (pos v)) n e = halved (eqb (v % 4) 0) _ n (n < 2 * h) e (λ q. signed_code_lem h _ n q)
target_code_lem h (Ok (negsuc v)) n e = halved (eqb (v % 4) 3) _ n (n < 2 * h) e (λ q. signed_code_lem h _ n q)
target_code_lem h (Err k) n e = off_code k n e

frame_code_lem : (h : ℕ) (v : Value) (n : ℕ) → frame_code h v ≡ Ok n → n < 2 * h
unfolding frame_code
frame_code_lem h (Ok (pos v)) n e = signed_code_lem h _ n e
frame_code_lem h (Ok (negsuc v)) n e = signed_code_lem h _ n e
frame_code_lem h (Err k) n e = off_code k n e

unsigned_code_lem : (m : ℕ) (v : Value) (n : ℕ) → unsigned_code m v ≡ Ok n → n < m
unfolding unsigned_code
unsigned_code_lem m (Ok (pos v)) n e = below_code m v n e
unsigned_code_lem m (Ok (negsuc v)) n e = no_code n e
unsigned_code_lem m (Err k) n e = off_code k n e

code_size : (r : Range) (v : Value) (n : ℕ) → code_of r v ≡ Ok n → n < size_of r
code_size (signed h) v n e = signed_code_lem h v n e
code_size (unsigned m) v n e = unsigned_code_lem m v n e
code_size (target h) v n e = target_code_lem h v n e
code_size (frame h) v n e = frame_code_lem h v n e

register_size : (p : Part) (n : ℕ) → register_field p ≡ Ok n → n < 32
register_size (register d ds) n e = below_code 32 (digits_value false 0 (d ∷ ds)) n e
register_size lone n e = let q : ◌≡◌ {A = ℕ} 0 n = cc in omega arith
register_size (byte c) n e = no_code n e
register_size (value x) n e = no_code n e

number_size : (r : Range) (i : ℕ) (p : Part) (n : ℕ) → number_field r i p ≡ Ok n → n < size_of r
number_size r i (value x) n e = code_size r (eval_e x i) n e
number_size r i (byte c) n e = no_code n e
number_size r i (register d ds) n e = no_code n e
number_size r i lone n e = no_code n e

one_below : (m : ℕ) (ms : List ℕ) (f : Field) (fs : List Field) (ns : List ℕ) → f ∷ fs ≡ all_codes ns → ((n : ℕ) → f ≡ Ok n → n < m) → ((ks : List ℕ) → fs ≡ all_codes ks → Below ms ks) → Below (m ∷ ms) ns
unfolding all_codes
one_below m ms f fs [] e g h = let z : ◌≡◌ {A = ℕ} 0 1 = cc in let y : ⊥ = omega arith in absurd y
one_below m ms f fs (n ∷ ns) e g h = let q : f ≡ Ok n = cc in let r : fs ≡ all_codes ns = cc in (g n q, h ns r)

within : (xs : List Item) (ps : List Part) (i : ℕ) (ns : List ℕ) → Line xs ps → fields_from i xs ps ≡ all_codes ns → Below (sizes xs) ns
unfolding fields_from all_codes
within [] [] i [] line_end e = tt
within [] [] i (n ∷ ns) line_end e = let z : ◌≡◌ {A = ℕ} 0 1 = cc in let y : ⊥ = omega arith in absurd y
within [] (p ∷ ps) i ns l e = elim l [ ]
within (lit c ∷ xs) [] i ns l e = elim l [ ]
within (reg ∷ xs) [] i ns l e = elim l [ ]
within (zreg ∷ xs) [] i ns l e = elim l [ ]
within (num r ∷ xs) [] i ns l e = elim l [ ]
within (lit c ∷ xs) (p ∷ ps) i ns (line_more f l) e = within xs ps (i + length (text_of p)) ns l e
within (reg ∷ xs) (p ∷ ps) i ns (line_more f l) e = one_below 32 (sizes xs) (register_field p) (fields_from (i + length (text_of p)) xs ps) ns e (λ n q. register_size p n q) (λ ks q. within xs ps (i + length (text_of p)) ks l q)
within (zreg ∷ xs) (p ∷ ps) i ns (line_more f l) e = one_below 32 (sizes xs) (register_field p) (fields_from (i + length (text_of p)) xs ps) ns e (λ n q. register_size p n q) (λ ks q. within xs ps (i + length (text_of p)) ks l q)
within (num r ∷ xs) (p ∷ ps) i ns (line_more f l) e = one_below (size_of r) (sizes xs) (number_field r i p) (fields_from (i + length (text_of p)) xs ps) ns e (λ n q. number_size r i p n q) (λ ks q. within xs ps (i + length (text_of p)) ks l q)

pub bounded_fields : (xs : List Item) (ps : List Part) (i : ℕ) (ns : List ℕ) → Line xs ps → fields_from i xs ps ≡ all_codes ns → Bounded xs ns
unfolding Bounded
bounded_fields xs ps i ns l e = within xs ps i ns l e
