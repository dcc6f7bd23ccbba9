-- The column of an answer lies within the line: a value that is outside its range starts in its expression.
use Prim.Native.Nat.{ℕ, suc, ◌+◌, ◌-◌, ◌*◌, ◌/◌, ◌%◌, ◌≤◌}
use native.Mathlib.Omega.{arith}
use mathlib.Core.Path.{◌≡◌, ap}
use mathlib.Core.Bool.{Bool, true, false}
use mathlib.Core.Logic.{◌⊎◌, inl, inr, ⊎_elim}
use mathlib.Core.List.{List, [], ◌∷◌, ◌++◌}
use lib.Dec.{eqb, ltb}
use lib.IntN.{ℤ, pos, negsuc, neg_ℤ, ◌*ℤ◌}
use lib.ListN.{length, length-append}
use Rattle.syntax.specs.declared.field.Misfit.{Misfit}
use Rattle.expr.specs.declared.Off.{Off}
use Rattle.std.specs.Prelude.{Ok, Err}
use Rattle.expr.specs.Grammar.{Expr, Prod, Fac, text_e, text_p, text_f, sign_byte, pick}
use Rattle.expr.specs.Evaluate.{Value, off, in_range, negated, both, join_z, joined, multiplied, digits_value, eval_e, eval_p, eval_f}
use Rattle.insn.specs.declared.profile.Profile.{Profile}
use Rattle.syntax.specs.Syntax.{Range, signed, unsigned, target, frame, Item, lit, reg, zreg, num}
use Rattle.syntax.specs.Line.{Part, byte, register, zero as lone, value, text_of, texts, Has}
use Rattle.syntax.specs.Worth.{Field, unfit, signed_code, unsigned_code, target_code, frame_code, code_of, register_field, number_field, fields_from, at, first_off}
use Rattle.asm.specs.Answer.{Assembled, refusal_of, column_of, Answer, accepted, stopped as answer_stopped, outside, invalid, fields_of}
use Rattle.asm.proofs.Answers.{at_same}

abbrev field_off : ℕ → Field
field_off k = Err (Misfit.Off (record { column = k }))

off_same : (j k : ℕ) → off j ≡ off k → j ≡ k
off_same j k e = let q : ◌≡◌ {A = Off} (record { column = j }) (record { column = k }) = cc in ap (λ (x : Off). x.column) q

not_off : {C : Type 0} (b : Bool) (v : Value) (i k : ℕ) → pick b v (off i) ≡ off k → (v ≡ off k → C) → (i ≡ k → C) → C
not_off true v i k e f g = f e
not_off false v i k e f g = g (off_same i k e)

no_plus : {C : Type 0} (n k : ℕ) → ◌≡◌ {A = Value} (Ok (pos n)) (off k) → C
no_plus n k e = let z : ◌≡◌ {A = ℕ} 0 1 = cc in let y : ⊥ = omega arith in absurd y

no_minus : {C : Type 0} (n k : ℕ) → ◌≡◌ {A = Value} (Ok (negsuc n)) (off k) → C
no_minus n k e = let z : ◌≡◌ {A = ℕ} 0 1 = cc in let y : ⊥ = omega arith in absurd y

range_off : (i k : ℕ) (z : ℤ) → in_range i z ≡ off k → i ≡ k
range_off i k (pos n) e = not_off (ltb n 0x8000_0000) (Ok (pos n)) i k e (λ q. no_plus n k q) (λ q. q)
range_off i k (negsuc n) e = not_off (ltb n 0x8000_0000) (Ok (negsuc n)) i k e (λ q. no_minus n k q) (λ q. q)

negated_off : (i k : ℕ) (v : Value) → negated i v ≡ off k → (v ≡ off k) ⊎ (i ≡ k)
unfolding negated
negated_off i k (Ok z) e = inr (range_off i k (neg_ℤ z) e)
negated_off i k (Err j) e = inl e

both_off : (f : ℤ → ℤ → ℤ) (i k : ℕ) (v w : Value) → both f i v w ≡ off k → (v ≡ off k) ⊎ ((w ≡ off k) ⊎ (i ≡ k))
unfolding both
both_off f i k (Err j) w e = inl e
both_off f i k (Ok m) (Err j) e = inr (inl e)
both_off f i k (Ok m) (Ok n) e = inr (inr (range_off i k (f m n) e))

mutual
  unfolding eval_e eval_p eval_f text_e text_p text_f joined multiplied

  off_e : (x : Expr) (i k : ℕ) → eval_e x i ≡ off k → k ≤ i + length (text_e x)
  off_e (Expr.only p) i k e = off_p p i k e
  off_e (Expr.sum x m p) i k e =
      let n : length (text_e x ++ (sign_byte m ∷ text_p p)) ≡ length (text_e x) + suc (length (text_p p)) = length-append (text_e x) (sign_byte m ∷ text_p p) in
      ⊎_elim (λ q. omega (arith, n, off_e x i k q)) (λ r. ⊎_elim (λ q. omega (arith, n, off_p p (i + length (text_e x) + 1) k q)) (λ q. omega arith) r)
      (both_off (join_z m) i k (eval_e x i) (eval_p p (i + length (text_e x) + 1)) e)

  off_p : (x : Prod) (i k : ℕ) → eval_p x i ≡ off k → k ≤ i + length (text_p x)
  off_p (Prod.one f) i k e = off_f f i k e
  off_p (Prod.times x f) i k e =
      let n : length (text_p x ++ (42 ∷ text_f f)) ≡ length (text_p x) + suc (length (text_f f)) = length-append (text_p x) (42 ∷ text_f f) in
      ⊎_elim (λ q. omega (arith, n, off_p x i k q)) (λ r. ⊎_elim (λ q. omega (arith, n, off_f f (i + length (text_p x) + 1) k q)) (λ q. omega arith) r)
      (both_off (λ a b. a *ℤ b) i k (eval_p x i) (eval_f f (i + length (text_p x) + 1)) e)

  off_f : (x : Fac) (i k : ℕ) → eval_f x i ≡ off k → k ≤ i + length (text_f x)
  off_f (Fac.num h d ds) i k e = let q : i ≡ k = range_off i k (pos (digits_value h 0 (d ∷ ds))) e in omega arith
  off_f (Fac.bracket x) i k e =
      let n : length (text_e x ++ (41 ∷ [])) ≡ length (text_e x) + 1 = length-append (text_e x) (41 ∷ []) in
      omega (arith, n, off_e x (i + 1) k e)
  off_f (Fac.minus f) i k e = ⊎_elim (λ q. omega (arith, off_f f (i + 1) k q)) (λ q. omega arith) (negated_off i k (eval_f f (i + 1)) e)

field_same : (j k : ℕ) → field_off j ≡ field_off k → off j ≡ off k
field_same j k e = let q : ◌≡◌ {A = Off} (record { column = j }) (record { column = k }) = cc in ap (λ (x : Off). off x.column) q

no_pick : {C : Type 0} (b : Bool) (n k : ℕ) → ◌≡◌ {A = Field} (pick b (Ok n) unfit) (field_off k) → C
no_pick true n k e = let z : ◌≡◌ {A = ℕ} 0 1 = cc in let y : ⊥ = omega arith in absurd y
no_pick false n k e = let z : ◌≡◌ {A = ℕ} 0 1 = cc in let y : ⊥ = omega arith in absurd y

no_unfit : {C : Type 0} (k : ℕ) → unfit ≡ field_off k → C
no_unfit k e = let z : ◌≡◌ {A = ℕ} 0 1 = cc in let y : ⊥ = omega arith in absurd y

signed_off : (h : ℕ) (v : Value) (k : ℕ) → signed_code h v ≡ field_off k → v ≡ off k
unfolding signed_code
signed_off h (Ok (pos n)) k e = no_pick (ltb n h) n k e
signed_off h (Ok (negsuc n)) k e = no_pick (ltb n h) (2 * h - 1 - n) k e
signed_off h (Err j) k e = field_same j.column k e

no_signed : {C : Type 0} (b : Bool) (h : ℕ) (v : Value) (k : ℕ) → pick b (signed_code h v) unfit ≡ field_off k → (v ≡ off k → C) → C
no_signed true h v k e f = f (signed_off h v k e)
no_signed false h v k e f = no_unfit k e

code_off : (r : Range) (v : Value) (k : ℕ) → code_of r v ≡ field_off k → v ≡ off k
unfolding unsigned_code target_code frame_code
code_off (signed h) v k e = signed_off h v k e
code_off (unsigned m) (Ok (pos n)) k e = no_pick (ltb n m) n k e
code_off (unsigned m) (Ok (negsuc n)) k e = no_unfit k e
code_off (unsigned m) (Err j) k e = field_same j.column k e
code_off (target h) (Ok (pos n)) k e = no_signed (eqb (n % 4) 0) h (Ok (pos (n / 4))) k e (λ q. no_plus (n / 4) k q)
code_off (target h) (Ok (negsuc n)) k e = no_signed (eqb (n % 4) 3) h (Ok (negsuc (n / 4))) k e (λ q. no_minus (n / 4) k q)
code_off (target h) (Err j) k e = field_same j.column k e
code_off (frame h) (Ok (pos n)) k e = no_plus (n / 8) k (signed_off h (Ok (pos (n / 8))) k e)
code_off (frame h) (Ok (negsuc n)) k e = no_minus (n / 8) k (signed_off h (Ok (negsuc (n / 8))) k e)
code_off (frame h) (Err j) k e = field_same j.column k e

register_off : {C : Type 0} (p : Part) (k : ℕ) → register_field p ≡ field_off k → C
register_off (register d ds) k e = no_pick (ltb (digits_value false 0 (d ∷ ds)) 32) (digits_value false 0 (d ∷ ds)) k e
register_off lone k e = let z : ◌≡◌ {A = ℕ} 0 1 = cc in let y : ⊥ = omega arith in absurd y
register_off (byte c) k e = no_unfit k e
register_off (value x) k e = no_unfit k e

number_off : (r : Range) (i : ℕ) (p : Part) (k : ℕ) → number_field r i p ≡ field_off k → k ≤ i + length (text_of p)
unfolding text_of
number_off r i (value x) k e = off_e x i k (code_off r (eval_e x i) k e)
number_off r i (byte c) k e = no_unfit k e
number_off r i (register d ds) k e = no_unfit k e
number_off r i lone k e = no_unfit k e

first_off_lem : (f : Field) (fs : List Field) (k : ℕ) → first_off (f ∷ fs) ≡ at k → (f ≡ field_off k) ⊎ (first_off fs ≡ at k)
unfolding first_off
first_off_lem (Ok n) fs k e = inr e
first_off_lem (Err Misfit.Unfit) fs k e = inr e
first_off_lem (Err (Misfit.Off j)) fs k e = inl (ap field_off (at_same j.column k e))

within : (xs : List Item) (ps : List Part) (i k : ℕ) → first_off (fields_from i xs ps) ≡ at k → k ≤ i + length (texts ps)
unfolding fields_from texts first_off
within [] [] i k e = let z : ◌≡◌ {A = ℕ} 0 1 = cc in let y : ⊥ = omega arith in absurd y
within [] (p ∷ ps) i k e = let z : ◌≡◌ {A = ℕ} 0 1 = cc in let y : ⊥ = omega arith in absurd y
within (x ∷ xs) [] i k e = let z : ◌≡◌ {A = ℕ} 0 1 = cc in let y : ⊥ = omega arith in absurd y
within (lit c ∷ xs) (p ∷ ps) i k e = let n : length (text_of p ++ texts ps) ≡ length (text_of p) + length (texts ps) = length-append (text_of p) (texts ps) in omega (arith, n, within xs ps (i + length (text_of p)) k e)
within (reg ∷ xs) (p ∷ ps) i k e =
    let n : length (text_of p ++ texts ps) ≡ length (text_of p) + length (texts ps) = length-append (text_of p) (texts ps) in
    ⊎_elim (λ q. register_off p k q) (λ q. omega (arith, n, within xs ps (i + length (text_of p)) k q)) (first_off_lem (register_field p) (fields_from (i + length (text_of p)) xs ps) k e)
within (zreg ∷ xs) (p ∷ ps) i k e =
    let n : length (text_of p ++ texts ps) ≡ length (text_of p) + length (texts ps) = length-append (text_of p) (texts ps) in
    ⊎_elim (λ q. register_off p k q) (λ q. omega (arith, n, within xs ps (i + length (text_of p)) k q)) (first_off_lem (register_field p) (fields_from (i + length (text_of p)) xs ps) k e)
within (num r ∷ xs) (p ∷ ps) i k e =
    let n : length (text_of p ++ texts ps) ≡ length (text_of p) + length (texts ps) = length-append (text_of p) (texts ps) in
    ⊎_elim (λ q. omega (arith, n, number_off r i p k q)) (λ q. omega (arith, n, within xs ps (i + length (text_of p)) k q)) (first_off_lem (number_field r i p) (fields_from (i + length (text_of p)) xs ps) k e)

outside_column : (p : Profile) (s : List ℕ) (k : ℕ) (h : Has p s) → first_off (fields_of h) ≡ at k → k ≤ length s
outside_column p s k h e = let q : length (texts h.parts) ≡ length s = ap length h.text in omega (arith, within _ h.parts 0 k e)

-- the column and the number of every answer are small
pub answer_small : (p : Profile) (s : List ℕ) (r : Assembled) → Answer p s r → (column_of r ≤ 256) × (refusal_of r ≤ 12)
answer_small p s r (accepted i l x v) = (omega arith, omega arith)
answer_small p s r (answer_stopped k x) = (x.most, omega arith)
answer_small p s r (outside k l h e) = (omega (arith, outside_column p s k h e), omega arith)
answer_small p s r (invalid l h e n) = (omega arith, omega arith)
