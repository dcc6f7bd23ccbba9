-- An instruction with the operands of a line: filled with its own it is itself, filled with others it has those and its shape.
use Prim.Native.Nat.{ℕ, ◌*◌, ◌%◌, ◌^◌, ◌<◌, ◌≤◌}
use native.Mathlib.Omega.{arith}
use native.Mathlib.Nat.{mod-eq_of_lt}
use mathlib.Core.Path.{◌≡◌, refl, sym, ap, ◌∙◌}
use mathlib.Core.Bool.{true, false, ◌||◌}
use mathlib.Core.Logic.{⊎_elim}
use mathlib.Core.List.{List, [], ◌∷◌, ◌++◌}
use lib.Dec.{eqb, lit≤}
use Rattle.std.proofs.lemmas.Bool.{or_cases}
use borrow.Author.Tests.{ltb-true, eqb-true}
use Rattle.word.proofs.Truth.{never, and_left, and_right}
use Rattle.word.proofs.ByBits.{digit_of_lem}
use Rattle.insn.specs.Valid.{valid_of, trap_form, mark_form}
use Rattle.insn.proofs.Round.{reg_lt, spr_lt, to_lt}
use Rattle.insn.specs.declared.instr.Instr.{Instr}
use Rattle.insn.specs.declared.instr.Arithmetic.{Arithmetic}
use Rattle.insn.specs.declared.instr.Logical.{Logical}
use Rattle.insn.specs.declared.instr.Compare.{Compare}
use Rattle.insn.specs.declared.instr.Rotate.{Rotate}
use Rattle.insn.specs.declared.instr.LoadStore.{LoadStore}
use Rattle.insn.specs.declared.instr.Branch.{Branch}
use Rattle.insn.specs.declared.instr.System.{System}
use Rattle.insn.specs.declared.instr.ArithImmOp.{ArithImmOp}
use Rattle.insn.specs.declared.instr.SprOp.{SprOp}
use Rattle.insn.specs.declared.instr.Sign.{Sign}
use Rattle.syntax.specs.Syntax.{Range, signed, unsigned, target, frame, Item, lit, reg, zreg, num, Piece, letter, gpr, gpr_or0, number, letters, spelt, written, plain, items_of, shape_of}
use Rattle.syntax.specs.Text.{bytes}
use Rattle.syntax.specs.Worth.{Field, codes, all_codes}
use Rattle.syntax.specs.Rows.{sample_of}
use Rattle.syntax.specs.Inside.{Operands, no_operands, pushed}
use Rattle.asm.specs.Inside.{Codes, codes_in, filled}
use Rattle.syntax.proofs.Samples.{operands, spelt_is, sample_shape}

unfoldable pub push_all : Operands → List Field → Operands
push_all o [] = o
push_all o (f ∷ fs) = push_all (pushed o f) fs

-- an instruction with these operands
abbrev pub filled_with : Instr → List ℕ → Instr
filled_with i fs = filled i (codes_in (push_all no_operands (all_codes fs)))

-- how many numbers a range has
abbrev pub size_of : Range → ℕ
size_of (signed h) = 2 * h
size_of (unsigned m) = m
size_of (target h) = 2 * h
size_of (frame h) = 2 * h

-- what the operands hold is within their fields, and the fields are no wider than 24 bits
unfoldable pub Fit : List Piece → Type 0
Fit [] = Unit {0}
Fit (letter c ∷ ps) = Fit ps
Fit (gpr n ∷ ps) = (n < 32) × Fit ps
Fit (gpr_or0 n ∷ ps) = (n < 32) × Fit ps
Fit (number r n ∷ ps) = (n < size_of r) × (size_of r ≤ 2 ^ 24) × Fit ps

fit_after : (name : List ℕ) (ps : List Piece) → Fit ps → Fit (letters name ++ ps)
unfolding Fit letters
fit_after [] ps h = h
fit_after (c ∷ cs) ps h = fit_after cs ps h

fit : (name : List ℕ) (o : List Piece) (os : List (List Piece)) → Fit (operands o os) → Fit (spelt name (o ∷ os))
fit name o os h = rw (spelt_is name o os) (fit_after name _ h)

codes_after : (name : List ℕ) (ps : List Piece) → codes (letters name ++ ps) ≡ codes ps
unfolding codes letters
codes_after [] ps = refl
codes_after (c ∷ cs) ps = codes_after cs ps

codes_are : (name : List ℕ) (o : List Piece) (os : List (List Piece)) → codes (spelt name (o ∷ os)) ≡ codes (operands o os)
codes_are name o os = rw (spelt_is name o os) (codes_after name _)

-- what is within a field is not cut
eight_4 : (n : ℕ) → n < 4 → n % 0x100 ≡ n
eight_4 n h = mod-eq_of_lt (omega arith)

eight_32 : (n : ℕ) → n < 32 → n % 0x100 ≡ n
eight_32 n h = mod-eq_of_lt (omega arith)

eight_64 : (n : ℕ) → n < 64 → n % 0x100 ≡ n
eight_64 n h = mod-eq_of_lt (omega arith)

sixteen_32 : (n : ℕ) → n < 32 → n % 0x1_0000 ≡ n
sixteen_32 n h = mod-eq_of_lt (omega arith)

sixteen_1024 : (n : ℕ) → n < 1024 → n % 0x1_0000 ≡ n
sixteen_1024 n h = mod-eq_of_lt (omega arith)

sixteen_13 : (n : ℕ) → n < 0x2000 → n % 0x1_0000 ≡ n
sixteen_13 n h = mod-eq_of_lt (omega arith)

sixteen_14 : (n : ℕ) → n < 0x4000 → n % 0x1_0000 ≡ n
sixteen_14 n h = mod-eq_of_lt (omega arith)

sixteen_16 : (n : ℕ) → n < 0x1_0000 → n % 0x1_0000 ≡ n
sixteen_16 n h = mod-eq_of_lt (omega arith)

zero_is : (n : ℕ) → eqb n 0 ≡ true → 0 ≡ n
zero_is n h = sym (eqb-true n 0 h)

ruleset uncut = (eight_4, eight_32, eight_64, sixteen_32, sixteen_1024, sixteen_13, sixteen_14, sixteen_16, digit_of_lem)

ruleset orders = (reg_lt, spr_lt, to_lt, ltb-true, and_left, and_right)

ruleset within = (orders, arith)

ruleset back = (uncut, orders, zero_is)

-- with TG the fields of tw hold anything that they have room for
trap_lt : (to ra rb : ℕ) → (mark_form to ra rb true || trap_form to ra rb) ≡ true → (to < 32) × (ra < 32) × (rb < 32)
trap_lt to ra rb v = ⊎_elim (λ h. search orders) (λ h. search orders) (or_cases (mark_form to ra rb true) (trap_form to ra rb) v)

-- a valid instruction's operands are within their fields, and filled with them its sample is that instruction
good : (i : Instr) → valid_of i ≡ true → Fit (written i) × (plain i ≡ true → filled_with (sample_of i) (codes (written i)) ≡ i)
unfolding Fit codes push_all all_codes
good (Instr.Arithmetic (Arithmetic.Immediate ArithImmOp.Addi rt ra si)) v = (fit _ _ _ (search within), λ p. simp codes_are (search back))
good (Instr.Arithmetic (Arithmetic.Immediate ArithImmOp.Addis rt ra si)) v = (fit _ _ _ (search within), λ p. simp codes_are (search back))
good (Instr.Arithmetic (Arithmetic.Immediate ArithImmOp.Addic rt ra si)) v = (fit _ _ _ (search within), λ p. simp codes_are (search back))
good (Instr.Arithmetic (Arithmetic.Immediate ArithImmOp.AddicDot rt ra si)) v = (fit _ _ _ (search within), λ p. simp codes_are (search back))
good (Instr.Arithmetic (Arithmetic.Immediate ArithImmOp.Subfic rt ra si)) v = (fit _ _ _ (search within), λ p. simp codes_are (search back))
good (Instr.Arithmetic (Arithmetic.Register op rt ra rb oe rc)) v = (fit _ _ _ (search within), λ p. simp codes_are (search back))
good (Instr.Arithmetic (Arithmetic.One op rt ra oe rc)) v = (fit _ _ _ (search within), λ p. simp codes_are (search back))
good (Instr.Arithmetic (Arithmetic.Multiply sign rt ra rb rc)) v = (fit _ _ _ (search within), λ p. simp codes_are (search back))
good (Instr.Arithmetic (Arithmetic.MultiplyImm rt ra si)) v = (fit _ _ _ (search within), λ p. simp codes_are (search back))
good (Instr.Arithmetic (Arithmetic.MultiplyLow rt ra rb oe rc)) v = (fit _ _ _ (search within), λ p. simp codes_are (search back))
good (Instr.Logical (Logical.Immediate op rs ra ui)) v = (fit _ _ _ (search within), λ p. simp codes_are (search back))
good (Instr.Logical (Logical.Register op rs ra rb rc)) v = (fit _ _ _ (search within), λ p. simp codes_are (search back))
good (Instr.Logical (Logical.One op rs ra rc)) v = (fit _ _ _ (search within), λ p. simp codes_are (search back))
good (Instr.Compare (Compare.Immediate Sign.Signed ra imm)) v = (fit _ _ _ (search within), λ p. simp codes_are (search back))
good (Instr.Compare (Compare.Immediate Sign.Unsigned ra imm)) v = (fit _ _ _ (search within), λ p. simp codes_are (search back))
good (Instr.Compare (Compare.Register sign ra rb)) v = (fit _ _ _ (search within), λ p. simp codes_are (search back))
good (Instr.Rotate (Rotate.Immediate op rs ra sh mb me rc)) v = (fit _ _ _ (search within), λ p. simp codes_are (search back))
good (Instr.Rotate (Rotate.Register rs ra rb mb me rc)) v = (fit _ _ _ (search within), λ p. simp codes_are (search back))
good (Instr.Rotate (Rotate.Shift op rs ra rb rc)) v = (fit _ _ _ (search within), λ p. simp codes_are (search back))
good (Instr.Rotate (Rotate.Srawi rs ra sh rc)) v = (fit _ _ _ (search within), λ p. simp codes_are (search back))
good (Instr.Rotate (Rotate.Double op ds da sh mb rc)) v = (fit _ _ _ (search within), λ p. simp codes_are (search back))
good (Instr.LoadStore (LoadStore.Load width true rt ra d)) v = (fit _ _ _ (search within), λ p. simp codes_are (search back))
good (Instr.LoadStore (LoadStore.Load width false rt ra d)) v = (fit _ _ _ (search within), λ p. simp codes_are (search back))
good (Instr.LoadStore (LoadStore.LoadIndexed width rt ra rb)) v = (fit _ _ _ (search within), λ p. simp codes_are (search back))
good (Instr.LoadStore (LoadStore.Store width true rs ra d)) v = (fit _ _ _ (search within), λ p. simp codes_are (search back))
good (Instr.LoadStore (LoadStore.Store width false rs ra d)) v = (fit _ _ _ (search within), λ p. simp codes_are (search back))
good (Instr.LoadStore (LoadStore.StoreIndexed width rs ra rb)) v = (fit _ _ _ (search within), λ p. simp codes_are (search back))
good (Instr.LoadStore (LoadStore.LoadDouble true dt ra d)) v = (fit _ _ _ (search within), λ p. simp codes_are (search back))
good (Instr.LoadStore (LoadStore.LoadDouble false dt ra d)) v = (fit _ _ _ (search within), λ p. simp codes_are (search back))
good (Instr.LoadStore (LoadStore.StoreDouble true ds ra d)) v = (fit _ _ _ (search within), λ p. simp codes_are (search back))
good (Instr.LoadStore (LoadStore.StoreDouble false ds ra d)) v = (fit _ _ _ (search within), λ p. simp codes_are (search back))
good (Instr.Stack dd op rt ra) v = (fit _ _ _ (search within), λ p. simp codes_are (search back))
good (Instr.Branch (Branch.Always aa lk li)) v = (fit _ _ _ (search within), λ p. simp codes_are)
good (Instr.Branch (Branch.Conditional bo bi bd aa lk)) v = (fit _ _ _ (search within), λ p. simp codes_are (search back))
good (Instr.Branch (Branch.Register op bo bi bh lk)) v = (fit _ _ _ (search within), λ p. simp codes_are (search back))
good (Instr.Trap to ra rb false) v = (fit _ _ _ (search within), λ p. simp codes_are (search back))
good (Instr.Trap to ra rb true) v = let t = trap_lt to ra rb v in (fit _ _ _ (t.0, lit≤ tt, (t.1, (t.2, tt))), λ p. never (sym p))
good (Instr.System (System.Spr SprOp.Mfspr rt spr)) v = (fit _ _ _ (search within), λ p. simp codes_are (search back))
good (Instr.System (System.Spr SprOp.Mtspr rt spr)) v = (fit _ _ _ (search within), λ p. simp codes_are (search back))
good (Instr.System (System.Move op rt)) v = (fit _ _ _ (search within), λ p. simp codes_are (search back))
good (Instr.System (System.Wrteei true)) v = (fit _ _ _ (search within), λ p. simp codes_are)
good (Instr.System (System.Wrteei false)) v = (fit _ _ _ (search within), λ p. simp codes_are)
good (Instr.System System.Rfi) v = (unfold spelt letters bytes in tt, λ p. refl)
good (Instr.System System.Sync) v = (unfold spelt letters bytes in tt, λ p. refl)
good (Instr.Cache op hint ra rb) v = (fit _ _ _ (search within), λ p. simp codes_are (search back))

pub fit_written : (i : Instr) → valid_of i ≡ true → Fit (written i)
fit_written i v = (good i v).0

pub fill_back : (i : Instr) → valid_of i ≡ true → plain i ≡ true → filled (sample_of i) (codes_in (push_all no_operands (all_codes (codes (written i))))) ≡ i
fill_back i v p = (good i v).1 p

-- so the mnemonic and what the operands hold tell the instruction
pub spelt_same : (i j : Instr) → valid_of i ≡ true → valid_of j ≡ true → plain i ≡ true → plain j ≡ true → sample_of i ≡ sample_of j → codes (written i) ≡ codes (written j) → i ≡ j
spelt_same i j v u p q s e = sym (fill_back i v p) ∙ ap (λ (x : Instr). filled_with x (codes (written i))) s ∙ ap (filled_with (sample_of j)) e ∙ fill_back j u q

fill_sample : (i : Instr) (o : Codes) → sample_of (filled i o) ≡ sample_of i
fill_sample (Instr.Arithmetic (Arithmetic.Immediate op rt ra si)) o = refl
fill_sample (Instr.Arithmetic (Arithmetic.Register op rt ra rb oe rc)) o = refl
fill_sample (Instr.Arithmetic (Arithmetic.One op rt ra oe rc)) o = refl
fill_sample (Instr.Arithmetic (Arithmetic.Multiply sign rt ra rb rc)) o = refl
fill_sample (Instr.Arithmetic (Arithmetic.MultiplyImm rt ra si)) o = refl
fill_sample (Instr.Arithmetic (Arithmetic.MultiplyLow rt ra rb oe rc)) o = refl
fill_sample (Instr.Logical (Logical.Immediate op rs ra ui)) o = refl
fill_sample (Instr.Logical (Logical.Register op rs ra rb rc)) o = refl
fill_sample (Instr.Logical (Logical.One op rs ra rc)) o = refl
fill_sample (Instr.Compare (Compare.Immediate sign ra imm)) o = refl
fill_sample (Instr.Compare (Compare.Register sign ra rb)) o = refl
fill_sample (Instr.Rotate (Rotate.Immediate op rs ra sh mb me rc)) o = refl
fill_sample (Instr.Rotate (Rotate.Register rs ra rb mb me rc)) o = refl
fill_sample (Instr.Rotate (Rotate.Shift op rs ra rb rc)) o = refl
fill_sample (Instr.Rotate (Rotate.Srawi rs ra sh rc)) o = refl
fill_sample (Instr.Rotate (Rotate.Double op ds da sh mb rc)) o = refl
fill_sample (Instr.LoadStore (LoadStore.Load width update rt ra d)) o = refl
fill_sample (Instr.LoadStore (LoadStore.LoadIndexed width rt ra rb)) o = refl
fill_sample (Instr.LoadStore (LoadStore.Store width update rs ra d)) o = refl
fill_sample (Instr.LoadStore (LoadStore.StoreIndexed width rs ra rb)) o = refl
fill_sample (Instr.LoadStore (LoadStore.LoadDouble update dt ra d)) o = refl
fill_sample (Instr.LoadStore (LoadStore.StoreDouble update ds ra d)) o = refl
fill_sample (Instr.Stack dd op rt ra) o = refl
fill_sample (Instr.Branch (Branch.Always aa lk li)) o = refl
fill_sample (Instr.Branch (Branch.Conditional bo bi bd aa lk)) o = refl
fill_sample (Instr.Branch (Branch.Register op bo bi bh lk)) o = refl
fill_sample (Instr.Trap to ra rb tg) o = refl
fill_sample (Instr.System (System.Spr SprOp.Mfspr rt spr)) o = refl
fill_sample (Instr.System (System.Spr SprOp.Mtspr rt spr)) o = refl
fill_sample (Instr.System (System.Move op rt)) o = refl
fill_sample (Instr.System (System.Wrteei e)) o = refl
fill_sample (Instr.System System.Rfi) o = refl
fill_sample (Instr.System System.Sync) o = refl
fill_sample (Instr.Cache op hint ra rb) o = refl

pub fill_shape : (i : Instr) (o : Codes) → shape_of (filled i o) ≡ shape_of i
fill_shape i o = sample_shape (filled i o) ∙ ap shape_of (fill_sample i o) ∙ sym (sample_shape i)

pub fill_plain : (i : Instr) (o : Codes) → plain (filled i o) ≡ plain i
fill_plain (Instr.Arithmetic x) o = refl
fill_plain (Instr.Logical x) o = refl
fill_plain (Instr.Compare x) o = refl
fill_plain (Instr.Rotate x) o = refl
fill_plain (Instr.LoadStore x) o = refl
fill_plain (Instr.Stack dd op rt ra) o = refl
fill_plain (Instr.Branch (Branch.Always aa lk li)) o = refl
fill_plain (Instr.Branch (Branch.Conditional bo bi bd aa lk)) o = refl
fill_plain (Instr.Branch (Branch.Register op bo bi bh lk)) o = refl
fill_plain (Instr.Trap to ra rb true) o = refl
fill_plain (Instr.Trap to ra rb false) o = refl
fill_plain (Instr.System x) o = refl
fill_plain (Instr.Cache op hint ra rb) o = refl

-- a number for each operand of a shape, within its field, and none more
abbrev pub sizes : List Item → List ℕ
sizes [] = []
sizes (lit c ∷ xs) = sizes xs
sizes (reg ∷ xs) = 32 ∷ sizes xs
sizes (zreg ∷ xs) = 32 ∷ sizes xs
sizes (num r ∷ xs) = size_of r ∷ sizes xs

abbrev pub Below : List ℕ → List ℕ → Type 0
Below [] [] = Unit {0}
Below [] (n ∷ ns) = ⊥
Below (m ∷ ms) [] = ⊥
Below (m ∷ ms) (n ∷ ns) = (n < m) × Below ms ns

unfoldable pub Bounded : List Item → List ℕ → Type 0
Bounded xs fs = Below (sizes xs) fs

sizes_after : (name : List ℕ) (ps : List Piece) → sizes (items_of (letters name ++ ps)) ≡ sizes (items_of ps)
unfolding items_of letters
sizes_after [] ps = refl
sizes_after (c ∷ cs) ps = sizes_after cs ps

-- a claim for every such list, operand by operand
abbrev Each : List ℕ → (List ℕ → Type 0) → Type 0
Each [] P = P []
Each (m ∷ ms) P = (n : ℕ) → n < m → Each ms (λ (ns : List ℕ). P (n ∷ ns))

each : (ms : List ℕ) (P : List ℕ → Type 0) → Each ms P → (ns : List ℕ) → Below ms ns → P ns
each [] P f [] h = f
each [] P f (n ∷ ns) h = absurd h
each (m ∷ ms) P f [] h = absurd h
each (m ∷ ms) P f (n ∷ ns) h = each ms (λ (ns : List ℕ). P (n ∷ ns)) (f n h.0) ns h.1

bounded : (name : List ℕ) (o : List Piece) (os : List (List Piece)) (P : List ℕ → Type 0) → Each (sizes (items_of (operands o os))) P → (fs : List ℕ) → Bounded (items_of (spelt name (o ∷ os))) fs → P fs
unfolding Bounded
bounded name o os P f fs h = each (sizes (items_of (operands o os))) P f fs (rw (spelt_is name o os, sizes_after name (operands o os)) at h)

pub fill_codes : (i : Instr) (fs : List ℕ) → Bounded (shape_of i) fs → codes (written (filled i (codes_in (push_all no_operands (all_codes fs))))) ≡ fs
unfolding shape_of items_of codes push_all all_codes
fill_codes (Instr.Arithmetic (Arithmetic.Immediate ArithImmOp.Addi rt ra si)) = bounded _ _ _ _ (λ a ua b ub c uc. simp codes_are (search uncut))
fill_codes (Instr.Arithmetic (Arithmetic.Immediate ArithImmOp.Addis rt ra si)) = bounded _ _ _ _ (λ a ua b ub c uc. simp codes_are (search uncut))
fill_codes (Instr.Arithmetic (Arithmetic.Immediate ArithImmOp.Addic rt ra si)) = bounded _ _ _ _ (λ a ua b ub c uc. simp codes_are (search uncut))
fill_codes (Instr.Arithmetic (Arithmetic.Immediate ArithImmOp.AddicDot rt ra si)) = bounded _ _ _ _ (λ a ua b ub c uc. simp codes_are (search uncut))
fill_codes (Instr.Arithmetic (Arithmetic.Immediate ArithImmOp.Subfic rt ra si)) = bounded _ _ _ _ (λ a ua b ub c uc. simp codes_are (search uncut))
fill_codes (Instr.Arithmetic (Arithmetic.Register op rt ra rb oe rc)) = bounded _ _ _ _ (λ a ua b ub c uc. simp codes_are (search uncut))
fill_codes (Instr.Arithmetic (Arithmetic.One op rt ra oe rc)) = bounded _ _ _ _ (λ a ua b ub. simp codes_are (search uncut))
fill_codes (Instr.Arithmetic (Arithmetic.Multiply sign rt ra rb rc)) = bounded _ _ _ _ (λ a ua b ub c uc. simp codes_are (search uncut))
fill_codes (Instr.Arithmetic (Arithmetic.MultiplyImm rt ra si)) = bounded _ _ _ _ (λ a ua b ub c uc. simp codes_are (search uncut))
fill_codes (Instr.Arithmetic (Arithmetic.MultiplyLow rt ra rb oe rc)) = bounded _ _ _ _ (λ a ua b ub c uc. simp codes_are (search uncut))
fill_codes (Instr.Logical (Logical.Immediate op rs ra ui)) = bounded _ _ _ _ (λ a ua b ub c uc. simp codes_are (search uncut))
fill_codes (Instr.Logical (Logical.Register op rs ra rb rc)) = bounded _ _ _ _ (λ a ua b ub c uc. simp codes_are (search uncut))
fill_codes (Instr.Logical (Logical.One op rs ra rc)) = bounded _ _ _ _ (λ a ua b ub. simp codes_are (search uncut))
fill_codes (Instr.Compare (Compare.Immediate Sign.Signed ra imm)) = bounded _ _ _ _ (λ a ua b ub. simp codes_are (search uncut))
fill_codes (Instr.Compare (Compare.Immediate Sign.Unsigned ra imm)) = bounded _ _ _ _ (λ a ua b ub. simp codes_are (search uncut))
fill_codes (Instr.Compare (Compare.Register sign ra rb)) = bounded _ _ _ _ (λ a ua b ub. simp codes_are (search uncut))
fill_codes (Instr.Rotate (Rotate.Immediate op rs ra sh mb me rc)) = bounded _ _ _ _ (λ a ua b ub c uc d ud e ue. simp codes_are (search uncut))
fill_codes (Instr.Rotate (Rotate.Register rs ra rb mb me rc)) = bounded _ _ _ _ (λ a ua b ub c uc d ud e ue. simp codes_are (search uncut))
fill_codes (Instr.Rotate (Rotate.Shift op rs ra rb rc)) = bounded _ _ _ _ (λ a ua b ub c uc. simp codes_are (search uncut))
fill_codes (Instr.Rotate (Rotate.Srawi rs ra sh rc)) = bounded _ _ _ _ (λ a ua b ub c uc. simp codes_are (search uncut))
fill_codes (Instr.Rotate (Rotate.Double op ds da sh mb rc)) = bounded _ _ _ _ (λ a ua b ub c uc d ud. simp codes_are (search uncut))
fill_codes (Instr.LoadStore (LoadStore.Load width true rt ra d)) = bounded _ _ _ _ (λ a ua b ub c uc. simp codes_are (search uncut))
fill_codes (Instr.LoadStore (LoadStore.Load width false rt ra d)) = bounded _ _ _ _ (λ a ua b ub c uc. simp codes_are (search uncut))
fill_codes (Instr.LoadStore (LoadStore.LoadIndexed width rt ra rb)) = bounded _ _ _ _ (λ a ua b ub c uc. simp codes_are (search uncut))
fill_codes (Instr.LoadStore (LoadStore.Store width true rs ra d)) = bounded _ _ _ _ (λ a ua b ub c uc. simp codes_are (search uncut))
fill_codes (Instr.LoadStore (LoadStore.Store width false rs ra d)) = bounded _ _ _ _ (λ a ua b ub c uc. simp codes_are (search uncut))
fill_codes (Instr.LoadStore (LoadStore.StoreIndexed width rs ra rb)) = bounded _ _ _ _ (λ a ua b ub c uc. simp codes_are (search uncut))
fill_codes (Instr.LoadStore (LoadStore.LoadDouble true dt ra d)) = bounded _ _ _ _ (λ a ua b ub c uc. simp codes_are (search uncut))
fill_codes (Instr.LoadStore (LoadStore.LoadDouble false dt ra d)) = bounded _ _ _ _ (λ a ua b ub c uc. simp codes_are (search uncut))
fill_codes (Instr.LoadStore (LoadStore.StoreDouble true ds ra d)) = bounded _ _ _ _ (λ a ua b ub c uc. simp codes_are (search uncut))
fill_codes (Instr.LoadStore (LoadStore.StoreDouble false ds ra d)) = bounded _ _ _ _ (λ a ua b ub c uc. simp codes_are (search uncut))
fill_codes (Instr.Stack dd op rt ra) = bounded _ _ _ _ (λ a ua b ub c uc. simp codes_are (search uncut))
fill_codes (Instr.Branch (Branch.Always aa lk li)) = bounded _ _ _ _ (λ a ua. simp codes_are (search uncut))
fill_codes (Instr.Branch (Branch.Conditional bo bi bd aa lk)) = bounded _ _ _ _ (λ a ua b ub c uc. simp codes_are (search uncut))
fill_codes (Instr.Branch (Branch.Register op bo bi bh lk)) = bounded _ _ _ _ (λ a ua b ub. simp codes_are (search uncut))
fill_codes (Instr.Trap to ra rb tg) = bounded _ _ _ _ (λ a ua b ub c uc. simp codes_are (search uncut))
fill_codes (Instr.System (System.Spr SprOp.Mfspr rt spr)) = bounded _ _ _ _ (λ a ua b ub. simp codes_are (search uncut))
fill_codes (Instr.System (System.Spr SprOp.Mtspr rt spr)) = bounded _ _ _ _ (λ a ua b ub. simp codes_are (search uncut))
fill_codes (Instr.System (System.Move op rt)) = bounded _ _ _ _ (λ a ua. simp codes_are (search uncut))
fill_codes (Instr.System (System.Wrteei e)) = bounded _ _ _ _ (λ a ua. simp codes_are (search uncut))
fill_codes (Instr.System System.Rfi) = λ fs h. unfold Bounded spelt letters bytes in each [] (λ (fs : List ℕ). [] ≡ fs) refl fs h
fill_codes (Instr.System System.Sync) = λ fs h. unfold Bounded spelt letters bytes in each [] (λ (fs : List ℕ). [] ≡ fs) refl fs h
fill_codes (Instr.Cache op hint ra rb) = bounded _ _ _ _ (λ a ua b ub. simp codes_are (search uncut))
