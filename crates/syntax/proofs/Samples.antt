-- The sample of each mnemonic: it is valid and plain, has the shape of the mnemonic's lines, and stands in the row that is said.
use Prim.Native.Nat.{ℕ, ◌+◌, ◌*◌, ◌<◌}
use mathlib.Core.Path.{◌≡◌, refl, sym, ap, ◌∙◌}
use mathlib.Core.Bool.{Bool, true, false}
use mathlib.Core.List.{List, [], ◌∷◌, ◌++◌, append_assoc}
use native.Mathlib.Omega.{arith}
use lib.Dec.{lit<}
use lib.ListN.{length, get_or, drop, length-drop}
use lib.Seq.{get_or-drop}
use Rattle.word.specs.Bits.{digit}
use Rattle.insn.specs.Valid.{valid_of, reg_of, is_spr, read_only}
use Rattle.word.specs.declared.width.Width.{Width}
use Rattle.insn.specs.declared.profile.Profile.{Profile}
use Rattle.insn.specs.declared.instr.Instr.{Instr}
use Rattle.insn.specs.declared.instr.Arithmetic.{Arithmetic}
use Rattle.insn.specs.declared.instr.Logical.{Logical}
use Rattle.insn.specs.declared.instr.Compare.{Compare}
use Rattle.insn.specs.declared.instr.Rotate.{Rotate}
use Rattle.insn.specs.declared.instr.LoadStore.{LoadStore}
use Rattle.insn.specs.declared.instr.Branch.{Branch}
use Rattle.insn.specs.declared.instr.System.{System}
use Rattle.insn.specs.declared.instr.ArithImmOp.{ArithImmOp}
use Rattle.insn.specs.declared.instr.ArithOp.{ArithOp}
use Rattle.insn.specs.declared.instr.ArithOneOp.{ArithOneOp}
use Rattle.insn.specs.declared.instr.LogicImmOp.{LogicImmOp}
use Rattle.insn.specs.declared.instr.LogicOp.{LogicOp}
use Rattle.insn.specs.declared.instr.LogicOneOp.{LogicOneOp}
use Rattle.insn.specs.declared.instr.RotateOp.{RotateOp}
use Rattle.insn.specs.declared.instr.RotateDoubleOp.{RotateDoubleOp}
use Rattle.insn.specs.declared.instr.ShiftOp.{ShiftOp}
use Rattle.insn.specs.declared.instr.StackOp.{StackOp}
use Rattle.insn.specs.declared.instr.BranchOp.{BranchOp}
use Rattle.insn.specs.declared.instr.MoveOp.{MoveOp}
use Rattle.insn.specs.declared.instr.SprOp.{SprOp}
use Rattle.insn.specs.declared.instr.CacheOp.{CacheOp}
use Rattle.insn.specs.declared.instr.Sign.{Sign}
use Rattle.expr.proofs.Cases.{clash}
use Rattle.syntax.specs.Syntax.{Item, lit, Piece, letter, letters, commas, spelt, plain, spelled_on, items_of, shape_of}
use Rattle.syntax.specs.Rows.{one_frame, sample_of, samples, samples_a, samples_b, samples_c, samples_d, samples_e, samples_l, samples_m, samples_n, samples_o, samples_r, samples_s, samples_t, samples_w, samples_x, at, row_after, arith_imm_row, arith_row, arith_one_row, multiply_row, logic_imm_row, logic_row, logic_one_row, compare_imm_row, compare_row, rotate_row, rotate_double_row, shift_row, load_row, load_indexed_row, store_row, store_indexed_row, stack_row, branch_row, spr_row, move_row, cache_row, row_of}
use Rattle.syntax.specs.declared.row.Row.{Row}

-- the operands after a mnemonic
abbrev pub joined : List (List Piece) → List Piece
joined [] = []
joined (o ∷ os) = letter 44 ∷ o ++ joined os

abbrev pub operands : List Piece → List (List Piece) → List Piece
operands o os = letter 32 ∷ o ++ joined os

joined_is : (os : List (List Piece)) → commas os ≡ joined os
unfolding commas
joined_is [] = refl
joined_is (o ∷ os) = ap (λ (ps : List Piece). letter 44 ∷ o ++ ps) (joined_is os)

pub spelt_is : (name : List ℕ) (o : List Piece) (os : List (List Piece)) → spelt name (o ∷ os) ≡ letters name ++ operands o os
unfolding spelt
spelt_is name o os = append_assoc (letters name) _ _ ∙ ap (λ (ps : List Piece). letters name ++ (letter 32 ∷ o ++ ps)) (joined_is os)

items_after : (name : List ℕ) (ps qs : List Piece) → items_of ps ≡ items_of qs → items_of (letters name ++ ps) ≡ items_of (letters name ++ qs)
unfolding items_of letters
items_after [] ps qs e = e
items_after (c ∷ cs) ps qs e = ap (λ (xs : List Item). lit c ∷ xs) (items_after cs ps qs e)

alike : (name : List ℕ) (o p : List Piece) (os ps : List (List Piece)) → items_of (operands o os) ≡ items_of (operands p ps) → items_of (spelt name (o ∷ os)) ≡ items_of (spelt name (p ∷ ps))
alike name o p os ps e = rw (spelt_is name o os, spelt_is name p ps) (items_after name _ _ e)

abbrev Sampled : Instr → Type 0
Sampled i = (valid_of (sample_of i) ≡ true) × (plain (sample_of i) ≡ true) × (shape_of i ≡ shape_of (sample_of i))

sampled : (i : Instr) → Sampled i
unfolding reg_of is_spr read_only shape_of items_of
sampled (Instr.Arithmetic (Arithmetic.Immediate ArithImmOp.Addi rt ra si)) = (refl, refl, alike _ _ _ _ _ refl)
sampled (Instr.Arithmetic (Arithmetic.Immediate ArithImmOp.Addis rt ra si)) = (refl, refl, alike _ _ _ _ _ refl)
sampled (Instr.Arithmetic (Arithmetic.Immediate ArithImmOp.Addic rt ra si)) = (refl, refl, alike _ _ _ _ _ refl)
sampled (Instr.Arithmetic (Arithmetic.Immediate ArithImmOp.AddicDot rt ra si)) = (refl, refl, alike _ _ _ _ _ refl)
sampled (Instr.Arithmetic (Arithmetic.Immediate ArithImmOp.Subfic rt ra si)) = (refl, refl, alike _ _ _ _ _ refl)
sampled (Instr.Arithmetic (Arithmetic.Register op rt ra rb oe rc)) = (refl, refl, alike _ _ _ _ _ refl)
sampled (Instr.Arithmetic (Arithmetic.One op rt ra oe rc)) = (refl, refl, alike _ _ _ _ _ refl)
sampled (Instr.Arithmetic (Arithmetic.Multiply sign rt ra rb rc)) = (refl, refl, alike _ _ _ _ _ refl)
sampled (Instr.Arithmetic (Arithmetic.MultiplyImm rt ra si)) = (refl, refl, alike _ _ _ _ _ refl)
sampled (Instr.Arithmetic (Arithmetic.MultiplyLow rt ra rb oe rc)) = (refl, refl, alike _ _ _ _ _ refl)
sampled (Instr.Logical (Logical.Immediate op rs ra ui)) = (refl, refl, alike _ _ _ _ _ refl)
sampled (Instr.Logical (Logical.Register op rs ra rb rc)) = (refl, refl, alike _ _ _ _ _ refl)
sampled (Instr.Logical (Logical.One op rs ra rc)) = (refl, refl, alike _ _ _ _ _ refl)
sampled (Instr.Compare (Compare.Immediate Sign.Signed ra imm)) = (refl, refl, alike _ _ _ _ _ refl)
sampled (Instr.Compare (Compare.Immediate Sign.Unsigned ra imm)) = (refl, refl, alike _ _ _ _ _ refl)
sampled (Instr.Compare (Compare.Register sign ra rb)) = (refl, refl, alike _ _ _ _ _ refl)
sampled (Instr.Rotate (Rotate.Immediate op rs ra sh mb me rc)) = (refl, refl, alike _ _ _ _ _ refl)
sampled (Instr.Rotate (Rotate.Register rs ra rb mb me rc)) = (refl, refl, alike _ _ _ _ _ refl)
sampled (Instr.Rotate (Rotate.Shift op rs ra rb rc)) = (refl, refl, alike _ _ _ _ _ refl)
sampled (Instr.Rotate (Rotate.Srawi rs ra sh rc)) = (refl, refl, alike _ _ _ _ _ refl)
sampled (Instr.Rotate (Rotate.Double op ds da sh mb rc)) = (refl, refl, alike _ _ _ _ _ refl)
sampled (Instr.LoadStore (LoadStore.Load width true rt ra d)) = (refl, refl, alike _ _ _ _ _ refl)
sampled (Instr.LoadStore (LoadStore.Load width false rt ra d)) = (refl, refl, alike _ _ _ _ _ refl)
sampled (Instr.LoadStore (LoadStore.LoadIndexed width rt ra rb)) = (refl, refl, alike _ _ _ _ _ refl)
sampled (Instr.LoadStore (LoadStore.Store width true rs ra d)) = (refl, refl, alike _ _ _ _ _ refl)
sampled (Instr.LoadStore (LoadStore.Store width false rs ra d)) = (refl, refl, alike _ _ _ _ _ refl)
sampled (Instr.LoadStore (LoadStore.StoreIndexed width rs ra rb)) = (refl, refl, alike _ _ _ _ _ refl)
sampled (Instr.LoadStore (LoadStore.LoadDouble true dt ra d)) = (refl, refl, alike _ _ _ _ _ refl)
sampled (Instr.LoadStore (LoadStore.LoadDouble false dt ra d)) = (refl, refl, alike _ _ _ _ _ refl)
sampled (Instr.LoadStore (LoadStore.StoreDouble true ds ra d)) = (refl, refl, alike _ _ _ _ _ refl)
sampled (Instr.LoadStore (LoadStore.StoreDouble false ds ra d)) = (refl, refl, alike _ _ _ _ _ refl)
sampled (Instr.Stack dd StackOp.Lsku rt ra) = (refl, refl, alike _ _ _ _ _ refl)
sampled (Instr.Stack dd StackOp.Stsku rt ra) = (refl, refl, alike _ _ _ _ _ refl)
sampled (Instr.Branch (Branch.Always aa lk li)) = (refl, refl, alike _ _ _ _ _ refl)
sampled (Instr.Branch (Branch.Conditional bo bi bd aa lk)) = (refl, refl, alike _ _ _ _ _ refl)
sampled (Instr.Branch (Branch.Register BranchOp.Bclr bo bi bh lk)) = (refl, refl, alike _ _ _ _ _ refl)
sampled (Instr.Branch (Branch.Register BranchOp.Bcctr bo bi bh lk)) = (refl, refl, alike _ _ _ _ _ refl)
sampled (Instr.Trap to ra rb tg) = (refl, refl, alike _ _ _ _ _ refl)
sampled (Instr.System (System.Spr SprOp.Mfspr rt spr)) = (refl, refl, alike _ _ _ _ _ refl)
sampled (Instr.System (System.Spr SprOp.Mtspr rt spr)) = (refl, refl, alike _ _ _ _ _ refl)
sampled (Instr.System (System.Move op rt)) = (refl, refl, alike _ _ _ _ _ refl)
sampled (Instr.System (System.Wrteei e)) = (refl, refl, alike _ _ _ _ _ refl)
sampled (Instr.System System.Rfi) = (refl, refl, refl)
sampled (Instr.System System.Sync) = (refl, refl, refl)
sampled (Instr.Cache CacheOp.Dcbf hint ra rb) = (refl, refl, alike _ _ _ _ _ refl)
sampled (Instr.Cache CacheOp.Dcbi hint ra rb) = (refl, refl, alike _ _ _ _ _ refl)
sampled (Instr.Cache CacheOp.Dcbt hint ra rb) = (refl, refl, alike _ _ _ _ _ refl)
sampled (Instr.Cache CacheOp.Dcbz hint ra rb) = (refl, refl, alike _ _ _ _ _ refl)

pub sample_valid : (i : Instr) → valid_of (sample_of i) ≡ true
sample_valid i = (sampled i).0

pub sample_plain : (i : Instr) → plain (sample_of i) ≡ true
sample_plain i = (sampled i).1

pub sample_shape : (i : Instr) → shape_of i ≡ shape_of (sample_of i)
sample_shape i = (sampled i).2

-- what stands in a row of a core's samples
abbrev In : Profile → Row → Instr → Type 0
In p r i = ((d : Instr) → get_or (samples p r.letter) r.row d ≡ i) × (r.row < length (samples p r.letter))

-- the rows from one on
abbrev From : Profile → Row → List Instr → Type 0
From p r is = drop r.row (samples p r.letter) ≡ is

from_in : (p : Profile) (r : Row) (is : List Instr) (k : ℕ) (i : Instr) → From p r is → ((d : Instr) → get_or is k d ≡ i) → k < length is → In p (row_after r k) i
from_in p r is k i e g h = (λ d. sym (get_or-drop r.row (samples p r.letter) k d) ∙ ap (λ (xs : List Instr). get_or xs k d) e ∙ g d, omega (arith, simp length-drop at (ap length e)))

-- a row for each setting of a flag, or of two
data Two (p : Profile) (r : Row) (f : Bool → Instr) : Type 0 where
  two : (rest : List Instr) → From p r (f false ∷ f true ∷ rest) → Two p r f

data Four (p : Profile) (r : Row) (f : Bool → Bool → Instr) : Type 0 where
  four : (rest : List Instr) → From p r (f false false ∷ f false true ∷ f true false ∷ f true true ∷ rest) → Four p r f

two_in : {p : Profile} {r : Row} {f : Bool → Instr} → Two p r f → (b : Bool) → In p (row_after r (digit b)) (f b)
two_in {p} {r} (two rest e) false = from_in p r _ 0 _ e (λ d. refl) (omega arith)
two_in {p} {r} (two rest e) true = from_in p r _ 1 _ e (λ d. refl) (omega arith)

four_in : {p : Profile} {r : Row} {f : Bool → Bool → Instr} → Four p r f → (b c : Bool) → In p (row_after r (2 * digit b + digit c)) (f b c)
four_in {p} {r} (four rest e) false false = from_in p r _ 0 _ e (λ d. refl) (omega arith)
four_in {p} {r} (four rest e) false true = from_in p r _ 1 _ e (λ d. refl) (omega arith)
four_in {p} {r} (four rest e) true false = from_in p r _ 2 _ e (λ d. refl) (omega arith)
four_in {p} {r} (four rest e) true true = from_in p r _ 3 _ e (λ d. refl) (omega arith)

imm_in : (p : Profile) (op : ArithImmOp) → In p (arith_imm_row op) (Instr.Arithmetic (Arithmetic.Immediate op 0 0 0))
unfolding samples samples_a samples_s
imm_in p ArithImmOp.Addi = (λ d. refl, lit< tt)
imm_in p ArithImmOp.Addis = (λ d. refl, lit< tt)
imm_in p ArithImmOp.Addic = (λ d. refl, lit< tt)
imm_in p ArithImmOp.AddicDot = (λ d. refl, lit< tt)
imm_in p ArithImmOp.Subfic = (λ d. refl, omega arith)

sum_rows : (p : Profile) (op : ArithOp) → Four p (arith_row op) (λ (b c : Bool). Instr.Arithmetic (Arithmetic.Register op 0 0 0 b c))
unfolding samples samples_a samples_s
sum_rows p ArithOp.Add = four _ refl
sum_rows p ArithOp.Addc = four _ refl
sum_rows p ArithOp.Adde = four _ refl
sum_rows p ArithOp.Subf = four _ refl
sum_rows p ArithOp.Subfc = four _ refl
sum_rows p ArithOp.Subfe = four _ refl

one_rows : (p : Profile) (op : ArithOneOp) → Four p (arith_one_row op) (λ (b c : Bool). Instr.Arithmetic (Arithmetic.One op 0 0 b c))
unfolding samples samples_a samples_n samples_s
one_rows p ArithOneOp.Addme = four _ refl
one_rows p ArithOneOp.Addze = four _ refl
one_rows p ArithOneOp.Subfme = four _ refl
one_rows p ArithOneOp.Subfze = four _ refl
one_rows p ArithOneOp.Neg = four _ refl

product_rows : (p : Profile) (op : Sign) → Two p (multiply_row op) (λ (b : Bool). Instr.Arithmetic (Arithmetic.Multiply op 0 0 0 b))
unfolding samples samples_m
product_rows p Sign.Signed = two _ refl
product_rows p Sign.Unsigned = two _ refl

logic_imm_in : (p : Profile) (op : LogicImmOp) → In p (logic_imm_row op) (Instr.Logical (Logical.Immediate op 0 0 0))
unfolding samples samples_a samples_o samples_x
logic_imm_in p LogicImmOp.AndiDot = (λ d. refl, lit< tt)
logic_imm_in p LogicImmOp.AndisDot = (λ d. refl, lit< tt)
logic_imm_in p LogicImmOp.Ori = (λ d. refl, lit< tt)
logic_imm_in p LogicImmOp.Oris = (λ d. refl, lit< tt)
logic_imm_in p LogicImmOp.Xori = (λ d. refl, lit< tt)
logic_imm_in p LogicImmOp.Xoris = (λ d. refl, lit< tt)

logic_rows : (p : Profile) (op : LogicOp) → Two p (logic_row op) (λ (b : Bool). Instr.Logical (Logical.Register op 0 0 0 b))
unfolding samples samples_a samples_e samples_n samples_o samples_x
logic_rows p LogicOp.And = two _ refl
logic_rows p LogicOp.Andc = two _ refl
logic_rows p LogicOp.Eqv = two _ refl
logic_rows p LogicOp.Nand = two _ refl
logic_rows p LogicOp.Nor = two _ refl
logic_rows p LogicOp.Or = two _ refl
logic_rows p LogicOp.Orc = two _ refl
logic_rows p LogicOp.Xor = two _ refl

logic_one_rows : (p : Profile) (op : LogicOneOp) → Two p (logic_one_row op) (λ (b : Bool). Instr.Logical (Logical.One op 0 0 b))
unfolding samples samples_c samples_e
logic_one_rows p LogicOneOp.Extsb = two _ refl
logic_one_rows p LogicOneOp.Extsh = two _ refl
logic_one_rows p LogicOneOp.Cntlzw = two _ refl

compare_imm_in : (p : Profile) (op : Sign) → In p (compare_imm_row op) (Instr.Compare (Compare.Immediate op 0 0))
unfolding samples samples_c
compare_imm_in p Sign.Signed = (λ d. refl, lit< tt)
compare_imm_in p Sign.Unsigned = (λ d. refl, lit< tt)

compare_in : (p : Profile) (op : Sign) → In p (compare_row op) (Instr.Compare (Compare.Register op 0 0))
unfolding samples samples_c
compare_in p Sign.Signed = (λ d. refl, lit< tt)
compare_in p Sign.Unsigned = (λ d. refl, lit< tt)

rotate_rows : (p : Profile) (op : RotateOp) → Two p (rotate_row op) (λ (b : Bool). Instr.Rotate (Rotate.Immediate op 0 0 0 0 0 b))
unfolding samples samples_r
rotate_rows p RotateOp.Rlwimi = two _ refl
rotate_rows p RotateOp.Rlwinm = two _ refl

double_rows : (op : RotateDoubleOp) → Two Profile.Ppe42x (rotate_double_row op) (λ (b : Bool). Instr.Rotate (Rotate.Double op 0 0 0 0 b))
unfolding samples samples_r
double_rows RotateDoubleOp.Rldicl = two _ refl
double_rows RotateDoubleOp.Rldicr = two _ refl
double_rows RotateDoubleOp.Rldimi = two _ refl

shift_rows : (p : Profile) (op : ShiftOp) → Two p (shift_row op) (λ (b : Bool). Instr.Rotate (Rotate.Shift op 0 0 0 b))
unfolding samples samples_s
shift_rows p ShiftOp.Slw = two _ refl
shift_rows p ShiftOp.Srw = two _ refl
shift_rows p ShiftOp.Sraw = two _ refl

load_rows : (p : Profile) (op : Width) → Two p (load_row op) (λ (b : Bool). Instr.LoadStore (LoadStore.Load op b 0 2 0))
unfolding samples samples_l
load_rows p Width.Byte = two _ refl
load_rows p Width.Half = two _ refl
load_rows p Width.Word = two _ refl

load_indexed_in : (p : Profile) (op : Width) → In p (load_indexed_row op) (Instr.LoadStore (LoadStore.LoadIndexed op 0 0 0))
unfolding samples samples_l
load_indexed_in p Width.Byte = (λ d. refl, omega arith)
load_indexed_in p Width.Half = (λ d. refl, omega arith)
load_indexed_in p Width.Word = (λ d. refl, omega arith)

store_rows : (p : Profile) (op : Width) → Two p (store_row op) (λ (b : Bool). Instr.LoadStore (LoadStore.Store op b 0 2 0))
unfolding samples samples_s
store_rows p Width.Byte = two _ refl
store_rows p Width.Half = two _ refl
store_rows p Width.Word = two _ refl

store_indexed_in : (p : Profile) (op : Width) → In p (store_indexed_row op) (Instr.LoadStore (LoadStore.StoreIndexed op 0 0 0))
unfolding samples samples_s
store_indexed_in p Width.Byte = (λ d. refl, omega arith)
store_indexed_in p Width.Half = (λ d. refl, omega arith)
store_indexed_in p Width.Word = (λ d. refl, omega arith)

stack_in : (op : StackOp) → In Profile.Ppe42x (stack_row op) (Instr.Stack (one_frame op) op 1 1)
unfolding samples samples_l samples_s
stack_in StackOp.Lsku = (λ d. refl, lit< tt)
stack_in StackOp.Stsku = (λ d. refl, lit< tt)

branch_rows : (p : Profile) (op : BranchOp) → Two p (branch_row op) (λ (b : Bool). Instr.Branch (Branch.Register op 20 0 0 b))
unfolding samples samples_b
branch_rows p BranchOp.Bclr = two _ refl
branch_rows p BranchOp.Bcctr = two _ refl

spr_in : (p : Profile) (op : SprOp) → In p (spr_row op) (Instr.System (System.Spr op 0 1))
unfolding samples samples_m
spr_in p SprOp.Mfspr = (λ d. refl, omega arith)
spr_in p SprOp.Mtspr = (λ d. refl, omega arith)

move_in : (p : Profile) (op : MoveOp) → In p (move_row op) (Instr.System (System.Move op 0))
unfolding samples samples_m samples_w
move_in p MoveOp.Mfcr = (λ d. refl, omega arith)
move_in p MoveOp.Mtcr0 = (λ d. refl, omega arith)
move_in p MoveOp.Mfmsr = (λ d. refl, omega arith)
move_in p MoveOp.Mtmsr = (λ d. refl, omega arith)
move_in p MoveOp.Wrtee = (λ d. refl, lit< tt)

cache_in : (p : Profile) (op : CacheOp) → In p (cache_row op) (Instr.Cache op 0 0 0)
unfolding samples samples_d
cache_in p CacheOp.Dcbf = (λ d. refl, lit< tt)
cache_in p CacheOp.Dcbi = (λ d. refl, lit< tt)
cache_in p CacheOp.Dcbt = (λ d. refl, lit< tt)
cache_in p CacheOp.Dcbz = (λ d. refl, lit< tt)

always_in : (p : Profile) (aa lk : Bool) → In p (at 98 (2 * digit aa + digit lk)) (Instr.Branch (Branch.Always aa lk 0))
unfolding samples samples_b
always_in p false false = (λ d. refl, lit< tt)
always_in p false true = (λ d. refl, lit< tt)
always_in p true false = (λ d. refl, lit< tt)
always_in p true true = (λ d. refl, lit< tt)

row_has : (p : Profile) (i : Instr) → spelled_on p i ≡ true → In p (row_of i) (sample_of i)
unfolding samples samples_b samples_l samples_m samples_r samples_s samples_t samples_w
row_has p (Instr.Arithmetic (Arithmetic.Immediate op rt ra si)) h = imm_in p op
row_has p (Instr.Arithmetic (Arithmetic.Register op rt ra rb oe rc)) h = four_in (sum_rows p op) oe rc
row_has p (Instr.Arithmetic (Arithmetic.One op rt ra oe rc)) h = four_in (one_rows p op) oe rc
row_has p (Instr.Arithmetic (Arithmetic.Multiply sign rt ra rb rc)) h = two_in (product_rows p sign) rc
row_has Profile.Ppe42 (Instr.Arithmetic (Arithmetic.MultiplyImm rt ra si)) h = clash h
row_has Profile.Ppe42x (Instr.Arithmetic (Arithmetic.MultiplyImm rt ra si)) h = (λ d. refl, lit< tt)
row_has Profile.Ppe42 (Instr.Arithmetic (Arithmetic.MultiplyLow rt ra rb oe rc)) h = clash h
row_has Profile.Ppe42x (Instr.Arithmetic (Arithmetic.MultiplyLow rt ra rb oe rc)) h = four_in {p = Profile.Ppe42x} {r = at 109 11} {f = (λ (b c : Bool). Instr.Arithmetic (Arithmetic.MultiplyLow 0 0 0 b c))} (four _ refl) oe rc
row_has p (Instr.Logical (Logical.Immediate op rs ra ui)) h = logic_imm_in p op
row_has p (Instr.Logical (Logical.Register op rs ra rb rc)) h = two_in (logic_rows p op) rc
row_has p (Instr.Logical (Logical.One op rs ra rc)) h = two_in (logic_one_rows p op) rc
row_has p (Instr.Compare (Compare.Immediate sign ra imm)) h = compare_imm_in p sign
row_has p (Instr.Compare (Compare.Register sign ra rb)) h = compare_in p sign
row_has p (Instr.Rotate (Rotate.Immediate op rs ra sh mb me rc)) h = two_in (rotate_rows p op) rc
row_has p (Instr.Rotate (Rotate.Register rs ra rb mb me rc)) h = two_in {p = p} {r = at 114 4} {f = (λ (b : Bool). Instr.Rotate (Rotate.Register 0 0 0 0 0 b))} (two _ refl) rc
row_has p (Instr.Rotate (Rotate.Shift op rs ra rb rc)) h = two_in (shift_rows p op) rc
row_has p (Instr.Rotate (Rotate.Srawi rs ra sh rc)) h = two_in {p = p} {r = at 115 27} {f = (λ (b : Bool). Instr.Rotate (Rotate.Srawi 0 0 0 b))} (two _ refl) rc
row_has Profile.Ppe42 (Instr.Rotate (Rotate.Double op ds da sh mb rc)) h = clash h
row_has Profile.Ppe42x (Instr.Rotate (Rotate.Double op ds da sh mb rc)) h = two_in (double_rows op) rc
row_has p (Instr.LoadStore (LoadStore.Load width update rt ra d)) h = two_in (load_rows p width) update
row_has p (Instr.LoadStore (LoadStore.LoadIndexed width rt ra rb)) h = load_indexed_in p width
row_has p (Instr.LoadStore (LoadStore.Store width update rs ra d)) h = two_in (store_rows p width) update
row_has p (Instr.LoadStore (LoadStore.StoreIndexed width rs ra rb)) h = store_indexed_in p width
row_has p (Instr.LoadStore (LoadStore.LoadDouble update dt ra d)) h = two_in {p = p} {r = at 108 9} {f = (λ (b : Bool). Instr.LoadStore (LoadStore.LoadDouble b 0 2 0))} (two _ refl) update
row_has p (Instr.LoadStore (LoadStore.StoreDouble update ds ra d)) h = two_in {p = p} {r = at 115 38} {f = (λ (b : Bool). Instr.LoadStore (LoadStore.StoreDouble b 0 2 0))} (two _ refl) update
row_has Profile.Ppe42 (Instr.Stack dd op rt ra) h = clash h
row_has Profile.Ppe42x (Instr.Stack dd op rt ra) h = stack_in op
row_has p (Instr.Branch (Branch.Always aa lk li)) h = always_in p aa lk
row_has p (Instr.Branch (Branch.Conditional bo bi bd aa lk)) h = four_in {p = p} {r = at 98 4} {f = (λ (b c : Bool). Instr.Branch (Branch.Conditional 0 0 0 b c))} (four _ refl) aa lk
row_has p (Instr.Branch (Branch.Register op bo bi bh lk)) h = two_in (branch_rows p op) lk
row_has p (Instr.Trap to ra rb tg) h = (λ d. refl, lit< tt)
row_has p (Instr.System (System.Spr op rt spr)) h = spr_in p op
row_has p (Instr.System (System.Move op rt)) h = move_in p op
row_has p (Instr.System (System.Wrteei e)) h = (λ d. refl, lit< tt)
row_has p (Instr.System System.Rfi) h = (λ d. refl, omega arith)
row_has p (Instr.System System.Sync) h = (λ d. refl, omega arith)
row_has p (Instr.Cache op hint ra rb) h = cache_in p op

pub sample_at_lem : (p : Profile) (i d : Instr) → spelled_on p i ≡ true → get_or (samples p (row_of i).letter) (row_of i).row d ≡ sample_of i
sample_at_lem p i d e = (row_has p i e).0 d

pub row_in : (p : Profile) (i : Instr) → spelled_on p i ≡ true → (row_of i).row < length (samples p (row_of i).letter)
row_in p i e = (row_has p i e).1
