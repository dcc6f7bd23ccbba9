-- The rows of the reader's table: which instruction each stands for, and which row an instruction's line is in. For the
-- contracts of private functions; the syntax itself is in Syntax.
use Rattle.std.specs.Prelude.{ℕ, ◌+◌, ◌*◌, ◌≡◌, Bool, true, false, List, [], ◌∷◌, eqb}
use Rattle.word.specs.Bits.{digit}
use Rattle.word.specs.declared.width.Width.{Width}
use Rattle.insn.specs.declared.profile.Profile.{Profile}
use Rattle.insn.specs.declared.instr.Instr.{Instr}
use Rattle.insn.specs.declared.instr.Arithmetic.{Arithmetic}
use Rattle.insn.specs.declared.instr.Logical.{Logical}
use Rattle.insn.specs.declared.instr.Compare.{Compare}
use Rattle.insn.specs.declared.instr.Rotate.{Rotate}
use Rattle.insn.specs.declared.instr.LoadStore.{LoadStore}
use Rattle.insn.specs.declared.instr.Branch.{Branch}
use Rattle.insn.specs.declared.instr.System.{System}
use Rattle.insn.specs.declared.instr.ArithImmOp.{ArithImmOp}
use Rattle.insn.specs.declared.instr.ArithOp.{ArithOp}
use Rattle.insn.specs.declared.instr.ArithOneOp.{ArithOneOp}
use Rattle.insn.specs.declared.instr.LogicImmOp.{LogicImmOp}
use Rattle.insn.specs.declared.instr.LogicOp.{LogicOp}
use Rattle.insn.specs.declared.instr.LogicOneOp.{LogicOneOp}
use Rattle.insn.specs.declared.instr.RotateOp.{RotateOp}
use Rattle.insn.specs.declared.instr.RotateDoubleOp.{RotateDoubleOp}
use Rattle.insn.specs.declared.instr.ShiftOp.{ShiftOp}
use Rattle.insn.specs.declared.instr.StackOp.{StackOp}
use Rattle.insn.specs.declared.instr.BranchOp.{BranchOp}
use Rattle.insn.specs.declared.instr.SprOp.{SprOp}
use Rattle.insn.specs.declared.instr.MoveOp.{MoveOp}
use Rattle.insn.specs.declared.instr.CacheOp.{CacheOp}
use Rattle.insn.specs.declared.instr.Sign.{Sign}
use Rattle.expr.specs.Grammar.{pick}
use Rattle.syntax.specs.declared.row.Row.{Row}

-- DD of the least frame, one doubleword: up for lsku, down for stsku
abbrev pub one_frame : StackOp → ℕ
one_frame StackOp.Lsku = 1
one_frame StackOp.Stsku = 0x1FFF

-- an instruction of each mnemonic: its operands are 0 but where that is not valid
abbrev pub sample_of : Instr → Instr
sample_of (Instr.Arithmetic (Arithmetic.Immediate op rt ra si)) = Instr.Arithmetic (Arithmetic.Immediate op 0 0 0)
sample_of (Instr.Arithmetic (Arithmetic.Register op rt ra rb oe rc)) = Instr.Arithmetic (Arithmetic.Register op 0 0 0 oe rc)
sample_of (Instr.Arithmetic (Arithmetic.One op rt ra oe rc)) = Instr.Arithmetic (Arithmetic.One op 0 0 oe rc)
sample_of (Instr.Arithmetic (Arithmetic.Multiply sign rt ra rb rc)) = Instr.Arithmetic (Arithmetic.Multiply sign 0 0 0 rc)
sample_of (Instr.Arithmetic (Arithmetic.MultiplyImm rt ra si)) = Instr.Arithmetic (Arithmetic.MultiplyImm 0 0 0)
sample_of (Instr.Arithmetic (Arithmetic.MultiplyLow rt ra rb oe rc)) = Instr.Arithmetic (Arithmetic.MultiplyLow 0 0 0 oe rc)
sample_of (Instr.Logical (Logical.Immediate op rs ra ui)) = Instr.Logical (Logical.Immediate op 0 0 0)
sample_of (Instr.Logical (Logical.Register op rs ra rb rc)) = Instr.Logical (Logical.Register op 0 0 0 rc)
sample_of (Instr.Logical (Logical.One op rs ra rc)) = Instr.Logical (Logical.One op 0 0 rc)
sample_of (Instr.Compare (Compare.Immediate sign ra imm)) = Instr.Compare (Compare.Immediate sign 0 0)
sample_of (Instr.Compare (Compare.Register sign ra rb)) = Instr.Compare (Compare.Register sign 0 0)
sample_of (Instr.Rotate (Rotate.Immediate op rs ra sh mb me rc)) = Instr.Rotate (Rotate.Immediate op 0 0 0 0 0 rc)
sample_of (Instr.Rotate (Rotate.Register rs ra rb mb me rc)) = Instr.Rotate (Rotate.Register 0 0 0 0 0 rc)
sample_of (Instr.Rotate (Rotate.Shift op rs ra rb rc)) = Instr.Rotate (Rotate.Shift op 0 0 0 rc)
sample_of (Instr.Rotate (Rotate.Srawi rs ra sh rc)) = Instr.Rotate (Rotate.Srawi 0 0 0 rc)
sample_of (Instr.Rotate (Rotate.Double op ds da sh mb rc)) = Instr.Rotate (Rotate.Double op 0 0 0 0 rc)
sample_of (Instr.LoadStore (LoadStore.Load width update rt ra d)) = Instr.LoadStore (LoadStore.Load width update 0 2 0)
sample_of (Instr.LoadStore (LoadStore.LoadIndexed width rt ra rb)) = Instr.LoadStore (LoadStore.LoadIndexed width 0 0 0)
sample_of (Instr.LoadStore (LoadStore.Store width update rs ra d)) = Instr.LoadStore (LoadStore.Store width update 0 2 0)
sample_of (Instr.LoadStore (LoadStore.StoreIndexed width rs ra rb)) = Instr.LoadStore (LoadStore.StoreIndexed width 0 0 0)
sample_of (Instr.LoadStore (LoadStore.LoadDouble update dt ra d)) = Instr.LoadStore (LoadStore.LoadDouble update 0 2 0)
sample_of (Instr.LoadStore (LoadStore.StoreDouble update ds ra d)) = Instr.LoadStore (LoadStore.StoreDouble update 0 2 0)
sample_of (Instr.Stack dd op rt ra) = Instr.Stack (one_frame op) op 1 1
sample_of (Instr.Branch (Branch.Always aa lk li)) = Instr.Branch (Branch.Always aa lk 0)
sample_of (Instr.Branch (Branch.Conditional bo bi bd aa lk)) = Instr.Branch (Branch.Conditional 0 0 0 aa lk)
sample_of (Instr.Branch (Branch.Register op bo bi bh lk)) = Instr.Branch (Branch.Register op 20 0 0 lk)
sample_of (Instr.Trap to ra rb tg) = Instr.Trap 0 0 0 false
sample_of (Instr.System (System.Spr op rt spr)) = Instr.System (System.Spr op 0 1)
sample_of (Instr.System (System.Move op rt)) = Instr.System (System.Move op 0)
sample_of (Instr.System (System.Wrteei e)) = Instr.System (System.Wrteei false)
sample_of (Instr.System System.Rfi) = Instr.System System.Rfi
sample_of (Instr.System System.Sync) = Instr.System System.Sync
sample_of (Instr.Cache op hint ra rb) = Instr.Cache op 0 0 0

-- the samples with each setting of Rc, of OE and Rc, of AA and LK
abbrev two : (Bool → Instr) → List Instr → List Instr
two f rest = f false ∷ f true ∷ rest

abbrev four : (Bool → Bool → Instr) → List Instr → List Instr
four f rest = two (f false) (two (f true) rest)

abbrev sums : ArithOp → List Instr → List Instr
sums op = four (λ (oe rc : Bool). Instr.Arithmetic (Arithmetic.Register op 0 0 0 oe rc))

abbrev ones : ArithOneOp → List Instr → List Instr
ones op = four (λ (oe rc : Bool). Instr.Arithmetic (Arithmetic.One op 0 0 oe rc))

abbrev imms : ArithImmOp → List Instr → List Instr
imms op rest = Instr.Arithmetic (Arithmetic.Immediate op 0 0 0) ∷ rest

abbrev products : Sign → List Instr → List Instr
products sign = two (λ (rc : Bool). Instr.Arithmetic (Arithmetic.Multiply sign 0 0 0 rc))

abbrev logics : LogicOp → List Instr → List Instr
logics op = two (λ (rc : Bool). Instr.Logical (Logical.Register op 0 0 0 rc))

abbrev logic_imms : LogicImmOp → List Instr → List Instr
logic_imms op rest = Instr.Logical (Logical.Immediate op 0 0 0) ∷ rest

abbrev logic_ones : LogicOneOp → List Instr → List Instr
logic_ones op = two (λ (rc : Bool). Instr.Logical (Logical.One op 0 0 rc))

abbrev rotates : RotateOp → List Instr → List Instr
rotates op = two (λ (rc : Bool). Instr.Rotate (Rotate.Immediate op 0 0 0 0 0 rc))

abbrev doubles : RotateDoubleOp → List Instr → List Instr
doubles op = two (λ (rc : Bool). Instr.Rotate (Rotate.Double op 0 0 0 0 rc))

abbrev shifts : ShiftOp → List Instr → List Instr
shifts op = two (λ (rc : Bool). Instr.Rotate (Rotate.Shift op 0 0 0 rc))

abbrev loads : Width → List Instr → List Instr
loads width = two (λ (update : Bool). Instr.LoadStore (LoadStore.Load width update 0 2 0))

abbrev indexed_loads : Width → List Instr → List Instr
indexed_loads width rest = Instr.LoadStore (LoadStore.LoadIndexed width 0 0 0) ∷ rest

abbrev stores : Width → List Instr → List Instr
stores width = two (λ (update : Bool). Instr.LoadStore (LoadStore.Store width update 0 2 0))

abbrev indexed_stores : Width → List Instr → List Instr
indexed_stores width rest = Instr.LoadStore (LoadStore.StoreIndexed width 0 0 0) ∷ rest

abbrev stacks : StackOp → List Instr → List Instr
stacks op rest = Instr.Stack (one_frame op) op 1 1 ∷ rest

abbrev branches : BranchOp → List Instr → List Instr
branches op = two (λ (lk : Bool). Instr.Branch (Branch.Register op 20 0 0 lk))

abbrev moves : MoveOp → List Instr → List Instr
moves op rest = Instr.System (System.Move op 0) ∷ rest

abbrev sprs : SprOp → List Instr → List Instr
sprs op rest = Instr.System (System.Spr op 0 1) ∷ rest

abbrev caches : CacheOp → List Instr → List Instr
caches op rest = Instr.Cache op 0 0 0 ∷ rest

abbrev compare_imms : Sign → List Instr → List Instr
compare_imms sign rest = Instr.Compare (Compare.Immediate sign 0 0) ∷ rest

abbrev compares : Sign → List Instr → List Instr
compares sign rest = Instr.Compare (Compare.Register sign 0 0) ∷ rest

-- those of the 42X alone, after the others of their letter
abbrev added : Profile → List Instr → List Instr
added Profile.Ppe42 is = []
added Profile.Ppe42x is = is

unfoldable pub samples_a : List Instr
samples_a = imms ArithImmOp.Addi (imms ArithImmOp.Addis (imms ArithImmOp.Addic (imms ArithImmOp.AddicDot (sums ArithOp.Add (sums ArithOp.Addc (sums ArithOp.Adde (ones ArithOneOp.Addme (ones ArithOneOp.Addze (logic_imms LogicImmOp.AndiDot (logic_imms LogicImmOp.AndisDot (logics LogicOp.And (logics LogicOp.Andc []))))))))))))

unfoldable pub samples_b : List Instr
samples_b = four (λ (aa lk : Bool). Instr.Branch (Branch.Always aa lk 0)) (four (λ (aa lk : Bool). Instr.Branch (Branch.Conditional 0 0 0 aa lk)) (branches BranchOp.Bclr (branches BranchOp.Bcctr [])))

unfoldable pub samples_c : List Instr
samples_c = logic_ones LogicOneOp.Cntlzw (compare_imms Sign.Signed (compare_imms Sign.Unsigned (compares Sign.Signed (compares Sign.Unsigned []))))

unfoldable pub samples_d : List Instr
samples_d = caches CacheOp.Dcbf (caches CacheOp.Dcbi (caches CacheOp.Dcbt (caches CacheOp.Dcbz [])))

unfoldable pub samples_e : List Instr
samples_e = logics LogicOp.Eqv (logic_ones LogicOneOp.Extsb (logic_ones LogicOneOp.Extsh []))

unfoldable pub samples_l : Profile → List Instr
samples_l p = loads Width.Byte (loads Width.Half (loads Width.Word (indexed_loads Width.Byte (indexed_loads Width.Half (indexed_loads Width.Word (two (λ (update : Bool). Instr.LoadStore (LoadStore.LoadDouble update 0 2 0)) (added p (stacks StackOp.Lsku []))))))))

unfoldable pub samples_m : Profile → List Instr
samples_m p = products Sign.Signed (products Sign.Unsigned (sprs SprOp.Mfspr (sprs SprOp.Mtspr (moves MoveOp.Mfcr (moves MoveOp.Mtcr0 (moves MoveOp.Mfmsr (moves MoveOp.Mtmsr (added p (Instr.Arithmetic (Arithmetic.MultiplyImm 0 0 0) ∷ four (λ (oe rc : Bool). Instr.Arithmetic (Arithmetic.MultiplyLow 0 0 0 oe rc)) [])))))))))

unfoldable pub samples_n : List Instr
samples_n = ones ArithOneOp.Neg (logics LogicOp.Nand (logics LogicOp.Nor []))

unfoldable pub samples_o : List Instr
samples_o = logic_imms LogicImmOp.Ori (logic_imms LogicImmOp.Oris (logics LogicOp.Or (logics LogicOp.Orc [])))

unfoldable pub samples_r : Profile → List Instr
samples_r p = rotates RotateOp.Rlwimi (rotates RotateOp.Rlwinm (two (λ (rc : Bool). Instr.Rotate (Rotate.Register 0 0 0 0 0 rc)) (Instr.System System.Rfi ∷ added p (doubles RotateDoubleOp.Rldicl (doubles RotateDoubleOp.Rldicr (doubles RotateDoubleOp.Rldimi []))))))

unfoldable pub samples_s : Profile → List Instr
samples_s p = imms ArithImmOp.Subfic (sums ArithOp.Subf (sums ArithOp.Subfc (sums ArithOp.Subfe (ones ArithOneOp.Subfme (ones ArithOneOp.Subfze (shifts ShiftOp.Slw (shifts ShiftOp.Srw (shifts ShiftOp.Sraw (two (λ (rc : Bool). Instr.Rotate (Rotate.Srawi 0 0 0 rc)) (stores Width.Byte (stores Width.Half (stores Width.Word (indexed_stores Width.Byte (indexed_stores Width.Half (indexed_stores Width.Word (two (λ (update : Bool). Instr.LoadStore (LoadStore.StoreDouble update 0 2 0)) (Instr.System System.Sync ∷ added p (stacks StackOp.Stsku []))))))))))))))))))

unfoldable pub samples_t : List Instr
samples_t = Instr.Trap 0 0 0 false ∷ []

unfoldable pub samples_w : List Instr
samples_w = moves MoveOp.Wrtee (Instr.System (System.Wrteei false) ∷ [])

unfoldable pub samples_x : List Instr
samples_x = logic_imms LogicImmOp.Xori (logic_imms LogicImmOp.Xoris (logics LogicOp.Xor []))

-- a core's samples whose mnemonics begin with a letter
unfoldable pub samples : Profile → ℕ → List Instr
samples p c =
    pick (eqb c 97) samples_a (pick (eqb c 98) samples_b (pick (eqb c 99) samples_c (pick (eqb c 100) samples_d (pick (eqb c 101) samples_e
    (pick (eqb c 108) (samples_l p) (pick (eqb c 109) (samples_m p) (pick (eqb c 110) samples_n (pick (eqb c 111) samples_o (pick (eqb c 114) (samples_r p)
    (pick (eqb c 115) (samples_s p) (pick (eqb c 116) samples_t (pick (eqb c 119) samples_w (pick (eqb c 120) samples_x [])))))))))))))

abbrev pub at : ℕ → ℕ → Row
at letter row = record { letter = letter; row = row }

-- the same row, part by part
abbrev pub SameRow : Row → Row → Type 0
SameRow r x = (r.letter ≡ x.letter) × (r.row ≡ x.row)

abbrev pub row_after : Row → ℕ → Row
row_after r n = at r.letter (r.row + n)

abbrev pub arith_imm_row : ArithImmOp → Row
arith_imm_row ArithImmOp.Addi = at 97 0
arith_imm_row ArithImmOp.Addis = at 97 1
arith_imm_row ArithImmOp.Addic = at 97 2
arith_imm_row ArithImmOp.AddicDot = at 97 3
arith_imm_row ArithImmOp.Subfic = at 115 0

abbrev pub arith_row : ArithOp → Row
arith_row ArithOp.Add = at 97 4
arith_row ArithOp.Addc = at 97 8
arith_row ArithOp.Adde = at 97 12
arith_row ArithOp.Subf = at 115 1
arith_row ArithOp.Subfc = at 115 5
arith_row ArithOp.Subfe = at 115 9

abbrev pub arith_one_row : ArithOneOp → Row
arith_one_row ArithOneOp.Addme = at 97 16
arith_one_row ArithOneOp.Addze = at 97 20
arith_one_row ArithOneOp.Subfme = at 115 13
arith_one_row ArithOneOp.Subfze = at 115 17
arith_one_row ArithOneOp.Neg = at 110 0

abbrev pub multiply_row : Sign → Row
multiply_row Sign.Signed = at 109 0
multiply_row Sign.Unsigned = at 109 2

abbrev pub logic_imm_row : LogicImmOp → Row
logic_imm_row LogicImmOp.AndiDot = at 97 24
logic_imm_row LogicImmOp.AndisDot = at 97 25
logic_imm_row LogicImmOp.Ori = at 111 0
logic_imm_row LogicImmOp.Oris = at 111 1
logic_imm_row LogicImmOp.Xori = at 120 0
logic_imm_row LogicImmOp.Xoris = at 120 1

abbrev pub logic_row : LogicOp → Row
logic_row LogicOp.And = at 97 26
logic_row LogicOp.Andc = at 97 28
logic_row LogicOp.Eqv = at 101 0
logic_row LogicOp.Nand = at 110 4
logic_row LogicOp.Nor = at 110 6
logic_row LogicOp.Or = at 111 2
logic_row LogicOp.Orc = at 111 4
logic_row LogicOp.Xor = at 120 2

abbrev pub logic_one_row : LogicOneOp → Row
logic_one_row LogicOneOp.Extsb = at 101 2
logic_one_row LogicOneOp.Extsh = at 101 4
logic_one_row LogicOneOp.Cntlzw = at 99 0

abbrev pub compare_imm_row : Sign → Row
compare_imm_row Sign.Signed = at 99 2
compare_imm_row Sign.Unsigned = at 99 3

abbrev pub compare_row : Sign → Row
compare_row Sign.Signed = at 99 4
compare_row Sign.Unsigned = at 99 5

abbrev pub rotate_row : RotateOp → Row
rotate_row RotateOp.Rlwimi = at 114 0
rotate_row RotateOp.Rlwinm = at 114 2

abbrev pub rotate_double_row : RotateDoubleOp → Row
rotate_double_row RotateDoubleOp.Rldicl = at 114 7
rotate_double_row RotateDoubleOp.Rldicr = at 114 9
rotate_double_row RotateDoubleOp.Rldimi = at 114 11

abbrev pub shift_row : ShiftOp → Row
shift_row ShiftOp.Slw = at 115 21
shift_row ShiftOp.Srw = at 115 23
shift_row ShiftOp.Sraw = at 115 25

abbrev pub load_row : Width → Row
load_row Width.Byte = at 108 0
load_row Width.Half = at 108 2
load_row Width.Word = at 108 4

abbrev pub load_indexed_row : Width → Row
load_indexed_row Width.Byte = at 108 6
load_indexed_row Width.Half = at 108 7
load_indexed_row Width.Word = at 108 8

abbrev pub store_row : Width → Row
store_row Width.Byte = at 115 29
store_row Width.Half = at 115 31
store_row Width.Word = at 115 33

abbrev pub store_indexed_row : Width → Row
store_indexed_row Width.Byte = at 115 35
store_indexed_row Width.Half = at 115 36
store_indexed_row Width.Word = at 115 37

abbrev pub stack_row : StackOp → Row
stack_row StackOp.Lsku = at 108 11
stack_row StackOp.Stsku = at 115 41

abbrev pub branch_row : BranchOp → Row
branch_row BranchOp.Bclr = at 98 8
branch_row BranchOp.Bcctr = at 98 10

abbrev pub spr_row : SprOp → Row
spr_row SprOp.Mfspr = at 109 4
spr_row SprOp.Mtspr = at 109 5

abbrev pub move_row : MoveOp → Row
move_row MoveOp.Mfcr = at 109 6
move_row MoveOp.Mtcr0 = at 109 7
move_row MoveOp.Mfmsr = at 109 8
move_row MoveOp.Mtmsr = at 109 9
move_row MoveOp.Wrtee = at 119 0

abbrev pub cache_row : CacheOp → Row
cache_row CacheOp.Dcbf = at 100 0
cache_row CacheOp.Dcbi = at 100 1
cache_row CacheOp.Dcbt = at 100 2
cache_row CacheOp.Dcbz = at 100 3

abbrev pub row_of : Instr → Row
row_of (Instr.Arithmetic (Arithmetic.Immediate op rt ra si)) = arith_imm_row op
row_of (Instr.Arithmetic (Arithmetic.Register op rt ra rb oe rc)) = row_after (arith_row op) (2 * digit oe + digit rc)
row_of (Instr.Arithmetic (Arithmetic.One op rt ra oe rc)) = row_after (arith_one_row op) (2 * digit oe + digit rc)
row_of (Instr.Arithmetic (Arithmetic.Multiply sign rt ra rb rc)) = row_after (multiply_row sign) (digit rc)
row_of (Instr.Arithmetic (Arithmetic.MultiplyImm rt ra si)) = at 109 10
row_of (Instr.Arithmetic (Arithmetic.MultiplyLow rt ra rb oe rc)) = at 109 (11 + (2 * digit oe + digit rc))
row_of (Instr.Logical (Logical.Immediate op rs ra ui)) = logic_imm_row op
row_of (Instr.Logical (Logical.Register op rs ra rb rc)) = row_after (logic_row op) (digit rc)
row_of (Instr.Logical (Logical.One op rs ra rc)) = row_after (logic_one_row op) (digit rc)
row_of (Instr.Compare (Compare.Immediate sign ra imm)) = compare_imm_row sign
row_of (Instr.Compare (Compare.Register sign ra rb)) = compare_row sign
row_of (Instr.Rotate (Rotate.Immediate op rs ra sh mb me rc)) = row_after (rotate_row op) (digit rc)
row_of (Instr.Rotate (Rotate.Register rs ra rb mb me rc)) = at 114 (4 + digit rc)
row_of (Instr.Rotate (Rotate.Shift op rs ra rb rc)) = row_after (shift_row op) (digit rc)
row_of (Instr.Rotate (Rotate.Srawi rs ra sh rc)) = at 115 (27 + digit rc)
row_of (Instr.Rotate (Rotate.Double op ds da sh mb rc)) = row_after (rotate_double_row op) (digit rc)
row_of (Instr.LoadStore (LoadStore.Load width update rt ra d)) = row_after (load_row width) (digit update)
row_of (Instr.LoadStore (LoadStore.LoadIndexed width rt ra rb)) = load_indexed_row width
row_of (Instr.LoadStore (LoadStore.Store width update rs ra d)) = row_after (store_row width) (digit update)
row_of (Instr.LoadStore (LoadStore.StoreIndexed width rs ra rb)) = store_indexed_row width
row_of (Instr.LoadStore (LoadStore.LoadDouble update dt ra d)) = at 108 (9 + digit update)
row_of (Instr.LoadStore (LoadStore.StoreDouble update ds ra d)) = at 115 (38 + digit update)
row_of (Instr.Stack dd op rt ra) = stack_row op
row_of (Instr.Branch (Branch.Always aa lk li)) = at 98 (2 * digit aa + digit lk)
row_of (Instr.Branch (Branch.Conditional bo bi bd aa lk)) = at 98 (4 + (2 * digit aa + digit lk))
row_of (Instr.Branch (Branch.Register op bo bi bh lk)) = row_after (branch_row op) (digit lk)
row_of (Instr.Trap to ra rb tg) = at 116 0
row_of (Instr.System (System.Spr op rt spr)) = spr_row op
row_of (Instr.System (System.Move op rt)) = move_row op
row_of (Instr.System (System.Wrteei e)) = at 119 1
row_of (Instr.System System.Rfi) = at 114 6
row_of (Instr.System System.Sync) = at 115 40
row_of (Instr.Cache op hint ra rb) = cache_row op
