-- What a word reads as on a 42X, and on either core: the instruction that its opcodes and parts suggest, if that is valid and is written as this very word.
-- So only `valid_of` and `word_of` have to be believed: a slip in a table below would refute `written_read`.
use Rattle.std.specs.Prelude.{ℕ, Bool, true, false, cond, ◌&&◌, List, [], ◌∷◌, ◌++◌, eqb, Option, Some, None}
use Rattle.std.specs.Bool.{then_some}
use Rattle.insn.specs.Fields.{fields_of}
use Rattle.insn.specs.Codes.{arith_imm_code, arith_code, arith_one_code, multiply_code, logic_imm_code, logic_code, logic_one_code, compare_imm_code, compare_code, rotate_code, shift_code, load_code, store_code, load_indexed_code, store_indexed_code, load_double_code, store_double_code, stack_code, rotate_double_code, branch_code, spr_code, move_code, cache_code}
use Rattle.insn.specs.Valid.{valid_of}
use Rattle.insn.specs.Profile.{has}
use Rattle.insn.specs.Write.{word_of}
use Rattle.insn.specs.declared.profile.Profile.{Profile}
use Rattle.insn.specs.declared.fields.Fields.{Fields}
use Rattle.insn.specs.declared.instr.Instr.{Instr}
use Rattle.insn.specs.declared.instr.Arithmetic.{Arithmetic}
use Rattle.insn.specs.declared.instr.Logical.{Logical}
use Rattle.insn.specs.declared.instr.Compare.{Compare}
use Rattle.insn.specs.declared.instr.Rotate.{Rotate}
use Rattle.insn.specs.declared.instr.LoadStore.{LoadStore}
use Rattle.insn.specs.declared.instr.Branch.{Branch}
use Rattle.insn.specs.declared.instr.System.{System}
use Rattle.insn.specs.declared.instr.ArithImmOp.{ArithImmOp}
use Rattle.insn.specs.declared.instr.ArithOp.{ArithOp}
use Rattle.insn.specs.declared.instr.ArithOneOp.{ArithOneOp}
use Rattle.insn.specs.declared.instr.LogicImmOp.{LogicImmOp}
use Rattle.insn.specs.declared.instr.LogicOp.{LogicOp}
use Rattle.insn.specs.declared.instr.LogicOneOp.{LogicOneOp}
use Rattle.insn.specs.declared.instr.RotateOp.{RotateOp}
use Rattle.insn.specs.declared.instr.RotateDoubleOp.{RotateDoubleOp}
use Rattle.insn.specs.declared.instr.ShiftOp.{ShiftOp}
use Rattle.insn.specs.declared.instr.StackOp.{StackOp}
use Rattle.insn.specs.declared.instr.BranchOp.{BranchOp}
use Rattle.insn.specs.declared.instr.SprOp.{SprOp}
use Rattle.insn.specs.declared.instr.MoveOp.{MoveOp}
use Rattle.insn.specs.declared.instr.CacheOp.{CacheOp}
use Rattle.insn.specs.declared.instr.Sign.{Sign}
use Rattle.word.specs.declared.width.Width.{Width}
use Rattle.insn.specs.declared.instr.ArithImmOp.TheVariants.{Addi, Addis, Addic, AddicDot, Subfic}
use Rattle.insn.specs.declared.instr.ArithOp.TheVariants.{Add, Addc, Adde, Subf, Subfc, Subfe}
use Rattle.insn.specs.declared.instr.ArithOneOp.TheVariants.{Addme, Addze, Subfme, Subfze, Neg}
use Rattle.insn.specs.declared.instr.LogicImmOp.TheVariants.{AndiDot, AndisDot, Ori, Oris, Xori, Xoris}
use Rattle.insn.specs.declared.instr.LogicOp.TheVariants.{And, Andc, Eqv, Nand, Nor, Or, Orc, Xor}
use Rattle.insn.specs.declared.instr.LogicOneOp.TheVariants.{Extsb, Extsh, Cntlzw}
use Rattle.insn.specs.declared.instr.RotateOp.TheVariants.{Rlwimi, Rlwinm}
use Rattle.insn.specs.declared.instr.RotateDoubleOp.TheVariants.{Rldicl, Rldicr, Rldimi}
use Rattle.insn.specs.declared.instr.ShiftOp.TheVariants.{Slw, Srw, Sraw}
use Rattle.insn.specs.declared.instr.StackOp.TheVariants.{Lsku, Stsku}
use Rattle.insn.specs.declared.instr.BranchOp.TheVariants.{Bclr, Bcctr}
use Rattle.insn.specs.declared.instr.SprOp.TheVariants.{Mfspr, Mtspr}
use Rattle.insn.specs.declared.instr.MoveOp.TheVariants.{Mfcr, Mtcr0, Mfmsr, Mtmsr, Wrtee}
use Rattle.insn.specs.declared.instr.CacheOp.TheVariants.{Dcbf, Dcbi, Dcbt, Dcbz}
use Rattle.insn.specs.declared.instr.Sign.TheVariants.{Signed, Unsigned}
use Rattle.word.specs.declared.width.Width.TheVariants.{Byte, Half, Word}

-- each form made of a word's parts
abbrev pub arith_imm_at : ArithImmOp → Fields → Instr
arith_imm_at op f = Instr.Arithmetic (Arithmetic.Immediate op f.rt f.ra f.imm)

abbrev pub arith_at : ArithOp → Fields → Instr
arith_at op f = Instr.Arithmetic (Arithmetic.Register op f.rt f.ra f.rb f.oe f.rc)

abbrev pub arith_one_at : ArithOneOp → Fields → Instr
arith_one_at op f = Instr.Arithmetic (Arithmetic.One op f.rt f.ra f.oe f.rc)

abbrev pub multiply_at : Sign → Fields → Instr
multiply_at sign f = Instr.Arithmetic (Arithmetic.Multiply sign f.rt f.ra f.rb f.rc)

abbrev pub multiply_imm_at : Fields → Instr
multiply_imm_at f = Instr.Arithmetic (Arithmetic.MultiplyImm f.rt f.ra f.imm)

abbrev pub multiply_low_at : Fields → Instr
multiply_low_at f = Instr.Arithmetic (Arithmetic.MultiplyLow f.rt f.ra f.rb f.oe f.rc)

abbrev pub logic_imm_at : LogicImmOp → Fields → Instr
logic_imm_at op f = Instr.Logical (Logical.Immediate op f.rt f.ra f.imm)

abbrev pub logic_at : LogicOp → Fields → Instr
logic_at op f = Instr.Logical (Logical.Register op f.rt f.ra f.rb f.rc)

abbrev pub logic_one_at : LogicOneOp → Fields → Instr
logic_one_at op f = Instr.Logical (Logical.One op f.rt f.ra f.rc)

abbrev pub compare_imm_at : Sign → Fields → Instr
compare_imm_at sign f = Instr.Compare (Compare.Immediate sign f.ra f.imm)

abbrev pub compare_at : Sign → Fields → Instr
compare_at sign f = Instr.Compare (Compare.Register sign f.ra f.rb)

abbrev pub rotate_imm_at : RotateOp → Fields → Instr
rotate_imm_at op f = Instr.Rotate (Rotate.Immediate op f.rt f.ra f.rb f.mb f.me f.rc)

abbrev pub rotate_at : Fields → Instr
rotate_at f = Instr.Rotate (Rotate.Register f.rt f.ra f.rb f.mb f.me f.rc)

abbrev pub shift_at : ShiftOp → Fields → Instr
shift_at op f = Instr.Rotate (Rotate.Shift op f.rt f.ra f.rb f.rc)

abbrev pub srawi_at : Fields → Instr
srawi_at f = Instr.Rotate (Rotate.Srawi f.rt f.ra f.rb f.rc)

abbrev pub rotate_double_at : RotateDoubleOp → Fields → Instr
rotate_double_at op f = Instr.Rotate (Rotate.Double op f.rt f.ra f.sh f.mb6 f.rc)

abbrev pub load_at : Width → Bool → Fields → Instr
load_at width update f = Instr.LoadStore (LoadStore.Load width update f.rt f.ra f.imm)

abbrev pub load_indexed_at : Width → Fields → Instr
load_indexed_at width f = Instr.LoadStore (LoadStore.LoadIndexed width f.rt f.ra f.rb)

abbrev pub store_at : Width → Bool → Fields → Instr
store_at width update f = Instr.LoadStore (LoadStore.Store width update f.rt f.ra f.imm)

abbrev pub store_indexed_at : Width → Fields → Instr
store_indexed_at width f = Instr.LoadStore (LoadStore.StoreIndexed width f.rt f.ra f.rb)

abbrev pub load_double_at : Bool → Fields → Instr
load_double_at update f = Instr.LoadStore (LoadStore.LoadDouble update f.rt f.ra f.imm)

abbrev pub store_double_at : Bool → Fields → Instr
store_double_at update f = Instr.LoadStore (LoadStore.StoreDouble update f.rt f.ra f.imm)

abbrev pub stack_at : StackOp → Fields → Instr
stack_at op f = Instr.Stack f.dd op f.rt f.ra

abbrev pub branch_at : Fields → Instr
branch_at f = Instr.Branch (Branch.Always f.aa f.rc f.li)

abbrev pub branch_if_at : Fields → Instr
branch_if_at f = Instr.Branch (Branch.Conditional f.rt f.ra f.bd f.aa f.rc)

abbrev pub branch_to_at : BranchOp → Fields → Instr
branch_to_at op f = Instr.Branch (Branch.Register op f.rt f.ra f.rb f.rc)

abbrev pub trap_at : Fields → Instr
trap_at f = Instr.Trap f.rt f.ra f.rb f.rc

abbrev pub move_spr_at : SprOp → Fields → Instr
move_spr_at op f = Instr.System (System.Spr op f.rt f.spr)

abbrev pub move_reg_at : MoveOp → Fields → Instr
move_reg_at op f = Instr.System (System.Move op f.rt)

abbrev pub wrteei_at : Fields → Instr
wrteei_at f = Instr.System (System.Wrteei f.e)

abbrev pub rfi_at : Fields → Instr
rfi_at f = Instr.System System.Rfi

abbrev pub sync_at : Fields → Instr
sync_at f = Instr.System System.Sync

abbrev pub cache_at : CacheOp → Fields → Instr
cache_at op f = Instr.Cache op f.rt f.ra f.rb

-- an opcode, and what the words that have it suggest
abbrev pub Row : Type 0
Row = ℕ × (Fields → Option Instr)

abbrev pub row : ℕ → (Fields → Instr) → Row
row code at = (code, λ f. Some (at f))

abbrev pub rows : {Op : Type 0} → (Op → ℕ) → (Op → Fields → Instr) → List Op → List Row
rows code at [] = []
rows code at (op ∷ ops) = row (code op) (at op) ∷ rows code at ops

-- the first row that has the opcode, or d
abbrev pub find : List Row → (Fields → Option Instr) → ℕ → Fields → Option Instr
find [] d code = d
find (r ∷ rs) d code = cond (eqb code r.0) r.1 (find rs d code)

abbrev pub nothing : Fields → Option Instr
nothing f = None

-- extended opcodes of X forms under primary opcode 31
unfoldable pub system_rows : List Row
system_rows =
    rows spr_code move_spr_at (Mfspr ∷ Mtspr ∷ [])
    ++ rows move_code move_reg_at (Mfcr ∷ Mtcr0 ∷ Mfmsr ∷ Mtmsr ∷ Wrtee ∷ [])
    ++ (row 163 wrteei_at ∷ row 598 sync_at ∷ [])

unfoldable pub storage_rows : List Row
storage_rows =
    rows load_indexed_code load_indexed_at (Byte ∷ Half ∷ Word ∷ [])
    ++ rows store_indexed_code store_indexed_at (Byte ∷ Half ∷ Word ∷ [])
    ++ rows cache_code cache_at (Dcbf ∷ Dcbi ∷ Dcbt ∷ Dcbz ∷ [])

unfoldable pub logical_rows : List Row
logical_rows =
    rows logic_code logic_at (And ∷ Andc ∷ Eqv ∷ Nand ∷ Nor ∷ Or ∷ Orc ∷ Xor ∷ [])
    ++ rows logic_one_code logic_one_at (Extsb ∷ Extsh ∷ Cntlzw ∷ [])
    ++ rows shift_code shift_at (Slw ∷ Srw ∷ Sraw ∷ [])
    ++ rows compare_code compare_at (Signed ∷ Unsigned ∷ [])
    ++ (row 824 srawi_at ∷ row 4 trap_at ∷ [])

-- extended opcodes of XO forms under primary opcode 31
unfoldable pub arithmetic_rows : List Row
arithmetic_rows = rows arith_code arith_at (Add ∷ Addc ∷ Adde ∷ Subf ∷ Subfc ∷ Subfe ∷ []) ++ rows arith_one_code arith_one_at (Addme ∷ Addze ∷ Subfme ∷ Subfze ∷ Neg ∷ []) ++ (row 235 multiply_low_at ∷ [])

-- extended opcodes under primary opcodes 19 and 4
unfoldable pub rows19 : List Row
rows19 = rows branch_code branch_to_at (Bclr ∷ Bcctr ∷ []) ++ (row 50 rfi_at ∷ [])

unfoldable pub rows4 : List Row
rows4 = rows multiply_code multiply_at (Signed ∷ Unsigned ∷ [])

-- extended opcodes of MD forms
unfoldable pub rows30 : List Row
rows30 = rows rotate_double_code rotate_double_at (Rldicl ∷ Rldicr ∷ Rldimi ∷ [])

unfoldable pub system : ℕ → Fields → Option Instr
system x = find system_rows nothing x

unfoldable pub storage : ℕ → Fields → Option Instr
storage x = find storage_rows (system x) x

unfoldable pub logical : ℕ → Fields → Option Instr
logical x = find logical_rows (storage x) x

unfoldable pub arithmetic : ℕ → ℕ → Fields → Option Instr
arithmetic x xo = find arithmetic_rows (logical x) xo

unfoldable pub opcode19 : ℕ → Fields → Option Instr
opcode19 x = find rows19 nothing x

unfoldable pub opcode4 : ℕ → Fields → Option Instr
opcode4 x = find rows4 nothing x

unfoldable pub opcode30 : ℕ → Fields → Option Instr
opcode30 md = find rows30 nothing md

-- primary opcodes, the 42X's apart
unfoldable pub added_rows : List Row
added_rows = (row 7 multiply_imm_at ∷ (30, λ f. opcode30 f.md f) ∷ []) ++ rows stack_code stack_at (Lsku ∷ Stsku ∷ [])

unfoldable pub added : ℕ → Fields → Option Instr
added op = find added_rows nothing op

unfoldable pub load_store_rows : List Row
load_store_rows =
    rows (λ width. load_code width false) (λ width. load_at width false) (Byte ∷ Half ∷ Word ∷ [])
    ++ rows (λ width. load_code width true) (λ width. load_at width true) (Byte ∷ Half ∷ Word ∷ [])
    ++ rows (λ width. store_code width false) (λ width. store_at width false) (Byte ∷ Half ∷ Word ∷ [])
    ++ rows (λ width. store_code width true) (λ width. store_at width true) (Byte ∷ Half ∷ Word ∷ [])
    ++ rows load_double_code load_double_at (false ∷ true ∷ [])
    ++ rows store_double_code store_double_at (false ∷ true ∷ [])

unfoldable pub load_store : ℕ → Fields → Option Instr
load_store op = find load_store_rows (added op) op

unfoldable pub primary_rows : List Row
primary_rows =
    rows arith_imm_code arith_imm_at (Addi ∷ Addis ∷ Addic ∷ AddicDot ∷ Subfic ∷ [])
    ++ rows logic_imm_code logic_imm_at (AndiDot ∷ AndisDot ∷ Ori ∷ Oris ∷ Xori ∷ Xoris ∷ [])
    ++ rows compare_imm_code compare_imm_at (Signed ∷ Unsigned ∷ [])
    ++ rows rotate_code rotate_imm_at (Rlwimi ∷ Rlwinm ∷ [])
    ++ (row 23 rotate_at ∷ row 18 branch_at ∷ row 16 branch_if_at ∷ [])
    ++ ((4, λ f. opcode4 f.x f) ∷ (19, λ f. opcode19 f.x f) ∷ (31, λ f. arithmetic f.x f.xo f) ∷ [])

unfoldable pub primary : ℕ → Fields → Option Instr
primary op = find primary_rows (load_store op) op

abbrev pub guess_of : Fields → Option Instr
guess_of f = primary f.op f

abbrev pub settle_of : ℕ → Instr → Option Instr
settle_of w i = then_some (valid_of i && eqb (word_of i) w) i

abbrev pub settled : ℕ → Option Instr → Option Instr
settled w (Some i) = settle_of w i
settled w None = None

unfoldable pub decode_of : ℕ → Option Instr
decode_of w = settled w (guess_of (fields_of w))

-- what this core has not is illegal on it
abbrev pub kept_on : Profile → Option Instr → Option Instr
kept_on p (Some i) = then_some (has p i) i
kept_on p None = None

unfoldable pub decode_on : Profile → ℕ → Option Instr
decode_on p w = kept_on p (decode_of w)
