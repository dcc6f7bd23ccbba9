-- Each mnemonic's opcode finds the mnemonic's row, and fits its field. Assumes nothing.
use mathlib.Core.Path.{◌≡◌, refl}
use mathlib.Core.Bool.{Bool, true, false}
use Prim.Native.Nat.{ℕ, ◌%◌, ◌<◌}
use lib.Dec.{lit<}
use Rattle.insn.specs.Codes.{arith_imm_code, arith_code, arith_one_code, multiply_code, logic_imm_code, logic_code, logic_one_code, compare_imm_code, compare_code, rotate_code, shift_code, load_code, store_code, load_indexed_code, store_indexed_code, load_double_code, store_double_code, stack_code, rotate_double_code, branch_code, spr_code, move_code, cache_code}
use Rattle.insn.specs.Read.{arith_imm_at, arith_at, arith_one_at, multiply_at, multiply_imm_at, multiply_low_at, logic_imm_at, logic_at, logic_one_at, compare_imm_at, compare_at, rotate_imm_at, rotate_at, shift_at, srawi_at, rotate_double_at, load_at, load_indexed_at, store_at, store_indexed_at, load_double_at, store_double_at, stack_at, branch_at, branch_if_at, branch_to_at, trap_at, move_spr_at, move_reg_at, wrteei_at, rfi_at, sync_at, cache_at, primary, primary_rows, load_store, load_store_rows, added, added_rows, opcode30, rows30, arithmetic, arithmetic_rows, logical, logical_rows, storage, storage_rows, system, system_rows, opcode19, rows19, opcode4, rows4}
use Rattle.insn.specs.declared.fields.Fields.{Fields}
use Rattle.insn.specs.declared.instr.Instr.{Instr}
use Rattle.std.specs.Prelude.{Option, Some}
use Rattle.insn.specs.declared.instr.ArithImmOp.{ArithImmOp}
use Rattle.insn.specs.declared.instr.ArithOp.{ArithOp}
use Rattle.insn.specs.declared.instr.ArithOneOp.{ArithOneOp}
use Rattle.insn.specs.declared.instr.LogicImmOp.{LogicImmOp}
use Rattle.insn.specs.declared.instr.LogicOp.{LogicOp}
use Rattle.insn.specs.declared.instr.LogicOneOp.{LogicOneOp}
use Rattle.insn.specs.declared.instr.RotateOp.{RotateOp}
use Rattle.insn.specs.declared.instr.RotateDoubleOp.{RotateDoubleOp}
use Rattle.insn.specs.declared.instr.ShiftOp.{ShiftOp}
use Rattle.insn.specs.declared.instr.StackOp.{StackOp}
use Rattle.insn.specs.declared.instr.BranchOp.{BranchOp}
use Rattle.insn.specs.declared.instr.SprOp.{SprOp}
use Rattle.insn.specs.declared.instr.MoveOp.{MoveOp}
use Rattle.insn.specs.declared.instr.CacheOp.{CacheOp}
use Rattle.insn.specs.declared.instr.Sign.{Sign}
use Rattle.word.specs.declared.width.Width.{Width}

-- a table has `at` for a word
abbrev pub Reads : (Fields → Option Instr) → (Fields → Instr) → Type 0
Reads found at = (f : Fields) → found f ≡ Some (at f)

-- a primary opcode
abbrev pub Primary : ℕ → (Fields → Instr) → Type 0
Primary op at = Reads (primary op) at × (op < 64)

-- an extended opcode of an XO form, whose bit 21 is OE
abbrev pub XO31 : ℕ → (Fields → Instr) → Type 0
XO31 xo at = ((x : ℕ) → Reads (arithmetic x xo) at) × (xo < 512)

-- an extended opcode of an X form, and the tables of those under primary opcodes 31, 19 and 4
abbrev pub Extended : (ℕ → Fields → Option Instr) → ℕ → (Fields → Instr) → Type 0
Extended table x at = Reads (table x) at × (x < 1024)

abbrev pub opcode31 : ℕ → Fields → Option Instr
opcode31 x = arithmetic x (x % 512)

abbrev pub X31 : ℕ → (Fields → Instr) → Type 0
X31 = Extended opcode31

pub hit_arith_imm : (op : ArithImmOp) → Primary (arith_imm_code op) (arith_imm_at op)
unfolding primary primary_rows
hit_arith_imm ArithImmOp.Addi = (λ f. refl, lit< tt)
hit_arith_imm ArithImmOp.Addis = (λ f. refl, lit< tt)
hit_arith_imm ArithImmOp.Addic = (λ f. refl, lit< tt)
hit_arith_imm ArithImmOp.AddicDot = (λ f. refl, lit< tt)
hit_arith_imm ArithImmOp.Subfic = (λ f. refl, lit< tt)

pub hit_logic_imm : (op : LogicImmOp) → Primary (logic_imm_code op) (logic_imm_at op)
unfolding primary primary_rows
hit_logic_imm LogicImmOp.AndiDot = (λ f. refl, lit< tt)
hit_logic_imm LogicImmOp.AndisDot = (λ f. refl, lit< tt)
hit_logic_imm LogicImmOp.Ori = (λ f. refl, lit< tt)
hit_logic_imm LogicImmOp.Oris = (λ f. refl, lit< tt)
hit_logic_imm LogicImmOp.Xori = (λ f. refl, lit< tt)
hit_logic_imm LogicImmOp.Xoris = (λ f. refl, lit< tt)

pub hit_compare_imm : (sign : Sign) → Primary (compare_imm_code sign) (compare_imm_at sign)
unfolding primary primary_rows
hit_compare_imm Sign.Signed = (λ f. refl, lit< tt)
hit_compare_imm Sign.Unsigned = (λ f. refl, lit< tt)

pub hit_load : (width : Width) (update : Bool) → Primary (load_code width update) (load_at width update)
unfolding primary primary_rows load_store load_store_rows
hit_load Width.Byte false = (λ f. refl, lit< tt)
hit_load Width.Byte true = (λ f. refl, lit< tt)
hit_load Width.Half false = (λ f. refl, lit< tt)
hit_load Width.Half true = (λ f. refl, lit< tt)
hit_load Width.Word false = (λ f. refl, lit< tt)
hit_load Width.Word true = (λ f. refl, lit< tt)

pub hit_store : (width : Width) (update : Bool) → Primary (store_code width update) (store_at width update)
unfolding primary primary_rows load_store load_store_rows
hit_store Width.Byte false = (λ f. refl, lit< tt)
hit_store Width.Byte true = (λ f. refl, lit< tt)
hit_store Width.Half false = (λ f. refl, lit< tt)
hit_store Width.Half true = (λ f. refl, lit< tt)
hit_store Width.Word false = (λ f. refl, lit< tt)
hit_store Width.Word true = (λ f. refl, lit< tt)

pub hit_load_double : (update : Bool) → Primary (load_double_code update) (load_double_at update)
unfolding primary primary_rows load_store load_store_rows
hit_load_double false = (λ f. refl, lit< tt)
hit_load_double true = (λ f. refl, lit< tt)

pub hit_store_double : (update : Bool) → Primary (store_double_code update) (store_double_at update)
unfolding primary primary_rows load_store load_store_rows
hit_store_double false = (λ f. refl, lit< tt)
hit_store_double true = (λ f. refl, lit< tt)

pub hit_multiply_imm : Primary 7 multiply_imm_at
unfolding primary primary_rows load_store load_store_rows added added_rows
hit_multiply_imm = (λ f. refl, lit< tt)

pub hit_stack : (op : StackOp) → Primary (stack_code op) (stack_at op)
unfolding primary primary_rows load_store load_store_rows added added_rows
hit_stack StackOp.Lsku = (λ f. refl, lit< tt)
hit_stack StackOp.Stsku = (λ f. refl, lit< tt)

pub hit_rotate_double : (op : RotateDoubleOp) → Reads (opcode30 (rotate_double_code op)) (rotate_double_at op) × (rotate_double_code op < 8)
unfolding opcode30 rows30
hit_rotate_double RotateDoubleOp.Rldicl = (λ f. refl, lit< tt)
hit_rotate_double RotateDoubleOp.Rldicr = (λ f. refl, lit< tt)
hit_rotate_double RotateDoubleOp.Rldimi = (λ f. refl, lit< tt)

pub hit_rotate_imm : (op : RotateOp) → Primary (rotate_code op) (rotate_imm_at op)
unfolding primary primary_rows
hit_rotate_imm RotateOp.Rlwimi = (λ f. refl, lit< tt)
hit_rotate_imm RotateOp.Rlwinm = (λ f. refl, lit< tt)

pub hit_rotate : Primary 23 rotate_at
unfolding primary primary_rows
hit_rotate = (λ f. refl, lit< tt)

pub hit_branch : Primary 18 branch_at
unfolding primary primary_rows
hit_branch = (λ f. refl, lit< tt)

pub hit_branch_if : Primary 16 branch_if_at
unfolding primary primary_rows
hit_branch_if = (λ f. refl, lit< tt)

pub hit_arith : (op : ArithOp) → XO31 (arith_code op) (arith_at op)
unfolding arithmetic arithmetic_rows
hit_arith ArithOp.Add = (λ x f. refl, lit< tt)
hit_arith ArithOp.Addc = (λ x f. refl, lit< tt)
hit_arith ArithOp.Adde = (λ x f. refl, lit< tt)
hit_arith ArithOp.Subf = (λ x f. refl, lit< tt)
hit_arith ArithOp.Subfc = (λ x f. refl, lit< tt)
hit_arith ArithOp.Subfe = (λ x f. refl, lit< tt)

pub hit_arith_one : (op : ArithOneOp) → XO31 (arith_one_code op) (arith_one_at op)
unfolding arithmetic arithmetic_rows
hit_arith_one ArithOneOp.Addme = (λ x f. refl, lit< tt)
hit_arith_one ArithOneOp.Addze = (λ x f. refl, lit< tt)
hit_arith_one ArithOneOp.Subfme = (λ x f. refl, lit< tt)
hit_arith_one ArithOneOp.Subfze = (λ x f. refl, lit< tt)
hit_arith_one ArithOneOp.Neg = (λ x f. refl, lit< tt)

pub hit_multiply_low : XO31 235 multiply_low_at
unfolding arithmetic arithmetic_rows
hit_multiply_low = (λ x f. refl, lit< tt)

pub hit_logic : (op : LogicOp) → X31 (logic_code op) (logic_at op)
unfolding arithmetic arithmetic_rows logical logical_rows
hit_logic LogicOp.And = (λ f. refl, lit< tt)
hit_logic LogicOp.Andc = (λ f. refl, lit< tt)
hit_logic LogicOp.Eqv = (λ f. refl, lit< tt)
hit_logic LogicOp.Nand = (λ f. refl, lit< tt)
hit_logic LogicOp.Nor = (λ f. refl, lit< tt)
hit_logic LogicOp.Or = (λ f. refl, lit< tt)
hit_logic LogicOp.Orc = (λ f. refl, lit< tt)
hit_logic LogicOp.Xor = (λ f. refl, lit< tt)

pub hit_logic_one : (op : LogicOneOp) → X31 (logic_one_code op) (logic_one_at op)
unfolding arithmetic arithmetic_rows logical logical_rows
hit_logic_one LogicOneOp.Extsb = (λ f. refl, lit< tt)
hit_logic_one LogicOneOp.Extsh = (λ f. refl, lit< tt)
hit_logic_one LogicOneOp.Cntlzw = (λ f. refl, lit< tt)

pub hit_shift : (op : ShiftOp) → X31 (shift_code op) (shift_at op)
unfolding arithmetic arithmetic_rows logical logical_rows
hit_shift ShiftOp.Slw = (λ f. refl, lit< tt)
hit_shift ShiftOp.Srw = (λ f. refl, lit< tt)
hit_shift ShiftOp.Sraw = (λ f. refl, lit< tt)

pub hit_compare : (sign : Sign) → X31 (compare_code sign) (compare_at sign)
unfolding arithmetic arithmetic_rows logical logical_rows
hit_compare Sign.Signed = (λ f. refl, lit< tt)
hit_compare Sign.Unsigned = (λ f. refl, lit< tt)

pub hit_srawi : X31 824 srawi_at
unfolding arithmetic arithmetic_rows logical logical_rows
hit_srawi = (λ f. refl, lit< tt)

pub hit_trap : X31 4 trap_at
unfolding arithmetic arithmetic_rows logical logical_rows
hit_trap = (λ f. refl, lit< tt)

pub hit_load_indexed : (width : Width) → X31 (load_indexed_code width) (load_indexed_at width)
unfolding arithmetic arithmetic_rows logical logical_rows storage storage_rows
hit_load_indexed Width.Byte = (λ f. refl, lit< tt)
hit_load_indexed Width.Half = (λ f. refl, lit< tt)
hit_load_indexed Width.Word = (λ f. refl, lit< tt)

pub hit_store_indexed : (width : Width) → X31 (store_indexed_code width) (store_indexed_at width)
unfolding arithmetic arithmetic_rows logical logical_rows storage storage_rows
hit_store_indexed Width.Byte = (λ f. refl, lit< tt)
hit_store_indexed Width.Half = (λ f. refl, lit< tt)
hit_store_indexed Width.Word = (λ f. refl, lit< tt)

pub hit_cache : (op : CacheOp) → X31 (cache_code op) (cache_at op)
unfolding arithmetic arithmetic_rows logical logical_rows storage storage_rows
hit_cache CacheOp.Dcbf = (λ f. refl, lit< tt)
hit_cache CacheOp.Dcbi = (λ f. refl, lit< tt)
hit_cache CacheOp.Dcbt = (λ f. refl, lit< tt)
hit_cache CacheOp.Dcbz = (λ f. refl, lit< tt)

pub hit_spr : (op : SprOp) → X31 (spr_code op) (move_spr_at op)
unfolding arithmetic arithmetic_rows logical logical_rows storage storage_rows system system_rows
hit_spr SprOp.Mfspr = (λ f. refl, lit< tt)
hit_spr SprOp.Mtspr = (λ f. refl, lit< tt)

pub hit_move : (op : MoveOp) → X31 (move_code op) (move_reg_at op)
unfolding arithmetic arithmetic_rows logical logical_rows storage storage_rows system system_rows
hit_move MoveOp.Mfcr = (λ f. refl, lit< tt)
hit_move MoveOp.Mtcr0 = (λ f. refl, lit< tt)
hit_move MoveOp.Mfmsr = (λ f. refl, lit< tt)
hit_move MoveOp.Mtmsr = (λ f. refl, lit< tt)
hit_move MoveOp.Wrtee = (λ f. refl, lit< tt)

pub hit_wrteei : X31 163 wrteei_at
unfolding arithmetic arithmetic_rows logical logical_rows storage storage_rows system system_rows
hit_wrteei = (λ f. refl, lit< tt)

pub hit_sync : X31 598 sync_at
unfolding arithmetic arithmetic_rows logical logical_rows storage storage_rows system system_rows
hit_sync = (λ f. refl, lit< tt)

pub hit_branch_to : (op : BranchOp) → Extended opcode19 (branch_code op) (branch_to_at op)
unfolding opcode19 rows19
hit_branch_to BranchOp.Bclr = (λ f. refl, lit< tt)
hit_branch_to BranchOp.Bcctr = (λ f. refl, lit< tt)

pub hit_rfi : Extended opcode19 50 rfi_at
unfolding opcode19 rows19
hit_rfi = (λ f. refl, lit< tt)

pub hit_multiply : (sign : Sign) → Extended opcode4 (multiply_code sign) (multiply_at sign)
unfolding opcode4 rows4
hit_multiply Sign.Signed = (λ f. refl, lit< tt)
hit_multiply Sign.Unsigned = (λ f. refl, lit< tt)
