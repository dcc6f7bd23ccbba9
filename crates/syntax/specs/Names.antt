-- The mnemonic of each instruction, as the syntax line of its section writes it.
use Rattle.std.specs.Prelude.{Bool, true, false}
use Prim.Native.String.{String}
use Rattle.insn.specs.declared.instr.ArithImmOp.{ArithImmOp}
use Rattle.insn.specs.declared.instr.ArithOp.{ArithOp}
use Rattle.insn.specs.declared.instr.ArithOneOp.{ArithOneOp}
use Rattle.insn.specs.declared.instr.LogicImmOp.{LogicImmOp}
use Rattle.insn.specs.declared.instr.LogicOp.{LogicOp}
use Rattle.insn.specs.declared.instr.LogicOneOp.{LogicOneOp}
use Rattle.insn.specs.declared.instr.RotateOp.{RotateOp}
use Rattle.insn.specs.declared.instr.RotateDoubleOp.{RotateDoubleOp}
use Rattle.insn.specs.declared.instr.ShiftOp.{ShiftOp}
use Rattle.insn.specs.declared.instr.StackOp.{StackOp}
use Rattle.insn.specs.declared.instr.BranchOp.{BranchOp}
use Rattle.insn.specs.declared.instr.MoveOp.{MoveOp}
use Rattle.insn.specs.declared.instr.CacheOp.{CacheOp}
use Rattle.insn.specs.declared.instr.Sign.{Sign}
use Rattle.word.specs.declared.width.Width.{Width}

abbrev pub arith_imm_name : ArithImmOp → String
arith_imm_name ArithImmOp.Addi = "addi"  -- 9.4.4
arith_imm_name ArithImmOp.Addis = "addis"  -- 9.4.7
arith_imm_name ArithImmOp.Addic = "addic"  -- 9.4.5
arith_imm_name ArithImmOp.AddicDot = "addic."  -- 9.4.6
arith_imm_name ArithImmOp.Subfic = "subfic"  -- 9.4.99

abbrev pub arith_name : ArithOp → String
arith_name ArithOp.Add = "add"  -- 9.4.1
arith_name ArithOp.Addc = "addc"  -- 9.4.2
arith_name ArithOp.Adde = "adde"  -- 9.4.3
arith_name ArithOp.Subf = "subf"  -- 9.4.96
arith_name ArithOp.Subfc = "subfc"  -- 9.4.97
arith_name ArithOp.Subfe = "subfe"  -- 9.4.98

abbrev pub arith_one_name : ArithOneOp → String
arith_one_name ArithOneOp.Addme = "addme"  -- 9.4.8
arith_one_name ArithOneOp.Addze = "addze"  -- 9.4.9
arith_one_name ArithOneOp.Subfme = "subfme"  -- 9.4.100
arith_one_name ArithOneOp.Subfze = "subfze"  -- 9.4.101
arith_one_name ArithOneOp.Neg = "neg"  -- 9.4.63

abbrev pub multiply_name : Sign → String
multiply_name Sign.Signed = "mullhw"  -- 9.4.58
multiply_name Sign.Unsigned = "mullhwu"  -- 9.4.59

abbrev pub logic_imm_name : LogicImmOp → String
logic_imm_name LogicImmOp.AndiDot = "andi."  -- 9.4.12
logic_imm_name LogicImmOp.AndisDot = "andis."  -- 9.4.13
logic_imm_name LogicImmOp.Ori = "ori"  -- 9.4.67
logic_imm_name LogicImmOp.Oris = "oris"  -- 9.4.68
logic_imm_name LogicImmOp.Xori = "xori"  -- 9.4.107
logic_imm_name LogicImmOp.Xoris = "xoris"  -- 9.4.108

abbrev pub logic_name : LogicOp → String
logic_name LogicOp.And = "and"  -- 9.4.10
logic_name LogicOp.Andc = "andc"  -- 9.4.11
logic_name LogicOp.Eqv = "eqv"  -- 9.4.35
logic_name LogicOp.Nand = "nand"  -- 9.4.62
logic_name LogicOp.Nor = "nor"  -- 9.4.64
logic_name LogicOp.Or = "or"  -- 9.4.65
logic_name LogicOp.Orc = "orc"  -- 9.4.66
logic_name LogicOp.Xor = "xor"  -- 9.4.106

abbrev pub logic_one_name : LogicOneOp → String
logic_one_name LogicOneOp.Extsb = "extsb"  -- 9.4.36
logic_one_name LogicOneOp.Extsh = "extsh"  -- 9.4.37
logic_one_name LogicOneOp.Cntlzw = "cntlzw"  -- 9.4.29

abbrev pub compare_imm_name : Sign → String
compare_imm_name Sign.Signed = "cmpwi"  -- 9.4.27
compare_imm_name Sign.Unsigned = "cmplwi"  -- 9.4.24

abbrev pub compare_name : Sign → String
compare_name Sign.Signed = "cmpw"  -- 9.4.25
compare_name Sign.Unsigned = "cmplw"  -- 9.4.22

abbrev pub rotate_name : RotateOp → String
rotate_name RotateOp.Rlwimi = "rlwimi"  -- 9.4.73
rotate_name RotateOp.Rlwinm = "rlwinm"  -- 9.4.74

abbrev pub rotate_double_name : RotateDoubleOp → String
rotate_double_name RotateDoubleOp.Rldicl = "rldicl"  -- 9.4.70
rotate_double_name RotateDoubleOp.Rldicr = "rldicr"  -- 9.4.71
rotate_double_name RotateDoubleOp.Rldimi = "rldimi"  -- 9.4.72

abbrev pub shift_name : ShiftOp → String
shift_name ShiftOp.Slw = "slw"  -- 9.4.77
shift_name ShiftOp.Srw = "srw"  -- 9.4.81
shift_name ShiftOp.Sraw = "sraw"  -- 9.4.78

abbrev pub load_name : Width → Bool → String
load_name Width.Byte false = "lbz"  -- 9.4.38
load_name Width.Byte true = "lbzu"  -- 9.4.39
load_name Width.Half false = "lhz"  -- 9.4.42
load_name Width.Half true = "lhzu"  -- 9.4.43
load_name Width.Word false = "lwz"  -- 9.4.49
load_name Width.Word true = "lwzu"  -- 9.4.50

abbrev pub load_indexed_name : Width → String
load_indexed_name Width.Byte = "lbzx"  -- 9.4.40
load_indexed_name Width.Half = "lhzx"  -- 9.4.44
load_indexed_name Width.Word = "lwzx"  -- 9.4.51

abbrev pub store_name : Width → Bool → String
store_name Width.Byte false = "stb"  -- 9.4.82
store_name Width.Byte true = "stbu"  -- 9.4.83
store_name Width.Half false = "sth"  -- 9.4.86
store_name Width.Half true = "sthu"  -- 9.4.87
store_name Width.Word false = "stw"  -- 9.4.93
store_name Width.Word true = "stwu"  -- 9.4.94

abbrev pub store_indexed_name : Width → String
store_indexed_name Width.Byte = "stbx"  -- 9.4.84
store_indexed_name Width.Half = "sthx"  -- 9.4.88
store_indexed_name Width.Word = "stwx"  -- 9.4.95

abbrev pub load_double_name : Bool → String
load_double_name false = "lvd"  -- 9.4.46
load_double_name true = "lvdu"  -- 9.4.47

abbrev pub store_double_name : Bool → String
store_double_name false = "stvd"  -- 9.4.90
store_double_name true = "stvdu"  -- 9.4.91

abbrev pub stack_name : StackOp → String
stack_name StackOp.Lsku = "lsku"  -- 9.4.45
stack_name StackOp.Stsku = "stsku"  -- 9.4.89

abbrev pub branch_name : BranchOp → String
branch_name BranchOp.Bclr = "bclr"  -- 9.4.17
branch_name BranchOp.Bcctr = "bcctr"  -- 9.4.16

abbrev pub move_name : MoveOp → String
move_name MoveOp.Mfcr = "mfcr"  -- 9.4.52
move_name MoveOp.Mtcr0 = "mtcr0"  -- 9.4.55
move_name MoveOp.Mfmsr = "mfmsr"  -- 9.4.53
move_name MoveOp.Mtmsr = "mtmsr"  -- 9.4.56
move_name MoveOp.Wrtee = "wrtee"  -- 9.4.104

abbrev pub cache_name : CacheOp → String
cache_name CacheOp.Dcbf = "dcbf"  -- 9.4.30
cache_name CacheOp.Dcbi = "dcbi"  -- 9.4.31
cache_name CacheOp.Dcbt = "dcbt"  -- 9.4.33
cache_name CacheOp.Dcbz = "dcbz"  -- 9.4.34
