-- The opcode of each mnemonic, in decimal as Power ISA 2.07 prints it, with the mnemonic's section in the manual.
use Rattle.std.specs.Prelude.{ℕ, ◌+◌, Bool, true, false}
use Rattle.word.specs.Bits.{digit}
use Rattle.insn.specs.declared.instr.ArithImmOp.{ArithImmOp}
use Rattle.insn.specs.declared.instr.ArithOp.{ArithOp}
use Rattle.insn.specs.declared.instr.ArithOneOp.{ArithOneOp}
use Rattle.insn.specs.declared.instr.LogicImmOp.{LogicImmOp}
use Rattle.insn.specs.declared.instr.LogicOp.{LogicOp}
use Rattle.insn.specs.declared.instr.LogicOneOp.{LogicOneOp}
use Rattle.insn.specs.declared.instr.RotateOp.{RotateOp}
use Rattle.insn.specs.declared.instr.RotateDoubleOp.{RotateDoubleOp}
use Rattle.insn.specs.declared.instr.ShiftOp.{ShiftOp}
use Rattle.insn.specs.declared.instr.StackOp.{StackOp}
use Rattle.insn.specs.declared.instr.BranchOp.{BranchOp}
use Rattle.insn.specs.declared.instr.SprOp.{SprOp}
use Rattle.insn.specs.declared.instr.MoveOp.{MoveOp}
use Rattle.insn.specs.declared.instr.CacheOp.{CacheOp}
use Rattle.insn.specs.declared.instr.Sign.{Sign}
use Rattle.word.specs.declared.width.Width.{Width}

-- primary opcodes of D forms; mulli is 7
abbrev pub arith_imm_code : ArithImmOp → ℕ
arith_imm_code ArithImmOp.Addi = 14  -- 9.4.4
arith_imm_code ArithImmOp.Addis = 15  -- 9.4.7
arith_imm_code ArithImmOp.Addic = 12  -- 9.4.5
arith_imm_code ArithImmOp.AddicDot = 13  -- 9.4.6
arith_imm_code ArithImmOp.Subfic = 8  -- 9.4.99

abbrev pub logic_imm_code : LogicImmOp → ℕ
logic_imm_code LogicImmOp.AndiDot = 28  -- 9.4.12
logic_imm_code LogicImmOp.AndisDot = 29  -- 9.4.13
logic_imm_code LogicImmOp.Ori = 24  -- 9.4.67
logic_imm_code LogicImmOp.Oris = 25  -- 9.4.68
logic_imm_code LogicImmOp.Xori = 26  -- 9.4.107
logic_imm_code LogicImmOp.Xoris = 27  -- 9.4.108

abbrev pub compare_imm_code : Sign → ℕ
compare_imm_code Sign.Signed = 11  -- cmpwi 9.4.27
compare_imm_code Sign.Unsigned = 10  -- cmplwi 9.4.24

-- a form with update has the next number
abbrev pub load_code : Width → Bool → ℕ
load_code Width.Byte update = 34 + digit update  -- lbz 9.4.38, lbzu 9.4.39
load_code Width.Half update = 40 + digit update  -- lhz 9.4.42, lhzu 9.4.43
load_code Width.Word update = 32 + digit update  -- lwz 9.4.49, lwzu 9.4.50

abbrev pub store_code : Width → Bool → ℕ
store_code Width.Byte update = 38 + digit update  -- stb 9.4.82, stbu 9.4.83
store_code Width.Half update = 44 + digit update  -- sth 9.4.86, sthu 9.4.87
store_code Width.Word update = 36 + digit update  -- stw 9.4.93, stwu 9.4.94

-- Table 1.68
abbrev pub load_double_code : Bool → ℕ
load_double_code false = 5  -- lvd 9.4.46
load_double_code true = 9  -- lvdu 9.4.47

abbrev pub store_double_code : Bool → ℕ
store_double_code false = 6  -- stvd 9.4.90
store_double_code true = 22  -- stvdu 9.4.91

-- Table 1.69
abbrev pub stack_code : StackOp → ℕ
stack_code StackOp.Lsku = 58  -- 9.4.45
stack_code StackOp.Stsku = 62  -- 9.4.89

-- primary opcodes of M forms; rlwnm is 23
abbrev pub rotate_code : RotateOp → ℕ
rotate_code RotateOp.Rlwimi = 20  -- 9.4.73
rotate_code RotateOp.Rlwinm = 21  -- 9.4.74

-- extended opcodes of MD forms, under primary opcode 30
abbrev pub rotate_double_code : RotateDoubleOp → ℕ
rotate_double_code RotateDoubleOp.Rldicl = 0  -- 9.4.70
rotate_double_code RotateDoubleOp.Rldicr = 1  -- 9.4.71
rotate_double_code RotateDoubleOp.Rldimi = 3  -- 9.4.72

-- extended opcodes under primary opcode 31, XO forms; mullw is 235
abbrev pub arith_code : ArithOp → ℕ
arith_code ArithOp.Add = 266  -- 9.4.1
arith_code ArithOp.Addc = 10  -- 9.4.2
arith_code ArithOp.Adde = 138  -- 9.4.3
arith_code ArithOp.Subf = 40  -- 9.4.96
arith_code ArithOp.Subfc = 8  -- 9.4.97
arith_code ArithOp.Subfe = 136  -- 9.4.98

abbrev pub arith_one_code : ArithOneOp → ℕ
arith_one_code ArithOneOp.Addme = 234  -- 9.4.8
arith_one_code ArithOneOp.Addze = 202  -- 9.4.9
arith_one_code ArithOneOp.Subfme = 232  -- 9.4.100
arith_one_code ArithOneOp.Subfze = 200  -- 9.4.101
arith_one_code ArithOneOp.Neg = 104  -- 9.4.63

-- extended opcodes under primary opcode 31, X and XFX forms; tw is 4, srawi 824, wrteei 163, sync 598
abbrev pub logic_code : LogicOp → ℕ
logic_code LogicOp.And = 28  -- 9.4.10
logic_code LogicOp.Andc = 60  -- 9.4.11
logic_code LogicOp.Eqv = 284  -- 9.4.35
logic_code LogicOp.Nand = 476  -- 9.4.62
logic_code LogicOp.Nor = 124  -- 9.4.64
logic_code LogicOp.Or = 444  -- 9.4.65
logic_code LogicOp.Orc = 412  -- 9.4.66
logic_code LogicOp.Xor = 316  -- 9.4.106

abbrev pub logic_one_code : LogicOneOp → ℕ
logic_one_code LogicOneOp.Extsb = 954  -- 9.4.36
logic_one_code LogicOneOp.Extsh = 922  -- 9.4.37
logic_one_code LogicOneOp.Cntlzw = 26  -- 9.4.29

abbrev pub shift_code : ShiftOp → ℕ
shift_code ShiftOp.Slw = 24  -- 9.4.77
shift_code ShiftOp.Srw = 536  -- 9.4.81
shift_code ShiftOp.Sraw = 792  -- 9.4.78

abbrev pub compare_code : Sign → ℕ
compare_code Sign.Signed = 0  -- cmpw 9.4.25
compare_code Sign.Unsigned = 32  -- cmplw 9.4.22

abbrev pub load_indexed_code : Width → ℕ
load_indexed_code Width.Byte = 87  -- lbzx 9.4.40
load_indexed_code Width.Half = 279  -- lhzx 9.4.44
load_indexed_code Width.Word = 23  -- lwzx 9.4.51

abbrev pub store_indexed_code : Width → ℕ
store_indexed_code Width.Byte = 215  -- stbx 9.4.84
store_indexed_code Width.Half = 407  -- sthx 9.4.88
store_indexed_code Width.Word = 151  -- stwx 9.4.95

abbrev pub spr_code : SprOp → ℕ
spr_code SprOp.Mfspr = 339  -- 9.4.54
spr_code SprOp.Mtspr = 467  -- 9.4.57

abbrev pub move_code : MoveOp → ℕ
move_code MoveOp.Mfcr = 19  -- 9.4.52
move_code MoveOp.Mtcr0 = 144  -- 9.4.55
move_code MoveOp.Mfmsr = 83  -- 9.4.53
move_code MoveOp.Mtmsr = 146  -- 9.4.56
move_code MoveOp.Wrtee = 131  -- 9.4.104

-- FXM, 12:19: mtcr0 moves CR0 alone (9.4.55); of the others these bits are reserved
abbrev pub move_fxm : MoveOp → ℕ
move_fxm MoveOp.Mfcr = 0
move_fxm MoveOp.Mtcr0 = 128
move_fxm MoveOp.Mfmsr = 0
move_fxm MoveOp.Mtmsr = 0
move_fxm MoveOp.Wrtee = 0

abbrev pub cache_code : CacheOp → ℕ
cache_code CacheOp.Dcbf = 86  -- 9.4.30
cache_code CacheOp.Dcbi = 470  -- 9.4.31
cache_code CacheOp.Dcbt = 278  -- 9.4.33
cache_code CacheOp.Dcbz = 1014  -- 9.4.34

-- extended opcodes under primary opcode 19; rfi is 50
abbrev pub branch_code : BranchOp → ℕ
branch_code BranchOp.Bclr = 16  -- 9.4.17
branch_code BranchOp.Bcctr = 528  -- 9.4.16

-- extended opcodes under primary opcode 4
abbrev pub multiply_code : Sign → ℕ
multiply_code Sign.Signed = 424  -- mullhw 9.4.58
multiply_code Sign.Unsigned = 392  -- mullhwu 9.4.59
