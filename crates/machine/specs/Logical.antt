-- The logical instructions of 9.4. An unsigned immediate is extended with zeros.
use Rattle.std.specs.Prelude.{ℕ, ◌%◌, ◌^◌, Bool, true, false}
use Rattle.std.specs.Int.Bits.{bit_and, bit_or, bit_xor}
use Rattle.word.specs.Bits.{field_at}
use Rattle.word.specs.Logical.{inv, cntlzw}
use Rattle.word.specs.Sign.{exts}
use Rattle.insn.specs.declared.instr.Logical.{Logical}
use Rattle.insn.specs.declared.instr.LogicImmOp.{LogicImmOp}
use Rattle.insn.specs.declared.instr.LogicOp.{LogicOp}
use Rattle.insn.specs.declared.instr.LogicOneOp.{LogicOneOp}
use Rattle.machine.specs.State.{gpr_of}
use Rattle.machine.specs.Result.{result_of}
use Rattle.machine.specs.declared.state.State.{State}

-- of (RS) and UI: andi., andis., ori, oris, xori and xoris (9.4.12, 9.4.13, 9.4.67, 9.4.68, 9.4.107, 9.4.108)
abbrev pub logic_imm : LogicImmOp → ℕ → ℕ → ℕ
logic_imm LogicImmOp.AndiDot s ui = bit_and s ui
logic_imm LogicImmOp.AndisDot s ui = bit_and s (field_at 0 15 ui)
logic_imm LogicImmOp.Ori s ui = bit_or s ui
logic_imm LogicImmOp.Oris s ui = bit_or s (field_at 0 15 ui)
logic_imm LogicImmOp.Xori s ui = bit_xor s ui
logic_imm LogicImmOp.Xoris s ui = bit_xor s (field_at 0 15 ui)

abbrev pub logic_records : LogicImmOp → Bool
logic_records LogicImmOp.AndiDot = true
logic_records LogicImmOp.AndisDot = true
logic_records LogicImmOp.Ori = false
logic_records LogicImmOp.Oris = false
logic_records LogicImmOp.Xori = false
logic_records LogicImmOp.Xoris = false

-- of (RS) and (RB): and, andc, eqv, nand, nor, or, orc and xor (9.4.10, 9.4.11, 9.4.35, 9.4.62, 9.4.64 to 9.4.66, 9.4.106)
abbrev pub logic_reg : LogicOp → ℕ → ℕ → ℕ
logic_reg LogicOp.And s b = bit_and s b
logic_reg LogicOp.Andc s b = bit_and s (inv b)
logic_reg LogicOp.Eqv s b = inv (bit_xor s b)
logic_reg LogicOp.Nand s b = inv (bit_and s b)
logic_reg LogicOp.Nor s b = inv (bit_or s b)
logic_reg LogicOp.Or s b = bit_or s b
logic_reg LogicOp.Orc s b = bit_or s (inv b)
logic_reg LogicOp.Xor s b = bit_xor s b

-- of (RS): extsb, extsh and cntlzw (9.4.36, 9.4.37, 9.4.29)
abbrev pub logic_one : LogicOneOp → ℕ → ℕ
logic_one LogicOneOp.Extsb s = exts 8 (s % 2 ^ 8)
logic_one LogicOneOp.Extsh s = exts 16 (s % 2 ^ 16)
logic_one LogicOneOp.Cntlzw s = cntlzw s

unfoldable pub logical_of : State → Logical → State
logical_of s (Logical.Immediate op rs ra ui) = result_of s ra (logic_imm op (gpr_of s rs) ui) (logic_records op)
logical_of s (Logical.Register op rs ra rb rc) = result_of s ra (logic_reg op (gpr_of s rs) (gpr_of s rb)) rc
logical_of s (Logical.One op rs ra rc) = result_of s ra (logic_one op (gpr_of s rs)) rc
