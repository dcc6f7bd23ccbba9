-- The arithmetic instructions of 9.4: each is a sum of two words and a carry, or a product.
use Rattle.std.specs.Prelude.{ℕ, Bool, true, false}
use Rattle.word.specs.Bits.{field_at}
use Rattle.word.specs.Logical.{inv}
use Rattle.word.specs.Sign.{exts}
use Rattle.word.specs.Sum.{sum_of}
use Rattle.word.specs.Multiply.{mullhw, mullhwu, low_word, mullw}
use Rattle.word.specs.declared.sum.Sum.{Sum}
use Rattle.word.specs.declared.multiply.Product.{Product}
use Rattle.insn.specs.declared.instr.Arithmetic.{Arithmetic}
use Rattle.insn.specs.declared.instr.ArithImmOp.{ArithImmOp}
use Rattle.insn.specs.declared.instr.ArithOp.{ArithOp}
use Rattle.insn.specs.declared.instr.ArithOneOp.{ArithOneOp}
use Rattle.insn.specs.declared.instr.Sign.{Sign}
use Rattle.machine.specs.State.{gpr_of, base_of}
use Rattle.machine.specs.Result.{carry_of, carried_of, overflowed_of, result_of}
use Rattle.machine.specs.declared.state.State.{State}

-- of (RA|0), (RA) and SI: addi, addis, addic, addic. and subfic (9.4.4 to 9.4.7, 9.4.99)
abbrev pub imm_sum : ArithImmOp → ℕ → ℕ → ℕ → Sum
imm_sum ArithImmOp.Addi base a si = sum_of base (exts 16 si) false
imm_sum ArithImmOp.Addis base a si = sum_of base (field_at 0 15 si) false
imm_sum ArithImmOp.Addic base a si = sum_of a (exts 16 si) false
imm_sum ArithImmOp.AddicDot base a si = sum_of a (exts 16 si) false
imm_sum ArithImmOp.Subfic base a si = sum_of (inv a) (exts 16 si) true

abbrev pub imm_carries : ArithImmOp → Bool
imm_carries ArithImmOp.Addi = false
imm_carries ArithImmOp.Addis = false
imm_carries ArithImmOp.Addic = true
imm_carries ArithImmOp.AddicDot = true
imm_carries ArithImmOp.Subfic = true

abbrev pub imm_records : ArithImmOp → Bool
imm_records ArithImmOp.Addi = false
imm_records ArithImmOp.Addis = false
imm_records ArithImmOp.Addic = false
imm_records ArithImmOp.AddicDot = true
imm_records ArithImmOp.Subfic = false

-- of (RA), (RB) and CA: add, addc, adde, subf, subfc and subfe (9.4.1 to 9.4.3, 9.4.96 to 9.4.98)
abbrev pub reg_sum : ArithOp → ℕ → ℕ → Bool → Sum
reg_sum ArithOp.Add a b ca = sum_of a b false
reg_sum ArithOp.Addc a b ca = sum_of a b false
reg_sum ArithOp.Adde a b ca = sum_of a b ca
reg_sum ArithOp.Subf a b ca = sum_of (inv a) b true
reg_sum ArithOp.Subfc a b ca = sum_of (inv a) b true
reg_sum ArithOp.Subfe a b ca = sum_of (inv a) b ca

abbrev pub reg_carries : ArithOp → Bool
reg_carries ArithOp.Add = false
reg_carries ArithOp.Addc = true
reg_carries ArithOp.Adde = true
reg_carries ArithOp.Subf = false
reg_carries ArithOp.Subfc = true
reg_carries ArithOp.Subfe = true

-- of (RA) and CA: addme, addze, subfme, subfze and neg (9.4.8, 9.4.9, 9.4.100, 9.4.101, 9.4.63)
abbrev pub one_sum : ArithOneOp → ℕ → Bool → Sum
one_sum ArithOneOp.Addme a ca = sum_of a 0xFFFF_FFFF ca
one_sum ArithOneOp.Addze a ca = sum_of a 0 ca
one_sum ArithOneOp.Subfme a ca = sum_of (inv a) 0xFFFF_FFFF ca
one_sum ArithOneOp.Subfze a ca = sum_of (inv a) 0 ca
one_sum ArithOneOp.Neg a ca = sum_of (inv a) 0 true

abbrev pub one_carries : ArithOneOp → Bool
one_carries ArithOneOp.Addme = true
one_carries ArithOneOp.Addze = true
one_carries ArithOneOp.Subfme = true
one_carries ArithOneOp.Subfze = true
one_carries ArithOneOp.Neg = false

-- mullhw and mullhwu (9.4.58, 9.4.59)
abbrev pub product : Sign → ℕ → ℕ → ℕ
product Sign.Signed a b = mullhw a b
product Sign.Unsigned a b = mullhwu a b

-- a sum in RT, with CA, OV and CR0 as asked
unfoldable pub summed_of : State → ℕ → Sum → Bool → Bool → Bool → State
summed_of s rt sum carries oe rc =
    result_of (overflowed_of (carried_of s carries sum.carry) oe sum.overflow) rt sum.value rc

-- mullw (9.4.61): the product in RT, with OV and CR0 as asked
unfoldable pub multiplied_of : State → ℕ → Product → Bool → Bool → State
multiplied_of s rt product oe rc = result_of (overflowed_of s oe product.overflow) rt product.value rc

unfoldable pub arithmetic_of : State → Arithmetic → State
arithmetic_of s (Arithmetic.Immediate op rt ra si) =
    summed_of s rt (imm_sum op (base_of s ra) (gpr_of s ra) si) (imm_carries op) false (imm_records op)
arithmetic_of s (Arithmetic.Register op rt ra rb oe rc) =
    summed_of s rt (reg_sum op (gpr_of s ra) (gpr_of s rb) (carry_of s)) (reg_carries op) oe rc
arithmetic_of s (Arithmetic.One op rt ra oe rc) = summed_of s rt (one_sum op (gpr_of s ra) (carry_of s)) (one_carries op) oe rc
arithmetic_of s (Arithmetic.Multiply sign rt ra rb rc) = result_of s rt (product sign (gpr_of s ra) (gpr_of s rb)) rc
arithmetic_of s (Arithmetic.MultiplyImm rt ra si) = result_of s rt (low_word (gpr_of s ra) (exts 16 si)) false  -- mulli 9.4.60
arithmetic_of s (Arithmetic.MultiplyLow rt ra rb oe rc) = multiplied_of s rt (mullw (gpr_of s ra) (gpr_of s rb)) oe rc
