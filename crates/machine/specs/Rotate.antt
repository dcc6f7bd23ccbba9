-- The rotates and shifts of 9.4. SH, MB and ME of words are fields of five bits.
use Rattle.std.specs.Prelude.{ℕ, ◌-◌, ◌%◌, ◌^◌, Bool, true}
use Rattle.std.specs.Int.Bits.{bit_and}
use Rattle.word.specs.Bits.{bit_of}
use Rattle.word.specs.Shift.{shift_in, slw, srw, sraw}
use Rattle.word.specs.Rotate.{rotl, mask, under}
use Rattle.word.specs.Double.{rotl64, mask64, under64}
use Rattle.word.specs.declared.shift.Shifted.{Shifted}
use Rattle.insn.specs.declared.instr.Rotate.{Rotate}
use Rattle.insn.specs.declared.instr.RotateOp.{RotateOp}
use Rattle.insn.specs.declared.instr.ShiftOp.{ShiftOp}
use Rattle.insn.specs.declared.instr.RotateDoubleOp.{RotateDoubleOp}
use Rattle.machine.specs.State.{gpr_of, vdr_of}
use Rattle.machine.specs.Result.{carried_of, result_of, double_result_of}
use Rattle.machine.specs.declared.state.State.{State}

-- MASK(MB, ME)
abbrev pub mask_for : ℕ → ℕ → ℕ
mask_for mb me = mask (bit_of mb).0 (bit_of me).0

-- of the rotated word, the mask and (RA): rlwimi and rlwinm (9.4.73, 9.4.74)
abbrev pub merged : RotateOp → ℕ → ℕ → ℕ → ℕ
merged RotateOp.Rlwimi r m a = under m r a
merged RotateOp.Rlwinm r m a = bit_and r m

-- sraw and srawi set CA too (9.4.78, 9.4.79)
unfoldable pub shifted_of : State → ℕ → Shifted → Bool → State
shifted_of s ra shifted rc = result_of (carried_of s true shifted.carry) ra shifted.value rc

-- of (RS) and (RB)_26:31: slw, srw and sraw (9.4.77, 9.4.81, 9.4.78)
unfoldable pub shift_of : State → ShiftOp → ℕ → ℕ → ℕ → Bool → State
shift_of s ShiftOp.Slw rs ra rb rc = result_of s ra (slw (gpr_of s rs) (shift_in (gpr_of s rb)).0) rc
shift_of s ShiftOp.Srw rs ra rb rc = result_of s ra (srw (gpr_of s rs) (shift_in (gpr_of s rb)).0) rc
shift_of s ShiftOp.Sraw rs ra rb rc = shifted_of s ra (sraw (gpr_of s rs) (shift_in (gpr_of s rb)).0) rc

-- of the rotated doubleword, n, MB or ME, and (DA): rldicl, rldicr and rldimi, whose mask ends at ¬ n (9.4.70 to 9.4.72); n, MB and ME have six bits
abbrev pub merged_double : RotateDoubleOp → ℕ → ℕ → ℕ → ℕ → ℕ
merged_double RotateDoubleOp.Rldicl r n mb a = bit_and r (mask64 (mb % 2 ^ 6) 63)
merged_double RotateDoubleOp.Rldicr r n me a = bit_and r (mask64 0 (me % 2 ^ 6))
merged_double RotateDoubleOp.Rldimi r n mb a = under64 (mask64 (mb % 2 ^ 6) (63 - n)) r a

unfoldable pub rotate_of : State → Rotate → State
rotate_of s (Rotate.Immediate op rs ra sh mb me rc) =
    result_of s ra (merged op (rotl (gpr_of s rs) (sh % 2 ^ 5)) (mask_for mb me) (gpr_of s ra)) rc
rotate_of s (Rotate.Register rs ra rb mb me rc) =
    result_of s ra (bit_and (rotl (gpr_of s rs) (gpr_of s rb % 2 ^ 5)) (mask_for mb me)) rc
rotate_of s (Rotate.Shift op rs ra rb rc) = shift_of s op rs ra rb rc
rotate_of s (Rotate.Srawi rs ra sh rc) = shifted_of s ra (sraw (gpr_of s rs) (sh % 2 ^ 5)) rc
rotate_of s (Rotate.Double op ds da sh mb rc) =
    double_result_of s da (merged_double op (rotl64 (vdr_of s ds) (sh % 2 ^ 6)) (sh % 2 ^ 6) mb (vdr_of s da)) rc
