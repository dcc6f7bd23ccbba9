-- The compares of 9.4: CR0 by the order of signed or of unsigned words (9.4.22, 9.4.24, 9.4.25, 9.4.27).
use Rattle.std.specs.Prelude.{ℕ, Bool}
use Rattle.word.specs.Sign.{exts}
use Rattle.word.specs.Compare.{compared_signed, compared_unsigned}
use Rattle.insn.specs.declared.instr.Compare.{Compare}
use Rattle.insn.specs.declared.instr.Sign.{Sign}
use Rattle.machine.specs.State.{gpr_of}
use Rattle.machine.specs.Result.{next_of, so_of, cr0_of}
use Rattle.machine.specs.declared.state.State.{State}

abbrev pub compared : Sign → ℕ → ℕ → Bool → ℕ
compared Sign.Signed a b so = compared_signed a b so
compared Sign.Unsigned a b so = compared_unsigned a b so

-- IM is extended with its sign, UI with zeros
abbrev pub extended : Sign → ℕ → ℕ
extended Sign.Signed imm = exts 16 imm
extended Sign.Unsigned imm = imm

unfoldable pub compared_of : State → Sign → ℕ → ℕ → State
compared_of s sign ra b = next_of (cr0_of s (compared sign (gpr_of s ra) b (so_of s)))

unfoldable pub compare_of : State → Compare → State
compare_of s (Compare.Immediate sign ra imm) = compared_of s sign ra (extended sign imm)
compare_of s (Compare.Register sign ra rb) = compared_of s sign ra (gpr_of s rb)
