-- What the C functions answer of a word.
use Rattle.std.specs.Prelude.{ℕ, Option, Some, None, unwrap_or, ◌+◌, ◌^◌}
use Rattle.insn.specs.Write.{written_on}
use Rattle.insn.specs.declared.profile.Profile.{Profile}
use Rattle.insn.specs.declared.instr.Instr.{Instr}

abbrev pub legal_of : Option Instr → ℕ
legal_of (Some i) = 1
legal_of None = 0

abbrev pub rewrite_of : Profile → Option Instr → ℕ
rewrite_of p (Some i) = 2 ^ 32 + unwrap_or (written_on p i) 0
rewrite_of p None = 0
