-- What is answered for a word: its line at the start of the output, or that it is illegal, or that the output is short.
use Rattle.std.specs.Prelude.{ℕ, Option, Some, None, Result, Ok, Err, not, List, ltb, length}
use Rattle.std.proofs.lemmas.List.Edits.{sets}
use Rattle.expr.specs.Grammar.{pick}
use Rattle.insn.specs.declared.instr.Instr.{Instr}
use Rattle.syntax.specs.Syntax.{plain}
use Rattle.syntax.specs.LineOf.{line_of}
use Rattle.asm.specs.declared.disassemble.Listing.{Listing}
use Rattle.asm.specs.declared.disassemble.Unlisted.{Unlisted}

abbrev pub Listed : Type 0
Listed = Result Listing Unlisted

abbrev pub line_listed : Option Instr → Listed
line_listed None = Err Unlisted.Illegal
line_listed (Some i) = Ok (record { bytes = length (line_of i); more = not (plain i) })

abbrev pub line_out : Option Instr → List ℕ → List ℕ
line_out None out = out
line_out (Some i) out = sets out 0 (line_of i)

abbrev pub listed_of : Option Instr → List ℕ → Listed
listed_of d out = pick (ltb (length out) 64) (Err Unlisted.Short) (line_listed d)

abbrev pub listed_out : Option Instr → List ℕ → List ℕ
listed_out d out = pick (ltb (length out) 64) out (line_out d out)
