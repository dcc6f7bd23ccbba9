-- A line's answer is small enough for its places. Assumes nothing.
use Prim.Native.Nat.{ℕ, ◌≤◌}
use native.Mathlib.Omega.{arith}
use mathlib.Core.Bool.{Bool, true, false, not}
use mathlib.Core.Path.{◌≡◌, ap, ◌∙◌}
use mathlib.Core.List.{List}
use lib.Dec.{ltb}
use lib.ListN.{length}
use Rattle.std.specs.Prelude.{Option, Some, None, Ok, Err}
use Rattle.expr.specs.Grammar.{pick as choose}
use Rattle.insn.specs.declared.instr.Instr.{Instr}
use Rattle.syntax.specs.Syntax.{plain}
use Rattle.syntax.specs.LineOf.{line_of}
use Rattle.asm.specs.Listing.{Listed, line_listed, listed_of}
use Rattle.asm.specs.declared.disassemble.Listing.{Listing}
use Rattle.asm.specs.declared.disassemble.Unlisted.{Unlisted}
use Rattle.asm.proofs.Back.{line_length}
use Rattle.abi_asm.specs.Lines.{listed_answer}

-- a line's length is small
line_case : (b : Bool) (d : Option Instr) (l : Listing) → ◌≡◌ {A = Listed} (Ok l) (choose b (Err Unlisted.Short) (line_listed d)) → l.bytes ≤ 64
line_case true d l e = let z : ◌≡◌ {A = ℕ} 0 1 = cc in let y : ⊥ = omega arith in absurd y
line_case false None l e = let z : ◌≡◌ {A = ℕ} 0 1 = cc in let y : ⊥ = omega arith in absurd y
line_case false (Some i) l e = let q : l ≡ record { bytes = length (line_of i); more = not (plain i) } = cc in let n : l.bytes ≡ length (line_of i) = ap (λ (x : Listing). x.bytes) q in omega (arith, line_length i)

pub listed_fits : (d : Option Instr) (out : List ℕ) (l : Listing) → Ok l ≡ listed_of d out → l.bytes ≤ 64
listed_fits d out l e = line_case (ltb (length out) 64) d l e

-- what the boundary answers for a listing
pub listed_answer_lem : (r x : Listed) (l m : List ℕ) (k : ℕ) → (r ≡ x) × (l ≡ m) → k ≡ listed_answer r → (k ≡ listed_answer x) × (l ≡ m)
listed_answer_lem r x l m k h e = (e ∙ ap listed_answer h.0, h.1)
