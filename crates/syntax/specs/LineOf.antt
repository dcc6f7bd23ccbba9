-- The line that is written for an instruction: registers as r and their number, numbers in decimal, for (RA|0) with r0 a lone 0 (docs/DECISIONS.md D41).
use Rattle.std.specs.Prelude.{ℕ, zero, suc, ◌+◌, ◌-◌, ◌*◌, ◌/◌, ◌%◌, List, [], ◌∷◌, ◌++◌, eqb, ltb}
use Rattle.insn.specs.declared.instr.Instr.{Instr}
use Rattle.expr.specs.Grammar.{pick}
use Rattle.syntax.specs.Syntax.{Range, signed, unsigned, target, frame, Piece, letter, gpr, gpr_or0, number, written}

-- a number in decimal, its last k digits at most
unfoldable pub decimal : ℕ → ℕ → List ℕ
decimal zero n = []
decimal (suc k) n = pick (ltb n 10) ((48 + n) ∷ []) (decimal k (n / 10) ++ ((48 + n % 10) ∷ []))

-- two's complement in a field of 2h values, times a unit
unfoldable pub signed_text : ℕ → ℕ → ℕ → List ℕ
signed_text unit h n = pick (ltb n h) (decimal 8 (unit * n)) (45 ∷ decimal 8 (unit * (2 * h - n)))

abbrev pub number_text : Range → ℕ → List ℕ
number_text (signed h) n = signed_text 1 h n
number_text (unsigned m) n = decimal 8 n
number_text (target h) n = signed_text 4 h n
number_text (frame h) n = signed_text 8 h n

abbrev pub register_text : ℕ → List ℕ
register_text n = 114 ∷ decimal 2 n

-- where 9.4 reads (RA|0), r0 is a lone 0
abbrev pub base_text : ℕ → List ℕ
base_text n = pick (eqb n 0) (48 ∷ []) (register_text n)

abbrev pub piece_text : Piece → List ℕ
piece_text (letter c) = c ∷ []
piece_text (gpr n) = register_text n
piece_text (gpr_or0 n) = base_text n
piece_text (number r n) = number_text r n

unfoldable pub piece_texts : List Piece → List ℕ
piece_texts [] = []
piece_texts (p ∷ ps) = piece_text p ++ piece_texts ps

unfoldable pub line_of : Instr → List ℕ
line_of i = piece_texts (written i)
