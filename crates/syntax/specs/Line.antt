-- The grammar of lines (C-12, docs/DECISIONS.md D39): a line has a part for each item of a shape, and no byte more.
use Rattle.std.specs.Prelude.{ℕ, ◌≡◌, true, false, List, [], ◌∷◌, ◌++◌}
use Rattle.insn.specs.declared.profile.Profile.{Profile}
use Rattle.insn.specs.declared.instr.Instr.{Instr}
use Rattle.expr.specs.Grammar.{Expr, InE, text_e, all_digits}
use Rattle.syntax.specs.Syntax.{Range, Item, lit, reg, zreg, num, spelled_on, shape_of}

-- a byte; r and digits; a lone 0; an expression
pub data Part : Type 0 where
  byte : ℕ → Part
  register : ℕ → List ℕ → Part
  zero : Part
  value : Expr → Part

unfoldable pub text_of : Part → List ℕ
text_of (byte c) = c ∷ []
text_of (register d ds) = 114 ∷ d ∷ ds
text_of zero = 48 ∷ []
text_of (value e) = text_e e

unfoldable pub texts : List Part → List ℕ
texts [] = []
texts (p ∷ ps) = text_of p ++ texts ps

-- brackets and minuses nest 16 deep at most
pub data Fits : Item → Part → Type 0 where
  fits_lit : (c : ℕ) → Fits (lit c) (byte c)
  fits_reg : (d : ℕ) (ds : List ℕ) → all_digits false (d ∷ ds) ≡ true → Fits reg (register d ds)
  fits_zreg : (d : ℕ) (ds : List ℕ) → all_digits false (d ∷ ds) ≡ true → Fits zreg (register d ds)
  fits_zero : Fits zreg zero
  fits_num : {r : Range} {e : Expr} → InE 16 e → Fits (num r) (value e)

pub data Line : List Item → List Part → Type 0 where
  line_end : Line [] []
  line_more : {x : Item} {p : Part} {xs : List Item} {ps : List Part} → Fits x p → Line xs ps → Line (x ∷ xs) (p ∷ ps)

-- some line of the shape begins so
pub record Begins (xs : List Item) (v : List ℕ) : Type 0 where
  pub parts : List Part
  pub line : Line xs parts
  pub rest : List ℕ
  pub text : texts parts ≡ v ++ rest

-- a core's grammar has the line: it is one of the shape of an instruction whose mnemonic is the core's
pub record Has (p : Profile) (s : List ℕ) : Type 0 where
  pub of : Instr
  pub spelled : spelled_on p of ≡ true
  pub parts : List Part
  pub line : Line (shape_of of) parts
  pub text : texts parts ≡ s

-- some line of a core's grammar begins so
pub record Opens (p : Profile) (v : List ℕ) : Type 0 where
  pub of : Instr
  pub spelled : spelled_on p of ≡ true
  pub begins : Begins (shape_of of) v
