-- What the operands of a line hold: the contents of their fields (Power ISA 2.07, instruction fields), or why they have none (C-12).
use Rattle.std.specs.Prelude.{ℕ, pos, negsuc, Result, Ok, Err, ◌+◌, ◌-◌, ◌*◌, ◌/◌, ◌%◌, false, List, [], ◌∷◌, eqb, ltb, length}
use Rattle.expr.specs.Grammar.{pick}
use Rattle.expr.specs.Evaluate.{Value, eval_e, digits_value}
use Rattle.syntax.specs.Syntax.{Range, signed, unsigned, target, frame, Item, lit, reg, zreg, num, Piece, letter, gpr, gpr_or0, number}
use Rattle.syntax.specs.Line.{Part, byte, register, zero, value, text_of}
use Rattle.syntax.specs.declared.field.Misfit.{Misfit}

abbrev pub Field : Type 0
Field = Result ℕ Misfit

abbrev pub unfit : Field
unfit = Err Misfit.Unfit

-- n where it is below a limit
abbrev pub below : ℕ → ℕ → Field
below limit n = pick (ltb n limit) (Ok n) unfit

-- two's complement in a field of 2h values; negsuc n is -(n + 1)
unfoldable pub signed_code : ℕ → Value → Field
signed_code h (Ok (pos n)) = below h n
signed_code h (Ok (negsuc n)) = pick (ltb n h) (Ok (2 * h - 1 - n)) unfit
signed_code h (Err k) = Err (Misfit.Off k)

unfoldable pub unsigned_code : ℕ → Value → Field
unsigned_code m (Ok (pos n)) = below m n
unsigned_code m (Ok (negsuc n)) = unfit
unsigned_code m (Err k) = Err (Misfit.Off k)

-- a number of words
unfoldable pub target_code : ℕ → Value → Field
target_code h (Ok (pos n)) = pick (eqb (n % 4) 0) (signed_code h (Ok (pos (n / 4)))) unfit
target_code h (Ok (negsuc n)) = pick (eqb (n % 4) 3) (signed_code h (Ok (negsuc (n / 4)))) unfit
target_code h (Err k) = Err (Misfit.Off k)

-- a number of doublewords, rounded down on both sides of 0
unfoldable pub frame_code : ℕ → Value → Field
frame_code h (Ok (pos n)) = signed_code h (Ok (pos (n / 8)))
frame_code h (Ok (negsuc n)) = signed_code h (Ok (negsuc (n / 8)))
frame_code h (Err k) = Err (Misfit.Off k)

abbrev pub code_of : Range → Value → Field
code_of (signed h) v = signed_code h v
code_of (unsigned m) v = unsigned_code m v
code_of (target h) v = target_code h v
code_of (frame h) v = frame_code h v

-- the field of a part that stands at a column
abbrev pub register_field : Part → Field
register_field (register d ds) = below 32 (digits_value false 0 (d ∷ ds))
register_field zero = Ok 0
register_field (byte c) = unfit
register_field (value e) = unfit

abbrev pub number_field : Range → ℕ → Part → Field
number_field r i (value e) = code_of r (eval_e e i)
number_field r i (byte c) = unfit
number_field r i (register d ds) = unfit
number_field r i zero = unfit

abbrev pub field_of : Item → ℕ → Part → Field
field_of (lit c) i p = unfit
field_of reg i p = register_field p
field_of zreg i p = register_field p
field_of (num r) i p = number_field r i p

-- a byte of the line is no operand
abbrev pub kept : Item → Field → List Field → List Field
kept (lit c) f fs = fs
kept reg f fs = f ∷ fs
kept zreg f fs = f ∷ fs
kept (num r) f fs = f ∷ fs

-- the fields of a line's operands, left to right
unfoldable pub fields_from : ℕ → List Item → List Part → List Field
fields_from i xs [] = []
fields_from i [] (p ∷ ps) = []
fields_from i (x ∷ xs) (p ∷ ps) = kept x (field_of x i p) (fields_from (i + length (text_of p)) xs ps)

-- the fields of an instruction's operands, in the order of its syntax line
unfoldable pub codes : List Piece → List ℕ
codes [] = []
codes (letter c ∷ ps) = codes ps
codes (gpr n ∷ ps) = n ∷ codes ps
codes (gpr_or0 n ∷ ps) = n ∷ codes ps
codes (number r n ∷ ps) = n ∷ codes ps

unfoldable pub all_codes : List ℕ → List Field
all_codes [] = []
all_codes (n ∷ ns) = Ok n ∷ all_codes ns

-- the start of the first value outside -2^31 to 2^31 - 1
pub data First : Type 0 where
  none : First
  at : ℕ → First

abbrev pub or_else : Field → First → First
or_else (Err (Misfit.Off k)) f = at k.column
or_else (Ok n) f = f
or_else (Err Misfit.Unfit) f = f

unfoldable pub first_off : List Field → First
first_off [] = none
first_off (f ∷ fs) = or_else f (first_off fs)
