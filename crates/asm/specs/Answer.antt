-- What a core answers for a line, by its grammar, the values and its instructions alone (C-12: 11, then 12, then 6).
use Rattle.std.specs.Prelude.{ℕ, Result, Ok, Err, ◌+◌, ◌≤◌, ◌<◌, ◌≡◌, true, List, length, take}
use Rattle.insn.specs.Profile.{valid_on}
use Rattle.insn.specs.Write.{word_of}
use Rattle.insn.specs.declared.profile.Profile.{Profile}
use Rattle.insn.specs.declared.instr.Instr.{Instr}
use Rattle.syntax.specs.Syntax.{written, plain, shape_of}
use Rattle.syntax.specs.Line.{Part, Line, texts, Has, Opens}
use Rattle.syntax.specs.Worth.{Field, none, at, fields_from, first_off, codes, all_codes}
use Rattle.asm.specs.declared.assemble.Refused.{Refused}

-- a word, or why there is none
abbrev pub Assembled : Type 0
Assembled = Result ℕ Refused

abbrev pub stopped_at : ℕ → Assembled
stopped_at k = Err (Refused.Grammar (record { column = k }))

abbrev pub outside_at : ℕ → Assembled
outside_at k = Err (Refused.Value (record { column = k }))

-- the numbers of an answer: its refusal, its column and its word
abbrev pub refusal_of : Assembled → ℕ
refusal_of (Ok w) = 0
refusal_of (Err (Refused.Grammar k)) = 11
refusal_of (Err (Refused.Value k)) = 12
refusal_of (Err Refused.Operands) = 6

abbrev pub column_of : Assembled → ℕ
column_of (Ok w) = 0
column_of (Err (Refused.Grammar k)) = k.column
column_of (Err (Refused.Value k)) = k.column
column_of (Err Refused.Operands) = 0

abbrev pub word_in : Assembled → ℕ
word_in (Ok w) = w
word_in (Err e) = 0

-- the line is the instruction's: of its shape, its operands what the instruction's fields hold, and the fields it does not write 0
pub record Spells (s : List ℕ) (i : Instr) : Type 0 where
  pub parts : List Part
  pub line : Line (shape_of i) parts
  pub text : texts parts ≡ s
  pub fields : fields_from 0 (shape_of i) parts ≡ all_codes (codes (written i))
  pub rest : plain i ≡ true

-- the fields of the operands of a line that the grammar has
abbrev pub fields_of : {p : Profile} {s : List ℕ} → Has p s → List Field
fields_of h = fields_from 0 (shape_of h.of) h.parts

-- k is the column of the first byte, or the end, where no line of the grammar goes on, and 256 at most; a line of up to 256
-- bytes is not in the grammar
pub record Stops (p : Profile) (s : List ℕ) (k : ℕ) : Type 0 where
  pub inside : k ≤ length s
  pub most : k ≤ 256
  pub goes : Opens p (take k s)
  pub ends : k < length s → k < 256 → Opens p (take (k + 1) s) → ⊥
  pub none : length s ≤ 256 → Has p s → ⊥

-- the word of a valid instruction; 11 and a column; 12 and the start of the first value outside its range; 6
pub data Answer (p : Profile) (s : List ℕ) : Assembled → Type 0 where
  accepted : (i : Instr) → length s ≤ 256 → Spells s i → valid_on p i ≡ true → Answer p s (Ok (word_of i))
  stopped : (k : ℕ) → Stops p s k → Answer p s (stopped_at k)
  outside : (k : ℕ) → length s ≤ 256 → (h : Has p s) → first_off (fields_of h) ≡ at k → Answer p s (outside_at k)
  invalid : length s ≤ 256 → (h : Has p s) → first_off (fields_of h) ≡ none → ((i : Instr) → Spells s i → valid_on p i ≡ true → ⊥) → Answer p s (Err Refused.Operands)
