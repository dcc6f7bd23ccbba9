-- What the functions answer: a row in bytes, a line against it, the rows of a letter. For their contracts; Answer in asm says
-- what a line is answered.
use Rattle.std.specs.Prelude.{ℕ, Result as Outcome, Ok, Err, zero, suc, ◌+◌, ◌*◌, ◌%◌, ◌^◌, ◌≡◌, Bool, true, false, ◌&&◌, List, [], ◌∷◌, ◌++◌, eqb, leb, ltb, length, take, drop}
use Rattle.std.proofs.lemmas.List.Edits.{sets}
use Rattle.expr.specs.Grammar.{pick}
use Rattle.expr.specs.Digits.{digits_from}
use Rattle.expr.specs.declared.Read.{Read}
use Rattle.expr.specs.declared.Stuck.{Stuck}
use Rattle.insn.specs.Write.{word_of}
use Rattle.insn.specs.declared.profile.Profile.{Profile}
use Rattle.insn.specs.declared.instr.Instr.{Instr}
use Rattle.insn.specs.Valid.{valid_of}
use Rattle.syntax.specs.Syntax.{Range, signed, unsigned, target, frame, Item, lit, reg, zreg, num, shape_of, plain}
use Rattle.syntax.specs.Line.{Part, text_of}
use Rattle.syntax.specs.Worth.{Field, field_of}
use Rattle.syntax.specs.LineOf.{number_text, register_text, base_text}
use Rattle.syntax.specs.Take.{Took, took, none, Result, all, stopped, take_line, well_made}
use Rattle.syntax.specs.declared.five.Five.{Five}
use Rattle.syntax.specs.declared.slot.Number.{Number}
use Rattle.syntax.specs.declared.slot.Slot.{Slot}
use Rattle.syntax.specs.declared.table.Found.{Found}

abbrev pub Operands : Type 0
Operands = Five Field

abbrev pub Queue : Type 0
Queue = Five ℕ

-- an item; a line against a row, and against the rows of a letter: what was read, or the column where no line goes on
abbrev pub Step : Type 0
Step = Outcome (Read Field) Stuck

abbrev pub Spot : Type 0
Spot = Outcome Operands Stuck

abbrev pub Place : Type 0
Place = Outcome Found Stuck

-- the range of a number by its letter in a row
unfoldable pub range_of : ℕ → Range
range_of c =
    pick (eqb c 83) (signed 0x8000) (pick (eqb c 85) (unsigned 0x1_0000) (pick (eqb c 78) (unsigned 32) (pick (eqb c 76) (unsigned 64) (pick (eqb c 67) (unsigned 4)
    (pick (eqb c 80) (unsigned 1024) (pick (eqb c 69) (unsigned 2) (pick (eqb c 70) (frame 0x1000) (pick (eqb c 74) (target 0x80_0000) (target 0x2000)))))))))

abbrev pub is_operand : ℕ → Bool
is_operand c = leb 65 c && leb c 90

unfoldable pub operand_at : ℕ → Item
operand_at c = pick (eqb c 82) reg (pick (eqb c 90) zreg (num (range_of c)))

unfoldable pub item_at : ℕ → Item
item_at c = pick (is_operand c) (operand_at c) (lit c)

-- what a byte of a row is read as
abbrev pub range_in : Number → Range
range_in Number.Signed = signed 0x8000
range_in Number.Unsigned = unsigned 0x1_0000
range_in Number.Five = unsigned 32
range_in Number.Six = unsigned 64
range_in Number.Two = unsigned 4
range_in Number.Ten = unsigned 1024
range_in Number.One = unsigned 2
range_in Number.Frame = frame 0x1000
range_in Number.Branch = target 0x80_0000
range_in Number.Conditional = target 0x2000

abbrev pub item_in : Slot → Item
item_in (Slot.Byte c) = lit c
item_in Slot.Register = reg
item_in Slot.Base = zreg
item_in (Slot.Number n) = num (range_in n)

-- a byte of a row that stands for itself
abbrev pub is_byte : Slot → Bool
is_byte (Slot.Byte c) = true
is_byte Slot.Register = false
is_byte Slot.Base = false
is_byte (Slot.Number n) = false

unfoldable pub pattern_of : List ℕ → List Item
pattern_of [] = []
pattern_of (c ∷ cs) = pick (eqb c 59) [] (item_at c ∷ pattern_of cs)

-- row n, and its word
abbrev pub row_at : List ℕ → ℕ → List ℕ
row_at t n = take 19 (drop (n * 28 + 9) t)

unfoldable pub pattern_at : List ℕ → ℕ → List Item
pattern_at t n = pattern_of (row_at t n)

unfoldable pub word_at : List ℕ → ℕ → ℕ
word_at t n = (digits_from true 0 (n * 28) (drop (n * 28) t)).value % 2 ^ 32

-- an operand read
abbrev pub step_of : Item → ℕ → Took → Step
step_of x i (took p j) = Ok (record { end = j; value = field_of x i p })
step_of x i (none k) = Err (record { column = k })

abbrev pub no_operands : Operands
no_operands = record { a = Ok 0; b = Ok 0; c = Ok 0; d = Ok 0; e = Ok 0 }

abbrev pub pushed : Operands → Field → Operands
pushed o f = record { a = f; b = o.a; c = o.b; d = o.c; e = o.d }

abbrev pub push_on : Item → Operands → Field → Operands
push_on (lit c) o f = o
push_on reg o f = pushed o f
push_on zreg o f = pushed o f
push_on (num r) o f = pushed o f

unfoldable pub gathered : Operands → ℕ → List Item → List Part → Operands
gathered o i xs [] = o
gathered o i [] (p ∷ ps) = o
gathered o i (x ∷ xs) (p ∷ ps) = gathered (push_on x o (field_of x i p)) (i + length (text_of p)) xs ps

-- a line against a row
abbrev pub spot_with : List Item → Operands → ℕ → Result → Spot
spot_with xs o i (all ps) = Ok (gathered o i xs ps)
spot_with xs o i (stopped k) = Err (record { column = k })

abbrev pub finish_of : ℕ → ℕ → Operands → Spot
finish_of n i o = pick (eqb i n) (Ok o) (Err (record { column = i }))

unfoldable pub spot_of : List Item → List ℕ → Spot
spot_of xs s = spot_with xs no_operands 0 (take_line xs 0 s)

-- the rows one after the other, with the furthest column so far
abbrev pub larger : ℕ → ℕ → ℕ
larger a b = pick (ltb a b) b a

abbrev pub tried : Spot → ℕ → ℕ → (ℕ → Place) → Place
tried (Ok o) w best f = Ok (record { word = w; operands = o })
tried (Err k) w best f = f (larger best k.column)

unfoldable pub rows_from : ℕ → ℕ → ℕ → List ℕ → List ℕ → Place
rows_from zero n best t s = Err (record { column = best })
rows_from (suc c) n best t s = tried (spot_of (pattern_at t n) s) (word_at t n) best (λ (b : ℕ). rows_from c (suc n) b t s)

-- a row printed with an instruction's operands
abbrev pub next_of : Queue → Queue
next_of q = record { a = q.b; b = q.c; c = q.d; d = q.e; e = 0 }

abbrev pub operand_text : Item → ℕ → List ℕ
operand_text (lit c) n = c ∷ []
operand_text reg n = register_text n
operand_text zreg n = base_text n
operand_text (num r) n = number_text r n

abbrev pub queue_after : Item → Queue → Queue
queue_after (lit c) q = q
queue_after reg q = next_of q
queue_after zreg q = next_of q
queue_after (num r) q = next_of q

unfoldable pub printed : List Item → Queue → List ℕ
printed [] q = []
printed (x ∷ xs) q = operand_text x q.a ++ printed xs (queue_after x q)

-- no operand takes more than nine bytes
abbrev pub wide_item : Item → ℕ
wide_item (lit c) = 1
wide_item reg = 9
wide_item zreg = 9
wide_item (num r) = 9

unfoldable pub wide : List Item → ℕ
wide [] = 0
wide (x ∷ xs) = wide_item x + wide xs

-- which of the ranges it is, and its number
abbrev pub kind_of : Range → ℕ
kind_of (signed h) = 0
kind_of (unsigned m) = 1
kind_of (target h) = 2
kind_of (frame h) = 3

abbrev pub limit_of : Range → ℕ
limit_of (signed h) = h
limit_of (unsigned m) = m
limit_of (target h) = h
limit_of (frame h) = h

-- rows that stand for instructions: the word and the shape of each; items end where the next begin, there are five operands at
-- most, and room for a line in 64 bytes
abbrev pub eq_range : Range → Range → Bool
eq_range r q = eqb (kind_of r) (kind_of q) && eqb (limit_of r) (limit_of q)

abbrev pub eq_item : Item → Item → Bool
eq_item (lit a) (lit b) = eqb a b
eq_item (lit a) reg = false
eq_item (lit a) zreg = false
eq_item (lit a) (num r) = false
eq_item reg (lit b) = false
eq_item reg reg = true
eq_item reg zreg = false
eq_item reg (num r) = false
eq_item zreg (lit b) = false
eq_item zreg reg = false
eq_item zreg zreg = true
eq_item zreg (num r) = false
eq_item (num r) (lit b) = false
eq_item (num r) reg = false
eq_item (num r) zreg = false
eq_item (num r) (num q) = eq_range r q

unfoldable pub eq_items : List Item → List Item → Bool
eq_items [] [] = true
eq_items [] (y ∷ ys) = false
eq_items (x ∷ xs) [] = false
eq_items (x ∷ xs) (y ∷ ys) = eq_item x y && eq_items xs ys

-- how many operands an item is
abbrev pub counts : Item → ℕ
counts (lit c) = 0
counts reg = 1
counts zreg = 1
counts (num r) = 1

unfoldable pub operand_count : List Item → ℕ
operand_count [] = 0
operand_count (x ∷ xs) = counts x + operand_count xs

unfoldable pub well_formed : List Item → Bool
well_formed xs = well_made xs && (leb (operand_count xs) 5 && leb (wide xs) 64)

unfoldable pub row_matches : List ℕ → ℕ → Instr → Bool
row_matches t n i = eq_items (pattern_at t n) (shape_of i) && (eqb (word_at t n) (word_of i) && (well_formed (pattern_at t n) && (valid_of i && plain i)))

unfoldable pub matches_from : ℕ → List ℕ → List Instr → Bool
matches_from n t [] = true
matches_from n t (i ∷ is) = row_matches t n i && matches_from (suc n) t is

-- the first of the rows
unfoldable pub matches : List ℕ → List Instr → Bool
matches t is = leb (length is * 28) (length t) && matches_from 0 t is

-- the rows of a letter, of which the 42 has so many
abbrev pub rows_on : Profile → ℕ → List ℕ → List ℕ
rows_on Profile.Ppe42 n t = take (n * 28) t
rows_on Profile.Ppe42x n t = t

-- rows that stand for these instructions, and no more
pub record StandFor (rows : List ℕ) (is : List Instr) : Type 0 where
  pub right : matches rows is ≡ true
  pub whole : length rows ≡ length is * 28

-- a line read against such rows
pub record ReadIn (is : List Instr) (s : List ℕ) (r : Place) : Type 0 where
  pub rows : List ℕ
  pub right : matches rows is ≡ true
  pub done : r ≡ rows_from (length is) 0 0 rows s

-- one of them printed
pub record PrintedIn (is : List Instr) (n : ℕ) (q : Queue) (before after : List ℕ) (m : ℕ) : Type 0 where
  pub rows : List ℕ
  pub right : matches rows is ≡ true
  pub bytes : m ≡ length (printed (pattern_at rows n) q)
  pub out : after ≡ sets before 0 (printed (pattern_at rows n) q)
