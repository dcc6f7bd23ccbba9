-- A word's form and its parts make what the word reads as. Assumes nothing.
use Prim.Native.Nat.{ℕ}
use mathlib.Core.Path.{◌≡◌, refl}
use mathlib.Core.Bool.{Bool, true, false, cond, ◌&&◌}
use mathlib.Core.List.{List, [], ◌∷◌}
use lib.Dec.{eqb}
use Rattle.insn.specs.Fields.{fields_of}
use Rattle.insn.specs.Valid.{valid_of}
use Rattle.insn.specs.Profile.{has}
use Rattle.insn.specs.Write.{word_of}
use Rattle.insn.specs.Read.{Row, find, nothing, system, system_rows, storage, storage_rows, logical, logical_rows, arithmetic, arithmetic_rows, opcode19, rows19, opcode4, rows4, opcode30, rows30, added, added_rows, load_store, load_store_rows, primary, primary_rows, guess_of, settled, decode_of, kept_on, decode_on}
use Rattle.insn.specs.declared.fields.Fields.{Fields}
use Rattle.insn.specs.declared.instr.Instr.{Instr}
use Rattle.std.specs.Prelude.{Option, Some, None, Ok}
use Rattle.std.specs.Bool.{then_some}
use Rattle.insn.specs.declared.profile.Profile.{Profile}
use Rattle.reading.specs.Form.{form_of, Found, made_of}
use Rattle.reading.specs.Reading.{form_in}

-- what a word suggests is made again of its form and the word's parts
abbrev Made : Fields → Option Instr → Type 0
Made f d = made_of (form_in d) f ≡ Ok d

-- what the rows of a table suggest, and what is made of the forms of that
abbrev suggested : Fields → List Row → List Found
suggested f [] = []
suggested f (r ∷ rs) = Ok (r.1 f) ∷ suggested f rs

abbrev remade : Fields → List Row → List Found
remade f [] = []
remade f (r ∷ rs) = made_of (form_in (r.1 f)) f ∷ remade f rs

-- whichever of two it is, it is made if both are
either : (f : Fields) (b : Bool) (g h : Fields → Option Instr) → Made f (g f) → Made f (h f) → Made f (cond b g h f)
either f true g h p q = p
either f false g h p q = q

-- so what is found in a table is made, if the default is
found : (f : Fields) (rs : List Row) (d : Fields → Option Instr) (code : ℕ) → remade f rs ≡ suggested f rs → Made f (d f) → Made f (find rs d code f)
found f [] d code all rest = rest
found f (r ∷ rs) d code all rest =
    let first : Made f (r.1 f) = cc in
    let others : remade f rs ≡ suggested f rs = cc in
    either f (eqb code r.0) r.1 (find rs d code) first (found f rs d code others rest)

-- each table: both lists compute to the same
system_made : (f : Fields) (x : ℕ) → Made f (system x f)
unfolding system system_rows form_of made_of
system_made f x = found f system_rows nothing x refl refl

storage_made : (f : Fields) (x : ℕ) → Made f (storage x f)
unfolding storage storage_rows form_of made_of
storage_made f x = found f storage_rows (system x) x refl (system_made f x)

logical_made : (f : Fields) (x : ℕ) → Made f (logical x f)
unfolding logical logical_rows form_of made_of
logical_made f x = found f logical_rows (storage x) x refl (storage_made f x)

arithmetic_made : (f : Fields) (x xo : ℕ) → Made f (arithmetic x xo f)
unfolding arithmetic arithmetic_rows form_of made_of
arithmetic_made f x xo = found f arithmetic_rows (logical x) xo refl (logical_made f x)

made_19 : (f : Fields) (x : ℕ) → Made f (opcode19 x f)
unfolding opcode19 rows19 form_of made_of
made_19 f x = found f rows19 nothing x refl refl

made_4 : (f : Fields) (x : ℕ) → Made f (opcode4 x f)
unfolding opcode4 rows4 form_of made_of
made_4 f x = found f rows4 nothing x refl refl

made_30 : (f : Fields) (md : ℕ) → Made f (opcode30 md f)
unfolding opcode30 rows30 form_of made_of
made_30 f md = found f rows30 nothing md refl refl

added_made : (f : Fields) (op : ℕ) → Made f (added op f)
unfolding added added_rows form_of made_of
added_made f op = found f added_rows nothing op (rw (made_30 f f.md)) refl

load_store_made : (f : Fields) (op : ℕ) → Made f (load_store op f)
unfolding load_store load_store_rows form_of made_of
load_store_made f op = found f load_store_rows (added op) op refl (added_made f op)

primary_made : (f : Fields) (op : ℕ) → Made f (primary op f)
unfolding primary primary_rows form_of made_of
primary_made f op = found f primary_rows (load_store op) op (rw (made_4 f f.x, made_19 f f.x, arithmetic_made f f.x f.xo)) (load_store_made f op)

-- settling and keeping only refuse, and an illegal word is made as such
or_illegal : (f : Fields) (b : Bool) (i : Instr) → Made f (Some i) → Made f (then_some b i)
unfolding made_of
or_illegal f true i p = p
or_illegal f false i p = refl

settled_made : (f : Fields) (w : ℕ) (d : Option Instr) → Made f d → Made f (settled w d)
settled_made f w (Some i) p = or_illegal f (valid_of i && eqb (word_of i) w) i p
settled_made f w None p = p

kept_made : (f : Fields) (p : Profile) (d : Option Instr) → Made f d → Made f (kept_on p d)
kept_made f p (Some i) q = or_illegal f (has p i) i q
kept_made f p None q = q

-- a word's form and its parts make what it reads as
pub made_read : (p : Profile) (w : ℕ) → made_of (form_in (decode_on p w)) (fields_of w) ≡ Ok (decode_on p w)
unfolding decode_on decode_of
made_read p w =
    let f = fields_of w in
    kept_made f p (decode_of w) (settled_made f w (guess_of f) (primary_made f f.op))
