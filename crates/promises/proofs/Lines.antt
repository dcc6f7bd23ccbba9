-- What a line is answered, both ways round: what each number says, and when it is given. Assumes nothing.
use Prim.Native.Nat.{ℕ, ◌≤◌}
use native.Mathlib.Omega.{arith}
use mathlib.Core.Path.{◌≡◌, refl, ap, ◌∙◌}
use mathlib.Core.Bool.{true}
use mathlib.Core.List.{List}
use lib.ListN.{length}
use Rattle.std.specs.Prelude.{Some, Ok, Err}
use Rattle.insn.specs.Profile.{valid_on}
use Rattle.insn.specs.Write.{word_of}
use Rattle.insn.specs.Read.{decode_on}
use Rattle.insn.specs.declared.profile.Profile.{Profile}
use Rattle.insn.specs.declared.instr.Instr.{Instr}
use Rattle.insn.proofs.Round.{read_written_on, written_read_on}
use Rattle.syntax.specs.Syntax.{plain}
use Rattle.syntax.specs.Line.{Has}
use Rattle.syntax.specs.Worth.{none, at, first_off}
use Rattle.syntax.specs.LineOf.{line_of}
use Rattle.syntax.proofs.Spelled.{plain_spelled}
use Rattle.asm.specs.Answer.{Assembled, outside_at, refusal_of, column_of, word_in, Spells, Stops, fields_of, Answer, accepted, stopped, outside, invalid}
use Rattle.asm.specs.declared.assemble.Refused.{Refused}
use Rattle.asm.proofs.Answers.{answer_once, spelt_accepted, line_assembles}

-- accepted: the line is a valid instruction's, and the word reads back as it
pub record Accepted (p : Profile) (s : List ℕ) (r : Assembled) : Type 0 where
  pub instr : Instr
  pub short : length s ≤ 256
  pub spells : Spells s instr
  pub valid : valid_on p instr ≡ true
  pub word : word_in r ≡ word_of instr
  pub reads : decode_on p (word_in r) ≡ Some instr

pub accepted_is : (p : Profile) (s : List ℕ) (r : Assembled) → Answer p s r → refusal_of r ≡ 0 → Accepted p s r
accepted_is p s r (accepted i l q v) e = record { instr = i; short = l; spells = q; valid = v; word = refl; reads = written_read_on p i v }
accepted_is p s r (stopped k x) e = let z : ⊥ = omega (arith, e) in absurd z
accepted_is p s r (outside k l h x) e = let z : ⊥ = omega (arith, e) in absurd z
accepted_is p s r (invalid l h x n) e = let z : ⊥ = omega (arith, e) in absurd z

pub accepted_when : (p : Profile) (s : List ℕ) (i : Instr) (r : Assembled) → length s ≤ 256 → Spells s i → valid_on p i ≡ true → Answer p s r → r ≡ Ok (word_of i)
accepted_when = spelt_accepted

-- 11: no line of up to 256 bytes of the grammar; its column is that of `Stops`
pub stopped_is : (p : Profile) (s : List ℕ) (r : Assembled) → Answer p s r → refusal_of r ≡ 11 → Stops p s (column_of r) × (word_in r ≡ 0)
stopped_is p s r (accepted i l q v) e = let z : ⊥ = omega (arith, e) in absurd z
stopped_is p s r (stopped k x) e = (x, refl)
stopped_is p s r (outside k l h x) e = let z : ⊥ = omega (arith, e) in absurd z
stopped_is p s r (invalid l h x n) e = let z : ⊥ = omega (arith, e) in absurd z

pub stopped_when : (p : Profile) (s : List ℕ) (r : Assembled) → (length s ≤ 256 → Has p s → ⊥) → Answer p s r → refusal_of r ≡ 11
stopped_when p s r n (accepted i l q v) = let z : ⊥ = n l (record { of = i; spelled = plain_spelled p i q.rest v; parts = q.parts; line = q.line; text = q.text }) in absurd z
stopped_when p s r n (stopped k x) = refl
stopped_when p s r n (outside k l h x) = let z : ⊥ = n l h in absurd z
stopped_when p s r n (invalid l h x m) = let z : ⊥ = n l h in absurd z

-- 12: a line of the grammar, in which the first value outside its range starts at the column
pub record Outside (p : Profile) (s : List ℕ) (r : Assembled) : Type 0 where
  pub short : length s ≤ 256
  pub has : Has p s
  pub first : first_off (fields_of has) ≡ at (column_of r)
  pub word : word_in r ≡ 0

pub outside_is : (p : Profile) (s : List ℕ) (r : Assembled) → Answer p s r → refusal_of r ≡ 12 → Outside p s r
outside_is p s r (accepted i l q v) e = let z : ⊥ = omega (arith, e) in absurd z
outside_is p s r (stopped k x) e = let z : ⊥ = omega (arith, e) in absurd z
outside_is p s r (outside k l h x) e = record { short = l; has = h; first = x; word = refl }
outside_is p s r (invalid l h x n) e = let z : ⊥ = omega (arith, e) in absurd z

pub outside_when : (p : Profile) (s : List ℕ) (h : Has p s) (k : ℕ) (r : Assembled) → length s ≤ 256 → first_off (fields_of h) ≡ at k → Answer p s r → r ≡ outside_at k
outside_when p s h k r l e a = answer_once p s r _ a (outside k l h e)

-- 6: a line of the grammar with every value in range, which is no valid instruction's
pub record Invalid (p : Profile) (s : List ℕ) (r : Assembled) : Type 0 where
  pub short : length s ≤ 256
  pub has : Has p s
  pub inside : first_off (fields_of has) ≡ none
  pub nobody : (i : Instr) → Spells s i → valid_on p i ≡ true → ⊥
  pub column : column_of r ≡ 0
  pub word : word_in r ≡ 0

pub invalid_is : (p : Profile) (s : List ℕ) (r : Assembled) → Answer p s r → refusal_of r ≡ 6 → Invalid p s r
invalid_is p s r (accepted i l q v) e = let z : ⊥ = omega (arith, e) in absurd z
invalid_is p s r (stopped k x) e = let z : ⊥ = omega (arith, e) in absurd z
invalid_is p s r (outside k l h x) e = let z : ⊥ = omega (arith, e) in absurd z
invalid_is p s r (invalid l h x n) e = record { short = l; has = h; inside = x; nobody = n; column = refl; word = refl }

pub invalid_when : (p : Profile) (s : List ℕ) (h : Has p s) (r : Assembled) → length s ≤ 256 → first_off (fields_of h) ≡ none → ((i : Instr) → Spells s i → valid_on p i ≡ true → ⊥) → Answer p s r → r ≡ Err Refused.Operands
invalid_when p s h r l e n a = answer_once p s r _ a (invalid l h e n)

-- what a listing shows for a word assembles to that word, unless it says that a field is left out
pub listing_assembles : (p : Profile) (w : ℕ) (i : Instr) (r : Assembled) → decode_on p w ≡ Some i → plain i ≡ true → Answer p (line_of i) r → r ≡ Ok w
listing_assembles p w i r e h a =
    let q = read_written_on p w i e in
    line_assembles p i r q.0 h a ∙ ap (λ (x : ℕ). Ok x) q.1
