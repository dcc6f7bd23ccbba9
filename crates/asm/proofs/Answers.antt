-- What is answered is what the grammar, the values and the instructions say; and it is the only such answer.
use Prim.Native.Nat.{ℕ, suc, ◌+◌, ◌≤◌, ◌<◌}
use native.Mathlib.Omega.{arith}
use native.Mathlib.Nat.{zero-add}
use mathlib.Core.Path.{◌≡◌, refl, sym, ap, ◌∙◌, subst}
use mathlib.Core.Bool.{Bool, true, false}
use mathlib.Core.Logic.{⊎_elim}
use mathlib.Core.List.{List, [], ◌∷◌, ◌++◌, append-nil}
use lib.ListN.{length, take, drop, length-append, take-append-drop}
use lib.Seq.{take_at, length-take-le, take-append-le}
use Rattle.syntax.specs.declared.field.Misfit.{Misfit}
use Rattle.std.specs.Prelude.{Some, Ok, Err}
use Rattle.expr.proofs.Cases.{split_lt, clash}
use Rattle.expr.proofs.Sound.{Cut}
use Rattle.insn.specs.Valid.{valid_of}
use Rattle.insn.specs.Profile.{valid_on}
use Rattle.insn.specs.Write.{word_of}
use Rattle.insn.specs.Read.{decode_on}
use Rattle.insn.specs.declared.profile.Profile.{Profile}
use Rattle.insn.specs.declared.instr.Instr.{Instr}
use Rattle.insn.proofs.Round.{written_read_on}
use Rattle.syntax.specs.Syntax.{Item, shape_of, written, plain, spelled_on}
use Rattle.syntax.specs.Line.{Part, Line, texts, Begins, Has, Opens}
use Rattle.syntax.specs.Worth.{Field, none, at, fields_from, first_off, codes, all_codes}
use Rattle.asm.specs.Answer.{Assembled, stopped_at, outside_at, Spells, fields_of, Stops, Answer, accepted, stopped as answer_stopped, outside, invalid}
use Rattle.syntax.specs.LineOf.{line_of}
use Rattle.syntax.specs.Take.{all, stopped, take_line, well_made}
use Rattle.syntax.specs.Rows.{samples, sample_of, row_of}
use Rattle.syntax.specs.Inside.{Operands, ReadIn, pattern_at, operand_count, matches, no_operands, gathered}
use Rattle.std.specs.Option.{ok_or}
use Rattle.std.specs.Bool.{then_some}
use Rattle.syntax.specs.declared.table.Found.{Found as Matched}
use Rattle.asm.specs.declared.assemble.Refused.{Refused}
use Rattle.asm.specs.Inside.{Check, checked_of, codes_in, filled, settled_of, Placed}
use Rattle.syntax.proofs.Lines.{LineRead, Parsed, line_read, line_complete, line_stuck, line_unique, sooner, some_line}
use Rattle.syntax.proofs.Rows.{no_place, here as row_here, Right, right_at, Stopped, Reached, Ran, ran, Listed, found, bad_same}
use Rattle.syntax.proofs.Spelled.{spelled_42x, plain_spelled, spelled_valid, on_valid}
use Rattle.syntax.proofs.Samples.{sample_at_lem}
use Rattle.asm.proofs.Filled.{push_all, fill_back, fill_shape, fill_plain, fill_codes, spelt_same}
use Rattle.asm.proofs.Fields.{check_unfit, check_fine, gather_push, fields_count, folded, check_fold, fine_off, fine_unfit, Contents, fine_fine, codes_fine, codes_none, codes_same, bounded_fields}
use Rattle.syntax.proofs.Groups.{some, sample_at, sample_spelled, one_row, InRow, in_row, no_empty, shape_made}
use Rattle.asm.proofs.Back.{line_back, line_length}

-- ---- the row that has a line, and that no other has it

-- row n of a core's of the line's first byte has the line
pub record Found (core : Profile) (c : ℕ) (s : List ℕ) (w : ℕ) (o : Operands) : Type 0 where
  pub row : ℕ
  pub listed : row < length (samples core c)
  pub word : w ≡ word_of (sample_at core c row)
  pub made : well_made (shape_of (sample_at core c row)) ≡ true
  pub few : operand_count (shape_of (sample_at core c row)) ≤ 5
  pub spelled : spelled_on core (sample_at core c row) ≡ true
  pub valid : valid_on core (sample_at core c row) ≡ true
  pub bare : plain (sample_at core c row) ≡ true
  pub parts : List Part
  pub line : Line (shape_of (sample_at core c row)) parts
  pub text : texts parts ≡ c ∷ s
  pub operands : o ≡ push_all no_operands (fields_from 0 (shape_of (sample_at core c row)) parts)

pub found_row : (core : Profile) (c : ℕ) (s : List ℕ) (w : ℕ) (o : Operands) → ReadIn (samples core c) (c ∷ s) (row_here w o) → Found core c s w o
found_row core c s w o g =
    let f : Listed g.rows (length (samples core c)) (c ∷ s) w o = rw zero-add at (found (length (samples core c)) 0 0 g.rows (c ∷ s) w o (sym g.done)) in
    let r : Right g.rows f.row (sample_at core c f.row) = right_at (samples core c) g.rows f.row some g.right f.listed in
    let h : spelled_on core (sample_at core c f.row) ≡ true = sample_spelled core c f.row f.listed in
    let p : Parsed (pattern_at g.rows f.row) (c ∷ s) f.fits.parts = subst (LineRead (pattern_at g.rows f.row) 0 (c ∷ s)) f.fits.takes (line_read (pattern_at g.rows f.row) 0 (c ∷ s)) in
    record {
      row = f.row;
      listed = f.listed;
      word = f.word ∙ r.word;
      made = r.made;
      few = r.few;
      spelled = h;
      valid = spelled_valid core (sample_at core c f.row) r.bare h r.valid;
      bare = r.bare;
      parts = f.fits.parts;
      line = subst (λ (x : List Item). Line x f.fits.parts) r.shape p.line;
      text = p.text;
      operands = f.fits.operands ∙ (ap (λ (x : List Item). gathered no_operands 0 x f.fits.parts) r.shape ∙ gather_push (shape_of (sample_at core c f.row)) f.fits.parts no_operands 0);
    }

-- an instruction whose shape has the line is of that row, and its reading is that one
pub record Same (core : Profile) (c : ℕ) (n : ℕ) (parts ps : List Part) (i : Instr) : Type 0 where
  pub sample : sample_of i ≡ sample_at core c n
  pub shape : shape_of i ≡ shape_of (sample_at core c n)
  pub reading : ps ≡ parts

pub only_row : (core : Profile) (c : ℕ) (s : List ℕ) (n : ℕ) (parts : List Part) → n < length (samples core c) → well_made (shape_of (sample_at core c n)) ≡ true → Line (shape_of (sample_at core c n)) parts → texts parts ≡ c ∷ s → (i : Instr) (ps : List Part) → spelled_on core i ≡ true → Line (shape_of i) ps → texts ps ≡ c ∷ s → Same core c n parts ps i
only_row core c s n parts b m l t i ps v k u =
    let r : InRow core i c = in_row core i ps c s v k u in
    let q : r.row ≡ n = one_row core c r.row n ps parts r.listed b (subst (λ (x : List Item). Line x ps) r.shape k) l (u ∙ sym t) in
    let h : shape_of i ≡ shape_of (sample_at core c n) = r.shape ∙ ap (λ (x : ℕ). shape_of (sample_at core c x)) q in
    let a : sample_of i ≡ sample_at core c n = sym (sample_at_lem core i some v) ∙ (ap (λ (x : ℕ). sample_at core x (row_of i).row) r.here ∙ ap (λ (x : ℕ). sample_at core c x) (r.where_it_is ∙ q)) in
    record { sample = a; shape = h; reading = line_unique (shape_of (sample_at core c n)) ps parts m (subst (λ (x : List Item). Line x ps) h k) l (u ∙ sym t) }

-- ---- a line that was found

abbrev has_found : (core : Profile) (c : ℕ) (s : List ℕ) (w : ℕ) (o : Operands) → Found core c s w o → Has core (c ∷ s)
has_found core c s w o f = record { of = sample_at core c f.row; spelled = f.spelled; parts = f.parts; line = f.line; text = f.text }

same_fields : (core : Profile) (c : ℕ) (s : List ℕ) (w : ℕ) (o : Operands) (f : Found core c s w o) (i : Instr) → Spells (c ∷ s) i → spelled_on core i ≡ true → (sample_of i ≡ sample_at core c f.row) × (fields_from 0 (shape_of (sample_at core c f.row)) f.parts ≡ all_codes (codes (written i)))
same_fields core c s w o f i p h =
    let q = only_row core c s f.row f.parts f.listed f.made f.line f.text i p.parts h p.line p.text in
    (q.sample, rw (← q.shape, ← q.reading) p.fields)

settled : (core : Profile) (c : ℕ) (s : List ℕ) (w : ℕ) (o : Operands) (f : Found core c s w o) → length (c ∷ s) ≤ 256 → (k : Check) → folded check_fine (fields_from 0 (shape_of (sample_at core c f.row)) f.parts) ≡ k → Answer core (c ∷ s) (settled_of core k (Some (sample_at core c f.row)) o)
settled core c s w o f l (Err (Misfit.Off k)) e = outside k.column l (has_found core c s w o f) (fine_off (fields_from 0 (shape_of (sample_at core c f.row)) f.parts) k.column e)
settled core c s w o f l (Err Misfit.Unfit) e =
    invalid l (has_found core c s w o f) (fine_unfit (fields_from 0 (shape_of (sample_at core c f.row)) f.parts) e)
    (λ i p v.
    let q = same_fields core c s w o f i p (plain_spelled core i p.rest v) in
    let z : check_fine ≡ check_unfit = sym (codes_fine (codes (written i))) ∙ (ap (folded check_fine) (sym q.1) ∙ e) in
    let y : ◌≡◌ {A = ℕ} 0 1 = cc in
    omega arith)
settled core c s w o f l (Ok u) e =
    let fs : List Field = fields_from 0 (shape_of (sample_at core c f.row)) f.parts in
    let a : Contents fs = fine_fine fs e in
    let g : o ≡ push_all no_operands (all_codes a.numbers) = f.operands ∙ ap (push_all no_operands) a.are in
    let j : Instr = filled (sample_at core c f.row) (codes_in o) in
    let h : codes (written j) ≡ a.numbers = rw g (fill_codes (sample_at core c f.row) a.numbers (bounded_fields (shape_of (sample_at core c f.row)) f.parts 0 a.numbers f.line a.are)) in
    let x : shape_of j ≡ shape_of (sample_at core c f.row) = fill_shape (sample_at core c f.row) (codes_in o) in
    let sp : Spells (c ∷ s) j = record { parts = f.parts; line = rw x f.line; text = f.text; fields = rw (x, h) a.are; rest = fill_plain (sample_at core c f.row) (codes_in o) ∙ f.bare } in
    encoded (valid_on core j) refl sp
    (λ i p v.
    let q = same_fields core c s w o f i p (plain_spelled core i p.rest v) in
    let n : a.numbers ≡ codes (written i) = codes_same a.numbers (codes (written i)) (sym a.are ∙ q.1) in
    let b : filled (sample_of i) (codes_in (push_all no_operands (all_codes (codes (written i))))) ≡ i = fill_back i (on_valid core i v) p.rest in
    let m : j ≡ i = rw (g, n, ← q.0) b in
    rw m v)
    (codes_none a.numbers)
  where
    encoded : (b : Bool) → valid_on core (filled (sample_at core c f.row) (codes_in o)) ≡ b → Spells (c ∷ s) (filled (sample_at core c f.row) (codes_in o)) → ((i : Instr) → Spells (c ∷ s) i → valid_on core i ≡ true → valid_on core (filled (sample_at core c f.row) (codes_in o)) ≡ true) → first_off (all_codes (fine_fine (fields_from 0 (shape_of (sample_at core c f.row)) f.parts) e).numbers) ≡ none → Answer core (c ∷ s) (ok_or (then_some (valid_on core (filled (sample_at core c f.row) (codes_in o))) (word_of (filled (sample_at core c f.row) (codes_in o)))) Refused.Operands)
    encoded true v sp g n = rw v (accepted (filled (sample_at core c f.row) (codes_in o)) l sp v)
    encoded false v sp g n =
        rw v
        (invalid l (has_found core c s w o f) (ap first_off (fine_fine (fields_from 0 (shape_of (sample_at core c f.row)) f.parts) e).are ∙ n)
        (λ i p u. clash (sym (sym (g i p u) ∙ v))))

pub row_answer : (core : Profile) (c : ℕ) (s : List ℕ) (w : ℕ) (o : Operands) (r : Assembled) → ReadIn (samples core c) (c ∷ s) (row_here w o) → length (c ∷ s) ≤ 256 → r ≡ settled_of core (checked_of o) (decode_on core w) o → Answer core (c ∷ s) r
row_answer core c s w o r g l e =
    let f : Found core c s w o = found_row core c s w o g in
    let fs : List Field = fields_from 0 (shape_of (sample_at core c f.row)) f.parts in
    let k : checked_of o ≡ folded check_fine fs = ap checked_of f.operands ∙ check_fold fs (omega (arith, fields_count (shape_of (sample_at core c f.row)) f.parts 0, f.few)) in
    let d : decode_on core w ≡ Some (sample_at core c f.row) = ap (decode_on core) f.word ∙ written_read_on core (sample_at core c f.row) f.valid in
    rw (e, k, d) (settled core c s w o f l (folded check_fine fs) refl)

-- ---- a line that no row has

some_opens : (core : Profile) → Opens core []
some_opens core = let r = some_line (shape_of some) in record { of = some; spelled = refl; begins = record { parts = r.parts; line = r.line; rest = texts r.parts; text = refl } }

-- the column, by the rows of the first byte
pub record Ends (core : Profile) (s : List ℕ) (k : ℕ) : Type 0 where
  pub inside : k ≤ length s
  pub goes : Opens core (take k s)
  pub ends : k < length s → Opens core (take (k + 1) s) → ⊥
  pub none : Has core s → ⊥

-- no row goes on at the column, and none has the line
row_stops : (core : Profile) (c : ℕ) (s t : List ℕ) (k : ℕ) → matches t (samples core c) ≡ true → Ran t (length (samples core c)) 0 0 (c ∷ s) k → (n : ℕ) → n < length (samples core c) → (v : List ℕ) → Begins (shape_of (sample_at core c n)) v → v ≡ take (k + 1) (c ∷ s) → k < length (c ∷ s) → ⊥
row_stops core c s t k r a n l v b e m =
    let y : Stopped t n (c ∷ s) k = a.each n (omega arith) (omega arith) in
    let x : Right t n (sample_at core c n) = right_at (samples core c) t n some r l in
    let p : Begins (pattern_at t n) (take (k + 1) (c ∷ s)) = rw (x.shape, ← e) b in
    line_stuck (pattern_at t n) (c ∷ s) y.column (rw x.shape x.made) y.stops (omega (arith, y.bound))
    (sooner (pattern_at t n) (c ∷ s) (y.column + 1) (k + 1) (omega (arith, y.bound)) (omega arith) p)

no_line : (ps : List Part) (k : ℕ) → all ps ≡ stopped k → ⊥
no_line ps k e = let z : ◌≡◌ {A = ℕ} 0 1 = cc in omega arith

row_none : (core : Profile) (c : ℕ) (s t : List ℕ) (k : ℕ) → matches t (samples core c) ≡ true → Ran t (length (samples core c)) 0 0 (c ∷ s) k → (n : ℕ) → n < length (samples core c) → (ps : List Part) → Line (shape_of (sample_at core c n)) ps → texts ps ≡ c ∷ s → ⊥
row_none core c s t k r a n l ps b e =
    let y : Stopped t n (c ∷ s) k = a.each n (omega arith) (omega arith) in
    let x : Right t n (sample_at core c n) = right_at (samples core c) t n some r l in
    no_line ps y.column (sym (line_complete (shape_of (sample_at core c n)) ps x.made b 0) ∙ (ap (take_line (shape_of (sample_at core c n)) 0) e ∙ (ap (λ (p : List Item). take_line p 0 (c ∷ s)) (sym x.shape) ∙ y.stops)))

taken_first : (c : ℕ) (s : List ℕ) (k : ℕ) → take (k + 1) (c ∷ s) ≡ c ∷ take k s
taken_first c s k = let q : k + 1 ≡ suc k = omega arith in rw q

pub bad_ends : (core : Profile) (c : ℕ) (s : List ℕ) (k : ℕ) → ReadIn (samples core c) (c ∷ s) (no_place k) → Ends core (c ∷ s) k
bad_ends core c s k g =
    let a : Ran g.rows (length (samples core c)) 0 0 (c ∷ s) k = ran (length (samples core c)) 0 0 g.rows (c ∷ s) k (sym g.done) in
    let b : (k ≤ length (c ∷ s)) × Opens core (take k (c ∷ s)) = ⊎_elim (λ z. (omega arith, rw z (some_opens core))) (λ z. begun z) a.top in
    record {
      inside = b.0;
      goes = b.1;
      ends = λ l o.
          let r : InRow core o.of c = in_row core o.of o.begins.parts c (take k s ++ o.begins.rest) o.spelled o.begins.line (o.begins.text ∙ ap (λ (x : List ℕ). x ++ o.begins.rest) (taken_first c s k)) in
          row_stops core c s g.rows k g.right a r.row r.listed (take (k + 1) (c ∷ s)) (subst (λ (x : List Item). Begins x (take (k + 1) (c ∷ s))) r.shape o.begins) refl l;
      none = λ h.
          let r : InRow core h.of c = in_row core h.of h.parts c s h.spelled h.line h.text in
          row_none core c s g.rows k g.right a r.row r.listed h.parts (subst (λ (x : List Item). Line x h.parts) r.shape h.line) h.text;
    }
  where
    begun : Reached g.rows 0 (length (samples core c)) (c ∷ s) k → (k ≤ length (c ∷ s)) × Opens core (take k (c ∷ s))
    begun z =
        let l : z.row < length (samples core c) = omega (arith, z.listed) in
        let x : Right g.rows z.row (sample_at core c z.row) = right_at (samples core c) g.rows z.row some g.right l in
        let r : Cut [] (c ∷ s) 0 k (Begins (pattern_at g.rows z.row)) = subst (LineRead (pattern_at g.rows z.row) 0 (c ∷ s)) z.stops (line_read (pattern_at g.rows z.row) 0 (c ∷ s)) in
        let n : length (c ∷ s) ≡ length r.part + length r.rest = ap length r.split ∙ length-append r.part r.rest in
        let q : k ≡ length r.part = omega (arith, r.column) in
        let p : take k (c ∷ s) ≡ r.part = ap (take k) r.split ∙ take_at r.part r.rest k (sym q) in
        (omega arith, record { of = sample_at core c z.row; spelled = sample_spelled core c z.row l; begins = rw (p, ← x.shape) r.holds })

pub empty_ends : (core : Profile) → Ends core [] 0
empty_ends core = record { inside = omega arith; goes = some_opens core; ends = λ l o. omega arith; none = λ h. no_empty h.of h.parts h.line h.text }

pub short_stops : (core : Profile) (s : List ℕ) (k : ℕ) → length s ≤ 256 → Ends core s k → Stops core s k
short_stops core s k l e = record { inside = e.inside; most = omega (arith, e.inside); goes = e.goes; ends = λ a b o. e.ends a o; none = λ a h. e.none h }

prefix : (s : List ℕ) (k n : ℕ) → k ≤ n → n ≤ length s → take k (take n s) ≡ take k s
prefix s k n l m =
    let z : length (take n s) ≡ n = length-take-le n s m in
    sym (ap (take k) (sym (take-append-drop n s)) ∙ take-append-le k (take n s) (drop n s) (omega arith))

-- a longer line, by its first 256 bytes
pub long_stops : (core : Profile) (s : List ℕ) (k : ℕ) → 256 < length s → Ends core (take 256 s) k → Stops core s k
long_stops core s k l e =
    let z : length (take 256 s) ≡ 256 = length-take-le 256 s (omega arith) in
    let b : k ≤ 256 = omega (arith, e.inside) in
    record {
      inside = omega arith;
      most = b;
      goes = subst (Opens core) (prefix s k 256 b (omega arith)) e.goes;
      ends = λ a c o. e.ends (omega arith) (subst (Opens core) (sym (prefix s (k + 1) 256 (omega arith) (omega arith))) o);
      none = λ a h. omega arith;
    }

pub long_whole : (core : Profile) (s : List ℕ) → 256 < length s → Has core (take 256 s) → Stops core s 256
long_whole core s l h =
    record {
      inside = omega arith;
      most = omega arith;
      goes = record { of = h.of; spelled = h.spelled; begins = record { parts = h.parts; line = h.line; rest = []; text = h.text ∙ sym (append-nil (take 256 s)) } };
      ends = λ a b o. omega arith;
      none = λ a k. omega arith;
    }

-- ---- what the rows of the first byte say

pub placed_bad : (core : Profile) (s : List ℕ) (k : ℕ) → Placed core s (no_place k) → Ends core s k
unfolding Placed
placed_bad core [] k e = rw (bad_same k 0 e) (empty_ends core)
placed_bad core (c ∷ s) k g = bad_ends core c s k g

pub placed_has : (core : Profile) (s : List ℕ) (w : ℕ) (o : Operands) → Placed core s (row_here w o) → Has core s
unfolding Placed
placed_has core [] w o e = let z : ◌≡◌ {A = ℕ} 0 1 = cc in let y : ⊥ = omega arith in absurd y
placed_has core (c ∷ s) w o g = has_found core c s w o (found_row core c s w o g)

pub placed_answer : (core : Profile) (s : List ℕ) (f : Matched) (r : Assembled) → Placed core s (Ok f) → length s ≤ 256 → r ≡ settled_of core (checked_of f.operands) (decode_on core f.word) f.operands → Answer core s r
unfolding Placed
placed_answer core [] f r e l q = let z : ◌≡◌ {A = ℕ} 0 1 = cc in let y : ⊥ = omega arith in absurd y
placed_answer core (c ∷ s) f r g l q = row_answer core c s f.word f.operands r g l q

-- ---- theorems

-- the reading of a line is the only one
pub reading_once : (core : Profile) (s : List ℕ) (h k : Has core s) → (shape_of h.of ≡ shape_of k.of) × (h.parts ≡ k.parts)
reading_once core [] h k = let z : ⊥ = no_empty h.of h.parts h.line h.text in absurd z
reading_once core (c ∷ s) h k =
    let a : InRow core h.of c = in_row core h.of h.parts c s h.spelled h.line h.text in
    let q = only_row core c s a.row h.parts a.listed (rw a.shape at (shape_made h.of)) (subst (λ (x : List Item). Line x h.parts) a.shape h.line) h.text k.of k.parts k.spelled k.line k.text in
    (a.shape ∙ sym q.shape, sym q.reading)

abbrev has : {core : Profile} {s : List ℕ} {i : Instr} → Spells s i → spelled_on core i ≡ true → Has core s
has {i = i} p h = record { of = i; spelled = h; parts = p.parts; line = p.line; text = p.text }

fields_once : (core : Profile) (s : List ℕ) (h k : Has core s) → fields_of h ≡ fields_of k
fields_once core s h k = let q = reading_once core s h k in ap (λ (x : List Item). fields_from 0 x h.parts) q.0 ∙ ap (fields_from 0 (shape_of k.of)) q.1

-- a line is one valid instruction's at most, of either core
pub spelt_once : (s : List ℕ) (i j : Instr) → Spells s i → Spells s j → valid_of i ≡ true → valid_of j ≡ true → i ≡ j
spelt_once [] i j p q v w = let z : ⊥ = no_empty i p.parts p.line p.text in absurd z
spelt_once (c ∷ s) i j p q v w =
    let core : Profile = Profile.Ppe42x in
    let a : InRow core i c = in_row core i p.parts c s (spelled_42x i) p.line p.text in
    let l : Line (shape_of (sample_at core c a.row)) p.parts = subst (λ (x : List Item). Line x p.parts) a.shape p.line in
    let m : well_made (shape_of (sample_at core c a.row)) ≡ true = rw a.shape at (shape_made i) in
    let x = only_row core c s a.row p.parts a.listed m l p.text i p.parts (spelled_42x i) p.line p.text in
    let y = only_row core c s a.row p.parts a.listed m l p.text j q.parts (spelled_42x j) q.line q.text in
    spelt_same i j v w p.rest q.rest (x.sample ∙ sym y.sample) (codes_same (codes (written i)) (codes (written j)) (sym p.fields ∙ (fields_once core (c ∷ s) (has p (spelled_42x i)) (has q (spelled_42x j)) ∙ q.fields)))

sooner_opens : (core : Profile) (s : List ℕ) (j k : ℕ) → j ≤ k → k ≤ length s → Opens core (take k s) → Opens core (take j s)
sooner_opens core s j k l m o = record { of = o.of; spelled = o.spelled; begins = sooner (shape_of o.of) s j k l m o.begins }

column_once : (core : Profile) (s : List ℕ) (j k : ℕ) → Stops core s j → Stops core s k → j ≡ k
column_once core s j k a b =
    split_lt j k
    (λ l. let z : ⊥ = a.ends (omega (arith, b.inside)) (omega (arith, b.most)) (sooner_opens core s (j + 1) k (omega arith) b.inside b.goes) in absurd z)
    (λ l. split_lt k j (λ m. let z : ⊥ = b.ends (omega (arith, a.inside)) (omega (arith, a.most)) (sooner_opens core s (k + 1) j (omega arith) a.inside a.goes) in absurd z) (λ m. omega arith))

spelt_none : (core : Profile) (s : List ℕ) (i : Instr) (p : Spells s i) → spelled_on core i ≡ true → (h : Has core s) → first_off (fields_of h) ≡ none
spelt_none core s i p v h = ap first_off (fields_once core s h (has p v) ∙ p.fields) ∙ codes_none (codes (written i))

at_none : {C : Type 0} (k : ℕ) → at k ≡ none → C
at_none k e = let z : ◌≡◌ {A = ℕ} 0 1 = cc in let y : ⊥ = omega arith in absurd y

pub at_same : (j k : ℕ) → at j ≡ at k → j ≡ k
at_same j k e = cc

-- every line has one answer of a core
pub answer_once : (core : Profile) (s : List ℕ) (q r : Assembled) → Answer core s q → Answer core s r → q ≡ r
answer_once core s q r (accepted i l p v) (accepted j m x w) = ap (λ (z : Instr). Ok (word_of z)) (spelt_once s i j p x (on_valid core i v) (on_valid core j w))
answer_once core s q r (accepted i l p v) (answer_stopped k x) = let z : ⊥ = x.none l (has p (plain_spelled core i p.rest v)) in absurd z
answer_once core s q r (accepted i l p v) (outside k m h e) = at_none k (sym e ∙ spelt_none core s i p (plain_spelled core i p.rest v) h)
answer_once core s q r (accepted i l p v) (invalid m h e n) = let z : ⊥ = n i p v in absurd z
answer_once core s q r (answer_stopped j x) (accepted i l p v) = let z : ⊥ = x.none l (has p (plain_spelled core i p.rest v)) in absurd z
answer_once core s q r (answer_stopped j x) (answer_stopped k y) = ap stopped_at (column_once core s j k x y)
answer_once core s q r (answer_stopped j x) (outside k m h e) = let z : ⊥ = x.none m h in absurd z
answer_once core s q r (answer_stopped j x) (invalid m h e n) = let z : ⊥ = x.none m h in absurd z
answer_once core s q r (outside j l h e) (accepted i m p v) = at_none j (sym e ∙ spelt_none core s i p (plain_spelled core i p.rest v) h)
answer_once core s q r (outside j l h e) (answer_stopped k x) = let z : ⊥ = x.none l h in absurd z
answer_once core s q r (outside j l h e) (outside k m g d) = ap outside_at (at_same j k (sym e ∙ (ap first_off (fields_once core s h g) ∙ d)))
answer_once core s q r (outside j l h e) (invalid m g d n) = at_none j (sym e ∙ (ap first_off (fields_once core s h g) ∙ d))
answer_once core s q r (invalid l h e n) (accepted i m p v) = let z : ⊥ = n i p v in absurd z
answer_once core s q r (invalid l h e n) (answer_stopped k x) = let z : ⊥ = x.none l h in absurd z
answer_once core s q r (invalid l h e n) (outside k m g d) = at_none k (sym d ∙ (ap first_off (fields_once core s g h) ∙ e))
answer_once core s q r (invalid l h e n) (invalid m g d u) = refl

-- a line of up to 256 bytes that is a valid instruction's is answered with its word
pub spelt_accepted : (core : Profile) (s : List ℕ) (i : Instr) (r : Assembled) → length s ≤ 256 → Spells s i → valid_on core i ≡ true → Answer core s r → r ≡ Ok (word_of i)
spelt_accepted core s i r l p v a = answer_once core s r _ a (accepted i l p v)

-- the line that is written for an instruction is that instruction's
pub line_spells : (i : Instr) → valid_of i ≡ true → plain i ≡ true → Spells (line_of i) i
line_spells i v p = let r = line_back i v in record { parts = r.parts; line = r.line; text = r.text; fields = r.fields; rest = p }

pub line_assembles : (core : Profile) (i : Instr) (r : Assembled) → valid_on core i ≡ true → plain i ≡ true → Answer core (line_of i) r → r ≡ Ok (word_of i)
line_assembles core i r v p a = spelt_accepted core (line_of i) i r (omega (arith, line_length i)) (line_spells i (on_valid core i v) p) v a
