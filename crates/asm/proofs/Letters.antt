-- What the rows of a letter give: an instruction's line printed, and what is answered for a line.
use Prim.Native.Nat.{ℕ, ◌≤◌, ◌<◌}
use native.Mathlib.Omega.{arith}
use mathlib.Core.Path.{◌≡◌, refl, sym, ap, ◌∙◌}
use mathlib.Core.Bool.{Bool, not}
use mathlib.Core.List.{List, [], ◌∷◌}
use borrow.Author.Tests.{le-ltb}
use lib.ListN.{length, get_or, take}
use Rattle.std.specs.Prelude.{Option, Some, Ok, Err}
use Rattle.insn.specs.declared.profile.Profile.{Profile}
use Rattle.insn.specs.declared.instr.Instr.{Instr}
use lib.Seq.{sets}
use Rattle.syntax.specs.Syntax.{shape_of, plain}
use Rattle.syntax.specs.LineOf.{line_of}
use Rattle.asm.specs.Listing.{Listed, listed_of, listed_out}
use Rattle.asm.specs.Answer.{stopped_at, Answer, stopped as answer_stopped}
use Rattle.syntax.specs.Rows.{samples, sample_of, row_of}
use Rattle.asm.specs.Operands.{queue_of}
use Rattle.syntax.specs.Inside.{Queue, Place, ReadIn, PrintedIn, pattern_at, printed}
use Rattle.asm.specs.Inside.{Placed}
use Rattle.syntax.specs.declared.row.Row.{Row}
use Rattle.syntax.proofs.Rows.{no_place, right_at}
use Rattle.syntax.proofs.Groups.{some}
use Rattle.syntax.proofs.Spelled.{spelled_42x}
use Rattle.syntax.proofs.Samples.{sample_at_lem, sample_shape, row_in}
use Rattle.expr.specs.declared.Stuck.{Stuck}
use Rattle.syntax.specs.declared.table.Found.{Found}
use Rattle.asm.specs.declared.assemble.Refused.{Refused}
use Rattle.asm.proofs.Printing.{line_printed}
use Rattle.asm.proofs.Answers.{short_stops, long_stops, long_whole, placed_bad, placed_has}

-- ---- a row printed

-- the row of an instruction, printed with its operands, is its line
pub line_listed_lem : (i : Instr) (row : Row) (q : Queue) (n : ℕ) (before after : List ℕ) → row ≡ row_of i → q ≡ queue_of i → PrintedIn (samples Profile.Ppe42x row.letter) row.row q before after n → (n ≡ length (line_of i)) × (after ≡ sets before 0 (line_of i))
line_listed_lem i row q n before after e f w =
    let l : row.row < length (samples Profile.Ppe42x row.letter) = rw e (row_in Profile.Ppe42x i (spelled_42x i)) in
    let r = right_at (samples Profile.Ppe42x row.letter) w.rows row.row some w.right l in
    let a : get_or (samples Profile.Ppe42x row.letter) row.row some ≡ sample_of i = rw e (sample_at_lem Profile.Ppe42x i some (spelled_42x i)) in
    let p : pattern_at w.rows row.row ≡ shape_of i = r.shape ∙ (ap shape_of a ∙ sym (sample_shape i)) in
    let t : printed (pattern_at w.rows row.row) q ≡ line_of i = rw (p, f) (sym (line_printed i)) in
    (w.bytes ∙ ap length t, w.out ∙ ap (sets before 0) t)

pub listed_as : (i : Instr) (row : Row) (q : Queue) (n : ℕ) (b : Bool) (d : Option Instr) (before after : List ℕ) → 64 ≤ length before → d ≡ Some i → row ≡ row_of i → q ≡ queue_of i → PrintedIn (samples Profile.Ppe42x row.letter) row.row q before after n → b ≡ plain i → (◌≡◌ {A = Listed} (Ok (record { bytes = n; more = not b })) (listed_of d before)) × (after ≡ listed_out d before)
listed_as i row q n b d before after l e f g w p =
    let r = line_listed_lem i row q n before after f g w in
    rw (le-ltb (length before) 64 l, e, p) (ap (λ (m : ℕ). Ok (record { bytes = m; more = not (plain i) })) r.0, r.1)

pub row_fits : (i : Instr) (d : Option Instr) (row : Row) → d ≡ Some i → row ≡ row_of i → row.row < length (samples Profile.Ppe42x row.letter)
row_fits i d row k e = rw e (row_in Profile.Ppe42x i (spelled_42x i))

-- ---- the first byte of a line

pub placed_empty : (p : Profile) (s : List ℕ) → length s ≡ 0 → Placed p s (no_place 0)
unfolding Placed
placed_empty p [] e = refl
placed_empty p (c ∷ s) e = let z : ⊥ = omega arith in absurd z

pub placed_read : (p : Profile) (s : List ℕ) (c : ℕ) (r : Place) → 0 < length s → c ≡ get_or s 0 0 → ReadIn (samples p c) s r → Placed p s r
unfolding Placed
placed_read p [] c r l e w = let z : ⊥ = omega arith in absurd z
placed_read p (a ∷ s) c r l e w = rw e at w

-- ---- what is answered

pub short_bad : (p : Profile) (s : List ℕ) (k : Stuck) → length s ≤ 256 → Placed p s (Err k) → Answer p s (Err (Refused.Grammar k))
short_bad p s k l h = answer_stopped k.column (short_stops p s k.column l (placed_bad p s k.column h))

pub long_bad : (p : Profile) (s : List ℕ) (k : Stuck) → 256 < length s → Placed p (take 256 s) (Err k) → Answer p s (Err (Refused.Grammar k))
long_bad p s k l h = answer_stopped k.column (long_stops p s k.column l (placed_bad p (take 256 s) k.column h))

pub long_row : (p : Profile) (s : List ℕ) (f : Found) → 256 < length s → Placed p (take 256 s) (Ok f) → Answer p s (stopped_at 256)
long_row p s f l h = answer_stopped 256 (long_whole p s l (placed_has p (take 256 s) f.word f.operands h))
