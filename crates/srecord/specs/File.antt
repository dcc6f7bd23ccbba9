-- What a file means: the first line that is refused, or the memory that its records give (C-15; docs/DECISIONS.md D43).
use Rattle.std.specs.Prelude.{ℕ, zero, suc, ◌+◌, Bool, true, false, not, ◌||◌, List, [], ◌∷◌, ◌++◌, leb, eqb, length, Option, Some, None, Result, Ok, Err, is_ok}
use Rattle.std.specs.Result.{result_and}
use Rattle.std.proofs.lemmas.List.Edits.{sets}
use Rattle.memory.specs.Access.{pick, sized_of}
use Rattle.machine.specs.Refusal.{Checked, unless}
use Rattle.machine.specs.declared.refusal.Refusal.{Refusal}
use Rattle.srecord.specs.Record.{Line, malformed, holds, is_data, is_end, lines_of, record_of}
use Rattle.srecord.specs.declared.check.Rejected.{Rejected}

-- n addresses from a on
unfoldable pub places : ℕ → ℕ → List ℕ
places a zero = []
places a (suc n) = a ∷ places (suc a) n

-- an address is among others
unfoldable pub is_in : ℕ → List ℕ → Bool
is_in x [] = false
is_in x (y ∷ ys) = eqb x y || is_in x ys

-- one of some is
unfoldable pub any_in : List ℕ → List ℕ → Bool
any_in [] ys = false
any_in (x ∷ xs) ys = is_in x ys || any_in xs ys

-- what the lines so far were: the type of their data records, if there were any, how many there were, the addresses that they
-- named, and whether the last line was an end record
pub record Seen : Type 0 where
  pub kind : Option ℕ
  pub count : ℕ
  pub named : List ℕ
  pub ended : Bool

abbrev pub start : Seen
start = record { kind = None; count = 0; named = []; ended = false }

-- data of type t may follow
abbrev pub same_kind : Option ℕ → ℕ → Bool
same_kind None t = true
same_kind (Some k) t = eqb k t

-- an end of type t may follow: S9 for S1, S8 for S2, S7 for S3; with no data any
abbrev pub ends_kind : Option ℕ → ℕ → Bool
ends_kind None t = true
ends_kind (Some k) t = eqb (k + t) 10

-- n bytes of type t from address a on, in m bytes of memory: 13 of another type, 14 outside, 15 named before
unfoldable pub check_data : ℕ → Seen → ℕ → ℕ → ℕ → Checked
check_data m s t a n =
    result_and (unless (same_kind s.kind t) Refusal.Record)
    (result_and (unless (eqb n 0 || leb (a + n) m) Refusal.Outside) (unless (not (any_in (places a n) s.named)) Refusal.Twice))

-- 16 unless the end fits the data
unfoldable pub check_end : Seen → ℕ → Checked
check_end s t = unless (ends_kind s.kind t) Refusal.End

-- 17 unless an S5 counts the data records before it
unfoldable pub check_count : Seen → ℕ → Checked
check_count s a = unless (eqb a s.count) Refusal.Count

-- a record of type t with n bytes of data: 13 after the end record; then what its type asks
unfoldable pub check_record : ℕ → Seen → ℕ → ℕ → ℕ → Checked
check_record m s t a n =
    result_and (unless (not s.ended) Refusal.Record)
    (pick (is_data t) (check_data m s t a n) (pick (is_end t) (check_end s t) (pick (eqb t 5) (check_count s a) (Ok tt))))

-- 13 for a line that holds no record
unfoldable pub check_line : ℕ → Seen → Line → Checked
check_line m s malformed = Err Refusal.Record
check_line m s (holds t a d) = check_record m s t a (length d)

-- what was seen once a record was, too
unfoldable pub after : Seen → ℕ → ℕ → ℕ → Seen
after s t a n =
    record {
      kind = pick (is_data t) (Some t) s.kind;
      count = pick (is_data t) (s.count + 1) s.count;
      named = pick (is_data t) (places a n ++ s.named) s.named;
      ended = is_end t;
    }

unfoldable pub after_line : Seen → Line → Seen
after_line s malformed = s
after_line s (holds t a d) = after s t a (length d)

-- what is answered of a file: the refusal and the line that it is given for, if it is refused
abbrev pub Verdict : Type 0
Verdict = Result (Unit {0}) Rejected

-- line k is refused
abbrev pub refused_at : ℕ → Refusal → Verdict
refused_at k r = Err (record { refusal = r; line = k })

-- nothing is refused
abbrev pub good : Verdict
good = Ok tt

-- a check of line k
abbrev pub at_line : ℕ → Checked → Verdict
at_line k (Ok u) = good
at_line k (Err r) = refused_at k r

-- of the lines from the k-th on, the first that is refused; a missing end counts as the line after the last
unfoldable pub verdict : ℕ → Seen → ℕ → List (List ℕ) → Verdict
verdict m s k [] = pick s.ended good (refused_at k Refusal.End)
verdict m s k (l ∷ ls) =
    let v = verdict m (after_line s (record_of l)) (k + 1) ls in
    result_and (at_line k (check_line m s (record_of l))) v

-- memory with a data record's bytes at their addresses
unfoldable pub put : List ℕ → Line → List ℕ
put m malformed = m
put m (holds t a d) = pick (is_data t) (sets m a d) m

-- and with those of all lines, one after the other
unfoldable pub placed : List ℕ → List (List ℕ) → List ℕ
placed m [] = m
placed m (l ∷ ls) = let r = placed (put m (record_of l)) ls in r

-- reading into m bytes of memory checks 1, then the lines, which are counted from 1
unfoldable pub read_of : ℕ → List ℕ → Verdict
read_of m f = pick (sized_of m) (verdict m start 1 (lines_of f)) (refused_at 0 Refusal.Memory)

-- the memory after it; refused, as it was
unfoldable pub memory_of : List ℕ → List ℕ → List ℕ
memory_of m f = pick (is_ok (read_of (length m) f)) (placed m (lines_of f)) m
