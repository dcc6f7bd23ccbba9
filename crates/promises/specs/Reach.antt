-- What a step reads and writes: the bytes of lent memory that its fetch and its data access, or those of its stack frame, touch.
use Rattle.std.specs.Prelude.{ℕ, ◌+◌, ◌<◌, ◌≤◌, List, [], ◌∷◌, ◌++◌, ◌≡◌, ◌⊎◌, length, get_or, None, Ok, Err, Some, Option}
use Rattle.memory.specs.Access.{Access, pick, aligned_of, access_of, fetch_access_of}
use Rattle.memory.specs.Load.{fetch_of}
use Rattle.insn.specs.declared.instr.StackOp.{StackOp}
use Rattle.insn.specs.declared.profile.Profile.{Profile}
use Rattle.machine.specs.After.{After}
use Rattle.machine.specs.Stack.{Part, address_of, size_of, parts_of}
use Rattle.machine.specs.Timer.{ticked_of}
use Rattle.machine.specs.declared.state.State.{State}
use Rattle.tell.specs.Uses.{fetched_use, executes}
use Rattle.tell.specs.declared.uses.Use.{Use}

-- some bytes from an address on
pub record Span : Type 0 where
  pub at : ℕ
  pub size : ℕ

-- an access that is not served touches nothing
abbrev pub touched : Access → ℕ → ℕ → List Span
touched (Ok tt) a n = record { at = a; size = n } ∷ []
touched (Err f) a n = []

abbrev pub touched_at : List ℕ → ℕ → ℕ → List Span
touched_at m a n = touched (access_of (length m) a n) a n

abbrev pub fetched_at : List ℕ → ℕ → List Span
fetched_at m a = touched (fetch_access_of (length m) a) a 4

-- the accesses of a frame, and those of them that were served: all before the first that was not
abbrev pub span_of : Part → Span
span_of x = record { at = address_of x; size = size_of x }

unfoldable pub spans_of : List Part → List Span
spans_of [] = []
spans_of (x ∷ xs) = span_of x ∷ spans_of xs

abbrev pub while_served : Access → Span → List Span → List Span
while_served (Ok tt) x xs = x ∷ xs
while_served (Err f) x xs = []

unfoldable pub served_of : ℕ → List Part → List Span
served_of len [] = []
served_of len (x ∷ xs) = while_served (access_of len (address_of x) (size_of x)) (span_of x) (served_of len xs)

-- none is tried where (RA) is not doubleword-aligned (9.4.45, 9.4.89)
abbrev pub frame_spans : ℕ → StackOp → ℕ → ℕ → ℕ → List Span
frame_spans len op sp ea n = pick (aligned_of sp 8) (served_of len (parts_of op sp ea n)) []

abbrev pub read_by : List ℕ → Option Use → List Span
read_by m None = []
read_by m (Some (Use.Reads a n)) = touched_at m a n
read_by m (Some (Use.Writes a n)) = []
read_by m (Some (Use.Pops sp ea n)) = frame_spans (length m) StackOp.Lsku sp ea n
read_by m (Some (Use.Pushes sp ea n)) = []

abbrev pub written_by : List ℕ → Option Use → List Span
written_by m None = []
written_by m (Some (Use.Reads a n)) = []
written_by m (Some (Use.Writes a n)) = touched_at m a n
written_by m (Some (Use.Pops sp ea n)) = []
written_by m (Some (Use.Pushes sp ea n)) = frame_spans (length m) StackOp.Stsku sp ea n

-- line 6: the fetch, then what the instruction reads
unfoldable pub running_reads : Profile → State → List ℕ → List Span
running_reads p s m = fetched_at m s.iar ++ read_by m (fetched_use p s (fetch_of m s.iar))

unfoldable pub running_writes : Profile → State → List ℕ → List Span
running_writes p s m = written_by m (fetched_use p s (fetch_of m s.iar))

unfoldable pub reads_of : Profile → State → List ℕ → ℕ → List Span
reads_of p s m e = pick (executes s e) (running_reads p (ticked_of s e) m) []

unfoldable pub writes_of : Profile → State → List ℕ → ℕ → List Span
writes_of p s m e = pick (executes s e) (running_writes p (ticked_of s e) m) []

-- every span lies within n bytes
abbrev pub Inside : ℕ → List Span → Type 0
Inside n [] = Unit {0}
Inside n (x ∷ xs) = (x.at + x.size ≤ n) × Inside n xs

-- an address lies in none of the spans
abbrev pub Misses : ℕ → List Span → Type 0
Misses a [] = Unit {0}
Misses a (x ∷ xs) = ((a < x.at) ⊎ (x.at + x.size ≤ a)) × Misses a xs

-- two memories have the same bytes in the spans
abbrev pub Agree : List ℕ → List ℕ → List Span → Type 0
Agree m n [] = Unit {0}
Agree m n (x ∷ xs) = ((k : ℕ) → k < x.size → get_or n (x.at + k) 0 ≡ get_or m (x.at + k) 0) × Agree m n xs

-- two steps did the same, one writing the spans xs and the other ys: they left one state, both reached past the memory or neither did, and they wrote the same bytes at the same places
pub record Alike (xs ys : List Span) (a b : After) : Type 0 where
  pub st : b.st ≡ a.st
  pub past : b.past ≡ a.past
  pub places : ys ≡ xs
  pub written : Agree a.mem b.mem xs
