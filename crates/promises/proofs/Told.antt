-- What is told of a step is what the step does, and the access that is told is all that it writes. Assumes nothing.
use Rattle.std.specs.Prelude.{Some, None, Option, Ok, Err}
use Prim.Native.Nat.{ℕ, ◌+◌, ◌<◌, ◌≤◌}
use mathlib.Core.Bool.{Bool, true, false, ◌&&◌}
use mathlib.Core.List.{List, [], ◌∷◌}
use mathlib.Core.Path.{◌≡◌, refl}
use mathlib.Core.Logic.{◌⊎◌}
use lib.Dec.{eqb, lit≤}
use lib.ListN.{length}
use lib.Seq.{ext_get_or}
use Rattle.word.specs.Bits.{bit_at}
use Rattle.memory.specs.Access.{Access, pick, aligned_of, access_of}
use Rattle.memory.specs.Load.{fetch_of}
use Rattle.insn.specs.declared.instr.StackOp.{StackOp}
use Rattle.insn.specs.declared.profile.Profile.{Profile}
use Rattle.machine.specs.After.{plain}
use Rattle.machine.specs.Stack.{Part, address_of, size_of, parts_of}
use Rattle.machine.specs.Timer.{external_in, ticked_of, acts_of, acted_of}
use Rattle.machine.specs.Step.{running_of, awake_of, highest_of, interruptible_of, counted_of, step_of}
use Rattle.machine.specs.declared.state.State.{State}
use Rattle.machine.specs.declared.interrupt.Vector.{Vector}
use Rattle.tell.specs.Fault.{raised_of}
use Rattle.tell.specs.Uses.{fetched_use, executes, use_of}
use Rattle.tell.specs.Told.{running_told, interruptible_told, told_of, vector_code}
use Rattle.machine.specs.declared.interrupt.Cause.{Cause}
use Rattle.tell.specs.declared.told.Told.{Told}
use Rattle.tell.specs.declared.uses.Use.{Use}
use Rattle.promises.specs.Reach.{touched, span_of, spans_of, while_served, served_of, written_by, running_writes, writes_of, Misses}
use Rattle.promises.specs.Told.{Does, Spares}
use Rattle.promises.proofs.Sound.{picked}
use Rattle.promises.proofs.Accepted.{step_length}
use Rattle.promises.proofs.Faults.{running_faults}
use Rattle.promises.proofs.Reaches.{writes_only}

module _ (p : Profile) (s : State) (m : List ℕ) (e : ℕ) where
  running_does : (r : Option Cause) → raised_of p (ticked_of s e) m ≡ r → Does p s m e (running_told r) (running_of p (ticked_of s e) m)
  running_does None q = (refl, q)
  running_does (Some c) q = running_faults p (ticked_of s e) m c q

  awake_does : (w : Bool) → Does p s m e (pick w Told.Waits (running_told (raised_of p (ticked_of s e) m))) (pick w (plain (ticked_of s e) m) (running_of p (ticked_of s e) m))
  awake_does true = refl
  awake_does false = running_does (raised_of p (ticked_of s e) m) refl

  interruptible_does : (k : Option Vector) → Does p s m e (interruptible_told p (ticked_of s e) m k) (interruptible_of p (ticked_of s e) m k)
  unfolding awake_of
  interruptible_does (Some v) = refl
  interruptible_does None = awake_does (bit_at (ticked_of s e).msr 13)

  acts_does : (a : Bool) (k : Option Vector)
      → Does p s m e (pick a Told.Acts (interruptible_told p (ticked_of s e) m k)) (pick a (plain (acted_of (ticked_of s e)) m) (interruptible_of p (ticked_of s e) m k))
  acts_does true k = refl
  acts_does false k = interruptible_does k

  halt_does : (h a : Bool) (k : Option Vector)
      → Does p s m e (pick h (pick a Told.Acts (interruptible_told p (ticked_of s e) m k)) Told.Halted)
      (pick h (pick a (plain (acted_of (ticked_of s e)) m) (interruptible_of p (ticked_of s e) m k)) (plain s m))
  halt_does true a k = acts_does a k
  halt_does false a k = refl

  -- what is told is what the step does
  pub told_true : Does p s m e (told_of p s m e) (step_of p s m e)
  unfolding told_of step_of counted_of
  told_true = halt_does (eqb s.halt 0) (acts_of s e) (highest_of (ticked_of s e) e)

  -- what is written is what is told to be written
  written_told : (b : Bool) (u : Option Use) → pick b (written_by m u) [] ≡ written_by m (pick b u None)
  written_told true u = refl
  written_told false u = refl

  writes_told : writes_of p s m e ≡ written_by m (use_of p s m e)
  unfolding writes_of use_of running_writes
  writes_told = written_told (executes s e) (fetched_use p (ticked_of s e) (fetch_of m (ticked_of s e).iar))

  misses_told : (i a n : ℕ) (k : Access) → (i < a) ⊎ (a + n ≤ i) → Misses i (touched k a n)
  misses_told i a n (Ok tt) h = (h, tt)
  misses_told i a n (Err f) h = tt

  -- what is outside all accesses of a frame is outside those that were served
  misses_served : (i len : ℕ) (xs : List Part) → Misses i (spans_of xs) → Misses i (served_of len xs)
  unfolding spans_of served_of
  misses_served i len [] h = tt
  misses_served i len (x ∷ xs) h = go (access_of len (address_of x) (size_of x)) (misses_served i len xs h.1)
    where
      go : (k : Access) → Misses i (served_of len xs) → Misses i (while_served k (span_of x) (served_of len xs))
      go (Ok tt) q = (h.0, q)
      go (Err f) q = tt

  misses_frame : (i len : ℕ) (b : Bool) (xs : List Part) → Misses i (spans_of xs) → Misses i (pick b (served_of len xs) [])
  misses_frame i len true xs h = misses_served i len xs h
  misses_frame i len false xs h = tt

  same : ((i : ℕ) → Misses i (writes_of p s m e)) → (step_of p s m e).mem ≡ m
  same h = ext_get_or 0 (step_of p s m e).mem m (step_length p s m e) (λ i l. writes_only p s m e i (h i))

  spares_cases : (u : Option Use) → writes_of p s m e ≡ written_by m u → Spares m u (step_of p s m e).mem
  spares_cases None q = same (λ i. rw q tt)
  spares_cases (Some (Use.Reads a n)) q = same (λ i. rw q tt)
  spares_cases (Some (Use.Writes a n)) q = λ i h. writes_only p s m e i (rw q (misses_told i a n (access_of (length m) a n) h))
  spares_cases (Some (Use.Pops sp ea n)) q = same (λ i. rw q tt)
  spares_cases (Some (Use.Pushes sp ea n)) q = λ i h. writes_only p s m e i (rw q (misses_frame i (length m) (aligned_of sp 8) (parts_of StackOp.Stsku sp ea n) h))

  -- a step changes no byte outside the access that is told, and none where that does not write
  pub use_true : Spares m (use_of p s m e) (step_of p s m e).mem
  use_true = spares_cases (use_of p s m e) writes_told

-- ---- the interrupts that a step takes have codes of their own

abbrev pub Asynchronous : Option Vector → Type 0
Asynchronous (Some v) = 4 ≤ vector_code v
Asynchronous None = Unit {0}

abbrev Coded : Told → Type 0
Coded Told.Halted = Unit {0}
Coded Told.Acts = Unit {0}
Coded (Told.Takes v) = 4 ≤ vector_code v
Coded Told.Waits = Unit {0}
Coded Told.Executes = Unit {0}
Coded (Told.Faults c) = Unit {0}

pub highest_asynchronous : (s : State) (e : ℕ) → Asynchronous (highest_of s e)
unfolding highest_of
highest_asynchronous s e =
    picked Asynchronous (bit_at s.msr 16)
    (picked Asynchronous (bit_at s.tcr 4 && bit_at s.tsr 1) (lit≤ tt)
    (picked Asynchronous (external_in e) (lit≤ tt)
    (picked Asynchronous (bit_at s.tcr 8 && bit_at s.tsr 5) (lit≤ tt) (picked Asynchronous (bit_at s.tcr 5 && bit_at s.tsr 4) (lit≤ tt) tt))))
    tt

running_coded : (r : Option Cause) → Coded (running_told r)
running_coded None = tt
running_coded (Some c) = tt

interruptible_coded : (p : Profile) (s : State) (m : List ℕ) (k : Option Vector) → Asynchronous k → Coded (interruptible_told p s m k)
interruptible_coded p s m (Some v) h = h
interruptible_coded p s m None h = picked Coded (bit_at s.msr 13) tt (running_coded (raised_of p s m))

told_coded : (p : Profile) (s : State) (m : List ℕ) (e : ℕ) → Coded (told_of p s m e)
unfolding told_of
told_coded p s m e =
    let t = ticked_of s e in
    picked Coded (eqb s.halt 0) (picked Coded (acts_of s e) tt (interruptible_coded p t m (highest_of t e) (highest_asynchronous t e))) tt

-- so the 0 that stands for a halted core stands for no interrupt
pub takes_coded : (p : Profile) (s : State) (m : List ℕ) (e : ℕ) (v : Vector) → told_of p s m e ≡ Told.Takes v → 4 ≤ vector_code v
takes_coded p s m e v q = rw q at (told_coded p s m e)
