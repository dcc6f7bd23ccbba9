-- A step is its lines 2 to 5 and then line 6 on what is read at IAR. Assumes nothing.
use Rattle.std.specs.Prelude.{Some, None, Option, Ok, Err}
use Prim.Native.Nat.{ℕ}
use mathlib.Core.Bool.{Bool, true, false, not}
use mathlib.Core.Path.{◌≡◌, refl, ◌∙◌}
use mathlib.Core.List.{List}
use borrow.Author.Tests.{eq-eqb}
use Rattle.word.specs.Bits.{bit_at}
use Rattle.memory.specs.Access.{pick}
use Rattle.memory.specs.Load.{Loaded, fetch_of}
use Rattle.memory.specs.declared.access.Fault.{Fault}
use Rattle.insn.specs.declared.profile.Profile.{Profile}
use Rattle.machine.specs.After.{After, plain}
use Rattle.machine.specs.Timer.{ticked_of, acts_of}
use Rattle.machine.specs.Step.{fetched_of, running_of, awake_of, highest_of, interruptible_of, counted_of, step_of}
use Rattle.machine.specs.declared.state.State.{State}
use Rattle.machine.specs.declared.interrupt.Vector.{Vector}
use Rattle.reading.specs.Form.{made_of}
use Rattle.reading.specs.Reading.{reading_in, reading_of}
use Rattle.reading.specs.declared.reading.Reading.{Reading}
use Rattle.reading.proofs.Made.{made_read}
use Rattle.perform.specs.Performed.{performed_of}
use Rattle.ready.specs.Ready.{awaited_of, ready_of}
use Rattle.ready.specs.declared.lines.Ready.{Ready}

-- a reading carried out
abbrev pub performed : Profile → State → List ℕ → Reading → After
performed p s m r = performed_of p s m r.word r.form

fetched_is : (p : Profile) (s : State) (m : List ℕ) (got : Loaded) → fetched_of p s m got ≡ performed p s m (reading_in p got)
unfolding performed_of made_of
fetched_is p s m (Ok w) = rw (made_read p w)
fetched_is p s m (Err Fault.Unaligned) = refl
fetched_is p s m (Err Fault.Outside) = refl

running_is : (p : Profile) (s : State) (m : List ℕ) → running_of p s m ≡ performed p s m (reading_of p m s.iar)
unfolding running_of reading_of
running_is p s m = fetched_is p s m (fetch_of m s.iar)

-- the rest of a step, by whether line 6 comes
abbrev rest : Profile → List ℕ → Ready → After
rest p m r = pick r.runs (running_of p r.state m) (plain r.state m)

awake_is : (p : Profile) (s : State) (m : List ℕ) (b : Bool) → pick b (plain s m) (running_of p s m) ≡ pick (not b) (running_of p s m) (plain s m)
awake_is p s m true = refl
awake_is p s m false = refl

pending_is : (p : Profile) (s : State) (m : List ℕ) (x : Option Vector) → interruptible_of p s m x ≡ rest p m (awaited_of p s x)
unfolding awake_of
pending_is p s m (Some v) = refl
pending_is p s m None = awake_is p s m (bit_at s.msr 13)

counted_is : (p : Profile) (s : State) (m : List ℕ) (e : ℕ) (b : Bool) → acts_of s e ≡ b → counted_of p s m e ≡ rest p m (ready_of p s e)
unfolding counted_of ready_of
counted_is p s m e true h = rw h refl
counted_is p s m e false h = rw h (pending_is p (ticked_of s e) m (highest_of (ticked_of s e) e))

step_is : (p : Profile) (s : State) (m : List ℕ) (e : ℕ) → s.halt ≡ 0 → step_of p s m e ≡ rest p m (ready_of p s e)
unfolding step_of
step_is p s m e z = rw (eq-eqb s.halt 0 z) (counted_is p s m e (acts_of s e) refl)

-- a step in which line 6 does not come, and one in which it does
module _ (p : Profile) (s : State) (m : List ℕ) (e : ℕ) (z : s.halt ≡ 0) (r : Ready) (q : r ≡ ready_of p s e) where
  pub idle : r.runs ≡ false → step_of p s m e ≡ plain r.state m
  idle h = step_is p s m e z ∙ rw (← q, h) refl

  pub busy : r.runs ≡ true → step_of p s m e ≡ performed p r.state m (reading_of p m r.state.iar)
  busy h = step_is p s m e z ∙ (rw (← q, h) (running_is p r.state m))
