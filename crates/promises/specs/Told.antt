-- What is told of a step, held against the step.
use Rattle.std.specs.Prelude.{ℕ, ◌+◌, ◌<◌, ◌≤◌, List, ◌≡◌, ◌⊎◌, get_or, None, Some, Option}
use Rattle.insn.specs.declared.instr.StackOp.{StackOp}
use Rattle.insn.specs.declared.profile.Profile.{Profile}
use Rattle.machine.specs.After.{After, plain}
use Rattle.machine.specs.Interrupt.{entered_of}
use Rattle.machine.specs.Stack.{parts_of}
use Rattle.machine.specs.Timer.{ticked_of, acted_of}
use Rattle.machine.specs.Step.{running_of}
use Rattle.machine.specs.declared.state.State.{State}
use Rattle.tell.specs.Fault.{raised_of}
use Rattle.tell.specs.declared.told.Told.{Told}
use Rattle.tell.specs.declared.uses.Use.{Use}
use Rattle.promises.specs.Fault.{faulted, running_before}
use Rattle.promises.specs.Reach.{Misses, spans_of}

-- what a step leaves of which this was told
abbrev pub Does : Profile → State → List ℕ → ℕ → Told → After → Type 0
Does p s m e Told.Halted a = a ≡ plain s m
Does p s m e Told.Acts a = a ≡ plain (acted_of (ticked_of s e)) m
Does p s m e (Told.Takes v) a = a ≡ plain (entered_of p (ticked_of s e) v) m
Does p s m e Told.Waits a = a ≡ plain (ticked_of s e) m
Does p s m e Told.Executes a = (a ≡ running_of p (ticked_of s e) m) × (raised_of p (ticked_of s e) m ≡ None)
Does p s m e (Told.Faults c) a = (let b = running_before p (ticked_of s e) m in faulted p b.st b.mem c a)

-- what a step may do to the memory m of which this access was told: only one that writes changes it, and no byte outside of what is told
abbrev pub Spares : List ℕ → Option Use → List ℕ → Type 0
Spares m None n = n ≡ m
Spares m (Some (Use.Reads a k)) n = n ≡ m
Spares m (Some (Use.Writes a k)) n = (i : ℕ) → (i < a) ⊎ (a + k ≤ i) → get_or n i 0 ≡ get_or m i 0
Spares m (Some (Use.Pops sp ea k)) n = n ≡ m
Spares m (Some (Use.Pushes sp ea k)) n = (i : ℕ) → Misses i (spans_of (parts_of StackOp.Stsku sp ea k)) → get_or n i 0 ≡ get_or m i 0
