-- What a step would do: the six lines in their order (machine/specs/Step), and the number of each answer in include/ppe42.h.
use Rattle.std.specs.Prelude.{ℕ, List, eqb, Option, Some, None}
use Rattle.word.specs.Bits.{bit_at}
use Rattle.memory.specs.Access.{pick}
use Rattle.insn.specs.declared.profile.Profile.{Profile}
use Rattle.machine.specs.Timer.{ticked_of, acts_of}
use Rattle.machine.specs.Step.{highest_of}
use Rattle.machine.specs.declared.state.State.{State}
use Rattle.machine.specs.declared.interrupt.Cause.{Cause}
use Rattle.machine.specs.declared.interrupt.Vector.{Vector}
use Rattle.tell.specs.Fault.{raised_of}
use Rattle.tell.specs.declared.told.Told.{Told}

-- line 6: the instruction at IAR, or the interrupt that it raises
abbrev pub running_told : Option Cause → Told
running_told None = Told.Executes
running_told (Some c) = Told.Faults c

-- line 4, an asynchronous interrupt, then line 5, MSR[WE] (13)
abbrev pub interruptible_told : Profile → State → List ℕ → Option Vector → Told
interruptible_told p s m (Some v) = Told.Takes v
interruptible_told p s m None = pick (bit_at s.msr 13) Told.Waits (running_told (raised_of p s m))

-- line 1, halted; line 2, the events; line 3, the watchdog's action
unfoldable pub told_of : Profile → State → List ℕ → ℕ → Told
told_of p s m e =
    let t = ticked_of s e in
    pick (eqb s.halt 0) (pick (acts_of s e) Told.Acts (interruptible_told p t m (highest_of t e))) Told.Halted

-- no step takes one of the last five
abbrev pub vector_code : Vector → ℕ
vector_code Vector.External = 4
vector_code Vector.Decrementer = 5
vector_code Vector.FixedInterval = 6
vector_code Vector.Watchdog = 7
vector_code Vector.MachineCheck = 0
vector_code Vector.DataStorage = 0
vector_code Vector.InstructionStorage = 0
vector_code Vector.Alignment = 0
vector_code Vector.Program = 0

abbrev pub cause_code : Cause → ℕ
cause_code (Cause.DataStorage a store) = 8
cause_code Cause.InstructionStorage = 9
cause_code (Cause.Alignment a store) = 10
cause_code (Cause.Program w trap) = pick trap 12 11

abbrev pub code_of : Told → ℕ
code_of Told.Halted = 0
code_of Told.Acts = 3
code_of (Told.Takes v) = vector_code v
code_of Told.Waits = 2
code_of Told.Executes = 1
code_of (Told.Faults c) = cause_code c
