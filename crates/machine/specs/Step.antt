-- One step: the six lines in their order. Lines 2 and 3 are in Timer.
use Rattle.std.specs.Prelude.{ℕ, false, ◌&&◌, List, eqb, Option, Some, None, Ok, Err}
use Rattle.word.specs.Bits.{bit_at}
use Rattle.memory.specs.Access.{pick, reaches_past}
use Rattle.memory.specs.Load.{Loaded, fetch_of}
use Rattle.insn.specs.Read.{decode_on}
use Rattle.insn.specs.declared.profile.Profile.{Profile}
use Rattle.insn.specs.declared.instr.Instr.{Instr}
use Rattle.machine.specs.After.{After, plain}
use Rattle.machine.specs.Interrupt.{entered_of, interrupted_of}
use Rattle.machine.specs.Timer.{external_in, ticked_of, acts_of, acted_of}
use Rattle.machine.specs.Arithmetic.{arithmetic_of}
use Rattle.machine.specs.Logical.{logical_of}
use Rattle.machine.specs.Compare.{compare_of}
use Rattle.machine.specs.Rotate.{rotate_of}
use Rattle.machine.specs.LoadStore.{load_store_of}
use Rattle.machine.specs.Stack.{stack_of}
use Rattle.machine.specs.Branch.{branch_of}
use Rattle.machine.specs.System.{trap_of, system_of}
use Rattle.machine.specs.Cache.{cache_of}
use Rattle.machine.specs.declared.state.State.{State}
use Rattle.machine.specs.declared.interrupt.Cause.{Cause}
use Rattle.machine.specs.declared.interrupt.Vector.{Vector}

-- an instruction, and the word that it was read from
unfoldable pub execute_of : Profile → State → List ℕ → ℕ → Instr → After
execute_of p s m w (Instr.Arithmetic i) = plain (arithmetic_of s i) m
execute_of p s m w (Instr.Logical i) = plain (logical_of s i) m
execute_of p s m w (Instr.Compare i) = plain (compare_of s i) m
execute_of p s m w (Instr.Rotate i) = plain (rotate_of s i) m
execute_of p s m w (Instr.LoadStore i) = load_store_of p s m i
execute_of p s m w (Instr.Stack dd op rt ra) = stack_of p s m op ra dd
execute_of p s m w (Instr.Branch i) = plain (branch_of s i) m
execute_of p s m w (Instr.Trap to ra rb tg) = plain (trap_of p s w to tg) m
execute_of p s m w (Instr.System i) = plain (system_of p s i) m
execute_of p s m w (Instr.Cache op hint ra rb) = cache_of p s m op ra rb

abbrev pub decoded_of : Profile → State → List ℕ → ℕ → Option Instr → After
decoded_of p s m w (Some i) = execute_of p s m w i
decoded_of p s m w None = plain (interrupted_of p s (Cause.Program w false)) m

abbrev pub fetched_of : Profile → State → List ℕ → Loaded → After
fetched_of p s m (Ok w) = decoded_of p s m w (decode_on p w)
fetched_of p s m (Err f) = record { st = interrupted_of p s Cause.InstructionStorage; mem = m; past = reaches_past {A = ℕ} (Err f) }

-- line 6: fetch at IAR, decode, execute
unfoldable pub running_of : Profile → State → List ℕ → After
running_of p s m = fetched_of p s m (fetch_of m s.iar)

-- line 5: MSR[WE] (13) set, the step ends
unfoldable pub awake_of : Profile → State → List ℕ → After
awake_of p s m = pick (bit_at s.msr 13) (plain s m) (running_of p s m)

-- with MSR[EE] (16), the highest asynchronous interrupt that is enabled: WIE (4) and WIS (1), the external level, FIE (8) and FIS (5), DIE (5) and DIS (4) (Table 1.10)
unfoldable pub highest_of : State → ℕ → Option Vector
highest_of s e =
    pick (bit_at s.msr 16)
    (pick (bit_at s.tcr 4 && bit_at s.tsr 1) (Some Vector.Watchdog)
    (pick (external_in e) (Some Vector.External)
    (pick (bit_at s.tcr 8 && bit_at s.tsr 5) (Some Vector.FixedInterval)
    (pick (bit_at s.tcr 5 && bit_at s.tsr 4) (Some Vector.Decrementer) None))))
    None

-- line 4: it is taken, and the step ends
abbrev pub interruptible_of : Profile → State → List ℕ → Option Vector → After
interruptible_of p s m (Some v) = plain (entered_of p s v) m
interruptible_of p s m None = awake_of p s m

-- line 2, then line 3: a watchdog action ends the step
unfoldable pub counted_of : Profile → State → List ℕ → ℕ → After
counted_of p s m e =
    let t = ticked_of s e in
    pick (acts_of s e) (plain (acted_of t) m) (interruptible_of p t m (highest_of t e))

-- line 1: halted, nothing happens
unfoldable pub step_of : Profile → State → List ℕ → ℕ → After
step_of p s m e = pick (eqb s.halt 0) (counted_of p s m e) (plain s m)
