-- What a fault leaves, and what an interrupt may change (4.5.3, 4.5.4, 4.5.6, 4.5.7, 7.5.1).
use Rattle.std.specs.Prelude.{ℕ, ◌<◌, Bool, true, false, List, [], ◌∷◌, ◌≡◌, ◌⊎◌, length, Some, None, Option, Ok, Err}
use Rattle.memory.specs.Access.{Access, pick, aligned_of, access_of}
use Rattle.memory.specs.Load.{Loaded, fetch_of}
use Rattle.insn.specs.Valid.{reg_of}
use Rattle.insn.specs.Read.{decode_on}
use Rattle.insn.specs.declared.instr.Instr.{Instr}
use Rattle.insn.specs.declared.instr.StackOp.{StackOp}
use Rattle.insn.specs.declared.profile.Profile.{Profile}
use Rattle.machine.specs.State.{gpr_of, contents_of}
use Rattle.machine.specs.After.{After, plain}
use Rattle.machine.specs.Interrupt.{interrupted_of}
use Rattle.machine.specs.Stack.{Part, address_of, size_of, parts_of, frame_ea, doublewords, state_after, memory_after}
use Rattle.machine.specs.declared.state.State.{State}
use Rattle.machine.specs.declared.state.Reg.{Reg}
use Rattle.machine.specs.declared.interrupt.Cause.{Cause}

-- what a fault leaves of a state and a memory: the interrupted state, and the memory as it was
abbrev pub faulted : Profile → State → List ℕ → Cause → After → Type 0
faulted p s m c a = (a.st ≡ interrupted_of p s c) × (a.mem ≡ m)

-- what a frame has done before its first access that is not served
abbrev pub when_served : Access → After → After → After
when_served (Ok tt) done left = done
when_served (Err f) done left = left

unfoldable pub framed_before : StackOp → ℕ → List Part → State → List ℕ → After
framed_before op ra [] s m = plain s m
framed_before op ra (x ∷ xs) s m =
    when_served (access_of (length m) (address_of x) (size_of x)) (framed_before op ra xs (state_after op ra x s m) (memory_after op ra x s m)) (plain s m)

unfoldable pub stack_before : State → List ℕ → StackOp → ℕ → ℕ → After
stack_before s m op ra dd =
    let sp = gpr_of s ra in
    pick (aligned_of sp 8) (framed_before op ra (parts_of op sp (frame_ea s ra dd) (doublewords op dd)) s m) (plain s m)

-- what an instruction has done before it faults: nothing, but for lsku and stsku (9.4.45, 9.4.89)
abbrev pub execute_before : State → List ℕ → Instr → After
execute_before s m (Instr.Arithmetic i) = plain s m
execute_before s m (Instr.Logical i) = plain s m
execute_before s m (Instr.Compare i) = plain s m
execute_before s m (Instr.Rotate i) = plain s m
execute_before s m (Instr.LoadStore i) = plain s m
execute_before s m (Instr.Stack dd op rt ra) = stack_before s m op ra dd
execute_before s m (Instr.Branch i) = plain s m
execute_before s m (Instr.Trap to ra rb tg) = plain s m
execute_before s m (Instr.System i) = plain s m
execute_before s m (Instr.Cache op hint ra rb) = plain s m

abbrev pub decoded_before : State → List ℕ → Option Instr → After
decoded_before s m (Some i) = execute_before s m i
decoded_before s m None = plain s m

abbrev pub fetched_before : Profile → State → List ℕ → Loaded → After
fetched_before p s m (Ok w) = decoded_before s m (decode_on p w)
fetched_before p s m (Err f) = plain s m

unfoldable pub running_before : Profile → State → List ℕ → After
running_before p s m = fetched_before p s m (fetch_of m s.iar)

-- the instruction is lsku or stsku
abbrev pub is_stack : Instr → Bool
is_stack (Instr.Arithmetic i) = false
is_stack (Instr.Logical i) = false
is_stack (Instr.Compare i) = false
is_stack (Instr.Rotate i) = false
is_stack (Instr.LoadStore i) = false
is_stack (Instr.Stack dd op rt ra) = true
is_stack (Instr.Branch i) = false
is_stack (Instr.Trap to ra rb tg) = false
is_stack (Instr.System i) = false
is_stack (Instr.Cache op hint ra rb) = false

-- only GPRs 28 to 31, and not RA, may differ
pub record OnlyPairs (ra : ℕ) (s t : State) : Type 0 where
  pub gprs : (g : ℕ) → reg_of g ≡ true → (g < 28) ⊎ (g ≡ ra) → gpr_of t g ≡ gpr_of s g
  pub others : (r : Reg) → contents_of t r ≡ contents_of s r

-- only SRR0, SRR1, MSR, ISR, EDR, IAR and the halt code may differ
pub record OnlyInterrupt (s t : State) : Type 0 where
  pub gpr : t.gpr ≡ s.gpr
  pub cr : t.cr ≡ s.cr
  pub ctr : t.ctr ≡ s.ctr
  pub dacr : t.dacr ≡ s.dacr
  pub dbcr : t.dbcr ≡ s.dbcr
  pub dec : t.dec ≡ s.dec
  pub ivpr : t.ivpr ≡ s.ivpr
  pub lr : t.lr ≡ s.lr
  pub pir : t.pir ≡ s.pir
  pub pvr : t.pvr ≡ s.pvr
  pub sprg0 : t.sprg0 ≡ s.sprg0
  pub tcr : t.tcr ≡ s.tcr
  pub tsr : t.tsr ≡ s.tsr
  pub xer : t.xer ≡ s.xer
