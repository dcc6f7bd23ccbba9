-- The synchronous interrupt that an instruction raises, if it raises one (4.5.3, 4.5.4, 4.5.6, 4.5.7, 7.5.1).
use Rattle.std.specs.Prelude.{ℕ, Bool, true, false, ◌&&◌, ◌||◌, List, eqb, length, Option, Some, None, Result, Ok, Err}
use Rattle.word.specs.Bits.{bit_at}
use Rattle.word.specs.Width.{bytes}
use Rattle.memory.specs.Access.{Access, pick, access_of}
use Rattle.memory.specs.Load.{Loaded, fetch_of}
use Rattle.memory.specs.Store.{block_at}
use Rattle.insn.specs.Read.{decode_on}
use Rattle.insn.specs.declared.instr.Instr.{Instr}
use Rattle.insn.specs.declared.instr.LoadStore.{LoadStore}
use Rattle.insn.specs.declared.instr.StackOp.{StackOp}
use Rattle.insn.specs.declared.instr.CacheOp.{CacheOp}
use Rattle.insn.specs.Profile.{is42x}
use Rattle.insn.specs.declared.profile.Profile.{Profile}
use Rattle.machine.specs.State.{gpr_of}
use Rattle.machine.specs.LoadStore.{offset_ea, indexed_ea}
use Rattle.machine.specs.Interrupt.{cause_of}
use Rattle.machine.specs.Stack.{frame_ea, doublewords, stores_of, frame_served}
use Rattle.machine.specs.declared.state.State.{State}
use Rattle.machine.specs.declared.interrupt.Cause.{Cause}
use Rattle.machine.specs.declared.stack.Missed.{Missed}

-- an access at an address, by a store or not
abbrev pub access_raises : Access → ℕ → Bool → Option Cause
access_raises (Ok u) ea store = None
access_raises (Err f) ea store = Some (cause_of f ea store)

abbrev pub load_store_raises : State → List ℕ → LoadStore → Option Cause
load_store_raises s m (LoadStore.Load w u rt ra d) = access_raises (access_of (length m) (offset_ea s ra d) (bytes w)) (offset_ea s ra d) false
load_store_raises s m (LoadStore.LoadIndexed w rt ra rb) = access_raises (access_of (length m) (indexed_ea s ra rb) (bytes w)) (indexed_ea s ra rb) false
load_store_raises s m (LoadStore.Store w u rs ra d) = access_raises (access_of (length m) (offset_ea s ra d) (bytes w)) (offset_ea s ra d) true
load_store_raises s m (LoadStore.StoreIndexed w rs ra rb) = access_raises (access_of (length m) (indexed_ea s ra rb) (bytes w)) (indexed_ea s ra rb) true
load_store_raises s m (LoadStore.LoadDouble u dt ra d) = access_raises (access_of (length m) (offset_ea s ra d) 8) (offset_ea s ra d) false
load_store_raises s m (LoadStore.StoreDouble u ds ra d) = access_raises (access_of (length m) (offset_ea s ra d) 8) (offset_ea s ra d) true

-- lsku and stsku: the first access that is not served (9.4.45, 9.4.89)
abbrev pub missed_raises : Bool → Result Unit Missed → Option Cause
missed_raises store (Ok u) = None
missed_raises store (Err missed) = Some (cause_of missed.fault missed.address store)

abbrev pub stack_raises : State → List ℕ → StackOp → ℕ → ℕ → Option Cause
stack_raises s m op ra dd = missed_raises (stores_of op) (frame_served (length m) op (gpr_of s ra) (frame_ea s ra dd) (doublewords op dd))

abbrev pub cache_raises : State → List ℕ → CacheOp → ℕ → ℕ → Option Cause
cache_raises s m CacheOp.Dcbf ra rb = None
cache_raises s m CacheOp.Dcbi ra rb = None
cache_raises s m CacheOp.Dcbt ra rb = None
cache_raises s m CacheOp.Dcbz ra rb = access_raises (access_of (length m) (block_at (indexed_ea s ra rb)) 32) (indexed_ea s ra rb) true

abbrev pub trap_raises : Profile → State → ℕ → ℕ → Bool → Option Cause
trap_raises p s word to tg = pick (eqb to 0 || is42x p && tg) None (pick (bit_at s.dbcr 7) None (Some (Cause.Program word true)))

abbrev pub execute_raises : Profile → State → List ℕ → ℕ → Instr → Option Cause
execute_raises p s m w (Instr.Arithmetic i) = None
execute_raises p s m w (Instr.Logical i) = None
execute_raises p s m w (Instr.Compare i) = None
execute_raises p s m w (Instr.Rotate i) = None
execute_raises p s m w (Instr.LoadStore i) = load_store_raises s m i
execute_raises p s m w (Instr.Stack dd op rt ra) = stack_raises s m op ra dd
execute_raises p s m w (Instr.Branch i) = None
execute_raises p s m w (Instr.Trap to ra rb tg) = trap_raises p s w to tg
execute_raises p s m w (Instr.System i) = None
execute_raises p s m w (Instr.Cache op hint ra rb) = cache_raises s m op ra rb

abbrev pub decoded_raises : Profile → State → List ℕ → ℕ → Option Instr → Option Cause
decoded_raises p s m w (Some i) = execute_raises p s m w i
decoded_raises p s m w None = Some (Cause.Program w false)

abbrev pub fetched_raises : Profile → State → List ℕ → Loaded → Option Cause
fetched_raises p s m (Ok w) = decoded_raises p s m w (decode_on p w)
fetched_raises p s m (Err f) = Some Cause.InstructionStorage

-- of the instruction at IAR
unfoldable pub raised_of : Profile → State → List ℕ → Option Cause
raised_of p s m = fetched_raises p s m (fetch_of m s.iar)
