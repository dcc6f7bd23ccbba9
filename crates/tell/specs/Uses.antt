-- What a step asks of the memory beside its fetch, if anything: to read or write some bytes from an address on, or to read or write a stack frame.
use Rattle.std.specs.Prelude.{ℕ, Bool, not, ◌&&◌, List, eqb, Option, Some, None, Ok, Err, is_none}
use Rattle.word.specs.Bits.{bit_at}
use Rattle.word.specs.Width.{bytes}
use Rattle.memory.specs.Access.{pick}
use Rattle.memory.specs.Load.{Loaded, fetch_of}
use Rattle.memory.specs.Store.{block_at}
use Rattle.insn.specs.Read.{decode_on}
use Rattle.insn.specs.declared.instr.Instr.{Instr}
use Rattle.insn.specs.declared.instr.LoadStore.{LoadStore}
use Rattle.insn.specs.declared.instr.StackOp.{StackOp}
use Rattle.insn.specs.declared.instr.CacheOp.{CacheOp}
use Rattle.insn.specs.declared.profile.Profile.{Profile}
use Rattle.machine.specs.State.{gpr_of}
use Rattle.machine.specs.LoadStore.{offset_ea, indexed_ea}
use Rattle.machine.specs.Stack.{frame_ea, doublewords}
use Rattle.machine.specs.Timer.{ticked_of, acts_of}
use Rattle.machine.specs.Step.{highest_of}
use Rattle.machine.specs.declared.state.State.{State}
use Rattle.tell.specs.declared.uses.Use.{Use}

abbrev pub load_store_use : State → LoadStore → Use
load_store_use s (LoadStore.Load w u rt ra d) = Use.Reads (offset_ea s ra d) (bytes w)
load_store_use s (LoadStore.LoadIndexed w rt ra rb) = Use.Reads (indexed_ea s ra rb) (bytes w)
load_store_use s (LoadStore.Store w u rs ra d) = Use.Writes (offset_ea s ra d) (bytes w)
load_store_use s (LoadStore.StoreIndexed w rs ra rb) = Use.Writes (indexed_ea s ra rb) (bytes w)
load_store_use s (LoadStore.LoadDouble u dt ra d) = Use.Reads (offset_ea s ra d) 8
load_store_use s (LoadStore.StoreDouble u ds ra d) = Use.Writes (offset_ea s ra d) 8

-- a frame by (RA), EA and the doublewords between its headers
abbrev pub stack_use : State → StackOp → ℕ → ℕ → Use
stack_use s StackOp.Lsku ra dd = Use.Pops (gpr_of s ra) (frame_ea s ra dd) (doublewords StackOp.Lsku dd)
stack_use s StackOp.Stsku ra dd = Use.Pushes (gpr_of s ra) (frame_ea s ra dd) (doublewords StackOp.Stsku dd)

abbrev pub cache_use : State → CacheOp → ℕ → ℕ → Option Use
cache_use s CacheOp.Dcbf ra rb = None
cache_use s CacheOp.Dcbi ra rb = None
cache_use s CacheOp.Dcbt ra rb = None
cache_use s CacheOp.Dcbz ra rb = Some (Use.Writes (block_at (indexed_ea s ra rb)) 32)

abbrev pub execute_use : State → Instr → Option Use
execute_use s (Instr.Arithmetic i) = None
execute_use s (Instr.Logical i) = None
execute_use s (Instr.Compare i) = None
execute_use s (Instr.Rotate i) = None
execute_use s (Instr.LoadStore i) = Some (load_store_use s i)
execute_use s (Instr.Stack dd op rt ra) = Some (stack_use s op ra dd)
execute_use s (Instr.Branch i) = None
execute_use s (Instr.Trap to ra rb tg) = None
execute_use s (Instr.System i) = None
execute_use s (Instr.Cache op hint ra rb) = cache_use s op ra rb

abbrev pub decoded_use : State → Option Instr → Option Use
decoded_use s (Some i) = execute_use s i
decoded_use s None = None

abbrev pub fetched_use : Profile → State → Loaded → Option Use
fetched_use p s (Ok w) = decoded_use s (decode_on p w)
fetched_use p s (Err f) = None

-- whether a step gets to line 6
unfoldable pub executes : State → ℕ → Bool
executes s e = eqb s.halt 0 && not (acts_of s e) && is_none (highest_of (ticked_of s e) e) && not (bit_at (ticked_of s e).msr 13)

-- of a whole step; an access that is not served is asked for too
unfoldable pub use_of : Profile → State → List ℕ → ℕ → Option Use
use_of p s m e = let t = ticked_of s e in pick (executes s e) (fetched_use p t (fetch_of m t.iar)) None
