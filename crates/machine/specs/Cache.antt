-- The cache instructions (9.4.30 to 9.4.34): the bench has no cache, so only dcbz does anything.
use Rattle.std.specs.Prelude.{ℕ, true, List, length, Ok, Err}
use Rattle.memory.specs.Access.{Access, access_of, reaches_past}
use Rattle.memory.specs.Store.{block_at, cleared_of}
use Rattle.insn.specs.declared.instr.CacheOp.{CacheOp}
use Rattle.insn.specs.declared.profile.Profile.{Profile}
use Rattle.machine.specs.Interrupt.{cause_of, interrupted_of}
use Rattle.machine.specs.Result.{next_of}
use Rattle.machine.specs.LoadStore.{indexed_ea}
use Rattle.machine.specs.After.{After, plain}
use Rattle.machine.specs.declared.state.State.{State}

-- a block is always aligned
abbrev pub cleared_state : Profile → State → Access → ℕ → State
cleared_state p s (Ok u) ea = next_of s
cleared_state p s (Err f) ea = interrupted_of p s (cause_of f ea true)

-- the 32 bytes of the block are set to 0
unfoldable pub clear_at : Profile → State → List ℕ → ℕ → After
clear_at p s m ea =
    record {
      st = cleared_state p s (access_of (length m) (block_at ea) 32) ea;
      mem = cleared_of m ea;
      past = reaches_past (access_of (length m) (block_at ea) 32);
    }

unfoldable pub cache_of : Profile → State → List ℕ → CacheOp → ℕ → ℕ → After
cache_of p s m CacheOp.Dcbf ra rb = plain (next_of s) m
cache_of p s m CacheOp.Dcbi ra rb = plain (next_of s) m
cache_of p s m CacheOp.Dcbt ra rb = plain (next_of s) m
cache_of p s m CacheOp.Dcbz ra rb = clear_at p s m (indexed_ea s ra rb)
