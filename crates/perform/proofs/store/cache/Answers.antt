-- `perform::store::cache` meets its contract: only dcbz clears, and its block is dropped first. Assumes nothing.
use Rattle.machine.specs.Cache.{cache_of, clear_at}
use Rattle.perform.proofs.Stills.{still_cleared}
use Rattle.perform.proofs.store.cache.Goals as goal

pub returns-in-Dcbz : goal.returns-in-Dcbz
unfolding cache_of clear_at
returns-in-Dcbz c = rw c.in-Dcbz.is (c.cache_marked.ensures.0, (c.cache_marked.ensures.1, still_cleared _ _ _ _ _ _ c.indexed_ea.ensures c.drop_block.ensures c.cache_marked.ensures.1))
