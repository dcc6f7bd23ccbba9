-- `perform::store::store` meets its contract: the words of its bytes are dropped, then it is stored. Assumes nothing.
use Rattle.machine.specs.LoadStore.{load_store_of, store_at}
use Rattle.perform.proofs.Stills.{still_stored}
use Rattle.perform.proofs.store.store.Goals as goal

pub returns : goal.returns
unfolding load_store_of store_at
returns c = (c.load_store_marked.ensures.0, (c.load_store_marked.ensures.1, still_stored _ _ _ _ _ _ _ _ _ c.offset_ea.ensures c.size.ensures c.drop_bytes.ensures c.load_store_marked.ensures.1))
