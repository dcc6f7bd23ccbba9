-- `perform::store::drop_frame` meets its contract: its four parts are dropped, one after the other. Assumes nothing.
use Rattle.perform.proofs.Stills.{framed}
use Rattle.perform.proofs.store.drop_frame.Goals as goal

pub returns : goal.returns
returns c = framed _ _ _ _ _ _ _ _ _ _ c.plus.ensures c.plus-2.ensures c.plus-3.ensures c.drop_bytes.ensures c.drop_bytes-2.ensures c.drop_bytes-3.ensures c.drop_bytes-4.ensures
