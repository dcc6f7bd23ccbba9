-- `perform::store::stack` meets its contract: lsku stores nothing, and the frame of stsku is dropped first. Assumes nothing.
use Rattle.perform.proofs.Stills.{still_pop, still_stack}
use Rattle.perform.proofs.store.stack.Goals as goal

pub returns-in-Lsku : goal.returns-in-Lsku
returns-in-Lsku c = rw c.in-Lsku.is (c.stack_marked.ensures.0, (c.stack_marked.ensures.1, still_pop _ _ _ _ _ _ _ c.stack_marked.ensures.1))

pub returns-in-Stsku : goal.returns-in-Stsku
returns-in-Stsku c = rw c.in-Stsku.is (c.stack_marked-in-Stsku.ensures.0, (c.stack_marked-in-Stsku.ensures.1, still_stack _ _ _ _ _ _ _ _ _ _ _ c.reg.ensures c.frame_ea.ensures c.drop_frame.ensures c.stack_marked-in-Stsku.ensures.1))
