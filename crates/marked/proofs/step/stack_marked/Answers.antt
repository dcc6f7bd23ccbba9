-- `marked::step::stack_marked` meets its contract, by what its callees ensure. Assumes nothing.
use Rattle.machine.proofs.Frames.{stack_past}
use Rattle.marked.proofs.step.stack_marked.Goals as goal

pub returns : goal.returns
returns c = rw (stack_past _ _ _ _ _ _, ← c.stack_reaches-past.ensures, ← c.stack.ensures.0) (c.mark.ensures, c.stack.ensures.1)
