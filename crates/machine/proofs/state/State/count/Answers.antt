-- `State::count` meets its contract: it does what a quiet step asks of line 2. Assumes nothing.
use Rattle.machine.proofs.Quiet.{quiet_tick}
use Rattle.machine.proofs.state.State.count.Goals as goal

pub returns : goal.returns
returns c = rw (
  quiet_tick c.args.self c.requires,
  c.set-3.ensures,
  c.set-2.ensures,
  c.set.ensures,
  c.put_at-isr.ensures,
  c.field_at-dis.ensures,
  c.digit_of.ensures.value,
  c.bit_rises.ensures,
  c.plus-dec.ensures,
)
