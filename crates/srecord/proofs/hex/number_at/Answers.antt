-- `srecord::hex::number_at` meets its contract: the number so far and the bytes that are left. Assumes nothing.
use native.Mathlib.Omega.{arith}
use native.Mathlib.Numerals.{add-one}
use mathlib.Core.Path.{◌∙◌}
use Rattle.srecord.proofs.Spelt.{number_step, most_more, most_le}
use Rattle.srecord.proofs.hex.number_at.Goals as goal

pub overflow_add-number : goal.overflow_add-number
overflow_add-number c = let l = c.loop-k in
    omega (arith, l.invariant.0, most_le l.k (omega (arith, c.loop-k-test.true, c.requires.le_width.1)), c.byte_or_256.ensures.1)

pub loop-k-preserved : goal.loop-k-preserved
loop-k-preserved c = let l = c.loop-k in
    (rw add-one (most_more l.k l.number _ l.invariant.0 c.byte_or_256.ensures.1), l.invariant.1 ∙ rw c.byte_or_256.ensures.0 (number_step l.number c.args.width l.k c.args.at _ c.loop-k-test.true))
