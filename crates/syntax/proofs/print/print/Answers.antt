use Rattle.std.proofs.Common.{rules, ◌≡◌, ◌<◌, length, slice_index_or}
use Rattle.syntax.proofs.Printing.{going_on}
use Rattle.syntax.proofs.print.print.Goals as goal

pub loop-c-preserved : goal.loop-c-preserved
loop-c-preserved c = let l : c.loop-c.c-index < length c.args.row.now = search rules in let n : slice_index_or c.args.row.now c.loop-c.c-index 0 ≡ 59 → ⊥ = search rules in going_on _ _ _ _ _ _ _ c.loop-c.invariant _ _ _ _ l n c.from-slot.ensures c.put_item-at.ensures c.after-q.ensures
