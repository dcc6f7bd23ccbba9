-- `entries::tags::drop_block` meets its contract: word by word. Assumes nothing.
use Rattle.entries.proofs.Drops.{part_none_yet, part_more}
use Rattle.entries.proofs.tags.drop_block.Goals as goal

pub loop-word-init : goal.loop-word-init
loop-word-init c = part_none_yet _ _

pub loop-word-preserved : goal.loop-word-preserved
loop-word-preserved c = part_more _ _ _ _ _ c.loop-word.invariant c.drop_word.ensures
