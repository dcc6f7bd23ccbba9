-- `entries::tags::drop_word` meets its contract: way by way. Assumes nothing.
use Rattle.entries.proofs.Drops.{ways_none_yet, ways_more}
use Rattle.entries.proofs.tags.drop_word.Goals as goal

pub loop-way-init : goal.loop-way-init
loop-way-init c = ways_none_yet _ _

pub loop-way-preserved : goal.loop-way-preserved
loop-way-preserved c = ways_more _ _ _ _ _ c.loop-way.invariant c.drop_way.ensures
