-- `entries::tags::drop_way` meets its contract: emptied, or the tag was not there. Assumes nothing.
use Rattle.entries.proofs.Drops.{emptied, emptied_none, fewer_same}
use borrow.Author.Rules.{rules}
use Rattle.entries.proofs.tags.drop_way.Goals as goal

pub returns-then-tags-set : goal.returns-then-tags-set
returns-then-tags-set c = (emptied c.args.tags.now c.args.set c.args.way, emptied_none c.args.tags.now c.args.set c.args.way c.args.tag (search rules))

pub returns-else-tags-set : goal.returns-else-tags-set
returns-else-tags-set c = (fewer_same _, c.if-tags-set.false)
