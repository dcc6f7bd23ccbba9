-- `entries::tags::drop_bytes` meets its contract: the words of the first byte and of the last are dropped. Assumes nothing.
use Rattle.entries.proofs.Drops.{both_dropped, one_dropped}
use borrow.Author.Rules.{rules}
use Rattle.entries.proofs.tags.drop_bytes.Goals as goal

pub returns-then-last-first : goal.returns-then-last-first
returns-then-last-first c = both_dropped _ _ _ c.args.at c.args.n (search rules) c.drop_word.ensures c.drop_word-then-last-first.ensures

pub returns-else-last-first : goal.returns-else-last-first
returns-else-last-first c = one_dropped _ _ c.args.at c.args.n (search rules) (search rules) c.drop_word.ensures
