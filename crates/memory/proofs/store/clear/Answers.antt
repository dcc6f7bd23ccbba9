-- `memory::store::clear` meets its contract: the block that was lent comes back cleared. Assumes nothing.
use Rattle.memory.proofs.Laws.{block, served_inside}
use Rattle.memory.specs.Store.{block_at, cleared_of}
use mathlib.Core.Path.{refl, sym, ◌∙◌}
use borrow.Author.Rules.{rules}
use Rattle.memory.proofs.store.clear.Goals as goal

pub returns : goal.returns
unfolding cleared_of
returns c = rw (← c.block_access.ensures, c.in_ok-block_access.was) (refl, block _ _ _ (served_inside _ (block_at c.args.address) 32 (sym c.block_access.ensures ∙ c.in_ok-block_access.was)) (c.fill.ensures.after (λ y h. search rules)))
