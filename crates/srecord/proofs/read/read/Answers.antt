-- `srecord::read::read` meets its contract: 1, a refusal, or none. Assumes nothing.
use mathlib.Core.Path.{sym, ◌∙◌}
use Rattle.memory.proofs.Laws.{sized_bounds}
use Rattle.srecord.proofs.Answer.{read_unsized}
use Rattle.srecord.proofs.read.read.Goals as goal

pub returns-then-not-sized : goal.returns-then-not-sized
returns-then-not-sized c = read_unsized _ _ (sym c.sized.ensures ∙ c.if-not-sized.true)

pub check-requires : goal.check-requires
check-requires c = (sized_bounds _ (sym c.sized.ensures ∙ c.if-not-sized.false)).1
