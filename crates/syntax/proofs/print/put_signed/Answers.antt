-- `syntax::print::put_signed` meets its contract: a minus and the distance below 2h, or the number. Assumes nothing.
use Rattle.syntax.proofs.Printing.{put_plus, put_minus}
use borrow.Author.Rules.{rules}
use Rattle.syntax.proofs.print.put_signed.Goals as goal

pub returns-then-n-h : goal.returns-then-n-h
returns-then-n-h c = put_plus _ _ _ _ _ _ _ (search rules) c.put_decimal.ensures

pub returns : goal.returns
returns c = put_minus _ _ _ _ _ _ _ _ _ _ (search rules) c.saturating_sub.ensures c.put_byte-next.ensures c.put_decimal-2.ensures
