-- `syntax::print::put_decimal` meets its contract: the last digit after those before it.
use borrow.Author.Rules.{rules}
use Rattle.syntax.proofs.Printing.{put_more}
use Rattle.syntax.proofs.print.+put_decimal.Goals as goal

pub returns : goal.returns
returns t c = put_more _ _ _ _ _ _ _ _ _ (search rules) (search rules) c.digit-2.ensures c.put_decimal-end.ensures c.put_byte-2.ensures
