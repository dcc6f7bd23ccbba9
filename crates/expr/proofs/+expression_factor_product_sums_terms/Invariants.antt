-- Each reader of the cycle goes on in what is left of the text, or hands the same place down to a smaller one.
use Prim.Native.Nat.{◌+◌, ◌-◌, ◌*◌}
use lib.ListN.{length}
use Rattle.expr.proofs.+expression_factor_product_sums_terms.Given as goal

abbrev pub decreases-expression : goal.decreases-expression
decreases-expression l = 3 * (length l.text.now - l.at) + 2

abbrev pub decreases-factor : goal.decreases-factor
decreases-factor l = 3 * (length l.text.now - l.at)

abbrev pub decreases-product : goal.decreases-product
decreases-product l = 3 * (length l.text.now - l.at) + 1

abbrev pub decreases-sums : goal.decreases-sums
decreases-sums l = 3 * (length l.text.now - l.left.end)

abbrev pub decreases-terms : goal.decreases-terms
decreases-terms l = 3 * (length l.text.now - l.left.end)
