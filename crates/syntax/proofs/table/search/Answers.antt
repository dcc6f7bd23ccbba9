use Prim.Native.Nat.{max}
use borrow.Author.Rules.{rules}
use mathlib.Core.Path.{◌≡◌, ◌∙◌}
use Rattle.syntax.specs.Inside.{pattern_at}
use Rattle.syntax.proofs.Walk.{rows_more, larger_max}
use Rattle.syntax.proofs.table.search.Goals as goal

pub loop-n-preserved : goal.loop-n-preserved
unfolding pattern_at
loop-n-preserved c =
    let m : c.max-best.result ≡ max c.loop-n.best c.in-Err.stuck.column = search rules in
    c.loop-n.invariant ∙ rows_more _ _ _ _ _ _ _ c.loop-n-test.true (c.in-Err.ensures ∙ rw c.row_at.ensures) (larger_max _ _ _ m)
