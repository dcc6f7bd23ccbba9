-- `srecord::hex::sum_at` meets its contract: the sum so far and the bytes that are left. Assumes nothing.
use native.Mathlib.Omega.{arith}
use mathlib.Core.Path.{◌≡◌, sym, ◌∙◌}
use borrow.Author.Rules.{rules}
use Rattle.srecord.proofs.Spelt.{summed_step}
use Rattle.srecord.proofs.hex.sum_at.Goals as goal

pub loop-k-preserved : goal.loop-k-preserved
loop-k-preserved c = let l = c.loop-k in
    let h : c.from-sum.result ≡ c.in_ok-b.b = search rules in
    (omega arith, l.invariant.1 ∙ rw h (summed_step l.sum c.args.n l.k c.args.at c.in_ok-b.b _ c.loop-k-test.true (sym c.pair_at.ensures ∙ c.in_ok-b.was)))
