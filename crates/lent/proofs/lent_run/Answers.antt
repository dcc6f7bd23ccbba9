-- `lent::lent_run` meets its contract: what is left of the loop, after the steps so far, is the loop. Assumes nothing.
use native.Mathlib.Omega.{arith}
use mathlib.Core.Path.{◌≡◌, refl, ap, ◌∙◌}
use borrow.Author.Rules.{rules}
use Rattle.insn.specs.declared.profile.Profile.{Profile}
use Rattle.run.specs.Outcome.{step_outcome}
use Rattle.run.specs.Lent.{answer_of, counted}
use Rattle.lent.proofs.Laws.{one_at_most, lent_more, lent_spent}
use Rattle.lent.proofs.lent_run.Goals as goal

pub loop-i-preserved : goal.loop-i-preserved
loop-i-preserved c = let lent = c.step_lent.ensures in
    let steps : c.counted-steps.result ≡ counted (answer_of (step_outcome Profile.Ppe42 c.loop-i.state c.loop-i.mem 0)) = c.counted-steps.ensures ∙ ap counted lent.0 in
    let most = one_at_most Profile.Ppe42 c.loop-i.state c.loop-i.mem 0 in (
      rw steps (omega (arith, most, c.loop-i.invariant.0)),
      (
        search rules,
        c.loop-i.invariant.1.1
            ∙ (lent_more Profile.Ppe42 c.loop-i.state c.loop-i.mem c.args.budget c.loop-i._i c.loop-i.steps c.loop-i-test.true
            ∙ rw (steps, lent.1.0, lent.1.1)),
      ),
    )

pub returns : goal.returns
returns c = rw (c.loop-i.invariant.1.1 ∙ lent_spent Profile.Ppe42 c.loop-i.state c.loop-i.mem c.args.budget c.loop-i._i c.loop-i.steps c.loop-i-test.false)
    (refl, (refl, refl))
