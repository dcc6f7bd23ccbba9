-- `srecord::check::check` meets its contract: the verdict on the lines that are left. Assumes nothing.
use native.Mathlib.Omega.{arith}
use mathlib.Core.Path.{refl, ap, sym, ◌∙◌}
use borrow.Author.Rules.{rules}
use Rattle.std.specs.Prelude.{is_ok}
use Rattle.srecord.specs.File.{Seen, after}
use Rattle.srecord.specs.Judged.{seen_of}
use Rattle.srecord.proofs.Judge.{after_count, found_is, verdict_stop, verdict_goes}
use Rattle.srecord.proofs.Lines.{next_bounds}
use Rattle.srecord.proofs.Naming.{stand_none}
use Rattle.srecord.proofs.check.check.Goals as goal

pub loop-at-init : goal.loop-at-init
loop-at-init c = record { named = _; words = stand_none _ refl; same = refl; place = search rules; count = search rules; number = search rules }

pub returns-in-Err : goal.returns-in-Err
returns-in-Err c = let s = c.loop-at in
    let w = found_is _ _ _ (sym c.line_at.ensures ∙ c.in-Some.is) in
    let e = rw (w.kind, w.address, w.size) at (c.check.ensures s.invariant.named s.invariant.words).refusal in
    sym (s.invariant.same ∙ verdict_stop _ s.at s.line _ _ c.loop-at-test.true w.formed c.in-Err.refusal (sym e ∙ c.in-Err.is))

pub loop-at-preserved : goal.loop-at-preserved
loop-at-preserved c = let s = c.loop-at in
    let q = c.in-Some.found in
    let w = found_is _ _ _ (sym c.line_at.ensures ∙ c.in-Some.is) in
    let j = c.check.ensures s.invariant.named s.invariant.words in
    let e = rw (w.kind, w.address, w.size) at j.refusal in
    let t = c.after-so.ensures s.invariant.named q.address q.size in
    let b = after_count (seen_of s.so s.invariant.named) q.kind q.address q.size in
    let g = rw (← w.kind, ← w.address, ← w.size, ← w.next) at (verdict_goes _ s.at s.line (seen_of s.so s.invariant.named) _ c.loop-at-test.true w.formed (sym e ∙ c.in_default-check.is)) in
    record {
      named = (after (seen_of s.so s.invariant.named) q.kind q.address q.size).named;
      words = j.words (ap is_ok c.in_default-check.is);
      same = s.invariant.same ∙ (g ∙ rw t);
      place = omega (arith, w.next, next_bounds _ _ w.formed);
      count = rw (ap (λ (q : Seen). q.count) t) (omega (arith, b, s.invariant.count, w.next, next_bounds _ _ w.formed));
      number = omega (arith, s.invariant.number, w.next, next_bounds _ _ w.formed);
    }
