-- `srecord::read::store` meets its contract: the lines that are left, of a file without refusal. Assumes nothing.
use native.Mathlib.Omega.{arith}
use mathlib.Core.Path.{ap, sym, ◌∙◌}
use Rattle.std.specs.Prelude.{is_ok}
use borrow.Author.Rules.{rules}
use Rattle.srecord.proofs.Lines.{next_bounds}
use Rattle.srecord.proofs.Judge.{found_is, record_fits, verdict_good, verdict_goes, placed_more}
use Rattle.srecord.proofs.read.store.Goals as goal

pub put_record-requires-clause-n_in_bounds : goal.put_record-requires-clause-n_in_bounds
put_record-requires-clause-n_in_bounds c = let s = c.loop-at in
    let w = found_is _ _ _ (sym c.line_at.ensures ∙ c.in-Some.is) in
    let z = verdict_good _ s.at s.invariant.line s.invariant.seen _ c.loop-at-test.true s.invariant.fine in
    λ d l. omega (arith, s.invariant.size, (record_fits _ c.in-Some.found.kind c.in-Some.found.address c.in-Some.found.size s.invariant.seen (ap is_ok (rw (← w.kind, ← w.address, ← w.size) at z.1)) d).inside l)

pub loop-at-preserved : goal.loop-at-preserved
loop-at-preserved c = let s = c.loop-at in
    let w = found_is _ _ _ (sym c.line_at.ensures ∙ c.in-Some.is) in
    let z = verdict_good _ s.at s.invariant.line s.invariant.seen _ c.loop-at-test.true s.invariant.fine in
    let g = verdict_goes _ s.at s.invariant.line s.invariant.seen _ c.loop-at-test.true w.formed z.1 in
    record { seen = _; line = _; fine = rw (← w.next) at (rw g at s.invariant.fine); same = s.invariant.same ∙ (placed_more s.at s.mem _ c.loop-at-test.true w.formed ∙ rw (c.put_record.ensures, w.kind, w.address, w.start, w.size, w.next)); size = search rules; place = omega (arith, w.next, next_bounds _ _ w.formed) }
