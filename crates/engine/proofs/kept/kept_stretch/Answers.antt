-- `engine::kept::kept_stretch` meets its contract: what is left of the run is the run, and every entry holds what memory has. Assumes nothing.
use Prim.Native.Nat.{◌≤◌, ◌<◌}
use native.Mathlib.Omega.{arith}
use mathlib.Core.Path.{◌≡◌, refl, sym}
use borrow.Author.Tests.{not-true, not-false}
use borrow.Author.Rules.{rules}
use Rattle.reading.specs.Reading.{reading_of}
use Rattle.engine.specs.Engine.{kept_at, Good, Sized}
use Rattle.engine.proofs.Steps.{performed, idle, busy}
use Rattle.engine.proofs.Entries.{filled, sized_set, sized_fresh, none_yet, stepped, found, kept_here}
use Rattle.engine.proofs.Runs.{going_start, going_more}
use Rattle.engine.proofs.kept.kept_stretch.Goals as goal
use Rattle.engine.proofs.kept.kept_stretch.Goals.{in-None, in-Some}

pub loop-i-init : goal.loop-i-init
loop-i-init c = (search rules, (refl, (going_start c.args.profile c.args.budget c.args.events.now c.args.start c.args.mem.now c.requires, rw (c.no_readings-kept.ensures, c.no_tags-tags.ensures) (sized_fresh _, none_yet _ _ _))))

pub loop-i-preserved-then-not-ready : goal.loop-i-preserved-then-not-ready
loop-i-preserved-then-not-ready c = let inv = c.loop-i.invariant in
    let args = c.args in
    let r = c.readied-ready.result in
    let e = c.event_at in
    let halt = c.if-s-eq0.true in
    let less : c.loop-i.i < args.budget = omega (arith, c.loop-i-test.true, inv.0) in
    let o = idle args.profile c.loop-i.s c.loop-i.mem e.result halt r c.readied-ready.ensures (not-true r.runs c.if-not-ready.true) in
    (inv.0, (inv.1.0, (going_more args.profile args.budget args.events.now args.start args.mem.now c.loop-i.i c.loop-i.s c.loop-i.mem less halt inv.1.1.0 e.result _ e.ensures o, (inv.1.1.1.0, inv.1.1.1.1))))

pub loop-i-preserved : goal.loop-i-preserved
loop-i-preserved c = let inv = c.loop-i.invariant in
    let args = c.args in
    let p = args.profile in
    let m = c.loop-i.mem in
    let j = c.match-way_of in
    let set = c.set_of-set in
    let tag = c.tag_of-tag in
    let r = c.readied-ready.result in
    let e = c.event_at in
    let halt = c.if-s-eq0.true in
    let a = r.state.iar in
    let play = c.carry_out-s.ensures in
    let less : c.loop-i.i < args.budget = omega (arith, c.loop-i-test.true, inv.0) in
    let o = busy p c.loop-i.s m e.result halt r c.readied-ready.ensures (not-false r.runs c.if-not-ready.false) in
    let met : (j.upto ≤ args.budget) × ((kept_at j.kept set.result j.way' ≡ reading_of p m a) × (Sized j.kept × Good p j.tags j.kept m)) =
    elim j.branch [
      | in-None w ↦
          rw (w.tags-is, w.kept-is, w.upto-is, w.way'-is, w.reading_at.ensures, tag.ensures) (
            omega (arith, w.kept_upto-upto.ensures, inv.0),
            (
              kept_here c.loop-i.kept set.result w.new_way-way.result (reading_of p m a) set.ensures.small w.new_way-way.ensures inv.1.1.1.0,
              (
                sized_set c.loop-i.kept set.result w.new_way-way.result (reading_of p m a) set.ensures.small inv.1.1.1.0,
                filled p c.loop-i.tags c.loop-i.kept m set.result w.new_way-way.result a set.ensures.small w.new_way-way.ensures (sym set.ensures.value) inv.1.1.1.0 inv.1.1.1.1,
              ),
            ),
          )
      | in-Some w ↦
          rw (w.tags-is, w.kept-is, w.upto-is, w.way'-is) (
            inv.0,
            (found p c.loop-i.tags c.loop-i.kept m set.result w.in-Some.way a inv.1.1.1.1 w.in-Some.ensures.0 (rw (← tag.ensures) w.in-Some.ensures.1), (inv.1.1.1.0, inv.1.1.1.1)),
          )
    ]
    in (
      met.0,
      (
        search rules,
        (
          rw (play.0, play.1.0, met.1.0) (going_more p args.budget args.events.now args.start args.mem.now c.loop-i.i c.loop-i.s m less halt inv.1.1.0 e.result (performed p r.state m (reading_of p m a)) e.ensures o),
          (met.1.1.0, stepped p j.tags _ j.kept m _ met.1.1.1 play.1.1),
        ),
      ),
    )
