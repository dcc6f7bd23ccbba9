-- `srecord::line::head_at` meets its contract: the four tests. Assumes nothing.
use mathlib.Core.Path.{sym, ◌∙◌}
use Rattle.srecord.proofs.Formed.{head_is}
use Rattle.srecord.proofs.Spelt.{but_some, byte_is, some_where}
use Rattle.srecord.proofs.line.head_at.Goals as goal

pub returns : goal.returns
returns c = let k = c.in_ok-kind.ensures in
    let w = but_some 0 _ _ (sym c.width_of.ensures ∙ c.in_ok-width.was) in
    let p = byte_is _ _ _ (sym c.pair_at.ensures ∙ c.in_ok-pair_at.was) in
    let h = head_is c.args.file.now c.args.at c.in_ok-kind.kind c.in_ok-width.width c.in_ok-pair_at.field-0 k.0 (sym k.1) w.0 (λ e. w.1 (w.0 ∙ e)) p.0 p.1 in
    rw (c.then_some.ensures, c.room_for.ensures, c.from-count.ensures, h) (some_where _ _)
