-- `capture::write::check_write` meets its contract: the tests in order. Assumes nothing.
use Rattle.memory.proofs.Laws.{sized_bounds}
use mathlib.Core.Path.{sym, ap, ◌∙◌}
use Rattle.machine.proofs.Refusals.{start_accepts}
use Rattle.std.specs.Prelude.{is_ok}
use borrow.Author.Rules.{rules}
use Rattle.capture.proofs.write.check_write.Goals as goal

pub overflow_add-size : goal.overflow_add-size
overflow_add-size c = let a = start_accepts c.args.profile c.args.state c.args.size (ap is_ok (sym c.check_start.ensures ∙ c.in_ok-check_start.was)) in
    let h = sized_bounds c.args.size a.0 in
    search rules
