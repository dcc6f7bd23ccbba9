-- `capture::write::write` meets its contract: what is accepted fits. Assumes nothing.
use lib.ListN.{length}
use Rattle.capture.proofs.Checks.{write_accepts}
use Rattle.memory.proofs.Laws.{sized_bounds}
use mathlib.Core.Path.{sym, ap, ◌∙◌}
use Rattle.std.specs.Prelude.{is_ok}
use Rattle.capture.proofs.write.write.Goals as goal

pub put_capture-requires-clause-memory_len_bound : goal.put_capture-requires-clause-memory_len_bound
put_capture-requires-clause-memory_len_bound c = let h = write_accepts c.args.profile c.args.state (length c.args.memory.now) (length c.args.out.now) (ap is_ok (sym c.check_write.ensures ∙ c.in_ok-check_write.was)) in (sized_bounds _ h.sized).1

pub put_capture-requires-clause-memory_in_bounds : goal.put_capture-requires-clause-memory_in_bounds
put_capture-requires-clause-memory_in_bounds c = let h = write_accepts c.args.profile c.args.state (length c.args.memory.now) (length c.args.out.now) (ap is_ok (sym c.check_write.ensures ∙ c.in_ok-check_write.was)) in h.room
