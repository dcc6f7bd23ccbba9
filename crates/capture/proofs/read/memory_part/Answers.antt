-- `capture::read::memory_part` meets its contract: what is accepted is long enough. Assumes nothing.
use Rattle.std.specs.Prelude.{is_ok}
use Rattle.capture.proofs.Checks.{read_accepts, read_ok}
use native.Mathlib.Omega.{arith}
use mathlib.Core.Path.{ap, sym, ◌∙◌}
use Rattle.capture.proofs.read.memory_part.Goals as goal

pub overflow_sub-end : goal.overflow_sub-end
overflow_sub-end c = omega (arith, read_accepts c.args.profile c.args.file.now (sym (read_ok _ _) ∙ ap is_ok (sym c.state_of.ensures) ∙ sym c.is_ok.ensures.value ∙ c.if-is_ok.true))
