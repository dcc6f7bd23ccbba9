-- `Sofar::check` meets its contract: what its type asks. Assumes nothing.
use native.Mathlib.Omega.{arith}
use mathlib.Core.Path.{sym, ◌∙◌}
use Rattle.word.proofs.Truth.{never}
use Rattle.srecord.proofs.Judge.{rec_ended, rec_data, rec_end, rec_count, rec_other, data_yes, data_low, data_high}
use Rattle.srecord.proofs.check.Sofar.check.Goals as goal

pub returns-then-self : goal.returns-then-self
returns-then-self c = λ named k. record { refusal = rec_ended _ _ _ _ _ c.if-self.true; words = λ z. never (sym z) }

pub returns-in-1-to-3 : goal.returns-in-1-to-3
returns-in-1-to-3 c = λ named k. let w = rec_data _ _ _ _ _ c.if-self.false (data_yes c.args.found.kind (omega arith) (omega arith)) in let q = c.check_data.ensures named k in record { refusal = q.refusal ∙ sym w.0; words = λ z. rw w.1 (q.words z) }

pub returns-in-7-to-255 : goal.returns-in-7-to-255
returns-in-7-to-255 c = λ named k. let w = rec_end _ _ _ _ _ c.if-self.false (data_high c.args.found.kind (omega arith)) (omega arith) in record { refusal = c.check_end.ensures named ∙ sym w.0; words = λ z. rw w.1 k }

pub returns-in-5 : goal.returns-in-5
returns-in-5 c = λ named k. let w = rec_count _ _ _ _ _ c.if-self.false (data_high c.args.found.kind (omega arith)) (omega arith) c.in-5.is in record { refusal = c.check_count.ensures named ∙ sym w.0; words = λ z. rw w.1 k }

pub returns-in_default : goal.returns-in_default
returns-in_default c = λ named k. let w = rec_other _ _ _ _ _ c.if-self.false (data_low c.args.found.kind (omega arith)) (omega arith) (λ z. omega (arith, z)) in record { refusal = w.0; words = λ z. rw w.1 k }

pub returns-in_default-2 : goal.returns-in_default-2
returns-in_default-2 c = λ named k. let w = rec_other _ _ _ _ _ c.if-self.false (data_high c.args.found.kind (omega arith)) (omega arith) (λ z. omega (arith, z)) in record { refusal = w.0; words = λ z. rw w.1 k }
