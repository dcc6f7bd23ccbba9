-- `Sofar::check_data` meets its contract: 13, 14, 15 in their order. Assumes nothing.
use mathlib.Core.Path.{sym, ◌∙◌}
use borrow.Author.Rules.{rules}
use Rattle.word.proofs.Truth.{never}
use Rattle.srecord.specs.File.{places}
use Rattle.srecord.proofs.Judge.{data_mixed, data_none, data_outside, data_inside}
use Rattle.srecord.proofs.Naming.{stand_all, any_named_lem}
use Rattle.srecord.proofs.check.Sofar.check_data.Goals as goal

pub returns-then-not-same_kind : goal.returns-then-not-same_kind
returns-then-not-same_kind c = λ named k. record { refusal = data_mixed _ _ _ _ _ (sym c.same_kind.ensures ∙ c.if-not-same_kind.true); words = λ z. never (sym z) }

pub returns-then-found-eq0 : goal.returns-then-found-eq0
unfolding places
returns-then-found-eq0 c = λ named k. record { refusal = data_none _ _ _ _ _ (sym c.same_kind.ensures ∙ c.if-not-same_kind.false) c.if-found-eq0.true; words = λ z. rw c.if-found-eq0.true k }

pub returns-then-memory-found : goal.returns-then-memory-found
returns-then-memory-found c = λ named k. record { refusal = data_outside _ _ _ _ _ (sym c.same_kind.ensures ∙ c.if-not-same_kind.false) c.if-found-eq0.false c.if-memory-found.true; words = λ z. never (sym z) }

pub returns-then-name : goal.returns-then-name
returns-then-name c = λ named k. record { refusal = sym (data_inside _ _ _ _ _ (sym c.same_kind.ensures ∙ c.if-not-same_kind.false) c.if-found-eq0.false c.if-memory-found.false ∙ rw (← (any_named_lem c.args.found.size c.args.found.address _ named k (search rules)), ← c.name.ensures.0, c.if-name.true)); words = λ z. never (sym z) }

pub returns : goal.returns
returns c = λ named k. record { refusal = sym (data_inside _ _ _ _ _ (sym c.same_kind.ensures ∙ c.if-not-same_kind.false) c.if-found-eq0.false c.if-memory-found.false ∙ rw (← (any_named_lem c.args.found.size c.args.found.address _ named k (search rules)), ← c.name.ensures.0, c.if-name.false)); words = λ z. rw c.name.ensures.1 (stand_all c.args.found.size c.args.found.address _ named k (search rules)) }
