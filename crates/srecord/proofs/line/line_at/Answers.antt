-- `srecord::line::line_at` meets its contract: each part that is not found, and the record. Assumes nothing.
use native.Mathlib.Omega.{arith}
use Prim.Native.Nat.{◌+◌, ◌*◌, ◌≤◌}
use mathlib.Core.Path.{sym, ◌∙◌}
use lib.ListN.{length}
use borrow.Author.Rules.{rules}
use Rattle.srecord.proofs.Formed.{formed_short, formed_headless, formed_endless, ends_outside, head_found, head_none}
use Rattle.srecord.proofs.Judge.{found_none, sum_none, sum_small, end_none, check_off, found_whole}
use Rattle.srecord.proofs.line.line_at.Goals as goal

pub returns-then-left-lt4 : goal.returns-then-left-lt4
returns-then-left-lt4 c = sym (found_none _ _ (formed_short c.args.at c.args.file.now (search rules)))

pub returns-in_err-head : goal.returns-in_err-head
returns-in_err-head c = rw (found_none _ _ (formed_headless _ _ (head_none _ _ (sym c.head_at.ensures ∙ c.in_err-head.was)))) (search rules)

pub returns-then-left-head : goal.returns-then-left-head
returns-then-left-head c = let d = head_found _ _ _ (sym c.head_at.ensures ∙ c.in_ok-head.was) in
    let l : length c.args.file.now ≤ c.args.at + 4 + 2 * c.in_ok-head.head.count = omega arith in
    sym (found_none _ _ (formed_endless _ _ (rw d.count (ends_outside _ _ l))))

pub returns-in_err-sum : goal.returns-in_err-sum
returns-in_err-sum c = let d = head_found _ _ _ (sym c.head_at.ensures ∙ c.in_ok-head.was) in
    rw (sum_none _ _ _ d (sym c.sum_at.ensures ∙ c.in_err-sum.was)) (search rules)

pub returns-in_err-next : goal.returns-in_err-next
returns-in_err-next c = let d = head_found _ _ _ (sym c.head_at.ensures ∙ c.in_ok-head.was) in
    rw (end_none _ _ _ d (sym c.line_end.ensures ∙ c.in_err-next.was)) (search rules)

pub overflow_add-head-2 : goal.overflow_add-head-2
overflow_add-head-2 c = let d = head_found _ _ _ (sym c.head_at.ensures ∙ c.in_ok-head.was) in
    omega (arith, d.count, d.small, sum_small _ _ _ d _ (sym c.sum_at.ensures ∙ c.in_ok-sum.was))

pub returns-then-head-sum-ne255 : goal.returns-then-head-sum-ne255
returns-then-head-sum-ne255 c = let d = head_found _ _ _ (sym c.head_at.ensures ∙ c.in_ok-head.was) in
    sym (check_off _ _ _ d _ _ (sym c.sum_at.ensures ∙ c.in_ok-sum.was) (sym c.line_end.ensures ∙ c.in_ok-next.was) c.if-head-sum-ne255.true)

pub returns : goal.returns
returns c = let d = head_found _ _ _ (sym c.head_at.ensures ∙ c.in_ok-head.was) in
    sym (found_whole _ _ _ d _ _ (sym c.sum_at.ensures ∙ c.in_ok-sum.was) (sym c.line_end.ensures ∙ c.in_ok-next.was) _ c.number_at.ensures.0 c.if-head-sum-ne255.false)
