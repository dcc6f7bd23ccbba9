-- `srecord::write::sum_of` meets its contract: the sum of the list, and each byte's bound. Assumes nothing.
use native.Mathlib.Omega.{arith}
use Rattle.std.proofs.Common.{rules, ◌≡◌, sum, ◌∙◌}
use Rattle.std.proofs.iter.runs.Sources.{sums}
use Rattle.srecord.proofs.Text.{sum_is, sum_le}
use Rattle.srecord.proofs.write.sum_of.Goals as goal

pub returns : goal.returns
returns c = let e : c.sum.result ≡ sum c.args.bytes.now = search (rules, sums) in
    let s = e ∙ sum_is c.args.bytes.now in
    (s, omega (arith, s, sum_le c.args.bytes.now (λ i. search rules)))
