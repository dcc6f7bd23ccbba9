-- `Named::name` meets its contract: the bytes that are left to be named. Assumes nothing.
use Prim.Native.Nat.{◌+◌, ◌-◌}
use native.Mathlib.Omega.{arith}
use mathlib.Core.Path.{◌≡◌, ◌∙◌}
use borrow.Author.Rules.{rules}
use Rattle.srecord.proofs.Naming.{any_more, all_more}
use Rattle.srecord.proofs.named.Named.name.Goals as goal

pub loop-p-preserved : goal.loop-p-preserved
loop-p-preserved c = let s = c.loop-p in
    let e = c.name_one-any.ensures in
    let left = c.args.at + c.args.n - s.p in
    let z : c.args.at + c.args.n - (s.p + 1) ≡ left - 1 = omega arith in
    rw z (s.invariant.0 ∙ rw (e.0, e.1) (any_more left s.p s.any s.self.words (search rules)), s.invariant.1 ∙ rw e.1 (all_more left s.p s.self.words (search rules)))
