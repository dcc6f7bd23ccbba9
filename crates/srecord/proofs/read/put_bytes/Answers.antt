-- `srecord::read::put_bytes` meets its contract: the bytes that are left, stored from where the loop has come. Assumes nothing.
use Prim.Native.Nat.{◌+◌, ◌-◌, ◌*◌}
use native.Mathlib.Omega.{arith}
use mathlib.Core.Path.{◌≡◌, sym, ◌∙◌}
use lib.ListN.{length-set}
use borrow.Author.Rules.{rules}
use Rattle.srecord.proofs.Spelt.{spelt_more, put_more, but_none, byte_is}
use Rattle.srecord.proofs.read.put_bytes.Goals as goal

pub returns-in_default : goal.returns-in_default
returns-in_default c = let s = c.loop-k in
    let b = (spelt_more (c.args.n - s.k) (c.args.from + 2 * s.k) c.args.file.now (search rules) s.invariant.1.0).0 in
    let z = but_none 256 _ (sym c.pair_at.ensures ∙ c.in_default.is) in
    absurd (omega arith)

pub loop-k-preserved : goal.loop-k-preserved
loop-k-preserved c = let s = c.loop-k in
    let left = c.args.n - s.k in
    let p = c.args.from + 2 * s.k in
    let x : c.args.n - (s.k + 1) ≡ left - 1 = omega arith in
    let y : c.args.from + 2 * (s.k + 1) ≡ p + 2 = omega arith in
    let z : c.args.at + (s.k + 1) ≡ c.args.at + s.k + 1 = omega arith in
    let b = byte_is _ _ _ (sym c.pair_at.ensures ∙ c.in-Some.is) in
    (simp length-set s.invariant.0, rw (x, y, z) ((spelt_more left p c.args.file.now (search rules) s.invariant.1.0).1, s.invariant.1.1 ∙ rw b.0 at (put_more left p (c.args.at + s.k) c.args.file.now s.mem (search rules))))
