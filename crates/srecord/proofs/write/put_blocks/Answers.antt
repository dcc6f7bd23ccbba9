-- `srecord::write::put_blocks` meets its contract: the blocks that are left, written from where the loop has come. Assumes nothing.
use Prim.Native.Nat.{◌+◌, ◌-◌, ◌*◌, ◌/◌}
use native.Mathlib.Omega.{arith}
use mathlib.Core.Path.{◌≡◌, ◌∙◌}
use lib.ListN.{length}
use borrow.Author.Rules.{rules}
use Rattle.srecord.proofs.Text.{blocks_more}
use Rattle.srecord.proofs.write.put_blocks.Goals as goal

pub loop-k-preserved : goal.loop-k-preserved
loop-k-preserved c = let s = c.loop-k in
    let n = length c.args.memory.now / 32 in
    let x : n - (s.k + 1) ≡ n - s.k - 1 = omega arith in
    let y : 32 * (s.k + 1) ≡ 32 * s.k + 32 = omega arith in
    let z : 79 * (s.k + 1) ≡ 79 * s.k + 79 = omega arith in
    (search rules, s.invariant.1 ∙ rw (c.put_block.ensures, x, y, z) (blocks_more (n - s.k) (32 * s.k) (79 * s.k) _ s.out (search rules) (omega arith)))
