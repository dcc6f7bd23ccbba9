-- `srecord::write::put_hexes` meets its contract: the bytes that are left, written from where the loop has come. Assumes nothing.
use Prim.Native.Nat.{◌+◌, ◌*◌}
use native.Mathlib.Omega.{arith}
use mathlib.Core.Path.{◌≡◌, ◌∙◌}
use lib.ListN.{length-set}
use borrow.Author.Rules.{rules}
use Rattle.srecord.proofs.Text.{hex_more}
use Rattle.srecord.proofs.write.put_hexes.Goals as goal

pub loop-i-preserved : goal.loop-i-preserved
loop-i-preserved c = let s = c.loop-i in let d = c.hex_digit.ensures in let e = c.hex_digit-in-loop-i.ensures in
    let z : c.args.at + 2 * (s.i + 1) ≡ c.args.at + 2 * s.i + 2 = omega arith in
    (simp length-set s.invariant.0, s.invariant.1 ∙ rw (z, c.hex_digit.ensures, c.hex_digit-in-loop-i.ensures) (hex_more s.i (c.args.at + 2 * s.i) _ s.out (search rules)))
