-- `insn::valid::reg_defined` meets its contract: bit n of the word tells of register n, at each of the 256 numbers. Assumes nothing.
use mathlib.Core.Bool.{◌&&◌}
use Prim.Native.Nat.{◌%◌}
use native.Mathlib.Omega.{arith}
use lib.Dec.{ltb, lit<}
use Rattle.word.specs.Bits.{bit_at}
use Rattle.word.proofs.Below.{agree_at}
use Rattle.insn.specs.Valid.{reg_of}
use Rattle.insn.proofs.valid.reg_defined.Goals as goal

pub returns : goal.returns
unfolding reg_of
returns c = rw (c.bit_at.ensures, c.of.ensures) (agree_at (λ n m. ltb n 32 && bit_at 0xFFE4_000F (n % 32)) (λ n m. reg_of n) 256 1 tt c.args.n 0 (omega arith) (lit< tt))
