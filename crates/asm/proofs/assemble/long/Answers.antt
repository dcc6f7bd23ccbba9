use Rattle.asm.proofs.Letters.{long_row}
use lib.Seq.{length-take-le}
use native.Mathlib.Omega.{arith}
use mathlib.Core.Path.{sym}
use Rattle.asm.proofs.assemble.long.Goals as goal

pub slice_bounds-place-end : goal.slice_bounds-place-end
slice_bounds-place-end c = sym (length-take-le 256 c.args.line.now (omega (arith, c.requires)))

pub returns : goal.returns
returns c = long_row _ _ _ c.requires c.in_ok-place.ensures
