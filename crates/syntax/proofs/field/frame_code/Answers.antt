use mathlib.Core.Path.{◌≡◌, ◌∙◌}
use Rattle.std.proofs.Common.{rules, pos, Ok, w32, FitsSigned}
use Rattle.std.specs.Int.{int_div_euclid}
use Rattle.std.proofs.lemmas.Int.{to_z-of_z}
use Rattle.syntax.specs.Worth.{signed_code}
use Rattle.syntax.proofs.Codes.{frame_rounded}
use Rattle.syntax.proofs.field.frame_code.Goals as goal

pub returns : goal.returns
returns c =
    let f : FitsSigned w32 c.args.v = c.ranges.v in
    let g : FitsSigned w32 c.div_euclid.result = search rules in
    let d : c.div_euclid.result ≡ int_div_euclid c.args.v (pos 8) = simp to_z-of_z at c.div_euclid.ensures in
    let s : c.signed_code.result ≡ signed_code c.args.h (Ok c.div_euclid.result) = simp to_z-of_z at c.signed_code.ensures in
    s ∙ rw d (frame_rounded _ _)
