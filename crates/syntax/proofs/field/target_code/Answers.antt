use mathlib.Core.Path.{◌≡◌, sym, ◌∙◌}
use native.Mathlib.Omega.{arith}
use Rattle.std.proofs.Common.{rules, pos, Ok, w32, FitsSigned}
use Rattle.std.specs.Int.{int_div_euclid, int_rem_euclid}
use Rattle.std.proofs.lemmas.Int.{to_z-of_z, ints}
use Rattle.syntax.specs.Worth.{signed_code}
use Rattle.syntax.proofs.Codes.{target_whole}
use Rattle.syntax.proofs.field.target_code.Goals as goal

pub returns-then-rem_euclid-eq0 : goal.returns-then-rem_euclid-eq0
returns-then-rem_euclid-eq0 c =
    let f : FitsSigned w32 c.args.v = c.ranges.v in
    let g : FitsSigned w32 c.div_euclid.result = search rules in
    let k : FitsSigned w32 c.rem_euclid.result = search rules in
    let d : c.div_euclid.result ≡ int_div_euclid c.args.v (pos 4) = simp to_z-of_z at c.div_euclid.ensures in
    let m : c.rem_euclid.result ≡ int_rem_euclid c.args.v (pos 4) = simp to_z-of_z at c.rem_euclid.ensures.value in
    let z : c.rem_euclid.result ≡ pos 0 = omega (arith, ints, c.if-rem_euclid-eq0.true) in
    let s : c.signed_code.result ≡ signed_code c.args.h (Ok c.div_euclid.result) = simp to_z-of_z at c.signed_code.ensures in
    s ∙ rw d (target_whole _ _ (sym m ∙ z))
