-- Where every operand is fine, each holds its code.
use Prim.Native.Nat.{ℕ}
use native.Mathlib.Omega.{arith}
use mathlib.Core.Path.{◌≡◌, refl}
use Rattle.std.specs.Prelude.{Ok, Err}
use Rattle.syntax.specs.Worth.{Field}
use Rattle.syntax.specs.Inside.{Operands}
use Rattle.syntax.specs.declared.field.Misfit.{Misfit}
use Rattle.asm.specs.Inside.{Check, after_of, checked_of, code_in}

bad : {A : Type 0} (e : Misfit) → ◌≡◌ {A = Check} (Ok tt) (Err e) → A
bad e q = let z : ◌≡◌ {A = ℕ} 0 1 = cc in let y : ⊥ = omega arith in absurd y

held : (c : Check) (f : Field) → Ok tt ≡ after_of c f → (Ok tt ≡ c) × (f ≡ Ok (code_in f))
held (Err (Misfit.Off k)) f q = bad _ q
held (Err Misfit.Unfit) (Err e) q = bad _ q
held (Err Misfit.Unfit) (Ok n) q = bad _ q
held (Ok u) (Err e) q = bad _ q
held (Ok u) (Ok n) q = (refl, refl)

pub all_held : (o : Operands) → Ok tt ≡ checked_of o → (o.a ≡ Ok (code_in o.a)) × (o.b ≡ Ok (code_in o.b)) × (o.c ≡ Ok (code_in o.c)) × (o.d ≡ Ok (code_in o.d)) × (o.e ≡ Ok (code_in o.e))
all_held o q =
    let e : Check = after_of (Ok tt) o.e in
    let d : Check = after_of e o.d in
    let c : Check = after_of d o.c in
    let b : Check = after_of c o.b in
    let ha = held b o.a q in
    let hb = held c o.b ha.0 in
    let hc = held d o.c hb.0 in
    let hd = held e o.d hc.0 in
    (ha.1, hb.1, hc.1, hd.1, (held (Ok tt) o.e hd.0).1)
