-- A core has an instruction whose unwritten fields are 0 exactly when it has its mnemonic.
use mathlib.Core.Path.{◌≡◌, refl}
use mathlib.Core.Bool.{Bool, true, false, ◌&&◌}
use Rattle.expr.proofs.Cases.{clash}
use Rattle.std.proofs.Math.Bool.{or-true}
use Rattle.word.proofs.Truth.{or_none}
use Rattle.std.proofs.lemmas.Bool.{and_parts}
use Rattle.insn.specs.Valid.{trap_form, valid_of}
use Rattle.insn.specs.Profile.{arithmetic_on42, rotate_on42, has, valid_on}
use Rattle.insn.specs.declared.profile.Profile.{Profile}
use Rattle.insn.specs.declared.instr.Instr.{Instr}
use Rattle.syntax.specs.Syntax.{plain, spelled_on}

and_same : (b : Bool) → (b && b) ≡ b
and_same true = refl
and_same false = refl

-- the 42X has every mnemonic
pub spelled_42x : (i : Instr) → spelled_on Profile.Ppe42x i ≡ true
spelled_42x (Instr.Arithmetic i) = or-true (arithmetic_on42 i)
spelled_42x (Instr.Logical i) = refl
spelled_42x (Instr.Compare i) = refl
spelled_42x (Instr.Rotate i) = or-true (rotate_on42 i)
spelled_42x (Instr.LoadStore i) = refl
spelled_42x (Instr.Stack dd op rt ra) = refl
spelled_42x (Instr.Branch i) = refl
spelled_42x (Instr.Trap to ra rb tg) = refl
spelled_42x (Instr.System i) = refl
spelled_42x (Instr.Cache op hint ra rb) = refl

pub plain_valid : (p : Profile) (i : Instr) → plain i ≡ true → valid_on p i ≡ (spelled_on p i && valid_of i)
plain_valid Profile.Ppe42x i e = rw (spelled_42x i)
plain_valid Profile.Ppe42 (Instr.Arithmetic i) e = rw (or_none (arithmetic_on42 i))
plain_valid Profile.Ppe42 (Instr.Logical i) e = refl
plain_valid Profile.Ppe42 (Instr.Compare i) e = refl
plain_valid Profile.Ppe42 (Instr.Rotate i) e = rw (or_none (rotate_on42 i))
plain_valid Profile.Ppe42 (Instr.LoadStore i) e = refl
plain_valid Profile.Ppe42 (Instr.Stack dd op rt ra) e = refl
plain_valid Profile.Ppe42 (Instr.Branch i) e = refl
plain_valid Profile.Ppe42 (Instr.Trap to ra rb false) e = and_same (trap_form to ra rb)
plain_valid Profile.Ppe42 (Instr.Trap to ra rb true) e = clash e
plain_valid Profile.Ppe42 (Instr.System i) e = refl
plain_valid Profile.Ppe42 (Instr.Cache op hint ra rb) e = refl

pub plain_spelled : (p : Profile) (i : Instr) → plain i ≡ true → valid_on p i ≡ true → spelled_on p i ≡ true
plain_spelled p i e v = (and_parts (spelled_on p i) (valid_of i) (rw (plain_valid p i e) at v)).0

pub spelled_valid : (p : Profile) (i : Instr) → plain i ≡ true → spelled_on p i ≡ true → valid_of i ≡ true → valid_on p i ≡ true
spelled_valid p i e s v = rw (plain_valid p i e, s, v)

-- what is valid on a core is valid on a 42X
pub on_valid : (p : Profile) (i : Instr) → valid_on p i ≡ true → valid_of i ≡ true
on_valid p i v = (and_parts (has p i) (valid_of i) v).1
