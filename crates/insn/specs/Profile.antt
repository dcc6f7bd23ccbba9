-- What each of the two cores has. The 42X has every instruction; the 42 has none of those that 9.2.1 and 9.2.3 add, and takes tw with
-- TG as without (Table 1.96).
use Rattle.std.specs.Prelude.{ℕ, Bool, true, false, ◌&&◌}
use Rattle.insn.specs.Valid.{trap_form, valid_of}
use Rattle.insn.specs.declared.profile.Profile.{Profile}
use Rattle.insn.specs.declared.instr.Instr.{Instr}
use Rattle.insn.specs.declared.instr.Arithmetic.{Arithmetic}
use Rattle.insn.specs.declared.instr.Rotate.{Rotate}

-- PVR[CVN] of a 42X says Extensions (8.10.13)
abbrev pub is42x : Profile → Bool
is42x Profile.Ppe42 = false
is42x Profile.Ppe42x = true

-- a number that a table has in two columns
abbrev pub column : Profile → ℕ → ℕ → ℕ
column Profile.Ppe42 a b = a
column Profile.Ppe42x a b = b

abbrev pub arithmetic_on42 : Arithmetic → Bool
arithmetic_on42 (Arithmetic.Immediate op rt ra si) = true
arithmetic_on42 (Arithmetic.Register op rt ra rb oe rc) = true
arithmetic_on42 (Arithmetic.One op rt ra oe rc) = true
arithmetic_on42 (Arithmetic.Multiply sign rt ra rb rc) = true
arithmetic_on42 (Arithmetic.MultiplyImm rt ra si) = false
arithmetic_on42 (Arithmetic.MultiplyLow rt ra rb oe rc) = false

abbrev pub rotate_on42 : Rotate → Bool
rotate_on42 (Rotate.Immediate op rs ra sh mb me rc) = true
rotate_on42 (Rotate.Register rs ra rb mb me rc) = true
rotate_on42 (Rotate.Shift op rs ra rb rc) = true
rotate_on42 (Rotate.Srawi rs ra sh rc) = true
rotate_on42 (Rotate.Double op ds da sh mb rc) = false

abbrev pub on42 : Instr → Bool
on42 (Instr.Arithmetic i) = arithmetic_on42 i
on42 (Instr.Logical i) = true
on42 (Instr.Compare i) = true
on42 (Instr.Rotate i) = rotate_on42 i
on42 (Instr.LoadStore i) = true
on42 (Instr.Stack dd op rt ra) = false
on42 (Instr.Branch i) = true
on42 (Instr.Trap to ra rb tg) = trap_form to ra rb
on42 (Instr.System i) = true
on42 (Instr.Cache op hint ra rb) = true

abbrev pub has : Profile → Instr → Bool
has Profile.Ppe42 i = on42 i
has Profile.Ppe42x i = true

abbrev pub valid_on : Profile → Instr → Bool
valid_on p i = has p i && valid_of i
