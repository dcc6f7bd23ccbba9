-- What the private functions answer: the rows of a line's first byte, an instruction with other operands. For their
-- contracts; Answer says what a line is answered.
use Rattle.std.specs.Prelude.{ℕ, Option, Some, None, Result, Ok, Err, ◌%◌, ◌≡◌, List, [], ◌∷◌, eqb}
use Rattle.insn.specs.Write.{written_on}
use Rattle.insn.specs.declared.profile.Profile.{Profile}
use Rattle.insn.specs.declared.instr.Instr.{Instr}
use Rattle.insn.specs.declared.instr.Arithmetic.{Arithmetic}
use Rattle.insn.specs.declared.instr.Logical.{Logical}
use Rattle.insn.specs.declared.instr.Compare.{Compare}
use Rattle.insn.specs.declared.instr.Rotate.{Rotate}
use Rattle.insn.specs.declared.instr.LoadStore.{LoadStore}
use Rattle.insn.specs.declared.instr.Branch.{Branch}
use Rattle.insn.specs.declared.instr.System.{System}
use Rattle.insn.specs.declared.instr.SprOp.{SprOp}
use Rattle.syntax.specs.Rows.{samples}
use Rattle.std.specs.Option.{ok_or}
use Rattle.syntax.specs.Worth.{Field}
use Rattle.syntax.specs.Inside.{Operands, Place, ReadIn}
use Rattle.syntax.specs.declared.field.Misfit.{Misfit}
use Rattle.syntax.specs.declared.five.Five.{Five}
use Rattle.asm.specs.declared.assemble.Refused.{Refused}
use Rattle.asm.specs.Answer.{Assembled}

abbrev pub Codes : Type 0
Codes = Five ℕ

-- what the operands come to
abbrev pub Check : Type 0
Check = Result (Unit {0}) Misfit

-- the first byte of a line chooses the rows
unfoldable pub Placed : Profile → List ℕ → Place → Type 0
Placed p [] r = r ≡ Err (record { column = 0 })
Placed p (c ∷ s) r = ReadIn (samples p c) (c ∷ s) r

-- left to right
abbrev pub after_of : Check → Field → Check
after_of (Err (Misfit.Off k)) f = Err (Misfit.Off k)
after_of (Err Misfit.Unfit) (Err e) = Err e
after_of (Err Misfit.Unfit) (Ok n) = Err Misfit.Unfit
after_of (Ok u) (Err e) = Err e
after_of (Ok u) (Ok n) = Ok u

abbrev pub checked_of : Operands → Check
checked_of o = after_of (after_of (after_of (after_of (after_of (Ok tt) o.e) o.d) o.c) o.b) o.a

abbrev pub code_in : Field → ℕ
code_in (Ok n) = n
code_in (Err e) = 0

abbrev pub codes_in : Operands → Codes
codes_in o = record { a = code_in o.a; b = code_in o.b; c = code_in o.c; d = code_in o.d; e = code_in o.e }

abbrev pub held_of : Check → Operands → Result Codes Misfit
held_of (Err e) o = Err e
held_of (Ok u) o = Ok (codes_in o)

-- an instruction with other operands
abbrev pub eight_of : ℕ → ℕ
eight_of n = n % 0x100

abbrev pub sixteen_of : ℕ → ℕ
sixteen_of n = n % 0x1_0000

abbrev pub filled_arithmetic : Arithmetic → Codes → Arithmetic
filled_arithmetic (Arithmetic.Immediate op rt ra si) o = Arithmetic.Immediate op (eight_of o.c) (eight_of o.b) (sixteen_of o.a)
filled_arithmetic (Arithmetic.Register op rt ra rb oe rc) o = Arithmetic.Register op (eight_of o.c) (eight_of o.b) (eight_of o.a) oe rc
filled_arithmetic (Arithmetic.One op rt ra oe rc) o = Arithmetic.One op (eight_of o.b) (eight_of o.a) oe rc
filled_arithmetic (Arithmetic.Multiply sign rt ra rb rc) o = Arithmetic.Multiply sign (eight_of o.c) (eight_of o.b) (eight_of o.a) rc
filled_arithmetic (Arithmetic.MultiplyImm rt ra si) o = Arithmetic.MultiplyImm (eight_of o.c) (eight_of o.b) (sixteen_of o.a)
filled_arithmetic (Arithmetic.MultiplyLow rt ra rb oe rc) o = Arithmetic.MultiplyLow (eight_of o.c) (eight_of o.b) (eight_of o.a) oe rc

abbrev pub filled_logical : Logical → Codes → Logical
filled_logical (Logical.Immediate op rs ra ui) o = Logical.Immediate op (eight_of o.b) (eight_of o.c) (sixteen_of o.a)
filled_logical (Logical.Register op rs ra rb rc) o = Logical.Register op (eight_of o.b) (eight_of o.c) (eight_of o.a) rc
filled_logical (Logical.One op rs ra rc) o = Logical.One op (eight_of o.a) (eight_of o.b) rc

abbrev pub filled_compare : Compare → Codes → Compare
filled_compare (Compare.Immediate sign ra imm) o = Compare.Immediate sign (eight_of o.b) (sixteen_of o.a)
filled_compare (Compare.Register sign ra rb) o = Compare.Register sign (eight_of o.b) (eight_of o.a)

abbrev pub filled_rotate : Rotate → Codes → Rotate
filled_rotate (Rotate.Immediate op rs ra sh mb me rc) o = Rotate.Immediate op (eight_of o.d) (eight_of o.e) (sixteen_of o.c) (eight_of o.b) (eight_of o.a) rc
filled_rotate (Rotate.Register rs ra rb mb me rc) o = Rotate.Register (eight_of o.d) (eight_of o.e) (eight_of o.c) (eight_of o.b) (eight_of o.a) rc
filled_rotate (Rotate.Shift op rs ra rb rc) o = Rotate.Shift op (eight_of o.b) (eight_of o.c) (eight_of o.a) rc
filled_rotate (Rotate.Srawi rs ra sh rc) o = Rotate.Srawi (eight_of o.b) (eight_of o.c) (eight_of o.a) rc
filled_rotate (Rotate.Double op ds da sh mb rc) o = Rotate.Double op (eight_of o.c) (eight_of o.d) (eight_of o.b) (eight_of o.a) rc

abbrev pub filled_load_store : LoadStore → Codes → LoadStore
filled_load_store (LoadStore.Load width update rt ra d) o = LoadStore.Load width update (eight_of o.c) (eight_of o.a) (sixteen_of o.b)
filled_load_store (LoadStore.LoadIndexed width rt ra rb) o = LoadStore.LoadIndexed width (eight_of o.c) (eight_of o.b) (eight_of o.a)
filled_load_store (LoadStore.Store width update rs ra d) o = LoadStore.Store width update (eight_of o.c) (eight_of o.a) (sixteen_of o.b)
filled_load_store (LoadStore.StoreIndexed width rs ra rb) o = LoadStore.StoreIndexed width (eight_of o.c) (eight_of o.b) (eight_of o.a)
filled_load_store (LoadStore.LoadDouble update dt ra d) o = LoadStore.LoadDouble update (eight_of o.c) (eight_of o.a) (sixteen_of o.b)
filled_load_store (LoadStore.StoreDouble update ds ra d) o = LoadStore.StoreDouble update (eight_of o.c) (eight_of o.a) (sixteen_of o.b)

abbrev pub filled_branch : Branch → Codes → Branch
filled_branch (Branch.Always aa lk li) o = Branch.Always aa lk o.a
filled_branch (Branch.Conditional bo bi bd aa lk) o = Branch.Conditional (eight_of o.c) (eight_of o.b) (sixteen_of o.a) aa lk
filled_branch (Branch.Register op bo bi bh lk) o = Branch.Register op (eight_of o.b) (eight_of o.a) bh lk

abbrev pub filled_spr : SprOp → Codes → System
filled_spr SprOp.Mfspr o = System.Spr SprOp.Mfspr (eight_of o.b) (sixteen_of o.a)
filled_spr SprOp.Mtspr o = System.Spr SprOp.Mtspr (eight_of o.a) (sixteen_of o.b)

abbrev pub filled_system : System → Codes → System
filled_system (System.Spr op rt spr) o = filled_spr op o
filled_system (System.Move op rt) o = System.Move op (eight_of o.a)
filled_system (System.Wrteei e) o = System.Wrteei (eqb o.a 1)
filled_system System.Rfi o = System.Rfi
filled_system System.Sync o = System.Sync

abbrev pub filled : Instr → Codes → Instr
filled (Instr.Arithmetic x) o = Instr.Arithmetic (filled_arithmetic x o)
filled (Instr.Logical x) o = Instr.Logical (filled_logical x o)
filled (Instr.Compare x) o = Instr.Compare (filled_compare x o)
filled (Instr.Rotate x) o = Instr.Rotate (filled_rotate x o)
filled (Instr.LoadStore x) o = Instr.LoadStore (filled_load_store x o)
filled (Instr.Stack dd op rt ra) o = Instr.Stack (sixteen_of o.b) op (eight_of o.c) (eight_of o.a)
filled (Instr.Branch x) o = Instr.Branch (filled_branch x o)
filled (Instr.Trap to ra rb tg) o = Instr.Trap (eight_of o.c) (eight_of o.b) (eight_of o.a) tg
filled (Instr.System x) o = Instr.System (filled_system x o)
filled (Instr.Cache op hint ra rb) o = Instr.Cache op hint (eight_of o.b) (eight_of o.a)

-- what is answered for a row's word and a line's operands
abbrev pub refused_by : Misfit → Refused
refused_by (Misfit.Off k) = Refused.Value k
refused_by Misfit.Unfit = Refused.Operands

abbrev pub encoded_with : Profile → Option Instr → Codes → Assembled
encoded_with p None o = Err Refused.Operands
encoded_with p (Some i) o = ok_or (written_on p (filled i o)) Refused.Operands

abbrev pub encoded_of : Profile → Option Instr → Operands → Assembled
encoded_of p d o = encoded_with p d (codes_in o)

abbrev pub settled_of : Profile → Check → Option Instr → Operands → Assembled
settled_of p (Err e) d o = Err (refused_by e)
settled_of p (Ok u) d o = encoded_of p d o
