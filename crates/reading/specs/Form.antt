-- The form of an instruction, and the instruction that a word of a form is. The operands stay in the word. This serves code alone.
use Rattle.std.specs.Prelude.{true, false, Option, Some, None, Result, Ok, Err}
use Rattle.insn.specs.Read.{arith_imm_at, arith_at, arith_one_at, multiply_at, multiply_imm_at, multiply_low_at, logic_imm_at, logic_at, logic_one_at, compare_imm_at, compare_at, rotate_imm_at, rotate_at, shift_at, srawi_at, rotate_double_at, load_at, load_indexed_at, store_at, store_indexed_at, load_double_at, store_double_at, stack_at, branch_at, branch_if_at, branch_to_at, trap_at, move_spr_at, move_reg_at, wrteei_at, rfi_at, sync_at, cache_at}
use Rattle.memory.specs.declared.access.Fault.{Fault}
use Rattle.insn.specs.declared.fields.Fields.{Fields}
use Rattle.insn.specs.declared.instr.Instr.{Instr}
use Rattle.insn.specs.declared.instr.Arithmetic.{Arithmetic}
use Rattle.insn.specs.declared.instr.Logical.{Logical}
use Rattle.insn.specs.declared.instr.Compare.{Compare}
use Rattle.insn.specs.declared.instr.Rotate.{Rotate}
use Rattle.insn.specs.declared.instr.LoadStore.{LoadStore}
use Rattle.insn.specs.declared.instr.Branch.{Branch}
use Rattle.insn.specs.declared.instr.System.{System}
use Rattle.reading.specs.declared.form.Form.{Form}

abbrev pub arithmetic_form : Arithmetic → Form
arithmetic_form (Arithmetic.Immediate op rt ra si) = Form.ArithImm op
arithmetic_form (Arithmetic.Register op rt ra rb oe rc) = Form.Arith op
arithmetic_form (Arithmetic.One op rt ra oe rc) = Form.ArithOne op
arithmetic_form (Arithmetic.Multiply sign rt ra rb rc) = Form.Multiply sign
arithmetic_form (Arithmetic.MultiplyImm rt ra si) = Form.MultiplyImm
arithmetic_form (Arithmetic.MultiplyLow rt ra rb oe rc) = Form.MultiplyLow

abbrev pub logical_form : Logical → Form
logical_form (Logical.Immediate op rs ra ui) = Form.LogicImm op
logical_form (Logical.Register op rs ra rb rc) = Form.Logic op
logical_form (Logical.One op rs ra rc) = Form.LogicOne op

abbrev pub compare_form : Compare → Form
compare_form (Compare.Immediate sign ra imm) = Form.CompareImm sign
compare_form (Compare.Register sign ra rb) = Form.Compare sign

abbrev pub rotate_form : Rotate → Form
rotate_form (Rotate.Immediate op rs ra sh mb me rc) = Form.RotateImm op
rotate_form (Rotate.Register rs ra rb mb me rc) = Form.Rotate
rotate_form (Rotate.Shift op rs ra rb rc) = Form.Shift op
rotate_form (Rotate.Srawi rs ra sh rc) = Form.Srawi
rotate_form (Rotate.Double op ds da sh mb rc) = Form.RotateDouble op

abbrev pub load_store_form : LoadStore → Form
load_store_form (LoadStore.Load w false rt ra d) = Form.Load w
load_store_form (LoadStore.Load w true rt ra d) = Form.LoadUpdate w
load_store_form (LoadStore.LoadIndexed w rt ra rb) = Form.LoadIndexed w
load_store_form (LoadStore.Store w false rs ra d) = Form.Store w
load_store_form (LoadStore.Store w true rs ra d) = Form.StoreUpdate w
load_store_form (LoadStore.StoreIndexed w rs ra rb) = Form.StoreIndexed w
load_store_form (LoadStore.LoadDouble false dt ra d) = Form.LoadDouble
load_store_form (LoadStore.LoadDouble true dt ra d) = Form.LoadDoubleUpdate
load_store_form (LoadStore.StoreDouble false ds ra d) = Form.StoreDouble
load_store_form (LoadStore.StoreDouble true ds ra d) = Form.StoreDoubleUpdate

abbrev pub branch_form : Branch → Form
branch_form (Branch.Always aa lk li) = Form.Branch
branch_form (Branch.Conditional bo bi bd aa lk) = Form.BranchIf
branch_form (Branch.Register op bo bi bh lk) = Form.BranchTo op

abbrev pub system_form : System → Form
system_form (System.Spr op rt spr) = Form.MoveSpr op
system_form (System.Move op rt) = Form.MoveReg op
system_form (System.Wrteei e) = Form.Wrteei
system_form System.Rfi = Form.Rfi
system_form System.Sync = Form.Sync

unfoldable pub form_of : Instr → Form
form_of (Instr.Arithmetic i) = arithmetic_form i
form_of (Instr.Logical i) = logical_form i
form_of (Instr.Compare i) = compare_form i
form_of (Instr.Rotate i) = rotate_form i
form_of (Instr.LoadStore i) = load_store_form i
form_of (Instr.Stack dd op rt ra) = Form.Stack op
form_of (Instr.Branch i) = branch_form i
form_of (Instr.Trap to ra rb tg) = Form.Trap
form_of (Instr.System i) = system_form i
form_of (Instr.Cache op hint ra rb) = Form.Cache op

-- what a fetch found: no word, or what it reads as
abbrev pub Found : Type 0
Found = Result (Option Instr) Fault

-- a form with a word's parts
unfoldable pub made_of : Form → Fields → Found
made_of Form.Unaligned f = Err Fault.Unaligned
made_of Form.Outside f = Err Fault.Outside
made_of Form.Illegal f = Ok None
made_of (Form.ArithImm op) f = Ok (Some (arith_imm_at op f))
made_of (Form.Arith op) f = Ok (Some (arith_at op f))
made_of (Form.ArithOne op) f = Ok (Some (arith_one_at op f))
made_of (Form.Multiply sign) f = Ok (Some (multiply_at sign f))
made_of Form.MultiplyImm f = Ok (Some (multiply_imm_at f))
made_of Form.MultiplyLow f = Ok (Some (multiply_low_at f))
made_of (Form.LogicImm op) f = Ok (Some (logic_imm_at op f))
made_of (Form.Logic op) f = Ok (Some (logic_at op f))
made_of (Form.LogicOne op) f = Ok (Some (logic_one_at op f))
made_of (Form.CompareImm sign) f = Ok (Some (compare_imm_at sign f))
made_of (Form.Compare sign) f = Ok (Some (compare_at sign f))
made_of (Form.RotateImm op) f = Ok (Some (rotate_imm_at op f))
made_of Form.Rotate f = Ok (Some (rotate_at f))
made_of (Form.Shift op) f = Ok (Some (shift_at op f))
made_of Form.Srawi f = Ok (Some (srawi_at f))
made_of (Form.RotateDouble op) f = Ok (Some (rotate_double_at op f))
made_of (Form.Load w) f = Ok (Some (load_at w false f))
made_of (Form.LoadUpdate w) f = Ok (Some (load_at w true f))
made_of (Form.LoadIndexed w) f = Ok (Some (load_indexed_at w f))
made_of (Form.Store w) f = Ok (Some (store_at w false f))
made_of (Form.StoreUpdate w) f = Ok (Some (store_at w true f))
made_of (Form.StoreIndexed w) f = Ok (Some (store_indexed_at w f))
made_of Form.LoadDouble f = Ok (Some (load_double_at false f))
made_of Form.LoadDoubleUpdate f = Ok (Some (load_double_at true f))
made_of Form.StoreDouble f = Ok (Some (store_double_at false f))
made_of Form.StoreDoubleUpdate f = Ok (Some (store_double_at true f))
made_of (Form.Stack op) f = Ok (Some (stack_at op f))
made_of Form.Branch f = Ok (Some (branch_at f))
made_of Form.BranchIf f = Ok (Some (branch_if_at f))
made_of (Form.BranchTo op) f = Ok (Some (branch_to_at op f))
made_of Form.Trap f = Ok (Some (trap_at f))
made_of (Form.MoveSpr op) f = Ok (Some (move_spr_at op f))
made_of (Form.MoveReg op) f = Ok (Some (move_reg_at op f))
made_of Form.Wrteei f = Ok (Some (wrteei_at f))
made_of Form.Rfi f = Ok (Some (rfi_at f))
made_of Form.Sync f = Ok (Some (sync_at f))
made_of (Form.Cache op) f = Ok (Some (cache_at op f))
