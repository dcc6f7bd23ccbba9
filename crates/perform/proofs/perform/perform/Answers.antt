-- `perform::perform::perform` meets its contract: form by form. Assumes nothing.
use Rattle.machine.specs.Step.{execute_of}
use Rattle.reading.specs.Form.{made_of}
use Rattle.perform.proofs.Stills.{performed, still_same, still_load, still_load_indexed, still_load_double}
use mathlib.Core.Path.{refl}
use Rattle.perform.proofs.perform.perform.Goals as goal

pub returns-in-Unaligned : goal.returns-in-Unaligned
unfolding made_of execute_of
returns-in-Unaligned c = performed _ _ _ _ _ _ _ _ _ _ _ c.in-Unaligned.is refl c.instruction_storage.ensures refl (still_same _ _)

pub returns-in-Outside : goal.returns-in-Outside
unfolding made_of execute_of
returns-in-Outside c = performed _ _ _ _ _ _ _ _ _ _ _ c.in-Outside.is refl (rw (← c.instruction_storage-in-Outside.ensures) c.mark.ensures) refl (still_same _ _)

pub returns-in-Illegal : goal.returns-in-Illegal
unfolding made_of execute_of
returns-in-Illegal c = performed _ _ _ _ _ _ _ _ _ _ _ c.in-Illegal.is refl c.program.ensures refl (still_same _ _)

pub returns-in-ArithImm : goal.returns-in-ArithImm
unfolding made_of execute_of
returns-in-ArithImm c = performed _ _ _ _ _ _ _ _ _ _ _ c.in-ArithImm.is c.fields_of-f.ensures c.arithmetic.ensures refl (still_same _ _)

pub returns-in-Arith : goal.returns-in-Arith
unfolding made_of execute_of
returns-in-Arith c = performed _ _ _ _ _ _ _ _ _ _ _ c.in-Arith.is c.fields_of-f-in-Arith.ensures c.arithmetic-in-Arith.ensures refl (still_same _ _)

pub returns-in-ArithOne : goal.returns-in-ArithOne
unfolding made_of execute_of
returns-in-ArithOne c = performed _ _ _ _ _ _ _ _ _ _ _ c.in-ArithOne.is c.fields_of-f-in-ArithOne.ensures c.arithmetic-in-ArithOne.ensures refl (still_same _ _)

pub returns-in-Multiply : goal.returns-in-Multiply
unfolding made_of execute_of
returns-in-Multiply c = performed _ _ _ _ _ _ _ _ _ _ _ c.in-Multiply.is c.fields_of-f-in-Multiply.ensures c.arithmetic-in-Multiply.ensures refl (still_same _ _)

pub returns-in-MultiplyImm : goal.returns-in-MultiplyImm
unfolding made_of execute_of
returns-in-MultiplyImm c = performed _ _ _ _ _ _ _ _ _ _ _ c.in-MultiplyImm.is c.fields_of-f-in-MultiplyImm.ensures c.arithmetic-in-MultiplyImm.ensures refl (still_same _ _)

pub returns-in-MultiplyLow : goal.returns-in-MultiplyLow
unfolding made_of execute_of
returns-in-MultiplyLow c = performed _ _ _ _ _ _ _ _ _ _ _ c.in-MultiplyLow.is c.fields_of-f-in-MultiplyLow.ensures c.arithmetic-in-MultiplyLow.ensures refl (still_same _ _)

pub returns-in-LogicImm : goal.returns-in-LogicImm
unfolding made_of execute_of
returns-in-LogicImm c = performed _ _ _ _ _ _ _ _ _ _ _ c.in-LogicImm.is c.fields_of-f-in-LogicImm.ensures c.logical.ensures refl (still_same _ _)

pub returns-in-Logic : goal.returns-in-Logic
unfolding made_of execute_of
returns-in-Logic c = performed _ _ _ _ _ _ _ _ _ _ _ c.in-Logic.is c.fields_of-f-in-Logic.ensures c.logical-in-Logic.ensures refl (still_same _ _)

pub returns-in-LogicOne : goal.returns-in-LogicOne
unfolding made_of execute_of
returns-in-LogicOne c = performed _ _ _ _ _ _ _ _ _ _ _ c.in-LogicOne.is c.fields_of-f-in-LogicOne.ensures c.logical-in-LogicOne.ensures refl (still_same _ _)

pub returns-in-CompareImm : goal.returns-in-CompareImm
unfolding made_of execute_of
returns-in-CompareImm c = performed _ _ _ _ _ _ _ _ _ _ _ c.in-CompareImm.is c.fields_of-f-in-CompareImm.ensures c.compare.ensures refl (still_same _ _)

pub returns-in-Compare : goal.returns-in-Compare
unfolding made_of execute_of
returns-in-Compare c = performed _ _ _ _ _ _ _ _ _ _ _ c.in-Compare.is c.fields_of-f-in-Compare.ensures c.compare-in-Compare.ensures refl (still_same _ _)

pub returns-in-RotateImm : goal.returns-in-RotateImm
unfolding made_of execute_of
returns-in-RotateImm c = performed _ _ _ _ _ _ _ _ _ _ _ c.in-RotateImm.is c.fields_of-f-in-RotateImm.ensures c.rotate.ensures refl (still_same _ _)

pub returns-in-Rotate : goal.returns-in-Rotate
unfolding made_of execute_of
returns-in-Rotate c = performed _ _ _ _ _ _ _ _ _ _ _ c.in-Rotate.is c.fields_of-f-in-Rotate.ensures c.rotate-in-Rotate.ensures refl (still_same _ _)

pub returns-in-Shift : goal.returns-in-Shift
unfolding made_of execute_of
returns-in-Shift c = performed _ _ _ _ _ _ _ _ _ _ _ c.in-Shift.is c.fields_of-f-in-Shift.ensures c.rotate-in-Shift.ensures refl (still_same _ _)

pub returns-in-Srawi : goal.returns-in-Srawi
unfolding made_of execute_of
returns-in-Srawi c = performed _ _ _ _ _ _ _ _ _ _ _ c.in-Srawi.is c.fields_of-f-in-Srawi.ensures c.rotate-in-Srawi.ensures refl (still_same _ _)

pub returns-in-RotateDouble : goal.returns-in-RotateDouble
unfolding made_of execute_of
returns-in-RotateDouble c = performed _ _ _ _ _ _ _ _ _ _ _ c.in-RotateDouble.is c.fields_of-f-in-RotateDouble.ensures c.rotate-in-RotateDouble.ensures refl (still_same _ _)

pub returns-in-Load : goal.returns-in-Load
unfolding made_of execute_of
returns-in-Load c = performed _ _ _ _ _ _ _ _ _ _ _ c.in-Load.is c.fields_of-f-in-Load.ensures c.load_store_marked.ensures.0 c.load_store_marked.ensures.1 (still_load _ _ _ _ _ _ _ _ _ _ c.load_store_marked.ensures.1)

pub returns-in-LoadUpdate : goal.returns-in-LoadUpdate
unfolding made_of execute_of
returns-in-LoadUpdate c = performed _ _ _ _ _ _ _ _ _ _ _ c.in-LoadUpdate.is c.fields_of-f-in-LoadUpdate.ensures c.load_store_marked-in-LoadUpdate.ensures.0 c.load_store_marked-in-LoadUpdate.ensures.1 (still_load _ _ _ _ _ _ _ _ _ _ c.load_store_marked-in-LoadUpdate.ensures.1)

pub returns-in-LoadIndexed : goal.returns-in-LoadIndexed
unfolding made_of execute_of
returns-in-LoadIndexed c = performed _ _ _ _ _ _ _ _ _ _ _ c.in-LoadIndexed.is c.fields_of-f-in-LoadIndexed.ensures c.load_store_marked-in-LoadIndexed.ensures.0 c.load_store_marked-in-LoadIndexed.ensures.1 (still_load_indexed _ _ _ _ _ _ _ _ _ c.load_store_marked-in-LoadIndexed.ensures.1)

pub returns-in-Store : goal.returns-in-Store
unfolding made_of execute_of
returns-in-Store c = performed _ _ _ _ _ _ _ _ _ _ _ c.in-Store.is c.fields_of-f-in-Store.ensures c.store.ensures.0 c.store.ensures.1.0 c.store.ensures.1.1

pub returns-in-StoreUpdate : goal.returns-in-StoreUpdate
unfolding made_of execute_of
returns-in-StoreUpdate c = performed _ _ _ _ _ _ _ _ _ _ _ c.in-StoreUpdate.is c.fields_of-f-in-StoreUpdate.ensures c.store-in-StoreUpdate.ensures.0 c.store-in-StoreUpdate.ensures.1.0 c.store-in-StoreUpdate.ensures.1.1

pub returns-in-StoreIndexed : goal.returns-in-StoreIndexed
unfolding made_of execute_of
returns-in-StoreIndexed c = performed _ _ _ _ _ _ _ _ _ _ _ c.in-StoreIndexed.is c.fields_of-f-in-StoreIndexed.ensures c.store_indexed.ensures.0 c.store_indexed.ensures.1.0 c.store_indexed.ensures.1.1

pub returns-in-LoadDouble : goal.returns-in-LoadDouble
unfolding made_of execute_of
returns-in-LoadDouble c = performed _ _ _ _ _ _ _ _ _ _ _ c.in-LoadDouble.is c.fields_of-f-in-LoadDouble.ensures c.load_store_marked-in-LoadDouble.ensures.0 c.load_store_marked-in-LoadDouble.ensures.1 (still_load_double _ _ _ _ _ _ _ _ _ c.load_store_marked-in-LoadDouble.ensures.1)

pub returns-in-LoadDoubleUpdate : goal.returns-in-LoadDoubleUpdate
unfolding made_of execute_of
returns-in-LoadDoubleUpdate c = performed _ _ _ _ _ _ _ _ _ _ _ c.in-LoadDoubleUpdate.is c.fields_of-f-in-LoadDoubleUpdate.ensures c.load_store_marked-in-LoadDoubleUpdate.ensures.0 c.load_store_marked-in-LoadDoubleUpdate.ensures.1 (still_load_double _ _ _ _ _ _ _ _ _ c.load_store_marked-in-LoadDoubleUpdate.ensures.1)

pub returns-in-StoreDouble : goal.returns-in-StoreDouble
unfolding made_of execute_of
returns-in-StoreDouble c = performed _ _ _ _ _ _ _ _ _ _ _ c.in-StoreDouble.is c.fields_of-f-in-StoreDouble.ensures c.store_double.ensures.0 c.store_double.ensures.1.0 c.store_double.ensures.1.1

pub returns-in-StoreDoubleUpdate : goal.returns-in-StoreDoubleUpdate
unfolding made_of execute_of
returns-in-StoreDoubleUpdate c = performed _ _ _ _ _ _ _ _ _ _ _ c.in-StoreDoubleUpdate.is c.fields_of-f-in-StoreDoubleUpdate.ensures c.store_double-in-StoreDoubleUpdate.ensures.0 c.store_double-in-StoreDoubleUpdate.ensures.1.0 c.store_double-in-StoreDoubleUpdate.ensures.1.1

pub returns-in-Stack : goal.returns-in-Stack
unfolding made_of execute_of
returns-in-Stack c = performed _ _ _ _ _ _ _ _ _ _ _ c.in-Stack.is c.fields_of-f-in-Stack.ensures c.stack.ensures.0 c.stack.ensures.1.0 c.stack.ensures.1.1

pub returns-in-Branch : goal.returns-in-Branch
unfolding made_of execute_of
returns-in-Branch c = performed _ _ _ _ _ _ _ _ _ _ _ c.in-Branch.is c.fields_of-f-in-Branch.ensures c.branch-state.ensures refl (still_same _ _)

pub returns-in-BranchIf : goal.returns-in-BranchIf
unfolding made_of execute_of
returns-in-BranchIf c = performed _ _ _ _ _ _ _ _ _ _ _ c.in-BranchIf.is c.fields_of-f-in-BranchIf.ensures c.branch-state-in-BranchIf.ensures refl (still_same _ _)

pub returns-in-BranchTo : goal.returns-in-BranchTo
unfolding made_of execute_of
returns-in-BranchTo c = performed _ _ _ _ _ _ _ _ _ _ _ c.in-BranchTo.is c.fields_of-f-in-BranchTo.ensures c.branch-state-in-BranchTo.ensures refl (still_same _ _)

pub returns-in-Trap : goal.returns-in-Trap
unfolding made_of execute_of
returns-in-Trap c = performed _ _ _ _ _ _ _ _ _ _ _ c.in-Trap.is c.fields_of-f-in-Trap.ensures c.trap.ensures refl (still_same _ _)

pub returns-in-MoveSpr : goal.returns-in-MoveSpr
unfolding made_of execute_of
returns-in-MoveSpr c = performed _ _ _ _ _ _ _ _ _ _ _ c.in-MoveSpr.is c.fields_of-f-in-MoveSpr.ensures c.system.ensures refl (still_same _ _)

pub returns-in-MoveReg : goal.returns-in-MoveReg
unfolding made_of execute_of
returns-in-MoveReg c = performed _ _ _ _ _ _ _ _ _ _ _ c.in-MoveReg.is c.fields_of-f-in-MoveReg.ensures c.system-in-MoveReg.ensures refl (still_same _ _)

pub returns-in-Wrteei : goal.returns-in-Wrteei
unfolding made_of execute_of
returns-in-Wrteei c = performed _ _ _ _ _ _ _ _ _ _ _ c.in-Wrteei.is c.fields_of-f-in-Wrteei.ensures c.system-in-Wrteei.ensures refl (still_same _ _)

pub returns-in-Rfi : goal.returns-in-Rfi
unfolding made_of execute_of
returns-in-Rfi c = performed _ _ _ _ _ _ _ _ _ _ _ c.in-Rfi.is refl c.system-in-Rfi.ensures refl (still_same _ _)

pub returns-in-Sync : goal.returns-in-Sync
unfolding made_of execute_of
returns-in-Sync c = performed _ _ _ _ _ _ _ _ _ _ _ c.in-Sync.is refl c.system-in-Sync.ensures refl (still_same _ _)

pub returns-in-Cache : goal.returns-in-Cache
unfolding made_of execute_of
returns-in-Cache c = performed _ _ _ _ _ _ _ _ _ _ _ c.in-Cache.is c.fields_of-f-in-Cache.ensures c.cache.ensures.0 c.cache.ensures.1.0 c.cache.ensures.1.1
