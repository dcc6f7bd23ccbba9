-- The scope's worked words and some of virtual doublewords, and what each reads as. Assumes nothing.
use mathlib.Core.Path.{◌≡◌, refl}
use mathlib.Core.Bool.{true, false}
use mathlib.Core.List.{List, [], ◌∷◌, map}
use Prim.Native.Nat.{ℕ}
use Rattle.insn.specs.Fields.{fields_of}
use Rattle.insn.specs.Valid.{reg_of}
use Rattle.insn.specs.Read.{decode_of, primary, primary_rows, load_store, load_store_rows, arithmetic, arithmetic_rows, logical, logical_rows}
use Rattle.insn.specs.declared.instr.Instr.{Instr}
use Rattle.std.specs.Prelude.{Option, Some, None}
use Rattle.insn.specs.declared.instr.Arithmetic.{Arithmetic}
use Rattle.insn.specs.declared.instr.Logical.{Logical}
use Rattle.insn.specs.declared.instr.LoadStore.{LoadStore}
use Rattle.insn.specs.declared.instr.ArithImmOp.{ArithImmOp}
use Rattle.insn.specs.declared.instr.LogicOneOp.{LogicOneOp}
use Rattle.word.specs.declared.width.Width.{Width}

pub worked : List (ℕ × Option Instr)
worked =
    (0x38600005, Some (Instr.Arithmetic (Arithmetic.Immediate ArithImmOp.Addi 3 0 5)))  -- addi r3,0,5
    ∷ (0xA0640000, Some (Instr.LoadStore (LoadStore.Load Width.Half false 3 4 0)))  -- lhz r3,0(r4)
    ∷ (0x7C640734, Some (Instr.Logical (Logical.One LogicOneOp.Extsh 3 4 false)))  -- extsh r4,r3
    ∷ (0x7FE00008, Some (Instr.Trap 31 0 0 false))  -- trap
    ∷ (0xA4630000, None)  -- lhzu r3,0(r3)
    ∷ (0xA4600000, None)  -- lhzu r3,0(0)
    ∷ (0xA1640000, None)  -- lhz r11,0(r4)
    ∷ (0x17E40008, Some (Instr.LoadStore (LoadStore.LoadDouble false 31 4 8)))  -- lvd r31,8(r4)
    ∷ (0x14630000, Some (Instr.LoadStore (LoadStore.LoadDouble false 3 3 0)))  -- lvd r3,0(r3)
    ∷ (0x5863FFF8, Some (Instr.LoadStore (LoadStore.StoreDouble true 3 3 0xFFF8)))  -- stvdu r3,-8(r3)
    ∷ (0x15440000, None)  -- lvd r10,0(r4)
    ∷ (0x24640008, None)  -- lvdu r3,8(r4)
    ∷ []

pub words_read : map (λ (row : ℕ × Option Instr). decode_of row.0) worked ≡ map (λ (row : ℕ × Option Instr). row.1) worked
unfolding worked decode_of fields_of reg_of primary primary_rows load_store load_store_rows arithmetic arithmetic_rows logical logical_rows
words_read = refl
