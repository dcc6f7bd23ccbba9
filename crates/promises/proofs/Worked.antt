-- The scope's worked numbers, each played by one whole step on both cores, and its worked words, each read; and some of what the 42X adds.
-- Assumes nothing.
use Rattle.std.specs.Prelude.{Some, None, Option}
use Prim.Native.Nat.{ℕ}
use mathlib.Core.Bool.{false}
use mathlib.Core.Path.{◌≡◌, refl}
use mathlib.Core.Logic.{◌⊎◌, inl, inr}
use mathlib.Core.List.{List, [], ◌∷◌, ◌++◌, map}
use lib.Count.{count_leading_zeros}
use lib.ListN.{replicate}
use Rattle.word.specs.Rotate.{mask, put_at}
use Rattle.word.specs.Double.{mask64}
use Rattle.word.specs.declared.width.Width.{Width}
use Rattle.memory.specs.Access.{access_of, fetch_access_of}
use Rattle.memory.specs.Load.{value_at, fetch_of}
use Rattle.memory.specs.Store.{bytes_of}
use Rattle.insn.specs.Fields.{fields_of}
use Rattle.insn.specs.Valid.{reg_of}
use Rattle.insn.specs.Read.{decode_of, decode_on, primary, primary_rows, load_store, load_store_rows, added, added_rows, arithmetic, arithmetic_rows, logical, logical_rows, opcode4, rows4, opcode30, rows30}
use Rattle.insn.specs.declared.profile.Profile.{Profile}
use Rattle.insn.specs.declared.instr.Instr.{Instr}
use Rattle.insn.specs.declared.instr.Arithmetic.{Arithmetic}
use Rattle.insn.specs.declared.instr.Logical.{Logical}
use Rattle.insn.specs.declared.instr.LoadStore.{LoadStore}
use Rattle.insn.specs.declared.instr.ArithImmOp.{ArithImmOp}
use Rattle.insn.specs.declared.instr.LogicOneOp.{LogicOneOp}
use Rattle.machine.specs.After.{After, plain}
use Rattle.machine.specs.State.{gpr_of, vdr_of, with_gpr, with_vdr, with}
use Rattle.machine.specs.Result.{next_of, cr0_of, recorded_of, carried_of, overflowed_of, result_of, recorded_double_of, double_result_of}
use Rattle.machine.specs.Timer.{dec_after, tsr_after, pending_of, event_noted, ticked_of, acts_of}
use Rattle.machine.specs.Arithmetic.{summed_of, multiplied_of, arithmetic_of}
use Rattle.machine.specs.Logical.{logical_of}
use Rattle.machine.specs.Compare.{compared_of, compare_of}
use Rattle.machine.specs.Rotate.{shifted_of, shift_of, rotate_of}
use Rattle.machine.specs.Step.{execute_of, running_of, awake_of, highest_of, counted_of, step_of}
use Rattle.machine.specs.declared.state.State.{State}

-- a state with these registers, and zero in every other
abbrev pub state_of : (dec iar r3 r4 r5 cr xer : ℕ) → State
state_of dec iar r3 r4 r5 cr xer = record { gpr = 0 ∷ 0 ∷ 0 ∷ r3 ∷ r4 ∷ r5 ∷ replicate 10 0; cr = cr; ctr = 0; dacr = 0; dbcr = 0; dec = dec; edr = 0; isr = 0; ivpr = 0; lr = 0; msr = 0; pir = 0; pvr = 0; sprg0 = 0; srr0 = 0; srr1 = 0; tcr = 0; tsr = 0; xer = xer; iar = iar; halt = 0 }

-- 32 bytes that begin with the word
abbrev pub memory_of : ℕ → List ℕ
memory_of word = bytes_of Width.Word word ++ replicate 28 0

-- a word; r3, r4 and XER before its step; r5, CR and XER after it. Or a word that rotates the doubleword of r3 and r4; both before its
-- step; both and CR after it. Or a word and what it reads as
pub data Row : Type 0 where
  step : (word r3 r4 xer r5 cr xer' : ℕ) → Row
  pair : (word r3 r4 r3' r4' cr : ℕ) → Row
  reads : ℕ → Instr → Row

-- r5 begins as 99990005, which no row writes
abbrev pub computed : Profile → Row → After ⊎ Option Instr
computed p (step word r3 r4 xer r5 cr xer') = inl (step_of p (state_of 1 0 r3 r4 0x9999_0005 0 xer) (memory_of word) 0)
computed p (pair word r3 r4 r3' r4' cr) = inl (step_of p (state_of 1 0 r3 r4 0x9999_0005 0 0) (memory_of word) 0)
computed p (reads word i) = inr (decode_on p word)

-- DEC has counted, IAR is at the next word, and all that a row does not name is as it was
abbrev pub printed : Row → After ⊎ Option Instr
printed (step word r3 r4 xer r5 cr xer') = inl (plain (state_of 0 4 r3 r4 r5 cr xer') (memory_of word))
printed (pair word r3 r4 r3' r4' cr) = inl (plain (state_of 0 4 r3' r4' 0x9999_0005 cr 0) (memory_of word))
printed (reads word i) = inr (Some i)

abbrev pub rows : List Row
rows =
    --     word        r3          r4          XER         r5          CR          XER
    step 0x7C65_0734 0x0000_7FFF 0x0000_0000 0x0000_0000 0x0000_7FFF 0x0000_0000 0x0000_0000  -- extsh r5,r3
    ∷ step 0x7C65_0734 0x0000_8000 0x0000_0000 0x0000_0000 0xFFFF_8000 0x0000_0000 0x0000_0000
    ∷ step 0x2803_8000 0x0000_8000 0x0000_0000 0x0000_0000 0x9999_0005 0x2000_0000 0x0000_0000  -- cmplwi r3,0x8000: EQ
    ∷ step 0x2C03_8000 0x0000_8000 0x0000_0000 0x0000_0000 0x9999_0005 0x4000_0000 0x0000_0000  -- cmpwi r3,-32768: GT
    ∷ step 0x7CA3_00D0 0x8000_0000 0x0000_0000 0x0000_0000 0x8000_0000 0x0000_0000 0x0000_0000  -- neg r5,r3
    ∷ step 0x7CA3_04D0 0x8000_0000 0x0000_0000 0x0000_0000 0x8000_0000 0x0000_0000 0xC000_0000  -- nego r5,r3: SO, OV
    ∷ step 0x7CA3_2114 0xFFFF_FFFF 0x0000_0000 0x2000_0000 0x0000_0000 0x0000_0000 0x2000_0000  -- adde r5,r3,r4: CA, before and after
    ∷ step 0x7C65_2630 0x8000_0001 0x0000_0001 0x0000_0000 0xC000_0000 0x0000_0000 0x2000_0000  -- sraw r5,r3,r4: CA
    ∷ step 0x7C65_2630 0x8000_0001 0x0000_0020 0x0000_0000 0xFFFF_FFFF 0x0000_0000 0x2000_0000
    ∷ step 0x7C65_2630 0x4000_0001 0x0000_0001 0x2000_0000 0x2000_0000 0x0000_0000 0x0000_0000  -- CA is cleared
    ∷ step 0x7C65_2030 0x1234_5678 0x0000_0020 0x0000_0000 0x0000_0000 0x0000_0000 0x0000_0000  -- slw r5,r3,r4
    ∷ step 0x7C65_2030 0x1234_5678 0x0000_0040 0x0000_0000 0x1234_5678 0x0000_0000 0x0000_0000
    ∷ step 0x5465_07C0 0xFFFF_FFFF 0x0000_0000 0x0000_0000 0x8000_0001 0x0000_0000 0x0000_0000  -- rlwinm r5,r3,0,31,0: MASK(31, 0)
    ∷ step 0x7C65_0034 0x0000_0000 0x0000_0000 0x0000_0000 0x0000_0020 0x0000_0000 0x0000_0000  -- cntlzw r5,r3
    ∷ step 0x10A3_2350 0x0000_7FFF 0x0000_FFFF 0x0000_0000 0xFFFF_8001 0x0000_0000 0x0000_0000  -- mullhw r5,r3,r4
    ∷ step 0x10A3_2310 0x0000_7FFF 0x0000_FFFF 0x0000_0000 0x7FFE_8001 0x0000_0000 0x0000_0000  -- mullhwu r5,r3,r4
    ∷ reads 0x3860_0005 (Instr.Arithmetic (Arithmetic.Immediate ArithImmOp.Addi 3 0 5))  -- addi r3,0,5
    ∷ reads 0xA064_0000 (Instr.LoadStore (LoadStore.Load Width.Half false 3 4 0))  -- lhz r3,0(r4)
    ∷ reads 0x7C64_0734 (Instr.Logical (Logical.One LogicOneOp.Extsh 3 4 false))  -- extsh r4,r3
    ∷ reads 0x7FE0_0008 (Instr.Trap 31 0 0 false)  -- trap
    ∷ []

-- what the 42X adds
abbrev pub rows42x : List Row
rows42x =
    step 0x1CA3_FFFD 0x1234_5678 0x0000_0000 0x0000_0000 0xC962_FC98 0x0000_0000 0x0000_0000  -- mulli r5,r3,-3
    ∷ step 0x7CA3_25D6 0x8000_0000 0x0000_0002 0x0000_0000 0x0000_0000 0x0000_0000 0xC000_0000  -- mullwo r5,r3,r4: SO, OV
    --     word        r3          r4          r3          r4          CR
    ∷ pair 0x7863_4401 0x0123_4567 0x89AB_CDEF 0x0000_6789 0xABCD_EF01 0x4000_0000  -- rldicl. d3,d3,8,16: GT
    ∷ []

-- the rows of a core
abbrev pub rows_on : Profile → List Row
rows_on Profile.Ppe42 = rows
rows_on Profile.Ppe42x = rows ++ rows42x

-- every row holds: both lists are computed
pub rows_hold : (p : Profile) → map (computed p) (rows_on p) ≡ map printed (rows_on p)
unfolding bytes_of decode_on decode_of fields_of reg_of primary primary_rows load_store load_store_rows added added_rows arithmetic arithmetic_rows logical logical_rows opcode4 rows4 opcode30 rows30
    step_of counted_of ticked_of dec_after tsr_after event_noted pending_of acts_of highest_of awake_of running_of fetch_of fetch_access_of access_of value_at execute_of
    arithmetic_of summed_of multiplied_of logical_of compare_of compared_of rotate_of shift_of shifted_of result_of recorded_of carried_of overflowed_of cr0_of recorded_double_of double_result_of next_of
    with with_gpr with_vdr gpr_of vdr_of put_at mask mask64 count_leading_zeros
rows_hold Profile.Ppe42 = refl
rows_hold Profile.Ppe42x = refl

-- and on the 42 the words of the added ones are illegal
pub added_illegal : map (decode_on Profile.Ppe42) (0x1CA3_FFFD ∷ 0x7CA3_25D6 ∷ 0x7863_4401 ∷ []) ≡ replicate 3 None
unfolding decode_on decode_of fields_of reg_of primary primary_rows load_store load_store_rows added added_rows arithmetic arithmetic_rows opcode30 rows30
added_illegal = refl
