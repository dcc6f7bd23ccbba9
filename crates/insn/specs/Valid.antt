-- Which registers, numbers and forms are valid. An instruction that is not valid is refused with 6, and its word is illegal.
use Rattle.std.specs.Prelude.{ℕ, ◌+◌, ◌%◌, ◌^◌, Bool, true, not, ◌&&◌, ◌||◌, eqb, ltb, leb}
use Rattle.word.specs.Bits.{bit_at}
use Rattle.insn.specs.declared.instr.Instr.{Instr}
use Rattle.insn.specs.declared.instr.Arithmetic.{Arithmetic}
use Rattle.insn.specs.declared.instr.Logical.{Logical}
use Rattle.insn.specs.declared.instr.Compare.{Compare}
use Rattle.insn.specs.declared.instr.Rotate.{Rotate}
use Rattle.insn.specs.declared.instr.LoadStore.{LoadStore}
use Rattle.insn.specs.declared.instr.Branch.{Branch}
use Rattle.insn.specs.declared.instr.System.{System}
use Rattle.insn.specs.declared.instr.StackOp.{StackOp}
use Rattle.insn.specs.declared.instr.BranchOp.{BranchOp}
use Rattle.insn.specs.declared.instr.SprOp.{SprOp}
use Rattle.insn.specs.declared.instr.CacheOp.{CacheOp}

-- a field of k bits holds v
abbrev pub fits : ℕ → ℕ → Bool
fits k v = ltb v (2 ^ k)

-- GPRs r0 to r10, r13 and r28 to r31 (8.3)
unfoldable pub reg_of : ℕ → Bool
reg_of n = leb n 10 || eqb n 13 || leb 28 n && leb n 31

abbrev pub two_regs : ℕ → ℕ → Bool
two_regs a b = reg_of a && reg_of b

abbrev pub three_regs : ℕ → ℕ → ℕ → Bool
three_regs a b c = two_regs a b && reg_of c

-- the GPR that holds the low-order word of VDR(n): the next one, modulo 32 (8.4)
abbrev pub paired_with : ℕ → ℕ
paired_with n = (n + 1) % 32

-- VDR(n) is defined where both its GPRs are: 0 to 9 and 28 to 31 (Table 1.33)
abbrev pub is_vdr : ℕ → Bool
is_vdr n = two_regs n (paired_with n)

-- Table 1.34: XER, LR, CTR, DEC, SRR0, SRR1, EDR, ISR, IVPR, SPRG0, PIR, PVR, DBCR, DACR, TSR, TCR
unfoldable pub is_spr : ℕ → Bool
is_spr n =
    eqb n 1 || eqb n 8 || eqb n 9 || eqb n 22 || eqb n 26 || eqb n 27 || eqb n 61 || eqb n 62 || eqb n 63 || eqb n 272 || eqb n 286 || eqb n 287 || eqb n 308 || eqb n 316 || eqb n 336 || eqb n 340

-- IVPR, PIR and PVR (9.4.57)
unfoldable pub read_only : ℕ → Bool
read_only n = eqb n 63 || eqb n 286 || eqb n 287

abbrev pub spr_ok : SprOp → ℕ → Bool
spr_ok SprOp.Mfspr n = is_spr n
spr_ok SprOp.Mtspr n = is_spr n && not (read_only n)

-- invalid forms: RA = 0 and RA = RT of a load with update (9.4.43, 9.4.50; docs/DECISIONS.md D9), RA = 0 of a store with update (9.4.83, 9.4.87, 9.4.94)
abbrev pub load_form : Bool → ℕ → ℕ → Bool
load_form update rt ra = not update || not (eqb ra 0) && not (eqb ra rt)

abbrev pub store_form : Bool → ℕ → Bool
store_form update ra = not update || not (eqb ra 0)

-- of lvdu RA = DT, RA = (DT + 1) % 32 and RA = 0 (9.4.47): those of a load into either GPR; stvdu goes by store_form (9.4.91; docs/DECISIONS.md D38)
abbrev pub load_double_form : Bool → ℕ → ℕ → Bool
load_double_form update dt ra = load_form update dt ra && load_form update (paired_with dt) ra

-- DD_0 is bit 19 of a word that holds DD: lsku goes up, by one doubleword at least (9.4.45), and stsku down (9.4.89)
abbrev pub is_dd : StackOp → ℕ → Bool
is_dd StackOp.Lsku dd = not (bit_at dd 19) && not (eqb dd 0)
is_dd StackOp.Stsku dd = bit_at dd 19

-- RT or RS is RA, which is not 0
abbrev pub stack_form : ℕ → ℕ → Bool
stack_form rt ra = eqb rt ra && not (eqb ra 0)

-- bit n of the five of BO
abbrev pub bo_bit : ℕ → ℕ → Bool
bo_bit bo n = bit_at bo (27 + n)

-- bcctr with BO2 = 0 is illegal (9.4.16)
abbrev pub branch_form : BranchOp → ℕ → Bool
branch_form BranchOp.Bclr bo = true
branch_form BranchOp.Bcctr bo = bo_bit bo 2

-- TO is all zeros or all ones (9.4.103)
abbrev pub is_to : ℕ → Bool
is_to to = eqb to 0 || eqb to 31

-- tw without TG, and any on the 42 (Table 1.96)
abbrev pub trap_form : ℕ → ℕ → ℕ → Bool
trap_form to ra rb = is_to to && two_regs ra rb

-- with TG a 42X takes whatever stands in the three fields (9.4.103)
abbrev pub mark_form : ℕ → ℕ → ℕ → Bool → Bool
mark_form to ra rb tg = tg && fits 5 to && fits 5 ra && fits 5 rb

-- what may stand in 6:10 of dcbf (9:10 are hints, 9.4.30), dcbi, dcbt (all are hints, 9.4.33) and dcbz (docs/DECISIONS.md D1, D3)
abbrev pub hint_ok : CacheOp → ℕ → Bool
hint_ok CacheOp.Dcbf hint = fits 2 hint
hint_ok CacheOp.Dcbi hint = eqb hint 0
hint_ok CacheOp.Dcbt hint = fits 5 hint
hint_ok CacheOp.Dcbz hint = eqb hint 0

-- on a 42X, which has every instruction here; a 42 has those of Profile. Registers must be defined ("Restrictions" of each section); BI names a bit of CR0, so 11:13 are 000 (9.4.15, 9.4.16, 9.4.17)
abbrev pub valid_of : Instr → Bool
valid_of (Instr.Arithmetic (Arithmetic.Immediate op rt ra si)) = fits 16 si && two_regs rt ra
valid_of (Instr.Arithmetic (Arithmetic.Register op rt ra rb oe rc)) = three_regs rt ra rb
valid_of (Instr.Arithmetic (Arithmetic.One op rt ra oe rc)) = two_regs rt ra
valid_of (Instr.Arithmetic (Arithmetic.Multiply sign rt ra rb rc)) = three_regs rt ra rb
valid_of (Instr.Arithmetic (Arithmetic.MultiplyImm rt ra si)) = fits 16 si && two_regs rt ra
valid_of (Instr.Arithmetic (Arithmetic.MultiplyLow rt ra rb oe rc)) = three_regs rt ra rb
valid_of (Instr.Logical (Logical.Immediate op rs ra ui)) = fits 16 ui && two_regs rs ra
valid_of (Instr.Logical (Logical.Register op rs ra rb rc)) = three_regs rs ra rb
valid_of (Instr.Logical (Logical.One op rs ra rc)) = two_regs rs ra
valid_of (Instr.Compare (Compare.Immediate sign ra imm)) = fits 16 imm && reg_of ra
valid_of (Instr.Compare (Compare.Register sign ra rb)) = two_regs ra rb
valid_of (Instr.Rotate (Rotate.Immediate op rs ra sh mb me rc)) = two_regs rs ra && fits 5 sh && fits 5 mb && fits 5 me
valid_of (Instr.Rotate (Rotate.Register rs ra rb mb me rc)) = three_regs rs ra rb && fits 5 mb && fits 5 me
valid_of (Instr.Rotate (Rotate.Shift op rs ra rb rc)) = three_regs rs ra rb
valid_of (Instr.Rotate (Rotate.Srawi rs ra sh rc)) = two_regs rs ra && fits 5 sh
valid_of (Instr.Rotate (Rotate.Double op ds da sh mb rc)) = is_vdr ds && is_vdr da && fits 6 sh && fits 6 mb
valid_of (Instr.LoadStore (LoadStore.Load width update rt ra d)) = fits 16 d && (two_regs rt ra && load_form update rt ra)
valid_of (Instr.LoadStore (LoadStore.LoadIndexed width rt ra rb)) = three_regs rt ra rb
valid_of (Instr.LoadStore (LoadStore.Store width update rs ra d)) = fits 16 d && (two_regs rs ra && store_form update ra)
valid_of (Instr.LoadStore (LoadStore.StoreIndexed width rs ra rb)) = three_regs rs ra rb
valid_of (Instr.LoadStore (LoadStore.LoadDouble update dt ra d)) = fits 16 d && (is_vdr dt && reg_of ra && load_double_form update dt ra)
valid_of (Instr.LoadStore (LoadStore.StoreDouble update ds ra d)) = fits 16 d && (is_vdr ds && reg_of ra && store_form update ra)
valid_of (Instr.Stack dd op rt ra) = fits 13 dd && (two_regs rt ra && stack_form rt ra && is_dd op dd)
valid_of (Instr.Branch (Branch.Always aa lk li)) = fits 24 li
valid_of (Instr.Branch (Branch.Conditional bo bi bd aa lk)) = fits 5 bo && fits 2 bi && fits 14 bd
valid_of (Instr.Branch (Branch.Register op bo bi bh lk)) = fits 5 bo && fits 2 bi && fits 2 bh && branch_form op bo
valid_of (Instr.Trap to ra rb tg) = mark_form to ra rb tg || trap_form to ra rb
valid_of (Instr.System (System.Spr op rt spr)) = reg_of rt && spr_ok op spr
valid_of (Instr.System (System.Move op rt)) = reg_of rt
valid_of (Instr.System (System.Wrteei e)) = true
valid_of (Instr.System System.Rfi) = true
valid_of (Instr.System System.Sync) = true
valid_of (Instr.Cache op hint ra rb) = hint_ok op hint && two_regs ra rb
