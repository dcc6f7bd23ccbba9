-- The bits that each register has (8.10), and acceptance (refusals 2 and 3).
use Rattle.std.specs.Prelude.{ℕ, ◌%◌, Bool, ◌&&◌, leb, eqb}
use Rattle.std.specs.Result.{result_and}
use Rattle.std.specs.Int.Bits.{bit_and}
use Rattle.word.specs.Logical.{inv}
use Rattle.memory.specs.Access.{sized_of}
use Rattle.insn.specs.Profile.{column}
use Rattle.insn.specs.declared.profile.Profile.{Profile}
use Rattle.machine.specs.Refusal.{Checked, unless}
use Rattle.machine.specs.State.{contents_of}
use Rattle.machine.specs.declared.state.State.{State}
use Rattle.machine.specs.declared.state.Reg.{Reg}
use Rattle.machine.specs.declared.refusal.Refusal.{Refusal}

-- the defined bits; all others are reserved
abbrev pub defined_of : Profile → Reg → ℕ
defined_of p Reg.Cr = 0xF000_0000  -- CR0
defined_of p Reg.Ctr = 0xFFFF_FFFF
defined_of p Reg.Dacr = 0xFFFF_FFFF
defined_of p Reg.Dbcr = column p 0x318C_0000 0x318C_00C7  -- RST, TRAP, IACE, DACE; on the 42X ACS, ZACE, HDFI and HDFT too
defined_of p Reg.Dec = 0xFFFF_FFFF
defined_of p Reg.Edr = 0xFFFF_FFFF
defined_of p Reg.Isr = 0x0000_F4CF  -- SRSMS, EP, PTR, ST, MFE, MCS
defined_of p Reg.Ivpr = 0xFFFF_FE00
defined_of p Reg.Lr = 0xFFFF_FFFF
defined_of p Reg.Msr = 0x7FFF_9DFF  -- all but bits 0, 17, 18 and 22
defined_of p Reg.Pir = 0x0000_FFFF
defined_of p Reg.Pvr = 0xFFFF_FFFF
defined_of p Reg.Sprg0 = 0xFFFF_FFFF
defined_of p Reg.Srr0 = 0xFFFF_FFFC
defined_of p Reg.Srr1 = 0x7FFF_9DFF  -- an image of MSR
defined_of p Reg.Tcr = column p 0xFFC0_0000 0xFFE0_0000  -- WP, WRC, WIE, DIE, FP, FIE, DS, which has a second bit on the 42X
defined_of p Reg.Tsr = 0xFC00_0000  -- ENW, WIS, WRS, DIS, FIS
defined_of p Reg.Xer = 0xE000_0000  -- SO, OV, CA
defined_of p Reg.Iar = 0xFFFF_FFFC
defined_of p Reg.Halt = 0xFFFF_FFFF

-- no reserved bit of the register is set
unfoldable pub clean_of : Profile → State → Reg → Bool
clean_of p s r = eqb (bit_and (contents_of s r) (inv (defined_of p r))) 0

-- no reserved bit is set, and the halt code is one of 0 to 5; the seven registers left out have no reserved bit
unfoldable pub sound_of : Profile → State → Bool
sound_of p s =
    clean_of p s Reg.Cr && clean_of p s Reg.Dbcr && clean_of p s Reg.Isr && clean_of p s Reg.Ivpr && clean_of p s Reg.Msr && clean_of p s Reg.Pir
    && clean_of p s Reg.Srr0 && clean_of p s Reg.Srr1 && clean_of p s Reg.Tcr && clean_of p s Reg.Tsr && clean_of p s Reg.Xer && leb s.halt 5

-- an IAR that is no multiple of 4, then a reserved bit or a halt code over 5
unfoldable pub check_of : Profile → State → Checked
check_of p s = result_and (unless (eqb (s.iar % 4) 0) Refusal.Iar) (unless (sound_of p s) Refusal.Reserved)

-- 1, 2, 3: what a run, a step and a capture ask of a state and m bytes of memory
unfoldable pub check_start : Profile → State → ℕ → Checked
check_start p s m = result_and (unless (sized_of m) Refusal.Memory) (check_of p s)
