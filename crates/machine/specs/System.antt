-- Traps, and the instructions that move special registers (7.5.1, 8.10, 9.4.52 to 9.4.57, 9.4.69, 9.4.102 to 9.4.105).
use Rattle.std.specs.Prelude.{ℕ, ◌*◌, ◌/◌, Bool, true, false, ◌&&◌, ◌||◌, eqb}
use Rattle.std.specs.Int.Bits.{bit_and, bit_or}
use Rattle.word.specs.Bits.{digit, bit_at, bits_at, field_at}
use Rattle.word.specs.Logical.{inv}
use Rattle.word.specs.Rotate.{put_at}
use Rattle.memory.specs.Access.{pick}
use Rattle.insn.specs.declared.instr.System.{System}
use Rattle.insn.specs.declared.instr.SprOp.{SprOp}
use Rattle.insn.specs.declared.instr.MoveOp.{MoveOp}
use Rattle.insn.specs.Profile.{is42x}
use Rattle.insn.specs.declared.profile.Profile.{Profile}
use Rattle.machine.specs.State.{gpr_of, with, contents_of}
use Rattle.machine.specs.Register.{defined_of}
use Rattle.machine.specs.Interrupt.{interrupted_of, halted_of, asked}
use Rattle.machine.specs.Timer.{rises}
use Rattle.machine.specs.Result.{next_of, result_of}
use Rattle.machine.specs.declared.state.State.{State}
use Rattle.machine.specs.declared.state.Reg.{Reg}
use Rattle.machine.specs.declared.interrupt.Cause.{Cause}
use Rattle.machine.specs.declared.interrupt.Halt.{Halt}

-- tw (Table 1.96): nothing with TO 0, nor on the 42X with TG; else a halt with DBCR[TRAP] (7), or a program interrupt
unfoldable pub trap_of : Profile → State → ℕ → ℕ → Bool → State
trap_of p s word to tg =
    pick (eqb to 0 || is42x p && tg) (next_of s)
    (pick (bit_at s.dbcr 7) (halted_of s Halt.Trap) (interrupted_of p s (Cause.Program word true)))

-- Table 1.34; TCR's number is 340
unfoldable pub spr_of : ℕ → Reg
spr_of n =
    pick (eqb n 1) Reg.Xer
    (pick (eqb n 8) Reg.Lr
    (pick (eqb n 9) Reg.Ctr
    (pick (eqb n 22) Reg.Dec
    (pick (eqb n 26) Reg.Srr0
    (pick (eqb n 27) Reg.Srr1
    (pick (eqb n 61) Reg.Edr
    (pick (eqb n 62) Reg.Isr
    (pick (eqb n 63) Reg.Ivpr
    (pick (eqb n 272) Reg.Sprg0
    (pick (eqb n 286) Reg.Pir
    (pick (eqb n 287) Reg.Pvr
    (pick (eqb n 308) Reg.Dbcr
    (pick (eqb n 316) Reg.Dacr
    (pick (eqb n 336) Reg.Tsr Reg.Tcr))))))))))))))

-- mfspr: the contents, but DBCR[RST] (2:3) reads as 00 (Table 1.40)
unfoldable pub read_of : State → ℕ → ℕ
read_of s n = pick (eqb n 308) (put_at s.dbcr 2 3 0) (contents_of s (spr_of n))

-- DBCR[RST] acts when it is written: 01 and 10 ask for a reset, 11 halts (7.4.2)
unfoldable pub reset_of : State → ℕ → State
reset_of s rst = pick (eqb rst 0) s (halted_of s (asked rst Halt.Debug))

-- the other fields are stored as written, RST as 00
unfoldable pub dbcr_written : Profile → State → ℕ → State
dbcr_written p s v = reset_of (with s Reg.Dbcr (put_at (bit_and v (defined_of p Reg.Dbcr)) 2 3 0)) (bits_at v 2 3)

-- TSR[DIS] (4) is set where DEC's bit 0 rises (5.1)
unfoldable pub dec_written : State → ℕ → State
dec_written s v = with (with s Reg.Tsr (bit_or s.tsr (field_at 4 4 (digit (rises s.dec v))))) Reg.Dec v

-- ISR[EP] (21) is read-only (8.10.9)
unfoldable pub isr_written : Profile → State → ℕ → State
isr_written p s v = with s Reg.Isr (put_at (bit_and v (defined_of p Reg.Isr)) 21 21 (digit (bit_at s.isr 21)))

-- a one clears the bit (8.10.19)
unfoldable pub tsr_written : State → ℕ → State
tsr_written s v = with s Reg.Tsr (bit_and s.tsr (inv v))

-- reserved bits are dropped
unfoldable pub written : Profile → State → Reg → ℕ → State
written p s r v = with s r (bit_and v (defined_of p r))

unfoldable pub spr_written : Profile → State → ℕ → ℕ → State
spr_written p s n v =
    pick (eqb n 22) (dec_written s v)
    (pick (eqb n 62) (isr_written p s v)
    (pick (eqb n 308) (dbcr_written p s v)
    (pick (eqb n 336) (tsr_written s v) (written p s (spr_of n) v))))

abbrev pub spr_moved : Profile → State → SprOp → ℕ → ℕ → State
spr_moved p s SprOp.Mfspr rt n = result_of s rt (read_of s n) false
spr_moved p s SprOp.Mtspr rs n = next_of (spr_written p s n (gpr_of s rs))

-- MSR[EE] (16) alone
unfoldable pub enabled_of : State → Bool → State
enabled_of s e = next_of (with s Reg.Msr (put_at s.msr 16 16 (digit e)))

-- mfcr, mtcr0, mfmsr, mtmsr and wrtee (9.4.52, 9.4.55, 9.4.53, 9.4.56, 9.4.104)
unfoldable pub moved_of : Profile → State → MoveOp → ℕ → State
moved_of p s MoveOp.Mfcr rt = result_of s rt (bit_and s.cr (defined_of p Reg.Cr)) false
moved_of p s MoveOp.Mtcr0 rs = next_of (written p s Reg.Cr (gpr_of s rs))
moved_of p s MoveOp.Mfmsr rt = result_of s rt s.msr false
moved_of p s MoveOp.Mtmsr rs = next_of (written p s Reg.Msr (gpr_of s rs))
moved_of p s MoveOp.Wrtee rs = enabled_of s (bit_at (gpr_of s rs) 16)

-- rfi (9.4.69): MSR from SRR1, IAR from (SRR0)_0:29 ‖ 00
unfoldable pub returned_of : Profile → State → State
returned_of p s = with (written p s Reg.Msr s.srr1) Reg.Iar (s.srr0 / 4 * 4)

unfoldable pub system_of : Profile → State → System → State
system_of p s (System.Spr op r n) = spr_moved p s op r n
system_of p s (System.Move op r) = moved_of p s op r
system_of p s (System.Wrteei e) = enabled_of s e
system_of p s System.Rfi = returned_of p s
system_of p s System.Sync = next_of s
