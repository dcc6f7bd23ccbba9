-- Interrupts: what each sets, promotion and the halt (4.3.3 to 4.3.5, 4.5).
use Rattle.std.specs.Prelude.{ℕ, ◌+◌, ◌*◌, ◌/◌, ◌^◌, Bool, eqb}
use Rattle.std.specs.Int.Bits.{bit_and}
use Rattle.word.specs.Bits.{digit, bit_at}
use Rattle.word.specs.Rotate.{put_at}
use Rattle.memory.specs.Access.{pick}
use Rattle.insn.specs.Profile.{column}
use Rattle.insn.specs.declared.profile.Profile.{Profile}
use Rattle.memory.specs.declared.access.Fault.{Fault}
use Rattle.machine.specs.State.{with}
use Rattle.machine.specs.declared.state.State.{State}
use Rattle.machine.specs.declared.state.Reg.{Reg}
use Rattle.machine.specs.declared.interrupt.Vector.{Vector}
use Rattle.machine.specs.declared.interrupt.Cause.{Cause}
use Rattle.machine.specs.declared.interrupt.Halt.{Halt}

-- Table 1.9
abbrev pub offset_of : Profile → Vector → ℕ
offset_of p Vector.MachineCheck = column p 0x000 0x020  -- 4.5.1
offset_of p Vector.DataStorage = 0x060
offset_of p Vector.InstructionStorage = 0x080
offset_of p Vector.External = 0x0A0
offset_of p Vector.Alignment = 0x0C0
offset_of p Vector.Program = 0x0E0
offset_of p Vector.Decrementer = 0x100
offset_of p Vector.FixedInterval = 0x120
offset_of p Vector.Watchdog = 0x140

-- (IVPR)_0:22 ‖ offset (4.2)
abbrev pub vector_at : Profile → ℕ → Vector → ℕ
vector_at p ivpr v = ivpr / 2 ^ 9 * 2 ^ 9 + offset_of p v

-- the bits of MSR that an interrupt leaves: SIBRC (9:11), and ME (19) but for a machine check (Tables 1.14 to 1.24)
abbrev pub kept_of : Vector → ℕ
kept_of Vector.MachineCheck = 0x0070_0000
kept_of Vector.DataStorage = 0x0070_1000
kept_of Vector.InstructionStorage = 0x0070_1000
kept_of Vector.External = 0x0070_1000
kept_of Vector.Alignment = 0x0070_1000
kept_of Vector.Program = 0x0070_1000
kept_of Vector.Decrementer = 0x0070_1000
kept_of Vector.FixedInterval = 0x0070_1000
kept_of Vector.Watchdog = 0x0070_1000

-- SRR0 and SRR1 take IAR and MSR, and IAR goes to the vector
unfoldable pub entered_of : Profile → State → Vector → State
entered_of p s v =
    with (with (with (with s Reg.Srr0 s.iar) Reg.Srr1 s.msr) Reg.Msr (bit_and s.msr (kept_of v))) Reg.Iar (vector_at p s.ivpr v)

abbrev pub vector_for : Cause → Vector
vector_for (Cause.DataStorage address store) = Vector.DataStorage
vector_for Cause.InstructionStorage = Vector.InstructionStorage
vector_for (Cause.Alignment address store) = Vector.Alignment
vector_for (Cause.Program word trap) = Vector.Program

-- data storage and alignment: ISR[ST] (25) and the data address in EDR (Tables 1.16, 1.20)
unfoldable pub access_noted : State → ℕ → Bool → State
access_noted s address store = with (with s Reg.Isr (put_at s.isr 25 25 (digit store))) Reg.Edr address

-- program: ISR[PTR] (24) and the word in EDR (Table 1.21)
unfoldable pub program_noted : State → ℕ → Bool → State
program_noted s word trap = with (with s Reg.Isr (put_at s.isr 24 24 (digit trap))) Reg.Edr word

-- ISR and EDR as the interrupt itself sets them; instruction storage sets neither (Table 1.18)
unfoldable pub noted_of : State → Cause → State
noted_of s (Cause.DataStorage address store) = access_noted s address store
noted_of s Cause.InstructionStorage = s
noted_of s (Cause.Alignment address store) = access_noted s address store
noted_of s (Cause.Program word trap) = program_noted s word trap

-- ISR[MCS] of a promoted interrupt (Table 1.14)
abbrev pub promotion_of : Cause → ℕ
promotion_of (Cause.DataStorage address store) = 7
promotion_of Cause.InstructionStorage = 5
promotion_of (Cause.Alignment address store) = 6
promotion_of (Cause.Program word trap) = 4

-- ISR[MFE] (28) is cleared and ISR[MCS] (29:31) set
unfoldable pub promoted_of : State → Cause → State
promoted_of s c = with s Reg.Isr (put_at (put_at s.isr 28 28 0) 29 31 (promotion_of c))

-- the halt codes
abbrev pub code_of : Halt → ℕ
code_of Halt.MachineCheck = 1
code_of Halt.Debug = 2
code_of Halt.Trap = 3
code_of Halt.Watchdog = 4
code_of Halt.Reset = 5

-- what two bits that are not 00 ask for: a halt, where they are 11, or a reset
abbrev pub asked : ℕ → Halt → Halt
asked bits h = pick (eqb bits 3) h Halt.Reset

-- what an access that is not served causes
abbrev pub cause_of : Fault → ℕ → Bool → Cause
cause_of Fault.Unaligned address store = Cause.Alignment address store
cause_of Fault.Outside address store = Cause.DataStorage address store

unfoldable pub halted_of : State → Halt → State
halted_of s h = with s Reg.Halt (code_of h)

-- taken if MSR[UIE] (15), else promoted to a machine check if MSR[ME] (19), else the core halts at the interrupt's own vector
unfoldable pub taken_for : Profile → State → Cause → State
taken_for p s c =
    pick (bit_at s.msr 15) (entered_of p s (vector_for c))
    (pick (bit_at s.msr 19) (entered_of p (promoted_of s c) Vector.MachineCheck) (halted_of (entered_of p s (vector_for c)) Halt.MachineCheck))

-- a synchronous interrupt
unfoldable pub interrupted_of : Profile → State → Cause → State
interrupted_of p s c = taken_for p (noted_of s c) c
