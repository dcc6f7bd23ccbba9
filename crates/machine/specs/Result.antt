-- What instructions write besides their target: NIA, CR0 and XER (1.2, 2.11.3, 2.11.4).
use Rattle.std.specs.Prelude.{ℕ, ◌+◌, ◌%◌, ◌^◌, Bool, ◌||◌}
use Rattle.word.specs.Bits.{digit, bit_at, field_at}
use Rattle.word.specs.Rotate.{put_at}
use Rattle.word.specs.Compare.{recorded}
use Rattle.word.specs.Double.{recorded64}
use Rattle.memory.specs.Access.{pick}
use Rattle.machine.specs.State.{with, with_gpr, with_vdr}
use Rattle.machine.specs.declared.state.State.{State}
use Rattle.machine.specs.declared.state.Reg.{Reg}

-- CIA + 4
abbrev pub following : State → ℕ
following s = (s.iar + 4) % 2 ^ 32

-- NIA is CIA + 4
unfoldable pub next_of : State → State
next_of s = with s Reg.Iar (following s)

-- XER[SO] and XER[CA]
abbrev pub so_of : State → Bool
so_of s = bit_at s.xer 0

abbrev pub carry_of : State → Bool
carry_of s = bit_at s.xer 2

-- CR[CR0] ← the four bits; CR has no other field
unfoldable pub cr0_of : State → ℕ → State
cr0_of s v = with s Reg.Cr (field_at 0 3 v)

-- CR0 after a result, if the instruction records it
unfoldable pub recorded_of : State → ℕ → Bool → State
recorded_of s v rc = pick rc (cr0_of s (recorded v (so_of s))) s

-- XER[CA] (2), if the instruction writes it
unfoldable pub carried_of : State → Bool → Bool → State
carried_of s writes ca = pick writes (with s Reg.Xer (put_at s.xer 2 2 (digit ca))) s

-- XER[OV] (1) and, once set, XER[SO] (0), with OE
unfoldable pub overflowed_of : State → Bool → Bool → State
overflowed_of s oe ov = pick oe (with s Reg.Xer (put_at (put_at s.xer 1 1 (digit ov)) 0 0 (digit (so_of s || ov)))) s

-- the result in its register, CR0 with Rc, and on to the next instruction
unfoldable pub result_of : State → ℕ → ℕ → Bool → State
result_of s r v rc = next_of (with_gpr (recorded_of s v rc) r v)

-- a result of 64 bits in its pair, with CR0 of the 64 bits
unfoldable pub recorded_double_of : State → ℕ → Bool → State
recorded_double_of s v rc = pick rc (cr0_of s (recorded64 v (so_of s))) s

unfoldable pub double_result_of : State → ℕ → ℕ → Bool → State
double_result_of s r v rc = next_of (with_vdr (recorded_double_of s v rc) r v)
