-- Line 2 of a step: the event byte is applied to DEC and TSR (5), and ISR[EP] is worked out (8.10.9). Then the watchdog's action (Table 1.25).
-- An event byte adds 1 for the external request level, 2 for the decrementer input, and 4, 8, 16 and 32 for timer inputs 0 to 3.
use Rattle.std.specs.Prelude.{ℕ, ◌+◌, ◌-◌, ◌%◌, ◌^◌, Bool, not, ◌&&◌, ◌||◌, cond, eqb}
use Rattle.std.specs.Int.Bits.{bit_or}
use Rattle.word.specs.Bits.{digit, bit_at, bits_at, field_at}
use Rattle.word.specs.Rotate.{put_at}
use Rattle.machine.specs.State.{with}
use Rattle.machine.specs.Interrupt.{halted_of, asked}
use Rattle.machine.specs.declared.state.State.{State}
use Rattle.machine.specs.declared.state.Reg.{Reg}
use Rattle.machine.specs.declared.interrupt.Halt.{Halt}

abbrev pub external_in : ℕ → Bool
external_in e = bit_at e 31

abbrev pub decrementer_in : ℕ → Bool
decrementer_in e = bit_at e 30

abbrev pub timer_in : ℕ → ℕ → Bool
timer_in e k = bit_at e (29 - k)

-- 5.1: TCR[DS] (9:10) has DEC count in every step, or where timer 1, the decrementer input or timer 3 is active. Bit 10 is reserved on the
-- 42, so there DS is 00 or 10
abbrev pub counts_in : ℕ → ℕ → Bool
counts_in tcr e = cond (bit_at tcr 10) (timer_in e (cond (bit_at tcr 9) 3 1)) (not (bit_at tcr 9) || decrementer_in e)

-- under 0 comes FFFFFFFF
unfoldable pub dec_after : ℕ → ℕ → ℕ → ℕ
dec_after dec tcr e = cond (counts_in tcr e) ((dec + (2 ^ 32 - 1)) % 2 ^ 32) dec

-- DEC's bit 0 goes from 0 to 1
abbrev pub rises : ℕ → ℕ → Bool
rises before after = not (bit_at before 0) && bit_at after 0

-- 5.3: the input that TCR[WP] (0:1) selects is active
abbrev pub watchdog_event : ℕ → ℕ → Bool
watchdog_event tcr e = timer_in e (bits_at tcr 0 1)

-- 5.1, 5.2, 5.3: ENW (0) on a watchdog event; WIS (1) on one with ENW set; DIS (4) where DEC's bit 0 rises; FIS (5) on the input that TCR[FP] (6:7) selects
unfoldable pub tsr_after : ℕ → ℕ → ℕ → Bool → ℕ
tsr_after tsr tcr e dis =
    bit_or tsr
    (field_at 0 0 (digit (watchdog_event tcr e)) + field_at 1 1 (digit (watchdog_event tcr e && bit_at tsr 0))
    + field_at 4 4 (digit dis)
    + field_at 5 5 (digit (timer_in e (bits_at tcr 6 7))))

-- 8.10.9: the external level, or DIE (5), FIE (8) or WIE (4) with its status
unfoldable pub pending_of : ℕ → ℕ → ℕ → Bool
pending_of tsr tcr e = external_in e || bit_at tcr 5 && bit_at tsr 4 || bit_at tcr 8 && bit_at tsr 5 || bit_at tcr 4 && bit_at tsr 1

-- ISR[EP] (21)
unfoldable pub event_noted : State → ℕ → State
event_noted s e = with s Reg.Isr (put_at s.isr 21 21 (digit (pending_of s.tsr s.tcr e)))

unfoldable pub ticked_of : State → ℕ → State
ticked_of s e =
    let dec = dec_after s.dec s.tcr e in
    event_noted (with (with s Reg.Dec dec) Reg.Tsr (tsr_after s.tsr s.tcr e (rises s.dec dec))) e

-- Table 1.25: an event with ENW (0) and WIS (1) set, and TCR[WRC] (2:3) not 00
unfoldable pub acts_of : State → ℕ → Bool
acts_of s e = watchdog_event s.tcr e && bit_at s.tsr 0 && bit_at s.tsr 1 && not (eqb (bits_at s.tcr 2 3) 0)

-- WRC is copied to TSR[WRS] (2:3) and cleared; 11 halts the core, 01 and 10 ask for a reset
unfoldable pub acted_of : State → State
acted_of s =
    let wrc = bits_at s.tcr 2 3 in
    halted_of (with (with s Reg.Tsr (put_at s.tsr 2 3 wrc)) Reg.Tcr (put_at s.tcr 2 3 0)) (asked wrc Halt.Watchdog)
