-- With no event the watchdog does not act; with TCR's three enables and DS clear besides, line 2 counts DEC, sets DIS where its bit 0 rises
-- and clears EP, and line 4 takes nothing. Assumes nothing.
use Prim.Native.Nat.{ℕ, ◌+◌, ◌-◌, ◌/◌, ◌%◌, ◌^◌}
use native.Mathlib.Nat.{zero-div, zero-add, add-zero}
use mathlib.Core.Bool.{Bool, true, false, not, ◌&&◌, ◌||◌}
use mathlib.Core.Path.{◌≡◌, refl}
use lib.Bits.{bit_or}
use lib.Dec.{eqb}
use borrow.Author.Tests.{eqb-true, not-true}
use Rattle.std.specs.Prelude.{Option, None}
use Rattle.word.specs.Bits.{digit, bit_at, bits_at, field_at}
use Rattle.word.specs.Rotate.{put_at}
use Rattle.word.proofs.Truth.{and_true, or_false}
use Rattle.memory.specs.Access.{pick}
use Rattle.machine.specs.State.{with}
use Rattle.machine.specs.Timer.{dec_after, rises, tsr_after, pending_of, event_noted, ticked_of, acts_of}
use Rattle.machine.specs.Step.{highest_of}
use Rattle.machine.specs.declared.interrupt.Vector.{Vector}
use Rattle.machine.specs.declared.state.State.{State}
use Rattle.machine.specs.declared.state.Reg.{Reg}

-- WIE, DIE, FIE or a bit of DS
abbrev pub asks : ℕ → Bool
asks tcr = bit_at tcr 4 || bit_at tcr 5 || bit_at tcr 8 || bit_at tcr 9 || bit_at tcr 10

pub quiet_told : (tcr e : ℕ) → (eqb e 0 && not (asks tcr)) ≡ true → (e ≡ 0) × (asks tcr ≡ false)
quiet_told tcr e h =
    let both = and_true (eqb e 0) (not (asks tcr)) h in
    (eqb-true e 0 both.0, not-true (asks tcr) both.1)

record Clear (tcr : ℕ) : Type 0 where
  wie : bit_at tcr 4 ≡ false
  die : bit_at tcr 5 ≡ false
  fie : bit_at tcr 8 ≡ false
  ds : bit_at tcr 9 ≡ false
  ds1 : bit_at tcr 10 ≡ false

clear : (tcr : ℕ) → asks tcr ≡ false → Clear tcr
clear tcr h =
    let d = or_false (bit_at tcr 4 || bit_at tcr 5 || bit_at tcr 8 || bit_at tcr 9) (bit_at tcr 10) h in
    let a = or_false (bit_at tcr 4 || bit_at tcr 5 || bit_at tcr 8) (bit_at tcr 9) d.0 in
    let b = or_false (bit_at tcr 4 || bit_at tcr 5) (bit_at tcr 8) a.0 in
    let c = or_false (bit_at tcr 4) (bit_at tcr 5) b.0 in
    record { wie = c.0; die = c.1; fie = b.1; ds = a.1; ds1 = d.1 }

-- no bit of an event byte 0 is set
none : (k : ℕ) → eqb (0 / 2 ^ k % 2) 1 ≡ false
none k = rw (zero-div (2 ^ k)) refl

pub no_event_acts : (s : State) → acts_of s 0 ≡ false
unfolding acts_of
no_event_acts s = rw (none (31 - (29 - bits_at s.tcr 0 1))) refl

quiet_dec : (dec tcr : ℕ) → Clear tcr → dec_after dec tcr 0 ≡ (dec + (2 ^ 32 - 1)) % 2 ^ 32
unfolding dec_after
quiet_dec dec tcr h = rw (h.ds1, h.ds) refl

quiet_tsr : (tsr tcr : ℕ) (dis : Bool) → tsr_after tsr tcr 0 dis ≡ bit_or tsr (field_at 4 4 (digit dis))
unfolding tsr_after
quiet_tsr tsr tcr dis = rw (none (31 - (29 - bits_at tcr 0 1)), none (31 - (29 - bits_at tcr 6 7)), zero-add, add-zero) refl

quiet_pending : (tsr tcr : ℕ) → Clear tcr → pending_of tsr tcr 0 ≡ false
unfolding pending_of
quiet_pending tsr tcr h = rw (h.die, h.fie, h.wie) refl

-- line 2
pub quiet_tick : (s : State) → asks s.tcr ≡ false
    → (let dec = (s.dec + (2 ^ 32 - 1)) % 2 ^ 32 in
    ticked_of s 0 ≡ with (with (with s Reg.Dec dec) Reg.Tsr (bit_or s.tsr (field_at 4 4 (digit (rises s.dec dec))))) Reg.Isr (put_at s.isr 21 21 0))
unfolding ticked_of event_noted with
quiet_tick s h =
    let dec = (s.dec + (2 ^ 32 - 1)) % 2 ^ 32 in
    let dis = rises s.dec dec in
    rw (quiet_dec s.dec s.tcr (clear s.tcr h), quiet_tsr s.tsr s.tcr dis, quiet_pending (bit_or s.tsr (field_at 4 4 (digit dis))) s.tcr (clear s.tcr h))
    refl

-- line 4
pub quiet_highest : (s : State) → asks s.tcr ≡ false → highest_of s 0 ≡ None
unfolding highest_of
quiet_highest s h =
    let c = clear s.tcr h in
    rw (c.wie, c.fie, c.die) (same (bit_at s.msr 16))
  where
    same : (x : Bool) → ◌≡◌ {A = Option Vector} (pick x None None) None
    same true = refl
    same false = refl
