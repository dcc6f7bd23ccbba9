-- Sound states, the ones that a run accepts, and each way in which a step changes a state: it leaves a sound one. Assumes nothing.
use Rattle.std.specs.Prelude.{Ok, Err}
use Prim.Native.Nat.{ℕ, ◌%◌, ◌≤◌}
use native.Mathlib.Omega.{arith}
use mathlib.Core.Bool.{Bool, true, false, ◌&&◌, ◌||◌, cond}
use mathlib.Core.Path.{◌≡◌, refl, ap, sym, ◌∙◌}
use mathlib.Core.List.{List}
use lib.Bits.{bit_and, and_mask}
use lib.Dec.{eqb}
use borrow.Author.Tests.{eqb-true, eq-eqb, leb-true, le-leb}
use Rattle.word.specs.Bits.{digit, bit_at, bits_at, field_at}
use Rattle.word.specs.Logical.{inv}
use Rattle.word.specs.Compare.{recorded}
use Rattle.word.specs.Double.{recorded64}
use Rattle.word.specs.Rotate.{word_of, mask, put_at}
use Rattle.word.specs.declared.sum.Sum.{Sum}
use Rattle.word.specs.declared.width.Width.{Width}
use Rattle.word.specs.declared.shift.Shifted.{Shifted}
use Rattle.memory.specs.Access.{Access, pick}
use Rattle.memory.specs.Load.{Loaded, value_at}
use Rattle.word.proofs.Truth.{and_left, and_right}
use Rattle.insn.specs.declared.instr.Arithmetic.{Arithmetic}
use Rattle.insn.specs.declared.instr.Logical.{Logical}
use Rattle.insn.specs.declared.instr.Compare.{Compare}
use Rattle.insn.specs.declared.instr.Rotate.{Rotate}
use Rattle.insn.specs.declared.instr.ShiftOp.{ShiftOp}
use Rattle.insn.specs.declared.instr.StackOp.{StackOp}
use Rattle.insn.specs.declared.instr.Branch.{Branch}
use Rattle.insn.specs.declared.instr.BranchOp.{BranchOp}
use Rattle.insn.specs.declared.instr.System.{System}
use Rattle.insn.specs.declared.instr.SprOp.{SprOp}
use Rattle.insn.specs.declared.instr.MoveOp.{MoveOp}
use Rattle.insn.specs.Valid.{paired_with}
use Rattle.insn.specs.Profile.{is42x}
use Rattle.insn.specs.declared.profile.Profile.{Profile}
use Rattle.machine.specs.State.{gpr_of, with, with_gpr, with_vdr}
use Rattle.std.specs.Prelude.{is_ok}
use Rattle.machine.specs.Refusal.{unless}
use Rattle.machine.specs.Register.{defined_of, clean_of, sound_of, check_of}
use Rattle.machine.specs.Interrupt.{cause_of, offset_of, vector_at, kept_of, entered_of, vector_for, access_noted, program_noted, noted_of, promotion_of, promoted_of, code_of, halted_of, taken_for, interrupted_of}
use Rattle.machine.specs.Timer.{tsr_after, event_noted, ticked_of, acted_of}
use Rattle.machine.specs.Result.{following, next_of, so_of, cr0_of, recorded_of, carried_of, overflowed_of, result_of, recorded_double_of, double_result_of}
use Rattle.machine.specs.Arithmetic.{summed_of, multiplied_of, arithmetic_of}
use Rattle.machine.specs.Logical.{logical_of}
use Rattle.machine.specs.Compare.{compared_of, compare_of}
use Rattle.machine.specs.Rotate.{shifted_of, shift_of, rotate_of}
use Rattle.machine.specs.LoadStore.{updated_of, loaded_state, stored_state, loaded_double_state}
use Rattle.machine.specs.Stack.{Part, pair, link, back, read_gpr, state_after}
use Rattle.machine.specs.Branch.{target_at, linked_of, ctr_after, taken_of, branched_of, register_target, branch_of}
use Rattle.machine.specs.Cache.{cleared_state}
use Rattle.machine.specs.System.{trap_of, spr_of, reset_of, dbcr_written, dec_written, isr_written, tsr_written, written, spr_written, enabled_of, moved_of, returned_of, system_of}
use Rattle.machine.specs.declared.state.State.{State}
use Rattle.machine.specs.declared.state.Reg.{Reg}
use Rattle.machine.specs.declared.interrupt.Vector.{Vector}
use Rattle.machine.specs.declared.interrupt.Cause.{Cause}
use Rattle.machine.specs.declared.interrupt.Halt.{Halt}
use Rattle.machine.specs.declared.refusal.Refusal.{Refusal}
use Rattle.machine.proofs.Halts.{code_small}
use Rattle.machine.proofs.Refusals.{and_accepts, unless_accepts}
use Rattle.promises.proofs.Clean.{Clean, clean_any, clean_or, clean_and, clean_defined, clean_put, clean_last}

-- no reserved bit is set, and the halt code is one of 0 to 5
pub record Sound (p : Profile) (s : State) : Type 0 where
  pub cr : Clean (defined_of p Reg.Cr) s.cr
  pub dbcr : Clean (defined_of p Reg.Dbcr) s.dbcr
  pub isr : Clean (defined_of p Reg.Isr) s.isr
  pub ivpr : Clean (defined_of p Reg.Ivpr) s.ivpr
  pub msr : Clean (defined_of p Reg.Msr) s.msr
  pub pir : Clean (defined_of p Reg.Pir) s.pir
  pub srr0 : Clean (defined_of p Reg.Srr0) s.srr0
  pub srr1 : Clean (defined_of p Reg.Srr1) s.srr1
  pub tcr : Clean (defined_of p Reg.Tcr) s.tcr
  pub tsr : Clean (defined_of p Reg.Tsr) s.tsr
  pub xer : Clean (defined_of p Reg.Xer) s.xer
  pub iar : Clean (defined_of p Reg.Iar) s.iar
  pub halt : s.halt ≤ 5

-- what holds of both holds of the one that is picked
pub picked : {A : Type 0} (P : A → Type 0) {x y : A} (b : Bool) → P x → P y → P (pick b x y)
picked P true u q = u
picked P false u q = q

and_both : (a b : Bool) → a ≡ true → b ≡ true → (a && b) ≡ true
and_both true b h k = k
and_both false b h k = h

pub accepted_sound : {p : Profile} (s : State) → check_of p s ≡ Ok tt → Sound p s
unfolding check_of sound_of clean_of
accepted_sound {p} s h =
    let q = and_accepts (unless (eqb (s.iar % 4) 0) Refusal.Iar) (unless (sound_of p s) Refusal.Reserved) (ap is_ok h) in
    let a : eqb (s.iar % 4) 0 ≡ true = unless_accepts (eqb (s.iar % 4) 0) Refusal.Iar q.0 in
    let c : sound_of p s ≡ true = unless_accepts (sound_of p s) Refusal.Reserved q.1 in
    let i : Clean (defined_of p Reg.Iar) s.iar = clean_last 2 s.iar refl (eqb-true (s.iar % 4) 0 a) in
    search (and_left, and_right, eqb-true, leb-true) depth 14

-- an instruction address
abbrev Aligned : ℕ → Type 0
Aligned a = a % 4 ≡ 0

cond_aligned : (b : Bool) (x y : ℕ) → Aligned x → Aligned y → Aligned (cond b x y)
cond_aligned true x y h k = h
cond_aligned false x y h k = k

register_aligned : (s : State) (op : BranchOp) → Aligned (register_target s op)
register_aligned s BranchOp.Bclr = omega arith
register_aligned s BranchOp.Bcctr = omega arith

offset_aligned : (p : Profile) (v : Vector) → Aligned (offset_of p v)
offset_aligned Profile.Ppe42 Vector.MachineCheck = refl
offset_aligned Profile.Ppe42x Vector.MachineCheck = refl
offset_aligned p Vector.DataStorage = refl
offset_aligned p Vector.InstructionStorage = refl
offset_aligned p Vector.External = refl
offset_aligned p Vector.Alignment = refl
offset_aligned p Vector.Program = refl
offset_aligned p Vector.Decrementer = refl
offset_aligned p Vector.FixedInterval = refl
offset_aligned p Vector.Watchdog = refl

-- both cores have the two fields that a step clears
rst_defined : (p : Profile) → bit_and (mask 2 3) (inv (defined_of p Reg.Dbcr)) ≡ 0
unfolding mask word_of
rst_defined Profile.Ppe42 = refl
rst_defined Profile.Ppe42x = refl

wrc_defined : (p : Profile) → bit_and (mask 2 3) (inv (defined_of p Reg.Tcr)) ≡ 0
unfolding mask word_of
wrc_defined Profile.Ppe42 = refl
wrc_defined Profile.Ppe42x = refl

-- one register written
module _ {p : Profile} {s : State} (k : Sound p s) where
  iar_aligned : Aligned s.iar
  iar_aligned = sym (and_mask s.iar 2) ∙ k.iar.none

  pub sound_accepted : check_of p s ≡ Ok tt
  unfolding check_of sound_of clean_of
  sound_accepted =
      let c : sound_of p s ≡ true = search (and_both, eq-eqb, le-leb) depth 14 in
      rw (eq-eqb (s.iar % 4) 0 iar_aligned, c)

  gpr_sound : (n v : ℕ) → Sound p (with_gpr s n v)
  unfolding with_gpr
  gpr_sound n v = search

  vdr_sound : (n v : ℕ) → Sound p (with_vdr s n v)
  unfolding with_vdr with_gpr
  vdr_sound n v = search

  -- every field is as it was or the one that is given
  with_sound : {v : ℕ} (r : Reg) → Clean (defined_of p r) v → (with s r v).halt ≤ 5 → Sound p (with s r v)
  unfolding with
  with_sound Reg.Cr c h = search
  with_sound Reg.Ctr c h = search
  with_sound Reg.Dacr c h = search
  with_sound Reg.Dbcr c h = search
  with_sound Reg.Dec c h = search
  with_sound Reg.Edr c h = search
  with_sound Reg.Isr c h = search
  with_sound Reg.Ivpr c h = search
  with_sound Reg.Lr c h = search
  with_sound Reg.Msr c h = search
  with_sound Reg.Pir c h = search
  with_sound Reg.Pvr c h = search
  with_sound Reg.Sprg0 c h = search
  with_sound Reg.Srr0 c h = search
  with_sound Reg.Srr1 c h = search
  with_sound Reg.Tcr c h = search
  with_sound Reg.Tsr c h = search
  with_sound Reg.Xer c h = search
  with_sound Reg.Iar c h = search
  with_sound Reg.Halt c h = search

  goes_sound : (a : ℕ) → Aligned a → Sound p (with s Reg.Iar a)
  unfolding with
  goes_sound a h = with_sound Reg.Iar (clean_last 2 a refl h) k.halt

  following_aligned : Aligned (following s)
  following_aligned = omega (arith, iar_aligned)

  pub next_sound : Sound p (next_of s)
  unfolding next_of
  next_sound = goes_sound (following s) following_aligned

  halted_sound : (h : Halt) → Sound p (halted_of s h)
  unfolding halted_of with
  halted_sound h = with_sound Reg.Halt (clean_any (code_of h)) (code_small h)

-- what interrupts, results, branches and moves to special registers write
module _ {p : Profile} {s : State} (k : Sound p s) where
  pub entered_sound : (v : Vector) → Sound p (entered_of p s v)
  unfolding entered_of with
  entered_sound v =
      let saved = with_sound (with_sound k Reg.Srr0 k.iar k.halt) Reg.Srr1 k.msr k.halt in
      goes_sound (with_sound saved Reg.Msr (clean_and k.msr (kept_of v)) k.halt) (vector_at p s.ivpr v) (omega (arith, offset_aligned p v))

  -- a bit of ISR, and EDR
  fault_sound : (i v edr : ℕ) → bit_and (mask i i) (inv (defined_of p Reg.Isr)) ≡ 0 → Sound p (with (with s Reg.Isr (put_at s.isr i i v)) Reg.Edr edr)
  unfolding with
  fault_sound i v edr h = with_sound (with_sound k Reg.Isr (clean_put i i v h k.isr) k.halt) Reg.Edr (clean_any edr) k.halt

  noted_sound : (c : Cause) → Sound p (noted_of s c)
  unfolding noted_of access_noted program_noted mask word_of
  noted_sound (Cause.DataStorage address store) = fault_sound 25 (digit store) address refl
  noted_sound Cause.InstructionStorage = k
  noted_sound (Cause.Alignment address store) = fault_sound 25 (digit store) address refl
  noted_sound (Cause.Program word trap) = fault_sound 24 (digit trap) word refl

  promoted_sound : (c : Cause) → Sound p (promoted_of s c)
  unfolding promoted_of with mask word_of
  promoted_sound c = with_sound k Reg.Isr (clean_put 29 31 (promotion_of c) refl (clean_put 28 28 0 refl k.isr)) k.halt

  event_sound : (e : ℕ) → Sound p (event_noted s e)
  unfolding event_noted with mask word_of
  event_sound e = with_sound k Reg.Isr (clean_put 21 21 _ refl k.isr) k.halt

  pub acted_sound : Sound p (acted_of s)
  unfolding acted_of with mask word_of
  acted_sound =
      let t = with_sound k Reg.Tsr (clean_put 2 3 (bits_at s.tcr 2 3) refl k.tsr) k.halt in
      halted_sound (with_sound t Reg.Tcr (clean_put {d = defined_of p Reg.Tcr} 2 3 0 (wrc_defined p) k.tcr) k.halt) _

  cr0_sound : (v : ℕ) → Sound p (cr0_of s v)
  unfolding cr0_of with
  cr0_sound v = with_sound k Reg.Cr (clean_last 28 (field_at 0 3 v) refl (omega arith)) k.halt

  recorded_sound : (v : ℕ) (rc : Bool) → Sound p (recorded_of s v rc)
  unfolding recorded_of
  recorded_sound v rc = picked (Sound p) rc (cr0_sound (recorded v (so_of s))) k

  carried_sound : (writes ca : Bool) → Sound p (carried_of s writes ca)
  unfolding carried_of with mask word_of
  carried_sound writes ca = picked (Sound p) writes (with_sound k Reg.Xer (clean_put 2 2 (digit ca) refl k.xer) k.halt) k

  overflowed_sound : (oe ov : Bool) → Sound p (overflowed_of s oe ov)
  unfolding overflowed_of with mask word_of
  overflowed_sound oe ov =
      picked (Sound p) oe (with_sound k Reg.Xer (clean_put 0 0 (digit (so_of s || ov)) refl (clean_put 1 1 (digit ov) refl k.xer)) k.halt) k

  updated_sound : (update : Bool) (ra ea : ℕ) → Sound p (updated_of s update ra ea)
  unfolding updated_of
  updated_sound update ra ea = picked (Sound p) update (gpr_sound k ra ea) k

  linked_sound : (lk : Bool) → Sound p (linked_of s lk)
  unfolding linked_of with
  linked_sound lk = picked (Sound p) lk (with_sound k Reg.Lr (clean_any (following s)) k.halt) k

  enabled_sound : (e : Bool) → Sound p (enabled_of s e)
  unfolding enabled_of with mask word_of
  enabled_sound e = next_sound (with_sound k Reg.Msr (clean_put 16 16 (digit e) refl k.msr) k.halt)

  dbcr_sound : (v : ℕ) → Sound p (dbcr_written p s v)
  unfolding dbcr_written reset_of with mask word_of
  dbcr_sound v =
      let w = with_sound k Reg.Dbcr (clean_put {d = defined_of p Reg.Dbcr} 2 3 0 (rst_defined p) (clean_defined v)) k.halt in
      picked (Sound p) (eqb (bits_at v 2 3) 0) w (halted_sound w _)

  dec_sound : (v : ℕ) → Sound p (dec_written s v)
  unfolding dec_written with
  dec_sound v =
      with_sound (with_sound k Reg.Tsr (clean_or k.tsr (clean_last 26 _ refl (omega arith))) k.halt) Reg.Dec (clean_any v) k.halt

  isr_sound : (v : ℕ) → Sound p (isr_written p s v)
  unfolding isr_written with mask word_of
  isr_sound v = with_sound k Reg.Isr (clean_put 21 21 _ refl (clean_defined v)) k.halt

  tsr_sound : (v : ℕ) → Sound p (tsr_written s v)
  unfolding tsr_written with
  tsr_sound v = with_sound k Reg.Tsr (clean_and k.tsr (inv v)) k.halt

  -- no SPR number names the halt code
  spr_halt : (n v : ℕ) → (with s (spr_of n) (bit_and v (defined_of p (spr_of n)))).halt ≤ 5
  unfolding spr_of with
  spr_halt n v = search (picked (λ (r : Reg). (with s r (bit_and v (defined_of p r))).halt ≤ 5)) depth 20

  spr_sound : (n v : ℕ) → Sound p (spr_written p s n v)
  unfolding spr_written written
  spr_sound n v =
      picked (Sound p) (eqb n 22) (dec_sound v)
      (picked (Sound p) (eqb n 62) (isr_sound v)
      (picked (Sound p) (eqb n 308) (dbcr_sound v)
      (picked (Sound p) (eqb n 336) (tsr_sound v) (with_sound k (spr_of n) (clean_defined v) (spr_halt n v)))))

-- an interrupt, a result and a tick
module _ {p : Profile} {s : State} (k : Sound p s) where
  pub interrupted_sound : (c : Cause) → Sound p (interrupted_of p s c)
  unfolding interrupted_of taken_for
  interrupted_sound c =
      let n = noted_sound k c in
      picked (Sound p) (bit_at (noted_of s c).msr 15) (entered_sound n (vector_for c))
      (picked (Sound p) (bit_at (noted_of s c).msr 19) (entered_sound (promoted_sound n c) Vector.MachineCheck)
      (halted_sound (entered_sound n (vector_for c)) Halt.MachineCheck))

  result_sound : (r v : ℕ) (rc : Bool) → Sound p (result_of s r v rc)
  unfolding result_of
  result_sound r v rc = next_sound (gpr_sound (recorded_sound k v rc) r v)

  double_sound : (r v : ℕ) (rc : Bool) → Sound p (double_result_of s r v rc)
  unfolding double_result_of recorded_double_of
  double_sound r v rc = next_sound (vdr_sound (picked (Sound p) rc (cr0_sound k (recorded64 v (so_of s))) k) r v)

  pub ticked_sound : (e : ℕ) → Sound p (ticked_of s e)
  unfolding ticked_of tsr_after with
  ticked_sound e =
      let d = with_sound k Reg.Dec (clean_any _) k.halt in
      event_sound (with_sound d Reg.Tsr (clean_or k.tsr (clean_last 26 _ refl (omega arith))) k.halt) e

-- the instructions
module _ {p : Profile} {s : State} (k : Sound p s) where
  summed_sound : (rt : ℕ) (sum : Sum) (carries oe rc : Bool) → Sound p (summed_of s rt sum carries oe rc)
  unfolding summed_of
  summed_sound rt sum carries oe rc =
      result_sound (overflowed_sound (carried_sound k carries sum.carry) oe sum.overflow) rt sum.value rc

  pub arithmetic_sound : (i : Arithmetic) → Sound p (arithmetic_of s i)
  unfolding arithmetic_of multiplied_of
  arithmetic_sound (Arithmetic.Immediate op rt ra si) = summed_sound rt _ _ false _
  arithmetic_sound (Arithmetic.Register op rt ra rb oe rc) = summed_sound rt _ _ oe rc
  arithmetic_sound (Arithmetic.One op rt ra oe rc) = summed_sound rt _ _ oe rc
  arithmetic_sound (Arithmetic.Multiply sign rt ra rb rc) = result_sound k rt _ rc
  arithmetic_sound (Arithmetic.MultiplyImm rt ra si) = result_sound k rt _ false
  arithmetic_sound (Arithmetic.MultiplyLow rt ra rb oe rc) = result_sound (overflowed_sound k oe _) rt _ rc

  pub logical_sound : (i : Logical) → Sound p (logical_of s i)
  unfolding logical_of
  logical_sound (Logical.Immediate op rs ra ui) = result_sound k ra _ _
  logical_sound (Logical.Register op rs ra rb rc) = result_sound k ra _ rc
  logical_sound (Logical.One op rs ra rc) = result_sound k ra _ rc

  pub compare_sound : (i : Compare) → Sound p (compare_of s i)
  unfolding compare_of compared_of
  compare_sound (Compare.Immediate sign ra imm) = next_sound (cr0_sound k _)
  compare_sound (Compare.Register sign ra rb) = next_sound (cr0_sound k _)

  shifted_sound : (ra : ℕ) (shifted : Shifted) (rc : Bool) → Sound p (shifted_of s ra shifted rc)
  unfolding shifted_of
  shifted_sound ra shifted rc = result_sound (carried_sound k true shifted.carry) ra shifted.value rc

  pub rotate_sound : (i : Rotate) → Sound p (rotate_of s i)
  unfolding rotate_of shift_of
  rotate_sound (Rotate.Immediate op rs ra sh mb me rc) = result_sound k ra _ rc
  rotate_sound (Rotate.Register rs ra rb mb me rc) = result_sound k ra _ rc
  rotate_sound (Rotate.Shift ShiftOp.Slw rs ra rb rc) = result_sound k ra _ rc
  rotate_sound (Rotate.Shift ShiftOp.Srw rs ra rb rc) = result_sound k ra _ rc
  rotate_sound (Rotate.Shift ShiftOp.Sraw rs ra rb rc) = shifted_sound ra _ rc
  rotate_sound (Rotate.Srawi rs ra sh rc) = shifted_sound ra _ rc
  rotate_sound (Rotate.Double op ds da sh mb rc) = double_sound k da _ rc

  target_aligned : (aa : Bool) (d : ℕ) → Aligned d → Aligned (target_at s aa d)
  target_aligned aa d h = omega (arith, cond_aligned aa 0 s.iar refl (iar_aligned k))

  branched_sound : (bo bi target : ℕ) (lk : Bool) → Aligned target → Sound p (branched_of s bo bi target lk)
  unfolding branched_of with
  branched_sound bo bi target lk h =
      let l = linked_sound k lk in
      let ctr = ctr_after s.ctr bo in
      goes_sound (with_sound l Reg.Ctr (clean_any ctr) l.halt) _
      (cond_aligned (taken_of bo bi ctr s.cr) target (following s) h (following_aligned k))

  pub branch_sound : (i : Branch) → Sound p (branch_of s i)
  unfolding branch_of
  branch_sound (Branch.Always aa lk li) = goes_sound (linked_sound k lk) _ (target_aligned aa _ (omega arith))
  branch_sound (Branch.Conditional bo bi bd aa lk) = branched_sound bo bi _ lk (target_aligned aa _ (omega arith))
  branch_sound (Branch.Register op bo bi bh lk) = branched_sound bo bi _ lk (register_aligned s op)

  pub trap_sound : (word to : ℕ) (tg : Bool) → Sound p (trap_of p s word to tg)
  unfolding trap_of
  trap_sound word to tg =
      picked (Sound p) (eqb to 0 || is42x p && tg) (next_sound k)
      (picked (Sound p) (bit_at s.dbcr 7) (halted_sound k Halt.Trap) (interrupted_sound k (Cause.Program word true)))

  moved_sound : (op : MoveOp) (r : ℕ) → Sound p (moved_of p s op r)
  unfolding moved_of written with
  moved_sound MoveOp.Mfcr r = result_sound k r _ false
  moved_sound MoveOp.Mtcr0 r = next_sound (with_sound k Reg.Cr (clean_defined (gpr_of s r)) k.halt)
  moved_sound MoveOp.Mfmsr r = result_sound k r _ false
  moved_sound MoveOp.Mtmsr r = next_sound (with_sound k Reg.Msr (clean_defined (gpr_of s r)) k.halt)
  moved_sound MoveOp.Wrtee r = enabled_sound k (bit_at (gpr_of s r) 16)

  returned_sound : Sound p (returned_of p s)
  unfolding returned_of written with
  returned_sound = goes_sound (with_sound k Reg.Msr (clean_defined s.srr1) k.halt) _ (omega arith)

  pub system_sound : (i : System) → Sound p (system_of p s i)
  unfolding system_of
  system_sound (System.Spr SprOp.Mfspr r n) = result_sound k r _ false
  system_sound (System.Spr SprOp.Mtspr r n) = next_sound (spr_sound k n (gpr_of s r))
  system_sound (System.Move op r) = moved_sound op r
  system_sound (System.Wrteei e) = enabled_sound k e
  system_sound System.Rfi = returned_sound
  system_sound System.Sync = next_sound k

  pub loaded_sound : (l : Loaded) (rt : ℕ) (update : Bool) (ra ea : ℕ) → Sound p (loaded_state p s l rt update ra ea)
  loaded_sound (Ok v) rt update ra ea = next_sound (gpr_sound (updated_sound k update ra ea) rt v)
  loaded_sound (Err f) rt update ra ea = interrupted_sound k (cause_of f ea false)

  pub loaded_double_sound : (l : Loaded) (dt : ℕ) (update : Bool) (ra ea : ℕ) → Sound p (loaded_double_state p s l dt update ra ea)
  loaded_double_sound (Ok v) dt update ra ea = next_sound (vdr_sound (updated_sound k update ra ea) dt v)
  loaded_double_sound (Err f) dt update ra ea = interrupted_sound k (cause_of f ea false)

  -- lsku and stsku, access by access and at their end
  read_sound : (ra n v : ℕ) → Sound p (read_gpr s ra n v)
  read_sound ra n v = picked (Sound p) (eqb n ra) k (gpr_sound k n v)

  pub framed_sound : (ra ea edr : ℕ) → Sound p (next_of (with_gpr (with s Reg.Edr edr) ra ea))
  unfolding with
  framed_sound ra ea edr = next_sound (gpr_sound (with_sound k Reg.Edr (clean_any edr) k.halt) ra ea)

  pub stored_sound : (a : Access) (update : Bool) (ra ea : ℕ) → Sound p (stored_state p s a update ra ea)
  stored_sound (Ok tt) update ra ea = next_sound (updated_sound k update ra ea)
  stored_sound (Err f) update ra ea = interrupted_sound k (cause_of f ea true)

  pub cleared_sound : (a : Access) (ea : ℕ) → Sound p (cleared_state p s a ea)
  cleared_sound (Ok tt) ea = next_sound k
  cleared_sound (Err f) ea = interrupted_sound k (cause_of f ea true)

pub part_sound : {p : Profile} {s : State} → Sound p s → (op : StackOp) (ra : ℕ) (x : Part) (m : List ℕ) → Sound p (state_after op ra x s m)
unfolding with
part_sound k StackOp.Lsku ra (pair n a) m = read_sound (read_sound k ra n _) ra (paired_with n) _
part_sound k StackOp.Lsku ra (link a) m = with_sound k Reg.Lr (clean_any (value_at Width.Word m a)) k.halt
part_sound k StackOp.Lsku ra (back a) m = k
part_sound k StackOp.Stsku ra x m = k
