-- A step from a running core leaves a halt code from 0 to 5, and 0 or 1 if it reached past its memory. Assumes nothing.
use Prim.Native.Nat.{ℕ, ◌≤◌}
use mathlib.Core.Bool.{Bool, true, false, ◌&&◌, ◌||◌}
use mathlib.Core.List.{List, [], ◌∷◌}
use mathlib.Core.Path.{◌≡◌, refl, sym}
use lib.Dec.{eqb, lit≤}
use borrow.Author.Tests.{eq-eqb}
use lib.ListN.{length}
use Rattle.word.specs.Bits.{bit_at, bits_at}
use Rattle.word.specs.Width.{bytes}
use Rattle.word.proofs.Truth.{never}
use Rattle.word.specs.declared.sum.Sum.{Sum}
use Rattle.word.specs.declared.shift.Shifted.{Shifted}
use Rattle.memory.specs.Access.{Access, pick, aligned_of, access_of, reaches_past}
use Rattle.memory.specs.Load.{Loaded, loaded, load_of, load_double_of, fetch_of}
use Rattle.memory.specs.Store.{block_at}
use Rattle.std.specs.Prelude.{Option, Some, None, Ok, Err}
use Rattle.insn.specs.Profile.{is42x}
use Rattle.insn.specs.Read.{decode_on}
use Rattle.insn.specs.declared.profile.Profile.{Profile}
use Rattle.insn.specs.declared.instr.Instr.{Instr}
use Rattle.insn.specs.declared.instr.Arithmetic.{Arithmetic}
use Rattle.insn.specs.declared.instr.Logical.{Logical}
use Rattle.insn.specs.declared.instr.Compare.{Compare}
use Rattle.insn.specs.declared.instr.Rotate.{Rotate}
use Rattle.insn.specs.declared.instr.ShiftOp.{ShiftOp}
use Rattle.insn.specs.declared.instr.LoadStore.{LoadStore}
use Rattle.insn.specs.declared.instr.StackOp.{StackOp}
use Rattle.insn.specs.declared.instr.CacheOp.{CacheOp}
use Rattle.insn.specs.declared.instr.Branch.{Branch}
use Rattle.insn.specs.declared.instr.System.{System}
use Rattle.insn.specs.declared.instr.SprOp.{SprOp}
use Rattle.insn.specs.declared.instr.MoveOp.{MoveOp}
use Rattle.machine.specs.State.{gpr_of, same, with, with_gpr, with_vdr}
use Rattle.machine.specs.Interrupt.{entered_of, vector_for, access_noted, program_noted, noted_of, promoted_of, code_of, halted_of, cause_of, taken_for, interrupted_of}
use Rattle.machine.specs.Timer.{event_noted, ticked_of, acts_of, acted_of}
use Rattle.machine.specs.Result.{next_of, cr0_of, recorded_of, carried_of, overflowed_of, result_of, recorded_double_of, double_result_of}
use Rattle.machine.specs.Arithmetic.{summed_of, multiplied_of, arithmetic_of}
use Rattle.machine.specs.Logical.{logical_of}
use Rattle.machine.specs.Compare.{compared_of, compare_of}
use Rattle.machine.specs.Rotate.{shifted_of, shift_of, rotate_of}
use Rattle.machine.specs.LoadStore.{offset_ea, indexed_ea, updated_of, loaded_state, load_at, stored_state, store_at, loaded_double_state, load_double_at, store_double_at, load_store_of}
use Rattle.machine.specs.Stack.{Part, pair, link, back, address_of, size_of, read_gpr, state_after, memory_after, stores_of, goes_on, framed_of, stack_of}
use Rattle.machine.specs.Branch.{linked_of, branched_of, branch_of}
use Rattle.machine.specs.Cache.{cleared_state, clear_at, cache_of}
use Rattle.machine.specs.System.{trap_of, spr_of, reset_of, dbcr_written, dec_written, isr_written, tsr_written, written, spr_written, enabled_of, moved_of, returned_of, system_of}
use Rattle.machine.specs.After.{After}
use Rattle.machine.specs.Step.{execute_of, decoded_of, fetched_of, running_of, awake_of, highest_of, interruptible_of, counted_of, step_of}
use Rattle.machine.specs.declared.state.State.{State}
use Rattle.machine.specs.declared.state.Reg.{Reg}
use Rattle.machine.specs.declared.interrupt.Vector.{Vector}
use Rattle.machine.specs.declared.interrupt.Cause.{Cause}
use Rattle.machine.specs.declared.interrupt.Halt.{Halt}

-- a halt code of at most n
record Coded (n : ℕ) (s : State) : Type 0 where
  halt : s.halt ≤ n

-- what holds of both holds of the one that is picked
picked : {A : Type 0} (P : A → Type 0) {x y : A} (b : Bool) → P x → P y → P (pick b x y)
picked P true p q = p
picked P false p q = q

pub code_small : (h : Halt) → code_of h ≤ 5
code_small Halt.MachineCheck = lit≤ tt
code_small Halt.Debug = lit≤ tt
code_small Halt.Trap = lit≤ tt
code_small Halt.Watchdog = lit≤ tt
code_small Halt.Reset = lit≤ tt

-- no SPR number names the halt code
spr_other : (n : ℕ) → same (spr_of n) Reg.Halt ≡ false
unfolding spr_of
spr_other n = search (picked (λ (r : Reg). same r Reg.Halt ≡ false)) depth 20

halted_coded : {n : ℕ} (s : State) (h : Halt) → code_of h ≤ n → Coded n (halted_of s h)
unfolding halted_of with
halted_coded s h l = record { halt = l }

stopped_coded : (s : State) (h : Halt) → Coded 5 (halted_of s h)
stopped_coded s h = halted_coded s h (code_small h)

-- one register written, and what interrupts, results, branches and moves to special registers write
module _ {n : ℕ} {s : State} (k : Coded n s) where
  gpr_coded : (g v : ℕ) → Coded n (with_gpr s g v)
  unfolding with_gpr
  gpr_coded g v = record { halt = k.halt }

  vdr_coded : (g v : ℕ) → Coded n (with_vdr s g v)
  unfolding with_vdr with_gpr
  vdr_coded g v = record { halt = k.halt }

  with_coded : (r : Reg) (v : ℕ) → same r Reg.Halt ≡ false → Coded n (with s r v)
  unfolding with
  with_coded r v e = record { halt = rw e k.halt }

  next_coded : Coded n (next_of s)
  unfolding next_of
  next_coded = with_coded Reg.Iar _ refl

  entered_coded : (p : Profile) (v : Vector) → Coded n (entered_of p s v)
  unfolding entered_of with
  entered_coded p v = record { halt = k.halt }

  noted_coded : (c : Cause) → Coded n (noted_of s c)
  unfolding noted_of access_noted program_noted with
  noted_coded (Cause.DataStorage address store) = record { halt = k.halt }
  noted_coded Cause.InstructionStorage = k
  noted_coded (Cause.Alignment address store) = record { halt = k.halt }
  noted_coded (Cause.Program word trap) = record { halt = k.halt }

  promoted_coded : (c : Cause) → Coded n (promoted_of s c)
  unfolding promoted_of
  promoted_coded c = with_coded Reg.Isr _ refl

  recorded_coded : (v : ℕ) (rc : Bool) → Coded n (recorded_of s v rc)
  unfolding recorded_of cr0_of
  recorded_coded v rc = picked (Coded n) rc (with_coded Reg.Cr _ refl) k

  carried_coded : (writes ca : Bool) → Coded n (carried_of s writes ca)
  unfolding carried_of
  carried_coded writes ca = picked (Coded n) writes (with_coded Reg.Xer _ refl) k

  overflowed_coded : (oe ov : Bool) → Coded n (overflowed_of s oe ov)
  unfolding overflowed_of
  overflowed_coded oe ov = picked (Coded n) oe (with_coded Reg.Xer _ refl) k

  updated_coded : (update : Bool) (ra ea : ℕ) → Coded n (updated_of s update ra ea)
  unfolding updated_of
  updated_coded update ra ea = picked (Coded n) update (gpr_coded ra ea) k

  linked_coded : (lk : Bool) → Coded n (linked_of s lk)
  unfolding linked_of
  linked_coded lk = picked (Coded n) lk (with_coded Reg.Lr _ refl) k

module _ {n : ℕ} {s : State} (k : Coded n s) where
  interrupted_coded : 1 ≤ n → (p : Profile) (c : Cause) → Coded n (interrupted_of p s c)
  unfolding interrupted_of taken_for
  interrupted_coded l p c =
      let t = noted_coded k c in
      picked (Coded n) (bit_at (noted_of s c).msr 15) (entered_coded t p (vector_for c))
      (picked (Coded n) (bit_at (noted_of s c).msr 19) (entered_coded (promoted_coded t c) p Vector.MachineCheck) (halted_coded _ Halt.MachineCheck l))

  result_coded : (r v : ℕ) (rc : Bool) → Coded n (result_of s r v rc)
  unfolding result_of
  result_coded r v rc = next_coded (gpr_coded (recorded_coded k v rc) r v)

  double_coded : (r v : ℕ) (rc : Bool) → Coded n (double_result_of s r v rc)
  unfolding double_result_of recorded_double_of cr0_of
  double_coded r v rc = next_coded (vdr_coded (picked (Coded n) rc (with_coded k Reg.Cr _ refl) k) r v)

  enabled_coded : (e : Bool) → Coded n (enabled_of s e)
  unfolding enabled_of
  enabled_coded e = next_coded (with_coded k Reg.Msr _ refl)

-- the instructions
module _ (p : Profile) {s : State} (k : Coded 5 s) where
  dbcr_coded : (v : ℕ) → Coded 5 (dbcr_written p s v)
  unfolding dbcr_written reset_of
  dbcr_coded v = picked (Coded 5) (eqb (bits_at v 2 3) 0) (with_coded k Reg.Dbcr _ refl) (stopped_coded _ _)

  spr_coded : (n v : ℕ) → Coded 5 (spr_written p s n v)
  unfolding spr_written dec_written isr_written tsr_written written
  spr_coded n v =
      picked (Coded 5) (eqb n 22) (with_coded (with_coded k Reg.Tsr _ refl) Reg.Dec v refl)
      (picked (Coded 5) (eqb n 62) (with_coded k Reg.Isr _ refl)
      (picked (Coded 5) (eqb n 308) (dbcr_coded v)
      (picked (Coded 5) (eqb n 336) (with_coded k Reg.Tsr _ refl) (with_coded k (spr_of n) _ (spr_other n)))))

  summed_coded : (rt : ℕ) (sum : Sum) (carries oe rc : Bool) → Coded 5 (summed_of s rt sum carries oe rc)
  unfolding summed_of
  summed_coded rt sum carries oe rc =
      result_coded (overflowed_coded (carried_coded k carries sum.carry) oe sum.overflow) rt sum.value rc

  arithmetic_coded : (i : Arithmetic) → Coded 5 (arithmetic_of s i)
  unfolding arithmetic_of multiplied_of
  arithmetic_coded (Arithmetic.Immediate op rt ra si) = summed_coded rt _ _ false _
  arithmetic_coded (Arithmetic.Register op rt ra rb oe rc) = summed_coded rt _ _ oe rc
  arithmetic_coded (Arithmetic.One op rt ra oe rc) = summed_coded rt _ _ oe rc
  arithmetic_coded (Arithmetic.Multiply sign rt ra rb rc) = result_coded k rt _ rc
  arithmetic_coded (Arithmetic.MultiplyImm rt ra si) = result_coded k rt _ false
  arithmetic_coded (Arithmetic.MultiplyLow rt ra rb oe rc) = result_coded (overflowed_coded k oe _) rt _ rc

  logical_coded : (i : Logical) → Coded 5 (logical_of s i)
  unfolding logical_of
  logical_coded (Logical.Immediate op rs ra ui) = result_coded k ra _ _
  logical_coded (Logical.Register op rs ra rb rc) = result_coded k ra _ rc
  logical_coded (Logical.One op rs ra rc) = result_coded k ra _ rc

  compare_coded : (i : Compare) → Coded 5 (compare_of s i)
  unfolding compare_of compared_of cr0_of
  compare_coded (Compare.Immediate sign ra imm) = next_coded (with_coded k Reg.Cr _ refl)
  compare_coded (Compare.Register sign ra rb) = next_coded (with_coded k Reg.Cr _ refl)

  shifted_coded : (ra : ℕ) (shifted : Shifted) (rc : Bool) → Coded 5 (shifted_of s ra shifted rc)
  unfolding shifted_of
  shifted_coded ra shifted rc = result_coded (carried_coded k true shifted.carry) ra shifted.value rc

  rotate_coded : (i : Rotate) → Coded 5 (rotate_of s i)
  unfolding rotate_of shift_of
  rotate_coded (Rotate.Immediate op rs ra sh mb me rc) = result_coded k ra _ rc
  rotate_coded (Rotate.Register rs ra rb mb me rc) = result_coded k ra _ rc
  rotate_coded (Rotate.Shift ShiftOp.Slw rs ra rb rc) = result_coded k ra _ rc
  rotate_coded (Rotate.Shift ShiftOp.Srw rs ra rb rc) = result_coded k ra _ rc
  rotate_coded (Rotate.Shift ShiftOp.Sraw rs ra rb rc) = shifted_coded ra _ rc
  rotate_coded (Rotate.Srawi rs ra sh rc) = shifted_coded ra _ rc
  rotate_coded (Rotate.Double op ds da sh mb rc) = double_coded k da _ rc

  branched_coded : (bo bi target : ℕ) (lk : Bool) → Coded 5 (branched_of s bo bi target lk)
  unfolding branched_of
  branched_coded bo bi target lk = with_coded (with_coded (linked_coded k lk) Reg.Ctr _ refl) Reg.Iar _ refl

  branch_coded : (i : Branch) → Coded 5 (branch_of s i)
  unfolding branch_of
  branch_coded (Branch.Always aa lk li) = with_coded (linked_coded k lk) Reg.Iar _ refl
  branch_coded (Branch.Conditional bo bi bd aa lk) = branched_coded bo bi _ lk
  branch_coded (Branch.Register op bo bi bh lk) = branched_coded bo bi _ lk

  trap_coded : (word to : ℕ) (tg : Bool) → Coded 5 (trap_of p s word to tg)
  unfolding trap_of
  trap_coded word to tg =
      picked (Coded 5) (eqb to 0 || is42x p && tg) (next_coded k)
      (picked (Coded 5) (bit_at s.dbcr 7) (stopped_coded s Halt.Trap) (interrupted_coded k (lit≤ tt) p (Cause.Program word true)))

  moved_coded : (op : MoveOp) (r : ℕ) → Coded 5 (moved_of p s op r)
  unfolding moved_of written
  moved_coded MoveOp.Mfcr r = result_coded k r _ false
  moved_coded MoveOp.Mtcr0 r = next_coded (with_coded k Reg.Cr _ refl)
  moved_coded MoveOp.Mfmsr r = result_coded k r _ false
  moved_coded MoveOp.Mtmsr r = next_coded (with_coded k Reg.Msr _ refl)
  moved_coded MoveOp.Wrtee r = enabled_coded k _

  system_coded : (i : System) → Coded 5 (system_of p s i)
  unfolding system_of returned_of written
  system_coded (System.Spr SprOp.Mfspr r n) = result_coded k r _ false
  system_coded (System.Spr SprOp.Mtspr r n) = next_coded (spr_coded n _)
  system_coded (System.Move op r) = moved_coded op r
  system_coded (System.Wrteei e) = enabled_coded k e
  system_coded System.Rfi = with_coded (with_coded k Reg.Msr _ refl) Reg.Iar _ refl
  system_coded System.Sync = next_coded k

-- the lines of a step from a running core
record Left (a : After) : Type 0 where
  st : Coded 5 a.st
  past : a.past ≡ true → Coded 1 a.st

untold : {s : State} {m : List ℕ} → Coded 5 s → Left (record { st = s; mem = m; past = false })
untold k = record { st = k; past = λ h. never (sym h) }

module _ (p : Profile) (s : State) (z : s.halt ≡ 0) where
  five : Coded 5 s
  five = record { halt = rw z (lit≤ tt) }

  -- an interrupt halts with 1 or not at all, whether or not the access reached past the memory
  fault : {m : List ℕ} {past : Bool} (c : Cause) → Left (record { st = interrupted_of p s c; mem = m; past = past })
  fault c =
      let one : Coded 1 s = record { halt = rw z (lit≤ tt) } in
      record { st = interrupted_coded five (lit≤ tt) p c; past = λ h. interrupted_coded one (lit≤ tt) p c }

  load_left : (m : List ℕ) (x : Access) (v rt : ℕ) (update : Bool) (ra ea : ℕ)
      → Left (record { st = loaded_state p s (loaded x v) rt update ra ea; mem = m; past = reaches_past x })
  load_left m (Ok u) v rt update ra ea = untold (next_coded (gpr_coded (updated_coded five update ra ea) rt v))
  load_left m (Err f) v rt update ra ea = fault (cause_of f ea false)

  load_double_left : (m : List ℕ) (x : Access) (v dt : ℕ) (update : Bool) (ra ea : ℕ)
      → Left (record { st = loaded_double_state p s (loaded x v) dt update ra ea; mem = m; past = reaches_past x })
  load_double_left m (Ok u) v dt update ra ea = untold (next_coded (vdr_coded (updated_coded five update ra ea) dt v))
  load_double_left m (Err f) v dt update ra ea = fault (cause_of f ea false)

  store_left : (m : List ℕ) (x : Access) (update : Bool) (ra ea : ℕ) → Left (record { st = stored_state p s x update ra ea; mem = m; past = reaches_past x })
  store_left m (Ok u) update ra ea = untold (next_coded (updated_coded five update ra ea))
  store_left m (Err f) update ra ea = fault (cause_of f ea true)

  clear_left : (m : List ℕ) (x : Access) (ea : ℕ) → Left (record { st = cleared_state p s x ea; mem = m; past = reaches_past x })
  clear_left m (Ok u) ea = untold (next_coded five)
  clear_left m (Err f) ea = fault (cause_of f ea true)

-- an access of a frame halts nothing by itself
read_halt : (s : State) (ra n v : ℕ) → s.halt ≡ 0 → (read_gpr s ra n v).halt ≡ 0
unfolding with_gpr
read_halt s ra n v z = picked (λ (t : State). t.halt ≡ 0) (eqb n ra) z z

part_halt : (op : StackOp) (ra : ℕ) (x : Part) (s : State) (m : List ℕ) → s.halt ≡ 0 → (state_after op ra x s m).halt ≡ 0
unfolding with
part_halt StackOp.Lsku ra (pair n a) s m z = read_halt _ ra _ _ (read_halt s ra n _ z)
part_halt StackOp.Lsku ra (link a) s m z = z
part_halt StackOp.Lsku ra (back a) s m z = z
part_halt StackOp.Stsku ra x s m z = z

part_left : (p : Profile) (s : State) (z : s.halt ≡ 0) (m : List ℕ) (store : Bool) (a : ℕ) (k : Access) {rest : After} → Left rest → Left (goes_on p s m store a k rest)
part_left p s z m store a (Ok u) l = l
part_left p s z m store a (Err f) l = fault p s z (cause_of f a store)

framed_left : (p : Profile) (op : StackOp) (ra sp ea : ℕ) (xs : List Part) (s : State) (m : List ℕ) → s.halt ≡ 0 → Left (framed_of p op ra sp ea xs s m)
unfolding framed_of
framed_left p op ra sp ea [] s m z = untold (next_coded (gpr_coded (with_coded (five p s z) Reg.Edr _ refl) ra ea))
framed_left p op ra sp ea (x ∷ xs) s m z =
    part_left p s z m (stores_of op) (address_of x) (access_of (length m) (address_of x) (size_of x))
    (framed_left p op ra sp ea xs (state_after op ra x s m) (memory_after op ra x s m) (part_halt op ra x s m z))

module _ (p : Profile) (s : State) (z : s.halt ≡ 0) (m : List ℕ) where
  stack_left : (op : StackOp) (ra dd : ℕ) → Left (stack_of p s m op ra dd)
  unfolding stack_of
  stack_left op ra dd = picked Left (aligned_of (gpr_of s ra) 8) (framed_left p op ra _ _ _ s m z) (fault p s z (Cause.Alignment (gpr_of s ra) (stores_of op)))

  load_store_left : (i : LoadStore) → Left (load_store_of p s m i)
  unfolding load_store_of load_at store_at load_double_at store_double_at load_of load_double_of
  load_store_left (LoadStore.Load w update rt ra d) = load_left p s z m (access_of (length m) (offset_ea s ra d) (bytes w)) _ rt update ra _
  load_store_left (LoadStore.LoadIndexed w rt ra rb) = load_left p s z m (access_of (length m) (indexed_ea s ra rb) (bytes w)) _ rt false ra _
  load_store_left (LoadStore.Store w update rs ra d) = store_left p s z _ (access_of (length m) (offset_ea s ra d) (bytes w)) update ra _
  load_store_left (LoadStore.StoreIndexed w rs ra rb) = store_left p s z _ (access_of (length m) (indexed_ea s ra rb) (bytes w)) false ra _
  load_store_left (LoadStore.LoadDouble update dt ra d) = load_double_left p s z m (access_of (length m) (offset_ea s ra d) 8) _ dt update ra _
  load_store_left (LoadStore.StoreDouble update ds ra d) = store_left p s z _ (access_of (length m) (offset_ea s ra d) 8) update ra _

  cache_left : (op : CacheOp) (ra rb : ℕ) → Left (cache_of p s m op ra rb)
  unfolding cache_of clear_at
  cache_left CacheOp.Dcbf ra rb = untold (next_coded (five p s z))
  cache_left CacheOp.Dcbi ra rb = untold (next_coded (five p s z))
  cache_left CacheOp.Dcbt ra rb = untold (next_coded (five p s z))
  cache_left CacheOp.Dcbz ra rb = clear_left p s z _ (access_of (length m) (block_at (indexed_ea s ra rb)) 32) _

  execute_left : (w : ℕ) (i : Instr) → Left (execute_of p s m w i)
  unfolding execute_of
  execute_left w (Instr.Arithmetic i) = untold (arithmetic_coded p (five p s z) i)
  execute_left w (Instr.Logical i) = untold (logical_coded p (five p s z) i)
  execute_left w (Instr.Compare i) = untold (compare_coded p (five p s z) i)
  execute_left w (Instr.Rotate i) = untold (rotate_coded p (five p s z) i)
  execute_left w (Instr.LoadStore i) = load_store_left i
  execute_left w (Instr.Stack dd op rt ra) = stack_left op ra dd
  execute_left w (Instr.Branch i) = untold (branch_coded p (five p s z) i)
  execute_left w (Instr.Trap to ra rb tg) = untold (trap_coded p (five p s z) w to tg)
  execute_left w (Instr.System i) = untold (system_coded p (five p s z) i)
  execute_left w (Instr.Cache op hint ra rb) = cache_left op ra rb

  decoded_left : (w : ℕ) (d : Option Instr) → Left (decoded_of p s m w d)
  decoded_left w (Some i) = execute_left w i
  decoded_left w None = fault p s z (Cause.Program w false)

  fetched_left : (l : Loaded) → Left (fetched_of p s m l)
  fetched_left (Ok w) = decoded_left w (decode_on p w)
  fetched_left (Err f) = fault p s z Cause.InstructionStorage

  interruptible_left : (q : Option Vector) → Left (interruptible_of p s m q)
  unfolding awake_of running_of
  interruptible_left (Some v) = untold (entered_coded (five p s z) p v)
  interruptible_left None = picked Left (bit_at s.msr 13) (untold (five p s z)) (fetched_left (fetch_of m s.iar))

ticked_halt : (s : State) (e : ℕ) → s.halt ≡ 0 → (ticked_of s e).halt ≡ 0
unfolding ticked_of event_noted with
ticked_halt s e z = z

step_left : (p : Profile) (s : State) (m : List ℕ) (e : ℕ) → s.halt ≡ 0 → Left (step_of p s m e)
unfolding step_of counted_of acted_of
step_left p s m e z =
    let t = ticked_of s e in
    rw (eq-eqb s.halt 0 z)
    (picked Left (acts_of s e) (untold (stopped_coded _ _)) (interruptible_left p t (ticked_halt s e z) m (highest_of t e)))

module _ (p : Profile) (s : State) (m : List ℕ) (e : ℕ) (z : s.halt ≡ 0) where
  pub step_halt : (step_of p s m e).st.halt ≤ 5
  step_halt = (step_left p s m e z).st.halt

  pub reach_halt : (step_of p s m e).past ≡ true → (step_of p s m e).st.halt ≤ 1
  reach_halt h = ((step_left p s m e z).past h).halt
