-- Demand 1: an instruction that faults changes no memory, and no register but those its interrupt sets; of lsku and stsku what was done before the fault
-- stays besides. Assumes nothing.
use Rattle.std.specs.Prelude.{Some, None, Option, Ok, Err, Result}
use Rattle.std.specs.Result.{result_and}
use Prim.Native.Nat.{ℕ, ◌+◌, ◌-◌, ◌%◌, ◌^◌, ◌<◌, ◌≤◌}
use native.Mathlib.Omega.{arith}
use mathlib.Core.Bool.{Bool, true, false, ◌&&◌, ◌||◌}
use mathlib.Core.Logic.{⊎_elim}
use mathlib.Core.Path.{◌≡◌, refl, ap, ◌∙◌}
use mathlib.Core.List.{List, [], ◌∷◌}
use lib.Dec.{eqb, ltb, lit≤}
use lib.ListN.{length}
use borrow.Author.Tests.{eq-eqb, eqb-false}
use Rattle.word.specs.Bits.{bit_at}
use Rattle.word.specs.Width.{bytes}
use Rattle.memory.specs.Access.{Access, pick, aligned_of, access_of}
use Rattle.memory.specs.Load.{Loaded, loaded, load_of, load_double_of, fetch_of}
use Rattle.memory.specs.Store.{block_at, bytes_of, double_bytes, written, stored_of, stored_double_of, cleared_of}
use Rattle.memory.specs.declared.access.Fault.{Fault}
use Rattle.insn.specs.Read.{decode_on}
use Rattle.insn.specs.declared.instr.Instr.{Instr}
use Rattle.insn.specs.declared.instr.LoadStore.{LoadStore}
use Rattle.insn.specs.declared.instr.StackOp.{StackOp}
use Rattle.insn.specs.declared.instr.CacheOp.{CacheOp}
use Rattle.insn.specs.Profile.{is42x}
use Rattle.insn.specs.declared.profile.Profile.{Profile}
use Rattle.word.proofs.Truth.{never}
use Rattle.insn.specs.Valid.{reg_of, paired_with}
use Rattle.machine.specs.State.{gpr_of, vdr_of, with, with_gpr}
use Rattle.machine.specs.After.{After, plain}
use Rattle.machine.specs.Stack.{Part, pair, link, address_of, size_of, frame_ea, doublewords, parts_of, read_gpr, popped, state_after, memory_after, stores_of, goes_on, framed_of, stack_of, served_at, parts_served, frame_served}
use Rattle.machine.proofs.Frames.{part_length}
use Rattle.machine.proofs.Registers.{gpr_elsewhere, places_differ, gpr_others}
use Rattle.machine.specs.Interrupt.{cause_of, entered_of, access_noted, program_noted, noted_of, promoted_of, halted_of, taken_for, interrupted_of, vector_for}
use Rattle.machine.specs.LoadStore.{offset_ea, indexed_ea, loaded_state, stored_state, load_at, store_at, loaded_double_state, load_double_at, store_double_at, load_store_of}
use Rattle.machine.specs.Cache.{cleared_state, clear_at, cache_of}
use Rattle.machine.specs.System.{trap_of}
use Rattle.machine.specs.Timer.{ticked_of, acts_of}
use Rattle.machine.specs.Step.{execute_of, decoded_of, fetched_of, running_of, awake_of, highest_of, counted_of, step_of}
use Rattle.machine.specs.declared.state.State.{State}
use Rattle.machine.specs.declared.interrupt.Cause.{Cause}
use Rattle.machine.specs.declared.stack.Missed.{Missed}
use Rattle.machine.specs.declared.interrupt.Vector.{Vector}
use Rattle.machine.specs.declared.interrupt.Halt.{Halt}
use Rattle.tell.specs.Fault.{access_raises, load_store_raises, missed_raises, stack_raises, cache_raises, execute_raises, decoded_raises, fetched_raises, raised_of}
use Rattle.promises.specs.Fault.{faulted, when_served, framed_before, stack_before, execute_before, decoded_before, fetched_before, running_before, is_stack, OnlyPairs, OnlyInterrupt}

-- nothing raised is no fault
quiet : {A : Type 0} {c : Cause} → None ≡ Some c → A
quiet e = let z : ◌≡◌ {A = ℕ} 0 1 = cc in absurd (omega arith)

-- lsku and stsku: the accesses before the one that faults are done, and the interrupt is that of the state which they left
module _ (p : Profile) (c : Cause) where
  abbrev FaultedAfter : After → After → Type 0
  FaultedAfter b a = faulted p b.st b.mem c a

  part_faults : (s : State) (m : List ℕ) (store : Bool) (a : ℕ) (k : Access) (q : Result Unit Missed) (before rest : After) → (missed_raises store q ≡ Some c → FaultedAfter before rest)
      → missed_raises store (result_and (served_at k a) q) ≡ Some c → FaultedAfter (when_served k before (plain s m)) (goes_on p s m store a k rest)
  part_faults s m store a (Ok tt) q before rest h e = h e
  part_faults s m store a (Err f) q before rest h e = let d : cause_of f a store ≡ c = cc in (ap (interrupted_of p s) d, refl)

  framed_faults : (op : StackOp) (ra sp ea : ℕ) (xs : List Part) (s : State) (m : List ℕ) → missed_raises (stores_of op) (parts_served (length m) xs) ≡ Some c
      → FaultedAfter (framed_before op ra xs s m) (framed_of p op ra sp ea xs s m)
  unfolding parts_served framed_before framed_of
  framed_faults op ra sp ea [] s m e = quiet e
  framed_faults op ra sp ea (x ∷ xs) s m e =
      part_faults s m (stores_of op) (address_of x) (access_of (length m) (address_of x) (size_of x)) (parts_served (length m) xs) _ _
      (λ h. framed_faults op ra sp ea xs (state_after op ra x s m) (memory_after op ra x s m) (rw (part_length op ra x s m) h)) e

  stack_faults : (s : State) (m : List ℕ) (op : StackOp) (ra dd : ℕ) → stack_raises s m op ra dd ≡ Some c → FaultedAfter (stack_before s m op ra dd) (stack_of p s m op ra dd)
  unfolding frame_served stack_before stack_of
  stack_faults s m op ra dd e = go (aligned_of (gpr_of s ra) 8) e
    where
      parts : List Part
      parts = parts_of op (gpr_of s ra) (frame_ea s ra dd) (doublewords op dd)

      go : (b : Bool) → missed_raises (stores_of op) (pick b (parts_served (length m) parts) (Err (record { fault = Fault.Unaligned; address = gpr_of s ra }))) ≡ Some c
          → FaultedAfter (pick b (framed_before op ra parts s m) (plain s m)) (pick b (framed_of p op ra (gpr_of s ra) (frame_ea s ra dd) parts s m) (plain (interrupted_of p s (Cause.Alignment (gpr_of s ra) (stores_of op))) m))
      go true h = framed_faults op ra (gpr_of s ra) (frame_ea s ra dd) parts s m h
      go false h = let d : Cause.Alignment (gpr_of s ra) (stores_of op) ≡ c = cc in (ap (interrupted_of p s) d, refl)

module _ (p : Profile) (s : State) (m : List ℕ) (c : Cause) where
  load_faults : (k : Access) (v rt : ℕ) (u : Bool) (ra ea : ℕ) → access_raises k ea false ≡ Some c → loaded_state p s (loaded k v) rt u ra ea ≡ interrupted_of p s c
  load_faults (Ok tt) v rt u ra ea e = quiet e
  load_faults (Err f) v rt u ra ea e = let d : cause_of f ea false ≡ c = cc in ap (interrupted_of p s) d

  load_double_faults : (k : Access) (v dt : ℕ) (u : Bool) (ra ea : ℕ) → access_raises k ea false ≡ Some c → loaded_double_state p s (loaded k v) dt u ra ea ≡ interrupted_of p s c
  load_double_faults (Ok tt) v dt u ra ea e = quiet e
  load_double_faults (Err f) v dt u ra ea e = let d : cause_of f ea false ≡ c = cc in ap (interrupted_of p s) d

  store_faults : (k : Access) (u : Bool) (ra ea a : ℕ) (bs : List ℕ) → access_raises k ea true ≡ Some c
      → (stored_state p s k u ra ea ≡ interrupted_of p s c) × (written k m a bs ≡ m)
  store_faults (Ok tt) u ra ea a bs e = quiet e
  store_faults (Err f) u ra ea a bs e = let d : cause_of f ea true ≡ c = cc in (ap (interrupted_of p s) d, refl)

  clear_faults : (k : Access) (ea a : ℕ) (bs : List ℕ) → access_raises k ea true ≡ Some c
      → (cleared_state p s k ea ≡ interrupted_of p s c) × (written k m a bs ≡ m)
  clear_faults (Ok tt) ea a bs e = quiet e
  clear_faults (Err f) ea a bs e = let d : cause_of f ea true ≡ c = cc in (ap (interrupted_of p s) d, refl)

  load_store_faults : (i : LoadStore) → load_store_raises s m i ≡ Some c → faulted p s m c (load_store_of p s m i)
  unfolding load_store_of load_at store_at load_double_at store_double_at load_of stored_of load_double_of stored_double_of
  load_store_faults (LoadStore.Load w u rt ra d) e =
      (load_faults (access_of (length m) (offset_ea s ra d) (bytes w)) _ rt u ra (offset_ea s ra d) e, refl)
  load_store_faults (LoadStore.LoadIndexed w rt ra rb) e =
      (load_faults (access_of (length m) (indexed_ea s ra rb) (bytes w)) _ rt false ra (indexed_ea s ra rb) e, refl)
  load_store_faults (LoadStore.Store w u rs ra d) e =
      store_faults (access_of (length m) (offset_ea s ra d) (bytes w)) u ra (offset_ea s ra d) (offset_ea s ra d) (bytes_of w (gpr_of s rs)) e
  load_store_faults (LoadStore.StoreIndexed w rs ra rb) e =
      store_faults (access_of (length m) (indexed_ea s ra rb) (bytes w)) false ra (indexed_ea s ra rb) (indexed_ea s ra rb) (bytes_of w (gpr_of s rs)) e
  load_store_faults (LoadStore.LoadDouble u dt ra d) e =
      (load_double_faults (access_of (length m) (offset_ea s ra d) 8) _ dt u ra (offset_ea s ra d) e, refl)
  load_store_faults (LoadStore.StoreDouble u ds ra d) e =
      store_faults (access_of (length m) (offset_ea s ra d) 8) u ra (offset_ea s ra d) (offset_ea s ra d) (double_bytes (vdr_of s ds)) e

  cache_faults : (op : CacheOp) (ra rb : ℕ) → cache_raises s m op ra rb ≡ Some c → faulted p s m c (cache_of p s m op ra rb)
  unfolding cache_of clear_at cleared_of
  cache_faults CacheOp.Dcbf ra rb e = quiet e
  cache_faults CacheOp.Dcbi ra rb e = quiet e
  cache_faults CacheOp.Dcbt ra rb e = quiet e
  cache_faults CacheOp.Dcbz ra rb e = clear_faults (access_of (length m) (block_at (indexed_ea s ra rb)) 32) (indexed_ea s ra rb) (block_at (indexed_ea s ra rb)) _ e

  trap_cases : (w : ℕ) (a b : Bool) (t u : State) → pick a None (pick b None (Some (Cause.Program w true))) ≡ Some c
      → pick a t (pick b u (interrupted_of p s (Cause.Program w true))) ≡ interrupted_of p s c
  trap_cases w true b t u e = quiet e
  trap_cases w false true t u e = quiet e
  trap_cases w false false t u e = let d : Cause.Program w true ≡ c = cc in ap (interrupted_of p s) d

  execute_faults : (w : ℕ) (i : Instr) → execute_raises p s m w i ≡ Some c → FaultedAfter p c (execute_before s m i) (execute_of p s m w i)
  unfolding execute_of trap_of
  execute_faults w (Instr.Arithmetic i) e = quiet e
  execute_faults w (Instr.Logical i) e = quiet e
  execute_faults w (Instr.Compare i) e = quiet e
  execute_faults w (Instr.Rotate i) e = quiet e
  execute_faults w (Instr.LoadStore i) e = load_store_faults i e
  execute_faults w (Instr.Stack dd op rt ra) e = stack_faults p c s m op ra dd e
  execute_faults w (Instr.Branch i) e = quiet e
  execute_faults w (Instr.Trap to ra rb tg) e = (trap_cases w (eqb to 0 || is42x p && tg) (bit_at s.dbcr 7) _ _ e, refl)
  execute_faults w (Instr.System i) e = quiet e
  execute_faults w (Instr.Cache op hint ra rb) e = cache_faults op ra rb e

  decoded_faults : (w : ℕ) (d : Option Instr) → decoded_raises p s m w d ≡ Some c → FaultedAfter p c (decoded_before s m d) (decoded_of p s m w d)
  decoded_faults w (Some i) e = execute_faults w i e
  decoded_faults w None e = let d : Cause.Program w false ≡ c = cc in (ap (interrupted_of p s) d, refl)

  fetched_faults : (l : Loaded) → fetched_raises p s m l ≡ Some c → FaultedAfter p c (fetched_before p s m l) (fetched_of p s m l)
  fetched_faults (Ok w) e = decoded_faults w (decode_on p w) e
  fetched_faults (Err f) e = let d : Cause.InstructionStorage ≡ c = cc in (ap (interrupted_of p s) d, refl)

  -- line 6: what a fault leaves
  pub running_faults : raised_of p s m ≡ Some c → (let b = running_before p s m in faulted p b.st b.mem c (running_of p s m))
  unfolding raised_of running_of running_before
  running_faults e = fetched_faults (fetch_of m s.iar) e

-- a whole step that gets to line 6 and faults there: of the state that line 2 left, and what lsku or stsku did before the fault, only what the interrupt sets
-- is changed
pub step_faults : (p : Profile) (s : State) (m : List ℕ) (e : ℕ) (c : Cause) → s.halt ≡ 0 → acts_of s e ≡ false → highest_of (ticked_of s e) e ≡ None
    → bit_at (ticked_of s e).msr 13 ≡ false → raised_of p (ticked_of s e) m ≡ Some c → (let b = running_before p (ticked_of s e) m in faulted p b.st b.mem c (step_of p s m e))
unfolding step_of counted_of awake_of
step_faults p s m e c h a q w r = rw (eq-eqb s.halt 0 h, a, q, w) (running_faults p (ticked_of s e) m c r)

-- every other instruction has done nothing before its fault
before_alone : (s : State) (m : List ℕ) (i : Instr) → is_stack i ≡ false → execute_before s m i ≡ plain s m
before_alone s m (Instr.Arithmetic i) h = refl
before_alone s m (Instr.Logical i) h = refl
before_alone s m (Instr.Compare i) h = refl
before_alone s m (Instr.Rotate i) h = refl
before_alone s m (Instr.LoadStore i) h = refl
before_alone s m (Instr.Stack dd op rt ra) h = never h
before_alone s m (Instr.Branch i) h = refl
before_alone s m (Instr.Trap to ra rb tg) h = refl
before_alone s m (Instr.System i) h = refl
before_alone s m (Instr.Cache op hint ra rb) h = refl

pub faults_alone : (p : Profile) (s : State) (m : List ℕ) (w : ℕ) (i : Instr) → fetch_of m s.iar ≡ Ok w → decode_on p w ≡ Some i → is_stack i ≡ false → running_before p s m ≡ plain s m
unfolding running_before
faults_alone p s m w i f d h = rw (f, d) (before_alone s m i h)

-- lsku has loaded pairs, but not RA, and nothing else
only_same : (ra : ℕ) (s : State) → OnlyPairs ra s s
only_same ra s = record { gprs = λ g d h. refl; others = λ r. refl }

only_then : {ra : ℕ} {s t u : State} → OnlyPairs ra s t → OnlyPairs ra t u → OnlyPairs ra s u
only_then a b = record { gprs = λ g d h. b.gprs g d h ∙ a.gprs g d h; others = λ r. b.others r ∙ a.others r }

-- a GPR from 28 on, but not RA
read_only : (s : State) (ra n v : ℕ) → reg_of n ≡ true → 28 ≤ n → OnlyPairs ra s (read_gpr s ra n v)
read_only s ra n v d l = go (eqb n ra) refl
  where
    go : (b : Bool) → eqb n ra ≡ b → OnlyPairs ra s (pick b s (with_gpr s n v))
    go true e = only_same ra s
    go false e =
        record {
          gprs = λ g k h. gpr_elsewhere s n g v (places_differ n g d k (λ q. ⊎_elim (λ (f : g < 28). omega arith) (λ f. eqb-false n ra e (q ∙ f)) h));
          others = λ r. gpr_others s n v r;
        }

-- a pair from 28 on
abbrev High : ℕ → Type 0
High n = ((reg_of n ≡ true) × (28 ≤ n)) × ((reg_of (paired_with n) ≡ true) × (28 ≤ paired_with n))

module _ (ra : ℕ) (m : List ℕ) (c : Cause) where
  -- some accesses of lsku, where one of them faults
  abbrev Leaves : List Part → Type 0
  Leaves xs = (s : State) → missed_raises false (parts_served (length m) xs) ≡ Some c → OnlyPairs ra s (framed_before StackOp.Lsku ra xs s m).st

  link_before : (a : ℕ) → Leaves (link a ∷ [])
  unfolding parts_served framed_before
  link_before a s e = go (access_of (length m) a 4) e
    where
      go : (k : Access) → missed_raises false (result_and (served_at k a) (Ok tt)) ≡ Some c → OnlyPairs ra s (when_served k (framed_before StackOp.Lsku ra [] (popped ra (link a) m s) m) (plain s m)).st
      go (Ok tt) h = quiet h
      go (Err f) h = only_same ra s

  pair_before : (n a : ℕ) (xs : List Part) → High n → Leaves xs → Leaves (pair n a ∷ xs)
  unfolding parts_served framed_before
  pair_before n a xs d rest s e = go (access_of (length m) a 8) e
    where
      go : (k : Access) → missed_raises false (result_and (served_at k a) (parts_served (length m) xs)) ≡ Some c → OnlyPairs ra s (when_served k (framed_before StackOp.Lsku ra xs (popped ra (pair n a) m s) m) (plain s m)).st
      go (Ok tt) h =
          only_then (only_then (read_only s ra n _ d.0.0 d.0.1) (read_only _ ra (paired_with n) _ d.1.0 d.1.1)) (rest (popped ra (pair n a) m s) h)
      go (Err f) h = only_same ra s

  pop_before : (sp ea n : ℕ) → Leaves (parts_of StackOp.Lsku sp ea n)
  unfolding reg_of
  pop_before sp ea n = go (ltb 0 n) (ltb 1 n)
    where
      last : List Part
      last = link ((ea + 4) % 2 ^ 32) ∷ []

      second : List Part
      second = pair 28 ((ea + (2 ^ 32 - 16)) % 2 ^ 32) ∷ last

      go : (b d : Bool) → Leaves (pick b (pair 30 ((ea + (2 ^ 32 - 8)) % 2 ^ 32) ∷ pick d second last) last)
      go true true = pair_before 30 _ second ((refl, lit≤ tt), (refl, lit≤ tt)) (pair_before 28 _ last ((refl, lit≤ tt), (refl, lit≤ tt)) (link_before _))
      go true false = pair_before 30 _ last ((refl, lit≤ tt), (refl, lit≤ tt)) (link_before _)
      go false d = link_before _

-- what a fault of lsku leaves: the memory, and of the registers all but the pairs that it has loaded
before_memory : (ra : ℕ) (xs : List Part) (s : State) (m : List ℕ) → (framed_before StackOp.Lsku ra xs s m).mem ≡ m
unfolding framed_before
before_memory ra [] s m = refl
before_memory ra (x ∷ xs) s m = go (access_of (length m) (address_of x) (size_of x)) (before_memory ra xs (popped ra x m s) m)
  where
    go : (k : Access) → (framed_before StackOp.Lsku ra xs (popped ra x m s) m).mem ≡ m → (when_served k (framed_before StackOp.Lsku ra xs (popped ra x m s) m) (plain s m)).mem ≡ m
    go (Ok tt) h = h
    go (Err f) h = refl

pub lsku_before : (s : State) (m : List ℕ) (ra dd : ℕ) (c : Cause) → stack_raises s m StackOp.Lsku ra dd ≡ Some c
    → (let b = stack_before s m StackOp.Lsku ra dd in (b.mem ≡ m) × OnlyPairs ra s b.st)
unfolding frame_served stack_before
lsku_before s m ra dd c e = go (aligned_of (gpr_of s ra) 8) e
  where
    parts : List Part
    parts = parts_of StackOp.Lsku (gpr_of s ra) (frame_ea s ra dd) (doublewords StackOp.Lsku dd)

    go : (b : Bool) → missed_raises false (pick b (parts_served (length m) parts) (Err (record { fault = Fault.Unaligned; address = gpr_of s ra }))) ≡ Some c
        → (let a = pick b (framed_before StackOp.Lsku ra parts s m) (plain s m) in (a.mem ≡ m) × OnlyPairs ra s a.st)
    go true h = (before_memory ra parts s m, pop_before ra m c (gpr_of s ra) (frame_ea s ra dd) (doublewords StackOp.Lsku dd) s h)
    go false h = (refl, only_same ra s)

-- what a fault of stsku leaves: every register; of the memory what writes_only says
before_state : (ra : ℕ) (xs : List Part) (s : State) (m : List ℕ) → (framed_before StackOp.Stsku ra xs s m).st ≡ s
unfolding framed_before
before_state ra [] s m = refl
before_state ra (x ∷ xs) s m = go (access_of (length m) (address_of x) (size_of x)) (before_state ra xs s (memory_after StackOp.Stsku ra x s m))
  where
    go : (k : Access) → (framed_before StackOp.Stsku ra xs s (memory_after StackOp.Stsku ra x s m)).st ≡ s → (when_served k (framed_before StackOp.Stsku ra xs s (memory_after StackOp.Stsku ra x s m)) (plain s m)).st ≡ s
    go (Ok tt) h = h
    go (Err f) h = refl

pub stsku_before : (s : State) (m : List ℕ) (ra dd : ℕ) → (stack_before s m StackOp.Stsku ra dd).st ≡ s
unfolding stack_before
stsku_before s m ra dd = go (aligned_of (gpr_of s ra) 8)
  where
    parts : List Part
    parts = parts_of StackOp.Stsku (gpr_of s ra) (frame_ea s ra dd) (doublewords StackOp.Stsku dd)

    go : (b : Bool) → (pick b (framed_before StackOp.Stsku ra parts s m) (plain s m)).st ≡ s
    go true = before_state ra parts s m
    go false = refl

-- a state with other values in the registers of an interrupt
changed : (s : State) (edr halt iar isr msr srr0 srr1 : ℕ)
    → OnlyInterrupt s (record { gpr = s.gpr; cr = s.cr; ctr = s.ctr; dacr = s.dacr; dbcr = s.dbcr; dec = s.dec; edr = edr; isr = isr; ivpr = s.ivpr; lr = s.lr; msr = msr; pir = s.pir; pvr = s.pvr; sprg0 = s.sprg0; srr0 = srr0; srr1 = srr1; tcr = s.tcr; tsr = s.tsr; xer = s.xer; iar = iar; halt = halt })
changed s edr halt iar isr msr srr0 srr1 =
    record { gpr = refl; cr = refl; ctr = refl; dacr = refl; dbcr = refl; dec = refl; ivpr = refl; lr = refl; pir = refl; pvr = refl; sprg0 = refl; tcr = refl; tsr = refl; xer = refl }

only_trans : {s t u : State} → OnlyInterrupt s t → OnlyInterrupt t u → OnlyInterrupt s u
only_trans a b =
    record { gpr = b.gpr ∙ a.gpr; cr = b.cr ∙ a.cr; ctr = b.ctr ∙ a.ctr; dacr = b.dacr ∙ a.dacr; dbcr = b.dbcr ∙ a.dbcr; dec = b.dec ∙ a.dec; ivpr = b.ivpr ∙ a.ivpr; lr = b.lr ∙ a.lr; pir = b.pir ∙ a.pir; pvr = b.pvr ∙ a.pvr; sprg0 = b.sprg0 ∙ a.sprg0; tcr = b.tcr ∙ a.tcr; tsr = b.tsr ∙ a.tsr; xer = b.xer ∙ a.xer }

-- an asynchronous interrupt touches its own registers alone
pub entered_only : (p : Profile) (s : State) (v : Vector) → OnlyInterrupt s (entered_of p s v)
unfolding entered_of with
entered_only p s v = changed s _ _ _ _ _ _ _

noted_only : (s : State) (c : Cause) → OnlyInterrupt s (noted_of s c)
unfolding noted_of access_noted program_noted with
noted_only s (Cause.DataStorage a st) = changed s _ _ _ _ _ _ _
noted_only s Cause.InstructionStorage = changed s _ _ _ _ _ _ _
noted_only s (Cause.Alignment a st) = changed s _ _ _ _ _ _ _
noted_only s (Cause.Program w t) = changed s _ _ _ _ _ _ _

promoted_only : (s : State) (c : Cause) → OnlyInterrupt s (promoted_of s c)
unfolding promoted_of with
promoted_only s c = changed s _ _ _ _ _ _ _

halted_only : (s : State) (h : Halt) → OnlyInterrupt s (halted_of s h)
unfolding halted_of with
halted_only s h = changed s _ _ _ _ _ _ _

interrupted_cases : (p : Profile) (s : State) (c : Cause) (a b : Bool)
    → OnlyInterrupt s (pick a (entered_of p (noted_of s c) (vector_for c)) (pick b (entered_of p (promoted_of (noted_of s c) c) Vector.MachineCheck) (halted_of (entered_of p (noted_of s c) (vector_for c)) Halt.MachineCheck)))
interrupted_cases p s c true b = only_trans (noted_only s c) (entered_only p (noted_of s c) (vector_for c))
interrupted_cases p s c false true =
    only_trans (noted_only s c) (only_trans (promoted_only (noted_of s c) c) (entered_only p (promoted_of (noted_of s c) c) Vector.MachineCheck))
interrupted_cases p s c false false =
    only_trans (noted_only s c)
    (only_trans (entered_only p (noted_of s c) (vector_for c)) (halted_only (entered_of p (noted_of s c) (vector_for c)) Halt.MachineCheck))

-- taken, promoted or halting, an interrupt touches its own registers alone
pub interrupted_only : (p : Profile) (s : State) (c : Cause) → OnlyInterrupt s (interrupted_of p s c)
unfolding interrupted_of taken_for
interrupted_only p s c = interrupted_cases p s c (bit_at (noted_of s c).msr 15) (bit_at (noted_of s c).msr 19)
