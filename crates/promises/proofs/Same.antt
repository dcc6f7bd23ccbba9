-- C-16: a run of the 42 that meets no illegal word, no machine check and no tw with TG set, and that never writes a one to a bit which only one
-- profile defines, is the same run on the 42X; and a run with such a tw that is not. Assumes nothing.
use Rattle.std.specs.Prelude.{Some, None, Option, Ok, Err, is_none}
use Prim.Native.Nat.{ℕ, zero, suc, ◌-◌, ◌%◌, ◌^◌, ◌<◌, ◌≤◌}
use native.Mathlib.Omega.{arith}
use native.Mathlib.Nat.{lt_of_le_of_lt, zero-div}
use mathlib.Core.Bool.{Bool, true, false, not, ◌&&◌, ◌||◌}
use mathlib.Core.Path.{◌≡◌, refl, ap, sym, ◌∙◌}
use mathlib.Core.List.{List, [], ◌∷◌, ◌++◌, map}
use lib.Bits.{bit_and, bit_xor, and_le_r}
use lib.Dec.{eqb, lit<}
use lib.ListN.{length, get_or, replicate}
use borrow.Author.Tests.{eqb-true}
use Rattle.word.specs.Bits.{bit_at}
use Rattle.word.specs.Rotate.{mask, put_at}
use Rattle.word.specs.Width.{bytes}
use Rattle.word.specs.declared.width.Width.{Width}
use Rattle.word.proofs.Truth.{never, and_true, or_false}
use Rattle.word.proofs.ByBits.{xor, bit_and_lem, bit_xor_lem, word_is}
use Rattle.memory.specs.Access.{Access, pick, access_of, fetch_access_of, sized_of}
use Rattle.memory.specs.Load.{Loaded, value_at, loaded, load_of, load_double_of, fetch_of}
use Rattle.memory.specs.Store.{bytes_of, block_at}
use Rattle.memory.specs.declared.access.Fault.{Fault}
use Rattle.insn.specs.Fields.{fields_of}
use Rattle.insn.specs.Valid.{reg_of, valid_of}
use Rattle.insn.specs.Profile.{has}
use Rattle.insn.specs.Read.{decode_of, decode_on, primary, primary_rows, load_store, load_store_rows, added, added_rows, arithmetic, arithmetic_rows, logical, logical_rows, storage, storage_rows, system, system_rows}
use Rattle.insn.specs.declared.profile.Profile.{Profile}
use Rattle.insn.specs.declared.instr.Instr.{Instr}
use Rattle.insn.specs.declared.instr.LoadStore.{LoadStore}
use Rattle.insn.specs.declared.instr.System.{System}
use Rattle.insn.specs.declared.instr.SprOp.{SprOp}
use Rattle.insn.specs.declared.instr.MoveOp.{MoveOp}
use Rattle.insn.specs.declared.instr.CacheOp.{CacheOp}
use Rattle.insn.proofs.Round.{read_on_42x, read_written_on}
use Rattle.machine.specs.State.{gpr_of, with, registers}
use Rattle.std.specs.Prelude.{Result, Ok, IsOkAnd}
use Rattle.machine.specs.Refusal.{unless}
use Rattle.machine.specs.Register.{defined_of, clean_of, sound_of, check_of, check_start}
use Rattle.machine.specs.After.{After, plain}
use Rattle.machine.specs.Interrupt.{offset_of, entered_of, vector_for, access_noted, program_noted, noted_of, halted_of, taken_for, interrupted_of}
use Rattle.machine.specs.LoadStore.{offset_ea, indexed_ea, loaded_state, stored_state, load_at, store_at, loaded_double_state, load_double_at, store_double_at, load_store_of}
use Rattle.machine.specs.Cache.{cleared_state, clear_at, cache_of}
use Rattle.machine.specs.Result.{next_of}
use Rattle.machine.specs.System.{trap_of, spr_of, dbcr_written, isr_written, written, spr_written, moved_of, returned_of, system_of}
use Rattle.machine.specs.Timer.{dec_after, tsr_after, pending_of, event_noted, ticked_of, acts_of}
use Rattle.machine.specs.Step.{execute_of, decoded_of, fetched_of, running_of, awake_of, highest_of, counted_of, step_of}
use Rattle.machine.specs.declared.state.State.{State}
use Rattle.machine.specs.declared.state.Reg.{Reg}
use Rattle.machine.specs.declared.interrupt.Cause.{Cause}
use Rattle.machine.specs.declared.interrupt.Vector.{Vector}
use Rattle.machine.specs.declared.interrupt.Halt.{Halt}
use Rattle.machine.specs.declared.refusal.Refusal.{Refusal}
use Rattle.tell.specs.Fault.{access_raises, load_store_raises, cache_raises, execute_raises, decoded_raises, fetched_raises, raised_of}
use Rattle.tell.specs.Uses.{executes}
use Rattle.tell.specs.Told.{vector_code}
use Rattle.run.specs.Run.{Ran, run_of, past_of}
use Rattle.run.specs.Outcome.{events_good, check_events, check_run, state_left, run_outcome, run_memory}
use Rattle.run.specs.declared.outcome.Outcome.{Outcome}
use Rattle.promises.specs.Same.{unshared, is_illegal, sets_tg, system_writes, instr_writes, of_instr, of_word, raises, promotes, meets_illegal, meets_check, meets_tg, writes_unshared, some_step, Common, Parts}
use Rattle.promises.proofs.Clean.{clean_wider}
use Rattle.promises.proofs.Sound.{Sound, accepted_sound, sound_accepted}
use Rattle.promises.proofs.Accepted.{first_ok, second_ok}
use Rattle.promises.proofs.Reaches.{lines, step_lines}
use Rattle.promises.proofs.Told.{Asynchronous, highest_asynchronous}

-- ---- registers

-- the bits that only one profile defines are C7 of DBCR and bit 10 of TCR, both the 42X's
pub unshared_are : map unshared registers ≡ 0 ∷ 0 ∷ 0 ∷ 0x0000_00C7 ∷ 0 ∷ 0 ∷ 0 ∷ 0 ∷ 0 ∷ 0 ∷ 0 ∷ 0 ∷ 0 ∷ 0 ∷ 0 ∷ 0x0020_0000 ∷ 0 ∷ 0 ∷ 0 ∷ 0 ∷ []
unshared_are = refl

same_under : (v a b : Bool) → (v && xor a b) ≡ false → (v && a) ≡ (v && b)
same_under true true true h = refl
same_under true true false h = never h
same_under true false true h = never h
same_under true false false h = refl
same_under false a b h = refl

-- two masks that differ nowhere where v has a one
module _ (v a b : ℕ) (h : bit_and v (bit_xor a b) ≡ 0) where
  masked_bit : (i : ℕ) → bit_at (bit_and v a) i ≡ bit_at (bit_and v b) i
  masked_bit i =
      let e : bit_at (bit_and v (bit_xor a b)) i ≡ false = ap (λ (x : ℕ). bit_at x i) h ∙ ap (λ (x : ℕ). eqb (x % 2) 1) (zero-div (2 ^ (31 - i))) in
      let none : (bit_at v i && xor (bit_at a i) (bit_at b i)) ≡ false = rw (sym (bit_xor_lem a b i), sym (bit_and_lem v (bit_xor a b) i)) e in
      bit_and_lem v a i ∙ same_under (bit_at v i) (bit_at a i) (bit_at b i) none ∙ sym (bit_and_lem v b i)

  masked : a < 2 ^ 32 → b < 2 ^ 32 → bit_and v a ≡ bit_and v b
  masked k l =
      let f : ℕ → Bool = λ i. bit_at (bit_and v b) i in
      word_is (bit_and v a) f (lt_of_le_of_lt (and_le_r v a) k) (λ i q. masked_bit i) ∙ sym (word_is (bit_and v b) f (lt_of_le_of_lt (and_le_r v b) l) (λ i q. refl))

-- a value with no one in an unshared bit is stored alike
same_bits : (r : Reg) (v : ℕ) → bit_and v (unshared r) ≡ 0 → bit_and v (defined_of Profile.Ppe42x r) ≡ bit_and v (defined_of Profile.Ppe42 r)
same_bits Reg.Cr v h = refl
same_bits Reg.Ctr v h = refl
same_bits Reg.Dacr v h = refl
same_bits Reg.Dbcr v h = sym (masked v 0x318C_0000 0x318C_00C7 h (lit< tt) (lit< tt))
same_bits Reg.Dec v h = refl
same_bits Reg.Edr v h = refl
same_bits Reg.Isr v h = refl
same_bits Reg.Ivpr v h = refl
same_bits Reg.Lr v h = refl
same_bits Reg.Msr v h = refl
same_bits Reg.Pir v h = refl
same_bits Reg.Pvr v h = refl
same_bits Reg.Sprg0 v h = refl
same_bits Reg.Srr0 v h = refl
same_bits Reg.Srr1 v h = refl
same_bits Reg.Tcr v h = sym (masked v 0xFFC0_0000 0xFFE0_0000 h (lit< tt) (lit< tt))
same_bits Reg.Tsr v h = refl
same_bits Reg.Xer v h = refl
same_bits Reg.Iar v h = refl
same_bits Reg.Halt v h = refl

none_written : (b : Bool) → not b ≡ false → b ≡ true
none_written true h = refl
none_written false h = never h

module _ (s : State) (n v : ℕ) (h : bit_and v (unshared (spr_of n)) ≡ 0) where
  dbcr_same : eqb n 308 ≡ true → dbcr_written Profile.Ppe42x s v ≡ dbcr_written Profile.Ppe42 s v
  unfolding dbcr_written spr_of
  dbcr_same e =
      let q : bit_and v (unshared Reg.Dbcr) ≡ 0 = rw (eqb-true n 308 e) at h in
      rw (same_bits Reg.Dbcr v q)

  written_same : written Profile.Ppe42x s (spr_of n) v ≡ written Profile.Ppe42 s (spr_of n) v
  unfolding written
  written_same = rw (same_bits (spr_of n) v h)

  spr_cases : (a b c d : Bool) → eqb n 308 ≡ c → (x y : State)
      → pick a x (pick b (isr_written Profile.Ppe42x s v) (pick c (dbcr_written Profile.Ppe42x s v) (pick d y (written Profile.Ppe42x s (spr_of n) v))))
      ≡ pick a x (pick b (isr_written Profile.Ppe42 s v) (pick c (dbcr_written Profile.Ppe42 s v) (pick d y (written Profile.Ppe42 s (spr_of n) v))))
  unfolding isr_written
  spr_cases true b c d e x y = refl
  spr_cases false true c d e x y = refl
  spr_cases false false true d e x y = dbcr_same e
  spr_cases false false false true e x y = refl
  spr_cases false false false false e x y = written_same

  spr_same : spr_written Profile.Ppe42x s n v ≡ spr_written Profile.Ppe42 s n v
  unfolding spr_written
  spr_same = spr_cases (eqb n 22) (eqb n 62) (eqb n 308) (eqb n 336) refl _ _

-- ---- interrupts

-- only the machine check's offset differs
entered_same : (s : State) (v : Vector) → offset_of Profile.Ppe42x v ≡ offset_of Profile.Ppe42 v → entered_of Profile.Ppe42x s v ≡ entered_of Profile.Ppe42 s v
unfolding entered_of
entered_same s v h = rw h

own_offset : (c : Cause) → offset_of Profile.Ppe42x (vector_for c) ≡ offset_of Profile.Ppe42 (vector_for c)
own_offset (Cause.DataStorage address store) = refl
own_offset Cause.InstructionStorage = refl
own_offset (Cause.Alignment address store) = refl
own_offset (Cause.Program word trap) = refl

taken_offset : (v : Vector) → 4 ≤ vector_code v → offset_of Profile.Ppe42x v ≡ offset_of Profile.Ppe42 v
taken_offset Vector.MachineCheck l = let z : ⊥ = omega (arith, l) in absurd z
taken_offset Vector.DataStorage l = refl
taken_offset Vector.InstructionStorage l = refl
taken_offset Vector.External l = refl
taken_offset Vector.Alignment l = refl
taken_offset Vector.Program l = refl
taken_offset Vector.Decrementer l = refl
taken_offset Vector.FixedInterval l = refl
taken_offset Vector.Watchdog l = refl

taken_cases : (uie me : Bool) → (not uie && me) ≡ false → {x x' z z' : State} (y y' : State) → x ≡ x' → z ≡ z' → pick uie x (pick me y z) ≡ pick uie x' (pick me y' z')
taken_cases true me h y y' a c = a
taken_cases false true h y y' a c = never h
taken_cases false false h y y' a c = c

noted_msr : (s : State) (c : Cause) → (noted_of s c).msr ≡ s.msr
unfolding noted_of access_noted program_noted with
noted_msr s (Cause.DataStorage address store) = refl
noted_msr s Cause.InstructionStorage = refl
noted_msr s (Cause.Alignment address store) = refl
noted_msr s (Cause.Program word trap) = refl

-- one that is not promoted
interrupted_same : (s : State) (c : Cause) → promotes s ≡ false → interrupted_of Profile.Ppe42x s c ≡ interrupted_of Profile.Ppe42 s c
unfolding interrupted_of taken_for
interrupted_same s c h =
    let own = entered_same (noted_of s c) (vector_for c) (own_offset c) in
    taken_cases (bit_at (noted_of s c).msr 15) (bit_at (noted_of s c).msr 19) (rw (noted_msr s c) h) _ _ own (ap (λ (t : State). halted_of t Halt.MachineCheck) own)

-- ---- instructions

-- where it is raised, it is the same on both
abbrev Fair : State → Option Cause → Type 0
Fair s r = (c : Cause) → r ≡ Some c → interrupted_of Profile.Ppe42x s c ≡ interrupted_of Profile.Ppe42 s c

fair : (s : State) (r : Option Cause) → (raises r && promotes s) ≡ false → Fair s r
fair s None h c e = let z : ◌≡◌ {A = ℕ} 0 1 = cc in absurd (omega arith)
fair s (Some d) h c e = interrupted_same s c h

module _ (s : State) (m : List ℕ) where
  load_same : (k : Access) (v rt : ℕ) (u : Bool) (ra ea : ℕ) → Fair s (access_raises k ea false)
      → loaded_state Profile.Ppe42x s (loaded k v) rt u ra ea ≡ loaded_state Profile.Ppe42 s (loaded k v) rt u ra ea
  load_same (Ok tt) v rt u ra ea h = refl
  load_same (Err f) v rt u ra ea h = h _ refl

  load_double_same : (k : Access) (v dt : ℕ) (u : Bool) (ra ea : ℕ) → Fair s (access_raises k ea false)
      → loaded_double_state Profile.Ppe42x s (loaded k v) dt u ra ea ≡ loaded_double_state Profile.Ppe42 s (loaded k v) dt u ra ea
  load_double_same (Ok tt) v dt u ra ea h = refl
  load_double_same (Err f) v dt u ra ea h = h _ refl

  store_same : (k : Access) (u : Bool) (ra ea : ℕ) → Fair s (access_raises k ea true) → stored_state Profile.Ppe42x s k u ra ea ≡ stored_state Profile.Ppe42 s k u ra ea
  store_same (Ok tt) u ra ea h = refl
  store_same (Err f) u ra ea h = h _ refl

  clear_same : (k : Access) (ea : ℕ) → Fair s (access_raises k ea true) → cleared_state Profile.Ppe42x s k ea ≡ cleared_state Profile.Ppe42 s k ea
  clear_same (Ok tt) ea h = refl
  clear_same (Err f) ea h = h _ refl

  -- what is left with another state
  leaving : {t u : State} (x : List ℕ) (past : Bool) → t ≡ u → ◌≡◌ {A = After} (record { st = t; mem = x; past = past }) (record { st = u; mem = x; past = past })
  leaving x past e = ap (λ (t : State). record { st = t; mem = x; past = past }) e

  load_store_same : (i : LoadStore) → Fair s (load_store_raises s m i) → load_store_of Profile.Ppe42x s m i ≡ load_store_of Profile.Ppe42 s m i
  unfolding load_store_of load_at store_at load_double_at store_double_at load_of load_double_of
  load_store_same (LoadStore.Load w u rt ra d) h = leaving _ _ (load_same (access_of (length m) (offset_ea s ra d) (bytes w)) _ rt u ra (offset_ea s ra d) h)
  load_store_same (LoadStore.LoadIndexed w rt ra rb) h = leaving _ _ (load_same (access_of (length m) (indexed_ea s ra rb) (bytes w)) _ rt false ra (indexed_ea s ra rb) h)
  load_store_same (LoadStore.Store w u rs ra d) h = leaving _ _ (store_same (access_of (length m) (offset_ea s ra d) (bytes w)) u ra (offset_ea s ra d) h)
  load_store_same (LoadStore.StoreIndexed w rs ra rb) h = leaving _ _ (store_same (access_of (length m) (indexed_ea s ra rb) (bytes w)) false ra (indexed_ea s ra rb) h)
  load_store_same (LoadStore.LoadDouble u dt ra d) h = leaving _ _ (load_double_same (access_of (length m) (offset_ea s ra d) 8) _ dt u ra (offset_ea s ra d) h)
  load_store_same (LoadStore.StoreDouble u ds ra d) h = leaving _ _ (store_same (access_of (length m) (offset_ea s ra d) 8) u ra (offset_ea s ra d) h)

  cache_same : (op : CacheOp) (ra rb : ℕ) → Fair s (cache_raises s m op ra rb) → cache_of Profile.Ppe42x s m op ra rb ≡ cache_of Profile.Ppe42 s m op ra rb
  unfolding cache_of clear_at
  cache_same CacheOp.Dcbf ra rb h = refl
  cache_same CacheOp.Dcbi ra rb h = refl
  cache_same CacheOp.Dcbt ra rb h = refl
  cache_same CacheOp.Dcbz ra rb h = leaving _ _ (clear_same (access_of (length m) (block_at (indexed_ea s ra rb)) 32) (indexed_ea s ra rb) h)

  trap_cases : (w : ℕ) (a b : Bool) (x y : State) → Fair s (pick a None (pick b None (Some (Cause.Program w true))))
      → pick a x (pick b y (interrupted_of Profile.Ppe42x s (Cause.Program w true))) ≡ pick a x (pick b y (interrupted_of Profile.Ppe42 s (Cause.Program w true)))
  trap_cases w true b x y h = refl
  trap_cases w false true x y h = refl
  trap_cases w false false x y h = h _ refl

  system_same : (i : System) → system_writes s i ≡ false → system_of Profile.Ppe42x s i ≡ system_of Profile.Ppe42 s i
  unfolding system_of moved_of returned_of written
  system_same (System.Spr SprOp.Mfspr r n) h = refl
  system_same (System.Spr SprOp.Mtspr r n) h = ap next_of (spr_same s n (gpr_of s r) (eqb-true _ 0 (none_written _ h)))
  system_same (System.Move MoveOp.Mfcr r) h = refl
  system_same (System.Move MoveOp.Mtcr0 r) h = refl
  system_same (System.Move MoveOp.Mfmsr r) h = refl
  system_same (System.Move MoveOp.Mtmsr r) h = refl
  system_same (System.Move MoveOp.Wrtee r) h = refl
  system_same (System.Wrteei e) h = refl
  system_same System.Rfi h = refl
  system_same System.Sync h = refl

  execute_same : (w : ℕ) (i : Instr) → has Profile.Ppe42 i ≡ true → Fair s (execute_raises Profile.Ppe42 s m w i) → sets_tg i ≡ false → instr_writes s i ≡ false
      → execute_of Profile.Ppe42x s m w i ≡ execute_of Profile.Ppe42 s m w i
  unfolding execute_of trap_of
  execute_same w (Instr.Arithmetic i) o f t u = refl
  execute_same w (Instr.Logical i) o f t u = refl
  execute_same w (Instr.Compare i) o f t u = refl
  execute_same w (Instr.Rotate i) o f t u = refl
  execute_same w (Instr.LoadStore i) o f t u = load_store_same i f
  execute_same w (Instr.Stack dd op rt ra) o f t u = never (sym o)
  execute_same w (Instr.Branch i) o f t u = refl
  execute_same w (Instr.Trap to ra rb true) o f t u = never t
  execute_same w (Instr.Trap to ra rb false) o f t u = leaving m false (trap_cases w (eqb to 0 || false) (bit_at s.dbcr 7) _ _ f)
  execute_same w (Instr.System i) o f t u = leaving m false (system_same i u)
  execute_same w (Instr.Cache op hint ra rb) o f t u = cache_same op ra rb f

  -- what the 42 reads, the 42X reads as the same
  decoded_same : (w : ℕ) (d : Option Instr) → decode_on Profile.Ppe42 w ≡ d → is_illegal d ≡ false → Fair s (decoded_raises Profile.Ppe42 s m w d) → of_instr sets_tg d ≡ false
      → of_instr (instr_writes s) d ≡ false → decoded_of Profile.Ppe42x s m w (decode_on Profile.Ppe42x w) ≡ decoded_of Profile.Ppe42 s m w d
  decoded_same w (Some i) e l f t u = rw (read_on_42x w i e) (execute_same w i (and_true (has Profile.Ppe42 i) (valid_of i) (read_written_on Profile.Ppe42 w i e).0).0 f t u)
  decoded_same w None e l f t u = never l

  fetched_same : (k : Loaded) → of_word is_illegal k ≡ false → Fair s (fetched_raises Profile.Ppe42 s m k) → of_word (of_instr sets_tg) k ≡ false → of_word (of_instr (instr_writes s)) k ≡ false
      → fetched_of Profile.Ppe42x s m k ≡ fetched_of Profile.Ppe42 s m k
  fetched_same (Ok w) l f t u = decoded_same w (decode_on Profile.Ppe42 w) refl l f t u
  fetched_same (Err Fault.Unaligned) l f t u = leaving m false (f _ refl)
  fetched_same (Err Fault.Outside) l f t u = leaving m true (f _ refl)

  running_same : meets_illegal s m ≡ false → meets_check s m ≡ false → meets_tg s m ≡ false → writes_unshared s m ≡ false → running_of Profile.Ppe42x s m ≡ running_of Profile.Ppe42 s m
  unfolding meets_illegal meets_check meets_tg writes_unshared running_of raised_of
  running_same l c t u = fetched_same (fetch_of m s.iar) l (fair s (fetched_raises Profile.Ppe42 s m (fetch_of m s.iar)) c) t u

-- ---- steps and runs

lines_same : (h a : Bool) (q : Option Vector) (w : Bool) (s t : State) (m : List ℕ) → Asynchronous q
    → ((h && not a && is_none q && not w) ≡ true → running_of Profile.Ppe42x t m ≡ running_of Profile.Ppe42 t m)
    → lines Profile.Ppe42x h a q w s t m ≡ lines Profile.Ppe42 h a q w s t m
lines_same true true (Some v) w s t m l r = refl
lines_same true true None w s t m l r = refl
lines_same true false (Some v) w s t m l r = ap (λ (x : State). plain x m) (entered_same t v (taken_offset v l))
lines_same true false None true s t m l r = refl
lines_same true false None false s t m l r = r refl
lines_same false a (Some v) w s t m l r = refl
lines_same false a None w s t m l r = refl

-- a step is the same where line 6 is, if it gets there
step_same : (s : State) (m : List ℕ) (e : ℕ) → (executes s e ≡ true → running_of Profile.Ppe42x (ticked_of s e) m ≡ running_of Profile.Ppe42 (ticked_of s e) m)
    → step_of Profile.Ppe42x s m e ≡ step_of Profile.Ppe42 s m e
unfolding executes
step_same s m e r =
    let t = ticked_of s e in
    step_lines Profile.Ppe42x s e m
    ∙ lines_same (eqb s.halt 0) (acts_of s e) (highest_of t e) (bit_at t.msr 13) s t m (highest_asynchronous t e) r
    ∙ sym (step_lines Profile.Ppe42 s e m)

clear : (a b : Bool) → (a && b) ≡ false → a ≡ true → b ≡ false
clear true b h e = h
clear false b h e = never (sym e)

module _ (n i : ℕ) (ev : List ℕ) (s : State) (m : List ℕ) where
  abbrev left : After
  left = step_of Profile.Ppe42 s m (get_or ev i 0)

  -- none of the steps is not the first, and none of the others
  none_here : (f : State → List ℕ → Bool) → some_step f (suc n) i ev s m ≡ false
      → (executes s (get_or ev i 0) ≡ true → f (ticked_of s (get_or ev i 0)) m ≡ false) × (some_step f n (suc i) ev left.st left.mem ≡ false)
  unfolding some_step
  none_here f h = let q = or_false (executes s (get_or ev i 0) && f (ticked_of s (get_or ev i 0)) m) _ h in (clear (executes s (get_or ev i 0)) _ q.0, q.1)

  first_same : Common (suc n) i ev s m → step_of Profile.Ppe42x s m (get_or ev i 0) ≡ left
  first_same h =
      step_same s m (get_or ev i 0)
      (λ e. running_same (ticked_of s (get_or ev i 0)) m ((none_here meets_illegal h.no_illegal).0 e) ((none_here meets_check h.no_check).0 e) ((none_here meets_tg h.no_tg).0 e) ((none_here writes_unshared h.no_write).0 e))

  rest_common : Common (suc n) i ev s m → Common n (suc i) ev left.st left.mem
  rest_common h =
      record { no_illegal = (none_here meets_illegal h.no_illegal).1; no_check = (none_here meets_check h.no_check).1; no_tg = (none_here meets_tg h.no_tg).1; no_write = (none_here writes_unshared h.no_write).1 }

-- such a run leaves the same on both, whatever the state: registers, halt code, memory and the count of steps
pub same_run : (n i : ℕ) (ev : List ℕ) (s : State) (m : List ℕ) → Common n i ev s m → run_of Profile.Ppe42x n i ev s m ≡ run_of Profile.Ppe42 n i ev s m
unfolding run_of
same_run zero i ev s m h = refl
same_run (suc n) i ev s m h =
    let a = step_of Profile.Ppe42 s m (get_or ev i 0) in
    rw (first_same n i ev s m h) (ap (λ (r : Ran). pick (eqb s.halt 0) r (record { st = s; mem = m; steps = i })) (same_run n (suc i) ev a.st a.mem (rest_common n i ev s m h)))

-- and reaches past its memory on both or on neither
pub same_past : (n i : ℕ) (ev : List ℕ) (s : State) (m : List ℕ) → Common n i ev s m → past_of Profile.Ppe42x n i ev s m ≡ past_of Profile.Ppe42 n i ev s m
unfolding past_of
same_past zero i ev s m h = refl
same_past (suc n) i ev s m h =
    let a = step_of Profile.Ppe42 s m (get_or ev i 0) in
    rw (first_same n i ev s m h) (ap (λ (b : Bool). pick (eqb s.halt 0) (pick a.past true b) false) (same_past n (suc i) ev a.st a.mem (rest_common n i ev s m h)))

sound_on_42x : (s : State) → Sound Profile.Ppe42 s → Sound Profile.Ppe42x s
sound_on_42x s k =
    record { cr = k.cr; dbcr = clean_wider (defined_of Profile.Ppe42 Reg.Dbcr) (defined_of Profile.Ppe42x Reg.Dbcr) refl k.dbcr; isr = k.isr; ivpr = k.ivpr; msr = k.msr; pir = k.pir; srr0 = k.srr0; srr1 = k.srr1; tcr = clean_wider (defined_of Profile.Ppe42 Reg.Tcr) (defined_of Profile.Ppe42x Reg.Tcr) refl k.tcr; tsr = k.tsr; xer = k.xer; iar = k.iar; halt = k.halt }

module _ (s : State) (m ev : List ℕ) (budget : ℕ) where
  -- a run that the 42 accepts, both accept
  pub both_accept : check_run Profile.Ppe42 s m ev budget ≡ Ok tt → check_run Profile.Ppe42x s m ev budget ≡ Ok tt
  unfolding check_run check_start
  both_accept h =
      let e : check_of Profile.Ppe42 s ≡ Ok tt = second_ok (unless (sized_of (length m)) Refusal.Memory) (check_of Profile.Ppe42 s) (first_ok (check_start Profile.Ppe42 s (length m)) _ h) in
      let x : check_of Profile.Ppe42x s ≡ Ok tt = sound_accepted (sound_on_42x s (accepted_sound s e)) in
      rw x (rw e at h)

  -- C-16: the answer and the memory are the same on both
  pub same_outcome : check_run Profile.Ppe42 s m ev budget ≡ Ok tt → Common budget 0 ev s m
      → (run_outcome Profile.Ppe42x s m ev budget ≡ run_outcome Profile.Ppe42 s m ev budget) × (run_memory Profile.Ppe42x s m ev budget ≡ run_memory Profile.Ppe42 s m ev budget)
  unfolding run_outcome run_memory
  same_outcome h k = rw (h, both_accept h, same_run budget 0 ev s m k) (refl, refl)

-- ---- a tw with TG set

-- DBCR[TRAP] set, and zero in every other register
abbrev pub trapping : State
trapping = record { gpr = replicate 16 0; cr = 0; ctr = 0; dacr = 0; dbcr = 0x0100_0000; dec = 0; edr = 0; isr = 0; ivpr = 0; lr = 0; msr = 0; pir = 0; pvr = 0; sprg0 = 0; srr0 = 0; srr1 = 0; tcr = 0; tsr = 0; xer = 0; iar = 0; halt = 0 }

-- 32 bytes that begin with tw 31,0,0 with TG set
abbrev pub tw_tg : List ℕ
tw_tg = bytes_of Width.Word 0x7FE0_0009 ++ replicate 28 0

tg_accepted : (p : Profile) → check_run p trapping tw_tg [] 1 ≡ Ok tt
unfolding check_run check_start check_of sound_of clean_of sized_of check_events events_good bytes_of
tg_accepted Profile.Ppe42 = refl
tg_accepted Profile.Ppe42x = refl

-- the 42 traps, so that it halts with 3, and the 42X goes on to the next word
pub tg_traps : IsOkAnd (run_outcome Profile.Ppe42 trapping tw_tg [] 1) (λ o. o.halt ≡ 3) × IsOkAnd (run_outcome Profile.Ppe42x trapping tw_tg [] 1) (λ o. (o.halt ≡ 0) × (o.state.iar ≡ 4))
unfolding bytes_of decode_on decode_of fields_of reg_of primary primary_rows load_store load_store_rows added added_rows arithmetic arithmetic_rows logical logical_rows storage storage_rows system system_rows
    step_of counted_of ticked_of dec_after tsr_after event_noted pending_of acts_of highest_of awake_of running_of fetch_of fetch_access_of access_of value_at execute_of trap_of halted_of next_of with put_at mask
    check_run check_start check_of sound_of clean_of sized_of check_events events_good run_of run_outcome
tg_traps = (refl, (refl, refl))

-- so C-16 needs its premise on tw
pub tg_parts : Parts trapping tw_tg [] 1
unfolding bytes_of decode_on decode_of fields_of reg_of primary primary_rows load_store load_store_rows added added_rows arithmetic arithmetic_rows logical logical_rows storage storage_rows system system_rows
    step_of counted_of ticked_of dec_after tsr_after event_noted pending_of acts_of highest_of awake_of running_of fetch_of fetch_access_of access_of value_at execute_of trap_of halted_of next_of with put_at mask
    check_run check_start check_of sound_of clean_of sized_of check_events events_good run_of run_outcome
    executes some_step meets_illegal meets_check writes_unshared raised_of
tg_parts =
    record {
      accepted = tg_accepted;
      no_illegal = refl;
      no_check = refl;
      no_write = refl;
      differs = λ e. let z : ◌≡◌ {A = ℕ} 0 3 = ap (λ (o : Result Outcome Refusal). (state_left trapping o).halt) e in omega (arith, z);
    }
