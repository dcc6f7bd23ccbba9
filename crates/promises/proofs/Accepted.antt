-- What a run leaves is accepted again: a state with no refusal, and a memory as long as before. Assumes nothing.
use Rattle.machine.specs.Interrupt.{cause_of}
use Rattle.std.specs.Prelude.{Some, None, Option, Ok, Err}
use Prim.Native.Nat.{ℕ, zero, suc}
use mathlib.Core.Bool.{Bool, false}
use mathlib.Core.Path.{◌≡◌, refl, ap, ◌∙◌}
use mathlib.Core.List.{List, [], ◌∷◌}
use lib.Dec.{eqb}
use lib.ListN.{length, get_or}
use Rattle.word.specs.Bits.{bit_at}
use Rattle.word.specs.Width.{bytes}
use Rattle.word.specs.declared.width.Width.{Width}
use Rattle.memory.specs.Access.{Access, aligned_of, access_of, sized_of}
use Rattle.memory.specs.Load.{Loaded, load_of, load_double_of, fetch_of}
use Rattle.memory.specs.Store.{block_at}
use Rattle.memory.proofs.Grow.{stored_length, stored_double_length, cleared_length}
use Rattle.insn.specs.Read.{decode_on}
use Rattle.insn.specs.declared.instr.Instr.{Instr}
use Rattle.insn.specs.declared.instr.LoadStore.{LoadStore}
use Rattle.insn.specs.declared.instr.StackOp.{StackOp}
use Rattle.insn.specs.declared.instr.CacheOp.{CacheOp}
use Rattle.insn.specs.declared.profile.Profile.{Profile}
use Rattle.machine.specs.State.{gpr_of, vdr_of}
use Rattle.std.specs.Prelude.{Ok, is_ok}
use Rattle.std.specs.Result.{result_and}
use Rattle.machine.specs.Refusal.{Checked, unless}
use Rattle.machine.specs.Register.{check_of, check_start}
use Rattle.machine.specs.After.{After}
use Rattle.machine.specs.LoadStore.{load_at, store_at, load_double_at, store_double_at, load_store_of}
use Rattle.machine.specs.Stack.{Part, address_of, size_of, state_after, memory_after, stores_of, scratch_of, goes_on, framed_of, stack_of}
use Rattle.machine.specs.Cache.{clear_at, cache_of}
use Rattle.machine.specs.Timer.{ticked_of, acts_of}
use Rattle.machine.specs.Step.{execute_of, decoded_of, fetched_of, running_of, awake_of, highest_of, interruptible_of, counted_of, step_of}
use Rattle.machine.specs.declared.state.State.{State}
use Rattle.machine.specs.declared.interrupt.Cause.{Cause}
use Rattle.machine.specs.declared.interrupt.Vector.{Vector}
use Rattle.machine.specs.declared.refusal.Refusal.{Refusal}
use Rattle.machine.proofs.Refusals.{accepts_ok, and_accepts}
use Rattle.machine.proofs.Frames.{part_length}
use Rattle.run.specs.Run.{Ran, run_of}
use Rattle.run.specs.Outcome.{check_run}
use Rattle.promises.proofs.Sound.{Sound, picked, accepted_sound, sound_accepted, next_sound, entered_sound, interrupted_sound, ticked_sound, acted_sound, arithmetic_sound, logical_sound, compare_sound, rotate_sound, branch_sound, trap_sound, system_sound, loaded_sound, loaded_double_sound, stored_sound, cleared_sound, framed_sound, part_sound}

-- from a state and a memory to others: a sound state stays sound, and the memory keeps its length
pub record Kept (p : Profile) (s : State) (m : List ℕ) (t : State) (x : List ℕ) : Type 0 where
  pub st : Sound p s → Sound p t
  pub mem : length x ≡ length m

-- the memory as it was
untouched : {p : Profile} {s t : State} {m : List ℕ} → (Sound p s → Sound p t) → Kept p s m t m
untouched f = record { st = f; mem = refl }

chain : {p : Profile} {s t u : State} {m x y : List ℕ} → Kept p s m t x → Kept p t x u y → Kept p s m u y
chain a b = record { st = λ k. b.st (a.st k); mem = b.mem ∙ a.mem }

abbrev Left : Profile → State → List ℕ → After → Type 0
Left p s m a = Kept p s m a.st a.mem

-- lsku and stsku: one access after the other
part_left : (p : Profile) (s : State) (m : List ℕ) (store : Bool) (a : ℕ) (k : Access) (rest : After) → Left p s m rest → Left p s m (goes_on p s m store a k rest)
part_left p s m store a (Ok tt) rest l = l
part_left p s m store a (Err f) rest l = untouched (λ k. interrupted_sound k (cause_of f a store))

framed_left : (p : Profile) (op : StackOp) (ra sp ea : ℕ) (xs : List Part) (s : State) (m : List ℕ) → Left p s m (framed_of p op ra sp ea xs s m)
unfolding framed_of
framed_left p op ra sp ea [] s m = untouched (λ k. framed_sound k ra ea (scratch_of op sp ea))
framed_left p op ra sp ea (x ∷ xs) s m =
    part_left p s m (stores_of op) (address_of x) (access_of (length m) (address_of x) (size_of x)) _
    (chain (record { st = λ k. part_sound k op ra x m; mem = part_length op ra x s m }) (framed_left p op ra sp ea xs (state_after op ra x s m) (memory_after op ra x s m)))

module _ (p : Profile) (s : State) (m : List ℕ) where
  stack_left : (op : StackOp) (ra dd : ℕ) → Left p s m (stack_of p s m op ra dd)
  unfolding stack_of
  stack_left op ra dd = picked (Left p s m) (aligned_of (gpr_of s ra) 8) (framed_left p op ra _ _ _ s m) (untouched (λ k. interrupted_sound k (Cause.Alignment (gpr_of s ra) (stores_of op))))

  load_left : (w : Width) (rt ea : ℕ) (update : Bool) (ra : ℕ) → Left p s m (load_at p s m w rt ea update ra)
  unfolding load_at
  load_left w rt ea update ra = untouched (λ k. loaded_sound k (load_of m ea w) rt update ra ea)

  store_left : (w : Width) (rs ea : ℕ) (update : Bool) (ra : ℕ) → Left p s m (store_at p s m w rs ea update ra)
  unfolding store_at
  store_left w rs ea update ra =
      record { st = λ k. stored_sound k (access_of (length m) ea (bytes w)) update ra ea; mem = stored_length m ea w (gpr_of s rs) }

  load_double_left : (dt ea : ℕ) (update : Bool) (ra : ℕ) → Left p s m (load_double_at p s m dt ea update ra)
  unfolding load_double_at
  load_double_left dt ea update ra = untouched (λ k. loaded_double_sound k (load_double_of m ea) dt update ra ea)

  store_double_left : (ds ea : ℕ) (update : Bool) (ra : ℕ) → Left p s m (store_double_at p s m ds ea update ra)
  unfolding store_double_at
  store_double_left ds ea update ra =
      record { st = λ k. stored_sound k (access_of (length m) ea 8) update ra ea; mem = stored_double_length m ea (vdr_of s ds) }

  clear_left : (ea : ℕ) → Left p s m (clear_at p s m ea)
  unfolding clear_at
  clear_left ea = record { st = λ k. cleared_sound k (access_of (length m) (block_at ea) 32) ea; mem = cleared_length m ea }

  load_store_left : (i : LoadStore) → Left p s m (load_store_of p s m i)
  unfolding load_store_of
  load_store_left (LoadStore.Load w update rt ra d) = load_left w rt _ update ra
  load_store_left (LoadStore.LoadIndexed w rt ra rb) = load_left w rt _ false ra
  load_store_left (LoadStore.Store w update rs ra d) = store_left w rs _ update ra
  load_store_left (LoadStore.StoreIndexed w rs ra rb) = store_left w rs _ false ra
  load_store_left (LoadStore.LoadDouble update dt ra d) = load_double_left dt _ update ra
  load_store_left (LoadStore.StoreDouble update ds ra d) = store_double_left ds _ update ra

  cache_left : (op : CacheOp) (ra rb : ℕ) → Left p s m (cache_of p s m op ra rb)
  unfolding cache_of
  cache_left CacheOp.Dcbf ra rb = untouched next_sound
  cache_left CacheOp.Dcbi ra rb = untouched next_sound
  cache_left CacheOp.Dcbt ra rb = untouched next_sound
  cache_left CacheOp.Dcbz ra rb = clear_left _

  execute_left : (w : ℕ) (i : Instr) → Left p s m (execute_of p s m w i)
  unfolding execute_of
  execute_left w (Instr.Arithmetic i) = untouched (λ k. arithmetic_sound k i)
  execute_left w (Instr.Logical i) = untouched (λ k. logical_sound k i)
  execute_left w (Instr.Compare i) = untouched (λ k. compare_sound k i)
  execute_left w (Instr.Rotate i) = untouched (λ k. rotate_sound k i)
  execute_left w (Instr.LoadStore i) = load_store_left i
  execute_left w (Instr.Stack dd op rt ra) = stack_left op ra dd
  execute_left w (Instr.Branch i) = untouched (λ k. branch_sound k i)
  execute_left w (Instr.Trap to ra rb tg) = untouched (λ k. trap_sound k w to tg)
  execute_left w (Instr.System i) = untouched (λ k. system_sound k i)
  execute_left w (Instr.Cache op hint ra rb) = cache_left op ra rb

  decoded_left : (w : ℕ) (d : Option Instr) → Left p s m (decoded_of p s m w d)
  decoded_left w (Some i) = execute_left w i
  decoded_left w None = untouched (λ k. interrupted_sound k (Cause.Program w false))

  fetched_left : (l : Loaded) → Left p s m (fetched_of p s m l)
  fetched_left (Ok w) = decoded_left w (decode_on p w)
  fetched_left (Err f) = untouched (λ k. interrupted_sound k Cause.InstructionStorage)

  interruptible_left : (q : Option Vector) → Left p s m (interruptible_of p s m q)
  unfolding awake_of running_of
  interruptible_left (Some v) = untouched (λ k. entered_sound k v)
  interruptible_left None = picked (Left p s m) (bit_at s.msr 13) (untouched (λ k. k)) (fetched_left (fetch_of m s.iar))

step_left : (p : Profile) (s : State) (m : List ℕ) (e : ℕ) → Left p s m (step_of p s m e)
unfolding step_of counted_of
step_left p s m e =
    let t = ticked_of s e in
    let turned = picked (Left p t m) (acts_of s e) (untouched acted_sound) (interruptible_left p t m (highest_of t e)) in
    picked (Left p s m) (eqb s.halt 0) (chain (untouched (λ k. ticked_sound k e)) turned) (untouched (λ k. k))

run_left : (p : Profile) (n i : ℕ) (ev : List ℕ) (s : State) (m : List ℕ) → Kept p s m (run_of p n i ev s m).st (run_of p n i ev s m).mem
unfolding run_of
run_left p zero i ev s m = untouched (λ k. k)
run_left p (suc n) i ev s m =
    let a = step_of p s m (get_or ev i 0) in
    picked (λ (r : Ran). Kept p s m r.st r.mem) (eqb s.halt 0)
    (chain (step_left p s m (get_or ev i 0)) (run_left p n (suc i) ev a.st a.mem))
    (untouched (λ k. k))

-- a step from an accepted state leaves an accepted state
pub step_accepted : (p : Profile) (s : State) (m : List ℕ) (e : ℕ) → check_of p s ≡ Ok tt → check_of p (step_of p s m e).st ≡ Ok tt
step_accepted p s m e h = sound_accepted ((step_left p s m e).st (accepted_sound s h))

-- from any state, a step keeps the memory's length
pub step_length : (p : Profile) (s : State) (m : List ℕ) (e : ℕ) → length (step_of p s m e).mem ≡ length m
step_length p s m e = (step_left p s m e).mem

-- two checks in a row that refuse nothing
pub first_ok : (a b : Checked) → result_and a b ≡ Ok tt → a ≡ Ok tt
first_ok a b h = accepts_ok a (and_accepts a b (ap is_ok h)).0

pub second_ok : (a b : Checked) → result_and a b ≡ Ok tt → b ≡ Ok tt
second_ok a b h = accepts_ok b (and_accepts a b (ap is_ok h)).1

module _ (p : Profile) (n i : ℕ) (ev : List ℕ) (s : State) (m : List ℕ) where
  -- so does a run
  pub run_accepted : check_of p s ≡ Ok tt → check_of p (run_of p n i ev s m).st ≡ Ok tt
  run_accepted h = sound_accepted ((run_left p n i ev s m).st (accepted_sound s h))

  -- from any state, a run keeps the memory's length
  pub run_length : length (run_of p n i ev s m).mem ≡ length m
  run_length = (run_left p n i ev s m).mem

  -- a state and a memory that are accepted are accepted as a run left them
  pub start_again : check_start p s (length m) ≡ Ok tt → check_start p (run_of p n i ev s m).st (length (run_of p n i ev s m).mem) ≡ Ok tt
  unfolding check_start
  start_again h =
      let e : check_of p s ≡ Ok tt = second_ok (unless (sized_of (length m)) Refusal.Memory) (check_of p s) h in
      rw (run_length, run_accepted e) (rw e at h)

-- a budget and events that are accepted with a state and a memory are accepted with what any run from there left
pub run_again : (p : Profile) (n : ℕ) (ev : List ℕ) (s : State) (m : List ℕ) (ev' : List ℕ) (budget : ℕ) → check_run p s m ev' budget ≡ Ok tt
    → (let r = run_of p n 0 ev s m in check_run p r.st r.mem ev' budget ≡ Ok tt)
unfolding check_run
run_again p n ev s m ev' budget h =
    let e : check_start p s (length m) ≡ Ok tt = first_ok (check_start p s (length m)) _ h in
    rw (start_again p n 0 ev s m e) (rw e at h)
