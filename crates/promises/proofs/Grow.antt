-- Demand 3: more memory or a longer run never alters what was already found. Assumes nothing.
use Rattle.std.specs.Prelude.{Some, None, Option, Ok, Err}
use Prim.Native.Nat.{ℕ, zero, suc, ◌+◌}
use native.Mathlib.Nat.{suc-add, zero-add}
use mathlib.Core.Bool.{Bool, true, false}
use mathlib.Core.Path.{◌≡◌, refl, sym, ◌∙◌}
use mathlib.Core.List.{List, [], ◌∷◌, ◌++◌}
use lib.Dec.{eqb}
use lib.ListN.{get_or, length}
use borrow.Author.Tests.{eqb-false}
use Rattle.word.specs.Bits.{bit_at}
use Rattle.word.specs.Width.{bytes}
use Rattle.word.specs.declared.width.Width.{Width}
use Rattle.memory.specs.Access.{Access, pick, aligned_of, access_of, fetch_access_of, reaches_past}
use Rattle.memory.specs.Load.{Loaded, loaded, load_of, load_double_of, fetch_of, value_at, double_at}
use Rattle.memory.specs.Store.{block_at}
use Rattle.memory.specs.declared.access.Fault.{Fault}
use Rattle.word.proofs.Truth.{never}
use Rattle.memory.proofs.Grow.{access_grow, load_grow, load_double_grow, fetch_grow, store_grow, store_double_grow, clear_grow, sets_grow}
use Rattle.memory.proofs.Laws.{served_inside}
use Rattle.insn.specs.Read.{decode_on}
use Rattle.insn.specs.declared.instr.Instr.{Instr}
use Rattle.insn.specs.declared.instr.LoadStore.{LoadStore}
use Rattle.insn.specs.declared.instr.StackOp.{StackOp}
use Rattle.insn.specs.declared.instr.CacheOp.{CacheOp}
use Rattle.insn.specs.declared.profile.Profile.{Profile}
use Rattle.machine.specs.State.{gpr_of, vdr_of}
use Rattle.machine.specs.After.{After, plain}
use Rattle.machine.specs.LoadStore.{offset_ea, indexed_ea, load_at, store_at, load_double_at, store_double_at, load_store_of}
use Rattle.machine.specs.Interrupt.{interrupted_of}
use Rattle.machine.specs.Stack.{Part, pair, link, back, address_of, size_of, frame_ea, doublewords, parts_of, pushed, state_after, memory_after, stores_of, goes_on, framed_of, stack_of}
use Rattle.machine.specs.Cache.{clear_at, cache_of}
use Rattle.machine.specs.Timer.{ticked_of, acts_of, acted_of}
use Rattle.machine.specs.Step.{execute_of, decoded_of, fetched_of, running_of, awake_of, highest_of, interruptible_of, counted_of, step_of}
use Rattle.machine.specs.declared.state.State.{State}
use Rattle.machine.specs.declared.interrupt.Cause.{Cause}
use Rattle.machine.specs.declared.interrupt.Vector.{Vector}
use Rattle.run.specs.Run.{Ran, run_of, past_of}
use Rattle.run.proofs.Laws.{run_halted}
use Rattle.promises.specs.Growth.{grown, grown_run}
use Rattle.machine.proofs.Frames.{pushed_length}

-- one access of a frame that is served in the smaller memory
module _ (m x : List ℕ) (a : ℕ) where
  same_value : {v w : ℕ} → ◌≡◌ {A = Loaded} (Ok v) (Ok w) → v ≡ w
  same_value e = cc

  served_past : (n : ℕ) → access_of (length m) a n ≡ Ok tt → reaches_past (access_of (length m) a n) ≡ false
  served_past n e = rw e

  served_grow : (n : ℕ) → access_of (length m) a n ≡ Ok tt → access_of (length (m ++ x)) a n ≡ Ok tt
  served_grow n e = access_grow m x a n (served_past n e) ∙ e

  word_grow : access_of (length m) a 4 ≡ Ok tt → value_at Width.Word (m ++ x) a ≡ value_at Width.Word m a
  unfolding load_of
  word_grow e = same_value (rw (served_grow 4 e, e) at (load_grow m x a Width.Word (served_past 4 e)))

  double_grow : access_of (length m) a 8 ≡ Ok tt → double_at (m ++ x) a ≡ double_at m a
  unfolding load_double_of
  double_grow e = same_value (rw (served_grow 8 e, e) at (load_double_grow m x a (served_past 8 e)))

module _ (op : StackOp) (ra : ℕ) (y : Part) (s : State) (m x : List ℕ) (e : access_of (length m) (address_of y) (size_of y) ≡ Ok tt) where
  part_state : state_after op ra y s (m ++ x) ≡ state_after op ra y s m
  part_state = state_cases op y e
    where
      state_cases : (op : StackOp) (y : Part) → access_of (length m) (address_of y) (size_of y) ≡ Ok tt → state_after op ra y s (m ++ x) ≡ state_after op ra y s m
      state_cases StackOp.Lsku (pair n a) h = rw (double_grow m x a h)
      state_cases StackOp.Lsku (link a) h = rw (word_grow m x a h)
      state_cases StackOp.Lsku (back a) h = refl
      state_cases StackOp.Stsku y h = refl

  part_memory : memory_after op ra y s (m ++ x) ≡ memory_after op ra y s m ++ x
  part_memory = memory_cases op
    where
      memory_cases : (op : StackOp) → memory_after op ra y s (m ++ x) ≡ memory_after op ra y s m ++ x
      memory_cases StackOp.Lsku = refl
      memory_cases StackOp.Stsku = sets_grow (pushed ra y s) m x (address_of y) (rw (pushed_length ra y s) (served_inside (length m) (address_of y) (size_of y) e))

framed_grow : (p : Profile) (op : StackOp) (ra sp ea : ℕ) (x : List ℕ) (ys : List Part) (s : State) (m : List ℕ) → (framed_of p op ra sp ea ys s m).past ≡ false
    → framed_of p op ra sp ea ys s (m ++ x) ≡ grown x (framed_of p op ra sp ea ys s m)
unfolding framed_of
framed_grow p op ra sp ea x [] s m h = refl
framed_grow p op ra sp ea x (y ∷ ys) s m h =
    go (access_of (length m) (address_of y) (size_of y)) refl (framed_grow p op ra sp ea x ys (state_after op ra y s m) (memory_after op ra y s m)) h
  where
    rest : List ℕ → After
    rest n = framed_of p op ra sp ea ys (state_after op ra y s n) (memory_after op ra y s n)

    grew : (k : Access) → access_of (length m) (address_of y) (size_of y) ≡ k → reaches_past k ≡ false → access_of (length (m ++ x)) (address_of y) (size_of y) ≡ k
    grew k e f = access_grow m x (address_of y) (size_of y) (rw e f) ∙ e

    go : (k : Access) → access_of (length m) (address_of y) (size_of y) ≡ k → ((rest m).past ≡ false → framed_of p op ra sp ea ys (state_after op ra y s m) (memory_after op ra y s m ++ x) ≡ grown x (rest m))
        → (goes_on p s m (stores_of op) (address_of y) k (rest m)).past ≡ false
        → goes_on p s (m ++ x) (stores_of op) (address_of y) (access_of (length (m ++ x)) (address_of y) (size_of y)) (rest (m ++ x)) ≡ grown x (goes_on p s m (stores_of op) (address_of y) k (rest m))
    go (Ok tt) e next f = rw (grew (Ok tt) e refl, part_state op ra y s m x e, part_memory op ra y s m x e) (next f)
    go (Err Fault.Unaligned) e next f = rw (grew (Err Fault.Unaligned) e refl)
    go (Err Fault.Outside) e next f = never f

stack_grow : (p : Profile) (s : State) (m x : List ℕ) (op : StackOp) (ra dd : ℕ) → (stack_of p s m op ra dd).past ≡ false → stack_of p s (m ++ x) op ra dd ≡ grown x (stack_of p s m op ra dd)
unfolding stack_of
stack_grow p s m x op ra dd h = go (aligned_of (gpr_of s ra) 8) h
  where
    frame : List ℕ → After
    frame n = framed_of p op ra (gpr_of s ra) (frame_ea s ra dd) (parts_of op (gpr_of s ra) (frame_ea s ra dd) (doublewords op dd)) s n

    unaligned : List ℕ → After
    unaligned n = plain (interrupted_of p s (Cause.Alignment (gpr_of s ra) (stores_of op))) n

    go : (b : Bool) → (pick b (frame m) (unaligned m)).past ≡ false → pick b (frame (m ++ x)) (unaligned (m ++ x)) ≡ grown x (pick b (frame m) (unaligned m))
    go true f = framed_grow p op ra _ _ x _ s m f
    go false f = refl

module _ (p : Profile) (s : State) (m x : List ℕ) where
  load_at_grow : (w : Width) (rt ea : ℕ) (u : Bool) (ra : ℕ) → (load_at p s m w rt ea u ra).past ≡ false
      → load_at p s (m ++ x) w rt ea u ra ≡ grown x (load_at p s m w rt ea u ra)
  unfolding load_at
  load_at_grow w rt ea u ra h = rw (load_grow m x ea w h, access_grow m x ea (bytes w) h)

  store_at_grow : (w : Width) (rs ea : ℕ) (u : Bool) (ra : ℕ) → (store_at p s m w rs ea u ra).past ≡ false
      → store_at p s (m ++ x) w rs ea u ra ≡ grown x (store_at p s m w rs ea u ra)
  unfolding store_at
  store_at_grow w rs ea u ra h = rw (store_grow m x ea w (gpr_of s rs) h, access_grow m x ea (bytes w) h)

  load_double_at_grow : (dt ea : ℕ) (u : Bool) (ra : ℕ) → (load_double_at p s m dt ea u ra).past ≡ false
      → load_double_at p s (m ++ x) dt ea u ra ≡ grown x (load_double_at p s m dt ea u ra)
  unfolding load_double_at
  load_double_at_grow dt ea u ra h = rw (load_double_grow m x ea h, access_grow m x ea 8 h)

  store_double_at_grow : (ds ea : ℕ) (u : Bool) (ra : ℕ) → (store_double_at p s m ds ea u ra).past ≡ false
      → store_double_at p s (m ++ x) ds ea u ra ≡ grown x (store_double_at p s m ds ea u ra)
  unfolding store_double_at
  store_double_at_grow ds ea u ra h = rw (store_double_grow m x ea (vdr_of s ds) h, access_grow m x ea 8 h)

  clear_at_grow : (ea : ℕ) → (clear_at p s m ea).past ≡ false → clear_at p s (m ++ x) ea ≡ grown x (clear_at p s m ea)
  unfolding clear_at
  clear_at_grow ea h = rw (clear_grow m x ea h, access_grow m x (block_at ea) 32 h)

  load_store_grow : (i : LoadStore) → (load_store_of p s m i).past ≡ false → load_store_of p s (m ++ x) i ≡ grown x (load_store_of p s m i)
  unfolding load_store_of
  load_store_grow (LoadStore.Load w u rt ra d) h = load_at_grow w rt (offset_ea s ra d) u ra h
  load_store_grow (LoadStore.LoadIndexed w rt ra rb) h = load_at_grow w rt (indexed_ea s ra rb) false ra h
  load_store_grow (LoadStore.Store w u rs ra d) h = store_at_grow w rs (offset_ea s ra d) u ra h
  load_store_grow (LoadStore.StoreIndexed w rs ra rb) h = store_at_grow w rs (indexed_ea s ra rb) false ra h
  load_store_grow (LoadStore.LoadDouble u dt ra d) h = load_double_at_grow dt (offset_ea s ra d) u ra h
  load_store_grow (LoadStore.StoreDouble u ds ra d) h = store_double_at_grow ds (offset_ea s ra d) u ra h

  cache_grow : (op : CacheOp) (ra rb : ℕ) → (cache_of p s m op ra rb).past ≡ false → cache_of p s (m ++ x) op ra rb ≡ grown x (cache_of p s m op ra rb)
  unfolding cache_of
  cache_grow CacheOp.Dcbf ra rb h = refl
  cache_grow CacheOp.Dcbi ra rb h = refl
  cache_grow CacheOp.Dcbt ra rb h = refl
  cache_grow CacheOp.Dcbz ra rb h = clear_at_grow (indexed_ea s ra rb) h

  execute_grow : (w : ℕ) (i : Instr) → (execute_of p s m w i).past ≡ false → execute_of p s (m ++ x) w i ≡ grown x (execute_of p s m w i)
  unfolding execute_of
  execute_grow w (Instr.Arithmetic i) h = refl
  execute_grow w (Instr.Logical i) h = refl
  execute_grow w (Instr.Compare i) h = refl
  execute_grow w (Instr.Rotate i) h = refl
  execute_grow w (Instr.LoadStore i) h = load_store_grow i h
  execute_grow w (Instr.Stack dd op rt ra) h = stack_grow p s m x op ra dd h
  execute_grow w (Instr.Branch i) h = refl
  execute_grow w (Instr.Trap to ra rb tg) h = refl
  execute_grow w (Instr.System i) h = refl
  execute_grow w (Instr.Cache op hint ra rb) h = cache_grow op ra rb h

  decoded_grow : (w : ℕ) (d : Option Instr) → (decoded_of p s m w d).past ≡ false → decoded_of p s (m ++ x) w d ≡ grown x (decoded_of p s m w d)
  decoded_grow w (Some i) h = execute_grow w i h
  decoded_grow w None h = refl

  fetched_grow : (l : Loaded) → (fetched_of p s m l).past ≡ false → fetched_of p s (m ++ x) l ≡ grown x (fetched_of p s m l)
  fetched_grow (Ok w) h = decoded_grow w (decode_on p w) h
  fetched_grow (Err Fault.Unaligned) h = refl
  fetched_grow (Err Fault.Outside) h = never h

  -- a fetch that reaches past says so
  fetch_past : (k : Access) (v : ℕ) → (fetched_of p s m (loaded k v)).past ≡ false → reaches_past k ≡ false
  fetch_past (Ok tt) v h = refl
  fetch_past (Err Fault.Unaligned) v h = refl
  fetch_past (Err Fault.Outside) v h = h

  running_grow : (running_of p s m).past ≡ false → running_of p s (m ++ x) ≡ grown x (running_of p s m)
  unfolding running_of fetch_of
  running_grow h =
      rw (fetch_grow m x s.iar (fetch_past (fetch_access_of (length m) s.iar) (value_at Width.Word m s.iar) h))
      (fetched_grow (fetch_of m s.iar) h)

  awake_cases : (b : Bool) → (pick b (plain s m) (running_of p s m)).past ≡ false
      → pick b (plain s (m ++ x)) (running_of p s (m ++ x)) ≡ grown x (pick b (plain s m) (running_of p s m))
  awake_cases true h = refl
  awake_cases false h = running_grow h

  interruptible_grow : (q : Option Vector) → (interruptible_of p s m q).past ≡ false → interruptible_of p s (m ++ x) q ≡ grown x (interruptible_of p s m q)
  unfolding awake_of
  interruptible_grow (Some v) h = refl
  interruptible_grow None h = awake_cases (bit_at s.msr 13) h

module _ (p : Profile) (s : State) (m x : List ℕ) (e : ℕ) where
  counted_cases : (b : Bool) → (pick b (plain (acted_of (ticked_of s e)) m) (interruptible_of p (ticked_of s e) m (highest_of (ticked_of s e) e))).past ≡ false
      → pick b (plain (acted_of (ticked_of s e)) (m ++ x)) (interruptible_of p (ticked_of s e) (m ++ x) (highest_of (ticked_of s e) e))
      ≡ grown x (pick b (plain (acted_of (ticked_of s e)) m) (interruptible_of p (ticked_of s e) m (highest_of (ticked_of s e) e)))
  counted_cases true h = refl
  counted_cases false h = interruptible_grow p (ticked_of s e) m x (highest_of (ticked_of s e) e) h

  step_cases : (b : Bool) → (pick b (counted_of p s m e) (plain s m)).past ≡ false
      → pick b (counted_of p s (m ++ x) e) (plain s (m ++ x)) ≡ grown x (pick b (counted_of p s m e) (plain s m))
  unfolding counted_of
  step_cases true h = counted_cases (acts_of s e) h
  step_cases false h = refl

  -- a step that did not reach past its memory, with more memory
  pub step_grow : (step_of p s m e).past ≡ false → step_of p s (m ++ x) e ≡ grown x (step_of p s m e)
  unfolding step_of
  step_grow h = step_cases (eqb s.halt 0) h

module _ (p : Profile) (i : ℕ) (ev : List ℕ) (s : State) (m x : List ℕ) where
  abbrev left : After
  left = step_of p s m (get_or ev i 0)

  turn_grow : (n : ℕ) (b q : Bool) → left.past ≡ q
      → (past_of p n (suc i) ev left.st left.mem ≡ false → run_of p n (suc i) ev left.st (left.mem ++ x) ≡ grown_run x (run_of p n (suc i) ev left.st left.mem))
      → pick b (pick q true (past_of p n (suc i) ev left.st left.mem)) false ≡ false
      → pick b (run_of p n (suc i) ev (step_of p s (m ++ x) (get_or ev i 0)).st (step_of p s (m ++ x) (get_or ev i 0)).mem) (record { st = s; mem = m ++ x; steps = i })
      ≡ grown_run x (pick b (run_of p n (suc i) ev left.st left.mem) (record { st = s; mem = m; steps = i }))
  turn_grow n true true e ih h = never h
  turn_grow n true false e ih h = rw (step_grow p s m x (get_or ev i 0) e) (ih h)
  turn_grow n false q e ih h = refl

-- a run that never reached past its memory, with more memory
pub run_grow : (p : Profile) (n i : ℕ) (ev : List ℕ) (s : State) (m x : List ℕ) → past_of p n i ev s m ≡ false → run_of p n i ev s (m ++ x) ≡ grown_run x (run_of p n i ev s m)
unfolding run_of past_of
run_grow p zero i ev s m x h = refl
run_grow p (suc n) i ev s m x h =
    let a = step_of p s m (get_or ev i 0) in
    turn_grow p i ev s m x n (eqb s.halt 0) a.past refl (run_grow p n (suc i) ev a.st a.mem x) h

module _ (p : Profile) (i : ℕ) (ev : List ℕ) (s : State) (m : List ℕ) (n k : ℕ) where
  turn_longer : (b : Bool) → eqb s.halt 0 ≡ b → (t r : Ran) → t ≡ run_of p k r.steps ev r.st r.mem
      → pick b t (record { st = s; mem = m; steps = i })
      ≡ (let q = pick b r (record { st = s; mem = m; steps = i }) in run_of p k q.steps ev q.st q.mem)
  turn_longer true e t r h = h
  turn_longer false e t r h = sym (run_halted p ev s m k i (eqb-false s.halt 0 e))

-- a longer run is the rest of the run from where the shorter one ended
pub run_longer : (p : Profile) (n k i : ℕ) (ev : List ℕ) (s : State) (m : List ℕ)
    → run_of p (n + k) i ev s m ≡ (let q = run_of p n i ev s m in run_of p k q.steps ev q.st q.mem)
unfolding run_of
run_longer p zero k i ev s m = rw zero-add
run_longer p (suc n) k i ev s m =
    let a = step_of p s m (get_or ev i 0) in
    rw (suc-add n k)
    (turn_longer p i ev s m n k (eqb s.halt 0) refl (run_of p (n + k) (suc i) ev a.st a.mem) (run_of p n (suc i) ev a.st a.mem) (run_longer p n k (suc i) ev a.st a.mem))
