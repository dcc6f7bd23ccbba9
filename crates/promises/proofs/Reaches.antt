-- Demand 1: every byte that a step reads or writes lies inside the lent memory, it changes no other byte, and no other byte decides what it leaves and writes. Assumes nothing.
use Rattle.std.specs.Prelude.{Some, None, Option, Ok, Err, is_none}
use Prim.Native.Nat.{ℕ, suc, ◌+◌, ◌<◌, ◌≤◌}
use native.Mathlib.Omega.{arith}
use native.Mathlib.Nat.{add-zero, add_assoc}
use mathlib.Core.Bool.{Bool, true, false, not, ◌&&◌}
use mathlib.Core.Path.{◌≡◌, refl, ap, sym, ◌∙◌}
use mathlib.Core.List.{List, [], ◌∷◌, ◌++◌, append_assoc}
use mathlib.Core.Logic.{◌⊎◌, inl, inr, ⊎_elim}
use lib.Dec.{eqb, lit<}
use lib.ListN.{length, get_or, set, take, drop, replicate, length-set, get_or-append}
use lib.Seq.{sets, sets-eq, get_or-set_same, get_or-set_other, get_or-append-add, length-take-le}
use borrow.Author.Tests.{eqb-true, eqb-false}
use Rattle.word.specs.Bits.{bit_at}
use Rattle.word.specs.Width.{bytes}
use Rattle.word.specs.declared.width.Width.{Width}
use Rattle.memory.specs.Access.{Access, pick, aligned_of, access_of, fetch_access_of}
use Rattle.memory.specs.Load.{Loaded, value_at, double_at, loaded, load_of, load_double_of, fetch_of}
use Rattle.memory.specs.Store.{bytes_of, double_bytes, written, stored_of, stored_double_of, block_at, cleared_of}
use Rattle.memory.specs.declared.access.Fault.{Fault}
use Rattle.word.proofs.Truth.{never}
use Rattle.memory.proofs.Laws.{served_inside, fetched_inside}
use Rattle.memory.proofs.Grow.{bytes_length, double_length}
use Rattle.insn.specs.Read.{decode_on}
use Rattle.insn.specs.declared.instr.Instr.{Instr}
use Rattle.insn.specs.declared.instr.LoadStore.{LoadStore}
use Rattle.insn.specs.declared.instr.StackOp.{StackOp}
use Rattle.insn.specs.declared.instr.CacheOp.{CacheOp}
use Rattle.insn.specs.declared.profile.Profile.{Profile}
use Rattle.machine.specs.State.{gpr_of, vdr_of}
use Rattle.machine.specs.After.{After, plain}
use Rattle.machine.specs.LoadStore.{offset_ea, indexed_ea, load_at, store_at, load_double_at, store_double_at, load_store_of}
use Rattle.machine.specs.Cache.{clear_at, cache_of}
use Rattle.machine.specs.Stack.{Part, pair, link, back, address_of, size_of, frame_ea, parts_of, popped, pushed, goes_on, framed_of, stack_of}
use Rattle.machine.specs.Interrupt.{entered_of}
use Rattle.machine.specs.Timer.{ticked_of, acts_of, acted_of}
use Rattle.machine.specs.Step.{execute_of, decoded_of, fetched_of, running_of, awake_of, highest_of, interruptible_of, counted_of, step_of}
use Rattle.machine.specs.declared.state.State.{State}
use Rattle.machine.specs.declared.interrupt.Vector.{Vector}
use Rattle.machine.proofs.Frames.{pop_memory, part_length, pushed_length}
use Rattle.tell.specs.Uses.{load_store_use, stack_use, cache_use, execute_use, decoded_use, fetched_use, executes}
use Rattle.tell.specs.declared.uses.Use.{Use}
use Rattle.promises.specs.Reach.{Span, touched, touched_at, fetched_at, span_of, while_served, served_of, frame_spans, read_by, written_by, running_reads, running_writes, reads_of, writes_of, Inside, Misses, Agree, Alike}

-- ---- inside

touched_inside : (m a n : ℕ) (k : Access) → (k ≡ Ok tt → a + n ≤ m) → Inside m (touched k a n)
touched_inside m a n (Ok tt) e = (e refl, tt)
touched_inside m a n (Err f) e = tt

at_inside : (m : List ℕ) (a n : ℕ) → Inside (length m) (touched_at m a n)
at_inside m a n = touched_inside (length m) a n (access_of (length m) a n) (served_inside (length m) a n)

fetch_inside : (m : List ℕ) (a : ℕ) → Inside (length m) (fetched_at m a)
fetch_inside m a = touched_inside (length m) a 4 (fetch_access_of (length m) a) (fetched_inside (length m) a)

both_inside : (n : ℕ) (xs ys : List Span) → Inside n xs → Inside n ys → Inside n (xs ++ ys)
both_inside n [] ys h k = k
both_inside n (x ∷ xs) ys h k = (h.0, both_inside n xs ys h.1 k)

picked_inside : (n : ℕ) (b : Bool) (xs : List Span) → Inside n xs → Inside n (pick b xs [])
picked_inside n true xs h = h
picked_inside n false xs h = tt

while_inside : (m : ℕ) (x : Span) (xs : List Span) (k : Access) → (k ≡ Ok tt → x.at + x.size ≤ m) → Inside m xs → Inside m (while_served k x xs)
while_inside m x xs (Ok tt) e h = (e refl, h)
while_inside m x xs (Err f) e h = tt

parts_inside : (m : ℕ) (xs : List Part) → Inside m (served_of m xs)
unfolding served_of
parts_inside m [] = tt
parts_inside m (x ∷ xs) = while_inside m (span_of x) (served_of m xs) (access_of m (address_of x) (size_of x)) (served_inside m (address_of x) (size_of x)) (parts_inside m xs)

frame_inside : (m : ℕ) (op : StackOp) (sp ea n : ℕ) → Inside m (frame_spans m op sp ea n)
frame_inside m op sp ea n = picked_inside m (aligned_of sp 8) (served_of m (parts_of op sp ea n)) (parts_inside m (parts_of op sp ea n))

use_inside : (m : List ℕ) (u : Option Use) → Inside (length m) (read_by m u) × Inside (length m) (written_by m u)
use_inside m None = (tt, tt)
use_inside m (Some (Use.Reads a n)) = (at_inside m a n, tt)
use_inside m (Some (Use.Writes a n)) = (tt, at_inside m a n)
use_inside m (Some (Use.Pops sp ea n)) = (frame_inside (length m) StackOp.Lsku sp ea n, tt)
use_inside m (Some (Use.Pushes sp ea n)) = (tt, frame_inside (length m) StackOp.Stsku sp ea n)

-- no access goes beyond the memory lent
pub reads_inside : (p : Profile) (s : State) (m : List ℕ) (e : ℕ) → Inside (length m) (reads_of p s m e)
unfolding reads_of running_reads
reads_inside p s m e =
    let t = ticked_of s e in
    let u = fetched_use p t (fetch_of m t.iar) in
    picked_inside (length m) (executes s e) _
    (both_inside (length m) (fetched_at m t.iar) (read_by m u) (fetch_inside m t.iar) (use_inside m u).0)

pub writes_inside : (p : Profile) (s : State) (m : List ℕ) (e : ℕ) → Inside (length m) (writes_of p s m e)
unfolding writes_of running_writes
writes_inside p s m e =
    let t = ticked_of s e in
    picked_inside (length m) (executes s e) _ (use_inside m (fetched_use p t (fetch_of m t.iar))).1

-- ---- no other byte is changed

sets_other : (bs m : List ℕ) (a k : ℕ) → (k < a) ⊎ (a + length bs ≤ k) → get_or (sets m a bs) k 0 ≡ get_or m k 0
sets_other [] m a k h = refl
sets_other (b ∷ bs) m a k h =
    sets_other bs (set m a b) (suc a) k (⊎_elim (λ l. inl (omega arith)) (λ r. inr (omega arith)) h)
    ∙ get_or-set_other m a k b 0 (λ e. ⊎_elim (λ l. omega arith) (λ r. omega arith) h)

written_other : (m : List ℕ) (a k : ℕ) (bs : List ℕ) (c : Access) → Misses k (touched c a (length bs)) → get_or (written c m a bs) k 0 ≡ get_or m k 0
written_other m a k bs (Ok tt) h = sets_other bs m a k h.0
written_other m a k bs (Err f) h = refl

-- an access that is not served ends the frame with the memory that it had
goes_other : (p : Profile) (s : State) (m : List ℕ) (k : ℕ) (store : Bool) (a : ℕ) (c : Access) (u : After) → (c ≡ Ok tt → get_or u.mem k 0 ≡ get_or m k 0)
    → get_or (goes_on p s m store a c u).mem k 0 ≡ get_or m k 0
goes_other p s m k store a (Ok tt) u f = f refl
goes_other p s m k store a (Err fault) u f = refl

push_other : (p : Profile) (ra sp ea : ℕ) (s : State) (k : ℕ) (xs : List Part) (m : List ℕ) → Misses k (served_of (length m) xs)
    → get_or (framed_of p StackOp.Stsku ra sp ea xs s m).mem k 0 ≡ get_or m k 0
unfolding framed_of served_of
push_other p ra sp ea s k [] m h = refl
push_other p ra sp ea s k (x ∷ xs) m h =
    goes_other p s m k true (address_of x) (access_of (length m) (address_of x) (size_of x)) _
    (λ e.
    let q : Misses k (span_of x ∷ served_of (length m) xs) = rw e at h in
    push_other p ra sp ea s k xs (sets m (address_of x) (pushed ra x s)) (rw (part_length StackOp.Stsku ra x s m) q.1)
    ∙ sets_other (pushed ra x s) m (address_of x) k (rw (pushed_length ra x s) q.0))

module _ (p : Profile) (s : State) (m : List ℕ) (k : ℕ) where
  store_other : (w : Width) (rs ea : ℕ) (u : Bool) (ra : ℕ) → Misses k (touched_at m ea (bytes w)) → get_or (store_at p s m w rs ea u ra).mem k 0 ≡ get_or m k 0
  unfolding store_at stored_of
  store_other w rs ea u ra h =
      let e : length (bytes_of w (gpr_of s rs)) ≡ bytes w = bytes_length w (gpr_of s rs) in
      written_other m ea k (bytes_of w (gpr_of s rs)) (access_of (length m) ea (bytes w)) (rw e h)

  store_double_other : (ds ea : ℕ) (u : Bool) (ra : ℕ) → Misses k (touched_at m ea 8) → get_or (store_double_at p s m ds ea u ra).mem k 0 ≡ get_or m k 0
  unfolding store_double_at stored_double_of
  store_double_other ds ea u ra h =
      written_other m ea k (double_bytes (vdr_of s ds)) (access_of (length m) ea 8) (rw (double_length (vdr_of s ds)) h)

  load_store_other : (i : LoadStore) → Misses k (written_by m (Some (load_store_use s i))) → get_or (load_store_of p s m i).mem k 0 ≡ get_or m k 0
  unfolding load_store_of load_at load_double_at
  load_store_other (LoadStore.Load w u rt ra d) h = refl
  load_store_other (LoadStore.LoadIndexed w rt ra rb) h = refl
  load_store_other (LoadStore.Store w u rs ra d) h = store_other w rs (offset_ea s ra d) u ra h
  load_store_other (LoadStore.StoreIndexed w rs ra rb) h = store_other w rs (indexed_ea s ra rb) false ra h
  load_store_other (LoadStore.LoadDouble u dt ra d) h = refl
  load_store_other (LoadStore.StoreDouble u ds ra d) h = store_double_other ds (offset_ea s ra d) u ra h

  -- a frame whose (RA) is not aligned leaves the memory
  picked_other : (b : Bool) (t : State) (u : After) → (b ≡ true → get_or u.mem k 0 ≡ get_or m k 0) → get_or (pick b u (plain t m)).mem k 0 ≡ get_or m k 0
  picked_other true t u f = f refl
  picked_other false t u f = refl

  stack_other : (op : StackOp) (ra dd : ℕ) → Misses k (written_by m (Some (stack_use s op ra dd))) → get_or (stack_of p s m op ra dd).mem k 0 ≡ get_or m k 0
  unfolding stack_of
  stack_other StackOp.Lsku ra dd h =
      picked_other (aligned_of (gpr_of s ra) 8) _ _ (λ e. ap (λ (b : List ℕ). get_or b k 0) (pop_memory p ra (gpr_of s ra) (frame_ea s ra dd) _ s m))
  stack_other StackOp.Stsku ra dd h =
      picked_other (aligned_of (gpr_of s ra) 8) _ _ (λ e. push_other p ra (gpr_of s ra) (frame_ea s ra dd) s k _ m (rw e at h))

  cache_other : (op : CacheOp) (ra rb : ℕ) → Misses k (written_by m (cache_use s op ra rb)) → get_or (cache_of p s m op ra rb).mem k 0 ≡ get_or m k 0
  unfolding cache_of clear_at cleared_of
  cache_other CacheOp.Dcbf ra rb h = refl
  cache_other CacheOp.Dcbi ra rb h = refl
  cache_other CacheOp.Dcbt ra rb h = refl
  cache_other CacheOp.Dcbz ra rb h = written_other m (block_at (indexed_ea s ra rb)) k (replicate 32 0) (access_of (length m) (block_at (indexed_ea s ra rb)) 32) h

  execute_other : (w : ℕ) (i : Instr) → Misses k (written_by m (execute_use s i)) → get_or (execute_of p s m w i).mem k 0 ≡ get_or m k 0
  unfolding execute_of
  execute_other w (Instr.Arithmetic i) h = refl
  execute_other w (Instr.Logical i) h = refl
  execute_other w (Instr.Compare i) h = refl
  execute_other w (Instr.Rotate i) h = refl
  execute_other w (Instr.LoadStore i) h = load_store_other i h
  execute_other w (Instr.Stack dd op rt ra) h = stack_other op ra dd h
  execute_other w (Instr.Branch i) h = refl
  execute_other w (Instr.Trap to ra rb tg) h = refl
  execute_other w (Instr.System i) h = refl
  execute_other w (Instr.Cache op hint ra rb) h = cache_other op ra rb h

  decoded_other : (w : ℕ) (d : Option Instr) → Misses k (written_by m (decoded_use s d)) → get_or (decoded_of p s m w d).mem k 0 ≡ get_or m k 0
  decoded_other w (Some i) h = execute_other w i h
  decoded_other w None h = refl

  fetched_other : (l : Loaded) → Misses k (written_by m (fetched_use p s l)) → get_or (fetched_of p s m l).mem k 0 ≡ get_or m k 0
  fetched_other (Ok w) h = decoded_other w (decode_on p w) h
  fetched_other (Err f) h = refl

-- ---- whether a step gets to line 6

-- a step by its four tests
abbrev pub lines : Profile → Bool → Bool → Option Vector → Bool → State → State → List ℕ → After
lines p halted acts (Some v) waits s t m = pick halted (pick acts (plain (acted_of t) m) (plain (entered_of p t v) m)) (plain s m)
lines p halted acts None waits s t m = pick halted (pick acts (plain (acted_of t) m) (pick waits (plain t m) (running_of p t m))) (plain s m)

runs_cases : (p : Profile) (h a : Bool) (q : Option Vector) (w : Bool) (s t : State) (m : List ℕ) → (h && not a && is_none q && not w) ≡ true → lines p h a q w s t m ≡ running_of p t m
runs_cases p true true (Some v) w s t m e = never (sym e)
runs_cases p true true None w s t m e = never (sym e)
runs_cases p true false (Some v) w s t m e = never (sym e)
runs_cases p true false None true s t m e = never (sym e)
runs_cases p true false None false s t m e = refl
runs_cases p false a (Some v) w s t m e = never (sym e)
runs_cases p false a None w s t m e = never (sym e)

-- what a step leaves that does not get there, whatever the memory
abbrev Rests : (List ℕ → After) → Type 0
Rests f = (m n : List ℕ) → ((f m).mem ≡ m) × (((f n).st ≡ (f m).st) × ((f n).past ≡ (f m).past))

rests_cases : (p : Profile) (h a : Bool) (q : Option Vector) (w : Bool) (s t : State) → (h && not a && is_none q && not w) ≡ false → Rests (lines p h a q w s t)
rests_cases p true true (Some v) w s t e m n = (refl, (refl, refl))
rests_cases p true true None w s t e m n = (refl, (refl, refl))
rests_cases p true false (Some v) w s t e m n = (refl, (refl, refl))
rests_cases p true false None true s t e m n = (refl, (refl, refl))
rests_cases p true false None false s t e m n = never e
rests_cases p false a (Some v) w s t e m n = (refl, (refl, refl))
rests_cases p false a None w s t e m n = (refl, (refl, refl))

module _ (p : Profile) (s : State) (e : ℕ) where
  interruptible_lines : (a h : Bool) (q : Option Vector) (m : List ℕ)
      → pick h (pick a (plain (acted_of (ticked_of s e)) m) (interruptible_of p (ticked_of s e) m q)) (plain s m) ≡ lines p h a q (bit_at (ticked_of s e).msr 13) s (ticked_of s e) m
  unfolding awake_of
  interruptible_lines a h (Some v) m = refl
  interruptible_lines a h None m = refl

  pub step_lines : (m : List ℕ) → step_of p s m e ≡ lines p (eqb s.halt 0) (acts_of s e) (highest_of (ticked_of s e) e) (bit_at (ticked_of s e).msr 13) s (ticked_of s e) m
  unfolding step_of counted_of
  step_lines m = interruptible_lines (acts_of s e) (eqb s.halt 0) (highest_of (ticked_of s e) e) m

  step_runs : executes s e ≡ true → (m : List ℕ) → step_of p s m e ≡ running_of p (ticked_of s e) m
  unfolding executes
  step_runs h m = step_lines m ∙ runs_cases p (eqb s.halt 0) (acts_of s e) (highest_of (ticked_of s e) e) (bit_at (ticked_of s e).msr 13) s (ticked_of s e) m h

  step_rests : executes s e ≡ false → Rests (λ m. step_of p s m e)
  unfolding executes
  step_rests h m n =
      let r = rests_cases p (eqb s.halt 0) (acts_of s e) (highest_of (ticked_of s e) e) (bit_at (ticked_of s e).msr 13) s (ticked_of s e) h m n in
      rw (step_lines m, step_lines n) r

other_cases : (p : Profile) (s : State) (m : List ℕ) (e k : ℕ) (b : Bool) → executes s e ≡ b → Misses k (pick b (running_writes p (ticked_of s e) m) [])
    → get_or (step_of p s m e).mem k 0 ≡ get_or m k 0
unfolding running_writes running_of
other_cases p s m e k true r h = rw (step_runs p s e r m) (fetched_other p (ticked_of s e) m k (fetch_of m (ticked_of s e).iar) h)
other_cases p s m e k false r h = rw (step_rests p s e r m m).0

-- a byte that the step does not write stays as it was
pub writes_only : (p : Profile) (s : State) (m : List ℕ) (e k : ℕ) → Misses k (writes_of p s m e) → get_or (step_of p s m e).mem k 0 ≡ get_or m k 0
unfolding writes_of
writes_only p s m e k h = other_cases p s m e k (executes s e) refl h

-- ---- no other byte is looked at

value_same : (w : Width) (m n : List ℕ) (a : ℕ) → ((k : ℕ) → k < bytes w → get_or n (a + k) 0 ≡ get_or m (a + k) 0) → value_at w n a ≡ value_at w m a
unfolding value_at
value_same Width.Byte m n a h = rw add-zero at (h 0 (lit< tt))
value_same Width.Half m n a h =
    let h0 : get_or n a 0 ≡ get_or m a 0 = rw add-zero at (h 0 (lit< tt)) in
    rw (h0, h 1 (lit< tt))
value_same Width.Word m n a h =
    let h0 : get_or n a 0 ≡ get_or m a 0 = rw add-zero at (h 0 (lit< tt)) in
    rw (h0, h 1 (lit< tt), h 2 (lit< tt), h 3 (lit< tt))

double_same : (m n : List ℕ) (a : ℕ) → ((k : ℕ) → k < 8 → get_or n (a + k) 0 ≡ get_or m (a + k) 0) → double_at n a ≡ double_at m a
unfolding double_at
double_same m n a h =
    rw (value_same Width.Word m n a (λ k l. h k (omega arith)), value_same Width.Word m n (a + 4) (λ k l. rw (add_assoc a 4 k) (h (4 + k) (omega arith))))

loaded_double_same : (m n : List ℕ) (a : ℕ) (k : Access) → Agree m n (touched k a 8) → loaded k (double_at n a) ≡ loaded k (double_at m a)
loaded_double_same m n a (Ok tt) h = rw (double_same m n a h.0)
loaded_double_same m n a (Err f) h = refl

loaded_same : (w : Width) (m n : List ℕ) (a : ℕ) (k : Access) → Agree m n (touched k a (bytes w)) → loaded k (value_at w n a) ≡ loaded k (value_at w m a)
loaded_same w m n a (Ok tt) h = rw (value_same w m n a h.0)
loaded_same w m n a (Err f) h = refl

agree_split : (m n : List ℕ) (xs ys : List Span) → Agree m n (xs ++ ys) → Agree m n xs × Agree m n ys
agree_split m n [] ys h = (tt, h)
agree_split m n (x ∷ xs) ys h = let r = agree_split m n xs ys h.1 in ((h.0, r.0), r.1)

-- bytes that were set are those that were given
sets_at : (bs m : List ℕ) (a k : ℕ) → a + length bs ≤ length m → k < length bs → get_or (sets m a bs) (a + k) 0 ≡ get_or bs k 0
sets_at bs m a k h l =
    let e : length (take a m) ≡ a = length-take-le a m (omega arith) in
    let d = drop (a + length bs) m in
    rw (sets-eq bs m a h, append_assoc)
    (ap (λ (i : ℕ). get_or (take a m ++ (bs ++ d)) (i + k) 0) (sym e) ∙ get_or-append-add (take a m) (bs ++ d) k 0 ∙ get_or-append bs d 0 k l)

-- bytes that were set alike in two memories are the same
sets_same : (bs m n : List ℕ) (a : ℕ) → length n ≡ length m → a + length bs ≤ length m → (k : ℕ) → k < length bs → get_or (sets n a bs) (a + k) 0 ≡ get_or (sets m a bs) (a + k) 0
sets_same bs m n a l h k b = sets_at bs n a k (rw l h) b ∙ sym (sets_at bs m a k h b)

written_same : (m n : List ℕ) (a : ℕ) (bs : List ℕ) (c : Access) → length n ≡ length m → access_of (length m) a (length bs) ≡ c
    → Agree (written c m a bs) (written c n a bs) (touched c a (length bs))
written_same m n a bs (Ok tt) l e = (sets_same bs m n a l (served_inside (length m) a (length bs) e), tt)
written_same m n a bs (Err f) l e = tt

-- where two memories agree, they still do once the same bytes are set in both
set_keeps : (m n : List ℕ) (a b k : ℕ) → length n ≡ length m → a < length m → get_or n k 0 ≡ get_or m k 0 → get_or (set n a b) k 0 ≡ get_or (set m a b) k 0
set_keeps m n a b k l h e = go (eqb k a) refl
  where
    go : (c : Bool) → eqb k a ≡ c → get_or (set n a b) k 0 ≡ get_or (set m a b) k 0
    go true q = rw (eqb-true k a q) (get_or-set_same n a b 0 (omega arith) ∙ sym (get_or-set_same m a b 0 h))
    go false q = get_or-set_other n a k b 0 (eqb-false k a q) ∙ e ∙ sym (get_or-set_other m a k b 0 (eqb-false k a q))

sets_keeps : (bs m n : List ℕ) (a k : ℕ) → length n ≡ length m → a + length bs ≤ length m → get_or n k 0 ≡ get_or m k 0 → get_or (sets n a bs) k 0 ≡ get_or (sets m a bs) k 0
sets_keeps [] m n a k l h e = e
sets_keeps (b ∷ bs) m n a k l h e =
    let q : length (set n a b) ≡ length (set m a b) = simp length-set l in
    sets_keeps bs (set m a b) (set n a b) (suc a) k q (rw length-set (omega arith)) (set_keeps m n a b k l (omega arith) e)

-- two frames from the memories m and n on, that touch the spans xs: they do the same, and any byte that m and n have in common they leave in common
record Goes (m n : List ℕ) (xs : List Span) (u v : After) : Type 0 where
  same : Alike xs xs u v
  keeps : (k : ℕ) → get_or n k 0 ≡ get_or m k 0 → get_or v.mem k 0 ≡ get_or u.mem k 0

-- nothing is touched any more
goes_end : (t : State) (m n : List ℕ) (past : Bool) → Goes m n [] (record { st = t; mem = m; past = past }) (record { st = t; mem = n; past = past })
goes_end t m n past = record { same = record { st = refl; past = refl; places = refl; written = tt }; keeps = λ k e. e }

-- an access of the span x first: it left the memories i and j, which agree in it
goes_on_lem : (m n i j : List ℕ) (x : Span) (xs : List Span) (u v : After) → Agree i j (x ∷ []) → ((k : ℕ) → get_or n k 0 ≡ get_or m k 0 → get_or j k 0 ≡ get_or i k 0) → Goes i j xs u v → Goes m n (x ∷ xs) u v
goes_on_lem m n i j x xs u v a f r =
    record {
      same = record { st = r.same.st; past = r.same.past; places = refl; written = (λ k b. r.keeps (x.at + k) (a.0 k b), r.same.written) };
      keeps = λ k e. r.keeps k (f k e);
    }

-- an access that is not served ends both frames with one interrupt
goes_same : (p : Profile) (s : State) (m n : List ℕ) (store : Bool) (a : ℕ) (c : Access) (x : Span) (xs : List Span) (u v : After) → (c ≡ Ok tt → Goes m n (x ∷ xs) u v)
    → Goes m n (while_served c x xs) (goes_on p s m store a c u) (goes_on p s n store a c v)
goes_same p s m n store a (Ok tt) x xs u v f = f refl
goes_same p s m n store a (Err Fault.Unaligned) x xs u v f = goes_end _ m n false
goes_same p s m n store a (Err Fault.Outside) x xs u v f = goes_end _ m n true

popped_same : (ra : ℕ) (x : Part) (s : State) (m n : List ℕ) → Agree m n (span_of x ∷ []) → popped ra x n s ≡ popped ra x m s
popped_same ra (pair i a) s m n h = rw (double_same m n a h.0)
popped_same ra (link a) s m n h = rw (value_same Width.Word m n a h.0)
popped_same ra (back a) s m n h = refl

module _ (p : Profile) (ra sp ea : ℕ) where
  pop_same : (m n : List ℕ) → length n ≡ length m → (xs : List Part) (s : State) → Agree m n (served_of (length m) xs)
      → Goes m n (served_of (length m) xs) (framed_of p StackOp.Lsku ra sp ea xs s m) (framed_of p StackOp.Lsku ra sp ea xs s n)
  unfolding framed_of served_of
  pop_same m n l [] s h = goes_end _ m n false
  pop_same m n l (x ∷ xs) s h =
      rw l
      (goes_same p s m n false (address_of x) (access_of (length m) (address_of x) (size_of x)) (span_of x) (served_of (length m) xs) _ _
      (λ e.
      let q : Agree m n (span_of x ∷ served_of (length m) xs) = rw e at h in
      rw (popped_same ra x s m n (q.0, tt)) (goes_on_lem m n m n (span_of x) _ _ _ (q.0, tt) (λ k d. d) (pop_same m n l xs (popped ra x m s) q.1))))

  push_same : (s : State) (xs : List Part) (m n : List ℕ) → length n ≡ length m
      → Goes m n (served_of (length m) xs) (framed_of p StackOp.Stsku ra sp ea xs s m) (framed_of p StackOp.Stsku ra sp ea xs s n)
  unfolding framed_of served_of
  push_same s [] m n l = goes_end _ m n false
  push_same s (x ∷ xs) m n l =
      let a = address_of x in
      let bs = pushed ra x s in
      let w : (b : List ℕ) → length (sets b a bs) ≡ length b = λ b. part_length StackOp.Stsku ra x s b in
      rw l
      (goes_same p s m n true a (access_of (length m) a (size_of x)) (span_of x) (served_of (length m) xs) _ _
      (λ e.
      let h : a + length bs ≤ length m = rw (pushed_length ra x s) (served_inside (length m) a (size_of x) e) in
      let r = push_same s xs (sets m a bs) (sets n a bs) (w n ∙ l ∙ sym (w m)) in
      goes_on_lem m n (sets m a bs) (sets n a bs) (span_of x) _ _ _
      (λ k b. sets_same bs m n a l h k (rw (pushed_length ra x s) b), tt)
      (λ k d. sets_keeps bs m n a k l h d)
      (rw (w m) at r)))

module _ (p : Profile) (m n : List ℕ) (l : length n ≡ length m) where
  load_same : (a : ℕ) (w : Width) → Agree m n (touched_at m a (bytes w)) → load_of n a w ≡ load_of m a w
  unfolding load_of
  load_same a w h = rw l (loaded_same w m n a (access_of (length m) a (bytes w)) h)

  fetch_same : (a : ℕ) → Agree m n (fetched_at m a) → fetch_of n a ≡ fetch_of m a
  unfolding fetch_of
  fetch_same a h = rw l (loaded_same Width.Word m n a (fetch_access_of (length m) a) h)

  load_double_same : (a : ℕ) → Agree m n (touched_at m a 8) → load_double_of n a ≡ load_double_of m a
  unfolding load_double_of
  load_double_same a h = rw l (loaded_double_same m n a (access_of (length m) a 8) h)

  -- an instruction that asks nothing of the memory
  plain_same : (t : State) → Alike [] [] (plain t m) (plain t n)
  plain_same t = record { st = refl; past = refl; places = refl; written = tt }

  -- a frame whose (RA) is not aligned touches nothing
  picked_same : (b : Bool) (t : State) (xs : List Span) (u v : After) → (b ≡ true → Alike xs xs u v) → Alike (pick b xs []) (pick b xs []) (pick b u (plain t m)) (pick b v (plain t n))
  picked_same true t xs u v f = f refl
  picked_same false t xs u v f = plain_same t

  module _ (s : State) where
    load_at_same : (w : Width) (rt ea : ℕ) (u : Bool) (ra : ℕ) → Agree m n (touched_at m ea (bytes w)) → Alike [] [] (load_at p s m w rt ea u ra) (load_at p s n w rt ea u ra)
    unfolding load_at
    load_at_same w rt ea u ra h = record { st = rw (load_same ea w h); past = rw l; places = refl; written = tt }

    store_at_same : (w : Width) (rs ea : ℕ) (u : Bool) (ra : ℕ) → Alike (touched_at m ea (bytes w)) (touched_at n ea (bytes w)) (store_at p s m w rs ea u ra) (store_at p s n w rs ea u ra)
    unfolding store_at stored_of
    store_at_same w rs ea u ra =
        let bs = bytes_of w (gpr_of s rs) in
        let e : length bs ≡ bytes w = bytes_length w (gpr_of s rs) in
        let b : Agree (written (access_of (length m) ea (bytes w)) m ea bs) (written (access_of (length m) ea (bytes w)) n ea bs) (touched_at m ea (bytes w)) = rw e at (written_same m n ea bs (access_of (length m) ea (length bs)) l refl) in
        record { st = rw l; past = rw l; places = rw l; written = rw l b }

    load_double_at_same : (dt ea : ℕ) (u : Bool) (ra : ℕ) → Agree m n (touched_at m ea 8) → Alike [] [] (load_double_at p s m dt ea u ra) (load_double_at p s n dt ea u ra)
    unfolding load_double_at
    load_double_at_same dt ea u ra h = record { st = rw (load_double_same ea h); past = rw l; places = refl; written = tt }

    store_double_at_same : (ds ea : ℕ) (u : Bool) (ra : ℕ) → Alike (touched_at m ea 8) (touched_at n ea 8) (store_double_at p s m ds ea u ra) (store_double_at p s n ds ea u ra)
    unfolding store_double_at stored_double_of
    store_double_at_same ds ea u ra =
        let bs = double_bytes (vdr_of s ds) in
        let e : length bs ≡ 8 = double_length (vdr_of s ds) in
        let b : Agree (written (access_of (length m) ea 8) m ea bs) (written (access_of (length m) ea 8) n ea bs) (touched_at m ea 8) = rw e at (written_same m n ea bs (access_of (length m) ea (length bs)) l refl) in
        record { st = rw l; past = rw l; places = rw l; written = rw l b }

    clear_at_same : (ea : ℕ) → Alike (touched_at m (block_at ea) 32) (touched_at n (block_at ea) 32) (clear_at p s m ea) (clear_at p s n ea)
    unfolding clear_at cleared_of
    clear_at_same ea =
        let b = written_same m n (block_at ea) (replicate 32 0) (access_of (length m) (block_at ea) 32) l refl in
        record { st = rw l; past = rw l; places = rw l; written = rw l b }

    load_store_same : (i : LoadStore) → Agree m n (read_by m (Some (load_store_use s i))) → Alike (written_by m (Some (load_store_use s i))) (written_by n (Some (load_store_use s i))) (load_store_of p s m i) (load_store_of p s n i)
    unfolding load_store_of
    load_store_same (LoadStore.Load w u rt ra d) h = load_at_same w rt (offset_ea s ra d) u ra h
    load_store_same (LoadStore.LoadIndexed w rt ra rb) h = load_at_same w rt (indexed_ea s ra rb) false ra h
    load_store_same (LoadStore.Store w u rs ra d) h = store_at_same w rs (offset_ea s ra d) u ra
    load_store_same (LoadStore.StoreIndexed w rs ra rb) h = store_at_same w rs (indexed_ea s ra rb) false ra
    load_store_same (LoadStore.LoadDouble u dt ra d) h = load_double_at_same dt (offset_ea s ra d) u ra h
    load_store_same (LoadStore.StoreDouble u ds ra d) h = store_double_at_same ds (offset_ea s ra d) u ra

    stack_same : (op : StackOp) (ra dd : ℕ) → Agree m n (read_by m (Some (stack_use s op ra dd)))
        → Alike (written_by m (Some (stack_use s op ra dd))) (written_by n (Some (stack_use s op ra dd))) (stack_of p s m op ra dd) (stack_of p s n op ra dd)
    unfolding stack_of
    stack_same StackOp.Lsku ra dd h =
        let r = picked_same (aligned_of (gpr_of s ra) 8) _ _ _ _ (λ e. (pop_same p ra (gpr_of s ra) (frame_ea s ra dd) m n l _ s (rw e at h)).same) in
        record { st = r.st; past = r.past; places = refl; written = tt }
    stack_same StackOp.Stsku ra dd h =
        rw l (picked_same (aligned_of (gpr_of s ra) 8) _ _ _ _ (λ e. (push_same p ra (gpr_of s ra) (frame_ea s ra dd) s _ m n l).same))

    cache_same : (op : CacheOp) (ra rb : ℕ) → Alike (written_by m (cache_use s op ra rb)) (written_by n (cache_use s op ra rb)) (cache_of p s m op ra rb) (cache_of p s n op ra rb)
    unfolding cache_of
    cache_same CacheOp.Dcbf ra rb = plain_same _
    cache_same CacheOp.Dcbi ra rb = plain_same _
    cache_same CacheOp.Dcbt ra rb = plain_same _
    cache_same CacheOp.Dcbz ra rb = clear_at_same (indexed_ea s ra rb)

    execute_same : (w : ℕ) (i : Instr) → Agree m n (read_by m (execute_use s i)) → Alike (written_by m (execute_use s i)) (written_by n (execute_use s i)) (execute_of p s m w i) (execute_of p s n w i)
    unfolding execute_of
    execute_same w (Instr.Arithmetic i) h = plain_same _
    execute_same w (Instr.Logical i) h = plain_same _
    execute_same w (Instr.Compare i) h = plain_same _
    execute_same w (Instr.Rotate i) h = plain_same _
    execute_same w (Instr.LoadStore i) h = load_store_same i h
    execute_same w (Instr.Stack dd op rt ra) h = stack_same op ra dd h
    execute_same w (Instr.Branch i) h = plain_same _
    execute_same w (Instr.Trap to ra rb tg) h = plain_same _
    execute_same w (Instr.System i) h = plain_same _
    execute_same w (Instr.Cache op hint ra rb) h = cache_same op ra rb

    decoded_same : (w : ℕ) (d : Option Instr) → Agree m n (read_by m (decoded_use s d)) → Alike (written_by m (decoded_use s d)) (written_by n (decoded_use s d)) (decoded_of p s m w d) (decoded_of p s n w d)
    decoded_same w (Some i) h = execute_same w i h
    decoded_same w None h = plain_same _

    fetched_same : (f : Loaded) → Agree m n (read_by m (fetched_use p s f)) → Alike (written_by m (fetched_use p s f)) (written_by n (fetched_use p s f)) (fetched_of p s m f) (fetched_of p s n f)
    fetched_same (Ok w) h = decoded_same w (decode_on p w) h
    fetched_same (Err Fault.Unaligned) h = plain_same _
    fetched_same (Err Fault.Outside) h = record { st = refl; past = refl; places = refl; written = tt }

    running_same : Agree m n (running_reads p s m) → Alike (running_writes p s m) (running_writes p s n) (running_of p s m) (running_of p s n)
    unfolding running_reads running_writes running_of
    running_same h =
        let both = agree_split m n (fetched_at m s.iar) (read_by m (fetched_use p s (fetch_of m s.iar))) h in
        rw (fetch_same s.iar both.0) (fetched_same (fetch_of m s.iar) both.1)

same_cases : (p : Profile) (m n : List ℕ) → length n ≡ length m → (s : State) (e : ℕ) (b : Bool) → executes s e ≡ b
    → Agree m n (pick b (running_reads p (ticked_of s e) m) [])
    → Alike (pick b (running_writes p (ticked_of s e) m) []) (pick b (running_writes p (ticked_of s e) n) []) (step_of p s m e) (step_of p s n e)
same_cases p m n l s e true r h = rw (step_runs p s e r m, step_runs p s e r n) (running_same p m n l (ticked_of s e) h)
same_cases p m n l s e false r h =
    let q = step_rests p s e r m n in
    record { st = q.1.0; past = q.1.1; places = refl; written = tt }

-- another memory of that length with the same bytes there: the same state, and the same bytes written at the same places
pub reads_only : (p : Profile) (s : State) (m n : List ℕ) (e : ℕ) → length n ≡ length m → Agree m n (reads_of p s m e)
    → Alike (writes_of p s m e) (writes_of p s n e) (step_of p s m e) (step_of p s n e)
unfolding reads_of writes_of
reads_only p s m n e l h = same_cases p m n l s e (executes s e) refl h
