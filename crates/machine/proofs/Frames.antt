-- The laws of stack frames that code cites: an access that is served goes on, and one that is not ends in its interrupt. Assumes nothing.
use Prim.Native.Nat.{ℕ, ◌+◌, ◌-◌, ◌/◌, ◌%◌, ◌^◌}
use mathlib.Core.Bool.{Bool, true, false}
use mathlib.Core.Path.{◌≡◌, refl, ap, ◌∙◌}
use mathlib.Core.List.{List, [], ◌∷◌}
use lib.Dec.{ltb}
use Rattle.std.specs.Prelude.{Result, Ok, Err}
use Rattle.std.specs.Result.{result_and}
use lib.ListN.{length}
use lib.Seq.{sets, length-sets}
use Rattle.word.specs.declared.width.Width.{Width}
use Rattle.memory.specs.Access.{Access, pick, aligned_of, access_of}
use Rattle.memory.specs.Load.{loaded, load_of, load_double_of, value_at, double_at}
use Rattle.memory.specs.Store.{bytes_of, double_bytes, written, stored_of, stored_double_of}
use Rattle.memory.specs.declared.access.Fault.{Fault}
use Rattle.memory.proofs.Grow.{bytes_length, double_length}
use Rattle.insn.specs.Valid.{paired_with}
use Rattle.insn.specs.declared.instr.StackOp.{StackOp}
use Rattle.insn.specs.declared.profile.Profile.{Profile}
use Rattle.machine.specs.State.{gpr_of, vdr_of, with, with_gpr}
use Rattle.machine.specs.Interrupt.{cause_of, interrupted_of}
use Rattle.machine.specs.Result.{next_of}
use Rattle.machine.specs.After.{After, plain}
use Rattle.machine.specs.Stack.{Part, pair, link, back, address_of, size_of, read_gpr, popped, pushed, state_after, memory_after, stores_of, goes_on, framed_of, pairs, parts_of, frame_ea, doublewords, stack_of, served_at, parts_served, frame_past, frame_served, loads_on, then, parts_popped, stores_on, parts_pushed}
use Rattle.machine.specs.declared.state.State.{State}
use Rattle.machine.specs.declared.state.Reg.{Reg}
use Rattle.machine.specs.declared.interrupt.Cause.{Cause}
use Rattle.machine.specs.declared.stack.Missed.{Missed}

-- one access more: it is served and goes on, or ends in its interrupt
module _ (p : Profile) (op : StackOp) (ra sp ea : ℕ) (x : Part) (xs : List Part) (s : State) (m : List ℕ) where
  pub served : access_of (length m) (address_of x) (size_of x) ≡ Ok tt
      → framed_of p op ra sp ea (x ∷ xs) s m ≡ framed_of p op ra sp ea xs (state_after op ra x s m) (memory_after op ra x s m)
  unfolding framed_of
  served e = rw (e)

  pub unaligned : access_of (length m) (address_of x) (size_of x) ≡ Err Fault.Unaligned
      → framed_of p op ra sp ea (x ∷ xs) s m ≡ plain (interrupted_of p s (Cause.Alignment (address_of x) (stores_of op))) m
  unfolding framed_of
  unaligned e = rw (e)

  pub outside : access_of (length m) (address_of x) (size_of x) ≡ Err Fault.Outside
      → framed_of p op ra sp ea (x ∷ xs) s m ≡ record { st = interrupted_of p s (Cause.DataStorage (address_of x) (stores_of op)); mem = m; past = true }
  unfolding framed_of
  outside e = rw (e)

-- an access leaves the memory as long as it was
pub part_length : (op : StackOp) (ra : ℕ) (x : Part) (s : State) (m : List ℕ) → length (memory_after op ra x s m) ≡ length m
part_length StackOp.Lsku ra x s m = refl
part_length StackOp.Stsku ra x s m = length-sets m (address_of x) (pushed ra x s)

-- lsku: its accesses in a row, then EDR and RA
abbrev pub popped_end : ℕ → ℕ → Result State State → State
popped_end ra ea (Ok t) = next_of (with_gpr (with t Reg.Edr ea) ra ea)
popped_end ra ea (Err t) = t

pop_on : (p : Profile) (ra ea : ℕ) (s : State) (m : List ℕ) (a : ℕ) (put : ℕ → State) (v : ℕ) (k : Access) (rest : After) (f : State → Result State State)
    → rest.st ≡ popped_end ra ea (f (put v)) → (goes_on p s m false a k rest).st ≡ popped_end ra ea (then (loads_on p s a put (loaded k v)) f)
pop_on p ra ea s m a put v (Ok u) rest f e = e
pop_on p ra ea s m a put v (Err q) rest f e = refl

pub popped_frame : (p : Profile) (ra sp ea : ℕ) (xs : List Part) (s : State) (m : List ℕ)
    → (framed_of p StackOp.Lsku ra sp ea xs s m).st ≡ popped_end ra ea (parts_popped p ra xs m s)
unfolding framed_of parts_popped load_of load_double_of
popped_frame p ra sp ea [] s m = refl
popped_frame p ra sp ea (pair n a ∷ xs) s m =
    pop_on p ra ea s m a (λ (v : ℕ). read_gpr (read_gpr s ra n (v / 2 ^ 32)) ra (paired_with n) (v % 2 ^ 32)) (double_at m a) (access_of (length m) a 8) _ _
    (popped_frame p ra sp ea xs (popped ra (pair n a) m s) m)
popped_frame p ra sp ea (link a ∷ xs) s m =
    pop_on p ra ea s m a (λ (v : ℕ). with s Reg.Lr v) (value_at Width.Word m a) (access_of (length m) a 4) _ _ (popped_frame p ra sp ea xs (popped ra (link a) m s) m)
popped_frame p ra sp ea (back a ∷ xs) s m =
    pop_on p ra ea s m a (λ (v : ℕ). s) (value_at Width.Word m a) (access_of (length m) a 4) _ _ (popped_frame p ra sp ea xs s m)

-- stsku: whether its accesses are served, then EDR and RA
abbrev pub pushed_end : Profile → ℕ → ℕ → ℕ → State → Result Unit Missed → State
pushed_end p ra sp ea s (Ok u) = next_of (with_gpr (with s Reg.Edr sp) ra ea)
pushed_end p ra sp ea s (Err q) = interrupted_of p s (cause_of q.fault q.address true)

push_on : (p : Profile) (ra sp ea : ℕ) (s : State) (m : List ℕ) (a : ℕ) (k : Access) (rest : After) (q : Result Unit Missed)
    → rest.st ≡ pushed_end p ra sp ea s q → (goes_on p s m true a k rest).st ≡ pushed_end p ra sp ea s (result_and (served_at k a) q)
push_on p ra sp ea s m a (Ok u) rest q e = e
push_on p ra sp ea s m a (Err f) rest q e = refl

pub pushed_frame : (p : Profile) (ra sp ea : ℕ) (xs : List Part) (s : State) (m : List ℕ)
    → (framed_of p StackOp.Stsku ra sp ea xs s m).st ≡ pushed_end p ra sp ea s (parts_served (length m) xs)
unfolding framed_of parts_served
pushed_frame p ra sp ea [] s m = refl
pushed_frame p ra sp ea (x ∷ xs) s m =
    push_on p ra sp ea s m (address_of x) (access_of (length m) (address_of x) (size_of x)) _ _
    (pushed_frame p ra sp ea xs s (memory_after StackOp.Stsku ra x s m)
    ∙ ap (λ (n : ℕ). pushed_end p ra sp ea s (parts_served n xs)) (part_length StackOp.Stsku ra x s m))

-- and what they leave in memory
put_on : (p : Profile) (ra : ℕ) (xs : List Part) (s : State) (m : List ℕ) (a : ℕ) (bs : List ℕ) (k : Access) (rest : After)
    → rest.mem ≡ parts_pushed ra xs s (sets m a bs) → (goes_on p s m true a k rest).mem ≡ stores_on (served_at k a) (written k m a bs) (parts_pushed ra xs s (written k m a bs))
put_on p ra xs s m a bs (Ok u) rest e = e
put_on p ra xs s m a bs (Err f) rest e = refl

pub pushed_memory : (p : Profile) (ra sp ea : ℕ) (xs : List Part) (s : State) (m : List ℕ)
    → (framed_of p StackOp.Stsku ra sp ea xs s m).mem ≡ parts_pushed ra xs s m
unfolding framed_of parts_pushed stored_of stored_double_of
pushed_memory p ra sp ea [] s m = refl
pushed_memory p ra sp ea (pair n a ∷ xs) s m = put_on p ra xs s m a (double_bytes (vdr_of s n)) (access_of (length m) a 8) _ (pushed_memory p ra sp ea xs s _)
pushed_memory p ra sp ea (link a ∷ xs) s m = put_on p ra xs s m a (bytes_of Width.Word s.lr) (access_of (length m) a 4) _ (pushed_memory p ra sp ea xs s _)
pushed_memory p ra sp ea (back a ∷ xs) s m = put_on p ra xs s m a (bytes_of Width.Word (gpr_of s ra)) (access_of (length m) a 4) _ (pushed_memory p ra sp ea xs s _)

-- lsku writes no memory
pop_cases : (p : Profile) (s : State) (m : List ℕ) (a : ℕ) (k : Access) (rest : After) → rest.mem ≡ m → (goes_on p s m false a k rest).mem ≡ m
pop_cases p s m a (Ok u) rest e = e
pop_cases p s m a (Err f) rest e = refl

pub pop_memory : (p : Profile) (ra sp ea : ℕ) (xs : List Part) (s : State) (m : List ℕ) → (framed_of p StackOp.Lsku ra sp ea xs s m).mem ≡ m
unfolding framed_of
pop_memory p ra sp ea [] s m = refl
pop_memory p ra sp ea (x ∷ xs) s m = pop_cases p s m (address_of x) (access_of (length m) (address_of x) (size_of x)) _ (pop_memory p ra sp ea xs (popped ra x m s) m)

-- pairs, and what follows them
pub pairs_first : (len top n : ℕ) (xs : List Part) → parts_served len (pairs top n xs) ≡ result_and (parts_served len (pairs top n [])) (parts_served len xs)
unfolding parts_served
pairs_first len top n xs = go (ltb 0 n) (ltb 1 n)
  where
    one : Part
    one = pair 30 ((top + (2 ^ 32 - 8)) % 2 ^ 32)

    two : Part
    two = pair 28 ((top + (2 ^ 32 - 16)) % 2 ^ 32)

    at : Part → Result Unit Missed
    at x = served_at (access_of len (address_of x) 8) (address_of x)

    in_turn : (a b c : Result Unit Missed) → result_and a (result_and b c) ≡ result_and (result_and a b) c
    in_turn (Ok u) b c = refl
    in_turn (Err q) b c = refl

    last : (a c : Result Unit Missed) → result_and a c ≡ result_and (result_and a (Ok (tt {0}))) c
    last (Ok u) c = refl
    last (Err q) c = refl

    go : (b c : Bool) → parts_served len (pick b (one ∷ pick c (two ∷ xs) xs) xs) ≡ result_and (parts_served len (pick b (one ∷ pick c (two ∷ []) []) [])) (parts_served len xs)
    go true true = ap (λ (r : Result Unit Missed). result_and (at one) r) (last (at two) (parts_served len xs)) ∙ in_turn (at one) (result_and (at two) (Ok (tt {0}))) (parts_served len xs)
    go true false = last (at one) (parts_served len xs)
    go false c = refl

-- the same with the rest that is asked once the pairs are served: the first of all that is not
abbrev pub pairs_missed : ℕ → ℕ → ℕ → Result Unit Missed → Result Unit Missed
pairs_missed len top n rest =
    let first = (top + (2 ^ 32 - 8)) % 2 ^ 32 in
    let second = (top + (2 ^ 32 - 16)) % 2 ^ 32 in
    pick (ltb 0 n) (result_and (served_at (access_of len first 8) first) (pick (ltb 1 n) (result_and (served_at (access_of len second 8) second) rest) rest)) rest

pub pairs_missed_lem : (len top n : ℕ) (xs : List Part) → parts_served len (pairs top n xs) ≡ pairs_missed len top n (parts_served len xs)
unfolding parts_served
pairs_missed_lem len top n xs = go (ltb 0 n) (ltb 1 n)
  where
    first : Part
    first = pair 30 ((top + (2 ^ 32 - 8)) % 2 ^ 32)

    second : Part
    second = pair 28 ((top + (2 ^ 32 - 16)) % 2 ^ 32)

    at : Part → Result Unit Missed → Result Unit Missed
    at x rest = result_and (served_at (access_of len (address_of x) 8) (address_of x)) rest

    go : (b c : Bool) → parts_served len (pick b (first ∷ pick c (second ∷ xs) xs) xs) ≡ pick b (at first (pick c (at second (parts_served len xs)) (parts_served len xs))) (parts_served len xs)
    go true true = refl
    go true false = refl
    go false c = refl

-- a frame reaches past its memory where its first access that is not served fell outside
past_cases : (p : Profile) (s : State) (m : List ℕ) (store : Bool) (a : ℕ) (k : Access) (rest : After) (q : Result Unit Missed) → rest.past ≡ frame_past q → (goes_on p s m store a k rest).past ≡ frame_past (result_and (served_at k a) q)
past_cases p s m store a (Ok u) rest q e = e
past_cases p s m store a (Err f) rest q e = refl

framed_past : (p : Profile) (op : StackOp) (ra sp ea : ℕ) (xs : List Part) (s : State) (m : List ℕ) → (framed_of p op ra sp ea xs s m).past ≡ frame_past (parts_served (length m) xs)
unfolding framed_of parts_served
framed_past p op ra sp ea [] s m = refl
framed_past p op ra sp ea (x ∷ xs) s m =
    past_cases p s m (stores_of op) (address_of x) (access_of (length m) (address_of x) (size_of x)) _ _
    (framed_past p op ra sp ea xs (state_after op ra x s m) (memory_after op ra x s m) ∙ ap (λ (n : ℕ). frame_past (parts_served n xs)) (part_length op ra x s m))

pub stack_past : (p : Profile) (s : State) (m : List ℕ) (op : StackOp) (ra dd : ℕ) → (stack_of p s m op ra dd).past ≡ frame_past (frame_served (length m) op (gpr_of s ra) (frame_ea s ra dd) (doublewords op dd))
unfolding stack_of frame_served
stack_past p s m op ra dd = go (aligned_of (gpr_of s ra) 8)
  where
    parts : List Part
    parts = parts_of op (gpr_of s ra) (frame_ea s ra dd) (doublewords op dd)

    go : (b : Bool) → (pick b (framed_of p op ra (gpr_of s ra) (frame_ea s ra dd) parts s m) (plain (interrupted_of p s (Cause.Alignment (gpr_of s ra) (stores_of op))) m)).past ≡ frame_past (pick b (parts_served (length m) parts) (Err (record { fault = Fault.Unaligned; address = gpr_of s ra })))
    go true = framed_past p op ra (gpr_of s ra) (frame_ea s ra dd) parts s m
    go false = refl

-- what stsku stores at an access is as long as the access
pub pushed_length : (ra : ℕ) (x : Part) (s : State) → length (pushed ra x s) ≡ size_of x
pushed_length ra (pair n a) s = double_length (vdr_of s n)
pushed_length ra (link a) s = bytes_length Width.Word s.lr
pushed_length ra (back a) s = bytes_length Width.Word (gpr_of s ra)
