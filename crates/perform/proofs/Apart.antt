-- A store, a clear or a frame leaves what is fetched at a word that it has nothing in common with. Assumes nothing.
use Prim.Native.Nat.{ℕ, suc, ◌+◌, ◌%◌, ◌≤◌, ◌<◌}
use native.Mathlib.Omega.{arith}
use mathlib.Core.Bool.{Bool, true, false}
use mathlib.Core.Logic.{inl, inr}
use mathlib.Core.Path.{◌≡◌, refl, sym, ap, ◌∙◌}
use mathlib.Core.List.{List, [], ◌∷◌}
use lib.ListN.{get_or, length, set, replicate}
use lib.Seq.{sets, get_or-set_other, length-sets}
use borrow.Author.Tests.{eqb-true}
use Rattle.word.specs.Width.{bytes}
use Rattle.word.specs.declared.width.Width.{Width}
use Rattle.memory.specs.Access.{Access, judged, pick, aligned_of, placed_of, access_of, fetch_access_of}
use Rattle.memory.specs.Load.{value_at, loaded, fetch_of}
use Rattle.memory.specs.Store.{bytes_of, double_bytes, written, stored_of, stored_double_of, block_at, cleared_of}
use Rattle.memory.specs.declared.access.Fault.{Fault}
use Rattle.std.specs.Prelude.{Ok, Err}
use Rattle.memory.proofs.Board.{double_by_eight}
use Rattle.memory.proofs.Laws.{bytes_le}
use Rattle.memory.proofs.Grow.{bytes_length, double_length}
use Rattle.insn.specs.declared.instr.StackOp.{StackOp}
use Rattle.insn.specs.declared.profile.Profile.{Profile}
use Rattle.machine.specs.State.{gpr_of}
use Rattle.machine.specs.After.{After, plain}
use Rattle.machine.specs.Stack.{Part, address_of, size_of, parts_of, pushed, memory_after, goes_on, framed_of, frame_ea, doublewords, stack_of}
use Rattle.machine.specs.declared.state.State.{State}
use Rattle.machine.proofs.Frames.{pop_memory, pushed_length}
use Rattle.entries.specs.Tags.{Apart}

-- a byte before those that are set, and one after them
sets_before : (vs m : List ℕ) (a i : ℕ) → i < a → get_or (sets m a vs) i 0 ≡ get_or m i 0
sets_before [] m a i h = refl
sets_before (v ∷ vs) m a i h = sets_before vs (set m a v) (suc a) i (omega arith) ∙ get_or-set_other m a i v 0 (λ e. omega arith)

sets_after : (vs m : List ℕ) (a i : ℕ) → a + length vs ≤ i → get_or (sets m a vs) i 0 ≡ get_or m i 0
sets_after [] m a i h = refl
sets_after (v ∷ vs) m a i h = sets_after vs (set m a v) (suc a) i (omega arith) ∙ get_or-set_other m a i v 0 (λ e. omega arith)

value_apart : (vs m : List ℕ) (a t : ℕ) → Apart t a (length vs) → value_at Width.Word (sets m a vs) t ≡ value_at Width.Word m t
unfolding value_at
value_apart vs m a t (inl h) =
    rw (sets_before vs m a t (omega arith), sets_before vs m a (t + 1) (omega arith), sets_before vs m a (t + 2) (omega arith), sets_before vs m a (t + 3) (omega arith))
value_apart vs m a t (inr h) =
    rw (sets_after vs m a t (omega arith), sets_after vs m a (t + 1) (omega arith), sets_after vs m a (t + 2) (omega arith), sets_after vs m a (t + 3) (omega arith))

-- where t is no word's address, what is fetched does not depend on memory
word_cases : (t x y : ℕ) (k : Access) (p : Bool) → aligned_of t 4 ≡ p → (t % 4 ≡ 0 → x ≡ y) → loaded (pick p k (Err Fault.Unaligned)) x ≡ loaded (pick p k (Err Fault.Unaligned)) y
word_cases t x y k true e h = ap (loaded k) (h (eqb-true (t % 4) 0 e))
word_cases t x y k false e h = refl

pub fetch_sets : (m vs : List ℕ) (a t : ℕ) → (t % 4 ≡ 0 → Apart t a (length vs)) → fetch_of (sets m a vs) t ≡ fetch_of m t
unfolding fetch_of fetch_access_of
fetch_sets m vs a t h =
    rw (length-sets m a vs)
    (word_cases t (value_at Width.Word (sets m a vs) t) (value_at Width.Word m t) (access_of (length m) t 4) (aligned_of t 4) refl (λ z. value_apart vs m a t (h z)))

fetch_written : (k : Access) (m bs : List ℕ) (a t : ℕ) → (k ≡ Ok tt → t % 4 ≡ 0 → Apart t a (length bs)) → fetch_of (written k m a bs) t ≡ fetch_of m t
fetch_written (Ok tt) m bs a t h = fetch_sets m bs a t (h refl)
fetch_written (Err f) m bs a t h = refl

-- what is served is well placed
placed_cases : (m k : ℕ) (p : Bool) → judged p k m ≡ Ok tt → p ≡ true
placed_cases m k true h = refl
placed_cases m k false h = absurd cc

served_placed : (m a n : ℕ) → access_of m a n ≡ Ok tt → placed_of a n ≡ true
unfolding access_of
served_placed m a n h = placed_cases m (a + n) (placed_of a n) h

-- a store or clear leaves what is fetched at a word that it has nothing in common with; where it is not served, at every word
pub fetch_stored : (m : List ℕ) (a t : ℕ) (w : Width) (v : ℕ) → (t % 4 ≡ 0 → Apart t a (bytes w)) → fetch_of (stored_of m a w v) t ≡ fetch_of m t
unfolding stored_of
fetch_stored m a t w v h = fetch_written (access_of (length m) a (bytes w)) m (bytes_of w v) a t (λ e z. rw (bytes_length w v) (h z))

pub fetch_stored_double : (m : List ℕ) (a t v : ℕ) → (placed_of a 8 ≡ true → t % 4 ≡ 0 → Apart t a 8) → fetch_of (stored_double_of m a v) t ≡ fetch_of m t
unfolding stored_double_of
fetch_stored_double m a t v h =
    fetch_written (access_of (length m) a 8) m (double_bytes v) a t (λ e z. rw (double_length v) (h (served_placed (length m) a 8 e) z))

pub fetch_cleared : (m : List ℕ) (a t : ℕ) → (t % 4 ≡ 0 → Apart t (block_at a) 32) → fetch_of (cleared_of m a) t ≡ fetch_of m t
unfolding cleared_of
fetch_cleared m a t h = fetch_written (access_of (length m) (block_at a) 32) m (replicate 32 0) (block_at a) t (λ e z. h z)

-- what the board serves lies in two words at most
pub width_fits : (a : ℕ) (w : Width) → a % 4 + bytes w ≤ 8
width_fits a w = omega (arith, bytes_le w)

pub double_fits : (a : ℕ) → placed_of a 8 ≡ true → a % 4 + 8 ≤ 8
double_fits a h = omega (arith, eqb-true (a % 8) 0 (sym (double_by_eight a) ∙ h))

-- the frames of stsku: each access that it may do, apart from the word
abbrev pub PartsApart : ℕ → List Part → Type 0
PartsApart t [] = Unit {0}
PartsApart t (x ∷ xs) = (placed_of (address_of x) (size_of x) ≡ true → t % 4 ≡ 0 → Apart t (address_of x) (size_of x)) × PartsApart t xs

-- an access that is not served ends the frame with the memory as it was
push_cases : (p : Profile) (s : State) (m : List ℕ) (a t : ℕ) (k : Access) (rest : After) → (k ≡ Ok tt → fetch_of rest.mem t ≡ fetch_of m t)
    → fetch_of (goes_on p s m true a k rest).mem t ≡ fetch_of m t
push_cases p s m a t (Ok tt) rest h = h refl
push_cases p s m a t (Err f) rest h = refl

pub fetch_framed : (p : Profile) (ra sp ea : ℕ) (xs : List Part) (s : State) (m : List ℕ) (t : ℕ) → PartsApart t xs → fetch_of (framed_of p StackOp.Stsku ra sp ea xs s m).mem t ≡ fetch_of m t
unfolding framed_of
fetch_framed p ra sp ea [] s m t h = refl
fetch_framed p ra sp ea (x ∷ xs) s m t h =
    push_cases p s m (address_of x) t (access_of (length m) (address_of x) (size_of x)) _
    (λ e. fetch_framed p ra sp ea xs s (memory_after StackOp.Stsku ra x s m) t h.1
    ∙ fetch_sets m (pushed ra x s) (address_of x) t (λ z. rw (pushed_length ra x s) (h.0 (served_placed (length m) (address_of x) (size_of x) e) z)))

-- a frame that is not aligned writes nothing
stack_cases : (m : List ℕ) (t : ℕ) (b : Bool) (x : After) (s : State) → fetch_of x.mem t ≡ fetch_of m t → fetch_of (pick b x (plain s m)).mem t ≡ fetch_of m t
stack_cases m t true x s h = h
stack_cases m t false x s h = refl

pub fetch_stack : (p : Profile) (s : State) (m : List ℕ) (op : StackOp) (ra dd t : ℕ) → PartsApart t (parts_of StackOp.Stsku (gpr_of s ra) (frame_ea s ra dd) (doublewords StackOp.Stsku dd))
    → fetch_of (stack_of p s m op ra dd).mem t ≡ fetch_of m t
unfolding stack_of
fetch_stack p s m StackOp.Lsku ra dd t h = stack_cases m t (aligned_of (gpr_of s ra) 8) _ _ (rw pop_memory)
fetch_stack p s m StackOp.Stsku ra dd t h = stack_cases m t (aligned_of (gpr_of s ra) 8) _ _ (fetch_framed p ra (gpr_of s ra) (frame_ea s ra dd) _ s m t h)
