-- More memory does not change what was served, and a store leaves the extra bytes alone: one law for each door. Assumes nothing.
use Prim.Native.Nat.{ℕ, suc, ◌+◌, ◌≤◌}
use native.Mathlib.Omega.{arith}
use mathlib.Core.Bool.{Bool, true, false}
use mathlib.Core.Path.{◌≡◌, refl, ap}
use mathlib.Core.List.{List, [], ◌∷◌, ◌++◌}
use lib.ListN.{length, set, replicate, length-append, get_or-append, length-set}
use lib.Seq.{set-append_left, sets, length-sets}
use lib.Dec.{leb}
use borrow.Author.Tests.{le-leb, leb-true}
use Rattle.word.specs.declared.width.Width.{Width}
use Rattle.std.specs.Prelude.{Ok, Err}
use Rattle.word.specs.Width.{bytes}
use Rattle.memory.specs.Access.{Access, judged, aligned_of, placed_of, access_of, fetch_access_of, reaches_past}
use Rattle.memory.specs.Load.{value_at, double_at, loaded, load_of, load_double_of, fetch_of}
use Rattle.memory.specs.Store.{bytes_of, double_bytes, written, stored_of, stored_double_of, block_at, cleared_of}
use Rattle.word.proofs.Truth.{never}
use Rattle.memory.proofs.Board.{fetch_by_four}
use Rattle.memory.proofs.Laws.{served_inside, fetched_inside}

leb_grow : (k : ℕ) (m x : List ℕ) → leb k (length m) ≡ true → leb k (length (m ++ x)) ≡ true
leb_grow k m x t = le-leb k (length (m ++ x)) (omega (arith, leb-true k (length m) t, length-append m x))

access_cases : (m x : List ℕ) (k : ℕ) (p q : Bool) → leb k (length m) ≡ q
    → reaches_past (judged p k (length m)) ≡ false
    → judged p k (length (m ++ x)) ≡ judged p k (length m)
access_cases m x k true true e h = rw (leb_grow k m x e, e)
access_cases m x k true false e h = never (rw e at h)
access_cases m x k false q e h = refl

-- what did not reach past the memory is judged as before
pub access_grow : (m x : List ℕ) (a n : ℕ) → reaches_past (access_of (length m) a n) ≡ false → access_of (length (m ++ x)) a n ≡ access_of (length m) a n
unfolding access_of
access_grow m x a n h = access_cases m x (a + n) (placed_of a n) (leb (a + n) (length m)) refl h

fetch_access_grow : (m x : List ℕ) (a : ℕ) → reaches_past (fetch_access_of (length m) a) ≡ false → fetch_access_of (length (m ++ x)) a ≡ fetch_access_of (length m) a
fetch_access_grow m x a h =
    rw (fetch_by_four (length (m ++ x)) a, fetch_by_four (length m) a)
    (access_cases m x (a + 4) (aligned_of a 4) (leb (a + 4) (length m)) refl (rw (← fetch_by_four (length m) a) h))

value_grow : (w : Width) (m x : List ℕ) (a : ℕ) → a + bytes w ≤ length m → value_at w (m ++ x) a ≡ value_at w m a
unfolding value_at
value_grow Width.Byte m x a h = rw (get_or-append m x 0 a (omega arith))
value_grow Width.Half m x a h = rw (get_or-append m x 0 a (omega arith), get_or-append m x 0 (a + 1) (omega arith))
value_grow Width.Word m x a h =
    rw (get_or-append m x 0 a (omega arith), get_or-append m x 0 (a + 1) (omega arith), get_or-append m x 0 (a + 2) (omega arith), get_or-append m x 0 (a + 3) (omega arith))

loaded_grow : (w : Width) (m x : List ℕ) (a : ℕ) (k : Access) → (k ≡ Ok tt → a + bytes w ≤ length m) → loaded k (value_at w (m ++ x) a) ≡ loaded k (value_at w m a)
loaded_grow w m x a (Ok tt) e = rw (value_grow w m x a (e refl))
loaded_grow w m x a (Err f) e = refl

pub load_grow : (m x : List ℕ) (a : ℕ) (w : Width) → reaches_past (access_of (length m) a (bytes w)) ≡ false → load_of (m ++ x) a w ≡ load_of m a w
unfolding load_of
load_grow m x a w h = rw (access_grow m x a (bytes w) h) (loaded_grow w m x a (access_of (length m) a (bytes w)) (served_inside (length m) a (bytes w)))

pub fetch_grow : (m x : List ℕ) (a : ℕ) → reaches_past (fetch_access_of (length m) a) ≡ false → fetch_of (m ++ x) a ≡ fetch_of m a
unfolding fetch_of
fetch_grow m x a h = rw (fetch_access_grow m x a h) (loaded_grow Width.Word m x a (fetch_access_of (length m) a) (fetched_inside (length m) a))

double_grow : (m x : List ℕ) (a : ℕ) → a + 8 ≤ length m → double_at (m ++ x) a ≡ double_at m a
unfolding double_at
double_grow m x a h = rw (value_grow Width.Word m x a (omega arith), value_grow Width.Word m x (a + 4) (omega arith))

loaded_double_grow : (m x : List ℕ) (a : ℕ) (k : Access) → access_of (length m) a 8 ≡ k → loaded k (double_at (m ++ x) a) ≡ loaded k (double_at m a)
loaded_double_grow m x a (Ok tt) e = rw (double_grow m x a (served_inside (length m) a 8 e))
loaded_double_grow m x a (Err f) e = refl

pub load_double_grow : (m x : List ℕ) (a : ℕ) → reaches_past (access_of (length m) a 8) ≡ false → load_double_of (m ++ x) a ≡ load_double_of m a
unfolding load_double_of
load_double_grow m x a h = rw (access_grow m x a 8 h) (loaded_double_grow m x a (access_of (length m) a 8) refl)

-- a run of bytes within the memory, of any length
pub sets_grow : (vs m x : List ℕ) (a : ℕ) → a + length vs ≤ length m → sets (m ++ x) a vs ≡ sets m a vs ++ x
sets_grow [] m x a h = refl
sets_grow (v ∷ vs) m x a h =
    rw (set-append_left m x a v (omega arith)) (sets_grow vs (set m a v) x (suc a) (simp length-set (omega arith)))

written_grow : (m x : List ℕ) (a : ℕ) (bs : List ℕ) (k : Access) → access_of (length m) a (length bs) ≡ k → written k (m ++ x) a bs ≡ written k m a bs ++ x
written_grow m x a bs (Ok tt) e = sets_grow bs m x a (served_inside (length m) a (length bs) e)
written_grow m x a bs (Err f) e = refl

pub bytes_length : (w : Width) (v : ℕ) → length (bytes_of w v) ≡ bytes w
unfolding bytes_of
bytes_length Width.Byte v = refl
bytes_length Width.Half v = refl
bytes_length Width.Word v = refl

pub store_grow : (m x : List ℕ) (a : ℕ) (w : Width) (v : ℕ) → reaches_past (access_of (length m) a (bytes w)) ≡ false → stored_of (m ++ x) a w v ≡ stored_of m a w v ++ x
unfolding stored_of
store_grow m x a w v h =
    rw (access_grow m x a (bytes w) h)
    (written_grow m x a (bytes_of w v) (access_of (length m) a (bytes w)) (ap (access_of (length m) a) (bytes_length w v)))

pub double_length : (v : ℕ) → length (double_bytes v) ≡ 8
unfolding bytes_of
double_length v = refl

pub store_double_grow : (m x : List ℕ) (a v : ℕ) → reaches_past (access_of (length m) a 8) ≡ false → stored_double_of (m ++ x) a v ≡ stored_double_of m a v ++ x
unfolding stored_double_of
store_double_grow m x a v h =
    rw (access_grow m x a 8 h)
    (written_grow m x a (double_bytes v) (access_of (length m) a 8) (ap (access_of (length m) a) (double_length v)))

pub clear_grow : (m x : List ℕ) (a : ℕ) → reaches_past (access_of (length m) (block_at a) 32) ≡ false → cleared_of (m ++ x) a ≡ cleared_of m a ++ x
unfolding cleared_of
clear_grow m x a h =
    rw (access_grow m x (block_at a) 32 h)
    (written_grow m x (block_at a) (replicate 32 0) (access_of (length m) (block_at a) 32) refl)

-- no store changes how long the memory is
written_length : (k : Access) (m : List ℕ) (a : ℕ) (bs : List ℕ) → length (written k m a bs) ≡ length m
written_length (Ok u) m a bs = length-sets m a bs
written_length (Err f) m a bs = refl

pub stored_length : (m : List ℕ) (a : ℕ) (w : Width) (v : ℕ) → length (stored_of m a w v) ≡ length m
unfolding stored_of
stored_length m a w v = written_length (access_of (length m) a (bytes w)) m a (bytes_of w v)

pub stored_double_length : (m : List ℕ) (a v : ℕ) → length (stored_double_of m a v) ≡ length m
unfolding stored_double_of
stored_double_length m a v = written_length (access_of (length m) a 8) m a (double_bytes v)

pub cleared_length : (m : List ℕ) (a : ℕ) → length (cleared_of m a) ≡ length m
unfolding cleared_of
cleared_length m a = written_length (access_of (length m) (block_at a) 32) m (block_at a) (replicate 32 0)
