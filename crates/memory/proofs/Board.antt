-- The board's rule in other words, and what it leaves alone. Assumes nothing.
use Prim.Native.Nat.{ℕ, ◌+◌, ◌-◌, ◌*◌, ◌/◌, ◌%◌, ◌≤◌}
use native.Mathlib.Omega.{arith}
use mathlib.Core.Bool.{Bool, true, false, ◌||◌}
use mathlib.Core.Path.{◌≡◌, refl, sym, ◌∙◌}
use lib.Dec.{leb, eqb, lit≤}
use borrow.Author.Tests.{le-leb, leb-true, lt-leb, eq-eqb, eqb-true, eqb-false}
use Rattle.word.specs.Width.{bytes}
use Rattle.word.specs.declared.width.Width.{Width}
use Rattle.word.proofs.Truth.{never}
use Rattle.memory.specs.Access.{pick, judged, aligned_of, placed_of, access_of, fetch_access_of}
use Rattle.memory.specs.Store.{block_at}
use Rattle.std.specs.Prelude.{Err}
use Rattle.memory.specs.declared.access.Fault.{Fault}

same_truth : (p q : Bool) → (p ≡ true → q ≡ true) → (q ≡ true → p ≡ true) → p ≡ q
same_truth true true h k = refl
same_truth true false h k = never (sym (h refl))
same_truth false true h k = never (sym (k refl))
same_truth false false h k = refl

or_by : (p q : Bool) → (p ≡ true → q ≡ true) → (p || q) ≡ q
or_by true q h = sym (h refl)
or_by false q h = refl

-- what is aligned to its width lies inside a group
in_group : (w : Width) (a : ℕ) → aligned_of a (bytes w) ≡ true → leb (a % 8 + bytes w) 8 ≡ true
in_group Width.Byte a h = le-leb (a % 8 + 1) 8 (omega arith)
in_group Width.Half a h = le-leb (a % 8 + 2) 8 (omega (arith, eqb-true (a % 2) 0 h))
in_group Width.Word a h = le-leb (a % 8 + 4) 8 (omega (arith, eqb-true (a % 4) 0 h))

group_ends : (n a : ℕ) → 1 ≤ n → leb (a % 8 + n) 8 ≡ eqb ((a + n - 1) / 8) (a / 8)
group_ends n a l =
    same_truth _ _
    (λ e. eq-eqb ((a + n - 1) / 8) (a / 8) (omega (arith, leb-true (a % 8 + n) 8 e)))
    (λ e. le-leb (a % 8 + n) 8 (omega (arith, eqb-true ((a + n - 1) / 8) (a / 8) e)))

some_bytes : (w : Width) → 1 ≤ bytes w
some_bytes Width.Byte = lit≤ tt
some_bytes Width.Half = lit≤ tt
some_bytes Width.Word = lit≤ tt

-- a byte, halfword or word is well placed where its last byte is in the group of its first
pub one_group : (w : Width) (a : ℕ) → placed_of a (bytes w) ≡ eqb ((a + bytes w - 1) / 8) (a / 8)
one_group w a =
    or_by (aligned_of a (bytes w)) (leb (a % 8 + bytes w) 8) (in_group w a)
    ∙ group_ends (bytes w) a (some_bytes w)

-- a doubleword, where it is aligned by eight
double_cases : (a : ℕ) (p : Bool) → aligned_of a 8 ≡ p → (p || leb (a % 8 + 8) 8) ≡ p
double_cases a true e = refl
double_cases a false e = lt-leb (a % 8 + 8) 8 (omega (arith, eqb-false (a % 8) 0 e))

pub double_by_eight : (a : ℕ) → placed_of a 8 ≡ aligned_of a 8
double_by_eight a = double_cases a (aligned_of a 8) refl

-- the block of dcbz is judged by where it ends alone
pub block_placed : (m a : ℕ) → access_of m (block_at a) 32 ≡ judged true (block_at a + 32) m
unfolding access_of
block_placed m a = rw (eq-eqb (a / 32 * 32 % 32) 0 (omega arith))

-- an instruction, by four and then by where it ends
fetch_cases : (m a : ℕ) (p : Bool) → aligned_of a 4 ≡ p
    → pick p (access_of m a 4) (Err Fault.Unaligned) ≡ judged p (a + 4) m
unfolding access_of
fetch_cases m a true e = rw e
fetch_cases m a false e = refl

pub fetch_by_four : (m a : ℕ) → fetch_access_of m a ≡ judged (aligned_of a 4) (a + 4) m
unfolding fetch_access_of
fetch_by_four m a = fetch_cases m a (aligned_of a 4) refl
