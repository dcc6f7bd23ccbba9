-- Marks: what was loaded tells a reach as its access does; a mark is 8 or more, and taken off it leaves the state. Assumes nothing.
use Prim.Native.Nat.{ℕ, ◌%◌, ◌≤◌}
use native.Mathlib.Omega.{arith}
use mathlib.Core.Bool.{Bool, true, false}
use mathlib.Core.List.{List}
use mathlib.Core.Path.{◌≡◌, refl}
use lib.Dec.{eqb, lit≤}
use lib.ListN.{length}
use borrow.Author.Tests.{eqb-true, eqb-false}
use Rattle.word.specs.Width.{bytes}
use Rattle.word.specs.declared.width.Width.{Width}
use Rattle.memory.specs.Access.{Access, pick, access_of, reaches_past}
use Rattle.memory.specs.Load.{loaded, value_at, load_of, double_at, load_double_of}
use Rattle.memory.specs.declared.access.Fault.{Fault}
use Rattle.std.specs.Prelude.{Ok, Err}
use Rattle.machine.specs.State.{with}
use Rattle.marked.specs.Mark.{marked, unmarked}
use Rattle.machine.specs.declared.state.State.{State}

pub loaded_reaches : (x : Access) (v : ℕ) → reaches_past x ≡ reaches_past (loaded x v)
loaded_reaches (Ok u) v = refl
loaded_reaches (Err Fault.Unaligned) v = refl
loaded_reaches (Err Fault.Outside) v = refl

pub load_reaches_lem : (m : List ℕ) (a : ℕ) (w : Width) → reaches_past (access_of (length m) a (bytes w)) ≡ reaches_past (load_of m a w)
unfolding load_of
load_reaches_lem m a w = loaded_reaches (access_of (length m) a (bytes w)) (value_at w m a)

pub double_reaches_lem : (m : List ℕ) (a : ℕ) → reaches_past (access_of (length m) a 8) ≡ reaches_past (load_double_of m a)
unfolding load_double_of
double_reaches_lem m a = loaded_reaches (access_of (length m) a 8) (double_at m a)

mark_back : (h : ℕ) (b : Bool) → eqb h 0 ≡ b → h ≤ 1 → pick b 8 9 % 8 ≡ h
mark_back h true e l = rw (eqb-true h 0 e) refl
mark_back h false e l =
    let n = eqb-false h 0 e in
    omega (arith, n, l)

pub unmarked_marked : (s : State) → s.halt ≤ 1 → unmarked (marked s) ≡ s
unfolding unmarked marked with
unmarked_marked s l = rw (mark_back s.halt (eqb s.halt 0) refl l)

high : (b : Bool) → 8 ≤ pick b 8 9
high true = lit≤ tt
high false = lit≤ tt

pub mark_high : (s : State) → 8 ≤ (marked s).halt
unfolding marked with
mark_high s = high (eqb s.halt 0)
