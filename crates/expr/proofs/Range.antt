-- Values of 32 bits, and whether a number is in range.
use Prim.Native.Nat.{ℕ}
use native.Mathlib.Omega.{arith}
use mathlib.Core.Path.{◌≡◌, ap, sym}
use borrow.Author.Tests.{lt-ltb, le-ltb}
use lib.IntN.{ℤ, pos, negsuc}
use Rattle.std.specs.Prelude.{Option, None, Some, Ok, SomeIff, FitsSigned}
use Rattle.std.specs.Option.{ok_or}
use mir.Syntax.{w32}
use Rattle.std.proofs.lemmas.Int.{ints}
use Rattle.expr.specs.Evaluate.{off, in_range}
use Rattle.expr.proofs.Cases.{split_lt}

pub in_range_fits : (at : ℕ) (z : ℤ) → FitsSigned w32 z → in_range at z ≡ Ok z
in_range_fits at (pos n) f = rw (lt-ltb n 0x8000_0000 (omega (arith, ints, f)))
in_range_fits at (negsuc n) f = rw (lt-ltb n 0x8000_0000 (omega (arith, ints, f)))

in_range_not : (at : ℕ) (z : ℤ) → (FitsSigned w32 z → ⊥) → in_range at z ≡ off at
in_range_not at (pos n) f = split_lt n 0x8000_0000 (λ l. absurd (f (record { sfits = l }))) (λ l. rw (le-ltb n 0x8000_0000 l))
in_range_not at (negsuc n) f = split_lt n 0x8000_0000 (λ l. absurd (f (record { sfits = l }))) (λ l. rw (le-ltb n 0x8000_0000 l))

-- what a checked operation on 32 bits answers
pub in_range_or : (at : ℕ) (z : ℤ) (o : Option ℤ) → SomeIff o (FitsSigned w32 z) z → ok_or o (record { column = at }) ≡ in_range at z
in_range_or at z None h = sym (in_range_not at z h)
in_range_or at z (Some x) h = rw (in_range_fits at z h.0) (ap Ok h.1)
