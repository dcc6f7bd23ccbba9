-- The fields of numbers, as the code tells their signs.
use Prim.Native.Nat.{ℕ, ◌-◌, ◌*◌, ◌/◌, ◌%◌, ◌^◌, ◌<◌, ◌≤◌}
use native.Mathlib.Omega.{arith}
use mathlib.Core.Path.{◌≡◌, refl, ap}
use lib.Dec.{eqb, lit≤}
use lib.IntN.{ℤ, pos, negsuc}
use mathlib.Core.Bool.{Bool, true, false}
use Rattle.expr.specs.Grammar.{pick}
use lib.Signed.{◌≤ℤ◌, ◌<ℤ◌}
use borrow.Author.Tests.{lt-ltb, le-ltb, eq-eqb, ne_eqb}
use Rattle.std.specs.Prelude.{Ok, Err, unsigned_abs}
use Rattle.std.specs.Int.{int_rem_euclid, int_div_euclid}
use Rattle.std.proofs.lemmas.Int.{ints}
use Rattle.syntax.specs.Worth.{unfit, below, signed_code, unsigned_code, target_code, frame_code, code_of}
use Rattle.expr.specs.declared.Off.{Off}
use Rattle.syntax.specs.Syntax.{Range, signed, unsigned, target, frame}
use Rattle.syntax.specs.declared.field.Misfit.{Misfit}
use Rattle.syntax.specs.declared.slot.Number.{Number}
use Rattle.syntax.specs.Inside.{range_in}

-- two's complement
pub signed_up : (h : ℕ) (z : ℤ) → pos 0 ≤ℤ z → below h (unsigned_abs z) ≡ signed_code h (Ok z)
unfolding signed_code
signed_up h (pos n) l = refl
signed_up h (negsuc n) l = let z : ⊥ = omega (arith, ints) in absurd z

pub signed_down : (h : ℕ) (z : ℤ) → z <ℤ pos 0 → unsigned_abs z ≤ h → Ok (2 * h - unsigned_abs z) ≡ signed_code h (Ok z)
unfolding signed_code
signed_down h (pos n) l m = let z : ⊥ = omega (arith, ints) in absurd z
signed_down h (negsuc n) l m = let q : n < h = omega arith in rw (lt-ltb n h q) (ap (λ (x : ℕ). Ok x) (omega arith))

pub signed_not : (h : ℕ) (z : ℤ) → z <ℤ pos 0 → h < unsigned_abs z → unfit ≡ signed_code h (Ok z)
unfolding signed_code
signed_not h (pos n) l m = let z : ⊥ = omega (arith, ints) in absurd z
signed_not h (negsuc n) l m = let q : h ≤ n = omega arith in rw (le-ltb n h q)

-- no sign
pub unsigned_up : (m : ℕ) (z : ℤ) → pos 0 ≤ℤ z → below m (unsigned_abs z) ≡ unsigned_code m (Ok z)
unfolding unsigned_code
unsigned_up m (pos n) l = refl
unsigned_up m (negsuc n) l = let z : ⊥ = omega (arith, ints) in absurd z

pub unsigned_down : (m : ℕ) (z : ℤ) → z <ℤ pos 0 → unfit ≡ unsigned_code m (Ok z)
unfolding unsigned_code
unsigned_down m (pos n) l = let z : ⊥ = omega (arith, ints) in absurd z
unsigned_down m (negsuc n) l = refl

-- words and doublewords
pos_same : (m n : ℕ) → pos m ≡ pos n → m ≡ n
pos_same m n e = cc

pub target_whole : (h : ℕ) (z : ℤ) → int_rem_euclid z (pos 4) ≡ pos 0 → signed_code h (Ok (int_div_euclid z (pos 4))) ≡ target_code h (Ok z)
unfolding target_code
target_whole h (pos n) e = let q : n % 4 ≡ 0 = pos_same _ _ e in rw (eq-eqb (n % 4) 0 q)
target_whole h (negsuc n) e = let p : 4 - 1 - n % 4 ≡ 0 = pos_same _ _ e in let q : n % 4 ≡ 3 = omega arith in rw (eq-eqb (n % 4) 3 q)

pub target_part : (h : ℕ) (z : ℤ) → (int_rem_euclid z (pos 4) ≡ pos 0 → ⊥) → unfit ≡ target_code h (Ok z)
unfolding target_code
target_part h (pos n) e = rw (ne_eqb (n % 4) 0 (λ q. e (ap pos q)))
target_part h (negsuc n) e = rw (ne_eqb (n % 4) 3 (λ q. e (ap pos (omega arith))))

pub frame_rounded : (h : ℕ) (z : ℤ) → signed_code h (Ok (int_div_euclid z (pos 8))) ≡ frame_code h (Ok z)
unfolding frame_code
frame_rounded h (pos n) = refl
frame_rounded h (negsuc n) = refl

-- a value that is outside
pub code_off : (r : Range) (k : Off) → code_of r (Err k) ≡ Err (Misfit.Off k)
unfolding signed_code unsigned_code target_code frame_code
code_off (signed h) k = refl
code_off (unsigned m) k = refl
code_off (target h) k = refl
code_off (frame h) k = refl

-- a number of more than 32 bits fits no field of a line
abbrev width : Range → ℕ
width (signed h) = h
width (unsigned m) = m
width (target h) = h
width (frame h) = h

width_small : (x : Number) → width (range_in x) ≤ 2 ^ 28
width_small Number.Signed = lit≤ tt
width_small Number.Unsigned = lit≤ tt
width_small Number.Five = lit≤ tt
width_small Number.Six = lit≤ tt
width_small Number.Two = lit≤ tt
width_small Number.Ten = lit≤ tt
width_small Number.One = lit≤ tt
width_small Number.Frame = lit≤ tt
width_small Number.Branch = lit≤ tt
width_small Number.Conditional = lit≤ tt

both_unfit : (b : Bool) → unfit ≡ pick b unfit unfit
both_unfit true = refl
both_unfit false = refl

unfit_down : (r : Range) (n : ℕ) → width r ≤ 2 ^ 28 → 2 ^ 31 ≤ n → unfit ≡ code_of r (Ok (negsuc n))
unfolding signed_code unsigned_code target_code frame_code
unfit_down (signed h) n w l = rw (le-ltb n h (omega arith)) refl
unfit_down (unsigned m) n w l = refl
unfit_down (target h) n w l = rw (le-ltb (n / 4) h (omega arith)) (both_unfit (eqb (n % 4) 3))
unfit_down (frame h) n w l = rw (le-ltb (n / 8) h (omega arith)) refl

unfit_up : (r : Range) (n : ℕ) → width r ≤ 2 ^ 28 → 2 ^ 31 ≤ n → unfit ≡ code_of r (Ok (pos n))
unfolding signed_code unsigned_code target_code frame_code
unfit_up (signed h) n w l = rw (le-ltb n h (omega arith)) refl
unfit_up (unsigned m) n w l = rw (le-ltb n m (omega arith)) refl
unfit_up (target h) n w l = rw (le-ltb (n / 4) h (omega arith)) (both_unfit (eqb (n % 4) 0))
unfit_up (frame h) n w l = rw (le-ltb (n / 8) h (omega arith)) refl

pub code_below : (x : Number) (z : ℤ) → z <ℤ negsuc 0x7FFF_FFFF → unfit ≡ code_of (range_in x) (Ok z)
code_below x (pos n) l = let z : ⊥ = omega (arith, ints) in absurd z
code_below x (negsuc n) l = unfit_down (range_in x) n (width_small x) (omega (arith, ints))

pub code_above : (x : Number) (z : ℤ) → pos 0x8000_0000 ≤ℤ z → unfit ≡ code_of (range_in x) (Ok z)
code_above x (pos n) l = unfit_up (range_in x) n (width_small x) (omega (arith, ints))
code_above x (negsuc n) l = let z : ⊥ = omega (arith, ints) in absurd z
