-- A memory part is no longer than its file. Assumes nothing.
use Prim.Native.Nat.{ℕ, ◌≤◌}
use native.Mathlib.Omega.{arith}
use mathlib.Core.Bool.{Bool, true, false}
use mathlib.Core.Path.{◌≡◌, sym}
use mathlib.Core.List.{List, []}
use lib.ListN.{length, take, length-take}
use lib.Seq.{length-take-le}
use Rattle.memory.specs.Access.{pick}
use Rattle.insn.specs.declared.profile.Profile.{Profile}
use Rattle.std.specs.Prelude.{is_ok}
use Rattle.capture.specs.Read.{size_of, check_read, part_of}

part_cases : (b : Bool) (k : ℕ) (f : List ℕ) → length (pick b (take k f) []) ≤ length f
part_cases true k f = omega (arith, length-take k f)
part_cases false k f = omega arith

pub part_le : (p : Profile) (f : List ℕ) → length (part_of p f) ≤ length f
unfolding part_of
part_le p f = part_cases (is_ok (check_read p f)) (size_of f) f

pub part_taken : (p : Profile) (f : List ℕ) → length (part_of p f) ≡ length (take (length (part_of p f)) f)
part_taken p f = sym (length-take-le (length (part_of p f)) f (part_le p f))
