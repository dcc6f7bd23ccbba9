-- The numbers that cross the boundary are small enough for their places. Assumes nothing.
use Prim.Native.Nat.{ℕ, ◌+◌, ◌^◌, ◌<◌, ◌≤◌}
use native.Mathlib.Omega.{arith}
use mathlib.Core.Bool.{Bool, true, false}
use mathlib.Core.Path.{◌≡◌, refl, ap}
use mathlib.Core.List.{List, []}
use lib.Dec.{leb, lit<, lit≤}
use lib.ListN.{length, take}
use lib.Seq.{length-take-le}
use Rattle.std.specs.Prelude.{Ok, Err, IfOk, is_ok}
use Rattle.std.specs.Result.{result_and}
use Rattle.std.proofs.lemmas.Result.{IfOk-at_ok}
use Rattle.memory.specs.Access.{pick, sized_of}
use Rattle.memory.proofs.Laws.{sized_bounds}
use Rattle.insn.specs.declared.profile.Profile.{Profile}
use Rattle.machine.specs.Register.{check_start}
use Rattle.machine.proofs.Refusals.{and_accepts, unless_accepts, start_accepts}
use Rattle.machine.specs.Refusal.{Checked, number_of, unless}
use Rattle.machine.specs.declared.state.State.{State}
use Rattle.machine.specs.declared.refusal.Refusal.{Refusal}
use Rattle.capture.specs.Read.{size_of, check_read, part_of}
use Rattle.capture.proofs.Checks.{read_accepts}
use Rattle.capture.specs.Write.{check_write, written_of}
use Rattle.srecord.specs.Write.{file_length, check_write as srec_check, written_of as srec_written}

-- a refusal's number leaves the first bit of an answer free
pub number_small : (r : Refusal) → number_of r ≤ 17
number_small Refusal.Memory = lit≤ tt
number_small Refusal.Iar = lit≤ tt
number_small Refusal.Reserved = lit≤ tt
number_small Refusal.Budget = lit≤ tt
number_small Refusal.Events = lit≤ tt
number_small Refusal.Capture = lit≤ tt
number_small Refusal.Output = lit≤ tt
number_small Refusal.Record = lit≤ tt
number_small Refusal.Outside = lit≤ tt
number_small Refusal.Twice = lit≤ tt
number_small Refusal.End = lit≤ tt
number_small Refusal.Count = lit≤ tt

-- a capture's memory and a whole capture are counted by words
part_small : (p : Profile) (b : Bool) (f : List ℕ) → is_ok (check_read p f) ≡ b → length (pick b (take (size_of f) f) []) < 2 ^ 32
part_small p true f e =
    let h = sized_bounds (size_of f) (read_accepts p f e).sized in
    rw (length-take-le (size_of f) f (omega arith)) (omega arith)
part_small p false f e = lit< tt

pub memory_small : (p : Profile) (f : List ℕ) → length (part_of p f) < 2 ^ 32
unfolding part_of
memory_small p f = part_small p (is_ok (check_read p f)) f refl

written_small : (p : Profile) (s : State) (m n : ℕ) (c : Checked) → check_write p s m n ≡ c → IfOk (result_and c (Ok (m + 156))) (λ (k : ℕ). k < 2 ^ 32)
unfolding check_write
written_small p s m n (Ok u) e =
    let a = start_accepts p s m (and_accepts (check_start p s m) (unless (leb (m + 156) n) Refusal.Output) (ap is_ok e)).0 in
    let h = sized_bounds m a.0 in
    omega arith
written_small p s m n (Err r) e = tt

pub bytes_small : (p : Profile) (s : State) (m out : List ℕ) (k : ℕ) → written_of p s m out ≡ Ok k → k < 2 ^ 32
unfolding written_of
bytes_small p s m out k e = IfOk-at_ok (λ (n : ℕ). n < 2 ^ 32) e (written_small p s (length m) (length out) (check_write p s (length m) (length out)) refl)

srec_cases : (m n : ℕ) (c : Checked) → srec_check m n ≡ c → IfOk (result_and c (Ok (file_length m))) (λ (k : ℕ). k < 2 ^ 32)
unfolding srec_check
srec_cases m n (Ok u) e =
    let a = and_accepts (unless (sized_of m) Refusal.Memory) _ (ap is_ok e) in
    let h = sized_bounds m (unless_accepts (sized_of m) Refusal.Memory a.0) in
    omega arith
srec_cases m n (Err r) e = tt

pub srec_small : (m out : List ℕ) (k : ℕ) → srec_written m out ≡ Ok k → k < 2 ^ 32
unfolding srec_written
srec_small m out k e = IfOk-at_ok (λ (n : ℕ). n < 2 ^ 32) e (srec_cases (length m) (length out) (srec_check (length m) (length out)) refl)
