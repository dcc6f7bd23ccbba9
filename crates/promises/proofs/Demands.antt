-- Demands 1 and 3, said of whole runs. Assumes nothing.
use Prim.Native.Nat.{ℕ, zero, suc, ◌+◌, ◌-◌, ◌≤◌, ◌%◌}
use native.Mathlib.Omega.{arith}
use native.Mathlib.Nat.{sub-zero}
use mathlib.Core.Bool.{Bool, true, false, ◌&&◌}
use mathlib.Core.Path.{◌≡◌, refl, ap, sym, ◌∙◌}
use mathlib.Core.List.{List, ◌++◌}
use lib.Dec.{eqb, leb}
use lib.ListN.{get_or, length}
use Rattle.memory.specs.Access.{pick, sized_of}
use Rattle.insn.specs.declared.profile.Profile.{Profile}
use Rattle.std.specs.Prelude.{Ok, Err, is_ok}
use Rattle.std.specs.Result.{result_and}
use Rattle.machine.specs.Refusal.{unless}
use Rattle.machine.specs.Register.{sound_of, check_of, check_start}
use Rattle.machine.specs.Step.{step_of}
use Rattle.machine.specs.declared.state.State.{State}
use Rattle.machine.specs.declared.refusal.Refusal.{Refusal}
use Rattle.run.specs.Run.{Ran, run_of, past_of}
use Rattle.run.specs.Outcome.{events_good, check_events, check_run, check_step, accepted, state_left, steps_of, run_outcome, run_memory, step_outcome, step_memory}
use Rattle.run.proofs.Laws.{run_halted}
use Rattle.promises.specs.Growth.{grown_run, NeverAlters}
use Rattle.promises.proofs.Grow.{run_grow, run_longer}

-- ---- a run ends

steps_cases : (b : Bool) (n i : ℕ) (r q : Ran) → q.steps ≡ i → (suc i ≤ r.steps) × (r.steps ≤ suc i + n) → (i ≤ (pick b r q).steps) × ((pick b r q).steps ≤ i + suc n)
steps_cases true n i r q e h = (omega arith, omega arith)
steps_cases false n i r q e h = (omega arith, omega arith)

steps_between : (p : Profile) (n i : ℕ) (ev : List ℕ) (s : State) (m : List ℕ) → (i ≤ (run_of p n i ev s m).steps) × ((run_of p n i ev s m).steps ≤ i + n)
unfolding run_of
steps_between p zero i ev s m = (omega arith, omega arith)
steps_between p (suc n) i ev s m =
    let a = step_of p s m (get_or ev i 0) in
    steps_cases (eqb s.halt 0) n i (run_of p n (suc i) ev a.st a.mem) (record { st = s; mem = m; steps = i }) refl (steps_between p n (suc i) ev a.st a.mem)

-- after at most `budget` steps
pub run_ends : (p : Profile) (budget : ℕ) (ev : List ℕ) (s : State) (m : List ℕ) → (run_of p budget 0 ev s m).steps ≤ budget
run_ends p budget ev s m = let h = steps_between p budget 0 ev s m in omega arith

-- ---- refusals

-- a refusal counts no steps and leaves the state and the memory as given
pub run_refused : (p : Profile) (s : State) (m ev : List ℕ) (budget : ℕ) (r : Refusal) → check_run p s m ev budget ≡ Err r
    → (run_outcome p s m ev budget ≡ Err r) × ((steps_of (run_outcome p s m ev budget) ≡ 0) × ((state_left s (run_outcome p s m ev budget) ≡ s) × (run_memory p s m ev budget ≡ m)))
unfolding run_outcome run_memory
run_refused p s m ev budget r h = rw h (refl, (refl, (refl, refl)))

pub step_refused : (p : Profile) (s : State) (m : List ℕ) (e : ℕ) (r : Refusal) → check_step p s m e ≡ Err r
    → (step_outcome p s m e ≡ Err r) × ((steps_of (step_outcome p s m e) ≡ 0) × ((state_left s (step_outcome p s m e) ≡ s) × (step_memory p s m e ≡ m)))
unfolding step_outcome step_memory
step_refused p s m e r h = rw h (refl, (refl, (refl, refl)))

pub run_accepted_is : (p : Profile) (s : State) (m ev : List ℕ) (budget : ℕ) → check_run p s m ev budget ≡ Ok tt
    → (run_outcome p s m ev budget ≡ Ok (accepted (run_of p budget 0 ev s m))) × (run_memory p s m ev budget ≡ (run_of p budget 0 ev s m).mem)
unfolding run_outcome run_memory
run_accepted_is p s m ev budget h = rw h (refl, refl)

accepts_cases : (a b c d f : Bool) → is_ok (result_and (result_and (unless a Refusal.Memory) (result_and (unless b Refusal.Iar) (unless c Refusal.Reserved))) (result_and (unless d Refusal.Budget) (unless f Refusal.Events)))
    ≡ (a && b && c && d && f)
accepts_cases true true true true true = refl
accepts_cases true true true true false = refl
accepts_cases true true true false f = refl
accepts_cases true true false d f = refl
accepts_cases true false c d f = refl
accepts_cases false b c d f = refl

-- a run is accepted exactly when none of 1, 2, 3, 4 and 5 speaks against it
pub accepted_exactly : (p : Profile) (s : State) (m ev : List ℕ) (budget : ℕ)
    → is_ok (check_run p s m ev budget)
    ≡ (sized_of (length m) && eqb (s.iar % 4) 0 && sound_of p s && leb budget 1048576 && (leb (length ev) 1048576 && events_good ev))
unfolding check_run check_start check_events check_of
accepted_exactly p s m ev budget =
    accepts_cases (sized_of (length m)) (eqb (s.iar % 4) 0) (sound_of p s) (leb budget 1048576) (leb (length ev) 1048576 && events_good ev)

-- ---- more memory, a longer run

used_cases : (p : Profile) (b : Bool) (n i : ℕ) (ev : List ℕ) (s : State) (m : List ℕ) (r : Ran) → eqb s.halt 0 ≡ b → suc i ≤ r.steps
    → run_of p (r.steps - suc i) (suc i) ev (step_of p s m (get_or ev i 0)).st (step_of p s m (get_or ev i 0)).mem ≡ r
    → (let q = pick b r (record { st = s; mem = m; steps = i }) in run_of p (q.steps - i) i ev s m ≡ q)
unfolding run_of
used_cases p true n i ev s m r e l h =
    let k : r.steps - i ≡ suc (r.steps - suc i) = omega arith in
    rw (k, e) h
used_cases p false n i ev s m r e l h =
    let k : i - i ≡ 0 = omega arith in
    rw k

-- a run with just the budget that it used is the same run
pub used_budget : (p : Profile) (n i : ℕ) (ev : List ℕ) (s : State) (m : List ℕ) → (let r = run_of p n i ev s m in run_of p (r.steps - i) i ev s m ≡ r)
unfolding run_of
used_budget p zero i ev s m =
    let k : i - i ≡ 0 = omega arith in
    rw k
used_budget p (suc n) i ev s m =
    let a = step_of p s m (get_or ev i 0) in
    used_cases p (eqb s.halt 0) n i ev s m (run_of p n (suc i) ev a.st a.mem) refl (steps_between p n (suc i) ev a.st a.mem).0 (used_budget p n (suc i) ev a.st a.mem)

as_many : (p : Profile) (s : State) (m x ev : List ℕ) (budget : ℕ) → run_of p budget 0 ev s (m ++ x) ≡ grown_run x (run_of p budget 0 ev s m)
    → run_of p (run_of p budget 0 ev s m).steps 0 ev s (m ++ x) ≡ grown_run x (run_of p budget 0 ev s m)
as_many p s m x ev budget g =
    let k : (run_of p budget 0 ev s (m ++ x)).steps - 0 ≡ (run_of p budget 0 ev s m).steps = sub-zero _ ∙ ap (λ (q : Ran). q.steps) g in
    ap (λ (n : ℕ). run_of p n 0 ev s (m ++ x)) (sym k) ∙ used_budget p budget 0 ev s (m ++ x) ∙ g

-- demand 3, of a first run that did not reach past its memory
pub never_alters : (p : Profile) (s : State) (m x ev : List ℕ) (budget more : ℕ)
    → check_run p s m ev budget ≡ Ok tt → check_run p s (m ++ x) ev (budget + more) ≡ Ok tt
    → past_of p budget 0 ev s m ≡ false → NeverAlters p s m x ev budget more
never_alters p s m x ev budget more first second past =
    let r = run_of p budget 0 ev s m in
    let g : run_of p budget 0 ev s (m ++ x) ≡ grown_run x r = run_grow p budget 0 ev s m x past in
    let on : run_of p (budget + more) 0 ev s (m ++ x) ≡ run_of p more r.steps ev r.st (r.mem ++ x) = rw (run_longer p budget more 0 ev s (m ++ x), g) refl in
    record {
      after_as_many = as_many p s m x ev budget g;
      goes_on = on;
      halts_there = λ h. on ∙ run_halted p ev r.st (r.mem ++ x) more r.steps h;
    }
