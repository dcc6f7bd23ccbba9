-- The run that ends with the first step that leaves IAR at a stop: it is the plain run of as many steps, with the whole budget where no step comes to a stop; where one does, its last step is the first that did. Assumes nothing.
use Prim.Native.Nat.{ℕ, zero, suc, ◌-◌, ◌≤◌}
use native.Mathlib.Omega.{arith}
use native.Mathlib.Nat.{sub-zero}
use mathlib.Core.Bool.{Bool, true, false}
use mathlib.Core.Path.{◌≡◌, refl, sym, ap}
use mathlib.Core.List.{List}
use lib.Dec.{eqb, leb}
use lib.ListN.{get_or, length}
use borrow.Author.Tests.{leb-true, le-leb}
use Rattle.std.specs.Prelude.{Ok, is_ok}
use Rattle.word.proofs.Truth.{never, and_left, and_right}
use Rattle.memory.specs.Access.{pick}
use Rattle.insn.specs.declared.profile.Profile.{Profile}
use Rattle.machine.specs.After.{After}
use Rattle.machine.specs.Step.{step_of}
use Rattle.machine.specs.Refusal.{unless}
use Rattle.machine.specs.Register.{check_start}
use Rattle.machine.specs.declared.state.State.{State}
use Rattle.machine.specs.declared.refusal.Refusal.{Refusal}
use Rattle.machine.proofs.Refusals.{accepts_ok, and_accepts, unless_accepts}
use Rattle.run.specs.Run.{Ran, run_of}
use Rattle.run.specs.Outcome.{state_left, steps_of, check_events, check_run, run_outcome, run_memory}
use Rattle.until.specs.Until.{stop_at, until_of, until_outcome, until_memory}
use Rattle.promises.specs.Stopped.{stopped_of, run_stopped}
use Rattle.promises.proofs.Cut.{met_of, cut_of, cut_within, cut_is_run, cut_ends_first}
use Rattle.promises.proofs.Demands.{run_ends, used_budget}

abbrev stopped : List ℕ → After → Bool
stopped stops a = stop_at stops a.st.iar

module _ (p : Profile) (stops : List ℕ) where
  stopped_met : (n i : ℕ) (ev : List ℕ) (s : State) (m : List ℕ) → stopped_of p stops n i ev s m ≡ met_of p (stopped stops) n i ev s m
  unfolding stopped_of met_of
  stopped_met zero i ev s m = refl
  stopped_met (suc n) i ev s m = rw (stopped_met n (suc i) ev (step_of p s m (get_or ev i 0)).st (step_of p s m (get_or ev i 0)).mem)

  until_cut : (n i : ℕ) (ev : List ℕ) (s : State) (m : List ℕ) → until_of p stops n i ev s m ≡ cut_of p (stopped stops) n i ev s m
  unfolding until_of cut_of
  until_cut zero i ev s m = refl
  until_cut (suc n) i ev s m = rw (until_cut n (suc i) ev (step_of p s m (get_or ev i 0)).st (step_of p s m (get_or ev i 0)).mem)

  turn_at : (go at rest : Bool) (f : ℕ → Ran) (k : ℕ) (halted : Ran) → pick go (pick at true rest) false ≡ true
      → (at ≡ true → stop_at stops (f 0).st.iar ≡ true) → (rest ≡ true → stop_at stops (f k).st.iar ≡ true) → stop_at stops (pick go (f (pick at 0 k)) halted).st.iar ≡ true
  turn_at false at rest f k halted h e g = never (sym h)
  turn_at true true rest f k halted h e g = e refl
  turn_at true false rest f k halted h e g = g h

  -- a run that came to a stop ends at one
  ends_at : (n i : ℕ) (ev : List ℕ) (s : State) (m : List ℕ) → stopped_of p stops n i ev s m ≡ true → stop_at stops (run_of p (until_of p stops n i ev s m) i ev s m).st.iar ≡ true
  unfolding stopped_of until_of run_of
  ends_at zero i ev s m h = never (sym h)
  ends_at (suc n) i ev s m h =
      let a = step_of p s m (get_or ev i 0) in
      turn_at (eqb s.halt 0) (stop_at stops a.st.iar) (stopped_of p stops n (suc i) ev a.st a.mem) (λ k. run_of p k (suc i) ev a.st a.mem) (until_of p stops n (suc i) ev a.st a.mem) _ h (λ e. e)
      (ends_at n (suc i) ev a.st a.mem)

-- a budget that is no larger is refused no more
smaller_budget : (p : Profile) (s : State) (m ev : List ℕ) (budget n : ℕ) → n ≤ budget → check_run p s m ev budget ≡ Ok tt → check_run p s m ev n ≡ check_run p s m ev budget
unfolding check_run
smaller_budget p s m ev budget n l h =
    let a = and_accepts (unless (leb budget 1048576) Refusal.Budget) (check_events ev) (and_accepts (check_start p s (length m)) _ (ap is_ok h)).1 in
    let b = leb-true budget 1048576 (unless_accepts (leb budget 1048576) Refusal.Budget a.0) in
    rw (le-leb budget 1048576 b, le-leb n 1048576 (omega (arith, b, l)))

module _ (p : Profile) (s : State) (m ev stops : List ℕ) (budget : ℕ) where
  -- accepted: outcome and memory are those of the run whose budget is the steps that it took
  pub until_as_many : check_run p s m ev budget ≡ Ok tt
      → (let n = steps_of (until_outcome p s m ev stops budget) in (until_outcome p s m ev stops budget ≡ run_outcome p s m ev n) × (until_memory p s m ev stops budget ≡ run_memory p s m ev n))
  unfolding until_outcome until_memory run_outcome run_memory
  until_as_many h =
      let c = until_of p stops budget 0 ev s m in
      let n = (run_of p c 0 ev s m).steps in
      let w : c ≤ budget = rw (until_cut p stops budget 0 ev s m) (cut_within p (stopped stops) budget 0 ev s m) in
      let l : n ≤ budget = let e = run_ends p c ev s m in omega (arith, e, w) in
      let q : run_of p n 0 ev s m ≡ run_of p c 0 ev s m = rw sub-zero at (used_budget p c 0 ev s m) in
      rw h (rw (smaller_budget p s m ev budget n l h, h, q) (refl, refl))

  -- no step comes to a stop: they are the plain run's with the whole budget
  pub until_is_run : run_stopped p s m ev stops budget ≡ false
      → (until_outcome p s m ev stops budget ≡ run_outcome p s m ev budget) × (until_memory p s m ev stops budget ≡ run_memory p s m ev budget)
  unfolding run_stopped until_outcome until_memory run_outcome run_memory
  until_is_run h =
      rw (until_cut p stops budget 0 ev s m) (cut_is_run p (stopped stops) (check_run p s m ev budget) s m ev budget (rw (stopped_met p stops budget 0 ev s m) at h))

  -- one does: of the steps taken the last is the first that did, and IAR is at that stop
  pub until_ends_first : run_stopped p s m ev stops budget ≡ true
      → (let o = until_outcome p s m ev stops budget in
      (stopped_of p stops (steps_of o - 1) 0 ev s m ≡ false) × ((stopped_of p stops (steps_of o) 0 ev s m ≡ true) × (stop_at stops (state_left s o).iar ≡ true)))
  unfolding run_stopped until_outcome
  until_ends_first h =
      let a = accepts_ok (check_run p s m ev budget) (and_left (is_ok (check_run p s m ev budget)) (stopped_of p stops budget 0 ev s m) h) in
      let t = and_right (is_ok (check_run p s m ev budget)) (stopped_of p stops budget 0 ev s m) h in
      let f = cut_ends_first p (stopped stops) (check_run p s m ev budget) s m ev budget (rw (stopped_met p stops budget 0 ev s m) at h) in
      (rw (until_cut p stops budget 0 ev s m, stopped_met) f.1.1.0, (rw (until_cut p stops budget 0 ev s m, stopped_met) f.1.1.1, rw a (ends_at p stops budget 0 ev s m t)))
