-- Runs that end with the first step whose leavings meet a test, any test: one in which no step does is the plain run, and one in which a step does took the steps to the first. Assumes nothing.
use Prim.Native.Nat.{ℕ, zero, suc, ◌+◌, ◌-◌, ◌≤◌}
use native.Mathlib.Omega.{arith}
use native.Mathlib.Nat.{zero-add}
use mathlib.Core.Bool.{Bool, true, false, ◌&&◌}
use mathlib.Core.Path.{◌≡◌, refl, ap, sym, ◌∙◌}
use mathlib.Core.List.{List}
use lib.Dec.{eqb}
use lib.ListN.{get_or}
use Rattle.std.specs.Prelude.{Ok, Err, is_ok}
use Rattle.word.proofs.Truth.{never, and_left, and_right}
use Rattle.memory.specs.Access.{pick}
use Rattle.insn.specs.declared.profile.Profile.{Profile}
use Rattle.machine.specs.After.{After}
use Rattle.machine.specs.Step.{step_of}
use Rattle.machine.specs.Refusal.{Checked}
use Rattle.machine.specs.declared.state.State.{State}
use Rattle.machine.proofs.Refusals.{accepts_ok}
use Rattle.run.specs.Run.{Ran, run_of}
use Rattle.run.specs.Outcome.{accepted, steps_of, answered, remembered}

-- one step: `go` tells that the core runs, `met` that the step meets the test, and `rest` that a later one does
module _ (go met rest : Bool) (f : ℕ → Ran) (k : ℕ) (halted : Ran) where
  turn_same : (full : Ran) → pick go (pick met true rest) false ≡ false → (rest ≡ false → f k ≡ full) → pick go (f (pick met 0 k)) halted ≡ pick go full halted
  turn_same full h g = by go met h
    where
      by : (go met : Bool) → pick go (pick met true rest) false ≡ false → pick go (f (pick met 0 k)) halted ≡ pick go full halted
      by false met h = refl
      by true true h = never h
      by true false h = g h

  turn_steps : (i : ℕ) → pick go (pick met true rest) false ≡ true → (f 0).steps ≡ suc i → (rest ≡ true → (f k).steps ≡ suc i + k)
      → (pick go (f (pick met 0 k)) halted).steps ≡ i + suc (pick met 0 k)
  turn_steps i h e g = by go met h
    where
      by : (go met : Bool) → pick go (pick met true rest) false ≡ true → (pick go (f (pick met 0 k)) halted).steps ≡ i + suc (pick met 0 k)
      by false met h = never (sym h)
      by true true h = omega (arith, e)
      by true false h = let l = g h in omega (arith, l)

turn_met : (go met rest : Bool) (f : ℕ → Bool) (k : ℕ) → pick go (pick met true rest) false ≡ true → (rest ≡ true → f k ≡ true)
    → pick go (pick met true (f (pick met 0 k))) false ≡ true
turn_met false met rest f k h g = h
turn_met true true rest f k h g = refl
turn_met true false rest f k h g = g h

turn_within : (met : Bool) (k n : ℕ) → k ≤ n → suc (pick met 0 k) ≤ suc n
turn_within true k n h = omega arith
turn_within false k n h = omega arith

neither : (b : Bool) → pick b false false ≡ false
neither true = refl
neither false = refl

one_less : (k : ℕ) → suc k - 1 ≡ k
one_less k = omega arith

module _ (p : Profile) (test : After → Bool) where
  -- whether a step meets the test, with n steps of the budget left and i taken
  unfoldable pub met_of : ℕ → ℕ → List ℕ → State → List ℕ → Bool
  met_of zero i ev s m = false
  met_of (suc n) i ev s m =
      let r = met_of n (suc i) ev (step_of p s m (get_or ev i 0)).st (step_of p s m (get_or ev i 0)).mem in
      pick (eqb s.halt 0) (pick (test (step_of p s m (get_or ev i 0))) true r) false

  -- a budget of n, cut at the first step that does
  unfoldable pub cut_of : ℕ → ℕ → List ℕ → State → List ℕ → ℕ
  cut_of zero i ev s m = 0
  cut_of (suc n) i ev s m =
      let r = cut_of n (suc i) ev (step_of p s m (get_or ev i 0)).st (step_of p s m (get_or ev i 0)).mem in
      suc (pick (test (step_of p s m (get_or ev i 0))) 0 r)

  pub cut_within : (n i : ℕ) (ev : List ℕ) (s : State) (m : List ℕ) → cut_of n i ev s m ≤ n
  unfolding cut_of
  cut_within zero i ev s m = omega arith
  cut_within (suc n) i ev s m =
      let a = step_of p s m (get_or ev i 0) in
      turn_within (test a) (cut_of n (suc i) ev a.st a.mem) n (cut_within n (suc i) ev a.st a.mem)

  -- where none does, the budget is not cut before the run's end
  run_same : (n i : ℕ) (ev : List ℕ) (s : State) (m : List ℕ) → met_of n i ev s m ≡ false → run_of p (cut_of n i ev s m) i ev s m ≡ run_of p n i ev s m
  unfolding met_of run_of cut_of
  run_same zero i ev s m h = refl
  run_same (suc n) i ev s m h =
      let a = step_of p s m (get_or ev i 0) in
      turn_same (eqb s.halt 0) (test a) (met_of n (suc i) ev a.st a.mem) (λ k. run_of p k (suc i) ev a.st a.mem) (cut_of n (suc i) ev a.st a.mem) _ _ h
      (run_same n (suc i) ev a.st a.mem)

  -- where one does, every step of the cut budget is taken
  all_taken : (n i : ℕ) (ev : List ℕ) (s : State) (m : List ℕ) → met_of n i ev s m ≡ true → (run_of p (cut_of n i ev s m) i ev s m).steps ≡ i + cut_of n i ev s m
  unfolding met_of run_of cut_of
  all_taken zero i ev s m h = never (sym h)
  all_taken (suc n) i ev s m h =
      let a = step_of p s m (get_or ev i 0) in
      turn_steps (eqb s.halt 0) (test a) (met_of n (suc i) ev a.st a.mem) (λ k. run_of p k (suc i) ev a.st a.mem) (cut_of n (suc i) ev a.st a.mem) _ i h refl
      (all_taken n (suc i) ev a.st a.mem)

  -- the last of them does
  last_met : (n i : ℕ) (ev : List ℕ) (s : State) (m : List ℕ) → met_of n i ev s m ≡ true → met_of (cut_of n i ev s m) i ev s m ≡ true
  unfolding met_of cut_of
  last_met zero i ev s m h = h
  last_met (suc n) i ev s m h =
      let a = step_of p s m (get_or ev i 0) in
      turn_met (eqb s.halt 0) (test a) (met_of n (suc i) ev a.st a.mem) (λ k. met_of k (suc i) ev a.st a.mem) (cut_of n (suc i) ev a.st a.mem) h
      (last_met n (suc i) ev a.st a.mem)

  turn_before : (i : ℕ) (ev : List ℕ) (s : State) (m : List ℕ) (u : Bool) → test (step_of p s m (get_or ev i 0)) ≡ u → (k : ℕ)
      → met_of (k - 1) (suc i) ev (step_of p s m (get_or ev i 0)).st (step_of p s m (get_or ev i 0)).mem ≡ false → met_of (pick u 0 k) i ev s m ≡ false
  unfolding met_of
  turn_before i ev s m true e k h = refl
  turn_before i ev s m false e zero h = refl
  turn_before i ev s m false e (suc k) h =
      let a = step_of p s m (get_or ev i 0) in
      rw (e, ap (λ (n : ℕ). met_of n (suc i) ev a.st a.mem) (sym (one_less k)) ∙ h) (neither (eqb s.halt 0))

  -- and none before it
  none_before : (n i : ℕ) (ev : List ℕ) (s : State) (m : List ℕ) → met_of (cut_of n i ev s m - 1) i ev s m ≡ false
  unfolding met_of cut_of
  none_before zero i ev s m = refl
  none_before (suc n) i ev s m =
      let a = step_of p s m (get_or ev i 0) in
      let k = cut_of n (suc i) ev a.st a.mem in
      rw (one_less (pick (test a) 0 k)) (turn_before i ev s m (test a) refl k (none_before n (suc i) ev a.st a.mem))

same_answer : (c : Checked) (u : Bool) (x y : Ran) (m : List ℕ) → (u ≡ false → x ≡ y) → (is_ok c && u) ≡ false → (answered c x ≡ answered c y) × (remembered c m x ≡ remembered c m y)
same_answer (Ok tt) u x y m g h = (ap (answered (Ok tt)) (g h), ap (λ (r : Ran). r.mem) (g h))
same_answer (Err r) u x y m g h = (refl, refl)

module _ (p : Profile) (test : After → Bool) (c : Checked) (s : State) (m ev : List ℕ) (budget : ℕ) where
  abbrev cut_run : Ran
  cut_run = run_of p (cut_of p test budget 0 ev s m) 0 ev s m

  -- none met: outcome and memory are the plain run's with the whole budget
  pub cut_is_run : (is_ok c && met_of p test budget 0 ev s m) ≡ false
      → (answered c cut_run ≡ answered c (run_of p budget 0 ev s m)) × (remembered c m cut_run ≡ remembered c m (run_of p budget 0 ev s m))
  cut_is_run h = same_answer c (met_of p test budget 0 ev s m) cut_run (run_of p budget 0 ev s m) m (run_same p test budget 0 ev s m) h

  -- one met: they are those of the run of as many steps as it took, the last of which met the test and none before
  pub cut_ends_first : (is_ok c && met_of p test budget 0 ev s m) ≡ true
      → (let n = steps_of (answered c cut_run) in
      (answered c cut_run ≡ Ok (accepted (run_of p n 0 ev s m))) × ((remembered c m cut_run ≡ (run_of p n 0 ev s m).mem) × ((met_of p test (n - 1) 0 ev s m ≡ false) × (met_of p test n 0 ev s m ≡ true))))
  cut_ends_first h =
      let met = and_right (is_ok c) (met_of p test budget 0 ev s m) h in
      let cut = cut_of p test budget 0 ev s m in
      let q : (run_of p cut 0 ev s m).steps ≡ cut = all_taken p test budget 0 ev s m met ∙ zero-add cut in
      rw (accepts_ok c (and_left (is_ok c) (met_of p test budget 0 ev s m) h)) (
        ap (λ (k : ℕ). answered (Ok tt) (run_of p k 0 ev s m)) (sym q),
        (
          ap (λ (k : ℕ). (run_of p k 0 ev s m).mem) (sym q),
          (
            ap (λ (k : ℕ). met_of p test (k - 1) 0 ev s m) q ∙ none_before p test budget 0 ev s m,
            ap (λ (k : ℕ). met_of p test k 0 ev s m) q ∙ last_met p test budget 0 ev s m met,
          ),
        ),
      )
