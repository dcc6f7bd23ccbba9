-- The run that ends with the first step that reaches past its memory: one that did not reach is the plain run, and one that did took the steps to the first reach. Assumes nothing.
use Prim.Native.Nat.{ℕ, zero, suc, ◌-◌}
use mathlib.Core.Bool.{Bool, true, false}
use mathlib.Core.Path.{◌≡◌, refl}
use mathlib.Core.List.{List}
use lib.ListN.{get_or}
use Rattle.insn.specs.declared.profile.Profile.{Profile}
use Rattle.machine.specs.After.{After}
use Rattle.machine.specs.Step.{step_of}
use Rattle.machine.specs.declared.state.State.{State}
use Rattle.run.specs.Run.{run_of, past_of, inside_of}
use Rattle.std.specs.Prelude.{Ok}
use Rattle.run.specs.Outcome.{accepted, steps_of, check_run, run_outcome, run_memory, run_past, inside_outcome, inside_memory}
use Rattle.promises.proofs.Cut.{met_of, cut_of, cut_is_run, cut_ends_first}

abbrev reached : After → Bool
reached a = a.past

past_met : (p : Profile) (n i : ℕ) (ev : List ℕ) (s : State) (m : List ℕ) → past_of p n i ev s m ≡ met_of p reached n i ev s m
unfolding past_of met_of
past_met p zero i ev s m = refl
past_met p (suc n) i ev s m = rw (past_met p n (suc i) ev (step_of p s m (get_or ev i 0)).st (step_of p s m (get_or ev i 0)).mem)

inside_cut : (p : Profile) (n i : ℕ) (ev : List ℕ) (s : State) (m : List ℕ) → inside_of p n i ev s m ≡ cut_of p reached n i ev s m
unfolding inside_of cut_of
inside_cut p zero i ev s m = refl
inside_cut p (suc n) i ev s m = rw (inside_cut p n (suc i) ev (step_of p s m (get_or ev i 0)).st (step_of p s m (get_or ev i 0)).mem)

module _ (p : Profile) (s : State) (m ev : List ℕ) (budget : ℕ) where
  -- not reached: outcome and memory are the plain run's with the whole budget
  pub inside_is_run : run_past p s m ev budget ≡ false → (inside_outcome p s m ev budget ≡ run_outcome p s m ev budget) × (inside_memory p s m ev budget ≡ run_memory p s m ev budget)
  unfolding run_past inside_outcome inside_memory run_outcome run_memory
  inside_is_run h = rw (inside_cut p budget 0 ev s m) (cut_is_run p reached (check_run p s m ev budget) s m ev budget (rw (past_met p budget 0 ev s m) at h))

  -- reached: they are those of the run of as many steps as it took, the last of which reached and none before
  pub inside_ends_first : run_past p s m ev budget ≡ true
      → (let n = steps_of (inside_outcome p s m ev budget) in
      (inside_outcome p s m ev budget ≡ Ok (accepted (run_of p n 0 ev s m))) × ((inside_memory p s m ev budget ≡ (run_of p n 0 ev s m).mem) × ((past_of p (n - 1) 0 ev s m ≡ false) × (past_of p n 0 ev s m ≡ true))))
  unfolding run_past inside_outcome inside_memory
  inside_ends_first h =
      let f = cut_ends_first p reached (check_run p s m ev budget) s m ev budget (rw (past_met p budget 0 ev s m) at h) in
      rw (inside_cut p budget 0 ev s m) (f.0, (f.1.0, (rw past_met f.1.1.0, rw past_met f.1.1.1)))
