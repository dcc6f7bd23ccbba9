-- Laws of the run that a stop ends: one step on, at a stop and at its end. Assumes nothing.
use Prim.Native.Nat.{ℕ, suc, ◌+◌, ◌-◌, ◌≤◌, ◌<◌}
use native.Mathlib.Omega.{arith}
use native.Mathlib.Numerals.{add-one}
use mathlib.Core.Bool.{Bool, true, false}
use mathlib.Core.Path.{◌≡◌, refl}
use mathlib.Core.List.{List}
use lib.ListN.{get_or}
use borrow.Author.Tests.{eq-eqb}
use Rattle.memory.specs.Access.{pick}
use Rattle.insn.specs.declared.profile.Profile.{Profile}
use Rattle.machine.specs.Step.{step_of}
use Rattle.machine.specs.declared.state.State.{State}
use Rattle.run.specs.Run.{Ran, run_of}
use Rattle.until.specs.Until.{stop_at, until_of}

-- what the run leaves with i of b steps taken
abbrev pub rest_of : Profile → List ℕ → ℕ → ℕ → List ℕ → State → List ℕ → Ran
rest_of p stops b i ev s m = run_of p (until_of p stops (b - i) i ev s m) i ev s m

-- and where the last of them came to a stop or not
abbrev pub left_of : Profile → List ℕ → ℕ → ℕ → Bool → List ℕ → State → List ℕ → Ran
left_of p stops b i stopped ev s m = pick stopped (record { st = s; mem = m; steps = i }) (rest_of p stops b i ev s m)

module _ (p : Profile) (stops ev : List ℕ) (s : State) (m : List ℕ) (b i : ℕ) where
  pub rest_more : i < b → s.halt ≡ 0
      → (let a = step_of p s m (get_or ev i 0) in stop_at stops a.st.iar ≡ false → rest_of p stops b i ev s m ≡ rest_of p stops b (i + 1) ev a.st a.mem)
  unfolding run_of until_of
  rest_more l z h =
      let e : b - i ≡ suc (b - (i + 1)) = omega arith in
      rw (e, h, eq-eqb s.halt 0 z, add-one) refl

  pub rest_stopped : i < b → s.halt ≡ 0
      → (let a = step_of p s m (get_or ev i 0) in stop_at stops a.st.iar ≡ true → rest_of p stops b i ev s m ≡ record { st = a.st; mem = a.mem; steps = i + 1 })
  unfolding run_of until_of
  rest_stopped l z h =
      let e : b - i ≡ suc (b - (i + 1)) = omega arith in
      let c : until_of p stops (b - i) i ev s m ≡ 1 = rw (e, h) in
      rw (c, eq-eqb s.halt 0 z, add-one) refl

  left_by : (v : Bool) → i < b → s.halt ≡ 0
      → (let a = step_of p s m (get_or ev i 0) in stop_at stops a.st.iar ≡ v → rest_of p stops b i ev s m ≡ left_of p stops b (i + 1) v ev a.st a.mem)
  left_by true = rest_stopped
  left_by false = rest_more

  pub left_more : i < b → s.halt ≡ 0
      → (let a = step_of p s m (get_or ev i 0) in rest_of p stops b i ev s m ≡ left_of p stops b (i + 1) (stop_at stops a.st.iar) ev a.st a.mem)
  left_more l z = left_by _ l z refl

  pub rest_spent : b ≤ i → rest_of p stops b i ev s m ≡ record { st = s; mem = m; steps = i }
  unfolding run_of until_of
  rest_spent h =
      let e : b - i ≡ 0 = omega arith in
      rw e
