-- Laws of loops over marked steps: what a loop that a mark ends is yet to leave, at its start, one step on and at its ends; and what a mark tells. Assumes nothing.
use Prim.Native.Nat.{ℕ, suc, ◌+◌, ◌-◌, ◌≤◌, ◌<◌}
use native.Mathlib.Omega.{arith}
use native.Mathlib.Numerals.{add-one}
use native.Mathlib.Nat.{sub-zero}
use mathlib.Core.Bool.{Bool, true, false}
use mathlib.Core.Path.{◌≡◌, refl}
use mathlib.Core.List.{List}
use lib.Dec.{leb}
use lib.ListN.{get_or}
use borrow.Author.Tests.{eq-eqb, le-leb, lt-leb}
use Rattle.memory.specs.Access.{pick}
use Rattle.marked.specs.Mark.{marked, unmarked, marked_if, marked_of}
use Rattle.insn.specs.declared.profile.Profile.{Profile}
use Rattle.machine.specs.Step.{step_of}
use Rattle.machine.specs.declared.state.State.{State}
use Rattle.machine.proofs.Halts.{step_halt, reach_halt}
use Rattle.marked.proofs.Marks.{unmarked_marked, mark_high}
use Rattle.run.specs.Run.{Ran, run_of, past_of, inside_of}
use Rattle.run.proofs.Laws.{run_halted, past_spent, past_halted}

-- a marked state is the last
abbrev pub rest_of : (p : Profile) → ℕ → ℕ → List ℕ → State → List ℕ → Ran
rest_of p b i ev s m = pick (leb 8 s.halt) (record { st = unmarked s; mem = m; steps = i }) (run_of p (inside_of p (b - i) i ev s m) i ev s m)

abbrev pub rest_past : (p : Profile) → ℕ → ℕ → List ℕ → State → List ℕ → Bool
rest_past p b i ev s m = pick (leb 8 s.halt) true (past_of p (b - i) i ev s m)

pub rest_start : (p : Profile) (ev : List ℕ) (s : State) (m : List ℕ) (b : ℕ) → s.halt ≤ 5
    → (run_of p (inside_of p b 0 ev s m) 0 ev s m ≡ rest_of p b 0 ev s m) × (past_of p b 0 ev s m ≡ rest_past p b 0 ev s m)
rest_start p ev s m b h =
    let u = lt-leb 8 s.halt (omega (arith, h)) in
    (rw (u, sub-zero), rw (u, sub-zero))

module _ (p : Profile) (ev : List ℕ) (s : State) (m : List ℕ) (b i : ℕ) (l : i < b) (z : s.halt ≡ 0) where
  one_less : b - i ≡ suc (b - (i + 1))
  one_less = omega arith

  unmarked_yet : leb 8 s.halt ≡ false
  unmarked_yet = lt-leb 8 s.halt (omega (arith, z))

  rest_by : (v : Bool) → (step_of p s m (get_or ev i 0)).past ≡ v
      → rest_of p b i ev s m ≡ rest_of p b (i + 1) ev (marked_if v (step_of p s m (get_or ev i 0)).st) (step_of p s m (get_or ev i 0)).mem
  unfolding run_of inside_of
  rest_by true e =
      let t = (step_of p s m (get_or ev i 0)).st in
      rw (unmarked_yet, one_less, e, eq-eqb s.halt 0 z, le-leb 8 (marked t).halt (mark_high t), unmarked_marked t (reach_halt p s m (get_or ev i 0) z e), add-one) refl
  rest_by false e =
      let h = step_halt p s m (get_or ev i 0) z in
      rw (unmarked_yet, one_less, e, eq-eqb s.halt 0 z, lt-leb 8 (step_of p s m (get_or ev i 0)).st.halt (omega (arith, h)), add-one) refl

  pub rest_more : (let a = step_of p s m (get_or ev i 0) in rest_of p b i ev s m ≡ rest_of p b (i + 1) ev (marked_of a) a.mem)
  rest_more = rest_by (step_of p s m (get_or ev i 0)).past refl

  past_by : (v : Bool) → (step_of p s m (get_or ev i 0)).past ≡ v
      → rest_past p b i ev s m ≡ rest_past p b (i + 1) ev (marked_if v (step_of p s m (get_or ev i 0)).st) (step_of p s m (get_or ev i 0)).mem
  unfolding past_of
  past_by true e =
      let t = (step_of p s m (get_or ev i 0)).st in
      rw (unmarked_yet, one_less, e, eq-eqb s.halt 0 z, le-leb 8 (marked t).halt (mark_high t)) refl
  past_by false e =
      let h = step_halt p s m (get_or ev i 0) z in
      rw (unmarked_yet, one_less, e, eq-eqb s.halt 0 z, lt-leb 8 (step_of p s m (get_or ev i 0)).st.halt (omega (arith, h)), add-one) refl

  pub rest_past_more : (let a = step_of p s m (get_or ev i 0) in rest_past p b i ev s m ≡ rest_past p b (i + 1) ev (marked_of a) a.mem)
  rest_past_more = past_by (step_of p s m (get_or ev i 0)).past refl

module _ (p : Profile) (ev : List ℕ) (s : State) (m : List ℕ) (b i : ℕ) where
  abbrev Over : Type 0
  Over = (run_of p (inside_of p (b - i) i ev s m) i ev s m ≡ record { st = s; mem = m; steps = i }) × (past_of p (b - i) i ev s m ≡ false)

  pub over_spent : b ≤ i → Over
  unfolding inside_of run_of
  over_spent h =
      let e : b - i ≡ 0 = omega arith in
      (rw e, past_spent p ev s m b i h)

  pub over_halted : (s.halt ≡ 0 → ⊥) → Over
  over_halted h = (run_halted p ev s m _ i h, past_halted p ev s m _ i h)

module _ (p : Profile) (s : State) (m : List ℕ) (e : ℕ) (z : s.halt ≡ 0) where
  told_by : (v : Bool) → (step_of p s m e).past ≡ v → 8 ≤ (marked_if v (step_of p s m e).st).halt → (v ≡ true) × (unmarked (marked_if v (step_of p s m e).st) ≡ (step_of p s m e).st)
  told_by true q h = (refl, unmarked_marked (step_of p s m e).st (reach_halt p s m e z q))
  told_by false q h = absurd (let k = step_halt p s m e z in omega (arith, k, h))

  -- a mark tells a reach, and taken off it leaves the step's state
  pub told : 8 ≤ (marked_of (step_of p s m e)).halt → ((step_of p s m e).past ≡ true) × (unmarked (marked_of (step_of p s m e)) ≡ (step_of p s m e).st)
  told = told_by (step_of p s m e).past refl

  untold_by : (v : Bool) → (step_of p s m e).past ≡ v → (marked_if v (step_of p s m e).st).halt < 8 → (v ≡ false) × (marked_if v (step_of p s m e).st ≡ (step_of p s m e).st)
  untold_by true q h = absurd (let k = mark_high (step_of p s m e).st in omega (arith, k, h))
  untold_by false q h = (refl, refl)

  pub untold : (marked_of (step_of p s m e)).halt < 8 → ((step_of p s m e).past ≡ false) × (marked_of (step_of p s m e) ≡ (step_of p s m e).st)
  untold = untold_by (step_of p s m e).past refl
