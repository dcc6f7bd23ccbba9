-- How far a run has come, by a state that may be marked: at its start, one step on and at its end. Assumes nothing.
use Prim.Native.Nat.{ℕ, ◌+◌, ◌-◌, ◌≤◌, ◌<◌}
use native.Mathlib.Nat.{sub-zero}
use native.Mathlib.Omega.{arith}
use mathlib.Core.Bool.{Bool, true, false, ◌||◌}
use mathlib.Core.Path.{◌≡◌, refl, ◌∙◌}
use mathlib.Core.List.{List}
use lib.Dec.{leb}
use lib.ListN.{get_or}
use borrow.Author.Tests.{le-leb, lt-leb}
use Rattle.memory.specs.Access.{pick}
use Rattle.insn.specs.declared.profile.Profile.{Profile}
use Rattle.machine.specs.After.{After}
use Rattle.machine.specs.Step.{step_of}
use Rattle.machine.specs.declared.state.State.{State}
use Rattle.machine.proofs.Halts.{step_halt, reach_halt}
use Rattle.marked.specs.Mark.{marked, unmarked, marked_if, marked_of}
use Rattle.marked.proofs.Marks.{unmarked_marked, mark_high}
use Rattle.run.specs.Run.{run_of, past_of}
use Rattle.run.proofs.Laws.{run_more, past_more}
use Rattle.engine.specs.Engine.{Leads}

-- a state without its mark
abbrev pub clean : State → State
clean s = pick (leb 8 s.halt) (unmarked s) s

pub record Going (p : Profile) (b : ℕ) (ev : List ℕ) (s₀ : State) (m₀ : List ℕ) (i : ℕ) (s : State) (m : List ℕ) : Type 0 where
  pub run : run_of p b 0 ev s₀ m₀ ≡ run_of p (b - i) i ev (clean s) m
  pub past : past_of p b 0 ev s₀ m₀ ≡ (leb 8 s.halt || past_of p (b - i) i ev (clean s) m)

module _ (p : Profile) (b : ℕ) (ev : List ℕ) (s₀ : State) (m₀ : List ℕ) where
  pub going_start : s₀.halt ≤ 5 → Going p b ev s₀ m₀ 0 s₀ m₀
  going_start h =
      let u = lt-leb 8 s₀.halt (omega (arith, h)) in
      record { run = rw (u, sub-zero); past = rw (u, sub-zero) }

  module _ (i : ℕ) (s : State) (m : List ℕ) (l : i < b) (z : s.halt ≡ 0) (g : Going p b ev s₀ m₀ i s m) where
    unmarked_yet : leb 8 s.halt ≡ false
    unmarked_yet = lt-leb 8 s.halt (omega (arith, z))

    going_by : (v : Bool) → (step_of p s m (get_or ev i 0)).past ≡ v → Going p b ev s₀ m₀ (i + 1) (marked_if v (step_of p s m (get_or ev i 0)).st) (step_of p s m (get_or ev i 0)).mem
    going_by true e =
        let t = (step_of p s m (get_or ev i 0)).st in
        let h = le-leb 8 (marked t).halt (mark_high t) in
        let o = unmarked_marked t (reach_halt p s m (get_or ev i 0) z e) in
        record {
          run = g.run ∙ (rw (unmarked_yet, h, o) (run_more p ev s m b i l z));
          past = g.past ∙ (rw (unmarked_yet, h) (past_more p ev s m b i false l z ∙ rw e refl));
        }
    going_by false e =
        let t = (step_of p s m (get_or ev i 0)).st in
        let h = lt-leb 8 t.halt (let k = step_halt p s m (get_or ev i 0) z in omega (arith, k)) in
        record {
          run = g.run ∙ (rw (unmarked_yet, h) (run_more p ev s m b i l z));
          past = g.past ∙ (rw (unmarked_yet, h) (past_more p ev s m b i false l z ∙ rw e refl));
        }

    pub going_more : (e : ℕ) (a : After) → e ≡ get_or ev i 0 → step_of p s m e ≡ a → Going p b ev s₀ m₀ (i + 1) (marked_of a) a.mem
    going_more e a h q = rw (← q, h) (going_by (step_of p s m (get_or ev i 0)).past refl)

  pub going_past : (i : ℕ) (s : State) (m : List ℕ) → leb 8 s.halt ≡ true → Going p b ev s₀ m₀ i s m → Leads p b ev s₀ m₀ (record { state = unmarked s; steps = i; past = true }) m
  going_past i s m h g = record { run = g.run ∙ rw h refl; past = g.past ∙ rw h refl }

  pub going_on : (i : ℕ) (s : State) (m : List ℕ) → leb 8 s.halt ≡ false → Going p b ev s₀ m₀ i s m → Leads p b ev s₀ m₀ (record { state = s; steps = i; past = false }) m
  going_on i s m h g = record { run = g.run ∙ rw h refl; past = g.past ∙ rw h refl }
