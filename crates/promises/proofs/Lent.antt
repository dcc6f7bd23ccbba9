-- A loop that lends its state ends where the run ends: the same state, the same memory and as many steps. Assumes nothing.
use Prim.Native.Nat.{ℕ, zero, suc, ◌+◌}
use native.Mathlib.Nat.{add-zero, zero-add}
use native.Mathlib.Omega.{arith}
use mathlib.Core.Bool.{Bool, true, false, ◌&&◌}
use mathlib.Core.Path.{◌≡◌, refl, sym, ◌∙◌, ap}
use mathlib.Core.List.{List, [], ◌∷◌}
use lib.Dec.{eqb, leb}
use lib.ListN.{length, get_or}
use borrow.Author.Tests.{eqb-true, eqb-false}
use Rattle.insn.specs.declared.profile.Profile.{Profile}
use Rattle.std.specs.Prelude.{Result, Ok, is_ok, nat_lt}
use Rattle.machine.specs.Refusal.{unless}
use Rattle.machine.proofs.Refusals.{unless_accepts}
use Rattle.machine.specs.Register.{check_start}
use Rattle.machine.specs.Step.{step_of}
use Rattle.machine.specs.declared.state.State.{State}
use Rattle.machine.specs.declared.refusal.Refusal.{Refusal}
use Rattle.run.specs.Run.{Ran, run_of}
use Rattle.run.specs.Outcome.{events_good, check_events, check_run, check_step, accepted, state_left, step_outcome, step_memory}
use Rattle.run.specs.Lent.{answer_of, counted, after, lent_of}
use Rattle.run.specs.declared.outcome.Outcome.{Outcome}
use Rattle.run.proofs.Laws.{run_halted, run_one}
use Rattle.word.proofs.Truth.{and_left, and_right}
use Rattle.promises.proofs.Accepted.{start_again, first_ok, second_ok}

-- each event of a good list is below 64, the zeros past its end too
below : (ev : List ℕ) (i : ℕ) → events_good ev ≡ true → nat_lt (get_or ev i 0) 64 ≡ true
unfolding events_good
below [] i h = refl
below (e ∷ es) zero h = and_left (nat_lt e 64) (events_good es) h
below (e ∷ es) (suc i) h = below es i (and_right (nat_lt e 64) (events_good es) h)

-- an accepted step is a run of one
module _ (p : Profile) (s : State) (m : List ℕ) (e : ℕ) (h : check_start p s (length m) ≡ Ok tt) (l : nat_lt e 64 ≡ true) where
  one_state : step_outcome p s m e ≡ Ok (accepted (run_of p 1 0 (e ∷ []) s m))
  unfolding step_outcome check_step check_events events_good
  one_state = rw (h, l)

  one_memory : step_memory p s m e ≡ (run_of p 1 0 (e ∷ []) s m).mem
  unfolding step_memory check_step check_events events_good
  one_memory = rw (h, l)

module _ (p : Profile) (n i : ℕ) (ev : List ℕ) (s : State) (m : List ℕ) where
  abbrev one : Ran
  one = run_of p 1 0 (get_or ev i 0 ∷ []) s m

  run_next : eqb s.halt 0 ≡ true → run_of p (suc n) i ev s m ≡ run_of p n (suc i) ev (step_of p s m (get_or ev i 0)).st (step_of p s m (get_or ev i 0)).mem
  unfolding run_of
  run_next b = rw b

  -- a run is its first step and the run from there
  turn : (b : Bool) → eqb s.halt 0 ≡ b → (r : Ran) → run_of p n (suc i) ev one.st one.mem ≡ after (suc i) r → run_of p (suc n) i ev s m ≡ after i (after one.steps r)
  turn true b r h =
      let q = run_one p (get_or ev i 0) s m (eqb-true s.halt 0 b) in
      let e : suc i + r.steps ≡ i + (1 + r.steps) = omega arith in
      rw (run_next b, q) ((rw q at h) ∙ rw e)
  turn false b r h =
      let halted = eqb-false s.halt 0 b in
      let q = run_halted p (get_or ev i 0 ∷ []) s m 1 0 halted in
      let k : record { st = s; mem = m; steps = suc i } ≡ after (suc i) r = sym (run_halted p ev s m n (suc i) halted) ∙ (rw q at h) in
      let c : suc i ≡ suc i + r.steps = ap (λ (x : Ran). x.steps) k in
      let e : i ≡ i + (0 + r.steps) = omega arith in
      rw (run_halted p ev s m (suc n) i halted, q) (λ j. record { st = (k j).st; mem = (k j).mem; steps = e j })

  -- a lent turn, where the step by value is known
  lent_next : (o : Result Outcome Refusal) (x : List ℕ) → step_outcome p s m (get_or ev i 0) ≡ o → step_memory p s m (get_or ev i 0) ≡ x → lent_of p (suc n) i ev s m ≡ after (counted (answer_of o)) (lent_of p n (suc i) ev (state_left s o) x)
  unfolding lent_of
  lent_next o x t y = rw (t, y)

lent_none : (p : Profile) (i : ℕ) (ev : List ℕ) (s : State) (m : List ℕ) → run_of p 0 i ev s m ≡ after i (lent_of p 0 i ev s m)
unfolding run_of lent_of
lent_none p i ev s m = rw add-zero

lent_goes : (p : Profile) (n i : ℕ) (ev : List ℕ) → events_good ev ≡ true → (s : State) (m : List ℕ) → check_start p s (length m) ≡ Ok tt
    → run_of p n i ev s m ≡ after i (lent_of p n i ev s m)
lent_goes p zero i ev good s m h = lent_none p i ev s m
lent_goes p (suc n) i ev good s m h =
    let q = one p n i ev s m in
    let l = below ev i good in
    let rest = lent_goes p n (suc i) ev good q.st q.mem (start_again p 1 0 (get_or ev i 0 ∷ []) s m h) in
    turn p n i ev s m (eqb s.halt 0) refl (lent_of p n (suc i) ev q.st q.mem) rest
    ∙ ap (after i) (sym (lent_next p n i ev s m (Ok (accepted q)) q.mem (one_state p s m (get_or ev i 0) h l) (one_memory p s m (get_or ev i 0) h l)))

events_good_lem : (b : Bool) → unless b Refusal.Events ≡ Ok tt → b ≡ true
events_good_lem b h = unless_accepts b Refusal.Events (ap is_ok h)

-- for a start that a run accepts, as many lent steps as the budget leave what the run leaves
pub lent_run : (p : Profile) (s : State) (m : List ℕ) (ev : List ℕ) (budget : ℕ) → check_run p s m ev budget ≡ Ok tt → lent_of p budget 0 ev s m ≡ run_of p budget 0 ev s m
unfolding check_run check_events
lent_run p s m ev budget h =
    let start = first_ok (check_start p s (length m)) _ h in
    let events = second_ok (unless (leb budget 1048576) Refusal.Budget) _ (second_ok (check_start p s (length m)) _ h) in
    let good = and_right (leb (length ev) 1048576) (events_good ev) (events_good_lem _ events) in
    sym (lent_goes p budget 0 ev good s m start ∙ rw zero-add)
