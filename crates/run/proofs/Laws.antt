-- Laws of the run and of its reach, one step on and at the ends, of the event list, one byte on, and of a run that is accepted. Assumes nothing.
use Prim.Native.Nat.{ℕ, zero, suc, ◌+◌, ◌-◌, ◌≤◌, ◌<◌}
use native.Mathlib.Omega.{arith}
use native.Mathlib.Numerals.{add-one}
use mathlib.Core.Bool.{Bool, true, false, ◌||◌}
use mathlib.Core.Path.{◌≡◌, refl, ap}
use mathlib.Core.List.{List, [], ◌∷◌}
use lib.ListN.{length, get_or, drop, drop_of_length-le}
use lib.Seq.{drop-cons}
use borrow.Author.Tests.{eq-eqb, ne_eqb, lt-ltb, le-ltb}
use Rattle.std.specs.Prelude.{Ok, is_ok}
use Rattle.memory.specs.Access.{pick}
use Rattle.insn.specs.declared.profile.Profile.{Profile}
use Rattle.machine.specs.declared.state.State.{State}
use Rattle.machine.specs.Register.{check_start}
use Rattle.machine.specs.Step.{step_of}
use Rattle.machine.proofs.Refusals.{and_accepts, start_accepts, accepted_halt}
use Rattle.run.specs.Run.{run_of, past_of}
use Rattle.run.specs.Outcome.{events_good, check_run}

module _ (p : Profile) (ev : List ℕ) (s : State) (m : List ℕ) where
  pub run_more : (b i : ℕ) → i < b → s.halt ≡ 0
      → run_of p (b - i) i ev s m ≡ run_of p (b - (i + 1)) (i + 1) ev (step_of p s m (get_or ev i 0)).st (step_of p s m (get_or ev i 0)).mem
  unfolding run_of
  run_more b i h z =
      let e : b - i ≡ suc (b - (i + 1)) = omega arith in
      rw (e, eq-eqb s.halt 0 z, add-one)

  pub run_spent : (b i : ℕ) → b ≤ i → run_of p (b - i) i ev s m ≡ record { st = s; mem = m; steps = i }
  unfolding run_of
  run_spent b i h =
      let e : b - i ≡ 0 = omega arith in
      rw e

  pub run_halted : (n i : ℕ) → (s.halt ≡ 0 → ⊥) → run_of p n i ev s m ≡ record { st = s; mem = m; steps = i }
  unfolding run_of
  run_halted zero i h = refl
  run_halted (suc n) i h = rw (ne_eqb s.halt 0 h)

-- a run whose first steps reached, or not, and whose next one did, or not
turn_past : (t q r : Bool) → (t || pick q true r) ≡ ((t || q) || r)
turn_past true q r = refl
turn_past false true r = refl
turn_past false false r = refl

module _ (p : Profile) (ev : List ℕ) (s : State) (m : List ℕ) where
  pub past_more : (b i : ℕ) (t : Bool) → i < b → s.halt ≡ 0
      → (t || past_of p (b - i) i ev s m) ≡ ((t || (step_of p s m (get_or ev i 0)).past) || past_of p (b - (i + 1)) (i + 1) ev (step_of p s m (get_or ev i 0)).st (step_of p s m (get_or ev i 0)).mem)
  unfolding past_of
  past_more b i t h z =
      let e : b - i ≡ suc (b - (i + 1)) = omega arith in
      rw (e, eq-eqb s.halt 0 z, add-one) (turn_past t (step_of p s m (get_or ev i 0)).past _)

  pub past_spent : (b i : ℕ) → b ≤ i → past_of p (b - i) i ev s m ≡ false
  unfolding past_of
  past_spent b i h =
      let e : b - i ≡ 0 = omega arith in
      rw e

  pub past_halted : (n i : ℕ) → (s.halt ≡ 0 → ⊥) → past_of p n i ev s m ≡ false
  unfolding past_of
  past_halted zero i h = refl
  past_halted (suc n) i h = rw (ne_eqb s.halt 0 h)

-- a run of one step
pub run_one : (p : Profile) (e : ℕ) (s : State) (m : List ℕ) → s.halt ≡ 0
    → run_of p 1 0 (e ∷ []) s m ≡ record { st = (step_of p s m e).st; mem = (step_of p s m e).mem; steps = 1 }
unfolding run_of
run_one p e s m z = rw (eq-eqb s.halt 0 z)

-- one event byte more, a bad one, and the end of the list
pub good_more : (ev : List ℕ) (i : ℕ) → i < length ev → get_or ev i 0 < 64 → events_good (drop i ev) ≡ events_good (drop (i + 1) ev)
unfolding events_good
good_more ev i h l = rw (drop-cons ev i 0 h, lt-ltb (get_or ev i 0) 64 l, add-one)

pub bad_here : (ev : List ℕ) (i : ℕ) → i < length ev → 64 ≤ get_or ev i 0 → events_good (drop i ev) ≡ false
unfolding events_good
bad_here ev i h l = rw (drop-cons ev i 0 h, le-ltb (get_or ev i 0) 64 l)

pub good_end : (ev : List ℕ) (i : ℕ) → length ev ≤ i → events_good (drop i ev) ≡ true
unfolding events_good
good_end ev i h = rw (drop_of_length-le ev h)

-- an accepted run starts with one of the halt codes
pub run_halt : (p : Profile) (s : State) (m ev : List ℕ) (budget : ℕ) → check_run p s m ev budget ≡ Ok tt → s.halt ≤ 5
unfolding check_run
run_halt p s m ev budget h = accepted_halt p s (start_accepts p s (length m) (and_accepts (check_start p s (length m)) _ (ap is_ok h)).0).1
