-- Where a run of the 42 can part from the run of the 42X: what its steps meet, and the bits that they write (C-16).
use Rattle.std.specs.Prelude.{ℕ, zero, suc, Bool, true, false, not, ◌&&◌, ◌||◌, List, ◌≡◌, eqb, get_or, Some, None, Option, Ok, Err}
use Rattle.std.specs.Int.Bits.{bit_and, bit_xor}
use Rattle.word.specs.Bits.{bit_at}
use Rattle.memory.specs.Load.{Loaded, fetch_of}
use Rattle.insn.specs.Read.{decode_on}
use Rattle.insn.specs.declared.profile.Profile.{Profile}
use Rattle.insn.specs.declared.instr.Instr.{Instr}
use Rattle.insn.specs.declared.instr.System.{System}
use Rattle.insn.specs.declared.instr.SprOp.{SprOp}
use Rattle.machine.specs.State.{gpr_of}
use Rattle.machine.specs.Register.{defined_of}
use Rattle.machine.specs.System.{spr_of}
use Rattle.machine.specs.Timer.{ticked_of}
use Rattle.machine.specs.Step.{step_of}
use Rattle.machine.specs.declared.state.State.{State}
use Rattle.machine.specs.declared.state.Reg.{Reg}
use Rattle.tell.specs.Fault.{raised_of}
use Rattle.tell.specs.Uses.{executes}
use Rattle.machine.specs.declared.interrupt.Cause.{Cause}
use Rattle.run.specs.Outcome.{check_run, run_outcome}

-- the bits of a register that only one profile defines
abbrev pub unshared : Reg → ℕ
unshared r = bit_xor (defined_of Profile.Ppe42 r) (defined_of Profile.Ppe42x r)

-- no instruction of the 42
abbrev pub is_illegal : Option Instr → Bool
is_illegal (Some i) = false
is_illegal None = true

-- a tw with TG set
abbrev pub sets_tg : Instr → Bool
sets_tg (Instr.Arithmetic i) = false
sets_tg (Instr.Logical i) = false
sets_tg (Instr.Compare i) = false
sets_tg (Instr.Rotate i) = false
sets_tg (Instr.LoadStore i) = false
sets_tg (Instr.Stack dd op rt ra) = false
sets_tg (Instr.Branch i) = false
sets_tg (Instr.Trap to ra rb tg) = tg
sets_tg (Instr.System i) = false
sets_tg (Instr.Cache op hint ra rb) = false

-- a one to an unshared bit, by mtspr: DBCR and TCR alone have such bits, and nothing else writes a one to either
abbrev pub move_writes : State → SprOp → ℕ → ℕ → Bool
move_writes s SprOp.Mfspr rt n = false
move_writes s SprOp.Mtspr rs n = not (eqb (bit_and (gpr_of s rs) (unshared (spr_of n))) 0)

abbrev pub system_writes : State → System → Bool
system_writes s (System.Spr op r n) = move_writes s op r n
system_writes s (System.Move op r) = false
system_writes s (System.Wrteei e) = false
system_writes s System.Rfi = false
system_writes s System.Sync = false

abbrev pub instr_writes : State → Instr → Bool
instr_writes s (Instr.Arithmetic i) = false
instr_writes s (Instr.Logical i) = false
instr_writes s (Instr.Compare i) = false
instr_writes s (Instr.Rotate i) = false
instr_writes s (Instr.LoadStore i) = false
instr_writes s (Instr.Stack dd op rt ra) = false
instr_writes s (Instr.Branch i) = false
instr_writes s (Instr.Trap to ra rb tg) = false
instr_writes s (Instr.System i) = system_writes s i
instr_writes s (Instr.Cache op hint ra rb) = false

-- asked of an instruction of the 42
abbrev pub of_instr : (Instr → Bool) → Option Instr → Bool
of_instr f (Some i) = f i
of_instr f None = false

-- asked of the word that was fetched, as the 42 reads it; no word is fetched where the fetch is not served
abbrev pub of_word : (Option Instr → Bool) → Loaded → Bool
of_word f (Ok w) = f (decode_on Profile.Ppe42 w)
of_word f (Err fault) = false

abbrev pub raises : Option Cause → Bool
raises None = false
raises (Some c) = true

-- MSR[UIE] (15) is 0 and MSR[ME] (19) is 1: a synchronous interrupt becomes a machine check. With both 0 the core halts, at the same vector on both
abbrev pub promotes : State → Bool
promotes s = not (bit_at s.msr 15) && bit_at s.msr 19

-- what line 6 of a step of the 42 meets and writes
unfoldable pub meets_illegal : State → List ℕ → Bool
meets_illegal s m = of_word is_illegal (fetch_of m s.iar)

unfoldable pub meets_check : State → List ℕ → Bool
meets_check s m = raises (raised_of Profile.Ppe42 s m) && promotes s

unfoldable pub meets_tg : State → List ℕ → Bool
meets_tg s m = of_word (of_instr sets_tg) (fetch_of m s.iar)

unfoldable pub writes_unshared : State → List ℕ → Bool
writes_unshared s m = of_word (of_instr (instr_writes s)) (fetch_of m s.iar)

-- whether one of n steps of the 42, with i taken, gets to line 6 and does f there, in the state that line 2 left; a halted core does not get there
unfoldable pub some_step : (State → List ℕ → Bool) → ℕ → ℕ → List ℕ → State → List ℕ → Bool
some_step f zero i ev s m = false
some_step f (suc n) i ev s m =
    let a = step_of Profile.Ppe42 s m (get_or ev i 0) in
    executes s (get_or ev i 0) && f (ticked_of s (get_or ev i 0)) m || some_step f n (suc i) ev a.st a.mem

-- a run of n steps of the 42, with i taken: it meets no illegal word, no machine check and no tw with TG set, and never writes a one to a bit that only one profile defines
pub record Common (n i : ℕ) (ev : List ℕ) (s : State) (m : List ℕ) : Type 0 where
  pub no_illegal : some_step meets_illegal n i ev s m ≡ false
  pub no_check : some_step meets_check n i ev s m ≡ false
  pub no_tg : some_step meets_tg n i ev s m ≡ false
  pub no_write : some_step writes_unshared n i ev s m ≡ false

-- a run that both profiles accept and that meets no illegal word and no machine check and writes no such bit, and that is not the same on both
pub record Parts (s : State) (m ev : List ℕ) (budget : ℕ) : Type 0 where
  pub accepted : (p : Profile) → check_run p s m ev budget ≡ Ok tt
  pub no_illegal : some_step meets_illegal budget 0 ev s m ≡ false
  pub no_check : some_step meets_check budget 0 ev s m ≡ false
  pub no_write : some_step writes_unshared budget 0 ev s m ≡ false
  pub differs : run_outcome Profile.Ppe42x s m ev budget ≡ run_outcome Profile.Ppe42 s m ev budget → ⊥
