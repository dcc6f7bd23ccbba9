-- Answers are determined: any two results that meet the contract of a public operation are equal, what was lent included. Assumes nothing.
use Rattle.std.specs.Prelude.{Option}
use Prim.Native.Nat.{ℕ}
use mathlib.Core.Path.{◌≡◌, sym, ap, ◌∙◌}
use mathlib.Core.List.{List}
use lib.ListN.{length}
use Rattle.insn.specs.Read.{decode_on}
use Rattle.insn.specs.Write.{written_on}
use Rattle.insn.specs.declared.profile.Profile.{Profile}
use Rattle.insn.specs.declared.instr.Instr.{Instr}
use Rattle.asm.specs.Answer.{Assembled, Answer as LineAnswer}
use Rattle.asm.specs.Listing.{Listed, listed_of, listed_out}
use Rattle.asm.proofs.Answers.{answer_once}
use Rattle.std.specs.Prelude.{Result}
use Rattle.machine.specs.declared.state.State.{State}
use Rattle.machine.specs.declared.refusal.Refusal.{Refusal}
use Rattle.tell.specs.Told.{told_of}
use Rattle.tell.specs.Uses.{use_of}
use Rattle.tell.specs.declared.told.Told.{Told}
use Rattle.tell.specs.declared.uses.Use.{Use}
use Rattle.run.specs.Outcome.{state_left, told, run_outcome, run_memory, run_past, inside_outcome, inside_memory, step_outcome, step_memory}
use Rattle.run.specs.Lent.{answer_of}
use Rattle.run.specs.declared.outcome.Outcome.{Outcome}
use Rattle.run.specs.declared.outcome.Stop.{Stop}
use Rattle.run.specs.declared.reach.Reached.{Reached}
use Rattle.until.specs.Until.{until_outcome, until_memory}
use Rattle.capture.specs.Read.{read_of, part_of}
use Rattle.capture.specs.Write.{written_of as capture_written, out_of}
use Rattle.srecord.specs.File.{Verdict, read_of as srecord_read, memory_of as srecord_memory}
use Rattle.srecord.specs.Write.{written_of as srecord_written, out_of as srecord_out}
use Rattle.abi.specs.Captures.{check_answer, write_answer, write_out}
use Rattle.abi.specs.Records.{srec_read_answer, srec_write_answer}
use Rattle.abi_run.specs.Runs.{run_answer, run_state, run_lent, reach_answer, inside_answer, inside_state, inside_lent, step_answer, step_state, step_lent}
use Rattle.abi_until.specs.Runs.{until_answer, until_state, until_lent}
use Rattle.abi_tell.specs.Told.{tell_answer, access_answer}
use Rattle.abi_asm.specs.Words.{legal_of, rewrite_of}
use Rattle.abi_asm.specs.Lines.{Assembles, assembled_answer, listed_answer}

-- a contract that is an equation has one answer
one : {A : Type 0} {x y z : A} → x ≡ z → y ≡ z → x ≡ y
one a b = a ∙ sym b

-- and one that is two has one answer and one thing left
two : {A B : Type 0} {x y z : A} {u v w : B} → (x ≡ z) × (u ≡ w) → (y ≡ z) × (v ≡ w) → (x ≡ y) × (u ≡ v)
two a b = (one a.0 b.0, one a.1 b.1)

three : {A B C : Type 0} {x y z : A} {u v w : B} {l m n : C} → (x ≡ z) × ((u ≡ w) × (l ≡ n)) → (y ≡ z) × ((v ≡ w) × (m ≡ n)) → (x ≡ y) × ((u ≡ v) × (l ≡ m))
three a b = (one a.0 b.0, two a.1 b.1)

pub read_determined : (p : Profile) (w : ℕ) (r q : Option Instr) → r ≡ decode_on p w → q ≡ decode_on p w → r ≡ q
read_determined p w r q = one

pub write_determined : (p : Profile) (i : Instr) (r q : Option ℕ) → r ≡ written_on p i → q ≡ written_on p i → r ≡ q
write_determined p i r q = one

module _ (p : Profile) (s : State) (m : List ℕ) where
  pub run_determined : (ev : List ℕ) (budget : ℕ) (r q : Result Outcome Refusal) (m' n' : List ℕ)
      → (r ≡ run_outcome p s m ev budget) × (m' ≡ run_memory p s m ev budget) → (q ≡ run_outcome p s m ev budget) × (n' ≡ run_memory p s m ev budget) → (r ≡ q) × (m' ≡ n')
  run_determined ev budget r q m' n' = two

  pub reach_determined : (ev : List ℕ) (budget : ℕ) (r q : Result Reached Refusal) (m' n' : List ℕ)
      → (r ≡ told (run_outcome p s m ev budget) (run_past p s m ev budget)) × (m' ≡ run_memory p s m ev budget)
      → (q ≡ told (run_outcome p s m ev budget) (run_past p s m ev budget)) × (n' ≡ run_memory p s m ev budget) → (r ≡ q) × (m' ≡ n')
  reach_determined ev budget r q m' n' = two

  pub inside_determined : (ev : List ℕ) (budget : ℕ) (r q : Result Reached Refusal) (m' n' : List ℕ)
      → (r ≡ told (inside_outcome p s m ev budget) (run_past p s m ev budget)) × (m' ≡ inside_memory p s m ev budget)
      → (q ≡ told (inside_outcome p s m ev budget) (run_past p s m ev budget)) × (n' ≡ inside_memory p s m ev budget) → (r ≡ q) × (m' ≡ n')
  inside_determined ev budget r q m' n' = two

  pub until_determined : (ev stops : List ℕ) (budget : ℕ) (r q : Result Outcome Refusal) (m' n' : List ℕ)
      → (r ≡ until_outcome p s m ev stops budget) × (m' ≡ until_memory p s m ev stops budget) → (q ≡ until_outcome p s m ev stops budget) × (n' ≡ until_memory p s m ev stops budget)
      → (r ≡ q) × (m' ≡ n')
  until_determined ev stops budget r q m' n' = two

  pub step_determined : (e : ℕ) (r q : Result Outcome Refusal) (m' n' : List ℕ)
      → (r ≡ step_outcome p s m e) × (m' ≡ step_memory p s m e) → (q ≡ step_outcome p s m e) × (n' ≡ step_memory p s m e) → (r ≡ q) × (m' ≡ n')
  step_determined e r q m' n' = two

  pub lent_determined : (e : ℕ) (r q : Result Stop Refusal) (s' t' : State) (m' n' : List ℕ)
      → (r ≡ answer_of (step_outcome p s m e)) × ((s' ≡ state_left s (step_outcome p s m e)) × (m' ≡ step_memory p s m e)) → (q ≡ answer_of (step_outcome p s m e)) × ((t' ≡ state_left s (step_outcome p s m e)) × (n' ≡ step_memory p s m e))
      → (r ≡ q) × ((s' ≡ t') × (m' ≡ n'))
  lent_determined e r q s' t' m' n' = three

  pub told_determined : (e : ℕ) (r q : Told) → r ≡ told_of p s m e → q ≡ told_of p s m e → r ≡ q
  told_determined e r q = one

  pub use_determined : (e : ℕ) (r q : Option Use) → r ≡ use_of p s m e → q ≡ use_of p s m e → r ≡ q
  use_determined e r q = one

  pub capture_write_determined : (out : List ℕ) (r q : Result ℕ Refusal) (o' u' : List ℕ)
      → (r ≡ capture_written p s m out) × (o' ≡ out_of p s m out) → (q ≡ capture_written p s m out) × (u' ≡ out_of p s m out) → (r ≡ q) × (o' ≡ u')
  capture_write_determined out r q o' u' = two

pub capture_state_determined : (p : Profile) (f : List ℕ) (r q : Result State Refusal) → r ≡ read_of p f → q ≡ read_of p f → r ≡ q
capture_state_determined p f r q = one

pub capture_part_determined : (p : Profile) (f r q : List ℕ) → r ≡ part_of p f → q ≡ part_of p f → r ≡ q
capture_part_determined p f r q = one

pub srecord_read_determined : (m f : List ℕ) (r q : Verdict) (m' n' : List ℕ)
    → (r ≡ srecord_read (length m) f) × (m' ≡ srecord_memory m f) → (q ≡ srecord_read (length m) f) × (n' ≡ srecord_memory m f) → (r ≡ q) × (m' ≡ n')
srecord_read_determined m f r q m' n' = two

pub srecord_write_determined : (m out : List ℕ) (r q : Result ℕ Refusal) (o' u' : List ℕ)
    → (r ≡ srecord_written m out) × (o' ≡ srecord_out m out) → (q ≡ srecord_written m out) × (u' ≡ srecord_out m out) → (r ≡ q) × (o' ≡ u')
srecord_write_determined m out r q o' u' = two

-- the C functions, whose states are bytes
pub line_determined : (p : Profile) (s : List ℕ) (r q : Assembled) → LineAnswer p s r → LineAnswer p s q → r ≡ q
line_determined p s r q a b = answer_once p s r q a b

pub listing_determined : (p : Profile) (w : ℕ) (out : List ℕ) (r q : Listed) (o' u' : List ℕ)
    → (r ≡ listed_of (decode_on p w) out) × (o' ≡ listed_out (decode_on p w) out) → (q ≡ listed_of (decode_on p w) out) × (u' ≡ listed_out (decode_on p w) out) → (r ≡ q) × (o' ≡ u')
listing_determined p w out r q o' u' = two

pub c_assemble_determined : (p : Profile) (s : List ℕ) (r q : ℕ) → Assembles p s r → Assembles p s q → r ≡ q
c_assemble_determined p s r q a b = a.packed ∙ (ap assembled_answer (answer_once p s a.answer b.answer a.given b.given) ∙ sym b.packed)

pub c_disassemble_determined : (p : Profile) (w : ℕ) (out : List ℕ) (r q : ℕ) (o' u' : List ℕ)
    → (r ≡ listed_answer (listed_of (decode_on p w) out)) × (o' ≡ listed_out (decode_on p w) out) → (q ≡ listed_answer (listed_of (decode_on p w) out)) × (u' ≡ listed_out (decode_on p w) out) → (r ≡ q) × (o' ≡ u')
c_disassemble_determined p w out r q o' u' = two

pub c_legal_determined : (p : Profile) (w r q : ℕ) → r ≡ legal_of (decode_on p w) → q ≡ legal_of (decode_on p w) → r ≡ q
c_legal_determined p w r q = one

pub c_rewrite_determined : (p : Profile) (w r q : ℕ) → r ≡ rewrite_of p (decode_on p w) → q ≡ rewrite_of p (decode_on p w) → r ≡ q
c_rewrite_determined p w r q = one

pub c_srec_read_determined : (m f : List ℕ) (r q : ℕ) (m' n' : List ℕ)
    → (r ≡ srec_read_answer m f) × (m' ≡ srecord_memory m f) → (q ≡ srec_read_answer m f) × (n' ≡ srecord_memory m f) → (r ≡ q) × (m' ≡ n')
c_srec_read_determined m f r q m' n' = two

pub c_srec_write_determined : (m out : List ℕ) (r q : ℕ) (o' u' : List ℕ)
    → (r ≡ srec_write_answer m out) × (o' ≡ srecord_out m out) → (q ≡ srec_write_answer m out) × (u' ≡ srecord_out m out) → (r ≡ q) × (o' ≡ u')
c_srec_write_determined m out r q o' u' = two

pub c_check_determined : (p : Profile) (f : List ℕ) (r q : ℕ) → r ≡ check_answer p f → q ≡ check_answer p f → r ≡ q
c_check_determined p f r q = one

module _ (p : Profile) (s m : List ℕ) where
  pub c_run_determined : (ev : List ℕ) (budget r q : ℕ) (s' t' m' n' : List ℕ)
      → (r ≡ run_answer p s m ev budget) × ((s' ≡ run_state p s m ev budget) × (m' ≡ run_lent p s m ev budget)) → (q ≡ run_answer p s m ev budget) × ((t' ≡ run_state p s m ev budget) × (n' ≡ run_lent p s m ev budget))
      → (r ≡ q) × ((s' ≡ t') × (m' ≡ n'))
  c_run_determined ev budget r q s' t' m' n' = three

  pub c_reach_determined : (ev : List ℕ) (budget r q : ℕ) (s' t' m' n' : List ℕ)
      → (r ≡ reach_answer p s m ev budget) × ((s' ≡ run_state p s m ev budget) × (m' ≡ run_lent p s m ev budget)) → (q ≡ reach_answer p s m ev budget) × ((t' ≡ run_state p s m ev budget) × (n' ≡ run_lent p s m ev budget))
      → (r ≡ q) × ((s' ≡ t') × (m' ≡ n'))
  c_reach_determined ev budget r q s' t' m' n' = three

  pub c_inside_determined : (ev : List ℕ) (budget r q : ℕ) (s' t' m' n' : List ℕ)
      → (r ≡ inside_answer p s m ev budget) × ((s' ≡ inside_state p s m ev budget) × (m' ≡ inside_lent p s m ev budget)) → (q ≡ inside_answer p s m ev budget) × ((t' ≡ inside_state p s m ev budget) × (n' ≡ inside_lent p s m ev budget))
      → (r ≡ q) × ((s' ≡ t') × (m' ≡ n'))
  c_inside_determined ev budget r q s' t' m' n' = three

  pub c_until_determined : (ev stops : List ℕ) (budget r q : ℕ) (s' t' m' n' : List ℕ)
      → (r ≡ until_answer p s m ev stops budget) × ((s' ≡ until_state p s m ev stops budget) × (m' ≡ until_lent p s m ev stops budget))
      → (q ≡ until_answer p s m ev stops budget) × ((t' ≡ until_state p s m ev stops budget) × (n' ≡ until_lent p s m ev stops budget)) → (r ≡ q) × ((s' ≡ t') × (m' ≡ n'))
  c_until_determined ev stops budget r q s' t' m' n' = three

  pub c_step_determined : (e r q : ℕ) (s' t' m' n' : List ℕ)
      → (r ≡ step_answer p s m e) × ((s' ≡ step_state p s m e) × (m' ≡ step_lent p s m e)) → (q ≡ step_answer p s m e) × ((t' ≡ step_state p s m e) × (n' ≡ step_lent p s m e))
      → (r ≡ q) × ((s' ≡ t') × (m' ≡ n'))
  c_step_determined e r q s' t' m' n' = three

  pub c_tell_determined : (e r q : ℕ) → r ≡ tell_answer p s m e → q ≡ tell_answer p s m e → r ≡ q
  c_tell_determined e r q = one

  pub c_access_determined : (e r q : ℕ) → r ≡ access_answer p s m e → q ≡ access_answer p s m e → r ≡ q
  c_access_determined e r q = one

  pub c_write_determined : (out : List ℕ) (r q : ℕ) (o' u' : List ℕ)
      → (r ≡ write_answer p s m out) × (o' ≡ write_out p s m out) → (q ≡ write_answer p s m out) × (u' ≡ write_out p s m out) → (r ≡ q) × (o' ≡ u')
  c_write_determined out r q o' u' = two
