-- Line 6 of a step on a word already read, and what it leaves of the entries. This serves code alone.
use Rattle.std.specs.Prelude.{ℕ, ◌+◌, ◌%◌, ◌^◌, ◌-◌, ◌<◌, ◌≤◌, ◌≡◌, List, Ok, Err}
use Rattle.memory.specs.Access.{reaches_past}
use Rattle.memory.specs.Load.{fetch_of}
use Rattle.insn.specs.Fields.{fields_of}
use Rattle.insn.specs.declared.profile.Profile.{Profile}
use Rattle.machine.specs.After.{After}
use Rattle.machine.specs.Interrupt.{interrupted_of}
use Rattle.machine.specs.Step.{decoded_of}
use Rattle.machine.specs.declared.state.State.{State}
use Rattle.machine.specs.declared.interrupt.Cause.{Cause}
use Rattle.reading.specs.Form.{Found, made_of}
use Rattle.reading.specs.declared.form.Form.{Form}
use Rattle.entries.specs.Tags.{tag_at, set_of, Fewer, Without}

abbrev pub found_of : Profile → State → List ℕ → ℕ → Found → After
found_of p s m w (Ok d) = decoded_of p s m w d
found_of p s m w (Err f) = record { st = interrupted_of p s Cause.InstructionStorage; mem = m; past = reaches_past {A = ℕ} (Err f) }

unfoldable pub performed_of : Profile → State → List ℕ → ℕ → Form → After
performed_of p s m w form = found_of p s m w (made_of form (fields_of w))

-- the entries of what stsku may store are dropped
pub record Framed (t u : List (List ℕ)) (sp ea : ℕ) : Type 0 where
  pub fewer : Fewer t u
  pub link : Without u ((sp + 4) % 2 ^ 32) 4
  pub first : (sp + (2 ^ 32 - 8)) % 2 ^ 32 % 4 + 8 ≤ 8 → Without u ((sp + (2 ^ 32 - 8)) % 2 ^ 32) 8
  pub second : (sp + (2 ^ 32 - 16)) % 2 ^ 32 % 4 + 8 ≤ 8 → Without u ((sp + (2 ^ 32 - 16)) % 2 ^ 32) 8
  pub back : Without u ea 4

-- each entry that is left was there, and if it stands in its set, what is fetched at its address is as before
unfoldable pub Still : List (List ℕ) → List (List ℕ) → List ℕ → List ℕ → Type 0
Still t u m n = (s w a : ℕ) → w < 4 → tag_at u s w ≡ a + 1 → (tag_at t s w ≡ a + 1) × (set_of a ≡ s → fetch_of n a ≡ fetch_of m a)
