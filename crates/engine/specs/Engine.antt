-- What the engine keeps, and how far it has come. This serves code alone: its run is Run's.
use Rattle.std.specs.Prelude.{ℕ, ◌+◌, ◌-◌, ◌<◌, ◌||◌, ◌≡◌, List, [], get_or, length}
use Rattle.insn.specs.declared.profile.Profile.{Profile}
use Rattle.machine.specs.declared.state.State.{State}
use Rattle.reading.specs.Reading.{reading_of}
use Rattle.reading.specs.declared.form.Form.{Form}
use Rattle.reading.specs.declared.reading.Reading.{Reading}
use Rattle.entries.specs.Tags.{tag_at, set_of}
use Rattle.run.specs.Run.{run_of, past_of}
use Rattle.engine.specs.declared.kept.Stretch.{Stretch}

abbrev pub kept_at : List (List Reading) → ℕ → ℕ → Reading
kept_at k s w = get_or (get_or k s []) w (record { word = 0; form = Form.Unaligned })

-- an entry with a tag stands in its set and holds the reading of the word that memory has there now
unfoldable pub Good : Profile → List (List ℕ) → List (List Reading) → List ℕ → Type 0
Good p t k m = (s w a : ℕ) → w < 4 → tag_at t s w ≡ a + 1 → (set_of a ≡ s) × (kept_at k s w ≡ reading_of p m a)

-- 64 sets of 4
pub record Sized (k : List (List Reading)) : Type 0 where
  pub sets : length k ≡ 64
  pub ways : (s : ℕ) → s < 64 → length (get_or k s []) ≡ 4

-- a run that has come so far: what is left of it is the whole, and a reach was told
pub record Leads (p : Profile) (b : ℕ) (ev : List ℕ) (s : State) (m : List ℕ) (r : Stretch) (n : List ℕ) : Type 0 where
  pub run : run_of p b 0 ev s m ≡ run_of p (b - r.steps) r.steps ev r.state n
  pub past : past_of p b 0 ev s m ≡ (r.past || past_of p (b - r.steps) r.steps ev r.state n)
