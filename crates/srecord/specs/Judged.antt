-- What the code's check of a record answers, for any addresses that its words stand for. It serves code.
use Rattle.std.specs.Prelude.{ℕ, true, ◌≡◌, List, ◌++◌, is_ok}
use Rattle.machine.specs.Refusal.{Checked}
use Rattle.srecord.specs.File.{Seen, places, check_data, check_record, after}
use Rattle.srecord.specs.Named.{StandsFor}
use Rattle.srecord.specs.declared.check.Sofar.{Sofar}

abbrev pub seen_of : Sofar → List ℕ → Seen
seen_of s named = record { kind = s.kind; count = s.count; named = named; ended = s.ended }

pub record DataJudged (m : ℕ) (s : Sofar) (t a n : ℕ) (r : Checked) (ws named : List ℕ) : Type 0 where
  pub refusal : r ≡ check_data m (seen_of s named) t a n
  pub words : is_ok r ≡ true → StandsFor ws (places a n ++ named)

pub record Judged (m : ℕ) (s : Sofar) (t a n : ℕ) (r : Checked) (ws named : List ℕ) : Type 0 where
  pub refusal : r ≡ check_record m (seen_of s named) t a n
  pub words : is_ok r ≡ true → StandsFor ws (after (seen_of s named) t a n).named
