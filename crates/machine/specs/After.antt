-- What a step leaves: the state, the memory, and whether it reached past the memory.
use Rattle.std.specs.Prelude.{Bool, false, List, ℕ}
use Rattle.machine.specs.declared.state.State.{State}

pub record After : Type 0 where
  pub st : State
  pub mem : List ℕ
  pub past : Bool

-- with no access to memory
abbrev pub plain : State → List ℕ → After
plain s m = record { st = s; mem = m; past = false }
