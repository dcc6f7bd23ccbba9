-- A step taken apart: what its lines 2 to 5 leave, and whether line 6 comes. This serves code alone; Step has the six lines.
use Rattle.std.specs.Prelude.{ℕ, false, not, Option, Some, None}
use Rattle.word.specs.Bits.{bit_at}
use Rattle.memory.specs.Access.{pick}
use Rattle.insn.specs.declared.profile.Profile.{Profile}
use Rattle.machine.specs.Interrupt.{entered_of}
use Rattle.machine.specs.Timer.{ticked_of, acts_of, acted_of}
use Rattle.machine.specs.Step.{highest_of}
use Rattle.machine.specs.declared.interrupt.Vector.{Vector}
use Rattle.machine.specs.declared.state.State.{State}
use Rattle.ready.specs.declared.lines.Ready.{Ready}

-- lines 4 and 5
abbrev pub awaited_of : Profile → State → Option Vector → Ready
awaited_of p s (Some v) = record { state = entered_of p s v; runs = false }
awaited_of p s None = record { state = s; runs = not (bit_at s.msr 13) }

-- lines 2 to 5
unfoldable pub ready_of : Profile → State → ℕ → Ready
ready_of p s e =
    let t = ticked_of s e in
    pick (acts_of s e) (record { state = acted_of t; runs = false }) (awaited_of p t (highest_of t e))
