-- A state with a mark that tells a reach past memory. This serves code alone: no sentence of the manual or the scope has it.
use Rattle.std.specs.Prelude.{ℕ, ◌%◌, Bool, eqb}
use Rattle.memory.specs.Access.{pick}
use Rattle.machine.specs.State.{with}
use Rattle.machine.specs.After.{After}
use Rattle.machine.specs.declared.state.State.{State}
use Rattle.machine.specs.declared.state.Reg.{Reg}

-- the mark of a reach, in the halt code's place: 8 where the core goes on, 9 where the reach halted it with 1
abbrev pub mark_for : ℕ → ℕ
mark_for halt = pick (eqb halt 0) 8 9

unfoldable pub marked : State → State
marked s = with s Reg.Halt (mark_for s.halt)

-- the mark taken off
unfoldable pub unmarked : State → State
unmarked s = with s Reg.Halt (s.halt % 8)

abbrev pub marked_if : Bool → State → State
marked_if past s = pick past (marked s) s

-- a step's state, marked if the step reached
abbrev pub marked_of : After → State
marked_of a = marked_if a.past a.st
