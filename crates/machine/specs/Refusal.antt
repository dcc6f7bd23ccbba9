-- The refusal numbers, of which 0 is no refusal, 6 belongs to the writing of instructions, and 11 and 12 to lines of assembly; and a check.
use Rattle.std.specs.Prelude.{ℕ, Bool, Result, Ok, Err}
use Rattle.memory.specs.Access.{pick}
use Rattle.machine.specs.declared.refusal.Refusal.{Refusal}

abbrev pub number_of : Refusal → ℕ
number_of Refusal.Memory = 1
number_of Refusal.Iar = 2
number_of Refusal.Reserved = 3
number_of Refusal.Budget = 4
number_of Refusal.Events = 5
number_of Refusal.Capture = 7
number_of Refusal.Output = 8
number_of Refusal.Record = 13
number_of Refusal.Outside = 14
number_of Refusal.Twice = 15
number_of Refusal.End = 16
number_of Refusal.Count = 17

-- what a check answers
abbrev pub Checked : Type 0
Checked = Result (Unit {0}) Refusal

-- a test, and the refusal where it fails
abbrev pub unless : Bool → Refusal → Checked
unless ok r = pick ok (Ok tt) (Err r)
