-- What the interrupt of an access that is not served notes, whichever it is. Assumes nothing.
use Prim.Native.Nat.{ℕ}
use mathlib.Core.Bool.{Bool}
use mathlib.Core.Path.{◌≡◌, refl}
use Rattle.memory.specs.declared.access.Fault.{Fault}
use Rattle.machine.specs.Interrupt.{access_noted, noted_of, cause_of}
use Rattle.machine.specs.declared.state.State.{State}

pub fault_noted : (s : State) (f : Fault) (address : ℕ) (store : Bool) → noted_of s (cause_of f address store) ≡ access_noted s address store
unfolding noted_of
fault_noted s Fault.Unaligned address store = refl
fault_noted s Fault.Outside address store = refl
