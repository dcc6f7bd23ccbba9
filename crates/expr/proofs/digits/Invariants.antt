use lib.ListN.{drop}
use mathlib.Core.Path.{◌≡◌}
use Rattle.expr.specs.Digits.{digits_from}
use Rattle.expr.proofs.digits.Given as goal

-- what is left to read gives what all of it does
abbrev pub invariant-loop-i : goal.invariant-loop-i
invariant-loop-i l = digits_from l.hex 0 l.at (drop l.at l.text) ≡ digits_from l.hex l.value l.i (drop l.i l.text)
