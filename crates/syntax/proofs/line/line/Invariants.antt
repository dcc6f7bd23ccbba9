use Rattle.syntax.proofs.Walk.{spot_from}
use Rattle.syntax.specs.Inside.{pattern_of, spot_of}
use lib.ListN.{length}
use Prim.Native.Nat.{◌≤◌}
use mathlib.Core.Path.{◌≡◌}
use Rattle.syntax.proofs.line.line.Given as goal

abbrev pub invariant-loop-c : goal.invariant-loop-c
invariant-loop-c l = (l.at ≤ length l.text) × (spot_of (pattern_of l.row) l.text ≡ spot_from l.text l.row l.operands l.at l.c-index)
