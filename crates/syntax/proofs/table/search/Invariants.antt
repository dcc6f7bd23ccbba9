use Rattle.syntax.specs.Inside.{rows_from}
use Prim.Native.Nat.{◌-◌, ◌/◌}
use lib.ListN.{length}
use mathlib.Core.Path.{◌≡◌}
use Rattle.syntax.proofs.table.search.Given as goal

abbrev pub invariant-loop-n : goal.invariant-loop-n
invariant-loop-n l = rows_from (length l.rows / 28) 0 0 l.rows l.text ≡ rows_from (length l.rows / 28 - l.n) l.n l.best l.rows l.text
