use Rattle.syntax.proofs.Printing.{Going}
use Rattle.syntax.proofs.print.print.Given as goal

abbrev pub invariant-loop-c : goal.invariant-loop-c
invariant-loop-c l = Going l.initial.out l.row l.initial.q l.out l.q l.at l.c-index
