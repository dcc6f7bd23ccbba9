use Rattle.entries.proofs.Drops.{Ways}
use Rattle.entries.proofs.tags.drop_word.Given as goal

abbrev pub invariant-loop-way : goal.invariant-loop-way
invariant-loop-way l = Ways l.initial.tags l.tags l.at l.way
