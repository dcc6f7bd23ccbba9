use Prim.Native.Nat.{◌/◌}
use Rattle.entries.proofs.Drops.{Part}
use Rattle.entries.proofs.tags.drop_block.Given as goal

abbrev pub invariant-loop-word : goal.invariant-loop-word
invariant-loop-word l = Part l.initial.tags l.tags (l.at / 32) l.word
