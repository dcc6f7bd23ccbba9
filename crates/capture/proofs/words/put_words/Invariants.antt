use Prim.Native.Nat.{◌+◌, ◌*◌}
use mathlib.Core.Path.{◌≡◌}
use lib.ListN.{length, drop}
use lib.Seq.{sets}
use Rattle.capture.specs.Words.{word_bytes}
use Rattle.capture.proofs.words.put_words.Given as goal

abbrev pub invariant-loop-k : goal.invariant-loop-k
invariant-loop-k l = (length l.out ≡ length l.initial.out) × (sets l.initial.out l.at (word_bytes l.words) ≡ sets l.out (l.at + 4 * l.k) (word_bytes (drop l.k l.words)))
