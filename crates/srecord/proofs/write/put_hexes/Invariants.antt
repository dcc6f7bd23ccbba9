use Prim.Native.Nat.{◌+◌, ◌*◌}
use mathlib.Core.Path.{◌≡◌}
use lib.ListN.{length, drop}
use lib.Seq.{sets}
use Rattle.srecord.specs.Write.{hexes}
use Rattle.srecord.proofs.write.put_hexes.Given as goal

abbrev pub invariant-loop-i : goal.invariant-loop-i
invariant-loop-i l = (length l.out ≡ length l.initial.out) × (sets l.initial.out l.at (hexes l.bytes) ≡ sets l.out (l.at + 2 * l.i) (hexes (drop l.i l.bytes)))
