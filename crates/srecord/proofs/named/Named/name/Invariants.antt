use Prim.Native.Nat.{◌+◌, ◌-◌}
use mathlib.Core.Path.{◌≡◌}
use mathlib.Core.Bool.{◌||◌}
use Rattle.srecord.specs.Named.{any_named, naming_all}
use Rattle.srecord.proofs.named.Named.name.Given as goal

abbrev pub invariant-loop-p : goal.invariant-loop-p
invariant-loop-p l = (any_named l.n l.initial.self.words l.at ≡ (l.any || any_named (l.at + l.n - l.p) l.self.words l.p)) × (naming_all l.n l.initial.self.words l.at ≡ naming_all (l.at + l.n - l.p) l.self.words l.p)
