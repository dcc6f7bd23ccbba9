-- Laws of the reader's answer, a way through the code each. Assumes nothing.
use Prim.Native.Nat.{ℕ}
use mathlib.Core.Bool.{true, false}
use mathlib.Core.Path.{◌≡◌}
use mathlib.Core.List.{List}
use lib.ListN.{length}
use Rattle.memory.specs.Access.{sized_of}
use Rattle.std.specs.Prelude.{is_ok}
use Rattle.machine.specs.declared.refusal.Refusal.{Refusal}
use Rattle.srecord.specs.Record.{lines_of}
use Rattle.srecord.specs.File.{start, refused_at, verdict, placed, read_of, memory_of}

module _ (m f : List ℕ) where
  pub read_unsized : sized_of (length m) ≡ false → (refused_at 0 Refusal.Memory ≡ read_of (length m) f) × (m ≡ memory_of m f)
  unfolding read_of memory_of
  read_unsized h = (rw h, rw h)

  module _ (h : sized_of (length m) ≡ true) where
    pub read_sized : verdict (length m) start 1 (lines_of f) ≡ read_of (length m) f
    unfolding read_of
    read_sized = rw h

    pub read_refused : is_ok (verdict (length m) start 1 (lines_of f)) ≡ false → m ≡ memory_of m f
    unfolding read_of memory_of
    read_refused e = rw (h, e)

    pub read_good : is_ok (verdict (length m) start 1 (lines_of f)) ≡ true → placed m (lines_of f) ≡ memory_of m f
    unfolding read_of memory_of
    read_good e = rw (h, e)
