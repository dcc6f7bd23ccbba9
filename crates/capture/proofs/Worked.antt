-- The capture that the scope gives: M 32, a branch to itself at address 0, all else zero. Assumes nothing.
use Prim.Native.Nat.{ℕ}
use mathlib.Core.Path.{◌≡◌, refl}
use mathlib.Core.List.{List, [], ◌∷◌, ◌++◌}
use lib.ListN.{replicate}
use Rattle.memory.specs.Access.{sized_of}
use Rattle.memory.specs.Load.{value_at}
use Rattle.memory.specs.Store.{bytes_of}
use Rattle.insn.specs.declared.profile.Profile.{Profile}
use Rattle.std.specs.Prelude.{Ok}
use Rattle.machine.specs.Register.{clean_of, sound_of, check_of, check_start}
use Rattle.capture.specs.Words.{words_at, word_bytes, words_of, state_of}
use Rattle.capture.specs.Read.{state_in, formed_of, check_read, read_of, part_of}
use Rattle.capture.specs.Write.{capture_of, check_write, out_of}

abbrev memory : List ℕ
memory = 0x48 ∷ replicate 31 0

abbrev trailer : List ℕ
trailer = 0 ∷ 0 ∷ 0 ∷ 0x9C ∷ 0 ∷ 0 ∷ 0 ∷ 0x20 ∷ 0 ∷ 0 ∷ 0 ∷ 1 ∷ []

abbrev file : List ℕ
file = memory ++ replicate 144 0 ++ trailer

-- it reads, and no byte of it is lost, on either core
pub scope_reads : (p : Profile) → (read_of p file ≡ Ok (state_of (replicate 36 0))) × (part_of p file ≡ memory)
unfolding read_of part_of check_read formed_of state_in state_of words_at value_at sized_of check_start check_of sound_of clean_of
scope_reads Profile.Ppe42 = (refl, refl)
scope_reads Profile.Ppe42x = (refl, refl)

-- it is what the writer makes of its parts
pub scope_writes : (p : Profile) → out_of p (state_of (replicate 36 0)) memory (replicate 188 0xFF) ≡ file
unfolding out_of check_write capture_of words_of word_bytes bytes_of state_of sized_of check_start check_of sound_of clean_of
scope_writes Profile.Ppe42 = refl
scope_writes Profile.Ppe42x = refl
