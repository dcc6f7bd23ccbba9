-- Stores of the last bytes of a value, and dcbz's block (2.4.1, 9.4.34).
use Rattle.std.specs.Prelude.{ℕ, ◌*◌, ◌/◌, ◌%◌, ◌^◌, List, [], ◌∷◌, ◌++◌, length, replicate, Ok, Err}
use Rattle.std.proofs.lemmas.List.Edits.{sets}
use Rattle.word.specs.Width.{bytes}
use Rattle.memory.specs.Access.{Access, access_of}
use Rattle.word.specs.declared.width.Width.{Width}

-- the last bytes of a value, the most significant first
unfoldable pub bytes_of : Width → ℕ → List ℕ
bytes_of Width.Byte v = v % 2 ^ 8 ∷ []
bytes_of Width.Half v = v / 2 ^ 8 % 2 ^ 8 ∷ v % 2 ^ 8 ∷ []
bytes_of Width.Word v = v / 2 ^ 24 % 2 ^ 8 ∷ v / 2 ^ 16 % 2 ^ 8 ∷ v / 2 ^ 8 % 2 ^ 8 ∷ v % 2 ^ 8 ∷ []

-- the eight bytes of a doubleword: its high-order word first
abbrev pub double_bytes : ℕ → List ℕ
double_bytes v = bytes_of Width.Word (v / 2 ^ 32) ++ bytes_of Width.Word (v % 2 ^ 32)

-- memory with those bytes from address a on, if the access is served
abbrev pub written : Access → List ℕ → ℕ → List ℕ → List ℕ
written (Ok u) m a bs = sets m a bs
written (Err f) m a bs = m

unfoldable pub stored_of : List ℕ → ℕ → Width → ℕ → List ℕ
stored_of m a w v = written (access_of (length m) a (bytes w)) m a (bytes_of w v)

unfoldable pub stored_double_of : List ℕ → ℕ → ℕ → List ℕ
stored_double_of m a v = written (access_of (length m) a 8) m a (double_bytes v)

-- the aligned block of 32 bytes that holds an address
abbrev pub block_at : ℕ → ℕ
block_at a = a / 32 * 32

unfoldable pub cleared_of : List ℕ → ℕ → List ℕ
cleared_of m a = written (access_of (length m) (block_at a) 32) m (block_at a) (replicate 32 0)
