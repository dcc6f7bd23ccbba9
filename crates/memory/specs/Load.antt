-- Fetches and loads: big-endian numbers in lent memory (2.4.1).
use Rattle.std.specs.Prelude.{ℕ, ◌+◌, ◌*◌, ◌^◌, List, get_or, length, Result, Ok, Err}
use Rattle.word.specs.Width.{bytes}
use Rattle.memory.specs.Access.{Access, access_of, fetch_access_of}
use Rattle.word.specs.declared.width.Width.{Width}
use Rattle.memory.specs.declared.access.Fault.{Fault}

-- MS(a, n) of 1.2, as a number: the first byte is the most significant
unfoldable pub value_at : Width → List ℕ → ℕ → ℕ
value_at Width.Byte m a = get_or m a 0
value_at Width.Half m a = get_or m a 0 * 2 ^ 8 + get_or m (a + 1) 0
value_at Width.Word m a = get_or m a 0 * 2 ^ 24 + get_or m (a + 1) 0 * 2 ^ 16 + get_or m (a + 2) 0 * 2 ^ 8 + get_or m (a + 3) 0

-- MS(a, 8) of 1.2: the word at a is the high-order one
unfoldable pub double_at : List ℕ → ℕ → ℕ
double_at m a = value_at Width.Word m a * 2 ^ 32 + value_at Width.Word m (a + 4)

-- what an access loads, or why it is not served
abbrev pub Loaded : Type 0
Loaded = Result ℕ Fault

abbrev pub loaded : Access → ℕ → Loaded
loaded (Ok u) v = Ok v
loaded (Err f) v = Err f

unfoldable pub load_of : List ℕ → ℕ → Width → Loaded
load_of m a w = loaded (access_of (length m) a (bytes w)) (value_at w m a)

unfoldable pub load_double_of : List ℕ → ℕ → Loaded
load_double_of m a = loaded (access_of (length m) a 8) (double_at m a)

-- the word at the instruction address
unfoldable pub fetch_of : List ℕ → ℕ → Loaded
fetch_of m iar = loaded (fetch_access_of (length m) iar) (value_at Width.Word m iar)
