-- Big-endian words in bytes, and the 36 words of a state in the order of a capture.
use Rattle.std.specs.Prelude.{ℕ, zero, suc, ◌+◌, ◌<◌, List, [], ◌∷◌, ◌++◌, map, get_or, take}
use Rattle.word.specs.declared.width.Width.{Width}
use Rattle.memory.specs.Load.{value_at}
use Rattle.memory.specs.Store.{bytes_of}
use Rattle.machine.specs.State.{contents_of, registers, order_of, holding}
use Rattle.machine.specs.declared.state.State.{State}

-- every number of a list is below n: bytes below 256, words below 2 ^ 32
abbrev pub Below : ℕ → List ℕ → Type 0
Below n xs = (k : ℕ) → get_or xs k 0 < n

-- n words from a place on
unfoldable pub words_at : ℕ → List ℕ → ℕ → List ℕ
words_at zero f at = []
words_at (suc n) f at = value_at Width.Word f at ∷ words_at n f (at + 4)

-- the bytes of words, one after the other
unfoldable pub word_bytes : List ℕ → List ℕ
word_bytes [] = []
word_bytes (w ∷ ws) = bytes_of Width.Word w ++ word_bytes ws

-- the eighteen registers that are no GPR, IAR, the halt code
abbrev pub others_of : State → List ℕ
others_of s = map (contents_of s) registers

-- the 36 words of a state: sixteen GPRs in rising number, then the others
unfoldable pub words_of : State → List ℕ
words_of s = s.gpr ++ others_of s

-- the state that 36 words stand for
unfoldable pub state_of : List ℕ → State
state_of ws = holding (take 16 ws) (λ r. get_or ws (16 + order_of r) 0)
