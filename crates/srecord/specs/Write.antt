-- The file that is written of a memory (C-15), and what is answered and left in the output.
use Rattle.std.specs.Prelude.{ℕ, zero, suc, ◌+◌, ◌*◌, ◌-◌, ◌/◌, ◌%◌, List, [], ◌∷◌, ◌++◌, ltb, leb, length, take, drop, Result, Ok, is_ok}
use Rattle.std.specs.Result.{result_and}
use Rattle.word.specs.declared.width.Width.{Width}
use Rattle.memory.specs.Access.{pick, sized_of}
use Rattle.memory.specs.Store.{bytes_of}
use Rattle.machine.specs.Refusal.{Checked, unless}
use Rattle.machine.specs.declared.refusal.Refusal.{Refusal}
use Rattle.srecord.specs.Hex.{sum_of}

-- upper-case hex
unfoldable pub hex_digit : ℕ → ℕ
hex_digit v = pick (ltb v 10) (48 + v) (55 + v)

unfoldable pub hexes : List ℕ → List ℕ
hexes [] = []
hexes (b ∷ bs) = hex_digit (b / 16) ∷ hex_digit (b % 16) ∷ hexes bs

-- the ones' complement of the low byte of the sum
unfoldable pub check_of : List ℕ → ℕ
check_of bs = 255 - sum_of bs % 256

-- S, a type, the bytes from the count on and their check byte in hex, a line feed
unfoldable pub text_of : ℕ → List ℕ → List ℕ
text_of t bs = 83 ∷ (48 + t) ∷ (hexes bs ++ hexes (check_of bs ∷ []) ++ (10 ∷ []))

-- the S3 record of the 32 bytes from address a on: count 37, address, data
unfoldable pub block_text : ℕ → List ℕ → List ℕ
block_text a m = text_of 3 ((37 ∷ bytes_of Width.Word a) ++ take 32 (drop a m))

-- the S7 record: count 5, address 0
unfoldable pub end_text : List ℕ
end_text = text_of 7 (5 ∷ bytes_of Width.Word 0)

-- the records of n blocks from address a on
unfoldable pub blocks : ℕ → ℕ → List ℕ → List ℕ
blocks zero a m = []
blocks (suc n) a m = let r = blocks n (a + 32) m in block_text a m ++ r

unfoldable pub file_of : List ℕ → List ℕ
file_of m = blocks (length m / 32) 0 m ++ end_text

-- 79 bytes a block of m bytes of memory, and 15
abbrev pub file_length : ℕ → ℕ
file_length m = 79 * (m / 32) + 15

-- writing m bytes of memory into n of output checks 1, 8
unfoldable pub check_write : ℕ → ℕ → Checked
check_write m n = result_and (unless (sized_of m) Refusal.Memory) (unless (leb (file_length m) n) Refusal.Output)

-- how many bytes were written, or the refusal
unfoldable pub written_of : List ℕ → List ℕ → Result ℕ Refusal
written_of m out = result_and (check_write (length m) (length out)) (Ok (file_length (length m)))

-- the output with the file in front and the rest as it was; refused, as it was
unfoldable pub out_of : List ℕ → List ℕ → List ℕ
out_of m out = pick (is_ok (check_write (length m) (length out))) (file_of m ++ drop (file_length (length m)) out) out
