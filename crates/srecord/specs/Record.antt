-- The lines of a file, and the record that a line holds: S, a type, then in hex a count, an address, data and a check byte (C-15; what
-- that leaves open is docs/DECISIONS.md D43).
use Rattle.std.specs.Prelude.{ℕ, ◌+◌, ◌*◌, ◌-◌, ◌%◌, Bool, not, ◌&&◌, ◌||◌, List, [], ◌∷◌, leb, ltb, eqb, get_or}
use Rattle.memory.specs.Access.{pick}
use Rattle.srecord.specs.Hex.{pair_at, bytes_at, all_bytes, sum_of, number_from}

-- a character in front of the first line
abbrev pub onto : ℕ → List (List ℕ) → List (List ℕ)
onto c [] = (c ∷ []) ∷ []
onto c (l ∷ ls) = (c ∷ l) ∷ ls

-- the lines of a file, each with the line feed that ends it; only the last may lack one
unfoldable pub lines_of : List ℕ → List (List ℕ)
lines_of [] = []
lines_of (c ∷ cs) = let ls = lines_of cs in pick (eqb c 10) ((c ∷ []) ∷ ls) (onto c ls)

-- what a line is: malformed, or a record's type, address and data
pub data Line : Type 0 where
  malformed : Line
  holds : ℕ → ℕ → List ℕ → Line

-- S1, S2 and S3 have data for memory
abbrev pub is_data : ℕ → Bool
is_data t = leb 1 t && leb t 3

-- S9, S8 and S7 end a file
abbrev pub is_end : ℕ → Bool
is_end t = leb 7 t

-- how many bytes the address of S0, S1, .. S9 has; S4 and S6 are no types
abbrev pub widths : List ℕ
widths = 2 ∷ 2 ∷ 3 ∷ 4 ∷ 0 ∷ 2 ∷ 0 ∷ 4 ∷ 3 ∷ 2 ∷ []

unfoldable pub width_of : ℕ → ℕ
width_of t = get_or widths t 0

-- the count n takes in an address, data and the check byte; only S0 to S3 have data
unfoldable pub room_for : ℕ → ℕ → Bool
room_for t n = not (eqb (width_of t) 0) && pick (leb t 3) (ltb (width_of t) n) (eqb n (width_of t + 1))

-- from place i on: S, a type, and a count that fits it
unfoldable pub headed_at : List ℕ → ℕ → Bool
headed_at f i =
    eqb (get_or f i 0) 83 && leb 48 (get_or f (i + 1) 0) && ltb (pair_at f (i + 2)) 256 && room_for (get_or f (i + 1) 0 - 48) (pair_at f (i + 2))

-- a line feed, which a carriage return may precede
unfoldable pub ends_at : List ℕ → ℕ → Bool
ends_at f i = eqb (get_or f i 0) 10 || (eqb (get_or f i 0) 13 && eqb (get_or f (i + 1) 0) 10)

-- then as many bytes as counted, and the line's end; the check byte is the ones' complement of the low byte of the sum of count,
-- address and data, so with it the sum ends in 255
unfoldable pub formed_at : List ℕ → ℕ → Bool
formed_at f i =
    headed_at f i
    && all_bytes (bytes_at (pair_at f (i + 2)) f (i + 4))
    && ends_at f (i + 4 + 2 * pair_at f (i + 2))
    && eqb ((pair_at f (i + 2) + sum_of (bytes_at (pair_at f (i + 2)) f (i + 4))) % 256) 255

-- the record of type t whose n counted bytes stand from place i on
unfoldable pub held_at : List ℕ → ℕ → ℕ → ℕ → Line
held_at f i t n = holds t (number_from 0 (bytes_at (width_of t) f i)) (bytes_at (n - 1 - width_of t) f (i + 2 * width_of t))

-- what stands from place i on
unfoldable pub record_at : List ℕ → ℕ → Line
record_at f i = pick (formed_at f i) (held_at f (i + 4) (get_or f (i + 1) 0 - 48) (pair_at f (i + 2))) malformed

-- a line's record; a line has one line feed, so nothing follows the end
abbrev pub record_of : List ℕ → Line
record_of l = record_at l 0
