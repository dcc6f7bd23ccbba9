-- What the code answers of a line: bytes and numbers spelt in it, and where the parts of its record stand. It serves code, and no
-- promise speaks of it.
use Rattle.std.specs.Prelude.{ℕ, ◌+◌, ◌*◌, ◌-◌, List, eqb, get_or, Option, Some, None}
use Rattle.memory.specs.Access.{pick}
use Rattle.srecord.specs.Hex.{pair_at, bytes_at, all_bytes, sum_of, number_from}
use Rattle.srecord.specs.Record.{width_of, ends_at, headed_at, formed_at}
use Rattle.srecord.specs.declared.line.Head.{Head}
use Rattle.srecord.specs.declared.line.Record.{Record}

-- a number, unless it is the one that stands for none
abbrev pub some_but : ℕ → ℕ → Option ℕ
some_but none n = pick (eqb n none) None (Some n)

-- the sum of bytes that are spelt
abbrev pub sum_in : List ℕ → Option ℕ
sum_in bs = pick (all_bytes bs) (Some (sum_of bs)) None

unfoldable pub line_end : List ℕ → ℕ → ℕ
line_end f i = pick (eqb (get_or f i 0) 10) (i + 1) (i + 2)

unfoldable pub end_of : List ℕ → ℕ → Option ℕ
end_of f i = pick (ends_at f i) (Some (line_end f i)) None

abbrev pub kind_at : List ℕ → ℕ → ℕ
kind_at f i = get_or f (i + 1) 0 - 48

unfoldable pub head_of : List ℕ → ℕ → Option Head
head_of f i = pick (headed_at f i) (Some (record { kind = kind_at f i; width = width_of (kind_at f i); count = pair_at f (i + 2) })) None

unfoldable pub address_at : List ℕ → ℕ → ℕ
address_at f i = number_from 0 (bytes_at (width_of (kind_at f i)) f (i + 4))

unfoldable pub data_at : List ℕ → ℕ → ℕ
data_at f i = i + 4 + 2 * width_of (kind_at f i)

unfoldable pub size_at : List ℕ → ℕ → ℕ
size_at f i = pair_at f (i + 2) - 1 - width_of (kind_at f i)

unfoldable pub next_at : List ℕ → ℕ → ℕ
next_at f i = line_end f (i + 4 + 2 * pair_at f (i + 2))

-- the record that stands at place i
abbrev pub found_at : List ℕ → ℕ → Record
found_at f i = record { kind = kind_at f i; address = address_at f i; start = data_at f i; size = size_at f i; next = next_at f i }

unfoldable pub found_of : List ℕ → ℕ → Option Record
found_of f i = pick (formed_at f i) (Some (found_at f i)) None
