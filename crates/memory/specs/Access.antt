-- What becomes of an access. The manual leaves alignment and addressability to the board (2.4, 2.4.2); this is the board's rule.
use Rattle.std.specs.Prelude.{ℕ, ◌+◌, ◌%◌, Bool, true, false, not, ◌&&◌, ◌||◌, leb, eqb, Result, Ok, Err}
use Rattle.memory.specs.declared.access.Fault.{Fault}

-- one of two, by a test
abbrev pub pick : {A : Type 0} → Bool → A → A → A
pick true a b = a
pick false a b = b

abbrev pub aligned_of : ℕ → ℕ → Bool
aligned_of a n = eqb (a % n) 0

-- n bytes at address a are aligned, or unaligned but wholly inside one aligned group of eight bytes (docs/DECISIONS.md D27)
abbrev pub placed_of : ℕ → ℕ → Bool
placed_of a n = aligned_of a n || leb (a % 8 + n) 8

-- an access is served, or not for a fault
abbrev pub Access : Type 0
Access = Result Unit Fault

-- so placed, then inside: it ends in m bytes of memory
abbrev pub judged : Bool → ℕ → ℕ → Access
judged placed past m = pick placed (pick (leb past m) (Ok tt) (Err Fault.Outside)) (Err Fault.Unaligned)

-- n bytes at address a, in m bytes of memory
unfoldable pub access_of : ℕ → ℕ → ℕ → Access
access_of m a n = judged (placed_of a n) (a + n) m

-- the word of an instruction: its address is always aligned (2.4.2)
unfoldable pub fetch_access_of : ℕ → ℕ → Access
fetch_access_of m a = pick (aligned_of a 4) (access_of m a 4) (Err Fault.Unaligned)

-- an access, or what was loaded by one, fell outside 0 to m - 1, and was no alignment interrupt
abbrev pub reaches_past : {A : Type 0} → Result A Fault → Bool
reaches_past (Ok v) = false
reaches_past (Err Fault.Unaligned) = false
reaches_past (Err Fault.Outside) = true

-- M is a multiple of 32, from 32 to 1,048,576
unfoldable pub sized_of : ℕ → Bool
sized_of m = not (eqb m 0) && eqb (m % 32) 0 && leb m 1048576
