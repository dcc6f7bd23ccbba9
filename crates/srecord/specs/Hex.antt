-- Bytes spelt by pairs of hex digits, of either case (C-15), by the places at which they stand in a text.
use Rattle.std.specs.Prelude.{ℕ, zero, suc, ◌+◌, ◌*◌, ◌-◌, Bool, true, ◌&&◌, List, [], ◌∷◌, leb, ltb, get_or}
use Rattle.memory.specs.Access.{pick}

-- the value of a letter that is a hex digit, of either case; 16 for any other character
unfoldable pub letter_of : ℕ → ℕ
letter_of c = pick (leb 65 c && leb c 70) (c - 55) (pick (leb 97 c && leb c 102) (c - 87) 16)

-- the value of a hex digit; 16 for any other character
unfoldable pub digit_of : ℕ → ℕ
digit_of c = pick (leb 48 c && leb c 57) (c - 48) (letter_of c)

-- the byte that two digits spell; 256, which is no byte, if one is none
unfoldable pub joined : ℕ → ℕ → ℕ
joined h l = pick (ltb h 16 && ltb l 16) (h * 16 + l) 256

-- the byte spelt at place i; past the end of the text there is no digit
unfoldable pub pair_at : List ℕ → ℕ → ℕ
pair_at f i = joined (digit_of (get_or f i 0)) (digit_of (get_or f (i + 1) 0))

-- n bytes spelt from place i on
unfoldable pub bytes_at : ℕ → List ℕ → ℕ → List ℕ
bytes_at zero f i = []
bytes_at (suc n) f i = pair_at f i ∷ bytes_at n f (i + 2)

-- each is a byte
unfoldable pub all_bytes : List ℕ → Bool
all_bytes [] = true
all_bytes (b ∷ bs) = ltb b 256 && all_bytes bs

unfoldable pub sum_of : List ℕ → ℕ
sum_of [] = 0
sum_of (b ∷ bs) = b + sum_of bs

-- the number whose bytes are those of v and then these, the most significant first
unfoldable pub number_from : ℕ → List ℕ → ℕ
number_from v [] = v
number_from v (b ∷ bs) = number_from (v * 256 + b) bs
