-- Laws of bytes spelt in hex. Assumes nothing.
use Prim.Native.Nat.{ℕ, zero, suc, ◌+◌, ◌*◌, ◌-◌, ◌%◌, ◌≤◌, ◌<◌}
use native.Mathlib.Omega.{arith}
use native.Mathlib.Nat.{add_assoc, add-zero}
use mathlib.Core.Bool.{Bool, true, false, ◌&&◌}
use mathlib.Core.Path.{◌≡◌, refl, ap}
use mathlib.Core.List.{List, ◌∷◌}
use lib.Bits.{bit_or}
use lib.Dec.{ltb, eqb, lit≤}
use lib.ListN.{set, get_or}
use lib.Seq.{sets}
use native.Mathlib.Numerals.{add-one}
use Rattle.word.proofs.Truth.{and_true}
use Rattle.word.proofs.Below.{same_at}
use borrow.Author.Tests.{lt-ltb, le-ltb, ltb-true, eqb-true, eqb-false, ne_eqb}
use Rattle.memory.specs.Access.{pick}
use Rattle.std.specs.Bool.{then_some}
use Rattle.std.specs.Prelude.{Option, Some, None}
use Rattle.srecord.specs.Hex.{letter_of, digit_of, joined, pair_at, bytes_at, all_bytes, sum_of, number_from}
use Rattle.srecord.specs.Found.{some_but}
use Rattle.srecord.proofs.Formed.{decide}

-- the code's value of a letter and of a digit, at all 256 characters
abbrev letter_from : ℕ → ℕ
letter_from p = pick (ltb p 6) (p + 10) 16

abbrev letter_at : ℕ → ℕ
letter_at c = (bit_or c 32 + 159) % 256

abbrev digit_at : ℕ → ℕ
digit_at c = (c + 208) % 256

letters : (c : ℕ) → c < 256 → letter_from (letter_at c) ≡ letter_of c
unfolding letter_of
letters c h = same_at (λ i c. letter_from (letter_at c)) (λ i c. letter_of c) 1 256 tt 0 c (lit≤ tt) h

pub letter_yes : (c : ℕ) → c < 256 → (bit_or c 32 + 159) % 256 < 6 → (bit_or c 32 + 159) % 256 + 10 ≡ letter_of c
letter_yes c h l = rw (lt-ltb (letter_at c) 6 l) at (letters c h)

pub letter_no : (c : ℕ) → c < 256 → 6 ≤ (bit_or c 32 + 159) % 256 → 16 ≡ letter_of c
letter_no c h l = rw (le-ltb (letter_at c) 6 l) at (letters c h)

digits : (c : ℕ) → c < 256 → pick (ltb (digit_at c) 10) (digit_at c) (letter_of c) ≡ digit_of c
unfolding digit_of letter_of
digits c h = same_at (λ i c. pick (ltb (digit_at c) 10) (digit_at c) (letter_of c)) (λ i c. digit_of c) 1 256 tt 0 c (lit≤ tt) h

pub digit_yes : (c : ℕ) → c < 256 → (c + 208) % 256 < 10 → (c + 208) % 256 ≡ digit_of c
digit_yes c h l = rw (lt-ltb (digit_at c) 10 l) at (digits c h)

pub digit_no : (c : ℕ) → c < 256 → 10 ≤ (c + 208) % 256 → letter_of c ≡ digit_of c
digit_no c h l = rw (le-ltb (digit_at c) 10 l) at (digits c h)

pub both_digits : (h l : ℕ) → (ltb h 16 && ltb l 16) ≡ true → (h < 16) × (l < 16)
both_digits h l e = let q = and_true (ltb h 16) (ltb l 16) e in (ltb-true h 16 q.0, ltb-true l 16 q.1)

-- a value where a test holds
pub some_where : {A : Type 0} (b : Bool) (x : A) → then_some b x ≡ pick b (Some x) None
some_where true x = refl
some_where false x = refl

-- a number that may stand for none
but_cases : (none n : ℕ) (b : Bool) → eqb n none ≡ b → pick b None (Some n) ≡ None → n ≡ none
but_cases none n true e h = eqb-true n none e
but_cases none n false e h = cc

pub but_none : (none n : ℕ) → some_but none n ≡ None → n ≡ none
but_none none n h = but_cases none n (eqb n none) refl h

some_cases : (none n v : ℕ) (b : Bool) → eqb n none ≡ b → pick b None (Some n) ≡ Some v → (n ≡ v) × (n ≡ none → ⊥)
some_cases none n v true e h = let z : ◌≡◌ {A = ℕ} 0 1 = cc in absurd (omega arith)
some_cases none n v false e h = (cc, eqb-false n none e)

pub but_some : (none n v : ℕ) → some_but none n ≡ Some v → (n ≡ v) × (n ≡ none → ⊥)
but_some none n v h = some_cases none n v (eqb n none) refl h

pub pair_le : (p : ℕ) (f : List ℕ) → pair_at f p ≤ 256
unfolding pair_at joined
pair_le p f =
    decide (ltb (digit_of (get_or f p 0)) 16 && ltb (digit_of (get_or f (p + 1) 0)) 16)
    (λ e. rw e (omega (arith, both_digits (digit_of (get_or f p 0)) (digit_of (get_or f (p + 1) 0)) e)))
    (λ e. rw e (omega arith))

pub bytes_more : (n p : ℕ) (f : List ℕ) → 0 < n → bytes_at n f p ≡ pair_at f p ∷ bytes_at (n - 1) f (p + 2)
unfolding bytes_at
bytes_more zero p f h = absurd (omega arith)
bytes_more (suc n) p f h =
    let e : suc n - 1 ≡ n = omega arith in
    rw e

-- the byte that two digits spell, or none
pub pair_yes : (h l : ℕ) → (ltb h 16 && ltb l 16) ≡ true → Some (h * 16 + l) ≡ some_but 256 (joined h l)
unfolding joined
pair_yes h l e = let q = both_digits h l e in rw (e, ne_eqb (h * 16 + l) 256 (λ z. absurd (omega arith)))

pub pair_no : (h l : ℕ) → (ltb h 16 && ltb l 16) ≡ false → None ≡ some_but 256 (joined h l)
unfolding joined
pair_no h l e = rw e

-- a byte that is spelt
pub byte_is : (p v : ℕ) (f : List ℕ) → some_but 256 (pair_at f p) ≡ Some v → (pair_at f p ≡ v) × (v < 256)
byte_is p v f h = let q = but_some 256 (pair_at f p) v h in (q.0, omega (arith, pair_le p f, q.1))

-- the sum so far with what is left, or none
abbrev pub summed : ℕ → List ℕ → Option ℕ
summed v bs = pick (all_bytes bs) (Some (v + sum_of bs)) None

pub sum_more : (v n p b : ℕ) (f : List ℕ) → 0 < n → some_but 256 (pair_at f p) ≡ Some b → summed v (bytes_at n f p) ≡ summed (v + b) (bytes_at (n - 1) f (p + 2))
unfolding all_bytes sum_of
sum_more v n p b f h e = let q = byte_is p b f e in rw (bytes_more n p f h, q.0, lt-ltb b 256 q.1, add_assoc)

pub sum_stop : (v n p : ℕ) (f : List ℕ) → 0 < n → some_but 256 (pair_at f p) ≡ None → summed v (bytes_at n f p) ≡ None
unfolding all_bytes sum_of
sum_stop v n p f h e = rw (bytes_more n p f h, but_none 256 (pair_at f p) e)

pub sum_end : (v n p : ℕ) (f : List ℕ) → n ≡ 0 → summed v (bytes_at n f p) ≡ Some v
unfolding all_bytes sum_of bytes_at
sum_end v n p f e = rw e (ap Some (add-zero v))

-- one byte more, from the k-th of n
pub summed_step : (v n k at b : ℕ) (f : List ℕ) → k < n → some_but 256 (pair_at f (at + 2 * k)) ≡ Some b
    → summed v (bytes_at (n - k) f (at + 2 * k)) ≡ summed (v + b) (bytes_at (n - (k + 1)) f (at + 2 * (k + 1)))
summed_step v n k at b f h e =
    let x : n - (k + 1) ≡ n - k - 1 = omega arith in
    let y : at + 2 * (k + 1) ≡ at + 2 * k + 2 = omega arith in
    rw (x, y) (sum_more v (n - k) (at + 2 * k) b f (omega arith) e)

-- and the number
pub number_more : (v n p : ℕ) (f : List ℕ) → 0 < n → number_from v (bytes_at n f p) ≡ number_from (v * 256 + pair_at f p) (bytes_at (n - 1) f (p + 2))
unfolding number_from
number_more v n p f h = rw (bytes_more n p f h)

pub number_end : (v n p : ℕ) (f : List ℕ) → n ≡ 0 → number_from v (bytes_at n f p) ≡ v
unfolding number_from bytes_at
number_end v n p f e = rw e

pub number_step : (v n k at : ℕ) (f : List ℕ) → k < n
    → number_from v (bytes_at (n - k) f (at + 2 * k)) ≡ number_from (v * 256 + pair_at f (at + 2 * k)) (bytes_at (n - (k + 1)) f (at + 2 * (k + 1)))
number_step v n k at f h =
    let x : n - (k + 1) ≡ n - k - 1 = omega arith in
    let y : at + 2 * (k + 1) ≡ at + 2 * k + 2 = omega arith in
    rw (x, y) (number_more v (n - k) (at + 2 * k) f (omega arith))

-- the most that k bytes make, of which one that is not spelt counts 256
abbrev pub most : ℕ → ℕ
most zero = 0
most (suc k) = most k * 256 + 256

pub most_more : (k v b : ℕ) → v ≤ most k → b ≤ 256 → v * 256 + b ≤ most (suc k)
most_more k v b h l = omega arith

pub most_le : (k : ℕ) → k ≤ 4 → most k ≤ 4311810304
most_le zero h = lit≤ tt
most_le (suc zero) h = lit≤ tt
most_le (suc (suc zero)) h = lit≤ tt
most_le (suc (suc (suc zero))) h = lit≤ tt
most_le (suc (suc (suc (suc zero)))) h = lit≤ tt
most_le (suc (suc (suc (suc (suc k))))) h = absurd (omega arith)

-- what k bytes can spell is below this
abbrev pub limit : ℕ → ℕ
limit zero = 1
limit (suc k) = limit k * 256

pub limit_more : (k v b : ℕ) → v < limit k → b < 256 → v * 256 + b < limit (suc k)
limit_more k v b h l = omega arith

pub limit_le : (k : ℕ) → k ≤ 4 → limit k ≤ 4294967296
limit_le zero h = lit≤ tt
limit_le (suc zero) h = lit≤ tt
limit_le (suc (suc zero)) h = lit≤ tt
limit_le (suc (suc (suc zero))) h = lit≤ tt
limit_le (suc (suc (suc (suc zero)))) h = lit≤ tt
limit_le (suc (suc (suc (suc (suc k))))) h = absurd (omega arith)

-- the byte that comes next, and those left
pub spelt_more : (n p : ℕ) (f : List ℕ) → 0 < n → all_bytes (bytes_at n f p) ≡ true → (pair_at f p < 256) × (all_bytes (bytes_at (n - 1) f (p + 2)) ≡ true)
unfolding all_bytes
spelt_more n p f h a =
    let q = and_true (ltb (pair_at f p) 256) (all_bytes (bytes_at (n - 1) f (p + 2))) (rw (bytes_more n p f h) at a) in
    (ltb-true (pair_at f p) 256 q.0, q.1)

pub put_more : (n p q : ℕ) (f m : List ℕ) → 0 < n → sets m q (bytes_at n f p) ≡ sets (set m q (pair_at f p)) (q + 1) (bytes_at (n - 1) f (p + 2))
put_more n p q f m h = rw (bytes_more n p f h, add-one)

pub put_end : (n p q : ℕ) (f m : List ℕ) → n ≡ 0 → sets m q (bytes_at n f p) ≡ m
unfolding bytes_at
put_end n p q f m e = rw e
