-- Laws of what is written: pieces one after the other. Assumes nothing.
use Prim.Native.Nat.{ℕ, zero, suc, ◌+◌, ◌*◌, ◌-◌, ◌/◌, ◌%◌, ◌≤◌, ◌<◌}
use native.Mathlib.Omega.{arith}
use native.Mathlib.Numerals.{add-one}
use mathlib.Core.Path.{◌≡◌, refl, ap, sym, ◌∙◌}
use mathlib.Core.List.{List, [], ◌∷◌, ◌++◌}
use lib.ListN.{length, get_or, take, drop, set, length-append, length-drop, drop_of_length-le}
use lib.Seq.{sets, sets-eq, drop-cons, length-take-le}
use Rattle.srecord.specs.Hex.{sum_of}
use Rattle.srecord.specs.Write.{hex_digit, hexes, check_of, text_of, block_text, end_text, blocks, file_of, check_write, written_of, out_of}
use Rattle.word.specs.declared.width.Width.{Width}
use Rattle.memory.specs.Access.{sized_of}
use Rattle.memory.specs.Store.{bytes_of}
use Rattle.memory.proofs.Laws.{sets_at}
use Rattle.machine.specs.declared.refusal.Refusal.{Refusal}
use borrow.Author.Tests.{lt-leb, le-leb}
use mathlib.Core.Bool.{true, false}
use Rattle.std.specs.Prelude.{Ok, Err}
use Rattle.std.specs.List.{fold, sum}

pub hex_more : (i q : ℕ) (bs out : List ℕ) → i < length bs
    → sets out q (hexes (drop i bs)) ≡ sets (set (set out q (hex_digit (get_or bs i 0 / 16))) (q + 1) (hex_digit (get_or bs i 0 % 16))) (q + 2) (hexes (drop (i + 1) bs))
unfolding hexes
hex_more i q bs out h =
    let e : q + 2 ≡ suc (suc q) = omega arith in
    rw (drop-cons bs i 0 h, add-one, add-one, e)

pub hex_end : (i q : ℕ) (bs out : List ℕ) → length bs ≤ i → sets out q (hexes (drop i bs)) ≡ out
unfolding hexes
hex_end i q bs out h = rw (drop_of_length-le bs {i = i} h)

sum_from : (v : ℕ) (bs : List ℕ) → fold ◌+◌ v bs ≡ v + sum_of bs
unfolding sum_of
sum_from v [] = omega arith
sum_from v (b ∷ bs) = omega (arith, sum_from (v + b) bs)

pub sum_is : (bs : List ℕ) → sum bs ≡ sum_of bs
sum_is bs = omega (arith, sum_from 0 bs)

-- bytes are below 256
pub sum_le : (bs : List ℕ) → ((i : ℕ) → get_or bs i 0 < 256) → sum_of bs ≤ 255 * length bs
unfolding sum_of
sum_le [] h = omega arith
sum_le (b ∷ bs) h = omega (arith, h 0, sum_le bs (λ i. h (suc i)))

pub sum_append : (xs ys : List ℕ) → sum_of (xs ++ ys) ≡ sum_of xs + sum_of ys
unfolding sum_of
sum_append [] ys = omega arith
sum_append (x ∷ xs) ys = omega (arith, sum_append xs ys)

pub hexes_length : (bs : List ℕ) → length (hexes bs) ≡ 2 * length bs
unfolding hexes
hexes_length [] = refl
hexes_length (b ∷ bs) = omega (arith, hexes_length bs)

pub hexes_append : (xs ys : List ℕ) → hexes (xs ++ ys) ≡ hexes xs ++ hexes ys
unfolding hexes
hexes_append [] ys = refl
hexes_append (x ∷ xs) ys = rw (hexes_append xs ys)

pub text_length : (t : ℕ) (bs : List ℕ) → length (text_of t bs) ≡ 2 * length bs + 5
unfolding text_of hexes
text_length t bs = simp length-append (omega (arith, hexes_length bs))

text_pieces : (p c : ℕ) (h d o : List ℕ)
    → sets o p (hexes (h ++ d) ++ hexes (c ∷ []) ++ (10 ∷ []))
    ≡ set (sets (sets (sets o p (hexes h)) (p + 2 * length h) (hexes d)) (p + 2 * length h + 2 * length d) (hexes (c ∷ []))) (p + 2 * length h + 2 * length d + 2) 10
text_pieces p c h d o =
    let x : p + length (hexes h) ≡ p + 2 * length h = omega (arith, hexes_length h) in
    let y : p + length (hexes (h ++ d)) ≡ p + 2 * length h + 2 * length d = omega (arith, hexes_length (h ++ d), length-append h d) in
    let z : p + length (hexes (h ++ d) ++ hexes (c ∷ [])) ≡ p + 2 * length h + 2 * length d + 2 = omega (arith, length-append (hexes (h ++ d)) (hexes (c ∷ [])), hexes_length (h ++ d), length-append h d, hexes_length (c ∷ [])) in
    let s : sets o p (hexes (h ++ d)) ≡ sets (sets o p (hexes h)) (p + 2 * length h) (hexes d) = ap (sets o p) (hexes_append h d) ∙ (sym (sets_at (hexes h) (hexes d) o p (p + 2 * length h) (sym x))) in
    let r : sets o p (hexes (h ++ d) ++ hexes (c ∷ [])) ≡ sets (sets (sets o p (hexes h)) (p + 2 * length h) (hexes d)) (p + 2 * length h + 2 * length d) (hexes (c ∷ [])) = sym (sets_at (hexes (h ++ d)) (hexes (c ∷ [])) o p (p + 2 * length h + 2 * length d) (sym y)) ∙ rw s in
    sym (sets_at (hexes (h ++ d) ++ hexes (c ∷ [])) (10 ∷ []) o p (p + 2 * length h + 2 * length d + 2) (sym z)) ∙ rw r

-- the pieces of a line, stored one after the other
pub line_pieces : (t at c : ℕ) (h d out : List ℕ) → c ≡ check_of (h ++ d)
    → set (sets (sets (sets (set (set out at 83) (at + 1) (48 + t)) (at + 2) (hexes h)) (at + 2 + 2 * length h) (hexes d)) (at + 2 + 2 * length h + 2 * length d) (hexes (c ∷ []))) (at + 2 + 2 * length h + 2 * length d + 2) 10
    ≡ sets out at (text_of t (h ++ d))
unfolding text_of
line_pieces t at c h d out e =
    let a : at + 1 ≡ suc at = omega arith in
    let b : at + 2 ≡ suc (suc at) = omega arith in
    rw (a, b, e)
    (sym (text_pieces (suc (suc at)) (check_of (h ++ d)) h d (set (set out at 83) (suc at) (48 + t))))

-- the check byte of both parts
pub check_of_lem : (h d : List ℕ) (s r : ℕ) → s ≡ sum_of h → r ≡ sum_of d → 255 - (s + r) % 256 ≡ check_of (h ++ d)
unfolding check_of
check_of_lem h d s r e g = rw (sum_append h d, e, g)

pub block_length : (a : ℕ) (m : List ℕ) → a + 32 ≤ length m → length (block_text a m) ≡ 79
unfolding block_text bytes_of
block_length a m h =
    let l : 32 ≤ length (drop a m) = simp length-drop (omega arith) in
    text_length 3 ((37 ∷ bytes_of Width.Word a) ++ take 32 (drop a m)) ∙ simp (length-append, length-take-le 32 (drop a m) l)

pub blocks_length : (n a : ℕ) (m : List ℕ) → a + 32 * n ≤ length m → length (blocks n a m) ≡ 79 * n
unfolding blocks
blocks_length zero a m h = refl
blocks_length (suc n) a m h = simp length-append (omega (arith, block_length a m (omega arith), blocks_length n (a + 32) m (omega arith)))

pub end_length : length end_text ≡ 15
unfolding end_text bytes_of
end_length = text_length 7 (5 ∷ bytes_of Width.Word 0)

pub file_length_lem : (m : List ℕ) → length (file_of m) ≡ 79 * (length m / 32) + 15
unfolding file_of
file_length_lem m = simp length-append (omega (arith, blocks_length (length m / 32) 0 m (omega arith), end_length))

pub blocks_more : (n a at : ℕ) (m out : List ℕ) → 0 < n → a + 32 ≤ length m
    → sets out at (blocks n a m) ≡ sets (sets out at (block_text a m)) (at + 79) (blocks (n - 1) (a + 32) m)
unfolding blocks
blocks_more zero a at m out h l = absurd (omega arith)
blocks_more (suc n) a at m out h l =
    let e : suc n - 1 ≡ n = omega arith in
    rw e (sym (sets_at (block_text a m) (blocks n (a + 32) m) out at (at + 79) (rw (block_length a m l))))

pub blocks_end : (n a at : ℕ) (m out : List ℕ) → n ≡ 0 → sets out at (blocks n a m) ≡ out
unfolding blocks
blocks_end n a at m out e = rw e

pub file_left : (m out : List ℕ) → 79 * (length m / 32) + 15 ≤ length out
    → sets (sets out 0 (blocks (length m / 32) 0 m)) (79 * (length m / 32)) end_text ≡ file_of m ++ drop (79 * (length m / 32) + 15) out
unfolding file_of
file_left m out h =
    let l : length (blocks (length m / 32) 0 m) ≡ 79 * (length m / 32) = blocks_length (length m / 32) 0 m (omega arith) in
    let g : 0 + length (blocks (length m / 32) 0 m ++ end_text) ≡ 79 * (length m / 32) + 15 = omega (arith, file_length_lem m) in
    sets_at (blocks (length m / 32) 0 m) end_text out 0 (79 * (length m / 32)) (omega arith) ∙ (sets-eq (blocks (length m / 32) 0 m ++ end_text) out 0 (omega (arith, file_length_lem m)) ∙ rw g)

-- the writer's answer, a way through the code each
module _ (m out : List ℕ) where
  pub write_unsized : sized_of (length m) ≡ false → (Err Refusal.Memory ≡ written_of m out) × (out ≡ out_of m out)
  unfolding check_write written_of out_of
  write_unsized h = (rw h, rw h)

  module _ (h : sized_of (length m) ≡ true) where
    pub write_short : length out < 79 * (length m / 32) + 15 → (Err Refusal.Output ≡ written_of m out) × (out ≡ out_of m out)
    unfolding check_write written_of out_of
    write_short l = let e = lt-leb (79 * (length m / 32) + 15) (length out) l in (rw (h, e), rw (h, e))

    pub write_whole : 79 * (length m / 32) + 15 ≤ length out
        → (Ok (79 * (length m / 32) + 15) ≡ written_of m out) × (file_of m ++ drop (79 * (length m / 32) + 15) out ≡ out_of m out)
    unfolding check_write written_of out_of
    write_whole l = let e = le-leb (79 * (length m / 32) + 15) (length out) l in (rw (h, e), rw (h, e))
