-- Reading what was written gives the memory back. Assumes nothing.
use Prim.Native.Nat.{ℕ, zero, suc, ◌+◌, ◌*◌, ◌-◌, ◌/◌, ◌%◌, ◌^◌, ◌≤◌, ◌<◌}
use native.Mathlib.Omega.{arith}
use mathlib.Core.Bool.{true, false}
use mathlib.Core.Path.{◌≡◌, refl, ap, sym, ◌∙◌}
use mathlib.Core.List.{List, [], ◌∷◌, ◌++◌, append_assoc, append-nil}
use lib.Dec.{lit≤, ltb, leb}
use lib.ListN.{length, get_or, take, drop, length-append, length-drop}
use lib.Seq.{sets, sets-eq, length-sets, get_or-drop, drop-drop, drop_at, take_at, take-add, take_all, length-take-le}
use borrow.Author.Tests.{lt-ltb, le-leb, eq-eqb, ne_eqb, ltb-true, eqb-true}
use Rattle.memory.specs.Access.{pick}
use Rattle.srecord.specs.Hex.{letter_of, digit_of, joined, pair_at, bytes_at, all_bytes, sum_of, number_from}
use Rattle.srecord.specs.Record.{is_data, width_of, room_for, lines_of, headed_at, formed_at, ends_at}
use Rattle.srecord.specs.Found.{kind_at, address_at, data_at, size_at, line_end, next_at}
use Rattle.memory.specs.Access.{sized_of}
use Rattle.memory.specs.Store.{bytes_of}
use Rattle.memory.proofs.Laws.{sized_bounds, sized_whole}
use Rattle.std.specs.Prelude.{Option, Some, None, Ok, is_ok}
use Rattle.machine.specs.Refusal.{unless}
use Rattle.machine.specs.declared.refusal.Refusal.{Refusal}
use Rattle.machine.proofs.Refusals.{and_accepts, unless_accepts}
use Rattle.srecord.specs.File.{Seen, start, same_kind, ends_kind, places, is_in, any_in, check_data, check_end, check_record, after, good, verdict, placed, read_of, memory_of}
use Rattle.srecord.specs.Write.{hex_digit, hexes, check_of, text_of, block_text, end_text, blocks, file_of, file_length, check_write, out_of}
use Rattle.word.proofs.Truth.{and_true}
use Rattle.word.proofs.Below.{same_at}
use Rattle.srecord.proofs.Lines.{pair_shift, bytes_shift}
use Rattle.srecord.proofs.Judge.{verdict_goes, placed_more}
use Rattle.srecord.proofs.Text.{hexes_append, hexes_length, sum_append, file_length_lem}
use Rattle.srecord.proofs.Answer.{read_sized, read_good}

-- a digit that was written is read
digit_back : (v : ℕ) → v < 16 → digit_of (hex_digit v) ≡ v
unfolding letter_of digit_of hex_digit
digit_back v h = same_at (λ i v. digit_of (hex_digit v)) (λ i v. v) 1 16 tt 0 v (lit≤ tt) h

pair_back : (b : ℕ) (zs : List ℕ) → b < 256 → pair_at (hex_digit (b / 16) ∷ hex_digit (b % 16) ∷ zs) 0 ≡ b
unfolding pair_at joined
pair_back b zs h =
    rw (digit_back (b / 16) (omega arith), digit_back (b % 16) (omega arith), lt-ltb (b / 16) 16 (omega arith), lt-ltb (b % 16) 16 (omega arith)) (omega arith)

bytes_back : (bs zs : List ℕ) → all_bytes bs ≡ true → bytes_at (length bs) (hexes bs ++ zs) 0 ≡ bs
unfolding bytes_at all_bytes hexes
bytes_back [] zs h = refl
bytes_back (b ∷ bs) zs h =
    let q = and_true (ltb b 256) (all_bytes bs) h in
    rw (pair_back b (hexes bs ++ zs) (ltb-true b 256 q.0), ← (bytes_shift (length bs) 2 0 (hex_digit (b / 16) ∷ hex_digit (b % 16) ∷ (hexes bs ++ zs))), bytes_back bs zs q.1)

bytes_front : (k n p : ℕ) (f : List ℕ) → k ≤ n → bytes_at k f p ≡ take k (bytes_at n f p)
unfolding bytes_at
bytes_front zero n p f h = refl
bytes_front (suc k) zero p f h = absurd (omega arith)
bytes_front (suc k) (suc n) p f h = rw (bytes_front k n (p + 2) f (omega arith))

all_append : (xs : List ℕ) (c : ℕ) → all_bytes xs ≡ true → c < 256 → all_bytes (xs ++ (c ∷ [])) ≡ true
unfolding all_bytes
all_append [] c h l = rw (lt-ltb c 256 l)
all_append (x ∷ xs) c h l =
    let q = and_true (ltb x 256) (all_bytes xs) h in
    rw q.0 (all_append xs c q.1 l)

all_tail : (x : ℕ) (xs : List ℕ) → all_bytes (x ∷ xs) ≡ true → all_bytes xs ≡ true
unfolding all_bytes
all_tail x xs h = (and_true (ltb x 256) (all_bytes xs) h).1

-- a line that was written, in front of the others
module _ (t n a₁ a₂ a₃ a₄ : ℕ) (d zs : List ℕ) (w : width_of t ≡ 4) (room : room_for t n ≡ true) (len : length d + 5 ≡ n) (small : n < 256) (ok : all_bytes (a₁ ∷ a₂ ∷ a₃ ∷ a₄ ∷ d) ≡ true) where
  check : ℕ
  check = check_of (n ∷ a₁ ∷ a₂ ∷ a₃ ∷ a₄ ∷ d)

  X : List ℕ
  X = 83 ∷ (48 + t) ∷ hex_digit (n / 16) ∷ hex_digit (n % 16) ∷ (hexes (a₁ ∷ a₂ ∷ a₃ ∷ a₄ ∷ (d ++ (check ∷ []))) ++ (10 ∷ zs))

  text_is : text_of t (n ∷ a₁ ∷ a₂ ∷ a₃ ∷ a₄ ∷ d) ++ zs ≡ X
  unfolding text_of X check hexes
  text_is = rw (hexes_append d (check_of (n ∷ a₁ ∷ a₂ ∷ a₃ ∷ a₄ ∷ d) ∷ []), append_assoc)

  check_lt : check < 256
  unfolding check check_of
  check_lt = omega arith

  count_is : pair_at X 2 ≡ n
  unfolding X
  count_is = sym (pair_shift 2 0 X) ∙ pair_back n _ small

  whole_length : length (a₁ ∷ a₂ ∷ a₃ ∷ a₄ ∷ (d ++ (check ∷ []))) ≡ n
  whole_length = omega (arith, length-append d (check ∷ []))

  whole_all : all_bytes (a₁ ∷ a₂ ∷ a₃ ∷ a₄ ∷ (d ++ (check ∷ []))) ≡ true
  whole_all = all_append (a₁ ∷ a₂ ∷ a₃ ∷ a₄ ∷ d) check ok check_lt

  bytes_is : bytes_at n X 4 ≡ a₁ ∷ a₂ ∷ a₃ ∷ a₄ ∷ (d ++ (check ∷ []))
  unfolding X
  bytes_is =
      sym (bytes_shift n 4 0 X)
      ∙ (rw whole_length at (bytes_back (a₁ ∷ a₂ ∷ a₃ ∷ a₄ ∷ (d ++ (check ∷ []))) (10 ∷ zs) whole_all))

  rest_is : drop (4 + 2 * n) X ≡ 10 ∷ zs
  unfolding X
  rest_is =
      sym (drop-drop (2 * n) 4 X)
      ∙ drop_at (hexes (a₁ ∷ a₂ ∷ a₃ ∷ a₄ ∷ (d ++ (check ∷ [])))) (10 ∷ zs) (2 * n) (hexes_length (a₁ ∷ a₂ ∷ a₃ ∷ a₄ ∷ (d ++ (check ∷ []))) ∙ ap (λ (k : ℕ). 2 * k) whole_length)

  feed_is : get_or X (4 + 2 * n) 0 ≡ 10
  feed_is =
      let z : 4 + 2 * n + 0 ≡ 4 + 2 * n = omega arith in
      sym (ap (λ (k : ℕ). get_or X k 0) z) ∙ (sym (get_or-drop (4 + 2 * n) X 0 0) ∙ ap (λ (l : List ℕ). get_or l 0 0) rest_is)

  ends_is : ends_at X (4 + 2 * n) ≡ true
  unfolding ends_at
  ends_is = rw feed_is

  sum_is : (n + sum_of (a₁ ∷ a₂ ∷ a₃ ∷ a₄ ∷ (d ++ (check ∷ [])))) % 256 ≡ 255
  unfolding sum_of check check_of
  sum_is = omega (arith, sum_append d (check ∷ []))

  kind_is : get_or X 1 0 - 48 ≡ t
  unfolding X
  kind_is = omega arith

  headed_is : headed_at X 0 ≡ true
  unfolding headed_at X
  headed_is =
      let k : 48 + t - 48 ≡ t = omega arith in
      rw (count_is, le-leb 48 (48 + t) (omega arith), lt-ltb n 256 small, k, room)

  formed_is : formed_at X 0 ≡ true
  unfolding formed_at
  formed_is = rw (headed_is, count_is, bytes_is, whole_all, ends_is, eq-eqb ((n + sum_of (a₁ ∷ a₂ ∷ a₃ ∷ a₄ ∷ (d ++ (check ∷ [])))) % 256) 255 sum_is)

  address_is : address_at X 0 ≡ number_from 0 (a₁ ∷ a₂ ∷ a₃ ∷ a₄ ∷ [])
  unfolding address_at
  address_is = rw (kind_is, w, bytes_front 4 n 4 X (omega arith), bytes_is)

  size_is : size_at X 0 ≡ length d
  unfolding size_at
  size_is = rw (kind_is, w, count_is) (omega arith)

  data_all : all_bytes (d ++ (check ∷ [])) ≡ true
  data_all = all_append d check (all_tail a₄ d (all_tail a₃ (a₄ ∷ d) (all_tail a₂ (a₃ ∷ a₄ ∷ d) (all_tail a₁ (a₂ ∷ a₃ ∷ a₄ ∷ d) ok)))) check_lt

  data_is : bytes_at (size_at X 0) X (data_at X 0) ≡ d
  unfolding data_at X hexes
  data_is =
      let l : length d ≤ length (d ++ (check ∷ [])) = omega (arith, length-append d (check ∷ [])) in
      rw (size_is, kind_is, w)
      (sym (bytes_shift (length d) 12 0 X)
      ∙ (bytes_front (length d) (length (d ++ (check ∷ []))) 0 (hexes (d ++ (check ∷ [])) ++ (10 ∷ zs)) l
      ∙ (ap (take (length d)) (bytes_back (d ++ (check ∷ [])) (10 ∷ zs) data_all) ∙ take_at d (check ∷ []) (length d) refl)))

  next_is : next_at X 0 ≡ 4 + 2 * n + 1
  unfolding next_at line_end
  next_is = rw (count_is, feed_is)

  after_is : drop (next_at X 0) X ≡ zs
  after_is = rw (next_is, ← (drop-drop 1 (4 + 2 * n) X), rest_is)

  long : 0 < length X
  unfolding X
  long = omega arith

  -- the line is judged, and the others follow
  pub text_verdict : (m k : ℕ) (s : Seen) → check_record m s t (number_from 0 (a₁ ∷ a₂ ∷ a₃ ∷ a₄ ∷ [])) (length d) ≡ Ok tt
      → verdict m s k (lines_of (text_of t (n ∷ a₁ ∷ a₂ ∷ a₃ ∷ a₄ ∷ d) ++ zs)) ≡ verdict m (after s t (number_from 0 (a₁ ∷ a₂ ∷ a₃ ∷ a₄ ∷ [])) (length d)) (k + 1) (lines_of zs)
  text_verdict m k s h =
      let r : check_record m s (kind_at X 0) (address_at X 0) (size_at X 0) ≡ Ok tt = rw (kind_is, address_is, size_is) h in
      rw text_is (verdict_goes m 0 k s X long formed_is r ∙ rw (kind_is, address_is, size_is, after_is))

  pub text_placed : (m : List ℕ) → placed m (lines_of (text_of t (n ∷ a₁ ∷ a₂ ∷ a₃ ∷ a₄ ∷ d) ++ zs)) ≡ placed (pick (is_data t) (sets m (number_from 0 (a₁ ∷ a₂ ∷ a₃ ∷ a₄ ∷ [])) d) m) (lines_of zs)
  text_placed m = rw text_is (placed_more 0 m X long formed_is ∙ rw (data_is, kind_is, address_is, after_is))

address_back : (a : ℕ) → a < 2 ^ 32 → number_from 0 (a / 2 ^ 24 % 256 ∷ a / 2 ^ 16 % 256 ∷ a / 2 ^ 8 % 256 ∷ a % 256 ∷ []) ≡ a
unfolding number_from
address_back a h =
    let b : a / 2 ^ 24 * 2 ^ 8 + a / 2 ^ 16 % 2 ^ 8 ≡ a / 2 ^ 16 = omega arith in
    let c : a / 2 ^ 16 * 2 ^ 8 + a / 2 ^ 8 % 2 ^ 8 ≡ a / 2 ^ 8 = omega arith in
    omega arith

all_take : (n : ℕ) (xs : List ℕ) → ((k : ℕ) → get_or xs k 0 < 256) → all_bytes (take n xs) ≡ true
unfolding all_bytes
all_take zero xs h = refl
all_take (suc n) [] h = refl
all_take (suc n) (x ∷ xs) h = rw (lt-ltb x 256 (h 0)) (all_take n xs (λ k. h (suc k)))

block_all : (a : ℕ) (m : List ℕ) → ((k : ℕ) → get_or m k 0 < 256) → all_bytes (a / 2 ^ 24 % 256 ∷ a / 2 ^ 16 % 256 ∷ a / 2 ^ 8 % 256 ∷ a % 256 ∷ take 32 (drop a m)) ≡ true
unfolding all_bytes
block_all a m h =
    rw (
      lt-ltb (a / 2 ^ 24 % 256) 256 (omega arith),
      lt-ltb (a / 2 ^ 16 % 256) 256 (omega arith),
      lt-ltb (a / 2 ^ 8 % 256) 256 (omega arith),
      lt-ltb (a % 256) 256 (omega arith),
    )
    (all_take 32 (drop a m) (λ k. rw (get_or-drop a m k 0) (h (a + k))))

room_3 : room_for 3 37 ≡ true
unfolding room_for width_of
room_3 = refl

room_7 : room_for 7 5 ≡ true
unfolding room_for width_of
room_7 = refl

width_3 : width_of 3 ≡ 4
unfolding width_of
width_3 = refl

width_7 : width_of 7 ≡ 4
unfolding width_of
width_7 = refl

-- the block's line, and the end's, in front of the others
module _ (a : ℕ) (m zs : List ℕ) (low : a < 2 ^ 32) (inside : a + 32 ≤ length m) (bytes : (k : ℕ) → get_or m k 0 < 256) where
  block_len : length (take 32 (drop a m)) ≡ 32
  block_len = length-take-le 32 (drop a m) (simp length-drop (omega arith))

  block_five : length (take 32 (drop a m)) + 5 ≡ 37
  block_five = omega (arith, block_len)

  block_verdict : (n k : ℕ) (s : Seen) → check_record n s 3 a 32 ≡ Ok tt → verdict n s k (lines_of (block_text a m ++ zs)) ≡ verdict n (after s 3 a 32) (k + 1) (lines_of zs)
  unfolding block_text bytes_of
  block_verdict n k s h =
      rw (address_back a low, block_len) at
      (text_verdict 3 37 (a / 2 ^ 24 % 256) (a / 2 ^ 16 % 256) (a / 2 ^ 8 % 256) (a % 256) (take 32 (drop a m)) zs width_3 room_3 block_five (lit≤ tt) (block_all a m bytes) n k s (rw (address_back a low, block_len) h))

  block_placed : (x : List ℕ) → placed x (lines_of (block_text a m ++ zs)) ≡ placed (sets x a (take 32 (drop a m))) (lines_of zs)
  unfolding block_text bytes_of
  block_placed x =
      rw (address_back a low) at
      (text_placed 3 37 (a / 2 ^ 24 % 256) (a / 2 ^ 16 % 256) (a / 2 ^ 8 % 256) (a % 256) (take 32 (drop a m)) zs width_3 room_3 block_five (lit≤ tt) (block_all a m bytes) x)

zero_all : all_bytes (0 ∷ 0 ∷ 0 ∷ 0 ∷ []) ≡ true
unfolding all_bytes
zero_all = refl

end_verdict : (n k : ℕ) (s : Seen) → check_record n s 7 (number_from 0 (0 ∷ 0 ∷ 0 ∷ 0 ∷ [])) 0 ≡ Ok tt → verdict n s k (lines_of (end_text ++ [])) ≡ good
unfolding end_text bytes_of verdict lines_of after
end_verdict n k s h = text_verdict 7 5 0 0 0 0 [] [] width_7 room_7 refl (lit≤ tt) zero_all n k s h

end_placed : (x : List ℕ) → placed x (lines_of (end_text ++ [])) ≡ x
unfolding end_text bytes_of placed lines_of
end_placed x = text_placed 7 5 0 0 0 0 [] [] width_7 room_7 refl (lit≤ tt) zero_all x

-- what has been seen when the blocks before a have been read
record Reading (s : Seen) (a : ℕ) : Type 0 where
  pub kind : same_kind s.kind 3 ≡ true
  pub going : s.ended ≡ false
  pub named : (x : ℕ) → a ≤ x → is_in x s.named ≡ false

none_in : (n a : ℕ) (xs : List ℕ) → ((x : ℕ) → a ≤ x → is_in x xs ≡ false) → any_in (places a n) xs ≡ false
unfolding places any_in
none_in zero a xs h = refl
none_in (suc n) a xs h = rw (h a (omega arith)) (none_in n (suc a) xs (λ x l. h x (omega arith)))

past_in : (n a x : ℕ) (xs : List ℕ) → a + n ≤ x → is_in x xs ≡ false → is_in x (places a n ++ xs) ≡ false
unfolding places is_in
past_in zero a x xs l h = h
past_in (suc n) a x xs l h = rw (ne_eqb x a (λ e. absurd (omega arith))) (past_in n (suc a) x xs (omega arith) h)

block_fine : (n a : ℕ) (s : Seen) → Reading s a → a + 32 ≤ n → check_record n s 3 a 32 ≡ Ok tt
unfolding check_record check_data
block_fine n a s r l = rw (r.going, r.kind, le-leb (a + 32) n l, none_in 32 a s.named r.named)

block_after : (a : ℕ) (s : Seen) → Reading s a → Reading (after s 3 a 32) (a + 32)
unfolding after
block_after a s r = record { kind = refl; going = refl; named = λ x l. past_in 32 a x s.named l (r.named x (omega arith)) }

end_kind : (k : Option ℕ) → same_kind k 3 ≡ true → ends_kind k 7 ≡ true
end_kind None h = refl
end_kind (Some k) h = let z = eqb-true k 3 h in eq-eqb (k + 7) 10 (omega arith)

end_fine : (n a v : ℕ) (s : Seen) → Reading s a → check_record n s 7 v 0 ≡ Ok tt
unfolding check_record check_end
end_fine n a v s r = rw (r.going, end_kind s.kind r.kind)

module _ (m : List ℕ) (size : length m ≤ 1048576) (bytes : (k : ℕ) → get_or m k 0 < 256) where
  blocks_verdict : (n a k : ℕ) (s : Seen) → a + 32 * n ≡ length m → Reading s a → verdict (length m) s k (lines_of (blocks n a m ++ end_text)) ≡ good
  unfolding blocks
  blocks_verdict zero a k s e r = rw (← (append-nil end_text)) (end_verdict (length m) k s (end_fine (length m) a _ s r))
  blocks_verdict (suc n) a k s e r =
      rw (append_assoc (block_text a m) (blocks n (a + 32) m) end_text)
      (block_verdict a m (blocks n (a + 32) m ++ end_text) (omega arith) (omega arith) bytes (length m) k s (block_fine (length m) a s r (omega arith))
      ∙ blocks_verdict n (a + 32) (k + 1) (after s 3 a 32) (omega arith) (block_after a s r))

  take_block : (a : ℕ) (x : List ℕ) → a + 32 ≤ length m → length x ≡ length m → take a x ≡ take a m → take (a + 32) (sets x a (take 32 (drop a m))) ≡ take (a + 32) m
  take_block a x h l e =
      let b : length (take 32 (drop a m)) ≡ 32 = length-take-le 32 (drop a m) (simp length-drop (omega arith)) in
      let t : length (take a x) ≡ a = length-take-le a x (omega arith) in
      let q : length (take a x ++ take 32 (drop a m)) ≡ a + 32 = length-append (take a x) (take 32 (drop a m)) ∙ rw (b, t) in
      rw (sets-eq (take 32 (drop a m)) x a (omega arith))
      (take_at (take a x ++ take 32 (drop a m)) (drop (a + length (take 32 (drop a m))) x) (a + 32) q ∙ (rw e (sym (take-add a 32 m))))

  blocks_placed : (n a : ℕ) (x : List ℕ) → a + 32 * n ≡ length m → length x ≡ length m → take a x ≡ take a m → placed x (lines_of (blocks n a m ++ end_text)) ≡ m
  unfolding blocks
  blocks_placed zero a x e l t =
      let f : length x ≤ a = omega arith in
      let g : length m ≤ a = omega arith in
      (rw (append-nil end_text) at (end_placed x)) ∙ (sym (take_all a x f) ∙ (t ∙ take_all a m g))
  blocks_placed (suc n) a x e l t =
      rw (append_assoc (block_text a m) (blocks n (a + 32) m) end_text)
      (block_placed a m (blocks n (a + 32) m ++ end_text) (omega arith) (omega arith) bytes x
      ∙ blocks_placed n (a + 32) (sets x a (take 32 (drop a m))) (omega arith) (length-sets x a (take 32 (drop a m)) ∙ l) (take_block a x (omega arith) l t))

start_reading : Reading start 0
unfolding is_in
start_reading = record { kind = refl; going = refl; named = λ x l. refl }

-- what was written, read into any memory of the same size, is the memory that was written
pub file_reads : (m x : List ℕ) → sized_of (length m) ≡ true → ((k : ℕ) → get_or m k 0 < 256) → length x ≡ length m
    → (read_of (length x) (file_of m) ≡ good) × (memory_of x (file_of m) ≡ m)
unfolding file_of
file_reads m x h b l =
    let z = sized_bounds (length m) h in
    let e : 0 + 32 * (length m / 32) ≡ length m = omega (arith, sized_whole (length m) h) in
    let f = blocks (length m / 32) 0 m ++ end_text in
    let v : verdict (length x) start 1 (lines_of f) ≡ good = rw l (blocks_verdict m z.1 b (length m / 32) 0 1 start e start_reading) in (
      sym (read_sized x f (rw l h)) ∙ v,
      sym (read_good x f (rw l h) (rw v refl)) ∙ blocks_placed m z.1 b (length m / 32) 0 x e l refl,
    )

-- and so is what the writer leaves in an output that takes it
pub written_reads : (m x out : List ℕ) → is_ok (check_write (length m) (length out)) ≡ true → ((k : ℕ) → get_or m k 0 < 256) → length x ≡ length m
    → (read_of (length x) (take (file_length (length m)) (out_of m out)) ≡ good) × (memory_of x (take (file_length (length m)) (out_of m out)) ≡ m)
unfolding out_of check_write
written_reads m x out w b l =
    let h = unless_accepts (sized_of (length m)) Refusal.Memory (and_accepts (unless (sized_of (length m)) Refusal.Memory) (unless (leb (file_length (length m)) (length out)) Refusal.Output) w).0 in
    rw (w, take_at (file_of m) (drop (file_length (length m)) out) (file_length (length m)) (file_length_lem m)) (file_reads m x h b l)
