-- What was written reads back, and what was read is written again byte for byte. Assumes nothing.
use Prim.Native.Nat.{ℕ, zero, suc, ◌+◌, ◌-◌, ◌^◌, ◌≤◌, ◌<◌}
use native.Mathlib.Omega.{arith}
use mathlib.Core.Bool.{true}
use mathlib.Core.Path.{◌≡◌, refl, ap, ◌∙◌}
use mathlib.Core.List.{List, [], ◌++◌, append_assoc, append-nil}
use lib.Dec.{lit≤}
use lib.ListN.{length, get_or, take, drop, drop_of_length-le, length-append, length-take}
use lib.Seq.{take_at, take-add, take_all}
use borrow.Author.Tests.{le-leb, eq-eqb}
use Rattle.word.specs.declared.width.Width.{Width}
use Rattle.memory.specs.Access.{sized_of}
use Rattle.memory.specs.Load.{value_at}
use Rattle.insn.specs.declared.profile.Profile.{Profile}
use Rattle.machine.specs.declared.state.State.{State}
use Rattle.std.specs.Prelude.{Ok, is_ok}
use Rattle.machine.specs.Register.{check_of, check_start}
use Rattle.capture.specs.Words.{Below, words_at, word_bytes, words_of}
use Rattle.capture.specs.Read.{size_of, state_in, formed_of, check_read, read_of, state_or_zero, part_of}
use Rattle.capture.specs.Write.{trailer_of, capture_of, check_write, written_of, out_of}
use Rattle.capture.proofs.Laws.{state_words, state_bytes, capture_length}
use Rattle.capture.proofs.Checks.{Formed, read_accepts, write_accepts}
use Rattle.memory.proofs.Laws.{sized_bounds}
use Rattle.capture.proofs.Codec.{words_in, words_of_bytes, bytes_of_words, words_length, state_of_words_lem, words_of_state}

-- the trailer is what `formed_of` looks for
trailer_formed : (f : List ℕ) (m : ℕ) → length f ≡ m + 156 → 32 ≤ m → words_at 3 f (m + 144) ≡ trailer_of m → formed_of f ≡ true
unfolding formed_of words_at
trailer_formed f m l h t =
    let a : length f - 12 ≡ m + 144 = omega arith in
    let b : length f - 8 ≡ m + 144 + 4 = omega arith in
    let c : length f - 4 ≡ m + 144 + 4 + 4 = omega arith in
    let d : size_of f ≡ m = omega arith in
    rw (
      le-leb 188 (length f) (omega arith),
      a,
      b,
      c,
      d,
      eq-eqb (value_at Width.Word f (m + 144)) 156 (ap (λ (ws : List ℕ). get_or ws 0 0) t),
      eq-eqb (value_at Width.Word f (m + 144 + 4)) m (ap (λ (ws : List ℕ). get_or ws 1 0) t),
      eq-eqb (value_at Width.Word f (m + 144 + 4 + 4)) 1 (ap (λ (ws : List ℕ). get_or ws 2 0) t),
    )

formed_trailer : (f : List ℕ) → Formed f → words_at 3 f (size_of f + 144) ≡ trailer_of (size_of f)
unfolding words_at
formed_trailer f u =
    let a : size_of f + 144 ≡ length f - 12 = omega arith in
    let b : length f - 12 + 4 ≡ length f - 8 = omega arith in
    let c : length f - 8 + 4 ≡ length f - 4 = omega arith in
    rw (a, b, c, u.distance, u.size, u.form)

trailer_below : (m : ℕ) → m < 2 ^ 32 → Below (2 ^ 32) (trailer_of m)
trailer_below m h zero = lit≤ tt
trailer_below m h (suc zero) = h
trailer_below m h (suc (suc zero)) = lit≤ tt
trailer_below m h (suc (suc (suc k))) = lit≤ tt

-- a capture of a state that is accepted, and of memory that the board has
module _ (p : Profile) (s : State) (m : List ℕ) (g : length s.gpr ≡ 16) (w : Below (2 ^ 32) (words_of s)) (sized : sized_of (length m) ≡ true) where
  capture_size : size_of (capture_of s m) ≡ length m
  capture_size = omega (arith, capture_length s m g)

  capture_words : words_at 36 (capture_of s m) (length m) ≡ words_of s
  unfolding capture_of
  capture_words =
      rw append_assoc
      (words_in 36 (length m) m (word_bytes (words_of s) ++ word_bytes (trailer_of (length m))) refl
      ∙ (rw (state_words s g) at (words_of_bytes (words_of s) (word_bytes (trailer_of (length m))) w)))

  capture_trailer : words_at 3 (capture_of s m) (length m + 144) ≡ trailer_of (length m)
  unfolding capture_of
  capture_trailer =
      let n : length m + 144 ≡ length (m ++ word_bytes (words_of s)) = simp length-append (omega (arith, state_bytes s g)) in
      let l : length m < 2 ^ 32 = omega (arith, sized_bounds (length m) sized) in
      words_in 3 (length m + 144) (m ++ word_bytes (words_of s)) (word_bytes (trailer_of (length m))) n
      ∙ (rw append-nil at (words_of_bytes (trailer_of (length m)) [] (trailer_below (length m) l)))

  capture_formed : formed_of (capture_of s m) ≡ true
  capture_formed = trailer_formed (capture_of s m) (length m) (capture_length s m g) (sized_bounds (length m) sized).0 capture_trailer

  capture_state : state_in (capture_of s m) ≡ s
  unfolding state_in
  capture_state = rw (capture_size, capture_words) (state_of_words_lem s g)

  capture_part : take (size_of (capture_of s m)) (capture_of s m) ≡ m
  unfolding capture_of
  capture_part = rw (capture_size, append_assoc) (take_at m _ (length m) refl)

  capture_checked : check_of p s ≡ Ok tt → check_read p (capture_of s m) ≡ Ok tt
  unfolding check_read check_start
  capture_checked r = rw (capture_formed, capture_size, sized, capture_state, r)

  pub capture_reads : check_of p s ≡ Ok tt → (read_of p (capture_of s m) ≡ Ok s) × (part_of p (capture_of s m) ≡ m)
  unfolding read_of part_of
  capture_reads r = (rw (capture_checked r, capture_state), rw (capture_checked r, capture_part))

-- the first M + 156 bytes of the output, if nothing is refused
written_is : (p : Profile) (s : State) (m out : List ℕ) → check_write p s (length m) (length out) ≡ Ok tt → length s.gpr ≡ 16 → take (length m + 156) (out_of p s m out) ≡ capture_of s m
unfolding out_of
written_is p s m out ok g = rw ok (take_at (capture_of s m) (drop (length m + 156) out) (length m + 156) (capture_length s m g))

-- what was written reads back as the same state and the same memory
pub written_reads : (p : Profile) (s : State) (m out : List ℕ) → check_write p s (length m) (length out) ≡ Ok tt → length s.gpr ≡ 16 → Below (2 ^ 32) (words_of s)
    → (read_of p (take (length m + 156) (out_of p s m out)) ≡ Ok s) × (part_of p (take (length m + 156) (out_of p s m out)) ≡ m)
written_reads p s m out ok g w =
    let a = write_accepts p s (length m) (length out) (ap is_ok ok) in
    rw (written_is p s m out ok g) (capture_reads p s m g w a.sized a.state)

part_length : (f : List ℕ) → length (take (size_of f) f) ≡ size_of f
part_length f = simp length-take (omega arith)

-- a capture that is not refused
module _ (p : Profile) (f : List ℕ) (ok : check_read p f ≡ Ok tt) where
  read_state : state_or_zero (read_of p f) ≡ state_in f
  unfolding read_of state_or_zero
  read_state = rw ok

  read_part : part_of p f ≡ take (size_of f) f
  unfolding part_of
  read_part = rw ok

  -- its three parts, written one after the other, are the file
  read_capture : Below 256 f → capture_of (state_in f) (take (size_of f) f) ≡ f
  unfolding capture_of state_in
  read_capture b =
      let a = read_accepts p f (ap is_ok ok) in
      rw (
        part_length f,
        words_of_state (words_at 36 f (size_of f)) (words_length 36 (size_of f) f),
        ← (formed_trailer f a.formed),
        bytes_of_words 36 (size_of f) f (omega arith) b,
        bytes_of_words 3 (size_of f + 144) f (omega arith) b,
        ← (take-add (size_of f) 144 f),
        ← (take-add (size_of f + 144) 12 f),
      )
      (take_all (size_of f + 144 + 12) f (omega arith))

  read_accepted : (n : ℕ) → length f ≤ n → check_write p (state_in f) (size_of f) n ≡ Ok tt
  unfolding check_write check_start
  read_accepted n h =
      let a = read_accepts p f (ap is_ok ok) in
      rw (a.sized, a.state, le-leb (size_of f + 156) n (omega arith))

-- what was read is written again as the same bytes
pub read_writes : (p : Profile) (f out : List ℕ) → check_read p f ≡ Ok tt → Below 256 f → length out ≡ length f
    → (written_of p (state_or_zero (read_of p f)) (part_of p f) out ≡ Ok (length f)) × (out_of p (state_or_zero (read_of p f)) (part_of p f) out ≡ f)
unfolding written_of out_of
read_writes p f out ok b n =
    let e : size_of f + 156 ≡ length f = omega (arith, read_accepts p f (ap is_ok ok)) in
    rw (read_state p f ok, read_part p f ok, part_length f, read_accepted p f ok (length out) (omega arith), e)
    (refl, rw (read_capture p f ok b, drop_of_length-le out {i = length f} (omega arith)) (append-nil f))
