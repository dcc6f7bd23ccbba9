-- Laws of lists, of the loops that read and write words, and of the stores that make a capture. Assumes nothing.
use Prim.Native.Nat.{ℕ, zero, suc, ◌+◌, ◌*◌, ◌≤◌, ◌<◌}
use native.Mathlib.Omega.{arith}
use native.Mathlib.Numerals.{add-one}
use mathlib.Core.Path.{◌≡◌, refl}
use mathlib.Core.List.{List, [], ◌∷◌, ◌++◌}
use lib.ListN.{length, get_or, take, drop, drop_of_length-le, length-append}
use borrow.Author.Rules.{rules}
use borrow.Rule.Slice.PartMut.{put_mid}
use Rattle.std.proofs.lemmas.List.{same_lists, places}
use lib.Seq.{sets, sets-eq, drop-cons}
use Rattle.word.specs.declared.width.Width.{Width}
use Rattle.memory.specs.Load.{value_at}
use Rattle.memory.specs.Store.{bytes_of}
use Rattle.memory.proofs.Laws.{sets_at}
use Rattle.machine.specs.declared.state.State.{State}
use Rattle.capture.specs.Words.{words_at, word_bytes, words_of}
use Rattle.capture.specs.Write.{trailer_of, capture_of}

-- n elements from a place on, one by one
abbrev pub elements : ℕ → ℕ → List ℕ → List ℕ
elements zero at xs = []
elements (suc n) at xs = get_or xs at 0 ∷ elements n (suc at) xs

pub elements_are : (n at : ℕ) (xs : List ℕ) → at + n ≤ length xs → elements n at xs ≡ take n (drop at xs)
elements_are zero at xs h = refl
elements_are (suc n) at xs h = rw (elements_are n (suc at) xs (omega arith), drop-cons xs at 0 (omega arith))

-- what is written behind a part
pub behind : (n k : ℕ) (xs zs ys : List ℕ) → length xs ≡ n → length zs ≡ k → length ys ≡ k → put_mid n k (xs ++ zs) ys ≡ xs ++ ys
behind n k xs zs ys h z y = same_lists _ _ (search (rules, places)) (λ i d l. grind (arith, places))

-- each word that is read
pub words_place : (n at k : ℕ) (f : List ℕ) (d : ℕ) → k < n → get_or (words_at n f at) k d ≡ value_at Width.Word f (at + 4 * k)
unfolding words_at
words_place zero at k f d h = absurd (omega arith)
words_place (suc n) at zero f d h = let z : at + 4 * 0 ≡ at = omega arith in rw z
words_place (suc n) at (suc k) f d h =
    let p : at + 4 + 4 * k ≡ at + 4 * suc k = omega arith in
    rw p at (words_place n (at + 4) k f d (omega arith))

-- one word more is written
pub put_more : (at k : ℕ) (out ws : List ℕ) → k < length ws
    → sets out (at + 4 * k) (word_bytes (drop k ws)) ≡ sets (sets out (at + 4 * k) (bytes_of Width.Word (get_or ws k 0))) (at + 4 * (k + 1)) (word_bytes (drop (k + 1) ws))
unfolding word_bytes bytes_of
put_more at k out ws h =
    let p : at + 4 * (k + 1) ≡ suc (suc (suc (suc (at + 4 * k)))) = omega arith in
    rw (drop-cons ws k 0 h, p, add-one)

-- all are written
pub put_all : (k p : ℕ) (out ws : List ℕ) → length ws ≤ k → sets out p (word_bytes (drop k ws)) ≡ out
unfolding word_bytes
put_all k p out ws h = rw (drop_of_length-le ws h)

pub bytes_length : (ws : List ℕ) → length (word_bytes ws) ≡ 4 * length ws
unfolding word_bytes bytes_of
bytes_length [] = refl
bytes_length (w ∷ ws) = omega (arith, bytes_length ws)

pub state_words : (s : State) → length s.gpr ≡ 16 → length (words_of s) ≡ 36
unfolding words_of
state_words s g = simp length-append (omega arith)

pub state_bytes : (s : State) → length s.gpr ≡ 16 → length (word_bytes (words_of s)) ≡ 144
state_bytes s g = omega (arith, bytes_length (words_of s), state_words s g)

module _ (s : State) (m : List ℕ) (g : length s.gpr ≡ 16) where
  pub capture_length : length (capture_of s m) ≡ length m + 156
  unfolding capture_of
  capture_length = simp length-append (omega (arith, state_bytes s g, bytes_length (trailer_of (length m))))

  -- memory, state and trailer stored one after the other
  pub put_capture : (out : List ℕ) → length m + 156 ≤ length out
      → sets (sets (sets out 0 m) (length m) (word_bytes (words_of s))) (length m + 144) (word_bytes (trailer_of (length m))) ≡ capture_of s m ++ drop (length m + 156) out
  unfolding capture_of
  put_capture out h =
      let q : length m + 144 ≡ 0 + length (m ++ word_bytes (words_of s)) = simp length-append (omega (arith, state_bytes s g)) in
      let z : 0 + length (m ++ word_bytes (words_of s) ++ word_bytes (trailer_of (length m))) ≡ length m + 156 = omega (arith, capture_length) in
      rw (
        sets_at m (word_bytes (words_of s)) out 0 (length m) (omega arith),
        sets_at (m ++ word_bytes (words_of s)) (word_bytes (trailer_of (length m))) out 0 (length m + 144) q,
        sets-eq (m ++ word_bytes (words_of s) ++ word_bytes (trailer_of (length m))) out 0 (omega arith),
        z,
      )
