-- Words to bytes and back, and a state to words and back: nothing is lost on either way. Assumes nothing.
use Prim.Native.Nat.{ℕ, zero, suc, ◌+◌, ◌*◌, ◌/◌, ◌%◌, ◌^◌, ◌≤◌, ◌<◌}
use native.Mathlib.Omega.{arith}
use native.Mathlib.Nat.{add_assoc}
use native.Mathlib.Numerals.{towards_suc}
use mathlib.Core.Path.{◌≡◌, refl, ap, ◌∙◌}
use mathlib.Core.List.{List, [], ◌∷◌, ◌++◌, append_assoc}
use lib.ListN.{length, get_or, take, drop, take-append-drop, length-drop}
use lib.Seq.{get_or-append-add, take_at, take-add, drop-drop, take_all}
use Rattle.word.specs.declared.width.Width.{Width}
use Rattle.memory.specs.Load.{value_at}
use Rattle.memory.specs.Store.{bytes_of}
use Rattle.machine.specs.State.{order_of, holding}
use Rattle.machine.specs.declared.state.State.{State}
use Rattle.capture.specs.Words.{Below, words_at, word_bytes, others_of, words_of, state_of}
use Rattle.capture.proofs.Laws.{elements_are}

-- what is read behind a part is read in what follows it
value_after : (xs ys : List ℕ) (k : ℕ) → value_at Width.Word (xs ++ ys) (length xs + k) ≡ value_at Width.Word ys k
unfolding value_at
value_after xs ys k = simp (add_assoc, get_or-append-add)

words_after : (n k : ℕ) (xs ys : List ℕ) → words_at n (xs ++ ys) (length xs + k) ≡ words_at n ys k
unfolding words_at
words_after zero k xs ys = refl
words_after (suc n) k xs ys = rw (value_after xs ys k, add_assoc (length xs) k 4, words_after n (k + 4) xs ys)

pub words_in : (n at : ℕ) (xs ys : List ℕ) → at ≡ length xs → words_at n (xs ++ ys) at ≡ words_at n ys 0
words_in n at xs ys e =
    let z : at ≡ length xs + 0 = omega arith in
    rw z (words_after n 0 xs ys)

-- a word that was written is read
word_of_bytes : (w : ℕ) (ys : List ℕ) → w < 2 ^ 32 → value_at Width.Word (bytes_of Width.Word w ++ ys) 0 ≡ w
unfolding value_at bytes_of
word_of_bytes w ys h =
    let b : w / 2 ^ 24 * 2 ^ 8 + w / 2 ^ 16 % 2 ^ 8 ≡ w / 2 ^ 16 = omega arith in
    let c : w / 2 ^ 16 * 2 ^ 8 + w / 2 ^ 8 % 2 ^ 8 ≡ w / 2 ^ 8 = omega arith in
    omega arith

word_length : (w : ℕ) → 4 ≡ length (bytes_of Width.Word w)
unfolding bytes_of
word_length w = refl

pub words_of_bytes : (ws ys : List ℕ) → Below (2 ^ 32) ws → words_at (length ws) (word_bytes ws ++ ys) 0 ≡ ws
unfolding words_at word_bytes
words_of_bytes [] ys h = refl
words_of_bytes (w ∷ ws) ys h =
    rw (append_assoc (bytes_of Width.Word w) (word_bytes ws) ys, word_of_bytes w (word_bytes ws ++ ys) (h 0), words_in (length ws) 4 (bytes_of Width.Word w) (word_bytes ws ++ ys) (word_length w), words_of_bytes ws ys (λ k. h (suc k)))

-- bytes that were read as a word are written
bytes_of_four : (a b c d : ℕ) → a < 256 → b < 256 → c < 256 → d < 256 → bytes_of Width.Word (a * 2 ^ 24 + b * 2 ^ 16 + c * 2 ^ 8 + d) ≡ a ∷ b ∷ c ∷ d ∷ []
unfolding bytes_of
bytes_of_four a b c d ha hb hc hd =
    let p : (a * 2 ^ 24 + b * 2 ^ 16 + c * 2 ^ 8 + d) / 2 ^ 24 % 2 ^ 8 ≡ a = omega arith in
    let q : (a * 2 ^ 24 + b * 2 ^ 16 + c * 2 ^ 8 + d) / 2 ^ 16 % 2 ^ 8 ≡ b = omega arith in
    let r : (a * 2 ^ 24 + b * 2 ^ 16 + c * 2 ^ 8 + d) / 2 ^ 8 % 2 ^ 8 ≡ c = omega arith in
    let s : (a * 2 ^ 24 + b * 2 ^ 16 + c * 2 ^ 8 + d) % 2 ^ 8 ≡ d = omega arith in
    rw (p, q, r, s)

bytes_of_word : (f : List ℕ) (at : ℕ) → at + 4 ≤ length f → Below 256 f → bytes_of Width.Word (value_at Width.Word f at) ≡ take 4 (drop at f)
unfolding value_at
bytes_of_word f at l h = bytes_of_four _ _ _ _ (h at) (h (at + 1)) (h (at + 2)) (h (at + 3)) ∙ simp towards_suc (elements_are 4 at f l)

pub bytes_of_words : (n at : ℕ) (f : List ℕ) → at + 4 * n ≤ length f → Below 256 f → word_bytes (words_at n f at) ≡ take (4 * n) (drop at f)
unfolding words_at word_bytes
bytes_of_words zero at f l h = refl
bytes_of_words (suc n) at f l h =
    let e : 4 * suc n ≡ 4 + 4 * n = omega arith in
    rw (bytes_of_word f at (omega arith) h, bytes_of_words n (at + 4) f (omega arith) h, e, take-add 4 (4 * n) (drop at f), drop-drop)

pub words_length : (n at : ℕ) (f : List ℕ) → length (words_at n f at) ≡ n
unfolding words_at
words_length zero at f = refl
words_length (suc n) at f = ap suc (words_length n (at + 4) f)

-- the words of a state stand for it
pub state_of_words_lem : (s : State) → length s.gpr ≡ 16 → state_of (words_of s) ≡ s
unfolding state_of words_of
state_of_words_lem s g = λ i. holding (take_at s.gpr (others_of s) 16 g i) (λ r. other (order_of r) i)
  where
    other : (k : ℕ) → get_or (words_of s) (16 + k) 0 ≡ get_or (others_of s) k 0
    other k = rw g at (get_or-append-add s.gpr (others_of s) k 0)

-- 36 words are those of the state that they stand for
pub words_of_state : (ws : List ℕ) → length ws ≡ 36 → words_of (state_of ws) ≡ ws
unfolding state_of words_of
words_of_state ws l =
    let h : length (drop 16 ws) ≤ 20 = simp length-drop (omega arith) in
    ap (λ (t : List ℕ). take 16 ws ++ t) (elements_are 20 16 ws (omega arith) ∙ take_all 20 (drop 16 ws) h) ∙ take-append-drop 16 ws
