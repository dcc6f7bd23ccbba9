-- More memory alters nothing but a refusal of what lay outside. Assumes nothing.
use Prim.Native.Nat.{ℕ, ◌+◌, ◌≤◌}
use native.Mathlib.Omega.{arith}
use mathlib.Core.Bool.{Bool, true, false, not, ◌||◌}
use mathlib.Core.Path.{◌≡◌, refl, ap, sym, ◌∙◌}
use mathlib.Core.List.{List, [], ◌∷◌, ◌++◌}
use lib.Dec.{leb, eqb}
use lib.ListN.{length, length-append}
use borrow.Author.Tests.{le-leb, leb-true}
use Rattle.word.proofs.Truth.{never}
use Rattle.memory.specs.Access.{sized_of}
use Rattle.memory.proofs.Grow.{sets_grow}
use Rattle.std.specs.Prelude.{Err, is_ok}
use Rattle.std.specs.Result.{result_and}
use Rattle.machine.specs.Refusal.{unless}
use Rattle.machine.specs.declared.refusal.Refusal.{Refusal}
use Rattle.srecord.specs.Record.{Line, malformed, holds, is_data, lines_of, record_of}
use Rattle.srecord.specs.File.{Seen, start, same_kind, refused_at, places, any_in, check_data, check_record, check_line, after_line, verdict, put, placed, read_of, memory_of}
use Rattle.srecord.proofs.Formed.{decide}
use Rattle.srecord.proofs.Judge.{result_cases, rec_data, record_fits}
use Rattle.srecord.proofs.Meaning.{verdict_cons, put_length, read_lines, read_sized}

fits_grow : (m n a c : ℕ) → m ≤ n → (eqb c 0 || leb (a + c) m) ≡ true → (eqb c 0 || leb (a + c) n) ≡ true
fits_grow m n a c l h =
    decide (eqb c 0)
    (λ e. rw e)
    (λ e. let z = leb-true (a + c) m (rw e at h) in rw (e, le-leb (a + c) n (omega arith)))

data_cases : (p q q' z : Bool) → (q ≡ true → q' ≡ true)
    → (result_and (unless p Refusal.Record) (result_and (unless q Refusal.Outside) (unless z Refusal.Twice)) ≡ Err Refusal.Outside → ⊥)
    → result_and (unless p Refusal.Record) (result_and (unless q' Refusal.Outside) (unless z Refusal.Twice))
    ≡ result_and (unless p Refusal.Record) (result_and (unless q Refusal.Outside) (unless z Refusal.Twice))
data_cases false q q' z g h = refl
data_cases true true q' z g h = rw (g refl)
data_cases true false q' z g h = absurd (h refl)

data_grow : (m n t a c : ℕ) (s : Seen) → m ≤ n → (check_data m s t a c ≡ Err Refusal.Outside → ⊥) → check_data n s t a c ≡ check_data m s t a c
unfolding check_data
data_grow m n t a c s l h =
    data_cases (same_kind s.kind t) (eqb c 0 || leb (a + c) m) (eqb c 0 || leb (a + c) n) (not (any_in (places a c) s.named)) (fits_grow m n a c l) h

record_grow : (m n t a c : ℕ) (s : Seen) → m ≤ n → (check_record m s t a c ≡ Err Refusal.Outside → ⊥) → check_record n s t a c ≡ check_record m s t a c
unfolding check_record
record_grow m n t a c s l h =
    decide s.ended
    (λ e. rw e)
    (λ e. decide (is_data t)
    (λ d.
    let f = (rec_data m t a c s e d).0 in
    (rec_data n t a c s e d).0 ∙ (data_grow m n t a c s l (λ o. h (f ∙ o)) ∙ sym f))
    (λ d. rw (e, d)))

line_grow : (m n : ℕ) (s : Seen) (l : Line) → m ≤ n → (check_line m s l ≡ Err Refusal.Outside → ⊥) → check_line n s l ≡ check_line m s l
unfolding check_line
line_grow m n s malformed b h = refl
line_grow m n s (holds t a d) b h = record_grow m n t a (length d) s b h

verdict_grow : (ls : List (List ℕ)) (m n k : ℕ) (s : Seen) → m ≤ n → ((j : ℕ) → verdict m s k ls ≡ refused_at j Refusal.Outside → ⊥) → verdict n s k ls ≡ verdict m s k ls
unfolding verdict
verdict_grow [] m n k s b h = refl
verdict_grow (l ∷ ls) m n k s b h =
    result_cases (check_line m s (record_of l))
    (λ e.
    let r = line_grow m n s (record_of l) b (λ o. never (ap is_ok (sym e ∙ o))) in
    rw (r, e) (verdict_grow ls m n (k + 1) (after_line s (record_of l)) b (rw e at h)))
    (λ q e. rw (line_grow m n s (record_of l) b (λ o. h k (rw o)), e))

put_grow : (m x : List ℕ) (s : Seen) (l : Line) → is_ok (check_line (length m) s l) ≡ true → put (m ++ x) l ≡ put m l ++ x
unfolding put check_line
put_grow m x s malformed h = refl
put_grow m x s (holds t a []) h = decide (is_data t) (λ e. rw e) (λ e. rw e)
put_grow m x s (holds t a (b ∷ d)) h =
    decide (is_data t)
    (λ e. rw e (sets_grow (b ∷ d) m x a ((record_fits (length m) t a (length (b ∷ d)) s h e).inside (omega arith))))
    (λ e. rw e)

placed_grow : (ls : List (List ℕ)) (m x : List ℕ) (k : ℕ) (s : Seen) → is_ok (verdict (length m) s k ls) ≡ true → placed (m ++ x) ls ≡ placed m ls ++ x
unfolding placed
placed_grow [] m x k s h = refl
placed_grow (l ∷ ls) m x k s h =
    let q = verdict_cons (length m) k s l ls h in
    rw (put_grow m x s (record_of l) q.0) (placed_grow ls (put m (record_of l)) x (k + 1) (after_line s (record_of l)) (rw (put_length m (record_of l)) q.1))

-- more memory: the same verdict unless a byte lay outside
pub read_grow : (m n : ℕ) (f : List ℕ) → sized_of m ≡ true → sized_of n ≡ true → m ≤ n → ((k : ℕ) → read_of m f ≡ refused_at k Refusal.Outside → ⊥) → read_of n f ≡ read_of m f
unfolding read_of
read_grow m n f h g b o = rw (h, g) (verdict_grow (lines_of f) m n 1 start b (rw h at o))

-- and of an accepted file the same bytes, and those behind them as they were
pub memory_grow : (m x f : List ℕ) → is_ok (read_of (length m) f) ≡ true → sized_of (length (m ++ x)) ≡ true → memory_of (m ++ x) f ≡ memory_of m f ++ x
unfolding memory_of
memory_grow m x f ok g =
    let l : length m ≤ length (m ++ x) = omega (arith, length-append m x) in
    let r = read_grow (length m) (length (m ++ x)) f (read_sized (length m) f ok) g l (λ k o. never (sym ok ∙ ap is_ok o)) in
    rw (r, ok) (placed_grow (lines_of f) m x 1 start (read_lines (length m) f ok))
