-- The rows of a letter, from one test that is computed.
use Prim.Native.Nat.{ℕ, ◌≤◌, ◌<◌}
use mathlib.Core.Path.{◌≡◌, refl, sym, subst}
use mathlib.Core.Bool.{true}
use mathlib.Core.List.{List, [], ◌∷◌}
use borrow.Author.Tests.{ne_eqb}
use lib.ListN.{length}
use Rattle.insn.specs.declared.profile.Profile.{Profile}
use Rattle.insn.specs.declared.instr.Instr.{Instr}
use Rattle.syntax.specs.Syntax.{Item}
use Rattle.syntax.specs.Rows.{samples}
use Rattle.syntax.specs.Inside.{pattern_at, wide, matches_from, matches, rows_on, StandFor}
use Rattle.syntax.proofs.Rows.{right_at}
use Rattle.syntax.proofs.Groups.{some}

-- a row that is one of so many has room for its line
pub row_narrow : (is : List Instr) (t : List ℕ) (n : ℕ) → matches t is ≡ true → n < length is → wide (pattern_at t n) ≤ 64
row_narrow is t n e l = let r = right_at is t n some e l in subst (λ (x : List Item). wide x ≤ 64) (sym r.shape) r.narrow

-- ---- by the letter

-- what the default knows
abbrev Misses : Type 0 → List ℕ → ℕ → Type 0
Misses P [] c = P
Misses P (k ∷ ks) c = Misses (P × (c ≡ k → ⊥)) ks c

abbrev pub NoLetter : ℕ → Type 0
NoLetter c = Misses (Unit {0}) (97 ∷ 98 ∷ 99 ∷ 100 ∷ 101 ∷ 108 ∷ 109 ∷ 110 ∷ 111 ∷ 114 ∷ 115 ∷ 116 ∷ 119 ∷ 120 ∷ []) c

no_letter : (p : Profile) (c : ℕ) → NoLetter c → samples p c ≡ []
unfolding samples
no_letter p c h =
    rw (ne_eqb c 97 h.0.0.0.0.0.0.0.0.0.0.0.0.0.1, ne_eqb c 98 h.0.0.0.0.0.0.0.0.0.0.0.0.1, ne_eqb c 99 h.0.0.0.0.0.0.0.0.0.0.0.1, ne_eqb c 100 h.0.0.0.0.0.0.0.0.0.0.1, ne_eqb c 101 h.0.0.0.0.0.0.0.0.0.1, ne_eqb c 108 h.0.0.0.0.0.0.0.0.1, ne_eqb c 109 h.0.0.0.0.0.0.0.1, ne_eqb c 110 h.0.0.0.0.0.0.1, ne_eqb c 111 h.0.0.0.0.0.1, ne_eqb c 114 h.0.0.0.0.1, ne_eqb c 115 h.0.0.0.1, ne_eqb c 116 h.0.0.1, ne_eqb c 119 h.0.1, ne_eqb c 120 h.1)

pub none_given : (p : Profile) (c : ℕ) → NoLetter c → StandFor [] (samples p c)
unfolding matches matches_from
none_given p c h = rw (no_letter p c h) (record { right = refl; whole = refl })

pub letter_gives : (p : Profile) (c k : ℕ) (t : List ℕ) → c ≡ k → StandFor t (samples p k) → StandFor t (samples p c)
letter_gives p c k t e h = rw e h

-- of both cores
pub core_rows : (p : Profile) (n c : ℕ) (t r : List ℕ) → r ≡ rows_on p n t → StandFor (rows_on Profile.Ppe42 n t) (samples Profile.Ppe42 c) → StandFor (rows_on Profile.Ppe42x n t) (samples Profile.Ppe42x c) → StandFor r (samples p c)
core_rows Profile.Ppe42 n c t r e a b = rw e a
core_rows Profile.Ppe42x n c t r e a b = rw e b
