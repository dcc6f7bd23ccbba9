-- The samples of a letter: their lines begin with it, and no two share a line. So every line of the grammar is of one row alone.
use Prim.Native.Nat.{ℕ, zero, suc, ◌<◌}
use native.Mathlib.Omega.{arith}
use mathlib.Core.Path.{◌≡◌, refl, sym, ap, ◌∙◌, subst}
use mathlib.Core.Bool.{Bool, true, false, ◌&&◌}
use mathlib.Core.List.{List, [], ◌∷◌}
use borrow.Author.Tests.{eqb-true}
use lib.Dec.{eqb}
use lib.ListN.{length, get_or}
use Rattle.expr.specs.Grammar.{pick, is_digit}
use Rattle.expr.proofs.Cases.{split_lt, clash}
use Rattle.std.proofs.lemmas.Bool.{and_parts}
use Rattle.insn.specs.declared.profile.Profile.{Profile}
use Rattle.insn.specs.declared.instr.Instr.{Instr}
use Rattle.insn.specs.declared.instr.System.{System}
use Rattle.syntax.specs.Text.{bytes}
use Rattle.syntax.specs.Syntax.{Item, lit, reg, zreg, num, letters, commas, spelt, spelled_on, items_of, shape_of}
use Rattle.syntax.specs.Line.{Part, Line, line_more, fits_lit, texts, text_of}
use Rattle.syntax.specs.Take.{apart, well_made}
use Rattle.syntax.specs.Rows.{samples, samples_a, samples_b, samples_c, samples_d, samples_e, samples_l, samples_m, samples_n, samples_o, samples_r, samples_s, samples_t, samples_w, samples_x, row_of}
use Rattle.syntax.proofs.Spelled.{spelled_42x}
use Rattle.syntax.proofs.Samples.{sample_shape, sample_at_lem, row_in}
use Rattle.syntax.proofs.Rows.{differ, differ_texts}

-- a claim for the samples of every byte
at_letter_lem : (P : ℕ → List Instr → Type 0) (c a : ℕ) (xs rest : List Instr) → P a xs → P c rest → P c (pick (eqb c a) xs rest)
at_letter_lem P c a xs rest p q = letter_case (eqb c a) refl
  where
    letter_case : (b : Bool) → eqb c a ≡ b → P c (pick b xs rest)
    letter_case true e = subst (λ (x : ℕ). P x xs) (sym (eqb-true c a e)) p
    letter_case false e = q

unfoldable head_is : ℕ → List Item → Bool
head_is c [] = false
head_is c (lit a ∷ xs) = eqb a c
head_is c (reg ∷ xs) = false
head_is c (zreg ∷ xs) = false
head_is c (num r ∷ xs) = false

unfoldable apart_from : Instr → List Instr → Bool
apart_from i [] = true
apart_from i (j ∷ js) = differ (shape_of i) (shape_of j) && apart_from i js

-- each line begins with the letter, items end where the next begin, and no two shapes share a line
unfoldable ordered : ℕ → List Instr → Bool
ordered c [] = true
ordered c (i ∷ is) = (head_is c (shape_of i) && well_made (shape_of i)) && (apart_from i is && ordered c is)

abbrev Ordered : ℕ → List Instr → Type 0
Ordered c is = ordered c is ≡ true

all_ordered : (p : Profile) (c : ℕ) → Ordered c (samples p c)
unfolding samples samples_a samples_b samples_c samples_d samples_e samples_l samples_m samples_n samples_o samples_r samples_s samples_t samples_w samples_x ordered head_is apart_from differ well_made apart is_digit shape_of items_of spelt commas letters bytes
all_ordered p c =
    at_letter_lem Ordered c 97 samples_a _ refl (at_letter_lem Ordered c 98 samples_b _ refl (at_letter_lem Ordered c 99 samples_c _ refl (at_letter_lem Ordered c 100 samples_d _ refl
    (at_letter_lem Ordered c 101 samples_e _ refl (at_letter_lem Ordered c 108 (samples_l p) _ (elim p as (λ (q : Profile). Ordered 108 (samples_l q)) [ Profile.Ppe42 ↦ refl | Profile.Ppe42x ↦ refl ]) (at_letter_lem Ordered c 109 (samples_m p) _ (elim p as (λ (q : Profile). Ordered 109 (samples_m q)) [ Profile.Ppe42 ↦ refl | Profile.Ppe42x ↦ refl ]) (at_letter_lem Ordered c 110 samples_n _ refl
    (at_letter_lem Ordered c 111 samples_o _ refl (at_letter_lem Ordered c 114 (samples_r p) _ (elim p as (λ (q : Profile). Ordered 114 (samples_r q)) [ Profile.Ppe42 ↦ refl | Profile.Ppe42x ↦ refl ]) (at_letter_lem Ordered c 115 (samples_s p) _ (elim p as (λ (q : Profile). Ordered 115 (samples_s q)) [ Profile.Ppe42 ↦ refl | Profile.Ppe42x ↦ refl ]) (at_letter_lem Ordered c 116 samples_t _ refl
    (at_letter_lem Ordered c 119 samples_w _ refl (at_letter_lem Ordered c 120 samples_x _ refl refl)))))))))))))

ordered_parts : (c : ℕ) (i : Instr) (is : List Instr) → Ordered c (i ∷ is) → ((head_is c (shape_of i) ≡ true) × (well_made (shape_of i) ≡ true)) × ((apart_from i is ≡ true) × (ordered c is ≡ true))
unfolding ordered
ordered_parts c i is e =
    let a : ((head_is c (shape_of i) && well_made (shape_of i)) ≡ true) × ((apart_from i is && ordered c is) ≡ true) = and_parts _ _ e in
    (and_parts _ _ a.0, and_parts _ _ a.1)

head_at : (c : ℕ) (is : List Instr) (n : ℕ) (d : Instr) → Ordered c is → n < length is → (head_is c (shape_of (get_or is n d)) ≡ true) × (well_made (shape_of (get_or is n d)) ≡ true)
head_at c [] n d o l = let z : ⊥ = omega arith in absurd z
head_at c (i ∷ is) zero d o l = (ordered_parts c i is o).0
head_at c (i ∷ is) (suc n) d o l = head_at c is n d (ordered_parts c i is o).1.1 (omega arith)

apart_at : (i : Instr) (is : List Instr) (n : ℕ) (d : Instr) → apart_from i is ≡ true → n < length is → differ (shape_of i) (shape_of (get_or is n d)) ≡ true
unfolding apart_from
apart_at i [] n d e l = let z : ⊥ = omega arith in absurd z
apart_at i (j ∷ js) zero d e l = (and_parts (differ (shape_of i) (shape_of j)) (apart_from i js) e).0
apart_at i (j ∷ js) (suc n) d e l = apart_at i js n d (and_parts (differ (shape_of i) (shape_of j)) (apart_from i js) e).1 (omega arith)

differ_at : (c : ℕ) (is : List Instr) (n m : ℕ) (d : Instr) → Ordered c is → n < m → m < length is → differ (shape_of (get_or is n d)) (shape_of (get_or is m d)) ≡ true
differ_at c [] n m d o l k = let z : ⊥ = omega arith in absurd z
differ_at c (i ∷ is) n zero d o l k = let z : ⊥ = omega arith in absurd z
differ_at c (i ∷ is) zero (suc m) d o l k = apart_at i is m d (ordered_parts c i is o).1.0 (omega arith)
differ_at c (i ∷ is) (suc n) (suc m) d o l k = differ_at c is n m d (ordered_parts c i is o).1.1 (omega arith) (omega arith)

-- any instruction, where a list needs one
abbrev pub some : Instr
some = Instr.System System.Sync

-- sample n of a letter
abbrev pub sample_at : Profile → ℕ → ℕ → Instr
sample_at p c n = get_or (samples p c) n some

-- a core's samples have its mnemonics
unfoldable all_spelled : Profile → List Instr → Bool
all_spelled p [] = true
all_spelled p (i ∷ is) = spelled_on p i && all_spelled p is

abbrev AllSpelled : Profile → ℕ → List Instr → Type 0
AllSpelled p c is = all_spelled p is ≡ true

all_spelled_lem : (p : Profile) (c : ℕ) → AllSpelled p c (samples p c)
unfolding samples samples_a samples_b samples_c samples_d samples_e samples_l samples_m samples_n samples_o samples_r samples_s samples_t samples_w samples_x all_spelled
all_spelled_lem p c =
    at_letter_lem (AllSpelled p) c 97 samples_a _ refl (at_letter_lem (AllSpelled p) c 98 samples_b _ refl (at_letter_lem (AllSpelled p) c 99 samples_c _ refl (at_letter_lem (AllSpelled p) c 100 samples_d _ refl
    (at_letter_lem (AllSpelled p) c 101 samples_e _ refl (at_letter_lem (AllSpelled p) c 108 (samples_l p) _ (elim p as (λ (q : Profile). AllSpelled q 108 (samples_l q)) [ Profile.Ppe42 ↦ refl | Profile.Ppe42x ↦ refl ]) (at_letter_lem (AllSpelled p) c 109 (samples_m p) _ (elim p as (λ (q : Profile). AllSpelled q 109 (samples_m q)) [ Profile.Ppe42 ↦ refl | Profile.Ppe42x ↦ refl ]) (at_letter_lem (AllSpelled p) c 110 samples_n _ refl
    (at_letter_lem (AllSpelled p) c 111 samples_o _ refl (at_letter_lem (AllSpelled p) c 114 (samples_r p) _ (elim p as (λ (q : Profile). AllSpelled q 114 (samples_r q)) [ Profile.Ppe42 ↦ refl | Profile.Ppe42x ↦ refl ]) (at_letter_lem (AllSpelled p) c 115 (samples_s p) _ (elim p as (λ (q : Profile). AllSpelled q 115 (samples_s q)) [ Profile.Ppe42 ↦ refl | Profile.Ppe42x ↦ refl ]) (at_letter_lem (AllSpelled p) c 116 samples_t _ refl
    (at_letter_lem (AllSpelled p) c 119 samples_w _ refl (at_letter_lem (AllSpelled p) c 120 samples_x _ refl refl)))))))))))))

spelled_in : (p : Profile) (is : List Instr) (n : ℕ) (d : Instr) → all_spelled p is ≡ true → n < length is → spelled_on p (get_or is n d) ≡ true
unfolding all_spelled
spelled_in p [] n d e l = let z : ⊥ = omega arith in absurd z
spelled_in p (i ∷ is) zero d e l = (and_parts (spelled_on p i) (all_spelled p is) e).0
spelled_in p (i ∷ is) (suc n) d e l = spelled_in p is n d (and_parts (spelled_on p i) (all_spelled p is) e).1 (omega arith)

pub sample_spelled : (p : Profile) (c n : ℕ) → n < length (samples p c) → spelled_on p (sample_at p c n) ≡ true
sample_spelled p c n l = spelled_in p (samples p c) n some (all_spelled_lem p c) l

pub one_row : (p : Profile) (c n m : ℕ) (ps qs : List Part) → n < length (samples p c) → m < length (samples p c) → Line (shape_of (sample_at p c n)) ps → Line (shape_of (sample_at p c m)) qs → texts ps ≡ texts qs → n ≡ m
one_row p c n m ps qs l k x y e =
    split_lt n m
    (λ a. let z : ⊥ = differ_texts _ _ ps qs (differ_at c (samples p c) n m some (all_ordered p c) a k) x y e in absurd z)
    (λ a. split_lt m n (λ b. let z : ⊥ = differ_texts _ _ qs ps (differ_at c (samples p c) m n some (all_ordered p c) b l) y x (sym e) in absurd z) (λ b. omega arith))

head_text : (c : ℕ) (xs : List Item) (ps : List Part) (a : ℕ) (w : List ℕ) → head_is c xs ≡ true → Line xs ps → texts ps ≡ a ∷ w → c ≡ a
unfolding head_is texts text_of
head_text c [] ps a w h l e = clash h
head_text c (lit b ∷ xs) (p ∷ ps) a w h (line_more (fits_lit _) l) e = let q : b ≡ c = eqb-true b c h in let r : b ≡ a = cc in sym q ∙ r
head_text c (lit b ∷ xs) [] a w h l e = elim l [ ]
head_text c (reg ∷ xs) ps a w h l e = clash h
head_text c (zreg ∷ xs) ps a w h l e = clash h
head_text c (num r ∷ xs) ps a w h l e = clash h

head_some : (c : ℕ) (xs : List Item) (ps : List Part) → head_is c xs ≡ true → Line xs ps → texts ps ≡ [] → ⊥
unfolding head_is texts text_of
head_some c [] ps h l e = clash h
head_some c (lit b ∷ xs) (p ∷ ps) h (line_more (fits_lit _) l) e = let z : ◌≡◌ {A = ℕ} 0 1 = cc in omega arith
head_some c (lit b ∷ xs) [] h l e = elim l [ ]
head_some c (reg ∷ xs) ps h l e = clash h
head_some c (zreg ∷ xs) ps h l e = clash h
head_some c (num r ∷ xs) ps h l e = clash h

shape_at : (p : Profile) (i : Instr) → spelled_on p i ≡ true → shape_of i ≡ shape_of (sample_at p (row_of i).letter (row_of i).row)
shape_at p i h = sample_shape i ∙ ap shape_of (sym (sample_at_lem p i some h))

head_of : (i : Instr) → (head_is (row_of i).letter (shape_of i) ≡ true) × (well_made (shape_of i) ≡ true)
head_of i =
    let p : Profile = Profile.Ppe42x in
    rw (shape_at p i (spelled_42x i)) (head_at (row_of i).letter (samples p (row_of i).letter) (row_of i).row some (all_ordered p (row_of i).letter) (row_in p i (spelled_42x i)))

-- the row among a core's of a line's first byte that an instruction's lines are in
pub record InRow (p : Profile) (i : Instr) (c : ℕ) : Type 0 where
  pub row : ℕ
  pub listed : row < length (samples p c)
  pub shape : shape_of i ≡ shape_of (sample_at p c row)
  pub here : (row_of i).letter ≡ c
  pub where_it_is : (row_of i).row ≡ row

pub in_row : (p : Profile) (i : Instr) (ps : List Part) (c : ℕ) (w : List ℕ) → spelled_on p i ≡ true → Line (shape_of i) ps → texts ps ≡ c ∷ w → InRow p i c
in_row p i ps c w h l e =
    let q : (row_of i).letter ≡ c = head_text (row_of i).letter (shape_of i) ps c w (head_of i).0 l e in
    record {
      row = (row_of i).row;
      listed = rw q at (row_in p i h);
      shape = subst (λ (x : ℕ). shape_of i ≡ shape_of (sample_at p x (row_of i).row)) q (shape_at p i h);
      here = q;
      where_it_is = refl;
    }

pub no_empty : (i : Instr) (ps : List Part) → Line (shape_of i) ps → texts ps ≡ [] → ⊥
no_empty i ps l e = head_some (row_of i).letter (shape_of i) ps (head_of i).0 l e

pub shape_made : (i : Instr) → well_made (shape_of i) ≡ true
shape_made i = (head_of i).1
