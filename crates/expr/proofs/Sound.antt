-- What the scan has read is the start of a text of the grammar; what it ends with is a tree of the grammar.
use Prim.Native.Nat.{ℕ, zero, suc, ◌+◌, ◌<◌}
use native.Mathlib.Omega.{arith}
use mathlib.Core.Path.{◌≡◌, refl, sym, ap, ◌∙◌, subst}
use mathlib.Core.Bool.{Bool, true, false, ◌||◌}
use mathlib.Core.List.{List, [], ◌∷◌, ◌++◌, append_assoc, append-nil}
use borrow.Author.Tests.{eqb-true, le-ltb}
use lib.Dec.{eqb, ltb}
use lib.ListN.{length}
use Rattle.expr.specs.Grammar.{Expr, Prod, Fac, InE, InP, InF, in_only, in_sum, in_one, in_times, in_num, in_bracket, in_minus, pick, text_e, text_p, text_f, is_digit, all_digits, sign_byte}
use Rattle.expr.specs.Scan.{AtE, AtP, AtF, used_e, used_p, used_f, expr_at, outer, St, done, Next, Out, step, step_closed, step_summed, step_factored, step_done, opened, finish, finish_e, finish_f, scan, onward, start}
use Rattle.expr.proofs.Cases.{clash}
use Rattle.std.proofs.lemmas.Bool.{and_parts}

-- what stands to the left of a place
unfoldable mutual
  pub left_e : AtE → List ℕ
  left_e AtE.top = []
  left_e (AtE.within k) = left_f k ++ (40 ∷ [])

  pub left_p : AtP → List ℕ
  left_p (AtP.first k) = left_e k
  left_p (AtP.after e m k) = left_e k ++ (text_e e ++ (sign_byte m ∷ []))

  pub left_f : AtF → List ℕ
  left_f (AtF.begins k) = left_p k
  left_f (AtF.times p k) = left_p k ++ (text_p p ++ (42 ∷ []))
  left_f (AtF.negates k) = left_f k ++ (45 ∷ [])

-- a place whose open parts are of the grammar, with so many brackets and minuses left
mutual
  data OkE : ℕ → AtE → Type 0 where
    ok_top : OkE 16 AtE.top
    ok_within : {n : ℕ} {k : AtF} → OkF (suc n) k → OkE n (AtE.within k)

  data OkP : ℕ → AtP → Type 0 where
    ok_first : {n : ℕ} {k : AtE} → OkE n k → OkP n (AtP.first k)
    ok_after : {n : ℕ} {k : AtE} {e : Expr} (m : Bool) → InE n e → OkE n k → OkP n (AtP.after e m k)

  data OkF : ℕ → AtF → Type 0 where
    ok_begins : {n : ℕ} {k : AtP} → OkP n k → OkF n (AtF.begins k)
    ok_times : {n : ℕ} {k : AtP} {p : Prod} → InP n p → OkP n k → OkF n (AtF.times p k)
    ok_negates : {n : ℕ} {k : AtF} → OkF (suc n) k → OkF n (AtF.negates k)

mutual
  unfolding used_e

  room_e : {n : ℕ} {k : AtE} → OkE n k → used_e k + n ≡ 16
  room_e ok_top = refl
  room_e (ok_within x) = omega (arith, room_f x)

  room_p : {n : ℕ} {k : AtP} → OkP n k → used_p k + n ≡ 16
  room_p (ok_first x) = room_e x
  room_p (ok_after m y x) = room_e x

  room_f : {n : ℕ} {k : AtF} → OkF n k → used_f k + n ≡ 16
  room_f (ok_begins x) = room_p x
  room_f (ok_times y x) = room_p x
  room_f (ok_negates x) = omega (arith, room_f x)

-- a state
data OkS : St → Type 0 where
  ok_want : {n : ℕ} {k : AtF} → OkF n k → OkS (St.want k)
  ok_zero : {n : ℕ} {k : AtF} → OkF n k → OkS (St.zero_read k)
  ok_hex : {n : ℕ} {k : AtF} → OkF n k → OkS (St.hex_read k)
  ok_digits : {n : ℕ} {k : AtF} (h : Bool) (d : ℕ) (ds : List ℕ) → all_digits h (d ∷ ds) ≡ true → OkF n k → OkS (St.digits k h d ds)
  ok_factored : {n : ℕ} {k : AtP} {p : Prod} → InP n p → OkP n k → OkS (St.factored k p)
  ok_summed : {n : ℕ} {k : AtE} {e : Expr} → InE n e → OkE n k → OkS (St.summed k e)
  ok_closed : {n : ℕ} {k : AtE} {e : Expr} → InE n e → OkE n k → OkS (St.closed k e)

unfoldable pub text_s : St → List ℕ
text_s (St.want k) = left_f k
text_s (St.zero_read k) = left_f k ++ (48 ∷ [])
text_s (St.hex_read k) = left_f k ++ (48 ∷ 120 ∷ [])
text_s (St.digits k h d ds) = left_f k ++ text_f (Fac.num h d ds)
text_s (St.factored k p) = left_p k ++ text_p p
text_s (St.summed k e) = left_e k ++ text_e e
text_s (St.closed k e) = left_e k ++ text_e e

-- a step keeps it, and adds its byte to the text
abbrev Fine : List ℕ → Next → Type 0
Fine u Next.dead = 0 < 1
Fine u (Next.to st) = OkS st × (text_s st ≡ u)

fine_pick : (u : List ℕ) (b : Bool) (x y : Next) → (b ≡ true → Fine u x) → (b ≡ false → Fine u y) → Fine u (pick b x y)
fine_pick u true x y f g = f refl
fine_pick u false x y f g = g refl

ok_done : {n : ℕ} (k : AtF) (f : Fac) → OkF n k → InF n f → OkS (done k f)
unfolding done
ok_done (AtF.begins k) f (ok_begins x) y = ok_factored (in_one y) x
ok_done (AtF.times p k) f (ok_times z x) y = ok_factored (in_times z y) x
ok_done (AtF.negates k) f (ok_negates x) y = ok_done k (Fac.minus f) x (in_minus y)

text_done : (k : AtF) (f : Fac) → text_s (done k f) ≡ left_f k ++ text_f f
unfolding done text_s left_f text_f
text_done (AtF.begins k) f = refl
text_done (AtF.times p k) f = simp append_assoc
text_done (AtF.negates k) f = text_done k (Fac.minus f) ∙ simp append_assoc

fine_closed : {n : ℕ} (k : AtE) (e : Expr) (c : ℕ) → OkE n k → InE n e → Fine ((left_e k ++ text_e e) ++ (c ∷ [])) (step_closed k e c)
unfolding step_closed left_e text_f
fine_closed AtE.top e c x y = omega arith
fine_closed (AtE.within k) e c (ok_within x) y =
    fine_pick _ (eqb c 41) _ _
    (λ t. (ok_done k (Fac.bracket e) x (in_bracket y), text_done k (Fac.bracket e) ∙ rw (eqb-true c 41 t) (simp append_assoc)))
    (λ t. omega arith)

sign_is : (c : ℕ) → (eqb c 43 || eqb c 45) ≡ true → sign_byte (eqb c 45) ≡ c
sign_is c e = cases (eqb c 43) (eqb c 45) refl refl e
  where
    cases : (a b : Bool) → eqb c 43 ≡ a → eqb c 45 ≡ b → (a || b) ≡ true → sign_byte b ≡ c
    cases a true p q h = sym (eqb-true c 45 q)
    cases true false p q h = sym (eqb-true c 43 p)
    cases false false p q h = clash h

fine_summed : {n : ℕ} (k : AtE) (e : Expr) (c : ℕ) → OkE n k → InE n e → Fine ((left_e k ++ text_e e) ++ (c ∷ [])) (step_summed k e c)
unfolding step_summed text_s left_f
fine_summed k e c x y =
    fine_pick _ (eqb c 43 || eqb c 45) _ _
    (λ t. (ok_want (ok_begins (ok_after (eqb c 45) y x)), rw (sign_is c t) (simp append_assoc)))
    (λ t. fine_closed k e c x y)

expr_ok : {n : ℕ} {k : AtP} {p : Prod} → OkP n k → InP n p → OkE n (outer k) × InE n (expr_at k p)
expr_ok (ok_first x) y = (x, in_only y)
expr_ok (ok_after m z x) y = (x, in_sum m z y)

expr_text : (k : AtP) (p : Prod) → left_e (outer k) ++ text_e (expr_at k p) ≡ left_p k ++ text_p p
unfolding left_e text_e
expr_text (AtP.first k) p = refl
expr_text (AtP.after e m k) p = simp append_assoc

fine_factored : {n : ℕ} (k : AtP) (p : Prod) (c : ℕ) → OkP n k → InP n p → Fine ((left_p k ++ text_p p) ++ (c ∷ [])) (step_factored k p c)
unfolding step_factored text_s left_f
fine_factored k p c x y =
    fine_pick _ (eqb c 42) _ _
    (λ t. (ok_want (ok_times y x), rw (eqb-true c 42 t) (simp append_assoc)))
    (λ t. subst (λ (u : List ℕ). Fine (u ++ (c ∷ [])) (step_summed (outer k) (expr_at k p) c)) (expr_text k p) (fine_summed (outer k) (expr_at k p) c (expr_ok x y).0 (expr_ok x y).1))

begins_text : (k : AtP) (f : Fac) → left_p k ++ text_p (Prod.one f) ≡ left_f (AtF.begins k) ++ text_f f
unfolding left_f text_p
begins_text k f = refl

times_text : (k : AtP) (p : Prod) (f : Fac) → left_p k ++ text_p (Prod.times p f) ≡ left_f (AtF.times p k) ++ text_f f
unfolding left_f text_p
times_text k p f = simp append_assoc

minus_text : (k : AtF) (f : Fac) → left_f k ++ text_f (Fac.minus f) ≡ left_f (AtF.negates k) ++ text_f f
unfolding left_f text_f
minus_text k f = simp append_assoc

fine_done : {n : ℕ} (k : AtF) (f : Fac) (c : ℕ) → OkF n k → InF n f → Fine ((left_f k ++ text_f f) ++ (c ∷ [])) (step_done k f c)
unfolding step_done
fine_done (AtF.begins k) f c (ok_begins x) y = subst (λ (u : List ℕ). Fine (u ++ (c ∷ [])) (step_factored k (Prod.one f) c)) (begins_text k f) (fine_factored k (Prod.one f) c x (in_one y))
fine_done (AtF.times p k) f c (ok_times z x) y = subst (λ (u : List ℕ). Fine (u ++ (c ∷ [])) (step_factored k (Prod.times p f) c)) (times_text k p f) (fine_factored k (Prod.times p f) c x (in_times z y))
fine_done (AtF.negates k) f c (ok_negates x) y = subst (λ (u : List ℕ). Fine (u ++ (c ∷ [])) (step_done k (Fac.minus f) c)) (minus_text k f) (fine_done k (Fac.minus f) c x (in_minus y))

-- one bracket or minus more, where there is room
fine_opened : {n : ℕ} (k inner : AtF) (u : List ℕ) → OkF n k → ((m : ℕ) → OkF (suc m) k → Fine u (Next.to (St.want inner))) → Fine u (opened k inner)
unfolding opened
fine_opened {n = zero} k inner u x f = fine_pick u (ltb (used_f k) 16) _ _ (λ t. clash (sym (le-ltb (used_f k) 16 (omega (arith, room_f x))) ∙ t)) (λ t. omega arith)
fine_opened {n = suc m} k inner u x f = fine_pick u (ltb (used_f k) 16) _ _ (λ t. f m x) (λ t. omega arith)

digits_text : (k : AtF) (h : Bool) (d c : ℕ) (ds : List ℕ) → left_f k ++ text_f (Fac.num h d (ds ++ (c ∷ []))) ≡ (left_f k ++ text_f (Fac.num h d ds)) ++ (c ∷ [])
unfolding text_f
digits_text k h d c ds = simp append_assoc

all_more : (h : Bool) (ds : List ℕ) (c : ℕ) → all_digits h ds ≡ true → is_digit h c ≡ true → all_digits h (ds ++ (c ∷ [])) ≡ true
unfolding all_digits
all_more h [] c a e = rw e
all_more h (d ∷ ds) c a e = rw (and_parts (is_digit h d) (all_digits h ds) a).0 (all_more h ds c (and_parts (is_digit h d) (all_digits h ds) a).1 e)

one_digit : (h : Bool) (c : ℕ) → is_digit h c ≡ true → all_digits h (c ∷ []) ≡ true
unfolding all_digits
one_digit h c e = rw e

pub zero_digit : all_digits false (48 ∷ []) ≡ true
unfolding all_digits is_digit
zero_digit = refl

zero_more : (c : ℕ) → is_digit false c ≡ true → all_digits false (48 ∷ c ∷ []) ≡ true
zero_more c e = all_more false (48 ∷ []) c zero_digit e

fine : {st : St} → OkS st → (c : ℕ) → Fine (text_s st ++ (c ∷ [])) (step st c)
unfolding step text_s left_f text_f
fine (ok_want {k = k} x) c =
    fine_pick _ (eqb c 40) _ _ (λ t. fine_opened k _ _ x (λ m y. (ok_want (ok_begins (ok_first (ok_within y))), rw (eqb-true c 40 t))))
    (λ s. fine_pick _ (eqb c 45) _ _ (λ t. fine_opened k _ _ x (λ m y. (ok_want (ok_negates y), rw (eqb-true c 45 t))))
    (λ t. fine_pick _ (is_digit false c) _ _
    (λ d. fine_pick _ (eqb c 48) _ _ (λ z. (ok_zero x, rw (eqb-true c 48 z))) (λ z. (ok_digits false c [] (one_digit false c d) x, refl)))
    (λ d. omega arith)))
fine (ok_zero {k = k} x) c =
    fine_pick _ (eqb c 120) _ _ (λ t. (ok_hex x, rw (eqb-true c 120 t) (simp append_assoc)))
    (λ s. fine_pick _ (is_digit false c) _ _ (λ d. (ok_digits false 48 (c ∷ []) (zero_more c d) x, simp append_assoc))
    (λ d. fine_done k (Fac.num false 48 []) c x (in_num false 48 [] zero_digit)))
fine (ok_hex {k = k} x) c = fine_pick _ (is_digit true c) _ _ (λ d. (ok_digits true c [] (one_digit true c d) x, simp append_assoc)) (λ d. omega arith)
fine (ok_digits {k = k} h d ds a x) c =
    fine_pick _ (is_digit h c) _ _ (λ e. (ok_digits h d (ds ++ (c ∷ [])) (all_more h (d ∷ ds) c a e) x, digits_text k h d c ds))
    (λ e. fine_done k (Fac.num h d ds) c x (in_num h d ds a))
fine (ok_factored {k = k} {p = p} y x) c = fine_factored k p c x y
fine (ok_summed {k = k} {e = e} y x) c = fine_summed k e c x y
fine (ok_closed {k = k} {e = e} y x) c = fine_closed k e c x y

-- every place can be brought to an end
-- some text of the grammar begins so
pub record Begins (p : List ℕ) : Type 0 where
  pub tree : Expr
  pub good : InE 16 tree
  pub rest : List ℕ
  pub text : text_e tree ≡ p ++ rest

shorter : (u v : List ℕ) → Begins (u ++ v) → Begins u
shorter u v b = record { tree = b.tree; good = b.good; rest = v ++ b.rest; text = b.text ∙ append_assoc u v b.rest }

bracket_text : (k : AtF) (e : Expr) → left_f k ++ text_f (Fac.bracket e) ≡ (left_e (AtE.within k) ++ text_e e) ++ (41 ∷ [])
unfolding left_e text_f
bracket_text k e = simp append_assoc

sum_text : (k : AtE) (e : Expr) (m : Bool) (p : Prod) → left_e k ++ text_e (Expr.sum e m p) ≡ left_p (AtP.after e m k) ++ text_p p
unfolding left_p text_e
sum_text k e m p = simp append_assoc

mutual
  unfolding left_e text_e

  end_e : {n : ℕ} {k : AtE} → OkE n k → {e : Expr} → InE n e → Begins (left_e k ++ text_e e)
  end_e ok_top {e} y = record { tree = e; good = y; rest = []; text = sym (append-nil (text_e e)) }
  end_e (ok_within {k = k} x) {e} y = shorter (left_e (AtE.within k) ++ text_e e) (41 ∷ []) (subst Begins (bracket_text k e) (end_f x (in_bracket y)))

  end_p : {n : ℕ} {k : AtP} → OkP n k → {p : Prod} → InP n p → Begins (left_p k ++ text_p p)
  end_p (ok_first x) y = end_e x (in_only y)
  end_p (ok_after {k = k} {e = e} m z x) {p} y = subst Begins (sum_text k e m p) (end_e x (in_sum m z y))

  end_f : {n : ℕ} {k : AtF} → OkF n k → {f : Fac} → InF n f → Begins (left_f k ++ text_f f)
  end_f (ok_begins x) y = end_p x (in_one y)
  end_f (ok_times {k = k} {p = p} z x) {f} y = subst Begins (times_text k p f) (end_p x (in_times z y))
  end_f (ok_negates {k = k} x) {f} y = subst Begins (minus_text k f) (end_f x (in_minus y))

hex_zero : all_digits true (48 ∷ []) ≡ true
unfolding all_digits is_digit
hex_zero = refl

hex_text : (k : AtF) → left_f k ++ text_f (Fac.num true 48 []) ≡ (left_f k ++ (48 ∷ 120 ∷ [])) ++ (48 ∷ [])
unfolding text_f
hex_text k = simp append_assoc

end_zero : {n : ℕ} {k : AtF} → OkF n k → Begins (left_f k ++ (48 ∷ []))
unfolding text_f
end_zero x = end_f x (in_num false 48 [] zero_digit)

live : {st : St} → OkS st → Begins (text_s st)
unfolding text_s
live (ok_want {k = k} x) = shorter (left_f k) (48 ∷ []) (end_zero x)
live (ok_zero x) = end_zero x
live (ok_hex {k = k} x) = shorter (left_f k ++ (48 ∷ 120 ∷ [])) (48 ∷ []) (subst Begins (hex_text k) (end_f x (in_num true 48 [] hex_zero)))
live (ok_digits h d ds a x) = end_f x (in_num h d ds a)
live (ok_factored y x) = end_p x y
live (ok_summed y x) = end_e x y
live (ok_closed y x) = end_e x y

-- the part of a text up to a column, and what holds of all that was read
pub record Cut (u s : List ℕ) (i n : ℕ) (P : List ℕ → Type 0) : Type 0 where
  pub part : List ℕ
  pub rest : List ℕ
  pub split : s ≡ part ++ rest
  pub column : n ≡ i + length part
  pub holds : P (u ++ part)

pub record Tree (e : Expr) (t : List ℕ) : Type 0 where
  pub good : InE 16 e
  pub text : text_e e ≡ t

abbrev pub Read : List ℕ → List ℕ → ℕ → Out → Type 0
Read u s i (Out.ended e n) = Cut u s i n (Tree e)
Read u s i (Out.bad n) = Cut u s i n Begins

here : (u s : List ℕ) (i : ℕ) (P : List ℕ → Type 0) → P u → Cut u s i i P
here u s i P h = record { part = []; rest = s; split = refl; column = omega arith; holds = subst P (sym (append-nil u)) h }

finish_closed : {n : ℕ} (k : AtE) (e : Expr) (u s : List ℕ) (i : ℕ) → OkE n k → InE n e → u ≡ left_e k ++ text_e e → Read u s i (finish_e k e i)
unfolding finish_e left_e
finish_closed AtE.top e u s i ok_top y q = here u s i (Tree e) (record { good = y; text = sym q })
finish_closed (AtE.within k) e u s i x y q = here u s i Begins (subst Begins (sym q) (end_e x y))

finish_factored : {n : ℕ} (k : AtP) (p : Prod) (s : List ℕ) (i : ℕ) → OkP n k → InP n p → Read (left_p k ++ text_p p) s i (finish_e (outer k) (expr_at k p) i)
finish_factored k p s i x y = finish_closed (outer k) (expr_at k p) _ s i (expr_ok x y).0 (expr_ok x y).1 (sym (expr_text k p))

finish_done : {n : ℕ} (k : AtF) (f : Fac) (s : List ℕ) (i : ℕ) → OkF n k → InF n f → Read (left_f k ++ text_f f) s i (finish_f k f i)
unfolding finish_f
finish_done (AtF.begins k) f s i (ok_begins x) y = subst (λ (u : List ℕ). Read u s i (finish_e (outer k) (expr_at k (Prod.one f)) i)) (begins_text k f) (finish_factored k (Prod.one f) s i x (in_one y))
finish_done (AtF.times p k) f s i (ok_times z x) y = subst (λ (u : List ℕ). Read u s i (finish_e (outer k) (expr_at k (Prod.times p f)) i)) (times_text k p f) (finish_factored k (Prod.times p f) s i x (in_times z y))
finish_done (AtF.negates k) f s i (ok_negates x) y = subst (λ (u : List ℕ). Read u s i (finish_f k (Fac.minus f) i)) (minus_text k f) (finish_done k (Fac.minus f) s i x (in_minus y))

finish_read : {st : St} → OkS st → (s : List ℕ) (i : ℕ) → Read (text_s st) s i (finish st i)
unfolding finish text_s text_f
finish_read (ok_want x) s i = here _ s i Begins (live (ok_want x))
finish_read (ok_zero {k = k} x) s i = finish_done k (Fac.num false 48 []) s i x (in_num false 48 [] zero_digit)
finish_read (ok_hex x) s i = here _ s i Begins (live (ok_hex x))
finish_read (ok_digits {k = k} h d ds a x) s i = finish_done k (Fac.num h d ds) s i x (in_num h d ds a)
finish_read (ok_factored {k = k} {p = p} y x) s i = finish_factored k p s i x y
finish_read (ok_summed {k = k} {e = e} y x) s i = finish_closed k e _ s i x y refl
finish_read (ok_closed {k = k} {e = e} y x) s i = finish_closed k e _ s i x y refl

cut_more : (u : List ℕ) (c : ℕ) (cs : List ℕ) (i n : ℕ) (P : List ℕ → Type 0) → Cut (u ++ (c ∷ [])) cs (suc i) n P → Cut u (c ∷ cs) i n P
cut_more u c cs i n P x = record { part = c ∷ x.part; rest = x.rest; split = ap (λ (l : List ℕ). c ∷ l) x.split; column = omega (arith, x.column); holds = subst P (append_assoc u (c ∷ []) x.part) x.holds }

read_more : (u : List ℕ) (c : ℕ) (cs : List ℕ) (i : ℕ) (o : Out) → Read (u ++ (c ∷ [])) cs (suc i) o → Read u (c ∷ cs) i o
read_more u c cs i (Out.ended e n) x = cut_more u c cs i n (Tree e) x
read_more u c cs i (Out.bad n) x = cut_more u c cs i n Begins x

onward_read : (x : Next) (u : List ℕ) (c : ℕ) (cs : List ℕ) (i : ℕ) (o : Out) → Fine (u ++ (c ∷ [])) x → Read u (c ∷ cs) i o → ((t : St) → OkS t → Read (text_s t) cs (suc i) (scan t (suc i) cs)) → Read u (c ∷ cs) i (onward x o (λ (t : St). scan t (suc i) cs))
onward_read Next.dead u c cs i o f r g = r
onward_read (Next.to t) u c cs i o f r g = read_more u c cs i (scan t (suc i) cs) (subst (λ (v : List ℕ). Read v cs (suc i) (scan t (suc i) cs)) f.1 (g t f.0))

-- the scan, from any state
scan_read : (s : List ℕ) (st : St) → OkS st → (i : ℕ) → Read (text_s st) s i (scan st i s)
unfolding scan
scan_read [] st x i = finish_read x [] i
scan_read (c ∷ cs) st x i = onward_read (step st c) (text_s st) c cs i (finish st i) (fine x c) (finish_read x (c ∷ cs) i) (λ t y. scan_read cs t y (suc i))

pub start_read_at : (s : List ℕ) (i : ℕ) → Read [] s i (scan start i s)
unfolding text_s left_e
start_read_at s i = scan_read s start (ok_want (ok_begins (ok_first ok_top))) i
