-- One register written: it holds what was written, and every other register and every GPR is as it was; the same for a GPR and for a pair. Assumes nothing.
use Prim.Native.Nat.{ℕ, ◌/◌, ◌%◌, ◌^◌, ◌<◌}
use native.Mathlib.Omega.{arith}
use mathlib.Core.Bool.{Bool, true, false, cond}
use mathlib.Core.List.{List, [], ◌∷◌}
use mathlib.Core.Path.{◌≡◌, refl, sym, ap, ◌∙◌, subst}
use lib.Dec.{eqb, lit<}
use lib.ListN.{length, get_or, length-set}
use lib.Seq.{get_or-set_same, get_or-set_other, ext_get_or}
use borrow.Author.Tests.{eqb-true, eqb-false, eq-eqb, ne_eqb}
use Rattle.word.proofs.Below.{same_at, agree_at}
use Rattle.word.proofs.Truth.{never, and_true}
use Rattle.insn.specs.Valid.{reg_of, paired_with, is_vdr}
use Rattle.insn.proofs.Round.{reg_lt}
use Rattle.machine.specs.State.{place_of, gpr_of, vdr_of, contents_of, registers, order_of, same, holding, with_gpr, with_vdr, with}
use Rattle.machine.specs.declared.state.State.{State}
use Rattle.machine.specs.declared.state.Reg.{Reg}

-- the only table: each register stands where its order says, and a state made of contents has them
placed : (g : List ℕ) (c : Reg → ℕ) (r : Reg) → (get_or registers (order_of r) Reg.Cr ≡ r) × (contents_of (holding g c) r ≡ c r)
placed g c Reg.Cr = (refl, refl)
placed g c Reg.Ctr = (refl, refl)
placed g c Reg.Dacr = (refl, refl)
placed g c Reg.Dbcr = (refl, refl)
placed g c Reg.Dec = (refl, refl)
placed g c Reg.Edr = (refl, refl)
placed g c Reg.Isr = (refl, refl)
placed g c Reg.Ivpr = (refl, refl)
placed g c Reg.Lr = (refl, refl)
placed g c Reg.Msr = (refl, refl)
placed g c Reg.Pir = (refl, refl)
placed g c Reg.Pvr = (refl, refl)
placed g c Reg.Sprg0 = (refl, refl)
placed g c Reg.Srr0 = (refl, refl)
placed g c Reg.Srr1 = (refl, refl)
placed g c Reg.Tcr = (refl, refl)
placed g c Reg.Tsr = (refl, refl)
placed g c Reg.Xer = (refl, refl)
placed g c Reg.Iar = (refl, refl)
placed g c Reg.Halt = (refl, refl)

pub in_order : (r : Reg) → get_or registers (order_of r) Reg.Cr ≡ r
in_order r = (placed [] order_of r).0

pub holding_contents : (g : List ℕ) (c : Reg → ℕ) (r : Reg) → contents_of (holding g c) r ≡ c r
holding_contents g c r = (placed g c r).1

-- `same` tells whether two registers are one
order_once : (q r : Reg) → order_of q ≡ order_of r → q ≡ r
order_once q r e = sym (in_order q) ∙ (ap (λ (n : ℕ). get_or registers n Reg.Cr) e ∙ in_order r)

pub same_one : (q r : Reg) → same q r ≡ true → q ≡ r
same_one q r h = order_once q r (eqb-true (order_of q) (order_of r) h)

pub same_self : (r : Reg) → same r r ≡ true
same_self r = eq-eqb (order_of r) (order_of r) refl

pub same_none : (q r : Reg) → (q ≡ r → ⊥) → same q r ≡ false
same_none q r h = ne_eqb (order_of q) (order_of r) (λ e. h (order_once q r e))

-- the contents of r after q was written
pub with_contents : (s : State) (q r : Reg) (v : ℕ) → contents_of (with s q v) r ≡ cond (same q r) v (contents_of s r)
unfolding with
with_contents s q r v = holding_contents s.gpr (λ p. cond (same q p) v (contents_of s p)) r

pub written_there : (s : State) (r : Reg) (v : ℕ) → contents_of (with s r v) r ≡ v
written_there s r v = rw (with_contents s r r v, same_self r)

pub written_elsewhere : (s : State) (q r : Reg) (v : ℕ) → (q ≡ r → ⊥) → contents_of (with s q v) r ≡ contents_of s r
written_elsewhere s q r v h = rw (with_contents s q r v, same_none q r h)

pub written_gprs : (s : State) (q : Reg) (v : ℕ) → (with s q v).gpr ≡ s.gpr
unfolding with
written_gprs s q v = refl

pub written_gpr : (s : State) (q : Reg) (v n : ℕ) → gpr_of (with s q v) n ≡ gpr_of s n
unfolding with gpr_of
written_gpr s q v n = refl

-- after GPR(n) was written
pub gpr_others : (s : State) (n v : ℕ) (r : Reg) → contents_of (with_gpr s n v) r ≡ contents_of s r
unfolding with_gpr
gpr_others s n v r = holding_contents (with_gpr s n v).gpr (contents_of s) r

place_cases : (b : Bool) (n : ℕ) → cond b 11 (n % 16) < 16
place_cases true n = lit< tt
place_cases false n = omega arith

pub gpr_there : (s : State) (n v : ℕ) → length s.gpr ≡ 16 → gpr_of (with_gpr s n v) n ≡ v
unfolding with_gpr gpr_of
gpr_there s n v l = get_or-set_same s.gpr (place_of n) v 0 (rw l (place_cases (eqb n 13) n))

pub gpr_elsewhere : (s : State) (m n v : ℕ) → (place_of m ≡ place_of n → ⊥) → gpr_of (with_gpr s m v) n ≡ gpr_of s n
unfolding with_gpr gpr_of
gpr_elsewhere s m n v h = get_or-set_other s.gpr (place_of m) (place_of n) v 0 (λ e. h (sym e))

pub gpr_count : (s : State) (n v : ℕ) → length (with_gpr s n v).gpr ≡ length s.gpr
unfolding with_gpr
gpr_count s n v = length-set s.gpr (place_of n) v

-- the numbers of the sixteen GPRs, in their places (8.3)
abbrev pub numbers : List ℕ
numbers = 0 ∷ 1 ∷ 2 ∷ 3 ∷ 4 ∷ 5 ∷ 6 ∷ 7 ∷ 8 ∷ 9 ∷ 10 ∷ 13 ∷ 28 ∷ 29 ∷ 30 ∷ 31 ∷ []

pub place_number : (n : ℕ) → reg_of n ≡ true → get_or numbers (place_of n) 0 ≡ n
unfolding reg_of
place_number n h = rw h at (same_at (λ n m. cond (reg_of n) (get_or numbers (place_of n) 0) n) (λ n m. n) 32 1 tt n 0 (reg_lt n h) (lit< tt))

number_place : (p : ℕ) → p < 16 → place_of (get_or numbers p 0) ≡ p
number_place p h = same_at (λ p q. place_of (get_or numbers p 0)) (λ p q. p) 16 1 tt p 0 h (lit< tt)

number_valid : (p : ℕ) → p < 16 → reg_of (get_or numbers p 0) ≡ true
unfolding reg_of
number_valid p h = agree_at (λ p q. reg_of (get_or numbers p 0)) (λ p q. true) 16 1 tt p 0 h (lit< tt)

-- two registers of the manual stand in two places, as `gpr_elsewhere` asks
pub places_differ : (m n : ℕ) → reg_of m ≡ true → reg_of n ≡ true → (m ≡ n → ⊥) → place_of m ≡ place_of n → ⊥
places_differ m n v w d e = d (sym (place_number m v) ∙ (ap (λ (p : ℕ). get_or numbers p 0) e ∙ place_number n w))

-- after VDR(n) was written
pair_apart : (n : ℕ) → paired_with n ≡ n → ⊥
pair_apart n e = omega arith

pub vdr_there : (s : State) (n v : ℕ) → length s.gpr ≡ 16 → is_vdr n ≡ true → vdr_of (with_vdr s n v) n ≡ v
unfolding with_vdr vdr_of
vdr_there s n v l h =
    let r = and_true (reg_of n) (reg_of (paired_with n)) h in
    let u = with_gpr s n (v / 2 ^ 32) in
    let low = gpr_there u (paired_with n) (v % 2 ^ 32) (gpr_count s n (v / 2 ^ 32) ∙ l) in
    let high = gpr_elsewhere u (paired_with n) n (v % 2 ^ 32) (places_differ (paired_with n) n r.1 r.0 (pair_apart n)) ∙ gpr_there s n (v / 2 ^ 32) l in
    rw (high, low) (omega arith)

pub vdr_elsewhere : (s : State) (n v m : ℕ) → is_vdr n ≡ true → reg_of m ≡ true → (n ≡ m → ⊥) → (paired_with n ≡ m → ⊥) → gpr_of (with_vdr s n v) m ≡ gpr_of s m
unfolding with_vdr
vdr_elsewhere s n v m h w d e =
    let r = and_true (reg_of n) (reg_of (paired_with n)) h in
    gpr_elsewhere (with_gpr s n (v / 2 ^ 32)) (paired_with n) m (v % 2 ^ 32) (places_differ (paired_with n) m r.1 w e)
    ∙ gpr_elsewhere s n m (v / 2 ^ 32) (places_differ n m r.0 w d)

pub vdr_others : (s : State) (n v : ℕ) (r : Reg) → contents_of (with_vdr s n v) r ≡ contents_of s r
unfolding with_vdr
vdr_others s n v r = gpr_others (with_gpr s n (v / 2 ^ 32)) (paired_with n) (v % 2 ^ 32) r ∙ gpr_others s n (v / 2 ^ 32) r

-- nothing else is in a state: the GPRs and these contents make it, and the registers' numbers reach every GPR
pub state_is : (s t : State) → s.gpr ≡ t.gpr → ((r : Reg) → contents_of s r ≡ contents_of t r) → s ≡ t
state_is s t g e = λ i. holding (g i) (λ r. e r i)

pub gprs_are : (s t : State) → length s.gpr ≡ 16 → length t.gpr ≡ 16 → ((n : ℕ) → reg_of n ≡ true → gpr_of s n ≡ gpr_of t n) → s.gpr ≡ t.gpr
unfolding gpr_of
gprs_are s t l m h = ext_get_or 0 s.gpr t.gpr (l ∙ sym m) at_place
  where
    at_place : (p : ℕ) → p < length s.gpr → get_or s.gpr p 0 ≡ get_or t.gpr p 0
    at_place p k = rw (number_place p (rw l at k)) at (h (get_or numbers p 0) (number_valid p (rw l at k)))

-- so these laws are all that there is to say of a write: what meets them is `with`, or `with_gpr`
pub with_is : (s t : State) (q : Reg) (v : ℕ) → contents_of t q ≡ v → ((r : Reg) → (q ≡ r → ⊥) → contents_of t r ≡ contents_of s r) → t.gpr ≡ s.gpr → t ≡ with s q v
with_is s t q v there elsewhere gprs = state_is t (with s q v) (gprs ∙ sym (written_gprs s q v)) (λ r. by_one r (same q r) refl)
  where
    by_one : (r : Reg) (b : Bool) → same q r ≡ b → contents_of t r ≡ contents_of (with s q v) r
    by_one r true e = subst (λ (p : Reg). contents_of t p ≡ contents_of (with s q v) p) (same_one q r e) (there ∙ sym (written_there s q v))
    by_one r false e =
        let other : q ≡ r → ⊥ = λ p. never (sym (subst (λ (x : Reg). same q x ≡ true) p (same_self q)) ∙ e) in
        elsewhere r other ∙ sym (written_elsewhere s q r v other)

pub with_gpr_is : (s t : State) (n v : ℕ) → length s.gpr ≡ 16 → length t.gpr ≡ 16 → reg_of n ≡ true → gpr_of t n ≡ v
    → ((m : ℕ) → reg_of m ≡ true → (n ≡ m → ⊥) → gpr_of t m ≡ gpr_of s m) → ((r : Reg) → contents_of t r ≡ contents_of s r) → t ≡ with_gpr s n v
with_gpr_is s t n v ls lt valid there elsewhere others =
    state_is t (with_gpr s n v) (gprs_are t (with_gpr s n v) lt (gpr_count s n v ∙ ls) (λ m w. by_one m w (eqb n m) refl)) (λ r. others r ∙ sym (gpr_others s n v r))
  where
    by_one : (m : ℕ) → reg_of m ≡ true → (b : Bool) → eqb n m ≡ b → gpr_of t m ≡ gpr_of (with_gpr s n v) m
    by_one m w true e = subst (λ (p : ℕ). gpr_of t p ≡ gpr_of (with_gpr s n v) p) (eqb-true n m e) (there ∙ sym (gpr_there s n v ls))
    by_one m w false e = elsewhere m w (eqb-false n m e) ∙ sym (gpr_elsewhere s n m v (places_differ n m valid w (eqb-false n m e)))
