-- What is written is read back, what is read is written back, and an illegal word is no valid instruction's: on a 42X, and on either core. Assumes nothing.
use mathlib.Core.Path.{◌≡◌, ◌∙◌, refl, sym, ap}
use mathlib.Core.Bool.{Bool, true, false, not, ◌&&◌, ◌||◌}
use mathlib.Core.List.{List, [], ◌∷◌}
use Prim.Native.Nat.{ℕ, ◌+◌, ◌%◌, ◌<◌, ◌≤◌}
use native.Mathlib.Omega.{arith}
use native.Mathlib.Decide.{dec_le}
use native.Mathlib.Nat.{lt_of_not-le}
use lib.Dec.{eqb, leb, ltb, lit<}
use borrow.Author.Tests.{eqb-true, eq-eqb, lt-leb, le-leb, ne_eqb, ltb-true}
use Rattle.word.proofs.Truth.{and_true}
use Rattle.word.proofs.Below.{agree_at}
use Rattle.word.specs.Bits.{bits_at, field_at}
use Rattle.insn.specs.Codes.{move_fxm, rotate_double_code}
use Rattle.insn.specs.Fields.{fields_of, word_d, word_dd, word_x, word_xo, word_xfx, word_e, word_m, word_md, word_b, word_i}
use Rattle.insn.specs.Valid.{fits, reg_of, two_regs, three_regs, paired_with, is_vdr, is_spr, read_only, spr_ok, is_to, trap_form, mark_form, hint_ok, load_form, store_form, load_double_form, is_dd, stack_form, branch_form, valid_of}
use Rattle.insn.specs.Profile.{has, valid_on}
use Rattle.insn.specs.Write.{word_of}
use Rattle.insn.specs.Read.{primary, primary_rows, load_store, load_store_rows, added, added_rows, arithmetic, opcode19, opcode4, opcode30, guess_of, settled, decode_of, kept_on, decode_on}
use Rattle.insn.specs.declared.fields.Fields.{Fields}
use Rattle.insn.specs.declared.instr.Instr.{Instr}
use Rattle.std.specs.Prelude.{Option, Some, None}
use Rattle.std.specs.Bool.{then_some}
use Rattle.insn.specs.declared.instr.Arithmetic.{Arithmetic}
use Rattle.insn.specs.declared.instr.Logical.{Logical}
use Rattle.insn.specs.declared.instr.Compare.{Compare}
use Rattle.insn.specs.declared.instr.Rotate.{Rotate}
use Rattle.insn.specs.declared.instr.LoadStore.{LoadStore}
use Rattle.insn.specs.declared.instr.Branch.{Branch}
use Rattle.insn.specs.declared.instr.System.{System}
use Rattle.insn.specs.declared.instr.SprOp.{SprOp}
use Rattle.insn.specs.declared.instr.RotateDoubleOp.{RotateDoubleOp}
use Rattle.insn.specs.declared.profile.Profile.{Profile}
use Rattle.insn.specs.declared.instr.CacheOp.{CacheOp}
use Rattle.insn.proofs.Parts.{DParts, d_parts, DDParts, dd_parts, XParts, x_parts, XOParts, xo_parts, XFXParts, xfx_parts, EParts, e_parts, MParts, m_parts, MDParts, md_parts, BParts, b_parts, IParts, i_parts}
use Rattle.insn.proofs.Hits.{Reads, Primary, XO31, Extended, opcode31, X31, hit_arith_imm, hit_arith, hit_arith_one, hit_multiply, hit_multiply_imm, hit_multiply_low, hit_logic_imm, hit_logic, hit_logic_one, hit_compare_imm, hit_compare, hit_rotate_imm, hit_rotate, hit_shift, hit_srawi, hit_rotate_double, hit_load, hit_load_indexed, hit_store, hit_store_indexed, hit_load_double, hit_store_double, hit_stack, hit_branch, hit_branch_if, hit_branch_to, hit_trap, hit_spr, hit_move, hit_wrteei, hit_rfi, hit_sync, hit_cache}

-- a word that reads as an instruction is what that instruction is written as, and the instruction is valid
settled_is : (w : ℕ) (d : Option Instr) (i : Instr) → settled w d ≡ Some i → (valid_of i ≡ true) × (word_of i ≡ w)
settled_is w None i e = let z : ◌≡◌ {A = ℕ} 0 1 = cc in absurd (omega arith)
settled_is w (Some j) i e = go (valid_of j && eqb (word_of j) w) refl e
  where
    go : (b : Bool) → (valid_of j && eqb (word_of j) w) ≡ b → then_some b j ≡ Some i → (valid_of i ≡ true) × (word_of i ≡ w)
    go true t h =
        let s : j ≡ i = cc in
        let p = and_true (valid_of j) (eqb (word_of j) w) t in
        (ap valid_of (sym s) ∙ p.0, ap word_of (sym s) ∙ eqb-true (word_of j) w p.1)
    go false t h = let z : ◌≡◌ {A = ℕ} 0 1 = cc in absurd (omega arith)

pub read_written : (w : ℕ) (i : Instr) → decode_of w ≡ Some i → (valid_of i ≡ true) × (word_of i ≡ w)
unfolding decode_of
read_written w i e = settled_is w (guess_of (fields_of w)) i e

-- a test that fails from m on and passes at r shows that r is below m
below : (t : ℕ → Bool) (m : ℕ) → ((r : ℕ) → m ≤ r → t r ≡ false) → (r : ℕ) → t r ≡ true → r < m
below t m big r e = elim (dec_le m r) [ yes h ↦ (let b = big r h in let z : ◌≡◌ {A = ℕ} 0 1 = cc in absurd (omega arith)) | no n ↦ lt_of_not-le n ]

-- a number from m on is none below m
far : (m n k : ℕ) → m ≤ n → ltb k m ≡ true → eqb n k ≡ false
far m n k h l = ne_eqb n k (omega (arith, ltb-true))

pub reg_lt : (r : ℕ) → reg_of r ≡ true → r < 32
unfolding reg_of
reg_lt = below reg_of 32 (λ r h. simp (lt-leb r 10 (omega arith), far 32, le-leb 28 r (omega arith), lt-leb r 31 (omega arith)))

-- Table 1.33: the first registers of the fourteen pairs
pub pairs_are : (n : ℕ) → is_vdr n ≡ (leb n 9 || leb 28 n && leb n 31)
unfolding reg_of
pairs_are n =
    elim (dec_le 32 n) [
      | yes h ↦ simp (lt-leb n 9 (omega arith), lt-leb n 10 (omega arith), far 32, le-leb 28 n (omega arith), lt-leb n 31 (omega arith))
      | no k ↦ agree_at (λ n m. is_vdr n) (λ n m. leb n 9 || leb 28 n && leb n 31) 32 1 tt n 0 (lt_of_not-le k) (lit< tt)
    ]

pub spr_lt : (n : ℕ) → is_spr n ≡ true → n < 1024
unfolding is_spr
spr_lt = below is_spr 1024 (λ n h. simp (far 1024))

spr_ok_lt : (op : SprOp) (n : ℕ) → spr_ok op n ≡ true → n < 1024
spr_ok_lt SprOp.Mfspr n v = spr_lt n v
spr_ok_lt SprOp.Mtspr n v = spr_lt n (and_true (is_spr n) (not (read_only n)) v).0

pub to_lt : (n : ℕ) → is_to n ≡ true → n < 32
to_lt = below is_to 32 (λ n h. simp (far 32))

hint_lt : (op : CacheOp) (n : ℕ) → hint_ok op n ≡ true → n < 32
hint_lt CacheOp.Dcbf n v = omega (arith, ltb-true)
hint_lt CacheOp.Dcbi n v = omega (arith, eqb-true)
hint_lt CacheOp.Dcbt n v = omega (arith, ltb-true)
hint_lt CacheOp.Dcbz n v = omega (arith, eqb-true)

ruleset facts = (arith, ltb-true, reg_lt, spr_ok_lt, to_lt, hint_lt)

-- several tests passed: each of them did
abbrev all_of : Bool → List Bool → Bool
all_of a [] = a
all_of a (b ∷ bs) = all_of (a && b) bs

abbrev Passed : Type 0 → List Bool → Type 0
Passed P [] = P
Passed P (b ∷ bs) = Passed (P × (b ≡ true)) bs

passed : (a : Bool) (P : Type 0) → (a ≡ true → P) → (bs : List Bool) → all_of a bs ≡ true → Passed P bs
passed a P f [] e = f e
passed a P f (b ∷ bs) e = passed (a && b) (P × (b ≡ true)) (λ h. let q = and_true a b h in (f q.0, q.1)) bs e

ands : (a : Bool) (bs : List Bool) → all_of a bs ≡ true → Passed (a ≡ true) bs
ands a bs e = passed a (a ≡ true) (λ h. h) bs e

two : (a b : ℕ) → two_regs a b ≡ true → (a < 32) × (b < 32)
two a b v = let h = and_true (reg_of a) (reg_of b) v in omega facts

three : (a b c : ℕ) → three_regs a b c ≡ true → (a < 32) × (b < 32) × (c < 32)
three a b c v = let h = ands (reg_of a) (reg_of b ∷ reg_of c ∷ []) v in omega facts

-- the words of a primary opcode are read by a table of extended ones
abbrev Leads : ℕ → (ℕ → Fields → Option Instr) → Type 0
Leads op table = (op < 64) × ((f : Fields) (x : ℕ) → f.op ≡ op → f.x ≡ x → f.xo ≡ x % 512 → guess_of f ≡ table x f)

to_31 : (f : Fields) (xo : ℕ) → f.op ≡ 31 → f.xo ≡ xo → guess_of f ≡ arithmetic f.x xo f
unfolding primary primary_rows
to_31 f xo e h = ap (λ (n : ℕ). primary n f) e ∙ ap (λ (n : ℕ). arithmetic f.x n f) h

of_31 : Leads 31 opcode31
of_31 = (lit< tt, λ f x e g h. to_31 f (x % 512) e h ∙ ap (λ (n : ℕ). arithmetic n (x % 512) f) g)

of_19 : Leads 19 opcode19
unfolding primary primary_rows
of_19 = (lit< tt, λ f x e g h. ap (λ (n : ℕ). primary n f) e ∙ ap (λ (n : ℕ). opcode19 n f) g)

of_4 : Leads 4 opcode4
unfolding primary primary_rows
of_4 = (lit< tt, λ f x e g h. ap (λ (n : ℕ). primary n f) e ∙ ap (λ (n : ℕ). opcode4 n f) g)

to_30 : (f : Fields) → f.op ≡ 30 → guess_of f ≡ opcode30 f.md f
unfolding primary primary_rows load_store load_store_rows added added_rows
to_30 f e = ap (λ (n : ℕ). primary n f) e

-- what a table has for a word is an instruction made of the word's parts
abbrev Makes : (Fields → Type 0) → (Fields → Instr) → Instr → Type 0
Makes Parts at i = (f : Fields) → Parts f → at f ≡ i

by_d : {op rt ra imm : ℕ} {at : Fields → Instr} {i : Instr} → Primary op at → (rt < 32) × (ra < 32) × (imm < 65536) → Makes (DParts op rt ra imm) at i → guess_of (fields_of (word_d op rt ra imm)) ≡ Some i
by_d {op} {rt} {ra} {imm} hit h same =
    let f = fields_of (word_d op rt ra imm) in
    let p : DParts op rt ra imm f = d_parts hit.1 h in
    ap (λ (n : ℕ). primary n f) p.op_is ∙ hit.0 f ∙ ap Some (same f p)

by_x : {op rt ra rb x : ℕ} {table : ℕ → Fields → Option Instr} {at : Fields → Instr} {i : Instr} → Leads op table → (rc : Bool) → Extended table x at → (rt < 32) × (ra < 32) × (rb < 32) → Makes (XParts op rt ra rb x rc) at i → guess_of (fields_of (word_x op rt ra rb x rc)) ≡ Some i
by_x {op} {rt} {ra} {rb} {x} leads rc hit h same =
    let f = fields_of (word_x op rt ra rb x rc) in
    let p : XParts op rt ra rb x rc f = x_parts rc leads.0 hit.1 h in
    leads.1 f x p.op_is p.x_is p.xo_is ∙ hit.0 f ∙ ap Some (same f p)

by_xo : {rt ra rb xo : ℕ} {at : Fields → Instr} {i : Instr} (oe rc : Bool) → XO31 xo at → (rt < 32) × (ra < 32) × (rb < 32) → Makes (XOParts rt ra rb oe xo rc) at i → guess_of (fields_of (word_xo rt ra rb oe xo rc)) ≡ Some i
by_xo {rt} {ra} {rb} {xo} oe rc hit h same =
    let f = fields_of (word_xo rt ra rb oe xo rc) in
    let p : XOParts rt ra rb oe xo rc f = xo_parts oe rc hit.1 h in
    to_31 f xo p.op_is p.xo_is ∙ hit.0 f.x f ∙ ap Some (same f p)

by_xfx : {rt x : ℕ} {at : Fields → Instr} {i : Instr} (fxm : ℕ) → X31 x at → rt < 32 → Makes (XFXParts rt x) at i → guess_of (fields_of (word_xfx rt fxm x)) ≡ Some i
by_xfx {rt} {x} fxm hit h same =
    let f = fields_of (word_xfx rt fxm x) in
    let p : XFXParts rt x f = xfx_parts fxm hit.1 h in
    of_31.1 f x p.op_is p.x_is p.xo_is ∙ hit.0 f ∙ ap Some (same f p)

by_e : {x : ℕ} {at : Fields → Instr} {i : Instr} (e : Bool) → X31 x at → Makes (EParts e x) at i → guess_of (fields_of (word_e e x)) ≡ Some i
by_e {x} e hit same =
    let f = fields_of (word_e e x) in
    let p : EParts e x f = e_parts e hit.1 in
    of_31.1 f x p.op_is p.x_is p.xo_is ∙ hit.0 f ∙ ap Some (same f p)

by_dd : {op rt ra dd : ℕ} {at : Fields → Instr} {i : Instr} → Primary op at → (rt < 32) × (ra < 32) × (dd < 8192) → Makes (DDParts op rt ra dd) at i → guess_of (fields_of (word_dd op rt ra dd)) ≡ Some i
by_dd {op} {rt} {ra} {dd} hit h same =
    let f = fields_of (word_dd op rt ra dd) in
    let p : DDParts op rt ra dd f = dd_parts hit.1 h in
    ap (λ (n : ℕ). primary n f) p.op_is ∙ hit.0 f ∙ ap Some (same f p)

by_m : {op rs ra rb mb me : ℕ} {at : Fields → Instr} {i : Instr} (rc : Bool) → Primary op at → (rs < 32) × (ra < 32) × (rb < 32) × (mb < 32) × (me < 32) → Makes (MParts op rs ra rb mb me rc) at i → guess_of (fields_of (word_m op rs ra rb mb me rc)) ≡ Some i
by_m {op} {rs} {ra} {rb} {mb} {me} rc hit h same =
    let f = fields_of (word_m op rs ra rb mb me rc) in
    let p : MParts op rs ra rb mb me rc f = m_parts rc hit.1 h in
    ap (λ (n : ℕ). primary n f) p.op_is ∙ hit.0 f ∙ ap Some (same f p)

by_md : {ds da sh mb mb5 sh5 : ℕ} (op : RotateDoubleOp) {at : Fields → Instr} {i : Instr} (rc : Bool) → Reads (opcode30 (rotate_double_code op)) at × (rotate_double_code op < 8) → (ds < 32) × (da < 32) × (sh < 32) × (mb < 32) × (mb5 < 2) × (sh5 < 2)
    → Makes (MDParts ds da sh mb mb5 (rotate_double_code op) sh5 rc) at i → guess_of (fields_of (word_md ds da sh mb mb5 (rotate_double_code op) sh5 rc)) ≡ Some i
by_md {ds} {da} {sh} {mb} {mb5} {sh5} op rc hit h same =
    let f = fields_of (word_md ds da sh mb mb5 (rotate_double_code op) sh5 rc) in
    let p : MDParts ds da sh mb mb5 (rotate_double_code op) sh5 rc f = md_parts rc hit.1 h in
    to_30 f p.op_is ∙ ap (λ (n : ℕ). opcode30 n f) p.md_is ∙ hit.0 f ∙ ap Some (same f p)

by_b : {bo bi bd : ℕ} {at : Fields → Instr} {i : Instr} (aa lk : Bool) → Primary 16 at → (bo < 32) × (bi < 32) × (bd < 16384) → Makes (BParts bo bi bd aa lk) at i → guess_of (fields_of (word_b bo bi bd aa lk)) ≡ Some i
by_b {bo} {bi} {bd} aa lk hit h same =
    let f = fields_of (word_b bo bi bd aa lk) in
    let p : BParts bo bi bd aa lk f = b_parts aa lk h in
    ap (λ (n : ℕ). primary n f) p.op_is ∙ hit.0 f ∙ ap Some (same f p)

by_i : {li : ℕ} {at : Fields → Instr} {i : Instr} (aa lk : Bool) → Primary 18 at → li < 16777216 → Makes (IParts li aa lk) at i → guess_of (fields_of (word_i li aa lk)) ≡ Some i
by_i {li} aa lk hit h same =
    let f = fields_of (word_i li aa lk) in
    let p : IParts li aa lk f = i_parts aa lk h in
    ap (λ (n : ℕ). primary n f) p.op_is ∙ hit.0 f ∙ ap Some (same f p)

-- the fields of a tw
trap_lt : (to ra rb : ℕ) (tg : Bool) → (mark_form to ra rb tg || trap_form to ra rb) ≡ true → (to < 32) × (ra < 32) × (rb < 32)
trap_lt to ra rb tg v = go (mark_form to ra rb tg) refl v
  where
    go : (b : Bool) → mark_form to ra rb tg ≡ b → (b || trap_form to ra rb) ≡ true → (to < 32) × (ra < 32) × (rb < 32)
    go true t h = let q = ands tg (fits 5 to ∷ fits 5 ra ∷ fits 5 rb ∷ []) t in omega facts
    go false t h =
        let q = and_true (is_to to) (two_regs ra rb) h in
        let r = two ra rb q.1 in
        omega facts

-- what a valid instruction is written as suggests that instruction
guess_written : (i : Instr) → valid_of i ≡ true → guess_of (fields_of (word_of i)) ≡ Some i
guess_written (Instr.Arithmetic (Arithmetic.Immediate op rt ra si)) v =
    let h = and_true (fits 16 si) (two_regs rt ra) v in
    let r = two rt ra h.1 in
    by_d (hit_arith_imm op) (omega facts) (λ f p. rw (p.rt_is, p.ra_is, p.imm_is))
guess_written (Instr.Arithmetic (Arithmetic.Register op rt ra rb oe rc)) v = by_xo oe rc (hit_arith op) (three rt ra rb v) (λ f p. rw (p.rt_is, p.ra_is, p.rb_is, p.oe_is, p.rc_is))
guess_written (Instr.Arithmetic (Arithmetic.One op rt ra oe rc)) v =
    let r = two rt ra v in
    by_xo {rb = 0} oe rc (hit_arith_one op) (omega arith) (λ f p. rw (p.rt_is, p.ra_is, p.oe_is, p.rc_is))
guess_written (Instr.Arithmetic (Arithmetic.Multiply sign rt ra rb rc)) v = by_x of_4 rc (hit_multiply sign) (three rt ra rb v) (λ f p. rw (p.rt_is, p.ra_is, p.rb_is, p.rc_is))
guess_written (Instr.Arithmetic (Arithmetic.MultiplyImm rt ra si)) v =
    let h = and_true (fits 16 si) (two_regs rt ra) v in
    let r = two rt ra h.1 in
    by_d hit_multiply_imm (omega facts) (λ f p. rw (p.rt_is, p.ra_is, p.imm_is))
guess_written (Instr.Arithmetic (Arithmetic.MultiplyLow rt ra rb oe rc)) v = by_xo oe rc hit_multiply_low (three rt ra rb v) (λ f p. rw (p.rt_is, p.ra_is, p.rb_is, p.oe_is, p.rc_is))
guess_written (Instr.Logical (Logical.Immediate op rs ra ui)) v =
    let h = and_true (fits 16 ui) (two_regs rs ra) v in
    let r = two rs ra h.1 in
    by_d (hit_logic_imm op) (omega facts) (λ f p. rw (p.rt_is, p.ra_is, p.imm_is))
guess_written (Instr.Logical (Logical.Register op rs ra rb rc)) v = by_x of_31 rc (hit_logic op) (three rs ra rb v) (λ f p. rw (p.rt_is, p.ra_is, p.rb_is, p.rc_is))
guess_written (Instr.Logical (Logical.One op rs ra rc)) v =
    let r = two rs ra v in
    by_x {rb = 0} of_31 rc (hit_logic_one op) (omega arith) (λ f p. rw (p.rt_is, p.ra_is, p.rc_is))
guess_written (Instr.Compare (Compare.Immediate sign ra imm)) v =
    let h = and_true (fits 16 imm) (reg_of ra) v in
    by_d {rt = 0} (hit_compare_imm sign) (omega facts) (λ f p. rw (p.ra_is, p.imm_is))
guess_written (Instr.Compare (Compare.Register sign ra rb)) v =
    let r = two ra rb v in
    by_x {rt = 0} of_31 false (hit_compare sign) (omega arith) (λ f p. rw (p.ra_is, p.rb_is))
guess_written (Instr.Rotate (Rotate.Immediate op rs ra sh mb me rc)) v =
    let h = ands (reg_of rs) (reg_of ra ∷ fits 5 sh ∷ fits 5 mb ∷ fits 5 me ∷ []) v in
    by_m rc (hit_rotate_imm op) (omega facts) (λ f p. rw (p.rt_is, p.ra_is, p.rb_is, p.mb_is, p.me_is, p.rc_is))
guess_written (Instr.Rotate (Rotate.Register rs ra rb mb me rc)) v =
    let h = ands (reg_of rs) (reg_of ra ∷ reg_of rb ∷ fits 5 mb ∷ fits 5 me ∷ []) v in
    by_m rc hit_rotate (omega facts) (λ f p. rw (p.rt_is, p.ra_is, p.rb_is, p.mb_is, p.me_is, p.rc_is))
guess_written (Instr.Rotate (Rotate.Shift op rs ra rb rc)) v = by_x of_31 rc (hit_shift op) (three rs ra rb v) (λ f p. rw (p.rt_is, p.ra_is, p.rb_is, p.rc_is))
guess_written (Instr.Rotate (Rotate.Srawi rs ra sh rc)) v =
    let h = ands (reg_of rs) (reg_of ra ∷ fits 5 sh ∷ []) v in
    by_x of_31 rc hit_srawi (omega facts) (λ f p. rw (p.rt_is, p.ra_is, p.rb_is, p.rc_is))
guess_written (Instr.Rotate (Rotate.Double op ds da sh mb rc)) v =
    let h = ands (reg_of ds) (reg_of (paired_with ds) ∷ is_vdr da ∷ fits 6 sh ∷ fits 6 mb ∷ []) v in
    let r = two da (paired_with da) h.0.0.1 in
    let e : field_at 26 26 (bits_at sh 26 26) + field_at 27 31 (bits_at sh 27 31) ≡ sh = omega facts in
    let g : field_at 26 26 (bits_at mb 26 26) + field_at 27 31 (bits_at mb 27 31) ≡ mb = omega facts in
    by_md op rc (hit_rotate_double op) (omega facts) (λ f p. rw (p.rt_is, p.ra_is, p.sh_is, p.mb_is, p.rc_is, e, g))
guess_written (Instr.LoadStore (LoadStore.Load width update rt ra d)) v =
    let h = and_true (fits 16 d) (two_regs rt ra && load_form update rt ra) v in
    let r = ands (reg_of rt) (reg_of ra ∷ load_form update rt ra ∷ []) h.1 in
    by_d (hit_load width update) (omega facts) (λ f p. rw (p.rt_is, p.ra_is, p.imm_is))
guess_written (Instr.LoadStore (LoadStore.LoadIndexed width rt ra rb)) v = by_x of_31 false (hit_load_indexed width) (three rt ra rb v) (λ f p. rw (p.rt_is, p.ra_is, p.rb_is))
guess_written (Instr.LoadStore (LoadStore.Store width update rs ra d)) v =
    let h = and_true (fits 16 d) (two_regs rs ra && store_form update ra) v in
    let r = ands (reg_of rs) (reg_of ra ∷ store_form update ra ∷ []) h.1 in
    by_d (hit_store width update) (omega facts) (λ f p. rw (p.rt_is, p.ra_is, p.imm_is))
guess_written (Instr.LoadStore (LoadStore.StoreIndexed width rs ra rb)) v = by_x of_31 false (hit_store_indexed width) (three rs ra rb v) (λ f p. rw (p.rt_is, p.ra_is, p.rb_is))
guess_written (Instr.LoadStore (LoadStore.LoadDouble update dt ra d)) v =
    let h = and_true (fits 16 d) (is_vdr dt && reg_of ra && load_double_form update dt ra) v in
    let r = ands (reg_of dt) (reg_of (paired_with dt) ∷ reg_of ra ∷ load_double_form update dt ra ∷ []) h.1 in
    by_d (hit_load_double update) (omega facts) (λ f p. rw (p.rt_is, p.ra_is, p.imm_is))
guess_written (Instr.LoadStore (LoadStore.StoreDouble update ds ra d)) v =
    let h = and_true (fits 16 d) (is_vdr ds && reg_of ra && store_form update ra) v in
    let r = ands (reg_of ds) (reg_of (paired_with ds) ∷ reg_of ra ∷ store_form update ra ∷ []) h.1 in
    by_d (hit_store_double update) (omega facts) (λ f p. rw (p.rt_is, p.ra_is, p.imm_is))
guess_written (Instr.Stack dd op rt ra) v =
    let h = and_true (fits 13 dd) (two_regs rt ra && stack_form rt ra && is_dd op dd) v in
    let r = ands (reg_of rt) (reg_of ra ∷ stack_form rt ra ∷ is_dd op dd ∷ []) h.1 in
    by_dd (hit_stack op) (omega facts) (λ f p. rw (p.rt_is, p.ra_is, p.dd_is))
guess_written (Instr.Branch (Branch.Always aa lk li)) v = by_i aa lk hit_branch (omega facts) (λ f p. rw (p.aa_is, p.rc_is, p.li_is))
guess_written (Instr.Branch (Branch.Conditional bo bi bd aa lk)) v =
    let h = ands (fits 5 bo) (fits 2 bi ∷ fits 14 bd ∷ []) v in
    by_b aa lk hit_branch_if (omega facts) (λ f p. rw (p.rt_is, p.ra_is, p.bd_is, p.aa_is, p.rc_is))
guess_written (Instr.Branch (Branch.Register op bo bi bh lk)) v =
    let h = ands (fits 5 bo) (fits 2 bi ∷ fits 2 bh ∷ branch_form op bo ∷ []) v in
    by_x of_19 lk (hit_branch_to op) (omega facts) (λ f p. rw (p.rt_is, p.ra_is, p.rb_is, p.rc_is))
guess_written (Instr.Trap to ra rb tg) v =
    let h = trap_lt to ra rb tg v in
    by_x of_31 tg hit_trap (omega facts) (λ f p. rw (p.rt_is, p.ra_is, p.rb_is, p.rc_is))
guess_written (Instr.System (System.Spr op rt spr)) v =
    let h = and_true (reg_of rt) (spr_ok op spr) v in
    let e : field_at 22 26 (bits_at spr 22 26) + field_at 27 31 (bits_at spr 27 31) ≡ spr = omega facts in
    by_x of_31 false (hit_spr op) (omega facts) (λ f p. rw (p.rt_is, p.spr_is, e))
guess_written (Instr.System (System.Move op rt)) v = by_xfx (move_fxm op) (hit_move op) (reg_lt rt v) (λ f p. rw p.rt_is)
guess_written (Instr.System (System.Wrteei e)) v = by_e e hit_wrteei (λ f p. rw p.e_is)
guess_written (Instr.System System.Rfi) v = by_x {rt = 0} {ra = 0} {rb = 0} of_19 false hit_rfi (omega arith) (λ f p. refl)
guess_written (Instr.System System.Sync) v = by_x {rt = 0} {ra = 0} {rb = 0} of_31 false hit_sync (omega arith) (λ f p. refl)
guess_written (Instr.Cache op hint ra rb) v =
    let h = and_true (hint_ok op hint) (two_regs ra rb) v in
    let r = two ra rb h.1 in
    by_x of_31 false (hit_cache op) (omega facts) (λ f p. rw (p.rt_is, p.ra_is, p.rb_is))

pub written_read : (i : Instr) → valid_of i ≡ true → decode_of (word_of i) ≡ Some i
unfolding decode_of
written_read i v = rw (guess_written i v, v, eq-eqb (word_of i) (word_of i) refl)

-- on either core: what it keeps of what a 42X reads
kept_is : (p : Profile) (d : Option Instr) (i : Instr) → kept_on p d ≡ Some i → (has p i ≡ true) × (d ≡ Some i)
kept_is p None i e = let z : ◌≡◌ {A = ℕ} 0 1 = cc in absurd (omega arith)
kept_is p (Some j) i e = go (has p j) refl e
  where
    go : (b : Bool) → has p j ≡ b → then_some b j ≡ Some i → (has p i ≡ true) × (Some j ≡ Some i)
    go true t h = let s : j ≡ i = cc in (ap (has p) (sym s) ∙ t, h)
    go false t h = let z : ◌≡◌ {A = ℕ} 0 1 = cc in absurd (omega arith)

pub read_written_on : (p : Profile) (w : ℕ) (i : Instr) → decode_on p w ≡ Some i → (valid_on p i ≡ true) × (word_of i ≡ w)
unfolding decode_on
read_written_on p w i e =
    let k = kept_is p (decode_of w) i e in
    let h = read_written w i k.1 in
    (rw (k.0, h.0), h.1)

pub written_read_on : (p : Profile) (i : Instr) → valid_on p i ≡ true → decode_on p (word_of i) ≡ Some i
unfolding decode_on
written_read_on p i v =
    let h = and_true (has p i) (valid_of i) v in
    rw (written_read i h.1, h.0)

-- two valid instructions that are written as one word are the same
pub written_once : (p : Profile) (i j : Instr) → valid_on p i ≡ true → valid_on p j ≡ true → word_of i ≡ word_of j → i ≡ j
written_once p i j v u e =
    let d : Some i ≡ Some j = sym (written_read_on p i v) ∙ ap (decode_on p) e ∙ written_read_on p j u in
    cc

-- a word is illegal exactly where no valid instruction is written as it
pub illegal_is : (p : Profile) (w : ℕ) → decode_on p w ≡ None → (i : Instr) → valid_on p i ≡ true → word_of i ≡ w → ⊥
illegal_is p w e i v q =
    let d : Some i ≡ None = sym (written_read_on p i v) ∙ ap (decode_on p) q ∙ e in
    let z : ◌≡◌ {A = ℕ} 0 1 = cc in
    omega arith

pub illegal_if : (p : Profile) (w : ℕ) → ((i : Instr) → valid_on p i ≡ true → word_of i ≡ w → ⊥) → decode_on p w ≡ None
illegal_if p w none = go (decode_on p w) refl
  where
    go : (d : Option Instr) → decode_on p w ≡ d → d ≡ None
    go (Some i) e = let h = read_written_on p w i e in absurd (none i h.0 h.1)
    go None e = refl

-- what a 42 reads, a 42X reads as the same
pub read_on_42x : (w : ℕ) (i : Instr) → decode_on Profile.Ppe42 w ≡ Some i → decode_on Profile.Ppe42x w ≡ Some i
unfolding decode_on
read_on_42x w i e = rw (kept_is Profile.Ppe42 (decode_of w) i e).1
