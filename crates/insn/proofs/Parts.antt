-- The parts of a word that was made of parts are those parts, for each layout; and where a layout names every bit, a word is made of its parts. Assumes nothing.
use mathlib.Core.Path.{◌≡◌, ◌∙◌, refl, sym, ap}
use mathlib.Core.Bool.{Bool, true, false}
use Prim.Native.Nat.{ℕ, ◌+◌, ◌-◌, ◌*◌, ◌/◌, ◌%◌, ◌^◌, ◌<◌}
use native.Mathlib.Nat.{add_assoc, mod-lt, mod-eq_of_lt, zero-lt-suc}
use native.Mathlib.Omega.{arith}
use lib.Dec.{eqb, lit<}
use lib.Pow.{pow_pos, mod-pow-add}
use Rattle.word.proofs.ByBits.{digit_of_lem}
use Rattle.word.specs.Bits.{digit, bit_at, bits_at, field_at}
use Rattle.insn.specs.Fields.{spr_of, sh_of, mb_of, fields_of, word_d, word_dd, word_x, word_xo, word_xfx, word_e, word_m, word_md, word_b, word_i}
use Rattle.insn.specs.declared.fields.Fields.{Fields}

digit_lt : (b : Bool) → digit b < 2
digit_lt true = lit< tt
digit_lt false = lit< tt

eqb_digit : (b : Bool) → eqb (digit b) 1 ≡ b
eqb_digit true = refl
eqb_digit false = refl

-- a bit that is a bool's number is that bool
flag : (b : Bool) (w i : ℕ) → w / 2 ^ (31 - i) % 2 ≡ digit b → bit_at w i ≡ b
flag b w i e = ap (λ (n : ℕ). eqb n 1) e ∙ eqb_digit b

-- SPRN is made of the parts at ra and rb
spr_of_lem : (w : ℕ) {ra rb : ℕ} → bits_at w 11 15 ≡ ra → bits_at w 16 20 ≡ rb → spr_of w ≡ field_at 22 26 rb + field_at 27 31 ra
spr_of_lem w a b = rw (a, b)

-- SH and MB of a doubleword are made of the parts at 30 and 16, at 26 and 21
sh_of_lem : (w : ℕ) {first low : ℕ} → bits_at w 30 30 ≡ first → bits_at w 16 20 ≡ low → sh_of w ≡ field_at 26 26 first + field_at 27 31 low
sh_of_lem w a b = rw (a, b)

mb_of_lem : (w : ℕ) {first low : ℕ} → bits_at w 26 26 ≡ first → bits_at w 21 25 ≡ low → mb_of w ≡ field_at 26 26 first + field_at 27 31 low
mb_of_lem w a b = rw (a, b)

pub record DParts (op rt ra imm : ℕ) (f : Fields) : Type 0 where
  pub op_is : f.op ≡ op
  pub rt_is : f.rt ≡ rt
  pub ra_is : f.ra ≡ ra
  pub imm_is : f.imm ≡ imm

pub d_parts : {op rt ra imm : ℕ} → op < 64 → (rt < 32) × (ra < 32) × (imm < 65536) → DParts op rt ra imm (fields_of (word_d op rt ra imm))
unfolding fields_of
d_parts hop h = record { op_is = omega arith; rt_is = omega arith; ra_is = omega arith; imm_is = omega arith }

pub record DDParts (op rt ra dd : ℕ) (f : Fields) : Type 0 where
  pub op_is : f.op ≡ op
  pub rt_is : f.rt ≡ rt
  pub ra_is : f.ra ≡ ra
  pub dd_is : f.dd ≡ dd

pub dd_parts : {op rt ra dd : ℕ} → op < 64 → (rt < 32) × (ra < 32) × (dd < 8192) → DDParts op rt ra dd (fields_of (word_dd op rt ra dd))
unfolding fields_of
dd_parts hop h = record { op_is = omega arith; rt_is = omega arith; ra_is = omega arith; dd_is = omega arith }

-- the code of an XO form is the last nine bits of that of an X form
pub record XParts (op rt ra rb x : ℕ) (rc : Bool) (f : Fields) : Type 0 where
  pub op_is : f.op ≡ op
  pub rt_is : f.rt ≡ rt
  pub ra_is : f.ra ≡ ra
  pub rb_is : f.rb ≡ rb
  pub x_is : f.x ≡ x
  pub xo_is : f.xo ≡ x % 512
  pub spr_is : f.spr ≡ field_at 22 26 rb + field_at 27 31 ra
  pub rc_is : f.rc ≡ rc

pub x_parts : {op rt ra rb x : ℕ} (rc : Bool) → op < 64 → x < 1024 → (rt < 32) × (ra < 32) × (rb < 32) → XParts op rt ra rb x rc (fields_of (word_x op rt ra rb x rc))
unfolding fields_of
x_parts {op} {rt} {ra} {rb} {x} rc hop hx h =
    let hrc = digit_lt rc in
    record {
      op_is = omega arith;
      rt_is = omega arith;
      ra_is = omega arith;
      rb_is = omega arith;
      x_is = omega arith;
      xo_is = omega arith;
      spr_is = spr_of_lem (word_x op rt ra rb x rc) (omega arith) (omega arith);
      rc_is = flag rc (word_x op rt ra rb x rc) 31 (omega arith);
    }

pub record XOParts (rt ra rb : ℕ) (oe : Bool) (xo : ℕ) (rc : Bool) (f : Fields) : Type 0 where
  pub op_is : f.op ≡ 31
  pub rt_is : f.rt ≡ rt
  pub ra_is : f.ra ≡ ra
  pub rb_is : f.rb ≡ rb
  pub oe_is : f.oe ≡ oe
  pub xo_is : f.xo ≡ xo
  pub rc_is : f.rc ≡ rc

pub xo_parts : {rt ra rb xo : ℕ} (oe rc : Bool) → xo < 512 → (rt < 32) × (ra < 32) × (rb < 32) → XOParts rt ra rb oe xo rc (fields_of (word_xo rt ra rb oe xo rc))
unfolding fields_of
xo_parts {rt} {ra} {rb} {xo} oe rc hxo h =
    let hoe = digit_lt oe in
    let hrc = digit_lt rc in
    record {
      op_is = omega arith;
      rt_is = omega arith;
      ra_is = omega arith;
      rb_is = omega arith;
      oe_is = flag oe (word_xo rt ra rb oe xo rc) 21 (omega arith);
      xo_is = omega arith;
      rc_is = flag rc (word_xo rt ra rb oe xo rc) 31 (omega arith);
    }

pub record XFXParts (rt x : ℕ) (f : Fields) : Type 0 where
  pub op_is : f.op ≡ 31
  pub rt_is : f.rt ≡ rt
  pub x_is : f.x ≡ x
  pub xo_is : f.xo ≡ x % 512

pub xfx_parts : {rt x : ℕ} (fxm : ℕ) → x < 1024 → rt < 32 → XFXParts rt x (fields_of (word_xfx rt fxm x))
unfolding fields_of
xfx_parts fxm hx hrt = record { op_is = omega arith; rt_is = omega arith; x_is = omega arith; xo_is = omega arith }

pub record EParts (e : Bool) (x : ℕ) (f : Fields) : Type 0 where
  pub op_is : f.op ≡ 31
  pub e_is : f.e ≡ e
  pub x_is : f.x ≡ x
  pub xo_is : f.xo ≡ x % 512

pub e_parts : {x : ℕ} (e : Bool) → x < 1024 → EParts e x (fields_of (word_e e x))
unfolding fields_of
e_parts {x} e hx =
    let he = digit_lt e in
    record { op_is = omega arith; e_is = flag e (word_e e x) 16 (omega arith); x_is = omega arith; xo_is = omega arith }

pub record MParts (op rs ra rb mb me : ℕ) (rc : Bool) (f : Fields) : Type 0 where
  pub op_is : f.op ≡ op
  pub rt_is : f.rt ≡ rs
  pub ra_is : f.ra ≡ ra
  pub rb_is : f.rb ≡ rb
  pub mb_is : f.mb ≡ mb
  pub me_is : f.me ≡ me
  pub rc_is : f.rc ≡ rc

pub m_parts : {op rs ra rb mb me : ℕ} (rc : Bool) → op < 64 → (rs < 32) × (ra < 32) × (rb < 32) × (mb < 32) × (me < 32) → MParts op rs ra rb mb me rc (fields_of (word_m op rs ra rb mb me rc))
unfolding fields_of
m_parts {op} {rs} {ra} {rb} {mb} {me} rc hop h =
    let hrc = digit_lt rc in
    record {
      op_is = omega arith;
      rt_is = omega arith;
      ra_is = omega arith;
      rb_is = omega arith;
      mb_is = omega arith;
      me_is = omega arith;
      rc_is = flag rc (word_m op rs ra rb mb me rc) 31 (omega arith);
    }

pub record MDParts (ds da sh mb mb5 md sh5 : ℕ) (rc : Bool) (f : Fields) : Type 0 where
  pub op_is : f.op ≡ 30
  pub rt_is : f.rt ≡ ds
  pub ra_is : f.ra ≡ da
  pub sh_is : f.sh ≡ field_at 26 26 sh5 + field_at 27 31 sh
  pub mb_is : f.mb6 ≡ field_at 26 26 mb5 + field_at 27 31 mb
  pub md_is : f.md ≡ md
  pub rc_is : f.rc ≡ rc

pub md_parts : {ds da sh mb mb5 md sh5 : ℕ} (rc : Bool) → md < 8 → (ds < 32) × (da < 32) × (sh < 32) × (mb < 32) × (mb5 < 2) × (sh5 < 2)
    → MDParts ds da sh mb mb5 md sh5 rc (fields_of (word_md ds da sh mb mb5 md sh5 rc))
unfolding fields_of
md_parts {ds} {da} {sh} {mb} {mb5} {md} {sh5} rc hmd h =
    let hrc = digit_lt rc in
    let w = word_md ds da sh mb mb5 md sh5 rc in
    record {
      op_is = omega arith;
      rt_is = omega arith;
      ra_is = omega arith;
      sh_is = sh_of_lem w (omega arith) (omega arith);
      mb_is = mb_of_lem w (omega arith) (omega arith);
      md_is = omega arith;
      rc_is = flag rc w 31 (omega arith);
    }

pub record BParts (bo bi bd : ℕ) (aa lk : Bool) (f : Fields) : Type 0 where
  pub op_is : f.op ≡ 16
  pub rt_is : f.rt ≡ bo
  pub ra_is : f.ra ≡ bi
  pub bd_is : f.bd ≡ bd
  pub aa_is : f.aa ≡ aa
  pub rc_is : f.rc ≡ lk

pub b_parts : {bo bi bd : ℕ} (aa lk : Bool) → (bo < 32) × (bi < 32) × (bd < 16384) → BParts bo bi bd aa lk (fields_of (word_b bo bi bd aa lk))
unfolding fields_of
b_parts {bo} {bi} {bd} aa lk h =
    let haa = digit_lt aa in
    let hlk = digit_lt lk in
    record {
      op_is = omega arith;
      rt_is = omega arith;
      ra_is = omega arith;
      bd_is = omega arith;
      aa_is = flag aa (word_b bo bi bd aa lk) 30 (omega arith);
      rc_is = flag lk (word_b bo bi bd aa lk) 31 (omega arith);
    }

pub record IParts (li : ℕ) (aa lk : Bool) (f : Fields) : Type 0 where
  pub op_is : f.op ≡ 18
  pub li_is : f.li ≡ li
  pub aa_is : f.aa ≡ aa
  pub rc_is : f.rc ≡ lk

pub i_parts : {li : ℕ} (aa lk : Bool) → li < 16777216 → IParts li aa lk (fields_of (word_i li aa lk))
unfolding fields_of
i_parts {li} aa lk hli =
    let haa = digit_lt aa in
    let hlk = digit_lt lk in
    record { op_is = omega arith; li_is = omega arith; aa_is = flag aa (word_i li aa lk) 30 (omega arith); rc_is = flag lk (word_i li aa lk) 31 (omega arith) }

-- a word is made of its own parts, in each layout that names every bit: from the left, a part and what stands to the right of it
part : (w n k : ℕ) → w / 2 ^ k % 2 ^ n % 2 ^ n * 2 ^ k + w % 2 ^ k ≡ w % 2 ^ (n + k)
part w n k = ap (λ (x : ℕ). x * 2 ^ k + w % 2 ^ k) (mod-eq_of_lt (mod-lt (w / 2 ^ k) (pow_pos n))) ∙ sym (mod-pow-add w n k)

bit_part : (w i : ℕ) → digit (bit_at w i) % 2 ^ 1 * 2 ^ (31 - i) + w % 2 ^ (31 - i) ≡ w % 2 ^ (1 + (31 - i))
bit_part w i = ap (λ (d : ℕ). d % 2 ^ 1 * 2 ^ (31 - i) + w % 2 ^ (31 - i)) (digit_of_lem _ (mod-lt _ (zero-lt-suc 1))) ∙ part w 1 (31 - i)

code_part : (w n k : ℕ) {code : ℕ} → w / 2 ^ k % 2 ^ n ≡ code → code % 2 ^ n * 2 ^ k + w % 2 ^ k ≡ w % 2 ^ (n + k)
code_part w n k e = ap (λ (x : ℕ). x % 2 ^ n * 2 ^ k + w % 2 ^ k) (sym e) ∙ part w n k

first : {w op : ℕ} → w < 2 ^ 32 → bits_at w 0 5 ≡ op → field_at 0 5 op + w % 2 ^ 26 ≡ w
first {w} h e = code_part w 6 26 e ∙ mod-eq_of_lt h

then : (s p x : ℕ) {y w : ℕ} → p + x ≡ y → s + y ≡ w → s + p + x ≡ w
then s p x e h = add_assoc s p x ∙ ap (λ (n : ℕ). s + n) e ∙ h

last : {s w : ℕ} → s + w % 1 ≡ w → s ≡ w
last h = omega (arith, h)

pub d_whole : {op : ℕ} (w : ℕ) → w < 2 ^ 32 → (fields_of w).op ≡ op → word_d op (fields_of w).rt (fields_of w).ra (fields_of w).imm ≡ w
unfolding fields_of
d_whole w h o = last (then _ _ _ (part w 16 0) (then _ _ _ (part w 5 16) (then _ _ _ (part w 5 21) (first h o))))

pub x_whole : {op x : ℕ} (w : ℕ) → w < 2 ^ 32 → ((fields_of w).op ≡ op) × ((fields_of w).x ≡ x) → word_x op (fields_of w).rt (fields_of w).ra (fields_of w).rb x (fields_of w).rc ≡ w
unfolding fields_of
x_whole w h c = last (then _ _ _ (bit_part w 31) (then _ _ _ (code_part w 10 1 c.1) (then _ _ _ (part w 5 11) (then _ _ _ (part w 5 16) (then _ _ _ (part w 5 21) (first h c.0))))))

pub xo_whole : {xo : ℕ} (w : ℕ) → w < 2 ^ 32 → ((fields_of w).op ≡ 31) × ((fields_of w).xo ≡ xo) → word_xo (fields_of w).rt (fields_of w).ra (fields_of w).rb (fields_of w).oe xo (fields_of w).rc ≡ w
unfolding fields_of
xo_whole w h c = last (then _ _ _ (bit_part w 31) (then _ _ _ (code_part w 9 1 c.1) (then _ _ _ (bit_part w 21) (then _ _ _ (part w 5 11) (then _ _ _ (part w 5 16) (then _ _ _ (part w 5 21) (first h c.0)))))))

pub m_whole : {op : ℕ} (w : ℕ) → w < 2 ^ 32 → (fields_of w).op ≡ op → word_m op (fields_of w).rt (fields_of w).ra (fields_of w).rb (fields_of w).mb (fields_of w).me (fields_of w).rc ≡ w
unfolding fields_of
m_whole w h o = last (then _ _ _ (bit_part w 31) (then _ _ _ (part w 5 1) (then _ _ _ (part w 5 6) (then _ _ _ (part w 5 11) (then _ _ _ (part w 5 16) (then _ _ _ (part w 5 21) (first h o)))))))

pub b_whole : (w : ℕ) → w < 2 ^ 32 → (fields_of w).op ≡ 16 → word_b (fields_of w).rt (fields_of w).ra (fields_of w).bd (fields_of w).aa (fields_of w).rc ≡ w
unfolding fields_of
b_whole w h o = last (then _ _ _ (bit_part w 31) (then _ _ _ (bit_part w 30) (then _ _ _ (part w 14 2) (then _ _ _ (part w 5 16) (then _ _ _ (part w 5 21) (first h o))))))

pub i_whole : (w : ℕ) → w < 2 ^ 32 → (fields_of w).op ≡ 18 → word_i (fields_of w).li (fields_of w).aa (fields_of w).rc ≡ w
unfolding fields_of
i_whole w h o = last (then _ _ _ (bit_part w 31) (then _ _ _ (bit_part w 30) (then _ _ _ (part w 24 2) (first h o))))

-- the same with the opcodes that a form has as numbers, which is how the check writes them
module _ (w : ℕ) (h : w < 2 ^ 32) where
  pub x31_whole : {x : ℕ} → ((fields_of w).op ≡ 31) × ((fields_of w).x ≡ x) → word_x 31 (fields_of w).rt (fields_of w).ra (fields_of w).rb x (fields_of w).rc ≡ w
  x31_whole = x_whole w h

  pub x19_whole : {x : ℕ} → ((fields_of w).op ≡ 19) × ((fields_of w).x ≡ x) → word_x 19 (fields_of w).rt (fields_of w).ra (fields_of w).rb x (fields_of w).rc ≡ w
  x19_whole = x_whole w h

  pub x4_whole : {x : ℕ} → ((fields_of w).op ≡ 4) × ((fields_of w).x ≡ x) → word_x 4 (fields_of w).rt (fields_of w).ra (fields_of w).rb x (fields_of w).rc ≡ w
  x4_whole = x_whole w h

  pub srawi_whole : ((fields_of w).op ≡ 31) × ((fields_of w).x ≡ 824) → word_x 31 (fields_of w).rt (fields_of w).ra (fields_of w).rb 824 (fields_of w).rc ≡ w
  srawi_whole = x_whole w h

  pub trap_whole : ((fields_of w).op ≡ 31) × ((fields_of w).x ≡ 4) → word_x 31 (fields_of w).rt (fields_of w).ra (fields_of w).rb 4 (fields_of w).rc ≡ w
  trap_whole = x_whole w h

  pub multiply_imm_whole : (fields_of w).op ≡ 7 → word_d 7 (fields_of w).rt (fields_of w).ra (fields_of w).imm ≡ w
  multiply_imm_whole = d_whole w h

  pub multiply_low_whole : ((fields_of w).op ≡ 31) × ((fields_of w).xo ≡ 235) → word_xo (fields_of w).rt (fields_of w).ra (fields_of w).rb (fields_of w).oe 235 (fields_of w).rc ≡ w
  multiply_low_whole = xo_whole w h

  pub rotate_whole : (fields_of w).op ≡ 23 → word_m 23 (fields_of w).rt (fields_of w).ra (fields_of w).rb (fields_of w).mb (fields_of w).me (fields_of w).rc ≡ w
  rotate_whole = m_whole w h
