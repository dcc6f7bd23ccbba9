-- The parts of a word by bit number, and words made of parts (Power ISA 2.07, instruction formats).
use Rattle.std.specs.Prelude.{ℕ, ◌+◌, Bool}
use Rattle.word.specs.Bits.{digit, bit_at, bits_at, field_at}
use Rattle.insn.specs.declared.fields.Fields.{Fields}

-- SPRN ← SPRF5:9 || SPRF0:4, where SPRF is 11:20 (9.4.54)
abbrev pub spr_of : ℕ → ℕ
spr_of w = field_at 22 26 (bits_at w 16 20) + field_at 27 31 (bits_at w 11 15)

-- n ← sh_5 ‖ sh_0:4, where sh_0:4 is 16:20 and sh_5 is 30 (9.4.70 to 9.4.72)
abbrev pub sh_of : ℕ → ℕ
sh_of w = field_at 26 26 (bits_at w 30 30) + field_at 27 31 (bits_at w 16 20)

-- b ← mb_5 ‖ mb_0:4, where mb is 21:26; me of rldicr likewise
abbrev pub mb_of : ℕ → ℕ
mb_of w = field_at 26 26 (bits_at w 26 26) + field_at 27 31 (bits_at w 21 25)

-- rt is RS, TO, BO or a hint too; ra is BI too; rb is SH or BH too; imm is SI, UI or D; rc is LK or TG too;
-- x is the extended opcode of X forms, xo that of XO forms, md that of MD forms, whose SH is sh and whose MB or ME is mb6; dd is DD of DD forms
unfoldable pub fields_of : ℕ → Fields
fields_of w =
    record {
      word = w;
      op = bits_at w 0 5;
      rt = bits_at w 6 10;
      ra = bits_at w 11 15;
      rb = bits_at w 16 20;
      mb = bits_at w 21 25;
      me = bits_at w 26 30;
      x = bits_at w 21 30;
      xo = bits_at w 22 30;
      imm = bits_at w 16 31;
      bd = bits_at w 16 29;
      dd = bits_at w 16 28;
      li = bits_at w 6 29;
      md = bits_at w 27 29;
      spr = spr_of w;
      sh = sh_of w;
      mb6 = mb_of w;
      e = bit_at w 16;
      oe = bit_at w 21;
      aa = bit_at w 30;
      rc = bit_at w 31;
    }

-- what no part names is reserved, and zero
abbrev pub word_d : ℕ → ℕ → ℕ → ℕ → ℕ
word_d op rt ra imm = field_at 0 5 op + field_at 6 10 rt + field_at 11 15 ra + field_at 16 31 imm

-- CX (29) is 0, and XO (30:31) is 3 (Tables 1.69, 1.71)
abbrev pub word_dd : ℕ → ℕ → ℕ → ℕ → ℕ
word_dd op rt ra dd = field_at 0 5 op + field_at 6 10 rt + field_at 11 15 ra + field_at 16 28 dd + field_at 30 31 3

abbrev pub word_x : ℕ → ℕ → ℕ → ℕ → ℕ → Bool → ℕ
word_x op rt ra rb x rc =
    field_at 0 5 op + field_at 6 10 rt + field_at 11 15 ra + field_at 16 20 rb + field_at 21 30 x + field_at 31 31 (digit rc)

abbrev pub word_xo : ℕ → ℕ → ℕ → Bool → ℕ → Bool → ℕ
word_xo rt ra rb oe xo rc =
    field_at 0 5 31 + field_at 6 10 rt + field_at 11 15 ra + field_at 16 20 rb + field_at 21 21 (digit oe) + field_at 22 30 xo + field_at 31 31 (digit rc)

abbrev pub word_xfx : ℕ → ℕ → ℕ → ℕ
word_xfx rt fxm x = field_at 0 5 31 + field_at 6 10 rt + field_at 12 19 fxm + field_at 21 30 x

-- the X form of wrteei
abbrev pub word_e : Bool → ℕ → ℕ
word_e e x = field_at 0 5 31 + field_at 16 16 (digit e) + field_at 21 30 x

abbrev pub word_m : ℕ → ℕ → ℕ → ℕ → ℕ → ℕ → Bool → ℕ
word_m op rs ra rb mb me rc =
    field_at 0 5 op + field_at 6 10 rs + field_at 11 15 ra + field_at 16 20 rb + field_at 21 25 mb + field_at 26 30 me + field_at 31 31 (digit rc)

-- sh_0:4 and mb_0:4 are five bits, sh_5 and mb_5 one
abbrev pub word_md : ℕ → ℕ → ℕ → ℕ → ℕ → ℕ → ℕ → Bool → ℕ
word_md ds da sh mb mb5 md sh5 rc =
    field_at 0 5 30 + field_at 6 10 ds + field_at 11 15 da + field_at 16 20 sh + field_at 21 25 mb + field_at 26 26 mb5 + field_at 27 29 md + field_at 30 30 sh5 + field_at 31 31 (digit rc)

abbrev pub word_b : ℕ → ℕ → ℕ → Bool → Bool → ℕ
word_b bo bi bd aa lk =
    field_at 0 5 16 + field_at 6 10 bo + field_at 11 15 bi + field_at 16 29 bd + field_at 30 30 (digit aa) + field_at 31 31 (digit lk)

abbrev pub word_i : ℕ → Bool → Bool → ℕ
word_i li aa lk = field_at 0 5 18 + field_at 6 29 li + field_at 30 30 (digit aa) + field_at 31 31 (digit lk)
