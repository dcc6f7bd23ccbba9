-- The syntax lines of 9.4 as one table: what stands in the line of each instruction, byte by byte and operand by operand.
use Rattle.std.specs.Prelude.{ℕ, Bool, true, false, ◌||◌, List, [], ◌∷◌, ◌++◌, eqb}
use Prim.Native.String.{String}
use Rattle.word.specs.Bits.{digit}
use Rattle.insn.specs.Profile.{is42x, arithmetic_on42, rotate_on42}
use Rattle.insn.specs.declared.profile.Profile.{Profile}
use Rattle.insn.specs.declared.instr.Instr.{Instr}
use Rattle.insn.specs.declared.instr.Arithmetic.{Arithmetic}
use Rattle.insn.specs.declared.instr.Logical.{Logical}
use Rattle.insn.specs.declared.instr.Compare.{Compare}
use Rattle.insn.specs.declared.instr.Rotate.{Rotate}
use Rattle.insn.specs.declared.instr.LoadStore.{LoadStore}
use Rattle.insn.specs.declared.instr.Branch.{Branch}
use Rattle.insn.specs.declared.instr.System.{System}
use Rattle.insn.specs.declared.instr.ArithImmOp.{ArithImmOp}
use Rattle.insn.specs.declared.instr.SprOp.{SprOp}
use Rattle.insn.specs.declared.instr.Sign.{Sign}
use Rattle.syntax.specs.Text.{bytes}
use Rattle.syntax.specs.Names.{arith_imm_name, arith_name, arith_one_name, multiply_name, logic_imm_name, logic_name, logic_one_name, compare_imm_name, compare_name, rotate_name, rotate_double_name, shift_name, load_name, load_indexed_name, store_name, store_indexed_name, load_double_name, store_double_name, stack_name, branch_name, move_name, cache_name}

-- which numbers an operand takes: from -h to h - 1; from 0 to n - 1; from -4h to 4h - 4, a multiple of 4; from -8h to 8h - 1, of
-- which the last three bits are dropped (9.4.45, 9.4.89)
pub data Range : Type 0 where
  signed : ℕ → Range
  unsigned : ℕ → Range
  target : ℕ → Range
  frame : ℕ → Range

-- what stands at a place of a line: that byte; r and a number; the same or a lone 0, where 9.4 reads (RA|0); an expression
pub data Item : Type 0 where
  lit : ℕ → Item
  reg : Item
  zreg : Item
  num : Range → Item

-- the same, with what the instruction's field holds
pub data Piece : Type 0 where
  letter : ℕ → Piece
  gpr : ℕ → Piece
  gpr_or0 : ℕ → Piece
  number : Range → ℕ → Piece

-- the operands by their names in 9.4
-- and IM
abbrev pub SI : ℕ → List Piece
SI n = number (signed 0x8000) n ∷ []

abbrev pub UI : ℕ → List Piece
UI n = number (unsigned 0x1_0000) n ∷ []

-- SH, MB, ME, BO and TO
abbrev pub five : ℕ → List Piece
five n = number (unsigned 32) n ∷ []

-- SH, MB and ME of a doubleword
abbrev pub six : ℕ → List Piece
six n = number (unsigned 64) n ∷ []

abbrev pub BI : ℕ → List Piece
BI n = number (unsigned 4) n ∷ []

abbrev pub SPRN : ℕ → List Piece
SPRN n = number (unsigned 1024) n ∷ []

abbrev pub E : Bool → List Piece
E e = number (unsigned 2) (digit e) ∷ []

abbrev pub LI : ℕ → List Piece
LI n = number (target 0x80_0000) n ∷ []

abbrev pub BD : ℕ → List Piece
BD n = number (target 0x2000) n ∷ []

-- RT, RS, RA, RB, and a pair by its first register
abbrev pub R : ℕ → List Piece
R n = gpr n ∷ []

abbrev pub RA0 : ℕ → List Piece
RA0 n = gpr_or0 n ∷ []

-- D(RA), which an update form reads as (RA) and the others as (RA|0)
abbrev pub D : Bool → ℕ → ℕ → List Piece
D true d ra = number (signed 0x8000) d ∷ letter 40 ∷ gpr ra ∷ letter 41 ∷ []
D false d ra = number (signed 0x8000) d ∷ letter 40 ∷ gpr_or0 ra ∷ letter 41 ∷ []

-- DD(RA), where the offset is in bytes
abbrev pub DD : ℕ → ℕ → List Piece
DD dd ra = number (frame 0x1000) dd ∷ letter 40 ∷ gpr ra ∷ letter 41 ∷ []

unfoldable pub letters : List ℕ → List Piece
letters [] = []
letters (c ∷ cs) = letter c ∷ letters cs

unfoldable pub commas : List (List Piece) → List Piece
commas [] = []
commas (o ∷ os) = letter 44 ∷ o ++ commas os

-- one space after the mnemonic if operands follow, commas between them
unfoldable pub spelt : List ℕ → List (List Piece) → List Piece
spelt name [] = letters name
spelt name (o ∷ os) = letters name ++ letter 32 ∷ o ++ commas os

abbrev pub one : String → List (List Piece) → List Piece
one name os = spelt (bytes name) os

-- the letters that say OE, Rc, LK and AA
abbrev pub o : Bool → List ℕ
o false = []
o true = bytes "o"

abbrev pub dot : Bool → List ℕ
dot false = []
dot true = bytes "."

abbrev pub l : Bool → List ℕ
l false = []
l true = bytes "l"

abbrev pub a : Bool → List ℕ
a false = []
a true = bytes "a"

-- addi and addis read (RA|0)
abbrev pub arith_imm_base : ArithImmOp → ℕ → List Piece
arith_imm_base ArithImmOp.Addi ra = RA0 ra
arith_imm_base ArithImmOp.Addis ra = RA0 ra
arith_imm_base ArithImmOp.Addic ra = R ra
arith_imm_base ArithImmOp.AddicDot ra = R ra
arith_imm_base ArithImmOp.Subfic ra = R ra

-- cmpwi has SI, cmplwi has UI
abbrev pub compare_imm : Sign → ℕ → List Piece
compare_imm Sign.Signed imm = SI imm
compare_imm Sign.Unsigned imm = UI imm

abbrev pub written : Instr → List Piece
written (Instr.Arithmetic (Arithmetic.Immediate op rt ra si)) = one (arith_imm_name op) (R rt ∷ arith_imm_base op ra ∷ SI si ∷ [])
written (Instr.Arithmetic (Arithmetic.Register op rt ra rb oe rc)) = spelt (bytes (arith_name op) ++ o oe ++ dot rc) (R rt ∷ R ra ∷ R rb ∷ [])
written (Instr.Arithmetic (Arithmetic.One op rt ra oe rc)) = spelt (bytes (arith_one_name op) ++ o oe ++ dot rc) (R rt ∷ R ra ∷ [])
written (Instr.Arithmetic (Arithmetic.Multiply sign rt ra rb rc)) = spelt (bytes (multiply_name sign) ++ dot rc) (R rt ∷ R ra ∷ R rb ∷ [])
written (Instr.Arithmetic (Arithmetic.MultiplyImm rt ra si)) = one "mulli" (R rt ∷ R ra ∷ SI si ∷ [])  -- 9.4.60
written (Instr.Arithmetic (Arithmetic.MultiplyLow rt ra rb oe rc)) = spelt (bytes "mullw" ++ o oe ++ dot rc) (R rt ∷ R ra ∷ R rb ∷ [])  -- 9.4.61
written (Instr.Logical (Logical.Immediate op rs ra ui)) = one (logic_imm_name op) (R ra ∷ R rs ∷ UI ui ∷ [])
written (Instr.Logical (Logical.Register op rs ra rb rc)) = spelt (bytes (logic_name op) ++ dot rc) (R ra ∷ R rs ∷ R rb ∷ [])
written (Instr.Logical (Logical.One op rs ra rc)) = spelt (bytes (logic_one_name op) ++ dot rc) (R ra ∷ R rs ∷ [])
written (Instr.Compare (Compare.Immediate sign ra imm)) = one (compare_imm_name sign) (R ra ∷ compare_imm sign imm ∷ [])
written (Instr.Compare (Compare.Register sign ra rb)) = one (compare_name sign) (R ra ∷ R rb ∷ [])
written (Instr.Rotate (Rotate.Immediate op rs ra sh mb me rc)) = spelt (bytes (rotate_name op) ++ dot rc) (R ra ∷ R rs ∷ five sh ∷ five mb ∷ five me ∷ [])
written (Instr.Rotate (Rotate.Register rs ra rb mb me rc)) = spelt (bytes "rlwnm" ++ dot rc) (R ra ∷ R rs ∷ R rb ∷ five mb ∷ five me ∷ [])  -- 9.4.75
written (Instr.Rotate (Rotate.Shift op rs ra rb rc)) = spelt (bytes (shift_name op) ++ dot rc) (R ra ∷ R rs ∷ R rb ∷ [])
written (Instr.Rotate (Rotate.Srawi rs ra sh rc)) = spelt (bytes "srawi" ++ dot rc) (R ra ∷ R rs ∷ five sh ∷ [])  -- 9.4.79
written (Instr.Rotate (Rotate.Double op ds da sh mb rc)) = spelt (bytes (rotate_double_name op) ++ dot rc) (R da ∷ R ds ∷ six sh ∷ six mb ∷ [])
written (Instr.LoadStore (LoadStore.Load width update rt ra d)) = one (load_name width update) (R rt ∷ D update d ra ∷ [])
written (Instr.LoadStore (LoadStore.LoadIndexed width rt ra rb)) = one (load_indexed_name width) (R rt ∷ RA0 ra ∷ R rb ∷ [])
written (Instr.LoadStore (LoadStore.Store width update rs ra d)) = one (store_name width update) (R rs ∷ D update d ra ∷ [])
written (Instr.LoadStore (LoadStore.StoreIndexed width rs ra rb)) = one (store_indexed_name width) (R rs ∷ RA0 ra ∷ R rb ∷ [])
written (Instr.LoadStore (LoadStore.LoadDouble update dt ra d)) = one (load_double_name update) (R dt ∷ D update d ra ∷ [])
written (Instr.LoadStore (LoadStore.StoreDouble update ds ra d)) = one (store_double_name update) (R ds ∷ D update d ra ∷ [])
written (Instr.Stack dd op rt ra) = one (stack_name op) (R rt ∷ DD dd ra ∷ [])
written (Instr.Branch (Branch.Always aa lk li)) = spelt (bytes "b" ++ l lk ++ a aa) (LI li ∷ [])  -- 9.4.14
written (Instr.Branch (Branch.Conditional bo bi bd aa lk)) = spelt (bytes "bc" ++ l lk ++ a aa) (five bo ∷ BI bi ∷ BD bd ∷ [])  -- 9.4.15
written (Instr.Branch (Branch.Register op bo bi bh lk)) = spelt (bytes (branch_name op) ++ l lk) (five bo ∷ BI bi ∷ [])
written (Instr.Trap to ra rb tg) = one "tw" (five to ∷ R ra ∷ R rb ∷ [])  -- 9.4.103
written (Instr.System (System.Spr SprOp.Mfspr rt spr)) = one "mfspr" (R rt ∷ SPRN spr ∷ [])  -- 9.4.54
written (Instr.System (System.Spr SprOp.Mtspr rt spr)) = one "mtspr" (SPRN spr ∷ R rt ∷ [])  -- 9.4.57
written (Instr.System (System.Move op rt)) = one (move_name op) (R rt ∷ [])
written (Instr.System (System.Wrteei e)) = one "wrteei" (E e ∷ [])  -- 9.4.105
written (Instr.System System.Rfi) = one "rfi" []  -- 9.4.69
written (Instr.System System.Sync) = one "sync" []  -- 9.4.102
written (Instr.Cache op hint ra rb) = one (cache_name op) (RA0 ra ∷ R rb ∷ [])

-- the fields that the syntax lines do not write, BH, TG and the hints, are 0
abbrev pub plain : Instr → Bool
plain (Instr.Branch (Branch.Register op bo bi bh lk)) = eqb bh 0
plain (Instr.Trap to ra rb false) = true
plain (Instr.Trap to ra rb true) = false
plain (Instr.Cache op hint ra rb) = eqb hint 0
plain (Instr.Arithmetic x) = true
plain (Instr.Logical x) = true
plain (Instr.Compare x) = true
plain (Instr.Rotate x) = true
plain (Instr.LoadStore x) = true
plain (Instr.Stack dd op rt ra) = true
plain (Instr.Branch (Branch.Always aa lk li)) = true
plain (Instr.Branch (Branch.Conditional bo bi bd aa lk)) = true
plain (Instr.System x) = true

-- the mnemonic is one of this core's: mulli, mullw, rldicl, rldicr, rldimi, lsku and stsku are the 42X's alone (9.2.1, 9.2.3), whatever
-- their operands
abbrev pub spelled_on : Profile → Instr → Bool
spelled_on p (Instr.Arithmetic i) = arithmetic_on42 i || is42x p
spelled_on p (Instr.Logical i) = true
spelled_on p (Instr.Compare i) = true
spelled_on p (Instr.Rotate i) = rotate_on42 i || is42x p
spelled_on p (Instr.LoadStore i) = true
spelled_on p (Instr.Stack dd op rt ra) = is42x p
spelled_on p (Instr.Branch i) = true
spelled_on p (Instr.Trap to ra rb tg) = true
spelled_on p (Instr.System i) = true
spelled_on p (Instr.Cache op hint ra rb) = true

abbrev pub item_of : Piece → Item
item_of (letter c) = lit c
item_of (gpr n) = reg
item_of (gpr_or0 n) = zreg
item_of (number r n) = num r

unfoldable pub items_of : List Piece → List Item
items_of [] = []
items_of (p ∷ ps) = item_of p ∷ items_of ps

-- the shape of an instruction's lines
unfoldable pub shape_of : Instr → List Item
shape_of i = items_of (written i)
