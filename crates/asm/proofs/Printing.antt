-- An instruction's line is its shape printed with its fields.
use Prim.Native.Nat.{ℕ}
use mathlib.Core.Path.{◌≡◌, refl, ap}
use mathlib.Core.List.{List, [], ◌∷◌, ◌++◌, append-nil, append_assoc}
use mathlib.Core.Bool.{Bool, true, false}
use Rattle.insn.specs.declared.instr.Instr.{Instr}
use Rattle.insn.specs.declared.instr.Arithmetic.{Arithmetic}
use Rattle.insn.specs.declared.instr.Logical.{Logical}
use Rattle.insn.specs.declared.instr.Compare.{Compare}
use Rattle.insn.specs.declared.instr.Rotate.{Rotate}
use Rattle.insn.specs.declared.instr.LoadStore.{LoadStore}
use Rattle.insn.specs.declared.instr.Branch.{Branch}
use Rattle.insn.specs.declared.instr.System.{System}
use Rattle.insn.specs.declared.instr.ArithImmOp.{ArithImmOp}
use Rattle.insn.specs.declared.instr.SprOp.{SprOp}
use Rattle.insn.specs.declared.instr.Sign.{Sign}
use Rattle.syntax.specs.Syntax.{Piece, letter, SI, R, D, letters, commas, spelt, arith_imm_base, compare_imm, items_of, shape_of}
use Rattle.syntax.specs.LineOf.{piece_texts, line_of}
use Rattle.asm.specs.Operands.{queued, queue_of}
use Rattle.syntax.specs.Inside.{Queue, printed}

-- the mnemonic is printed as it stands, and the rest with the operands in the order of the line
abbrev Printed : List Piece → Queue → Type 0
Printed ps q = piece_texts ps ≡ printed (items_of ps) q

letters_printed : (cs : List ℕ) (ps : List Piece) (q : Queue) → Printed ps q → Printed (letters cs ++ ps) q
unfolding piece_texts printed items_of letters
letters_printed [] ps q h = h
letters_printed (c ∷ cs) ps q h = ap (λ (l : List ℕ). c ∷ l) (letters_printed cs ps q h)

named : (name : List ℕ) (o : List Piece) (os : List (List Piece)) (q : Queue) → Printed (letter 32 ∷ o ++ commas os) q → Printed (spelt name (o ∷ os)) q
unfolding spelt
named name o os q h = rw append_assoc (letters_printed name (letter 32 ∷ o ++ commas os) q h)

alone : (name : List ℕ) (q : Queue) → Printed (spelt name []) q
unfolding spelt piece_texts printed items_of
alone name q = rw (← (append-nil (letters name))) (letters_printed name [] q refl)

-- D(RA) after a register, of an update form and of the others
displaced : (update : Bool) (r d ra : ℕ) → Printed (letter 32 ∷ R r ++ commas (D update d ra ∷ [])) (queued r d ra 0 0)
unfolding piece_texts printed items_of commas
displaced true r d ra = refl
displaced false r d ra = refl

based : (op : ArithImmOp) (rt ra si : ℕ) → Printed (letter 32 ∷ R rt ++ commas (arith_imm_base op ra ∷ SI si ∷ [])) (queued rt ra si 0 0)
unfolding piece_texts printed items_of commas
based ArithImmOp.Addi rt ra si = refl
based ArithImmOp.Addis rt ra si = refl
based ArithImmOp.Addic rt ra si = refl
based ArithImmOp.AddicDot rt ra si = refl
based ArithImmOp.Subfic rt ra si = refl

compared : (sign : Sign) (ra imm : ℕ) → Printed (letter 32 ∷ R ra ++ commas (compare_imm sign imm ∷ [])) (queued ra imm 0 0 0)
unfolding piece_texts printed items_of commas
compared Sign.Signed ra imm = refl
compared Sign.Unsigned ra imm = refl

-- the line of an instruction is its shape printed with its fields
pub line_printed : (i : Instr) → line_of i ≡ printed (shape_of i) (queue_of i)
unfolding line_of shape_of piece_texts printed items_of commas
line_printed (Instr.Arithmetic (Arithmetic.Immediate op rt ra si)) = named _ _ _ _ (based op rt ra si)
line_printed (Instr.Arithmetic (Arithmetic.Register op rt ra rb oe rc)) = named _ _ _ _ refl
line_printed (Instr.Arithmetic (Arithmetic.One op rt ra oe rc)) = named _ _ _ _ refl
line_printed (Instr.Arithmetic (Arithmetic.Multiply sign rt ra rb rc)) = named _ _ _ _ refl
line_printed (Instr.Arithmetic (Arithmetic.MultiplyImm rt ra si)) = named _ _ _ _ refl
line_printed (Instr.Arithmetic (Arithmetic.MultiplyLow rt ra rb oe rc)) = named _ _ _ _ refl
line_printed (Instr.Logical (Logical.Immediate op rs ra ui)) = named _ _ _ _ refl
line_printed (Instr.Logical (Logical.Register op rs ra rb rc)) = named _ _ _ _ refl
line_printed (Instr.Logical (Logical.One op rs ra rc)) = named _ _ _ _ refl
line_printed (Instr.Compare (Compare.Immediate sign ra imm)) = named _ _ _ _ (compared sign ra imm)
line_printed (Instr.Compare (Compare.Register sign ra rb)) = named _ _ _ _ refl
line_printed (Instr.Rotate (Rotate.Immediate op rs ra sh mb me rc)) = named _ _ _ _ refl
line_printed (Instr.Rotate (Rotate.Register rs ra rb mb me rc)) = named _ _ _ _ refl
line_printed (Instr.Rotate (Rotate.Shift op rs ra rb rc)) = named _ _ _ _ refl
line_printed (Instr.Rotate (Rotate.Srawi rs ra sh rc)) = named _ _ _ _ refl
line_printed (Instr.Rotate (Rotate.Double op ds da sh mb rc)) = named _ _ _ _ refl
line_printed (Instr.LoadStore (LoadStore.Load width update rt ra d)) = named _ _ _ _ (displaced update rt d ra)
line_printed (Instr.LoadStore (LoadStore.LoadIndexed width rt ra rb)) = named _ _ _ _ refl
line_printed (Instr.LoadStore (LoadStore.Store width update rs ra d)) = named _ _ _ _ (displaced update rs d ra)
line_printed (Instr.LoadStore (LoadStore.StoreIndexed width rs ra rb)) = named _ _ _ _ refl
line_printed (Instr.LoadStore (LoadStore.LoadDouble update dt ra d)) = named _ _ _ _ (displaced update dt d ra)
line_printed (Instr.LoadStore (LoadStore.StoreDouble update ds ra d)) = named _ _ _ _ (displaced update ds d ra)
line_printed (Instr.Stack dd op rt ra) = named _ _ _ _ refl
line_printed (Instr.Branch (Branch.Always aa lk li)) = named _ _ _ _ refl
line_printed (Instr.Branch (Branch.Conditional bo bi bd aa lk)) = named _ _ _ _ refl
line_printed (Instr.Branch (Branch.Register op bo bi bh lk)) = named _ _ _ _ refl
line_printed (Instr.Trap to ra rb tg) = named _ _ _ _ refl
line_printed (Instr.System (System.Spr SprOp.Mfspr rt spr)) = named _ _ _ _ refl
line_printed (Instr.System (System.Spr SprOp.Mtspr rt spr)) = named _ _ _ _ refl
line_printed (Instr.System (System.Move op rt)) = named _ _ _ _ refl
line_printed (Instr.System (System.Wrteei e)) = named _ _ _ _ refl
line_printed (Instr.System System.Rfi) = alone _ _
line_printed (Instr.System System.Sync) = alone _ _
line_printed (Instr.Cache op hint ra rb) = named _ _ _ _ refl
