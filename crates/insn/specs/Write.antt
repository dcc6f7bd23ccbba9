-- The word of each form of instruction, and what writing one gives on a 42X, and on either core: its word, or none where it is not valid.
use Rattle.std.specs.Prelude.{ℕ, false, Option}
use Rattle.std.specs.Bool.{then_some}
use Rattle.word.specs.Bits.{bits_at}
use Rattle.insn.specs.Fields.{word_d, word_dd, word_x, word_xo, word_xfx, word_e, word_m, word_md, word_b, word_i}
use Rattle.insn.specs.Codes.{arith_imm_code, arith_code, arith_one_code, multiply_code, logic_imm_code, logic_code, logic_one_code, compare_imm_code, compare_code, rotate_code, shift_code, load_code, store_code, load_indexed_code, store_indexed_code, load_double_code, store_double_code, stack_code, rotate_double_code, branch_code, spr_code, move_code, move_fxm, cache_code}
use Rattle.insn.specs.Valid.{valid_of}
use Rattle.insn.specs.Profile.{valid_on}
use Rattle.insn.specs.declared.profile.Profile.{Profile}
use Rattle.insn.specs.declared.instr.Instr.{Instr}
use Rattle.insn.specs.declared.instr.Arithmetic.{Arithmetic}
use Rattle.insn.specs.declared.instr.Logical.{Logical}
use Rattle.insn.specs.declared.instr.Compare.{Compare}
use Rattle.insn.specs.declared.instr.Rotate.{Rotate}
use Rattle.insn.specs.declared.instr.LoadStore.{LoadStore}
use Rattle.insn.specs.declared.instr.Branch.{Branch}
use Rattle.insn.specs.declared.instr.System.{System}

abbrev pub word_of : Instr → ℕ
word_of (Instr.Arithmetic (Arithmetic.Immediate op rt ra si)) = word_d (arith_imm_code op) rt ra si
word_of (Instr.Arithmetic (Arithmetic.Register op rt ra rb oe rc)) = word_xo rt ra rb oe (arith_code op) rc
word_of (Instr.Arithmetic (Arithmetic.One op rt ra oe rc)) = word_xo rt ra 0 oe (arith_one_code op) rc
word_of (Instr.Arithmetic (Arithmetic.Multiply sign rt ra rb rc)) = word_x 4 rt ra rb (multiply_code sign) rc
word_of (Instr.Arithmetic (Arithmetic.MultiplyImm rt ra si)) = word_d 7 rt ra si  -- mulli 9.4.60
word_of (Instr.Arithmetic (Arithmetic.MultiplyLow rt ra rb oe rc)) = word_xo rt ra rb oe 235 rc  -- mullw 9.4.61
word_of (Instr.Logical (Logical.Immediate op rs ra ui)) = word_d (logic_imm_code op) rs ra ui
word_of (Instr.Logical (Logical.Register op rs ra rb rc)) = word_x 31 rs ra rb (logic_code op) rc
word_of (Instr.Logical (Logical.One op rs ra rc)) = word_x 31 rs ra 0 (logic_one_code op) rc
word_of (Instr.Compare (Compare.Immediate sign ra imm)) = word_d (compare_imm_code sign) 0 ra imm
word_of (Instr.Compare (Compare.Register sign ra rb)) = word_x 31 0 ra rb (compare_code sign) false
word_of (Instr.Rotate (Rotate.Immediate op rs ra sh mb me rc)) = word_m (rotate_code op) rs ra sh mb me rc
word_of (Instr.Rotate (Rotate.Register rs ra rb mb me rc)) = word_m 23 rs ra rb mb me rc  -- rlwnm 9.4.75
word_of (Instr.Rotate (Rotate.Shift op rs ra rb rc)) = word_x 31 rs ra rb (shift_code op) rc
word_of (Instr.Rotate (Rotate.Srawi rs ra sh rc)) = word_x 31 rs ra sh 824 rc  -- 9.4.79
word_of (Instr.Rotate (Rotate.Double op ds da sh mb rc)) = word_md ds da (bits_at sh 27 31) (bits_at mb 27 31) (bits_at mb 26 26) (rotate_double_code op) (bits_at sh 26 26) rc
word_of (Instr.LoadStore (LoadStore.Load width update rt ra d)) = word_d (load_code width update) rt ra d
word_of (Instr.LoadStore (LoadStore.LoadIndexed width rt ra rb)) = word_x 31 rt ra rb (load_indexed_code width) false
word_of (Instr.LoadStore (LoadStore.Store width update rs ra d)) = word_d (store_code width update) rs ra d
word_of (Instr.LoadStore (LoadStore.StoreIndexed width rs ra rb)) = word_x 31 rs ra rb (store_indexed_code width) false
word_of (Instr.LoadStore (LoadStore.LoadDouble update dt ra d)) = word_d (load_double_code update) dt ra d
word_of (Instr.LoadStore (LoadStore.StoreDouble update ds ra d)) = word_d (store_double_code update) ds ra d
word_of (Instr.Stack dd op rt ra) = word_dd (stack_code op) rt ra dd
word_of (Instr.Branch (Branch.Always aa lk li)) = word_i li aa lk  -- b 9.4.14
word_of (Instr.Branch (Branch.Conditional bo bi bd aa lk)) = word_b bo bi bd aa lk  -- bc 9.4.15
word_of (Instr.Branch (Branch.Register op bo bi bh lk)) = word_x 19 bo bi bh (branch_code op) lk
word_of (Instr.Trap to ra rb tg) = word_x 31 to ra rb 4 tg  -- tw 9.4.103
word_of (Instr.System (System.Spr op rt spr)) = word_x 31 rt (bits_at spr 27 31) (bits_at spr 22 26) (spr_code op) false
word_of (Instr.System (System.Move op rt)) = word_xfx rt (move_fxm op) (move_code op)
word_of (Instr.System (System.Wrteei e)) = word_e e 163  -- 9.4.105
word_of (Instr.System System.Rfi) = word_x 19 0 0 0 50 false  -- 9.4.69
word_of (Instr.System System.Sync) = word_x 31 0 0 0 598 false  -- 9.4.102
word_of (Instr.Cache op hint ra rb) = word_x 31 hint ra rb (cache_code op) false

abbrev pub written_of : Instr → Option ℕ
written_of i = then_some (valid_of i) (word_of i)

abbrev pub written_on : Profile → Instr → Option ℕ
written_on p i = then_some (valid_on p i) (word_of i)
