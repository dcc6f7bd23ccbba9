-- The fields of an instruction's operands, in the order of its syntax line. For the contracts of private functions; the
-- syntax itself is in Syntax in syntax.
use Rattle.std.specs.Prelude.{ℕ}
use Rattle.word.specs.Bits.{digit}
use Rattle.insn.specs.declared.instr.Instr.{Instr}
use Rattle.insn.specs.declared.instr.Arithmetic.{Arithmetic}
use Rattle.insn.specs.declared.instr.Logical.{Logical}
use Rattle.insn.specs.declared.instr.Compare.{Compare}
use Rattle.insn.specs.declared.instr.Rotate.{Rotate}
use Rattle.insn.specs.declared.instr.LoadStore.{LoadStore}
use Rattle.insn.specs.declared.instr.Branch.{Branch}
use Rattle.insn.specs.declared.instr.System.{System}
use Rattle.insn.specs.declared.instr.SprOp.{SprOp}
use Rattle.syntax.specs.Inside.{Queue}

abbrev pub queued : ℕ → ℕ → ℕ → ℕ → ℕ → Queue
queued a b c d e = record { a = a; b = b; c = c; d = d; e = e }

abbrev pub queue_of : Instr → Queue
queue_of (Instr.Arithmetic (Arithmetic.Immediate op rt ra si)) = queued rt ra si 0 0
queue_of (Instr.Arithmetic (Arithmetic.Register op rt ra rb oe rc)) = queued rt ra rb 0 0
queue_of (Instr.Arithmetic (Arithmetic.One op rt ra oe rc)) = queued rt ra 0 0 0
queue_of (Instr.Arithmetic (Arithmetic.Multiply sign rt ra rb rc)) = queued rt ra rb 0 0
queue_of (Instr.Arithmetic (Arithmetic.MultiplyImm rt ra si)) = queued rt ra si 0 0
queue_of (Instr.Arithmetic (Arithmetic.MultiplyLow rt ra rb oe rc)) = queued rt ra rb 0 0
queue_of (Instr.Logical (Logical.Immediate op rs ra ui)) = queued ra rs ui 0 0
queue_of (Instr.Logical (Logical.Register op rs ra rb rc)) = queued ra rs rb 0 0
queue_of (Instr.Logical (Logical.One op rs ra rc)) = queued ra rs 0 0 0
queue_of (Instr.Compare (Compare.Immediate sign ra imm)) = queued ra imm 0 0 0
queue_of (Instr.Compare (Compare.Register sign ra rb)) = queued ra rb 0 0 0
queue_of (Instr.Rotate (Rotate.Immediate op rs ra sh mb me rc)) = queued ra rs sh mb me
queue_of (Instr.Rotate (Rotate.Register rs ra rb mb me rc)) = queued ra rs rb mb me
queue_of (Instr.Rotate (Rotate.Shift op rs ra rb rc)) = queued ra rs rb 0 0
queue_of (Instr.Rotate (Rotate.Srawi rs ra sh rc)) = queued ra rs sh 0 0
queue_of (Instr.Rotate (Rotate.Double op ds da sh mb rc)) = queued da ds sh mb 0
queue_of (Instr.LoadStore (LoadStore.Load width update rt ra d)) = queued rt d ra 0 0
queue_of (Instr.LoadStore (LoadStore.LoadIndexed width rt ra rb)) = queued rt ra rb 0 0
queue_of (Instr.LoadStore (LoadStore.Store width update rs ra d)) = queued rs d ra 0 0
queue_of (Instr.LoadStore (LoadStore.StoreIndexed width rs ra rb)) = queued rs ra rb 0 0
queue_of (Instr.LoadStore (LoadStore.LoadDouble update dt ra d)) = queued dt d ra 0 0
queue_of (Instr.LoadStore (LoadStore.StoreDouble update ds ra d)) = queued ds d ra 0 0
queue_of (Instr.Stack dd op rt ra) = queued rt dd ra 0 0
queue_of (Instr.Branch (Branch.Always aa lk li)) = queued li 0 0 0 0
queue_of (Instr.Branch (Branch.Conditional bo bi bd aa lk)) = queued bo bi bd 0 0
queue_of (Instr.Branch (Branch.Register op bo bi bh lk)) = queued bo bi 0 0 0
queue_of (Instr.Trap to ra rb tg) = queued to ra rb 0 0
queue_of (Instr.System (System.Spr SprOp.Mfspr rt spr)) = queued rt spr 0 0 0
queue_of (Instr.System (System.Spr SprOp.Mtspr rt spr)) = queued spr rt 0 0 0
queue_of (Instr.System (System.Move op rt)) = queued rt 0 0 0 0
queue_of (Instr.System (System.Wrteei e)) = queued (digit e) 0 0 0 0
queue_of (Instr.System System.Rfi) = queued 0 0 0 0 0
queue_of (Instr.System System.Sync) = queued 0 0 0 0 0
queue_of (Instr.Cache op hint ra rb) = queued ra rb 0 0 0
