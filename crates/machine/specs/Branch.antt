-- Branches (9.4.14 to 9.4.17). BO_0 to BO_4 are bits 27 to 31 of the number BO.
use Rattle.std.specs.Prelude.{ℕ, ◌+◌, ◌-◌, ◌*◌, ◌/◌, ◌%◌, ◌^◌, Bool, ◌&&◌, ◌||◌, cond, eqb}
use Rattle.std.specs.Bool.{beq}
use Rattle.word.specs.Bits.{bit_at, bit_of}
use Rattle.word.specs.Sign.{exts}
use Rattle.memory.specs.Access.{pick}
use Rattle.insn.specs.declared.instr.Branch.{Branch}
use Rattle.insn.specs.declared.instr.BranchOp.{BranchOp}
use Rattle.machine.specs.State.{with}
use Rattle.machine.specs.Result.{following}
use Rattle.machine.specs.declared.state.State.{State}
use Rattle.machine.specs.declared.state.Reg.{Reg}

-- a displacement from CIA, or with AA from 0
abbrev pub target_at : State → Bool → ℕ → ℕ
target_at s aa d = (cond aa 0 s.iar + d) % 2 ^ 32

-- (LR) ← CIA + 4 if LK, whether or not the branch is taken
unfoldable pub linked_of : State → Bool → State
linked_of s lk = pick lk (with s Reg.Lr (following s)) s

-- CTR ← CTR - 1 if BO_2 is 0
unfoldable pub ctr_after : ℕ → ℕ → ℕ
ctr_after ctr bo = cond (bit_at bo 29) ctr ((ctr + (2 ^ 32 - 1)) % 2 ^ 32)

-- (BO_2 = 1 ∨ ((CTR = 0) = BO_3)) ∧ (BO_0 = 1 ∨ (CR0_BI = BO_1))
unfoldable pub taken_of : ℕ → ℕ → ℕ → ℕ → Bool
taken_of bo bi ctr cr =
    (bit_at bo 29 || beq (eqb ctr 0) (bit_at bo 30)) && (bit_at bo 27 || beq (bit_at cr (bit_of bi).0) (bit_at bo 28))

-- NIA is the target or CIA + 4; bcctr has BO_2 set, so its CTR stays
unfoldable pub branched_of : State → ℕ → ℕ → ℕ → Bool → State
branched_of s bo bi target lk =
    let ctr = ctr_after s.ctr bo in
    with (with (linked_of s lk) Reg.Ctr ctr) Reg.Iar (cond (taken_of bo bi ctr s.cr) target (following s))

-- (LR)_0:29 ‖ 00 and (CTR)_0:29 ‖ 00
abbrev pub register_target : State → BranchOp → ℕ
register_target s BranchOp.Bclr = s.lr / 4 * 4
register_target s BranchOp.Bcctr = s.ctr / 4 * 4

-- LI ‖ 00 has 26 bits, BD ‖ 00 sixteen
unfoldable pub branch_of : State → Branch → State
branch_of s (Branch.Always aa lk li) = with (linked_of s lk) Reg.Iar (target_at s aa (exts 26 (li % 2 ^ 24 * 4)))
branch_of s (Branch.Conditional bo bi bd aa lk) = branched_of s bo bi (target_at s aa (exts 16 (bd % 2 ^ 14 * 4))) lk
branch_of s (Branch.Register op bo bi bh lk) = branched_of s bo bi (register_target s op) lk
