-- slw, srw and sraw (9.4.77 to 9.4.81), by any amount below 64: what is shifted out is lost.
use Rattle.std.specs.Prelude.{ℕ, ◌*◌, ◌/◌, ◌%◌, ◌^◌, not, ◌&&◌, cond, eqb}
use Rattle.word.specs.Sign.{negative}
use Rattle.word.specs.Logical.{inv}
use Rattle.word.specs.declared.bits.Shift.{Shift}
use Rattle.word.specs.declared.shift.Shifted.{Shifted}

-- RB_26:31 as an amount
abbrev pub shift_in : ℕ → Shift
shift_in x = record { 0 = x % 2 ^ 6 }

abbrev pub slw : ℕ → ℕ → ℕ
slw x n = x * 2 ^ n % 2 ^ 32

abbrev pub srw : ℕ → ℕ → ℕ
srw x n = x / 2 ^ n

-- copies of the sign come in on the left; the carry is set where x is negative and a one-bit is shifted out
abbrev pub sraw : ℕ → ℕ → Shifted
sraw x n =
    record {
      value = cond (negative x) (inv (srw (inv x) n)) (srw x n);
      carry = negative x && not (eqb (x % 2 ^ n) 0);
    }
