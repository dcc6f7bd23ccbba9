-- Ones from bit to bit and the masks made of them, computed at each of the 1,024 pairs. Assumes nothing.
use mathlib.Core.Path.{◌≡◌, ap, sym, ◌∙◌}
use mathlib.Core.Bool.{Bool, cond}
use Prim.Native.Nat.{ℕ, ◌-◌, ◌*◌, ◌%◌, ◌^◌, ◌≤◌, ◌<◌}
use native.Mathlib.Omega.{arith}
use borrow.Author.Tests.{le-leb, lt-leb}
use lib.Bits.{bit_and, bit_or}
use lib.Dec.{leb}
use Rattle.word.specs.Rotate.{mask}
use Rattle.word.proofs.Below.{same_at}

-- what the code makes for bits i to j
abbrev pub made : ℕ → ℕ → ℕ
made i j = bit_and (0xFFFF_FFFF * 2 ^ (31 - j) % 2 ^ 32) (2 ^ 32 - 1 - 0xFFFF_FFFE * 2 ^ (31 - i) % 2 ^ 32)

-- ones from bit i to bit j, none where j comes first
abbrev pub ones : ℕ → ℕ → ℕ
ones i j = cond (leb i j) (mask i j) 0

pub made_is : (i j : ℕ) → i < 32 → j < 32 → made i j ≡ ones i j
unfolding mask
made_is = same_at made ones 32 32 tt

-- straight or round, by whether MB and ME are in order
abbrev by_order : Bool → ℕ → ℕ → ℕ
by_order in_order mb me = cond in_order (ones mb me) (bit_or (ones mb 31) (ones 0 me))

by_order_is : (mb me : ℕ) → mb < 32 → me < 32 → by_order (leb mb me) mb me ≡ mask mb me
unfolding mask
by_order_is = same_at (λ mb me. by_order (leb mb me) mb me) mask 32 32 tt

pub straight_is : (mb me : ℕ) → mb ≤ me → me < 32 → ones mb me ≡ mask mb me
straight_is mb me h l = ap (λ b. by_order b mb me) (sym (le-leb mb me h)) ∙ by_order_is mb me (omega arith) l

pub round_is : (mb me : ℕ) → me < mb → mb < 32 → bit_or (ones mb 31) (ones 0 me) ≡ mask mb me
round_is mb me h l = ap (λ b. by_order b mb me) (sym (lt-leb mb me h)) ∙ by_order_is mb me l (omega arith)
