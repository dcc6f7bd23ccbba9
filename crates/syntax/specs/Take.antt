-- A line taken item by item. For the contracts of private functions; the grammar itself is in Line.
use Rattle.std.specs.Prelude.{ℕ, suc, ◌+◌, ◌-◌, Bool, true, false, not, ◌&&◌, ◌||◌, List, [], ◌∷◌, eqb, length, drop}
use Rattle.expr.specs.Grammar.{pick, is_digit}
use Rattle.expr.specs.Scan.{Out, scan, start}
use Rattle.expr.proofs.Numbers.{taken}
use Rattle.syntax.specs.Syntax.{Item, lit, reg, zreg, num}
use Rattle.syntax.specs.Line.{Part, byte, register, zero as lone, value}

pub data Took : Type 0 where
  took : Part → ℕ → Took
  none : ℕ → Took

abbrev pub of_out : Out → Took
of_out (Out.ended e n) = took (value e) n
of_out (Out.bad n) = none n

unfoldable pub take_number : ℕ → List ℕ → Took
take_number i [] = none i
take_number i (d ∷ s) = pick (is_digit false d) (took (register d (taken false s)) (suc i + length (taken false s))) (none i)

unfoldable pub take_reg : ℕ → List ℕ → Took
take_reg i [] = none i
take_reg i (b ∷ s) = pick (eqb b 114) (take_number (suc i) s) (none i)

unfoldable pub take_zreg : ℕ → List ℕ → Took
take_zreg i [] = none i
take_zreg i (b ∷ s) = pick (eqb b 48) (took lone (suc i)) (take_reg i (b ∷ s))

unfoldable pub take_byte : ℕ → ℕ → List ℕ → Took
take_byte c i [] = none i
take_byte c i (b ∷ s) = pick (eqb b c) (took (byte c) (suc i)) (none i)

unfoldable pub take_item : Item → ℕ → List ℕ → Took
take_item (lit c) i s = take_byte c i s
take_item reg i s = take_reg i s
take_item zreg i s = take_zreg i s
take_item (num r) i s = of_out (scan start i s)

pub data Result : Type 0 where
  all : List Part → Result
  stopped : ℕ → Result

abbrev pub put : Part → Result → Result
put p (all ps) = all (p ∷ ps)
put p (stopped k) = stopped k

abbrev pub next : Took → (Part → ℕ → Result) → Result
next (took p j) f = f p j
next (none k) f = stopped k

unfoldable pub take_line : List Item → ℕ → List ℕ → Result
take_line [] i [] = all []
take_line [] i (c ∷ s) = stopped i
take_line (x ∷ xs) i s = next (take_item x i s) (λ (p : Part) (j : ℕ). put p (take_line xs j (drop (j - i) s)))

-- a shape whose items end where the next begin
abbrev pub ends_reg : ℕ → Bool
ends_reg c = not (is_digit false c)

abbrev pub ends_num : ℕ → Bool
ends_num c = not (is_digit true c || eqb c 120 || eqb c 42 || eqb c 43 || eqb c 45)

abbrev pub followed : (ℕ → Bool) → List Item → Bool
followed f [] = true
followed f (lit c ∷ xs) = f c
followed f (reg ∷ xs) = false
followed f (zreg ∷ xs) = false
followed f (num r ∷ xs) = false

unfoldable pub apart : Item → List Item → Bool
apart (lit a) xs = true
apart reg xs = followed ends_reg xs
apart zreg xs = followed ends_reg xs
apart (num r) xs = followed ends_num xs

unfoldable pub well_made : List Item → Bool
well_made [] = true
well_made (x ∷ xs) = apart x xs && well_made xs
