-- What the scan answers at a column hangs on the bytes up to it alone.
use Prim.Native.Nat.{ℕ, suc, ◌+◌, ◌≤◌}
use native.Mathlib.Omega.{arith}
use mathlib.Core.Path.{◌≡◌, refl}
use mathlib.Core.Bool.{false}
use mathlib.Core.List.{List, [], ◌∷◌, ◌++◌}
use lib.ListN.{length}
use Rattle.expr.specs.Grammar.{Expr, Prod, Fac}
use Rattle.expr.specs.Scan.{AtE, AtF, expr_at, outer, St, Next, Out, step, finish, finish_e, finish_f, scan, onward}

abbrev pub column_of : Out → ℕ
column_of (Out.ended e n) = n
column_of (Out.bad n) = n

at_finish_e : (k : AtE) (e : Expr) (i : ℕ) → column_of (finish_e k e i) ≡ i
unfolding finish_e
at_finish_e AtE.top e i = refl
at_finish_e (AtE.within k) e i = refl

at_finish_f : (k : AtF) (f : Fac) (i : ℕ) → column_of (finish_f k f i) ≡ i
unfolding finish_f
at_finish_f (AtF.begins k) f i = at_finish_e (outer k) (expr_at k (Prod.one f)) i
at_finish_f (AtF.times p k) f i = at_finish_e (outer k) (expr_at k (Prod.times p f)) i
at_finish_f (AtF.negates k) f i = at_finish_f k (Fac.minus f) i

at_finish : (st : St) (i : ℕ) → column_of (finish st i) ≡ i
unfolding finish
at_finish (St.want k) i = refl
at_finish (St.zero_read k) i = at_finish_f k (Fac.num false 48 []) i
at_finish (St.hex_read k) i = refl
at_finish (St.digits k h d ds) i = at_finish_f k (Fac.num h d ds) i
at_finish (St.factored k p) i = at_finish_e (outer k) (expr_at k p) i
at_finish (St.summed k e) i = at_finish_e k e i
at_finish (St.closed k e) i = at_finish_e k e i

onward_from : (x : Next) (i : ℕ) (o : Out) (f : St → Out) → i ≤ column_of o → ((t : St) → suc i ≤ column_of (f t)) → i ≤ column_of (onward x o f)
onward_from Next.dead i o f a b = a
onward_from (Next.to t) i o f a b = omega (arith, b t)

from_here : (s : List ℕ) (st : St) (i : ℕ) → i ≤ column_of (scan st i s)
unfolding scan
from_here [] st i = omega (arith, at_finish st i)
from_here (c ∷ cs) st i = onward_from (step st c) i (finish st i) _ (omega (arith, at_finish st i)) (λ t. from_here cs t (suc i))

-- what is answered at a column hangs on the bytes up to it alone
last_byte : (x : Next) (i : ℕ) (o : Out) (v w : List ℕ) → column_of (onward x o (λ (t : St). scan t (suc i) v)) ≤ i → onward x o (λ (t : St). scan t (suc i) w) ≡ onward x o (λ (t : St). scan t (suc i) v)
last_byte Next.dead i o v w e = refl
last_byte (Next.to t) i o v w e = let z : ⊥ = omega (arith, from_here v t (suc i)) in absurd z

more_bytes : (x : Next) (i n : ℕ) (o : Out) (a b : List ℕ) → column_of (onward x o (λ (t : St). scan t (suc i) a)) ≤ i + suc n → ((t : St) → column_of (scan t (suc i) a) ≤ suc i + n → scan t (suc i) b ≡ scan t (suc i) a) → onward x o (λ (t : St). scan t (suc i) b) ≡ onward x o (λ (t : St). scan t (suc i) a)
more_bytes Next.dead i n o a b e f = refl
more_bytes (Next.to t) i n o a b e f = f t (omega arith)

pub local : (u : List ℕ) (c : ℕ) (v w : List ℕ) (st : St) (i : ℕ) → column_of (scan st i (u ++ (c ∷ v))) ≤ i + length u → scan st i (u ++ (c ∷ w)) ≡ scan st i (u ++ (c ∷ v))
unfolding scan
local [] c v w st i e = last_byte (step st c) i (finish st i) v w (omega arith)
local (x ∷ u) c v w st i e = more_bytes (step st x) i (length u) (finish st i) (u ++ (c ∷ v)) (u ++ (c ∷ w)) e (λ t q. local u c v w t (suc i) q)
