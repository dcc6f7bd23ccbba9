use Rattle.syntax.proofs.print.+put_decimal.Given as goal

-- how many digits there are to be at most
abbrev pub decreases-put_decimal : goal.decreases-put_decimal
decreases-put_decimal l = l.k
