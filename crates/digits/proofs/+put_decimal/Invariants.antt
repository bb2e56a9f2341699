use Rattle.digits.proofs.+put_decimal.Given as goal

-- the number falls as it is divided by ten
abbrev pub decreases-put_decimal : goal.decreases-put_decimal
decreases-put_decimal l = l.whole
