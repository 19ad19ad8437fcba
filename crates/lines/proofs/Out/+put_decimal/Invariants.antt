-- The digits before the last one are those of a tenth.
use Rattle.lines.proofs.Out.+put_decimal.Given as goal

abbrev pub decreases-put_decimal : goal.decreases-put_decimal
decreases-put_decimal l = l.n
