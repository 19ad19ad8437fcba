-- Of the numbers of the refusals. Assumes nothing.
use Rattle.std.proofs.Common.{◌≡◌, ◌<◌, arith}
use Rattle.refusal.specs.declared.Refusal.{Refusal}
use Rattle.refusal.specs.Rows.{row}

-- none has another's
pub row_unique : (r s : Refusal) → row r ≡ row s → r ≡ s
row_unique r s e = grind arith

-- none is 0, which says that a call is accepted
pub row_above : (r : Refusal) → 0 < row r
row_above r = grind arith
