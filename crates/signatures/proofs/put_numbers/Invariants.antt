-- The numbers of the places before p are stored. Assumes nothing.
use Rattle.std.proofs.Common.{◌≡◌}
use Rattle.words.specs.Folds.{stores}
use Rattle.linking.specs.Numbers.{number_at}
use Rattle.linking.specs.Sheets.{of_sheets}
use Rattle.signatures.proofs.put_numbers.Given as goal

abbrev pub invariant-loop-p : goal.invariant-loop-p
invariant-loop-p l = l.numbers ≡ stores l.p (of_sheets number_at l.sheets) l.initial.numbers
