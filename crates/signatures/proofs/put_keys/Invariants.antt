-- The keys of the places before p are stored. Assumes nothing.
use Rattle.std.proofs.Common.{◌≡◌}
use Rattle.words.specs.Folds.{stores}
use Rattle.linking.specs.Sheets.{of_sheets}
use Rattle.signatures.specs.Keys.{key_at}
use Rattle.signatures.proofs.put_keys.Given as goal

abbrev pub invariant-loop-p : goal.invariant-loop-p
invariant-loop-p l = l.keys ≡ stores l.p (of_sheets key_at l.sheets) l.initial.keys
