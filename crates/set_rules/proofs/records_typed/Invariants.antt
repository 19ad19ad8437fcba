-- The invariant: each of the first i records has a descriptor, and what is known is true. Assumes nothing.
use mathlib.Core.Path.{◌≡◌}
use mathlib.Core.Bool.{true}
use Rattle.words.specs.Folds.{all_of}
use Rattle.set_rules.specs.Known.{Known, record_typed}
use Rattle.set_rules.proofs.records_typed.Given as goal

abbrev pub invariant-loop-i : goal.invariant-loop-i
invariant-loop-i l = (all_of l.i (record_typed l.kind l.ws l.first l.width l.text) ≡ true) × Known l.kind l.text l.known
