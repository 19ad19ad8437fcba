-- The invariant: the first i values are stored. Assumes nothing.
use Rattle.std.proofs.Common.{◌≡◌, ℕ}
use Rattle.words.specs.Folds.{Gives, stores}
use Rattle.words.proofs.store_each.Given as goal

abbrev pub invariant-loop-i : goal.invariant-loop-i
invariant-loop-i g l = (f : ℕ → _) → Gives (λ i r. g.F.Fn.post l.value (i, tt) r) l.n f → l.x-items ≡ stores l.i f l.initial.x-items
