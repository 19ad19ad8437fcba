-- The first i words are stored.
use Rattle.std.proofs.Common.{◌≡◌, ◌+◌, replicate}
use Rattle.words.specs.Folds.{stores}
use Rattle.listing.proofs.stub_words.Given as goal

abbrev pub invariant-loop-i : goal.invariant-loop-i
invariant-loop-i l = l.stub-items ≡ stores l.i (λ k. 4026531840 + k) (replicate 1024 0)
