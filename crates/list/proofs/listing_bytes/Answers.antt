-- The array's length is its type's.
use Rattle.std.proofs.Common.{sym, ℕ}
use Rattle.std.proofs.lemmas.List.{length-replicate}
use Rattle.list.proofs.listing_bytes.Goals as goal

pub returns : goal.returns
returns c = sym (length-replicate {0} {A = ℕ} 2228224 0)
