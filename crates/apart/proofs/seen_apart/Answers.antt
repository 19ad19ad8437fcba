-- Different keys show different names, and free lists show that no element is in two: together each class is apart from each before it.
-- Assumes nothing.
use mathlib.Core.Bool.{false≢true}
use Rattle.apart.proofs.Laws.{all_seen}
use Rattle.apart.proofs.seen_apart.Goals as goal

pub returns-then-not-new_keys : goal.returns-then-not-new_keys
returns-then-not-new_keys c = λ e. absurd (false≢true e)

pub returns : goal.returns
returns c =
    λ e. all_seen _ _ _ _ _ c.new_keys.ensures c.if-not-new_keys.false
    c.free_lists.ensures e
