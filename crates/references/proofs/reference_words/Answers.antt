-- What the count refuses is refused; else the count is the length of the list of marked words. Assumes nothing.
use Rattle.std.proofs.Common.{arith, rules}
use Rattle.references.proofs.Laws.{few_refused, list-room, read_short, read-list}
use Rattle.references.proofs.reference_words.Goals as goal

pub returns-in_err-count : goal.returns-in_err-count
returns-in_err-count c = few_refused _ _ _ _ (search rules) c.in_err-count.ensures

pub returns-then-list-count : goal.returns-then-list-count
returns-then-list-count c =
    let e = rw c.in_ok-count.was at c.reference_count.ensures in read_short _ _ e (λ j. omega (arith, c.type_inv.bitmap j)) _ (omega arith)

pub put_marked-requires : goal.put_marked-requires
put_marked-requires c =
    let e = rw c.in_ok-count.was at c.reference_count.ensures in list-room _ _ e (λ j. omega (arith, c.type_inv.bitmap j)) _ (omega arith)

pub returns : goal.returns
returns c =
    let e = rw c.in_ok-count.was at c.reference_count.ensures in read-list _ _ e (λ j. omega (arith, c.type_inv.bitmap j)) _ (omega arith) c.put_marked.ensures
