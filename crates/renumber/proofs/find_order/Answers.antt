-- 3 and 4 by their own test; 19 where fewer classes are placed than there are; then 15. Assumes nothing.
use Rattle.std.proofs.Common.{arith, refl, rules}
use Rattle.renumber.proofs.Refusing.{refuse_form, form-fits, refuse_19, refuse_15, refuse_0, is-complete}
use Rattle.renumber.proofs.find_order.Goals as goal

pub returns-in_err-check_form-clause-is : goal.returns-in_err-check_form-clause-is
returns-in_err-check_form-clause-is c = refuse_form _ _ _ (search rules) c.in_err-check_form.ensures

pub place_all-requires-clause-fits : goal.place_all-requires-clause-fits
place_all-requires-clause-fits c = (form-fits _ c.in_ok-check_form.ensures).0

pub returns-then-k-n-clause-is : goal.returns-then-k-n-clause-is
returns-then-k-n-clause-is c =
    let p = c.place_all.ensures in refuse_19 _ c.in_ok-check_form.ensures _ _ _ p.is p.count c.len-k.ensures.is (omega arith)

pub returns-then-room-n-clause-is : goal.returns-then-room-n-clause-is
returns-then-room-n-clause-is c =
    let p = c.place_all.ensures in refuse_15 _ c.in_ok-check_form.ensures _ _ _ p.is p.count c.len-k.ensures.is (omega arith) (omega arith)

pub invariant_of-result : goal.invariant_of-result
invariant_of-result c =
    let p = c.place_all.ensures in
    record { complete = is-complete _ c.in_ok-check_form.ensures c.args.room _ _ p.is p.count c.len-k.ensures.is (omega arith) }

pub returns : goal.returns
returns c =
    let p = c.place_all.ensures in
    record { is = refuse_0 _ c.in_ok-check_form.ensures _ _ _ p.is p.count c.len-k.ensures.is (omega arith) (omega arith); set = refl }
