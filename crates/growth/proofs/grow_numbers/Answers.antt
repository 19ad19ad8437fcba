-- Where there is room the numbers are made beside the list, and then copied to their place, and else nothing changes. Assumes nothing.
use Prim.Native.Nat.{◌+◌, ◌≤◌}
use lib.ListN.{length}
use Rattle.std.proofs.iter.Serving.{serving}
use Rattle.std.proofs.Common.{arith, rules, get_or, ◌∙◌, sym}
use Rattle.growth.specs.Growth.{numbers_grown}
use Rattle.growth.proofs.NumberLaws.{code-fits, put-fit, put-none, grown-is}
use Rattle.growth.proofs.grow_numbers.Goals as goal

pub returns-then-not-numbers_fit : goal.returns-then-not-numbers_fit
returns-then-not-numbers_fit c = put-none _ _ _ c.numbers_fit.ensures c.if-not-numbers_fit.true

pub store_each-requires : goal.store_each-requires
store_each-requires c =
    let r = code-fits _ _ _ c.numbers_fit.ensures c.if-not-numbers_fit.false in
    let h : c.args.list.first + c.args.list.own ≤ length c.args.numbers.now = omega (arith, r.own, r.members, r.long) in
    grind serving

pub returns : goal.returns
returns c =
    let a = c.args in
    let r = code-fits _ _ _ c.numbers_fit.ensures c.if-not-numbers_fit.false in
    grown-is _ _ _ (omega arith) _ (omega arith) (omega arith) (omega arith)
    (c.store_each.ensures (λ j. get_or (numbers_grown a.numbers.now a.list a.news.now) j 0) (λ i r l post. search rules)) c.copy.ensures
    ∙ sym (put-fit _ _ _ r)
