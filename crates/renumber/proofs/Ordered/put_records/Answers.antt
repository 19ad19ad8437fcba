-- Each turn writes a class's record over its words. Assumes nothing.
use Rattle.std.proofs.Common.{refl, ap, length, get_or, arith}
use Rattle.words.specs.Rows.{joined}
use Rattle.renumber.proofs.Writing.{class-at, records-turn, records-end}
use Rattle.renumber.proofs.Ordered.put_records.Goals as goal

pub loop-i-init : goal.loop-i-init
unfolding joined
loop-i-init c = refl

pub put_record-requires : goal.put_record-requires
put_record-requires c =
    let o = c.args.self.complete in
    let e = c.as_slice-c-items.ensures.is in
    let h = ap length e in
    (class-at _ _ o c.loop-i.i (omega arith) (ap (λ l. get_or l c.loop-i.i 0) e), omega (arith, o.few))

pub loop-i-preserved : goal.loop-i-preserved
loop-i-preserved c =
    let e = c.as_slice-c-items.ensures.is in
    let h = ap length e in
    records-turn _ _ c.args.self.complete c.loop-i.i _ (omega arith) (ap (λ l. get_or l c.loop-i.i 0) e) (omega arith) c.put_record.ensures refl
    c.loop-i.invariant

pub returns : goal.returns
returns c =
    let h = ap length c.as_slice-c-items.ensures.is in
    records-end _ _ c.args.self.complete c.loop-i.i _ (omega arith) (omega arith) c.loop-i.invariant
