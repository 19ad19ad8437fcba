-- A turn numbers one more field, and lists its index, for which there is room. Assumes nothing.
use Rattle.field.proofs.NumberLaws.{Turn, number-start, number-turn, number-end}
use Rattle.words.proofs.ListLaws.{push_room}
use Rattle.std.proofs.Common.{ap, length, ◌∙◌, [], ◌∷◌, arith, rules, length-append}
use Rattle.linking.specs.Abi.{fixed_field_index}
use Rattle.linking.specs.Fields.{number_field}
use Rattle.field.proofs.number_fields.Goals as goal
use Rattle.field.proofs.number_fields.Goals.{then-is_static, else-is_static+in-Some, else-is_static+in_default+then-own_given-eq0, else-is_static+in_default+else-own_given-eq0}

pub loop-f-init : goal.loop-f-init
loop-f-init c = record {
  statics = omega arith;
  runtime = omega arith;
  running = omega arith;
  few = omega (arith, ap length c.clear.ensures);
  number = number-start _ _ _ _ _ _ _ c.class_first_field-first.ensures c.field_count.ensures c.first_counters-k.ensures.is c.clear.ensures;
}

-- by the case that field f falls in
turn : (c : goal.After-push)
    → Turn c.args.sheets.set.now c.args.sheets.text.now c.args.sheets.abi.now c.args.sheets.labels.now c.args.own
    c.loop-f.f c.loop-f.k c.if-is_static.index c.if-is_static.k
unfolding number_field fixed_field_index
turn c = elim c.if-is_static.branch [
  | then-is_static w ↦ rw (w.k-is, w.index-is) (search rules)
  | else-is_static+in-Some w ↦ rw (w.k-is, w.index-is) (search rules)
  | else-is_static+in_default+then-own_given-eq0 w ↦ rw (w.k-is, w.index-is) (search rules)
  | else-is_static+in_default+else-own_given-eq0 w ↦ rw (w.k-is, w.index-is) (search rules)
]

pub loop-f-preserved : goal.loop-f-preserved
loop-f-preserved c =
    let t = turn c in
    let l = c.loop-f.indices in
    let pushed = c.push.ensures ∙ push_room 512 l c.if-is_static.index (omega (arith, c.loop-f.invariant.few)) in
    let more = ap length pushed ∙ length-append l (c.if-is_static.index ∷ []) in record {
      statics = omega (arith, t.statics, more);
      runtime = omega (arith, t.runtime, more);
      running = omega (arith, t.running, more);
      few = omega (arith, c.loop-f.invariant.few, more);
      number = number-turn _ _ _ _ _ _ _ _ c.loop-f.k _ c.loop-f-test.true t.is pushed ∙ c.loop-f.invariant.number;
    }

pub returns : goal.returns
returns c = number-end _ _ _ _ _ _ _ _ c.loop-f.k (omega arith) ∙ c.loop-f.invariant.number
