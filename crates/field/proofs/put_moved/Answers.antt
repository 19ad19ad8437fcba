-- A turn lists one more index, for which there is room. Assumes nothing.
use Rattle.std.proofs.Common.{◌≡◌, ℕ, List, sym, ap, length, ◌∙◌, ◌+◌, ◌-◌, [], ◌∷◌, arith, length-append}
use Rattle.field.proofs.MovedLaws.{moved-start, moved-turn, moved-end}
use Rattle.words.proofs.ListLaws.{push_room}
use Rattle.class_sheet.specs.ClassSheet.{class_first_field}
use Rattle.field.specs.Numbers.{Fits, numbering_of}
use Rattle.field.specs.declared.Numbered.{Numbered}
use Rattle.field.proofs.put_moved.Goals as goal

pub loop-f-init : goal.loop-f-init
loop-f-init c = record {
  words = ap (λ (f : Numbered). f.words) c.clear.ensures;
  few = omega (arith, ap (λ (f : Numbered). length f.indices) c.clear.ensures);
  front = moved-start _ _ _ c.class_first_field-first.ensures c.field_count.ensures (ap (λ (f : Numbered). f.indices) c.clear.ensures);
}

pub loop-f-preserved : goal.loop-f-preserved
loop-f-preserved c =
    let l = c.loop-f.fields.indices in
    let pushed = c.push.ensures ∙ push_room 512 l c.moved_index.result (omega (arith, c.loop-f.invariant.few)) in
    let m = c.class_first_field-first.result in
    let at : class_first_field c.args.ws.now c.args.c + (c.loop-f.f - m) ≡ c.loop-f.f =
    omega (arith, c.class_first_field-first.ensures, c.loop-f.invariant.few) in
    let moves = c.requires (c.loop-f.f - m) (omega (arith, c.field_count.ensures, c.loop-f.invariant.few)) in
    let fits : Fits c.args.ws.now c.args.base c.loop-f.f = rw at at moves in
    record {
      words = c.loop-f.invariant.words;
      few = omega (arith, c.loop-f.invariant.few, ap length pushed, length-append l (c.moved_index.result ∷ []));
      front = moved-turn _ _ _ _ _ c.loop-f-test.true (c.moved_index.ensures fits) pushed ∙ c.loop-f.invariant.front;
    }

pub returns : goal.returns
returns c =
    let v = c.loop-f.invariant in
    let e = sym (moved-end _ _ _ _ c.loop-f.fields.indices (omega arith)) ∙ v.front in
    ap (λ (is : List ℕ). numbering_of is c.loop-f.fields.words) e ∙ ap (numbering_of _) v.words
