-- Each record is written behind the one before it, and its name begins where the text before it ends, within the text's limit. Assumes
-- nothing.
use Rattle.class_sheet.specs.ClassSheet.{text_limit}
use Rattle.growth.proofs.NewsLaws.{records-none, records-turn, records-done, next-none, parts-turn, parts_within}
use Rattle.growth.proofs.GrowthLaws.{laid_is}
use mathlib.Core.Path.{refl, ap, ◌∙◌}
use lib.ListN.{length}
use Prim.Native.Nat.{◌+◌, ◌≤◌}
use native.Mathlib.Omega.{arith}
use Rattle.growth.proofs.put_records.Goals as goal
use Rattle.growth.proofs.put_records.Goals.{After-ref_signature-own}

pub loop-new-init : goal.loop-new-init
loop-new-init c = record { next = search next-none; place = omega arith; out = search records-none }

-- the member's text ends within the text's limit
fits : (c : After-ref_signature-own)
    → c.loop-new.next + (length c.ref_signature-own.result.name.now + length c.ref_signature-own.result.descriptor.now) ≤ text_limit
fits c =
    let s = c.ref_signature-own.ensures in
    parts_within _ _ _ _ _ _ _ _ c.as_slice-new-items.ensures.is c.loop-new-test.true refl s.name s.descriptor _ c.loop-new.invariant.next c.requires.1

pub overflow_add-next : goal.overflow_add-next
overflow_add-next c = omega (arith, fits (goal.at.overflow_add-next c).After-ref_signature-own)

pub overflow_add-next-in-loop-new : goal.overflow_add-next-in-loop-new
overflow_add-next-in-loop-new c = omega (arith, fits (goal.at.overflow_add-next-in-loop-new c).After-ref_signature-own)

pub overflow_add-next-in-loop-new-2 : goal.overflow_add-next-in-loop-new-2
overflow_add-next-in-loop-new-2 c = omega (arith, fits (goal.at.overflow_add-next-in-loop-new-2 c).After-ref_signature-own)

-- one more record is written
pub loop-new-preserved : goal.loop-new-preserved
loop-new-preserved c =
    let all = c.as_slice-new-items.ensures.is in
    let s = c.ref_signature-own.ensures in
    let turn = c.loop-new.invariant in record {
      next = parts-turn _ _ _ _ _ _ _ _ all c.loop-new-test.true refl s.name s.descriptor _ turn.next;
      place = omega (arith, turn.place);
      out = records-turn _ _ _ _ _ _ _ _ all c.loop-new-test.true refl s.name s.descriptor _ turn.next _ _ _ c.requires.0 turn.out
          (c.put_record.ensures ∙ laid_is _ _ _ (omega (arith, c.requires.0, ap length all)) ∙ rw turn.place);
    }

pub returns : goal.returns
returns c = records-done _ _ _ _ _ _ _ _ _ c.as_slice-new-items.ensures.is c.loop-new-test.false c.loop-new.invariant.out
