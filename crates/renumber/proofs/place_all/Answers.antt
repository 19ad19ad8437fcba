-- The class that a search finds goes next, and where it finds none the order ends. Assumes nothing.
use Rattle.std.proofs.Common.{◌<◌, sym, ap, ◌∙◌, length, arith}
use Rattle.class_sheet.specs.ClassSheet.{class_limit}
use Rattle.renumber.proofs.Placing.{place_start, place_end, place-turn, place-stuck, pushed-count}
use Rattle.renumber.proofs.place_all.Goals as goal

pub loop-init : goal.loop-init
loop-init c = record { left = rw c.requires.none (place_start _); count = ap length c.requires.none }

pub loop-preserved : goal.loop-preserved
loop-preserved c =
    let i = c.loop.invariant in
    let room : length c.loop.list < class_limit = omega (arith, c.requires.fits) in
    record {
      left = place-turn _ c.loop.list _ c.as_slice.ensures.is c.first_ready.ensures _ c.in-Some.is (omega arith) room c.push.ensures ∙ i.left;
      count = omega (arith, pushed-count c.loop.list _ room c.push.ensures);
    }

pub returns-in_default : goal.returns-in_default
returns-in_default c =
    let i = c.loop.invariant in
    record { is = sym (place-stuck _ _ _ c.as_slice.ensures.is c.first_ready.ensures c.in_default.is) ∙ i.left; count = omega arith }

pub returns : goal.returns
returns c =
    let i = c.loop.invariant in record { is = sym (place_end _ c.loop.counter _ (omega arith)) ∙ i.left; count = omega arith }
