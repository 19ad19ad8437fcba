-- Each text goes before those that are left, and after the last none are.
use Rattle.std.proofs.Common.{arith}
use Rattle.lines.proofs.OutLaws.{then, puts-none}
use Rattle.listing.proofs.ListingLaws.{texts-start, texts-turn, texts-end}
use Rattle.listing.proofs.Longest.{each-small}
use Rattle.listing.proofs.put_classes.Goals as goal

pub loop-i-init : goal.loop-i-init
loop-i-init c = λ q e. rw (← texts-start _ _ _ _) e

pub loop-i-preserved : goal.loop-i-preserved
loop-i-preserved c = λ q e.
    c.loop-i.invariant q
    (rw (texts-turn _ _ _ _ c.loop-i.i c.loop-i-test.true) (then c.put_class.ensures e))

pub returns : goal.returns
returns c = record {
  lines = c.loop-i.invariant _ (rw (texts-end _ _ _ c.args.refusals.now c.loop-i.i (omega arith)) (puts-none _));
  small = (each-small _ (λ i. omega (arith, c.type_inv.set i)), each-small _ (λ i. omega (arith, c.type_inv.area i)));
}
