-- Each link adds its row to those before, and after the last the rows are all.
use Rattle.std.proofs.Common.{arith, ◌∙◌, sym}
use Rattle.listing.proofs.ListingLaws.{links-start, links-turn, links-end}
use Rattle.listing.proofs.NumberLaws.{link-bytes, still-matched}
use Rattle.listing.proofs.link_classes.Goals as goal

pub loop-i-init : goal.loop-i-init
loop-i-init c = record { linked = links-start _ _ _ _ _ _ _; matched = c.requires.1 }

pub loop-i-preserved : goal.loop-i-preserved
loop-i-preserved c =
    let v = c.loop-i.invariant in
    let a = c.link-answer in record {
      linked = links-turn _ _ _ c.loop-i.i c.loop-i.refusals a.result _ _ _ _ _ _ c.loop-i-test.true (omega arith)
          (link-bytes _ _ _ v.matched _ _ _ _ _ _ _ _ a.result a.ensures) c.err.ensures.value ∙ v.linked;
      matched = still-matched _ _ _ v.matched _ _ _ _ _ _ _ _ a.result a.ensures;
    }

pub returns : goal.returns
returns c = record {
  linked = sym (links-end _ _ _ c.loop-i.i c.loop-i.refusals _ _ _ (omega arith) (omega arith)) ∙ c.loop-i.invariant.linked;
  matched = c.loop-i.invariant.matched;
}
