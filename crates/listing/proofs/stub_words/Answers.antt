-- Each turn stores one word more, and after the last all are stored.
use Rattle.std.proofs.Common.{refl, arith}
use Rattle.words.proofs.FoldLaws.{stores-none, stores-turn}
use Rattle.listing.proofs.ListingLaws.{stubs_are}
use Rattle.listing.proofs.stub_words.Goals as goal

pub loop-i-init : goal.loop-i-init
loop-i-init c = stores-none _ _

pub loop-i-preserved : goal.loop-i-preserved
loop-i-preserved c = stores-turn _ _ _ refl c.loop-i.invariant refl

pub returns : goal.returns
returns c = stubs_are c.loop-i.i c.loop-i.invariant (omega arith)
