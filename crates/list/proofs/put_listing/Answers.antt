-- The listing is shorter than the bytes lent for it, which nothing was put into before.
use Rattle.std.proofs.Common.{arith, ap, ◌∙◌}
use Rattle.lines.specs.Bytes.{put}
use Rattle.lines.proofs.Whole.{shorter}
use Rattle.listing.specs.Listing.{listing}
use Rattle.list.proofs.put_listing.Goals as goal

pub returns : goal.returns
returns c =
    let text = listing c.args.abi.now c.args.classes.now in
    shorter _ _ (c.list.ensures.lines.puts ∙ ap (λ o. put o text) c.new-out.ensures.lent) (omega (arith, c.list.ensures.longest))
