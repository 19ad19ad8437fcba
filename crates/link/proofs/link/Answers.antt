-- Row 3 refuses a short list, and bounds the texts, so both are unpacked whole; the rest is `link_fitting`'s. Assumes nothing.
use Rattle.std.proofs.Common.{◌≡◌, arith}
use mathlib.Core.Path.{ap, sym, ◌∙◌}
use mathlib.Core.Bool.{not}
use borrow.Author.Tests.{not-false}
use Rattle.set_rules.proofs.Laws.{set-text, set-abi-text}
use Rattle.link.proofs.NumberLaws.{long_refused, link_short, link-is-long}
use Rattle.link.proofs.PlannedLaws.{link_3}
use Rattle.link.proofs.link.Goals as goal

pub returns-then-is_short : goal.returns-then-is_short
returns-then-is_short c = link_short _ _ _ _ _ _ _ c.is_short.ensures c.if-is_short.true

pub returns-then-not-set_fits : goal.returns-then-not-set_fits
returns-then-not-set_fits c =
    link-is-long _ _ _ _ _ _ _ c.is_short.ensures c.if-is_short.false
    (long_refused _ _ _ _ _ _ _ 3 (λ (z : 3 ≡ 0). omega arith) (link_3 _ _ _ _ _ _ _ c.set_fits.ensures (ap not c.if-not-set_fits.true)))

pub link_fitting-requires : goal.link_fitting-requires
link_fitting-requires c =
    let f = c.set_fits.ensures in
    let h = (ap not c.if-not-set_fits.false) in (
      record {
        fits = sym f ∙ not-false _ h;
        text_is = c.text_bytes-text.ensures (set-text _ _ f h);
        labels_are = c.text_bytes-labels.ensures (set-abi-text _ _ f h);
      },
      sym c.is_short.ensures ∙ c.if-is_short.false,
    )

pub returns : goal.returns
returns c = link-is-long _ _ _ _ _ _ _ c.is_short.ensures c.if-is_short.false c.link_fitting.ensures
