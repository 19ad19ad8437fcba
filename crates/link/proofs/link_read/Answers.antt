-- Rows 6, 7 and 26 refuse, or the rest is `link_planned`'s. Assumes nothing.
use Rattle.std.proofs.Common.{◌≡◌, arith}
use Rattle.link.proofs.NumberLaws.{long_refused}
use Rattle.link.proofs.PlannedLaws.{link_6, link_7, link_26, link-accepted}
use Rattle.link.proofs.link_read.Goals as goal

pub returns-then-bad_class : goal.returns-then-bad_class
returns-then-bad_class c =
    long_refused _ _ _ _ _ _ _ 6 (λ (z : 6 ≡ 0). omega arith) (link_6 _ _ _ _ _ _ _ _ _ c.requires.0 c.bad_class.ensures c.if-bad_class.true)

pub returns-then-bad_area : goal.returns-then-bad_area
returns-then-bad_area c =
    long_refused _ _ _ _ _ _ _ 7 (λ (z : 7 ≡ 0). omega arith)
    (link_7 _ _ _ _ _ _ _ _ _ c.requires.0 c.bad_class.ensures c.if-bad_class.false c.bad_area.ensures c.if-bad_area.true)

pub returns-then-bad_packages : goal.returns-then-bad_packages
returns-then-bad_packages c =
    long_refused _ _ _ _ _ _ _ 26 (λ (z : 26 ≡ 0). omega arith)
    (link_26 _ _ _ _ _ _ _ _ _ c.requires.0 c.bad_class.ensures c.if-bad_class.false c.bad_area.ensures c.if-bad_area.false
    c.bad_packages.ensures c.if-bad_packages.true)

pub link_planned-requires : goal.link_planned-requires
link_planned-requires c = (
  link-accepted _ _ _ _ _ _ c.requires.0 c.bad_class.ensures c.if-bad_class.false c.bad_area.ensures c.if-bad_area.false
      c.bad_packages.ensures c.if-bad_packages.false,
  c.requires.1,
)
