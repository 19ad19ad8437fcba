-- All links, and then the texts by what refused them; the longest is the law's. There are at most 64 classes, so that the places lent are as many.
use Rattle.std.proofs.Common.{◌≡◌, ℕ, ◌≤◌, arith, map, refl, ap, sym, ◌∙◌}
use lib.Seq.{length-take-le}
use Rattle.class_sheet.specs.ClassSheet.{class_count}
use Rattle.listing.specs.Listing.{fresh_area, stub_words, fresh_counts, link_row, links, link_all}
use Rattle.listing.proofs.Longest.{set-lines, set-few, set-fits, part-fits}
use Rattle.listing.proofs.NumberLaws.{filled}
use Rattle.listing.proofs.list_set.Goals as goal

pub slice_bounds-refusals-end : goal.slice_bounds-refusals-end
slice_bounds-refusals-end c = omega (arith, set-fits _ _ c.requires)

pub slice_bounds-refusals-end-2 : goal.slice_bounds-refusals-end-2
slice_bounds-refusals-end-2 c =
    let h : c.class_count-n.result ≤ 64 = omega (arith, set-fits _ _ c.requires) in sym (length-take-le _ _ h)

pub link_classes-requires : goal.link_classes-requires
link_classes-requires c =
    let h : c.class_count-n.result ≤ 64 = omega (arith, set-fits _ _ c.requires) in
    (part-fits _ _ refl h, filled _ _ c.requires c.number_signatures.result c.number_signatures.ensures)

pub put_classes-requires : goal.put_classes-requires
put_classes-requires c =
    let h : c.class_count-n.result ≤ 64 = omega (arith, set-fits _ _ c.requires) in
    (part-fits _ _ c.link_classes.auto.refusals h, c.link_classes.ensures.matched)

pub returns : goal.returns
unfolding fresh_counts
returns c =
    let p = c.link_classes.new in
    let h : c.class_count-n.result ≤ 64 = omega (arith, set-fits _ _ c.requires) in
    let linked = c.link_classes.ensures.linked
    ∙ ap (λ (m : ℕ). link_all c.args.abi.now c.stub_words.result m 1 c.args.set c.fresh_area.result fresh_counts) (length-take-le _ _ h) in
    let k : links (map link_row p.refusals) p.memory.set p.memory.area p.memory.missing
    ≡ link_all c.args.abi.now stub_words (class_count c.args.set) 1 c.args.set fresh_area fresh_counts =
    rw (← c.class_count-n.ensures, ← c.fresh_area.ensures, ← c.stub_words.ensures) linked in
    let e = set-lines c.args.set c.args.abi.now _ k in
    let small = c.put_classes.ensures.small in
    record {
      lines = rw e c.put_classes.ensures.lines;
      longest = rw e (set-few c.args.set c.args.abi.now p.refusals c.requires k small.0 small.1);
    }
