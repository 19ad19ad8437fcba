-- The closure gives the view of each of the parent's slots. Assumes nothing.
use Rattle.std.proofs.Common.{◌≡◌, min, rules, arith, ◌∙◌}
use Rattle.linking.specs.Signature.{by_numbers}
use Rattle.native_view.proofs.ViewLaws.{view_filled}
use Rattle.native_view.proofs.view_entries.Goals as goal

pub returns : goal.returns
returns c =
    let s = c.args.sheets in
    let p = c.args.parent.now in
    let room : min p.len 1024 ≡ p.len = omega (arith, c.args.parent.now.fits) in record {
      is = rw room at c.fill.ensures.is _ (λ i r post. search rules)
          ∙ view_filled (by_numbers s.numbers.now) s.set.now s.abi.now c.args.abis.now p.words p.marks p.len p.len (omega arith);
      len = c.fill.ensures.len ∙ room;
    }
