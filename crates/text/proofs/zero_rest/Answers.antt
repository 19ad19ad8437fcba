-- The library's test of each byte is the definition's. Assumes nothing.
use Rattle.std.proofs.Common.{rules, ◌∙◌, ◌*◌, refl, length}
use Rattle.std.specs.Prelude.{eqb}
use Rattle.std.proofs.lemmas.Iterator.Search.{all_from_yields_List}
use Rattle.std.proofs.lemmas.Iterator.{YieldsList-from_range}
use Rattle.text.specs.Text.{text_byte, zero_at, zero_rest}
use Rattle.text.proofs.Laws.{all-range}
use Rattle.text.proofs.zero_rest.Goals as goal

pub returns : goal.returns
unfolding zero_rest zero_at text_byte
returns c =
    all_from_yields_List (λ b. eqb (text_byte c.args.ws.now b) 0) _ _ c.all.result c.all.ensures.ran
    (YieldsList-from_range c.args.start (4 * length c.args.ws.now) _ refl refl) (λ x b q k. search rules)
    ∙ all-range _ c.args.start _
