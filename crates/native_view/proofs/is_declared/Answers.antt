-- One of the class's methods has the number where one is found: it is the place's. Assumes nothing.
use Rattle.words.proofs.ListLaws.{found-some}
use Rattle.linking.specs.Signature.{place_number, by_numbers}
use Rattle.growth.specs.News.{ref_number}
use Rattle.native_view.proofs.is_declared.Goals as goal

pub returns : goal.returns
unfolding by_numbers place_number ref_number
returns c = rw (← c.ref_number-number.ensures) (found-some _ _ c.own_numbered.ensures c.is_some.ensures)
