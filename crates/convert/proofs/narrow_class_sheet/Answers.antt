-- A reading's refusal is answered; of an accepted sheet the words read are handed on, which are the sheet's. Assumes nothing.
use Rattle.std.proofs.Common.{arith}
use Rattle.convert.proofs.Calls.{narrow-early, read-form, narrow-rest}
use Rattle.convert.proofs.narrow_class_sheet.Goals as goal

-- rows 1 to 5
pub returns-in_err-n : goal.returns-in_err-n
returns-in_err-n c = narrow-early _ _ _ (omega arith) _ _ _ c.in_err-n.ensures c.from_residual.ensures.1

pub narrow_words-requires : goal.narrow_words-requires
narrow_words-requires c = read-form _ _ c.args.out.now (omega arith) _ c.in_ok-n.ensures c.part.ensures

pub returns : goal.returns
returns c = narrow-rest _ _ _ (omega arith) _ c.in_ok-n.ensures c.part.ensures c.narrow_words.ensures
