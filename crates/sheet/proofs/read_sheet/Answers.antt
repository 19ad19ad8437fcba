-- Rows 1 and 2 refuse first; where they do not, the blocks' words fit the array, so the other rows see all of them, and the lent words hold
-- them at last. Assumes nothing.
use Rattle.std.proofs.Common.{◌≡◌, Err, arith}
use Rattle.block.specs.Block.{sheet_words}
use Rattle.sheet.proofs.Laws.{all-blocks, words-unpacked, words-handed, sheet-early, sheet-rest, refused, accepted}
use Rattle.sheet.proofs.read_sheet.Given.{Over}
use Rattle.sheet.proofs.read_sheet.Goals as goal
use Rattle.sheet.proofs.read_sheet.Goals.{After-rows}

-- the rows are handed the sheet's words
handed : (g : Over) (c : After-rows g) → c.part.result.now ≡ sheet_words c.args.bytes.now
handed g c =
    words-handed c.args.limit _ _ (omega arith) c.in_ok-block_refusal.ensures c.block_count-n.ensures _ (omega arith) c.unpack.ensures c.part.ensures

pub returns-in_err-block_refusal : goal.returns-in_err-block_refusal
returns-in_err-block_refusal g c = λ rule judges.
    refused _ _ _ _ _ c.from_residual.ensures.1 (sheet-early _ _ _ _ _ c.in_err-block_refusal.ensures)

pub returns-in_err-rows : goal.returns-in_err-rows
returns-in_err-rows g c = λ rule judges.
    let p = handed g (goal.at.returns-in_err-rows g c).After-rows in
    let r = judges c.part.result (Err c.in_err-rows.field-0.0) c.in_err-rows.ensures in
    refused _ _ _ _ _ c.from_residual-in_err-rows.ensures.1 (sheet-rest _ _ _ _ c.in_ok-block_refusal.ensures p r)

pub overflow_mul-result : goal.overflow_mul-result
overflow_mul-result g c =
    let b = all-blocks c.args.limit _ _ (omega arith) c.in_ok-block_refusal.ensures c.block_count-n.ensures in omega arith

pub returns : goal.returns
returns g c = λ rule judges.
    let first = c.in_ok-block_refusal.ensures in
    let b = all-blocks c.args.limit _ _ (omega arith) first c.block_count-n.ensures in
    let u = words-unpacked c.args.limit _ _ (omega arith) first c.block_count-n.ensures _ (omega arith) c.unpack-2.ensures in
    accepted _ _ _ (sheet-rest _ _ _ _ first (handed g (goal.at.returns g c).After-rows) (judges c.part.result _ c.in_ok-rows.ensures)) b.0 u
