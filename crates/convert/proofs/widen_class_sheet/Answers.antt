-- Rows 1 and 2 refuse first; where they do not, the blocks' words fit the buffer, so that the rest sees all of them. Assumes nothing.
use Rattle.std.proofs.Common.{arith, rules}
use Rattle.class_sheet.specs.ClassSheet.{block_limit}
use Rattle.sheet.specs.Sheet.{sheet_refusal}
use Rattle.convert.specs.Convert.{old_sheet_refusal, blocks_or_row, widen_refusal, widen_sheet}
use Rattle.sheet.proofs.Laws.{words-handed}
use Rattle.convert.proofs.Calls.{widen-rest}
use Rattle.convert.proofs.widen_class_sheet.Goals as goal

pub returns-in_err-block_refusal : goal.returns-in_err-block_refusal
unfolding widen_sheet widen_refusal old_sheet_refusal sheet_refusal blocks_or_row
returns-in_err-block_refusal c = search rules

pub returns : goal.returns
returns c =
    let first = c.in_ok-block_refusal.ensures in
    let p = words-handed block_limit _ _ (omega arith) first c.block_count-n.ensures _ (omega arith) c.unpack.ensures c.part.ensures in
    widen-rest _ _ first p c.widen_words.ensures
