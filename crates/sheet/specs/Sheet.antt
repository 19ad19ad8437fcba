-- Reading a class sheet and an ABI sheet: rows 1 to 5, in that order; a class sheet whose classes come in any order: rows 1 to 3. Assumes
-- nothing.
use Rattle.std.specs.Prelude.{ℕ, ◌*◌, cond, not, List, ◌++◌, drop, length, eqb, Result, Ok, Err}
use Rattle.words.specs.Folds.{all_of}
use Rattle.block.specs.Block.{block_count, sheet_words, check_ok, shape_ok}
use Rattle.class_sheet.specs.ClassSheet.{block_limit, text_of}
use Rattle.abi_sheet.specs.AbiSheet.{abi_block_limit, abi_text_of}
use Rattle.class_rules.specs.ClassRules.{class_form}
use Rattle.abi_rules.specs.AbiRules.{abi_form}
use Rattle.set_rules.specs.SetRules.{class_refusal, abi_refusal}
use Rattle.refusal.specs.Rows.{row}
use Rattle.refusal.specs.declared.Refusal.{Refusal}

-- ---- what a reading answers, and what the lent words then hold

-- "An accepted call gives 0 and its result; a refused one gives its number, zero in every other answer word, and unchanged lent memory."
pub record Outcome : Type 0 where
  pub refusal : ℕ
  pub words : ℕ
  pub memory : List ℕ

-- the number and value of each case of the answer, beside the memory
abbrev pub outcome : Result ℕ Refusal → List ℕ → Outcome
outcome (Ok n) ws = record { refusal = 0; words = n; memory = ws }
outcome (Err refusal) ws = record { refusal = row refusal; words = 0; memory = ws }

-- ---- rows 1 to 5

-- rows 1 and 2 for at most `limit` blocks and a lent slice of `room` words: the number that refuses, or 0
unfoldable pub block_refusal : List ℕ → ℕ → ℕ → ℕ
block_refusal bs room limit =
    cond (not (shape_ok (length bs) room limit)) 1 (cond (not (all_of (block_count bs) (check_ok bs))) 2 0)

-- rows 1 and 2, then `rows` of the sheet's words
unfoldable pub sheet_refusal : ℕ → (List ℕ → ℕ) → List ℕ → ℕ → ℕ
sheet_refusal limit rows bs room =
    cond (eqb (block_refusal bs room limit) 0) (rows (sheet_words bs)) (block_refusal bs room limit)

-- a sheet that `refusal` refuses changes nothing; an accepted one fills 127 words a block and leaves the rest of the slice as it was
unfoldable pub read_sheet : (List ℕ → ℕ → ℕ) → List ℕ → List ℕ → Outcome
read_sheet refusal bs ws =
    cond (eqb (refusal bs (length ws)) 0)
    (record { refusal = 0; words = 127 * block_count bs; memory = sheet_words bs ++ drop (127 * block_count bs) ws })
    (record { refusal = refusal bs (length ws); words = 0; memory = ws })

-- ---- the sheets

-- rows 3 to 5 for the words of a class sheet
unfoldable pub class_rows : List ℕ → ℕ
class_rows ws = cond (not (class_form ws)) 3 (class_refusal ws (text_of ws))

unfoldable pub class_sheet_refusal : List ℕ → ℕ → ℕ
class_sheet_refusal bs room = sheet_refusal block_limit class_rows bs room

unfoldable pub read_class_sheet : List ℕ → List ℕ → Outcome
read_class_sheet bs ws = read_sheet class_sheet_refusal bs ws

-- "Add an entry that reads by rows 1 to 3 alone": row 3 for the words of a class sheet, whatever the order of its classes
unfoldable pub loose_rows : List ℕ → ℕ
loose_rows ws = cond (not (class_form ws)) 3 0

unfoldable pub unordered_sheet_refusal : List ℕ → ℕ → ℕ
unordered_sheet_refusal bs room = sheet_refusal block_limit loose_rows bs room

unfoldable pub read_unordered_sheet : List ℕ → List ℕ → Outcome
read_unordered_sheet bs ws = read_sheet unordered_sheet_refusal bs ws

-- rows 3 to 5 for the words of an ABI sheet
unfoldable pub abi_rows : List ℕ → ℕ
abi_rows abi = cond (not (abi_form abi)) 3 (abi_refusal abi (abi_text_of abi))

unfoldable pub abi_sheet_refusal : List ℕ → ℕ → ℕ
abi_sheet_refusal bs room = sheet_refusal abi_block_limit abi_rows bs room

unfoldable pub read_abi_sheet : List ℕ → List ℕ → Outcome
read_abi_sheet bs ws = read_sheet abi_sheet_refusal bs ws
