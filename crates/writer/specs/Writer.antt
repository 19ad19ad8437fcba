-- Writing a class sheet back: from an unlinked set the blocks of a class sheet. Assumes nothing.
use Rattle.std.specs.Prelude.{ℕ, ◌+◌, ◌*◌, Bool, cond, not, ◌&&◌, List, ◌++◌, take, drop, length, eqb, ltb, Result, Ok, Err}
use Rattle.refusal.specs.Rows.{row}
use Rattle.refusal.specs.declared.Refusal.{Refusal}
use Rattle.block.specs.Block.{blocks_for, sheet_bytes}
use Rattle.text.specs.Text.{zero_rest}
use Rattle.class_sheet.specs.ClassSheet.{text_length, text_at, content_end, text_of}
use Rattle.class_rules.specs.ClassRules.{class_fits, all_fresh}
use Rattle.set_rules.specs.SetRules.{class_refusal}

-- ---- what a writing answers, and what the lent bytes then hold

-- "it makes the blocks of a class sheet and answers their number"
pub record Outcome : Type 0 where
  pub refusal : ℕ
  pub blocks : ℕ
  pub memory : List ℕ

-- the number and value of each case of the answer, beside the memory
abbrev pub outcome : Result ℕ Refusal → List ℕ → Outcome
outcome (Ok n) bs = record { refusal = 0; blocks = n; memory = bs }
outcome (Err refusal) bs = record { refusal = row refusal; blocks = 0; memory = bs }

-- ---- what is written

-- "the same content words": the six counts and the sections that they ask for; what follows them in the slice is neither judged nor written
abbrev pub content_of : List ℕ → List ℕ
content_of ws = take (content_end ws) ws

-- "only the blocks it needs": the least number of them that holds the content
abbrev pub blocks_of : List ℕ → ℕ
blocks_of ws = blocks_for (content_end ws)

-- ---- "Turned away"

-- "3 to 5 as for a link", of the class sheet alone: the number that refuses, or 0
unfoldable pub link_rows : List ℕ → ℕ
link_rows ws = cond (not (class_fits ws)) 3 (class_refusal ws (text_of ws))

-- 17 does not refuse: "if any class has a nonzero table place or slot count or a nonzero byte follows the text in its last word"; of static
-- words, "row 3, in reading and ticket 3's step, and 17 also take a nonzero value in an unlinked built or array class."
unfoldable pub storable : List ℕ → Bool
storable ws = all_fresh ws && zero_rest (content_of ws) (4 * text_at ws + text_length ws)

-- 17 after 3 to 5, and "18, last, if the lent bytes are too few": the number that refuses where `room` bytes are lent, or 0
unfoldable pub write_refusal : List ℕ → ℕ → ℕ
write_refusal ws room =
    cond (eqb (link_rows ws) 0) (cond (not (storable ws)) 17 (cond (ltb room (512 * blocks_of ws)) 18 0)) (link_rows ws)

-- ---- the writing: a set that is refused changes no byte; else its blocks stand in front, and the bytes after them stay

unfoldable pub write_class_sheet : List ℕ → List ℕ → Outcome
write_class_sheet ws bs =
    cond (eqb (write_refusal ws (length bs)) 0)
    (record { refusal = 0; blocks = blocks_of ws; memory = sheet_bytes (content_of ws) (blocks_of ws) ++ drop (512 * blocks_of ws) bs })
    (record { refusal = write_refusal ws (length bs); blocks = 0; memory = bs })
