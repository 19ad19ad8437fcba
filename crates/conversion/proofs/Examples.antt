-- An old sheet that is made a new one, computed on the definitions, so that `Converted` speaks of some sheet. `convert_judge` converts this one
-- and more, both ways, with each row that refuses. Assumes nothing.
use Rattle.std.proofs.Common.{◌≡◌, refl, [], ◌∷◌}
use Rattle.words.specs.Rows.{joined, cut}
use Rattle.words.specs.Words.{byte_of, le_word}
use Rattle.words.specs.Folds.{sum_of, all_of, table}
use Rattle.block.specs.Block.{least_fit, blocks_for, word_of, block, block_count, check_ok, content, sheet_words, shape_ok, check_word, packed_word, block_byte, sheet_bytes}
use Rattle.text.specs.Text.{zero_at, zero_rest}
use Rattle.class_sheet.specs.ClassSheet.{is_built_kind}
use Rattle.class_sheet.specs.Sections.{laid_out, sections_by, end_by}
use Rattle.class_rules.specs.ClassRules.{unlinked}
use Rattle.set_rules.specs.SetRules.{class_refusal}
use Rattle.sheet.specs.Sheet.{block_refusal, sheet_refusal}
use Rattle.linking.proofs.Assemble.{Class, field, static, generated, class_sheet}
use Rattle.linking.proofs.Opened.{opened}
use Rattle.convert.specs.Convert.{widen, narrow, widened, narrowed, old_fits, old_form, old_rows, forward_statics, forward, room_refusal, old_sheet_refusal, widen_refusal}

-- a generated class with static fields I and J and an instance field J
abbrev made : Class
made = generated "G" 0 [] (static "a" "I" 0 ∷ static "b" "J" 0 ∷ field "c" "J" 0 ∷ []) 0

pub record Rows : Type 0 where
  pub accepted : widen_refusal (sheet_bytes (narrowed (class_sheet (made ∷ []))) 1) 512 ≡ 0

pub rows : Rows
unfolding widen_refusal room_refusal old_sheet_refusal sheet_refusal block_refusal shape_ok check_ok sheet_words content block block_count word_of le_word
    sheet_bytes block_byte packed_word check_word byte_of sum_of table all_of opened joined cut laid_out sections_by end_by widen narrow widened narrowed
    forward_statics forward old_fits old_form old_rows blocks_for least_fit zero_at zero_rest unlinked is_built_kind class_refusal
rows = record { accepted = refl }
