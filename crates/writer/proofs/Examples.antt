-- A set that is written, computed from the definitions, so that `RoundTrip` speaks of some set. `judge` writes this one and more, with each row
-- that refuses. Assumes nothing.
use mathlib.Core.Path.{◌≡◌, refl}
use mathlib.Core.List.{List, [], ◌∷◌}
use Prim.Native.Nat.{ℕ}
use lib.ListN.{take, drop, replicate}
use Rattle.words.specs.Words.{byte_of, inside}
use Rattle.words.specs.Folds.{sum_of, all_of, table}
use Rattle.block.specs.Block.{blocks_for, check_word, packed_word, block_byte, sheet_bytes}
use Rattle.text.specs.Text.{text_byte, text_of_words, zero_at, zero_rest, name_at, printable, part_ok}
use Rattle.class_sheet.specs.ClassSheet.{count_at, methods_at, fields_at, interfaces_at, compilers_at, text_at, content_end, class_word, is_built_kind}
use Rattle.class_rules.specs.ClassRules.{class_limits, class_fits, unlinked, statics_clean, fresh, compiler_ok, own_numbers, class_numbers, class_lists, class_record, class_records}
use Rattle.apart.specs.Apart.{apart_before}
use Rattle.set_rules.specs.SetRules.{class_descriptors, class_refusal}
use Rattle.writer.specs.Writer.{link_rows, storable, write_refusal, write_class_sheet}

-- one class, named A, unlinked, of kind 0
abbrev a : List ℕ
a = 1 ∷ 0 ∷ 0 ∷ 0 ∷ 0 ∷ 1 ∷ 0 ∷ 1 ∷ 0 ∷ 1 ∷ 0 ∷ 0 ∷ 0 ∷ 0 ∷ 0 ∷ 0 ∷ 0 ∷ 0 ∷ 0 ∷ 0 ∷ 0 ∷ 0 ∷ 0 ∷ 0 ∷ 65 ∷ []

pub record Rows : Type 0 where
  -- A, whose words sum to 69: one block, with the check word 70
  pub blocks : (write_class_sheet a (replicate 512 7)).blocks ≡ 1
  pub check : take 4 (drop 508 (write_class_sheet a (replicate 512 7)).memory) ≡ 70 ∷ 0 ∷ 0 ∷ 0 ∷ []

pub rows : Rows
unfolding write_refusal link_rows storable write_class_sheet class_fits class_limits unlinked is_built_kind statics_clean fresh compiler_ok own_numbers
    class_numbers class_lists class_record class_records class_refusal class_descriptors apart_before count_at methods_at fields_at interfaces_at compilers_at
    text_at content_end class_word text_byte text_of_words zero_at zero_rest name_at printable part_ok byte_of inside sum_of all_of table blocks_for
    check_word packed_word block_byte sheet_bytes
rows = record { blocks = refl; check = refl }
