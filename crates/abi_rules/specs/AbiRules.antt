-- Rows 3 and 4 of the table of refusals, for the words of an ABI sheet. Sums are of naturals: they do not wrap. Assumes nothing.
use Rattle.std.specs.Prelude.{ℕ, ◌+◌, ◌*◌, Bool, ◌&&◌, List, length, leb}
use Rattle.words.specs.Folds.{all_of}
use Rattle.words.specs.Words.{inside}
use Rattle.block.specs.Block.{least_fit}
use Rattle.text.specs.Text.{zero_rest, part_ok}
use Rattle.abi_sheet.specs.AbiSheet.{abi_class_limit, abi_slot_limit, abi_field_limit, abi_text_limit, abi_class_count, abi_slot_count, abi_field_count, abi_text_length, abi_text_at, abi_content_end, abi_class_name_start, abi_class_name_length, abi_class_table_size_plus_one, abi_class_instance_words_plus_one, abi_class_first_slot, abi_class_slot_count, abi_class_first_field, abi_class_field_count, abi_slot_name_start, abi_slot_name_length, abi_slot_descriptor_start, abi_slot_descriptor_length, abi_slot_index, abi_field_name_start, abi_field_name_length, abi_field_descriptor_start, abi_field_descriptor_length, abi_field_index}

-- ---- row 3

-- "four counts (classes ≤ 64, slots ≤ 512, fields ≤ 256, text bytes ≤ 8,192)"
unfoldable pub abi_limits : List ℕ → Bool
abi_limits abi =
    leb (abi_class_count abi) abi_class_limit
    && leb (abi_slot_count abi) abi_slot_limit
    && leb (abi_field_count abi) abi_field_limit
    && leb (abi_text_length abi) abi_text_limit

-- at a link or an ask: "of rows 1 to 3 only the count limits and the content's fit in the lent slice apply, as 3"
unfoldable pub abi_fits : List ℕ → Bool
abi_fits abi = abi_limits abi && leb (abi_content_end abi) (length abi)

-- in a reading, of the words of whole blocks: "a count above its limit, a block count not the least that fits, a nonzero word or byte
-- after the content" does not hold
unfoldable pub abi_form : List ℕ → Bool
abi_form abi =
    abi_limits abi && least_fit (abi_content_end abi) (length abi) && zero_rest abi (4 * abi_text_at abi + abi_text_length abi)

-- ---- row 4

-- the record of class a: its name, "table size plus 1 (0 none), instance words plus 1 (0 none)" with "linked slot count, table size and compiler
-- slots ≤ 1,024" and "ABI instance words ≤ 4,096", and "every list and text part lies inside its section"
unfoldable pub abi_class_record : List ℕ → List ℕ → ℕ → Bool
abi_class_record abi text a =
    part_ok text (abi_class_name_start abi a) (abi_class_name_length abi a)
    && leb (abi_class_table_size_plus_one abi a) 1025
    && leb (abi_class_instance_words_plus_one abi a) 4097
    && inside (abi_class_first_slot abi a) (abi_class_slot_count abi a) (abi_slot_count abi)
    && inside (abi_class_first_field abi a) (abi_class_field_count abi a) (abi_field_count abi)

-- "slot index ≤ 1,023"
unfoldable pub abi_slot_record : List ℕ → List ℕ → ℕ → Bool
abi_slot_record abi text s =
    part_ok text (abi_slot_name_start abi s) (abi_slot_name_length abi s)
    && part_ok text (abi_slot_descriptor_start abi s) (abi_slot_descriptor_length abi s)
    && leb (abi_slot_index abi s) 1023

-- "ABI field index ≤ 4,095"
unfoldable pub abi_field_record : List ℕ → List ℕ → ℕ → Bool
abi_field_record abi text f =
    part_ok text (abi_field_name_start abi f) (abi_field_name_length abi f)
    && part_ok text (abi_field_descriptor_start abi f) (abi_field_descriptor_length abi f)
    && leb (abi_field_index abi f) 4095

-- row 4 does not refuse
unfoldable pub abi_records : List ℕ → List ℕ → Bool
abi_records abi text =
    all_of (abi_class_count abi) (abi_class_record abi text)
    && all_of (abi_slot_count abi) (abi_slot_record abi text)
    && all_of (abi_field_count abi) (abi_field_record abi text)
