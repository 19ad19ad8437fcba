-- The layout of an ABI sheet's words: the one place that knows it. Every read outside the words is 0; all records are numbered from 0.
-- Assumes nothing.
-- "ABI sheet: four counts (classes ≤ 64, slots ≤ 512, fields ≤ 256, text bytes ≤ 8,192)."
use Rattle.std.specs.Prelude.{ℕ, ◌+◌, ◌*◌, ◌/◌, List, get_or, drop}
use Rattle.words.specs.Words.{words_for}
use Rattle.text.specs.Text.{text_of_words, name_at}

-- ---- widths, in words

abbrev pub abi_counts_width : ℕ
abi_counts_width = 4

abbrev pub abi_class_width : ℕ
abi_class_width = 8

-- of a slot record, and of a field record
abbrev pub abi_member_width : ℕ
abi_member_width = 5

-- ---- what each count may be at most; the most words that the content has, the blocks of 127 words that hold them, and their words

abbrev pub abi_class_limit : ℕ
abi_class_limit = 64

abbrev pub abi_slot_limit : ℕ
abi_slot_limit = 512

abbrev pub abi_field_limit : ℕ
abi_field_limit = 256

abbrev pub abi_text_limit : ℕ
abi_text_limit = 8192

abbrev pub abi_content_limit : ℕ
abi_content_limit =
    abi_counts_width + abi_class_width * abi_class_limit + abi_member_width * abi_slot_limit + abi_member_width * abi_field_limit + words_for abi_text_limit

abbrev pub abi_block_limit : ℕ
abi_block_limit = (abi_content_limit + 126) / 127

abbrev pub abi_sheet_words : ℕ
abi_sheet_words = 127 * abi_block_limit

-- ---- counts, by their numbers

abbrev pub abi_class_count_number : ℕ
abi_class_count_number = 0

abbrev pub abi_slot_count_number : ℕ
abi_slot_count_number = 1

abbrev pub abi_field_count_number : ℕ
abi_field_count_number = 2

unfoldable pub abi_count_at : List ℕ → ℕ → ℕ
abi_count_at abi k = get_or abi k 0

abbrev pub abi_class_count : List ℕ → ℕ
abi_class_count abi = abi_count_at abi abi_class_count_number

abbrev pub abi_slot_count : List ℕ → ℕ
abi_slot_count abi = abi_count_at abi abi_slot_count_number

abbrev pub abi_field_count : List ℕ → ℕ
abi_field_count abi = abi_count_at abi abi_field_count_number

abbrev pub abi_text_length : List ℕ → ℕ
abi_text_length abi = abi_count_at abi 3

-- ---- where each section begins, and where the content ends

unfoldable pub abi_slots_at : List ℕ → ℕ
abi_slots_at abi = abi_counts_width + abi_class_width * abi_class_count abi

unfoldable pub abi_fields_at : List ℕ → ℕ
abi_fields_at abi = abi_slots_at abi + abi_member_width * abi_slot_count abi

unfoldable pub abi_text_at : List ℕ → ℕ
abi_text_at abi = abi_fields_at abi + abi_member_width * abi_field_count abi

unfoldable pub abi_content_end : List ℕ → ℕ
abi_content_end abi = abi_text_at abi + words_for (abi_text_length abi)

-- ---- words of records

unfoldable pub abi_class_word : List ℕ → ℕ → ℕ → ℕ
abi_class_word abi a k = get_or abi (abi_counts_width + abi_class_width * a + k) 0

unfoldable pub abi_slot_word : List ℕ → ℕ → ℕ → ℕ
abi_slot_word abi s k = get_or abi (abi_slots_at abi + abi_member_width * s + k) 0

unfoldable pub abi_field_word : List ℕ → ℕ → ℕ → ℕ
abi_field_word abi f k = get_or abi (abi_fields_at abi + abi_member_width * f + k) 0

-- the words from the text section on, and the text as bytes
abbrev pub abi_text_words : List ℕ → List ℕ
abi_text_words abi = drop (abi_text_at abi) abi

abbrev pub abi_text_of : List ℕ → List ℕ
abi_text_of abi = text_of_words (abi_text_words abi) (abi_text_length abi)

-- ---- "Class, 8 words: name start and length, table size plus 1 (0 none), instance words plus 1 (0 none), first slot and count, first
-- field and count."

abbrev pub abi_class_name_start : List ℕ → ℕ → ℕ
abi_class_name_start abi a = abi_class_word abi a 0

abbrev pub abi_class_name_length : List ℕ → ℕ → ℕ
abi_class_name_length abi a = abi_class_word abi a 1

abbrev pub abi_class_table_size_plus_one : List ℕ → ℕ → ℕ
abi_class_table_size_plus_one abi a = abi_class_word abi a 2

abbrev pub abi_class_instance_words_plus_one : List ℕ → ℕ → ℕ
abi_class_instance_words_plus_one abi a = abi_class_word abi a 3

abbrev pub abi_class_first_slot : List ℕ → ℕ → ℕ
abi_class_first_slot abi a = abi_class_word abi a 4

abbrev pub abi_class_slot_count : List ℕ → ℕ → ℕ
abi_class_slot_count abi a = abi_class_word abi a 5

abbrev pub abi_class_first_field : List ℕ → ℕ → ℕ
abi_class_first_field abi a = abi_class_word abi a 6

abbrev pub abi_class_field_count : List ℕ → ℕ → ℕ
abi_class_field_count abi a = abi_class_word abi a 7

-- ---- "Slot or field, 5 words: name, descriptor, index."

abbrev pub abi_slot_name_start : List ℕ → ℕ → ℕ
abi_slot_name_start abi s = abi_slot_word abi s 0

abbrev pub abi_slot_name_length : List ℕ → ℕ → ℕ
abi_slot_name_length abi s = abi_slot_word abi s 1

abbrev pub abi_slot_descriptor_start : List ℕ → ℕ → ℕ
abi_slot_descriptor_start abi s = abi_slot_word abi s 2

abbrev pub abi_slot_descriptor_length : List ℕ → ℕ → ℕ
abi_slot_descriptor_length abi s = abi_slot_word abi s 3

abbrev pub abi_slot_index : List ℕ → ℕ → ℕ
abi_slot_index abi s = abi_slot_word abi s 4

abbrev pub abi_field_name_start : List ℕ → ℕ → ℕ
abi_field_name_start abi f = abi_field_word abi f 0

abbrev pub abi_field_name_length : List ℕ → ℕ → ℕ
abi_field_name_length abi f = abi_field_word abi f 1

abbrev pub abi_field_descriptor_start : List ℕ → ℕ → ℕ
abi_field_descriptor_start abi f = abi_field_word abi f 2

abbrev pub abi_field_descriptor_length : List ℕ → ℕ → ℕ
abi_field_descriptor_length abi f = abi_field_word abi f 3

abbrev pub abi_field_index : List ℕ → ℕ → ℕ
abi_field_index abi f = abi_field_word abi f 4

-- ---- parts of the text

abbrev pub abi_class_name : List ℕ → List ℕ → ℕ → List ℕ
abi_class_name abi text a = name_at text (abi_class_name_start abi a) (abi_class_name_length abi a)

abbrev pub abi_slot_name : List ℕ → List ℕ → ℕ → List ℕ
abi_slot_name abi text s = name_at text (abi_slot_name_start abi s) (abi_slot_name_length abi s)

abbrev pub abi_slot_descriptor : List ℕ → List ℕ → ℕ → List ℕ
abi_slot_descriptor abi text s = name_at text (abi_slot_descriptor_start abi s) (abi_slot_descriptor_length abi s)

abbrev pub abi_field_name : List ℕ → List ℕ → ℕ → List ℕ
abi_field_name abi text f = name_at text (abi_field_name_start abi f) (abi_field_name_length abi f)

abbrev pub abi_field_descriptor : List ℕ → List ℕ → ℕ → List ℕ
abi_field_descriptor abi text f = name_at text (abi_field_descriptor_start abi f) (abi_field_descriptor_length abi f)
