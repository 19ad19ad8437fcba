-- Rows 3 and 4 of the table of refusals, for the words of a class sheet. Sums are of naturals: they do not wrap. Assumes nothing.
use Rattle.std.specs.Prelude.{ℕ, ◌+◌, ◌*◌, ◌-◌, ◌/◌, ◌%◌, Bool, cond, not, ◌&&◌, ◌||◌, List, length, eqb, leb, ltb}
use Rattle.words.specs.Folds.{all_of}
use Rattle.words.specs.Words.{inside}
use Rattle.block.specs.Block.{least_fit}
use Rattle.text.specs.Text.{zero_rest, part_ok}
use Rattle.class_sheet.specs.ClassSheet.{class_limit, method_limit, field_limit, interface_limit, compiler_limit, text_limit, class_count, method_count, field_count, interface_count, compiler_count, text_length, text_at, content_end, interface_word, class_name_start, class_name_length, class_parent, class_flags, class_kind, class_first_method, class_method_count, class_first_field, class_field_count, class_first_interface, class_interface_count, class_link_state, class_instance_words, class_compiler_table, class_compiler_slots, class_table_place, class_slot_count, class_static_words, is_built_kind, is_array, method_name_start, method_name_length, method_descriptor_start, method_descriptor_length, method_flags, field_name_start, field_name_length, field_descriptor_start, field_descriptor_length, field_flags}
use Rattle.apart.specs.Apart.{apart_before}

-- ---- row 3

-- "six counts (classes ≤ 64, methods ≤ 512, fields ≤ 512, interface words ≤ 256, compiler words ≤ 2,048, text bytes ≤ 8,192)"
unfoldable pub class_limits : List ℕ → Bool
class_limits ws =
    leb (class_count ws) class_limit
    && leb (method_count ws) method_limit
    && leb (field_count ws) field_limit
    && leb (interface_count ws) interface_limit
    && leb (compiler_count ws) compiler_limit
    && leb (text_length ws) text_limit

-- at a link or an ask: "of rows 1 to 3 only the count limits and the content's fit in the lent slice apply, as 3"
unfoldable pub class_fits : List ℕ → Bool
class_fits ws = class_limits ws && leb (content_end ws) (length ws)

-- "a nonzero table place or slot count" does not hold, of class c
unfoldable pub unlinked : List ℕ → ℕ → Bool
unlinked ws c = eqb (class_table_place ws c) 0 && eqb (class_slot_count ws c) 0

-- "row 3, in reading and ticket 3's step, and 17 also take a nonzero value in an unlinked built or array class": this does not hold, of class c's static
-- words
unfoldable pub statics_clean : List ℕ → ℕ → Bool
statics_clean ws c = eqb (class_static_words ws c) 0 || not (is_built_kind (class_kind ws c) || is_array ws c)

-- no link has written to class c's record, as far as its words tell; the same of each class
unfoldable pub fresh : List ℕ → ℕ → Bool
fresh ws c = unlinked ws c && statics_clean ws c

abbrev pub all_fresh : List ℕ → Bool
all_fresh ws = all_of (class_count ws) (λ i. fresh ws (i + 1))

-- in a reading, of the words of whole blocks: "a count above its limit, a block count not the least that fits, a nonzero word or byte after the content, or a
-- nonzero table place or slot count" does not hold, nor have static words a value that is turned away
unfoldable pub class_form : List ℕ → Bool
class_form ws =
    class_limits ws
    && least_fit (content_end ws) (length ws)
    && zero_rest ws (4 * text_at ws + text_length ws)
    && all_fresh ws

-- ---- row 4

-- "compiler table (0 none, else first word counted from 1)"; "With no compiler table its slots are 0."
unfoldable pub compiler_ok : ℕ → ℕ → ℕ → Bool
compiler_ok first slots total = cond (eqb first 0) (eqb slots 0) (inside (first - 1) slots total)

-- "class and field flags, link state and instance words ≤ 65,535", "kind ≤ 2" and "class kind 3, admitted by row 4", "linked slot count, table size and
-- compiler slots ≤ 1,024"
unfoldable pub own_numbers : List ℕ → ℕ → Bool
own_numbers ws c =
    leb (class_flags ws c) 65535
    && leb (class_kind ws c) 3
    && leb (class_link_state ws c) 65535
    && leb (class_instance_words ws c) 65535
    && leb (class_compiler_slots ws c) 1024
    && (eqb (class_table_place ws c) 0 || leb (class_slot_count ws c) 1024)

-- and "a parent's number is below the child's"
unfoldable pub class_numbers : List ℕ → ℕ → Bool
class_numbers ws c = own_numbers ws c && ltb (class_parent ws c) c

-- "every list and text part lies inside its section": the four lists of class c
unfoldable pub class_lists : List ℕ → ℕ → Bool
class_lists ws c =
    inside (class_first_method ws c) (class_method_count ws c) (method_count ws)
    && inside (class_first_field ws c) (class_field_count ws c) (field_count ws)
    && inside (class_first_interface ws c) (class_interface_count ws c) (interface_count ws)
    && compiler_ok (class_compiler_table ws c) (class_compiler_slots ws c) (compiler_count ws)

-- the record of class c
unfoldable pub class_record : List ℕ → List ℕ → ℕ → Bool
class_record ws text c = part_ok text (class_name_start ws c) (class_name_length ws c) && class_numbers ws c && class_lists ws c

-- "method flags within 0x1DFF": no bit but those of the mask, which are 0 to 8 and 10 to 12; so below 2^13, and not bit 9
unfoldable pub method_flags_ok : ℕ → Bool
method_flags_ok f = ltb f 8192 && eqb (f / 512 % 2) 0

unfoldable pub method_record : List ℕ → List ℕ → ℕ → Bool
method_record ws text m =
    part_ok text (method_name_start ws m) (method_name_length ws m)
    && part_ok text (method_descriptor_start ws m) (method_descriptor_length ws m)
    && method_flags_ok (method_flags ws m)

unfoldable pub field_record : List ℕ → List ℕ → ℕ → Bool
field_record ws text f =
    part_ok text (field_name_start ws f) (field_name_length ws f)
    && part_ok text (field_descriptor_start ws f) (field_descriptor_length ws f)
    && leb (field_flags ws f) 65535

-- "each interface word names a class"
unfoldable pub interface_names : List ℕ → ℕ → Bool
interface_names ws i = leb 1 (interface_word ws i) && leb (interface_word ws i) (class_count ws)

-- row 4 does not refuse
unfoldable pub class_records : List ℕ → List ℕ → Bool
class_records ws text =
    all_of (class_count ws) (λ i. class_record ws text (i + 1))
    && all_of (method_count ws) (method_record ws text)
    && all_of (field_count ws) (field_record ws text)
    && all_of (interface_count ws) (interface_names ws)
    && all_of (class_count ws) (λ i. apart_before ws text (i + 1))
