-- The layout of a class sheet's words: the one place that knows it. Every read outside the words is 0. Assumes nothing.
-- "Class sheet: six counts (classes ≤ 64, methods ≤ 512, fields ≤ 512, interface words ≤ 256, compiler words ≤ 2,048, text bytes
-- ≤ 8,192), then those sections; text is four bytes a word, lowest byte first."
use Rattle.std.specs.Prelude.{ℕ, ◌+◌, ◌*◌, ◌-◌, ◌/◌, Bool, ◌||◌, List, [], ◌∷◌, get_or, set, drop, eqb}
use Rattle.words.specs.Words.{words_for}
use Rattle.class_sheet.specs.declared.MemberRecord.{MemberRecord}
use Rattle.text.specs.Text.{name_start_word, name_length_word, descriptor_start_word, descriptor_length_word, text_of_words, name_at}

-- ---- widths, in words

abbrev pub counts_width : ℕ
counts_width = 6

abbrev pub class_width : ℕ
class_width = 18

-- of a method record, and of a field record
abbrev pub member_width : ℕ
member_width = 6

-- ---- what each count may be at most; the most words that the content has, the blocks of 127 words that hold them, and their words

abbrev pub class_limit : ℕ
class_limit = 64

-- of methods, and of fields
abbrev pub member_limit : ℕ
member_limit = 512

abbrev pub method_limit : ℕ
method_limit = member_limit

abbrev pub field_limit : ℕ
field_limit = member_limit

abbrev pub interface_limit : ℕ
interface_limit = 256

abbrev pub compiler_limit : ℕ
compiler_limit = 2048

abbrev pub text_limit : ℕ
text_limit = 8192

abbrev pub content_limit : ℕ
content_limit =
    counts_width + class_width * class_limit + member_width * method_limit + member_width * field_limit
    + interface_limit + compiler_limit + words_for text_limit

abbrev pub block_limit : ℕ
block_limit = (content_limit + 126) / 127

abbrev pub sheet_words : ℕ
sheet_words = 127 * block_limit

-- ---- words that are stored to, or that proofs name, by their numbers: counts, words of a class record, and words of a member record

abbrev pub class_count_number : ℕ
class_count_number = 0

abbrev pub method_count_number : ℕ
method_count_number = 1

abbrev pub field_count_number : ℕ
field_count_number = 2

abbrev pub interface_count_number : ℕ
interface_count_number = 3

abbrev pub compiler_count_number : ℕ
compiler_count_number = 4

abbrev pub text_length_number : ℕ
text_length_number = 5

-- a class record, and a method or field record, begin with the name's words (`name_start_word`, `name_length_word` of crate `text`)
abbrev pub parent_word : ℕ
parent_word = 2

abbrev pub flags_word : ℕ
flags_word = 3

abbrev pub kind_word : ℕ
kind_word = 4

abbrev pub first_method_word : ℕ
first_method_word = 5

abbrev pub method_count_word : ℕ
method_count_word = 6

abbrev pub first_field_word : ℕ
first_field_word = 7

abbrev pub field_count_word : ℕ
field_count_word = 8

abbrev pub first_interface_word : ℕ
first_interface_word = 9

abbrev pub interface_count_word : ℕ
interface_count_word = 10

abbrev pub link_state_word : ℕ
link_state_word = 11

abbrev pub instance_words_word : ℕ
instance_words_word = 12

abbrev pub compiler_table_word : ℕ
compiler_table_word = 13

abbrev pub compiler_slots_word : ℕ
compiler_slots_word = 14

abbrev pub table_place_word : ℕ
table_place_word = 15

abbrev pub slot_count_word : ℕ
slot_count_word = 16

abbrev pub static_words_word : ℕ
static_words_word = 17

-- the word of a field record that holds its word index
abbrev pub index_word : ℕ
index_word = 5

-- the word of a method record that holds its target
abbrev pub target_word : ℕ
target_word = 5

-- ---- counts

unfoldable pub count_at : List ℕ → ℕ → ℕ
count_at ws k = get_or ws k 0

abbrev pub class_count : List ℕ → ℕ
class_count ws = count_at ws class_count_number

abbrev pub method_count : List ℕ → ℕ
method_count ws = count_at ws method_count_number

abbrev pub field_count : List ℕ → ℕ
field_count ws = count_at ws field_count_number

abbrev pub interface_count : List ℕ → ℕ
interface_count ws = count_at ws interface_count_number

abbrev pub compiler_count : List ℕ → ℕ
compiler_count ws = count_at ws compiler_count_number

abbrev pub text_length : List ℕ → ℕ
text_length ws = count_at ws text_length_number

-- ---- where each section begins, and where the content ends

unfoldable pub methods_at : List ℕ → ℕ
methods_at ws = counts_width + class_width * class_count ws

unfoldable pub fields_at : List ℕ → ℕ
fields_at ws = methods_at ws + member_width * method_count ws

unfoldable pub interfaces_at : List ℕ → ℕ
interfaces_at ws = fields_at ws + member_width * field_count ws

unfoldable pub compilers_at : List ℕ → ℕ
compilers_at ws = interfaces_at ws + interface_count ws

unfoldable pub text_at : List ℕ → ℕ
text_at ws = compilers_at ws + compiler_count ws

unfoldable pub content_end : List ℕ → ℕ
content_end ws = text_at ws + words_for (text_length ws)

-- ---- words of records; classes are numbered from 1, all else from 0. (0 is no class; its words here are those of class 1. Only row 6
-- names them, of an array class without a parent, which it refuses whatever they are.)

unfoldable pub class_word : List ℕ → ℕ → ℕ → ℕ
class_word ws c k = get_or ws (counts_width + class_width * (c - 1) + k) 0

unfoldable pub method_word : List ℕ → ℕ → ℕ → ℕ
method_word ws m k = get_or ws (methods_at ws + member_width * m + k) 0

unfoldable pub field_word : List ℕ → ℕ → ℕ → ℕ
field_word ws f k = get_or ws (fields_at ws + member_width * f + k) 0

unfoldable pub interface_word : List ℕ → ℕ → ℕ
interface_word ws i = get_or ws (interfaces_at ws + i) 0

unfoldable pub compiler_word : List ℕ → ℕ → ℕ
compiler_word ws i = get_or ws (compilers_at ws + i) 0

-- the words from the text section on, and the text as bytes
abbrev pub text_words : List ℕ → List ℕ
text_words ws = drop (text_at ws) ws

abbrev pub text_of : List ℕ → List ℕ
text_of ws = text_of_words (text_words ws) (text_length ws)

-- ---- "Class record, 17 words: name start, name length, parent number (0 none), access flags, kind (0 built, 1 generated, 2 array),
-- first method, method count, first field, field count, first interface word, interface count, link state, instance words, compiler
-- table (0 none, else first word counted from 1), compiler slots, table place (0 unlinked), slot count."; "The class record gets an
-- eighteenth word for static words, then the only form read"

abbrev pub class_name_start : List ℕ → ℕ → ℕ
class_name_start ws c = class_word ws c name_start_word

abbrev pub class_name_length : List ℕ → ℕ → ℕ
class_name_length ws c = class_word ws c name_length_word

abbrev pub class_parent : List ℕ → ℕ → ℕ
class_parent ws c = class_word ws c parent_word

abbrev pub class_flags : List ℕ → ℕ → ℕ
class_flags ws c = class_word ws c flags_word

abbrev pub class_kind : List ℕ → ℕ → ℕ
class_kind ws c = class_word ws c kind_word

abbrev pub class_first_method : List ℕ → ℕ → ℕ
class_first_method ws c = class_word ws c first_method_word

abbrev pub class_method_count : List ℕ → ℕ → ℕ
class_method_count ws c = class_word ws c method_count_word

abbrev pub class_first_field : List ℕ → ℕ → ℕ
class_first_field ws c = class_word ws c first_field_word

abbrev pub class_field_count : List ℕ → ℕ → ℕ
class_field_count ws c = class_word ws c field_count_word

abbrev pub class_first_interface : List ℕ → ℕ → ℕ
class_first_interface ws c = class_word ws c first_interface_word

abbrev pub class_interface_count : List ℕ → ℕ → ℕ
class_interface_count ws c = class_word ws c interface_count_word

abbrev pub class_link_state : List ℕ → ℕ → ℕ
class_link_state ws c = class_word ws c link_state_word

abbrev pub class_instance_words : List ℕ → ℕ → ℕ
class_instance_words ws c = class_word ws c instance_words_word

abbrev pub class_compiler_table : List ℕ → ℕ → ℕ
class_compiler_table ws c = class_word ws c compiler_table_word

abbrev pub class_compiler_slots : List ℕ → ℕ → ℕ
class_compiler_slots ws c = class_word ws c compiler_slots_word

abbrev pub class_table_place : List ℕ → ℕ → ℕ
class_table_place ws c = class_word ws c table_place_word

abbrev pub class_slot_count : List ℕ → ℕ → ℕ
class_slot_count ws c = class_word ws c slot_count_word

abbrev pub class_static_words : List ℕ → ℕ → ℕ
class_static_words ws c = class_word ws c static_words_word

-- ---- kinds: "kind (0 built, 1 generated, 2 array)", and "class kind 3, admitted by row 4: a built class, not an interface, linked by JVMS 5.4.5,
-- in all else as kind 0"

-- a built class is of kind 0, or of kind 3, which is "in all else as kind 0"
unfoldable pub is_built_kind : ℕ → Bool
is_built_kind kind = eqb kind 0 || eqb kind 3

abbrev pub is_generated : List ℕ → ℕ → Bool
is_generated ws c = eqb (class_kind ws c) 1

abbrev pub is_array : List ℕ → ℕ → Bool
is_array ws c = eqb (class_kind ws c) 2

abbrev pub is_packaged : List ℕ → ℕ → Bool
is_packaged ws c = eqb (class_kind ws c) 3

-- ---- "Method and field records, 6 words: name start and length, descriptor start and length, flags, then target or word index."

abbrev pub method_name_start : List ℕ → ℕ → ℕ
method_name_start ws m = method_word ws m name_start_word

abbrev pub method_name_length : List ℕ → ℕ → ℕ
method_name_length ws m = method_word ws m name_length_word

abbrev pub method_descriptor_start : List ℕ → ℕ → ℕ
method_descriptor_start ws m = method_word ws m descriptor_start_word

abbrev pub method_descriptor_length : List ℕ → ℕ → ℕ
method_descriptor_length ws m = method_word ws m descriptor_length_word

abbrev pub method_flags : List ℕ → ℕ → ℕ
method_flags ws m = method_word ws m 4

abbrev pub method_target : List ℕ → ℕ → ℕ
method_target ws m = method_word ws m target_word

abbrev pub field_name_start : List ℕ → ℕ → ℕ
field_name_start ws f = field_word ws f name_start_word

abbrev pub field_name_length : List ℕ → ℕ → ℕ
field_name_length ws f = field_word ws f name_length_word

abbrev pub field_descriptor_start : List ℕ → ℕ → ℕ
field_descriptor_start ws f = field_word ws f descriptor_start_word

abbrev pub field_descriptor_length : List ℕ → ℕ → ℕ
field_descriptor_length ws f = field_word ws f descriptor_length_word

abbrev pub field_flags : List ℕ → ℕ → ℕ
field_flags ws f = field_word ws f 4

abbrev pub field_index : List ℕ → ℕ → ℕ
field_index ws f = field_word ws f index_word

-- ---- parts of the text

abbrev pub class_name : List ℕ → List ℕ → ℕ → List ℕ
class_name ws text c = name_at text (class_name_start ws c) (class_name_length ws c)

abbrev pub method_name : List ℕ → List ℕ → ℕ → List ℕ
method_name ws text m = name_at text (method_name_start ws m) (method_name_length ws m)

abbrev pub method_descriptor : List ℕ → List ℕ → ℕ → List ℕ
method_descriptor ws text m = name_at text (method_descriptor_start ws m) (method_descriptor_length ws m)

abbrev pub field_name : List ℕ → List ℕ → ℕ → List ℕ
field_name ws text f = name_at text (field_name_start ws f) (field_name_length ws f)

abbrev pub field_descriptor : List ℕ → List ℕ → ℕ → List ℕ
field_descriptor ws text f = name_at text (field_descriptor_start ws f) (field_descriptor_length ws f)

-- ---- stores, by the word's name

abbrev pub put_count : List ℕ → ℕ → ℕ → List ℕ
put_count ws k v = set ws k v

abbrev pub put_method_count : List ℕ → ℕ → List ℕ
put_method_count ws v = put_count ws method_count_number v

abbrev pub put_field_count : List ℕ → ℕ → List ℕ
put_field_count ws v = put_count ws field_count_number v

abbrev pub put_text_length : List ℕ → ℕ → List ℕ
put_text_length ws v = put_count ws text_length_number v

abbrev pub put_class_word : List ℕ → ℕ → ℕ → ℕ → List ℕ
put_class_word ws c k v = set ws (counts_width + class_width * (c - 1) + k) v

abbrev pub put_class_kind : List ℕ → ℕ → ℕ → List ℕ
put_class_kind ws c v = put_class_word ws c kind_word v

abbrev pub put_class_first_method : List ℕ → ℕ → ℕ → List ℕ
put_class_first_method ws c v = put_class_word ws c first_method_word v

abbrev pub put_class_method_count : List ℕ → ℕ → ℕ → List ℕ
put_class_method_count ws c v = put_class_word ws c method_count_word v

abbrev pub put_class_first_field : List ℕ → ℕ → ℕ → List ℕ
put_class_first_field ws c v = put_class_word ws c first_field_word v

abbrev pub put_class_field_count : List ℕ → ℕ → ℕ → List ℕ
put_class_field_count ws c v = put_class_word ws c field_count_word v

abbrev pub put_class_instance_words : List ℕ → ℕ → ℕ → List ℕ
put_class_instance_words ws c v = put_class_word ws c instance_words_word v

abbrev pub put_class_table_place : List ℕ → ℕ → ℕ → List ℕ
put_class_table_place ws c v = put_class_word ws c table_place_word v

abbrev pub put_class_slot_count : List ℕ → ℕ → ℕ → List ℕ
put_class_slot_count ws c v = put_class_word ws c slot_count_word v

abbrev pub put_class_static_words : List ℕ → ℕ → ℕ → List ℕ
put_class_static_words ws c v = put_class_word ws c static_words_word v

-- to the word index of field record f, in words whose field section begins at `at`
abbrev pub put_index_at : ℕ → ℕ → ℕ → List ℕ → List ℕ
put_index_at at f v ws = set ws (at + member_width * f + index_word) v

-- a method or field record's words, in their order
abbrev pub member_words : MemberRecord → List ℕ
member_words r = r.name_start ∷ r.name_length ∷ r.descriptor_start ∷ r.descriptor_length ∷ r.flags ∷ r.last ∷ []

-- stored into the first words of a part, as many of them as it has
abbrev pub put_member : List ℕ → MemberRecord → List ℕ
put_member ws r =
    set (set (set (set (set (set ws 0 r.name_start) 1 r.name_length) 2 r.descriptor_start) 3 r.descriptor_length) 4 r.flags) 5 r.last
