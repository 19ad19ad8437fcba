-- A small class file, computed on the definitions: what the reader gives, so that `SheetForm` speaks of some file. `file_judge` runs this one
-- and more, with each number that refuses. Assumes nothing.
use mathlib.Core.Path.{◌≡◌, refl}
use mathlib.Core.List.{List, [], ◌∷◌, ◌++◌}
use Prim.Native.Nat.{ℕ}
use Rattle.words.specs.Lists.{list_from, fold, some}
use Rattle.words.specs.Words.{le_word}
use Rattle.text.specs.Text.{name_at, printable, part_ok}
use Rattle.descriptor.specs.Bytes.{text, is_base_byte, is_name_byte}
use Rattle.descriptor.specs.Machine.{field_next, is_field_descriptor, method_next, is_method_descriptor}
use Rattle.descriptor.specs.Words.{byte_width, begun_words, begun_from, is_method}
use Rattle.class_rules.specs.ClassRules.{method_flags_ok}
use Rattle.linking.specs.Set.{new_records, new_text, packed, overlaid}
use Rattle.class_form.specs.Form.{u2, u4, taken, is_tag, is_wide, places, body_size, tag_ok, after_constant, after_constants, pool_count, after_pool, constant_from, constant_at, tagged_at, utf8_at, class_at, after_name, after_class, after_parent, after_interfaces, after_attribute, after_each, after_counted, after_attributes, after_member, after_members, after_head, after_body, after_file, version_ok, form_refusal}
use Rattle.class_form.specs.Parts.{member_at}
use Rattle.class_members.specs.Members.{head_place, fields_place, methods_place, places_from, field_places, method_places, utf8_bytes, class_bytes, file_flags, file_name, parent_index, file_parent, members_at, file_fields, file_methods, file_text, string_ok, field_ok, method_ok, field_typed, method_typed, every, names_ok, descriptors_ok, sheet_holds, lists_hold, file_refusal, read_refusal, fields_start, methods_start, read_class_file}

-- CAFEBABE, version 48.0, and the pool's count
abbrev front : ℕ → List ℕ
front count = 202 ∷ 254 ∷ 186 ∷ 190 ∷ 0 ∷ 0 ∷ 0 ∷ 48 ∷ 0 ∷ count ∷ []

-- a Class of this name, and a Utf8 of this text, of fewer than 256 bytes
abbrev class_constant : ℕ → List ℕ
class_constant i = 7 ∷ 0 ∷ i ∷ []

abbrev utf8 : ℕ → List ℕ → List ℕ
utf8 n s = 1 ∷ 0 ∷ n ∷ s

-- numbers of two bytes below 256
abbrev u2s : List ℕ → List ℕ
u2s [] = []
u2s (n ∷ ns) = 0 ∷ n ∷ u2s ns

-- A under B, private field x I, public static method f (J)V: 73 bytes
abbrev file_ab : List ℕ
file_ab =
    front 9
    ++ (class_constant 2 ++ (utf8 1 (text "A") ++ (class_constant 4 ++ (utf8 1 (text "B") ++ (utf8 1 (text "x") ++ (utf8 1 (text "I") ++ (utf8 1 (text "f")
    ++ (utf8 4 (text "(J)V")
    ++ u2s (33 ∷ 1 ∷ 3 ∷ 0 ∷ 1 ∷ 2 ∷ 5 ∷ 6 ∷ 0 ∷ 1 ∷ 9 ∷ 7 ∷ 8 ∷ 0 ∷ 0 ∷ [])))))))))

abbrev nines : List ℕ
nines = 9 ∷ 9 ∷ 9 ∷ 9 ∷ 9 ∷ 9 ∷ 9 ∷ []

pub record Examples : Type 0 where
  pub ab : read_class_file file_ab (7 ∷ []) nines nines (9 ∷ 9 ∷ 9 ∷ 9 ∷ [])
      ≡ record {
        refusal = 0;
        name = 1;
        parent = 1;
        flags = 33;
        field_count = 1;
        method_count = 1;
        text_length = 9;
        fields = 2 ∷ 1 ∷ 3 ∷ 1 ∷ 2 ∷ 0 ∷ 9 ∷ [];
        methods = 4 ∷ 1 ∷ 5 ∷ 4 ∷ 9 ∷ 7 ∷ 9 ∷ [];
        text = packed (text "ABxIf(J)V") ++ (9 ∷ []);
      }

pub examples : Examples
unfolding list_from fold some le_word name_at printable part_ok is_base_byte is_name_byte field_next is_field_descriptor method_next is_method_descriptor
    byte_width begun_words begun_from is_method method_flags_ok new_records new_text packed overlaid u2 u4 taken is_tag is_wide places body_size tag_ok
    after_constant after_constants pool_count after_pool constant_from constant_at tagged_at utf8_at class_at after_name after_class after_parent
    after_interfaces after_attribute after_each after_counted after_attributes after_member after_members after_head after_body after_file version_ok
    form_refusal head_place fields_place methods_place member_at places_from field_places method_places utf8_bytes class_bytes file_flags file_name
    parent_index file_parent members_at file_fields file_methods file_text string_ok field_ok method_ok field_typed method_typed every names_ok descriptors_ok
    sheet_holds lists_hold file_refusal read_refusal fields_start methods_start read_class_file
examples = record { ab = refl }
