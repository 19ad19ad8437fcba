-- The facts that the tests of rows 3 to 5 stand for, in plain words. proofs/Valid.antt proves that a set is accepted if and only if it
-- has them (`valid_exactly`); the theorems on links cite them. Assumes nothing.
use Rattle.std.specs.Prelude.{◌≡◌, List, ℕ, ◌+◌, ◌-◌, ◌/◌, ◌%◌, ◌≤◌, ◌<◌, length, get_or}
use Rattle.text.specs.Text.{name_at}
use Rattle.descriptor.specs.Grammar.{FieldDerivation}
use Rattle.descriptor.specs.Words.{ValidDescriptor}
use Rattle.class_sheet.specs.ClassSheet.{class_limit, method_limit, field_limit, interface_limit, compiler_limit, text_limit, class_count, method_count, field_count, interface_count, compiler_count, text_length, content_end, text_of, interface_word, class_name_start, class_name_length, class_parent, class_flags, class_kind, class_first_method, class_method_count, class_first_field, class_field_count, class_first_interface, class_interface_count, class_link_state, class_instance_words, class_compiler_table, class_compiler_slots, class_table_place, class_slot_count, class_name, method_name_start, method_name_length, method_descriptor_start, method_descriptor_length, method_flags, field_name_start, field_name_length, field_descriptor_start, field_descriptor_length, field_flags}
use Rattle.abi_sheet.specs.AbiSheet.{abi_class_limit, abi_slot_limit, abi_field_limit, abi_text_limit, abi_class_count, abi_slot_count, abi_field_count, abi_text_length, abi_content_end, abi_text_of, abi_class_name_start, abi_class_name_length, abi_class_table_size_plus_one, abi_class_instance_words_plus_one, abi_class_first_slot, abi_class_slot_count, abi_class_first_field, abi_class_field_count, abi_slot_name_start, abi_slot_name_length, abi_slot_descriptor_start, abi_slot_descriptor_length, abi_slot_index, abi_field_name_start, abi_field_name_length, abi_field_descriptor_start, abi_field_descriptor_length, abi_field_index}

-- a part of the text that is a name or a descriptor
pub record Part (text : List ℕ) (start len : ℕ) : Type 0 where
  pub some : 1 ≤ len
  pub short : len ≤ 255
  pub inside : start + len ≤ length text
  pub printable : (i : ℕ) → i < len → (33 ≤ get_or text (start + i) 0) × (get_or text (start + i) 0 ≤ 126)

-- a record with a name, a descriptor and a number: a method or a field of a class sheet, a slot or a field of an ABI sheet. `Derived` is
-- the rule for its descriptor, `Within` the rule for its number.
pub record ValidMember (text : List ℕ) (Derived : List ℕ → Type 0) (Within : ℕ → Type 0) (nameStart nameLength start len n : ℕ) : Type 0 where
  pub name : Part text nameStart nameLength
  pub descriptor : Part text start len
  pub number : Within n
  pub derivation : Derived (name_at text start len)

-- c is the number of a class
abbrev pub IsClass : List ℕ → ℕ → Type 0
IsClass ws c = (1 ≤ c) × (c ≤ class_count ws)

pub record ValidClass (ws : List ℕ) (c : ℕ) : Type 0 where
  pub name : Part (text_of ws) (class_name_start ws c) (class_name_length ws c)
  pub parent_below : class_parent ws c < c
  pub flags : class_flags ws c ≤ 65535
  pub kind : class_kind ws c ≤ 3
  pub link_state : class_link_state ws c ≤ 65535
  pub words_of_instance : class_instance_words ws c ≤ 65535
  pub compiler_slots : class_compiler_slots ws c ≤ 1024
  pub slots : (class_table_place ws c ≡ 0 → ⊥) → class_slot_count ws c ≤ 1024
  pub methods : class_first_method ws c + class_method_count ws c ≤ method_count ws
  pub fields : class_first_field ws c + class_field_count ws c ≤ field_count ws
  pub interfaces : class_first_interface ws c + class_interface_count ws c ≤ interface_count ws
  pub no_compiler : class_compiler_table ws c ≡ 0 → class_compiler_slots ws c ≡ 0
  pub compiler : (class_compiler_table ws c ≡ 0 → ⊥) → class_compiler_table ws c - 1 + class_compiler_slots ws c ≤ compiler_count ws

-- method flags within 0x1DFF: below 2^13, and not 0x0200
abbrev pub MethodFlags : ℕ → Type 0
MethodFlags f = (f < 8192) × (f / 512 % 2 ≡ 0)

abbrev pub ValidMethod : List ℕ → ℕ → Type 0
ValidMethod ws m =
    ValidMember (text_of ws) (ValidDescriptor (method_flags ws m)) MethodFlags (method_name_start ws m) (method_name_length ws m)
    (method_descriptor_start ws m) (method_descriptor_length ws m) (method_flags ws m)

abbrev pub ValidField : List ℕ → ℕ → Type 0
ValidField ws f =
    ValidMember (text_of ws) FieldDerivation (λ n. n ≤ 65535) (field_name_start ws f) (field_name_length ws f) (field_descriptor_start ws f)
    (field_descriptor_length ws f) (field_flags ws f)

-- class words that rows 3 to 5 accept
pub record Valid (ws : List ℕ) : Type 0 where
  pub number_of_classes : class_count ws ≤ class_limit
  pub number_of_methods : method_count ws ≤ method_limit
  pub number_of_fields : field_count ws ≤ field_limit
  pub number_of_interfaces : interface_count ws ≤ interface_limit
  pub number_of_compilers : compiler_count ws ≤ compiler_limit
  pub length_of_text : text_length ws ≤ text_limit
  pub fits : content_end ws ≤ length ws
  pub class : (c : ℕ) → IsClass ws c → ValidClass ws c
  pub method : (m : ℕ) → m < method_count ws → ValidMethod ws m
  pub field : (f : ℕ) → f < field_count ws → ValidField ws f
  pub interface : (i : ℕ) → i < interface_count ws → IsClass ws (interface_word ws i)
  -- no two classes share a name, a method or a field
  pub names : (c d : ℕ) → IsClass ws c → IsClass ws d → class_name ws (text_of ws) c ≡ class_name ws (text_of ws) d → c ≡ d
  pub methods : (c d m : ℕ) → IsClass ws c → IsClass ws d
      → class_first_method ws c ≤ m → m < class_first_method ws c + class_method_count ws c
      → class_first_method ws d ≤ m → m < class_first_method ws d + class_method_count ws d → c ≡ d
  pub fields : (c d f : ℕ) → IsClass ws c → IsClass ws d
      → class_first_field ws c ≤ f → f < class_first_field ws c + class_field_count ws c
      → class_first_field ws d ≤ f → f < class_first_field ws d + class_field_count ws d → c ≡ d

pub record ValidAbiClass (abi : List ℕ) (a : ℕ) : Type 0 where
  pub name : Part (abi_text_of abi) (abi_class_name_start abi a) (abi_class_name_length abi a)
  pub size_plus_one : abi_class_table_size_plus_one abi a ≤ 1025
  pub words_plus_one : abi_class_instance_words_plus_one abi a ≤ 4097
  pub slots : abi_class_first_slot abi a + abi_class_slot_count abi a ≤ abi_slot_count abi
  pub fields : abi_class_first_field abi a + abi_class_field_count abi a ≤ abi_field_count abi

-- a slot counts as an instance method
abbrev pub ValidAbiSlot : List ℕ → ℕ → Type 0
ValidAbiSlot abi s =
    ValidMember (abi_text_of abi) (ValidDescriptor 0) (λ n. n ≤ 1023) (abi_slot_name_start abi s) (abi_slot_name_length abi s)
    (abi_slot_descriptor_start abi s) (abi_slot_descriptor_length abi s) (abi_slot_index abi s)

abbrev pub ValidAbiField : List ℕ → ℕ → Type 0
ValidAbiField abi f =
    ValidMember (abi_text_of abi) FieldDerivation (λ n. n ≤ 4095) (abi_field_name_start abi f) (abi_field_name_length abi f)
    (abi_field_descriptor_start abi f) (abi_field_descriptor_length abi f) (abi_field_index abi f)

-- ABI words that rows 3 to 5 accept
pub record ValidAbi (abi : List ℕ) : Type 0 where
  pub number_of_classes : abi_class_count abi ≤ abi_class_limit
  pub slot_count : abi_slot_count abi ≤ abi_slot_limit
  pub number_of_fields : abi_field_count abi ≤ abi_field_limit
  pub length_of_text : abi_text_length abi ≤ abi_text_limit
  pub fits : abi_content_end abi ≤ length abi
  pub class : (a : ℕ) → a < abi_class_count abi → ValidAbiClass abi a
  pub slot : (s : ℕ) → s < abi_slot_count abi → ValidAbiSlot abi s
  pub field : (f : ℕ) → f < abi_field_count abi → ValidAbiField abi f
