-- "Fields, methods and text fill three lent word lists in the sheet's form": laid out as the set of one class, what a reading leaves passes rows
-- 3 to 5, and the set's members are the file's. Assumes nothing.
use Rattle.std.specs.Prelude.{ℕ, ◌<◌, ◌≡◌, List, [], ◌∷◌, length, get_or, set, take, replicate}
use Rattle.words.specs.Words.{words_for, AreBytes}
use Rattle.words.specs.Rows.{cut}
use Rattle.text.specs.Text.{name_at, name_length_word}
use Rattle.class_sheet.specs.ClassSheet.{class_width, member_width, flags_word, method_count_word, field_count_word, method_count, field_count, text_of, class_flags, class_method_count, class_field_count, class_name, method_name, method_descriptor, method_flags, method_target, field_name, field_descriptor, field_flags, field_index}
use Rattle.class_sheet.specs.Sections.{Sections, laid_out}
use Rattle.set_rules.specs.SetRules.{set_refusal}
use Rattle.class_form.specs.Parts.{member_at}
use Rattle.class_members.specs.Members.{FileOutcome, utf8_bytes, file_flags, file_name, file_parent, field_places, method_places, read_class_file}

-- ---- the set of one class

-- the class's record: its name from byte 0 on, its flags, all the methods and all the fields; every other word is 0, so it is built, without a parent
abbrev pub class_row : FileOutcome → List ℕ
class_row o =
    set (set (set (set (replicate class_width 0) name_length_word o.name) flags_word o.flags) method_count_word o.method_count) field_count_word
    o.field_count

-- the class, then so many records and text words as the six words tell, from the front of each list, and anything after them
abbrev pub one_class : FileOutcome → List ℕ → Sections
one_class o rest =
    record {
      classes = class_row o ∷ [];
      methods = cut member_width o.method_count o.methods;
      fields = cut member_width o.field_count o.fields;
      interfaces = [];
      compilers = [];
      bytes = o.text_length;
      text = take (words_for o.text_length) o.text;
      rest = rest;
    }

abbrev pub no_abi : List ℕ
no_abi = 0 ∷ 0 ∷ 0 ∷ 0 ∷ []

-- ---- its members are the file's

-- a name, a descriptor and flags are those of the file's member at p
pub record MemberIs (bs : List ℕ) (p : ℕ) (name descriptor : List ℕ) (flags : ℕ) : Type 0 where
  pub name_is : name ≡ utf8_bytes bs (member_at bs p).name
  pub descriptor_is : descriptor ≡ utf8_bytes bs (member_at bs p).descriptor
  pub flags_is : flags ≡ (member_at bs p).flags

-- of a reading that left o, and the words of the set
pub record Yields (bs targets : List ℕ) (o : FileOutcome) (ws : List ℕ) : Type 0 where
  pub accepted : set_refusal ws no_abi ≡ 0
  pub name : class_name ws (text_of ws) 1 ≡ file_name bs
  pub flags : class_flags ws 1 ≡ file_flags bs
  -- the parent's name stands after the class's
  pub parent : name_at (text_of ws) o.name o.parent ≡ file_parent bs
  pub methods : method_count ws ≡ length (method_places bs)
  pub methods_own : class_method_count ws 1 ≡ length (method_places bs)
  pub fields : field_count ws ≡ length (field_places bs)
  pub fields_own : class_field_count ws 1 ≡ length (field_places bs)
  -- method m is the m-th in file order, with target m of the list
  pub method : (m : ℕ) → m < method_count ws
      → MemberIs bs (get_or (method_places bs) m 0) (method_name ws (text_of ws) m) (method_descriptor ws (text_of ws) m) (method_flags ws m)
  pub target : (m : ℕ) → m < method_count ws → method_target ws m ≡ get_or targets m 0
  -- field f is the f-th in file order, with word index 0
  pub field : (f : ℕ) → f < field_count ws
      → MemberIs bs (get_or (field_places bs) f 0) (field_name ws (text_of ws) f) (field_descriptor ws (text_of ws) f) (field_flags ws f)
  pub index : (f : ℕ) → f < field_count ws → field_index ws f ≡ 0

-- of any bytes: if the reader accepts, the set of one class is so, whatever follows it
abbrev pub SheetForm : Type 0
SheetForm =
    (bs targets fields methods text rest : List ℕ) → AreBytes bs → (read_class_file bs targets fields methods text).refusal ≡ 0
    → Yields bs targets (read_class_file bs targets fields methods text) (laid_out (one_class (read_class_file bs targets fields methods text) rest))
