-- What a class file yields: its class, parent and flags, its fields and methods in file order, the rows that judge them after the reading, and
-- what the reader leaves in three lent word lists. A member is a `New` of `linking`, whose records and text are the sheet's form. Assumes nothing.
use Rattle.std.specs.Prelude.{ℕ, zero, suc, ◌+◌, ◌*◌, Bool, true, cond, not, ◌&&◌, ◌||◌, List, [], ◌∷◌, ◌++◌, length, get_or, eqb, leb, Result, Ok, Err}
use Rattle.text.specs.Text.{name_at, part_ok}
use Rattle.descriptor.specs.Machine.{is_field_descriptor}
use Rattle.descriptor.specs.Words.{is_method}
use Rattle.class_sheet.specs.ClassSheet.{member_width, method_limit, field_limit, text_limit}
use Rattle.class_rules.specs.ClassRules.{method_flags_ok}
use Rattle.linking.specs.Compiler.{New}
use Rattle.linking.specs.Set.{new_records, new_text, packed, overlaid}
use Rattle.refusal.specs.declared.Refusal.{Refusal}
use Rattle.refusal.specs.Rows.{row}
use Rattle.class_form.specs.declared.Member.{Member}
use Rattle.class_form.specs.Form.{Step, u2, utf8_at, class_at, after_pool, after_head, after_members, form_refusal}
use Rattle.class_form.specs.Parts.{ended, member_at}
use Rattle.class_members.specs.declared.FileHead.{FileHead}

-- ---- places: where each item begins. A file that is read has them all.

-- access_flags, this_class and super_class, two bytes each, follow the pool
unfoldable pub head_place : List ℕ → ℕ
head_place bs = ended bs (after_pool bs)

-- fields_count follows the interfaces, methods_count the fields
unfoldable pub fields_place : List ℕ → ℕ
fields_place bs = ended bs (after_head bs (head_place bs))

unfoldable pub methods_place : List ℕ → ℕ
methods_place bs = ended bs (after_members bs (fields_place bs))

-- where n members begin, of which the first does at p
unfoldable pub places_from : List ℕ → ℕ → ℕ → List ℕ
places_from bs zero p = []
places_from bs (suc n) p = p ∷ places_from bs n (member_at bs p).next

-- the count at p, then so many members
abbrev pub member_places : List ℕ → ℕ → List ℕ
member_places bs p = places_from bs (u2 bs p) (p + 2)

unfoldable pub field_places : List ℕ → List ℕ
field_places bs = member_places bs (fields_place bs)

unfoldable pub method_places : List ℕ → List ℕ
method_places bs = member_places bs (methods_place bs)

-- ---- strings: the constant's tag, a length of two bytes, and so many bytes

abbrev pub string_at : List ℕ → Step → List ℕ
string_at bs (Ok p) = name_at bs (p + 3) (u2 bs (p + 1))
string_at bs (Err refusal) = []

-- of a Utf8 by its index, and the name of a Class by the Class's
unfoldable pub utf8_bytes : List ℕ → ℕ → List ℕ
utf8_bytes bs i = string_at bs (utf8_at bs i)

unfoldable pub class_bytes : List ℕ → ℕ → List ℕ
class_bytes bs i = string_at bs (class_at bs i)

-- ---- "It yields the class name, parent name (none if its reference is 0), flags, fields and methods with their names and descriptors, in
-- file order"

unfoldable pub file_flags : List ℕ → ℕ
file_flags bs = u2 bs (head_place bs)

unfoldable pub file_name : List ℕ → List ℕ
file_name bs = class_bytes bs (u2 bs (head_place bs + 2))

unfoldable pub parent_index : List ℕ → ℕ
parent_index bs = u2 bs (head_place bs + 4)

unfoldable pub file_parent : List ℕ → List ℕ
file_parent bs = cond (eqb (parent_index bs) 0) [] (class_bytes bs (parent_index bs))

-- the member m of the file, with its last word
abbrev pub new_of : List ℕ → Member → ℕ → New
new_of bs m last =
    record { name = utf8_bytes bs m.name; descriptor = utf8_bytes bs m.descriptor; flags = m.flags; last = last }

-- the members that begin at these places; their last words are those of the list from k on
unfoldable pub members_at : List ℕ → List ℕ → ℕ → List ℕ → List New
members_at bs lasts k [] = []
members_at bs lasts k (p ∷ ps) = new_of bs (member_at bs p) (get_or lasts k 0) ∷ members_at bs lasts (k + 1) ps

-- "word indices 0"
unfoldable pub file_fields : List ℕ → List New
file_fields bs = members_at bs [] 0 (field_places bs)

-- "Targets come from a lent list, one for each method."
unfoldable pub file_methods : List ℕ → List ℕ → List New
file_methods bs targets = members_at bs targets 0 (method_places bs)

-- "each string stored anew: class, parent, then each member's name and descriptor, fields first"
unfoldable pub file_text : List ℕ → List ℕ → List ℕ
file_text bs targets = file_name bs ++ (file_parent bs ++ (new_text (file_fields bs) ++ new_text (file_methods bs targets)))

-- ---- "Row 4's rules on names, descriptors and flags, row 5 and then row 14 are checked after the reading."

-- "names and descriptors have 1 to 255 bytes, each 0x21 to 0x7E"
unfoldable pub string_ok : List ℕ → Bool
string_ok s = part_ok s 0 (length s)

-- a field's flags have 16 bits, so that of them "class and field flags, link state and instance words ≤ 65,535" always holds
unfoldable pub field_ok : New → Bool
field_ok x = string_ok x.name && string_ok x.descriptor

-- "method flags within 0x1DFF"
unfoldable pub method_ok : New → Bool
method_ok x = string_ok x.name && string_ok x.descriptor && method_flags_ok x.flags

-- row 5: "a descriptor breaks JVMS 4.3.2 (field) or 4.3.3 (method)" does not hold, of a method by its own flags
unfoldable pub field_typed : New → Bool
field_typed x = is_field_descriptor x.descriptor

unfoldable pub method_typed : New → Bool
method_typed x = is_method x.flags x.descriptor

unfoldable pub every : (New → Bool) → List New → Bool
every p [] = true
every p (x ∷ xs) = p x && every p xs

-- row 4 does not refuse
unfoldable pub names_ok : List ℕ → List ℕ → Bool
names_ok bs targets =
    string_ok (file_name bs)
    && (eqb (parent_index bs) 0 || string_ok (file_parent bs))
    && every field_ok (file_fields bs)
    && every method_ok (file_methods bs targets)

-- row 5 does not refuse
unfoldable pub descriptors_ok : List ℕ → List ℕ → Bool
descriptors_ok bs targets = every field_typed (file_fields bs) && every method_typed (file_methods bs targets)

-- "Row 14 also takes more members or text than a sheet or a lent list holds, and a target list whose length is not the method count." It does not refuse by
-- the sheet
unfoldable pub sheet_holds : List ℕ → List ℕ → Bool
sheet_holds bs targets =
    leb (length (file_fields bs)) field_limit
    && leb (length (file_methods bs targets)) method_limit
    && leb (length (file_text bs targets)) text_limit

-- nor by the lists
unfoldable pub lists_hold : List ℕ → List ℕ → List ℕ → List ℕ → List ℕ → Bool
lists_hold bs targets fields methods text =
    leb (member_width * length (file_fields bs)) (length fields)
    && leb (member_width * length (file_methods bs targets)) (length methods)
    && leb (length (file_text bs targets)) (4 * length text)
    && eqb (length targets) (length (file_methods bs targets))

-- the form's rows 20 to 22, then 4, 5, and 14 by the sheet: the number that refuses, or 0. The targets play no part.
unfoldable pub file_refusal : List ℕ → List ℕ → ℕ
file_refusal bs targets =
    cond (eqb (form_refusal bs) 0)
    (cond (not (names_ok bs targets)) 4 (cond (not (descriptors_ok bs targets)) 5 (cond (not (sheet_holds bs targets)) 14 0)))
    (form_refusal bs)

-- the same, and 14 by the lists
unfoldable pub read_refusal : List ℕ → List ℕ → List ℕ → List ℕ → List ℕ → ℕ
read_refusal bs targets fields methods text =
    cond (eqb (file_refusal bs targets) 0) (cond (not (lists_hold bs targets fields methods text)) 14 0) (file_refusal bs targets)

-- ---- what a reading answers, and what the lent lists then hold

-- six words: the lengths of the class's and the parent's name (0 for none), the flags, how many fields and methods, how many text bytes. (Which words
-- tell what is yielded is the program's choice: the request names no answer words.)
pub record FileOutcome : Type 0 where
  pub refusal : ℕ
  pub name : ℕ
  pub parent : ℕ
  pub flags : ℕ
  pub field_count : ℕ
  pub method_count : ℕ
  pub text_length : ℕ
  pub fields : List ℕ
  pub methods : List ℕ
  pub text : List ℕ

-- "a refused one gives its number, zero in every other answer word, and unchanged lent memory"
abbrev pub refused_by : ℕ → List ℕ → List ℕ → List ℕ → FileOutcome
refused_by row fields methods text =
    record {
      refusal = row;
      name = 0;
      parent = 0;
      flags = 0;
      field_count = 0;
      method_count = 0;
      text_length = 0;
      fields = fields;
      methods = methods;
      text = text;
    }

-- the number and values of each case of the answer, beside the lists
abbrev pub file_outcome : Result FileHead Refusal → List ℕ → List ℕ → List ℕ → FileOutcome
file_outcome (Ok h) fields methods text =
    record {
      refusal = 0;
      name = h.name;
      parent = h.parent;
      flags = h.flags;
      field_count = h.fields;
      method_count = h.methods;
      text_length = h.text;
      fields = fields;
      methods = methods;
      text = text;
    }
file_outcome (Err refusal) fields methods text = refused_by (row refusal) fields methods text

-- the six words of an accepted file
abbrev pub members_by : List ℕ → List ℕ → List ℕ → List ℕ → List ℕ → FileOutcome
members_by bs targets fields methods text =
    record {
      refusal = 0;
      name = length (file_name bs);
      parent = length (file_parent bs);
      flags = file_flags bs;
      field_count = length (file_fields bs);
      method_count = length (file_methods bs targets);
      text_length = length (file_text bs targets);
      fields = fields;
      methods = methods;
      text = text;
    }

-- ---- the reading: "Fields, methods and text fill three lent word lists in the sheet's form"; what follows in each list stays

-- the text's byte where the first field's name begins, and the first method's
unfoldable pub fields_start : List ℕ → ℕ
fields_start bs = length (file_name bs) + length (file_parent bs)

unfoldable pub methods_start : List ℕ → ℕ
methods_start bs = fields_start bs + length (new_text (file_fields bs))

unfoldable pub read_class_file : List ℕ → List ℕ → List ℕ → List ℕ → List ℕ → FileOutcome
read_class_file bs targets fields methods text =
    cond (eqb (read_refusal bs targets fields methods text) 0)
    (members_by bs targets
    (overlaid (new_records (fields_start bs) (file_fields bs)) fields)
    (overlaid (new_records (methods_start bs) (file_methods bs targets)) methods)
    (overlaid (packed (file_text bs targets)) text))
    (refused_by (read_refusal bs targets fields methods text) fields methods text)

-- the six words alone, for a caller that has yet to lend lists: of 14 the sheet's limits alone. That there is such a call is the program's choice.
unfoldable pub class_file_head : List ℕ → FileOutcome
class_file_head bs =
    cond (eqb (file_refusal bs []) 0) (members_by bs [] [] [] []) (refused_by (file_refusal bs []) [] [] [])
