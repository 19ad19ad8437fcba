-- What the code of the reader keeps on its way: the rows along a list of members, the places it was given, and the room it was found to have.
-- Only the code needs these definitions; the reading is stated without them. Assumes nothing.
use Rattle.std.specs.Prelude.{◌≡◌, ℕ, ◌+◌, ◌*◌, ◌≤◌, Bool, true, false, cond, not, ◌&&◌, ◌||◌, List, [], length, eqb, leb, ltb, Result, Ok, Err}
use Rattle.refusal.specs.declared.Refusal.{Refusal}
use Rattle.refusal.specs.declared.Refusal.TheVariants.{Record, Descriptor, FullLists}
use Rattle.class_sheet.specs.ClassSheet.{member_width, field_limit, method_limit, text_limit}
use Rattle.linking.specs.Compiler.{New}
use Rattle.linking.specs.Set.{new_text}
use Rattle.class_form.specs.declared.Places.{Places}
use Rattle.class_form.specs.Form.{◌>>=◌, u2, form_refusal}
use Rattle.class_members.specs.declared.FileHead.{FileHead}
use Rattle.class_members.specs.Members.{head_place, fields_place, methods_place, member_places, class_bytes, file_flags, file_name, parent_index, file_parent, members_at, file_fields, file_methods, file_text, string_ok, field_ok, method_ok, field_typed, method_typed, every}
use Rattle.class_file.specs.declared.Tally.{Tally}

-- ---- rows 4 and 5 of a method, or else of a field

abbrev pub row_four : Bool → New → Bool
row_four method x = cond method (method_ok x) (field_ok x)

abbrev pub row_five : Bool → New → Bool
row_five method x = cond method (method_typed x) (field_typed x)

-- a member of this name and descriptor
abbrev pub member_of : List ℕ → List ℕ → ℕ → ℕ → New
member_of name descriptor flags last = record { name = name; descriptor = descriptor; flags = flags; last = last }

-- of members that row 4 does not refuse, how many there are, whether row 5 refuses none, and how many bytes their strings have
unfoldable pub tally : Bool → List New → Result Tally Refusal
tally method xs =
    cond (every (row_four method) xs) (Ok (record { members = length xs; typed = every (row_five method) xs; text = length (new_text xs) })) (Err Record)

-- the parent's name by its reference
unfoldable pub parent_of : List ℕ → ℕ → List ℕ
parent_of bs i = cond (eqb i 0) [] (class_bytes bs i)

-- ---- the six words of a file whose parts stand at these places, by its rows 4, 5 and 14

unfoldable pub head_walked : List ℕ → Places → Result FileHead Refusal
head_walked bs at = do
  let name : List ℕ = file_name bs
  let parent : List ℕ = file_parent bs
  f ← cond (string_ok name && (eqb (parent_index bs) 0 || string_ok parent)) (tally false (members_at bs [] 0 (member_places bs at.fields))) (Err Record)
  m ← tally true (members_at bs [] 0 (member_places bs at.methods))
  let text : ℕ = length name + length parent + (f.text + m.text)
  cond (not (f.typed && m.typed)) (Err Descriptor)
      (cond (ltb field_limit f.members || ltb method_limit m.members || ltb text_limit text) (Err FullLists)
      (Ok (record { name = length name; parent = length parent; flags = file_flags bs; fields = f.members; methods = m.members; text = text })))

-- ---- row 14 by the lists, of so many fields, methods and text bytes

unfoldable pub holds : ℕ → ℕ → ℕ → ℕ → ℕ → ℕ → ℕ → Bool
holds fields methods bytes targets fieldRoom methodRoom textRoom =
    leb (member_width * fields) fieldRoom
    && leb (member_width * methods) methodRoom
    && leb bytes (4 * textRoom)
    && eqb targets methods

-- ---- what is known of the places of a file in form

pub record Parted (bs : List ℕ) (at : Places) : Type 0 where
  pub form : form_refusal bs ≡ 0
  pub head_is : head_place bs ≡ at.head
  pub fields_is : fields_place bs ≡ at.fields
  pub methods_is : methods_place bs ≡ at.methods
  pub fields_count : at.fields + 2 ≤ length bs
  pub methods_count : at.methods + 2 ≤ length bs

-- ---- there is room for the records of the members whose count stands at p, and for their strings from `start` on

pub record Room (records text : List ℕ) (start : ℕ) (bs : List ℕ) (p : ℕ) (lasts : List ℕ) : Type 0 where
  pub counted : p + 2 ≤ length bs
  pub enough : member_width * u2 bs p ≤ length records
  pub fits : start + length (new_text (members_at bs lasts 0 (member_places bs p))) ≤ length text
  pub limit : length text ≤ text_limit

-- ---- what row 14 has shown of the lists

pub record Fits (bs targets fields methods text : List ℕ) : Type 0 where
  pub fields_fit : member_width * length (file_fields bs) ≤ length fields
  pub methods_fit : member_width * length (file_methods bs targets) ≤ length methods
  pub text_fits : length (file_text bs targets) ≤ 4 * length text
  pub limit : length (file_text bs targets) ≤ text_limit
