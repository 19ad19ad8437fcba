-- What a link leaves in the class words: the class record, field indices, and sections that grow. Assumes nothing.
use Rattle.std.specs.Prelude.{ℕ, ◌+◌, ◌*◌, ◌-◌, Bool, ◌||◌, List, [], ◌∷◌, ◌++◌, length, take, drop, ltb}
use Rattle.words.specs.Lists.{list_from}
use Rattle.words.specs.Words.{le_word, words_for}
use Rattle.class_sheet.specs.ClassSheet.{member_width, member_limit, text_limit, method_count, field_count, text_length, methods_at, fields_at, interfaces_at, text_at, text_of, class_first_method, class_method_count, class_first_field, class_field_count, put_method_count, put_field_count, put_text_length, put_class_first_method, put_class_method_count, put_class_first_field, put_class_field_count, put_index_at, member_words}
use Rattle.class_sheet.specs.declared.MemberRecord.{MemberRecord}
use Rattle.linking.specs.Compiler.{New}

-- words laid over a list from place k on
unfoldable pub write_at : List ℕ → ℕ → List ℕ → List ℕ
write_at l k xs = take k l ++ (xs ++ drop (k + length xs) l)

-- the indices of the field records from `first` on, in a list of words whose field section begins at `at`
unfoldable pub put_indices : ℕ → ℕ → List ℕ → List ℕ → List ℕ
put_indices at first [] ws = ws
put_indices at first (i ∷ is) ws = put_indices at (first + 1) is (put_index_at at first i ws)

-- ---- "A list that grows is copied whole to the end of its section, the old records left unowned; each new name, then descriptor, is
-- appended to the text."

-- the record of a new member whose name begins at byte `at` of the text, with its descriptor behind it
abbrev pub new_record : ℕ → New → MemberRecord
new_record at x = record {
  name_start = at;
  name_length = length x.name;
  descriptor_start = at + length x.name;
  descriptor_length = length x.descriptor;
  flags = x.flags;
  last = x.last;
}

-- the records of new members whose names begin there
unfoldable pub new_records : ℕ → List New → List ℕ
new_records at [] = []
new_records at (x ∷ xs) = member_words (new_record at x) ++ new_records (at + length x.name + length x.descriptor) xs

unfoldable pub new_text : List New → List ℕ
new_text [] = []
new_text (x ∷ xs) = x.name ++ (x.descriptor ++ new_text xs)

-- bytes as words, four a word, lowest first, zeros after the last
unfoldable pub packed : List ℕ → List ℕ
packed bytes = list_from (λ i. le_word bytes (4 * i)) 0 (words_for (length bytes))

-- the content with words inserted at a section's end and the text with the new names; `ws` has the sections, `old` says where they lie
unfoldable pub inserted : List ℕ → List ℕ → ℕ → List ℕ → List New → List ℕ
inserted old ws end records new =
    take end ws ++ (records ++ (take (text_at old - end) (drop end ws) ++ packed (text_of old ++ new_text new)))

-- the grown content in the lent words; what lies after it stays
unfoldable pub overlaid : List ℕ → List ℕ → List ℕ
overlaid content ws = content ++ drop (length content) ws

-- `copy` are the records of the list that grows, counted in words
unfoldable pub grown_methods : List ℕ → ℕ → List New → List ℕ → List ℕ
grown_methods old c new ws =
    let copy : List ℕ = take (member_width * class_method_count old c) (drop (methods_at old + member_width * class_first_method old c) ws) in
    let grown : List ℕ = overlaid (inserted old ws (fields_at old) (copy ++ new_records (text_length old) new) new) ws in
    let sized : List ℕ = put_method_count grown (method_count old + (class_method_count old c + length new)) in
    let counted : List ℕ = put_text_length sized (text_length old + length (new_text new)) in
    put_class_method_count (put_class_first_method counted c (method_count old)) c (class_method_count old c + length new)

-- the declared fields' new indices stand in the copy; the old records are left
unfoldable pub grown_fields : List ℕ → ℕ → List ℕ → List New → List ℕ → List ℕ
grown_fields old c indices new ws =
    let copy : List ℕ = take (member_width * class_field_count old c) (drop (fields_at old + member_width * class_first_field old c) ws) in
    let renumbered : List ℕ = put_indices 0 0 indices copy in
    let grown : List ℕ = overlaid (inserted old ws (interfaces_at old) (renumbered ++ new_records (text_length old) new) new) ws in
    let sized : List ℕ = put_field_count grown (field_count old + (class_field_count old c + length new)) in
    let counted : List ℕ = put_text_length sized (text_length old + length (new_text new)) in
    put_class_field_count (put_class_first_field counted c (field_count old)) c (class_field_count old c + length new)

-- ---- rows 14 and 15

-- "a grown section exceeds 512 methods, 512 fields or 8,192 text bytes", of a section of `count` whose list of `own` grows by `new`
unfoldable pub section_full : List ℕ → ℕ → ℕ → List New → Bool
section_full ws count own new = ltb member_limit (count + (own + length new)) || ltb text_limit (text_length ws + length (new_text new))

-- how many words the content has once a list of `own` has grown by `new`
unfoldable pub grown_end : List ℕ → ℕ → List New → ℕ
grown_end ws own new = text_at ws + member_width * (own + length new) + words_for (text_length ws + length (new_text new))
