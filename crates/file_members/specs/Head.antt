-- A second entry answers the six words without lists: what it tells a caller of the reading that follows. `head` of proofs/Head.antt
-- proves it. Assumes nothing.
use Rattle.std.specs.Prelude.{ℕ, ◌*◌, ◌≤◌, ◌≡◌, ◌⊎◌, List, [], ◌∷◌, length}
use Rattle.class_sheet.specs.ClassSheet.{member_width}
use Rattle.class_members.specs.Members.{FileOutcome, read_class_file, class_file_head}

-- the six words
abbrev pub answer_words : FileOutcome → List ℕ
answer_words o = o.name ∷ o.parent ∷ o.flags ∷ o.field_count ∷ o.method_count ∷ o.text_length ∷ []

-- the lists hold what these words tell, and there is a target for each method
pub record Lent (o : FileOutcome) (targets fields methods text : List ℕ) : Type 0 where
  pub fields_room : member_width * o.field_count ≤ length fields
  pub methods_room : member_width * o.method_count ≤ length methods
  pub text_room : o.text_length ≤ 4 * length text
  pub each_target : length targets ≡ o.method_count

-- of a file's head, and a reading of it with any lists
pub record HeadTells (head : FileOutcome) (targets fields methods text : List ℕ) (o : FileOutcome) : Type 0 where
  -- a file that is refused without lists is refused with any, by the same row
  pub refused : (head.refusal ≡ 0 → ⊥) → o.refusal ≡ head.refusal
  -- one that is accepted is refused by 14 alone, for its lists, and else has the same six words
  pub accepted : head.refusal ≡ 0 → (o.refusal ≡ 14) ⊎ ((o.refusal ≡ 0) × (answer_words o ≡ answer_words head))
  -- never where as much is lent as the six words tell
  pub enough : head.refusal ≡ 0 → Lent head targets fields methods text → o.refusal ≡ 0
  -- and where less is, always
  pub short : o.refusal ≡ 0 → Lent head targets fields methods text

abbrev pub Head : Type 0
Head =
    (bs targets fields methods text : List ℕ)
    → HeadTells (class_file_head bs) targets fields methods text (read_class_file bs targets fields methods text)
