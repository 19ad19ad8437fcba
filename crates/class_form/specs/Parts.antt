-- An accepted class file's parts: where they begin, and a member at its place. Assumes nothing.
use Rattle.std.specs.Prelude.{ℕ, ◌+◌, cond, List, length, eqb, leb, Result, Ok, Err}
use Rattle.refusal.specs.declared.Refusal.{Refusal}
use Rattle.refusal.specs.declared.Refusal.TheVariants.{NotClassFile, WrongEnd}
use Rattle.class_form.specs.declared.Places.{Places}
use Rattle.class_form.specs.declared.Member.{Member}
use Rattle.class_form.specs.Form.{Step, ◌>>=◌, u2, after_pool, after_head, after_members, after_attributes, version_ok}

abbrev pub Judged : Type 0
Judged = Result Places Refusal

-- access flags and what follows them; the file ends after the last attribute
unfoldable pub class_of : List ℕ → ℕ → Judged
class_of bs head = do
  fields ← after_head bs head
  methods ← after_members bs fields
  attributes ← after_members bs methods
  end ← after_attributes bs attributes
  cond (eqb end (length bs)) (Ok (record { head = head; fields = fields; methods = methods })) (Err WrongEnd)

unfoldable pub file_of : List ℕ → Judged
file_of bs = after_pool bs >>= class_of bs

-- the places of the access flags, of the fields' count and of the methods' count, or the row that refuses the form
unfoldable pub form_of : List ℕ → Judged
form_of bs = cond (leb 8 (length bs)) (cond (version_ok bs) (file_of bs) (Err NotClassFile)) (Err WrongEnd)

-- ---- members

-- where a step ends; the end of the bytes where it stops
abbrev pub ended : List ℕ → Step → ℕ
ended bs (Ok p) = p
ended bs (Err refusal) = length bs

-- the flags, the references to name and descriptor, and the place after the attributes
unfoldable pub member_at : List ℕ → ℕ → Member
member_at bs p =
    record { flags = u2 bs p; name = u2 bs (p + 2); descriptor = u2 bs (p + 4); next = ended bs (after_attributes bs (p + 6)) }
