-- What is held of a file whose form is accepted. Assumes nothing.
use Rattle.std.specs.Prelude.{◌≡◌, ℕ, List, Ok}
use Rattle.class_form.specs.declared.Mark.{Mark}
use Rattle.class_form.specs.declared.Places.{Places}
use Rattle.class_form.specs.Parts.{form_of}
use Rattle.class_form.specs.Marks.{pool_marks}

-- of bytes bs: where the parts stand, the bytes, and the marks of the pool
pub record InForm (bs : List ℕ) (places : Places) (bytes : List ℕ) (marks : List Mark) : Type 0 where
  pub places_are : form_of bs ≡ Ok places
  pub bytes_are : bytes ≡ bs
  pub marks_are : marks ≡ pool_marks bs
