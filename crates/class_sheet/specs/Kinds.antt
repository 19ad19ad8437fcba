-- The kinds of classes by number, a class record's word of that name: 0 built, 1 generated, 2 array, and 3, a class built by packages. Assumes nothing.
use Rattle.std.specs.Prelude.{ℕ, cond, eqb, Result, Ok, Err}
use Rattle.class_sheet.specs.declared.Kind.{Kind}
use Rattle.class_sheet.specs.declared.Kind.TheVariants.{Built, Generated, Array, Packaged}
use Rattle.class_sheet.specs.declared.UnknownKind.{UnknownKind}

abbrev pub kind_number : Kind → ℕ
kind_number Built = 0
kind_number Generated = 1
kind_number Array = 2
kind_number Packaged = 3

-- the kind of a number, or that there is none
abbrev pub kind_at : ℕ → Result Kind UnknownKind
kind_at n =
    cond (eqb n 0) (Ok Built)
    (cond (eqb n 1) (Ok Generated) (cond (eqb n 2) (Ok Array) (cond (eqb n 3) (Ok Packaged) (Err (record { 0 = n })))))
