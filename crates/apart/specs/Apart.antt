-- The rules of row 4 that hold two classes against each other. Sums are of naturals: they do not wrap. Assumes nothing.
use Rattle.std.specs.Prelude.{ℕ, ◌+◌, ◌-◌, Bool, ◌&&◌, ◌||◌, not, List, eqb, leb}
use Rattle.words.specs.Folds.{all_of}
use Rattle.text.specs.Text.{same_bytes}
use Rattle.class_sheet.specs.ClassSheet.{class_first_method, class_method_count, class_first_field, class_field_count, class_name}

-- two lists have no element in common
unfoldable pub apart : ℕ → ℕ → ℕ → ℕ → Bool
apart f n g m = eqb n 0 || eqb m 0 || leb (f + n) g || leb (g + m) f

-- "neither method nor field lists overlap"
unfoldable pub methods_apart : List ℕ → ℕ → ℕ → Bool
methods_apart ws c d = apart (class_first_method ws c) (class_method_count ws c) (class_first_method ws d) (class_method_count ws d)

unfoldable pub fields_apart : List ℕ → ℕ → ℕ → Bool
fields_apart ws c d = apart (class_first_field ws c) (class_field_count ws c) (class_first_field ws d) (class_field_count ws d)

-- classes c and d have different names, and neither a method nor a field in common
unfoldable pub classes_apart : List ℕ → List ℕ → ℕ → ℕ → Bool
classes_apart ws text c d =
    not (same_bytes (class_name ws text c) (class_name ws text d)) && methods_apart ws c d && fields_apart ws c d

-- class d is apart from each class before it: "no two class-sheet classes share a name"
unfoldable pub apart_before : List ℕ → List ℕ → ℕ → Bool
apart_before ws text d = all_of (d - 1) (λ i. classes_apart ws text (i + 1) d)
