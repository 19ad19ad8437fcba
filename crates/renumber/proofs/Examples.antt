-- A set that is renumbered, computed, so that the theorems of `order` speak of some set. `judge` renumbers this one and more, with each number
-- that turns a set away. Assumes nothing.
use mathlib.Core.Path.{◌≡◌, refl}
use mathlib.Core.List.{List, [], ◌∷◌}
use Prim.Native.Nat.{ℕ}
use Rattle.words.specs.Folds.{all_of}
use Rattle.words.specs.Lists.{list_from, find, position, some}
use Rattle.words.specs.Rows.{joined, cut}
use Rattle.class_sheet.specs.ClassSheet.{count_at, class_word, is_built_kind, interface_word, methods_at, fields_at, interfaces_at, compilers_at, text_at, content_end}
use Rattle.class_sheet.specs.Sections.{laid_out, sections_by}
use Rattle.class_rules.specs.ClassRules.{class_limits, class_fits, unlinked, statics_clean, fresh, interface_names}
use Rattle.renumber.specs.Renumber.{placed, ready, next_class, order_from, order_of, new_number, moved_record, renumbered, renumber_form, stray_parent, names_classes, returns_from, returns, cyclic, renumber_refusal, renumber_def}

-- a record with a parent and a list of interface words
abbrev class : ℕ → ℕ → ℕ → List ℕ
class parent first count = 0 ∷ 0 ∷ parent ∷ 0 ∷ 0 ∷ 0 ∷ 0 ∷ 0 ∷ 0 ∷ first ∷ count ∷ 0 ∷ 0 ∷ 0 ∷ 0 ∷ 0 ∷ 0 ∷ 0 ∷ []

-- classes and interface words, and two words after the content
abbrev set_of : List (List ℕ) → List ℕ → List ℕ
set_of classes interfaces = laid_out (record {
  classes = classes;
  methods = [];
  fields = [];
  interfaces = interfaces;
  compilers = [];
  bytes = 0;
  text = [];
  rest = 7 ∷ 8 ∷ [];
})

pub record Rows : Type 0 where
  -- class 1 is under 2; interface words stay where they are and name the same classes, word 0 in no list too
  pub interfaces : renumber_def (set_of (class 2 1 2 ∷ class 0 0 0 ∷ []) (2 ∷ 1 ∷ 2 ∷ [])) (9 ∷ 9 ∷ [])
      ≡ record { refusal = 0; classes = 2; set = set_of (class 0 0 0 ∷ class 1 1 2 ∷ []) (1 ∷ 2 ∷ 1 ∷ []); list = 2 ∷ 1 ∷ [] }

pub rows : Rows
unfolding all_of list_from find position some joined cut count_at class_word interface_word methods_at fields_at interfaces_at compilers_at text_at
    content_end laid_out sections_by class_limits class_fits unlinked is_built_kind statics_clean fresh interface_names placed ready next_class order_from
    order_of new_number moved_record renumbered renumber_form stray_parent names_classes returns_from returns cyclic renumber_refusal renumber_def
rows = record { interfaces = refl }
