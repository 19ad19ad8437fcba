-- The step as the code takes it, part by part; no public promise cites it. Assumes nothing.
use Rattle.std.specs.Prelude.{ℕ, ◌≤◌, ◌≡◌, cond, not, List, map, length}
use Rattle.class_sheet.specs.ClassSheet.{class_limit, class_count, content_end}
use Rattle.class_sheet.specs.Sections.{Sections, laid_out, sections_of, with_classes}
use Rattle.renumber.specs.Renumber.{order_of, new_number, moved_record, renumber_form, names_classes}

-- 3 and 4: the number that refuses, or 0
unfoldable pub form_refusal : List ℕ → ℕ
form_refusal ws = cond (not (renumber_form ws)) 3 (cond (not (names_classes ws)) 4 0)

-- the list is the order of all classes of words that hold their content
pub record Complete (ws l : List ℕ) : Type 0 where
  pub order : l ≡ order_of ws
  pub all : length l ≡ class_count ws
  pub few : length l ≤ class_limit
  pub fits : content_end ws ≤ length ws

-- the class records alone at their new places
unfoldable pub records_moved : List ℕ → List ℕ → List ℕ
records_moved ws l = laid_out (with_classes (sections_of ws) (map (moved_record ws l) l))

abbrev pub with_interfaces : Sections → List ℕ → Sections
with_interfaces s x = record {
  classes = s.classes;
  methods = s.methods;
  fields = s.fields;
  interfaces = x;
  compilers = s.compilers;
  bytes = s.bytes;
  text = s.text;
  rest = s.rest;
}

-- the interface words alone by their new numbers
unfoldable pub interfaces_mapped : List ℕ → List ℕ → List ℕ
interfaces_mapped ws l = laid_out (with_interfaces (sections_of ws) (map (new_number l) (sections_of ws).interfaces))
