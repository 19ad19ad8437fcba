-- A step on class words that renumbers the classes: "Parents come first, and among those ready the smallest old number goes next. Parent and
-- interface numbers follow, and a list gives each class's old number, in new order." Assumes nothing.
use Rattle.std.specs.Prelude.{ℕ, zero, suc, ◌+◌, ◌-◌, Bool, true, cond, not, ◌&&◌, ◌||◌, List, [], ◌∷◌, ◌++◌, map, length, get_or, set, drop, eqb, ltb, Option, Some, None, Result, Ok, Err}
use Rattle.words.specs.Folds.{all_of}
use Rattle.words.specs.Lists.{numbers, find, position, some}
use Rattle.class_sheet.specs.ClassSheet.{parent_word, class_count, interface_count, class_parent}
use Rattle.class_sheet.specs.Sections.{Sections, laid_out, sections_of}
use Rattle.class_rules.specs.ClassRules.{class_fits, all_fresh, interface_names}
use Rattle.refusal.specs.declared.Refusal.{Refusal}
use Rattle.refusal.specs.Rows.{row}

-- ---- what a renumbering answers, and what the lent words then hold

pub record Outcome : Type 0 where
  pub refusal : ℕ
  pub classes : ℕ
  pub set : List ℕ
  pub list : List ℕ

-- the number and value of an answer, beside the memory
abbrev pub outcome : Result ℕ Refusal → List ℕ → List ℕ → Outcome
outcome (Ok n) ws list = record { refusal = 0; classes = n; set = ws; list = list }
outcome (Err r) ws list = record { refusal = row r; classes = 0; set = ws; list = list }

-- ---- the order: "Parents come first, and among those ready the smallest old number goes next."

-- c is one of the list
unfoldable pub placed : List ℕ → ℕ → Bool
placed l c = some (eqb c) l

-- a class is ready if it is not placed and has no parent or a placed one
unfoldable pub ready : List ℕ → List ℕ → ℕ → Bool
ready ws l c = not (placed l c) && (eqb (class_parent ws c) 0 || placed l (class_parent ws c))

-- the smallest class that is ready: the search goes up from number 1
unfoldable pub next_class : List ℕ → List ℕ → Option ℕ
next_class ws l = find (ready ws l) (numbers 1 (class_count ws))

abbrev pub placing : List ℕ → Option ℕ → List ℕ
placing l (Some c) = l ++ (c ∷ [])
placing l None = l

-- the list after k more searches, each of which places one class, or none where none is ready
unfoldable pub order_from : List ℕ → ℕ → List ℕ → List ℕ
order_from ws zero l = l
order_from ws (suc k) l = order_from ws k (placing l (next_class ws l))

-- "each class's old number, in new order"
unfoldable pub order_of : List ℕ → List ℕ
order_of ws = order_from ws (class_count ws) []

-- ---- the renumbered words: "Parent and interface numbers follow"

abbrev pub or_none : Option ℕ → ℕ
or_none (Some n) = n
or_none None = 0

-- old class c's new number: its place in the list, counted from 1; 0, as every number that is not there, becomes 0
unfoldable pub new_number : List ℕ → ℕ → ℕ
new_number l c = or_none (position (eqb c) 1 l)

-- old class c's record, whole, with its parent's new number
unfoldable pub moved_record : List ℕ → List ℕ → ℕ → List ℕ
moved_record ws l c = set (get_or (sections_of ws).classes (c - 1) []) parent_word (new_number l (class_parent ws c))

-- the records in the list's order, the interface words by their new numbers, all else as it was
unfoldable pub renumbered : List ℕ → List ℕ → List ℕ
renumbered ws l =
    let s : Sections = sections_of ws in
    laid_out (record {
      classes = map (moved_record ws l) l;
      methods = s.methods;
      fields = s.fields;
      interfaces = map (new_number l) s.interfaces;
      compilers = s.compilers;
      bytes = s.bytes;
      text = s.text;
      rest = s.rest;
    })

-- ---- what is turned away

-- "3, first, as for a link or if a table place or slot count is not 0" does not hold; of static words, "row 3, in reading and ticket 3's step, and 17 also
-- take a nonzero value in an unlinked built or array class."
unfoldable pub renumber_form : List ℕ → Bool
renumber_form ws = class_fits ws && all_fresh ws

-- "a parent number exceeds the count", of class c
unfoldable pub stray_parent : List ℕ → ℕ → Bool
stray_parent ws c = ltb (class_count ws) (class_parent ws c)

-- "4, if a parent number exceeds the count or an interface word names no class" does not hold
unfoldable pub names_classes : List ℕ → Bool
names_classes ws = all_of (class_count ws) (λ i. not (stray_parent ws (i + 1))) && all_of (interface_count ws) (interface_names ws)

-- up from c, with the classes passed: the walk ends at 0, which is no class, or returns to one that was passed. Where it passes k classes
-- more it is taken to return: of more classes than there are one was passed twice.
unfoldable pub returns_from : List ℕ → ℕ → List ℕ → ℕ → Bool
returns_from ws zero passed c = true
returns_from ws (suc k) passed c =
    not (eqb c 0) && (placed passed c || returns_from ws k (c ∷ passed) (class_parent ws c))

unfoldable pub returns : List ℕ → ℕ → Bool
returns ws c = returns_from ws (suc (class_count ws)) [] c

-- "19, after that, if following parents from some class returns to a class already passed"
unfoldable pub cyclic : List ℕ → Bool
cyclic ws = some (returns ws) (numbers 1 (class_count ws))

-- "15, last, if the list is too short": for a list of `room` words the number that refuses, or 0
unfoldable pub renumber_refusal : List ℕ → ℕ → ℕ
renumber_refusal ws room =
    cond (not (renumber_form ws)) 3
    (cond (not (names_classes ws)) 4 (cond (cyclic ws) 19 (cond (ltb room (class_count ws)) 15 0)))

-- ---- the step: the list's first words are the order, the words after it stay; refused, nothing changes

unfoldable pub renumber_def : List ℕ → List ℕ → Outcome
renumber_def ws list =
    let row : ℕ = renumber_refusal ws (length list) in
    cond (eqb row 0)
    (record {
      refusal = 0;
      classes = class_count ws;
      set = renumbered ws (order_of ws);
      list = order_of ws ++ drop (class_count ws) list;
    })
    (record { refusal = row; classes = 0; set = ws; list = list })
