-- What the code looks at first to see that all classes are apart: keys of the names, and marks on the elements of the lists. Only
-- the code needs these definitions; row 4 is stated without them. Assumes nothing.
use Rattle.std.specs.Prelude.{ℕ, zero, suc, ◌+◌, ◌*◌, ◌%◌, ◌^◌, Bool, true, false, ◌&&◌, not, List, length, get_or, set, eqb, leb}
use Rattle.words.specs.Folds.{all_of, table}
use Rattle.words.specs.Lists.{fold, some}
use Rattle.class_sheet.specs.ClassSheet.{class_count, class_name, class_first_method, class_method_count, class_first_field, class_field_count}

-- ---- names

-- the key after one byte more; the prime is that of the FNV hash
unfoldable pub key_step : ℕ → ℕ → ℕ
key_step k b = (16777619 * k + b) % 2 ^ 32

-- a number that a name's bytes give: names with different keys are different
unfoldable pub name_key : List ℕ → ℕ
name_key s = fold key_step 0 s

-- the key of the name of class i + 1
unfoldable pub key_at : List ℕ → List ℕ → ℕ → ℕ
key_at ws text i = name_key (class_name ws text (i + 1))

-- one of the keys is k
unfoldable pub has_key : List ℕ → ℕ → Bool
has_key ks k = some (λ x. eqb x k) ks

-- no class before class i + 1 has its key
unfoldable pub new_key : List ℕ → List ℕ → ℕ → Bool
new_key ws text i = not (has_key (table i (key_at ws text)) (key_at ws text i))

-- there is room for the keys of all classes, and no two are the same
unfoldable pub new_keys : List ℕ → List ℕ → ℕ → Bool
new_keys ws text room = leb (class_count ws) room && all_of (class_count ws) (new_key ws text)

-- ---- lists

-- element f + k is not marked
unfoldable pub free_at : List Bool → ℕ → ℕ → Bool
free_at ms f k = not (get_or ms (f + k) false)

-- the n elements from f on have marks, and none is marked
unfoldable pub free_list : List Bool → ℕ → ℕ → Bool
free_list ms f n = leb (f + n) (length ms) && all_of n (free_at ms f)

-- the marks with those of the n elements from f on
unfoldable pub marked : List Bool → ℕ → ℕ → List Bool
marked ms f zero = ms
marked ms f (suc n) = set (marked ms f n) (f + n) true

-- the marks with those of the first i lists; list k has count k elements from first k on
unfoldable pub marks_after : (ℕ → ℕ) → (ℕ → ℕ) → List Bool → ℕ → List Bool
marks_after first count ms zero = ms
marks_after first count ms (suc i) = marked (marks_after first count ms i) (first i) (count i)

-- no list before list i has marked an element of it
unfoldable pub free_after : (ℕ → ℕ) → (ℕ → ℕ) → List Bool → ℕ → Bool
free_after first count ms i = free_list (marks_after first count ms i) (first i) (count i)

-- the lists of class i + 1
abbrev pub method_start : List ℕ → ℕ → ℕ
method_start ws i = class_first_method ws (i + 1)

abbrev pub method_total : List ℕ → ℕ → ℕ
method_total ws i = class_method_count ws (i + 1)

abbrev pub field_start : List ℕ → ℕ → ℕ
field_start ws i = class_first_field ws (i + 1)

abbrev pub field_total : List ℕ → ℕ → ℕ
field_total ws i = class_field_count ws (i + 1)

-- the methods and the fields of class i + 1 are free when its turn comes
unfoldable pub free_class : List ℕ → List Bool → List Bool → ℕ → Bool
free_class ws ms fs i =
    free_after (method_start ws) (method_total ws) ms i && free_after (field_start ws) (field_total ws) fs i

unfoldable pub free_lists : List ℕ → List Bool → List Bool → Bool
free_lists ws ms fs = all_of (class_count ws) (free_class ws ms fs)
