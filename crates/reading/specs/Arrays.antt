-- A table as the code holds it: two arrays, the slots' words and their methods' marks, and a count. Assumes nothing.
use Rattle.std.specs.Prelude.{ℕ, ◌+◌, ◌*◌, ◌-◌, ◌/◌, ◌%◌, cond, List, get_or, eqb, ltb, Option, Some, None}
use Rattle.words.specs.Folds.{stores}
use Rattle.words.specs.Lists.{list_from}
use Rattle.linking.specs.Signature.{Same}
use Rattle.linking.specs.Vtable.{Entry, read_entry}

-- a method's mark: its number plus 1; 0 for none, and for numbers above those of methods
unfoldable pub mark_of : Option ℕ → ℕ
mark_of (Some m) = cond (ltb m 4095) (m + 1) 0
mark_of None = 0

-- the mark of a slot that is a copy of slot i
unfoldable pub copy_mark : ℕ → ℕ → ℕ
copy_mark i k = k % 4096 + 4096 * (i + 1)

-- the method that a mark stands for, and the slot that it is a copy of
unfoldable pub method_of : ℕ → Option ℕ
method_of k = cond (eqb (k % 4096) 0) None (Some (k % 4096 - 1))

unfoldable pub source_of : ℕ → Option ℕ
source_of k = cond (eqb (k / 4096) 0) None (Some (k / 4096 - 1))

-- a slot's mark, or where it has none the mark of what is found for it; and n slots' marks after that
unfoldable pub or_mark : ℕ → Option ℕ → ℕ
or_mark k f = cond (eqb k 0) (mark_of f) k

unfoldable pub marks_with : (ℕ → Option ℕ) → ℕ → List ℕ → List ℕ
marks_with f n ms = stores n (λ i. or_mark (get_or ms i 0) (f i)) ms

-- n slots' marks as copies of themselves
unfoldable pub copy_marks : ℕ → List ℕ → List ℕ
copy_marks n ms = stores n (λ i. copy_mark i (get_or ms i 0)) ms

-- slot i of the two arrays
unfoldable pub entry_at : List ℕ → List ℕ → ℕ → Entry
entry_at ts ms i = record { word = get_or ts i 0; method = method_of (get_or ms i 0); source = source_of (get_or ms i 0) }

-- the first n slots
unfoldable pub entries_of : List ℕ → List ℕ → ℕ → List Entry
entries_of ts ms n = list_from (entry_at ts ms) 0 n

-- slot i of the table at a place, as the area holds it and Reading finds it along class c's chain
unfoldable pub slot_read : Same → List ℕ → List ℕ → List ℕ → List ℕ → List ℕ → ℕ → ℕ → ℕ → Entry
slot_read same ws text abi labels area place c i = read_entry same ws text abi labels c i (get_or area (place + 1 + i) 0)
