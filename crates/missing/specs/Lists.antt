-- The bits of a table as the code holds it, what is written of them, and what asking answers. Assumes nothing.
use Rattle.std.specs.Prelude.{ℕ, ◌+◌, Bool, cond, List, Result, Ok, Err, length, leb}
use Rattle.reading.specs.Arrays.{entries_of}
use Rattle.missing.specs.declared.Slots.{Slots}
use Rattle.linking.specs.Vtable.{Entry}
use Rattle.linking.specs.Set.{write_at}
use Rattle.linking.specs.Counts.{bits_of, pack_bits, missing_width, missing_at, parent_bit}
use Rattle.linking.specs.Missing as asking
use Rattle.refusal.specs.declared.Refusal.{Refusal}
use Rattle.refusal.specs.Rows.{row}

-- the bits of the first n slots of two arrays, by those of parent p's in the list
abbrev pub bits_in : List ℕ → ℕ → List ℕ → List ℕ → ℕ → List Bool
bits_in missing p ts ms n = bits_of (parent_bit missing p) (entries_of ts ms n)

abbrev pub slot_bits : Slots → List Bool
slot_bits slots = bits_in slots.missing.now slots.parent slots.words.now slots.marks.now slots.n

-- the list with the words of class c, whose parent is p; as it was where it has no room for them
unfoldable pub counted : List ℕ → ℕ → ℕ → List Entry → List ℕ
counted missing c p T =
    cond (leb (missing_at c + missing_width) (length missing)) (write_at missing (missing_at c) (pack_bits (bits_of (parent_bit missing p) T))) missing

-- "An accepted call gives 0 and its result; a refused one gives its number, zero in every other answer word"
abbrev pub answered : Result ℕ Refusal → asking.Missing
answered (Ok n) = record { refusal = 0; count = n }
answered (Err refusal) = asking.turned_away (row refusal)
