-- Which slots are missing, and the list that says it: "A count shall be kept for each class as it is linked: the number of slots that took a stub when
-- written or
-- were copied from parent entries that the parent's count included; a nonzero compiler slot is no copy, an appended parent method is." What is a copy of which
-- parent slot: `source` (Vtable.antt, Compiler.antt). Assumes nothing.
use Rattle.std.specs.Prelude.{ℕ, zero, suc, ◌+◌, ◌*◌, ◌-◌, ◌/◌, ◌%◌, ◌^◌, Bool, false, cond, not, ◌&&◌, ◌||◌, List, [], ◌∷◌, length, get_or, eqb, ltb}
use Rattle.words.specs.Lists.{list_from}
use Rattle.class_sheet.specs.ClassSheet.{class_count}
use Rattle.linking.specs.Chain.{on_found, parent_of}
use Rattle.linking.specs.Vtable.{Entry, takes_stub}
use Rattle.linking.specs.Set.{write_at}

-- ---- a bit for each slot, from the bits of the parent's slots

-- "or were copied from parent entries that the parent's count included"
abbrev pub copies_counted : (ℕ → Bool) → Entry → Bool
copies_counted inParent e = on_found e.source inParent false

-- "slots that took a stub when written", and those
abbrev pub is_counted : (ℕ → Bool) → Entry → Bool
is_counted inParent e = takes_stub e.word || copies_counted inParent e

unfoldable pub bits_of : (ℕ → Bool) → List Entry → List Bool
bits_of inParent [] = []
bits_of inParent (e ∷ T) = is_counted inParent e ∷ bits_of inParent T

-- ---- "33 words a class, class 1 first: the count, then a bit for each slot, set if counted, lowest first, the rest 0"

abbrev pub missing_width : ℕ
missing_width = 33

abbrev pub bit : Bool → ℕ
bit b = cond b 1 0

unfoldable pub bit_count : List Bool → ℕ
bit_count [] = 0
bit_count (b ∷ bs) = bit b + bit_count bs

-- n bits from number i on, the first one lowest
unfoldable pub bits_from : List Bool → ℕ → ℕ → ℕ
bits_from bs i zero = 0
bits_from bs i (suc n) = bit (get_or bs i false) + 2 * bits_from bs (i + 1) n

unfoldable pub pack_bits : List Bool → List ℕ
pack_bits bs = bit_count bs ∷ list_from (λ k. bits_from bs (32 * k) 32) 0 32

-- the place of a class's words, and the bit of a slot
abbrev pub missing_at : ℕ → ℕ
missing_at c = missing_width * (c - 1)

unfoldable pub missing_bit : List ℕ → ℕ → ℕ → Bool
missing_bit list c i = eqb (get_or list (missing_at c + (1 + i / 32)) 0 / 2 ^ (i % 32) % 2) 1

-- the bit of a parent's slot: a class without a parent has none (its place would be class 1's), nor has a slot past the 1,024 of a table
unfoldable pub parent_bit : List ℕ → ℕ → ℕ → Bool
parent_bit list p j = not (eqb p 0) && ltb j 1024 && missing_bit list p j

-- the list after an accepted link of class c that makes this table
unfoldable pub counted_after : List ℕ → List ℕ → ℕ → List Entry → List ℕ
counted_after ws list c T = write_at list (missing_at c) (pack_bits (bits_of (parent_bit list (parent_of ws c)) T))

-- "row 15 also takes a shorter list": 33 words for each class of the set
unfoldable pub missing_short : List ℕ → List ℕ → Bool
missing_short ws list = ltb (length list) (missing_width * class_count ws)
