-- The lines of the listing: "writes class number, name, words, slots; then slot, name, descriptor, target", and after the target the number of
-- the class that declares the slot's method. Assumes nothing.
use Rattle.std.specs.Prelude.{ℕ, ◌+◌, List, [], ◌∷◌, ◌++◌, Bool, cond, ◌||◌, ltb, Option, Some, None}
use Prim.Native.String.{String}
use Rattle.words.specs.Lists.{first_found}
use Rattle.std.specs.Option.{option_and_then}
use Rattle.descriptor.specs.Bytes.{text}
use Rattle.class_sheet.specs.ClassSheet.{class_count, text_of, text_length, class_name, class_instance_words, class_slot_count, method_name, method_descriptor, class_limit, text_limit}
use Rattle.abi_sheet.specs.AbiSheet.{abi_text_of, abi_text_length, abi_slot_name, abi_slot_descriptor, abi_text_limit}
use Rattle.linking.specs.Signature.{Same, by_sheets}
use Rattle.linking.specs.Chain.{chain}
use Rattle.linking.specs.Abi.{class_abi, slot_at}
use Rattle.linking.specs.Vtable.{Entry, table_entries}
use Rattle.linking.specs.Link.{no_class}
use Rattle.linking.specs.Whose.{declaring_class, read_declared}
use Rattle.lines.specs.Bytes.{decimal}

-- ---- lines, each ended by a newline

abbrev pub line_end : List ℕ
line_end = 10 ∷ []

-- a word and a number
unfoldable pub numbered : String → ℕ → List ℕ
numbered label n = text label ++ decimal n

-- `class N NAME words W slots S`
unfoldable pub class_line : ℕ → List ℕ → ℕ → ℕ → List ℕ
class_line c name words slots =
    numbered "class " c ++ (text " " ++ (name ++ (numbered " words " words ++ (numbered " slots " slots ++ line_end))))

-- "an empty part prints as a dash"
abbrev pub shown : List ℕ → List ℕ
shown [] = text "-"
shown (b ∷ bs) = b ∷ bs

-- a part after a blank
unfoldable pub column : List ℕ → List ℕ
column part = text " " ++ shown part

-- `I NAME DESCRIPTOR TARGET CLASS`: "The listing adds the number as a last column, 0 for an unknown slot"
unfoldable pub slot_line : ℕ → List ℕ → List ℕ → ℕ → ℕ → List ℕ
slot_line i name descriptor target class =
    decimal i ++ (column name ++ (column descriptor ++ (numbered " " target ++ (numbered " " class ++ line_end))))

-- the end of a refusal's line
abbrev pub refused : ℕ → List ℕ
refused row = numbered " refused " row ++ line_end

-- "A refusal prints `class N refused R`"
unfoldable pub class_refused : ℕ → ℕ → List ℕ
class_refused c row = numbered "class " c ++ refused row

-- "a bad sheet `abi refused R` or `classes refused R`"
unfoldable pub sheet_refused : List ℕ → ℕ → List ℕ
sheet_refused sheet row = sheet ++ refused row

-- ---- names: "A slot's name comes from the class text, or from the ABI text if unknown but fixed (nearest chain class), else `-` for both."

module _ (ws text abi labels : List ℕ) where
  -- the slot record that a class's ABI entry has for index i
  unfoldable pub own_slot : ℕ → ℕ → Option ℕ
  own_slot i c = option_and_then (slot_at abi i) (class_abi ws text abi labels c)

  -- the nearest chain class's whose entry fixes that index
  unfoldable pub fixed_slot : ℕ → ℕ → Option ℕ
  fixed_slot c i = first_found (own_slot i) (chain ws c)

  abbrev pub name_of : Option ℕ → Option ℕ → List ℕ
  name_of (Some m) fixed = method_name ws text m
  name_of None (Some s) = abi_slot_name abi labels s
  name_of None None = []

  abbrev pub descriptor_of : Option ℕ → Option ℕ → List ℕ
  descriptor_of (Some m) fixed = method_descriptor ws text m
  descriptor_of None (Some s) = abi_slot_descriptor abi labels s
  descriptor_of None None = []

  -- of slot i of class c's table, where Reading finds this method
  unfoldable pub slot_name : ℕ → ℕ → Option ℕ → List ℕ
  slot_name c i method = name_of method (fixed_slot c i)

  unfoldable pub slot_descriptor : ℕ → ℕ → Option ℕ → List ℕ
  slot_descriptor c i method = descriptor_of method (fixed_slot c i)

  -- the line of slot i, which holds this entry, whose method this class declares
  abbrev pub entry_line : ℕ → ℕ → Entry → ℕ → List ℕ
  entry_line c i e class = slot_line i (slot_name c i e.method) (slot_descriptor c i e.method) e.word class

-- ---- a linked class

module _ (same : Same) (ws text abi labels : List ℕ) where
  -- the class is the one that declares the method that Reading finds at the slot's word
  unfoldable pub slot_text : ℕ → ℕ → Entry → List ℕ
  slot_text c i e = entry_line ws text abi labels c i e (declaring_class (read_declared same ws text abi labels c i e.word))

  -- the lines of a table's slots from index i on
  unfoldable pub slot_texts : ℕ → ℕ → List Entry → List ℕ
  slot_texts c i [] = []
  slot_texts c i (e ∷ T) = slot_text c i e ++ slot_texts c (i + 1) T

  unfoldable pub lines_of : List ℕ → ℕ → List ℕ
  lines_of area c =
      class_line c (class_name ws text c) (class_instance_words ws c) (class_slot_count ws c)
      ++ slot_texts c 0 (table_entries same ws text abi labels area c)

-- a class has no lines where there is none of this number, or row 3 refuses the words: more than 64 classes, or 8,192 bytes of text
unfoldable pub is_unlisted : List ℕ → List ℕ → ℕ → Bool
is_unlisted ws abi c = no_class ws c || ltb class_limit (class_count ws) || ltb text_limit (text_length ws) || ltb abi_text_limit (abi_text_length abi)

-- a linked class's lines, over a comparison
unfoldable pub class_lines_by : Same → List ℕ → List ℕ → List ℕ → ℕ → List ℕ
class_lines_by same ws abi area c = cond (is_unlisted ws abi c) [] (lines_of same ws (text_of ws) abi (abi_text_of abi) area c)

-- and by the bytes of the signatures
unfoldable pub class_lines : List ℕ → List ℕ → List ℕ → ℕ → List ℕ
class_lines ws abi area c = class_lines_by (by_sheets ws abi) ws abi area c
