-- The text section, and names as parts of it. Assumes nothing.
use Rattle.std.specs.Prelude.{ℕ, zero, suc, ◌+◌, ◌*◌, ◌-◌, ◌/◌, ◌%◌, Bool, true, false, ◌&&◌, ◌||◌, cond, List, [], ◌∷◌, ◌++◌, get_or, set, take, drop, length, eqb, leb, ltb, Option, Some, None}
use Rattle.words.specs.Folds.{all_of, table}
use Rattle.words.specs.Words.{byte_of}

-- byte k of the text in the words: "text is four bytes a word, lowest byte first"
unfoldable pub text_byte : List ℕ → ℕ → ℕ
text_byte ws k = byte_of (get_or ws (k / 4) 0) (k % 4)

-- the first n bytes of the words
unfoldable pub text_of_words : List ℕ → ℕ → List ℕ
text_of_words ws n = table n (text_byte ws)

-- lent bytes with the first n of the words in front and the rest as it was, where there is room
unfoldable pub unpacked_text : List ℕ → ℕ → List ℕ → List ℕ
unpacked_text ws n text = cond (ltb (length text) n) text (text_of_words ws n ++ drop n text)

-- bytes after stores of k bytes of the words from byte `start` on, each at its own place
unfoldable pub text_stores : List ℕ → ℕ → ℕ → List ℕ → List ℕ
text_stores ws start zero text = text
text_stores ws start (suc k) text = set (text_stores ws start k text) (start + k) (text_byte ws (start + k))

-- byte `start + k` of the words is 0
unfoldable pub zero_at : List ℕ → ℕ → ℕ → Bool
zero_at ws start k = eqb (text_byte ws (start + k)) 0

-- each byte of the words from `start` to their end is 0
unfoldable pub zero_rest : List ℕ → ℕ → Bool
zero_rest ws start = all_of (4 * length ws - start) (zero_at ws start)

-- the part of the text from start on: "A name is handed on as its part of the text"
unfoldable pub name_at : List ℕ → ℕ → ℕ → List ℕ
name_at text start len = take len (drop start text)

-- two names are the same bytes
unfoldable pub same_bytes : List ℕ → List ℕ → Bool
same_bytes [] [] = true
same_bytes [] (y ∷ ys) = false
same_bytes (x ∷ xs) [] = false
same_bytes (x ∷ xs) (y ∷ ys) = eqb x y && same_bytes xs ys

-- ---- how many pairs of bytes a comparison reads: "We want names of equal length compared last byte first." "The comparison also counts the byte
-- pairs it read: 0 for unequal lengths, all for equal names, else the length minus the last differing place (from 0)."

-- the place after this one, or this one where nothing is found later and the bytes here differ
abbrev pub later_or : Option ℕ → Bool → Option ℕ
later_or (Some p) same = Some (p + 1)
later_or None same = cond same None (Some 0)

-- the last place where two names differ
unfoldable pub last_differing : List ℕ → List ℕ → Option ℕ
last_differing [] ys = None
last_differing (x ∷ xs) [] = None
last_differing (x ∷ xs) (y ∷ ys) = later_or (last_differing xs ys) (eqb x y)

abbrev pub pairs_from : ℕ → Option ℕ → ℕ
pairs_from n (Some p) = n - p
pairs_from n None = n

unfoldable pub pairs_read : List ℕ → List ℕ → ℕ
pairs_read a b = cond (eqb (length a) (length b)) (pairs_from (length a) (last_differing a b)) 0

-- "each 0x21 to 0x7E"
unfoldable pub printable : List ℕ → Bool
printable [] = true
printable (b ∷ bs) = leb 33 b && leb b 126 && printable bs

-- "every list and text part lies inside its section; names and descriptors have 1 to 255 bytes, each 0x21 to 0x7E"
unfoldable pub part_ok : List ℕ → ℕ → ℕ → Bool
part_ok text start len = leb 1 len && leb len 255 && leb (start + len) (length text) && printable (name_at text start len)

-- the same, told whether each byte of the text is 0x21 to 0x7E: `part_clean text (printable text)` is `part_ok text` (`clean_is`)
unfoldable pub part_clean : List ℕ → Bool → ℕ → ℕ → Bool
part_clean text clean start len =
    leb 1 len && leb len 255 && leb (start + len) (length text) && (clean || printable (name_at text start len))

-- ---- a record of a name, a descriptor and a number, by its words: where each begins in the text and how long it is, then the number

abbrev pub name_start_word : ℕ
name_start_word = 0

abbrev pub name_length_word : ℕ
name_length_word = 1

abbrev pub descriptor_start_word : ℕ
descriptor_start_word = 2

abbrev pub descriptor_length_word : ℕ
descriptor_length_word = 3

abbrev pub number_word : ℕ
number_word = 4

-- a name and a descriptor, whose starts and lengths are the four words from `at` on
unfoldable pub signature_clean : List ℕ → ℕ → List ℕ → Bool → Bool
signature_clean ws at text clean =
    part_clean text clean (get_or ws at 0) (get_or ws (at + name_length_word) 0)
    && part_clean text clean (get_or ws (at + descriptor_start_word) 0) (get_or ws (at + descriptor_length_word) 0)

-- record i of this width: a name, a descriptor, and a number up to `most`
unfoldable pub member_clean : List ℕ → ℕ → ℕ → List ℕ → Bool → ℕ → Bool
member_clean ws width most text clean i = signature_clean ws (width * i) text clean && leb (get_or ws (width * i + number_word) 0) most
