-- Bytes and texts of bytes, and the two classes of bytes that the grammar of descriptors tells apart. Assumes nothing.
use Rattle.std.specs.Prelude.{ℕ, Bool, not, List, [], ◌∷◌, eqb}
use Prim.Native.Char.{Char, code}
use Prim.Native.String.{String}
use Prim.Native.String as string
use Rattle.words.specs.Lists.{some}

-- the bytes of an ASCII text
abbrev pub text : String → List ℕ
text string.[] = []
text (string.◌∷◌ c s) = code c ∷ text s

-- the byte of an ASCII character
abbrev pub byte : Char → ℕ
byte c = code c

-- a byte that is a base type, JVMS 4.3.2
unfoldable pub is_base_byte : ℕ → Bool
is_base_byte b = some (λ x. eqb x b) (text "BCDFIJSZ")

-- a byte that an unqualified name may have, JVMS 4.2.2: none of . ; [ /
unfoldable pub is_name_byte : ℕ → Bool
is_name_byte b = not (some (λ x. eqb x b) (text ".;[/"))
