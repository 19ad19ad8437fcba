-- The text of a class file's members, in the form that `tools/sheet make` reads (`class NAME extends PARENT`, `flags N`, `method ..`, `field ..`); or
-- the row that refuses the file. Assumes nothing.
use Rattle.std.specs.Prelude.{ℕ, ◌+◌, ◌*◌, ◌%◌, cond, List, [], ◌∷◌, ◌++◌, length, ◌==◌}
use Rattle.words.specs.Folds.{table}
use Rattle.descriptor.specs.Bytes.{text}
use Rattle.linking.specs.Compiler.{New}
use Rattle.class_members.specs.Members.{file_name, file_parent, file_flags, file_fields, file_methods, file_refusal}
use Rattle.lines.specs.Lines.{line_end, numbered}

-- ---- lines, each ended by a newline

-- a parent after its class, nothing for none
abbrev pub extends : List ℕ → List ℕ
extends [] = []
extends (b ∷ bs) = text " extends " ++ (b ∷ bs)

-- `class NAME extends PARENT`
unfoldable pub class_text : List ℕ → List ℕ → List ℕ
class_text name parent = text "class " ++ (name ++ (extends parent ++ line_end))

-- `  flags N`
unfoldable pub flags_text : ℕ → List ℕ
flags_text flags = numbered "  flags " flags ++ line_end

-- `  method NAME DESCRIPTOR TARGET flags N`; `  field NAME DESCRIPTOR INDEX flags N`
unfoldable pub member_text : List ℕ → List ℕ → List ℕ → ℕ → ℕ → List ℕ
member_text kind name descriptor last flags =
    kind ++ (name ++ (text " " ++ (descriptor ++ (numbered " " last ++ (numbered " flags " flags ++ line_end)))))

-- the lines of members, in order
unfoldable pub member_texts : List ℕ → List New → List ℕ
member_texts kind [] = []
member_texts kind (x ∷ xs) = member_text kind x.name x.descriptor x.last x.flags ++ member_texts kind xs

-- `refused R`
unfoldable pub refused_text : ℕ → List ℕ
refused_text row = numbered "refused " row ++ line_end

-- ---- targets: method m's is the first one and m steps, modulo 2^32

unfoldable pub target_of : ℕ → ℕ → ℕ → ℕ
target_of first step m = (first + step * m) % 4294967296

-- of n methods
unfoldable pub targets : ℕ → ℕ → ℕ → List ℕ
targets first step n = table n (target_of first step)

-- ---- the text

-- of a file that no row refuses: the members that a reading yields, methods with these targets, fields with word index 0
unfoldable pub class_lines : List ℕ → ℕ → ℕ → List ℕ
class_lines bs first step =
    class_text (file_name bs) (file_parent bs)
    ++ (flags_text (file_flags bs)
    ++ (member_texts (text "  method ") (file_methods bs (targets first step (length (file_methods bs []))))
    ++ member_texts (text "  field ") (file_fields bs)))

-- of any bytes; the rows are those that judge a file without lists
unfoldable pub members_text : List ℕ → ℕ → ℕ → List ℕ
members_text bs first step = cond ((file_refusal bs []) == 0) (class_lines bs first step) (refused_text (file_refusal bs []))
