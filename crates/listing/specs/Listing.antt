-- The listing's text, of the bytes of both sheets. Assumes nothing.
use Rattle.std.specs.Prelude.{ℕ, zero, suc, ◌+◌, cond, List, [], ◌∷◌, ◌++◌, replicate, eqb, Option, Some, None}
use Rattle.abi_sheet.specs.AbiSheet.{abi_sheet_words}
use Rattle.words.specs.Folds.{table}
use Rattle.descriptor.specs.Bytes.{text}
use Rattle.class_sheet.specs.ClassSheet.{class_count, sheet_words}
use Rattle.sheet.specs.Sheet.{read_class_sheet, read_abi_sheet}
use Rattle.refusal.specs.declared.Refusal.{Refusal}
use Rattle.refusal.specs.Rows.{row as number}
use Rattle.linking.specs.Link.{LinkOutcome, link_def}
use Rattle.lines.specs.Lines.{class_lines, class_refused, sheet_refused}

-- the row that refuses a link, or 0
abbrev pub link_row : Option Refusal → ℕ
link_row None = 0
link_row (Some refusal) = number refusal

-- ---- "links all in number order with 11,684 class words lent, in a fresh area of 4,096 words with 1,024 stub words, each 4026531840 +
-- index"

-- "Word 0 is that next place; a fresh area has 1 there."
unfoldable pub fresh_area : List ℕ
fresh_area = 1 ∷ replicate 4095 0

unfoldable pub stub_words : List ℕ
stub_words = table 1024 (λ i. 4026531840 + i)

-- the list of missing slots: 33 words for each of 64 classes, so that it is never too short
unfoldable pub fresh_counts : List ℕ
fresh_counts = replicate 2112 0

-- a link's row, 0 where it is accepted, with the words, the area and the counts that it leaves
pub record Linked : Type 0 where
  pub row : ℕ
  pub set : List ℕ
  pub area : List ℕ
  pub missing : List ℕ

abbrev pub linked : ℕ → List ℕ → List ℕ → List ℕ → Linked
linked row ws area missing = record { row = row; set = ws; area = area; missing = missing }

unfoldable pub link_one : List ℕ → List ℕ → ℕ → List ℕ → List ℕ → List ℕ → Linked
link_one abi stubs c ws area missing =
    let o : LinkOutcome = link_def ws abi c area stubs missing in linked o.outcome.refusal o.outcome.set o.outcome.area o.missing

-- the rows of several links, with the words, the area and the counts after all of them
pub record Links : Type 0 where
  pub rows : List ℕ
  pub set : List ℕ
  pub area : List ℕ
  pub missing : List ℕ

abbrev pub links : List ℕ → List ℕ → List ℕ → List ℕ → Links
links rows ws area missing = record { rows = rows; set = ws; area = area; missing = missing }

-- n classes from class c on, each linked in what the link before it left
unfoldable pub link_all : List ℕ → List ℕ → ℕ → ℕ → List ℕ → List ℕ → List ℕ → Links
link_all abi stubs zero c ws area missing = links [] ws area missing
link_all abi stubs (suc n) c ws area missing =
    let o : Linked = link_one abi stubs c ws area missing in
    let rest : Links = link_all abi stubs n (c + 1) o.set o.area o.missing in
    links (o.row ∷ rest.rows) rest.set rest.area rest.missing

-- ---- "and writes class number, name, words, slots; then slot, name, descriptor, target"; "A refusal prints `class N refused R`"

-- a class's text, by its link's row
unfoldable pub class_text : List ℕ → List ℕ → List ℕ → ℕ → ℕ → List ℕ
class_text ws abi area c row = cond (eqb row 0) (class_lines ws abi area c) (class_refused c row)

-- the texts of the classes from class c on
unfoldable pub class_texts : List ℕ → List ℕ → List ℕ → ℕ → List ℕ → List ℕ
class_texts ws abi area c [] = []
class_texts ws abi area c (row ∷ rows) = class_text ws abi area c row ++ class_texts ws abi area (c + 1) rows

-- the texts of all classes of a set, in the words and the area after all links
unfoldable pub set_text : List ℕ → List ℕ → List ℕ
set_text ws abi =
    let all : Links = link_all abi stub_words (class_count ws) 1 ws fresh_area fresh_counts in class_texts all.set abi all.area 1 all.rows

-- ---- the whole: "reads `abi.bin`, then `classes.bin`"; "a bad sheet `abi refused R` or `classes refused R` and ends"

-- what stands on the line of a bad ABI sheet; nothing for a good one
unfoldable pub abi_line : List ℕ → List ℕ
abi_line abi =
    let row : ℕ = (read_abi_sheet abi (replicate abi_sheet_words 0)).refusal in cond (eqb row 0) [] (sheet_refused (text "abi") row)

-- the text where the ABI words are read
unfoldable pub classes_text : List ℕ → List ℕ → List ℕ
classes_text abi classes =
    let read = read_class_sheet classes (replicate sheet_words 0) in
    cond (eqb read.refusal 0) (set_text read.memory abi) (sheet_refused (text "classes") read.refusal)

unfoldable pub listing : List ℕ → List ℕ → List ℕ
listing abi classes =
    let read = read_abi_sheet abi (replicate abi_sheet_words 0) in cond (eqb read.refusal 0) (classes_text read.memory classes) (abi_line abi)
