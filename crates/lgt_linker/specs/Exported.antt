-- What an exported call answers: the number that it returns, then the words of the small array that it is lent. Assumes nothing.
use Rattle.std.specs.Prelude.{ℕ, cond, List, get_or}
use Rattle.text.specs.Text.{same_bytes, pairs_read}
use Rattle.linking.specs.Link.{Outcome}
use Rattle.linking.specs.Numbered.{NumberedOutcome}
use Rattle.linking.specs.Missing as asking
use Rattle.linking.specs.Numbers.{FillOutcome}
use Rattle.sheet.specs.Sheet as sheet
use Rattle.writer.specs.Writer as writer
use Rattle.renumber.specs.Renumber as renumber
use Rattle.descriptor.specs.Words as descriptor
use Rattle.references.specs.References as references
use Rattle.class_members.specs.Members.{FileOutcome}

-- "An accepted call gives 0 and its result; a refused one gives its number, zero in every other answer word": a link or an ask that
-- returns `row` and leaves the answer words, the set and the area
abbrev pub called : ℕ → List ℕ → List ℕ → List ℕ → Outcome
called row answer ws area =
    record { refusal = row; first = get_or answer 0 0; second = get_or answer 1 0; set = ws; area = area }

-- the same of a link, which also leaves the list of missing slots and the list of numbers
abbrev pub linked_by : ℕ → List ℕ → List ℕ → List ℕ → List ℕ → List ℕ → NumberedOutcome
linked_by row answer ws area missing numbers = record { outcome = called row answer ws area; missing = missing; numbers = numbers }

-- a question for missing slots that returns `row` and leaves the answer word
abbrev pub counted_by : ℕ → List ℕ → asking.Missing
counted_by row answer = record { refusal = row; count = get_or answer 0 0 }

-- a filling of the list of numbers that returns `row` and leaves the list
abbrev pub filled_by : ℕ → List ℕ → FillOutcome
filled_by row ns = record { refusal = row; numbers = ns }

-- a reading that returns `row` and leaves the answer word and the lent words
abbrev pub read_by : ℕ → List ℕ → List ℕ → sheet.Outcome
read_by row answer ws = record { refusal = row; words = get_or answer 0 0; memory = ws }

-- a writing that returns `row` and leaves the answer word and the lent bytes
abbrev pub written_by : ℕ → List ℕ → List ℕ → writer.Outcome
written_by row answer bs = record { refusal = row; blocks = get_or answer 0 0; memory = bs }

-- a renumbering that returns `row` and leaves the answer word, the set and the list
abbrev pub renumbered_by : ℕ → List ℕ → List ℕ → List ℕ → renumber.Outcome
renumbered_by row answer ws order = record { refusal = row; classes = get_or answer 0 0; set = ws; list = order }

-- argument words
abbrev pub arguments_by : ℕ → List ℕ → descriptor.Answer
arguments_by row answer = record { refusal = row; words = get_or answer 0 0 }

-- "The comparison also counts the byte pairs it read": 0, as nothing is refused, 1 for the same names and 0 for others, and the count. The papers give no
-- numbers for same and other: 1 and 0 are our choice.
pub record Comparison : Type 0 where
  pub refusal : ℕ
  pub same : ℕ
  pub pairs : ℕ

unfoldable pub compare_names : List ℕ → List ℕ → Comparison
compare_names a b = record { refusal = 0; same = cond (same_bytes a b) 1 0; pairs = pairs_read a b }

abbrev pub compared_by : ℕ → List ℕ → Comparison
compared_by row answer = record { refusal = row; same = get_or answer 0 0; pairs = get_or answer 1 0 }

-- a reading of a bitmap that returns `row` and leaves the answer word and the lent list
abbrev pub references_by : ℕ → List ℕ → List ℕ → references.Outcome
references_by row answer list = record { refusal = row; count = get_or answer 0 0; memory = list }

-- a reading of a class file that returns `row` and leaves the six answer words and the lent lists
abbrev pub file_by : ℕ → List ℕ → List ℕ → List ℕ → List ℕ → FileOutcome
file_by row answer fields methods text =
    record {
      refusal = row;
      name = get_or answer 0 0;
      parent = get_or answer 1 0;
      flags = get_or answer 2 0;
      field_count = get_or answer 3 0;
      method_count = get_or answer 4 0;
      text_length = get_or answer 5 0;
      fields = fields;
      methods = methods;
      text = text;
    }
