-- DEMAND 1, of what is refused: "An accepted call gives 0 and its result; a refused one gives its number, zero in every other answer word, and
-- unchanged lent memory." For every exported call that can refuse: where its number is not 0, its outcome is that number, zeros, and all memory as it was
-- lent; and which numbers a link, an ask, asking for a count, a filling of the list of numbers and a reading have. `harmless` of proofs/Theorem.antt proves it. Assumes nothing.
use Rattle.std.specs.Prelude.{ℕ, ◌≤◌, ◌≡◌, ◌≢◌, ◌⊎◌, List, []}
use Rattle.descriptor.specs.Words as descriptor
use Rattle.descriptor.specs.Words.{argument_answer}
use Rattle.references.specs.References as references
use Rattle.references.specs.References.{read_references, count_references}
use Rattle.sheet.specs.Sheet as sheet
use Rattle.sheet.specs.Sheet.{read_class_sheet, read_unordered_sheet, read_abi_sheet}
use Rattle.writer.specs.Writer as writer
use Rattle.writer.specs.Writer.{write_class_sheet}
use Rattle.renumber.specs.Renumber as renumber
use Rattle.renumber.specs.Renumber.{renumber_def}
use Rattle.convert.specs.Convert.{widen_sheet, narrow_sheet}
use Rattle.linking.specs.Link.{refused_call, refused_link}
use Rattle.linking.specs.Missing.{turned_away, missing_def}
use Rattle.linking.specs.Numbers.{refused_filling, fill_def}
use Rattle.linking.specs.Numbered.{leaving, link_numbered, ask_numbered}
use Rattle.class_members.specs.Members.{refused_by, read_class_file, class_file_head}

-- an outcome whose number is not 0 is the refused one of that number
abbrev pub Refused : {O : Type 0} → (O → ℕ) → (ℕ → O) → O → Type 0
Refused row refused o = row o ≢ 0 → o ≡ refused (row o)

-- the refused outcomes: the number, zeros, and the memory that was lent
abbrev pub refused_reading : List ℕ → ℕ → sheet.Outcome
refused_reading ws n = record { refusal = n; words = 0; memory = ws }

abbrev pub refused_writing : List ℕ → ℕ → writer.Outcome
refused_writing bs n = record { refusal = n; blocks = 0; memory = bs }

abbrev pub refused_renumbering : List ℕ → List ℕ → ℕ → renumber.Outcome
refused_renumbering ws list n = record { refusal = n; classes = 0; set = ws; list = list }

abbrev pub refused_bitmap : List ℕ → ℕ → references.Outcome
refused_bitmap list n = record { refusal = n; count = 0; memory = list }

abbrev pub refused_count : ℕ → descriptor.Answer
refused_count n = record { refusal = n; words = 0 }

pub record Harmless : Type 0 where
  -- 1. nothing but the number
  pub read_classes : (bs ws : List ℕ) → Refused (λ o. o.refusal) (refused_reading ws) (read_class_sheet bs ws)
  pub read_unordered : (bs ws : List ℕ) → Refused (λ o. o.refusal) (refused_reading ws) (read_unordered_sheet bs ws)
  pub read_abi : (bs ws : List ℕ) → Refused (λ o. o.refusal) (refused_reading ws) (read_abi_sheet bs ws)
  pub write : (ws bs : List ℕ) → Refused (λ o. o.refusal) (refused_writing bs) (write_class_sheet ws bs)
  pub widen : (bs out : List ℕ) → Refused (λ o. o.refusal) (refused_writing out) (widen_sheet bs out)
  pub narrow : (bs out : List ℕ) → Refused (λ o. o.refusal) (refused_writing out) (narrow_sheet bs out)
  pub renumber : (ws list : List ℕ) → Refused (λ o. o.refusal) (refused_renumbering ws list) (renumber_def ws list)
  pub link : (ws abi numbers : List ℕ) (c : ℕ) (area stubs missing : List ℕ)
      → Refused (λ o. o.outcome.refusal) (λ n. leaving (refused_link n ws area missing) numbers) (link_numbered ws abi numbers c area stubs missing)
  pub missing : (ws abi missing : List ℕ) (c : ℕ) → Refused (λ o. o.refusal) turned_away (missing_def ws abi missing c)
  pub fill : (ws abi ns : List ℕ) → Refused (λ o. o.refusal) (λ n. refused_filling n ns) (fill_def ws abi ns)
  pub ask : (ws abi numbers : List ℕ) (c i : ℕ) (area stubs : List ℕ)
      → Refused (λ o. o.refusal) (λ n. refused_call n ws area) (ask_numbered ws abi numbers c i area stubs)
  pub references : (bitmap : List ℕ) (n : ℕ) (list : List ℕ) → Refused (λ o. o.refusal) (refused_bitmap list) (read_references bitmap n list)
  pub count : (bitmap : List ℕ) (n : ℕ) → Refused (λ o. o.refusal) (refused_bitmap []) (count_references bitmap n)
  pub arguments : (s : List ℕ) (flags : ℕ) → Refused (λ o. o.refusal) refused_count (argument_answer s flags)
  pub class_file : (bs targets fields methods text : List ℕ)
      → Refused (λ o. o.refusal) (λ n. refused_by n fields methods text) (read_class_file bs targets fields methods text)
  pub file_head : (bs : List ℕ) → Refused (λ o. o.refusal) (λ n. refused_by n [] [] []) (class_file_head bs)
  -- 2. and which: a link 3 to 15 and 26, an ask 3 to 7, 15 and 16, asking for a count 3 to 6 and 15, a filling 3 to 5, a reading 1 to 5, one in any order 1 to 3
  pub rows_of_link : (ws abi numbers : List ℕ) (c : ℕ) (area stubs missing : List ℕ)
      → (link_numbered ws abi numbers c area stubs missing).outcome.refusal ≢ 0
      → ((3 ≤ (link_numbered ws abi numbers c area stubs missing).outcome.refusal)
      × ((link_numbered ws abi numbers c area stubs missing).outcome.refusal ≤ 15))
      ⊎ ((link_numbered ws abi numbers c area stubs missing).outcome.refusal ≡ 26)
  pub missing_rows : (ws abi missing : List ℕ) (c : ℕ) → (missing_def ws abi missing c).refusal ≢ 0
      → ((3 ≤ (missing_def ws abi missing c).refusal) × ((missing_def ws abi missing c).refusal ≤ 6)) ⊎ ((missing_def ws abi missing c).refusal ≡ 15)
  pub fill_rows : (ws abi ns : List ℕ) → (fill_def ws abi ns).refusal ≢ 0 → (3 ≤ (fill_def ws abi ns).refusal) × ((fill_def ws abi ns).refusal ≤ 5)
  pub ask_rows : (ws abi numbers : List ℕ) (c i : ℕ) (area stubs : List ℕ) → (ask_numbered ws abi numbers c i area stubs).refusal ≢ 0
      → ((3 ≤ (ask_numbered ws abi numbers c i area stubs).refusal) × ((ask_numbered ws abi numbers c i area stubs).refusal ≤ 7))
      ⊎ ((15 ≤ (ask_numbered ws abi numbers c i area stubs).refusal) × ((ask_numbered ws abi numbers c i area stubs).refusal ≤ 16))
  pub rows_of_classes : (bs ws : List ℕ) → (read_class_sheet bs ws).refusal ≤ 5
  pub rows_of_abi : (bs ws : List ℕ) → (read_abi_sheet bs ws).refusal ≤ 5
  pub unordered_rows : (bs ws : List ℕ) → (read_unordered_sheet bs ws).refusal ≤ 3
