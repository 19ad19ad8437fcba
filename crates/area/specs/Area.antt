-- What the code reads from the table area and writes into it, and what a call answers. Assumes nothing.
use Rattle.std.specs.Prelude.{ℕ, zero, suc, ◌+◌, ◌≤◌, ◌≡◌, Bool, cond, ◌||◌, List, [], ◌∷◌, ◌++◌, length, get_or, set, eqb, ltb, Option, Some, None, Result, Ok, Err}
use Rattle.words.specs.Lists.{list_from}
use Rattle.linking.specs.Vtable.{slot_word}
use Rattle.linking.specs.Link.{next_free, no_room, Outcome, refused_call}
use Rattle.linking.specs.Set.{write_at}
use Rattle.linking.specs.Ask.{Walk, hit, missed, broken}
use Rattle.refusal.specs.declared.Refusal.{Refusal}
use Rattle.refusal.specs.Rows.{row, row_of}
use Rattle.area.specs.declared.Walked.{Walked}
use Rattle.area.specs.declared.Answer.{Answer}

-- ---- answers

-- "An accepted call gives 0 and its result; a refused one gives its number, zero in every other answer word": the number and the two
-- values of an answer, with the set and the area that the call leaves
abbrev pub outcome : Result Answer Refusal → List ℕ → List ℕ → Outcome
outcome (Ok a) ws area = record { refusal = 0; first = a.first; second = a.second; set = ws; area = area }
outcome (Err refusal) ws area = refused_call (row refusal) ws area

-- what the walk's answer stands for
abbrev pub node_or_end : Option ℕ → ℕ → Walk
node_or_end (Some n) nodes = hit n nodes
node_or_end None nodes = missed nodes

abbrev pub walk_of : Result Walked Refusal → Walk
walk_of (Ok w) = node_or_end w.node w.read
walk_of (Err refusal) = broken

-- the nodes that it counts
abbrev pub nodes_read : Result Walked Refusal → ℕ
nodes_read (Ok w) = w.read
nodes_read (Err refusal) = 0

-- the nodes of a list from n on, up to interface i's and with it, as many as may be read
unfoldable pub nodes_to : List ℕ → ℕ → ℕ → ℕ → List ℕ
nodes_to area i zero n = []
nodes_to area i (suc left) n =
    cond (eqb n 0) [] (n ∷ cond (eqb (get_or area (n + 1) 0) i) [] (nodes_to area i left (get_or area n 0)))

-- "Nodes read equal those the walk's definition passes, at most 64": a walk that row 7 does not refuse counts the nodes that it passes
pub record Counted (r : Result Walked Refusal) (passed : List ℕ) : Type 0 where
  pub all : row_of r ≡ 0 → nodes_read r ≡ length passed
  pub few : nodes_read r ≤ 64

-- ---- tables and nodes, by the words of n slots

-- "A slot that is empty or of target 0 takes the stub word at its index."
unfoldable pub slots_of : List ℕ → List ℕ → ℕ → List ℕ
slots_of ts stubs n = list_from (λ i. slot_word (get_or ts i 0) (get_or stubs i 0)) 0 n

-- "class number, slots, then a zero list head"
unfoldable pub table_words : ℕ → List ℕ → List ℕ → ℕ → List ℕ
table_words c ts stubs n = c ∷ (slots_of ts stubs n ++ (0 ∷ []))

-- "a node (old head, interface number, slots)"
unfoldable pub node_words : ℕ → ℕ → List ℕ → List ℕ → ℕ → List ℕ
node_words old i ts stubs n = old ∷ i ∷ slots_of ts stubs n

-- nothing is written where row 15 refuses, or row 7 for the area's length
unfoldable pub may_not_write : List ℕ → List ℕ → ℕ → Bool
may_not_write area stubs n = no_room area stubs n || ltb 4294967295 (length area)

-- the area with a class's table from the next free word on
unfoldable pub table_written : List ℕ → ℕ → List ℕ → ℕ → List ℕ → List ℕ
table_written area c ts n stubs =
    cond (may_not_write area stubs n)
    area
    (set (write_at area (next_free area) (table_words c ts stubs n)) 0 (next_free area + n + 2))

-- the area with a node there, in front of the list whose head is at `head`
unfoldable pub node_written : List ℕ → ℕ → ℕ → List ℕ → ℕ → List ℕ → List ℕ
node_written area head i ts n stubs =
    cond (may_not_write area stubs n)
    area
    (set (set (write_at area (next_free area) (node_words (get_or area head 0) i ts stubs n)) head (next_free area)) 0 (next_free area + n + 2))
