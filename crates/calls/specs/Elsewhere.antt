-- ELSEWHERE: `Elsewhere`, at the end, is its statement. "Old answers that change: links and asks naming ABI classes where entries of two
-- signatures had one index, at most their descendants too, and elsewhere only through places, room and nodes read." One list of calls is run from one
-- unlinked sheet and area by the linker (`outcome`) and by the one before (`outcome_before`), which compared bytes and got no list of numbers.
-- Assumes nothing.
use Rattle.std.specs.Prelude.{ℕ, ◌≤◌, ◌≡◌, ◌≢◌, ◌⊎◌, Bool, true, not, eqb}
use mathlib.Core.List.{List, [], ◌∷◌, ◌++◌, Memᴰ}
use Rattle.class_sheet.specs.ClassSheet.{class_count, class_slot_count}
use Rattle.linking.specs.Chain.{chain}
use Rattle.linking.specs.Link.{next_free, Outcome}
use Rattle.calls.specs.Calls.{Call, link, ask, Way, outcome, left, way_left, ByNumbers, Unlinked, table_at}
use Rattle.calls.specs.OldRun.{outcome_before, left_before, clashes}

-- the classes that a call names
abbrev pub named : Call → List ℕ
named (link c stubs) = c ∷ []
named (ask c i stubs) = c ∷ i ∷ []

-- how many slots the table has whose place a call answers: a link's own, or an ask's node, which has the interface's
abbrev pub slots_of : Call → Outcome → ℕ
slots_of (link c stubs) o = o.second
slots_of (ask c i stubs) o = class_slot_count o.set i

-- a call takes words of the area: it has linked, or put a node
abbrev pub takes : List ℕ → Outcome → Bool
takes area o = not (eqb (next_free o.area) (next_free area))

-- not refused for "room": rows 14 and 15
abbrev pub Roomy : Outcome → Type 0
Roomy o = (o.refusal ≢ 14) × (o.refusal ≢ 15)

-- the answers o, of call k on the first area, and p, on the second: places and nodes read aside, the same
pub record SameAnswer (k : Call) (area before : List ℕ) (o p : Outcome) : Type 0 where
  pub refusal : o.refusal ≡ p.refusal
  pub takes : takes area o ≡ takes before p
  pub slots : o.refusal ≡ 0 → slots_of k o ≡ slots_of k p
  pub words : o.refusal ≡ 0 → table_at o.area o.first (slots_of k o) ≡ table_at p.area p.first (slots_of k p)

-- what call k answers and leaves after those in front of it, by the linker and by the one before
abbrev pub now : Way → List ℕ → List ℕ → List ℕ → List ℕ → List Call → Call → Outcome
now way ws abi area missing front k = outcome (way_left way ws abi area missing front) abi (left way ws abi area missing front) k

abbrev pub before : List ℕ → List ℕ → List ℕ → List ℕ → List Call → Call → Outcome
before ws abi area missing front k = outcome_before abi (left_before ws abi area missing front) k

module _ (way : Way) (ws abi area missing : List ℕ) (calls : List Call) where
  -- "entries of two signatures had one index", at a link of class c in either run
  pub record Clashing (c : ℕ) : Type 0 where
    pub front : List Call
    pub back : List Call
    pub stubs : List ℕ
    pub split : calls ≡ front ++ (link c stubs ∷ back)
    pub clash : (clashes abi (left way ws abi area missing front) (link c stubs) ≡ true)
        ⊎ (clashes abi (left_before ws abi area missing front) (link c stubs) ≡ true)

  -- neither class c nor a class that it descends from does
  abbrev pub Clear : ℕ → Type 0
  Clear c = c ≤ class_count ws → (d : ℕ) → Memᴰ d (chain ws c) → Clashing d → ⊥

  -- a call names no such class, and no descendant of one
  abbrev pub IsElsewhere : Call → Type 0
  IsElsewhere k = (c : ℕ) → Memᴰ c (named k) → Clear c

  -- no call elsewhere is refused for room, in either run
  abbrev pub AllRoomy : Type 0
  AllRoomy =
      (front back : List Call) (k : Call) → calls ≡ front ++ (k ∷ back) → IsElsewhere k
      → Roomy (now way ws abi area missing front k) × Roomy (before ws abi area missing front k)

  -- a call elsewhere answers the same
  abbrev pub AllSame : Type 0
  AllSame =
      (front back : List Call) (k : Call) → calls ≡ front ++ (k ∷ back) → IsElsewhere k
      → SameAnswer k (left way ws abi area missing front).area (left_before ws abi area missing front).area (now way ws abi area missing front k)
      (before ws abi area missing front k)

-- for every list of calls, from an unlinked sheet, with one ABI sheet and whatever the area and the list of counts hold
abbrev pub ElsewhereBy : Way → List ℕ → List ℕ → List ℕ → List ℕ → Type 0
ElsewhereBy way ws abi area missing =
    Unlinked ws → (calls : List Call) → AllRoomy way ws abi area missing calls → AllSame way ws abi area missing calls

abbrev pub Elsewhere : Type 0
Elsewhere = ByNumbers ElsewhereBy
