-- A KEPT INTERFACE TABLE IS STILL THE RIGHT ONE: `OnceOnly` and `KeptTables`, at the end, are the statements, with what they come to for asks;
-- proofs/Kept.antt, Found.antt and ByNumbers.antt prove them. They speak of what a list of calls leaves, and so of every beginning of it. Assumes nothing.
use Rattle.std.specs.Prelude.{ℕ, ◌+◌, ◌≤◌, ◌<◌, ◌≡◌, ◌≢◌, ◌⊎◌, length, get_or, set}
use mathlib.Core.List.{List, [], ◌∷◌, ◌++◌, map, Memᴰ}
use Rattle.class_sheet.specs.ClassSheet.{class_count, text_of, class_slot_count}
use Rattle.abi_sheet.specs.AbiSheet.{abi_text_of}
use Rattle.linking.specs.Signature.{by_sheets}
use Rattle.linking.specs.Vtable.{Entry, Built, built, table_entries, slot_words}
use Rattle.linking.specs.Link.{HasTable, next_free}
use Rattle.linking.specs.Ask.{hit, missed, broken, walk, head_place, dispatch_entries}
use Rattle.linking.specs.Numbers.{Filled}
use Rattle.calls.specs.Calls.{Call, ask, Way, numbered, ByNumbers, AnyWay, State, start, outcome, way_after, step, left, way_left, Unlinked, table_at, stubs_of}

-- every call lends this stub list
abbrev pub SameStubs : List ℕ → List Call → Type 0
SameStubs stubs [] = Unit {0}
SameStubs stubs (k ∷ ks) = (stubs_of k ≡ stubs) × SameStubs stubs ks

-- ---- a class's list: a node at n holds the next node's place (word n), its interface (n + 1) and its slots from n + 2 on; an ask answers n + 1

abbrev pub head_of : State → ℕ → ℕ
head_of s c = get_or s.area (head_place s.set c) 0

abbrev pub interface_at : List ℕ → ℕ → ℕ
interface_at area node = get_or area (node + 1) 0

-- a head and the links from it spell these places, and end in 0; a ring spells none
abbrev pub Spells : List ℕ → ℕ → List ℕ → Type 0
Spells area head [] = head ≡ 0
Spells area head (n ∷ ns) = (head ≡ n) × (n ≢ 0) × Spells area (get_or area n 0) ns

-- the node is one of class c's list, and of interface i
pub record OnList (s : State) (c i node : ℕ) : Type 0 where
  pub places : List ℕ
  pub spelt : Spells s.area (head_of s c) places
  pub along : Memᴰ node places
  pub of : interface_at s.area node ≡ i

-- no number twice
abbrev pub Different : List ℕ → Type 0
Different [] = Unit {0}
Different (x ∷ xs) = (Memᴰ x xs → ⊥) × Different xs

-- "no interface occurs twice on one list, so the nodes read never exceed the number of classes"
pub record Once (way : Way) (abi : List ℕ) (classes : ℕ) (s : State) (c : ℕ) : Type 0 where
  pub places : List ℕ
  pub spelt : Spells s.area (head_of s c) places
  pub different : Different (map (interface_at s.area) places)
  -- whatever stub lists were lent, the interface numbers on it are linked classes of the set
  pub linked : (node : ℕ) → Memᴰ node places → HasTable s.set (interface_at s.area node)
  pub few : length places ≤ classes
  -- so row 7 has nothing against it
  pub sound : (i : ℕ) → walk s.area i 64 0 (head_of s c) ≢ broken
  -- what a walk reads, of an ask accepted or refused: all of them where it misses, no more where it hits
  pub misses : (i k : ℕ) → walk s.area i 64 0 (head_of s c) ≡ missed k → k ≡ length places
  pub hits : (i node k : ℕ) → walk s.area i 64 0 (head_of s c) ≡ hit node k → k ≤ length places
  -- an accepted ask's second answer is the nodes that it read
  pub nodes_read : (i : ℕ) (stubs : List ℕ) → (outcome way abi s (ask c i stubs)).refusal ≡ 0 → (outcome way abi s (ask c i stubs)).second ≤ classes

-- ---- a table found on a class's list

-- "would be built afresh at that moment": the entries that an ask builds where it finds none, from the set, the ABI sheet and the area as they
-- are then, or row 16's refusal
abbrev pub built_afresh : List ℕ → State → ℕ → ℕ → Built
built_afresh abi s c i =
    dispatch_entries (by_sheets s.set abi) s.set c (table_entries (by_sheets s.set abi) s.set (text_of s.set) abi (abi_text_of abi) s.area i)

-- the table of the node at this place is the one that would be built afresh of class c for interface i with this stub list, "slot for slot". Of row 15
-- the stub list is long enough; whether the area has room for another table is not asked.
pub record Right (abi stubs : List ℕ) (s : State) (c i node : ℕ) : Type 0 where
  pub interface : HasTable s.set i
  pub entries : List Entry
  pub afresh : built_afresh abi s c i ≡ built entries
  pub size : length entries ≡ class_slot_count s.set i
  pub enough : length entries ≤ length stubs
  pub slots : table_at s.area (node + 1) (length entries) ≡ slot_words stubs 0 entries

-- ---- a table that an ask answers

-- the table that an ask answers, in the area that it leaves
abbrev pub answered : Way → List ℕ → State → ℕ → ℕ → List ℕ → List ℕ
answered way abi s c i stubs = table_at (outcome way abi s (ask c i stubs)).area (outcome way abi s (ask c i stubs)).first (class_slot_count s.set i)

-- the same memory, but that class c's list is empty
abbrev pub without_list : State → ℕ → State
without_list s c = record { set = s.set; area = set s.area (head_place s.set c) 0; missing = s.missing }

-- the area has no room for another node of interface i: two words and its slots
abbrev pub Full : State → ℕ → Type 0
Full s i = length s.area < next_free s.area + class_slot_count s.set i + 2

-- the ask builds on the emptied list the slots that it answers on this one, if the area has room for them
abbrev pub BuildsSame : Way → List ℕ → State → ℕ → ℕ → List ℕ → Type 0
BuildsSame way abi s c i stubs =
    (((outcome way abi (without_list s c) (ask c i stubs)).refusal ≡ 15) × Full s i)
    ⊎ (((outcome way abi (without_list s c) (ask c i stubs)).refusal ≡ 0) × (answered way abi s c i stubs ≡ answered way abi (without_list s c) c i stubs))

-- an ask for interface i finds this node: it reads the nodes before it and this one, answers its place, and leaves set and area
pub record Found (way : Way) (abi : List ℕ) (s : State) (c i node : ℕ) (stubs : List ℕ) : Type 0 where
  pub front : List ℕ
  pub back : List ℕ
  pub spelt : Spells s.area (head_of s c) (front ++ node ∷ back)
  pub accepted : (outcome way abi s (ask c i stubs)).refusal ≡ 0
  pub place : (outcome way abi s (ask c i stubs)).first ≡ node + 1
  pub nodes : (outcome way abi s (ask c i stubs)).second ≡ length front + 1
  pub same_set : (outcome way abi s (ask c i stubs)).set ≡ s.set
  pub same_area : (outcome way abi s (ask c i stubs)).area ≡ s.area

-- the table that an ask answered is at this place, on the class's list, and right
pub record AnswerKept (abi stubs : List ℕ) (s : State) (c i place : ℕ) : Type 0 where
  pub node : ℕ
  pub at : place ≡ node + 1
  pub on : OnList s c i node
  pub right : Right abi stubs s c i node

-- an ask in the list was accepted, and answered this place and so many nodes
pub data AskedIn (abi : List ℕ) (c i place nodes : ℕ) : Way → State → List Call → Type 0 where
  asked_now : {way : Way} {s : State} {ks : List Call} (stubs : List ℕ)
      → (outcome way abi s (ask c i stubs)).refusal ≡ 0
      → (outcome way abi s (ask c i stubs)).first ≡ place
      → (outcome way abi s (ask c i stubs)).second ≡ nodes
      → AskedIn abi c i place nodes way s (ask c i stubs ∷ ks)
  asked_later : {way : Way} {s : State} {k : Call} {ks : List Call}
      → AskedIn abi c i place nodes (way_after way abi s k) (step way abi s k) ks → AskedIn abi c i place nodes way s (k ∷ ks)

-- ---- of all lists, nodes and asks of one state

-- of every node on a linked class's list
abbrev pub AllRight : List ℕ → State → List ℕ → Type 0
AllRight abi s stubs = (c i node : ℕ) → HasTable s.set c → OnList s c i node → Right abi stubs s c i node

module _ (way : Way) (abi : List ℕ) (s : State) where
  -- of every linked class's list; the sheet has so many classes
  abbrev pub AllOnce : ℕ → Type 0
  AllOnce classes = (c : ℕ) → HasTable s.set c → Once way abi classes s c

  -- "a table found on a class's list": every node on it is what an ask answers, whatever stub list that lends
  abbrev pub AllFound : Type 0
  AllFound = (c i node : ℕ) → HasTable s.set c → OnList s c i node → (stubs : List ℕ) → Found way abi s c i node stubs

  -- an accepted ask answers, found or built, the slots that the same ask builds where the class's list is empty
  abbrev pub AllAfresh : List ℕ → Type 0
  AllAfresh stubs = (c i : ℕ) → (outcome way abi s (ask c i stubs)).refusal ≡ 0 → BuildsSame way abi s c i stubs

-- ---- the statements: after any links and asks on an unlinked sheet, "whether accepted or refused", each call on what the last one left, with
-- one ABI sheet; whatever the area and the list of counts hold at the start. `..By` are the claims, however the calls compare signatures.

module _ (way : Way) (ws abi area missing : List ℕ) where
  -- whatever stub lists were lent
  abbrev pub OnceBy : Type 0
  OnceBy = Unlinked ws → (calls : List Call) → AllOnce (way_left way ws abi area missing calls) abi (left way ws abi area missing calls) (class_count ws)

  -- where one stub list was lent
  abbrev pub TablesBy : Type 0
  TablesBy = (stubs : List ℕ) → Unlinked ws → (calls : List Call) → SameStubs stubs calls → AllRight abi (left way ws abi area missing calls) stubs

  -- what they come to for asks

  -- "the nodes read never exceed the number of classes"
  abbrev pub NodesBy : Type 0
  NodesBy =
      Unlinked ws → (calls : List Call) (c i place nodes : ℕ) → AskedIn abi c i place nodes way (start ws area missing) calls → nodes ≤ class_count ws

  -- a table that an ask of the list answered: a caller may keep the place
  abbrev pub AnswersBy : Type 0
  AnswersBy =
      (stubs : List ℕ) → Unlinked ws → (calls : List Call) → SameStubs stubs calls → (c i place nodes : ℕ)
      → AskedIn abi c i place nodes way (start ws area missing) calls → AnswerKept abi stubs (left way ws abi area missing calls) c i place

  -- whatever stub lists were lent
  abbrev pub FoundBy : Type 0
  FoundBy = Unlinked ws → (calls : List Call) → AllFound (way_left way ws abi area missing calls) abi (left way ws abi area missing calls)

  -- where one stub list was lent, of the asks that lend it too
  abbrev pub AfreshBy : Type 0
  AfreshBy =
      (stubs : List ℕ) → Unlinked ws → (calls : List Call) → SameStubs stubs calls
      → AllAfresh (way_left way ws abi area missing calls) abi (left way ws abi area missing calls) stubs

-- what they say of a class's list, and of the nodes that asks read, is all one however signatures are compared

abbrev pub OnceOnly : Type 0
OnceOnly = AnyWay OnceBy

abbrev pub NodesBound : Type 0
NodesBound = AnyWay NodesBy

abbrev pub FoundAgain : Type 0
FoundAgain = AnyWay FoundBy

-- and what they say of the tables holds of calls that get "sheet, area and ticket 10's list, filled from the two sheets, as the last left them"

abbrev pub KeptTables : Type 0
KeptTables = ByNumbers TablesBy

abbrev pub KeptAnswers : Type 0
KeptAnswers = ByNumbers AnswersBy

abbrev pub AskedAfresh : Type 0
AskedAfresh = ByNumbers AfreshBy

-- ---- the request's own sentences, with "a fresh area": its word 0 is 1. That is not needed: `OnceOnly` and `KeptTables` say the two claims of whatever
-- area, and the first of whatever stub lists

abbrev pub AsAsked : Type 0
AsAsked =
    (ws abi area missing ns stubs : List ℕ) → Unlinked ws → get_or area 0 0 ≡ 1 → Filled ws abi ns → (calls : List Call) → SameStubs stubs calls
    → AllOnce (way_left (numbered ns) ws abi area missing calls) abi (left (numbered ns) ws abi area missing calls) (class_count ws)
    × AllRight abi (left (numbered ns) ws abi area missing calls) stubs
