-- Lists of links and interface asks: "Each call gets the sheet and area as the last one left them, and no one else writes them
-- meanwhile." So is ticket 10's list of numbers handed on, by which the calls compare signatures. Beside them stand, for the proofs and for what was before that
-- list, the same calls comparing bytes. Assumes nothing.
use Rattle.std.specs.Prelude.{ℕ, ◌+◌, ◌≤◌, ◌≡◌, take, drop, List, [], ◌∷◌}
use mathlib.Core.List.{Memᴰ}
use Rattle.class_sheet.specs.ClassSheet.{class_count, class_table_place}
use Rattle.linking.specs.Link.{Outcome, link_def}
use Rattle.linking.specs.Ask.{ask_def}
use Rattle.linking.specs.Numbers.{Filled}
use Rattle.linking.specs.Numbered.{link_numbered, ask_numbered}

-- "links and interface asks, accepted or refused, of whatever class numbers and stub lists": each call lends a stub list of its own
pub data Call : Type 0 where
  link : ℕ → List ℕ → Call
  ask : ℕ → ℕ → List ℕ → Call

-- the class words, the area and the list of missing slots, between two calls
pub record State : Type 0 where
  pub set : List ℕ
  pub area : List ℕ
  pub missing : List ℕ

-- "from an unlinked sheet, with one ABI sheet and whatever the area holds": at the list's start
abbrev pub start : List ℕ → List ℕ → List ℕ → State
start ws area missing = record { set = ws; area = area; missing = missing }

-- how calls compare signatures: by the numbers of a list that is lent, as it is before the call; or by their bytes, no such list lent
pub data Way : Type 0 where
  numbered : List ℕ → Way
  bytewise : Way

-- a call's answers and what it leaves of set and area, accepted or refused, by the definitions of linking
abbrev pub outcome : Way → List ℕ → State → Call → Outcome
outcome (numbered ns) abi s (link c stubs) = (link_numbered s.set abi ns c s.area stubs s.missing).outcome
outcome (numbered ns) abi s (ask c i stubs) = ask_numbered s.set abi ns c i s.area stubs
outcome bytewise abi s (link c stubs) = (link_def s.set abi c s.area stubs s.missing).outcome
outcome bytewise abi s (ask c i stubs) = ask_def s.set abi c i s.area stubs

-- what it leaves of the list of missing slots, which only links get
abbrev pub missing_after : Way → List ℕ → State → Call → List ℕ
missing_after (numbered ns) abi s (link c stubs) = (link_numbered s.set abi ns c s.area stubs s.missing).missing
missing_after (numbered ns) abi s (ask c i stubs) = s.missing
missing_after bytewise abi s (link c stubs) = (link_def s.set abi c s.area stubs s.missing).missing
missing_after bytewise abi s (ask c i stubs) = s.missing

-- and of the list of numbers, which an ask only reads
abbrev pub numbers_left : List ℕ → List ℕ → State → Call → List ℕ
numbers_left ns abi s (link c stubs) = (link_numbered s.set abi ns c s.area stubs s.missing).numbers
numbers_left ns abi s (ask c i stubs) = ns

-- the next call gets that
abbrev pub way_after : Way → List ℕ → State → Call → Way
way_after (numbered ns) abi s k = numbered (numbers_left ns abi s k)
way_after bytewise abi s k = bytewise

unfoldable pub step : Way → List ℕ → State → Call → State
step way abi s k = record { set = (outcome way abi s k).set; area = (outcome way abi s k).area; missing = missing_after way abi s k }

-- what the list of calls leaves
unfoldable pub run : Way → List ℕ → List Call → State → State
run way abi [] s = s
run way abi (k ∷ ks) s = run (way_after way abi s k) abi ks (step way abi s k)

unfoldable pub numbers_run : List ℕ → List ℕ → List Call → State → List ℕ
numbers_run ns abi [] s = ns
numbers_run ns abi (k ∷ ks) s = numbers_run (numbers_left ns abi s k) abi ks (step (numbered ns) abi s k)

-- so a call after them compares
abbrev pub way_run : Way → List ℕ → List Call → State → Way
way_run (numbered ns) abi ks s = numbered (numbers_run ns abi ks s)
way_run bytewise abi ks s = bytewise

-- what the calls left
module _ (way : Way) (ws abi area missing : List ℕ) (calls : List Call) where
  abbrev pub left : State
  left = run way abi calls (start ws area missing)

  abbrev pub way_left : Way
  way_left = way_run way abi calls (start ws area missing)

-- A claim on lists of calls, of a way, both sheets, the area and the list of missing slots at their start. It is made of each list of numbers that "is filled
-- from the very set and ABI sheet that are then linked, and no one else writes it";
abbrev pub ByNumbers : (Way → List ℕ → List ℕ → List ℕ → List ℕ → Type 0) → Type 0
ByNumbers Claim = (ws abi area missing ns : List ℕ) → Filled ws abi ns → Claim (numbered ns) ws abi area missing

-- or of every way, where it is all one how signatures are compared, and what a list of numbers holds;
abbrev pub AnyWay : (Way → List ℕ → List ℕ → List ℕ → List ℕ → Type 0) → Type 0
AnyWay Claim = (way : Way) (ws abi area missing : List ℕ) → Claim way ws abi area missing

-- and proved first of the same calls comparing bytes
abbrev pub ByBytes : (Way → List ℕ → List ℕ → List ℕ → List ℕ → Type 0) → Type 0
ByBytes Claim = (ws abi area missing : List ℕ) → Claim bytewise ws abi area missing

-- "Unlinked: every table place is 0."
abbrev pub Unlinked : List ℕ → Type 0
Unlinked ws = (c : ℕ) → 1 ≤ c → c ≤ class_count ws → class_table_place ws c ≡ 0

-- "A class is linked in the list if a link of it there is accepted": a call of the list links class c, gives 0, and answers this place and so
-- many slots
pub data LinkedIn (abi : List ℕ) (c place slots : ℕ) : Way → State → List Call → Type 0 where
  now : {way : Way} {s : State} {ks : List Call} (stubs : List ℕ)
      → (outcome way abi s (link c stubs)).refusal ≡ 0
      → (outcome way abi s (link c stubs)).first ≡ place
      → (outcome way abi s (link c stubs)).second ≡ slots
      → LinkedIn abi c place slots way s (link c stubs ∷ ks)
  later : {way : Way} {s : State} {k : Call} {ks : List Call}
      → LinkedIn abi c place slots (way_after way abi s k) (step way abi s k) ks → LinkedIn abi c place slots way s (k ∷ ks)

-- "its table is the words after the place that this link answered, as many as the slots it answered, as the area holds them after the list"
abbrev pub table_at : List ℕ → ℕ → ℕ → List ℕ
table_at area place slots = take slots (drop (place + 1) area)

-- the stubs that a call lends
abbrev pub stubs_of : Call → List ℕ
stubs_of (link c stubs) = stubs
stubs_of (ask c i stubs) = stubs

-- x is one of "all stubs lent": a word of the stub list of a call of the list, accepted or refused
pub data Lent (x : ℕ) : List Call → Type 0 where
  lent_now : {k : Call} {ks : List Call} → Memᴰ x (stubs_of k) → Lent x (k ∷ ks)
  lent_later : {k : Call} {ks : List Call} → Lent x ks → Lent x (k ∷ ks)
