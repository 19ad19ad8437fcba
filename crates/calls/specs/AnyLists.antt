-- WHATEVER LISTS OF MISSING SLOTS ARE LENT: `OneList`, `KeptAnyLists` and `DemandAnyLists` are the statements; proofs/AnyLists.antt proves them. In Calls.antt
-- each link gets the list of missing slots as the last call left it. That a kept interface table is the right one is asked of calls that get "sheet, area and
-- ticket 10's list, filled from the two sheets, as the last left them": of the list of missing slots nothing is said. Here each call is lent a list of its own,
-- of any length and content. The list of numbers is filled where the claim handed on asks for that, and nowhere else. Assumes nothing.
use Rattle.std.specs.Prelude.{ℕ, ◌*◌, ◌≤◌, ◌≡◌, ◌≢◌, ◌⊎◌, Bool, false, cond, List, [], ◌∷◌, map, replicate}
use Rattle.class_sheet.specs.ClassSheet.{class_count}
use Rattle.linking.specs.Counts.{missing_width, missing_short}
use Rattle.linking.specs.Link.{Outcome}
use Rattle.linking.specs.Numbers.{Filled}
use Rattle.calls.specs.Calls.{Call, link, ask, Way, numbered, bytewise, State, outcome, numbers_left, way_after, step, run, way_run, Unlinked, stubs_of}
use Rattle.calls.specs.Demand.{Conditions, Linked, Claim}
use Rattle.calls.specs.Kept.{SameStubs, AnswerKept, AllOnce, AllRight, AllFound, AllAfresh}

-- a call, and the list that it is lent, which an ask does not read
pub record Lending : Type 0 where
  pub call : Call
  pub list : List ℕ

abbrev pub with_list : State → List ℕ → State
with_list s list = record { set = s.set; area = s.area; missing = list }

-- its answers and what it leaves, where set and area are those of this state
abbrev pub outcome_lent : Way → List ℕ → State → Lending → Outcome
outcome_lent way abi s l = outcome way abi (with_list s l.list) l.call

abbrev pub step_lent : Way → List ℕ → State → Lending → State
step_lent way abi s l = step way abi (with_list s l.list) l.call

abbrev pub way_lent : Way → List ℕ → State → Lending → Way
way_lent way abi s l = way_after way abi (with_list s l.list) l.call

-- what a list of them leaves
unfoldable pub run_lent : Way → List ℕ → List Lending → State → State
run_lent way abi [] s = s
run_lent way abi (l ∷ ls) s = run_lent (way_lent way abi s l) abi ls (step_lent way abi s l)

unfoldable pub numbers_lent : List ℕ → List ℕ → List Lending → State → List ℕ
numbers_lent ns abi [] s = ns
numbers_lent ns abi (l ∷ ls) s = numbers_lent (numbers_left ns abi (with_list s l.list) l.call) abi ls (step_lent (numbered ns) abi s l)

abbrev pub way_run_lent : Way → List ℕ → List Lending → State → Way
way_run_lent (numbered ns) abi ls s = numbered (numbers_lent ns abi ls s)
way_run_lent bytewise abi ls s = bytewise

abbrev pub without_lists : List Lending → List Call
without_lists ls = map (λ l. l.call) ls

-- one of them is this call, was accepted, and answered so
pub data Answered (abi : List ℕ) (k : Call) (first second : ℕ) : Way → State → List Lending → Type 0 where
  answered_now : {way : Way} {s : State} {l : Lending} {ls : List Lending}
      → l.call ≡ k
      → (outcome_lent way abi s l).refusal ≡ 0
      → (outcome_lent way abi s l).first ≡ first
      → (outcome_lent way abi s l).second ≡ second
      → Answered abi k first second way s (l ∷ ls)
  answered_later : {way : Way} {s : State} {l : Lending} {ls : List Lending}
      → Answered abi k first second (way_lent way abi s l) (step_lent way abi s l) ls → Answered abi k first second way s (l ∷ ls)

-- ---- the same with one list, handed on

-- a link whose list is too short leaves set and area: so does a link of no class, which row 6 refuses, or one before it
abbrev pub unless_short : Bool → Call → Call
unless_short short (link c stubs) = link (cond short 0 c) stubs
unless_short short (ask c i stubs) = ask c i stubs

abbrev pub handed : List ℕ → Lending → Call
handed ws l = unless_short (missing_short ws l.list) l.call

abbrev pub with_one_list : List ℕ → List Lending → List Call
with_one_list ws ls = map (handed ws) ls

abbrev pub handed_on : Way → List ℕ → State → List ℕ → List Lending → State
handed_on way abi s list ls = run way abi (with_one_list s.set ls) (with_list s list)

abbrev pub way_handed_on : Way → List ℕ → State → List ℕ → List Lending → Way
way_handed_on way abi s list ls = way_run way abi (with_one_list s.set ls) (with_list s list)

abbrev pub SameMemory : State → State → Type 0
SameMemory s t = (s.set ≡ t.set) × (s.area ≡ t.area)

-- all the same, or both refused
abbrev pub SameOrRefused : Outcome → Outcome → Type 0
SameOrRefused o p = (o ≡ p) ⊎ ((o.refusal ≢ 0) × (p.refusal ≢ 0))

-- calls that are each lent their own list are as many calls with the same stub lists, where one list that is long enough is handed on
pub record OneListBy (way : Way) (abi : List ℕ) (s : State) : Type 0 where
  -- they leave the same set and area
  pub memory : (list : List ℕ) → missing_short s.set list ≡ false → (ls : List Lending) → SameMemory (run_lent way abi ls s) (handed_on way abi s list ls)
  -- and answer alike, call by call: the next one after any
  pub answers : (list : List ℕ) → missing_short s.set list ≡ false → (ls : List Lending) (l : Lending)
      → SameOrRefused (outcome_lent (way_run_lent way abi ls s) abi (run_lent way abi ls s) l)
      (outcome (way_handed_on way abi s list ls) abi (handed_on way abi s list ls) (handed s.set l))

pub record OneList : Type 0 where
  pub long : (ws : List ℕ) → missing_short ws (replicate (missing_width * class_count ws) 0) ≡ false
  pub stubs : (ws : List ℕ) (ls : List Lending) → map stubs_of (with_one_list ws ls) ≡ map stubs_of (without_lists ls)
  pub same : (way : Way) (abi : List ℕ) (s : State) → OneListBy way abi s

-- ---- so the claims on kept interface tables (Kept.antt) hold of what such calls leave

module _ (way : Way) (abi : List ℕ) (s : State) (ls : List Lending) where
  abbrev pub after : State
  after = run_lent way abi ls s

  abbrev pub way_then : Way
  way_then = way_run_lent way abi ls s

  -- those that hold whatever stub lists were lent
  pub record AnyStubs : Type 0 where
    pub once : AllOnce way_then abi after (class_count s.set)
    pub found : AllFound way_then abi after
    pub nodes : (c i place nodes : ℕ) (stubs : List ℕ) → Answered abi (ask c i stubs) place nodes way s ls → nodes ≤ class_count s.set

  -- and those where every call lent this one
  pub record OneStubList (stubs : List ℕ) : Type 0 where
    pub right : AllRight abi after stubs
    pub answers : (c i place nodes : ℕ) → Answered abi (ask c i stubs) place nodes way s ls → AnswerKept abi stubs after c i place
    pub afresh : AllAfresh way_then abi after stubs

pub record KeptAnyLists : Type 0 where
  pub any_stubs : (way : Way) (abi : List ℕ) (s : State) → Unlinked s.set → (ls : List Lending) → AnyStubs way abi s ls
  pub one_stub_list : (abi ns : List ℕ) (s : State) → Filled s.set abi ns → (stubs : List ℕ) → Unlinked s.set → (ls : List Lending)
      → SameStubs stubs (without_lists ls) → OneStubList (numbered ns) abi s ls stubs

-- ---- and demand 3's claim (Demand.antt), of the links and tables where one list is handed on: by `OneList` these are theirs

abbrev pub DemandAnyBy : Way → List ℕ → State → Type 0
DemandAnyBy way abi s =
    (list : List ℕ) → Unlinked s.set → (ls : List Lending) (c place slots : ℕ) → Linked way s.set abi s.area list (with_one_list s.set ls) c place slots
    → Conditions s.set abi (without_lists ls) c → Claim way s.set abi s.area list (with_one_list s.set ls) c place slots

pub record DemandAnyLists : Type 0 where
  pub linked : (way : Way) (abi : List ℕ) (s : State) (list : List ℕ) → missing_short s.set list ≡ false → (ls : List Lending) (c place slots : ℕ)
      (stubs : List ℕ) → Answered abi (link c stubs) place slots way s ls → Linked way s.set abi s.area list (with_one_list s.set ls) c place slots
  pub claim : (abi ns : List ℕ) (s : State) → Filled s.set abi ns → DemandAnyBy (numbered ns) abi s
