-- A list of calls to which the claims of specs/AnyLists.antt speak: three links and an ask, each lent a list of missing slots of another length, that of the
-- second link one word too short. Where one list is handed on, a link of no class is refused in its stead. All calls are by the numbers of a list that is filled
-- first. Assumes nothing.
use mathlib.Core.Path.{◌≡◌, refl}
use mathlib.Core.Bool.{true}
use mathlib.Core.List.{List, [], ◌∷◌, Memᴰ}
use Prim.Native.Nat.{ℕ}
use native.Mathlib.Omega.{arith}
use lib.ListN.{take, drop, replicate}
use Rattle.linking.specs.Numbers.{numbers_of}
use Rattle.linking.specs.Link.{HasTable}
use Rattle.linking.proofs.Assemble.{method, built, interface, class_sheet, abi_sheet, fresh, sevens}
use Rattle.linking.proofs.Opened.{opened}
use Rattle.calls.specs.Calls.{Call, link, ask, Way, numbered, State, start}
use Rattle.calls.specs.Kept.{SameStubs, head_of, Spells, OnList, Right}
use Rattle.calls.specs.AnyLists.{Lending, with_list, outcome_lent, step_lent, way_lent, run_lent, without_lists, with_one_list, handed_on}
use Rattle.calls.proofs.Tests.{is_unlinked, unlinked-holds, answers, shown, numbering}
use Rattle.calls.proofs.RunsAgree.{filling_filled}
use Rattle.calls.proofs.AnyListsByNumbers.{kept-any-lists}

unfoldable pub ws : List ℕ
ws = class_sheet (interface "I" (method "k" 5 ∷ []) ∷ built "K" 0 (method "k" 6 ∷ []) [] ∷ [])

unfoldable pub sheet : List ℕ
sheet = abi_sheet []

abbrev begin : State
begin = start ws (fresh 23) []

abbrev stubs : List ℕ
stubs = 901 ∷ []

abbrev lending : Call → List ℕ → Lending
lending call list = record { call = call; list = list }

-- two classes: 66 words are enough
abbrev lendings : List Lending
lendings =
    lending (link 1 stubs) (sevens 3)
    ∷ lending (link 2 stubs) (replicate 65 7)
    ∷ lending (link 2 stubs) (replicate 66 8)
    ∷ lending (ask 2 1 stubs) []
    ∷ []

unfoldable pub answers-lent : Way → List ℕ → State → List Lending → List (ℕ × ℕ × ℕ)
answers-lent way abi s [] = []
answers-lent way abi s (l ∷ ls) =
    ((outcome_lent way abi s l).refusal, (outcome_lent way abi s l).first, (outcome_lent way abi s l).second) ∷ answers-lent (way_lent way abi s l) abi
    (step_lent way abi s l) ls

abbrev filling : List ℕ
filling = numbers_of ws sheet

abbrev final : State
final = run_lent (numbered filling) sheet lendings begin

abbrev other : State
other = handed_on (numbered filling) sheet begin (sevens 2) lendings

pub record Rows : Type 0 where
  pub each : answers-lent (numbered filling) sheet begin lendings ≡ (0, 1, 1) ∷ (15, 0, 0) ∷ (0, 4, 1) ∷ (0, 8, 0) ∷ []
  pub one_list : with_one_list ws lendings ≡ link 1 stubs ∷ link 0 stubs ∷ link 2 stubs ∷ ask 2 1 stubs ∷ []
  pub handed : answers (numbered filling) sheet (with_list begin (sevens 2)) (with_one_list ws lendings) ≡ (0, 1, 1) ∷ (6, 0, 0) ∷ (0, 4, 1) ∷ (0, 8, 0) ∷ []
  -- class 2's table and list head, then the node: no link before it, interface 1, the target of `k`
  pub area : take 7 (drop 4 final.area) ≡ 2 ∷ 6 ∷ 7 ∷ 0 ∷ 1 ∷ 6 ∷ 0 ∷ []
  pub same_set : final.set ≡ other.set
  pub same_area : final.area ≡ other.area

pub rows : Rows
unfolding opened shown numbering run_lent answers-lent ws sheet
rows = record { each = refl; one_list = refl; handed = refl; area = refl; same_set = refl; same_area = refl }

-- ---- so the claims speak to class 2

unlinked : is_unlinked ws ≡ true
unfolding opened shown ws
unlinked = refl

linked : HasTable final.set 2
unfolding opened shown numbering run_lent ws sheet
linked = record { some = omega arith; among = omega arith; has = omega arith }

spelt : Spells final.area (head_of final 2) (7 ∷ [])
unfolding opened shown numbering run_lent ws sheet
spelt = (refl, omega arith, refl)

same : SameStubs stubs (without_lists lendings)
same = (refl, (refl, (refl, (refl, tt))))

node : OnList final 2 1 7
unfolding opened shown numbering run_lent ws sheet
node = record { places = 7 ∷ []; spelt = spelt; along = Memᴰ.head refl; of = refl }

pub instance : Right sheet stubs final 2 1 7
instance =
    (kept-any-lists.one_stub_list sheet filling begin (filling_filled ws sheet) stubs (unlinked-holds ws unlinked) lendings same).right 2 1 7 linked node
