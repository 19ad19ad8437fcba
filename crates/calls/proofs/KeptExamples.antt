-- A list to which the claims on kept interface tables speak: one class asked for three interfaces, itself among them, with a refused ask and a link
-- that grows the method section between. And each premise is needed. All calls here are by the numbers of a list, filled from both sheets and handed on but in
-- the rows that show this to be needed. Assumes nothing.
use mathlib.Core.Path.{◌≡◌, refl, sym, ap, ◌∙◌, subst}
use mathlib.Core.Logic.{◌≢◌}
use mathlib.Core.Bool.{true}
use mathlib.Core.List.Memᴰ
use mathlib.Core.List.{List, [], ◌∷◌, map}
use Prim.Native.Nat.{ℕ, ◌+◌}
use native.Mathlib.Omega.{arith}
use lib.ListN.{length, get_or, set, take, drop, replicate}
use Rattle.class_sheet.specs.ClassSheet.{class_count, method_count, methods_at}
use Rattle.std.specs.Prelude.{Some, None}
use Rattle.linking.specs.Vtable.{Entry, slot_words}
use Rattle.linking.specs.Vtable as vtable
use Rattle.linking.specs.Numbers.{numbers_of}
use Rattle.linking.specs.Link.{HasTable}
use Rattle.linking.proofs.Plans.{built-same}
use Rattle.linking.proofs.Assemble as assemble
use Rattle.linking.proofs.Assemble.{AbiClass, method, flagged, built, interface, compiled, linked_at, abi, slot, sized, class_sheet, abi_sheet, lent, spare, fresh, sevens}
use Rattle.linking.proofs.Opened.{opened}
use Rattle.calls.specs.Calls.{Call, link, ask, Way, numbered, State, start, outcome, step, left, way_left, table_at}
use Rattle.calls.specs.Kept.{SameStubs, head_of, interface_at, Spells, OnList, Different, Once, built_afresh, Right, BuildsSame, Found, AnswerKept, AskedIn, asked_now, asked_later, AllOnce, AllRight}
use Rattle.calls.proofs.Tests.{is_unlinked, unlinked-holds, answers, shown, numbering}
use Rattle.calls.proofs.Walk.{spells_one}
use Rattle.calls.proofs.RunsAgree.{filling_filled}
use Rattle.calls.proofs.ByNumbers.{kept_tables, kept-answers, asked-afresh, as_asked}
use Rattle.calls.proofs.Kept.{once-only}
use Rattle.calls.proofs.Found.{found-again}

abbrev world : assemble.Lent
world =
    spare 60
    (lent
    (interface "I" (flagged 1025 "run" 5 ∷ [])
    ∷ interface "J" (flagged 1025 "go" 6 ∷ [])
    ∷ built "K" 0 (method "run" 0 ∷ method "go" 21 ∷ []) []
    ∷ interface "X" (flagged 1025 "zap" 9 ∷ [])
    ∷ compiled "G" 3 [] (0 ∷ 777 ∷ [])
    ∷ [])
    (sized 4 (abi "K" [] []) ∷ abi "G" (slot "run" 1 ∷ []) [] ∷ []))

unfoldable pub ws : List ℕ
ws = world.set

unfoldable pub sheet : List ℕ
sheet = world.abi

abbrev area : List ℕ
area = fresh 60

abbrev missing : List ℕ
missing = sevens 5

abbrev stubs : List ℕ
stubs = 901 ∷ 902 ∷ 903 ∷ 904 ∷ 905 ∷ 906 ∷ 907 ∷ 908 ∷ []

-- three interfaces and class 3, a node, a refused ask, the method section grows, two more nodes, and the first asked again
abbrev calls : List Call
calls =
    link 1 stubs ∷ link 2 stubs ∷ link 3 stubs ∷ link 4 stubs ∷ ask 3 1 stubs ∷ ask 3 4 stubs ∷ link 5 stubs ∷ ask 3 2 stubs ∷ ask 3 3 stubs
    ∷ ask 3 1 stubs ∷ ask 5 1 stubs ∷ []

abbrev filling : List ℕ
filling = numbers_of ws sheet

abbrev final : State
final = left (numbered filling) ws sheet area missing calls

abbrev way_then : Way
way_then = way_left (numbered filling) ws sheet area missing calls

pub record Rows : Type 0 where
  pub answered : answers (numbered filling) sheet (start ws area missing) calls
      ≡ (0, 1, 1) ∷ (0, 4, 1) ∷ (0, 7, 6) ∷ (0, 15, 1) ∷ (0, 19, 0) ∷ (16, 0, 0) ∷ (0, 21, 3) ∷ (0, 27, 1) ∷ (0, 30, 2) ∷ (0, 19, 3) ∷ (0, 38, 0) ∷ []
  pub grown : method_count ws ∷ method_count final.set ∷ [] ≡ 5 ∷ 6 ∷ []
  -- the nodes: a stub for a method of target 0, a target, slots that are unknown and keep their words, and the target of an added method
  pub first : take 3 (drop 18 final.area) ≡ 0 ∷ 1 ∷ 901 ∷ []
  pub second : take 3 (drop 26 final.area) ≡ 18 ∷ 2 ∷ 21 ∷ []
  pub third : take 8 (drop 29 final.area) ≡ 26 ∷ 3 ∷ 901 ∷ 902 ∷ 903 ∷ 904 ∷ 905 ∷ 21 ∷ []
  pub other : take 3 (drop 37 final.area) ≡ 0 ∷ 1 ∷ 777 ∷ []

pub rows : Rows
unfolding opened shown numbering ws sheet
rows = record { answered = refl; grown = refl; first = refl; second = refl; third = refl; other = refl }

-- ---- so the claims speak to class 3

unlinked : is_unlinked ws ≡ true
unfolding opened shown ws
unlinked = refl

third-linked : HasTable final.set 3
unfolding opened shown numbering ws sheet
third-linked = record { some = omega arith; among = omega arith; has = omega arith }

spelt : Spells final.area (head_of final 3) (29 ∷ 26 ∷ 18 ∷ [])
unfolding opened shown numbering ws sheet
spelt = (refl, omega arith, (refl, omega arith, (refl, omega arith, refl)))

same : SameStubs stubs calls
same = (refl, (refl, (refl, (refl, (refl, (refl, (refl, (refl, (refl, (refl, (refl, tt)))))))))))

first-node : OnList final 3 1 18
unfolding opened shown numbering ws sheet
first-node = record { places = 29 ∷ 26 ∷ 18 ∷ []; spelt = spelt; along = Memᴰ.tail (Memᴰ.tail (Memᴰ.head refl)); of = refl }

third-node : OnList final 3 3 29
unfolding opened shown numbering ws sheet
third-node = record { places = 29 ∷ 26 ∷ 18 ∷ []; spelt = spelt; along = Memᴰ.head refl; of = refl }

-- its node is the one that the fifth call put
first-ask : AskedIn sheet 3 1 19 0 (numbered filling) (start ws area missing) calls
unfolding opened shown numbering ws sheet
first-ask = asked_later (asked_later (asked_later (asked_later (asked_now stubs refl refl refl))))

pub instance : Right sheet stubs final 3 1 18
instance = kept_tables ws sheet area missing filling (filling_filled ws sheet) stubs (unlinked-holds ws unlinked) calls same 3 1 18 third-linked first-node

pub instance-itself : Right sheet stubs final 3 3 29
instance-itself =
    kept_tables ws sheet area missing filling (filling_filled ws sheet) stubs (unlinked-holds ws unlinked) calls same 3 3 29 third-linked third-node

pub instance-once : Once way_then sheet (class_count ws) final 3
instance-once = once-only (numbered filling) ws sheet area missing (unlinked-holds ws unlinked) calls 3 third-linked

-- with another stub list
pub instance-found : Found way_then sheet final 3 1 18 (903 ∷ [])
instance-found =
    found-again (numbered filling) ws sheet area missing (unlinked-holds ws unlinked) calls 3 1 18 third-linked first-node (903 ∷ [])

pub instance-answer : AnswerKept sheet stubs final 3 1 19
instance-answer = kept-answers ws sheet area missing filling (filling_filled ws sheet) stubs (unlinked-holds ws unlinked) calls same 3 1 19 0 first-ask

-- the same ask where the list is empty builds the slots that it finds
accepted : (outcome way_then sheet final (ask 3 1 stubs)).refusal ≡ 0
unfolding opened shown numbering ws sheet
accepted = refl

pub again : BuildsSame way_then sheet final 3 1 stubs
again = asked-afresh ws sheet area missing filling (filling_filled ws sheet) stubs (unlinked-holds ws unlinked) calls same 3 1 accepted

-- the request's own sentences, with the fresh area
pub instance_filled : AllOnce way_then sheet final (class_count ws) × AllRight sheet final stubs
instance_filled = as_asked ws sheet area missing filling stubs (unlinked-holds ws unlinked) refl (filling_filled ws sheet) calls same

-- ---- each premise is needed

-- class c is linked, and the node is on its list and of interface i, as the theorem asks; but its table is not the one built afresh
abbrev pub Outdated : List ℕ → List ℕ → State → ℕ → ℕ → ℕ → Type 0
Outdated abi stubs s c i node = HasTable s.set c × OnList s c i node × (Right abi stubs s c i node → ⊥)

not_right : (abi stubs : List ℕ) (s : State) (c i node : ℕ) (T : List Entry) → built_afresh abi s c i ≡ vtable.built T
    → get_or (table_at s.area (node + 1) (length T)) 0 0 ≢ get_or (slot_words stubs 0 T) 0 0 → Right abi stubs s c i node → ⊥
not_right abi stubs s c i node T e n r =
    let q : r.entries ≡ T = built-same (sym r.afresh ∙ e) in
    n (ap (λ (l : List ℕ). get_or l 0 0) (rw q at r.slots))

-- a class I and a class K, linked, and K asked for I: its node is at 7
abbrev for_one : List Call
for_one = link 1 (901 ∷ []) ∷ link 2 (901 ∷ []) ∷ ask 2 1 (901 ∷ []) ∷ []

abbrev asked_by : Way → assemble.Class → assemble.Class → List AbiClass → State
asked_by way i k entries = left way (class_sheet (i ∷ k ∷ [])) (abi_sheet entries) (fresh 23) (sevens 2) for_one

-- by the list that a filling of these two sheets leaves
abbrev filled : assemble.Class → assemble.Class → List AbiClass → Way
filled i k entries = numbered (numbers_of (class_sheet (i ∷ k ∷ [])) (abi_sheet entries))

abbrev asked_once : assemble.Class → assemble.Class → List AbiClass → State
asked_once i k entries = asked_by (filled i k entries) i k entries

-- one stub list: a method of target 0 takes the stub of the list that the node was made with
unfoldable pub kept901 : State
kept901 = asked_once (interface "I" (method "k" 5 ∷ [])) (built "K" 0 (method "k" 0 ∷ []) []) []

-- how the next call compares
unfoldable pub way901 : Way
way901 =
    let i : assemble.Class = interface "I" (method "k" 5 ∷ []) in
    let k : assemble.Class = built "K" 0 (method "k" 0 ∷ []) [] in
    way_left (filled i k []) (class_sheet (i ∷ k ∷ [])) (abi_sheet []) (fresh 23) (sevens 2) for_one

stubs-needed : Outdated (abi_sheet []) (903 ∷ []) kept901 2 1 7
unfolding opened shown numbering kept901
stubs-needed = (
  omega arith,
  record { places = 7 ∷ []; spelt = (refl, omega arith, refl); along = Memᴰ.head refl; of = refl },
  not_right (abi_sheet []) (903 ∷ []) kept901 2 1 7 (record { word = 0; method = Some 1; source = None } ∷ []) refl (omega arith),
)

-- "the same ABI sheet": without it I's slot is unknown, and keeps its stub
unfoldable pub kept_fixed : State
kept_fixed = asked_once (built "I" 0 (flagged 9 "k" 5 ∷ []) []) (built "K" 0 (method "k" 6 ∷ []) []) (abi "I" (slot "k" 0 ∷ []) [] ∷ [])

sheet-needed : Outdated (abi_sheet []) (901 ∷ []) kept_fixed 2 1 7
unfolding opened shown numbering kept_fixed
sheet-needed = (
  omega arith,
  record { places = 7 ∷ []; spelt = (refl, omega arith, refl); along = Memᴰ.head refl; of = refl },
  not_right (abi_sheet []) (901 ∷ []) kept_fixed 2 1 7 (record { word = 901; method = None; source = Some 0 } ∷ []) refl (omega arith),
)

-- sheet and area as the last call left them: the node's slot, or K's target, was changed
unfoldable pub kept6 : State
kept6 = asked_once (interface "I" (method "k" 5 ∷ [])) (built "K" 0 (method "k" 6 ∷ []) []) []

unfoldable pub other_area : State
other_area = record { set = kept6.set; area = set kept6.area 9 77; missing = kept6.missing }

area-needed : Outdated (abi_sheet []) (901 ∷ []) other_area 2 1 7
unfolding opened shown numbering kept6 other_area
area-needed = (
  omega arith,
  record { places = 7 ∷ []; spelt = (refl, omega arith, refl); along = Memᴰ.head refl; of = refl },
  not_right (abi_sheet []) (901 ∷ []) other_area 2 1 7 (record { word = 6; method = Some 1; source = None } ∷ []) refl (omega arith),
)

unfoldable pub other_set : State
other_set = record { set = set kept6.set (methods_at kept6.set + 11) 7; area = kept6.area; missing = kept6.missing }

set-needed : Outdated (abi_sheet []) (901 ∷ []) other_set 2 1 7
unfolding opened shown numbering kept6 other_set
set-needed = (
  omega arith,
  record { places = 7 ∷ []; spelt = (refl, omega arith, refl); along = Memᴰ.head refl; of = refl },
  not_right (abi_sheet []) (901 ∷ []) other_set 2 1 7 (record { word = 7; method = Some 1; source = None } ∷ []) refl (omega arith),
)

-- ticket 10's list, "filled from the two sheets": by zeros, or where another method had that name, K's first method is taken for I's
unfoldable pub zeros : List ℕ
zeros = replicate 1024 0

unfoldable pub unfilled : State
unfilled = asked_by (numbered zeros) (interface "I" (method "k" 5 ∷ [])) (built "K" 0 (method "b" 8 ∷ method "k" 6 ∷ []) []) []

filled-needed : Outdated (abi_sheet []) (901 ∷ []) unfilled 2 1 7
unfolding opened shown numbering zeros unfilled
filled-needed = (
  omega arith,
  record { places = 7 ∷ []; spelt = (refl, omega arith, refl); along = Memᴰ.head refl; of = refl },
  not_right (abi_sheet []) (901 ∷ []) unfilled 2 1 7 (record { word = 6; method = Some 2; source = None } ∷ []) refl (omega arith),
)

unfoldable pub of_another : State
of_another =
    asked_by (filled (interface "I" (method "k" 5 ∷ [])) (built "K" 0 (method "k" 8 ∷ method "k" 6 ∷ []) []) [])
    (interface "I" (method "k" 5 ∷ [])) (built "K" 0 (method "b" 8 ∷ method "k" 6 ∷ []) []) []

very_set-needed : Outdated (abi_sheet []) (901 ∷ []) of_another 2 1 7
unfolding opened shown numbering of_another
very_set-needed = (
  omega arith,
  record { places = 7 ∷ []; spelt = (refl, omega arith, refl); along = Memᴰ.head refl; of = refl },
  not_right (abi_sheet []) (901 ∷ []) of_another 2 1 7 (record { word = 6; method = Some 2; source = None } ∷ []) refl (omega arith),
)

-- where the ABI sheet's slot had another name, I's slot is unknown, and keeps its stub
unfoldable pub of_another_sheet : State
of_another_sheet =
    asked_by (filled (built "I" 0 (flagged 9 "k" 5 ∷ []) []) (built "K" 0 (method "k" 6 ∷ []) []) (abi "I" (slot "j" 0 ∷ []) [] ∷ []))
    (built "I" 0 (flagged 9 "k" 5 ∷ []) []) (built "K" 0 (method "k" 6 ∷ []) []) (abi "I" (slot "k" 0 ∷ []) [] ∷ [])

very_sheet-needed : Outdated (abi_sheet (abi "I" (slot "k" 0 ∷ []) [] ∷ [])) (901 ∷ []) of_another_sheet 2 1 7
unfolding opened shown numbering of_another_sheet
very_sheet-needed = (
  omega arith,
  record { places = 7 ∷ []; spelt = (refl, omega arith, refl); along = Memᴰ.head refl; of = refl },
  not_right (abi_sheet (abi "I" (slot "k" 0 ∷ []) [] ∷ [])) (901 ∷ []) of_another_sheet 2 1 7 (record { word = 6; method = Some 1; source = None } ∷ []) refl
      (omega arith),
)

-- that list "as the last left" it: by the list as it was filled G's first added method is taken for I's
abbrev growing : assemble.Lent
growing =
    spare 40
    (lent (interface "I" (method "k" 5 ∷ []) ∷ compiled "G" 0 [] (8 ∷ 9 ∷ []) ∷ []) (abi "G" (slot "j" 0 ∷ slot "k" 1 ∷ []) [] ∷ []))

unfoldable pub as_filled : State
as_filled =
    let way : Way = numbered (numbers_of growing.set growing.abi) in
    let stubs : List ℕ = 901 ∷ 902 ∷ [] in
    let s : State = left way growing.set growing.abi (fresh 40) (sevens 2) (link 1 stubs ∷ link 2 stubs ∷ []) in
    step way growing.abi s (ask 2 1 stubs)

numbers-needed : Outdated growing.abi (901 ∷ 902 ∷ []) as_filled 2 1 8
unfolding opened shown numbering as_filled
numbers-needed = (
  omega arith,
  record { places = 8 ∷ []; spelt = (refl, omega arith, refl); along = Memᴰ.head refl; of = refl },
  not_right growing.abi (901 ∷ 902 ∷ []) as_filled 2 1 8 (record { word = 9; method = Some 2; source = None } ∷ []) refl (omega arith),
)

-- "on an unlinked sheet": a list that lay in the area before holds interface 1 twice
unfoldable pub linked_before : State
linked_before = record { set = class_sheet (linked_at 1 0 (built "K" 0 [] []) ∷ []); area = 9 ∷ 1 ∷ 3 ∷ 5 ∷ 1 ∷ 0 ∷ 1 ∷ replicate 10 0; missing = sevens 1 }

twice : Spells linked_before.area (head_of linked_before 1) (3 ∷ 5 ∷ [])
unfolding opened shown linked_before
twice = (refl, omega arith, (refl, omega arith, refl))

same-interface : map (interface_at linked_before.area) (3 ∷ 5 ∷ []) ≡ 1 ∷ 1 ∷ []
unfolding opened shown linked_before
same-interface = refl

-- filled from that set
unfoldable pub before : Way
before = numbered (numbers_of linked_before.set (abi_sheet []))

once-needed : Once before (abi_sheet []) 1 linked_before 1 → ⊥
once-needed o =
    let e = spells_one linked_before.area o.places (3 ∷ 5 ∷ []) (head_of linked_before 1) o.spelt twice in
    (subst (λ (l : List ℕ). Different l) (ap (map (interface_at linked_before.area)) e ∙ same-interface) o.different).0 (Memᴰ.head refl)

-- ---- the bound is met: of two classes, one asked for both reads two nodes

abbrev pair : List ℕ
pair = class_sheet (interface "I" (method "k" 5 ∷ []) ∷ built "K" 0 (method "k" 6 ∷ []) [] ∷ [])

abbrev for_both : List Call
for_both = link 1 (901 ∷ []) ∷ link 2 (901 ∷ []) ∷ ask 2 1 (901 ∷ []) ∷ ask 2 2 (901 ∷ []) ∷ []

unfoldable pub both : State
both = left (numbered (numbers_of pair (abi_sheet []))) pair (abi_sheet []) (fresh 23) (sevens 2) for_both

unfoldable pub way_both : Way
way_both = way_left (numbered (numbers_of pair (abi_sheet []))) pair (abi_sheet []) (fresh 23) (sevens 2) for_both

-- ---- as rows of one theorem

pub record Needed : Type 0 where
  pub stubs-same : Outdated (abi_sheet []) (903 ∷ []) kept901 2 1 7
  -- an ask with the other stub list answers the kept one
  pub stubs-found : (outcome way901 (abi_sheet []) kept901 (ask 2 1 (903 ∷ []))).first ≡ 8
  pub sheet-same : Outdated (abi_sheet []) (901 ∷ []) kept_fixed 2 1 7
  pub area-handed : Outdated (abi_sheet []) (901 ∷ []) other_area 2 1 7
  pub set-handed : Outdated (abi_sheet []) (901 ∷ []) other_set 2 1 7
  pub list-filled : Outdated (abi_sheet []) (901 ∷ []) unfilled 2 1 7
  pub from-very_set : Outdated (abi_sheet []) (901 ∷ []) of_another 2 1 7
  pub from-very_sheet : Outdated (abi_sheet (abi "I" (slot "k" 0 ∷ []) [] ∷ [])) (901 ∷ []) of_another_sheet 2 1 7
  pub numbers-handed : Outdated growing.abi (901 ∷ 902 ∷ []) as_filled 2 1 8
  -- class 1 is linked, and an ask for it is accepted
  pub unlinked-start : HasTable linked_before.set 1
      × ((outcome before (abi_sheet []) linked_before (ask 1 1 [])).refusal ≡ 0)
      × (Once before (abi_sheet []) 1 linked_before 1 → ⊥)
  pub bound-met : (outcome way_both (abi_sheet []) both (ask 2 1 (901 ∷ []))).second ∷ class_count both.set ∷ [] ≡ 2 ∷ 2 ∷ []

pub needed : Needed
unfolding opened shown numbering both way_both kept901 way901 linked_before before
needed = record {
  stubs-same = stubs-needed;
  stubs-found = refl;
  sheet-same = sheet-needed;
  area-handed = area-needed;
  set-handed = set-needed;
  list-filled = filled-needed;
  from-very_set = very_set-needed;
  from-very_sheet = very_sheet-needed;
  numbers-handed = numbers-needed;
  unlinked-start = (omega arith, refl, once-needed);
  bound-met = refl;
}
