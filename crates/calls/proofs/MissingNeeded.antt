-- A list to which `MissingKept` speaks: an array class, an own ABI entry, a generated class whose list of methods grows, a child of it, and a chain of kind 3;
-- every class has slots that are counted and slots that are not. And its premises, and those of `AskedCount`, are needed: without each, a class whose words in
-- the list are not the count made anew, and an ask that answers another number. All calls here are by the numbers of a list, filled from both sheets and handed
-- on but in the rows that show this to be needed. Assumes nothing.
use Rattle.std.proofs.Common.{◌≡◌, refl, sym, ap, ◌∙◌, ◌≢◌, true, false, List, [], ◌∷◌, ℕ, ◌+◌, arith, get_or, set, replicate, eqb, leb, leb-true}
use borrow.Author.Tests.{eqb-false}
use Rattle.words.specs.Lists.{list_from}
use Rattle.class_sheet.specs.ClassSheet.{class_count, method_count, methods_at, class_table_place, class_slot_count}
use Rattle.linking.specs.Counts.{missing_at, bit_count}
use Rattle.linking.specs.Link.{HasTable}
use Rattle.linking.specs.Missing.{Missing, missing_def}
use Rattle.linking.specs.Numbers.{numbers_of}
use Rattle.linking.proofs.Assemble as assemble
use Rattle.linking.proofs.Assemble.{flagged, method, built, compiled, array, linked_at, slot, abi, class_sheet, abi_sheet, lent, spare, fresh, sevens, stubs_of}
use Rattle.linking.proofs.Packaged.{packaged}
use Rattle.linking.proofs.Opened.{opened}
use Rattle.linking.proofs.MissingLaws.{count-read}
use Rattle.calls.specs.Calls.{Call, State, link, Way, numbered, start, run, left, way_left}
use Rattle.calls.specs.Missing.{bits_now, Counted}
use Rattle.calls.proofs.Tests.{is_unlinked, unlinked-holds, shown, numbering}
use Rattle.calls.proofs.RunsAgree.{filling_filled}
use Rattle.calls.proofs.ByNumbers.{missing-kept, asked-count}

abbrev world : assemble.Lent
world =
    spare 40
    (lent
    (built "java/lang/Object" 0 (method "foo" 0 ∷ method "k" 5 ∷ []) []
    ∷ array "[I" 1
    ∷ built "P" 1 [] []
    ∷ compiled "G" 1 [] (0 ∷ 777 ∷ [])
    ∷ built "H" 4 (method "k" 9 ∷ []) []
    ∷ packaged "A" 0 (flagged 1 "foo" 0 ∷ flagged 1 "bar" 7 ∷ [])
    ∷ packaged "B" 6 (flagged 1 "bar" 8 ∷ [])
    ∷ [])
    (abi "P" (slot "k" 2 ∷ []) [] ∷ abi "G" (slot "k" 1 ∷ []) [] ∷ []))

unfoldable pub ws : List ℕ
ws = world.set

unfoldable pub sheet : List ℕ
sheet = world.abi

abbrev links : ℕ → List Call
links n = list_from (λ c. link c (stubs_of 8)) 1 n

abbrev filling : List ℕ
filling = numbers_of ws sheet

unfoldable pub final : State
final = left (numbered filling) ws sheet (fresh 60) (sevens 7) (links 7)

-- slots, count and first 32 bits of each class
unfoldable pub counts : List (ℕ × ℕ × ℕ)
counts = list_from (λ c. (class_slot_count final.set c, get_or final.missing (missing_at c) 0, get_or final.missing (missing_at c + 1) 0)) 1 7

pub record Rows : Type 0 where
  pub each : counts
      ≡ (2, 1, 1) ∷ (2, 1, 1) ∷ (3, 2, 3) ∷ (2, 1, 1) ∷ (2, 1, 1) ∷ (2, 1, 1) ∷ (2, 1, 1) ∷ []
  pub methods : method_count ws ∷ method_count final.set ∷ [] ≡ 6 ∷ 7 ∷ []

pub rows : Rows
unfolding opened shown numbering ws sheet final counts
rows = record { each = refl; methods = refl }

-- a class is linked, by tests
linked-by : (s : State) (c : ℕ) → leb 1 c ≡ true → leb c (class_count s.set) ≡ true → eqb (class_table_place s.set c) 0 ≡ false → HasTable s.set c
linked-by s c e f g =
    record { some = leb-true 1 c e; among = leb-true c (class_count s.set) f; has = eqb-false (class_table_place s.set c) 0 g }

-- ---- the theorem speaks to the class whose list grew

unlinked : is_unlinked ws ≡ true
unfolding opened shown ws
unlinked = refl

grown : HasTable final.set 4
unfolding opened shown numbering ws sheet final
grown = linked-by final 4 refl refl refl

pub instance : Counted sheet final 4
unfolding final
instance =
    (missing-kept ws sheet (fresh 60) (sevens 7) filling (filling_filled ws sheet)).counted (unlinked-holds ws unlinked) (links 7) 4 (unfold final in grown)

pub asked : missing_def final.set sheet final.missing 4 ≡ record { refusal = 0; count = bit_count (bits_now sheet final 4) }
unfolding final
asked = asked-count ws sheet (fresh 60) (sevens 7) filling (filling_filled ws sheet) (unlinked-holds ws unlinked) (links 7) 4 (unfold final in grown)

-- ---- needed

-- the class is linked, as the theorems ask; its words are not the count made anew, nor does an ask for it answer that
pub record Stale (sheet : List ℕ) (s : State) (c : ℕ) : Type 0 where
  pub linked : HasTable s.set c
  pub words : Counted sheet s c → ⊥
  pub answer : missing_def s.set sheet s.missing c ≡ record { refusal = 0; count = bit_count (bits_now sheet s c) } → ⊥

-- the first of a class's words is n, which an ask answers, and the count made anew is k
stale : (sheet : List ℕ) (s : State) (c n k : ℕ) → HasTable s.set c → get_or s.missing (missing_at c) 0 ≡ n
    → missing_def s.set sheet s.missing c ≡ record { refusal = 0; count = n } → bit_count (bits_now sheet s c) ≡ k → n ≢ k → Stale sheet s c
stale sheet s c n k l e a f d = record {
  linked = l;
  words = λ h. d (sym e ∙ count-read s.missing c (bits_now sheet s c) h.words ∙ f);
  answer = λ h. d (ap (λ (o : Missing). o.count) (sym a ∙ h) ∙ f);
}

abbrev two : assemble.Lent
two = lent (built "P" 0 (method "foo" 0 ∷ method "k" 5 ∷ []) [] ∷ built "Q" 1 [] [] ∷ []) []

-- by the list that a filling of the two sheets leaves
abbrev filled : assemble.Lent → Way
filled w = numbered (numbers_of w.set w.abi)

-- "from an unlinked sheet": a class that was linked before the list has whatever the list holds
unfoldable pub linked_before : State
linked_before = start (class_sheet (linked_at 1 1 (built "P" 0 (method "a" 5 ∷ []) []) ∷ [])) (4 ∷ 1 ∷ 5 ∷ 0 ∷ []) (sevens 1)

-- "a lent list that no one else writes": the parent's words are zeroed before the child's link
unfoldable pub zeroed : State
zeroed =
    let s : State = left (filled two) two.set two.abi (fresh 23) (sevens 2) (links 1) in
    run (way_left (filled two) two.set two.abi (fresh 23) (sevens 2) (links 1)) two.abi (link 2 (stubs_of 8) ∷ []) (start s.set s.area (replicate 66 0))

-- "handed on": a slot of the parent's table is zeroed after the child's link
unfoldable pub overwritten : State
overwritten = let s : State = left (filled two) two.set two.abi (fresh 23) (sevens 2) (links 2) in start s.set (set s.area 3 0) s.missing

-- or the target of `foo` written
unfoldable pub retargeted : State
retargeted =
    let s : State = left (filled two) two.set two.abi (fresh 23) (sevens 2) (links 1) in start (set s.set (methods_at s.set + 5) 7) s.area s.missing

-- "as in demand 3", with one ABI sheet: a method fixed by the sheet at the link, counted anew by an empty one
unfoldable pub other_sheet : State
other_sheet =
    let w : assemble.Lent = lent (built "P" 0 (flagged 9 "k" 5 ∷ []) [] ∷ []) (abi "P" (slot "k" 0 ∷ []) [] ∷ []) in
    left (filled w) w.set w.abi (fresh 23) (sevens 1) (links 1)

-- the list of numbers "is filled from the very set and ABI sheet that are then linked": by zeros P's method is taken for the sheet's k, and stands at its index
abbrev fixing : assemble.Lent
fixing = lent (built "P" 0 (method "a" 5 ∷ []) [] ∷ []) (abi "P" (slot "k" 1 ∷ []) [] ∷ [])

unfoldable pub unfilled : State
unfilled = left (numbered (replicate 1024 0)) fixing.set fixing.abi (fresh 23) (sevens 1) (links 1)

-- and handed on: by the list as it was filled the method that G's link adds is not the sheet's k, so that H has it after an empty slot
abbrev growing : assemble.Lent
growing = spare 40 (lent (compiled "G" 0 [] (8 ∷ []) ∷ built "H" 1 [] [] ∷ []) (abi "G" (slot "k" 0 ∷ []) [] ∷ abi "H" [] [] ∷ []))

unfoldable pub as_filled : State
as_filled =
    run (filled growing) growing.abi (link 2 (stubs_of 8) ∷ []) (left (filled growing) growing.set growing.abi (fresh 40) (sevens 2) (links 1))

pub record Needed : Type 0 where
  pub unlinked : Stale (abi_sheet []) linked_before 1
  pub not_written : Stale (abi_sheet []) zeroed 2
  pub handed_on : Stale (abi_sheet []) overwritten 2
  pub set_handed : Stale (abi_sheet []) retargeted 1
  pub one-sheet : Stale (abi_sheet []) other_sheet 1
  pub numbers_filled : Stale fixing.abi unfilled 1
  pub numbers_handed : Stale growing.abi as_filled 2

pub needed : Needed
unfolding opened shown numbering linked_before zeroed overwritten retargeted other_sheet unfilled as_filled
needed = record {
  unlinked = stale (abi_sheet []) linked_before 1 7 0 (linked-by linked_before 1 refl refl refl) refl refl refl (omega arith);
  not_written = stale (abi_sheet []) zeroed 2 0 1 (linked-by zeroed 2 refl refl refl) refl refl refl (omega arith);
  handed_on = stale (abi_sheet []) overwritten 2 1 2 (linked-by overwritten 2 refl refl refl) refl refl refl (omega arith);
  set_handed = stale (abi_sheet []) retargeted 1 1 0 (linked-by retargeted 1 refl refl refl) refl refl refl (omega arith);
  one-sheet = stale (abi_sheet []) other_sheet 1 1 0 (linked-by other_sheet 1 refl refl refl) refl refl refl (omega arith);
  numbers_filled = stale fixing.abi unfilled 1 1 2 (linked-by unfilled 1 refl refl refl) refl refl refl (omega arith);
  numbers_handed = stale growing.abi as_filled 2 1 0 (linked-by as_filled 2 refl refl refl) refl refl refl (omega arith);
}
