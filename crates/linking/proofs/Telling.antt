-- Calls that show how a point is read where a reader might expect otherwise, computed on the definitions. All telling calls are executed:
-- oracle/harness/src/telling has them, and `corpus` replays them. Assumes nothing.
use mathlib.Core.Path.{◌≡◌, refl}
use mathlib.Core.List.{List, [], ◌∷◌, ◌++◌}
use Prim.Native.String.{String}
use Prim.Native.Nat.{ℕ}
use lib.ListN.{replicate}
use Rattle.linking.proofs.Assemble.{Class, Lent, Call, method, field, built, linked_at, slot, fixed, abi, lent, on_area, spare, link, after, table_of, classes_of}
use Rattle.linking.proofs.Opened.{opened}

abbrev both : List Call
both = link 1 ∷ link 2 ∷ []

-- a class of one method; a class without members
abbrev having-method : String → ℕ → String → ℕ → Class
having-method name parent m target = built name parent (method m target ∷ []) []

abbrev plain : String → ℕ → Class
plain name parent = built name parent [] []

-- an area of the words and 8 zeros
abbrev area : List ℕ → List ℕ
area ws = ws ++ replicate 8 0

pub record Telling : Type 0 where
  -- a method of target 0 takes its slot's stub; read again, the slot is unknown, and the signature gets a second slot
  pub target_0 : table_of 2 (after (lent (having-method "P" 0 "a" 0 ∷ having-method "C" 1 "a" 6 ∷ []) []) both) ≡ 901 ∷ 6 ∷ []
  -- a class with an ABI entry: known entries go to their fixed index, else after the minimum size
  pub relaid :
      table_of 2
      (after
      (lent
      (built "P" 0 (method "a" 5 ∷ method "b" 6 ∷ method "c" 7 ∷ []) [] ∷ having-method "C" 1 "d" 8 ∷ [])
      (abi "C" (slot "c" 0 ∷ slot "d" 2 ∷ []) [] ∷ []))
      both)
      ≡ 7 ∷ 902 ∷ 8 ∷ 5 ∷ 6 ∷ []
  -- a list that grows is copied whole, though it ends its section; the new index stands in the copy, the old record is left
  pub copied :
      (after (spare 13 (lent (built "C" 0 [] (field "x" "I" 7 ∷ []) ∷ []) (abi "C" [] (fixed "n" "I" 3 ∷ []) ∷ []))) (link 1 ∷ [])).set
      ≡ 1 ∷ 0 ∷ 3 ∷ 0 ∷ 0 ∷ 5
      ∷ 0 ∷ 1 ∷ 0 ∷ 1 ∷ 0 ∷ 0 ∷ 0 ∷ 1 ∷ 2 ∷ 0 ∷ 0 ∷ 0 ∷ 4 ∷ 0 ∷ 0 ∷ 1 ∷ 0 ∷ 0
      ∷ 1 ∷ 1 ∷ 2 ∷ 1 ∷ 0 ∷ 7
      ∷ 1 ∷ 1 ∷ 2 ∷ 1 ∷ 0 ∷ 0
      ∷ 3 ∷ 1 ∷ 4 ∷ 1 ∷ 2 ∷ 3
      ∷ 1850308675 ∷ 73 ∷ []

pub telling : Telling
unfolding opened
telling =
    record {
      target_0 = refl;
      relaid = refl;
      copied = refl;
    }

-- ---- whose a slot's method is

-- Card and its child VipCard, linked
abbrev desk : Lent
desk =
    after
    (lent
    (built "Card" 0 (method "open" 4096 ∷ method "close" 4112 ∷ []) [] ∷ built "VipCard" 1 (method "close" 8192 ∷ method "mark" 8208 ∷ []) [] ∷ [])
    [])
    both

pub record TellingClasses : Type 0 where
  -- the desk's example: 1, 1 and 1, 2, 2
  pub cards : (classes_of 1 desk ≡ 1 ∷ 1 ∷ []) × (classes_of 2 desk ≡ 1 ∷ 2 ∷ 2 ∷ [])
  -- classes of the chain need not be linked, nor their tables be theirs: no listing shows it, as that links them all
  pub by_hand :
      classes_of 2 (on_area (area (4 ∷ 57005 ∷ 9 ∷ 0 ∷ [])) (lent (having-method "A" 0 "a" 9 ∷ linked_at 1 1 (plain "P" 1) ∷ []) [])) ≡ 1 ∷ []

pub telling-classes : TellingClasses
unfolding opened
telling-classes = record { cards = (refl, refl); by_hand = refl }
