-- Class kind 3 by computation: whole links on assembled sets, rows of one theorem. Method `foo` in classes p/A, q/B, ..; tables are lists of words.
-- More rows of the kind are run on the compiled library. Assumes nothing.
use mathlib.Core.Path.{◌≡◌, refl}
use mathlib.Core.List.{List, [], ◌∷◌}
use Prim.Native.Nat.{ℕ}
use Prim.Native.String.{String}
use Rattle.linking.proofs.Assemble.{Class, Call, Member, flagged, field, built, generated, array, of_kind, linked_at, having, abi, lent, link, on_area, answers, after, table_of}
use Rattle.linking.proofs.Opened.{opened}

-- a class of kind 3: name, parent, methods
abbrev pub packaged : String → ℕ → List Member → Class
packaged name parent methods = of_kind 3 (built name parent methods [])

-- a method foo of these flags and this target
abbrev pub foo : ℕ → ℕ → List Member
foo flags target = flagged flags "foo" target ∷ []

abbrev pub links : List Call
links = link 1 ∷ link 2 ∷ link 3 ∷ link 4 ∷ []

-- the table of class c once classes 1 to 4 are linked
abbrev pub linked_table : ℕ → List Class → List ℕ
linked_table c cs = table_of c (after (lent cs []) links)

pub record Packaged : Type 0 where
  -- "two package-private methods of one signature in different packages"
  pub two : linked_table 2 (packaged "p/A" 0 (foo 0 10) ∷ packaged "q/B" 1 (foo 0 20) ∷ []) ≡ 10 ∷ 20 ∷ []
  -- a method overrides through another; not through one marked private, though it is marked public
  pub through : linked_table 3 (packaged "p/A" 0 (foo 0 10) ∷ packaged "p/B" 1 (foo 1 20) ∷ packaged "q/C" 2 (foo 0 30) ∷ []) ≡ 30 ∷ []
  pub private_between : linked_table 3 (packaged "p/A" 0 (foo 0 10) ∷ packaged "p/B" 1 (foo 3 20) ∷ packaged "q/C" 2 (foo 0 30) ∷ [])
      ≡ 10 ∷ 30 ∷ []
  -- one so marked is overridden, where Reading finds it
  pub marked-both : linked_table 2 (packaged "A" 0 (flagged 3 "foo" 10 ∷ flagged 1 "bar" 10 ∷ []) ∷ packaged "B" 1 (foo 1 20) ∷ []) ≡ 20 ∷ []
  -- the nearest method of the signature does not hide the ones above
  pub farther : linked_table 4 (packaged "p/A" 0 (foo 0 10) ∷ packaged "q/B" 1 (foo 0 20) ∷ packaged "p/C" 2 (foo 0 30) ∷ packaged "q/D" 3 (foo 0 40) ∷ [])
      ≡ 30 ∷ 40 ∷ []
  -- "every inherited slot"
  pub several : linked_table 3 (packaged "p/A" 0 (foo 0 10) ∷ packaged "q/B" 1 (foo 1 20) ∷ packaged "p/C" 2 (foo 0 30) ∷ []) ≡ 30 ∷ 30 ∷ []
  -- target 0: a slot that no method introduces
  pub no_target : linked_table 2 (packaged "A" 0 (foo 1 0) ∷ packaged "B" 1 (foo 1 20) ∷ []) ≡ 901 ∷ 20 ∷ []
  -- the introducing method, not the one that stands in the slot: r/D overrides p/A's through p/B's, and not q/C's
  pub introduced : linked_table 4 (packaged "p/A" 0 (foo 0 10) ∷ packaged "p/B" 1 (foo 1 20) ∷ packaged "q/C" 2 (foo 0 30) ∷ packaged "r/D" 3 (foo 0 40) ∷ [])
      ≡ 40 ∷ []
  -- "topmost", not first upwards: tables of 2, 0 and 2 slots by hand, and slot 1 is read in the root
  pub topmost : table_of 4
      (after
      (on_area (15 ∷ 1 ∷ 7 ∷ 10 ∷ 0 ∷ 2 ∷ 0 ∷ 0 ∷ 3 ∷ 7 ∷ 12 ∷ 0 ∷ 0 ∷ 0 ∷ 0 ∷ 0 ∷ 0 ∷ 0 ∷ 0 ∷ 0 ∷ [])
      (lent
      (linked_at 1 2 (packaged "A" 0 (foo 1 10))
      ∷ linked_at 5 0 (packaged "B" 1 [])
      ∷ linked_at 8 2 (packaged "C" 2 (flagged 1 "bar" 12 ∷ []))
      ∷ packaged "D" 3 (foo 1 20)
      ∷ [])
      []))
      (link 4 ∷ []))
      ≡ 7 ∷ 20 ∷ []
  -- 26: kind 0 above kind 3, and kind 3 above kind 0
  pub kinds-apart : answers (lent (built "A" 0 [] [] ∷ packaged "B" 1 [] ∷ packaged "C" 0 [] ∷ built "D" 3 [] [] ∷ []) []) links
      ≡ (0, 1, 0) ∷ (26, 0, 0) ∷ (0, 3, 0) ∷ (26, 0, 0) ∷ []
  -- an ABI entry, and an interface, of a class above, linked by hand
  pub unfit_above : answers
      (on_area (7 ∷ 1 ∷ 0 ∷ 0 ∷ 2 ∷ 0 ∷ 0 ∷ 0 ∷ 0 ∷ 0 ∷ 0 ∷ 0 ∷ [])
      (lent (linked_at 1 0 (packaged "A" 0 []) ∷ linked_at 4 0 (having 513 0 0 (packaged "B" 0 [])) ∷ packaged "C" 1 [] ∷ packaged "D" 2 [] ∷ [])
      (abi "A" [] [] ∷ [])))
      (link 3 ∷ link 4 ∷ [])
      ≡ (26, 0, 0) ∷ (26, 0, 0) ∷ []
  -- kind 3 above an array class, and above a generated one, which row 8 would refuse
  pub before_8 : answers (lent (packaged "java/lang/Object" 0 [] ∷ array "[I" 1 ∷ generated "G" 1 [] (field "x" "J" 0 ∷ []) 1 ∷ []) [])
      (link 1 ∷ link 2 ∷ link 3 ∷ [])
      ≡ (0, 1, 0) ∷ (26, 0, 0) ∷ (26, 0, 0) ∷ []

pub packaged-rows : Packaged
unfolding opened
packaged-rows =
    record {
      two = refl;
      through = refl;
      private_between = refl;
      marked-both = refl;
      farther = refl;
      several = refl;
      no_target = refl;
      introduced = refl;
      topmost = refl;
      kinds-apart = refl;
      unfit_above = refl;
      before_8 = refl;
    }
