-- Counts by computation: of each class, linked in order, its slots, its count and the first 32 bits; the 33 words of a class of more slots; how long the
-- list must be; and asking. Assumes nothing.
use Rattle.std.proofs.Common.{◌≡◌, refl, List, [], ◌∷◌, ℕ, ◌+◌, get_or, take, replicate}
use Rattle.words.specs.Lists.{list_from}
use Rattle.class_sheet.specs.ClassSheet.{class_slot_count, put_class_kind}
use Rattle.linking.specs.Counts.{missing_at}
use Rattle.linking.specs.Missing.{missing_def}
use Rattle.linking.proofs.Assemble as assemble
use Rattle.linking.proofs.Assemble.{flagged, method, built, compiled, array, slot, abi, sized, lent, fresh, stubs_of, on_missing, answers}
use Rattle.linking.proofs.Packaged.{packaged, foo}
use Rattle.linking.proofs.Opened.{opened}
use Rattle.calls.specs.Calls.{State, link, bytewise, start, step, run}

-- the state after links of the first n classes, the list full of sevens before
unfoldable pub after : assemble.Lent → ℕ → State
after w n = run bytewise w.abi (list_from (λ c. link c (stubs_of 40)) 1 n) (start w.set (fresh 60) w.missing)

unfoldable pub counts : assemble.Lent → ℕ → List (ℕ × ℕ × ℕ)
counts w n =
    list_from (λ c. (class_slot_count (after w n).set c, get_or (after w n).missing (missing_at c) 0, get_or (after w n).missing (missing_at c + 1) 0)) 1 n

-- two classes
abbrev two : assemble.Lent
two = lent (built "P" 0 (method "foo" 0 ∷ method "k" 5 ∷ []) [] ∷ built "Q" 1 [] [] ∷ []) []

abbrev one-linked : State
one-linked = after two 1

-- refusal and count of asking for class c, with n words of the list
abbrev asked : List ℕ → ℕ → ℕ → ℕ × ℕ
asked ws n c = let r = missing_def ws two.abi (take n one-linked.missing) c in (r.refusal, r.count)

pub record Rows : Type 0 where
  -- holes under a fixed index, copied, and one filled
  pub holes : counts
      (lent (built "P" 0 (method "foo" 5 ∷ []) [] ∷ built "Q" 1 [] [] ∷ built "R" 1 (method "k" 6 ∷ []) [] ∷ [])
      (abi "P" (slot "foo" 3 ∷ slot "k" 1 ∷ []) [] ∷ [])) 3
      ≡ (4, 3, 7) ∷ (4, 3, 7) ∷ (4, 2, 5) ∷ []
  -- a copy of a copy, and an own method after it
  pub copies : counts (lent (built "P" 0 (method "foo" 0 ∷ []) [] ∷ built "Q" 1 [] [] ∷ built "R" 2 (method "foo" 6 ∷ []) [] ∷ []) []) 3
      ≡ (1, 1, 1) ∷ (1, 1, 1) ∷ (2, 1, 1) ∷ []
  -- a stub known by its index, moved by a class with its own ABI entry
  pub moved : counts
      (lent (built "P" 0 (flagged 9 "k" 5 ∷ []) [] ∷ built "Q" 1 [] [] ∷ []) (abi "P" (slot "k" 0 ∷ []) [] ∷ abi "Q" (slot "k" 2 ∷ []) [] ∷ [])) 2
      ≡ (1, 1, 1) ∷ (3, 3, 7) ∷ []
  pub arrays : counts (lent (built "java/lang/Object" 0 (method "foo" 0 ∷ method "k" 5 ∷ []) [] ∷ array "[I" 1 ∷ []) []) 2 ≡ (2, 1, 1) ∷ (2, 1, 1) ∷ []
  -- "a nonzero compiler slot is no copy", even with the word of the parent's counted slot
  pub nonzero : counts (lent (built "P" 0 (method "foo" 0 ∷ method "k" 0 ∷ []) [] ∷ compiled "G" 1 [] (901 ∷ 0 ∷ []) ∷ []) []) 2
      ≡ (2, 2, 3) ∷ (2, 1, 2) ∷ []
  -- an emptied slot takes a stub
  pub emptied : counts (lent (built "P" 0 (method "a" 5 ∷ []) [] ∷ compiled "G" 1 [] (0 ∷ []) ∷ []) []) 2 ≡ (1, 0, 0) ∷ (2, 1, 1) ∷ []
  -- "an appended parent method is"
  pub appended : counts
      (lent (built "P" 0 (method "k" 5 ∷ []) [] ∷ compiled "G" 1 [] [] ∷ []) (abi "P" (slot "k" 1 ∷ slot "k" 0 ∷ []) [] ∷ [])) 2
      ≡ (2, 1, 1) ∷ (1, 1, 1) ∷ []
  -- of kind 3: slots that an own entry takes, and an own entry of target 0 in several
  pub several : counts (lent (packaged "p/A" 0 (foo 0 10) ∷ packaged "q/B" 1 (foo 1 20) ∷ packaged "p/C" 2 (foo 0 0) ∷ []) []) 3
      ≡ (1, 0, 0) ∷ (2, 0, 0) ∷ (2, 2, 3) ∷ []
  -- "the count, then a bit for each slot, set if counted, lowest first, the rest 0"
  pub forty : (after (lent (built "P" 0 [] [] ∷ []) (sized 40 (abi "P" [] []) ∷ [])) 1).missing ≡ 40 ∷ 4294967295 ∷ 255 ∷ replicate 30 0
  -- "row 15 also takes a shorter list": 33 words for each class
  pub short : answers (on_missing (replicate 65 7) two) (assemble.link 1 ∷ []) ≡ (15, 0, 0) ∷ []
  pub enough : answers (on_missing (replicate 66 7) two) (assemble.link 1 ∷ []) ≡ (0, 1, 2) ∷ []
  -- asking: the count; no class, an unlinked class, also with a short list; a linked one with a short list; a bad record
  pub asking : asked one-linked.set 66 1 ∷ asked one-linked.set 66 0 ∷ asked one-linked.set 65 2 ∷ asked one-linked.set 65 1
      ∷ asked (put_class_kind one-linked.set 2 9) 65 2 ∷ []
      ≡ (0, 1) ∷ (6, 0) ∷ (6, 0) ∷ (15, 0) ∷ (4, 0) ∷ []

pub rows : Rows
unfolding opened after counts step run
rows = record {
  holes = refl;
  copies = refl;
  moved = refl;
  arrays = refl;
  nonzero = refl;
  emptied = refl;
  appended = refl;
  several = refl;
  forty = refl;
  short = refl;
  enough = refl;
  asking = refl;
}
