-- What 4 asks, as facts: each parent is at most the count, and each interface word names a class. Assumes nothing.
use mathlib.Core.Path.{◌≡◌}
use mathlib.Core.Bool.{true, not}
use mathlib.Core.List.{List}
use Prim.Native.Nat.{ℕ, ◌+◌, ◌-◌, ◌<◌}
use native.Mathlib.Omega.{arith}
use lib.Dec.{leb, ltb}
use borrow.Author.Tests.{leb-true, ltb-false, not-true}
use Rattle.words.specs.Folds.{all_of}
use Rattle.words.proofs.Bools.{and_both}
use Rattle.words.proofs.FoldLaws.{all-each}
use Rattle.class_sheet.specs.ClassSheet.{class_count, interface_count, interface_word, class_parent}
use Rattle.class_rules.specs.ClassRules.{interface_names}
use Rattle.set_rules.specs.Valid.{IsClass}
use Rattle.renumber.specs.Renumber.{stray_parent, names_classes}
use Rattle.renumber.specs.Places.{Named}

module _ (ws : List ℕ) (names : names_classes ws ≡ true) where
  pub names-parents : Named ws
  unfolding names_classes stray_parent
  names-parents c k =
      let a = (and_both (all_of (class_count ws) (λ i. not (stray_parent ws (i + 1)))) (all_of (interface_count ws) (interface_names ws)) names).0 in
      let g : c - 1 + 1 ≡ c = omega arith in
      let h : not (ltb (class_count ws) (class_parent ws c)) ≡ true =
      rw g at (all-each (class_count ws) (λ i. not (stray_parent ws (i + 1))) a (c - 1) (omega arith)) in
      ltb-false (class_count ws) (class_parent ws c) (not-true _ h)

  pub names-interfaces : (i : ℕ) → i < interface_count ws → IsClass ws (interface_word ws i)
  unfolding names_classes interface_names
  names-interfaces i h =
      let a = (and_both (all_of (class_count ws) (λ i. not (stray_parent ws (i + 1)))) (all_of (interface_count ws) (interface_names ws)) names).1 in
      let b = and_both (leb 1 (interface_word ws i)) (leb (interface_word ws i) (class_count ws)) (all-each (interface_count ws) (interface_names ws) a i h) in
      (leb-true _ _ b.0, leb-true _ _ b.1)
