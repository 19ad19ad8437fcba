-- Equal parts and the comparison by bytes, used places and their numbers, and a list of numbers as a comparison. Assumes nothing.
use mathlib.Core.Path.{◌≡◌, refl, sym, ap, ◌∙◌}
use mathlib.Core.Bool.{Bool, true, true≢false}
use mathlib.Core.List.{List}
use Prim.Native.Nat.{ℕ, ◌+◌, ◌-◌, ◌<◌}
use native.Mathlib.Omega.{arith}
use lib.Dec.{ltb}
use borrow.Author.Tests.{ltb-true, ltb-false, le-ltb}
use Rattle.words.proofs.Bools.{by, and_both}
use Rattle.text.specs.Text.{same_bytes}
use Rattle.text.proofs.Laws.{same-is, same_refl}
use Rattle.class_sheet.specs.ClassSheet.{method_limit, method_count, text_of}
use Rattle.abi_sheet.specs.AbiSheet.{abi_slot_limit, abi_slot_count, abi_text_of}
use Rattle.linking.specs.Signature.{Place, of_method, of_abi_slot, place_name, place_descriptor, by_bytes, place_number, place_at, by_numbers}
use Rattle.linking.specs.Numbers.{number_limit, is_used}
use Rattle.matching.specs.Filling.{EqualParts, Used, Faithful}

-- ---- places and numbers

pub number-back : (n : ℕ) → place_number (place_at n) ≡ n
unfolding place_at place_number
number-back n = by (ltb n method_limit) (λ t. rw t) (λ t. let h = ltb-false n method_limit t in rw t (omega arith))

module _ (ws abi : List ℕ) where
  pub number-below : (p : Place) → Used ws abi p → place_number p < number_limit
  unfolding is_used place_number
  number-below (of_method m) u =
      let b = and_both (ltb m (method_count ws)) (ltb m method_limit) u in omega (arith, ltb-true m method_limit b.1)
  number-below (of_abi_slot s) u =
      let b = and_both (ltb s (abi_slot_count abi)) (ltb s abi_slot_limit) u in omega (arith, ltb-true s abi_slot_limit b.1)

  pub place-back : (p : Place) → Used ws abi p → place_at (place_number p) ≡ p
  unfolding is_used place_number place_at
  place-back (of_method m) u =
      let b = and_both (ltb m (method_count ws)) (ltb m method_limit) u in rw b.1
  place-back (of_abi_slot s) u =
      let e : method_limit + s - method_limit ≡ s = omega arith in rw (le-ltb (method_limit + s) method_limit (omega arith)) (ap of_abi_slot e)

  -- ---- equal parts

  pub parts-refl : (p : Place) → EqualParts ws abi p p
  parts-refl p = record { name = refl; descriptor = refl }

  pub parts-sym : (p q : Place) → EqualParts ws abi p q → EqualParts ws abi q p
  parts-sym p q e = record { name = sym e.name; descriptor = sym e.descriptor }

  pub parts-trans : (p q r : Place) → EqualParts ws abi p q → EqualParts ws abi q r → EqualParts ws abi p r
  parts-trans p q r e f = record { name = e.name ∙ f.name; descriptor = e.descriptor ∙ f.descriptor }

  abbrev pub by_sheets : Place → Place → Bool
  by_sheets = by_bytes ws (text_of ws) abi (abi_text_of abi)

  pub bytes-parts : (p q : Place) → by_sheets p q ≡ true → EqualParts ws abi p q
  unfolding by_bytes
  bytes-parts p q t =
      let b =
      and_both (same_bytes (place_name ws (text_of ws) abi (abi_text_of abi) p) (place_name ws (text_of ws) abi (abi_text_of abi) q))
      (same_bytes (place_descriptor ws (text_of ws) abi (abi_text_of abi) p) (place_descriptor ws (text_of ws) abi (abi_text_of abi) q))
      t in
      record { name = same-is _ _ b.0; descriptor = same-is _ _ b.1 }

  pub parts-bytes : (p q : Place) → EqualParts ws abi p q → by_sheets p q ≡ true
  unfolding by_bytes
  parts-bytes p q e =
      rw (e.name, e.descriptor, same_refl (place_name ws (text_of ws) abi (abi_text_of abi) q))
      (same_refl (place_descriptor ws (text_of ws) abi (abi_text_of abi) q))

  -- ---- a faithful list is a comparison that says what the bytes say

  pub faithful-agrees : (ns : List ℕ) → Faithful ws abi ns → (p q : Place) → Used ws abi p → Used ws abi q → by_numbers ns p q ≡ by_sheets p q
  faithful-agrees ns f p q u v =
      by (by_sheets p q) (λ t. f.equal p q u v (bytes-parts p q t) ∙ sym t)
      (λ t. by (by_numbers ns p q) (λ n. absurd (true≢false (sym (parts-bytes p q (f.apart p q u v n)) ∙ t))) (λ n. n ∙ sym t))
