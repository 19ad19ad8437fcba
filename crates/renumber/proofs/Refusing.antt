-- The rows refuse in their order: 3 and 4 by their tests, 19 where the order stops short, then 15. Assumes nothing.
use mathlib.Core.Path.{◌≡◌, sym, ◌∙◌}
use mathlib.Core.Bool.{true, not}
use mathlib.Core.List.{List}
use Prim.Native.Nat.{ℕ, ◌≤◌, ◌<◌}
use native.Mathlib.Omega.{arith}
use lib.ListN.{length}
use lib.Dec.{ltb}
use borrow.Author.Tests.{not-false, lt-ltb, le-ltb, ltb-true, ltb-false}
use Rattle.words.proofs.Bools.{by, and_both, passed}
use Rattle.class_sheet.specs.ClassSheet.{class_limit, class_count, content_end}
use Rattle.class_rules.proofs.Laws.{fits}
use Rattle.class_rules.specs.ClassRules.{class_fits, all_fresh}
use Rattle.renumber.specs.Renumber.{order_of, renumber_form, names_classes, cyclic, renumber_refusal}
use Rattle.renumber.specs.Steps.{form_refusal, Complete}
use Rattle.refusal.specs.declared.Refusal.{Refusal}
use Rattle.refusal.specs.Rows.{row, row_of}
use Rattle.std.specs.Prelude.{Result, Err}
use Rattle.refusal.proofs.Rows.{row_above}
use Rattle.renumber.proofs.Stop.{stops}
use Rattle.renumber.proofs.Named.{names-parents}

-- ---- all rows

-- 19 is where the order stops short, as a test
stop : (ws : List ℕ) → names_classes ws ≡ true → cyclic ws ≡ ltb (length (order_of ws)) (class_count ws)
stop ws names =
    let s = stops ws (names-parents ws names) in
    by (ltb (length (order_of ws)) (class_count ws)) (λ t. s.1 (ltb-true (length (order_of ws)) (class_count ws) t) ∙ sym t)
    (λ f. by (cyclic ws) (λ c. absurd (omega (arith, s.0 c, ltb-false (length (order_of ws)) (class_count ws) f))) (λ c. c ∙ sym f))

-- what 3 or 4 refuses is refused
pub refuse_form : {A : Type 0} (ws : List ℕ) (room : ℕ) (r : Refusal) {x : Result A Refusal} → x ≡ Err r → row r ≡ form_refusal ws
    → row_of x ≡ renumber_refusal ws room
unfolding form_refusal renumber_refusal
refuse_form ws room r e form =
    rw e
    (by (renumber_form ws)
    (λ t. by (names_classes ws) (λ u. let z : row r ≡ 0 = rw (t, u) at form in absurd (omega (arith, row_above r))) (λ u. rw (t, u) (rw (t, u) at form)))
    (λ t. rw t (rw t at form)))

module _ (ws : List ℕ) (form : 0 ≡ form_refusal ws) where
  form-passed : (renumber_form ws ≡ true) × (names_classes ws ≡ true)
  unfolding form_refusal
  form-passed =
      let p = passed (not (renumber_form ws)) 3 _ (omega arith) (sym form) in
      let q = passed (not (names_classes ws)) 4 0 (omega arith) p.1 in (not-false _ p.0, not-false _ q.0)

  pub form-fits : (class_count ws ≤ class_limit) × (content_end ws ≤ length ws)
  unfolding renumber_form
  form-fits =
      let f = fits ws (and_both (class_fits ws) (all_fresh ws) form-passed.0).0 in
      (f.0.classes, f.1)

  -- after the order is made: k classes are placed
  module _ (room k : ℕ) (list : List ℕ) (is : list ≡ order_of ws) (count : length list ≤ class_count ws) (size : k ≡ length list) where
    order-length : length (order_of ws) ≡ k
    order-length = rw (← is) (sym size)

    pub refuse_19 : k < class_count ws → 19 ≡ renumber_refusal ws room
    unfolding renumber_refusal
    refuse_19 h = rw (form-passed.0, form-passed.1, stop ws form-passed.1, order-length, lt-ltb k (class_count ws) h)

    module _ (h : class_count ws ≤ k) where
      pub refuse_15 : room < class_count ws → 15 ≡ renumber_refusal ws room
      unfolding renumber_refusal
      refuse_15 r =
          rw (form-passed.0, form-passed.1, stop ws form-passed.1, order-length, le-ltb k (class_count ws) h, lt-ltb room (class_count ws) r)

      pub refuse_0 : class_count ws ≤ room → 0 ≡ renumber_refusal ws room
      unfolding renumber_refusal
      refuse_0 r =
          rw (form-passed.0, form-passed.1, stop ws form-passed.1, order-length, le-ltb k (class_count ws) h, le-ltb room (class_count ws) r)

      pub is-complete : Complete ws list
      is-complete = record { order = is; all = omega arith; few = omega (arith, form-fits); fits = form-fits.1 }
