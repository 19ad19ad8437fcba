-- Words whose parents are below their children are refused by 3, 4 and 15 alone, since a walk up falls; and what a step leaves is such words, so a second
-- step moves nothing. Assumes nothing.
use mathlib.Core.Path.{◌≡◌, refl, ◌∙◌}
use mathlib.Core.Logic.{◌≢◌}
use mathlib.Core.Bool.{true, false, not}
use mathlib.Core.List.{List, [], ◌∷◌, ◌++◌}
use Prim.Native.Nat.{ℕ, zero, suc, ◌+◌, ◌≤◌}
use native.Mathlib.Omega.{arith}
use lib.ListN.{length, get_or, drop}
use lib.Dec.{eqb}
use borrow.Author.Tests.{eq-eqb, ne_eqb, le-ltb, le-leb}
use Rattle.words.specs.Lists.{numbers, some}
use Rattle.words.proofs.Bools.{by, and_both}
use Rattle.words.proofs.FoldLaws.{all-ext, all-if}
use Rattle.class_sheet.specs.ClassSheet.{class_count, interface_count, interface_word, class_parent, kind_word, table_place_word, slot_count_word, static_words_word}
use Rattle.class_rules.specs.ClassRules.{class_fits, fresh, all_fresh, interface_names}
use Rattle.class_rules.proofs.Laws.{fresh-same}
use Rattle.renumber.specs.Renumber.{placed, order_of, renumbered, renumber_form, stray_parent, names_classes, returns_from, returns, cyclic, renumber_refusal, renumber_def}
use Rattle.renumber.proofs.Stop.{positive, some-none}
use Rattle.order.specs.Order.{Orderable, Falling, accepted}
use Rattle.order.proofs.Facts.{with_room, formed}
use Rattle.order.proofs.Follows.{numbers-order, words_stay}
use Rattle.order.proofs.Leaves.{count, parent_below, interface-class, fits-new, word_at, all-order}

-- ---- parents below their children

one_more : (c x : ℕ) (passed : List ℕ) → x ≢ c → placed passed x ≡ false → placed (c ∷ passed) x ≡ false
unfolding placed some
one_more c x passed n f = rw (ne_eqb x c n) f

-- the walk up from c, where none of the numbers up to c was passed
falling_ends : (ws : List ℕ) → Falling ws → (k c : ℕ) (passed : List ℕ) → c ≤ k → c ≤ class_count ws → ((x : ℕ) → x ≤ c → placed passed x ≡ false)
    → returns_from ws (suc k) passed c ≡ false
unfolding returns_from
falling_ends ws below zero c passed h m free = rw (eq-eqb c 0 (omega arith))
falling_ends ws below (suc k) c passed h m free =
    by (eqb c 0) (λ t. rw t)
    (λ f.
    let p = below c (positive c f, m) in
    rw (f, free c (omega arith))
    (falling_ends ws below k (class_parent ws c) (c ∷ passed) (omega arith) (omega arith)
    (λ x g. one_more c x passed (λ e. omega arith) (free x (omega arith)))))

falling_acyclic : (ws : List ℕ) → Falling ws → cyclic ws ≡ false
unfolding cyclic returns placed some
falling_acyclic ws below =
    some-none (returns ws) 1 (class_count ws)
    (λ c g l. falling_ends ws below (class_count ws) c [] (omega arith) (omega arith) (λ x h. refl))

pub falling_orderable : (ws : List ℕ) → renumber_form ws ≡ true → names_classes ws ≡ true → Falling ws → Orderable ws
unfolding renumber_refusal
falling_orderable ws form names below =
    rw (form, names, falling_acyclic ws below, le-ltb (class_count ws) (class_count ws) (omega arith))

-- ---- what a step leaves

module _ (ws : List ℕ) (ok : Orderable ws) where
  abbrev new : List ℕ
  new = renumbered ws (order_of ws)

  fresh-new : all_fresh new ≡ all_fresh ws
  fresh-new =
      rw (count ws ok 0 (omega arith))
      (all-ext (class_count ws) (λ i. fresh new (i + 1)) (λ i. fresh ws (get_or (order_of ws) i 0))
      (λ i h.
      fresh-same new ws (i + 1) (get_or (order_of ws) i 0) (word_at ws ok i kind_word h (omega arith) (λ e. omega arith))
      (word_at ws ok i table_place_word h (omega arith) (λ e. omega arith)) (word_at ws ok i slot_count_word h (omega arith) (λ e. omega arith))
      (word_at ws ok i static_words_word h (omega arith) (λ e. omega arith)))
      ∙ all-order ws ok (fresh ws))

  form-new : renumber_form new ≡ true
  unfolding renumber_form
  form-new = rw (fits-new ws ok, fresh-new) (and_both (class_fits ws) (all_fresh ws) (formed ws ok)).1

  falling_new : Falling new
  falling_new c k = parent_below ws ok c (k.0, rw (count ws ok 0 (omega arith)) at k.1)

  names-new : names_classes new ≡ true
  unfolding names_classes stray_parent interface_names
  names-new =
      let n = count ws ok 0 (omega arith) in
      rw (
        all-if (class_count new) (λ i. not (stray_parent new (i + 1)))
            (λ i h. rw (le-ltb (class_count new) (class_parent new (i + 1)) (omega (arith, falling_new (i + 1) (omega arith, omega arith))))),
        all-if (interface_count new) (interface_names new)
            (λ i h.
            let k = interface-class ws ok i (omega (arith, count ws ok 3 (omega arith))) in
            rw (le-leb 1 (interface_word new i) k.0, le-leb (interface_word new i) (class_count new) (omega (arith, k.1)))),
      )

  orderable-new : Orderable new
  orderable-new = falling_orderable new form-new names-new falling_new

  pub second-step : (list : List ℕ) → class_count ws ≤ length list
      → renumber_def new list ≡ accepted (class_count ws) new (numbers 1 (class_count ws) ++ drop (class_count ws) list)
  unfolding renumber_def
  second-step list h =
      let n = count ws ok 0 (omega arith) in
      rw (
        eq-eqb (renumber_refusal new (length list)) 0 (with_room new (length list) orderable-new (omega arith)),
        words_stay new orderable-new falling_new,
        numbers-order new orderable-new falling_new,
        n,
      )
