-- What words that 3, 4 and 19 do not refuse have: room for their content, fresh classes, parents and interface words that name classes, and a whole order.
-- Assumes nothing.
use mathlib.Core.Path.{◌≡◌, refl, sym, ◌∙◌}
use mathlib.Core.Logic.{inl, inr, ⊎_elim}
use mathlib.Core.Bool.{true, false, not, false≢true}
use mathlib.Core.List.{List, []}
use Prim.Native.Nat.{ℕ, zero, suc, ◌≤◌, ◌<◌}
use native.Mathlib.Omega.{arith}
use native.Mathlib.Nat.{eq-or-lt_of_le, le_of_suc-le-suc}
use lib.ListN.{length, get_or, take, drop}
use lib.Seq.{take_at, ext_get_or}
use lib.Dec.{eqb, leb, ltb}
use borrow.Author.Tests.{eqb-true, eqb-false, leb-true, ltb-true, ltb-false, le-ltb, not-false}
use Rattle.words.proofs.Bools.{by, and_both, passed}
use Rattle.class_sheet.specs.ClassSheet.{class_count, interface_count, content_end, interface_word, class_parent}
use Rattle.class_rules.specs.ClassRules.{class_limits, class_fits, all_fresh}
use Rattle.set_rules.specs.Valid.{IsClass}
use Rattle.renumber.specs.Renumber.{order_of, renumbered, renumber_form, names_classes, cyclic, renumber_refusal, renumber_def}
use Rattle.renumber.specs.Places.{Named, Before}
use Rattle.order.specs.Order.{Orderable, Ordered}
use Rattle.renumber.proofs.Named.{names-parents, names-interfaces}
use Rattle.renumber.proofs.Distinct.{Distinct, placed-place, distinct-whole}
use Rattle.renumber.proofs.OrderLaws.{order-most, each-order, element-class, element_settled, element-smallest, order-distinct}
use Rattle.renumber.proofs.Stop.{stops_round}

-- ---- each row, passed

record Passed (ws : List ℕ) : Type 0 where
  pub form : renumber_form ws ≡ true
  pub names : names_classes ws ≡ true
  pub acyclic : cyclic ws ≡ false

rows-passed : (ws : List ℕ) (room : ℕ) → renumber_refusal ws room ≡ 0 → Passed ws
unfolding renumber_refusal
rows-passed ws room e =
    let a = passed (not (renumber_form ws)) 3 _ (omega arith) e in
    let b = passed (not (names_classes ws)) 4 _ (omega arith) a.1 in
    let c = passed (cyclic ws) 19 _ (omega arith) b.1 in
    record { form = not-false _ a.0; names = not-false _ b.0; acyclic = c.0 }

-- a call with room for its list is refused by these rows alone
pub orderable : (ws : List ℕ) (room : ℕ) → renumber_refusal ws room ≡ 0 → Orderable ws
unfolding renumber_refusal
orderable ws room e =
    let p = rows-passed ws room e in
    rw (p.form, p.names, p.acyclic, le-ltb (class_count ws) (class_count ws) (omega arith))

-- and with room for its list it is not refused
pub with_room : (ws : List ℕ) (room : ℕ) → Orderable ws → class_count ws ≤ room → renumber_refusal ws room ≡ 0
unfolding renumber_refusal
with_room ws room ok h =
    let p = rows-passed ws (class_count ws) ok in rw (p.form, p.names, p.acyclic, le-ltb room (class_count ws) h)

module _ (ws : List ℕ) (ok : Orderable ws) where
  rows : Passed ws
  rows = rows-passed ws (class_count ws) ok

  pub fits : content_end ws ≤ length ws
  unfolding renumber_form class_fits
  fits =
      leb-true _ _ (and_both (class_limits ws) (leb (content_end ws) (length ws)) (and_both (class_fits ws) (all_fresh ws) rows.form).0).1

  pub formed : renumber_form ws ≡ true
  formed = rows.form

  pub parents-named : Named ws
  parents-named = names-parents ws rows.names

  pub interfaces-named : (i : ℕ) → i < interface_count ws → IsClass ws (interface_word ws i)
  interfaces-named = names-interfaces ws rows.names

  pub whole : length (order_of ws) ≡ class_count ws
  unfolding order_of
  whole =
      by (ltb (length (order_of ws)) (class_count ws))
      (λ t. absurd (false≢true (sym rows.acyclic ∙ stops_round ws parents-named (ltb-true (length (order_of ws)) (class_count ws) t))))
      (λ f. omega (arith, order-most ws (class_count ws) [], ltb-false (length (order_of ws)) (class_count ws) f))

  pub distinct : Distinct (class_count ws) (order_of ws)
  distinct = order-distinct ws (order_of ws) (each-order ws)

  pub class-stands : (c : ℕ) → IsClass ws c → Before (order_of ws) (length (order_of ws)) c
  class-stands c k = placed-place (order_of ws) c (distinct-whole (class_count ws) (order_of ws) distinct whole c k.0 k.1)

  pub order-ordered : Ordered ws (order_of ws)
  order-ordered =
      let o : List ℕ = order_of ws in
      record {
        whole = whole;
        class = λ i h. element-class ws o (each-order ws) i (rw whole h);
        once = λ c k. record { stands = class-stands c k; one = λ i j h g e f. distinct.once i j h g (e ∙ sym f) };
        parents_first = λ i h. element_settled ws o (each-order ws) i (rw whole h);
        smallest = λ i c h k. element-smallest ws o (each-order ws) i (rw whole h) c k;
      }

-- ---- the order is the only list with these properties: where two agree up to a place, neither has the smaller class there

before_same : (l o : List ℕ) (i c : ℕ) → ((j : ℕ) → j < i → get_or l j 0 ≡ get_or o j 0) → Before l i c → Before o i c
before_same l o i c same b = record { place = b.place; before = b.before; is = sym (same b.place b.before) ∙ b.is }

module _ (ws l o : List ℕ) (p : Ordered ws l) (q : Ordered ws o) (i : ℕ) (h : i < class_count ws) (same : (j : ℕ) → j < i → get_or l j 0 ≡ get_or o j 0) where
  not-above : get_or l i 0 ≤ get_or o i 0
  not-above =
      let c : ℕ = get_or o i 0 in
      p.smallest i c h (q.class i h)
      (λ b.
      let d : Before o i c = before_same l o i c same b in
      let e = (q.once c (q.class i h)).one d.place i (omega (arith, d.before, q.whole)) (omega (arith, q.whole)) d.is refl in
      omega (arith, d.before))
      (⊎_elim (λ e. inl e) (λ b. inr (before_same o l i (class_parent ws c) (λ j g. sym (same j g)) b)) (q.parents_first i h))

agree : (ws l o : List ℕ) → Ordered ws l → Ordered ws o → (n i : ℕ) → i < n → n ≤ class_count ws → get_or l i 0 ≡ get_or o i 0
agree ws l o p q zero i h g = absurd (omega arith)
agree ws l o p q (suc n) i h g =
    ⊎_elim (λ (e : i ≡ n).
    let same : (j : ℕ) → j < i → get_or l j 0 ≡ get_or o j 0 = λ j k. agree ws l o p q n j (omega arith) (omega arith) in
    omega (arith, not-above ws l o p q i (omega arith) same, not-above ws o l q p i (omega arith) (λ j k. sym (same j k))))
    (λ (k : i < n). agree ws l o p q n i k (omega arith)) (eq-or-lt_of_le (le_of_suc-le-suc h))

pub one-order : (ws l o : List ℕ) → Ordered ws l → Ordered ws o → l ≡ o
one-order ws l o p q =
    ext_get_or 0 l o (p.whole ∙ sym q.whole) (λ i h. agree ws l o p q (class_count ws) i (omega (arith, p.whole)) (omega arith))

-- ---- the list that an accepted call hands back

pub handed : (ws list : List ℕ) → (renumber_def ws list).refusal ≡ 0
    → Orderable ws × (take (class_count ws) (renumber_def ws list).list ≡ order_of ws) × ((renumber_def ws list).set ≡ renumbered ws (order_of ws))
unfolding renumber_def
handed ws list e =
    by (eqb (renumber_refusal ws (length list)) 0)
    (λ t.
    let ok = orderable ws (length list) (eqb-true _ _ t) in
    (ok, rw t (take_at (order_of ws) (drop (class_count ws) list) (class_count ws) (whole ws ok)), rw t))
    (λ f. absurd (eqb-false _ _ f (rw f at e)))
