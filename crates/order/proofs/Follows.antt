-- Numbers follow: a class's new number leads to its old record, so its name, its parents in order and its interfaces are those that it had. Words in order
-- already stay: the order 1, 2, .., n is the only one. Assumes nothing.
use mathlib.Core.Path.{◌≡◌, refl, sym, ap, ◌∙◌}
use mathlib.Core.Logic.{◌≢◌, inl, inr}
use mathlib.Core.List.{List, [], map}
use Prim.Native.Nat.{ℕ, zero, suc, ◌+◌, ◌-◌, ◌≤◌, ◌<◌}
use native.Mathlib.Omega.{arith}
use lib.ListN.{length, get_or}
use lib.Seq.{ext_get_or, set-get_or}
use lib.Dec.{eqb, ltb}
use borrow.Author.Tests.{eqb-true, eqb-false, ne_eqb, eq-eqb, ltb-true, ltb-false}
use Rattle.words.specs.Lists.{numbers}
use Rattle.words.proofs.Bools.{by}
use Rattle.words.proofs.ListLaws.{length-list-from, get_d_list_from}
use Rattle.class_sheet.specs.ClassSheet.{parent_word, class_width, class_count, interface_count, class_word, interface_word, text_of, class_parent, class_name}
use Rattle.class_sheet.specs.Sections.{sections_of}
use Rattle.class_sheet.proofs.Sections.{laid_of, class_of, interface-of, number_of_classes, number_of_interfaces}
use Rattle.set_rules.specs.Valid.{IsClass}
use Rattle.renumber.specs.Renumber.{order_of, new_number, moved_record, renumbered}
use Rattle.renumber.specs.Places.{Before, Settled, up}
use Rattle.order.specs.Order.{Orderable, Ordered, Follows}
use Rattle.renumber.proofs.Stop.{positive}
use Rattle.order.proofs.Facts.{fits, parents-named, interfaces-named, whole, distinct, class-stands, order-ordered, one-order}
use Rattle.renumber.proofs.Moved.{new-at, new-zero, map_at, length-map, word_moved, parent-moved, interface-moved, method-same, field-same, compiler-same, text_same, count_same, rest-same, length-same}

module _ (ws : List ℕ) (ok : Orderable ws) where
  abbrev l : List ℕ
  l = order_of ws

  abbrev new : List ℕ
  new = renumbered ws l

  -- class c's new number is that of a class, and leads to c's record
  pub new-place : (c : ℕ) → IsClass ws c → IsClass ws (new_number l c) × (get_or l (new_number l c - 1) 0 ≡ c)
  new-place c k =
      let b = class-stands ws ok c k in
      let e : new_number l c ≡ b.place + 1 = ap (new_number l) (sym b.is) ∙ new-at (class_count ws) l (distinct ws ok) b.place b.before in
      let g : new_number l c - 1 ≡ b.place = omega arith in
      ((omega arith, omega (arith, b.before, whole ws ok)), rw g b.is)

  word-new : (c k : ℕ) → IsClass ws c → k < class_width → k ≢ parent_word → class_word new (new_number l c) k ≡ class_word ws c k
  word-new c k h g n =
      let p = new-place c h in
      word_moved ws l (fits ws ok) (distinct ws ok) (whole ws ok) (new_number l c) k p.0 g n ∙ ap (λ (x : ℕ). class_word ws x k) p.1

  parent-new : (c : ℕ) → IsClass ws c → class_parent new (new_number l c) ≡ new_number l (class_parent ws c)
  parent-new c h =
      let p = new-place c h in
      parent-moved ws l (fits ws ok) (distinct ws ok) (whole ws ok) (new_number l c) p.0 ∙ ap (λ (x : ℕ). new_number l (class_parent ws x)) p.1

  pub name_new : (c : ℕ) → IsClass ws c → class_name new (text_of new) (new_number l c) ≡ class_name ws (text_of ws) c
  name_new c h =
      rw (
        text_same ws l (fits ws ok) (distinct ws ok) (whole ws ok),
        word-new c 0 h (omega arith) (λ e. omega arith),
        word-new c 1 h (omega arith) (λ e. omega arith),
      )

  -- steps up lead to classes, or to 0
  up-within : (i c : ℕ) → IsClass ws c → up ws i c ≤ class_count ws
  unfolding up
  up-within zero c k = k.1
  up-within (suc i) c k =
      by (eqb (up ws i c) 0) (λ t. rw t (omega arith))
      (λ f. rw f (parents-named ws ok (up ws i c) (positive (up ws i c) f, up-within i c k)))

  pub up-class : (i c : ℕ) → IsClass ws c → up ws i c ≢ 0 → IsClass ws (up ws i c)
  up-class i c k n = (positive (up ws i c) (ne_eqb (up ws i c) 0 n), up-within i c k)

  pub up-new : (i c : ℕ) → IsClass ws c → up new i (new_number l c) ≡ new_number l (up ws i c)
  unfolding up
  up-new zero c k = refl
  up-new (suc i) c k =
      by (eqb (up ws i c) 0)
      (λ t.
      let z : up ws i c ≡ 0 = eqb-true (up ws i c) 0 t in
      let e : up new i (new_number l c) ≡ 0 = up-new i c k ∙ ap (new_number l) z ∙ new-zero (class_count ws) l (distinct ws ok) in
      rw (eq-eqb (up new i (new_number l c)) 0 e, t, new-zero (class_count ws) l (distinct ws ok)))
      (λ f.
      let h = up-class i c k (eqb-false (up ws i c) 0 f) in
      let p = new-place (up ws i c) h in
      let e = up-new i c k in
      rw (ne_eqb (up new i (new_number l c)) 0 (λ q. omega (arith, p.0.0)), f, e) (parent-new (up ws i c) h))

  pub numbers-follow : Follows ws l new
  numbers-follow = record {
    number = λ i h. new-at (class_count ws) l (distinct ws ok) i (rw (whole ws ok) h);
    none = new-zero (class_count ws) l (distinct ws ok);
    word = word_moved ws l (fits ws ok) (distinct ws ok) (whole ws ok);
    parent = parent-moved ws l (fits ws ok) (distinct ws ok) (whole ws ok);
    interface = interface-moved ws l (fits ws ok) (distinct ws ok) (whole ws ok);
    count = count_same ws l (fits ws ok) (distinct ws ok) (whole ws ok);
    method = method-same ws l (fits ws ok) (distinct ws ok) (whole ws ok);
    field = field-same ws l (fits ws ok) (distinct ws ok) (whole ws ok);
    compiler = compiler-same ws l (fits ws ok) (distinct ws ok) (whole ws ok);
    text = text_same ws l (fits ws ok) (distinct ws ok) (whole ws ok);
    rest = rest-same ws l (fits ws ok) (distinct ws ok) (whole ws ok);
    length_is = length-same ws l (fits ws ok) (distinct ws ok) (whole ws ok);
    name = name_new;
    ancestor = up-new;
    ancestor_name = λ i c k n. rw (up-new i c k) (name_new (up ws i c) (up-class i c k n));
    interface_name =
        λ i h. rw (interface-moved ws l (fits ws ok) (distinct ws ok) (whole ws ok) i h) (name_new (interface_word ws i) (interfaces-named ws ok i h));
  }

-- ---- words in order already

-- 1, 2, .., n is an order where each parent is below its class
numbers-ordered : (ws : List ℕ) → ((c : ℕ) → IsClass ws c → class_parent ws c < c) → Ordered ws (numbers 1 (class_count ws))
numbers-ordered ws below = record {
  whole = length-list-from (λ k. k) 1 (class_count ws);
  class = λ i h. rw (is i h) (omega arith, omega arith);
  once = λ c k. record {
    stands = record { place = c - 1; before = omega (arith, k.0, k.1, long); is = stands c k };
    one = λ i j h g e f. omega (arith, is i (omega (arith, long)), is j (omega (arith, long)));
  };
  parents_first = λ i h. rw (is i h) (first i h);
  smallest = λ i c h k new settled. rw (is i h) (least i c h k new);
}
  where
    n : ℕ
    n = class_count ws

    o : List ℕ
    o = numbers 1 (class_count ws)

    long : length o ≡ n
    long = length-list-from (λ k. k) 1 (class_count ws)

    is : (i : ℕ) → i < n → get_or o i 0 ≡ 1 + i
    is i h = get_d_list_from (λ k. k) 1 (class_count ws) i 0 h

    stands : (c : ℕ) → IsClass ws c → get_or o (c - 1) 0 ≡ c
    stands c k = is (c - 1) (omega (arith, k.0, k.1)) ∙ omega (arith, k.0)

    first : (i : ℕ) → i < n → Settled ws o i (1 + i)
    first i h =
        let b = below (1 + i) (omega arith, omega arith) in
        by (eqb (class_parent ws (1 + i)) 0) (λ t. inl (eqb-true _ _ t))
        (λ f. inr (before (class_parent ws (1 + i)) (eqb-false _ _ f) b))
      where
        before : (p : ℕ) → p ≢ 0 → p < 1 + i → Before o i p
        before zero f b = absurd (f refl)
        before (suc p) f b = record { place = p; before = omega arith; is = is p (omega arith) ∙ omega arith }

    least : (i c : ℕ) → i < n → IsClass ws c → (Before o i c → ⊥) → 1 + i ≤ c
    least i c h k new =
        by (ltb c (1 + i)) (λ t. absurd (new (record { place = c - 1; before = omega (arith, k.0, ltb-true c (1 + i) t); is = stands c k })))
        (λ f. ltb-false c (1 + i) f)

module _ (ws : List ℕ) (ok : Orderable ws) (below : (c : ℕ) → IsClass ws c → class_parent ws c < c) where
  abbrev o : List ℕ
  o = order_of ws

  pub numbers-order : o ≡ numbers 1 (class_count ws)
  numbers-order = one-order ws o (numbers 1 (class_count ws)) (order-ordered ws ok) (numbers-ordered ws below)

  is : (i : ℕ) → i < class_count ws → get_or o i 0 ≡ 1 + i
  is i h = ap (λ (x : List ℕ). get_or x i 0) numbers-order ∙ get_d_list_from (λ k. k) 1 (class_count ws) i 0 h

  same_number : (c : ℕ) → c ≤ class_count ws → new_number o c ≡ c
  same_number zero h = new-zero (class_count ws) o (distinct ws ok)
  same_number (suc c) h =
      ap (new_number o) (sym (is c (omega arith) ∙ omega arith)) ∙ new-at (class_count ws) o (distinct ws ok) c (rw (whole ws ok) (omega arith)) ∙ omega arith

  same_record : (i : ℕ) → i < class_count ws → moved_record ws o (1 + i) ≡ get_or (sections_of ws).classes i []
  unfolding moved_record
  same_record i h =
      let k : IsClass ws (1 + i) = (omega arith, omega arith) in
      let z : 1 + i - 1 ≡ i = omega arith in
      let p = same_number (class_parent ws (1 + i)) (parents-named ws ok (1 + i) k) in
      let r = class_of ws (fits ws ok) (1 + i) parent_word k.0 k.1 (omega arith) in
      rw (p, r, z) (set-get_or (get_or (sections_of ws).classes i []) parent_word 0)

  classes-same : map (moved_record ws o) o ≡ (sections_of ws).classes
  classes-same =
      let n : length (sections_of ws).classes ≡ class_count ws = sym (number_of_classes (sections_of ws)) ∙ ap class_count (laid_of ws (fits ws ok)) in
      let m : length (map (moved_record ws o) o) ≡ class_count ws = length-map (moved_record ws o) o ∙ whole ws ok in
      ext_get_or [] (map (moved_record ws o) o) (sections_of ws).classes (m ∙ sym n)
      (λ i h.
      map_at (moved_record ws o) o i 0 [] (omega (arith, whole ws ok)) ∙ ap (moved_record ws o) (is i (omega arith)) ∙ same_record i (omega arith))

  interfaces-same : map (new_number o) (sections_of ws).interfaces ≡ (sections_of ws).interfaces
  interfaces-same =
      let n : length (sections_of ws).interfaces ≡ interface_count ws =
      sym (number_of_interfaces (sections_of ws)) ∙ ap interface_count (laid_of ws (fits ws ok)) in
      let m = length-map (new_number o) (sections_of ws).interfaces in
      ext_get_or 0 (map (new_number o) (sections_of ws).interfaces) (sections_of ws).interfaces m
      (λ i h.
      let e = interface-of ws (fits ws ok) i (omega arith) in
      map_at (new_number o) (sections_of ws).interfaces i 0 0 (omega arith)
      ∙ same_number (get_or (sections_of ws).interfaces i 0) (rw e at (interfaces-named ws ok i (omega arith)).1))

  pub words_stay : renumbered ws o ≡ ws
  unfolding renumbered
  words_stay = rw (classes-same, interfaces-same) (laid_of ws (fits ws ok))
