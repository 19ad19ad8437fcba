-- The place of a class in the list, and the list as it is filled, a turn at a time. Assumes nothing.
use mathlib.Core.Path.{◌≡◌, refl, sym, ap, ◌∙◌}
use mathlib.Core.List.{List, [], ◌∷◌, ◌++◌}
use Prim.Native.Nat.{ℕ, suc, ◌+◌, ◌-◌, ◌≤◌, ◌<◌}
use native.Mathlib.Omega.{arith}
use lib.ListN.{length, take, length-append}
use lib.Dec.{eqb, ltb}
use borrow.Author.Tests.{eq-eqb, ne_eqb, eqb-true, eqb-false, lt-ltb, le-ltb, ltb-true, ltb-false}
use Rattle.std.specs.List.{list_any, position as first_place, position_or_len}
use Rattle.renumber.proofs.OrderLaws.{order_stuck, order-turn}
use Rattle.words.specs.Lists.{position, some}
use Rattle.std.specs.Option.{option_map}
use Rattle.std.specs.Prelude.{Option, Some, None}
use Rattle.words.proofs.Bools.{by}
use Rattle.words.proofs.ListLaws.{push_room}
use Rattle.class_sheet.specs.ClassSheet.{class_count, class_limit}
use Rattle.renumber.specs.Renumber.{placed, next_class, order_from, order_of, or_none, new_number}

-- ---- the place of a class in the list

-- the library's search, counted from 0, finds the place that the definition finds, counted from k
place_is : (l : List ℕ) (c k : ℕ) → position (eqb c) k l ≡ option_map (λ i. k + i) (first_place (λ x. eqb x c) l)
unfolding position
place_is [] c k = refl
place_is (x ∷ l) c k =
    let m = position_or_len (λ y. eqb y c) l in
    let n = length l in
    by (eqb x c) (λ t. rw (t, eq-eqb c x (sym (eqb-true x c t)), lt-ltb 0 (suc n) (omega arith)) (ap Some (omega arith)))
    (λ t. rw (t, ne_eqb c x (λ e. eqb-false x c t (sym e)), place_is l c (k + 1))
    (by (ltb m n) (λ u. rw (u, lt-ltb (1 + m) (suc n) (omega (arith, ltb-true m n u))) (ap Some (omega arith)))
    (λ u. rw (u, le-ltb (1 + m) (suc n) (omega (arith, ltb-false m n u))) refl)))

abbrev counted : Option ℕ → ℕ
counted (Some i) = i + 1
counted None = 0

none_counted : (r : Option ℕ) → or_none (option_map (λ i. 1 + i) r) ≡ counted r
none_counted (Some i) = omega arith
none_counted None = refl

pub number_counted : (l : List ℕ) (c : ℕ) {r : Option ℕ} → r ≡ first_place (λ x. eqb x c) l → counted r ≡ new_number l c
unfolding new_number
number_counted l c e = rw (place_is l c 1, e) (sym (none_counted (first_place (λ x. eqb x c) l)))

-- a class is placed where the list has it
pub placed_found : (l : List ℕ) (c : ℕ) → list_any (λ y. eqb y c) l ≡ placed l c
unfolding placed some
placed_found [] c = refl
placed_found (x ∷ l) c =
    rw (placed_found l c) (by (eqb x c) (λ t. rw (eqb-true x c t, eq-eqb c c refl)) (λ t. rw (t, ne_eqb c x (λ e. eqb-false x c t (sym e)))))

-- ---- the list as it is filled: what it becomes after k classes

unfoldable pub order_left : List ℕ → ℕ → List ℕ → List ℕ
order_left ws k l = order_from ws (class_count ws - k) l

module _ (ws : List ℕ) where
  pub place_start : order_left ws 0 [] ≡ order_of ws
  unfolding order_left order_of
  place_start = let e : class_count ws - 0 ≡ class_count ws = omega arith in rw e

  pub place_end : (k : ℕ) (l : List ℕ) → class_count ws ≤ k → order_left ws k l ≡ l
  unfolding order_left order_from
  place_end k l h = let g : class_count ws - k ≡ 0 = omega arith in rw g

  -- one class more, or none, as the code finds it
  module _ (list : List ℕ) (k : ℕ) {p : List ℕ} {f : Option ℕ} (all : p ≡ list) (first : f ≡ next_class ws p) where
    pub place-turn : (c : ℕ) → f ≡ Some c → k < class_count ws → length list < class_limit → {m : List ℕ} → m ≡ take class_limit (list ++ c ∷ [])
        → order_left ws (k + 1) m ≡ order_left ws k list
    unfolding order_left order_from
    place-turn c t h r {m} e =
        let g : class_count ws - k ≡ suc (class_count ws - (k + 1)) = omega arith in
        let n : next_class ws list ≡ Some c = rw all at (sym first) ∙ t in
        rw (g, e, push_room class_limit list c r) (sym (order-turn ws (class_count ws - (k + 1)) list c n))

    pub place-stuck : f ≡ None → order_left ws k list ≡ list
    unfolding order_left
    place-stuck t = order_stuck ws (class_count ws - k) list (rw all at (sym first) ∙ t)

-- a class more is one more
pub pushed-count : (list : List ℕ) (c : ℕ) {m : List ℕ} → length list < class_limit → m ≡ take class_limit (list ++ c ∷ []) → length m ≡ length list + 1
pushed-count list c h e = rw (e, push_room class_limit list c h) (length-append list (c ∷ []))
