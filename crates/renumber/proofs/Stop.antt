-- 19 is where the order stops short. Along a whole order a walk up goes to earlier and earlier places, so it ends; where the order stops, each class left out
-- has a parent that is left out, so no walk from it ends. A walk that does not end passes more classes than there are, so one of them twice. Assumes
-- nothing.
use mathlib.Core.Path.{◌≡◌, refl, sym, ap, ◌∙◌}
use mathlib.Core.Logic.{◌↔◌, ⊎_elim}
use mathlib.Core.Bool.{Bool, true, false, false≢true, or-true}
use mathlib.Core.List.{List, [], ◌∷◌}
use Prim.Native.Nat.{ℕ, zero, suc, ◌+◌, ◌-◌, ◌≤◌, ◌<◌}
use native.Mathlib.Omega.{arith}
use native.Mathlib.Nat.{eq-or-lt_of_le}
use lib.ListN.{length, get_or}
use lib.Dec.{eqb, ltb}
use borrow.Author.Tests.{eq-eqb, ne_eqb, eqb-true, eqb-false, ltb-true, ltb-false}
use Rattle.words.specs.Lists.{numbers, list_from, some}
use Rattle.std.specs.Prelude.{None}
use Rattle.words.proofs.Bools.{by, or-either}
use Rattle.class_sheet.specs.ClassSheet.{class_count, class_parent}
use Rattle.set_rules.specs.Valid.{IsClass}
use Rattle.renumber.specs.Renumber.{placed, next_class, order_of, returns_from, returns, cyclic}
use Rattle.renumber.specs.Places.{Named, Before, up, Returns}
use Rattle.renumber.proofs.Distinct.{Distinct, placed-place, distinct_more, distinct-most, distinct-whole, distinct-short}
use Rattle.renumber.proofs.OrderLaws.{Each, order-ends, order-most, each-order, element-class, element_settled, order-distinct, left_behind}

-- a number that is not 0
pub positive : (x : ℕ) → eqb x 0 ≡ false → 1 ≤ x
positive zero n = absurd (eqb-false 0 0 n refl)
positive (suc x) n = omega arith

-- ---- some of the numbers from m on

some-hit : (p : ℕ → Bool) (m n c : ℕ) → m ≤ c → c < m + n → p c ≡ true → some p (numbers m n) ≡ true
unfolding some list_from
some-hit p m zero c h g t = absurd (omega arith)
some-hit p m (suc n) c h g t =
    ⊎_elim (λ (q : m ≡ c). rw (q, t)) (λ (l : m < c). rw (some-hit p (m + 1) n c (omega arith) (omega arith) t) (or-true (p m)))
    (eq-or-lt_of_le h)

pub some-none : (p : ℕ → Bool) (m n : ℕ) → ((c : ℕ) → m ≤ c → c < m + n → p c ≡ false) → some p (numbers m n) ≡ false
unfolding some list_from
some-none p m zero h = refl
some-none p m (suc n) h = rw (h m (omega arith) (omega arith)) (some-none p (m + 1) n (λ c g l. h c (omega arith) (omega arith)))

-- ---- a whole order: the walk up from the element at place i ends within i steps

module _ (ws l : List ℕ) (each : Each ws l) where
  not-passed : (i : ℕ) (passed : List ℕ) → i < length l → ((j : ℕ) → j ≤ i → placed passed (get_or l j 0) ≡ false)
      → (j : ℕ) → j < i → placed (get_or l i 0 ∷ passed) (get_or l j 0) ≡ false
  unfolding placed some
  not-passed i passed h free j g =
      let d = order-distinct ws l each in
      let other : eqb (get_or l j 0) (get_or l i 0) ≡ false =
      ne_eqb (get_or l j 0) (get_or l i 0) (λ e. let q = d.once j i (omega arith) h e in omega arith) in
      rw other (free j (omega arith))

  walk_ends : (k i : ℕ) (passed : List ℕ) → i < k → i < length l → ((j : ℕ) → j ≤ i → placed passed (get_or l j 0) ≡ false)
      → returns_from ws (suc k) passed (get_or l i 0) ≡ false
  unfolding returns_from
  walk_ends zero i passed g h free = absurd (omega arith)
  walk_ends (suc k) i passed g h free =
      let c = element-class ws l each i h in
      let some-class : eqb (get_or l i 0) 0 ≡ false = ne_eqb (get_or l i 0) 0 (λ e. omega (arith, c.0)) in
      ⊎_elim (λ (e : class_parent ws (get_or l i 0) ≡ 0). rw (some-class, free i (omega arith), e))
      (λ (b : Before l i (class_parent ws (get_or l i 0))).
      rw (some-class, free i (omega arith), ← b.is)
      (walk_ends k b.place (get_or l i 0 ∷ passed) (omega (arith, b.before)) (omega (arith, b.before))
      (λ j m. not-passed i passed h free j (omega (arith, b.before)))))
      (element_settled ws l each i h)

  pub whole-ends : length l ≡ class_count ws → (c : ℕ) → IsClass ws c → returns ws c ≡ false
  unfolding returns placed some
  whole-ends e c k =
      let b = placed-place l c (distinct-whole (class_count ws) l (order-distinct ws l each) e c k.0 k.1) in
      rw b.is at (walk_ends (class_count ws) b.place [] (omega (arith, b.before)) b.before (λ j m. refl))

-- ---- an order that stops short: no walk from a class that is left out ends

pub left-returns : (ws l : List ℕ) → Named ws → next_class ws l ≡ None → (k : ℕ) (passed : List ℕ) (c : ℕ) → IsClass ws c → placed l c ≡ false
    → returns_from ws k passed c ≡ true
unfolding returns_from
left-returns ws l named e zero passed c h f = refl
left-returns ws l named e (suc k) passed c h f =
    let b = left_behind ws l e c h f in
    let some-class : eqb c 0 ≡ false = ne_eqb c 0 (λ q. omega (arith, h.0)) in
    let parent : 1 ≤ class_parent ws c = positive (class_parent ws c) (ne_eqb (class_parent ws c) 0 b.0) in
    rw (some-class, left-returns ws l named e k (c ∷ passed) (class_parent ws c) (parent, named c h) b.1) (or-true (placed passed c))

stops-short : (ws : List ℕ) → cyclic ws ≡ true → length (order_of ws) < class_count ws
unfolding cyclic order_of
stops-short ws h =
    by (ltb (length (order_of ws)) (class_count ws)) (λ t. ltb-true (length (order_of ws)) (class_count ws) t)
    (λ f.
    let whole : length (order_of ws) ≡ class_count ws =
    omega (arith, order-most ws (class_count ws) [], ltb-false (length (order_of ws)) (class_count ws) f) in
    absurd (false≢true (sym (some-none (returns ws) 1 (class_count ws)
    (λ c g l. whole-ends ws (order_of ws) (each-order ws) whole c (g, omega arith))) ∙ h)))

pub stops_round : (ws : List ℕ) → Named ws → length (order_of ws) < class_count ws → cyclic ws ≡ true
unfolding cyclic order_of returns
stops_round ws named h =
    ⊎_elim (λ (q : length (order_of ws) ≡ 0 + class_count ws). absurd (omega arith))
    (λ (q : next_class ws (order_of ws) ≡ None).
    distinct-short (class_count ws) (order_of ws) (order-distinct ws (order_of ws) (each-order ws)) h
    (λ c g l f. some-hit (returns ws) 1 (class_count ws) c g (omega arith)
    (left-returns ws (order_of ws) named q (suc (class_count ws)) [] c (g, l) f)))
    (order-ends ws (class_count ws) [])

pub stops : (ws : List ℕ) → Named ws → (cyclic ws ≡ true) ↔ (length (order_of ws) < class_count ws)
stops ws named = (stops-short ws, stops_round ws named)

-- ---- `returns` is true exactly if two different numbers of steps up lead to the same class

-- the classes of the first m steps, the last first
unfoldable trail : List ℕ → ℕ → ℕ → List ℕ
trail ws c zero = []
trail ws c (suc m) = up ws m c ∷ trail ws c m

length-trail : (ws : List ℕ) (c m : ℕ) → length (trail ws c m) ≡ m
unfolding trail
length-trail ws c zero = refl
length-trail ws c (suc m) = ap suc (length-trail ws c m)

record Passed (ws : List ℕ) (c m x : ℕ) : Type 0 where
  pub steps : ℕ
  pub fewer : steps < m
  pub is : up ws steps c ≡ x

passed-by : (ws : List ℕ) (c m x : ℕ) → placed (trail ws c m) x ≡ true → Passed ws c m x
unfolding placed some trail
passed-by ws c zero x h = absurd (false≢true h)
passed-by ws c (suc m) x h =
    ⊎_elim (λ e. record { steps = m; fewer = omega arith; is = sym (eqb-true x (up ws m c) e) })
    (λ t. let p = passed-by ws c m x t in record { steps = p.steps; fewer = omega (arith, p.fewer); is = p.is })
    (or-either (eqb x (up ws m c)) (some (eqb x) (trail ws c m)) h)

up-class : (ws : List ℕ) (c m : ℕ) → eqb (up ws m c) 0 ≡ false → up ws (suc m) c ≡ class_parent ws (up ws m c)
unfolding up
up-class ws c m f = rw f

module _ (ws : List ℕ) (named : Named ws) (c : ℕ) where
  -- the walk after m steps, with no class passed twice so far
  walked : (k m : ℕ) → m + k ≡ suc (class_count ws) → Distinct (class_count ws) (trail ws c m) → up ws m c ≤ class_count ws
      → returns_from ws k (trail ws c m) (up ws m c) ≡ true → Returns ws c
  unfolding returns_from trail
  walked zero m e d n h = absurd (omega (arith, distinct-most (class_count ws) (trail ws c m) d, length-trail ws c m))
  walked (suc k) m e d n h =
      by (eqb (up ws m c) 0) (λ t. absurd (false≢true (rw t at h)))
      (λ f.
      let some-class : 1 ≤ up ws m c = positive (up ws m c) f in
      by (placed (trail ws c m) (up ws m c))
      (λ t.
      let p = passed-by ws c m (up ws m c) t in
      record {
        first = p.steps;
        second = m;
        different = λ q. omega (arith, p.fewer);
        same = p.is;
        class = λ q. omega (arith, p.is);
      })
      (λ g.
      let parent = up-class ws c m f in
      walked k (suc m) (omega arith) (distinct_more (class_count ws) (up ws m c) (trail ws c m) d some-class n g)
      (rw parent (named (up ws m c) (some-class, n))) (rw parent (rw (f, g) at h))))

-- a walk that came to 0 stays there
zero-stays : (ws : List ℕ) (c m k : ℕ) → m ≤ k → up ws m c ≡ 0 → up ws k c ≡ 0
unfolding up
zero-stays ws c m zero h e = let z : m ≡ 0 = omega arith in rw z at e
zero-stays ws c m (suc k) h e =
    ⊎_elim (λ (q : m ≡ suc k). rw q at e) (λ (l : m < suc k). rw (eq-eqb (up ws k c) 0 (zero-stays ws c m k (omega arith) e))) (eq-or-lt_of_le h)

-- from the same class on, the walk is the same
same_on : (ws : List ℕ) (c i j t : ℕ) → up ws i c ≡ up ws j c → up ws (i + t) c ≡ up ws (j + t) c
unfolding up
same_on ws c i j zero e = let a : i + 0 ≡ i = omega arith in let b : j + 0 ≡ j = omega arith in rw (a, b) e
same_on ws c i j (suc t) e =
    let a : i + suc t ≡ suc (i + t) = omega arith in let b : j + suc t ≡ suc (j + t) = omega arith in rw (a, b, same_on ws c i j t e)

-- what comes again never comes to 0: m steps that do, more than j, are i and not j steps with the rest, which is fewer
never-zero : (ws : List ℕ) (c i j : ℕ) → i < j → up ws i c ≡ up ws j c → (up ws i c ≡ 0 → ⊥) → (f m : ℕ) → m ≤ f → up ws m c ≡ 0 → ⊥
never-zero ws c i j h e n zero m l z = n (zero-stays ws c m i (omega arith) z)
never-zero ws c i j h e n (suc f) m l z =
    by (ltb j m)
    (λ t.
    let g = ltb-true j m t in
    let a : j + (m - j) ≡ m = omega arith in
    never-zero ws c i j h e n f (i + (m - j)) (omega arith) (same_on ws c i j (m - j) e ∙ rw a z))
    (λ t. n (e ∙ zero-stays ws c m j (ltb-false j m t) z))

-- a walk that never comes to 0 returns
endless : (ws : List ℕ) (c : ℕ) → ((m : ℕ) → up ws m c ≡ 0 → ⊥) → (k : ℕ) (passed : List ℕ) (m : ℕ) → returns_from ws k passed (up ws m c) ≡ true
unfolding returns_from
endless ws c n zero passed m = refl
endless ws c n (suc k) passed m =
    let f : eqb (up ws m c) 0 ≡ false = ne_eqb (up ws m c) 0 (n m) in
    rw (f, ← (up-class ws c m f), endless ws c n k (up ws m c ∷ passed) (suc m)) (or-true (placed passed (up ws m c)))

again : (ws : List ℕ) (c : ℕ) → Returns ws c → (m : ℕ) → up ws m c ≡ 0 → ⊥
again ws c r m z =
    by (ltb r.first r.second)
    (λ t. never-zero ws c r.first r.second (ltb-true r.first r.second t) r.same r.class m m (omega arith) z)
    (λ f.
    let l : r.second < r.first = below r.first r.second r.different (ltb-false r.first r.second f) in
    never-zero ws c r.second r.first l (sym r.same) (λ e. r.class (r.same ∙ e)) m m (omega arith) z)
  where
    below : (a b : ℕ) → (a ≡ b → ⊥) → b ≤ a → b < a
    below a b n h = ⊎_elim (λ (q : b ≡ a). absurd (n (sym q))) (λ l. l) (eq-or-lt_of_le h)

pub returns_is : (ws : List ℕ) → Named ws → (c : ℕ) → IsClass ws c → (returns ws c ≡ true) ↔ Returns ws c
unfolding returns trail up
returns_is ws named c h = (
  λ e. walked ws named c (suc (class_count ws)) 0 (omega arith)
      (record { within = λ i l. absurd (omega arith); once = λ i j l m q. absurd (omega arith) }) h.1 e,
  λ r. endless ws c (again ws c r) (suc (class_count ws)) [] 0,
)
