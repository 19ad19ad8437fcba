-- What the items after the pool come to, and the file: each lookup reads before the pool's end, so only the bytes before the item's end count.
-- Assumes nothing.
use mathlib.Core.Path.{◌≡◌, refl, ap}
use mathlib.Core.Bool.{cond}
use mathlib.Core.List.{List}
use Prim.Native.Nat.{ℕ, ◌+◌, ◌*◌, ◌≤◌}
use native.Mathlib.Omega.{arith}
use lib.ListN.{length, take}
use lib.Dec.{eqb}
use Rattle.words.proofs.Bools.{by}
use Rattle.std.specs.Prelude.{Ok, Err}
use Rattle.class_form.specs.Form.{Step, u2, u4, ◌>>=◌, taken, after_pool, utf8_at, class_at, after_name, after_class, after_parent, after_interfaces, after_attribute, after_attributes, after_member, after_members, after_head, after_body, after_file}
use Rattle.class_form.proofs.Laws.{taken_to}
use Rattle.file_form.proofs.Outcome.{agree_less, agree-u2, agree-u4, Outcome, swap, stays, stopped, then_on, takes, counted}
use Rattle.file_form.proofs.Items.{pool}
use Rattle.file_form.proofs.Lookup.{Settled, found_at, refused, utf8_settled, class_settled, utf8-same, class_same}

-- ---- items that look nothing up

module _ (bs : List ℕ) where
  interfaces : (p : ℕ) → Outcome bs p (λ cs. after_interfaces cs p)
  unfolding after_interfaces
  interfaces p =
      then_on bs p (λ cs. taken cs p 2) (λ cs q. taken cs q (2 * u2 cs p)) (takes bs p 2)
      (λ q on there e.
      let k = taken_to bs p 2 e in
      swap bs q (λ cs. taken cs q (2 * u2 bs p)) (λ cs. taken cs q (2 * u2 cs p))
      (λ cs a. ap (λ (n : ℕ). taken cs q (2 * n)) (agree-u2 bs cs q p (omega arith) a)) (takes bs q (2 * u2 bs p)))

  attribute : (p : ℕ) → Outcome bs p (λ cs. after_attribute cs p)
  unfolding after_attribute
  attribute p =
      then_on bs p (λ cs. taken cs p 6) (λ cs q. taken cs q (u4 cs (p + 2))) (takes bs p 6)
      (λ q on there e.
      let k = taken_to bs p 6 e in
      swap bs q (λ cs. taken cs q (u4 bs (p + 2))) (λ cs. taken cs q (u4 cs (p + 2)))
      (λ cs a. ap (taken cs q) (agree-u4 bs cs q (p + 2) (omega arith) a)) (takes bs q (u4 bs (p + 2))))

  attributes : (p : ℕ) → Outcome bs p (λ cs. after_attributes cs p)
  unfolding after_attributes
  attributes p = counted bs p after_attribute (λ q low there. attribute q) p (omega arith)

-- ---- a reference, looked up once it has been taken

abbrev referred : (List ℕ → ℕ → Step) → List ℕ → ℕ → Step
referred look cs p = taken cs p 2 >>= (λ q. look cs (u2 cs p) >>= (λ name. Ok q))

-- a parent's reference may be 0
abbrev parent_at : List ℕ → ℕ → Step
parent_at cs i = cond (eqb i 0) (Ok 0) (class_at cs i)

on_itself : (s : Step) → s ≡ (s >>= (λ q. Ok q))
on_itself (Ok q) = refl
on_itself (Err row) = refl

parent-referred : (cs : List ℕ) (p : ℕ) → after_parent cs p ≡ referred parent_at cs p
unfolding after_parent after_class
parent-referred cs p = by (eqb (u2 cs p) 0) (λ t. rw t (on_itself (taken cs p 2))) (λ t. rw t)

module _ (bs : List ℕ) (e : ℕ) (pool-ends : after_pool bs ≡ Ok e) where
  settles : (s : Step) (q : ℕ) → q ≤ length bs → Settled s → Outcome bs q (λ cs. s >>= (λ name. Ok q))
  settles s q there (found_at r at) = rw at (stays bs q there)
  settles s q there (refused at) = rw at (stopped bs q there)

  reference : (look : List ℕ → ℕ → Step) → ((i : ℕ) → Settled (look bs i)) → ((cs : List ℕ) → take e cs ≡ take e bs → (i : ℕ) → look cs i ≡ look bs i)
      → (p : ℕ) → e ≤ p → Outcome bs p (λ cs. referred look cs p)
  reference look settled same p low =
      then_on bs p (λ cs. taken cs p 2) (λ cs q. look cs (u2 cs p) >>= (λ name. Ok q)) (takes bs p 2)
      (λ q on there t.
      let k = taken_to bs p 2 t in
      swap bs q (λ cs. look bs (u2 bs p) >>= (λ name. Ok q)) (λ cs. look cs (u2 cs p) >>= (λ name. Ok q))
      (λ cs a. rw (agree-u2 bs cs q p (omega arith) a, same cs (agree_less bs cs e q (omega arith) a) (u2 bs p)))
      (settles (look bs (u2 bs p)) q there (settled (u2 bs p))))

  name : (p : ℕ) → e ≤ p → Outcome bs p (λ cs. after_name cs p)
  unfolding after_name
  name p low = reference utf8_at (utf8_settled bs e pool-ends) (utf8-same bs e pool-ends) p low

  class : (p : ℕ) → e ≤ p → Outcome bs p (λ cs. after_class cs p)
  unfolding after_class
  class p low = reference class_at (class_settled bs e pool-ends) (class_same bs e pool-ends) p low

  parent_settled : (i : ℕ) → Settled (parent_at bs i)
  parent_settled i = by (eqb i 0) (λ t. rw t (found_at 0 refl)) (λ t. rw t (class_settled bs e pool-ends i))

  parent-same : (cs : List ℕ) → take e cs ≡ take e bs → (i : ℕ) → parent_at cs i ≡ parent_at bs i
  parent-same cs a i = by (eqb i 0) (λ t. rw t) (λ t. rw t (class_same bs e pool-ends cs a i))

  parent : (p : ℕ) → e ≤ p → Outcome bs p (λ cs. after_parent cs p)
  parent p low =
      swap bs p (λ cs. referred parent_at cs p) (λ cs. after_parent cs p) (λ cs a. parent-referred cs p)
      (reference parent_at parent_settled parent-same p low)

  -- ---- head, members, body

  head : (p : ℕ) → e ≤ p → Outcome bs p (λ cs. after_head cs p)
  unfolding after_head
  head p low =
      then_on bs p (λ cs. taken cs p 2) (λ cs q. after_class cs q >>= (λ r. after_parent cs r >>= after_interfaces cs)) (takes bs p 2)
      (λ q on there t.
      then_on bs q (λ cs. after_class cs q) (λ cs r. after_parent cs r >>= after_interfaces cs) (class q (omega arith))
      (λ r on₁ there₁ t₁.
      then_on bs r (λ cs. after_parent cs r) (λ cs. after_interfaces cs) (parent r (omega arith)) (λ s on₂ there₂ t₂. interfaces bs s)))

  member : (p : ℕ) → e ≤ p → Outcome bs p (λ cs. after_member cs p)
  unfolding after_member
  member p low =
      then_on bs p (λ cs. taken cs p 2) (λ cs q. after_name cs q >>= (λ r. after_name cs r >>= after_attributes cs)) (takes bs p 2)
      (λ q on there t.
      then_on bs q (λ cs. after_name cs q) (λ cs r. after_name cs r >>= after_attributes cs) (name q (omega arith))
      (λ r on₁ there₁ t₁.
      then_on bs r (λ cs. after_name cs r) (λ cs. after_attributes cs) (name r (omega arith)) (λ s on₂ there₂ t₂. attributes bs s)))

  members : (p : ℕ) → e ≤ p → Outcome bs p (λ cs. after_members cs p)
  unfolding after_members
  members p low = counted bs e after_member (λ q on there. member q on) p low

  body : (p : ℕ) → e ≤ p → Outcome bs p (λ cs. after_body cs p)
  unfolding after_body
  body p low =
      then_on bs p (λ cs. after_members cs p) (λ cs q. after_members cs q >>= after_attributes cs) (members p low)
      (λ q on there t.
      then_on bs q (λ cs. after_members cs q) (λ cs. after_attributes cs) (members q (omega arith)) (λ r on₁ there₁ t₁. attributes bs r))

  after-pool : Outcome bs e (λ cs. after_head cs e >>= after_body cs)
  after-pool = then_on bs e (λ cs. after_head cs e) (λ cs. after_body cs) (head e (omega arith)) (λ q on there t. body q on)

pub file : (bs : List ℕ) → Outcome bs 8 after_file
unfolding after_file
file bs =
    then_on bs 8 after_pool (λ cs p. after_head cs p >>= after_body cs) (pool bs) (λ e on there t. after-pool bs e t)
