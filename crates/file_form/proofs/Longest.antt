-- No class file is longer than some number of bytes, as every count and every length has two or four: a walk that ends early has fewer bytes
-- before it than that. Assumes nothing.
use mathlib.Core.Path.{◌≡◌, refl, sym}
use mathlib.Core.Bool.{Bool, true, false, cond, ◌||◌}
use mathlib.Core.List.{List}
use Prim.Native.Nat.{ℕ, zero, suc, ◌+◌, ◌*◌, ◌≤◌, ◌<◌}
use native.Mathlib.Nat.{mul-le-mul_right, suc-mul}
use native.Mathlib.Omega.{arith}
use lib.ListN.{length, get_or}
use lib.Dec.{eqb, leb, ltb}
use borrow.Author.Tests.{leb-false}
use Rattle.words.specs.Words.{AreBytes}
use Rattle.words.proofs.Bools.{by}
use Rattle.std.specs.Prelude.{Ok, Err}
use Rattle.refusal.specs.declared.Refusal.TheVariants.{WrongEnd, WrongPool}
use Rattle.class_form.specs.Form.{Step, u2, u4, ◌>>=◌, taken, is_wide, places, body_size, tag_ok, after_constant, after_constants, pool_count, after_pool, utf8_at, class_at, after_name, after_class, after_parent, after_interfaces, after_attribute, after_each, after_counted, after_attributes, after_member, after_members, after_head, after_body, after_file}
use Rattle.class_form.proofs.Laws.{ok_same, not_ok}
use Rattle.file_form.proofs.Lookup.{Settled, found_at, refused, utf8_settled, class_settled}

-- a step from p goes on within `most` bytes, and where it ends early there are fewer bytes than that
pub record Within (bs : List ℕ) (p most : ℕ) (s : Step) : Type 0 where
  pub goes : (q : ℕ) → s ≡ Ok q → q ≤ p + most
  pub ends : s ≡ Err WrongEnd → length bs < p + most

-- what stopped is told from 22
not_22 : {X : Type 0} → ◌≡◌ {A = Step} (Err WrongPool) (Err WrongEnd) → X
not_22 e = let z : ◌≡◌ {A = ℕ} 0 1 = cc in absurd (omega arith)

module _ (bs : List ℕ) where
  more : {p k l : ℕ} {s : Step} → k ≤ l → Within bs p k s → Within bs p l s
  more h w = record { goes = λ q e. omega (arith, w.goes q e); ends = λ e. omega (arith, w.ends e) }

  stays : (p : ℕ) → Within bs p 0 (Ok p)
  stays p = record { goes = λ q e. let k = ok_same e in omega arith; ends = λ e. not_ok (sym e) }

  stopped : (p : ℕ) → Within bs p 0 (Err WrongPool)
  stopped p = record { goes = λ q e. not_ok e; ends = not_22 }

  takes : (p n : ℕ) → Within bs p n (taken bs p n)
  unfolding taken
  takes p n =
      by (leb (p + n) (length bs))
      (λ t. rw t (record { goes = λ q e. let k = ok_same e in omega arith; ends = λ e. not_ok (sym e) }))
      (λ t. rw t (record { goes = λ q e. not_ok e; ends = λ e. omega (arith, leb-false (p + n) (length bs) t) }))

  then : {p k l : ℕ} (s : Step) (g : ℕ → Step) → Within bs p k s → ((q : ℕ) → s ≡ Ok q → Within bs q l (g q)) → Within bs p (k + l) (s >>= g)
  then (Ok r) g w v =
      let at = w.goes r refl in
      let next = v r refl in
      record { goes = λ q e. omega (arith, at, next.goes q e); ends = λ e. omega (arith, at, next.ends e) }
  then (Err row) g w v = record { goes = λ q e. not_ok e; ends = λ e. omega (arith, w.ends e) }

  each : (item : ℕ → Step) (k : ℕ) → ((q : ℕ) → Within bs q k (item q)) → (n p : ℕ) → Within bs p (n * k) (after_each item n p)
  unfolding after_each
  each item k one zero p = more (omega arith) (stays p)
  each item k one (suc n) p =
      more (omega (arith, suc-mul n k)) (then (item p) (after_each item n) (one p) (λ q e. each item k one n q))

-- ---- the longest of each item, in bytes

-- a tag, a length and as many bytes
abbrev constant_most : ℕ
constant_most = 1 + (2 + 65535)

-- a name, a length and as many bytes
abbrev attribute_most : ℕ
attribute_most = 6 + 4294967295

abbrev attributes_most : ℕ
attributes_most = 2 + 65535 * attribute_most

-- flags, two references, attributes
abbrev member_most : ℕ
member_most = 2 + (2 + (2 + attributes_most))

abbrev members_most : ℕ
members_most = 2 + 65535 * member_most

-- interfaces: a count and two bytes each
abbrev interfaces_most : ℕ
interfaces_most = 2 + 2 * 65535

-- flags, the class, its parent, interfaces
abbrev head_most : ℕ
head_most = 2 + (2 + (2 + interfaces_most))

-- ---- numbers of two and four bytes

module _ (bs : List ℕ) (bytes : AreBytes bs) where
  u2-most : (p : ℕ) → u2 bs p ≤ 65535
  unfolding u2
  u2-most p = omega (arith, bytes p, bytes (p + 1))

  u4-most : (p : ℕ) → u4 bs p ≤ 4294967295
  unfolding u4
  u4-most p = omega (arith, u2-most p, u2-most (p + 2))

  counted : (item : ℕ → Step) (k : ℕ) → ((q : ℕ) → Within bs q k (item q)) → (p : ℕ) → Within bs p (2 + 65535 * k) (after_counted bs item p)
  unfolding after_counted
  counted item k one p =
      then bs (taken bs p 2) (after_each item (u2 bs p)) (takes bs p 2)
      (λ q e. more bs (mul-le-mul_right k (u2-most p)) (each bs item k one (u2 bs p) q))

  -- ---- the pool

  body-most : (t p : ℕ) → body_size bs t p ≤ 65537
  unfolding body_size
  body-most t p =
      by (eqb t 1) (λ e. rw e (omega (arith, u2-most p)))
      (λ e. rw e (by (is_wide t) (λ f. rw f (omega arith)) (λ f. rw f (by (eqb t 7 || eqb t 8) (λ g. rw g (omega arith)) (λ g. rw g (omega arith))))))

  judged : (b : Bool) (t q : ℕ) → Within bs q 65537 (cond b (taken bs q (body_size bs t q)) (Err WrongPool))
  judged true t q = more bs (body-most t q) (takes bs q (body_size bs t q))
  judged false t q = more bs (omega arith) (stopped bs q)

  constant : (count i p : ℕ) → Within bs p constant_most (after_constant bs count i p)
  unfolding after_constant
  constant count i p =
      then bs (taken bs p 1) (λ q. cond (tag_ok count i (get_or bs p 0)) (taken bs q (body_size bs (get_or bs p 0) q)) (Err WrongPool)) (takes bs p 1)
      (λ q e. judged (tag_ok count i (get_or bs p 0)) (get_or bs p 0) q)

  constants : (count k i p : ℕ) → Within bs p (k * constant_most) (after_constants bs count k i p)
  unfolding after_constants
  constants count zero i p = stays bs p
  constants count (suc k) i p =
      by (ltb i count)
      (λ t.
      rw t
      (more bs (omega arith)
      (then bs (after_constant bs count i p) (after_constants bs count k (i + places (get_or bs p 0))) (constant count i p)
      (λ q e. constants count k (i + places (get_or bs p 0)) q))))
      (λ t. rw t (more bs (omega arith) (stays bs p)))

  pool : Within bs 8 (2 + 65535 * constant_most) (after_pool bs)
  unfolding after_pool pool_count
  pool =
      then bs {l = 65535 * constant_most} (taken bs 8 2) (after_constants bs (u2 bs 8) (u2 bs 8) 1) (takes bs 8 2)
      (λ q e. more bs (omega (arith, u2-most 8)) (constants (u2 bs 8) (u2 bs 8) 1 q))

  -- ---- items that look nothing up

  interfaces : (p : ℕ) → Within bs p interfaces_most (after_interfaces bs p)
  unfolding after_interfaces
  interfaces p =
      then bs {l = 2 * 65535} (taken bs p 2) (λ q. taken bs q (2 * u2 bs p))
      (takes bs p 2) (λ q e. more bs (omega (arith, u2-most p)) (takes bs q (2 * u2 bs p)))

  attribute : (p : ℕ) → Within bs p attribute_most (after_attribute bs p)
  unfolding after_attribute
  attribute p =
      then bs (taken bs p 6) (λ q. taken bs q (u4 bs (p + 2))) (takes bs p 6) (λ q e. more bs (u4-most (p + 2)) (takes bs q (u4 bs (p + 2))))

  attributes : (p : ℕ) → Within bs p attributes_most (after_attributes bs p)
  unfolding after_attributes
  attributes p = counted (after_attribute bs) attribute_most attribute p

  -- ---- references, once the pool has been taken

  module _ (e : ℕ) (pool-ends : after_pool bs ≡ Ok e) where
    settles : {s : Step} (q : ℕ) → Settled s → Within bs q 0 (s >>= (λ name. Ok q))
    settles q (found_at r at) = rw at (stays bs q)
    settles q (refused at) = rw at (stopped bs q)

    name : (p : ℕ) → Within bs p 2 (after_name bs p)
    unfolding after_name
    name p =
        then bs (taken bs p 2) (λ q. utf8_at bs (u2 bs p) >>= (λ n. Ok q)) (takes bs p 2)
        (λ q t. settles q (utf8_settled bs e pool-ends (u2 bs p)))

    class : (p : ℕ) → Within bs p 2 (after_class bs p)
    unfolding after_class
    class p =
        then bs (taken bs p 2) (λ q. class_at bs (u2 bs p) >>= (λ n. Ok q)) (takes bs p 2)
        (λ q t. settles q (class_settled bs e pool-ends (u2 bs p)))

    parent : (p : ℕ) → Within bs p 2 (after_parent bs p)
    unfolding after_parent
    parent p = by (eqb (u2 bs p) 0) (λ t. rw t (takes bs p 2)) (λ t. rw t (class p))

    head : (p : ℕ) → Within bs p head_most (after_head bs p)
    unfolding after_head
    head p =
        then bs (taken bs p 2) (λ q. after_class bs q >>= (λ r. after_parent bs r >>= after_interfaces bs)) (takes bs p 2)
        (λ q t. then bs (after_class bs q) (λ r. after_parent bs r >>= after_interfaces bs) (class q)
        (λ r u. then bs (after_parent bs r) (after_interfaces bs) (parent r) (λ s v. interfaces s)))

    member : (p : ℕ) → Within bs p member_most (after_member bs p)
    unfolding after_member
    member p =
        then bs (taken bs p 2) (λ q. after_name bs q >>= (λ r. after_name bs r >>= after_attributes bs)) (takes bs p 2)
        (λ q t. then bs (after_name bs q) (λ r. after_name bs r >>= after_attributes bs) (name q)
        (λ r u. then bs (after_name bs r) (after_attributes bs) (name r) (λ s v. attributes s)))

    members : (p : ℕ) → Within bs p members_most (after_members bs p)
    unfolding after_members
    members p = counted (after_member bs) member_most member p

    rest : (p : ℕ) → Within bs p (head_most + (members_most + (members_most + attributes_most))) (after_head bs p >>= after_body bs)
    unfolding after_body
    rest p =
        then bs (after_head bs p) (after_body bs) (head p)
        (λ q t. then bs (after_members bs q) (λ r. after_members bs r >>= after_attributes bs) (members q)
        (λ r u. then bs (after_members bs r) (after_attributes bs) (members r) (λ s v. attributes s)))

-- so many bytes, in whatever file
pub longest : (most : ℕ) × ((bs : List ℕ) → AreBytes bs → Within bs 8 most (after_file bs))
unfolding after_file
longest = (_, λ bs bytes. then bs (after_pool bs) (λ p. after_head bs p >>= after_body bs) (pool bs bytes) (λ e t. rest bs bytes e t e))
