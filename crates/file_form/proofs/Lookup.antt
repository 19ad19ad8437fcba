-- A constant by its index, once the pool has been taken: it is found where the walk of the pool met it, inside the pool, or 22 stops; and bytes that agree
-- to the pool's end answer the same. Assumes nothing.
use mathlib.Core.Path.{◌≡◌, refl, sym, ap, ◌∙◌}
use mathlib.Core.Bool.{cond, ◌&&◌}
use mathlib.Core.List.{List}
use Prim.Native.Nat.{ℕ, zero, suc, ◌+◌, ◌≤◌, ◌<◌}
use native.Mathlib.Omega.{arith}
use lib.ListN.{length, get_or, take}
use lib.Dec.{eqb, leb, ltb}
use borrow.Author.Tests.{eqb-true, ltb-true, lt-ltb}
use Rattle.words.proofs.Bools.{by, and_both}
use Rattle.std.specs.Prelude.{Ok, Err}
use Rattle.refusal.specs.declared.Refusal.TheVariants.{WrongPool}
use Rattle.class_form.specs.Form.{Step, u2, ◌>>=◌, taken, is_wide, places, body_size, after_constant, after_constants, pool_count, after_pool, constant_from, constant_at, tagged_at, utf8_at, class_at}
use Rattle.class_form.proofs.Laws.{places_few, step_to, taken_to}
use Rattle.file_form.proofs.Outcome.{agree_less, agree_at, agree-u2, ended}
use Rattle.file_form.proofs.Items.{constant, constant_to, constants}

-- the constant of index i found at r, with its end inside the pool, which ends at e; or none
pub data Lookup (bs : List ℕ) (e i : ℕ) (s : Step) : Type 0 where
  found : (r q : ℕ) → s ≡ Ok r → after_constant bs (pool_count bs) i r ≡ Ok q → q ≤ e → Lookup bs e i s
  none : s ≡ Err WrongPool → Lookup bs e i s

module _ (bs : List ℕ) (e : ℕ) where
  -- the constants of index j on, at p, are the rest of the pool
  pub record Rest (k j p : ℕ) : Type 0 where
    pub taken_to_end : after_constants bs (pool_count bs) k j p ≡ Ok e
    pub all : pool_count bs ≤ j + k
    pub there : p ≤ length bs

  -- the first of them, and the rest after it
  pub record First (j p : ℕ) : Type 0 where
    pub next : ℕ
    pub steps : ℕ
    pub is : after_constant bs (pool_count bs) j p ≡ Ok next
    pub rest : Rest steps (j + places (get_or bs p 0)) next
    pub within : next ≤ e

  first_of : (k j p : ℕ) → Rest k j p → j < pool_count bs → First j p
  unfolding after_constants
  first_of zero j p r h = absurd (omega (arith, r.all))
  first_of (suc k) j p r h =
      let a = step_to (after_constant bs (pool_count bs) j p) _ (rw (lt-ltb j (pool_count bs) h) at r.taken_to_end) in
      let c = constant_to bs (pool_count bs) j p a.0 a.1 in
      let q = ended bs a.0 e (λ cs. after_constants cs (pool_count bs) k (j + places (get_or bs p 0)) a.0) c.there
      (constants bs (pool_count bs) k (j + places (get_or bs p 0)) a.0 c.there) a.2 in
      record {
        next = a.0;
        steps = k;
        is = a.1;
        rest = record { taken_to_end = a.2; all = omega (arith, r.all, places_few (get_or bs p 0)); there = c.there };
        within = q.0;
      }

  -- ---- the walk to constant i

  module _ (i : ℕ) (inside : i < pool_count bs) where
    here : (k j p : ℕ) → Rest k j p → Lookup bs e i (cond (eqb j i) (Ok p) (Err WrongPool))
    here k j p r =
        by (eqb j i)
        (λ t.
        let g = eqb-true j i t in
        let f = first_of k j p r (omega arith) in
        rw t (found p f.next refl (ap (λ (x : ℕ). after_constant bs (pool_count bs) x p) (sym g) ∙ f.is) f.within))
        (λ t. rw t (none refl))

    walk : (n k j p : ℕ) → Rest k j p → Lookup bs e i (constant_from bs i n j p)
    unfolding constant_from
    walk zero k j p r = here k j p r
    walk (suc n) k j p r =
        by (ltb j i)
        (λ t.
        let f = first_of k j p r (omega (arith, ltb-true j i t)) in rw (t, f.is) (walk n f.steps (j + places (get_or bs p 0)) f.next f.rest))
        (λ t. rw t (here k j p r))

    walk_same : (cs : List ℕ) → take e cs ≡ take e bs → pool_count cs ≡ pool_count bs → (n k j p : ℕ) → Rest k j p
        → constant_from cs i n j p ≡ constant_from bs i n j p
    unfolding constant_from
    walk_same cs a c zero k j p r = refl
    walk_same cs a c (suc n) k j p r =
        by (ltb j i)
        (λ t.
        let f = first_of k j p r (omega (arith, ltb-true j i t)) in
        let h = constant_to bs (pool_count bs) j p f.next f.is in
        let g = ended bs p f.next (λ ds. after_constant ds (pool_count bs) j p) r.there (constant bs (pool_count bs) j p) f.is in
        rw (
          t,
          c,
          g.2 cs (agree_less bs cs f.next e f.within a),
          f.is,
          agree_at bs cs e p (omega (arith, h.end, f.within)) a,
        )
        (walk_same cs a c n f.steps (j + places (get_or bs p 0)) f.next f.rest))
        (λ t. rw t)

-- ---- lookups, once the pool has been taken

-- a lookup finds a place or is 22
pub data Settled (s : Step) : Type 0 where
  found_at : (r : ℕ) → s ≡ Ok r → Settled s
  refused : s ≡ Err WrongPool → Settled s

-- the constant has the tag, too
pub data Tagged (bs : List ℕ) (e t i : ℕ) (s : Step) : Type 0 where
  tagged : (r : ℕ) → s ≡ Ok r → get_or bs r 0 ≡ t → r + 1 + body_size bs t (r + 1) ≤ e → Tagged bs e t i s
  untagged : s ≡ Err WrongPool → Tagged bs e t i s

module _ (bs : List ℕ) (e : ℕ) (pool-ends : after_pool bs ≡ Ok e) where
  pub start : Rest bs e (pool_count bs) 1 10
  unfolding after_pool
  start =
      let a = step_to (taken bs 8 2) _ pool-ends in
      let b = taken_to bs 8 2 a.1 in
      record { taken_to_end = rw b.0 at a.2; all = omega arith; there = omega (arith, b.1) }

  pub pool-end : (10 ≤ e) × (e ≤ length bs)
  pool-end =
      let s = start in
      let r = ended bs 10 e (λ cs. after_constants cs (pool_count bs) (pool_count bs) 1 10) s.there
      (constants bs (pool_count bs) (pool_count bs) 1 10 s.there) s.taken_to_end in
      (r.0, r.1)

  pub constant-is : (i : ℕ) → Lookup bs e i (constant_at bs i)
  unfolding constant_at
  constant-is i =
      by (leb 1 i && ltb i (pool_count bs))
      (λ t. rw t (walk bs e i (ltb-true i (pool_count bs) (and_both (leb 1 i) (ltb i (pool_count bs)) t).1) i (pool_count bs) 1 10 start))
      (λ t. rw t (none refl))

  tag_is : (t i : ℕ) (s : Step) → Lookup bs e i s → Tagged bs e t i (s >>= (λ p. cond (eqb (get_or bs p 0) t) (Ok p) (Err WrongPool)))
  tag_is t i s (found r q at taken within) =
      let c = constant_to bs (pool_count bs) i r q taken in
      by (eqb (get_or bs r 0) t)
      (λ h.
      let g = eqb-true (get_or bs r 0) t h in
      rw (at, h) (tagged r refl g (omega (arith, rw g at c.end))))
      (λ h. rw (at, h) (untagged refl))
  tag_is t i s (none at) = rw at (untagged refl)

  pub tagged_is : (t i : ℕ) → Tagged bs e t i (tagged_at bs t i)
  unfolding tagged_at
  tagged_is t i = tag_is t i (constant_at bs i) (constant-is i)

  tagged_settled : (t i : ℕ) (s : Step) → Tagged bs e t i s → Settled s
  tagged_settled t i s (tagged r at g within) = found_at r at
  tagged_settled t i s (untagged at) = refused at

  pub utf8_settled : (i : ℕ) → Settled (utf8_at bs i)
  unfolding utf8_at
  utf8_settled i = tagged_settled 1 i (tagged_at bs 1 i) (tagged_is 1 i)

  class-settles : (s : Step) → Settled s → Settled (s >>= (λ p. utf8_at bs (u2 bs (p + 1))))
  class-settles s (found_at r at) = rw at (utf8_settled (u2 bs (r + 1)))
  class-settles s (refused at) = rw at (refused refl)

  pub class_settled : (i : ℕ) → Settled (class_at bs i)
  unfolding class_at
  class_settled i = class-settles (tagged_at bs 7 i) (tagged_settled 7 i (tagged_at bs 7 i) (tagged_is 7 i))

  -- ---- the same in bytes that agree to the pool's end

  module _ (cs : List ℕ) (agree : take e cs ≡ take e bs) where
    count_same : pool_count cs ≡ pool_count bs
    unfolding pool_count
    count_same = agree-u2 bs cs e 8 pool-end.0 agree

    pub constant-same : (i : ℕ) → constant_at cs i ≡ constant_at bs i
    unfolding constant_at
    constant-same i =
        by (leb 1 i && ltb i (pool_count bs))
        (λ t.
        rw (count_same, t)
        (walk_same bs e i (ltb-true i (pool_count bs) (and_both (leb 1 i) (ltb i (pool_count bs)) t).1) cs agree count_same i (pool_count bs) 1 10 start))
        (λ t. rw (count_same, t))

    tag_same : (t i : ℕ) (s : Step) → Lookup bs e i s
        → (s >>= (λ p. cond (eqb (get_or cs p 0) t) (Ok p) (Err WrongPool))) ≡ (s >>= (λ p. cond (eqb (get_or bs p 0) t) (Ok p) (Err WrongPool)))
    tag_same t i s (found r q at taken within) =
        let c = constant_to bs (pool_count bs) i r q taken in rw (at, agree_at bs cs e r (omega (arith, c.end)) agree)
    tag_same t i s (none at) = rw at

    tagged-same : (t i : ℕ) → tagged_at cs t i ≡ tagged_at bs t i
    unfolding tagged_at
    tagged-same t i = rw (constant-same i) (tag_same t i (constant_at bs i) (constant-is i))

    pub utf8-same : (i : ℕ) → utf8_at cs i ≡ utf8_at bs i
    unfolding utf8_at
    utf8-same i = tagged-same 1 i

    class-name : (i : ℕ) (s : Step) → Tagged bs e 7 i s
        → (s >>= (λ p. utf8_at cs (u2 cs (p + 1)))) ≡ (s >>= (λ p. utf8_at bs (u2 bs (p + 1))))
    unfolding body_size is_wide
    class-name i s (tagged r at g within) = rw (at, agree-u2 bs cs e (r + 1) (omega arith) agree, utf8-same (u2 bs (r + 1)))
    class-name i s (untagged at) = rw at

    pub class_same : (i : ℕ) → class_at cs i ≡ class_at bs i
    unfolding class_at
    class_same i = rw (tagged-same 7 i) (class-name i (tagged_at bs 7 i) (tagged_is 7 i))
