-- What each item of a class file comes to: its size is read from its own first bytes, and a lookup goes to the pool, which ends before. Assumes nothing.
use mathlib.Core.Path.{◌≡◌, refl, ap}
use mathlib.Core.Bool.{Bool, true, false, cond, ◌||◌}
use mathlib.Core.List.{List}
use Prim.Native.Nat.{ℕ, zero, suc, ◌+◌, ◌≤◌}
use native.Mathlib.Omega.{arith}
use lib.ListN.{length, get_or}
use lib.Dec.{eqb, leb, ltb}
use borrow.Author.Tests.{leb-false, lt-leb}
use Rattle.words.proofs.Bools.{by}
use Rattle.std.specs.Prelude.{Ok, Err}
use Rattle.refusal.specs.declared.Refusal.TheVariants.{WrongEnd, WrongPool}
use Rattle.class_form.specs.Form.{u2, ◌>>=◌, taken, is_wide, places, body_size, tag_ok, after_constant, after_constants, pool_count, after_pool}
use Rattle.class_form.proofs.Laws.{not_ok, step_to, taken_to}
use Rattle.file_form.proofs.Outcome.{agree_at, agree-u2, Outcome, swap, stays, stopped, then_on, takes}

-- ---- an item of two parts

taken-two : (cs : List ℕ) (p a b : ℕ) → taken cs p (a + b) ≡ (taken cs p a >>= (λ q. taken cs q b))
unfolding taken
taken-two cs p a b =
    by (leb (p + a) (length cs))
    (λ t. rw t (ap (λ (n : ℕ). cond (leb n (length cs)) (Ok n) (Err WrongEnd)) (regroup p a b)))
    (λ t. rw (t, lt-leb (p + (a + b)) (length cs) (omega (arith, leb-false (p + a) (length cs) t))))
  where
    regroup : (p a b : ℕ) → p + (a + b) ≡ p + a + b
    regroup p a b = omega arith

module _ (bs : List ℕ) where
  -- a number of two bytes, then so many bytes
  sized : (p : ℕ) → Outcome bs p (λ cs. taken cs p (2 + u2 cs p))
  sized p =
      swap bs p (λ cs. taken cs p 2 >>= (λ q. taken cs q (u2 cs p))) (λ cs. taken cs p (2 + u2 cs p)) (λ cs a. taken-two cs p 2 (u2 cs p))
      (then_on bs p (λ cs. taken cs p 2) (λ cs q. taken cs q (u2 cs p)) (takes bs p 2)
      (λ q on there e.
      let k = taken_to bs p 2 e in
      swap bs q (λ cs. taken cs q (u2 bs p)) (λ cs. taken cs q (u2 cs p)) (λ cs a. ap (taken cs q) (agree-u2 bs cs q p (omega arith) a))
      (takes bs q (u2 bs p))))

  -- ---- a constant

  body : (t p : ℕ) → Outcome bs p (λ cs. taken cs p (body_size cs t p))
  unfolding body_size
  body t p =
      by (eqb t 1) (λ e. rw e (sized p))
      (λ e.
      rw e
      (takes bs p (cond (is_wide t) 8 (cond (eqb t 7 || eqb t 8) 2 4))))

  -- the tag is judged, then the body is taken
  judged : (b : Bool) (t p : ℕ) → p ≤ length bs → Outcome bs p (λ cs. cond b (taken cs p (body_size cs t p)) (Err WrongPool))
  judged true t p there = body t p
  judged false t p there = stopped bs p there

  pub constant : (count i p : ℕ) → Outcome bs p (λ cs. after_constant cs count i p)
  unfolding after_constant
  constant count i p =
      then_on bs p (λ cs. taken cs p 1)
      (λ cs q. cond (tag_ok count i (get_or cs p 0)) (taken cs q (body_size cs (get_or cs p 0) q)) (Err WrongPool)) (takes bs p 1)
      (λ q on there e.
      let k = taken_to bs p 1 e in
      swap bs q (λ cs. cond (tag_ok count i (get_or bs p 0)) (taken cs q (body_size cs (get_or bs p 0) q)) (Err WrongPool))
      (λ cs. cond (tag_ok count i (get_or cs p 0)) (taken cs q (body_size cs (get_or cs p 0) q)) (Err WrongPool))
      (λ cs a. rw (agree_at bs cs q p (omega arith) a))
      (judged (tag_ok count i (get_or bs p 0)) (get_or bs p 0) q there))

  -- what a constant that was taken has: a tag that passed, and its body
  pub record Constant (count i p q : ℕ) : Type 0 where
    pub tag-ok : tag_ok count i (get_or bs p 0) ≡ true
    pub end : q ≡ p + 1 + body_size bs (get_or bs p 0) (p + 1)
    pub there : q ≤ length bs

  judged_to : (b : Bool) (t p q : ℕ) → cond b (taken bs p (body_size bs t p)) (Err WrongPool) ≡ Ok q
      → (b ≡ true) × (q ≡ p + body_size bs t p) × (p + body_size bs t p ≤ length bs)
  judged_to true t p q e = let k = taken_to bs p (body_size bs t p) e in (refl, k.0, k.1)
  judged_to false t p q e = not_ok e

  pub constant_to : (count i p q : ℕ) → after_constant bs count i p ≡ Ok q → Constant count i p q
  unfolding after_constant
  constant_to count i p q e =
      let a = step_to (taken bs p 1) _ e in
      let b = taken_to bs p 1 a.1 in
      let c = judged_to (tag_ok count i (get_or bs p 0)) (get_or bs p 0) (p + 1) q (rw b.0 at a.2) in
      record { tag-ok = c.0; end = c.1; there = omega (arith, c.1, c.2) }

  -- ---- the pool

  pub constants : (count k i p : ℕ) → p ≤ length bs → Outcome bs p (λ cs. after_constants cs count k i p)
  unfolding after_constants
  constants count zero i p there = stays bs p there
  constants count (suc k) i p there =
      by (ltb i count)
      (λ t.
      rw t
      (then_on bs p (λ cs. after_constant cs count i p) (λ cs. after_constants cs count k (i + places (get_or cs p 0))) (constant count i p)
      (λ q on there₁ e.
      let c = constant_to count i p q e in
      swap bs q (λ cs. after_constants cs count k (i + places (get_or bs p 0)) q) (λ cs. after_constants cs count k (i + places (get_or cs p 0)) q)
      (λ cs a. rw (agree_at bs cs q p (omega (arith, c.end)) a))
      (constants count k (i + places (get_or bs p 0)) q there₁))))
      (λ t. rw t (stays bs p there))

  pub pool : Outcome bs 8 after_pool
  unfolding after_pool pool_count
  pool =
      then_on bs 8 (λ cs. taken cs 8 2) (λ cs. after_constants cs (u2 cs 8) (u2 cs 8) 1) (takes bs 8 2)
      (λ q on there e.
      let k = taken_to bs 8 2 e in
      swap bs q (λ cs. after_constants cs (u2 bs 8) (u2 bs 8) 1 q) (λ cs. after_constants cs (u2 cs 8) (u2 cs 8) 1 q)
      (λ cs a. rw (agree-u2 bs cs q 8 (omega arith) a))
      (constants (u2 bs 8) (u2 bs 8) 1 q there))
