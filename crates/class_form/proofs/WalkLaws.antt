-- The walks along the pool, a constant at a time. A walk over constants is given more steps than it needs, since a wide one takes two indices; what
-- it says does not hang on how many. Assumes nothing.
use mathlib.Core.Path.{◌≡◌, refl, ap}
use mathlib.Core.Bool.{cond}
use mathlib.Core.List.{List}
use Prim.Native.Nat.{ℕ, zero, suc, ◌+◌, ◌-◌, ◌≤◌, ◌<◌}
use native.Mathlib.Omega.{arith}
use lib.ListN.{get_or}
use lib.Dec.{ltb, eqb}
use borrow.Author.Tests.{lt-ltb, le-ltb}
use Rattle.std.specs.Prelude.{Ok, Err}
use Rattle.refusal.specs.declared.Refusal.TheVariants.{WrongPool}
use Rattle.class_form.specs.declared.Mark.{Mark}
use Rattle.class_form.specs.Form.{Step, ◌>>=◌, places, after_constant, after_constants, pool_count, constant_from}
use Rattle.class_form.specs.Marks.{marked, on_marks, marks_from}
use Rattle.class_form.proofs.Laws.{places_few}

pub on_same : (s : Step) (f g : ℕ → Step) → ((q : ℕ) → f q ≡ g q) → (s >>= f) ≡ (s >>= g)
on_same (Ok q) f g h = h q
on_same (Err r) f g h = refl

pub marks_same : (s : Step) (ms : List Mark) (f g : ℕ → List Mark) → ((q : ℕ) → f q ≡ g q) → on_marks s ms f ≡ on_marks s ms g
marks_same (Ok q) ms f g h = h q
marks_same (Err r) ms f g h = refl

-- ---- how many steps are given does not count, if they are enough

module _ (bs : List ℕ) (count : ℕ) where
  constants-any : (k m i p : ℕ) → count ≤ i + k → count ≤ i + m → after_constants bs count k i p ≡ after_constants bs count m i p
  unfolding after_constants
  constants-any zero zero i p h g = refl
  constants-any zero (suc m) i p h g = rw (le-ltb i count (omega arith))
  constants-any (suc k) zero i p h g = rw (le-ltb i count (omega arith))
  constants-any (suc k) (suc m) i p h g =
      let l = places_few (get_or bs p 0) in
      let j : ℕ = i + places (get_or bs p 0) in
      ap (λ (s : Step). cond (ltb i count) s (Ok p))
      (on_same (after_constant bs count i p) (after_constants bs count k j) (after_constants bs count m j)
      (λ q. constants-any k m j q (omega arith) (omega arith)))

  marks_any : (k m i p : ℕ) (ms : List Mark) → count ≤ i + k → count ≤ i + m → marks_from bs count k i p ms ≡ marks_from bs count m i p ms
  unfolding marks_from
  marks_any zero zero i p ms h g = refl
  marks_any zero (suc m) i p ms h g = rw (le-ltb i count (omega arith))
  marks_any (suc k) zero i p ms h g = rw (le-ltb i count (omega arith))
  marks_any (suc k) (suc m) i p ms h g =
      let l = places_few (get_or bs p 0) in
      let j : ℕ = i + places (get_or bs p 0) in
      let ns : List Mark = marked i p ms in
      ap (λ (s : List Mark). cond (ltb i count) s ms)
      (marks_same (after_constant bs count i p) ns (λ q. marks_from bs count k j q ns) (λ q. marks_from bs count m j q ns)
      (λ q. marks_any k m j q ns (omega arith) (omega arith)))

module _ (bs : List ℕ) (i : ℕ) where
  from-any : (k m j p : ℕ) → i ≤ j + k → i ≤ j + m → constant_from bs i k j p ≡ constant_from bs i m j p
  unfolding constant_from
  from-any zero zero j p h g = refl
  from-any zero (suc m) j p h g = rw (le-ltb j i (omega arith))
  from-any (suc k) zero j p h g = rw (le-ltb j i (omega arith))
  from-any (suc k) (suc m) j p h g =
      let l = places_few (get_or bs p 0) in
      let n : ℕ = j + places (get_or bs p 0) in
      ap (λ (s : Step). cond (ltb j i) s (cond (eqb j i) (Ok p) (Err WrongPool)))
      (on_same (after_constant bs (pool_count bs) j p) (constant_from bs i k n) (constant_from bs i m n)
      (λ q. from-any k m n q (omega arith) (omega arith)))

-- ---- the walks with just enough steps: a turn, the end, and that they are the whole walks

unfoldable pub constants_at : List ℕ → ℕ → ℕ → ℕ → Step
constants_at bs count i p = after_constants bs count (count - i) i p

unfoldable pub marks_at : List ℕ → ℕ → ℕ → ℕ → List Mark → List Mark
marks_at bs count i p ms = marks_from bs count (count - i) i p ms

unfoldable pub look_at : List ℕ → ℕ → ℕ → ℕ → Step
look_at bs i j p = constant_from bs i (i - j) j p

one_less : (a b : ℕ) → b < a → a - b ≡ suc (a - b - 1)
one_less a b h = omega arith

module _ (bs : List ℕ) (count i p : ℕ) where
  pub constants_turn : i < count → constants_at bs count i p ≡ (after_constant bs count i p >>= constants_at bs count (i + places (get_or bs p 0)))
  unfolding constants_at after_constants
  constants_turn l =
      let w = places_few (get_or bs p 0) in
      let j : ℕ = i + places (get_or bs p 0) in
      rw (one_less count i l, lt-ltb i count l)
      (on_same (after_constant bs count i p) _ (λ q. after_constants bs count (count - j) j q)
      (λ q. constants-any bs count (count - i - 1) (count - j) j q (omega arith) (omega arith)))

  pub constants_end : count ≤ i → constants_at bs count i p ≡ Ok p
  unfolding constants_at after_constants
  constants_end h = let z : count - i ≡ 0 = omega arith in rw z

  pub marks_turn : (ms : List Mark) → i < count → marks_at bs count i p ms
      ≡ on_marks (after_constant bs count i p) (marked i p ms) (λ q. marks_at bs count (i + places (get_or bs p 0)) q (marked i p ms))
  unfolding marks_at marks_from
  marks_turn ms l =
      let w = places_few (get_or bs p 0) in
      let j : ℕ = i + places (get_or bs p 0) in
      let ns : List Mark = marked i p ms in
      rw (one_less count i l, lt-ltb i count l)
      (marks_same (after_constant bs count i p) ns _ (λ q. marks_from bs count (count - j) j q ns)
      (λ q. marks_any bs count (count - i - 1) (count - j) j q ns (omega arith) (omega arith)))

  pub marks_end : (ms : List Mark) → count ≤ i → marks_at bs count i p ms ≡ ms
  unfolding marks_at marks_from
  marks_end ms h = let z : count - i ≡ 0 = omega arith in rw z

pub constants_whole : (bs : List ℕ) (count p : ℕ) → after_constants bs count count 1 p ≡ constants_at bs count 1 p
unfolding constants_at
constants_whole bs count p = constants-any bs count count (count - 1) 1 p (omega arith) (omega arith)

pub marks_whole : (bs : List ℕ) (count p : ℕ) (ms : List Mark) → marks_from bs count count 1 p ms ≡ marks_at bs count 1 p ms
unfolding marks_at
marks_whole bs count p ms = marks_any bs count count (count - 1) 1 p ms (omega arith) (omega arith)

-- ---- a constant by its index

module _ (bs : List ℕ) (i j p : ℕ) where
  pub look_turn : j < i → look_at bs i j p ≡ (after_constant bs (pool_count bs) j p >>= look_at bs i (j + places (get_or bs p 0)))
  unfolding look_at constant_from
  look_turn l =
      let w = places_few (get_or bs p 0) in
      let n : ℕ = j + places (get_or bs p 0) in
      rw (one_less i j l, lt-ltb j i l)
      (on_same (after_constant bs (pool_count bs) j p) _ (λ q. constant_from bs i (i - n) n q)
      (λ q. from-any bs i (i - j - 1) (i - n) n q (omega arith) (omega arith)))

  pub look_end : i ≤ j → look_at bs i j p ≡ cond (eqb j i) (Ok p) (Err WrongPool)
  unfolding look_at constant_from
  look_end h = let z : i - j ≡ 0 = omega arith in rw z

  pub look_whole : constant_from bs i i j p ≡ look_at bs i j p
  unfolding look_at
  look_whole = from-any bs i i (i - j) j p (omega arith) (omega arith)

pub ruleset pool_steps = (places_few, constants_turn, constants_end, constants_whole, marks_turn, marks_end, marks_whole)

pub ruleset look_steps = (places_few, look_turn, look_end, look_whole)
