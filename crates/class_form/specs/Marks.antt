-- Marks of a constant pool, so that a constant is found without a walk from the pool's front: for each 64 indices the index and the place of a
-- constant at their front. Assumes nothing.
use Rattle.std.specs.Prelude.{◌≡◌, ℕ, zero, suc, ◌+◌, ◌-◌, ◌/◌, ◌%◌, cond, ◌&&◌, List, get_or, set, replicate, eqb, leb, ltb, Ok, Err}
use Rattle.refusal.specs.declared.Refusal.TheVariants.{WrongPool}
use Rattle.class_form.specs.declared.Mark.{Mark}
use Rattle.class_form.specs.Form.{Step, ◌>>=◌, u2, places, after_constant, pool_count, pool_place, constant_from, constant_at}

-- mark b has the last constant whose index is 64 * b or 64 * b + 1. (One of the two is never a second place.)
unfoldable pub marked : ℕ → ℕ → List Mark → List Mark
marked i p ms = cond (leb (i % 64) 1) (set ms (i / 64) (record { index = i; place = p })) ms

abbrev pub on_marks : Step → List Mark → (ℕ → List Mark) → List Mark
on_marks (Ok p) ms next = next p
on_marks (Err refusal) ms next = ms

-- the marks after the constants of index i on, at most k of them; the walk of `after_constants`
unfoldable pub marks_from : List ℕ → ℕ → ℕ → ℕ → ℕ → List Mark → List Mark
marks_from bs count zero i p ms = ms
marks_from bs count (suc k) i p ms =
    cond (ltb i count)
    (on_marks (after_constant bs count i p) (marked i p ms) (λ q. marks_from bs count k (i + places (get_or bs p 0)) q (marked i p ms)))
    ms

abbrev pub no_mark : Mark
no_mark = record { index = 0; place = 0 }

-- of 1,024 marks none is set yet
abbrev pub no_marks : List Mark
no_marks = replicate 1024 no_mark

unfoldable pub pool_marks : List ℕ → List Mark
pool_marks bs = marks_from bs (pool_count bs) (pool_count bs) 1 pool_place no_marks

-- ---- a constant by its index, from the mark before it on

abbrev pub mark_of : List Mark → ℕ → Mark
mark_of ms i = get_or ms ((i - 1) / 64) no_mark

unfoldable pub constant_near : List ℕ → List Mark → ℕ → Step
constant_near bs ms i =
    cond (leb 1 i && ltb i (pool_count bs)) (constant_from bs i i (mark_of ms i).index (mark_of ms i).place) (Err WrongPool)

-- the same, if it has this tag
unfoldable pub tagged_near : List ℕ → List Mark → ℕ → ℕ → Step
tagged_near bs ms t i = constant_near bs ms i >>= (λ p. cond (eqb (get_or bs p 0) t) (Ok p) (Err WrongPool))

unfoldable pub utf8_near : List ℕ → List Mark → ℕ → Step
utf8_near bs ms i = tagged_near bs ms 1 i

-- the name of a Class
unfoldable pub class_near : List ℕ → List Mark → ℕ → Step
class_near bs ms i = tagged_near bs ms 7 i >>= (λ p. utf8_near bs ms (u2 bs (p + 1)))

-- marks by which each constant is found as by a walk from the pool's front
pub record Near (bs : List ℕ) (ms : List Mark) : Type 0 where
  pub found : (i : ℕ) → constant_near bs ms i ≡ constant_at bs i
