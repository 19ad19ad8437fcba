-- The marks of an accepted pool are near. While the pool is walked, a mark whose front has been passed leads to each constant of its 64 as the walk
-- from the pool's front does (`Good`), and so does the place itself for each constant that is still to come (`On`). Assumes nothing.
use mathlib.Core.Path.{◌≡◌, refl, sym, ◌∙◌}
use mathlib.Core.Bool.{◌&&◌}
use mathlib.Core.List.{List}
use Prim.Native.Nat.{ℕ, zero, suc, ◌+◌, ◌*◌, ◌-◌, ◌/◌, ◌%◌, ◌≤◌, ◌<◌}
use native.Mathlib.Omega.{arith}
use lib.ListN.{length, get_or, length-set, length-replicate}
use lib.Seq.{get_or-set_same, get_or-set_other}
use lib.Dec.{leb, ltb}
use borrow.Author.Tests.{ltb-true, ltb-false, le-leb, leb-true, leb-false}
use Rattle.std.specs.Prelude.{Ok}
use Rattle.words.proofs.Bools.{by, and_both}
use Rattle.class_form.specs.declared.Mark.{Mark}
use Rattle.class_form.specs.Form.{Step, u2, taken, places, after_constant, after_constants, pool_count, after_pool, constant_at, tagged_at, utf8_at, class_at}
use Rattle.class_form.specs.Marks.{marked, marks_from, no_mark, no_marks, pool_marks, mark_of, constant_near, tagged_near, utf8_near, class_near, Near}
use Rattle.class_form.proofs.Laws.{step_to, places_few, taken_to}
use Rattle.class_form.proofs.WalkLaws.{on_same, look_at, look_turn, look_whole}

-- ---- one mark

module _ (i p : ℕ) (ms : List Mark) where
  length_marked : length (marked i p ms) ≡ length ms
  unfolding marked
  length_marked = by (leb (i % 64) 1) (λ t. rw t (length-set ms (i / 64) _)) (λ t. rw t)

  -- the mark of the 64 indices that i begins
  mark_there : (b : ℕ) → 64 * b ≤ i → i ≤ 64 * b + 1 → b < length ms → get_or (marked i p ms) b no_mark ≡ record { index = i; place = p }
  unfolding marked
  mark_there b front near fits =
      let e : i / 64 ≡ b = omega arith in
      let l : i % 64 ≤ 1 = omega arith in
      rw (le-leb (i % 64) 1 l, e) (get_or-set_same ms b _ no_mark fits)

  -- any other one stays
  mark_other : (b : ℕ) → 64 * b + 1 < i → get_or (marked i p ms) b no_mark ≡ get_or ms b no_mark
  unfolding marked
  mark_other b h =
      by (leb (i % 64) 1)
      (λ t. let g = leb-true (i % 64) 1 t in rw t (get_or-set_other ms (i / 64) b _ no_mark (λ e. omega arith)))
      (λ t. rw t)

-- ---- the walk

module _ (bs : List ℕ) (small : pool_count bs < 65536) where
  abbrev On : ℕ → ℕ → Type 0
  On i p = (x : ℕ) → i ≤ x → look_at bs x i p ≡ look_at bs x 1 10

  abbrev Good : ℕ → List Mark → Type 0
  Good i ms = (x : ℕ) → 1 ≤ x → 64 * ((x - 1) / 64) + 1 < i → look_at bs x (mark_of ms x).index (mark_of ms x).place ≡ look_at bs x 1 10

  module _ (i p : ℕ) (on : On i p) where
    on_next : (q : ℕ) → after_constant bs (pool_count bs) i p ≡ Ok q → On (i + places (get_or bs p 0)) q
    on_next q e x h =
        let w = places_few (get_or bs p 0) in
        let t : look_at bs x i p ≡ look_at bs x (i + places (get_or bs p 0)) q = rw (look_turn bs x i p (omega arith), e) in
        sym t ∙ on x (omega arith)

    good-next : (ms : List Mark) → i < pool_count bs → length ms ≡ 1024 → Good i ms → Good (i + places (get_or bs p 0)) (marked i p ms)
    good-next ms l n good x h f =
        let w = places_few (get_or bs p 0) in
        by (leb i (64 * ((x - 1) / 64) + 1))
        (λ t.
        let g = leb-true i (64 * ((x - 1) / 64) + 1) t in rw (mark_there i p ms ((x - 1) / 64) (omega arith) g (omega arith)) (on x (omega arith)))
        (λ t. let g = leb-false i (64 * ((x - 1) / 64) + 1) t in rw (mark_other i p ms ((x - 1) / 64) g) (good x h g))

  -- at the pool's end every mark is good
  good-all : (k i p : ℕ) (ms : List Mark) {e : ℕ} → pool_count bs ≤ i + k → length ms ≡ 1024 → On i p → Good i ms
      → after_constants bs (pool_count bs) k i p ≡ Ok e → Good (pool_count bs) (marks_from bs (pool_count bs) k i p ms)
  unfolding after_constants marks_from
  good-all zero i p ms c n on good t = λ x h f. good x h (omega arith)
  good-all (suc k) i p ms {e} c n on good t =
      by (ltb i (pool_count bs))
      (λ l.
      let w = places_few (get_or bs p 0) in
      let m = ltb-true i (pool_count bs) l in
      let s = step_to (after_constant bs (pool_count bs) i p) _ (rw l at t) in
      rw (l, s.1)
      (good-all k (i + places (get_or bs p 0)) s.0 (marked i p ms) (omega arith) (length_marked i p ms ∙ n) (on_next i p on s.0 s.1)
      (good-next i p on ms m n good) s.2))
      (λ l. let g = ltb-false i (pool_count bs) l in rw l (λ x h f. good x h (omega arith)))

  pub marks_near : {e : ℕ} → after_constants bs (pool_count bs) (pool_count bs) 1 10 ≡ Ok e → Near bs (pool_marks bs)
  unfolding constant_near constant_at pool_marks
  marks_near t =
      record {
        found =
            λ i.
            by (leb 1 i && ltb i (pool_count bs))
            (λ h.
            let g = and_both (leb 1 i) (ltb i (pool_count bs)) h in
            let a = leb-true 1 i g.0 in
            let b = ltb-true i (pool_count bs) g.1 in
            rw h
            (look_whole bs i (mark_of (pool_marks bs) i).index (mark_of (pool_marks bs) i).place
            ∙ good-all (pool_count bs) 1 10 no_marks (omega arith)
            (length-replicate {A = Mark} 1024 no_mark) (λ x l. refl) (λ x l f. absurd (omega arith)) t i a
            (omega arith)
            ∙ sym (look_whole bs i 1 10)))
            (λ h. rw h);
      }

-- the same of the whole pool, its count with it
pub pool_near : (bs : List ℕ) → pool_count bs < 65536 → {e : ℕ} → after_pool bs ≡ Ok e → Near bs (pool_marks bs)
unfolding after_pool
pool_near bs small t =
    let s = step_to (taken bs 8 2) _ t in
    let z : s.0 ≡ 10 = omega (arith, (taken_to bs 8 2 s.1).0) in
    marks_near bs small (rw z at s.2)

-- two bytes are below 65,536
pub count_small : (bs : List ℕ) → ((j : ℕ) → get_or bs j 0 < 256) → pool_count bs < 65536
unfolding pool_count u2
count_small bs h = omega (arith, h 8, h 9)

-- as the code has it
pub walked_near : (bs : List ℕ) {s : Step} {e : ℕ} {ms : List Mark} → ((j : ℕ) → get_or bs j 0 < 256)
    → s ≡ after_constants bs (pool_count bs) (pool_count bs) 1 10 → s ≡ Ok e
    → ms ≡ marks_from bs (pool_count bs) (pool_count bs) 1 10 no_marks → Near bs ms
unfolding pool_marks
walked_near bs {ms = ms} h e t m = let n = marks_near bs (count_small bs h) (sym e ∙ t) in rw m n

-- ---- by near marks a Utf8 and a Class are found as by a walk from the pool's front

module _ {bs : List ℕ} {ms : List Mark} (near : Near bs ms) where
  tagged_is : (t i : ℕ) → tagged_near bs ms t i ≡ tagged_at bs t i
  unfolding tagged_near tagged_at
  tagged_is t i = rw (near.found i)

  pub utf8_is : (i : ℕ) → utf8_near bs ms i ≡ utf8_at bs i
  unfolding utf8_near utf8_at
  utf8_is i = tagged_is 1 i

  pub class_is : (i : ℕ) → class_near bs ms i ≡ class_at bs i
  unfolding class_near class_at
  class_is i = rw (tagged_is 7 i) (on_same (tagged_at bs 7 i) _ _ (λ p. utf8_is (u2 bs (p + 1))))
