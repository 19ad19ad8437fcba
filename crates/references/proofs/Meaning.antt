-- What the marked words are, all by one induction: the list of the words before i + 1 is that of the words before i, with i behind it if it
-- is marked. Assumes nothing.
use mathlib.Core.Path.{◌≡◌, refl, sym, ap, ◌∙◌}
use mathlib.Core.Logic.{◌⊎◌, ⊎_elim}
use mathlib.Core.Bool.{true, false, true≢false}
use mathlib.Core.List.{List, [], ◌∷◌, ◌++◌, Memᴰ}
use Prim.Native.Nat.{ℕ, zero, suc, ◌+◌, ◌/◌, ◌<◌}
use native.Mathlib.Nat.{eq-or-lt_of_le}
use native.Mathlib.Omega.{arith}
use lib.ListN.{length, get_or, length-append, get_or-append}
use lib.Seq.{get_or_at}
use lib.Dec.{ltb}
use borrow.Author.Tests.{ltb-false}
use Rattle.words.proofs.Bools.{by}
use Rattle.words.specs.Words.{AreBytes}
use Rattle.references.specs.Meaning.{Meaning}
use Rattle.references.specs.References.{is_marked, marked_words, bytes_for, too_few, read_references, count_references}
use Rattle.references.proofs.Laws.{marked_before, before-none, before_more, before-take, before-skip, before-bound, count_is}

-- i + 1, as the inductions have it
next : (bitmap : List ℕ) (i : ℕ) → marked_before bitmap (suc i) ≡ marked_before bitmap (i + 1)
next bitmap i = let e : suc i ≡ i + 1 = omega arith in rw e

split : {i n : ℕ} → i < suc n → (i ≡ n) ⊎ (i < n)
split h = eq-or-lt_of_le (omega arith)

module _ (bitmap : List ℕ) where
  -- each listed word is below n and marked
  listed : (n i : ℕ) → Memᴰ i (marked_before bitmap n) → (i < n) × (is_marked bitmap i ≡ true)
  listed zero i h = absurd (mathlib.Core.List.Memᴰ.not-nil (rw before-none at h))
  listed (suc n) i h =
      by (is_marked bitmap n)
      (λ t.
      let g : Memᴰ i (marked_before bitmap n ++ (n ∷ [])) = rw (next bitmap n, before-take bitmap n t) at h in
      ⊎_elim (λ m. let p = listed n i m in (omega arith, p.1)) (λ m. let e = mathlib.Core.List.Memᴰ.eq_of_singleton m in (omega arith, rw e t))
      (mathlib.Core.List.Memᴰ.append_cases (marked_before bitmap n) g))
      (λ t. let g : Memᴰ i (marked_before bitmap n) = rw (next bitmap n, before-skip bitmap n t) at h in let p = listed n i g in (omega arith, p.1))

  -- each marked word below n is listed
  member : (n i : ℕ) → i < n → is_marked bitmap i ≡ true → Memᴰ i (marked_before bitmap n)
  member zero i h e = absurd (omega arith)
  member (suc n) i h e =
      rw next
      (by (is_marked bitmap n)
      (λ t. rw (before-take bitmap n t)
      (⊎_elim (λ q. mathlib.Core.List.Memᴰ.append_right (marked_before bitmap n) (mathlib.Core.List.Memᴰ.head q))
      (λ l. mathlib.Core.List.Memᴰ.append_left (n ∷ []) (member n i l e))
      (split h)))
      (λ t. rw (before-skip bitmap n t) (⊎_elim (λ (q : i ≡ n). absurd (true≢false (sym (rw q at e) ∙ t))) (λ l. member n i l e) (split h))))

  -- each element is below n
  below : (n k : ℕ) → k < length (marked_before bitmap n) → get_or (marked_before bitmap n) k 0 < n
  below zero k h = absurd (omega (arith, ap length (before-none bitmap)))
  below (suc n) k h =
      by (is_marked bitmap n)
      (λ t.
      let l : List ℕ = marked_before bitmap n in
      let e : marked_before bitmap (suc n) ≡ l ++ (n ∷ []) = next bitmap n ∙ before-take bitmap n t in
      let size = ap length e ∙ length-append l (n ∷ []) in
      rw e
      (⊎_elim (λ (q : k ≡ length l). rw (get_or_at l n [] 0 k (sym q)) (omega arith))
      (λ m. let b = below n k m in rw (get_or-append l (n ∷ []) 0 k m) (omega arith)) (eq-or-lt_of_le (omega arith))))
      (λ t.
      let e : marked_before bitmap (suc n) ≡ marked_before bitmap n = next bitmap n ∙ before-skip bitmap n t in
      let b = below n k (rw e at h) in rw e (omega arith))

  -- each element is below the next
  rises : (n k : ℕ) → k + 1 < length (marked_before bitmap n) → get_or (marked_before bitmap n) k 0 < get_or (marked_before bitmap n) (k + 1) 0
  rises zero k h = absurd (omega (arith, ap length (before-none bitmap)))
  rises (suc n) k h =
      by (is_marked bitmap n)
      (λ t.
      let l : List ℕ = marked_before bitmap n in
      let e : marked_before bitmap (suc n) ≡ l ++ (n ∷ []) = next bitmap n ∙ before-take bitmap n t in
      let size = ap length e ∙ length-append l (n ∷ []) in
      let first : k < length l = omega arith in
      rw (e, get_or-append l (n ∷ []) 0 k first)
      (⊎_elim (λ (q : k + 1 ≡ length l). rw (get_or_at l n [] 0 (k + 1) (sym q)) (below n k first))
      (λ m. rw (get_or-append l (n ∷ []) 0 (k + 1) m) (rises n k m)) (eq-or-lt_of_le (omega arith))))
      (λ t.
      let e : marked_before bitmap (suc n) ≡ marked_before bitmap n = next bitmap n ∙ before-skip bitmap n t in rw e (rises n k (rw e at h)))

-- bitmaps that agree on the words before n
agree : (a b : List ℕ) (n : ℕ) → ((i : ℕ) → i < n → is_marked a i ≡ is_marked b i) → marked_before a n ≡ marked_before b n
agree a b zero h = rw (before-none a, before-none b)
agree a b (suc n) h =
    rw (next a n, before_more a n, h n (omega arith), agree a b n (λ i l. h i (omega arith)), next b n, before_more b n)

-- bytes that follow those of the words
follow : (bitmap more : List ℕ) (n : ℕ) → too_few bitmap n ≡ false → (i : ℕ) → i < n → is_marked (bitmap ++ more) i ≡ is_marked bitmap i
unfolding is_marked too_few bytes_for
follow bitmap more n f i h =
    rw (get_or-append bitmap more 0 (i / 8) (omega (arith, ltb-false (length bitmap) ((n + 7) / 8) f)))

-- an accepted list's count is the one that is told without it
counts : (bitmap list : List ℕ) (n : ℕ) → AreBytes bitmap → (read_references bitmap n list).refusal ≡ 0
    → (read_references bitmap n list).count ≡ (count_references bitmap n).count
unfolding read_references count_references
counts bitmap list n small e =
    by (too_few bitmap n)
    (λ t. rw t)
    (λ t.
    by (ltb (length list) (length (marked_words bitmap n)))
    (λ s. let z : 25 ≡ 0 = rw (t, s) at e in absurd (omega arith))
    (λ s. rw (t, s) (sym (count_is bitmap n small))))

whole : (bitmap : List ℕ) (n : ℕ) → marked_words bitmap n ≡ marked_before bitmap n
unfolding marked_words marked_before
whole bitmap n = refl

pub meaning : Meaning
meaning =
    record {
      count_is_length = count_is;
      one_count = counts;
      listed_marked = λ bitmap n i h. listed bitmap n i (rw whole at h);
      marked_listed = λ bitmap n i h e. rw whole (member bitmap n i h e);
      rising = λ bitmap n k h. rw whole (rises bitmap n k (rw whole at h));
      beyond_ignored = λ a b n h. rw (whole a n, whole b n) (agree a b n h);
      more_ignored = λ bitmap more n f. rw (whole (bitmap ++ more) n, whole bitmap n) (agree _ _ n (follow bitmap more n f));
      bound = λ bitmap n. rw whole (before-bound bitmap n);
    }
