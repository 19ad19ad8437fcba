-- Laws of what is written into a list from a place on: `write_at` and `overlaid`. Assumes nothing.
use mathlib.Core.Path.{◌≡◌, sym, ap, ◌∙◌}
use mathlib.Core.List.{List, [], ◌∷◌, ◌++◌, append_assoc}
use Prim.Native.Nat.{ℕ, ◌+◌, ◌-◌, ◌≤◌, ◌<◌}
use native.Mathlib.Omega.{arith}
use native.Mathlib.Numerals.{add-one}
use lib.ListN.{length, get_or, set, take, drop, length-append, length-take, length-drop, take-append-drop, get_or-append}
use lib.Seq.{take_at, drop_at, drop-drop, length-take-le, get_or-take, get_or-drop, set_split, take-suc, take_all, drop-append-add}
use Rattle.words.specs.Words.{pasted}
use Rattle.words.proofs.Lists.{skip}
use Rattle.linking.specs.Set.{write_at, overlaid}

-- ---- nothing written, and what is written next to it

pub write-none : (l : List ℕ) (k : ℕ) → write_at l k [] ≡ l
unfolding write_at
write-none l k = let e : k + 0 ≡ k = omega arith in rw e (take-append-drop k l)

pub write-more : (l : List ℕ) (k : ℕ) (xs ys : List ℕ) (m : ℕ) → k ≤ length l → m ≡ k + length xs
    → write_at (write_at l k xs) m ys ≡ write_at l k (xs ++ ys)
unfolding write_at
write-more l k xs ys m h e =
    let t : length (take k l) ≡ k = length-take-le k l h in
    let u : length (take k l ++ xs) ≡ m = length-append (take k l) xs ∙ omega arith in
    let a : take k l ++ (xs ++ drop (k + length xs) l) ≡ (take k l ++ xs) ++ drop (k + length xs) l =
    sym (append_assoc (take k l) xs (drop (k + length xs) l)) in
    let p : take m ((take k l ++ xs) ++ drop (k + length xs) l) ≡ take k l ++ xs = take_at (take k l ++ xs) (drop (k + length xs) l) m u in
    let n : k + length xs + length ys ≡ k + length (xs ++ ys) = omega (arith, length-append xs ys) in
    let q : drop (m + length ys) ((take k l ++ xs) ++ drop (k + length xs) l) ≡ drop (k + length (xs ++ ys)) l =
    ap (λ (i : ℕ). drop (i + length ys) ((take k l ++ xs) ++ drop (k + length xs) l)) (sym u)
    ∙ drop-append-add (take k l ++ xs) (drop (k + length xs) l) (length ys)
    ∙ drop-drop (length ys) (k + length xs) l
    ∙ ap (λ (i : ℕ). drop i l) n in
    rw (a, p, q) (append_assoc (take k l) xs (ys ++ drop (k + length (xs ++ ys)) l)
    ∙ ap (λ (z : List ℕ). take k l ++ z) (sym (append_assoc xs ys (drop (k + length (xs ++ ys)) l))))

pub length-write : (l : List ℕ) (k : ℕ) (xs : List ℕ) → k + length xs ≤ length l → length (write_at l k xs) ≡ length l
unfolding write_at
length-write l k xs h =
    omega (
      arith,
      length-append (take k l) (xs ++ drop (k + length xs) l),
      length-append xs (drop (k + length xs) l),
      length-drop (k + length xs) l,
      length-take k l,
    )

-- a store is a list of one written; after what was written
pub write-set : (l : List ℕ) (i v : ℕ) → i < length l → set l i v ≡ write_at l i (v ∷ [])
unfolding write_at
write-set l i v h = set_split l i v h ∙ rw add-one

pub write-next : (l : List ℕ) (k : ℕ) (xs : List ℕ) (m v : ℕ) → m < length l → m ≡ k + length xs
    → set (write_at l k xs) m v ≡ write_at l k (xs ++ (v ∷ []))
write-next l k xs m v h e =
    write-set (write_at l k xs) m v (omega (arith, length-write l k xs (omega arith)))
    ∙ write-more l k xs (v ∷ []) m (omega arith) e

-- a turn of a loop that writes a list element by element, and its end
module _ (l : List ℕ) (k : ℕ) (xs : List ℕ) where
  pub each_turn : (j : ℕ) {d e : List ℕ} {v : ℕ} → k + length xs ≤ length l → j < length xs → d ≡ write_at l k (take j xs)
      → v ≡ get_or xs j 0 → e ≡ set d (k + j) v → e ≡ write_at l k (take (j + 1) xs)
  each_turn j {v = v} room h p q r =
      let t : take (j + 1) xs ≡ take j xs ++ (v ∷ []) = rw (add-one, q) (take-suc xs j 0 h) in
      let n : length (take j xs) ≡ j = length-take-le j xs (omega arith) in
      r ∙ rw (p, t) (write-next l k (take j xs) (k + j) v (omega arith) (omega arith))

  pub each-done : (j : ℕ) {d : List ℕ} → length xs ≤ j → d ≡ write_at l k (take j xs) → d ≡ write_at l k xs
  each-done j h p = p ∙ ap (write_at l k) (take_all j xs h)

-- ---- a copy of words is a part written

pub write-pasted : (src : List ℕ) (from n : ℕ) (dst : List ℕ) (at : ℕ) → from + n ≤ length src
    → pasted src from n dst at ≡ write_at dst at (take n (drop from src))
unfolding pasted write_at
write-pasted src from n dst at h =
    let e : length (take n (drop from src)) ≡ n = length-take-le n (drop from src) (rw length-drop (omega arith)) in
    rw e (append_assoc (take at dst) (take n (drop from src)) (drop (at + n) dst))

-- what was written, as a part
pub write-part : (l xs : List ℕ) (n : ℕ) → n ≡ length xs → take n (drop 0 (write_at l 0 xs)) ≡ xs
unfolding write_at
write-part l xs n e = take_at xs (drop (0 + length xs) l) n (sym e)

-- the front kept and the rest written over, as one list in front
pub write-overlaid : (l : List ℕ) (k : ℕ) (xs : List ℕ) → k ≤ length l → write_at l k xs ≡ overlaid (take k l ++ xs) l
unfolding write_at overlaid
write-overlaid l k xs h =
    let e : length (take k l ++ xs) ≡ k + length xs = length-append (take k l) xs ∙ omega (arith, length-take-le k l h) in
    rw (e, append_assoc)

-- ---- a part of what was written, written anew

module _ (l : List ℕ) (k : ℕ) (a rest : List ℕ) (h : k ≤ length l) where
  write-front : take k (write_at l k (a ++ rest)) ≡ take k l
  unfolding write_at
  write-front = take_at (take k l) ((a ++ rest) ++ drop (k + length (a ++ rest)) l) k (length-take-le k l h)

  write-back : drop k (write_at l k (a ++ rest)) ≡ a ++ (rest ++ drop (k + length (a ++ rest)) l)
  unfolding write_at
  write-back =
      drop_at (take k l) ((a ++ rest) ++ drop (k + length (a ++ rest)) l) k (length-take-le k l h)
      ∙ append_assoc a rest (drop (k + length (a ++ rest)) l)

  pub part-again : (n : ℕ) → n ≡ length a → take n (drop k (write_at l k (a ++ rest))) ≡ a
  part-again n e = rw write-back (take_at a (rest ++ drop (k + length (a ++ rest)) l) n (sym e))

  pub write_again : (n : ℕ) (y : List ℕ) → n ≡ length a → length y ≡ length a
      → take k (write_at l k (a ++ rest)) ++ (y ++ drop n (drop k (write_at l k (a ++ rest)))) ≡ write_at l k (y ++ rest)
  unfolding write_at
  write_again n y e f =
      let d : drop n (a ++ (rest ++ drop (k + length (a ++ rest)) l)) ≡ rest ++ drop (k + length (a ++ rest)) l =
      drop_at a (rest ++ drop (k + length (a ++ rest)) l) n (sym e) in
      let m : k + length (a ++ rest) ≡ k + length (y ++ rest) = omega (arith, length-append a rest, length-append y rest) in
      rw (write-front, write-back, d, m) (ap (λ (z : List ℕ). take k l ++ z) (sym (append_assoc y rest (drop (k + length (y ++ rest)) l))))

-- ---- what stands before the words written, and from them on

module _ (l : List ℕ) (k : ℕ) (xs : List ℕ) (h : k ≤ length l) where
  pub write-before : (i : ℕ) → i < k → get_or (write_at l k xs) i 0 ≡ get_or l i 0
  unfolding write_at
  write-before i b =
      get_or-append (take k l) (xs ++ drop (k + length xs) l) 0 i (omega (arith, length-take-le k l h)) ∙ get_or-take k l i 0 b

  pub write-drop : (n : ℕ) → drop (k + n) (write_at l k xs) ≡ drop n (xs ++ drop (k + length xs) l)
  unfolding write_at
  write-drop n =
      ap (λ (j : ℕ). drop (j + n) (take k l ++ (xs ++ drop (k + length xs) l))) (sym (length-take-le k l h))
      ∙ drop-append-add (take k l) (xs ++ drop (k + length xs) l) n

  pub write-inside : (j : ℕ) → j < length xs → get_or (write_at l k xs) (k + j) 0 ≡ get_or xs j 0
  unfolding write_at
  write-inside j b =
      skip (take k l) (xs ++ drop (k + length xs) l) (k + j) j 0 (omega (arith, length-take-le k l h))
      ∙ get_or-append xs (drop (k + length xs) l) 0 j b

  pub write-after : (i : ℕ) → k + length xs ≤ i → get_or (write_at l k xs) i 0 ≡ get_or l i 0
  unfolding write_at
  write-after i b =
      let e : k + length xs + (i - (k + length xs)) ≡ i = omega arith in
      skip (take k l) (xs ++ drop (k + length xs) l) i (i - k) 0 (omega (arith, length-take-le k l h))
      ∙ skip xs (drop (k + length xs) l) (i - k) (i - (k + length xs)) 0 (omega arith)
      ∙ get_or-drop (k + length xs) l (i - (k + length xs)) 0 ∙ ap (λ (j : ℕ). get_or l j 0) e
