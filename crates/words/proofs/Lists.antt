-- Laws on lists of any element: a part that is written, parts that follow one another, parts by their elements. Assumes nothing.
use mathlib.Core.Path.{◌≡◌, refl}
use mathlib.Core.Logic.{◌⊎◌, inl, inr}
use Prim.Native.Nat.{ℕ, zero, suc, ◌+◌, ◌≤◌, ◌<◌}
use native.Mathlib.Omega.{arith}
use mathlib.Core.List.{List, ◌++◌}
use lib.ListN.{length, get_or, replicate, take, drop, set, length-take, length-drop, length-set}
use lib.Seq.{get_or-take, get_or-drop, get_or-append-add, ext_get_or, get_or-set_other}

-- past a part
pub skip {ℓ} : {X : Type ℓ} (xs ys : List X) (k i : ℕ) (d : X) → k ≡ length xs + i → get_or (xs ++ ys) k d ≡ get_or ys i d
skip xs ys k i d e = rw e (get_or-append-add xs ys i d)

-- an element of a part, and a part's length
pub part_at {ℓ} : {X : Type ℓ} (l : List X) (p n i : ℕ) (d : X) → i < n → get_or (take n (drop p l)) i d ≡ get_or l (p + i) d
part_at l p n i d h = rw (get_or-take, get_or-drop)

pub length_part {ℓ} : {X : Type ℓ} (l : List X) (p n : ℕ) → p + n ≤ length l → length (take n (drop p l)) ≡ n
length_part l p n h = simp (length-take, length-drop) (omega arith)

-- a part that two lists share, by its elements
pub part_ext {ℓ} : {X : Type ℓ} (x : X) (a b : List X) (p n : ℕ) → length a ≡ length b
    → ((i : ℕ) → p ≤ i → i < p + n → get_or a i x ≡ get_or b i x) → take n (drop p a) ≡ take n (drop p b)
part_ext x a b p n e h =
    ext_get_or x (take n (drop p a)) (take n (drop p b))
    (simp (length-take, length-drop, e))
    (λ i l.
    let m : i < n = omega (arith, simp (length-take, length-drop) at l) in
    simp (get_or-take, get_or-drop) (h (p + i) (omega arith) (omega arith)))

-- a part that does not hold the place of a store
pub part-set-other {ℓ} : {X : Type ℓ} (x : X) (a : List X) (i : ℕ) (v : X) (p n : ℕ) → (i < p) ⊎ (p + n ≤ i)
    → take n (drop p (set a i v)) ≡ take n (drop p a)
part-set-other x a i v p n (inl h) =
    part_ext x (set a i v) a p n (length-set a i v) (λ j h₁ h₂. get_or-set_other a i j v x (omega arith))
part-set-other x a i v p n (inr h) =
    part_ext x (set a i v) a p n (length-set a i v) (λ j h₁ h₂. get_or-set_other a i j v x (omega arith))

-- zeros, at each place and past the end
pub zeros : (n i : ℕ) → ◌≡◌ {A = ℕ} (get_or (replicate n 0) i 0) 0
zeros zero i = refl
zeros (suc n) zero = refl
zeros (suc n) (suc i) = zeros n i
