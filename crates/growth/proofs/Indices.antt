-- Laws of `put_indices`: its length, stores past the end, and a turn of the loop. Assumes nothing.
use mathlib.Core.Path.{◌≡◌, refl, sym, ◌∙◌}
use mathlib.Core.List.{List, [], ◌∷◌}
use Prim.Native.Nat.{ℕ, ◌+◌, ◌*◌, ◌^◌, ◌≤◌, ◌<◌}
use Rattle.std.proofs.Common.{⊎_elim, min}
use Rattle.std.proofs.lemmas.Bool.{cases_lt}
use native.Mathlib.Omega.{arith}
use native.Mathlib.Numerals.{add-one}
use lib.ListN.{length, get_or, set, drop, length-set, drop_of_length-le}
use lib.Seq.{drop-cons, set_out}
use Rattle.class_sheet.specs.ClassSheet.{member_width, index_word}
use Rattle.linking.specs.Set.{put_indices}

pub length-indices : (at first : ℕ) (is ws : List ℕ) → length (put_indices at first is ws) ≡ length ws
unfolding put_indices
length-indices at first [] ws = refl
length-indices at first (i ∷ is) ws =
    length-indices at (first + 1) is (set ws (at + member_width * first + index_word) i) ∙ length-set ws (at + member_width * first + index_word) i

pub indices-past : (at first : ℕ) (is ws : List ℕ) → length ws ≤ at + member_width * first + index_word → put_indices at first is ws ≡ ws
unfolding put_indices
indices-past at first [] ws h = refl
indices-past at first (i ∷ is) ws h = rw (set_out ws (at + member_width * first + index_word) i h) (indices-past at (first + 1) is ws (omega arith))

-- a place past all that a slice can have, however far, is not stored to
set-far : (d : List ℕ) (i j w : ℕ) → i ≡ min j 18446744073709551615 → length d < 2 ^ 64 → set d i w ≡ set d j w
set-far d i j w e h =
    ⊎_elim (λ (k : j < 2 ^ 64). let q : i ≡ j = omega arith in rw q)
    (λ (k : 2 ^ 64 ≤ j). rw (set_out d i w (omega arith), set_out d j w (omega arith)))
    (cases_lt j (2 ^ 64))

-- what is left to store from index j on: a name of its own, so that antt finds its arguments
unfoldable pub indices_from : ℕ → ℕ → List ℕ → ℕ → List ℕ → List ℕ
indices_from at first is j ws = put_indices at (first + j) (drop j is) ws

module _ (at first : ℕ) (is : List ℕ) where
  pub from_start : (ws : List ℕ) → indices_from at first is 0 ws ≡ put_indices at first is ws
  unfolding indices_from
  from_start ws = let e : first + 0 ≡ first = omega arith in rw e

  pub from-turn : (j : ℕ) (d : List ℕ) {p w : ℕ} {e l : List ℕ} → j < length is → length d < 2 ^ 64
      → p ≡ min (at + (member_width * (first + j) + index_word)) 18446744073709551615 → w ≡ get_or is j 0 → e ≡ set d p w
      → indices_from at first is j d ≡ l → indices_from at first is (j + 1) e ≡ l
  unfolding indices_from put_indices
  from-turn j d {p = p} h room f r s k =
      let n : first + (j + 1) ≡ first + j + 1 = omega arith in
      let a : at + (member_width * (first + j) + index_word) ≡ at + member_width * (first + j) + index_word = omega arith in
      let q = set-far d p (at + (member_width * (first + j) + index_word)) (get_or is j 0) f room in
      let m : drop j is ≡ get_or is j 0 ∷ drop (j + 1) is = rw add-one (drop-cons is j 0 h) in
      rw (s, r, q, a, n) (rw m at k)

  pub from_past : (j : ℕ) (d : List ℕ) {p : ℕ} {l : List ℕ} → p ≡ min (at + (member_width * (first + j) + index_word)) 18446744073709551615
      → length d ≤ p → indices_from at first is j d ≡ l → d ≡ l
  unfolding indices_from
  from_past j d f h k = sym (indices-past at (first + j) (drop j is) d (omega (arith, f, h))) ∙ k

  pub from_end : (j : ℕ) {d l : List ℕ} → length is ≤ j → indices_from at first is j d ≡ l → d ≡ l
  unfolding indices_from put_indices
  from_end j h k = rw (drop_of_length-le is h) at k
