-- The package of a name by its last slash, and which methods are open, as the code tests them. Assumes nothing.
use mathlib.Core.Path.{◌≡◌, refl, sym, ap}
use mathlib.Core.Bool.{Bool, false}
use mathlib.Core.List.{List, [], ◌∷◌}
use Prim.Native.Nat.{ℕ, zero, suc, ◌-◌, ◌≤◌, ◌<◌}
use native.Mathlib.Omega.{arith}
use lib.ListN.{length, get_or, take, drop, drop_of_length-le}
use lib.Seq.{drop-cons}
use lib.Dec.{eqb}
use borrow.Author.Tests.{ne_eqb}
use Rattle.words.specs.Lists.{some}
use Rattle.words.proofs.Bools.{or-neither}
use Rattle.linking.specs.Packages.{package_of}
use Rattle.linking.proofs.PackageNames.{slash_in}

-- a slash from byte i on
unfoldable pub slash_from : List ℕ → ℕ → Bool
slash_from name i = some (λ x. eqb x 47) (drop i name)

package_at_lem : (name : List ℕ) (i : ℕ) → i < length name → get_or name i 0 ≡ 47 → some (λ x. eqb x 47) (drop (suc i) name) ≡ false
    → take i name ≡ package_of name
unfolding package_of
package_at_lem [] i h e n = absurd (omega arith)
package_at_lem (b ∷ bs) zero h e n = rw n
package_at_lem (b ∷ bs) (suc i) h e n =
    rw (slash_in bs i (omega arith) e) (ap (λ (l : List ℕ). b ∷ l) (package_at_lem bs i (omega arith) e n))

-- the last slash is at place i - 1
pub package_here : (name : List ℕ) (i : ℕ) → 0 < i → i ≤ length name → slash_from name i ≡ false → get_or name (i - 1) 0 ≡ 47
    → take (i - 1) name ≡ package_of name
unfolding slash_from
package_here name i h l n e = let s : suc (i - 1) ≡ i = omega arith in package_at_lem name (i - 1) (omega arith) e (rw s n)

pub slash-end : (name : List ℕ) (i : ℕ) → length name ≤ i → slash_from name i ≡ false
unfolding slash_from some
slash-end name i h = rw (drop_of_length-le name h)

slash-step : (name : List ℕ) (j : ℕ) → j < length name → eqb (get_or name j 0) 47 ≡ false → slash_from name (suc j) ≡ false → slash_from name j ≡ false
unfolding slash_from some
slash-step name j h t n = rw (drop-cons name j 0 h, t) n

pub slash-next : (name : List ℕ) (i : ℕ) → 0 < i → i ≤ length name → slash_from name i ≡ false → (get_or name (i - 1) 0 ≡ 47 → ⊥)
    → slash_from name (i - 1) ≡ false
slash-next name i h l n q =
    let s : suc (i - 1) ≡ i = omega arith in
    slash-step name (i - 1) (omega arith) (ne_eqb (get_or name (i - 1) 0) 47 q) (rw s n)

-- without one
pub package_none : (name : List ℕ) (i : ℕ) → i ≤ 0 → slash_from name i ≡ false → [] ≡ package_of name
unfolding slash_from
package_none name i e n = let z : i ≡ 0 = omega arith in sym (none name (rw z at n))
  where
    none : (l : List ℕ) → some (λ x. eqb x 47) l ≡ false → package_of l ≡ []
    none [] h = unfold package_of in refl
    none (b ∷ bs) h = unfold package_of in (rw (or-neither (eqb b 47) (some (λ x. eqb x 47) bs) (unfold some in h)).1)
