-- A package is what stands before the last slash: a byte belongs to it while a slash follows. Assumes nothing.
use mathlib.Core.Path.{◌≡◌, refl, ap}
use mathlib.Core.Logic.{◌≢◌}
use mathlib.Core.Bool.{true, false}
use mathlib.Core.List.{List, [], ◌∷◌}
use Prim.Native.Nat.{ℕ, zero, suc, ◌<◌}
use native.Mathlib.Omega.{arith}
use lib.ListN.{length, get_or, take}
use lib.Dec.{eqb}
use borrow.Author.Tests.{eq-eqb, ne_eqb}
use Rattle.words.specs.Lists.{some}
use Rattle.words.proofs.Bools.{by}
use Rattle.linking.specs.Packages.{package_of, PackageMeaning}

pub slash_in : (name : List ℕ) (i : ℕ) → i < length name → get_or name i 0 ≡ 47 → some (λ x. eqb x 47) name ≡ true
unfolding some
slash_in [] i h e = absurd (omega arith)
slash_in (b ∷ bs) zero h e = rw (eq-eqb b 47 e)
slash_in (b ∷ bs) (suc i) h e = by (eqb b 47) (λ t. rw t) (λ t. rw t (slash_in bs i (omega arith) e))

no_slash : (name : List ℕ) → ((j : ℕ) → j < length name → get_or name j 0 ≢ 47) → some (λ x. eqb x 47) name ≡ false
unfolding some
no_slash [] n = refl
no_slash (b ∷ bs) n = rw (ne_eqb b 47 (n 0 (omega arith))) (no_slash bs (λ j h. n (suc j) (omega arith)))

before_last : (name : List ℕ) (i : ℕ) → i < length name → get_or name i 0 ≡ 47 → ((j : ℕ) → i < j → j < length name → get_or name j 0 ≢ 47)
    → package_of name ≡ take i name
unfolding package_of
before_last [] i h e n = absurd (omega arith)
before_last (b ∷ bs) zero h e n = rw (no_slash bs (λ j l. n (suc j) (omega arith) (omega arith)))
before_last (b ∷ bs) (suc i) h e n =
    rw (slash_in bs i (omega arith) e)
    (ap (λ (l : List ℕ). b ∷ l) (before_last bs i (omega arith) e (λ j l k. n (suc j) (omega arith) (omega arith))))

without : (name : List ℕ) → ((j : ℕ) → j < length name → get_or name j 0 ≢ 47) → package_of name ≡ []
unfolding package_of
without [] n = refl
without (b ∷ bs) n = rw (no_slash bs (λ j h. n (suc j) (omega arith)))

pub package_meaning : PackageMeaning
package_meaning = record { before_last = before_last; without = without }
