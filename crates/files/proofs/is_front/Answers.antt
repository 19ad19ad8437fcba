-- The library's test of each number below the length is the definition's: both go up from 0. Assumes nothing.
use mathlib.Core.Path.{◌≡◌, refl, sym, ap, ◌∙◌}
use mathlib.Core.Bool.{Bool, ◌&&◌, and-true}
use mathlib.Core.List.{[], ◌∷◌, ◌++◌}
use Prim.Native.Nat.{ℕ, zero, suc, ◌-◌}
use native.Mathlib.Omega.{arith}
use native.Mathlib.Numerals.{add-one}
use lib.ListN.{length}
use Rattle.std.specs.List.{list_all, range_with_len}
use Rattle.std.proofs.Common.{rules}
use Rattle.std.proofs.lemmas.Iterator.Search.{all_from_yields_List}
use Rattle.std.proofs.lemmas.Iterator.{YieldsList-from_range}
use Rattle.std.proofs.lemmas.List.Folds.{list_all-append}
use Rattle.words.specs.Folds.{all_of}
use Rattle.words.proofs.Ext.{list-more}
use Rattle.words.proofs.ListLaws.{range_is}
use Rattle.files.specs.Files.{same_word}
use Rattle.files.proofs.is_front.Goals as goal

range-more : (n : ℕ) → range_with_len 0 (suc n) ≡ range_with_len 0 n ++ (n ∷ [])
range-more n =
    rw add-one at (range_is 0 (suc n) ∙ rw (← add-one n) (list-more (λ i. i) n) ∙ ap (λ l. l ++ (n ∷ [])) (sym (range_is 0 n)))

all-below : (n : ℕ) (p : ℕ → Bool) → list_all p (range_with_len 0 n) ≡ all_of n p
unfolding all_of
all-below zero p = refl
all-below (suc n) p =
    ap (list_all p) (range-more n) ∙ list_all-append p (range_with_len 0 n) (n ∷ [])
    ∙ ap (λ b. list_all p (range_with_len 0 n) && b) (and-true (p n)) ∙ ap (λ b. b && p n) (all-below n p)

pub returns : goal.returns
returns c =
    let test = same_word c.args.words.now c.args.others.now in
    let n = length c.args.words.now in
    let z : n - 0 ≡ n = omega arith in
    all_from_yields_List test _ _ c.all.result c.all.ensures.ran
    (YieldsList-from_range 0 n _ refl refl) (λ x b q k. search rules)
    ∙ rw z (all-below n test)
