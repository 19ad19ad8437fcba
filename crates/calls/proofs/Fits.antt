-- What row 26 leaves of a chain: only classes of kind 3, with no interface and no ABI entry, or none of kind 3. Assumes nothing.
use Rattle.std.proofs.Common.{◌≡◌, ◌⊎◌, inl, inr, Bool, true, false, not, ◌||◌, true≢false, List, [], ◌∷◌, ℕ, eqb-true, None}
use mathlib.Core.List.{Memᴰ}
use borrow.Author.Tests.{eqb-false, not-false}
use Rattle.words.specs.Lists.{some}
use Rattle.words.proofs.Bools.{by, or-neither}
use Rattle.words.proofs.ListLaws.{by-found}
use Rattle.class_sheet.specs.ClassSheet.{class_kind, is_packaged, class_flags}
use Rattle.linking.specs.Chain.{on_found, chain, is_interface}
use Rattle.linking.specs.Abi.{class_abi}
use Rattle.linking.specs.Packages.{unfit_for_packages, bad_packages}
use Rattle.slots.specs.Slots.{OldRule, PackageRule}
use Rattle.calls.specs.Demand.{BuiltOrArray}

some-none : {A : Type 0} (p : A → Bool) (xs : List A) (x : A) → some p xs ≡ false → Memᴰ x xs → p x ≡ false
unfolding some
some-none p [] x h i = elim i [ ]
some-none p (y ∷ xs) x h (Memᴰ.head e) = rw e (or-neither (p y) (some p xs) h).0
some-none p (y ∷ xs) x h (Memᴰ.tail i) = some-none p xs x (or-neither (p y) (some p xs) h).1 i

module _ (ws text abi labels : List ℕ) (c : ℕ) (fits : bad_packages ws text abi labels c ≡ false) where
  -- a chain of kind 3

  module _ (kind : class_kind ws c ≡ 3) where
    chain-fit : some (unfit_for_packages ws text abi labels) (chain ws c) ≡ false
    unfolding bad_packages
    chain-fit = rw kind at fits

    -- an ABI entry, an interface, another kind
    fit_parts : (d : ℕ) → Memᴰ d (chain ws c)
        → (on_found (class_abi ws text abi labels d) (λ a. true) false ≡ false) × (is_interface (class_flags ws d) ≡ false) × (not (is_packaged ws d) ≡ false)
    unfolding unfit_for_packages
    fit_parts d i =
        let h = some-none (unfit_for_packages ws text abi labels) (chain ws c) d chain-fit i in
        let p = or-neither (on_found (class_abi ws text abi labels d) (λ a. true) false || is_interface (class_flags ws d)) (not (is_packaged ws d)) h in
        let q = or-neither (on_found (class_abi ws text abi labels d) (λ a. true) false) (is_interface (class_flags ws d)) p.0 in
        (q.0, q.1, p.1)

    pub no_interface : (d : ℕ) → Memᴰ d (chain ws c) → is_interface (class_flags ws d) ≡ false
    no_interface d i = (fit_parts d i).1

    pub no_entry : (d : ℕ) → Memᴰ d (chain ws c) → class_abi ws text abi labels d ≡ None
    no_entry d i = by-found (class_abi ws text abi labels d) (λ a q. absurd (true≢false (rw q at (fit_parts d i).0))) (λ q. q)

    all-packaged : PackageRule ws c
    all-packaged d i = eqb-true (class_kind ws d) 3 (not-false (is_packaged ws d) (fit_parts d i).2)

  -- a chain of other kinds

  none-packaged : is_packaged ws c ≡ false → (d : ℕ) → Memᴰ d (chain ws c) → is_packaged ws d ≡ false
  unfolding bad_packages
  none-packaged other d i = some-none (is_packaged ws) (chain ws c) d (rw other at fits) i

  old-kind : (d : ℕ) → is_packaged ws d ≡ false → BuiltOrArray ws d → (class_kind ws d ≡ 0) ⊎ (class_kind ws d ≡ 2)
  old-kind d other (inl zero) = inl zero
  old-kind d other (inr (inl two)) = inr two
  old-kind d other (inr (inr three)) = absurd (eqb-false (class_kind ws d) 3 other three)

  -- so a chain of built and array classes goes by one rule
  pub one_rule : ((d : ℕ) → Memᴰ d (chain ws c) → BuiltOrArray ws d) → OldRule ws c ⊎ PackageRule ws c
  one_rule kinds =
      by (is_packaged ws c) (λ t. inr (all-packaged (eqb-true (class_kind ws c) 3 t)))
      (λ f. inl (λ d i. old-kind d (none-packaged f d i) (kinds d i)))
