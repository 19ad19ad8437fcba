-- The table of a class of kind 3 is the same by the words that calls left as by the sheet at the list's start, along a chain whose classes list their own
-- methods as before (`linking/proofs/RenumberedPackages`). Assumes nothing.
use Rattle.std.proofs.Common.{◌≡◌, sym, List, ℕ, ◌≤◌, arith, length, get_or, eqb, ltb}
use mathlib.Core.List.{Memᴰ}
use Rattle.words.proofs.Bools.{by}
use Rattle.words.proofs.ListLaws.{by-found}
use Rattle.class_sheet.specs.ClassSheet.{class_count, method_count, text_of}
use Rattle.set_rules.specs.Valid.{Valid}
use Rattle.linking.specs.Chain.{parent_of, chain}
use Rattle.linking.specs.Packages.{topmost}
use Rattle.linking.proofs.ChainLaws.{parent-within, chain-within}
use Rattle.linking.proofs.Overriding.{chain-of-chain}
use Rattle.linking.proofs.Pairs.{Both, neither, none}
use Rattle.linking.proofs.Renumbered.{Tables, read_same}
use Rattle.linking.proofs.RenumberedPackages.{last_of, over-same}
use Rattle.linking.proofs.Rebuilt.{Unmoved}
use Rattle.slots.specs.Made.{inherited_from, introduced_from, packages_from}
use Rattle.slots.proofs.ChainFacts.{chain-here, chain-up}
use Rattle.calls.proofs.Like.{Alike}
use Rattle.calls.proofs.View.{parent-same, chain_same}
use Rattle.calls.proofs.Build.{Own, own-table, kept, class-kept, chain-kept, read-words-kept}

module _ (old new : List ℕ) (valid : Valid old) (like : Alike old new) (abi labels : List ℕ) (tables : ℕ → List ℕ) where
  -- the introducing methods of class p's slots
  module _ (p : ℕ) (a : p ≤ class_count old) (still : (d : ℕ) → Memᴰ d (chain old p) → Unmoved old new d) where
    introduced-kept : (i : ℕ)
        → Both (Own (method_count old)) (introduced_from old (text_of old) abi labels tables p i) (introduced_from new (text_of new) abi labels tables p i)
    unfolding introduced_from
    introduced-kept i =
        rw (chain_same old new valid like p a)
        (by-found (topmost (λ d. ltb i (length (tables d))) (chain old p))
        (λ d e.
        let r = (last_of (λ d. ltb i (length (tables d))) (chain old p) d e).0 in
        let w = chain-within old p d r in
        let h = chain-kept old new valid like abi labels d (omega arith)
        (λ x j. still x (chain-of-chain old p p (omega arith) r j)) in
        rw e
        (read_same (kept old new valid like abi labels) d h i (get_or (tables d) i 0)).method)
        (λ e. rw e neither))

  module _ (c : ℕ) (s : 1 ≤ c) (a : c ≤ class_count old) (still : (d : ℕ) → Memᴰ d (chain old c) → Unmoved old new d) where
    above : (d : ℕ) → Memᴰ d (chain old (parent_of old c)) → Unmoved old new d
    above d i = still d (chain-up old c s i)

    parent_below : parent_of old c ≤ class_count old
    parent_below = let w = parent-within old c in omega arith

    pub inherited-kept : Tables (Own (method_count old))
        (inherited_from old (text_of old) abi labels tables c) (inherited_from new (text_of new) abi labels tables c)
    unfolding inherited_from
    inherited-kept =
        rw (parent-same old new valid like c s a)
        (by (eqb (parent_of old c) 0) (λ t. rw t none)
        (λ t. rw t (read-words-kept old new valid like abi labels (parent_of old c) parent_below above (tables (parent_of old c)))))

    pub packages-same : packages_from old (text_of old) abi labels tables c ≡ packages_from new (text_of new) abi labels tables c
    unfolding packages_from
    packages-same =
        let p : ℕ = parent_of old c in
        own-table {n = method_count old}
        (rw (parent-same old new valid like c s a)
        (over-same (kept old new valid like abi labels)
        (λ m k n j r q. rw (r.same, q.same)) (introduced_from old (text_of old) abi labels tables p) (introduced_from new (text_of new) abi labels tables p)
        (introduced-kept p parent_below above) c (class-kept old new valid like abi labels c s a (still c (chain-here old c s)))
        (sym (parent-same old new valid like c s a)) (chain-kept old new valid like abi labels p parent_below above) inherited-kept))
