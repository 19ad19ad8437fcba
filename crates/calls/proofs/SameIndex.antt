-- Without an ABI entry of its own and a compiler table a class has its copies at the index of what they are copies of (`same_index`, specs/Sources.antt): the
-- parent's entries are read so, empty ones come after them, and what is put over them is no copy. Assumes nothing.
use Rattle.std.proofs.Common.{◌≡◌, refl, sym, ap, ◌∙◌, subst, ◌⊎◌, inl, inr, true, List, [], ◌∷◌, ◌++◌, ℕ, zero, suc, ◌-◌, length, get_or, set, ltb, eq-eqb, ltb-true, ltb-false, Some, None}
use lib.ListN.{get_or-eq_default}
use Rattle.words.specs.Lists.{keep}
use Rattle.words.proofs.Bools.{by}
use Rattle.class_sheet.specs.ClassSheet.{class_kind, is_built_kind, is_packaged, is_generated, class_flags, class_compiler_table, class_limit}
use Rattle.linking.specs.Signature.{Same}
use Rattle.linking.specs.Chain.{own_methods, parent_of, is_interface, eligible}
use Rattle.linking.specs.Abi.{class_abi, chain_abi, minimum_size}
use Rattle.linking.specs.Vtable.{Entry, empty, built, parent_entries, extended, inherited_table, build_methods, build_interface_methods}
use Rattle.linking.specs.Packages.{introducing, build_packages}
use Rattle.linking.specs.Link.{built_table, generated_table}
use Rattle.linking.specs.Missing.{table_by}
use Rattle.slots.proofs.ListFacts.{found-same, snoc_at, extended-at}
use Rattle.words.proofs.ListLaws.{not_found}
use Rattle.linking.proofs.Plans.{built-same}
use Rattle.calls.proofs.Sources.{all_get, adds, packages, interface-all, read-parent}

abbrev Placed : List Entry → Type 0
Placed T = (i j : ℕ) → (get_or T i empty).source ≡ Some j → j ≡ i

abbrev pub NoCopy : Entry → Type 0
NoCopy e = e.source ≡ None

-- ---- entries that are no copies, stored or at the end

pub set-either : (T : List Entry) (k i : ℕ) (e : Entry) → (get_or (set T k e) i empty ≡ e) ⊎ (get_or (set T k e) i empty ≡ get_or T i empty)
set-either [] k i e = inr refl
set-either (x ∷ T) zero zero e = inl refl
set-either (x ∷ T) zero (suc i) e = inr refl
set-either (x ∷ T) (suc k) zero e = inr refl
set-either (x ∷ T) (suc k) (suc i) e = set-either T k i e

-- an entry that is no copy, or one of a table whose copies are at their index
placed_one : (T : List Entry) (x e : Entry) (i j : ℕ) → NoCopy e → Placed T → (x ≡ e) ⊎ (x ≡ get_or T i empty) → x.source ≡ Some j → j ≡ i
placed_one T x e i j n p (inl q) s = not_found (sym n ∙ ap (λ (y : Entry). y.source) (sym q) ∙ s)
placed_one T x e i j n p (inr q) s = p i j (ap (λ (y : Entry). y.source) (sym q) ∙ s)

placed-store : (e : Entry) (k : ℕ) (T : List Entry) → NoCopy e → Placed T → Placed (set T k e)
placed-store e k T n p i j s = placed_one T (get_or (set T k e) i empty) e i j n p (set-either T k i e) s

placed-last : (e : Entry) (T : List Entry) → NoCopy e → Placed T → Placed (T ++ (e ∷ []))
placed-last e T n p i j s =
    placed_one T (get_or (T ++ (e ∷ [])) i empty) e i j n p (elim (snoc_at T e i empty) [ inl q ↦ inl q.1 | inr q ↦ inr q ]) s

-- ---- kind by kind

module _ (same : Same) (ws text abi labels area : List ℕ) (c : ℕ) where
  abbrev P : List Entry
  P = parent_entries same ws text abi labels area c

  parent-placed : Placed P
  parent-placed i j s =
      by (ltb i (length P)) (λ t. found-same (sym s ∙ (read-parent same ws text abi labels area c i (ltb-true i (length P) t)).0))
      (λ t. not_found (ap (λ (e : Entry). e.source) (sym (get_or-eq_default P empty (ltb-false i (length P) t))) ∙ s))

  packages-placed : Placed (build_packages same ws text abi labels area c)
  unfolding build_packages
  packages-placed =
      by (ltb class_limit c) (λ t. rw t (λ i j s. not_found s))
      (λ t.
      rw t
      (packages same ws text abi NoCopy Placed placed-store placed-last (introducing same ws text abi labels area (parent_of ws c)) c (λ m i. refl) P
      parent-placed))

  interface-placed : Placed (build_interface_methods ws text c)
  unfolding build_interface_methods
  interface-placed i j s =
      not_found (sym (all_get {S = NoCopy} refl
      (interface-all same ws text abi NoCopy refl (keep (eligible ws text) (own_methods ws c)) (λ m k. refl)) i) ∙ s)

  module _ (none : class_abi ws text abi labels c ≡ None) where
    inherited-placed : Placed (inherited_table same ws text abi labels area c)
    unfolding inherited_table extended
    inherited-placed =
        rw none (λ i j s.
        let n : ℕ = minimum_size abi (chain_abi ws text abi labels c) - length P in
        parent-placed i j (ap (λ (e : Entry). e.source) (sym (extended-at P n i empty)) ∙ s))

    methods-placed : (T : List Entry) → build_methods same ws text abi labels area c ≡ built T → Placed T
    unfolding build_methods
    methods-placed T e =
        adds same ws text abi NoCopy Placed placed-store placed-last (chain_abi ws text abi labels c) (own_methods ws c) (λ m i. refl)
        (inherited_table same ws text abi labels area c) T e inherited-placed

    built-placed : (T : List Entry) → built_table same ws text abi labels area c ≡ built T → Placed T
    unfolding built_table
    built-placed T e =
        by (is_packaged ws c) (λ t. subst Placed (built-same (rw t at e)) packages-placed)
        (λ t.
        let r = rw t at e in
        by (is_interface (class_flags ws c)) (λ u. subst Placed (built-same (rw u at r)) interface-placed) (λ u. methods-placed T (rw u at r)))

    pub table-placed : (is_generated ws c ≡ true → class_compiler_table ws c ≡ 0) → (T : List Entry)
        → table_by same ws text abi labels area c ≡ built T → Placed T
    unfolding table_by generated_table
    table-placed no_table T e =
        by (is_built_kind (class_kind ws c)) (λ t. built-placed T (rw t at e))
        (λ t.
        let r = rw t at e in
        by (is_generated ws c)
        (λ u. methods-placed T (rw (eq-eqb (class_compiler_table ws c) 0 (no_table u)) at (rw u at r)))
        (λ u. subst Placed (built-same (rw u at r)) parent-placed))
