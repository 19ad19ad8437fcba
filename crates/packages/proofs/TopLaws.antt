-- The introducing methods, as the code lays them: class by class up the chain, the topmost last. Assumes nothing.
use mathlib.Core.Path.{◌≡◌, sym, ap, ◌∙◌}
use mathlib.Core.Bool.{false}
use mathlib.Core.List.{List}
use Prim.Native.Nat.{ℕ, ◌+◌, ◌≤◌, ◌<◌, min}
use native.Mathlib.Omega.{arith}
use lib.ListN.{length, get_or, replicate}
use lib.Dec.{eqb, ltb}
use borrow.Author.Tests.{eq-eqb, ne_eqb, ltb-true, ltb-false}
use Rattle.words.specs.Folds.{stores}
use Rattle.std.specs.Prelude.{None}
use Rattle.words.proofs.Bools.{by}
use Rattle.words.proofs.ListLaws.{by-found, length-list-from, get_d_list_from}
use Rattle.words.proofs.Lists.{zeros}
use Rattle.words.proofs.FoldLaws.{stores_at}
use Rattle.class_sheet.specs.ClassSheet.{class_table_place, class_slot_count}
use Rattle.linking.specs.Signature.{Same}
use Rattle.linking.specs.Chain.{parent_of, chain}
use Rattle.linking.specs.Vtable.{Entry, empty, read_slot, table_entries}
use Rattle.linking.specs.Packages.{topmost, table_has, introducing}
use Rattle.linking.proofs.ChainLaws.{chain-none, chain_more}
use Rattle.reading.specs.Arrays.{method_of, entry_at, entries_of}
use Rattle.reading.proofs.ArrayLaws.{length-entries, entry_found, no_method}
use Rattle.reading.proofs.MarkLaws.{stores-rest}
use Rattle.packages.specs.Marks.{top_of, Laid, LaidUp, Tops}

-- ---- one class

module _ (same : Same) (ws text abi labels area : List ℕ) (d : ℕ) where
  pub laid-unlinked : {p : ℕ} (tops : List ℕ) → p ≡ class_table_place ws d → p ≡ 0 → Laid same ws text abi labels area d tops tops
  unfolding table_has
  laid-unlinked tops e z i h = rw (eq-eqb (class_table_place ws d) 0 (sym e ∙ z))

  count_is : (ps qs : List ℕ) (n : ℕ) → entries_of ps qs n ≡ table_entries same ws text abi labels area d → n ≡ min (class_slot_count ws d) 1024
  unfolding table_entries
  count_is ps qs n e =
      sym (length-entries ps qs n) ∙ ap length e ∙ length-list-from (read_slot same ws text abi labels area d) 0 (min (class_slot_count ws d) 1024)

  slot_is_lem : (ps qs : List ℕ) (n i : ℕ) → entries_of ps qs n ≡ table_entries same ws text abi labels area d → i < n
      → method_of (get_or qs i 0) ≡ (read_slot same ws text abi labels area d i).method
  unfolding table_entries entry_at
  slot_is_lem ps qs n i e h =
      let k = count_is ps qs n e in
      let z : 0 + i ≡ i = omega arith in
      let a : entry_at ps qs i ≡ read_slot same ws text abi labels area d i =
      sym (entry_found ps qs n i empty h) ∙ ap (λ (l : List Entry). get_or l i empty) e
      ∙ get_d_list_from (read_slot same ws text abi labels area d) 0 (min (class_slot_count ws d) 1024) i empty (omega arith)
      ∙ ap (read_slot same ws text abi labels area d) z in
      ap (λ (x : Entry). x.method) a

  pub laid-linked : {p : ℕ} (ps qs tops : List ℕ) (n : ℕ) {new : List ℕ} → p ≡ class_table_place ws d → (p ≡ 0 → ⊥)
      → entries_of ps qs n ≡ table_entries same ws text abi labels area d → n ≤ 1024 → length tops ≡ 1024
      → new ≡ stores n (λ j. get_or qs j 0) tops → Laid same ws text abi labels area d tops new
  unfolding table_has
  laid-linked ps qs tops n e z t l k s x h =
      let m = count_is ps qs n t in
      let u : eqb (class_table_place ws d) 0 ≡ false = ne_eqb (class_table_place ws d) 0 (λ y. z (e ∙ y)) in
      by (ltb x (min (class_slot_count ws d) 1024))
      (λ v.
      let b = ltb-true x (min (class_slot_count ws d) 1024) v in
      rw (u, v, s, stores_at n (λ j. get_or qs j 0) tops x (omega arith) (omega arith)) (slot_is_lem ps qs n x t (omega arith)))
      (λ v.
      let b = ltb-false x (min (class_slot_count ws d) 1024) v in
      rw (u, v, s, stores-rest n (λ j. get_or qs j 0) tops x (omega arith)))

-- ---- up the chain

module _ (same : Same) (ws text abi labels area : List ℕ) where
  pub laid_none : (d : ℕ) (tops : List ℕ) → d ≡ 0 → LaidUp same ws text abi labels area d tops tops
  unfolding topmost
  laid_none d tops e i h = rw (chain-none ws d e)

  pub laid-up : (d : ℕ) {q : ℕ} (tops mid new : List ℕ) → 0 < d → q ≡ parent_of ws d → Laid same ws text abi labels area d tops mid
      → LaidUp same ws text abi labels area q mid new → LaidUp same ws text abi labels area d tops new
  unfolding topmost top_of
  laid-up d tops mid new h e laid up i l =
      by-found (topmost (table_has ws i) (chain ws (parent_of ws d)))
      (λ k q. rw (chain_more ws d h, q) (rw (e, q) at (up i l)))
      (λ q.
      (rw (e, q) at (up i l))
      ∙ (laid i l ∙ rw (chain_more ws d h, q) (by (table_has ws i d) (λ t. rw t) (λ t. rw t))))

  blank_top : (n i : ℕ) → top_of (replicate n 0) i ≡ None
  unfolding top_of
  blank_top n i = ap method_of (zeros n i) ∙ no_method

  pub laid_tops : (p : ℕ) (tops new : List ℕ) → tops ≡ replicate 1024 0 → LaidUp same ws text abi labels area p tops new
      → Tops same ws text abi labels area p new
  unfolding introducing
  laid_tops p tops new e laid i h =
      laid i h
      ∙ rw (e, blank_top 1024 i) (by-found (topmost (table_has ws i) (chain ws p)) (λ d q. rw q) (λ q. rw q))
