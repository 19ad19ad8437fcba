-- A link that meets no clash is the link before ticket 13: the whole outcome. Assumes nothing.
use mathlib.Core.Path.{◌≡◌, refl, ◌∙◌}
use mathlib.Core.Logic.{inl, inr}
use mathlib.Core.Bool.{true, false, false≢true}
use mathlib.Core.List.{List, [], ◌∷◌}
use Prim.Native.Nat.{ℕ}
use lib.ListN.{replicate}
use lib.Dec.{eqb}
use native.Mathlib.Omega.{arith}
use borrow.Author.Tests.{eqb-true, ne_eqb}
use Rattle.words.specs.Lists.{fold}
use Rattle.std.specs.Prelude.{Some}
use Rattle.words.proofs.Bools.{by}
use Rattle.words.proofs.ListLaws.{by-found}
use Rattle.class_sheet.specs.ClassSheet.{text_of, class_flags, class_kind, class_compiler_table, is_packaged, is_built_kind}
use Rattle.abi_sheet.specs.AbiSheet.{abi_text_of}
use Rattle.set_rules.specs.SetRules.{set_refusal}
use Rattle.linking.specs.Signature.{Same, methods_same, by_sheets}
use Rattle.linking.specs.Chain.{is_interface}
use Rattle.linking.specs.Abi.{class_abi, chain_abi, minimum_size}
use Rattle.linking.specs.Vtable.{Entry, empty, Built, parent_entries, fixed_of, distance_of, relayed, inherited_table, build_methods}
use Rattle.linking.specs.Packages.{bad_packages}
use Rattle.linking.specs.Fields.{too_many_words, generated_refusal}
use Rattle.linking.specs.Link.{bad_class, bad_area, built_table, plan_built, generated_table, plan_generated, plan, plan_with, link_by, link_def}
use Rattle.linking.specs.Before.{relay_step, relayed_before, clash, build_before, builds_methods, relays_class, entries_clash, field_row, reaches_table, link_clashes, link_before}
use Rattle.linking.proofs.Plans.{kind-built}
use Rattle.linking.proofs.Comparing.{Compares, bytes_compare}
use Rattle.linking.proofs.Relaying.{step_before, relays_as_before}
use Rattle.linking.proofs.RelayLoop.{relayed_loop}

module _ (same : Same) (abi abis : List ℕ) where
  step_is : (T : List Entry) (e : Entry)
      → step_before (methods_same same) (fixed_of same abi abis) (distance_of same abi abis) T e
      ≡ relay_step same abi abis T e
  unfolding step_before relay_step
  step_is T e = by-found e.method (λ m q. by-found (fixed_of same abi abis m) (λ i r. rw (q, r) refl) (λ r. rw (q, r) refl)) (λ q. rw q refl)

  pub steps_are : (es T : List Entry)
      → fold (step_before (methods_same same) (fixed_of same abi abis) (distance_of same abi abis)) T es
      ≡ fold (relay_step same abi abis) T es
  unfolding fold
  steps_are [] T = refl
  steps_are (e ∷ es) T = rw (step_is T e) (steps_are es (relay_step same abi abis T e))

  -- where no two signatures have one index, the relaying is what it was
  pub relayed_as_before : Compares same → (E : List Entry) → clash (methods_same same) (fixed_of same abi abis) E ≡ false
      → relayed same abi abis E ≡ relayed_before same abi abis E
  unfolding relayed_before
  relayed_as_before compares E c =
      relayed_loop same abi compares abis E
      ∙ relays_as_before (methods_same same) (fixed_of same abi abis) (distance_of same abi abis) E
      (replicate (minimum_size abi abis) empty) c
      ∙ steps_are E (replicate (minimum_size abi abis) empty)

module _ (same : Same) (compares : Compares same) (ws text abi labels area : List ℕ) (c : ℕ) where
  build_as_before : ((a : ℕ) → class_abi ws text abi labels c ≡ Some a
      → clash (methods_same same) (fixed_of same abi (chain_abi ws text abi labels c)) (parent_entries same ws text abi labels area c) ≡ false)
      → build_methods same ws text abi labels area c ≡ build_before same ws text abi labels area c
  unfolding build_methods build_before inherited_table
  build_as_before h =
      by-found (class_abi ws text abi labels c)
      (λ a q. rw (q, relayed_as_before same abi (chain_abi ws text abi labels c) compares (parent_entries same ws text abi labels area c) (h a q)) refl)
      (λ q. rw q refl)

  -- a class that does not build its table does not look at what it would build
  pub plan_as_before : entries_clash same ws text abi labels area c ≡ false
      → plan same ws text abi labels area c ≡ plan_with same ws text abi labels area (build_before same ws text abi labels area c) c
  unfolding plan plan_with plan_built built_table plan_generated generated_table entries_clash relays_class builds_methods is_built_kind
  plan_as_before h =
      by (eqb (class_kind ws c) 0)
      (λ k.
      let n = ne_eqb (class_kind ws c) 3 (λ e. let z = eqb-true (class_kind ws c) 0 k in omega arith) in
      by (is_interface (class_flags ws c))
      (λ f. rw (k, n, f) refl)
      (λ f. rw (k, n, f, build_as_before (λ a q. rw (q, k, f) at h)) refl))
      (λ k.
      by (is_packaged ws c)
      (λ p. rw (k, p) refl)
      (λ p.
      by (eqb (class_kind ws c) 1)
      (λ g.
      by (eqb (class_compiler_table ws c) 0)
      (λ f. rw (k, p, g, f, build_as_before (λ a q. rw (q, k, g, f) at h)) refl)
      (λ f. rw (k, p, g, f) refl))
      (λ g. rw (k, p, g) refl)))

module _ (ws abi area : List ℕ) (c : ℕ) where
  -- rows 8 to 10 come before the table
  row_as_before : (B : Built) → field_row ws abi c ≡ true
      → plan (by_sheets ws abi) ws (text_of ws) abi (abi_text_of abi) area c ≡ plan_with (by_sheets ws abi) ws (text_of ws) abi (abi_text_of abi) area B c
  unfolding plan plan_with plan_built built_table plan_generated generated_table field_row
  row_as_before B h =
      by (is_built_kind (class_kind ws c))
      (λ k.
      by (too_many_words ws (text_of ws) abi (abi_text_of abi) (class_abi ws (text_of ws) abi (abi_text_of abi) c) c)
      (λ f. rw (k, f) refl)
      (λ f.
      by (eqb (class_kind ws c) 1)
      (λ g. by (eqb (generated_refusal ws (text_of ws) c) 0) (λ r. absurd (false≢true (rw (k, f, g, r) at h))) (λ r. absurd (both-kinds k g)))
      (λ g. absurd (false≢true (rw (k, f, g) at h)))))
      (λ k.
      by (eqb (class_kind ws c) 1)
      (λ g. by (eqb (generated_refusal ws (text_of ws) c) 0) (λ r. absurd (false≢true (rw (k, g, r) at h))) (λ r. rw (k, g, r) refl))
      (λ g. absurd (false≢true (rw (k, g) at h))))
    where
      both-kinds : is_built_kind (class_kind ws c) ≡ true → eqb (class_kind ws c) 1 ≡ true → ⊥
      both-kinds k g =
          let b = eqb-true (class_kind ws c) 1 g in elim (kind-built (class_kind ws c) k) [ inl a ↦ omega arith | inr a ↦ omega arith ]

  pub link_as_before : (stubs missing : List ℕ) → link_clashes ws abi area c ≡ false
      → link_def ws abi c area stubs missing ≡ link_before ws abi c area stubs missing
  unfolding link_def link_by link_before link_clashes reaches_table
  link_as_before stubs missing h =
      by (eqb (set_refusal ws abi) 0)
      (λ s.
      by (bad_class ws (text_of ws) c)
      (λ k. rw (s, k) refl)
      (λ k.
      by (bad_area ws area)
      (λ l. rw (s, k, l) refl)
      (λ l.
      by (bad_packages ws (text_of ws) abi (abi_text_of abi) c)
      (λ p. rw (s, k, l, p) refl)
      (λ p.
      by (field_row ws abi c)
      (λ f. rw (row_as_before (build_before (by_sheets ws abi) ws (text_of ws) abi (abi_text_of abi) area c) f) refl)
      (λ f.
      rw (plan_as_before (by_sheets ws abi) (bytes_compare ws (text_of ws) abi (abi_text_of abi)) ws (text_of ws) abi (abi_text_of abi) area c
      (rw (s, k, l, p, f) at h)) refl)))))
      (λ s. rw s refl)
