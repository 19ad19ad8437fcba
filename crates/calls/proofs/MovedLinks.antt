-- Links by the linker and by the one before ticket 13 on one memory. A link that row 11 refuses, and the one before did not, is of a class that clashes and
-- redeclares a signature that gave way; a link that row 12 refuses was refused by it. Redeclaring a signature that stands away from its fixed index, where
-- another one does, is refused by 11 or 12. No signature is lost in a table. Assumes nothing.
use mathlib.Core.Path.{◌≡◌, refl, sym, ap, ◌∙◌}
use mathlib.Core.Logic.{◌⊎◌, inl, inr, ◌≢◌}
use mathlib.Core.Bool.{Bool, true, false, not, ◌&&◌, ◌||◌, true≢false, false≢true}
use mathlib.Core.List.{List, [], ◌∷◌, ◌++◌, Memᴰ}
use Prim.Native.Nat.{ℕ, ◌-◌, ◌≤◌, ◌<◌}
use native.Mathlib.Omega.{arith}
use lib.ListN.{length, get_or, replicate, length-append, length-replicate, get_or-append}
use lib.Dec.{eqb, ltb}
use borrow.Author.Tests.{ne_eqb, eqb-true, not-true}
use Rattle.words.specs.Lists.{some}
use Rattle.std.specs.Prelude.{Some, None}
use Rattle.words.proofs.Bools.{by, and_both}
use Rattle.words.proofs.ListLaws.{by-found}
use Rattle.class_sheet.specs.ClassSheet.{text_of, class_flags, class_kind, class_compiler_table, is_built_kind, is_packaged, is_generated}
use Rattle.abi_sheet.specs.AbiSheet.{abi_text_of}
use Rattle.set_rules.specs.SetRules.{set_refusal}
use Rattle.linking.specs.Signature.{of_method, methods_same, by_sheets}
use Rattle.linking.specs.Chain.{own_methods, is_interface, eligible}
use Rattle.linking.specs.Abi.{class_abi, chain_abi, minimum_size}
use Rattle.linking.specs.Vtable.{Entry, empty, Built, built, refused, parent_entries, is_of, occurs, entry_is_other, fixed_of, staying_of, relayed, extended, inherited_table, add_methods, build_methods}
use Rattle.linking.specs.Fields.{too_many_words, generated_refusal, generated_indices, number_fields, added_fields}
use Rattle.linking.specs.Packages.{bad_packages}
use Rattle.linking.specs.Counts.{missing_short}
use Rattle.linking.specs.Missing.{table_by}
use Rattle.linking.specs.Link.{bad_class, bad_area, Plan, Planned, planned, on_table, on_plan, within_slots, new_fields_of, generated_methods, built_table, generated_table, plan, plan_with, lists_full, no_room, set_short, finish_link, refused_link, LinkOutcome, link_def, link_by}
use Rattle.linking.specs.Before.{relayed_before, build_before, builds_methods, relays_class, entries_clash, field_row, reaches_table, link_clashes, link_before, GaveWay, Moved, Displaced, Stands}
use Rattle.linking.proofs.Plans.{plans}
use Rattle.linking.proofs.Comparing.{Compares, bytes_compare}
use Rattle.linking.proofs.Before.{link_as_before}
use Rattle.slots.proofs.EntryFacts.{known-below}
use Rattle.calls.specs.OneSlot.{Refused}
use Rattle.matching.proofs.Stays.{plan-is}
use Rattle.slots.proofs.MovedRows.{Turned, eleven-moved, twelve-before, before-rows, relayed-stands, moved-refused, displaced_refused}

abbrev bytes : (ws abi : List ℕ) → Compares (by_sheets ws abi)
bytes ws abi = bytes_compare ws (text_of ws) abi (abi_text_of abi)

-- ---- the table of a class that builds one

module _ (ws : List ℕ) (c : ℕ) (builds : builds_methods ws c ≡ true) where
  -- built and no interface, or generated without a compiler table
  pub kind-cases : {X : Type 0}
      → (is_built_kind (class_kind ws c) ≡ true → is_packaged ws c ≡ false → is_interface (class_flags ws c) ≡ false → X)
      → (is_built_kind (class_kind ws c) ≡ false → is_generated ws c ≡ true → eqb (class_compiler_table ws c) 0 ≡ true → X) → X
  unfolding builds_methods is_built_kind
  kind-cases zero-kind one-kind =
      by (eqb (class_kind ws c) 0)
      (λ k.
      let p = ne_eqb (class_kind ws c) 3 (λ z. let y = eqb-true (class_kind ws c) 0 k in omega arith) in
      let o = ne_eqb (class_kind ws c) 1 (λ z. let y = eqb-true (class_kind ws c) 0 k in omega arith) in
      by (is_interface (class_flags ws c)) (λ i. absurd (false≢true (rw (k, o, i) at builds))) (λ i. zero-kind (rw k refl) p i))
      (λ k.
      by (eqb (class_kind ws c) 1)
      (λ l.
      let p = ne_eqb (class_kind ws c) 3 (λ z. let y = eqb-true (class_kind ws c) 1 l in omega arith) in
      one-kind (rw (k, p) refl) l (rw (k, l) at builds))
      (λ l. absurd (false≢true (rw (k, l) at builds))))

  module _ (abi area : List ℕ) where
    table_is : table_by (by_sheets ws abi) ws (text_of ws) abi (abi_text_of abi) area c
        ≡ build_methods (by_sheets ws abi) ws (text_of ws) abi (abi_text_of abi) area c
    unfolding table_by built_table generated_table
    table_is = kind-cases (λ k p i. rw (k, p, i) refl) (λ k g t. rw (k, g, t) refl)

    -- rows 8 to 10 aside, the plan is the table, within the slots
    plan-table : field_row ws abi c ≡ false
        → (f : List Entry → Plan)
        × ((B : Built) → plan_with (by_sheets ws abi) ws (text_of ws) abi (abi_text_of abi) area B c ≡ on_table B (λ T. within_slots (f T)))
    unfolding plan_with field_row
    plan-table h =
        kind-cases
        (λ k p i.
        by (too_many_words ws (text_of ws) abi (abi_text_of abi) (class_abi ws (text_of ws) abi (abi_text_of abi) c) c)
        (λ t. absurd (true≢false (rw (k, t) at h)))
        (λ t. (
          (λ T. record {
            table = T;
            indices = (number_fields ws (text_of ws) abi (abi_text_of abi) (class_abi ws (text_of ws) abi (abi_text_of abi) c) c).indices;
            added = [];
            new_fields = new_fields_of abi (abi_text_of abi)
                (added_fields ws (text_of ws) abi (abi_text_of abi) (class_abi ws (text_of ws) abi (abi_text_of abi) c) c);
          }),
          λ B. rw (k, p, i, t) refl,
        )))
        (λ k g i.
        by (eqb (generated_refusal ws (text_of ws) c) 0)
        (λ t. (
          (λ T. record {
            table = T;
            indices = generated_indices ws (text_of ws) c;
            added = generated_methods (by_sheets ws abi) ws (text_of ws) abi (abi_text_of abi) area c;
            new_fields = [];
          }),
          λ B. rw (k, g, i, t) refl,
        ))
        (λ t. absurd (true≢false (rw (k, g, t) at h))))

module _ (ws abi area : List ℕ) (c : ℕ) (stubs missing : List ℕ) where
  -- the table that the linker makes, and that of the one before
  abbrev now : Built
  now = build_methods (by_sheets ws abi) ws (text_of ws) abi (abi_text_of abi) area c

  abbrev old : Built
  old = build_before (by_sheets ws abi) ws (text_of ws) abi (abi_text_of abi) area c

  abbrev with_table : Built → Planned
  with_table B = plan_with (by_sheets ws abi) ws (text_of ws) abi (abi_text_of abi) area B c

  abbrev outcome_of : Planned → LinkOutcome
  outcome_of P = on_plan P (finish_link ws abi c area stubs missing) (λ n. refused_link n ws area missing)

  abbrev refusal_of : LinkOutcome → ℕ
  refusal_of o = o.outcome.refusal

  -- a row that neither the room nor the sections give
  neither : {X : Type 0} {n r : ℕ} → n ≡ r → (r ≡ 11) ⊎ (r ≡ 12) → n ≢ 11 → n ≢ 12 → X
  neither z (inl x) a b = absurd (a (z ∙ x))
  neither z (inr x) a b = absurd (b (z ∙ x))

  finish-row : {X : Type 0} (p : Plan) (r : ℕ) → (r ≡ 11) ⊎ (r ≡ 12) → refusal_of (finish_link ws abi c area stubs missing p) ≡ r → X
  unfolding finish_link
  finish-row p r h e =
      by (lists_full ws c p)
      (λ t. let z : 14 ≡ r = rw t at e in neither z h (λ x. omega arith) (λ x. omega arith))
      (λ t.
      by (no_room area stubs (length p.table) || set_short ws c p || missing_short ws missing)
      (λ u. let z : 15 ≡ r = rw (t, u) at e in neither z h (λ x. omega arith) (λ x. omega arith))
      (λ u. let z : 0 ≡ r = rw (t, u) at e in neither z h (λ x. omega arith) (λ x. omega arith)))

  within-row : {X : Type 0} (p : Plan) (r : ℕ) → (r ≡ 11) ⊎ (r ≡ 12) → refusal_of (outcome_of (within_slots p)) ≡ r → X
  unfolding within_slots
  within-row p r h e =
      by (ltb 1024 (length p.table))
      (λ t. let z : 13 ≡ r = rw t at e in neither z h (λ x. omega arith) (λ x. omega arith))
      (λ t. finish-row p r h (rw t at e))

  -- rows 11 and 12 are the table's
  table-row : (B : Built) (f : List Entry → Plan) (r : ℕ) → (r ≡ 11) ⊎ (r ≡ 12) → refusal_of (outcome_of (on_table B (λ T. within_slots (f T)))) ≡ r
      → B ≡ refused r
  table-row (built T) f r h e = within-row (f T) r h e
  table-row (refused n) f r h e = ap refused e

  -- ---- a link that comes to its table

  module _ (reaches : reaches_table ws abi area c ≡ true) (builds : builds_methods ws c ≡ true) where
    record Passed : Type 0 where
      valid : eqb (set_refusal ws abi) 0 ≡ true
      class : bad_class ws (text_of ws) c ≡ false
      fit : bad_area ws area ≡ false
      packages : bad_packages ws (text_of ws) abi (abi_text_of abi) c ≡ false
      fields : field_row ws abi c ≡ false

    passed : Passed
    unfolding reaches_table
    passed =
        let bad : Bool = bad_packages ws (text_of ws) abi (abi_text_of abi) c in
        let a = and_both (eqb (set_refusal ws abi) 0)
        (not (bad_class ws (text_of ws) c) && (not (bad_area ws area) && (not bad && not (field_row ws abi c)))) reaches in
        let b = and_both (not (bad_class ws (text_of ws) c)) (not (bad_area ws area) && (not bad && not (field_row ws abi c))) a.1 in
        let d = and_both (not (bad_area ws area)) (not bad && not (field_row ws abi c)) b.1 in
        let p = and_both (not bad) (not (field_row ws abi c)) d.1 in
        record {
          valid = a.0;
          class = not-true (bad_class ws (text_of ws) c) b.0;
          fit = not-true (bad_area ws area) d.0;
          packages = not-true bad p.0;
          fields = not-true (field_row ws abi c) p.1;
        }

    link-is : link_def ws abi c area stubs missing ≡ outcome_of (with_table now)
    unfolding link_def link_by
    link-is = let p = passed in rw (p.valid, p.class, p.fit, p.packages, plan-is (by_sheets ws abi) ws (text_of ws) abi (abi_text_of abi) area c) refl

    before-is : link_before ws abi c area stubs missing ≡ outcome_of (with_table old)
    unfolding link_before
    before-is = let p = passed in rw (p.valid, p.class, p.fit, p.packages) refl

    -- row 11 or 12 of the link is the table's
    built-row : (r : ℕ) → (r ≡ 11) ⊎ (r ≡ 12) → refusal_of (link_def ws abi c area stubs missing) ≡ r → now ≡ refused r
    built-row r h e =
        let t = plan-table ws c builds abi area passed.fields in
        table-row now t.0 r h (sym (ap refusal_of (link-is ∙ ap outcome_of (t.1 now))) ∙ e)

    -- and the table's the link's
    refused-row : (r : ℕ) → now ≡ refused r → refusal_of (link_def ws abi c area stubs missing) ≡ r
    refused-row r e =
        let t = plan-table ws c builds abi area passed.fields in
        ap refusal_of (link-is ∙ ap outcome_of (t.1 now))
        ∙ ap (λ (B : Built). refusal_of (outcome_of (on_table B (λ T. within_slots (t.0 T))))) e

    before-row : (r : ℕ) → old ≡ refused r → refusal_of (link_before ws abi c area stubs missing) ≡ r
    before-row r e =
        let t = plan-table ws c builds abi area passed.fields in
        ap refusal_of (before-is ∙ ap outcome_of (t.1 old))
        ∙ ap (λ (B : Built). refusal_of (outcome_of (on_table B (λ T. within_slots (t.0 T))))) e

    -- either row
    either-row : (m : ℕ)
        → Turned (by_sheets ws abi) (bytes ws abi) ws (text_of ws) abi (chain_abi ws (text_of ws) abi (abi_text_of abi) c) m (own_methods ws c)
        (inherited_table (by_sheets ws abi) ws (text_of ws) abi (abi_text_of abi) area c)
        → Refused ws abi area c stubs missing m
    unfolding build_methods
    either-row m (inl e) = inl (refused-row 11 e)
    either-row m (inr e) =
        inr (refused-row 12 e.0, record { earlier = e.1.earlier; later = e.1.later; split = e.1.split; refuses = e.1.refuses })

-- ---- a class that relays

module _ (ws abi area : List ℕ) (c : ℕ) where
  abbrev abis : List ℕ
  abis = chain_abi ws (text_of ws) abi (abi_text_of abi) c

  abbrev entries : List Entry
  entries = parent_entries (by_sheets ws abi) ws (text_of ws) abi (abi_text_of abi) area c

  module _ (relaying : relays_class ws (text_of ws) abi (abi_text_of abi) c ≡ true) where
    own-entry : (a : ℕ) × (class_abi ws (text_of ws) abi (abi_text_of abi) c ≡ Some a)
    unfolding relays_class
    own-entry =
        by-found (class_abi ws (text_of ws) abi (abi_text_of abi) c) (λ a q. (a, q))
        (λ q. absurd (false≢true (rw q at relaying)))

    relays_builds : builds_methods ws c ≡ true
    unfolding relays_class
    relays_builds = let e = own-entry in rw e.1 at relaying

    inherited-is : inherited_table (by_sheets ws abi) ws (text_of ws) abi (abi_text_of abi) area c ≡ relayed (by_sheets ws abi) abi abis entries
    unfolding inherited_table
    inherited-is = rw own-entry.1 refl

    build-is : build_methods (by_sheets ws abi) ws (text_of ws) abi (abi_text_of abi) area c
        ≡ add_methods (by_sheets ws abi) ws (text_of ws) abi abis (own_methods ws c) (relayed (by_sheets ws abi) abi abis entries)
    unfolding build_methods
    build-is = rw inherited-is refl

    build-before-is : build_before (by_sheets ws abi) ws (text_of ws) abi (abi_text_of abi) area c
        ≡ add_methods (by_sheets ws abi) ws (text_of ws) abi abis (own_methods ws c) (relayed_before (by_sheets ws abi) abi abis entries)
    unfolding build_before
    build-before-is = rw own-entry.1 refl

    -- "a close method vanished": none does
    pub none_lost : (p : Plan) → plan (by_sheets ws abi) ws (text_of ws) abi (abi_text_of abi) area c ≡ planned p → (m : ℕ)
        → occurs (methods_same (by_sheets ws abi)) m entries ≡ true → Stands (by_sheets ws abi) ws entries p.table (own_methods ws c) m
    none_lost p e m o =
        relayed-stands (by_sheets ws abi) (bytes ws abi) ws (text_of ws) abi abis entries (own_methods ws c) p.table m o
        (sym build-is ∙ sym (table_is ws c relays_builds abi area) ∙ (plans (by_sheets ws abi) ws (text_of ws) abi (abi_text_of abi) area c p e).table)

-- ---- the rows of a whole link

module _ (ws abi area : List ℕ) (c : ℕ) (stubs missing : List ℕ) where
  module _ (clashes : link_clashes ws abi area c ≡ true) where
    clash-parts : (reaches_table ws abi area c ≡ true) × (relays_class ws (text_of ws) abi (abi_text_of abi) c ≡ true)
    unfolding link_clashes entries_clash
    clash-parts =
        let a = and_both (reaches_table ws abi area c) (entries_clash (by_sheets ws abi) ws (text_of ws) abi (abi_text_of abi) area c) clashes in
        (a.0, (and_both (relays_class ws (text_of ws) abi (abi_text_of abi) c) _ a.1).0)

  pub eleven-is-moved : (link_def ws abi c area stubs missing).outcome.refusal ≡ 11 → (link_before ws abi c area stubs missing).outcome.refusal ≢ 11
      → Moved ws abi area c
  eleven-is-moved e n =
      by (link_clashes ws abi area c)
      (λ t.
      let q = clash-parts t in
      let m =
      eleven-moved (by_sheets ws abi) (bytes ws abi) ws (text_of ws) abi (abis ws abi area c) (entries ws abi area c) (own_methods ws c)
      (sym (build-is ws abi area c q.1)
      ∙ built-row ws abi area c stubs missing q.0 (relays_builds ws abi area c q.1) 11 (inl refl) e) in
      record {
        clashes = t;
        method = m.0;
        refuses = rw (inherited-is ws abi area c q.1) m.1.0;
        it_is_eligible = m.1.1.0;
        gave_way = m.1.1.1;
        before = rw (build-before-is ws abi area c q.1)
            (before-rows (by_sheets ws abi) (bytes ws abi) ws (text_of ws) abi (abis ws abi area c) (entries ws abi area c) (own_methods ws c));
      })
      (λ t. absurd (n (sym (ap (λ (o : LinkOutcome). o.outcome.refusal) (link_as_before ws abi area c stubs missing t)) ∙ e)))

  pub twelve-is-old : (link_def ws abi c area stubs missing).outcome.refusal ≡ 12 → (link_before ws abi c area stubs missing).outcome.refusal ≡ 12
  twelve-is-old e =
      by (link_clashes ws abi area c)
      (λ t.
      let q = clash-parts t in
      before-row ws abi area c stubs missing q.0 (relays_builds ws abi area c q.1) 12
      (build-before-is ws abi area c q.1
      ∙ twelve-before (by_sheets ws abi) (bytes ws abi) ws (text_of ws) abi (abis ws abi area c) (entries ws abi area c) (own_methods ws c)
      (sym (build-is ws abi area c q.1)
      ∙ built-row ws abi area c stubs missing q.0 (relays_builds ws abi area c q.1) 12 (inr refl) e)))
      (λ t. sym (ap (λ (o : LinkOutcome). o.outcome.refusal) (link_as_before ws abi area c stubs missing t)) ∙ e)

  -- such a class that redeclares a signature that gave way
  pub redeclared-refused : link_clashes ws abi area c ≡ true → (m : ℕ) → Memᴰ m (own_methods ws c) → eligible ws (text_of ws) m ≡ true
      → GaveWay (methods_same (by_sheets ws abi)) (fixed_of (by_sheets ws abi) abi (abis ws abi area c))
      (staying_of (by_sheets ws abi) abi (abis ws abi area c) (entries ws abi area c)) (entries ws abi area c) m
      → Refused ws abi area c stubs missing m
  redeclared-refused t m i e g =
      let q = clash-parts t in
      either-row ws abi area c stubs missing q.0 (relays_builds ws abi area c q.1) m
      (rw (inherited-is ws abi area c q.1)
      (moved-refused (by_sheets ws abi) (bytes ws abi) ws (text_of ws) abi (abis ws abi area c) (entries ws abi area c) (own_methods ws c) m i e g))

  -- ---- a descendant without an entry of its own: its parent's entries, extended

  occurs-left : (m : ℕ) (E F : List Entry) → occurs (methods_same (by_sheets ws abi)) m E ≡ true
      → occurs (methods_same (by_sheets ws abi)) m (E ++ F) ≡ true
  unfolding occurs some
  occurs-left m [] F h = absurd (false≢true h)
  occurs-left m (e ∷ E) F h =
      by (is_of (methods_same (by_sheets ws abi)) m e) (λ t. rw t refl) (λ t. rw t (occurs-left m E F (rw t at h)))

  other-inside : (m i : ℕ) (E : List Entry)
      → entry_is_other (by_sheets ws abi) (of_method m) (get_or E i empty) ≡ true → i < length E
  unfolding entry_is_other
  other-inside m i E h =
      by-found (get_or E i empty).method (λ k q. known-below E i k q) (λ q. absurd (false≢true (rw q at h)))

  pub descendant-refused : reaches_table ws abi area c ≡ true → builds_methods ws c ≡ true → class_abi ws (text_of ws) abi (abi_text_of abi) c ≡ None
      → (m : ℕ) → Memᴰ m (own_methods ws c) → eligible ws (text_of ws) m ≡ true
      → Displaced (by_sheets ws abi) abi (abis ws abi area c) (entries ws abi area c) m
      → Refused ws abi area c stubs missing m
  unfolding inherited_table extended
  descendant-refused r b none m i e d =
      let E : List Entry = entries ws abi area c in
      let n : ℕ = minimum_size abi (abis ws abi area c) in
      let F : List Entry = replicate (n - length E) empty in
      let long : n ≤ length (E ++ F) = omega (arith, length-append E F, length-replicate (n - length E) empty) in
      either-row ws abi area c stubs missing r b m
      (rw none
      (displaced_refused (by_sheets ws abi) (bytes ws abi) ws (text_of ws) abi (abis ws abi area c) (own_methods ws c) (E ++ F) m i e long
      (record {
        index = d.index;
        fixed_at = d.fixed_at;
        shown = occurs-left m E F d.shown;
        other = rw (get_or-append E F empty d.index (other-inside m d.index E d.other)) d.other;
      })))
