-- A class whose method list a link leaves where it was, and all of whose ancestors' lists are left, has the same table built anew in the words after that
-- link: methods of one number are alike in both (`Renumbered`). Assumes nothing.
use mathlib.Core.Path.{◌≡◌, refl, sym, ap, ◌∙◌}
use mathlib.Core.Logic.{◌≢◌, ◌⊎◌, inl, inr, ⊎_elim}
use mathlib.Core.Bool.{true, false}
use mathlib.Core.List.Memᴰ
use mathlib.Core.List.{List, ◌∷◌, Memᴰ}
use Prim.Native.Nat.{ℕ, zero, suc, ◌+◌, ◌-◌, ◌≤◌, ◌<◌, min}
use native.Mathlib.Omega.{arith}
use lib.ListN.{length}
use lib.Dec.{eqb, leb, ltb}
use borrow.Author.Tests.{eqb-true, eqb-false, leb-true, ltb-true, lt-leb, le-ltb}
use Rattle.words.specs.Lists.{numbers, find, cons_found}
use Rattle.words.proofs.Bools.{by, and_both}
use Rattle.words.proofs.ListLaws.{by-found, find-within, numbers-within}
use Rattle.words.proofs.Ext.{list_ext, find-ext, founds_ext}
use Rattle.class_sheet.specs.ClassSheet.{class_width, parent_word, flags_word, kind_word, first_method_word, method_count_word, first_interface_word, interface_count_word, link_state_word, compiler_table_word, compiler_slots_word, class_count, method_count, text_of, class_word, class_flags, class_kind, class_first_method, class_method_count, class_first_interface, class_interface_count, class_compiler_table, class_compiler_slots, interface_word, compiler_word, method_limit, interface_limit, is_packaged, is_built_kind}
use Rattle.abi_sheet.specs.AbiSheet.{abi_text_of}
use Rattle.set_rules.specs.Valid.{IsClass, Valid}
use Rattle.linking.specs.Signature.{Same, Place, by_bytes, by_sheets}
use Rattle.linking.specs.Chain.{list_count, own_methods, own_interfaces, parent_of, chain_of, chain, is_interface}
use Rattle.linking.specs.Abi.{class_abi}
use Rattle.linking.specs.Vtable.{parent_entries, build_methods}
use Rattle.linking.specs.Compiler.{Taken, none_taken, place_of, holds, owner_state, native_view, compiler_targets, signature_sources, added_methods, name_of, flags_of, target_of, class_methods, compiler_table}
use Rattle.linking.specs.Packages.{build_packages}
use Rattle.linking.specs.Link.{built_table, generated_table}
use Rattle.linking.specs.Missing.{table_by}
use Rattle.linking.proofs.ChainLaws.{parent-within, chain-within, chain_more}
use Rattle.linking.proofs.LinkedBack.{Untouched, early}
use Rattle.linking.proofs.LinkRead.{After, record_name, record_descriptor, class-name}
use Rattle.linking.proofs.Pairs.{Pairs, pairs-length, pairs-append, pairs-inside, pairs-from, pairs_less, pairs-same}
use Rattle.linking.proofs.Renumbered.{Tables, tables_less, SameBuilt, both-built, built_less, SameParent, Alike, Keeps, SameParts, bytes_keep, SameClass, SameChain, parents-same, interface-same, build-same}
use Rattle.linking.proofs.Overriding.{chain-of-chain}
use Rattle.linking.proofs.RenumberedPackages.{Held, packages-same}
use Rattle.linking.proofs.RenumberedCompiler.{native_same, SameTaken, added-from, Signed, of-sheet, tables-same}

-- the class's method list lies where it did
pub record Unmoved (ws ws' : List ℕ) (d : ℕ) : Type 0 where
  pub first : class_first_method ws' d ≡ class_first_method ws d
  pub many : class_method_count ws' d ≡ class_method_count ws d

-- a method of one number, left, of an owner with the same link state
pub record Stays (ws ws' abi : List ℕ) (m k : ℕ) : Type 0 where
  pub same : k ≡ m
  pub below : m < method_count ws
  pub owner : owner_state ws m ≡ owner_state ws' k

-- any two methods: tables so alike have the same words from the same slots
abbrev pub Any : ℕ → ℕ → Type 0
Any m k = Unit {0}

untouched-state : Untouched link_state_word
untouched-state = omega arith

untouched-interface : (k : ℕ) → first_interface_word ≤ k → k ≤ interface_count_word → Untouched k
untouched-interface k a b = omega arith

pub untouched-compiler : (k : ℕ) → compiler_table_word ≤ k → k ≤ compiler_slots_word → Untouched k
untouched-compiler k a b = omega arith

module _ (ws ws' abi : List ℕ) (c : ℕ) (valid : Valid ws) (after : After ws ws' c)
    (moves : Unmoved ws ws' c ⊎ (class_first_method ws' c ≡ method_count ws)) where
  abbrev text : List ℕ
  text = text_of ws

  abbrev text' : List ℕ
  text' = text_of ws'

  abbrev labels : List ℕ
  labels = abi_text_of abi

  abbrev R : ℕ → ℕ → Type 0
  R = Stays ws ws' abi

  pub word_same : (d k : ℕ) → IsClass ws d → k < class_width → Untouched k → class_word ws' d k ≡ class_word ws d k
  word_same d k l b u =
      by (eqb d c) (λ t. let e : d ≡ c = eqb-true d c t in rw e (after.own k b u)) (λ t. after.others d k l.0 l.1 b (eqb-false d c t))

  pub unmoved-other : (d : ℕ) → IsClass ws d → d ≢ c → Unmoved ws ws' d
  unmoved-other d l n = record {
    first = after.others d first_method_word l.0 l.1 (omega arith) n;
    many = after.others d method_count_word l.0 l.1 (omega arith) n;
  }

  -- ---- owners

  holds-unmoved : (m e : ℕ) → Unmoved ws ws' e → holds ws m e ≡ holds ws' m e
  unfolding holds
  holds-unmoved m e u = rw (u.first, u.many)

  holds-is : (m e : ℕ) → holds ws m e ≡ true → (class_first_method ws e ≤ m) × (m < class_first_method ws e + class_method_count ws e)
  unfolding holds
  holds-is m e h =
      let p = and_both (leb (class_first_method ws e) m) (ltb m (class_first_method ws e + class_method_count ws e)) h in
      (leb-true _ _ p.0, ltb-true _ _ p.1)

  -- a method of class d's list, which is left, is held by class c before as after
  module _ (d m : ℕ) (l : IsClass ws d) (some : 1 ≤ c) (among : c ≤ class_count ws) (u : Unmoved ws ws' d) (first : class_first_method ws d ≤ m)
      (last : m < class_first_method ws d + class_method_count ws d) where
    not-held : class_first_method ws' c ≡ method_count ws → holds ws m c ≡ true → ⊥
    not-held e h =
        let p = holds-is m c h in
        let q : c ≡ d = valid.methods c d m (some, among) l p.0 p.1 first last in
        let v = (valid.class d l).methods in
        let w : class_first_method ws' c ≡ class_first_method ws d = rw q u.first in
        omega arith

    held-not : class_first_method ws' c ≡ method_count ws → holds ws' m c ≡ false
    unfolding holds
    held-not e =
        let v = (valid.class d l).methods in
        rw (e, lt-leb (method_count ws) m (omega arith))

    held_same : holds ws m c ≡ holds ws' m c
    held_same =
        elim moves [
          | inl v ↦ holds-unmoved m c v
          | inr e ↦ by (holds ws m c) (λ t. absurd (not-held e t)) (λ t. t ∙ sym (held-not e))
        ]

    owner-same : owner_state ws m ≡ owner_state ws' m
    unfolding owner_state
    owner-same =
        let f : find (holds ws m) (numbers 1 (class_count ws)) ≡ find (holds ws' m) (numbers 1 (class_count ws)) =
        find-ext (holds ws m) (holds ws' m) (numbers 1 (class_count ws))
        (λ e i.
        let b = numbers-within 1 (class_count ws) e i in
        by (eqb e c) (λ t. let q : e ≡ c = eqb-true e c t in rw q held_same)
        (λ t. holds-unmoved m e (unmoved-other e (omega arith, omega arith) (eqb-false e c t)))) in
        rw (after.classes, ← f)
        (by-found (find (holds ws m) (numbers 1 (class_count ws)))
        (λ e q.
        let b = find-within (holds ws m) 1 (class_count ws) e q in
        rw q (sym (word_same e link_state_word (omega arith, omega arith) (omega arith) untouched-state)))
        (λ q. rw q))

  -- ---- methods, classes and chains

  stays-alike : Alike ws text ws' text' R
  stays-alike = record {
    name = λ m k r. rw r.same (sym (record_name ws ws' c valid after m m r.below (λ w b. after.method m w r.below b)));
    descriptor = λ m k r. rw r.same (sym (record_descriptor ws ws' c valid after m m r.below (λ w b. after.method m w r.below b)));
    flags = λ m k r. rw r.same (sym (after.method m 4 r.below (omega arith)));
    target = λ m k r. rw r.same (sym (after.method m 5 r.below (omega arith)));
  }

  pub stays-keeps : Keeps (by_bytes ws text abi labels) (by_bytes ws' text' abi labels) (SameParts ws text ws' text' abi labels) ws text ws' text' abi labels R
  stays-keeps = bytes_keep ws text ws' text' abi labels R stays-alike

  pub abi-same : (d : ℕ) → IsClass ws d → class_abi ws text abi labels d ≡ class_abi ws' text' abi labels d
  unfolding class_abi
  abi-same d l = rw (class-name ws ws' c valid after d l.0 l.1)

  pub parent-same : (d : ℕ) → IsClass ws d → parent_of ws d ≡ parent_of ws' d
  unfolding parent_of
  parent-same d l = rw (word_same d parent_word l (omega arith) (early parent_word (omega arith)))

  chain-of-same : (k d : ℕ) → d ≤ class_count ws → chain_of ws k d ≡ chain_of ws' k d
  unfolding chain_of
  chain-of-same zero d a = refl
  chain-of-same (suc k) zero a = refl
  chain-of-same (suc k) (suc d) a =
      let w = parent-within ws (suc d) in
      rw (← parent-same (suc d) (omega arith, a)) (ap (λ (l : List ℕ). suc d ∷ l) (chain-of-same k (parent_of ws (suc d)) (omega arith)))

  pub chain_same : (d : ℕ) → d ≤ class_count ws → chain ws d ≡ chain ws' d
  unfolding chain
  chain_same d a = chain-of-same d d a

  module _ (some : 1 ≤ c) (among : c ≤ class_count ws) where
    pub class_same : (d : ℕ) → IsClass ws d → Unmoved ws ws' d → SameClass stays-keeps d
    unfolding own_methods
    class_same d l u = record {
      own = rw (u.first, u.many)
          (pairs-same R (numbers (class_first_method ws d) (list_count (class_first_method ws d) (class_method_count ws d) method_limit))
          (λ m i.
          let b = numbers-within (class_first_method ws d) (list_count (class_first_method ws d) (class_method_count ws d) method_limit) m i in
          let v = (valid.class d l).methods in
          record { same = refl; below = omega arith; owner = owner-same d m l some among u (omega arith) (omega arith) }));
      name = sym (class-name ws ws' c valid after d l.0 l.1);
    }

    pub same-chain : (d : ℕ) → d ≤ class_count ws → ((e : ℕ) → Memᴰ e (chain ws d) → Unmoved ws ws' e)
        → SameChain stays-keeps d
    same-chain d a us = record {
      along = chain_same d a;
      class = λ e i. let b = chain-within ws d e i in class_same e (omega arith, omega arith) (us e i);
    }

  -- ---- what a compiler table is made of

  pub targets-same : (d : ℕ) → IsClass ws d → compiler_targets ws d ≡ compiler_targets ws' d
  unfolding compiler_targets
  targets-same d l =
      let v = valid.class d l in
      rw (
        word_same d compiler_table_word l (omega arith) (untouched-compiler compiler_table_word (omega arith) (omega arith)),
        word_same d compiler_slots_word l (omega arith) (untouched-compiler compiler_slots_word (omega arith) (omega arith)),
      )
      (list_ext (λ i. compiler_word ws (class_compiler_table ws d - 1 + i)) (λ i. compiler_word ws' (class_compiler_table ws d - 1 + i)) 0
      (min (class_compiler_slots ws d) 1024)
      (λ i h.
      sym
      (after.compiler (class_compiler_table ws d - 1 + i)
      (by (eqb (class_compiler_table ws d) 0)
      (λ t. let z = v.no_compiler (eqb-true (class_compiler_table ws d) 0 t) in absurd (omega arith))
      (λ t. let z = v.compiler (eqb-false (class_compiler_table ws d) 0 t) in omega arith)))))

  pub sources-same : (d : ℕ) → IsClass ws d → signature_sources ws text abi labels d ≡ signature_sources ws' text' abi labels d
  unfolding signature_sources own_interfaces
  sources-same d l =
      let v = (valid.class d l).interfaces in
      let xs : List ℕ = numbers (class_first_interface ws d) (list_count (class_first_interface ws d) (class_interface_count ws d) interface_limit) in
      rw (
        abi-same d l,
        word_same d first_interface_word l (omega arith) (untouched-interface first_interface_word (omega arith) (omega arith)),
        word_same d interface_count_word l (omega arith) (untouched-interface interface_count_word (omega arith) (omega arith)),
      )
      (ap (cons_found (class_abi ws' text' abi labels d))
      (founds_ext (λ i. class_abi ws text abi labels (interface_word ws i)) (λ i. class_abi ws' text' abi labels (interface_word ws' i)) xs
      (λ i t.
      let b = numbers-within (class_first_interface ws d) (list_count (class_first_interface ws d) (class_interface_count ws d) interface_limit) i t in
      let h = valid.interface i (omega arith) in
      rw (after.interface i (omega arith)) (abi-same (interface_word ws i) h))))

-- ---- added methods of one number are alike in both sets

module _ {same same' : Same} {P : Place → Place → Type 0} {ws text ws' text' abi labels : List ℕ} {R : ℕ → ℕ → Type 0}
    (keeps : Keeps same same' P ws text ws' text' abi labels R) {new new' : List Taken} (h : Pairs (SameTaken P) new new') where
  pub added-signed : (j : ℕ) → j < length new → Signed P ws text ws' text' new new' (method_limit + j) (method_limit + j)
  unfolding name_of place_of flags_of target_of
  added-signed j l =
      let e = le-ltb (method_limit + j) method_limit (omega arith) in
      let f : method_limit + j - method_limit ≡ j = omega arith in
      let t = pairs-inside none_taken none_taken h j l in
      record {
        place = rw (e, f) t.place;
        name = rw (e, f) (ap (λ x. x.name) t.member);
        flags = rw (e, f) (ap (λ x. x.flags) t.member);
        target = rw (e, f) (ap (λ x. x.last) t.member);
      }

  pub methods-signed : ((m k : ℕ) → R m k → (m < method_limit) × (k < method_limit)) → (c : ℕ) → Pairs R (own_methods ws c) (own_methods ws' c)
      → Pairs (Signed P ws text ws' text' new new') (class_methods ws new c) (class_methods ws' new' c)
  unfolding class_methods
  methods-signed small c own =
      pairs-append (pairs_less (λ m k r. of-sheet keeps new new' m k (small m k r).0 (small m k r).1 r) own)
      (rw (← pairs-length h) (pairs-from (λ k. k) (λ k. k) method_limit method_limit (length new) added-signed))

-- ---- whole tables

module _ (ws ws' abi area area' : List ℕ) (c : ℕ) (valid : Valid ws) (after : After ws ws' c)
    (moves : Unmoved ws ws' c ⊎ (class_first_method ws' c ≡ method_count ws)) (some : 1 ≤ c) (among : c ≤ class_count ws)
    (d : ℕ) (l : IsClass ws d) (held : (e : ℕ) → Memᴰ e (chain ws (parent_of ws d)) → Held ws ws' area area' e)
    (above : (e : ℕ) → Memᴰ e (chain ws (parent_of ws d)) → Unmoved ws ws' e) where
  abbrev Q : ℕ → ℕ → Type 0
  Q = Stays ws ws' abi

  abbrev kept : Keeps (by_sheets ws abi) (by_sheets ws' abi) (SameParts ws (text_of ws) ws' (text_of ws') abi (abi_text_of abi))
      ws (text_of ws) ws' (text_of ws') abi (abi_text_of abi) Q
  kept = stays-keeps ws ws' abi c valid after moves

  first_above : parent_of ws d ≢ 0 → Memᴰ (parent_of ws d) (chain ws (parent_of ws d))
  first_above n = rw (chain_more ws (parent_of ws d) (omega arith)) (Memᴰ.head refl)

  pub parent-held : SameParent ws ws' area area' d
  parent-held = record {
    parent = parent-same ws ws' abi c valid after moves d l;
    slots = λ n. (held (parent_of ws d) (first_above n)).slots;
    words = λ n. (held (parent_of ws d) (first_above n)).words;
  }

  pub chain-above : SameChain kept (parent_of ws d)
  chain-above = let w = parent-within ws d in same-chain ws ws' abi c valid after moves some among (parent_of ws d) (omega (arith, l.1)) above

  pub parents-held : Tables Q (parent_entries (by_sheets ws abi) ws (text_of ws) abi (abi_text_of abi) area d)
      (parent_entries (by_sheets ws' abi) ws' (text_of ws') abi (abi_text_of abi) area' d)
  parents-held = parents-same kept area area' d parent-held chain-above

  stays-owner : (m k : ℕ) → Q m k → owner_state ws m ≡ owner_state ws' k
  stays-owner m k r = r.owner

  pub view-held : Tables Q (native_view (by_sheets ws abi) ws (text_of ws) abi (abi_text_of abi) area d)
      (native_view (by_sheets ws' abi) ws' (text_of ws') abi (abi_text_of abi) area' d)
  view-held = native_same kept stays-owner area area' d parent-held chain-above

  pub small : (m k : ℕ) → Q m k → (m < method_limit) × (k < method_limit)
  small m k r = let v = valid.number_of_methods in let b = r.below in let e = r.same in (omega arith, omega arith)

  -- methods of the sheet, numbered on
  pub signed : (new new' : List Taken) (m k : ℕ) → Q m k
      → Signed (SameParts ws (text_of ws) ws' (text_of ws') abi (abi_text_of abi)) ws (text_of ws) ws' (text_of ws') new new' m k
  signed new new' m k r =
      of-sheet kept new new' m k (small m k r).0 (small m k r).1 r

  module _ (u : Unmoved ws ws' d) where
    here : SameClass kept d
    here = class_same ws ws' abi c valid after moves some among d l u

    all-unmoved : (e : ℕ) → Memᴰ e (chain ws d) → Unmoved ws ws' e
    all-unmoved e i =
        ⊎_elim (λ (q : e ≡ d). rw q u) (λ t. above e t) (Memᴰ.cases_cons (rw (chain_more ws d l.0) at i))

    whole : SameChain kept d
    whole = same-chain ws ws' abi c valid after moves some among d l.1 all-unmoved

    build-held : SameBuilt Q (build_methods (by_sheets ws abi) ws (text_of ws) abi (abi_text_of abi) area d)
        (build_methods (by_sheets ws' abi) ws' (text_of ws') abi (abi_text_of abi) area' d)
    build-held = build-same kept area area' d parent-held chain-above whole here

    -- along the chain above
    chains : (e : ℕ) → Memᴰ e (chain ws (parent_of ws d)) → SameChain kept e
    chains e i =
        let w = parent-within ws d in
        let b = chain-within ws (parent_of ws d) e i in
        same-chain ws ws' abi c valid after moves some among e (omega (arith, l.1))
        (λ x j. above x (chain-of-chain ws (parent_of ws d) (parent_of ws d) (omega arith) i j))

    packages-held : Tables Q (build_packages (by_sheets ws abi) ws (text_of ws) abi (abi_text_of abi) area d)
        (build_packages (by_sheets ws' abi) ws' (text_of ws') abi (abi_text_of abi) area' d)
    packages-held =
        packages-same kept (λ m k n j r q. rw (r.same, q.same)) area area' d here parent-held
        chain-above chains held

    built-held : SameBuilt Q (built_table (by_sheets ws abi) ws (text_of ws) abi (abi_text_of abi) area d)
        (built_table (by_sheets ws' abi) ws' (text_of ws') abi (abi_text_of abi) area' d)
    unfolding built_table
    built-held =
        rw (
          word_same ws ws' abi c valid after moves d flags_word l (omega arith) (early flags_word (omega arith)),
          word_same ws ws' abi c valid after moves d kind_word l (omega arith) (early kind_word (omega arith)),
        )
        (by (is_packaged ws d) (λ v. rw v (both-built packages-held))
        (λ v.
        rw v
        (by (is_interface (class_flags ws d))
        (λ t. rw t (both-built (interface-same kept d here)))
        (λ t. rw t build-held))))

    -- alike methods are added
    added-held : Pairs (SameTaken (SameParts ws (text_of ws) ws' (text_of ws') abi (abi_text_of abi)))
        (added_methods (by_sheets ws abi) ws (text_of ws) abi (abi_text_of abi) area d)
        (added_methods (by_sheets ws' abi) ws' (text_of ws') abi (abi_text_of abi) area' d)
    unfolding added_methods
    added-held =
        rw (← targets-same ws ws' abi c valid after moves d l)
        (added-from kept d here.own (sources-same ws ws' abi c valid after moves d l)
        (native_view (by_sheets ws abi) ws (text_of ws) abi (abi_text_of abi) area d)
        (native_view (by_sheets ws' abi) ws' (text_of ws') abi (abi_text_of abi) area' d) view-held 0 (compiler_targets ws d))

    compiler-held : Tables Any (compiler_table (by_sheets ws abi) ws (text_of ws) abi (abi_text_of abi) area d)
        (compiler_table (by_sheets ws' abi) ws' (text_of ws') abi (abi_text_of abi) area' d)
    unfolding compiler_table
    compiler-held =
        let new : List Taken = added_methods (by_sheets ws abi) ws (text_of ws) abi (abi_text_of abi) area d in
        let new' : List Taken = added_methods (by_sheets ws' abi) ws' (text_of ws') abi (abi_text_of abi) area' d in
        rw (← targets-same ws ws' abi c valid after moves d l)
        (tables_less (λ m k r. tt)
        (tables-same kept new new' d (methods-signed kept added-held small d here.own)
        (native_view (by_sheets ws abi) ws (text_of ws) abi (abi_text_of abi) area d)
        (native_view (by_sheets ws' abi) ws' (text_of ws') abi (abi_text_of abi) area' d)
        (parent_entries (by_sheets ws abi) ws (text_of ws) abi (abi_text_of abi) area d)
        (parent_entries (by_sheets ws' abi) ws' (text_of ws') abi (abi_text_of abi) area' d)
        (tables_less (signed new new') view-held) (tables_less (signed new new') parents-held) (compiler_targets ws d)))

    generated-held : SameBuilt Any (generated_table (by_sheets ws abi) ws (text_of ws) abi (abi_text_of abi) area d)
        (generated_table (by_sheets ws' abi) ws' (text_of ws') abi (abi_text_of abi) area' d)
    unfolding generated_table
    generated-held =
        rw (word_same ws ws' abi c valid after moves d compiler_table_word l (omega arith) (untouched-compiler compiler_table_word (omega arith) (omega arith)))
        (by (eqb (class_compiler_table ws d) 0) (λ t. rw t (built_less (λ m k r. tt) build-held)) (λ t. rw t (both-built compiler-held)))

    -- the same words from the same slots
    pub table-held : SameBuilt Any (table_by (by_sheets ws abi) ws (text_of ws) abi (abi_text_of abi) area d)
        (table_by (by_sheets ws' abi) ws' (text_of ws') abi (abi_text_of abi) area' d)
    unfolding table_by
    table-held =
        rw (word_same ws ws' abi c valid after moves d kind_word l (omega arith) (early kind_word (omega arith)))
        (by (is_built_kind (class_kind ws d)) (λ t. rw t (built_less (λ m k r. tt) built-held))
        (λ t.
        rw t
        (by (eqb (class_kind ws d) 1) (λ v. rw v generated-held) (λ v. rw v (both-built (tables_less (λ m k r. tt) parents-held))))))
