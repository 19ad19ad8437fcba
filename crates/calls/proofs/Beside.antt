-- Two sets in which some classes, with all that they descend from, are alike: their records but for places, their members by value, and, where they are
-- linked, their tables word for word. Such a class's table is built alike in both: method m of one set stands for the one at its place in the list of its
-- class in the other (`Renumbered`). Assumes nothing.
use mathlib.Core.Path.{◌≡◌, refl, sym, ap, ◌∙◌, subst}
use mathlib.Core.Logic.{◌≢◌}
use mathlib.Core.List.{List, ◌∷◌, Memᴰ}
use Prim.Native.Nat.{ℕ, zero, suc, ◌+◌, ◌-◌, ◌≤◌, ◌<◌, min}
use native.Mathlib.Omega.{arith}
use lib.Dec.{eqb}
use borrow.Author.Tests.{eqb-true, eqb-false, eq-eqb, ne_eqb}
use Rattle.words.specs.Lists.{list_from, numbers, cons_found}
use Rattle.words.proofs.Bools.{by}
use Rattle.words.proofs.ListLaws.{numbers-within}
use Rattle.words.proofs.Ext.{list_ext, founds_ext}
use Rattle.class_sheet.specs.ClassSheet.{class_width, parent_word, flags_word, kind_word, first_method_word, method_count_word, first_field_word, first_interface_word, interface_count_word, link_state_word, instance_words_word, compiler_table_word, compiler_slots_word, table_place_word, class_count, interface_count, compiler_count, text_of, class_word, class_name, class_flags, class_kind, class_first_method, class_method_count, class_first_field, class_field_count, class_first_interface, class_interface_count, class_link_state, class_compiler_table, class_compiler_slots, class_table_place, interface_word, compiler_word, is_built_kind, is_packaged, method_name, method_descriptor, method_flags, method_target, field_name, field_descriptor, field_flags, field_index, method_limit, interface_limit}
use Rattle.abi_sheet.specs.AbiSheet.{abi_text_of}
use Rattle.set_rules.specs.Valid.{IsClass, Valid}
use Rattle.linking.specs.Signature.{Same, Place, by_sheets}
use Rattle.linking.specs.Chain.{list_count, own_methods, own_interfaces, parent_of, chain_of, chain, is_interface}
use Rattle.linking.specs.Abi.{class_abi}
use Rattle.linking.specs.Vtable.{Entry, parent_entries, build_methods, slot_words}
use Rattle.linking.specs.Compiler.{Taken, owner_state, native_view, compiler_targets, signature_sources, added_methods, compiler_table}
use Rattle.linking.specs.Packages.{build_packages}
use Rattle.linking.specs.Link.{built_table, generated_table}
use Rattle.linking.specs.Missing.{table_by}
use Rattle.linking.proofs.ChainLaws.{parent-within, chain-within, chain_more}
use Rattle.linking.proofs.LinkedBack.{Untouched, early}
use Rattle.linking.proofs.Pairs.{Pairs, none, pair, pairs-from}
use Rattle.linking.proofs.Renumbered.{Tables, tables_less, SameBuilt, both-built, built_less, SameParent, Keeps, SameParts, bytes_keep, SameClass, SameChain, parents-same, interface-same, build-same}
use Rattle.linking.proofs.Overriding.{chain-of-chain}
use Rattle.linking.proofs.RenumberedPackages.{Held, packages-same}
use Rattle.linking.proofs.RenumberedCompiler.{native_same, SameTaken, added-from, Signed, of-sheet, tables-same}
use Rattle.linking.proofs.Rebuilt.{Any, methods-signed}
use Rattle.linking.proofs.Whose.{whose}

-- a word of a class record that is the same wherever its lists and its table lie
pub record Unplaced (k : ℕ) : Type 0 where
  pub method : k ≢ first_method_word
  pub field : k ≢ first_field_word
  pub place : k ≢ table_place_word

-- tables alike have the same words
pub words_same : (stubs : List ℕ) (i : ℕ) {T U : List Entry} → Tables Any T U → slot_words stubs i T ≡ slot_words stubs i U
unfolding slot_words
words_same stubs i none = refl
words_same stubs i (pair s h) = rw (s.word, words_same stubs (i + 1) h) refl

numbers_in : (a n i : ℕ) → i < n → Memᴰ (a + i) (numbers a n)
unfolding list_from
numbers_in a zero i h = absurd (omega arith)
numbers_in a (suc n) zero h = let e : a + 0 ≡ a = omega arith in Memᴰ.head e
numbers_in a (suc n) (suc i) h =
    let e : a + 1 + i ≡ a + suc i = omega arith in
    Memᴰ.tail (subst (λ (x : ℕ). Memᴰ x (numbers (a + 1) n)) e (numbers_in (a + 1) n i (omega arith)))

module _ (ws ws' abi : List ℕ) (E : ℕ → Type 0) where
  -- the method at one place in the list of one of these classes
  pub record Placed (m k : ℕ) : Type 0 where
    pub class : ℕ
    pub at : ℕ
    pub is : IsClass ws class
    pub here : E class
    pub inside : at < class_method_count ws class
    pub one : m ≡ class_first_method ws class + at
    pub other : k ≡ class_first_method ws' class + at

  pub record SameMethod (m k : ℕ) : Type 0 where
    pub name : method_name ws (text_of ws) m ≡ method_name ws' (text_of ws') k
    pub descriptor : method_descriptor ws (text_of ws) m ≡ method_descriptor ws' (text_of ws') k
    pub flags : method_flags ws m ≡ method_flags ws' k
    pub target : method_target ws m ≡ method_target ws' k

  pub record SameField (f g : ℕ) : Type 0 where
    pub name : field_name ws (text_of ws) f ≡ field_name ws' (text_of ws') g
    pub descriptor : field_descriptor ws (text_of ws) f ≡ field_descriptor ws' (text_of ws') g
    pub flags : field_flags ws f ≡ field_flags ws' g
    pub index : field_index ws f ≡ field_index ws' g

  pub record Sets : Type 0 where
    pub valid : Valid ws
    pub valid' : Valid ws'
    -- all classes: what no link stores
    pub classes : class_count ws ≡ class_count ws'
    pub name : (d : ℕ) → IsClass ws d → class_name ws (text_of ws) d ≡ class_name ws' (text_of ws') d
    pub untouched : (d k : ℕ) → IsClass ws d → k < class_width → Untouched k → class_word ws d k ≡ class_word ws' d k
    pub interfaces : interface_count ws ≡ interface_count ws'
    pub interface : (i : ℕ) → i < interface_count ws → interface_word ws i ≡ interface_word ws' i
    pub compilers : compiler_count ws ≡ compiler_count ws'
    pub compiler : (i : ℕ) → i < compiler_count ws → compiler_word ws i ≡ compiler_word ws' i
    -- these classes, which all that they descend from are, too
    pub up : (d e : ℕ) → IsClass ws d → E d → Memᴰ e (chain ws d) → E e
    pub linked : (d : ℕ) → IsClass ws d → E d → eqb (class_table_place ws d) 0 ≡ eqb (class_table_place ws' d) 0
    pub word : (d k : ℕ) → IsClass ws d → E d → k < class_width → Unplaced k → class_word ws d k ≡ class_word ws' d k
    pub method : (d j : ℕ) → IsClass ws d → E d → j < class_method_count ws d → SameMethod (class_first_method ws d + j) (class_first_method ws' d + j)
    pub field : (d j : ℕ) → IsClass ws d → E d → j < class_field_count ws d → SameField (class_first_field ws d + j) (class_first_field ws' d + j)

  module _ (sets : Sets) where
    abbrev text : List ℕ
    text = text_of ws

    abbrev text' : List ℕ
    text' = text_of ws'

    abbrev labels : List ℕ
    labels = abi_text_of abi

    abbrev same : Same
    same = by_sheets ws abi

    abbrev same' : Same
    same' = by_sheets ws' abi

    abbrev Parts : Place → Place → Type 0
    Parts = SameParts ws text ws' text' abi labels

    placed-method : (m k : ℕ) → Placed m k → SameMethod m k
    placed-method m k r = rw (r.one, r.other) (sets.method r.class r.at r.is r.here r.inside)

    pub placed-keeps : Keeps same same' Parts ws text ws' text' abi labels Placed
    placed-keeps =
        bytes_keep ws text ws' text' abi labels Placed
        (record {
          name = λ m k r. (placed-method m k r).name;
          descriptor = λ m k r. (placed-method m k r).descriptor;
          flags = λ m k r. (placed-method m k r).flags;
          target = λ m k r. (placed-method m k r).target;
        })

    many : (d : ℕ) → IsClass ws d → E d → class_method_count ws d ≡ class_method_count ws' d
    many d l e = sets.word d method_count_word l e (omega arith) (record { method = omega arith; field = omega arith; place = omega arith })

    class' : (d : ℕ) → IsClass ws d → IsClass ws' d
    class' d l = (l.0, omega (arith, l.1, sets.classes))

    -- ---- owners

    pub first_of : (d : ℕ) → 1 ≤ d → Memᴰ d (chain ws d)
    first_of d l = rw (chain_more ws d l) (Memᴰ.head refl)

    first_of' : (d : ℕ) → 1 ≤ d → Memᴰ d (chain ws' d)
    first_of' d l = rw (chain_more ws' d l) (Memᴰ.head refl)

    owner-one : (d j : ℕ) → IsClass ws d → j < class_method_count ws d
        → owner_state ws (class_first_method ws d + j) ≡ class_link_state ws d
    unfolding own_methods
    owner-one d j l h =
        let v = (sets.valid.class d l).methods in
        let n = sets.valid.number_of_methods in
        (whose.no_other ws d d (class_first_method ws d + j) sets.valid.methods l
        (record {
          along = first_of d l.0;
          member = numbers_in (class_first_method ws d) (list_count (class_first_method ws d) (class_method_count ws d) method_limit) j (omega arith);
        })
        ).1

    owner-other : (d j : ℕ) → IsClass ws' d → j < class_method_count ws' d
        → owner_state ws' (class_first_method ws' d + j) ≡ class_link_state ws' d
    unfolding own_methods
    owner-other d j l h =
        let v = (sets.valid'.class d l).methods in
        let n = sets.valid'.number_of_methods in
        (whose.no_other ws' d d (class_first_method ws' d + j) sets.valid'.methods l
        (record {
          along = first_of' d l.0;
          member = numbers_in (class_first_method ws' d) (list_count (class_first_method ws' d) (class_method_count ws' d) method_limit) j (omega arith);
        })
        ).1

    untouched-state : Untouched link_state_word
    untouched-state = record {
      first-method = omega arith;
      number_of_methods = omega arith;
      first_field = omega arith;
      number_of_fields = omega arith;
      words = omega arith;
      place = omega arith;
      slots = omega arith;
      statics = omega arith;
    }

    pub placed-owner : (m k : ℕ) → Placed m k → owner_state ws m ≡ owner_state ws' k
    placed-owner m k r =
        let d = r.class in
        let e = many d r.is r.here in
        let h = r.inside in
        rw (r.one, r.other)
        (owner-one d r.at r.is h ∙ sets.untouched d link_state_word r.is (omega arith) untouched-state
        ∙ sym (owner-other d r.at (class' d r.is) (omega arith)))

    pub placed-small : (m k : ℕ) → Placed m k → (m < method_limit) × (k < method_limit)
    placed-small m k r =
        let d = r.class in
        let e = many d r.is r.here in
        let h = r.inside in
        let a = r.one in
        let b = r.other in
        let v = (sets.valid.class d r.is).methods in
        let n = sets.valid.number_of_methods in
        let v' = (sets.valid'.class d (class' d r.is)).methods in
        let n' = sets.valid'.number_of_methods in
        (omega arith, omega arith)

    -- different methods of one set are different ones in the other
    same-method : (m k n l : ℕ) → Placed m k → Placed n l → m ≡ n → k ≡ l
    same-method m k n l r q e =
        let h = r.inside in
        let g = q.inside in
        let a = r.one in
        let b = q.one in
        let c : r.class ≡ q.class =
        sets.valid.methods r.class q.class m r.is q.is (omega arith) (omega arith) (omega arith) (omega arith) in
        let f : class_first_method ws r.class ≡ class_first_method ws q.class = ap (class_first_method ws) c in
        let f' : class_first_method ws' r.class ≡ class_first_method ws' q.class = ap (class_first_method ws') c in
        let a' = r.other in
        let b' = q.other in
        omega arith

    same_method' : (m k n l : ℕ) → Placed m k → Placed n l → k ≡ l → m ≡ n
    same_method' m k n l r q e =
        let h = r.inside in
        let g = q.inside in
        let u = many r.class r.is r.here in
        let v = many q.class q.is q.here in
        let a = r.other in
        let b = q.other in
        let c : r.class ≡ q.class =
        sets.valid'.methods r.class q.class k (class' r.class r.is) (class' q.class q.is) (omega arith) (omega arith) (omega arith) (omega arith) in
        let f : class_first_method ws' r.class ≡ class_first_method ws' q.class = ap (class_first_method ws') c in
        let f' : class_first_method ws r.class ≡ class_first_method ws q.class = ap (class_first_method ws) c in
        let a' = r.one in
        let b' = q.one in
        omega arith

    pub placed_one : (m k n l : ℕ) → Placed m k → Placed n l → eqb m n ≡ eqb k l
    placed_one m k n l r q =
        by (eqb m n) (λ t. t ∙ sym (eq-eqb k l (same-method m k n l r q (eqb-true m n t))))
        (λ t. t ∙ sym (ne_eqb k l (λ e. eqb-false m n t (same_method' m k n l r q e))))

    -- ---- classes and chains

    abbrev Class : ℕ → Type 0
    Class d = SameClass placed-keeps d

    abbrev Chain : ℕ → Type 0
    Chain d = SameChain placed-keeps d

    pub class_same : (d : ℕ) → IsClass ws d → E d → Class d
    unfolding own_methods
    class_same d l e =
        let n = many d l e in
        let v = (sets.valid.class d l).methods in
        let w = sets.valid.number_of_methods in
        let v' = (sets.valid'.class d (class' d l)).methods in
        let w' = sets.valid'.number_of_methods in
        let a : list_count (class_first_method ws d) (class_method_count ws d) method_limit ≡ class_method_count ws d = omega arith in
        let b : list_count (class_first_method ws' d) (class_method_count ws' d) method_limit ≡ class_method_count ws d = omega arith in
        record {
          own = rw (a, b)
              (pairs-from (λ m. m) (λ m. m) (class_first_method ws d) (class_first_method ws' d) (class_method_count ws d)
              (λ j h. record { class = d; at = j; is = l; here = e; inside = h; one = refl; other = refl }));
          name = sets.name d l;
        }

    pub parent-same : (d : ℕ) → IsClass ws d → parent_of ws d ≡ parent_of ws' d
    unfolding parent_of
    parent-same d l = rw (sets.untouched d parent_word l (omega arith) (early parent_word (omega arith)))

    chain-of-same : (k d : ℕ) → d ≤ class_count ws → chain_of ws k d ≡ chain_of ws' k d
    unfolding chain_of
    chain-of-same zero d a = refl
    chain-of-same (suc k) zero a = refl
    chain-of-same (suc k) (suc d) a =
        let w = parent-within ws (suc d) in
        rw (← parent-same (suc d) (omega arith, a)) (ap (λ (l : List ℕ). suc d ∷ l) (chain-of-same k (parent_of ws (suc d)) (omega arith)))

    pub chain_same : (d : ℕ) → d ≤ class_count ws → chain ws d ≡ chain ws' d
    unfolding chain
    chain_same d a = chain-of-same d d a

    pub same-chain : (d : ℕ) → d ≤ class_count ws → ((e : ℕ) → Memᴰ e (chain ws d) → E e) → Chain d
    same-chain d a all = record {
      along = chain_same d a;
      class = λ e i. let b = chain-within ws d e i in class_same e (omega arith, omega arith) (all e i);
    }

    pub abi-same : (d : ℕ) → IsClass ws d → class_abi ws text abi labels d ≡ class_abi ws' text' abi labels d
    unfolding class_abi
    abi-same d l = rw (sets.name d l)

    -- ---- what a compiler table is made of

    untouched_late : (k : ℕ) → first_interface_word ≤ k → k ≢ instance_words_word → k < table_place_word → Untouched k
    untouched_late k a n b = record {
      first-method = omega arith;
      number_of_methods = omega arith;
      first_field = omega arith;
      number_of_fields = omega arith;
      words = n;
      place = omega arith;
      slots = omega arith;
      statics = omega arith;
    }

    pub late_word : (d k : ℕ) → IsClass ws d → first_interface_word ≤ k → k ≢ instance_words_word → k < table_place_word
        → class_word ws d k ≡ class_word ws' d k
    late_word d k l a n b = sets.untouched d k l (omega arith) (untouched_late k a n b)

    pub targets-same : (d : ℕ) → IsClass ws d → compiler_targets ws d ≡ compiler_targets ws' d
    unfolding compiler_targets
    targets-same d l =
        let v = sets.valid.class d l in
        rw (
          ← late_word d compiler_table_word l (omega arith) (omega arith) (omega arith),
          ← late_word d compiler_slots_word l (omega arith) (omega arith) (omega arith),
        )
        (list_ext (λ i. compiler_word ws (class_compiler_table ws d - 1 + i)) (λ i. compiler_word ws' (class_compiler_table ws d - 1 + i)) 0
        (min (class_compiler_slots ws d) 1024)
        (λ i h.
        sets.compiler (class_compiler_table ws d - 1 + i)
        (by (eqb (class_compiler_table ws d) 0)
        (λ t. let z = v.no_compiler (eqb-true (class_compiler_table ws d) 0 t) in absurd (omega arith))
        (λ t. let z = v.compiler (eqb-false (class_compiler_table ws d) 0 t) in omega arith))))

    pub sources-same : (d : ℕ) → IsClass ws d → signature_sources ws text abi labels d ≡ signature_sources ws' text' abi labels d
    unfolding signature_sources own_interfaces
    sources-same d l =
        let v = (sets.valid.class d l).interfaces in
        let xs : List ℕ = numbers (class_first_interface ws d) (list_count (class_first_interface ws d) (class_interface_count ws d) interface_limit) in
        rw (
          abi-same d l,
          ← late_word d first_interface_word l (omega arith) (omega arith) (omega arith),
          ← late_word d interface_count_word l (omega arith) (omega arith) (omega arith),
        )
        (ap (cons_found (class_abi ws' text' abi labels d))
        (founds_ext (λ i. class_abi ws text abi labels (interface_word ws i)) (λ i. class_abi ws' text' abi labels (interface_word ws' i)) xs
        (λ i t.
        let b = numbers-within (class_first_interface ws d) (list_count (class_first_interface ws d) (class_interface_count ws d) interface_limit) i t in
        let h = sets.valid.interface i (omega arith) in
        rw (← sets.interface i (omega arith)) (abi-same (interface_word ws i) h))))

    -- ---- whole tables: of class d, where both areas hold the tables of all that it descends from

    module _ (area area' : List ℕ) (d : ℕ) (l : IsClass ws d) (here : E d)
        (held : (e : ℕ) → Memᴰ e (chain ws (parent_of ws d)) → Held ws ws' area area' e) where
      in_chain : (e : ℕ) → Memᴰ e (chain ws (parent_of ws d)) → Memᴰ e (chain ws d)
      in_chain e i = rw (chain_more ws d l.0) (Memᴰ.tail i)

      above : (e : ℕ) → Memᴰ e (chain ws (parent_of ws d)) → E e
      above e i = sets.up d e l here (in_chain e i)

      first_above : parent_of ws d ≢ 0 → Memᴰ (parent_of ws d) (chain ws (parent_of ws d))
      first_above n = first_of (parent_of ws d) (omega arith)

      parent-held : SameParent ws ws' area area' d
      parent-held = record {
        parent = parent-same d l;
        slots = λ n. (held (parent_of ws d) (first_above n)).slots;
        words = λ n. (held (parent_of ws d) (first_above n)).words;
      }

      chain-above : Chain (parent_of ws d)
      chain-above = let w = parent-within ws d in same-chain (parent_of ws d) (omega (arith, l.1)) above

      chain-all : Chain d
      chain-all = same-chain d l.1 (λ e i. sets.up d e l here i)

      pub parents-held : Tables Placed (parent_entries same ws text abi labels area d) (parent_entries same' ws' text' abi labels area' d)
      parents-held = parents-same placed-keeps area area' d parent-held chain-above

      view-held : Tables Placed (native_view same ws text abi labels area d) (native_view same' ws' text' abi labels area' d)
      view-held = native_same placed-keeps placed-owner area area' d parent-held chain-above

      build-held : SameBuilt Placed (build_methods same ws text abi labels area d) (build_methods same' ws' text' abi labels area' d)
      build-held = build-same placed-keeps area area' d parent-held chain-above chain-all (class_same d l here)

      chains : (e : ℕ) → Memᴰ e (chain ws (parent_of ws d)) → Chain e
      chains e i =
          let w = parent-within ws d in
          let b = chain-within ws (parent_of ws d) e i in
          same-chain e (omega (arith, l.1)) (λ x j. above x (chain-of-chain ws (parent_of ws d) (parent_of ws d) (omega arith) i j))

      packages-held : Tables Placed (build_packages same ws text abi labels area d) (build_packages same' ws' text' abi labels area' d)
      packages-held = packages-same placed-keeps placed_one area area' d (class_same d l here) parent-held chain-above chains held

      pub built-held : SameBuilt Placed (built_table same ws text abi labels area d) (built_table same' ws' text' abi labels area' d)
      unfolding built_table
      built-held =
          rw (
            ← sets.untouched d flags_word l (omega arith) (early flags_word (omega arith)),
            ← sets.untouched d kind_word l (omega arith) (early kind_word (omega arith)),
          )
          (by (is_packaged ws d) (λ v. rw v (both-built packages-held))
          (λ v.
          rw v
          (by (is_interface (class_flags ws d))
          (λ t. rw t (both-built (interface-same placed-keeps d (class_same d l here))))
          (λ t. rw t build-held))))

      -- the same methods are added
      pub added-held : Pairs (SameTaken Parts) (added_methods same ws text abi labels area d) (added_methods same' ws' text' abi labels area' d)
      unfolding added_methods
      added-held =
          rw (← targets-same d l)
          (added-from placed-keeps d (class_same d l here).own (sources-same d l) (native_view same ws text abi labels area d)
          (native_view same' ws' text' abi labels area' d) view-held 0 (compiler_targets ws d))

      signed : (new new' : List Taken) (m k : ℕ) → Placed m k → Signed Parts ws text ws' text' new new' m k
      signed new new' m k r = of-sheet placed-keeps new new' m k (placed-small m k r).0 (placed-small m k r).1 r

      compiler-held : Tables Any (compiler_table same ws text abi labels area d) (compiler_table same' ws' text' abi labels area' d)
      unfolding compiler_table
      compiler-held =
          let new : List Taken = added_methods same ws text abi labels area d in
          let new' : List Taken = added_methods same' ws' text' abi labels area' d in
          rw (← targets-same d l)
          (tables_less (λ m k r. tt)
          (tables-same placed-keeps new new' d (methods-signed placed-keeps added-held placed-small d (class_same d l here).own)
          (native_view same ws text abi labels area d) (native_view same' ws' text' abi labels area' d)
          (parent_entries same ws text abi labels area d) (parent_entries same' ws' text' abi labels area' d)
          (tables_less (signed new new') view-held) (tables_less (signed new new') parents-held) (compiler_targets ws d)))

      pub generated-held : SameBuilt Any (generated_table same ws text abi labels area d) (generated_table same' ws' text' abi labels area' d)
      unfolding generated_table
      generated-held =
          rw (← late_word d compiler_table_word l (omega arith) (omega arith) (omega arith))
          (by (eqb (class_compiler_table ws d) 0) (λ t. rw t (built_less (λ m k r. tt) build-held)) (λ t. rw t (both-built compiler-held)))

      -- the same words from the same slots
      pub table-held : SameBuilt Any (table_by same ws text abi labels area d) (table_by same' ws' text' abi labels area' d)
      unfolding table_by
      table-held =
          rw (← sets.untouched d kind_word l (omega arith) (early kind_word (omega arith)))
          (by (is_built_kind (class_kind ws d)) (λ t. rw t (built_less (λ m k r. tt) built-held))
          (λ t.
          rw t
          (by (eqb (class_kind ws d) 1) (λ v. rw v generated-held) (λ v. rw v (both-built (tables_less (λ m k r. tt) parents-held))))))
