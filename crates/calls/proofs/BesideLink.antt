-- Two states in which some classes are alike (`Beside`): a link of such a class comes to the same plan in both, so it is refused by the same row or, if
-- room does not refuse it, accepted with the same slots. Assumes nothing.
use mathlib.Core.Path.{◌≡◌, refl, sym, ap, ◌∙◌}
use mathlib.Core.Logic.{◌≢◌}
use mathlib.Core.Bool.{Bool, true, false, not, ◌&&◌, ◌||◌}
use mathlib.Core.List.{List, [], Memᴰ}
use Prim.Native.Nat.{ℕ, ◌+◌}
use native.Mathlib.Omega.{arith}
use lib.ListN.{length}
use lib.Dec.{eqb, ltb}
use borrow.Author.Tests.{eqb-false, eq-eqb, ne_eqb}
use Rattle.words.specs.Lists.{some}
use Rattle.words.proofs.Bools.{by, or-neither}
use Rattle.text.specs.Text.{same_bytes}
use Rattle.class_sheet.specs.ClassSheet.{flags_word, kind_word, method_count_word, field_count_word, compiler_table_word, text_of, class_name, class_flags, class_kind, class_method_count, class_field_count, class_compiler_table, is_built_kind, is_packaged}
use Rattle.abi_sheet.specs.AbiSheet.{abi_text_of}
use Rattle.set_rules.specs.Valid.{IsClass}
use Rattle.linking.specs.Signature.{Same, by_sheets}
use Rattle.linking.specs.Chain.{parent_of, chain}
use Rattle.linking.specs.Abi.{class_abi}
use Rattle.linking.specs.Vtable.{Entry, Built, slot_words}
use Rattle.linking.specs.Packages.{unfit_for_packages, bad_packages}
use Rattle.linking.specs.Fields.{number_fields, added_fields, too_many_words, generated_refusal, generated_indices}
use Rattle.linking.specs.Compiler.{members}
use Rattle.linking.specs.Link.{object_name, no_class, is_linked, bad_array, bad_class, next_free, Plan, Planned, planned, unplanned, on_table, within_slots, new_fields_of, plan_built, generated_methods, plan_generated, plan_array, plan, lists_full, set_short, no_room, linked_area, Outcome, refused_call, LinkOutcome, refused_link, finish_link, on_plan}
use Rattle.linking.specs.Counts.{missing_short}
use Rattle.linking.proofs.ChainLaws.{parent-within, chain-within, chain_more}
use Rattle.linking.proofs.LinkedBack.{early}
use Rattle.linking.proofs.Pairs.{pairs-length}
use Rattle.linking.proofs.Rebuilt.{Any}
use Rattle.linking.proofs.RenumberedCompiler.{members_same}
use Rattle.linking.proofs.Renumbered.{Tables, tables_less, SameBuilt, both-built, both-refused, built_less}
use Rattle.linking.proofs.RenumberedPackages.{Held, some-ext}
use Rattle.linking.proofs.Rows.{Fits, fits}
use Rattle.calls.specs.Calls.{table_at}
use Rattle.calls.specs.Elsewhere.{takes, Roomy}
use Rattle.calls.proofs.Area.{linked-slots, linked-free}
use Rattle.calls.proofs.Beside.{words_same, Sets, parent-same, chain_same, abi-same, late_word, added-held, built-held, generated-held, parents-held}
use Rattle.calls.proofs.BesideFields.{number-fields, added-fields, too_many, generated-refusal, generated-indices}

or-true : (x d e : Bool) → (x || true || d) ≡ (x || true || e)
or-true true d e = refl
or-true false d e = refl

-- ---- plans

pub record SamePlan (p q : Plan) : Type 0 where
  pub table : Tables Any p.table q.table
  pub indices : p.indices ≡ q.indices
  pub methods : members p.added ≡ members q.added
  pub fields : p.new_fields ≡ q.new_fields

pub data SamePlanned : Planned → Planned → Type 0 where
  both-planned : {p q : Plan} → SamePlan p q → SamePlanned (planned p) (planned q)
  both-unplanned : {n : ℕ} → SamePlanned (unplanned n) (unplanned n)

within_same : (p q : Plan) → SamePlan p q → SamePlanned (within_slots p) (within_slots q)
unfolding within_slots
within_same p q s =
    rw (pairs-length s.table)
    (by (ltb 1024 (length q.table)) (λ t. rw t both-unplanned) (λ t. rw t (both-planned s)))

table_same : {b b' : Built} (f g : List Entry → Plan) → SameBuilt Any b b' → ((T U : List Entry) → Tables Any T U → SamePlan (f T) (g U))
    → SamePlanned (on_table b (λ T. within_slots (f T))) (on_table b' (λ T. within_slots (g T)))
table_same f g (both-built {T} {U} h) e = within_same (f T) (g U) (e T U h)
table_same f g both-refused e = both-unplanned

module _ (ws ws' abi : List ℕ) (E : ℕ → Type 0) (sets : Sets ws ws' abi E) where
  abbrev text : List ℕ
  text = text_of ws

  abbrev text' : List ℕ
  text' = text_of ws'

  abbrev labels : List ℕ
  labels = abi_text_of abi

  abbrev same : Same
  same = by_sheets ws abi

  abbrev same' : Same
  same' = by_sheets ws' abi

  kind-same : (d : ℕ) → IsClass ws d → class_kind ws d ≡ class_kind ws' d
  kind-same d l = sets.untouched d kind_word l (omega arith) (early kind_word (omega arith))

  flags-same : (d : ℕ) → IsClass ws d → class_flags ws d ≡ class_flags ws' d
  flags-same d l = sets.untouched d flags_word l (omega arith) (early flags_word (omega arith))

  module _ (area area' : List ℕ) (d : ℕ) (l : IsClass ws d) (here : E d)
      (held : (e : ℕ) → Memᴰ e (chain ws (parent_of ws d)) → Held ws ws' area area' e) where
    built-plan : SamePlanned (plan_built same ws text abi labels area d) (plan_built same' ws' text' abi labels area' d)
    unfolding plan_built
    built-plan =
        let own' = class_abi ws' text' abi labels d in
        rw (abi-same ws ws' abi E sets d l, too_many ws ws' abi E sets d l here (class_abi ws' text' abi labels d))
        (by (too_many_words ws' text' abi labels (class_abi ws' text' abi labels d) d) (λ t. rw t both-unplanned)
        (λ t.
        rw t
        (table_same
        (λ T. record {
          table = T;
          indices = (number_fields ws text abi labels (class_abi ws' text' abi labels d) d).indices;
          added = [];
          new_fields = new_fields_of abi labels (added_fields ws text abi labels (class_abi ws' text' abi labels d) d);
        })
        (λ T. record {
          table = T;
          indices = (number_fields ws' text' abi labels (class_abi ws' text' abi labels d) d).indices;
          added = [];
          new_fields = new_fields_of abi labels (added_fields ws' text' abi labels (class_abi ws' text' abi labels d) d);
        })
        (built_less (λ m k r. tt) (built-held ws ws' abi E sets area area' d l here held))
        (λ T U h. record {
          table = h;
          indices = rw (number-fields ws ws' abi E sets d l here (class_abi ws' text' abi labels d)) refl;
          methods = refl;
          fields = rw (added-fields ws ws' abi E sets d l here (class_abi ws' text' abi labels d)) refl;
        }))))

    generated-methods : members (generated_methods same ws text abi labels area d) ≡ members (generated_methods same' ws' text' abi labels area' d)
    unfolding generated_methods members
    generated-methods =
        rw (← late_word ws ws' abi E sets d compiler_table_word l (omega arith) (omega arith) (omega arith))
        (by (eqb (class_compiler_table ws d) 0) (λ t. rw t refl)
        (λ t. rw t (members_same (added-held ws ws' abi E sets area area' d l here held))))

    generated-plan : SamePlanned (plan_generated same ws text abi labels area d) (plan_generated same' ws' text' abi labels area' d)
    unfolding plan_generated
    generated-plan =
        rw (generated-refusal ws ws' abi E sets d l here)
        (by (eqb (generated_refusal ws' text' d) 0)
        (λ t.
        rw t
        (table_same
        (λ T. record { table = T; indices = generated_indices ws text d; added = generated_methods same ws text abi labels area d; new_fields = [] })
        (λ T. record { table = T; indices = generated_indices ws' text' d; added = generated_methods same' ws' text' abi labels area' d; new_fields = [] })
        (generated-held ws ws' abi E sets area area' d l here held)
        (λ T U h. record { table = h; indices = generated-indices ws ws' abi E sets d l here; methods = generated-methods; fields = refl })))
        (λ t. rw t both-unplanned))

    array-plan : SamePlanned (plan_array same ws text abi labels area d) (plan_array same' ws' text' abi labels area' d)
    unfolding plan_array
    array-plan =
        within_same _ _
        (record {
          table = tables_less (λ m k r. tt) (parents-held ws ws' abi E sets area area' d l here held);
          indices = refl;
          methods = refl;
          fields = refl;
        })

    pub plan-same : SamePlanned (plan same ws text abi labels area d) (plan same' ws' text' abi labels area' d)
    unfolding plan
    plan-same =
        rw (← kind-same d l)
        (by (is_built_kind (class_kind ws d)) (λ t. rw t built-plan)
        (λ t. rw t (by (eqb (class_kind ws d) 1) (λ u. rw u generated-plan) (λ u. rw u array-plan))))

  -- ---- rows 6 and 26

  linked-same : (d : ℕ) → IsClass ws d → E d → is_linked ws d ≡ is_linked ws' d
  linked-same d l e = ap not (sets.linked d l e)

  pub none-same : (d : ℕ) → no_class ws d ≡ no_class ws' d
  unfolding no_class
  none-same d = rw sets.classes refl

  module _ (d : ℕ) (l : IsClass ws d) (here : E d) where
    parent-class : parent_of ws d ≢ 0 → IsClass ws (parent_of ws d) × E (parent_of ws d)
    parent-class n =
        let w = parent-within ws d in
        let k : Memᴰ (parent_of ws d) (chain ws (parent_of ws d)) =
        rw (chain_more ws (parent_of ws d) (omega arith)) (mathlib.Core.List.Memᴰ.head refl) in
        ((omega arith, omega (arith, l.1)), sets.up d (parent_of ws d) l here (rw (chain_more ws d l.0) (mathlib.Core.List.Memᴰ.tail k)))

    array_same : bad_array ws text d ≡ bad_array ws' text' d
    unfolding bad_array
    array_same =
        rw (
          kind-same d l,
          sets.word d method_count_word l here (omega arith) (record { method = omega arith; field = omega arith; place = omega arith }),
          sets.word d field_count_word l here (omega arith) (record { method = omega arith; field = omega arith; place = omega arith }),
          ← parent-same ws ws' abi E sets d l,
        )
        (by (eqb (parent_of ws d) 0)
        (λ t.
        rw t
        (ap (λ (b : Bool). eqb (class_kind ws' d) 2 && b)
        (or-true (not (eqb (class_method_count ws' d) 0) || not (eqb (class_field_count ws' d) 0))
        (not (same_bytes (class_name ws text (parent_of ws d)) object_name)) (not (same_bytes (class_name ws' text' (parent_of ws d)) object_name)))))
        (λ t. rw (t, sets.name (parent_of ws d) (parent-class (eqb-false (parent_of ws d) 0 t)).0) refl))

    upper_same : (not (eqb (parent_of ws d) 0) && not (is_linked ws (parent_of ws d)))
        ≡ (not (eqb (parent_of ws' d) 0) && not (is_linked ws' (parent_of ws' d)))
    upper_same =
        rw (← parent-same ws ws' abi E sets d l)
        (by (eqb (parent_of ws d) 0) (λ t. rw t refl)
        (λ t. let p = parent-class (eqb-false (parent_of ws d) 0 t) in rw (t, linked-same (parent_of ws d) p.0 p.1) refl))

    pub bad-same : bad_class ws text d ≡ bad_class ws' text' d
    unfolding bad_class
    bad-same = rw (none-same d, linked-same d l here, upper_same, array_same) refl

    unfit_same : (e : ℕ) → IsClass ws e → unfit_for_packages ws text abi labels e ≡ unfit_for_packages ws' text' abi labels e
    unfolding unfit_for_packages
    unfit_same e k = rw (kind-same e k, flags-same e k, abi-same ws ws' abi E sets e k) refl

    pub packages-same : bad_packages ws text abi labels d ≡ bad_packages ws' text' abi labels d
    unfolding bad_packages
    packages-same =
        let u : some (unfit_for_packages ws text abi labels) (chain ws d) ≡ some (unfit_for_packages ws' text' abi labels) (chain ws d) =
        some-ext (unfit_for_packages ws text abi labels) (unfit_for_packages ws' text' abi labels) (chain ws d)
        (λ e i. let b = chain-within ws d e i in unfit_same e (omega arith, omega (arith, l.1))) in
        let v : some (is_packaged ws) (chain ws d) ≡ some (is_packaged ws') (chain ws d) =
        some-ext (is_packaged ws) (is_packaged ws') (chain ws d)
        (λ e i. let b = chain-within ws d e i in ap (λ (k : ℕ). eqb k 3) (kind-same e (omega arith, omega (arith, l.1)))) in
        rw (← chain_same ws ws' abi E sets d l.1, kind-same d l, u, v) refl

-- ---- rows 14 and 15, then the effect

pub record Finished (area stubs : List ℕ) (c : ℕ) (T : List Entry) (o : Outcome) : Type 0 where
  pub room : Fits area stubs (length T)
  pub number : o.refusal ≡ 0
  pub place : o.first ≡ next_free area
  pub slots : o.second ≡ length T
  pub new-area : o.area ≡ linked_area area c T stubs

module _ (ws abi : List ℕ) (c : ℕ) (area stubs missing : List ℕ) (p : Plan) where
  abbrev short : Bool
  short = no_room area stubs (length p.table) || set_short ws c p || missing_short ws missing

  is-full : lists_full ws c p ≡ true → (finish_link ws abi c area stubs missing p).outcome.refusal ≡ 14
  unfolding finish_link
  is-full t = rw t refl

  is-short : lists_full ws c p ≡ false → short ≡ true → (finish_link ws abi c area stubs missing p).outcome.refusal ≡ 15
  unfolding finish_link
  is-short t u = rw (t, u) refl

  is-done : lists_full ws c p ≡ false → short ≡ false → Finished area stubs c p.table (finish_link ws abi c area stubs missing p).outcome
  unfolding finish_link
  is-done t u =
      let v = (or-neither (no_room area stubs (length p.table) || set_short ws c p) (missing_short ws missing) u).0 in
      rw (t, u)
      (record {
        room = fits area stubs (length p.table) (or-neither (no_room area stubs (length p.table)) (set_short ws c p) v).0;
        number = refl;
        place = refl;
        slots = refl;
        new-area = refl;
      })

  finished : Roomy (finish_link ws abi c area stubs missing p).outcome
      → Finished area stubs c p.table (finish_link ws abi c area stubs missing p).outcome
  finished n =
      by (lists_full ws c p) (λ t. absurd (n.0 (is-full t)))
      (λ t. by short (λ u. absurd (n.1 (is-short t u))) (λ u. is-done t u))

-- what two links answer: places aside, the same
pub record SameLink (area area' : List ℕ) (o o' : Outcome) : Type 0 where
  pub refusal : o.refusal ≡ o'.refusal
  pub took : takes area o ≡ takes area' o'
  pub slots : o.second ≡ o'.second
  pub words : table_at o.area o.first o.second ≡ table_at o'.area o'.first o'.second

pub refused-same : (n : ℕ) (ws ws' area area' : List ℕ) → SameLink area area' (refused_call n ws area) (refused_call n ws' area')
refused-same n ws ws' area area' = record {
  refusal = refl;
  took = rw (eq-eqb (next_free area) (next_free area) refl, eq-eqb (next_free area') (next_free area') refl) refl;
  slots = refl;
  words = refl;
}

did-take : (area stubs : List ℕ) (c : ℕ) (T : List Entry) (o : Outcome) → next_free area ≢ 0 → Finished area stubs c T o → takes area o ≡ true
did-take area stubs c T o n f =
    let e = linked-free area c T stubs n f.room.free in
    rw (f.new-area, e, ne_eqb (next_free area + length T + 2) (next_free area) (λ q. omega arith)) refl

slot-words : (area stubs : List ℕ) (c : ℕ) (T : List Entry) (o : Outcome) → next_free area ≢ 0 → Finished area stubs c T o
    → table_at o.area o.first o.second ≡ slot_words stubs 0 T
slot-words area stubs c T o n f = rw (f.new-area, f.place, f.slots) (linked-slots area c T stubs n f.room.free)

finished-same : (area area' stubs : List ℕ) (c : ℕ) (T U : List Entry) (o o' : Outcome) → next_free area ≢ 0 → next_free area' ≢ 0 → Tables Any T U
    → Finished area stubs c T o → Finished area' stubs c U o' → SameLink area area' o o'
finished-same area area' stubs c T U o o' n n' h f g = record {
  refusal = f.number ∙ sym g.number;
  took = did-take area stubs c T o n f ∙ sym (did-take area' stubs c U o' n' g);
  slots = f.slots ∙ pairs-length h ∙ sym g.slots;
  words = slot-words area stubs c T o n f ∙ words_same stubs 0 h ∙ sym (slot-words area' stubs c U o' n' g);
}

-- ---- the call

abbrev pub finished_by : List ℕ → List ℕ → ℕ → List ℕ → List ℕ → List ℕ → Planned → LinkOutcome
finished_by ws abi c area stubs missing P = on_plan P (finish_link ws abi c area stubs missing) (λ k. refused_link k ws area missing)

module _ (ws ws' abi area area' stubs missing missing' : List ℕ) (c : ℕ) (n : next_free area ≢ 0) (n' : next_free area' ≢ 0) where
  pub planned-link : {P Q : Planned} → SamePlanned P Q → Roomy (finished_by ws abi c area stubs missing P).outcome
      → Roomy (finished_by ws' abi c area' stubs missing' Q).outcome
      → SameLink area area' (finished_by ws abi c area stubs missing P).outcome (finished_by ws' abi c area' stubs missing' Q).outcome
  planned-link (both-planned {p} {q} s) r r' =
      finished-same area area' stubs c p.table q.table (finish_link ws abi c area stubs missing p).outcome
      (finish_link ws' abi c area' stubs missing' q).outcome n n' s.table (finished ws abi c area stubs missing p r)
      (finished ws' abi c area' stubs missing' q r')
  planned-link (both-unplanned {n = k}) r r' = refused-same k ws ws' area area'
