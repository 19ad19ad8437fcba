-- A link of a class that is alike in two states, accepted in both: it comes to the same plan, so what it writes is alike, and the relation holds after it.
-- Assumes nothing.
use mathlib.Core.Path.{◌≡◌, refl, sym, ap, ◌∙◌}
use mathlib.Core.Logic.{◌≢◌, inl, inr}
use mathlib.Core.Bool.{false}
use mathlib.Core.List.{List}
use Prim.Native.Nat.{ℕ, ◌+◌, ◌-◌, ◌<◌}
use native.Mathlib.Omega.{arith}
use lib.ListN.{length, get_or}
use lib.Dec.{eqb, ltb}
use borrow.Author.Tests.{eqb-true, eqb-false, eq-eqb, ne_eqb, ltb-true, ltb-false}
use Rattle.words.proofs.Bools.{by}
use Rattle.words.proofs.Lists.{part_at}
use Rattle.class_sheet.specs.ClassSheet.{class_width, first_method_word, method_count_word, first_field_word, field_count_word, instance_words_word, table_place_word, slot_count_word, static_words_word, index_word, kind_word, method_count, field_count, text_of, class_word, class_kind, class_first_method, class_method_count, class_first_field, class_field_count, class_table_place, class_slot_count, field_word, field_name, field_descriptor, field_flags, field_index}
use Rattle.abi_sheet.specs.AbiSheet.{abi_text_of}
use Rattle.set_rules.specs.SetRules.{set_refusal}
use Rattle.set_rules.specs.Valid.{IsClass, Valid}
use Rattle.set_rules.proofs.Valid.{valid}
use Rattle.linking.specs.Chain.{chain}
use Rattle.linking.specs.Abi.{class_abi}
use Rattle.linking.specs.Vtable.{Built}
use Rattle.linking.specs.Compiler.{New, no_new, members}
use Rattle.linking.specs.Link.{HasTable, next_free, Plan, is_none, new_words, new_statics, Outcome}
use Rattle.linking.specs.Ask.{missed, head_place}
use Rattle.linking.proofs.LinkRead.{After, class-name, field-name, field-descriptor}
use Rattle.linking.proofs.LinkedBack.{Untouched, early}
use Rattle.linking.proofs.Pairs.{pairs-length}
use Rattle.linking.proofs.RenumberedPackages.{Held}
use Rattle.linking.proofs.Rows.{sound}
use Rattle.calls.specs.Calls.{State, table_at}
use Rattle.calls.proofs.Area.{linked-slots}
use Rattle.calls.proofs.Linked.{Leaves}
use Rattle.calls.proofs.Beside.{words_same, Unplaced, SameMethod, SameField, Sets, chain_same, abi-same}
use Rattle.calls.proofs.BesideFields.{built-words, static-words}
use Rattle.calls.proofs.BesideLink.{SamePlan}
use Rattle.calls.proofs.BesideAsk.{SameWalk, both-missed}
use Rattle.calls.proofs.BesideNext.{method_turned, field_turned, method_then, field_then, left_word, method-left, after-sets, held_turned, held_then, walk_turned, walk_then}
use Rattle.calls.proofs.Wrote.{plan_from, Wrote, wrote_after, wrote_leaves, wrote_still, wrote_listed, wrote_brings, wrote_words, wrote_statics, wrote_added, wrote_fields-added, wrote_indices, wrote_field, wrote_index, wrote_past, wrote_fields, wrote_sound, wrote_parent}
use Rattle.calls.proofs.Elsewhere.{walk_of, Related}
use Rattle.calls.proofs.NodeLists.{missed_too, few, misses, Layout}
use Rattle.calls.proofs.Walk.{ended}
use Rattle.calls.proofs.NodeLinks.{linked-was, wrote_agree, new_word, wrote_walks}

-- ---- one run: another class's members, and its own

-- two fields of one name, descriptor and flags
record SameParts (ws ws' : List ℕ) (f g : ℕ) : Type 0 where
  name : field_name ws (text_of ws) f ≡ field_name ws' (text_of ws') g
  descriptor : field_descriptor ws (text_of ws) f ≡ field_descriptor ws' (text_of ws') g
  flags : field_flags ws f ≡ field_flags ws' g

module _ (abi : List ℕ) (E : ℕ → Type 0) (s : State) (c : ℕ) (stubs : List ℕ) (B : Built) (o : Outcome)
    (w : Wrote s.set abi c s.area stubs (plan_from s.set abi s.area B c) o) where
  abbrev ws : List ℕ
  ws = s.set

  here : IsClass ws c
  here = (w.class.some, w.class.among)

  ok : Valid ws
  ok = (valid ws abi w.valid).0

  after : After ws o.set c
  after = wrote_after ws abi c s.area stubs B o w

  other_word : (d k : ℕ) → IsClass ws d → d ≢ c → k < class_width → class_word o.set d k ≡ class_word ws d k
  other_word d k l n b = after.others d k l.0 l.1 b n

  -- method j of another class
  other-method : (d j : ℕ) → IsClass ws d → d ≢ c → j < class_method_count ws d
      → SameMethod ws o.set abi E (class_first_method ws d + j) (class_first_method o.set d + j)
  other-method d j l n h =
      let v = (ok.class d l).methods in
      rw (other_word d first_method_word l n (omega arith))
      (method-left ws o.set abi E c ok after (class_first_method ws d + j) (class_first_method ws d + j) (omega arith)
      (λ k b. after.method (class_first_method ws d + j) k (omega arith) b))

  other-field : (d j : ℕ) → IsClass ws d → d ≢ c → j < class_field_count ws d
      → SameField ws o.set abi E (class_first_field ws d + j) (class_first_field o.set d + j)
  other-field d j l n h =
      rw (other_word d first_field_word l n (omega arith)) (wrote_fields ws abi c s.area stubs B o w E d j l n h)

  -- method j of the class itself that it had
  own-method : (j : ℕ) → j < class_method_count ws c → SameMethod ws o.set abi E (class_first_method ws c + j) (class_first_method o.set c + j)
  own-method j h =
      let v = (ok.class c here).methods in
      by (is_none (members w.coming.added))
      (λ t.
      rw (wrote_still ws abi c s.area stubs B o w t first_method_word (omega arith))
      (method-left ws o.set abi E c ok after (class_first_method ws c + j) (class_first_method ws c + j) (omega arith)
      (λ k b. after.method (class_first_method ws c + j) k (omega arith) b)))
      (λ t.
      let a = wrote_added ws abi c s.area stubs B o w t in
      rw a.first
      (method-left ws o.set abi E c ok after (class_first_method ws c + j) (method_count ws + j) (omega arith) (λ k b. a.copied j k h b)))

  -- field j that it had: all but its index, which is the one given
  own_name : (j : ℕ) → j < class_field_count ws c → SameParts ws o.set (class_first_field ws c + j) (class_first_field o.set c + j)
  own_name j h =
      let v = (ok.class c here).fields in
      by (is_none w.coming.new_fields)
      (λ t.
      rw (wrote_listed ws abi c s.area stubs B o w t first_field_word (inl refl))
      (parts-of (class_first_field ws c + j) (class_first_field ws c + j) (omega arith)
      (λ k b. wrote_field ws abi c s.area stubs B o w t (class_first_field ws c + j) k (omega arith) (omega arith) (omega arith))))
      (λ t.
      let a = wrote_fields-added ws abi c s.area stubs B o w t in
      rw a.first (parts-of (class_first_field ws c + j) (field_count ws + j) (omega arith) (λ k b. a.copied j k h (omega arith) (omega arith))))
    where
      parts-of : (m k : ℕ) → m < field_count ws → ((v : ℕ) → v < index_word → field_word o.set k v ≡ field_word ws m v) → SameParts ws o.set m k
      parts-of m k h same = record {
        name = sym (field-name ws o.set c ok after m k h same);
        descriptor = sym (field-descriptor ws o.set c ok after m k h same);
        flags = sym (same 4 (omega arith));
      }

-- ---- both runs

same_none : {p q : Plan} → SamePlan p q → is_none (members p.added) ≡ is_none (members q.added)
same_none h = ap is_none h.methods

same_no_field : {p q : Plan} → SamePlan p q → is_none p.new_fields ≡ is_none q.new_fields
same_no_field h = ap is_none h.fields

module _ (abi : List ℕ) (E : ℕ → Type 0) (s t : State) (rel : Related abi E s t) (lay : Layout s) (lay' : Layout t) (c : ℕ) (calm : E c) (stubs : List ℕ)
    (B B' : Built) (o o' : Outcome) (w : Wrote s.set abi c s.area stubs (plan_from s.set abi s.area B c) o)
    (w' : Wrote t.set abi c t.area stubs (plan_from t.set abi t.area B' c) o')
    (same : SamePlan w.coming w'.coming) (stays : set_refusal o.set abi ≡ 0) (stays' : set_refusal o'.set abi ≡ 0) where
  abbrev sets : Sets s.set t.set abi E
  sets = rel.sets

  one : IsClass s.set c
  one = here abi E s c stubs B o w

  was : After s.set o.set c
  was = after abi E s c stubs B o w

  was' : After t.set o'.set c
  was' = after abi E t c stubs B' o' w'

  old : (d : ℕ) → IsClass o.set d → IsClass s.set d
  old d l = (l.0, omega (arith, l.1, was.classes))

  there : (d : ℕ) → IsClass s.set d → IsClass t.set d
  there d l = (l.0, omega (arith, l.1, sets.classes))

  kept_word : (k : ℕ) → k < class_width → Unplaced k → class_word s.set c k ≡ class_word t.set c k
  kept_word k b u = sets.word c k one calm b u

  kinds : class_kind s.set c ≡ class_kind t.set c
  kinds = sets.untouched c kind_word one (omega arith) (early kind_word (omega arith))

  -- ---- its record

  counts_same : class_method_count o.set c ≡ class_method_count o'.set c
  counts_same =
      let k : class_method_count s.set c ≡ class_method_count t.set c =
      kept_word method_count_word (omega arith) (record { method = omega arith; field = omega arith; place = omega arith }) in
      by (is_none (members w.coming.added))
      (λ t₁.
      let t₂ = sym (same_none same) ∙ t₁ in
      wrote_still s.set abi c s.area stubs B o w t₁ method_count_word (omega arith) ∙ k
      ∙ sym (wrote_still t.set abi c t.area stubs B' o' w' t₂ method_count_word (omega arith)))
      (λ t₁.
      let t₂ = sym (same_none same) ∙ t₁ in
      let a = (wrote_added s.set abi c s.area stubs B o w t₁).many in
      let b = (wrote_added t.set abi c t.area stubs B' o' w' t₂).many in
      let n = ap length same.methods in
      omega arith)

  fields-same : class_field_count o.set c ≡ class_field_count o'.set c
  fields-same =
      let k : class_field_count s.set c ≡ class_field_count t.set c =
      kept_word field_count_word (omega arith) (record { method = omega arith; field = omega arith; place = omega arith }) in
      by (is_none w.coming.new_fields)
      (λ t₁.
      let t₂ = sym (same_no_field same) ∙ t₁ in
      wrote_listed s.set abi c s.area stubs B o w t₁ field_count_word (inr refl) ∙ k
      ∙ sym (wrote_listed t.set abi c t.area stubs B' o' w' t₂ field_count_word (inr refl)))
      (λ t₁.
      let t₂ = sym (same_no_field same) ∙ t₁ in
      let a = (wrote_fields-added s.set abi c s.area stubs B o w t₁).many in
      let b = (wrote_fields-added t.set abi c t.area stubs B' o' w' t₂).many in
      let n = ap length same.fields in
      omega arith)

  given_words_lem : new_words s.set (text_of s.set) abi (abi_text_of abi) c ≡ new_words t.set (text_of t.set) abi (abi_text_of abi) c
  unfolding new_words
  given_words_lem =
      rw (
        kinds,
        abi-same s.set t.set abi E sets c one,
        built-words s.set t.set abi E sets c one calm (class_abi t.set (text_of t.set) abi (abi_text_of abi) c),
      ) refl

  given_statics : new_statics s.set (text_of s.set) c ≡ new_statics t.set (text_of t.set) c
  unfolding new_statics
  given_statics = rw (kinds, static-words s.set t.set abi E sets c one calm) refl

  instance-same : class_word o.set c instance_words_word ≡ class_word o'.set c instance_words_word
  instance-same =
      by (eqb (class_kind s.set c) 1)
      (λ g.
      let k = eqb-true (class_kind s.set c) 1 g in
      wrote_brings s.set abi c s.area stubs B o w k instance_words_word (inl refl)
      ∙ kept_word instance_words_word (omega arith) (record { method = omega arith; field = omega arith; place = omega arith })
      ∙ sym (wrote_brings t.set abi c t.area stubs B' o' w' (sym kinds ∙ k) instance_words_word (inl refl)))
      (λ g.
      let n = eqb-false (class_kind s.set c) 1 g in
      wrote_words s.set abi c s.area stubs B o w n ∙ given_words_lem
      ∙ sym (wrote_words t.set abi c t.area stubs B' o' w' (λ e. n (kinds ∙ e))))

  statics-same : class_word o.set c static_words_word ≡ class_word o'.set c static_words_word
  statics-same =
      by (eqb (class_kind s.set c) 1)
      (λ g.
      let k = eqb-true (class_kind s.set c) 1 g in
      wrote_brings s.set abi c s.area stubs B o w k static_words_word (inr refl)
      ∙ kept_word static_words_word (omega arith) (record { method = omega arith; field = omega arith; place = omega arith })
      ∙ sym (wrote_brings t.set abi c t.area stubs B' o' w' (sym kinds ∙ k) static_words_word (inr refl)))
      (λ g.
      let n = eqb-false (class_kind s.set c) 1 g in
      wrote_statics s.set abi c s.area stubs B o w n ∙ given_statics
      ∙ sym (wrote_statics t.set abi c t.area stubs B' o' w' (λ e. n (kinds ∙ e))))

  left-slots : Leaves s.set o.set c (next_free s.area) (length w.coming.table)
  left-slots = wrote_leaves s.set abi c s.area stubs B o w

  left_slots' : Leaves t.set o'.set c (next_free t.area) (length w'.coming.table)
  left_slots' = wrote_leaves t.set abi c t.area stubs B' o' w'

  slots_same : class_slot_count o.set c ≡ class_slot_count o'.set c
  slots_same = left-slots.slots ∙ pairs-length same.table ∙ sym left_slots'.slots

  own-word : (k : ℕ) → k < class_width → Unplaced k → class_word o.set c k ≡ class_word o'.set c k
  own-word k b u =
      by (eqb k method_count_word) (λ e. rw (eqb-true k method_count_word e) counts_same)
      (λ n₁.
      by (eqb k field_count_word) (λ e. rw (eqb-true k field_count_word e) fields-same)
      (λ n₂.
      by (eqb k instance_words_word) (λ e. rw (eqb-true k instance_words_word e) instance-same)
      (λ n₃.
      by (eqb k static_words_word) (λ e. rw (eqb-true k static_words_word e) statics-same)
      (λ n₄.
      by (eqb k slot_count_word) (λ e. rw (eqb-true k slot_count_word e) slots_same)
      (λ n₅.
      let untouched : Untouched k = record {
        first-method = u.method;
        number_of_methods = eqb-false k method_count_word n₁;
        first_field = u.field;
        number_of_fields = eqb-false k field_count_word n₂;
        words = eqb-false k instance_words_word n₃;
        place = u.place;
        slots = eqb-false k slot_count_word n₅;
        statics = eqb-false k static_words_word n₄;
      } in
      was.own k b untouched ∙ sets.untouched c k one b untouched ∙ sym (was'.own k b untouched))))))

  -- ---- its members

  new-method : is_none (members w.coming.added) ≡ false → (j i : ℕ) → j ≡ class_method_count s.set c + i → i < length (members w.coming.added)
      → SameMethod o.set o'.set abi E (class_first_method o.set c + j) (class_first_method o'.set c + j)
  new-method t₁ j i e h =
      let t₂ = sym (same_none same) ∙ t₁ in
      let a = wrote_added s.set abi c s.area stubs B o w t₁ in
      let b = wrote_added t.set abi c t.area stubs B' o' w' t₂ in
      let h' : i < length (members w'.coming.added) = omega (arith, ap length same.methods) in
      let k : class_method_count s.set c ≡ class_method_count t.set c =
      kept_word method_count_word (omega arith) (record { method = omega arith; field = omega arith; place = omega arith }) in
      rw (a.first, b.first, e)
      (record {
        name = a.new-name i h ∙ ap (λ (x : List New). (get_or x i no_new).name) same.methods ∙ sym (rw k (b.new-name i h'));
        descriptor = a.new-descriptor i h ∙ ap (λ (x : List New). (get_or x i no_new).descriptor) same.methods ∙ sym (rw k (b.new-descriptor i h'));
        flags = a.new-flags i h ∙ ap (λ (x : List New). (get_or x i no_new).flags) same.methods ∙ sym (rw k (b.new-flags i h'));
        target = a.new-target i h ∙ ap (λ (x : List New). (get_or x i no_new).last) same.methods ∙ sym (rw k (b.new-target i h'));
      })

  old-method : (j : ℕ) → j < class_method_count s.set c
      → SameMethod o.set o'.set abi E (class_first_method o.set c + j) (class_first_method o'.set c + j)
  old-method j h =
      let k : class_method_count s.set c ≡ class_method_count t.set c =
      kept_word method_count_word (omega arith) (record { method = omega arith; field = omega arith; place = omega arith }) in
      method_then abi E (method_turned abi E (own-method abi E s c stubs B o w j h))
      (method_then abi E (sets.method c j one calm h) (own-method abi E t c stubs B' o' w' j (omega arith)))

  method-next : (j : ℕ) → j < class_method_count o.set c
      → SameMethod o.set o'.set abi E (class_first_method o.set c + j) (class_first_method o'.set c + j)
  method-next j h =
      by (ltb j (class_method_count s.set c)) (λ b. old-method j (ltb-true j (class_method_count s.set c) b))
      (λ b.
      let l = ltb-false j (class_method_count s.set c) b in
      by (is_none (members w.coming.added))
      (λ t₁. let e = wrote_still s.set abi c s.area stubs B o w t₁ method_count_word (omega arith) in absurd (omega arith))
      (λ t₁.
      let m = (wrote_added s.set abi c s.area stubs B o w t₁).many in
      new-method t₁ j (j - class_method_count s.set c) (omega arith) (omega arith)))

  new-field : is_none w.coming.new_fields ≡ false → (j i : ℕ) → j ≡ class_field_count s.set c + i → i < length w.coming.new_fields
      → SameField o.set o'.set abi E (class_first_field o.set c + j) (class_first_field o'.set c + j)
  new-field t₁ j i e h =
      let t₂ = sym (same_no_field same) ∙ t₁ in
      let a = wrote_fields-added s.set abi c s.area stubs B o w t₁ in
      let b = wrote_fields-added t.set abi c t.area stubs B' o' w' t₂ in
      let h' : i < length w'.coming.new_fields = omega (arith, ap length same.fields) in
      let k : class_field_count s.set c ≡ class_field_count t.set c =
      kept_word field_count_word (omega arith) (record { method = omega arith; field = omega arith; place = omega arith }) in
      rw (a.first, b.first, e)
      (record {
        name = a.new-name i h ∙ ap (λ (x : List New). (get_or x i no_new).name) same.fields ∙ sym (rw k (b.new-name i h'));
        descriptor = a.new-descriptor i h ∙ ap (λ (x : List New). (get_or x i no_new).descriptor) same.fields ∙ sym (rw k (b.new-descriptor i h'));
        flags = a.new-flags i h ∙ ap (λ (x : List New). (get_or x i no_new).flags) same.fields ∙ sym (rw k (b.new-flags i h'));
        index = a.new-index i h ∙ ap (λ (x : List New). (get_or x i no_new).last) same.fields ∙ sym (rw k (b.new-index i h'));
      })

  -- the index of a field that it had
  index-next : (j : ℕ) → j < class_field_count s.set c → field_index o.set (class_first_field o.set c + j) ≡ field_index o'.set (class_first_field o'.set c + j)
  index-next j h =
      let k : class_field_count s.set c ≡ class_field_count t.set c =
      kept_word field_count_word (omega arith) (record { method = omega arith; field = omega arith; place = omega arith }) in
      let n = ap length same.indices in
      let given : get_or w.coming.indices j 0 ≡ get_or w'.coming.indices j 0 = ap (λ (x : List ℕ). get_or x j 0) same.indices in
      by (is_none w.coming.new_fields)
      (λ t₁.
      let t₂ = sym (same_no_field same) ∙ t₁ in
      rw (
        wrote_listed s.set abi c s.area stubs B o w t₁ first_field_word (inl refl),
        wrote_listed t.set abi c t.area stubs B' o' w' t₂ first_field_word (inl refl),
      )
      (by (ltb j (length w.coming.indices))
      (λ b.
      let l = ltb-true j (length w.coming.indices) b in
      wrote_index s.set abi c s.area stubs B o w t₁ j l ∙ given ∙ sym (wrote_index t.set abi c t.area stubs B' o' w' t₂ j (omega arith)))
      (λ b.
      let l = ltb-false j (length w.coming.indices) b in
      wrote_past s.set abi c s.area stubs B o w t₁ j l h ∙ (sets.field c j one calm h).index
      ∙ sym (wrote_past t.set abi c t.area stubs B' o' w' t₂ j (omega arith) (omega arith)))))
      (λ t₁.
      let t₂ = sym (same_no_field same) ∙ t₁ in
      let a = wrote_fields-added s.set abi c s.area stubs B o w t₁ in
      let b = wrote_fields-added t.set abi c t.area stubs B' o' w' t₂ in
      let x = wrote_indices s.set abi c s.area stubs B o w t₁ in
      rw (a.first, b.first) (a.copied-index j h (omega arith) ∙ given ∙ sym (b.copied-index j (omega arith) (omega arith))))

  old-field : (j : ℕ) → j < class_field_count s.set c
      → SameField o.set o'.set abi E (class_first_field o.set c + j) (class_first_field o'.set c + j)
  old-field j h =
      let k : class_field_count s.set c ≡ class_field_count t.set c =
      kept_word field_count_word (omega arith) (record { method = omega arith; field = omega arith; place = omega arith }) in
      let a = own_name abi E s c stubs B o w j h in
      let b = own_name abi E t c stubs B' o' w' j (omega arith) in
      let f = sets.field c j one calm h in
      record {
        name = sym a.name ∙ f.name ∙ b.name;
        descriptor = sym a.descriptor ∙ f.descriptor ∙ b.descriptor;
        flags = sym a.flags ∙ f.flags ∙ b.flags;
        index = index-next j h;
      }

  field_next_lem : (j : ℕ) → j < class_field_count o.set c
      → SameField o.set o'.set abi E (class_first_field o.set c + j) (class_first_field o'.set c + j)
  field_next_lem j h =
      by (ltb j (class_field_count s.set c)) (λ b. old-field j (ltb-true j (class_field_count s.set c) b))
      (λ b.
      let l = ltb-false j (class_field_count s.set c) b in
      by (is_none w.coming.new_fields)
      (λ t₁. let e = wrote_listed s.set abi c s.area stubs B o w t₁ field_count_word (inr refl) in absurd (omega arith))
      (λ t₁.
      let m = (wrote_fields-added s.set abi c s.area stubs B o w t₁).many in
      new-field t₁ j (j - class_field_count s.set c) (omega arith) (omega arith)))

  -- ---- the sets

  ok-next : Valid o.set
  ok-next = (valid o.set abi stays).0

  ok-next' : Valid o'.set
  ok-next' = (valid o'.set abi stays').0

  no_sets : Sets s.set o.set abi (λ d. ⊥)
  no_sets =
      after-sets s.set o.set abi (λ d. ⊥) c sets.valid ok-next was (λ d e. absurd e) (λ d e l x i. absurd x) (λ d j l x h. absurd x)

  chain_left : (d : ℕ) → IsClass o.set d → chain s.set d ≡ chain o.set d
  chain_left d l = chain_same s.set o.set abi (λ d. ⊥) no_sets d (old d l).1

  placed-next : eqb (class_table_place o.set c) 0 ≡ false
  placed-next = ne_eqb (class_table_place o.set c) 0 (λ e. (sound s.set s.area rel.sound).some (sym left-slots.place ∙ e))

  placed-next' : eqb (class_table_place o'.set c) 0 ≡ false
  placed-next' = ne_eqb (class_table_place o'.set c) 0 (λ e. (sound t.set t.area rel.sound').some (sym left_slots'.place ∙ e))

  -- a word of another class
  other-next : (d k : ℕ) → IsClass o.set d → d ≢ c → k < class_width → class_word s.set d k ≡ class_word t.set d k
      → class_word o.set d k ≡ class_word o'.set d k
  other-next d k l n b e =
      other_word abi E s c stubs B o w d k (old d l) n b ∙ e ∙ sym (other_word abi E t c stubs B' o' w' d k (there d (old d l)) n b)

  sets-next : Sets o.set o'.set abi E
  sets-next = record {
    valid = ok-next;
    valid' = ok-next';
    classes = was.classes ∙ sets.classes ∙ sym was'.classes;
    name = λ d l.
        let k = old d l in
        let k' = there d k in
        class-name s.set o.set c sets.valid was d k.0 k.1 ∙ sets.name d k
        ∙ sym (class-name t.set o'.set c sets.valid' was' d k'.0 k'.1);
    untouched = λ d k l b u.
        sym (left_word s.set o.set abi E c sets.valid was d k (old d l) b u) ∙ sets.untouched d k (old d l) b u
        ∙ left_word t.set o'.set abi E c sets.valid' was' d k (there d (old d l)) b u;
    interfaces = was.interfaces ∙ sets.interfaces ∙ sym was'.interfaces;
    interface = λ i h.
        let a = was.interfaces in
        let b = sets.interfaces in
        was.interface i (omega arith) ∙ sets.interface i (omega arith) ∙ sym (was'.interface i (omega arith));
    compilers = was.compilers ∙ sets.compilers ∙ sym was'.compilers;
    compiler = λ i h.
        let a = was.compilers in
        let b = sets.compilers in
        was.compiler i (omega arith) ∙ sets.compiler i (omega arith) ∙ sym (was'.compiler i (omega arith));
    up = λ d e l x i. sets.up d e (old d l) x (rw (chain_left d l) i);
    linked = λ d l x.
        by (eqb d c)
        (λ q. let e : d ≡ c = eqb-true d c q in rw e (placed-next ∙ sym placed-next'))
        (λ q.
        let n = eqb-false d c q in
        ap (λ (p : ℕ). eqb p 0) (other_word abi E s c stubs B o w d table_place_word (old d l) n (omega arith)) ∙ sets.linked d (old d l) x
        ∙ sym (ap (λ (p : ℕ). eqb p 0) (other_word abi E t c stubs B' o' w' d table_place_word (there d (old d l)) n (omega arith))));
    word = λ d k l x b u.
        by (eqb d c)
        (λ q. let e : d ≡ c = eqb-true d c q in rw e (own-word k b u))
        (λ q. other-next d k l (eqb-false d c q) b (sets.word d k (old d l) x b u));
    method = λ d j l x h.
        by (eqb d c)
        (λ q. let e : d ≡ c = eqb-true d c q in rw e (method-next j (rw e at h)))
        (λ q.
        let n = eqb-false d c q in
        let m : class_method_count o.set d ≡ class_method_count s.set d = other_word abi E s c stubs B o w d method_count_word (old d l) n (omega arith) in
        let v : class_method_count s.set d ≡ class_method_count t.set d =
        sets.word d method_count_word (old d l) x (omega arith) (record { method = omega arith; field = omega arith; place = omega arith }) in
        method_then abi E (method_turned abi E (other-method abi E s c stubs B o w d j (old d l) n (omega arith)))
        (method_then abi E (sets.method d j (old d l) x (omega arith)) (other-method abi E t c stubs B' o' w' d j (there d (old d l)) n (omega arith))));
    field = λ d j l x h.
        by (eqb d c)
        (λ q. let e : d ≡ c = eqb-true d c q in rw e (field_next_lem j (rw e at h)))
        (λ q.
        let n = eqb-false d c q in
        let m : class_field_count o.set d ≡ class_field_count s.set d = other_word abi E s c stubs B o w d field_count_word (old d l) n (omega arith) in
        let v : class_field_count s.set d ≡ class_field_count t.set d =
        sets.word d field_count_word (old d l) x (omega arith) (record { method = omega arith; field = omega arith; place = omega arith }) in
        field_then abi E (field_turned abi E (other-field abi E s c stubs B o w d j (old d l) n (omega arith)))
        (field_then abi E (sets.field d j (old d l) x (omega arith)) (other-field abi E t c stubs B' o' w' d j (there d (old d l)) n (omega arith))));
  }

  -- ---- the tables

  table-words : (i : ℕ) → i < length w.coming.table → get_or o.area (next_free s.area + 1 + i) 0 ≡ get_or o'.area (next_free t.area + 1 + i) 0
  table-words i h =
      let n = pairs-length same.table in
      sym (part_at o.area (next_free s.area + 1) (length w.coming.table) i 0 h)
      ∙ ap (λ (x : List ℕ). get_or x i 0)
      (ap (λ (x : List ℕ). table_at x (next_free s.area) (length w.coming.table)) w.new-area
      ∙ linked-slots s.area c w.coming.table stubs (sound s.set s.area rel.sound).some w.room.free
      ∙ words_same stubs 0 same.table
      ∙ sym (linked-slots t.area c w'.coming.table stubs (sound t.set t.area rel.sound').some w'.room.free)
      ∙ sym (ap (λ (x : List ℕ). table_at x (next_free t.area) (length w'.coming.table)) w'.new-area))
      ∙ part_at o'.area (next_free t.area + 1) (length w'.coming.table) i 0 (omega arith)

  own_held : Held o.set o'.set o.area o'.area c
  own_held = record {
    linked = placed-next ∙ sym placed-next';
    slots = slots_same;
    words = λ i h. let n = left-slots.slots in rw (left-slots.place, left_slots'.place) (table-words i (omega arith));
  }

  linked-there : (d : ℕ) → E d → HasTable s.set d → HasTable t.set d
  linked-there d x l = record {
    some = l.some;
    among = omega (arith, l.among, sets.classes);
    has = λ e. l.has (eqb-true (class_table_place s.set d) 0 (sets.linked d (l.some, l.among) x ∙ eq-eqb (class_table_place t.set d) 0 e));
  }

  kept-held : (d : ℕ) → d ≢ c → HasTable s.set d → Held s.set o.set s.area o.area d
  kept-held d n l =
      let p : class_table_place o.set d ≡ class_table_place s.set d = other_word abi E s c stubs B o w d table_place_word (l.some, l.among) n (omega arith) in
      let b = (sound s.set s.area rel.sound).below d l in
      record {
        linked = sym (ap (λ (x : ℕ). eqb x 0) p);
        slots = sym (other_word abi E s c stubs B o w d slot_count_word (l.some, l.among) n (omega arith));
        words = λ i h. rw p (sym (wrote_agree abi s c stubs B o w s.missing (class_table_place s.set d + 1 + i) (omega arith) (omega arith)));
      }

  kept_held' : (d : ℕ) → d ≢ c → HasTable t.set d → Held t.set o'.set t.area o'.area d
  kept_held' d n l =
      let p : class_table_place o'.set d ≡ class_table_place t.set d =
      other_word abi E t c stubs B' o' w' d table_place_word (l.some, l.among) n (omega arith) in
      let b = (sound t.set t.area rel.sound').below d l in
      record {
        linked = sym (ap (λ (x : ℕ). eqb x 0) p);
        slots = sym (other_word abi E t c stubs B' o' w' d slot_count_word (l.some, l.among) n (omega arith));
        words = λ i h. rw p (sym (wrote_agree abi t c stubs B' o' w' t.missing (class_table_place t.set d + 1 + i) (omega arith) (omega arith)));
      }

  held_next : (d : ℕ) → E d → HasTable o.set d → Held o.set o'.set o.area o'.area d
  held_next d x l =
      by (eqb d c)
      (λ q. let e : d ≡ c = eqb-true d c q in rw e own_held)
      (λ q.
      let n = eqb-false d c q in
      let k = linked-was abi s c stubs B o w s.missing d n l in
      held_then (held_turned (kept-held d n k)) (held_then (rel.held d x k) (kept_held' d n (linked-there d x k))))

  -- ---- the nodes

  module _ (missing missing' : List ℕ) where
    abbrev next : State
    next = record { set = o.set; area = o.area; missing = missing }

    abbrev next' : State
    next' = record { set = o'.set; area = o'.area; missing = missing' }

    not-linked : HasTable s.set c → ⊥
    not-linked l = l.has w.class.new

    not_linked' : HasTable t.set c → ⊥
    not_linked' l = l.has w'.class.new

    new-missed : (d : ℕ) → HasTable s.set d → (r : ℕ) × (walk_of next d c ≡ missed r)
    new-missed d l =
        let ns = lay.lists d l in
        let f = few s.set s.area ns.nodes in
        let g = sets.valid.number_of_classes in
        let m = misses s.set s.area c 64 0 ns.nodes (omega arith) not-linked in
        missed_too (wrote_walks abi s c stubs B o w missing lay (omega arith) d c l) m.1

    new_missed' : (d : ℕ) → HasTable t.set d → (r : ℕ) × (walk_of next' d c ≡ missed r)
    new_missed' d l =
        let ns = lay'.lists d l in
        let f = few t.set t.area ns.nodes in
        let g = sets.valid'.number_of_classes in
        let m = misses t.set t.area c 64 0 ns.nodes (omega arith) not_linked' in
        missed_too (wrote_walks abi t c stubs B' o' w' missing' lay' (omega arith) d c l) m.1

    -- of another class, for an interface that was linked
    old-nodes : (d j : ℕ) → E d → E j → HasTable s.set d → HasTable s.set j
        → SameWalk o.area o'.area (class_slot_count o.set j) (walk_of next d j) (walk_of next' d j)
    old-nodes d j x y l k =
        let n : j ≢ c = λ e. not-linked (rw e at k) in
        let p : class_slot_count o.set j ≡ class_slot_count s.set j = other_word abi E s c stubs B o w j slot_count_word (k.some, k.among) n (omega arith) in
        let g = sets.valid.number_of_classes in
        let g' = sets.valid'.number_of_classes in
        rw p
        (walk_then (walk_turned (wrote_walks abi s c stubs B o w missing lay (omega arith) d j l))
        (walk_then (rel.nodes d j x y l k)
        (rw (rel.held j y k).slots (wrote_walks abi t c stubs B' o' w' missing' lay' (omega arith) d j (linked-there d x l)))))

    nodes-next : (d j : ℕ) → E d → E j → HasTable o.set d → HasTable o.set j
        → SameWalk o.area o'.area (class_slot_count o.set j) (walk_of next d j) (walk_of next' d j)
    nodes-next d j x y l k =
        by (eqb d c)
        (λ q.
        let e : d ≡ c = eqb-true d c q in
        rw (
          e,
          ended o.area j 64 0 (get_or o.area (head_place o.set c) 0) (new_word abi s c stubs B o w missing),
          ended o'.area j 64 0 (get_or o'.area (head_place o'.set c) 0) (new_word abi t c stubs B' o' w' missing'),
        )
        both-missed)
        (λ q.
        let m = linked-was abi s c stubs B o w s.missing d (eqb-false d c q) l in
        by (eqb j c)
        (λ v.
        let e : j ≡ c = eqb-true j c v in
        let a = new-missed d m in
        let b = new_missed' d (linked-there d x m) in
        rw (e, a.1, b.1) both-missed)
        (λ v. old-nodes d j x y m (linked-was abi s c stubs B o w s.missing j (eqb-false j c v) k)))

    pub link-next : Related abi E next next'
    link-next = record {
      sets = sets-next;
      held = held_next;
      nodes = nodes-next;
      accepted = stays;
      accepted' = stays';
      sound = wrote_sound s.set abi c s.area stubs B o w;
      sound' = wrote_sound t.set abi c t.area stubs B' o' w';
      parent = wrote_parent s.set abi c s.area stubs B o w rel.parent;
      parent' = wrote_parent t.set abi c t.area stubs B' o' w' rel.parent';
    }
