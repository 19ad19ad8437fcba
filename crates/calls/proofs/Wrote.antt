-- A link by any way of making the table (`link_with`): it leaves everything, or writes what an accepted link writes. The linker and the one before ticket 13
-- are both of this form. Assumes nothing.
use mathlib.Core.Path.{◌≡◌, refl, sym, ap, ◌∙◌, subst}
use mathlib.Core.Logic.{◌⊎◌, inl, inr, ◌≢◌}
use mathlib.Core.Bool.{true, false, ◌||◌}
use mathlib.Core.List.{List}
use Prim.Native.Nat.{ℕ, ◌+◌, ◌≤◌, ◌<◌}
use native.Mathlib.Omega.{arith}
use lib.ListN.{length, get_or}
use lib.Dec.{eqb, ltb}
use borrow.Author.Tests.{eqb-true, eqb-false, ltb-true, ltb-false}
use Rattle.words.proofs.Bools.{by, or-neither}
use Rattle.class_sheet.specs.ClassSheet.{member_width, first_field_word, field_count_word, instance_words_word, static_words_word, index_word, field_limit, class_word, class_kind, field_index, field_count, text_length, text_words, text_of, field_word, class_first_field, class_field_count, class_table_place, class_slot_count}
use Rattle.abi_sheet.specs.AbiSheet.{abi_text_length, abi_text_words, abi_text_of}
use Rattle.set_rules.specs.SetRules.{set_refusal}
use Rattle.set_rules.specs.Valid.{IsClass, Valid}
use Rattle.set_rules.proofs.Valid.{valid}
use Rattle.linking.specs.Signature.{by_sheets}
use Rattle.linking.specs.Chain.{list_count, own_fields, parent_of}
use Rattle.words.proofs.ListLaws.{length-list-from}
use Rattle.linking.specs.Vtable.{Built}
use Rattle.linking.specs.Compiler.{members}
use Rattle.linking.specs.Set.{new_text}
use Rattle.linking.specs.Packages.{bad_packages}
use Rattle.linking.specs.Link.{HasTable, bad_class, next_free, bad_area, Plan, Planned, planned, unplanned, is_none, plan_with, new_words, new_statics, lists_full, set_short, no_room, linked_area, linked_words, Outcome, refused_call, finish_link, link_with}
use Rattle.words.specs.Words.{AreBytes}
use Rattle.linking.proofs.Packed.{text-bytes}
use Rattle.linking.proofs.PlansWith.{PlansWith, plans_with}
use Rattle.linking.proofs.LinkRead.{After, link-after, link-still, link_brings, link-words, link-statics, link-listed, Added, link-added, FieldsAdded, link-field, link-index, link-field-other, link-fields-added, field-name, field-descriptor}
use Rattle.linking.proofs.ChainLaws.{parent-within}
use Rattle.linking.proofs.LinkedBack.{early}
use Rattle.linking.proofs.Rows.{Fits, fits, Sound, sound}
use Rattle.calls.proofs.Rows.{ClassOk, class-ok, silent, Untouched}
use Rattle.calls.proofs.Area.{linked-length, linked-free}
use Rattle.calls.proofs.Linked.{Leaves, link_leaves}
use Rattle.linking.specs.Counts.{missing_short}
use Rattle.calls.proofs.BesideLink.{finished_by}
use Rattle.calls.proofs.Beside.{SameField}

-- the plan of a link of class c, where the table that `build_methods` makes is B
abbrev pub plan_from : List ℕ → List ℕ → List ℕ → Built → ℕ → Planned
plan_from ws abi area B c = plan_with (by_sheets ws abi) ws (text_of ws) abi (abi_text_of abi) area B c

pub record Wrote (ws abi : List ℕ) (c : ℕ) (area stubs : List ℕ) (P : Planned) (o : Outcome) : Type 0 where
  pub valid : set_refusal ws abi ≡ 0
  pub class : ClassOk ws c
  pub lent : bad_area ws area ≡ false
  pub coming : Plan
  pub comes : P ≡ planned coming
  pub lists : lists_full ws c coming ≡ false
  pub room : Fits area stubs (length coming.table)
  pub new-set : o.set ≡ linked_words ws c (next_free area) (new_words ws (text_of ws) abi (abi_text_of abi) c) (new_statics ws (text_of ws) c) coming
  pub new-area : o.area ≡ linked_area area c coming.table stubs

module _ (ws abi : List ℕ) (c : ℕ) (area stubs missing : List ℕ) where
  untouched : (n : ℕ) → Untouched (refused_call n ws area) ws area
  untouched n = record { same_set = refl; same_area = refl }

  go_on : set_refusal ws abi ≡ 0 → ClassOk ws c → bad_area ws area ≡ false → (P Q : Planned) → P ≡ Q
      → Untouched (finished_by ws abi c area stubs missing Q).outcome ws area ⊎ Wrote ws abi c area stubs P (finished_by ws abi c area stubs missing Q).outcome
  unfolding finish_link
  go_on v k a P (planned p) e =
      by (lists_full ws c p) (λ t. rw t (inl (untouched 14)))
      (λ t.
      rw t
      (by (no_room area stubs (length p.table) || set_short ws c p || missing_short ws missing) (λ u. rw u (inl (untouched 15)))
      (λ u.
      let x = (or-neither (no_room area stubs (length p.table) || set_short ws c p) (missing_short ws missing) u).0 in
      rw u
      (inr (record {
        valid = v;
        class = k;
        lent = a;
        coming = p;
        comes = e;
        lists = t;
        room = fits area stubs (length p.table) (or-neither (no_room area stubs (length p.table)) (set_short ws c p) x).0;
        new-set = refl;
        new-area = refl;
      })))))
  go_on v k a P (unplanned n) e = inl (untouched n)

  pub with_cases : (P : Planned)
      → Untouched (link_with P ws abi c area stubs missing).outcome ws area ⊎ Wrote ws abi c area stubs P (link_with P ws abi c area stubs missing).outcome
  with_cases P =
      by (eqb (set_refusal ws abi) 0)
      (λ v.
      rw v
      (by (bad_class ws (text_of ws) c) (λ t. rw t (inl (untouched 6)))
      (λ t.
      rw t
      (by (bad_area ws area) (λ u. rw u (inl (untouched 7)))
      (λ u.
      rw u
      (by (bad_packages ws (text_of ws) abi (abi_text_of abi) c) (λ k. rw k (inl (untouched 26)))
      (λ k. rw k (go_on (eqb-true (set_refusal ws abi) 0 v) (class-ok ws (text_of ws) c t) u P P refl))))))))
      (λ v. rw v (inl (untouched (set_refusal ws abi))))

-- ---- what it leaves

module _ (ws abi : List ℕ) (c : ℕ) (area stubs : List ℕ) (B : Built) (o : Outcome)
    (w : Wrote ws abi c area stubs (plan_from ws abi area B c) o) where
  abbrev p : Plan
  p = w.coming

  here : IsClass ws c
  here = (w.class.some, w.class.among)

  ok : Valid ws
  ok = (valid ws abi w.valid).0

  planning : PlansWith (by_sheets ws abi) ws (text_of ws) abi (abi_text_of abi) area c p
  planning = plans_with (by_sheets ws abi) ws (text_of ws) abi (abi_text_of abi) area c B p w.comes

  inside : class_first_field ws c + length p.indices ≤ field_count ws
  inside = let v = (ok.class c here).fields in let i = planning.indices in omega arith

  method-bytes : AreBytes (new_text (members p.added))
  method-bytes = planning.method-bytes (text-bytes (text_words ws) (text_length ws)) (text-bytes (abi_text_words abi) (abi_text_length abi))

  field-bytes : AreBytes (new_text p.new_fields)
  field-bytes = planning.field-bytes (text-bytes (text_words ws) (text_length ws)) (text-bytes (abi_text_words abi) (abi_text_length abi))

  abbrev words : ℕ
  words = new_words ws (text_of ws) abi (abi_text_of abi) c

  abbrev statics : ℕ
  statics = new_statics ws (text_of ws) c

  pub wrote_after : After ws o.set c
  wrote_after =
      rw w.new-set
      (link-after ws c (next_free area) words statics p here.0 here.1 ok.fits (ok.class c here).methods (ok.class c here).fields inside
      method-bytes field-bytes)

  -- its own record
  pub wrote_still : is_none (members p.added) ≡ true → (k : ℕ) → k < first_field_word → class_word o.set c k ≡ class_word ws c k
  wrote_still t k h =
      rw w.new-set
      (link-still ws c (next_free area) words statics p here.0 here.1 ok.fits (ok.class c here).methods (ok.class c here).fields inside method-bytes
      field-bytes t k h)

  pub wrote_listed : is_none p.new_fields ≡ true → (k : ℕ) → (k ≡ first_field_word) ⊎ (k ≡ field_count_word) → class_word o.set c k ≡ class_word ws c k
  wrote_listed t k h =
      rw w.new-set
      (link-listed ws c (next_free area) words statics p here.0 here.1 ok.fits (ok.class c here).methods (ok.class c here).fields inside method-bytes
      field-bytes t k h)

  pub wrote_brings : class_kind ws c ≡ 1 → (k : ℕ) → (k ≡ instance_words_word) ⊎ (k ≡ static_words_word) → class_word o.set c k ≡ class_word ws c k
  wrote_brings e k h =
      rw w.new-set
      (link_brings ws c (next_free area) words statics p here.0 here.1 ok.fits (ok.class c here).methods (ok.class c here).fields inside method-bytes
      field-bytes e k h)

  pub wrote_words : class_kind ws c ≢ 1 → class_word o.set c instance_words_word ≡ words
  wrote_words n =
      rw w.new-set
      (link-words ws c (next_free area) words statics p here.0 here.1 ok.fits (ok.class c here).methods (ok.class c here).fields inside method-bytes
      field-bytes n)

  pub wrote_statics : class_kind ws c ≢ 1 → class_word o.set c static_words_word ≡ statics
  wrote_statics n =
      rw w.new-set
      (link-statics ws c (next_free area) words statics p here.0 here.1 ok.fits (ok.class c here).methods (ok.class c here).fields inside method-bytes
      field-bytes n)

  -- its lists
  pub wrote_added : is_none (members p.added) ≡ false → Added ws o.set c (members p.added)
  wrote_added t =
      subst (λ (x : List ℕ). Added ws x c (members w.coming.added)) (sym w.new-set)
      (link-added ws c (next_free area) words statics p here.0 here.1 ok.fits (ok.class c here).methods (ok.class c here).fields inside method-bytes
      field-bytes (rw (planning.generated t).1 refl) t)

  pub wrote_fields-added : is_none p.new_fields ≡ false → FieldsAdded ws o.set c p.indices p.new_fields
  wrote_fields-added t =
      subst (λ (x : List ℕ). FieldsAdded ws x c w.coming.indices w.coming.new_fields) (sym w.new-set)
      (link-fields-added ws c (next_free area) words statics p here.0 here.1 ok.fits (ok.class c here).methods (ok.class c here).fields inside method-bytes
      field-bytes t)

  pub wrote_indices : is_none p.new_fields ≡ false → length p.indices ≡ class_field_count ws c
  unfolding own_fields
  wrote_indices t =
      let v = (ok.class c here).fields in
      let n = ok.number_of_fields in
      planning.full t
      ∙ length-list-from (λ m. m) (class_first_field ws c) (list_count (class_first_field ws c) (class_field_count ws c) field_limit) ∙ omega arith

  pub wrote_field : is_none p.new_fields ≡ true → (m k : ℕ) → m < field_count ws → k < member_width → k ≢ index_word → field_word o.set m k ≡ field_word ws m k
  wrote_field t m k h b n =
      rw w.new-set
      (link-field ws c (next_free area) words statics p here.0 here.1 ok.fits (ok.class c here).methods (ok.class c here).fields inside method-bytes
      field-bytes t m k h b n)

  pub wrote_index : is_none p.new_fields ≡ true → (j : ℕ) → j < length p.indices → field_index o.set (class_first_field ws c + j) ≡ get_or p.indices j 0
  wrote_index t j h =
      ap (λ (x : List ℕ). field_index x (class_first_field ws c + j)) w.new-set
      ∙ (link-index ws c (next_free area) words statics p here.0 here.1 ok.fits (ok.class c here).methods (ok.class c here).fields inside method-bytes
      field-bytes t j h)

  pub wrote_past : is_none p.new_fields ≡ true → (j : ℕ) → length p.indices ≤ j → j < class_field_count ws c
      → field_index o.set (class_first_field ws c + j) ≡ field_index ws (class_first_field ws c + j)
  wrote_past t j h b =
      let v = (ok.class c here).fields in
      rw w.new-set
      (link-field-other ws c (next_free area) words statics p here.0 here.1 ok.fits (ok.class c here).methods (ok.class c here).fields inside method-bytes
      field-bytes t (class_first_field ws c + j) index_word (omega arith) (omega arith) (inr (omega arith)))

  -- a field of another class
  field-word-left : (m k : ℕ) → m < field_count ws → k < member_width
      → (m < class_first_field ws c) ⊎ (class_first_field ws c + length p.indices ≤ m) → field_word o.set m k ≡ field_word ws m k
  field-word-left m k h b f =
      rw w.new-set
      (by (is_none p.new_fields)
      (λ t.
      link-field-other ws c (next_free area) words statics p here.0 here.1 ok.fits (ok.class c here).methods (ok.class c here).fields inside
      method-bytes field-bytes t m k h b f)
      (λ t.
      (link-fields-added ws c (next_free area) words statics p here.0 here.1 ok.fits (ok.class c here).methods (ok.class c here).fields inside
      method-bytes field-bytes t).old m k h b))

  outside : (d j : ℕ) → IsClass ws d → d ≢ c → j < class_field_count ws d
      → (class_first_field ws d + j < class_first_field ws c) ⊎ (class_first_field ws c + length p.indices ≤ class_first_field ws d + j)
  outside d j l n h =
      by (ltb (class_first_field ws d + j) (class_first_field ws c)) (λ t. inl (ltb-true _ _ t))
      (λ t.
      by (ltb (class_first_field ws d + j) (class_first_field ws c + length p.indices))
      (λ u.
      let a = ltb-false (class_first_field ws d + j) (class_first_field ws c) t in
      let b = ltb-true (class_first_field ws d + j) (class_first_field ws c + length p.indices) u in
      let i = planning.indices in
      absurd (n (sym (ok.fields c d (class_first_field ws d + j) here l a (omega arith) (omega arith) (omega arith)))))
      (λ u. inr (ltb-false (class_first_field ws d + j) (class_first_field ws c + length p.indices) u)))

  pub wrote_fields : (E : ℕ → Type 0) (d j : ℕ) → IsClass ws d → d ≢ c → j < class_field_count ws d
      → SameField ws o.set abi E (class_first_field ws d + j) (class_first_field ws d + j)
  wrote_fields E d j l n h =
      let v = (ok.class d l).fields in
      let m : ℕ = class_first_field ws d + j in
      let b : class_first_field ws d + j < field_count ws = omega arith in
      let same : (k : ℕ) → k < member_width → field_word o.set (class_first_field ws d + j) k ≡ field_word ws (class_first_field ws d + j) k =
      λ k g. field-word-left (class_first_field ws d + j) k b g (outside d j l n h) in
      record {
        name = sym (field-name ws o.set c ok wrote_after (class_first_field ws d + j) (class_first_field ws d + j) b (λ k g. same k (omega arith)));
        descriptor = sym (field-descriptor ws o.set c ok wrote_after (class_first_field ws d + j) (class_first_field ws d + j) b (λ k g. same k (omega arith)));
        flags = sym (same 4 (omega arith));
        index = sym (same 5 (omega arith));
      }

  pub wrote_leaves : Leaves ws o.set c (next_free area) (length p.table)
  wrote_leaves =
      subst (λ (x : List ℕ). Leaves ws x c (next_free area) (length w.coming.table)) (sym w.new-set)
      (link_leaves ws c (next_free area) words statics p here.0 here.1 ok.fits (ok.class c here).methods (ok.class c here).fields inside
      (λ t. (planning.generated t).0) method-bytes field-bytes)

  -- each table ends below the next free word
  was-sound : Sound ws area
  was-sound = sound ws area w.lent

  next : next_free o.area ≡ next_free area + length p.table + 2
  next = ap (λ (x : List ℕ). next_free x) w.new-area ∙ linked-free area c p.table stubs was-sound.some w.room.free

  long : length o.area ≡ length area
  long = ap (λ (x : List ℕ). length x) w.new-area ∙ (linked-length area c p.table stubs was-sound.some w.room.free)

  end_below : (d : ℕ) → IsClass ws d → class_table_place o.set d ≢ 0 → class_table_place o.set d + class_slot_count o.set d + 2 ≤ next_free o.area
  end_below d l h =
      by (eqb d c)
      (λ t.
      let e : d ≡ c = eqb-true d c t in
      let a : class_table_place o.set d ≡ next_free area = rw e wrote_leaves.place in
      let b : class_slot_count o.set d ≡ length p.table = rw e wrote_leaves.slots in
      let f = next in
      omega arith)
      (λ t.
      let n = eqb-false d c t in
      let a : class_table_place o.set d ≡ class_table_place ws d = wrote_after.others d 15 l.0 l.1 (omega arith) n in
      let b : class_slot_count o.set d ≡ class_slot_count ws d = wrote_after.others d 16 l.0 l.1 (omega arith) n in
      let f = next in
      let g = was-sound.below d (record { some = l.0; among = l.1; has = λ z. h (a ∙ z) }) in
      omega arith)

  pub wrote_sound : bad_area o.set o.area ≡ false
  wrote_sound =
      let f = w.room.free in
      let s = was-sound.short in
      let n = next in
      let g = long in
      silent o.set o.area (record {
        some = λ e. omega arith;
        within = omega arith;
        short = omega arith;
        below = λ d l. let k = wrote_after.classes in let a = l.among in end_below d (l.some, omega arith) l.has;
      })

  -- a linked class's parent is linked
  parent-left : (d : ℕ) → IsClass ws d → parent_of o.set d ≡ parent_of ws d
  unfolding parent_of
  parent-left d l =
      by (eqb d c)
      (λ t. let e : d ≡ c = eqb-true d c t in rw e (rw (wrote_after.own 2 (omega arith) (early 2 (omega arith))) refl))
      (λ t. rw (wrote_after.others d 2 l.0 l.1 (omega arith) (eqb-false d c t)) refl)

  still-linked : (d : ℕ) → HasTable ws d → HasTable o.set d
  still-linked d l =
      let n : d ≢ c = λ e. l.has (rw e w.class.new) in
      let a : class_table_place o.set d ≡ class_table_place ws d = wrote_after.others d 15 l.some l.among (omega arith) n in
      record { some = l.some; among = omega (arith, l.among, wrote_after.classes); has = λ z. l.has (sym a ∙ z) }

  pub wrote_parent : ((d : ℕ) → HasTable ws d → parent_of ws d ≢ 0 → HasTable ws (parent_of ws d))
      → (d : ℕ) → HasTable o.set d → parent_of o.set d ≢ 0 → HasTable o.set (parent_of o.set d)
  wrote_parent parents d l n =
      let k : IsClass ws d = (l.some, omega (arith, l.among, wrote_after.classes)) in
      let e = parent-left d k in
      let m : parent_of ws d ≢ 0 = λ z. n (e ∙ z) in
      let q : HasTable ws (parent_of ws d) =
      by (eqb d c)
      (λ t.
      let f : d ≡ c = eqb-true d c t in
      let g : parent_of ws c ≢ 0 = rw f at m in
      let b = parent-within ws c in
      rw f (record { some = omega arith; among = omega (arith, here.1); has = w.class.parent g }))
      (λ t.
      let a : class_table_place o.set d ≡ class_table_place ws d = wrote_after.others d 15 k.0 k.1 (omega arith) (eqb-false d c t) in
      parents d (record { some = k.0; among = k.1; has = λ z. l.has (a ∙ z) }) m) in
      rw e (still-linked (parent_of ws d) q)
