-- Laws of what a link stores in the class words. Assumes nothing.
use mathlib.Core.Path.{◌≡◌, refl, sym, ◌∙◌}
use mathlib.Core.Bool.{Bool, true, false, not, ◌&&◌, ◌||◌, true≢false}
use mathlib.Core.Logic.{◌≢◌}
use mathlib.Core.List.{List, [], ◌∷◌}
use Prim.Native.Nat.{ℕ}
use native.Mathlib.Omega.{arith}
use lib.ListN.{length}
use lib.Dec.{eqb, ltb}
use borrow.Author.Tests.{eq-eqb, eqb-true, not-false}
use Rattle.words.proofs.Bools.{by}
use Rattle.class_sheet.specs.ClassSheet.{method_count, field_count, class_kind, is_built_kind, class_method_count, class_first_field, class_field_count, fields_at, put_class_instance_words, put_class_table_place, put_class_slot_count, put_class_static_words}
use Rattle.linking.specs.Compiler.{New, Taken, members}
use Rattle.linking.specs.Set.{put_indices, section_full, grown_end}
use Rattle.linking.specs.Fields.{static_words}
use Rattle.linking.specs.Link.{is_none, new_statics, linked_record, lists_full, set_short}
use Rattle.growth.specs.declared.news.Member.{Member}
use Rattle.growth.specs.News.{news_of, added_of}
use Rattle.growth.specs.declared.Section.{Section}
use Rattle.growth.specs.Growth.{methods_grown, fields_grown, growing}
use Rattle.growth.specs.Growth as lists
use Rattle.growth.proofs.NewsLaws.{length-news, members-added}
use Rattle.link.specs.Stored.{members_plan, numbered, with_methods, stored, stored_news}

-- ---- the static words

pub statics-built : (ws text : List ℕ) (c : ℕ) {n : ℕ} {b : Bool} → b ≡ is_built_kind (class_kind ws c) → b ≡ true → n ≡ static_words ws text c
    → n ≡ new_statics ws text c
unfolding new_statics
statics-built ws text c t e f = f ∙ rw (← t, e)

pub statics-other : (ws text : List ℕ) (c : ℕ) {b : Bool} → b ≡ is_built_kind (class_kind ws c) → b ≡ false → 0 ≡ new_statics ws text c
unfolding new_statics
statics-other ws text c t n = rw (← t, n)

-- ---- the record

module _ (ws : List ℕ) (c place slots words statics : ℕ) {g : Bool}
    (kind : g ≡ eqb (class_kind ws c) 1) {s t : List ℕ} (placed : s ≡ put_class_table_place ws c place)
    (counted : t ≡ put_class_slot_count s c slots) where
  pub record_worded : {u v : List ℕ} → g ≡ false → u ≡ put_class_instance_words t c words → v ≡ put_class_static_words u c statics
      → v ≡ linked_record ws c place slots words statics
  unfolding linked_record
  record_worded n e f = f ∙ rw (e, counted, placed, ← kind, n)

  pub record_generated : g ≡ true → t ≡ linked_record ws c place slots words statics
  unfolding linked_record
  record_generated e = counted ∙ rw (placed, ← kind, e)

pub indices_stored : (ws : List ℕ) (c place slots words statics : ℕ) (indices : List ℕ) {at first : ℕ} {s t : List ℕ} → at ≡ fields_at ws
    → first ≡ class_first_field ws c → s ≡ linked_record ws c place slots words statics → t ≡ put_indices at first indices s
    → t ≡ numbered ws c place slots words statics indices
unfolding numbered
indices_stored ws c place slots words statics indices e f g h = h ∙ rw (e, f, g)

-- ---- new members

pub none-zero : (l : List New) → length l ≡ 0 → is_none l ≡ true
none-zero [] h = refl
none-zero (x ∷ xs) h = absurd (omega arith)

pub some_more : (l : List New) → length l ≢ 0 → is_none l ≡ false
some_more [] h = absurd (h refl)
some_more (x ∷ xs) h = refl

module _ (ws text abi labels : List ℕ) (ms : List Member) {n : ℕ} (size : n ≡ length ms) where
  abbrev new : List New
  new = news_of ws text abi labels ms

  news_empty : n ≡ 0 → is_none new ≡ true
  news_empty h = none-zero new (omega (arith, length-news ws text abi labels ms))

  news_some : n ≢ 0 → is_none new ≡ false
  news_some h = some_more new (λ z. h (omega (arith, length-news ws text abi labels ms)))

  pub news-is : is_none new ≡ eqb n 0
  news-is =
      by (eqb n 0)
      (λ q. news_empty (eqb-true n 0 q) ∙ sym q)
      (λ q. news_some (λ z. true≢false (sym (eq-eqb n 0 z) ∙ q)) ∙ sym q)

  pub methods_none : (c : ℕ) → n ≡ 0 → ws ≡ with_methods ws c new
  unfolding with_methods
  methods_none c h = rw (news_empty h)

  pub methods_some : (c : ℕ) {s : List ℕ} → n ≢ 0 → s ≡ methods_grown ws c new → s ≡ with_methods ws c new
  unfolding with_methods
  methods_some c h e = e ∙ rw (news_some h)

  -- ---- rows 14 and 15 of the set: a built class adds fields, any other methods

  module _ (c : ℕ) {g : Section} (list : g ≡ growing ws c) where
    or-last : (b : Bool) → (b || false) ≡ b
    or-last true = refl
    or-last false = refl

    pub full_is : {b : Bool} → b ≡ section_full ws g.count g.own new
        → (not (eqb n 0) && b) ≡ lists_full ws c (members_plan ws c (added_of ws text abi labels ms))
    unfolding lists_full growing members
    full_is {b = b} e =
        by (is_built_kind (class_kind ws c))
        (λ q.
        let k : g ≡ lists.fields_of ws c = rw q at list in
        let f : b ≡ section_full ws (field_count ws) (class_field_count ws c) new = rw k at e in
        rw q (rw (members-added ws text abi labels ms, f, ← news-is)))
        (λ q.
        let k : g ≡ lists.methods_of ws c = rw q at list in
        let f : b ≡ section_full ws (method_count ws) (class_method_count ws c) new = rw k at e in
        rw q (rw (members-added ws text abi labels ms, f, ← news-is)
        (sym (or-last (not (is_none new) && section_full ws (method_count ws) (class_method_count ws c) new)))))

    pub short_is : {m : ℕ} → m ≡ grown_end ws g.own new
        → (not (eqb n 0) && ltb (length ws) m) ≡ set_short ws c (members_plan ws c (added_of ws text abi labels ms))
    unfolding set_short growing members
    short_is {m = m} e =
        by (is_built_kind (class_kind ws c))
        (λ q.
        let k : g ≡ lists.fields_of ws c = rw q at list in
        let f : m ≡ grown_end ws (class_field_count ws c) new = rw k at e in
        rw q (rw (members-added ws text abi labels ms, f, ← news-is)))
        (λ q.
        let k : g ≡ lists.methods_of ws c = rw q at list in
        let f : m ≡ grown_end ws (class_method_count ws c) new = rw k at e in
        rw q (rw (members-added ws text abi labels ms, f, ← news-is)
        (sym (or-last (not (is_none new) && ltb (length ws) (grown_end ws (class_method_count ws c) new))))))

-- ---- what a link stores

module _ (ws : List ℕ) (c place slots words statics : ℕ) (indices : List ℕ) (l : List Taken) {new : List New} (are : members l ≡ new) {x : Bool}
    (test : x ≡ is_built_kind (class_kind ws c)) where
  pub stored-fields : {s t : List ℕ} → x ≡ true → is_none new ≡ false → s ≡ fields_grown ws c indices new
      → t ≡ linked_record s c place slots words statics → t ≡ stored_news ws c place slots words statics indices l
  unfolding stored
  stored-fields e h f g = g ∙ rw (f, ← test, e, are, h)

  stored-built : {s t : List ℕ} → x ≡ true → is_none new ≡ true → s ≡ with_methods ws c new → t ≡ numbered s c place slots words statics indices
      → t ≡ stored_news ws c place slots words statics indices l
  unfolding stored with_methods members
  stored-built e h f g = g ∙ rw (f, ← test, e, are, h)

  stored_other : {s t : List ℕ} → x ≡ false → s ≡ with_methods ws c new → t ≡ numbered s c place slots words statics indices
      → t ≡ stored_news ws c place slots words statics indices l
  unfolding stored with_methods
  stored_other e f g = g ∙ rw (f, ← test, e, are)

  pub stored-methods : {s t : List ℕ} {z : Bool} → is_none new ≡ z → (x && not z) ≡ false → s ≡ with_methods ws c new
      → t ≡ numbered s c place slots words statics indices → t ≡ stored_news ws c place slots words statics indices l
  stored-methods {z = z} e h f g =
      by x
      (λ q. stored-built q (e ∙ not-false z (rw q at h)) f g)
      (λ q. stored_other q f g)
