-- HOW MANY SLOTS ARE MISSING (specs/Missing.antt), after any list of calls. A call keeps every table that stands, and what each is built from; so a table
-- can be built anew, and its words in the list stay the count made anew. A link's own class, whose list of methods may have grown, has the same table by
-- the words after the link as by those before it (`linking/proofs/Rebuilt`, `RebuiltGrown`). Assumes nothing.
use Rattle.std.proofs.Common.{◌≡◌, refl, sym, ap, ◌∙◌, subst, ◌⊎◌, inl, inr, ◌≢◌, Bool, true, false, not, ◌&&◌, true≢false, List, [], ◌∷◌, ℕ, zero, suc, ◌+◌, ◌*◌, ◌≤◌, ◌<◌, min, arith, length, get_or, take, drop, eqb, ltb, eqb-true, ne_eqb, eq-eqb, ltb-false, le-ltb}
use mathlib.Core.Path.{fun_ext}
use mathlib.Core.List.Memᴰ
use mathlib.Core.List.{Memᴰ}
use borrow.Author.Tests.{eqb-false}
use Rattle.words.proofs.Bools.{by, or-neither}
use Rattle.words.proofs.ListLaws.{by-found}
use Rattle.words.proofs.Ext.{list_ext}
use Rattle.words.proofs.Lists.{part_at}
use Rattle.words.specs.Words.{AreBytes}
use Rattle.class_sheet.specs.ClassSheet.{first_method_word, method_count_word, class_count, method_count, field_count, text_length, text_words, text_of, class_first_field, class_field_count, member_limit, text_limit, class_first_method, class_method_count, class_compiler_table, class_table_place, class_slot_count, method_limit}
use Rattle.abi_sheet.specs.AbiSheet.{abi_text_length, abi_text_words, abi_text_of}
use Rattle.set_rules.specs.SetRules.{set_refusal}
use Rattle.set_rules.specs.Valid.{IsClass, Valid}
use Rattle.set_rules.proofs.Valid.{valid}
use Rattle.linking.specs.Signature.{Same, by_sheets}
use Rattle.linking.specs.Chain.{parent_of, chain}
use Rattle.linking.specs.Vtable.{Entry, empty, Built, read_entry, read_slot, table_entries, parent_entries, inherited_table, build_methods, slot_words}
use Rattle.linking.specs.Packages.{topmost, table_has, introducing, build_packages}
use Rattle.linking.specs.Compiler.{New, native_view, added_methods, compiler_table, members}
use Rattle.linking.specs.Set.{write_at, new_text, section_full}
use Rattle.linking.specs.Link.{HasTable, next_free, is_none, built_table, generated_table, generated_methods, lists_full, new_words, new_statics, no_class, Outcome, LinkOutcome, link_def}
use Rattle.linking.specs.Ask.{ask_def}
use Rattle.linking.specs.Counts.{bits_of, bit_count, missing_width, pack_bits, missing_at, parent_bit, counted_after, missing_short}
use Rattle.linking.specs.Missing.{missing_def, entries_built, table_by, recounted_along, recounted}
use Rattle.linking.proofs.ChainLaws.{parent-within, chain-none, chain_more}
use Rattle.linking.proofs.Plans.{Plans, plans}
use Rattle.linking.proofs.LinkRead.{After, Added, link-after, link-still, link-added}
use Rattle.linking.proofs.Rebuilt as again
use Rattle.linking.proofs.Rebuilt.{Unmoved, Any, unmoved-other, chain_same, table-held}
use Rattle.linking.proofs.RenumberedPackages.{Held, has-below, last_of}
use Rattle.linking.proofs.RebuiltGrown.{table-grown}
use Rattle.linking.proofs.Renumbered.{SameBuilt}
use Rattle.linking.proofs.MissingLaws.{bits-built, bits-ext, word_same, length-same, length-bits, rebuilds, length_pack, own-words, other_words, count-read, parent-read, no_parent}
use Rattle.linking.proofs.Packed.{text-bytes}
use Rattle.calls.specs.Calls.{left, Call, link, ask, bytewise, ByBytes, State, start, step, run, Unlinked}
use Rattle.calls.specs.Missing.{bits_now, Rebuilt, Counted, KeptBy, AskedBy}
use Rattle.calls.proofs.Rows.{Accepted, link-cases, ask-cases}
use Rattle.calls.proofs.Tables.{table_of, Keeps, Tables, none-linked, tables_start, chain-linked, link-keeps, new-slots, new-table, was, link-tables, link-long, ask-next, ask-keeps, ask-tables, same-state}
use Rattle.calls.proofs.Stays.{stays-accepted}
use Rattle.calls.proofs.Theorem.{run-bad}

-- ---- slots

-- a slot's word is its entry's, or the entry has 0
entry-word : (stubs : List ℕ) (k : ℕ) (T : List Entry) (i : ℕ) → i < length T
    → ((get_or T i empty).word ≡ 0) ⊎ ((get_or T i empty).word ≡ get_or (slot_words stubs k T) i 0)
unfolding slot_words
entry-word stubs k [] i h = absurd (omega arith)
entry-word stubs k (e ∷ T) zero h = by (eqb e.word 0) (λ t. inl (eqb-true e.word 0 t)) (λ t. inr (rw t))
entry-word stubs k (e ∷ T) (suc i) h = entry-word stubs (k + 1) T i (omega arith)

-- the same of two tables that have it
either_same : {a b x y : ℕ} → a ≡ b → x ≡ y → (a ≡ 0) ⊎ (a ≡ x) → (b ≡ 0) ⊎ (b ≡ y)
either_same e f (inl z) = inl (sym e ∙ z)
either_same e f (inr z) = inr (sym e ∙ z ∙ f)

slot-word : (s : State) (d i : ℕ) → i < class_slot_count s.set d → get_or (table_of s d) i 0 ≡ get_or s.area (class_table_place s.set d + 1 + i) 0
slot-word s d i h = part_at s.area (class_table_place s.set d + 1) (class_slot_count s.set d) i 0 h

held : (s s' : State) → Keeps s s' → (d : ℕ) → HasTable s.set d → Held s.set s'.set s.area s'.area d
held s s' k d l = record {
  linked = ap (λ (p : ℕ). eqb p 0) (sym (k.place d l));
  slots = sym (k.slots d l);
  words = λ i h.
      sym (slot-word s d i h) ∙ ap (λ (t : List ℕ). get_or t i 0) (sym (k.table d l)) ∙ slot-word s' d i (omega (arith, k.slots d l));
}

-- ---- a table depends on the area by the parent's entries and the introducing methods alone

module _ (same : Same) (ws text abi labels area area' : List ℕ) (d : ℕ)
    (parents : parent_entries same ws text abi labels area d ≡ parent_entries same ws text abi labels area' d)
    (first : introducing same ws text abi labels area (parent_of ws d) ≡ introducing same ws text abi labels area' (parent_of ws d)) where
  table-area : table_by same ws text abi labels area d ≡ table_by same ws text abi labels area' d
  unfolding table_by built_table generated_table build_methods inherited_table build_packages compiler_table added_methods native_view
  table-area = rw (parents, first)

-- ---- chains of linked classes

module _ (s : State) (tables : Tables s) where
  -- above a class whose parent, if it has one, is linked
  above-linked : (d : ℕ) → (parent_of s.set d ≢ 0 → HasTable s.set (parent_of s.set d)) → (e : ℕ)
      → Memᴰ e (chain s.set (parent_of s.set d)) → HasTable s.set e
  above-linked d p e i =
      by (eqb (parent_of s.set d) 0)
      (λ t. absurd (Memᴰ.not-nil (rw (chain-none s.set (parent_of s.set d) (eqb-true (parent_of s.set d) 0 t)) at i)))
      (λ t. chain-linked s tables (parent_of s.set d) (p (eqb-false (parent_of s.set d) 0 t)) e i)

-- ---- tables and counts made anew

module _ (abi : List ℕ) where
  abbrev table_now : State → ℕ → Built
  table_now s d = table_by (by_sheets s.set abi) s.set (text_of s.set) abi (abi_text_of abi) s.area d

  abbrev along_now : State → List ℕ → List Bool
  along_now s cs = recounted_along (by_sheets s.set abi) s.set (text_of s.set) abi (abi_text_of abi) s.area cs

  -- along classes whose tables have the same words from the same slots
  along-same : (s s' : State) (cs : List ℕ) → ((e : ℕ) → Memᴰ e cs → SameBuilt Any (table_now s e) (table_now s' e)) → along_now s cs ≡ along_now s' cs
  unfolding recounted_along
  along-same s s' [] h = refl
  along-same s s' (e ∷ es) h =
      rw (along-same s s' es (λ d i. h d (Memᴰ.tail i))) (bits-built (λ j. get_or (along_now s' es) j false) (h e (Memᴰ.head refl)))

  -- a class whose table stands and is built alike
  rebuilt-same : (s s' : State) → Keeps s s' → (d : ℕ) → HasTable s.set d → SameBuilt Any (table_now s d) (table_now s' d) → Rebuilt abi s d → Rebuilt abi s' d
  rebuilt-same s s' k d l same q =
      let r = rebuilds same q.entries q.anew in
      record {
        entries = r.entries;
        anew = r.shown;
        many = sym (length-same r.same) ∙ q.many ∙ sym (k.slots d l);
        words = λ i h.
            either_same (word_same r.same i) (ap (λ (t : List ℕ). get_or t i 0) (sym (k.table d l)))
            (q.words i (omega (arith, length-same r.same)));
      }

-- ---- an accepted link, read back

module _ (abi : List ℕ) (s : State) (c : ℕ) (stubs : List ℕ) (o : LinkOutcome) (acc : Accepted s.set abi c s.area stubs s.missing o) where
  here : IsClass s.set c
  here = (acc.class.some, acc.class.among)

  valid-now : Valid s.set
  valid-now = (valid s.set abi acc.valid).0

  planning : Plans (by_sheets s.set abi) s.set (text_of s.set) abi (abi_text_of abi) s.area c acc.coming
  planning = plans (by_sheets s.set abi) s.set (text_of s.set) abi (abi_text_of abi) s.area c acc.coming acc.comes

  one : (d : ℕ) → HasTable s.set d → d ≢ c
  one d l e = l.has (rw e acc.class.new)

  inside : class_first_field s.set c + length acc.coming.indices ≤ field_count s.set
  inside = let v = (valid-now.class c here).fields in let i = planning.indices in omega arith

  method-bytes : AreBytes (new_text (members acc.coming.added))
  method-bytes = planning.method-bytes (text-bytes (text_words s.set) (text_length s.set)) (text-bytes (abi_text_words abi) (abi_text_length abi))

  field-bytes : AreBytes (new_text acc.coming.new_fields)
  field-bytes = planning.field-bytes (text-bytes (text_words s.set) (text_length s.set)) (text-bytes (abi_text_words abi) (abi_text_length abi))

  abbrev words : ℕ
  words = new_words s.set (text_of s.set) abi (abi_text_of abi) c

  abbrev statics : ℕ
  statics = new_statics s.set (text_of s.set) c

  abbrev next : State
  next = record { set = o.outcome.set; area = o.outcome.area; missing = o.missing }

  after : After s.set next.set c
  after =
      rw acc.new-set
      (link-after s.set c (next_free s.area) words statics acc.coming here.0 here.1 valid-now.fits
      (valid-now.class c here).methods (valid-now.class c here).fields inside method-bytes field-bytes)

  stays : is_none (members acc.coming.added) ≡ true → Unmoved s.set next.set c
  stays t =
      let k = link-still s.set c (next_free s.area) words statics acc.coming here.0 here.1 valid-now.fits
      (valid-now.class c here).methods (valid-now.class c here).fields inside method-bytes field-bytes t in
      rw acc.new-set (record { first = k first_method_word (omega arith); many = k method_count_word (omega arith) })

  no_fields : is_none (members acc.coming.added) ≡ false → is_none acc.coming.new_fields ≡ true
  no_fields t = rw (planning.grows (planning.generated t)).1

  grown : is_none (members acc.coming.added) ≡ false → Added s.set next.set c (members acc.coming.added)
  grown t =
      rw acc.new-set
      (link-added s.set c (next_free s.area) words statics acc.coming here.0 here.1 valid-now.fits
      (valid-now.class c here).methods (valid-now.class c here).fields inside method-bytes field-bytes (no_fields t) t)

  moves : Unmoved s.set next.set c ⊎ (class_first_method next.set c ≡ method_count s.set)
  moves = by (is_none (members acc.coming.added)) (λ t. inl (stays t)) (λ t. inr (grown t).first)

  -- where methods are added, the class has a compiler table, and there is room for them
  module _ (t : is_none (members acc.coming.added) ≡ false) where
    has-table : class_compiler_table s.set c ≢ 0
    unfolding generated_methods members
    has-table e =
        let g = (planning.grows (planning.generated t)).0 in
        absurd (true≢false (rw (g, eq-eqb (class_compiler_table s.set c) 0 e) at t))

    are_new : acc.coming.added ≡ added_methods (by_sheets s.set abi) s.set (text_of s.set) abi (abi_text_of abi) s.area c
    unfolding generated_methods
    are_new = (planning.grows (planning.generated t)).0 ∙ rw (ne_eqb (class_compiler_table s.set c) 0 has-table)

    room-new : method_count s.set + (class_method_count s.set c + length (members acc.coming.added)) ≤ method_limit
    unfolding lists_full section_full
    room-new =
        let new : List New = members acc.coming.added in
        let full : Bool = section_full s.set (method_count s.set) (class_method_count s.set c) new in
        let p : (not (is_none new) && full) ≡ false =
        (or-neither (not (is_none new) && full)
        (not (is_none acc.coming.new_fields) && section_full s.set (field_count s.set) (class_field_count s.set c) acc.coming.new_fields)
        acc.lists).0 in
        let q =
        (or-neither (ltb member_limit (method_count s.set + (class_method_count s.set c + length new)))
        (ltb text_limit (text_length s.set + length (new_text new))) (rw t at p)).0 in
        ltb-false member_limit (method_count s.set + (class_method_count s.set c + length new)) q

  -- ---- the list after it

  abbrev T : List Entry
  T = acc.coming.table

  abbrev parent : ℕ
  parent = parent_of s.set c

  abbrev bits : List Bool
  bits = bits_of (parent_bit s.missing parent) T

  room-list : missing_at c + missing_width ≤ length s.missing
  room-list = let l = acc.long in let a = here.0 in let b = here.1 in omega arith

  list-is : next.missing ≡ write_at s.missing (missing_at c) (pack_bits bits)
  unfolding counted_after
  list-is = acc.new-missing

  -- ---- and the tables after it, built anew

  module _ (tables : Tables s) where
    keeps : Keeps s next
    keeps = link-keeps abi s c stubs o acc

    above : (d : ℕ) → (parent_of s.set d ≢ 0 → HasTable s.set (parent_of s.set d)) → (e : ℕ)
        → Memᴰ e (chain s.set (parent_of s.set d)) → HasTable s.set e
    above = above-linked s tables

    -- classes that were linked

    unmoved : (e : ℕ) → HasTable s.set e → Unmoved s.set next.set e
    unmoved e l = unmoved-other s.set next.set abi c valid-now after moves e (l.some, l.among) (one e l)

    table-other : (d : ℕ) → HasTable s.set d → SameBuilt Any (table_now abi s d) (table_now abi next d)
    table-other d l =
        table-held s.set next.set abi s.area next.area c valid-now after moves here.0 here.1 d (l.some, l.among)
        (λ e i. held s next keeps e (above d (tables.parent d l) e i)) (λ e i. unmoved e (above d (tables.parent d l) e i)) (unmoved d l)

    pub bits-other : (d : ℕ) → HasTable s.set d → bits_now abi s d ≡ bits_now abi next d
    unfolding recounted
    bits-other d l =
        rw (← chain_same s.set next.set abi c valid-now after moves d l.among)
        (along-same abi s next (chain s.set d) (λ e i. table-other e (chain-linked s tables d l e i)))

    -- the class itself

    parent_c : parent_of s.set c ≢ 0 → HasTable s.set (parent_of s.set c)
    parent_c n = let w = parent-within s.set c in record { some = omega arith; among = omega (arith, here.1); has = acc.class.parent n }

    held_c : (e : ℕ) → Memᴰ e (chain s.set (parent_of s.set c)) → Held s.set next.set s.area next.area e
    held_c e i = held s next keeps e (above c parent_c e i)

    above_c : (e : ℕ) → Memᴰ e (chain s.set (parent_of s.set c)) → Unmoved s.set next.set e
    above_c e i = unmoved e (above c parent_c e i)

    table_c : SameBuilt Any (table_now abi s c) (table_now abi next c)
    table_c =
        by (is_none (members acc.coming.added))
        (λ t.
        table-held s.set next.set abi s.area next.area c valid-now after moves here.0 here.1 c here held_c above_c (stays t))
        (λ t.
        table-grown s.set next.set abi s.area next.area c valid-now after here acc.coming.added (are_new t) (grown t) (room-new t) held_c above_c
        (planning.generated t) (has-table t))

    rebuilt_c : Rebuilt abi next c
    rebuilt_c =
        let r = rebuilds table_c T planning.table in
        record {
          entries = r.entries;
          anew = r.shown;
          many = sym (length-same r.same) ∙ sym (new-slots abi s c stubs o acc);
          words = λ i h.
              either_same (word_same r.same i)
              (ap (λ (t : List ℕ). get_or t i 0) (sym (new-table abi s c stubs o acc)))
              (entry-word stubs 0 T i (omega (arith, length-same r.same)));
        }

    -- ---- the counts

    module _ (counted : (d : ℕ) → HasTable s.set d → Counted abi s d) where
      -- the bits of the parent's slots, kept and made anew
      pub parent-bits : (j : ℕ) → get_or (bits_now abi next parent) j false ≡ parent_bit s.missing parent j
      unfolding recounted recounted_along
      parent-bits j =
          by (eqb parent 0)
          (λ t.
          let e : parent ≡ 0 = eqb-true parent 0 t in
          rw (e, chain-none next.set 0 refl) (sym (no_parent s.missing j)))
          (λ t.
          let n = eqb-false parent 0 t in
          let l = parent_c n in
          let k = counted parent l in
          let v = (valid-now.class parent (l.some, l.among)).slots l.has in
          ap (λ (bs : List Bool). get_or bs j false) (sym (bits-other parent l))
          ∙ sym (parent-read s.missing parent (bits_now abi s parent) k.words (omega (arith, k.many)) n j))

      parent-now : parent_of s.set c ≡ parent_of next.set c
      parent-now = again.parent-same s.set next.set abi c valid-now after moves c here

      abbrev anew : ℕ → Bool
      anew j = get_or (along_now abi next (chain next.set parent)) j false

      pub bits_c : bits_now abi next c ≡ bits
      unfolding recounted recounted_along
      bits_c =
          rw (chain_more next.set c here.0, ← parent-now)
          (sym (bits-built anew table_c)
          ∙ ap (λ (b : Built). bits_of anew (entries_built b)) planning.table ∙ bits-ext anew (parent_bit s.missing parent) parent-bits T)

      counted_c : Counted abi next c
      counted_c = record {
        words = ap (λ (x : List ℕ). take missing_width (drop (missing_at c) x)) list-is
            ∙ own-words s.missing (pack_bits bits) c (length_pack bits) room-list ∙ ap pack_bits (sym bits_c);
        many = ap length bits_c ∙ length-bits (parent_bit s.missing parent) T
            ∙ sym (new-slots abi s c stubs o acc);
        long = link-long abi s c stubs o acc;
      }

      counted-other : (d : ℕ) → HasTable s.set d → Counted abi next d
      counted-other d l =
          let k = counted d l in
          record {
            words = ap (λ (x : List ℕ). take missing_width (drop (missing_at d) x)) list-is
                ∙ other_words s.missing (pack_bits bits) c (length_pack bits) room-list d here.0 l.some (one d l) ∙ k.words
                ∙ ap pack_bits (bits-other d l);
            many = ap length (sym (bits-other d l)) ∙ k.many ∙ sym (keeps.slots d l);
            long = link-long abi s c stubs o acc;
          }

-- ---- a call that leaves the set and every table, as an ask does

module _ (abi : List ℕ) (s : State) (tables : Tables s) (area : List ℕ)
    (keeps : Keeps s (record { set = s.set; area = area; missing = s.missing })) where
  abbrev asked : State
  asked = record { set = s.set; area = area; missing = s.missing }

  parents-kept : (d : ℕ) → HasTable s.set d
      → parent_entries (by_sheets s.set abi) s.set (text_of s.set) abi (abi_text_of abi) s.area d
      ≡ parent_entries (by_sheets s.set abi) s.set (text_of s.set) abi (abi_text_of abi) area d
  unfolding parent_entries table_entries read_slot
  parents-kept d l =
      let p : ℕ = parent_of s.set d in
      by (eqb p 0) (λ t. rw t refl)
      (λ t.
      let h = held s asked keeps p (tables.parent d l (eqb-false p 0 t)) in
      rw t
      (list_ext (λ i. read_entry (by_sheets s.set abi) s.set (text_of s.set) abi (abi_text_of abi) p i (get_or s.area (class_table_place s.set p + 1 + i) 0))
      (λ i. read_entry (by_sheets s.set abi) s.set (text_of s.set) abi (abi_text_of abi) p i (get_or area (class_table_place s.set p + 1 + i) 0)) 0
      (min (class_slot_count s.set p) 1024)
      (λ i b. ap (read_entry (by_sheets s.set abi) s.set (text_of s.set) abi (abi_text_of abi) p i) (h.words i (omega arith)))))

  first-kept : (d : ℕ) → HasTable s.set d → (i : ℕ)
      → introducing (by_sheets s.set abi) s.set (text_of s.set) abi (abi_text_of abi) s.area (parent_of s.set d) i
      ≡ introducing (by_sheets s.set abi) s.set (text_of s.set) abi (abi_text_of abi) area (parent_of s.set d) i
  unfolding introducing read_slot read_entry
  first-kept d l i =
      by-found (topmost (table_has s.set i) (chain s.set (parent_of s.set d)))
      (λ e q.
      let r = last_of (table_has s.set i) (chain s.set (parent_of s.set d)) e q in
      let h = held s asked keeps e (above-linked s tables d (tables.parent d l) e r.0) in
      rw (q, h.words i (has-below s.set i e r.1)))
      (λ q. rw q)

  table_kept : (d : ℕ) → HasTable s.set d → table_now abi s d ≡ table_now abi asked d
  table_kept d l = table-area (by_sheets s.set abi) s.set (text_of s.set) abi (abi_text_of abi) s.area area d (parents-kept d l) (fun_ext (first-kept d l))

  along-kept : (cs : List ℕ) → ((e : ℕ) → Memᴰ e cs → HasTable s.set e) → along_now abi s cs ≡ along_now abi asked cs
  unfolding recounted_along
  along-kept [] h = refl
  along-kept (e ∷ es) h = rw (along-kept es (λ d i. h d (Memᴰ.tail i)), table_kept e (h e (Memᴰ.head refl)))

  pub bits-kept : (d : ℕ) → HasTable s.set d → bits_now abi s d ≡ bits_now abi asked d
  unfolding recounted
  bits-kept d l = along-kept (chain s.set d) (λ e i. chain-linked s tables d l e i)

  rebuilt-kept : (d : ℕ) → HasTable s.set d → Rebuilt abi s d → Rebuilt abi asked d
  rebuilt-kept d l k = record {
    entries = k.entries;
    anew = sym (table_kept d l) ∙ k.anew;
    many = k.many;
    words = λ i h. either_same refl (ap (λ (t : List ℕ). get_or t i 0) (sym (keeps.table d l))) (k.words i h);
  }

  counted-kept : (d : ℕ) → HasTable s.set d → Counted abi s d → Counted abi asked d
  counted-kept d l k = record {
    words = k.words ∙ ap pack_bits (bits-kept d l);
    many = ap length (sym (bits-kept d l)) ∙ k.many;
    long = k.long;
  }

-- ---- one call, and all of them

module _ (abi : List ℕ) where
  pub record Holds (s : State) : Type 0 where
    pub tables : Tables s
    pub rebuilt : (d : ℕ) → HasTable s.set d → Rebuilt abi s d
    pub counted : (d : ℕ) → HasTable s.set d → Counted abi s d

  pub link-holds : (s : State) → Holds s → (c : ℕ) (stubs : List ℕ) (o : LinkOutcome) → Accepted s.set abi c s.area stubs s.missing o
      → Holds (record { set = o.outcome.set; area = o.outcome.area; missing = o.missing })
  link-holds s h c stubs o acc =
      let old : (d : ℕ) → d ≢ c → HasTable o.outcome.set d → HasTable s.set d = was abi s c stubs o acc in
      record {
        tables = link-tables abi s c stubs o acc h.tables;
        rebuilt = λ d l.
            by (eqb d c)
            (λ t. let e : d ≡ c = eqb-true d c t in rw e (rebuilt_c abi s c stubs o acc h.tables))
            (λ t.
            let m = old d (eqb-false d c t) l in
            rebuilt-same abi s (next abi s c stubs o acc) (keeps abi s c stubs o acc h.tables) d m
            (table-other abi s c stubs o acc h.tables d m) (h.rebuilt d m));
        counted = λ d l.
            by (eqb d c)
            (λ t. let e : d ≡ c = eqb-true d c t in rw e (counted_c abi s c stubs o acc h.tables h.counted))
            (λ t. counted-other abi s c stubs o acc h.tables h.counted d (old d (eqb-false d c t) l));
      }

  pub ask_holds : (s : State) → Holds s → (c i : ℕ) (stubs : List ℕ) → Holds (step bytewise abi s (ask c i stubs))
  unfolding step
  ask_holds s h c i stubs =
      let o : Outcome = ask_def s.set abi c i s.area stubs in
      elim (ask-cases s.set abi c i s.area stubs) [
        | inl r ↦ subst (λ (x : State). Holds x) (sym (same-state s o.set o.area s.missing r.same_set r.same_area refl)) h
        | inr a ↦
            let k = ask-keeps abi s h.tables c i stubs o a in
            subst (λ (x : State). Holds x) (sym (ask-next abi s h.tables c i stubs o a))
            (record {
              tables = ask-tables abi s h.tables c i stubs o a;
              rebuilt = λ d l. rebuilt-kept abi s h.tables o.area k d l (h.rebuilt d l);
              counted = λ d l. counted-kept abi s h.tables o.area k d l (h.counted d l);
            })
      ]

  step-holds : (s : State) → Holds s → (k : Call) → Holds (step bytewise abi s k)
  unfolding step
  step-holds s h (link c stubs) =
      let o : LinkOutcome = link_def s.set abi c s.area stubs s.missing in
      elim (link-cases s.set abi c s.area stubs s.missing) [
        | inl r ↦ subst (λ (x : State). Holds x)
            (sym (same-state s o.outcome.set o.outcome.area o.missing r.same_set r.same_area r.same-missing)) h
        | inr a ↦ link-holds s h c stubs o a
      ]
  step-holds s h (ask c i stubs) = unfold step in ask_holds s h c i stubs

  run_holds : (ks : List Call) (s : State) → Holds s → Holds (run bytewise abi ks s)
  unfolding run
  run_holds [] s h = h
  run_holds (k ∷ ks) s h = run_holds ks (step bytewise abi s k) (step-holds s h k)

-- ---- THE THEOREM

module _ (ws abi area missing : List ℕ) (unlinked : Unlinked ws) (calls : List Call) where
  abbrev final : State
  final = run bytewise abi calls (start ws area missing)

  holds : Holds abi final
  holds =
      run_holds abi calls (start ws area missing)
      (record {
        tables = tables_start ws area missing unlinked;
        rebuilt = λ d l. absurd (none-linked unlinked l);
        counted = λ d l. absurd (none-linked unlinked l);
      })

  -- rows 3 to 5 passed the set at the start, or no class is linked
  pub start-accepted : (c : ℕ) → HasTable final.set c → set_refusal ws abi ≡ 0
  start-accepted c l =
      by (eqb (set_refusal ws abi) 0) (λ t. eqb-true (set_refusal ws abi) 0 t)
      (λ t.
      let e = run-bad ws abi (eqb-false (set_refusal ws abi) 0 t) calls (start ws area missing) refl in
      absurd (none-linked unlinked (record { some = l.some; among = rw e at l.among; has = rw e at l.has })))

pub missing_by_bytes : ByBytes KeptBy
missing_by_bytes ws abi area missing = record {
  rebuilt = λ unlinked calls c l. (holds ws abi area missing unlinked calls).rebuilt c l;
  counted = λ unlinked calls c l. (holds ws abi area missing unlinked calls).counted c l;
}

-- ---- asking: no row refuses, and the word that it reads is the first of the class's

read_count : (abi : List ℕ) (s : State) (c : ℕ) → HasTable s.set c → set_refusal s.set abi ≡ 0 → Counted abi s c
    → missing_def s.set abi s.missing c ≡ record { refusal = 0; count = bit_count (bits_now abi s c) }
unfolding missing_def no_class missing_short
read_count abi s c l e k =
    rw (
      eq-eqb (set_refusal s.set abi) 0 e,
      ne_eqb c 0 (λ q. omega (arith, l.some)),
      le-ltb (class_count s.set) c l.among,
      ne_eqb (class_table_place s.set c) 0 l.has,
      le-ltb (length s.missing) (missing_width * class_count s.set) k.long,
      count-read s.missing c (bits_now abi s c) k.words,
    )

pub asked_by_bytes : ByBytes AskedBy
asked_by_bytes ws abi area missing unlinked calls c l =
    read_count abi (left bytewise ws abi area missing calls) c l
    (stays-accepted bytewise abi calls (start ws area missing) (start-accepted ws abi area missing unlinked calls c l))
    ((missing_by_bytes ws abi area missing).counted unlinked calls c l)
