-- What the code stores and answers is what `finish_link` says, for an accepted set and a sound area. Assumes nothing.
use mathlib.Core.Path.{◌≡◌, refl, sym, ◌∙◌}
use mathlib.Core.Logic.{◌≢◌}
use mathlib.Core.Bool.{Bool, true, false, not, ◌&&◌, ◌||◌}
use mathlib.Core.List.{List}
use Prim.Native.Nat.{ℕ, ◌+◌, ◌≤◌}
use lib.ListN.{length}
use Rattle.words.proofs.Bools.{by, or-neither}
use Rattle.class_sheet.specs.ClassSheet.{class_count, method_count, field_count, text_of, class_method_count, class_first_method, class_first_field, class_field_count}
use Rattle.abi_sheet.specs.AbiSheet.{abi_text_of}
use Rattle.set_rules.specs.Valid.{Valid}
use Rattle.linking.specs.Compiler.{Taken, members}
use Rattle.linking.specs.Chain.{parent_of}
use Rattle.linking.specs.Counts.{missing_short}
use Rattle.linking.specs.Link.{Plan, is_none, next_free, lists_full, set_short, no_room, linked_words, new_words, new_statics, finish_link, LinkOutcome, refused_link}
use Rattle.growth.specs.Growth.{can_grow}
use Rattle.growth.proofs.Linked.{linked-methods, linked-fields, can_grow_lem, methods-end, fields-end}
use Rattle.reading.specs.Arrays.{entries_of}
use Rattle.area.specs.Area.{table_written}
use Rattle.area.proofs.AreaLaws.{table-linked}
use Rattle.plan.specs.Plans.{methods_of, fields_of}
use Rattle.missing.specs.Lists.{counted}
use Rattle.missing.proofs.ListLaws.{counted-after}
use Rattle.link.specs.Stored.{members_plan, numbered, with_methods, stored, stored_news, room_row}
use Rattle.link.proofs.FinishLaws.{room-is}

-- a row that refuses neither of two lists refuses no list that grows
neither : (m n a b : Bool) → ((not m && a) || (not n && b)) ≡ false → (m ≡ false → a ≡ false) × (n ≡ false → b ≡ false)
neither m n a b h = let o = or-neither (not m && a) (not n && b) h in (λ e. rw e at o.0, λ e. rw e at o.1)

module _ (ws : List ℕ) (c : ℕ) (p : Plan) (new : List Taken) (methods : p.added ≡ methods_of ws c new) (fields : p.new_fields ≡ fields_of ws c new) where
  -- ---- rows 14 and 15

  pub full-plan : lists_full ws c (members_plan ws c new) ≡ lists_full ws c p
  unfolding lists_full
  full-plan = rw (methods, fields)

  pub short-plan : set_short ws c (members_plan ws c new) ≡ set_short ws c p
  unfolding set_short
  short-plan = rw (methods, fields)

  module _ (valid : Valid ws) (some : 1 ≤ c) (among : c ≤ class_count ws) (full : lists_full ws c p ≡ false) (short : set_short ws c p ≡ false) where
    -- ---- what grows has room

    room_fields : is_none p.new_fields ≡ false → can_grow ws (field_count ws) (class_first_field ws c) (class_field_count ws c) p.new_fields ≡ true
    unfolding lists_full set_short
    room_fields n =
        let a = (neither (is_none (members p.added)) (is_none p.new_fields) _ _ full).1 n in
        can_grow_lem ws p.new_fields (field_count ws) (class_first_field ws c) (class_field_count ws c) (valid.class c (some, among)).fields a
        (fields-end ws p.new_fields valid.number_of_classes valid.number_of_interfaces valid.number_of_compilers
        (class_field_count ws c) valid.number_of_methods a)
        ((neither (is_none (members p.added)) (is_none p.new_fields) _ _ short).1 n)

    room-methods : is_none (members p.added) ≡ false
        → can_grow ws (method_count ws) (class_first_method ws c) (class_method_count ws c) (members p.added) ≡ true
    unfolding lists_full set_short
    room-methods n =
        let a = (neither (is_none (members p.added)) (is_none p.new_fields) _ _ full).0 n in
        can_grow_lem ws (members p.added) (method_count ws) (class_first_method ws c) (class_method_count ws c) (valid.class c (some, among)).methods a
        (methods-end ws (members p.added) valid.number_of_classes valid.number_of_interfaces valid.number_of_compilers
        (class_method_count ws c) valid.number_of_fields a)
        ((neither (is_none (members p.added)) (is_none p.new_fields) _ _ short).0 n)

    -- ---- the class words

    module _ (place words statics : ℕ) (indices : class_first_field ws c + length p.indices ≤ field_count ws) where
      numbered-none : is_none p.new_fields ≡ true → is_none (members p.added) ≡ true
          → numbered (with_methods ws c (members p.added)) c place (length p.table) words statics p.indices ≡ linked_words ws c place words statics p
      unfolding linked_words with_methods numbered
      numbered-none n q = rw (n, q)

      numbered-some : is_none p.new_fields ≡ true → is_none (members p.added) ≡ false
          → numbered (with_methods ws c (members p.added)) c place (length p.table) words statics p.indices ≡ linked_words ws c place words statics p
      unfolding with_methods numbered
      numbered-some n q = rw q (sym (linked-methods ws c place words statics p some among n q (room-methods q) indices refl))

      stored-linked : stored ws c place (length p.table) words statics p.indices (members p.added) p.new_fields ≡ linked_words ws c place words statics p
      unfolding stored
      stored-linked =
          by (is_none p.new_fields)
          (λ q. rw q (by (is_none (members p.added)) (numbered-none q) (numbered-some q)))
          (λ q. rw q (sym (linked-fields ws c place words statics p some among q (room_fields q) refl)))

      pub words-linked : stored_news ws c place (length p.table) words statics p.indices new ≡ linked_words ws c place words statics p
      words-linked = rw (← methods, ← fields) stored-linked

-- ---- the whole

-- what the code has at a link's end, and what it stands for
pub record Finish (ws abi : List ℕ) (c : ℕ) (area slots marks : List ℕ) (n words statics : ℕ) (new : List Taken) (p : Plan) : Type 0 where
  pub valid : Valid ws
  pub some : 1 ≤ c
  pub among : c ≤ class_count ws
  pub short-area : length area ≤ 4294967295
  pub methods : p.added ≡ methods_of ws c new
  pub fields : p.new_fields ≡ fields_of ws c new
  pub slot_count : length p.table ≡ n
  pub table_is : entries_of slots marks n ≡ p.table
  pub words_are : words ≡ new_words ws (text_of ws) abi (abi_text_of abi) c
  pub statics_are : statics ≡ new_statics ws (text_of ws) c
  pub indices-fit : class_first_field ws c + length p.indices ≤ field_count ws

module _ (ws abi : List ℕ) (c : ℕ) (area stubs slots marks missing : List ℕ) (n words statics : ℕ) (new : List Taken) (p : Plan)
    (f : Finish ws abi c area slots marks n words statics new p) where
  room-plan : room_row ws c (members_plan ws c new) area stubs missing n ≡ room_row ws c p area stubs missing (length p.table)
  unfolding room_row
  room-plan = rw (full-plan ws c p new f.methods f.fields, short-plan ws c p new f.methods f.fields, f.slot_count)

  row-refuses : {row : ℕ} → row ≡ room_row ws c p area stubs missing (length p.table) → row ≢ 0
      → refused_link row ws area missing ≡ finish_link ws abi c area stubs missing p
  unfolding room_row finish_link
  row-refuses e h =
      by (lists_full ws c p)
      (λ q. rw (e, q))
      (λ q.
      by (no_room area stubs (length p.table) || set_short ws c p || missing_short ws missing)
      (λ t. rw (e, q, t))
      (λ t. absurd (h (e ∙ rw (q, t)))))

  pub refused-is : {row : ℕ} → row ≡ room_row ws c (members_plan ws c new) area stubs missing n → row ≢ 0
      → refused_link row ws area missing ≡ finish_link ws abi c area stubs missing p
  refused-is e h = row-refuses (e ∙ room-plan) h

  -- what the code stores, writes and counts
  abbrev left : LinkOutcome
  left =
      record {
        outcome = record {
          refusal = 0;
          first = next_free area;
          second = n;
          set = stored_news ws c (next_free area) n words statics p.indices new;
          area = table_written area c slots n stubs;
        };
        missing = counted missing c (parent_of ws c) (entries_of slots marks n);
      }

  pub finished-is : room_row ws c (members_plan ws c new) area stubs missing n ≡ 0 → left ≡ finish_link ws abi c area stubs missing p
  unfolding finish_link
  finished-is e =
      let r = room-is ws c p area stubs missing (length p.table) (sym room-plan ∙ e) in
      let w = words-linked ws c p new f.methods f.fields f.valid f.some f.among r.lists r.set-has (next_free area) words statics
      f.indices-fit in
      let t = table-linked area slots marks stubs n (rw f.slot_count at r.area-has) f.short-area c in
      let m = counted-after missing c (parent_of ws c) (entries_of slots marks n) ws refl f.some f.among r.list-has in
      rw (r.lists, r.area-has, r.set-has, r.list-has, t, m, f.table_is, ← f.slot_count, w, f.words_are, f.statics_are)
