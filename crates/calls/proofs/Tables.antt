-- What a call keeps of the classes that are linked before it, and what holds of all linked classes after it: each table lies whole in the area and
-- apart from the others, and a linked class's parent is linked; by whatever comparison. Assumes nothing.
use mathlib.Core.Path.{◌≡◌, refl, sym, ap, ◌∙◌, subst}
use mathlib.Core.Logic.{◌⊎◌, inl, inr, ◌≢◌}
use mathlib.Core.Bool.{Bool, false}
use mathlib.Core.List.{List, Memᴰ}
use Prim.Native.Nat.{ℕ, zero, suc, ◌+◌, ◌*◌, ◌≤◌, ◌<◌}
use native.Mathlib.Omega.{arith}
use lib.ListN.{length}
use lib.Dec.{eqb}
use borrow.Author.Tests.{eqb-true, eqb-false}
use Rattle.words.proofs.Bools.{by}
use Rattle.words.proofs.Lists.{part_ext}
use Rattle.class_sheet.specs.ClassSheet.{class_count, text_length, text_words, text_of, class_table_place, class_slot_count}
use Rattle.abi_sheet.specs.AbiSheet.{abi_text_length, abi_text_words, abi_text_of}
use Rattle.set_rules.specs.Valid.{Valid}
use Rattle.set_rules.proofs.Valid.{valid}
use Rattle.linking.specs.Signature.{Same}
use Rattle.linking.proofs.ChainLaws.{parent_below, parent-within, chain-none}
use Rattle.linking.specs.Chain.{parent_of, chain}
use Rattle.linking.specs.Vtable.{Entry, slot_words}
use Rattle.linking.specs.Counts.{bits_of, missing_width, pack_bits, missing_at, parent_bit, counted_after}
use Rattle.linking.specs.Link.{HasTable, next_free, bad_area, new_words, new_statics, linked_area, Outcome, LinkOutcome}
use Rattle.linking.specs.Ask.{head_place, asked_area}
use Rattle.linking.proofs.Plans.{Plans, plans}
use Rattle.linking.proofs.Packed.{text-bytes}
use Rattle.linking.proofs.Writes.{length-write}
use Rattle.linking.proofs.MissingLaws.{length_pack}
use Rattle.slots.proofs.ListFacts.{in_none}
use Rattle.slots.proofs.ChainFacts.{chain-cases}
use Rattle.slots.proofs.ReadFacts.{length-words}
use Rattle.calls.specs.Calls.{State, start, Unlinked, table_at}
use Rattle.calls.proofs.Area.{linked-length, linked-before, linked-slots, linked-free, asked-length, asked-before}
use Rattle.calls.proofs.Linked.{Leaves, link_leaves}
use Rattle.matching.proofs.Rows.{Accepted}
use Rattle.calls.proofs.Rows.{Puts, silent}
use Rattle.calls.proofs.Like.{alike}
use Rattle.calls.proofs.View.{parent-same}

-- a class's table as its record and the area have it
abbrev pub table_of : State → ℕ → List ℕ
table_of s c = table_at s.area (class_table_place s.set c) (class_slot_count s.set c)

-- the first word after a class's table
abbrev pub end_of : State → ℕ → ℕ
end_of s c = class_table_place s.set c + class_slot_count s.set c + 2

-- ---- what a call keeps of the classes that are linked before it

pub record Keeps (s s' : State) : Type 0 where
  pub classes : class_count s'.set ≡ class_count s.set
  pub place : (c : ℕ) → HasTable s.set c → class_table_place s'.set c ≡ class_table_place s.set c
  pub slots : (c : ℕ) → HasTable s.set c → class_slot_count s'.set c ≡ class_slot_count s.set c
  pub table : (c : ℕ) → HasTable s.set c → table_of s' c ≡ table_of s c

pub keeps_same : (s : State) → Keeps s s
keeps_same s = record { classes = refl; place = λ c l. refl; slots = λ c l. refl; table = λ c l. refl }

pub still : {s s' : State} → Keeps s s' → (c : ℕ) → HasTable s.set c → HasTable s'.set c
still k c l = record { some = l.some; among = rw k.classes l.among; has = rw (k.place c l) l.has }

pub keeps-next : {s s' s'' : State} → Keeps s s' → Keeps s' s'' → Keeps s s''
keeps-next p q = record {
  classes = q.classes ∙ p.classes;
  place = λ c l. q.place c (still p c l) ∙ p.place c l;
  slots = λ c l. q.slots c (still p c l) ∙ p.slots c l;
  table = λ c l. q.table c (still p c l) ∙ p.table c l;
}

-- ---- what holds of the linked classes after every call

pub record Tables (s : State) : Type 0 where
  pub parent : (c : ℕ) → HasTable s.set c → parent_of s.set c ≢ 0 → HasTable s.set (parent_of s.set c)
  pub whole : (c : ℕ) → HasTable s.set c → length (table_of s c) ≡ class_slot_count s.set c
  pub apart : (c d : ℕ) → HasTable s.set c → HasTable s.set d → c ≢ d
      → (end_of s c ≤ class_table_place s.set d) ⊎ (end_of s d ≤ class_table_place s.set c)

-- at the start of a list nothing is linked
pub none-linked : {ws : List ℕ} {c : ℕ} → Unlinked ws → HasTable ws c → ⊥
none-linked {c = c} unlinked l = l.has (unlinked c l.some l.among)

pub tables_start : (ws area missing : List ℕ) → Unlinked ws → Tables (start ws area missing)
tables_start ws area missing unlinked = record {
  parent = λ c l. absurd (none-linked unlinked l);
  whole = λ c l. absurd (none-linked unlinked l);
  apart = λ c d l. absurd (none-linked unlinked l);
}

-- the chain of a linked class is linked
module _ (s : State) (tables : Tables s) where
  along : (bound c : ℕ) → c ≤ bound → HasTable s.set c → (d : ℕ) → Memᴰ d (chain s.set c) → HasTable s.set d
  along zero c b l d i = absurd (omega (arith, l.some))
  along (suc bound) c b l d i =
      let f = parent_below s.set c l.some in
      elim (chain-cases s.set c l.some i) [
        | inl e ↦ rw e l
        | inr j ↦
            by (eqb (parent_of s.set c) 0)
            (λ t. in_none (chain-none s.set (parent_of s.set c) (eqb-true (parent_of s.set c) 0 t)) j)
            (λ n. along bound (parent_of s.set c) (omega arith) (tables.parent c l (eqb-false (parent_of s.set c) 0 n)) d j)
      ]

  pub chain-linked : (c : ℕ) → HasTable s.set c → (d : ℕ) → Memᴰ d (chain s.set c) → HasTable s.set d
  chain-linked c l d i = along c c (omega arith) l d i

whole-keeps : {s s' : State} → Tables s → Keeps s s' → (c : ℕ) → HasTable s.set c → length (table_of s' c) ≡ class_slot_count s'.set c
whole-keeps tables k c l = ap length (k.table c l) ∙ tables.whole c l ∙ sym (k.slots c l)

-- ---- an accepted link keeps what is linked, and adds its class

module _ {same : Same} (abi : List ℕ) (s : State) (c : ℕ) (stubs : List ℕ) (o : LinkOutcome)
    (acc : Accepted same s.set abi c s.area stubs s.missing o) where
  abbrev next : State
  next = record { set = o.outcome.set; area = o.outcome.area; missing = o.missing }

  abbrev T : List Entry
  T = acc.coming.table

  some : 1 ≤ c
  some = acc.class.some

  among : c ≤ class_count s.set
  among = acc.class.among

  pub valid-now : Valid s.set
  valid-now = (valid s.set abi acc.valid).0

  pub planning : Plans same s.set (text_of s.set) abi (abi_text_of abi) s.area c acc.coming
  planning = plans same s.set (text_of s.set) abi (abi_text_of abi) s.area c acc.coming acc.comes

  pub leaves : Leaves s.set o.outcome.set c (next_free s.area) (length T)
  leaves =
      let v = valid-now.class c (some, among) in
      let i = planning.indices in
      let f = v.fields in
      let t = text-bytes (text_words s.set) (text_length s.set) in
      let l = text-bytes (abi_text_words abi) (abi_text_length abi) in
      subst (λ (x : List ℕ). Leaves s.set x c (next_free s.area) (length T)) (sym acc.new-set)
      (link_leaves s.set c (next_free s.area) (new_words s.set (text_of s.set) abi (abi_text_of abi) c)
      (new_statics s.set (text_of s.set) c) acc.coming
      some among valid-now.fits v.methods v.fields (omega arith) planning.generated (planning.method-bytes t l) (planning.field-bytes t l))

  room : next_free s.area + length T + 2 ≤ length s.area
  room = acc.room.free

  other : (d : ℕ) → HasTable s.set d → d ≢ c
  other d l e = l.has (rw e acc.class.new)

  place_other : (d : ℕ) → 1 ≤ d → d ≤ class_count s.set → d ≢ c → class_table_place o.outcome.set d ≡ class_table_place s.set d
  place_other d h a n = leaves.others d 15 h a (omega arith) n

  slots-other : (d : ℕ) → 1 ≤ d → d ≤ class_count s.set → d ≢ c → class_slot_count o.outcome.set d ≡ class_slot_count s.set d
  slots-other d h a n = leaves.others d 16 h a (omega arith) n

  table-other : (d : ℕ) → HasTable s.set d → table_of next d ≡ table_of s d
  table-other d l =
      let b = acc.lent.below d l in
      let n = l.has in
      rw (place_other d l.some l.among (other d l), slots-other d l.some l.among (other d l), acc.new-area)
      (part_ext 0 (linked_area s.area c T stubs) s.area (class_table_place s.set d + 1) (class_slot_count s.set d)
      (linked-length s.area c T stubs acc.lent.some room)
      (λ i h k. linked-before s.area c T stubs acc.lent.some room i (omega arith) (omega arith)))

  pub link-keeps : Keeps s next
  link-keeps = record {
    classes = leaves.like.classes;
    place = λ d l. place_other d l.some l.among (other d l);
    slots = λ d l. slots-other d l.some l.among (other d l);
    table = table-other;
  }

  pub new-place : class_table_place o.outcome.set c ≡ next_free s.area
  new-place = leaves.place

  pub new-slots : class_slot_count o.outcome.set c ≡ length T
  new-slots = leaves.slots

  pub new-linked : HasTable o.outcome.set c
  new-linked = record { some = some; among = rw leaves.like.classes among; has = rw new-place acc.lent.some }

  pub new-table : table_of next c ≡ slot_words stubs 0 T
  new-table =
      ap (λ (p : ℕ). table_at o.outcome.area p (class_slot_count o.outcome.set c)) new-place
      ∙ ap (λ (n : ℕ). table_at o.outcome.area (next_free s.area) n) new-slots
      ∙ ap (λ (x : List ℕ). table_at x (next_free s.area) (length T)) acc.new-area
      ∙ linked-slots s.area c T stubs acc.lent.some room

  pub was : (d : ℕ) → d ≢ c → HasTable o.outcome.set d → HasTable s.set d
  was d n l =
      let a : d ≤ class_count s.set = rw (← leaves.like.classes) l.among in
      record { some = l.some; among = a; has = rw (← place_other d l.some a n) l.has }

  pub parent_linked : parent_of s.set c ≢ 0 → HasTable s.set (parent_of s.set c)
  parent_linked n =
      let b = parent-within s.set c in
      record { some = omega arith; among = omega (arith, among); has = acc.class.parent n }

  old_below : (d : ℕ) → HasTable s.set d → end_of next d ≤ class_table_place o.outcome.set c
  old_below d l = omega (arith, new-place, link-keeps.place d l, link-keeps.slots d l, acc.lent.below d l)

  parent-next : (d : ℕ) → 1 ≤ d → d ≤ class_count s.set → (parent_of s.set d ≢ 0 → HasTable s.set (parent_of s.set d))
      → parent_of o.outcome.set d ≢ 0 → HasTable o.outcome.set (parent_of o.outcome.set d)
  parent-next d h a f n =
      let e = parent-same s.set o.outcome.set valid-now (alike leaves.like) d h a in
      rw e (still link-keeps (parent_of s.set d) (f (rw e at n)))

  pub link-tables : Tables s → Tables next
  link-tables tables = record {
    parent = λ d l.
        by (eqb d c)
        (λ t. let e : d ≡ c = eqb-true d c t in rw e (parent-next c some among parent_linked))
        (λ f. let k = was d (eqb-false d c f) l in parent-next d k.some k.among (tables.parent d k));
    whole = λ d l.
        by (eqb d c)
        (λ t. let e : d ≡ c = eqb-true d c t in rw e (ap length new-table ∙ length-words stubs 0 T ∙ sym new-slots))
        (λ f. whole-keeps tables link-keeps d (was d (eqb-false d c f) l));
    apart = λ d e ld le n.
        by (eqb d c)
        (λ t. let q : d ≡ c = eqb-true d c t in inr (rw q (old_below e (was e (λ r. n (q ∙ sym r)) le))))
        (λ f.
        let od = was d (eqb-false d c f) ld in
        by (eqb e c)
        (λ t. let q : e ≡ c = eqb-true e c t in inl (rw q (old_below d od)))
        (λ g.
        let oe = was e (eqb-false e c g) le in
        rw (link-keeps.place d od, link-keeps.slots d od, link-keeps.place e oe, link-keeps.slots e oe) (tables.apart d e od oe n)));
  }

  -- row 7 has nothing against what it leaves
  free : next_free o.outcome.area ≡ next_free s.area + length T + 2
  free = ap next_free acc.new-area ∙ linked-free s.area c T stubs acc.lent.some room

  end_below : (d : ℕ) → HasTable o.outcome.set d → end_of next d ≤ next_free o.outcome.area
  end_below d l =
      by (eqb d c)
      (λ t. let e : d ≡ c = eqb-true d c t in rw e (omega (arith, new-place, new-slots, free)))
      (λ f. omega (
        arith,
        new-place,
        free,
        link-keeps.place d (was d (eqb-false d c f) l),
        link-keeps.slots d (was d (eqb-false d c f) l),
        old_below d (was d (eqb-false d c f) l),
      ))

  pub link-sits : bad_area o.outcome.set o.outcome.area ≡ false
  link-sits =
      let f = room in
      let h = acc.lent.short in
      let n = free in
      let g = ap length acc.new-area ∙ linked-length s.area c T stubs acc.lent.some room in
      silent o.outcome.set o.outcome.area (record { some = λ e. omega arith; within = omega arith; short = omega arith; below = end_below })

  -- the list of missing slots stays long enough
  pub link-long : missing_width * class_count o.outcome.set ≤ length o.missing
  unfolding counted_after
  link-long =
      let bits : List Bool = bits_of (parent_bit s.missing (parent_of s.set c)) T in
      let l = acc.long in
      let e : length o.missing ≡ length s.missing =
      ap length acc.new-missing ∙ length-write s.missing (missing_at c) (pack_bits bits) (omega (arith, length_pack bits)) in
      omega (arith, leaves.like.classes)

-- ---- an ask keeps what is linked: its node lies after all tables, and the list head that it stores to is no slot

module _ {same : Same} (abi : List ℕ) (s : State) (tables : Tables s) (c i : ℕ) (stubs : List ℕ) (o : Outcome) (asked : Puts same s.set abi c i s.area stubs o) where
  abbrev put : State
  put = record { set = s.set; area = o.area; missing = s.missing }

  off_head : (d : ℕ) → HasTable s.set d → (j : ℕ) → class_table_place s.set d + 1 ≤ j
      → j < class_table_place s.set d + 1 + class_slot_count s.set d → j ≢ head_place s.set c
  off_head d l j h k =
      by (eqb d c)
      (λ t. let e : d ≡ c = eqb-true d c t in let k' = rw e at k in omega arith)
      (λ f. elim (tables.apart d c l asked.class (eqb-false d c f)) [ inl p ↦ omega arith | inr p ↦ omega arith ])

  ask-table : (d : ℕ) → HasTable s.set d → table_of put d ≡ table_of s d
  ask-table d l =
      let b = asked.lent.below d l in
      let n = l.has in
      let r = asked.room.free in
      subst (λ (x : List ℕ). table_of (record { set = s.set; area = x; missing = s.missing }) d ≡ table_of s d) (sym asked.new-area)
      (part_ext 0 (asked_area s.set s.area c i asked.entries stubs) s.area (class_table_place s.set d + 1) (class_slot_count s.set d)
      (asked-length s.set s.area c i asked.entries stubs r)
      (λ j h k. asked-before s.set s.area c i asked.entries stubs r j (omega arith) (omega arith) (off_head d l j h k)))

  pub ask-next : ◌≡◌ {A = State} (record { set = o.set; area = o.area; missing = s.missing }) put
  ask-next = rw asked.same_set

  pub ask-keeps : Keeps s put
  ask-keeps = record { classes = refl; place = λ d l. refl; slots = λ d l. refl; table = ask-table }

  pub ask-tables : Tables put
  ask-tables = record {
    parent = tables.parent;
    whole = λ d l. whole-keeps tables ask-keeps d l;
    apart = tables.apart;
  }

-- a state by its words
pub same-state : (s : State) (ws area missing : List ℕ) → ws ≡ s.set → area ≡ s.area → missing ≡ s.missing
    → ◌≡◌ {A = State} (record { set = ws; area = area; missing = missing }) s
same-state s ws area missing e f g = rw (e, f, g)
