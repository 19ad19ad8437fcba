-- Names and descriptors of a set's methods have at most 255 bytes, and each class's methods lie in the section. A link leaves it so: the methods
-- that it adds have names of methods that were there, or of ABI slots. Assumes nothing.
use mathlib.Core.Path.{◌≡◌, refl, sym, ap, ◌∙◌}
use mathlib.Core.Logic.{◌≢◌}
use mathlib.Core.List.{List}
use Prim.Native.Nat.{ℕ, ◌+◌, ◌-◌, ◌≤◌, ◌<◌}
use native.Mathlib.Omega.{arith}
use lib.ListN.{length}
use lib.Dec.{eqb, ltb}
use borrow.Author.Tests.{eqb-true, eqb-false, ltb-true, ltb-false}
use Rattle.std.specs.Prelude.{Some}
use Rattle.words.proofs.Bools.{by}
use Rattle.words.proofs.ListLaws.{by-found, found-by, not_found}
use Rattle.class_sheet.specs.ClassSheet.{class_width, first_method_word, method_count_word, first_field_word, field_count_word, slot_count_word, class_count, method_count, field_count, content_end, class_name_length, class_first_method, class_method_count, class_first_field, class_slot_count, method_name_length, method_descriptor_length, class_word}
use Rattle.words.specs.Rows.{row_word}
use Rattle.text.specs.Text.{name_length_word, descriptor_length_word}
use Rattle.class_sheet.specs.Sections.{Sections, Formed, laid_out, sections_of, with_classes, with_fields}
use Rattle.class_sheet.proofs.Sections.{formed-of, class_of, method-of, number_of_classes, number_of_methods, class-word, method-word}
use Rattle.abi_sheet.specs.AbiSheet.{abi_slot_count, abi_slot_name_length, abi_slot_descriptor_length}
use Rattle.set_rules.specs.Valid.{IsClass, Valid, ValidAbi}
use Rattle.linking.specs.Signature.{Same}
use Rattle.linking.specs.Chain.{chain}
use Rattle.linking.specs.Abi.{slot_at, class_abi}
use Rattle.linking.specs.Vtable.{read_entry}
use Rattle.linking.specs.Compiler.{New, members}
use Rattle.linking.specs.Link.{Plan, is_none, generated_methods, linked_words}
use Rattle.linking.specs.Grown.{methods_growing, fields_growing, record_rows, row_indices, linked_sections}
use Rattle.linking.proofs.Added.{EachNew, read-room, slot-room, generated-each}
use Rattle.linking.proofs.Grown.{rows-indices, formed-methods_growing, formed-fields_growing}
use Rattle.linking.proofs.Appended.{relisting, length-relisting, class-kept, word_kept}
use Rattle.linking.proofs.MethodsBack.{methods_count, old-method, copied-method, new-method, other-class, own-word, own_first, own-count}
use Rattle.linking.proofs.LinkedSections.{lies-of, linked-laid, length_record, record_word_lem, record_class, record_slots, formed-recorded}
use Rattle.lines.specs.Lines.{own_slot, fixed_slot}
use Rattle.lines.proofs.Lengths.{Short, name-few}

-- a method or an ABI slot whose name and descriptor are short
abbrev pub ShortMethod : List ℕ → ℕ → Type 0
ShortMethod ws m = (method_name_length ws m ≤ 255) × (method_descriptor_length ws m ≤ 255)

abbrev pub ShortSlot : List ℕ → ℕ → Type 0
ShortSlot abi s = (abi_slot_name_length abi s ≤ 255) × (abi_slot_descriptor_length abi s ≤ 255)

-- a new member's, and those of new members
abbrev pub ShortNew : New → Type 0
ShortNew x = (length x.name ≤ 255) × (length x.descriptor ≤ 255)

abbrev pub ShortNews : List New → Type 0
ShortNews xs = EachNew ShortNew xs

pub record Bounded (ws : List ℕ) : Type 0 where
  pub list : (d : ℕ) → IsClass ws d → class_first_method ws d + class_method_count ws d ≤ method_count ws
  pub name : (d : ℕ) → IsClass ws d → class_name_length ws d ≤ 255
  pub method : (m : ℕ) → m < method_count ws → ShortMethod ws m

pub valid-bounded : (ws : List ℕ) → Valid ws → Bounded ws
valid-bounded ws v = record {
  list = λ d k. (v.class d k).methods;
  name = λ d k. (v.class d k).name.short;
  method = λ m h. ((v.method m h).name.short, (v.method m h).descriptor.short);
}

-- ---- what Reading finds, and what an ABI entry fixes, is short

short-slot : (abi : List ℕ) → ValidAbi abi → (s : ℕ) → s < abi_slot_count abi → ShortSlot abi s
short-slot abi v s h = let x = v.slot s h in (x.name.short, x.descriptor.short)

module _ (ws text abi labels : List ℕ) (v : ValidAbi abi) where
  slot-short : (i a s d : ℕ) → class_abi ws text abi labels d ≡ Some a → slot_at abi i a ≡ Some s → ShortSlot abi s
  slot-short i a s d e f = short-slot abi v s (slot-room ws text abi labels (λ a k. (v.class a k).slots) i a s d e f)

  own-slot-short : (i d s : ℕ) → own_slot ws text abi labels i d ≡ Some s → ShortSlot abi s
  unfolding own_slot
  own-slot-short i d s e =
      by-found (class_abi ws text abi labels d) (λ a q. slot-short i a s d q (rw q at e)) (λ q. not_found (rw q at e))

module _ (same : Same) (ws text abi labels : List ℕ) (b : Bounded ws) where
  pub read_short : (c i w m : ℕ) → c ≤ class_count ws → (read_entry same ws text abi labels c i w).method ≡ Some m → ShortMethod ws m
  read_short c i w m h e = b.method m (read-room same ws text abi labels b.list c i w m h e)

  -- the lines of a class of the set
  pub class-short : ValidAbi abi → (c : ℕ) → IsClass ws c → Short same ws text abi labels c
  unfolding fixed_slot
  class-short v c k = record {
    name = b.name c k;
    method = λ i w m e. read_short c i w m k.1 e;
    slot = λ i s e. found-by (own_slot ws text abi labels i) (chain ws c) s (λ d t r. own-slot-short ws text abi labels v i d s r) e;
  }

  -- ---- the methods that a link adds

  pub news-short : ValidAbi abi → (area : List ℕ) (c : ℕ) → c ≤ class_count ws → ShortNews (members (generated_methods same ws text abi labels area c))
  news-short v =
      generated-each same ws text abi labels b.list (λ a k. (v.class a k).slots) ShortNew
      (λ m target h. let p = b.method m h in (name-few text _ _ p.0, name-few text _ _ p.1))
      (λ s target h. let p = short-slot abi v s h in (name-few labels _ _ p.0, name-few labels _ _ p.1))

-- ---- the same on sections

pub record BoundedIn (s : Sections) : Type 0 where
  pub list : (d : ℕ) → 1 ≤ d → d ≤ length s.classes
      → row_word s.classes (d - 1) first_method_word + row_word s.classes (d - 1) method_count_word ≤ length s.methods
  pub name : (d : ℕ) → 1 ≤ d → d ≤ length s.classes → row_word s.classes (d - 1) name_length_word ≤ 255
  pub method : (m : ℕ) → m < length s.methods → (row_word s.methods m name_length_word ≤ 255) × (row_word s.methods m descriptor_length_word ≤ 255)

bounded-laid : (s : Sections) → Formed class_width s → BoundedIn s → Bounded (laid_out s)
bounded-laid s f b =
    let n = number_of_classes s in
    let m = number_of_methods s in
    record {
      list = λ d k.
          omega (
            arith,
            b.list d k.0 (omega arith),
            class-word s f d first_method_word k.0 (omega arith) (omega arith),
            class-word s f d method_count_word k.0 (omega arith) (omega arith),
          );
      name = λ d k. omega (arith, b.name d k.0 (omega arith), class-word s f d name_length_word k.0 (omega arith) (omega arith));
      method = λ i h.
          let p = b.method i (omega arith) in (
            omega (arith, method-word s f i name_length_word (omega arith) (omega arith)),
            omega (arith, method-word s f i descriptor_length_word (omega arith) (omega arith)),
          );
    }

module _ (ws : List ℕ) (fits : content_end ws ≤ length ws) where
  bounded_of : Bounded ws → BoundedIn (sections_of ws)
  bounded_of b =
      let l = lies-of ws fits in
      let n = l.classes in
      let m = l.methods in
      record {
        list = λ d h k.
            omega (
              arith,
              b.list d (h, omega arith),
              class_of ws fits d first_method_word h (omega arith) (omega arith),
              class_of ws fits d method_count_word h (omega arith) (omega arith),
            );
        name = λ d h k. omega (arith, b.name d (h, omega arith), class_of ws fits d name_length_word h (omega arith) (omega arith));
        method = λ i h.
            let p = b.method i (omega arith) in (
              omega (arith, method-of ws fits i name_length_word (omega arith) (omega arith)),
              omega (arith, method-of ws fits i descriptor_length_word (omega arith) (omega arith)),
            );
      }

-- the words that count are left, and so are the methods
bounded-kept : (s g : Sections) → length g.classes ≡ length s.classes
    → ((d k : ℕ) → k ≤ method_count_word → row_word g.classes (d - 1) k ≡ row_word s.classes (d - 1) k) → g.methods ≡ s.methods → BoundedIn s → BoundedIn g
bounded-kept s g n w m b =
    let l = ap length m in
    record {
      list = λ d h k. omega (arith, b.list d h (omega arith), w d first_method_word (omega arith), w d method_count_word (omega arith));
      name = λ d h k. omega (arith, b.name d h (omega arith), w d name_length_word (omega arith));
      method = λ i h. rw m (b.method i (omega arith));
    }

-- a list of methods that grew, its new members short
module _ (s : Sections) (f : Formed class_width s) (c : ℕ) (some : 1 ≤ c) (among : c ≤ length s.classes) (new : List New) (short : ShortNews new)
    (b : BoundedIn s) where
  abbrev inside : row_word s.classes (c - 1) first_method_word + row_word s.classes (c - 1) method_count_word ≤ length s.methods
  inside = b.list c some among

  abbrev grown : List ℕ
  grown = laid_out (methods_growing s c new)

  classes-grown : class_count grown ≡ length s.classes
  unfolding methods_growing
  classes-grown =
      number_of_classes (methods_growing s c new)
      ∙ length-relisting s.classes c first_method_word method_count_word (length s.methods) (row_word s.classes (c - 1) method_count_word + length new)

  bounded-methods : Bounded grown
  bounded-methods =
      let count : ℕ = length s.methods in
      let own : ℕ = row_word s.classes (c - 1) method_count_word in
      let n = methods_count s f c new inside in
      let l = classes-grown in
      record {
        list = λ d k.
            by (eqb (d - 1) (c - 1))
            (λ t.
            let e : d ≡ c = omega (arith, eqb-true (d - 1) (c - 1) t) in
            omega (
              arith,
              own_first s f c new inside some among,
              own-count s f c new inside some among,
              ap (class_first_method grown) e,
              ap (class_method_count grown) e,
            ))
            (λ t.
            let x = eqb-false (d - 1) (c - 1) t in
            omega (
              arith,
              b.list d k.0 (omega arith),
              other-class s f c new inside d first_method_word k.0 (omega arith) (omega arith) x,
              other-class s f c new inside d method_count_word k.0 (omega arith) (omega arith) x,
            ));
        name = λ d k.
            by (eqb (d - 1) (c - 1))
            (λ t.
            let e : d ≡ c = omega (arith, eqb-true (d - 1) (c - 1) t) in
            omega (
              arith,
              b.name c some among,
              own-word s f c new inside some among name_length_word (omega arith) (omega arith) (omega arith),
              ap (λ (x : ℕ). class_word grown x name_length_word) e,
            ))
            (λ t.
            let x = eqb-false (d - 1) (c - 1) t in
            omega (arith, b.name d k.0 (omega arith), other-class s f c new inside d name_length_word k.0 (omega arith) (omega arith) x));
        method = λ m h.
            by (ltb m count)
            (λ t.
            let p = ltb-true m count t in
            let q = b.method m p in (
              omega (arith, old-method s f c new inside name_length_word (omega arith) m p),
              omega (arith, old-method s f c new inside descriptor_length_word (omega arith) m p),
            ))
            (λ t.
            let p = ltb-false m count t in
            by (ltb m (count + own))
            (λ u.
            let x = ltb-true m (count + own) u in
            let j : ℕ = m - count in
            let z : count + j ≡ m = omega arith in
            let q = b.method (row_word s.classes (c - 1) first_method_word + j) (omega (arith, inside)) in
            rw (← z) (
              omega (arith, copied-method s f c new inside name_length_word (omega arith) j (omega arith)),
              omega (arith, copied-method s f c new inside descriptor_length_word (omega arith) j (omega arith)),
            ))
            (λ u.
            let x = ltb-false m (count + own) u in
            let j : ℕ = m - count - own in
            let z : count + (own + j) ≡ m = omega arith in
            let i : j < length new = omega arith in
            let q = short j i in
            rw (← z) (
              omega (arith, new-method s f c new inside name_length_word (omega arith) j i),
              omega (arith, new-method s f c new inside descriptor_length_word (omega arith) j i),
            )));
      }

-- a word of a class record that is not of the list that moved
relisted-row : (rs : List (List ℕ)) (c k l first count i j : ℕ) → j ≢ k → j ≢ l → row_word (relisting rs c k l first count) i j ≡ row_word rs i j
relisted-row rs c k l first count i j m n =
    by (eqb i (c - 1))
    (λ t. let e : i ≡ c - 1 = eqb-true i (c - 1) t in rw e (word_kept rs c k l first count j m n))
    (λ t. class-kept rs c k l first count i j (eqb-false i (c - 1) t))

-- ---- an accepted link

module _ (s : Sections) (f : Formed class_width s) (c place words statics : ℕ) (p : Plan) (some : 1 ≤ c) (among : c ≤ length s.classes) (b : BoundedIn s)
    (methods : ShortNews (members p.added))
    (fields : row_word s.classes (c - 1) first_field_word + row_word s.classes (c - 1) field_count_word ≤ length s.fields) where
  abbrev rows : List (List ℕ)
  rows = record_rows s.classes c place (length p.table) words statics

  abbrev rec : Sections
  rec = with_classes s rows

  abbrev num : Sections
  num = with_fields rec (row_indices (row_word s.classes (c - 1) first_field_word) p.indices s.fields)

  rec-formed : Formed class_width rec
  rec-formed = formed-recorded s f c place (length p.table) words statics some among

  num-formed : Formed class_width num
  num-formed = record {
    classes = rec-formed.classes;
    methods = rec-formed.methods;
    fields = rows-indices (row_word s.classes (c - 1) first_field_word) p.indices rec-formed.fields;
    text = rec-formed.text;
  }

  row-left : (d k : ℕ) → k ≤ field_count_word → row_word rows (d - 1) k ≡ row_word s.classes (d - 1) k
  row-left d k h =
      by (eqb (d - 1) (c - 1))
      (λ t.
      rw (eqb-true (d - 1) (c - 1) t)
      (record_word_lem s.classes c place (length p.table) words statics k (omega arith) (omega arith) (omega arith) (omega arith)))
      (λ t. record_class s.classes c place (length p.table) words statics (d - 1) k (eqb-false (d - 1) (c - 1) t))

  rec-bounded : BoundedIn rec
  rec-bounded = bounded-kept s rec (length_record s.classes c place (length p.table) words statics) (λ d k h. row-left d k (omega arith)) refl b

  num-bounded : BoundedIn num
  num-bounded = record { list = rec-bounded.list; name = rec-bounded.name; method = rec-bounded.method }

  inside₇ : row_word rec.classes (c - 1) first_field_word + row_word rec.classes (c - 1) field_count_word ≤ length rec.fields
  inside₇ = omega (arith, fields, row-left c first_field_word (omega arith), row-left c field_count_word (omega arith))

  field_row : (d k : ℕ) → k ≤ method_count_word → row_word (fields_growing rec c p.indices p.new_fields).classes (d - 1) k ≡ row_word rows (d - 1) k
  unfolding fields_growing
  field_row d k h = relisted-row rows c first_field_word field_count_word _ _ (d - 1) k (omega arith) (omega arith)

  fields-bounded : BoundedIn (fields_growing rec c p.indices p.new_fields)
  unfolding fields_growing
  fields-bounded = bounded-kept rec _ (length-relisting rows c first_field_word field_count_word _ _) field_row refl rec-bounded

  linked-bounded : Bounded (laid_out (linked_sections s c place words statics p))
  unfolding linked_sections
  linked-bounded =
      by (is_none p.new_fields)
      (λ t.
      by (is_none (members p.added)) (λ u. rw (t, u) (bounded-laid num num-formed num-bounded))
      (λ u.
      rw (t, u)
      (bounded-methods num num-formed c some (omega (arith, length_record s.classes c place (length p.table) words statics)) (members p.added) methods
      num-bounded)))
      (λ t.
      rw t
      (bounded-laid (fields_growing rec c p.indices p.new_fields) (formed-fields_growing rec rec-formed c p.new_fields p.indices inside₇)
      fields-bounded))

  -- ---- its slot count, and those of the other classes

  abbrev after : Sections
  after = linked_sections s c place words statics p

  methods-inside : row_word num.classes (c - 1) first_method_word + row_word num.classes (c - 1) method_count_word ≤ length num.methods
  methods-inside = num-bounded.list c some (omega (arith, length_record s.classes c place (length p.table) words statics))

  after-formed : Formed class_width after
  unfolding linked_sections
  after-formed =
      by (is_none p.new_fields)
      (λ t.
      by (is_none (members p.added)) (λ u. rw (t, u) num-formed)
      (λ u. rw (t, u) (formed-methods_growing num num-formed c (members p.added) methods-inside)))
      (λ t. rw t (formed-fields_growing rec rec-formed c p.new_fields p.indices inside₇))

  -- the class records but for where lists begin
  after-rows : (length after.classes ≡ length s.classes) × ((i : ℕ) → row_word after.classes i slot_count_word ≡ row_word rows i slot_count_word)
  unfolding linked_sections methods_growing fields_growing
  after-rows =
      let l = length_record s.classes c place (length p.table) words statics in
      by (is_none p.new_fields)
      (λ t.
      by (is_none (members p.added)) (λ u. rw (t, u) (l, λ i. refl))
      (λ u.
      rw (t, u) (
        length-relisting rows c first_method_word method_count_word (length s.methods) (row_word rows (c - 1) method_count_word + length (members p.added)) ∙ l,
        λ i. relisted-row rows c first_method_word method_count_word (length s.methods)
            (row_word rows (c - 1) method_count_word + length (members p.added)) i slot_count_word (omega arith) (omega arith),
      )))
      (λ t.
      rw t (
        length-relisting rows c first_field_word field_count_word (length s.fields) (row_word rows (c - 1) field_count_word + length p.new_fields) ∙ l,
        λ i. relisted-row rows c first_field_word field_count_word (length s.fields)
            (row_word rows (c - 1) field_count_word + length p.new_fields) i slot_count_word (omega arith) (omega arith),
      ))

  linked-slots : (d : ℕ) → 1 ≤ d → d ≤ length s.classes → class_slot_count (laid_out after) d ≡ row_word rows (d - 1) slot_count_word
  linked-slots d h k = class-word after after-formed d slot_count_word h (omega (arith, after-rows.0)) (omega arith) ∙ after-rows.1 (d - 1)

-- what an accepted link leaves: the words bounded, its own slot count, and those of the other classes
pub record Leaves (ws new : List ℕ) (c slots : ℕ) : Type 0 where
  pub bounded : Bounded new
  pub classes : class_count new ≡ class_count ws
  pub own : class_slot_count new c ≡ slots
  pub others : (d : ℕ) → IsClass ws d → d ≢ c → class_slot_count new d ≡ class_slot_count ws d

pub link_leaves : (ws : List ℕ) → Valid ws → (c place words statics : ℕ) (p : Plan) → IsClass ws c → ShortNews (members p.added)
    → class_first_field ws c + length p.indices ≤ field_count ws → Leaves ws (linked_words ws c place words statics p) c (length p.table)
link_leaves ws v c place words statics p k short inside =
    let l = lies-of ws v.fits in
    let n = l.classes in
    let m = l.fields in
    let x = v.class c k in
    let s : Sections = sections_of ws in
    let f = formed-of ws v.fits in
    let b = bounded_of ws v.fits (valid-bounded ws v) in
    let among : c ≤ length s.classes = omega arith in
    let fields : row_word s.classes (c - 1) first_field_word + row_word s.classes (c - 1) field_count_word ≤ length s.fields =
    omega (arith, x.fields, class_of ws v.fits c first_field_word k.0 k.1 (omega arith), class_of ws v.fits c field_count_word k.0 k.1 (omega arith)) in
    rw (linked-laid ws v.fits c place words statics p k.0 k.1 inside x.methods x.fields)
    (record {
      bounded = linked-bounded s f c place words statics p k.0 among b short fields;
      classes = number_of_classes (linked_sections s c place words statics p) ∙ (after-rows s f c place words statics p k.0 among b short fields).0 ∙ sym n;
      own = linked-slots s f c place words statics p k.0 among b short fields c k.0 among
          ∙ record_slots s.classes c place (length p.table) words statics f.classes (omega arith) (omega arith) (omega arith);
      others = λ d i e.
          linked-slots s f c place words statics p k.0 among b short fields d i.0 (omega arith)
          ∙ record_class s.classes c place (length p.table) words statics (d - 1) slot_count_word (λ q. e (omega arith))
          ∙ sym (class_of ws v.fits d slot_count_word i.0 i.1 (omega arith));
    })
