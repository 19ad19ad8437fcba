-- What an accepted link leaves, read in the class words: every record that was there, every other word of the class's own; and where its method list has
-- grown, the copied records word by word and the added ones with the names, descriptors, flags and targets they took; fields likewise. Assumes nothing.
use mathlib.Core.Path.{◌≡◌, sym, ap, ◌∙◌}
use mathlib.Core.Logic.{◌≢◌, ◌⊎◌, inl, inr}
use mathlib.Core.Bool.{true, false}
use mathlib.Core.List.{List, [], ◌++◌}
use Prim.Native.Nat.{ℕ, ◌+◌, ◌-◌, ◌≤◌, ◌<◌}
use native.Mathlib.Omega.{arith}
use lib.ListN.{length, get_or, take}
use lib.Dec.{eqb}
use borrow.Author.Tests.{eqb-true, eqb-false}
use Rattle.words.proofs.Bools.{by}
use Rattle.text.specs.Text.{name_at}
use Rattle.class_sheet.specs.ClassSheet.{class_width, member_width, kind_word, class_kind, first_method_word, method_count_word, first_field_word, field_count_word, instance_words_word, table_place_word, slot_count_word, static_words_word, index_word, class_count, method_count, field_count, interface_count, compiler_count, content_end, text_of, class_word, class_first_method, class_method_count, class_first_field, class_field_count, class_name, method_word, field_word, interface_word, compiler_word, field_name, field_descriptor, field_flags, field_index, method_name, method_descriptor, method_flags, method_target}
use Rattle.words.specs.Rows.{row_word}
use Rattle.words.specs.Words.{AreBytes}
use Rattle.class_sheet.specs.Sections.{Sections, Formed, laid_out, sections_of, with_classes, with_fields}
use Rattle.class_sheet.proofs.Sections.{number_of_classes, number_of_methods, number_of_interfaces, number_of_compilers, class-word, method-word, field-word, interface-word, compiler-word, text-of, formed-of, class_of, method-of, field_of, interface-of, compiler-of, text-of-words}
use Rattle.set_rules.specs.Valid.{Valid}
use Rattle.linking.specs.Compiler.{New, no_new, members}
use Rattle.linking.specs.Set.{new_text}
use Rattle.linking.specs.Link.{Plan, is_none, linked_words}
use Rattle.linking.specs.Grown.{member_row, row_indices, record_rows, methods_growing, fields_growing, linked_sections}
use Rattle.linking.proofs.Appended.{name-front, word_kept}
use Rattle.linking.proofs.Grown.{index_at, index-other, index-before, index-after, length-row-indices}
use Rattle.linking.proofs.LinkedSections.{length_record, record_word_lem, record_own, record_brought, record_words, record_statics, formed-recorded, lies-of, linked-laid}
use Rattle.linking.proofs.LinkedBack.{Untouched, early, Left, linked-left, linked-still, still-num, left-num}
use Rattle.linking.proofs.FieldsBack as back
use Rattle.linking.proofs.FieldsBack.{fields_count, old-field, copied-field, copied-index, new-field, fields-text}
use Rattle.linking.proofs.MethodsBack.{methods_count, copied-method, new-method, own_first, own-count, methods-text, read_name, read-descriptor}

-- ---- whichever list grows

pub record After (ws ws' : List ℕ) (c : ℕ) : Type 0 where
  pub classes : class_count ws' ≡ class_count ws
  pub others : (d k : ℕ) → 1 ≤ d → d ≤ class_count ws → k < class_width → d ≢ c → class_word ws' d k ≡ class_word ws d k
  pub own : (k : ℕ) → k < class_width → Untouched k → class_word ws' c k ≡ class_word ws c k
  pub methods : method_count ws ≤ method_count ws'
  pub method : (m k : ℕ) → m < method_count ws → k < member_width → method_word ws' m k ≡ method_word ws m k
  pub interfaces : interface_count ws' ≡ interface_count ws
  pub interface : (i : ℕ) → i < interface_count ws → interface_word ws' i ≡ interface_word ws i
  pub compilers : compiler_count ws' ≡ compiler_count ws
  pub compiler : (i : ℕ) → i < compiler_count ws → compiler_word ws' i ≡ compiler_word ws i
  pub more : List ℕ
  pub text : text_of ws' ≡ text_of ws ++ more

-- ---- where methods are added: the class's list begins after the methods that were there, with a copy of its own

pub record Added (ws ws' : List ℕ) (c : ℕ) (new : List New) : Type 0 where
  pub methods : method_count ws' ≡ method_count ws + (class_method_count ws c + length new)
  pub first : class_first_method ws' c ≡ method_count ws
  pub many : class_method_count ws' c ≡ class_method_count ws c + length new
  pub text : text_of ws' ≡ text_of ws ++ new_text new
  pub copied : (j k : ℕ) → j < class_method_count ws c → k < member_width
      → method_word ws' (method_count ws + j) k ≡ method_word ws (class_first_method ws c + j) k
  pub new-name : (j : ℕ) → j < length new → method_name ws' (text_of ws') (method_count ws + (class_method_count ws c + j)) ≡ (get_or new j no_new).name
  pub new-descriptor : (j : ℕ) → j < length new
      → method_descriptor ws' (text_of ws') (method_count ws + (class_method_count ws c + j)) ≡ (get_or new j no_new).descriptor
  pub new-flags : (j : ℕ) → j < length new → method_flags ws' (method_count ws + (class_method_count ws c + j)) ≡ (get_or new j no_new).flags
  pub new-target : (j : ℕ) → j < length new → method_target ws' (method_count ws + (class_method_count ws c + j)) ≡ (get_or new j no_new).last

-- ---- where fields are added: the class's list begins after the fields that were there, with a copy of its own at their new indices

pub record FieldsAdded (ws ws' : List ℕ) (c : ℕ) (indices : List ℕ) (new : List New) : Type 0 where
  pub fields : field_count ws' ≡ field_count ws + (class_field_count ws c + length new)
  pub first : class_first_field ws' c ≡ field_count ws
  pub many : class_field_count ws' c ≡ class_field_count ws c + length new
  pub text : text_of ws' ≡ text_of ws ++ new_text new
  pub old : (m k : ℕ) → m < field_count ws → k < member_width → field_word ws' m k ≡ field_word ws m k
  pub copied : (j k : ℕ) → j < class_field_count ws c → k < member_width → k ≢ index_word
      → field_word ws' (field_count ws + j) k ≡ field_word ws (class_first_field ws c + j) k
  pub copied-index : (j : ℕ) → j < class_field_count ws c → j < length indices → field_index ws' (field_count ws + j) ≡ get_or indices j 0
  pub new-name : (j : ℕ) → j < length new → field_name ws' (text_of ws') (field_count ws + (class_field_count ws c + j)) ≡ (get_or new j no_new).name
  pub new-descriptor : (j : ℕ) → j < length new
      → field_descriptor ws' (text_of ws') (field_count ws + (class_field_count ws c + j)) ≡ (get_or new j no_new).descriptor
  pub new-flags : (j : ℕ) → j < length new → field_flags ws' (field_count ws + (class_field_count ws c + j)) ≡ (get_or new j no_new).flags
  pub new-index : (j : ℕ) → j < length new → field_index ws' (field_count ws + (class_field_count ws c + j)) ≡ (get_or new j no_new).last

module _ (ws : List ℕ) (c place words statics : ℕ) (p : Plan) (some : 1 ≤ c) (among : c ≤ class_count ws) (fits : content_end ws ≤ length ws)
    (methods : class_first_method ws c + class_method_count ws c ≤ method_count ws) (fields : class_first_field ws c + class_field_count ws c ≤ field_count ws)
    (inside : class_first_field ws c + length p.indices ≤ field_count ws)
    (method-bytes : AreBytes (new_text (members p.added))) (field-bytes : AreBytes (new_text p.new_fields)) where
  abbrev s : Sections
  s = sections_of ws

  abbrev g : Sections
  g = linked_sections s c place words statics p

  laid : linked_words ws c place words statics p ≡ laid_out g
  laid = linked-laid ws fits c place words statics p some among inside methods fields

  within : c ≤ length s.classes
  within = omega (arith, (lies-of ws fits).classes)

  own_of : (k : ℕ) → k < class_width → class_word ws c k ≡ row_word s.classes (c - 1) k
  own_of k h = class_of ws fits c k some among h

  methods_in_lem : row_word s.classes (c - 1) first_method_word + row_word s.classes (c - 1) method_count_word ≤ length s.methods
  methods_in_lem = omega (arith, methods, own_of first_method_word (omega arith), own_of method_count_word (omega arith), (lies-of ws fits).methods)

  fields_in : row_word s.classes (c - 1) first_field_word + row_word s.classes (c - 1) field_count_word ≤ length s.fields
  fields_in = omega (arith, fields, own_of first_field_word (omega arith), own_of field_count_word (omega arith), (lies-of ws fits).fields)

  linked : (more : List ℕ) × Left s g c place (length p.table) more
  linked = linked-left s (formed-of ws fits) c place words statics p some within methods_in_lem fields_in method-bytes field-bytes

  abbrev left : Left s g c place (length p.table) linked.0
  left = linked.1

  class-here : (d k : ℕ) → 1 ≤ d → d ≤ class_count ws → k < class_width → row_word g.classes (d - 1) k ≡ row_word s.classes (d - 1) k
      → class_word (laid_out g) d k ≡ class_word ws d k
  class-here d k l h b e =
      class-word g left.formed d k l (omega (arith, left.classes, (lies-of ws fits).classes)) b ∙ e ∙ sym (class_of ws fits d k l h b)

  after : After ws (laid_out g) c
  after =
      let z = lies-of ws fits in
      record {
        classes = number_of_classes g ∙ left.classes ∙ sym z.classes;
        others = λ d k l h b n. class-here d k l h b (left.others (d - 1) k (λ e. n (omega arith)));
        own = λ k b u. class-here c k some among b (left.kept k u);
        methods = omega (arith, number_of_methods g, left.more-methods, z.methods);
        method = λ m k h b.
            method-word g left.formed m k (omega (arith, left.more-methods, z.methods)) b
            ∙ ap (λ (r : List ℕ). get_or r k 0) (left.methods m (omega (arith, z.methods))) ∙ sym (method-of ws fits m k h b);
        interfaces = number_of_interfaces g ∙ ap length left.interfaces ∙ sym z.interfaces;
        interface = λ i h.
            interface-word g left.formed i (omega (arith, ap length left.interfaces, z.interfaces))
            ∙ ap (λ (x : List ℕ). get_or x i 0) left.interfaces ∙ sym (interface-of ws fits i h);
        compilers = number_of_compilers g ∙ ap length left.compilers ∙ sym z.compilers;
        compiler = λ i h.
            compiler-word g left.formed i (omega (arith, ap length left.compilers, z.compilers))
            ∙ ap (λ (x : List ℕ). get_or x i 0) left.compilers ∙ sym (compiler-of ws fits i h);
        more = linked.0;
        text = text-of g left.formed ∙ left.text ∙ ap (λ (t : List ℕ). t ++ linked.0) (sym (text-of-words ws fits));
      }

  pub link-after : After ws (linked_words ws c place words statics p) c
  link-after = rw laid after

  -- where no method is added, the class's method list stays
  pub link-still : is_none (members p.added) ≡ true → (k : ℕ) → k < first_field_word
      → class_word (linked_words ws c place words statics p) c k ≡ class_word ws c k
  link-still t k h =
      rw laid (class-here c k some among (omega arith) (linked-still s (formed-of ws fits) c place words statics p some within t k h))

  -- nor has the section a method more
  methods-of : is_none (members p.added) ≡ true → g.methods ≡ s.methods
  unfolding linked_sections fields_growing
  methods-of t = by (is_none p.new_fields) (λ u. rw (u, t)) (λ u. rw u)

  pub link-count : is_none (members p.added) ≡ true → method_count (linked_words ws c place words statics p) ≡ method_count ws
  link-count t = rw laid (number_of_methods g ∙ ap length (methods-of t) ∙ sym (lies-of ws fits).methods)

  -- ---- the class's own record

  abbrev recorded : List (List ℕ)
  recorded = record_rows s.classes c place (length p.table) words statics

  own_row : (k : ℕ) → k ≢ first_method_word → k ≢ method_count_word → k ≢ first_field_word → k ≢ field_count_word
      → row_word g.classes (c - 1) k ≡ row_word recorded (c - 1) k
  unfolding linked_sections methods_growing fields_growing
  own_row k n₀ n₁ n₂ n₃ =
      by (is_none p.new_fields)
      (λ t.
      by (is_none (members p.added)) (λ u. rw (t, u))
      (λ u.
      rw (t, u)
      (word_kept recorded c first_method_word method_count_word (length s.methods)
      (row_word recorded (c - 1) method_count_word + length (members p.added)) k n₀ n₁)))
      (λ t.
      rw t
      (word_kept recorded c first_field_word field_count_word (length s.fields) (row_word recorded (c - 1) field_count_word + length p.new_fields) k n₂ n₃))

  at_own : (k : ℕ) → k < class_width → class_word (linked_words ws c place words statics p) c k ≡ row_word g.classes (c - 1) k
  at_own k b = rw laid (class-word g left.formed c k some (omega (arith, left.classes, (lies-of ws fits).classes)) b)

  kind_row : row_word s.classes (c - 1) kind_word ≡ class_kind ws c
  kind_row = sym (own_of kind_word (omega arith))

  -- instance and static words: a generated class's stay, another's are those given
  pub link_brings : class_kind ws c ≡ 1 → (k : ℕ) → (k ≡ instance_words_word) ⊎ (k ≡ static_words_word)
      → class_word (linked_words ws c place words statics p) c k ≡ class_word ws c k
  link_brings e k (inl q) =
      rw q
      (at_own instance_words_word (omega arith) ∙ own_row instance_words_word (omega arith) (omega arith) (omega arith) (omega arith)
      ∙ record_own s.classes c place (length p.table) words statics (kind_row ∙ e) ∙ sym (own_of instance_words_word (omega arith)))
  link_brings e k (inr q) =
      rw q
      (at_own static_words_word (omega arith) ∙ own_row static_words_word (omega arith) (omega arith) (omega arith) (omega arith)
      ∙ record_brought s.classes c place (length p.table) words statics (kind_row ∙ e) ∙ sym (own_of static_words_word (omega arith)))

  pub link-words : class_kind ws c ≢ 1 → class_word (linked_words ws c place words statics p) c instance_words_word ≡ words
  link-words n =
      at_own instance_words_word (omega arith) ∙ own_row instance_words_word (omega arith) (omega arith) (omega arith) (omega arith)
      ∙ record_words s.classes c place (length p.table) words statics (formed-of ws fits).classes (omega (arith, within)) (omega arith) (omega arith)
      (omega arith) (λ e. n (sym kind_row ∙ e))

  pub link-statics : class_kind ws c ≢ 1 → class_word (linked_words ws c place words statics p) c static_words_word ≡ statics
  link-statics n =
      at_own static_words_word (omega arith) ∙ own_row static_words_word (omega arith) (omega arith) (omega arith) (omega arith)
      ∙ record_statics s.classes c place (length p.table) words statics (formed-of ws fits).classes (omega (arith, within)) (omega arith) (omega arith)
      (omega arith) (λ e. n (sym kind_row ∙ e))

  list-row : is_none p.new_fields ≡ true → (k : ℕ) → k ≢ first_method_word → k ≢ method_count_word
      → row_word g.classes (c - 1) k ≡ row_word recorded (c - 1) k
  unfolding linked_sections methods_growing fields_growing
  list-row t k n₀ n₁ =
      by (is_none (members p.added)) (λ u. rw (t, u))
      (λ u.
      rw (t, u)
      (word_kept recorded c first_method_word method_count_word (length s.methods)
      (row_word recorded (c - 1) method_count_word + length (members p.added)) k n₀ n₁))

  list-word : is_none p.new_fields ≡ true → (k : ℕ) → k < class_width → k ≢ first_method_word → k ≢ method_count_word → k ≢ instance_words_word
      → k ≢ table_place_word → k ≢ slot_count_word → k ≢ static_words_word → class_word (linked_words ws c place words statics p) c k ≡ class_word ws c k
  list-word t k b n₀ n₁ n₂ n₃ n₄ n₅ =
      at_own k b ∙ list-row t k n₀ n₁ ∙ record_word_lem s.classes c place (length p.table) words statics k n₂ n₃ n₄ n₅ ∙ sym (own_of k b)

  -- where no field is added, the class's field list stays
  pub link-listed : is_none p.new_fields ≡ true → (k : ℕ) → (k ≡ first_field_word) ⊎ (k ≡ field_count_word)
      → class_word (linked_words ws c place words statics p) c k ≡ class_word ws c k
  link-listed t k (inl q) =
      rw q (list-word t first_field_word (omega arith) (omega arith) (omega arith) (omega arith) (omega arith) (omega arith) (omega arith))
  link-listed t k (inr q) =
      rw q (list-word t field_count_word (omega arith) (omega arith) (omega arith) (omega arith) (omega arith) (omega arith) (omega arith))

  -- where no field is added, the fields stay but for indices
  module _ (none-added : is_none p.new_fields ≡ true) where
    fields-of : g.fields ≡ row_indices (row_word s.classes (c - 1) first_field_word) p.indices s.fields
    unfolding linked_sections methods_growing
    fields-of = by (is_none (members p.added)) (λ u. rw (none-added, u)) (λ u. rw (none-added, u))

    field-left : (m k : ℕ) → m < field_count ws → k < member_width → k ≢ index_word → field_word (laid_out g) m k ≡ field_word ws m k
    field-left m k h b n =
        let first : ℕ = row_word s.classes (c - 1) first_field_word in
        let l : length g.fields ≡ length s.fields = ap length fields-of ∙ length-row-indices first p.indices s.fields in
        field-word g left.formed m k (omega (arith, l, (lies-of ws fits).fields)) b
        ∙ ap (λ (x : List (List ℕ)). row_word x m k) fields-of ∙ index-other first p.indices s.fields m k n ∙ sym (field_of ws fits m k h b)

    pub link-field : (m k : ℕ) → m < field_count ws → k < member_width → k ≢ index_word
        → field_word (linked_words ws c place words statics p) m k ≡ field_word ws m k
    link-field m k h b n = rw laid (field-left m k h b n)

    -- the class's own are those given
    pub link-index : (j : ℕ) → j < length p.indices
        → field_index (linked_words ws c place words statics p) (class_first_field ws c + j) ≡ get_or p.indices j 0
    link-index j h =
        let first : ℕ = row_word s.classes (c - 1) first_field_word in
        let f : class_first_field ws c ≡ first = own_of first_field_word (omega arith) in
        let l : length g.fields ≡ length s.fields = ap length fields-of ∙ length-row-indices first p.indices s.fields in
        rw laid
        (field-word g left.formed (class_first_field ws c + j) index_word (omega (arith, l, (lies-of ws fits).fields, inside)) (omega arith)
        ∙ ap (λ (x : List (List ℕ)). row_word x (class_first_field ws c + j) index_word) fields-of
        ∙ index_at first p.indices (class_first_field ws c + j) j (formed-of ws fits).fields (omega arith) h
        (omega (arith, (lies-of ws fits).fields, inside)))

    -- and other classes' indices
    pub link-field-other : (m k : ℕ) → m < field_count ws → k < member_width
        → (m < class_first_field ws c) ⊎ (class_first_field ws c + length p.indices ≤ m)
        → field_word (linked_words ws c place words statics p) m k ≡ field_word ws m k
    link-field-other m k h b o =
        let first : ℕ = row_word s.classes (c - 1) first_field_word in
        let f : class_first_field ws c ≡ first = own_of first_field_word (omega arith) in
        let l : length g.fields ≡ length s.fields = ap length fields-of ∙ length-row-indices first p.indices s.fields in
        let e : row_word (row_indices first p.indices s.fields) m k ≡ row_word s.fields m k =
        elim o [ inl q ↦ index-before first p.indices s.fields m k (omega arith) | inr q ↦ index-after first p.indices s.fields m k (omega arith) ] in
        rw laid
        (field-word g left.formed m k (omega (arith, l, (lies-of ws fits).fields)) b
        ∙ ap (λ (x : List (List ℕ)). row_word x m k) fields-of ∙ e ∙ sym (field_of ws fits m k h b))

  -- where methods are added

  module _ (no_fields : is_none p.new_fields ≡ true) (adds : is_none (members p.added) ≡ false) where
    abbrev num : Sections
    num =
        with_fields (with_classes s (record_rows s.classes c place (length p.table) words statics))
        (row_indices (row_word s.classes (c - 1) first_field_word) p.indices s.fields)

    is-num : Left s num c place (length p.table) []
    is-num = left-num s (formed-of ws fits) c place (length p.table) words statics p.indices some within

    still : (k : ℕ) → k < first_field_word → row_word num.classes (c - 1) k ≡ row_word s.classes (c - 1) k
    still k h =
        still-num s (formed-of ws fits) c place (length p.table) words statics p.indices some within k (omega arith) (omega arith) (omega arith)
        (omega arith)

    first-is : row_word num.classes (c - 1) first_method_word ≡ class_first_method ws c
    first-is = still first_method_word (omega arith) ∙ sym (own_of first_method_word (omega arith))

    own_is : row_word num.classes (c - 1) method_count_word ≡ class_method_count ws c
    own_is = still method_count_word (omega arith) ∙ sym (own_of method_count_word (omega arith))

    count_is : length num.methods ≡ method_count ws
    count_is = sym (lies-of ws fits).methods

    num_in : row_word num.classes (c - 1) first_method_word + row_word num.classes (c - 1) method_count_word ≤ length num.methods
    num_in = omega (arith, methods, first-is, own_is, count_is)

    among-num : c ≤ length num.classes
    among-num = omega (arith, within, is-num.classes)

    abbrev new : List New
    new = members p.added

    abbrev grown : List ℕ
    grown = laid_out (methods_growing num c new)

    grown-is : g ≡ methods_growing num c new
    unfolding linked_sections
    grown-is = rw (no_fields, adds)

    new_word : (j k : ℕ) → j < length new → k < member_width
        → method_word grown (method_count ws + (class_method_count ws c + j)) k
        ≡ get_or (member_row (num.bytes + length (new_text (take j new))) (get_or new j no_new)) k 0
    new_word j k h b = rw (count_is, own_is) at (new-method num is-num.formed c new num_in k b j h)

    added : Added ws grown c new
    added = record {
      methods = rw (count_is, own_is) at (methods_count num is-num.formed c new num_in);
      first = own_first num is-num.formed c new num_in some among-num ∙ count_is;
      many = own-count num is-num.formed c new num_in some among-num ∙ rw own_is;
      text = methods-text num is-num.formed c new num_in method-bytes ∙ ap (λ (t : List ℕ). t ++ new_text new) (sym (text-of-words ws fits));
      copied = λ j k h b.
          (rw (count_is, first-is) at (copied-method num is-num.formed c new num_in k b j (omega (arith, own_is))))
          ∙ sym (method-of ws fits (class_first_method ws c + j) k (omega (arith, methods)) b);
      new-name = λ j h. rw (count_is, own_is) at (read_name num is-num.formed c new num_in method-bytes j h);
      new-descriptor = λ j h. rw (count_is, own_is) at (read-descriptor num is-num.formed c new num_in method-bytes j h);
      new-flags = λ j h. new_word j 4 h (omega arith);
      new-target = λ j h. new_word j 5 h (omega arith);
    }

    pub link-added : Added ws (linked_words ws c place words statics p) c new
    link-added = rw (laid, grown-is) added

  -- where fields are added

  module _ (adds : is_none p.new_fields ≡ false) where
    abbrev rec : Sections
    rec = with_classes s (record_rows s.classes c place (length p.table) words statics)

    rec-formed : Formed class_width rec
    rec-formed = formed-recorded s (formed-of ws fits) c place (length p.table) words statics some within

    stays : (k : ℕ) → k < class_width → k ≢ instance_words_word → k ≢ table_place_word → k ≢ slot_count_word → k ≢ static_words_word
        → row_word rec.classes (c - 1) k ≡ class_word ws c k
    stays k h n₀ n₁ n₂ n₃ = record_word_lem s.classes c place (length p.table) words statics k n₀ n₁ n₂ n₃ ∙ sym (own_of k h)

    first_field : row_word rec.classes (c - 1) first_field_word ≡ class_first_field ws c
    first_field = stays first_field_word (omega arith) (omega arith) (omega arith) (omega arith) (omega arith)

    own-fields : row_word rec.classes (c - 1) field_count_word ≡ class_field_count ws c
    own-fields = stays field_count_word (omega arith) (omega arith) (omega arith) (omega arith) (omega arith)

    fields_are : length rec.fields ≡ field_count ws
    fields_are = sym (lies-of ws fits).fields

    rec_in : row_word rec.classes (c - 1) first_field_word + row_word rec.classes (c - 1) field_count_word ≤ length rec.fields
    rec_in = omega (arith, fields, first_field, own-fields, fields_are)

    among-rec : c ≤ length rec.classes
    among-rec = omega (arith, within, length_record s.classes c place (length p.table) words statics)

    abbrev more-fields : List New
    more-fields = p.new_fields

    abbrev grown-fields : List ℕ
    grown-fields = laid_out (fields_growing rec c p.indices more-fields)

    fields-grown-is : g ≡ fields_growing rec c p.indices more-fields
    unfolding linked_sections
    fields-grown-is = rw adds

    new-field-word : (j k : ℕ) → j < length more-fields → k < member_width
        → field_word grown-fields (field_count ws + (class_field_count ws c + j)) k
        ≡ get_or (member_row (rec.bytes + length (new_text (take j more-fields))) (get_or more-fields j no_new)) k 0
    new-field-word j k h b = rw (fields_are, own-fields) at (new-field rec rec-formed c p.indices more-fields rec_in k b j h)

    fields-added : FieldsAdded ws grown-fields c p.indices more-fields
    fields-added = record {
      fields = rw (fields_are, own-fields) at (fields_count rec rec-formed c p.indices more-fields rec_in);
      first = back.own_first rec rec-formed c p.indices more-fields rec_in some among-rec ∙ fields_are;
      many = back.own-count rec rec-formed c p.indices more-fields rec_in some among-rec ∙ rw own-fields;
      text = fields-text rec rec-formed c p.indices more-fields rec_in field-bytes
          ∙ ap (λ (t : List ℕ). t ++ new_text more-fields) (sym (text-of-words ws fits));
      old = λ m k h b.
          old-field rec rec-formed c p.indices more-fields rec_in k b m (omega (arith, fields_are)) ∙ sym (field_of ws fits m k h b);
      copied = λ j k h b n.
          (rw (fields_are, first_field) at (copied-field rec rec-formed c p.indices more-fields rec_in k b j (omega (arith, own-fields)) n))
          ∙ sym (field_of ws fits (class_first_field ws c + j) k (omega (arith, fields)) b);
      copied-index = λ j h l. rw fields_are at (copied-index rec rec-formed c p.indices more-fields rec_in j (omega (arith, own-fields)) l);
      new-name = λ j h. rw (fields_are, own-fields) at (back.read_name rec rec-formed c p.indices more-fields rec_in field-bytes j h);
      new-descriptor = λ j h. rw (fields_are, own-fields) at (back.read-descriptor rec rec-formed c p.indices more-fields rec_in field-bytes j h);
      new-flags = λ j h. new-field-word j 4 h (omega arith);
      new-index = λ j h. new-field-word j 5 h (omega arith);
    }

    pub link-fields-added : FieldsAdded ws (linked_words ws c place words statics p) c p.indices more-fields
    link-fields-added = rw (laid, fields-grown-is) fields-added

-- ---- the signature of each method that was there, and of each copied one

module _ (ws ws' : List ℕ) (c : ℕ) (valid : Valid ws) (after : After ws ws' c) where
  name-kept : (start len : ℕ) → start + len ≤ length (text_of ws) → name_at (text_of ws') start len ≡ name_at (text_of ws) start len
  name-kept start len h = rw after.text (name-front (text_of ws) after.more start len h)

  -- m is a method of the old words, k one of the new with the same six words
  module _ (m k : ℕ) (h : m < method_count ws) (same : (w : ℕ) → w < member_width → method_word ws' k w ≡ method_word ws m w) where
    pub record_name : method_name ws' (text_of ws') k ≡ method_name ws (text_of ws) m
    record_name = let p = (valid.method m h).name.inside in rw (same 0 (omega arith), same 1 (omega arith)) (name-kept _ _ p)

    pub record_descriptor : method_descriptor ws' (text_of ws') k ≡ method_descriptor ws (text_of ws) m
    record_descriptor = let p = (valid.method m h).descriptor.inside in rw (same 2 (omega arith), same 3 (omega arith)) (name-kept _ _ p)

  -- and of each field
  module _ (m k : ℕ) (h : m < field_count ws) (same : (w : ℕ) → w < index_word → field_word ws' k w ≡ field_word ws m w) where
    pub field-name : field_name ws' (text_of ws') k ≡ field_name ws (text_of ws) m
    field-name = let p = (valid.field m h).name.inside in rw (same 0 (omega arith), same 1 (omega arith)) (name-kept _ _ p)

    pub field-descriptor : field_descriptor ws' (text_of ws') k ≡ field_descriptor ws (text_of ws) m
    field-descriptor = let p = (valid.field m h).descriptor.inside in rw (same 2 (omega arith), same 3 (omega arith)) (name-kept _ _ p)

  pub class-name : (d : ℕ) → 1 ≤ d → d ≤ class_count ws → class_name ws' (text_of ws') d ≡ class_name ws (text_of ws) d
  class-name d l h =
      let p = (valid.class d (l, h)).name.inside in
      rw (class-early d 0 l h (omega arith), class-early d 1 l h (omega arith)) (name-kept _ _ p)
    where
      class-early : (d k : ℕ) → 1 ≤ d → d ≤ class_count ws → k < first_method_word → class_word ws' d k ≡ class_word ws d k
      class-early d k l h b =
          by (eqb d c) (λ t. let e : d ≡ c = eqb-true d c t in rw e (after.own k (omega arith) (early k b)))
          (λ t. after.others d k l h (omega arith) (eqb-false d c t))
