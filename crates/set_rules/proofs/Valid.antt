-- The facts of specs/Valid.antt and the tests of rows 3 to 5 say the same: each test is taken apart into its facts (`-is`), and passed by what
-- has them (`-ok`); `valid_exactly` puts all of them together. Assumes nothing.
use mathlib.Core.Path.{◌≡◌, sym, ◌∙◌}
use mathlib.Core.Logic.{◌↔◌}
use mathlib.Core.Bool.{Bool, true, false, not, ◌&&◌, ◌||◌, true≢false}
use mathlib.Core.List.{List}
use Prim.Native.Nat.{ℕ, ◌+◌, ◌-◌, ◌/◌, ◌%◌, ◌≤◌, ◌<◌}
use native.Mathlib.Omega.{arith}
use lib.ListN.{length}
use lib.Dec.{eqb, leb, ltb}
use borrow.Author.Tests.{leb-true, ltb-true, eqb-true, eqb-false, le-leb, lt-ltb, eq-eqb, ne_eqb, not-true, not-false}
use Rattle.words.specs.Folds.{all_of}
use Rattle.words.specs.Words.{inside}
use Rattle.words.proofs.Bools.{by, and_both, and_3, and_4, and_5, and_7, passed}
use Rattle.words.proofs.FoldLaws.{all-each, all-if}
use Rattle.words.proofs.Laws.{inside_is}
use Rattle.text.specs.Text.{name_at, printable, part_ok, same_bytes}
use Rattle.text.proofs.Laws.{printable-each, printable-all, same-is, same_refl}
use Rattle.descriptor.specs.Grammar.{FieldDerivation}
use Rattle.descriptor.specs.Machine.{is_field_descriptor}
use Rattle.descriptor.specs.Words.{ValidDescriptor, is_method}
use Rattle.descriptor.proofs.Meaning.{meaning}
use Rattle.class_sheet.specs.ClassSheet.{class_limit, method_limit, field_limit, interface_limit, compiler_limit, text_limit, class_count, method_count, field_count, interface_count, compiler_count, text_length, content_end, text_of, interface_word, class_name_start, class_name_length, class_parent, class_flags, class_kind, class_first_method, class_method_count, class_first_field, class_field_count, class_first_interface, class_interface_count, class_link_state, class_instance_words, class_compiler_table, class_compiler_slots, class_table_place, class_slot_count, class_name}
use Rattle.abi_sheet.specs.AbiSheet.{abi_class_limit, abi_slot_limit, abi_field_limit, abi_text_limit, abi_class_count, abi_slot_count, abi_field_count, abi_text_length, abi_content_end, abi_text_of, abi_class_name_start, abi_class_name_length, abi_class_table_size_plus_one, abi_class_instance_words_plus_one, abi_class_first_slot, abi_class_slot_count, abi_class_first_field, abi_class_field_count}
use Rattle.class_rules.specs.ClassRules.{class_limits, class_fits, compiler_ok, own_numbers, class_numbers, class_lists, class_record, method_flags_ok, method_record, field_record, interface_names, class_records}
use Rattle.apart.specs.Apart.{methods_apart, fields_apart, classes_apart, apart_before}
use Rattle.apart.proofs.Laws.{apart-is, apart_if}
use Rattle.abi_rules.specs.AbiRules.{abi_limits, abi_fits, abi_class_record, abi_slot_record, abi_field_record, abi_records}
use Rattle.class_rules.proofs.Laws as class
use Rattle.abi_rules.proofs.Laws as abi
use Rattle.set_rules.specs.SetRules.{method_typed, field_typed, class_descriptors, abi_slot_typed, abi_field_typed, abi_descriptors, set_fits, records_refusal, set_refusal}
use Rattle.set_rules.specs.Valid.{Part, ValidMember, MethodFlags, IsClass, ValidClass, ValidMethod, ValidField, Valid, ValidAbiClass, ValidAbiSlot, ValidAbiField, ValidAbi}

-- ---- parts and lists

-- a number below a limit, and the flags of a method
le-exact : (most n : ℕ) → (leb n most ≡ true) ↔ (n ≤ most)
le-exact most n = (leb-true n most, le-leb n most)

flags-exact : (n : ℕ) → (method_flags_ok n ≡ true) ↔ MethodFlags n
unfolding method_flags_ok
flags-exact n = (
  λ h. let p = and_both (ltb n 8192) (eqb (n / 512 % 2) 0) h in (ltb-true _ _ p.0, eqb-true _ _ p.1),
  λ h. simp (lt-ltb n 8192 h.0, eq-eqb (n / 512 % 2) 0 h.1),
)

part : (text : List ℕ) (start len : ℕ) → (part_ok text start len ≡ true) ↔ Part text start len
unfolding part_ok
part text start len = (
  λ h.
      let p = and_4 (leb 1 len) (leb len 255) (leb (start + len) (length text)) (printable (name_at text start len)) h in
      let l : start + len ≤ length text = leb-true _ _ p.2 in
      record {
        some = leb-true _ _ p.0;
        short = leb-true _ _ p.1;
        inside = l;
        printable = λ i k. printable-each text start len l p.3 i k;
      },
  λ h.
      simp (
        le-leb 1 len h.some,
        le-leb len 255 h.short,
        le-leb (start + len) (length text) h.inside,
        printable-all text start len h.inside h.printable,
      ),
)

-- a claim of two classes that is symmetric, and absurd of a class and one before it, is absurd of any two that differ
same_class : (c d : ℕ) → (c < d → ⊥) → (d < c → ⊥) → c ≡ d
same_class c d h k = omega (arith, h, k)

-- ---- classes

module _ (ws : List ℕ) (c : ℕ) where
  class-numbers : class_numbers ws c ≡ true
      → (class_parent ws c < c) × (class_flags ws c ≤ 65535) × (class_kind ws c ≤ 3) × (class_link_state ws c ≤ 65535)
      × (class_instance_words ws c ≤ 65535) × (class_compiler_slots ws c ≤ 1024)
      × ((class_table_place ws c ≡ 0 → ⊥) → class_slot_count ws c ≤ 1024)
  unfolding class_numbers own_numbers
  class-numbers h =
      let p = and_7 (leb (class_flags ws c) 65535) (leb (class_kind ws c) 3) (leb (class_link_state ws c) 65535)
      (leb (class_instance_words ws c) 65535) (leb (class_compiler_slots ws c) 1024)
      (eqb (class_table_place ws c) 0 || leb (class_slot_count ws c) 1024) (ltb (class_parent ws c) c) h in (
        ltb-true _ _ p.6,
        leb-true _ _ p.0,
        leb-true _ _ p.1,
        leb-true _ _ p.2,
        leb-true _ _ p.3,
        leb-true _ _ p.4,
        λ n. leb-true _ _ (rw (ne_eqb (class_table_place ws c) 0 n) at p.5),
      )

  compiler-none : (t s n : ℕ) → compiler_ok t s n ≡ true → t ≡ 0 → s ≡ 0
  unfolding compiler_ok
  compiler-none t s n h e = eqb-true s 0 (rw (eq-eqb t 0 e) at h)

  compiler-some : (t s n : ℕ) → compiler_ok t s n ≡ true → (t ≡ 0 → ⊥) → t - 1 + s ≤ n
  unfolding compiler_ok
  compiler-some t s n h e = inside_is (t - 1) s n (rw (ne_eqb t 0 e) at h)

  numbers-ok : ValidClass ws c → class_numbers ws c ≡ true
  unfolding class_numbers own_numbers
  numbers-ok v =
      simp (
        lt-ltb (class_parent ws c) c v.parent_below,
        le-leb (class_flags ws c) 65535 v.flags,
        le-leb (class_kind ws c) 3 v.kind,
        le-leb (class_link_state ws c) 65535 v.link_state,
        le-leb (class_instance_words ws c) 65535 v.words_of_instance,
        le-leb (class_compiler_slots ws c) 1024 v.compiler_slots,
      )
      (by (eqb (class_table_place ws c) 0) (λ e. simp e) (λ e. simp (e, le-leb (class_slot_count ws c) 1024 (v.slots (eqb-false _ _ e)))))

  compiler-ok : (t s n : ℕ) → (t ≡ 0 → s ≡ 0) → ((t ≡ 0 → ⊥) → t - 1 + s ≤ n) → compiler_ok t s n ≡ true
  unfolding compiler_ok inside
  compiler-ok t s n h k =
      by (eqb t 0) (λ e. simp (e, eq-eqb s 0 (h (eqb-true t 0 e)))) (λ e. simp (e, le-leb (t - 1 + s) n (k (eqb-false t 0 e))))

  class-ok : ValidClass ws c → class_record ws (text_of ws) c ≡ true
  unfolding class_record class_lists inside
  class-ok v =
      simp (
        (part (text_of ws) (class_name_start ws c) (class_name_length ws c)).1 v.name,
        numbers-ok v,
        le-leb (class_first_method ws c + class_method_count ws c) (method_count ws) v.methods,
        le-leb (class_first_field ws c + class_field_count ws c) (field_count ws) v.fields,
        le-leb (class_first_interface ws c + class_interface_count ws c) (interface_count ws) v.interfaces,
        compiler-ok (class_compiler_table ws c) (class_compiler_slots ws c) (compiler_count ws) v.no_compiler v.compiler,
      )

  class-is : class_record ws (text_of ws) c ≡ true → ValidClass ws c
  unfolding class_record class_lists
  class-is h =
      let p = and_3 (part_ok (text_of ws) (class_name_start ws c) (class_name_length ws c)) (class_numbers ws c) (class_lists ws c) h in
      let q = class-numbers p.1 in
      let r = and_4 (inside (class_first_method ws c) (class_method_count ws c) (method_count ws))
      (inside (class_first_field ws c) (class_field_count ws c) (field_count ws))
      (inside (class_first_interface ws c) (class_interface_count ws c) (interface_count ws))
      (compiler_ok (class_compiler_table ws c) (class_compiler_slots ws c) (compiler_count ws)) p.2 in
      record {
        name = (part _ _ _).0 p.0;
        parent_below = q.0;
        flags = q.1;
        kind = q.2;
        link_state = q.3;
        words_of_instance = q.4;
        compiler_slots = q.5;
        slots = q.6;
        methods = inside_is _ _ _ r.0;
        fields = inside_is _ _ _ r.1;
        interfaces = inside_is _ _ _ r.2;
        no_compiler = compiler-none _ _ _ r.3;
        compiler = compiler-some _ _ _ r.3;
      }

-- ---- members: a record's two tests are those of row 4 and of row 5

module _ (text : List ℕ) (typed : List ℕ → Bool) (Derived : List ℕ → Type 0) (test : ℕ → Bool) (Within : ℕ → Type 0) where
  module _ (reads : (s : List ℕ) → (typed s ≡ true) ↔ Derived s) (limit : (n : ℕ) → (test n ≡ true) ↔ Within n) (a l start len n : ℕ) where
    pub member_is : (part_ok text a l && part_ok text start len && test n) ≡ true → typed (name_at text start len) ≡ true
        → ValidMember text Derived Within a l start len n
    member_is h t =
        let p = and_3 (part_ok text a l) (part_ok text start len) (test n) h in
        record {
          name = (part text a l).0 p.0;
          descriptor = (part text start len).0 p.1;
          number = (limit n).0 p.2;
          derivation = (reads (name_at text start len)).0 t;
        }

    pub member-ok : ValidMember text Derived Within a l start len n
        → ((part_ok text a l && part_ok text start len && test n) ≡ true) × (typed (name_at text start len) ≡ true)
    member-ok v = (
      simp ((part text a l).1 v.name, (part text start len).1 v.descriptor, (limit n).1 v.number),
      (reads (name_at text start len)).1 v.derivation,
    )

-- the descriptors' tests are the Specification's
method-exact : (flags : ℕ) (s : List ℕ) → (is_method flags s ≡ true) ↔ ValidDescriptor flags s
method-exact flags s = (meaning.valid_sound s flags, meaning.valid_complete s flags)

field-exact : (s : List ℕ) → (is_field_descriptor s ≡ true) ↔ FieldDerivation s
field-exact s = (meaning.field_sound s, meaning.field_complete s)

module _ (ws : List ℕ) where
  method-is : (m : ℕ) → method_record ws (text_of ws) m ≡ true → method_typed ws (text_of ws) m ≡ true → ValidMethod ws m
  unfolding method_record method_typed
  method-is m h t = member_is _ _ _ _ _ (method-exact _) flags-exact _ _ _ _ _ h t

  method-ok : (m : ℕ) → ValidMethod ws m → (method_record ws (text_of ws) m ≡ true) × (method_typed ws (text_of ws) m ≡ true)
  unfolding method_record method_typed
  method-ok m v = member-ok _ _ _ _ _ (method-exact _) flags-exact _ _ _ _ _ v

  field_is_lem : (f : ℕ) → field_record ws (text_of ws) f ≡ true → field_typed ws (text_of ws) f ≡ true → ValidField ws f
  unfolding field_record field_typed
  field_is_lem f h t = member_is _ _ _ _ _ field-exact (le-exact 65535) _ _ _ _ _ h t

  field-ok : (f : ℕ) → ValidField ws f → (field_record ws (text_of ws) f ≡ true) × (field_typed ws (text_of ws) f ≡ true)
  unfolding field_record field_typed
  field-ok f v = member-ok _ _ _ _ _ field-exact (le-exact 65535) _ _ _ _ _ v

-- ---- interface words

module _ (ws : List ℕ) where
  interface-is : (i : ℕ) → interface_names ws i ≡ true → IsClass ws (interface_word ws i)
  unfolding interface_names
  interface-is i h =
      let p = and_both (leb 1 (interface_word ws i)) (leb (interface_word ws i) (class_count ws)) h in
      (leb-true _ _ p.0, leb-true _ _ p.1)

  interface-ok : (i : ℕ) → IsClass ws (interface_word ws i) → interface_names ws i ≡ true
  unfolding interface_names
  interface-ok i h = simp (le-leb 1 (interface_word ws i) h.0, le-leb (interface_word ws i) (class_count ws) h.1)

  -- ---- classes apart: a class and one before it

  module _ (all : all_of (class_count ws) (λ i. apart_before ws (text_of ws) (i + 1)) ≡ true) (c d : ℕ) (few : IsClass ws d) (low : 1 ≤ c) (less : c < d) where
    apart-at : classes_apart ws (text_of ws) c d ≡ true
    unfolding apart_before
    apart-at =
        let e : d - 1 + 1 ≡ d = omega arith in
        let g : c - 1 + 1 ≡ c = omega arith in
        let p : apart_before ws (text_of ws) d ≡ true =
        rw e at (all-each (class_count ws) (λ i. apart_before ws (text_of ws) (i + 1)) all (d - 1) (omega arith)) in
        rw g at (all-each (d - 1) (λ i. classes_apart ws (text_of ws) (i + 1) d) p (c - 1) (omega arith))

    apart_parts : (not (same_bytes (class_name ws (text_of ws) c) (class_name ws (text_of ws) d)) ≡ true) × (methods_apart ws c d ≡ true)
        × (fields_apart ws c d ≡ true)
    unfolding classes_apart
    apart_parts =
        and_3 (not (same_bytes (class_name ws (text_of ws) c) (class_name ws (text_of ws) d))) (methods_apart ws c d) (fields_apart ws c d) apart-at

    names-differ : class_name ws (text_of ws) c ≡ class_name ws (text_of ws) d → ⊥
    names-differ e =
        let o : same_bytes (class_name ws (text_of ws) c) (class_name ws (text_of ws) d) ≡ false = not-true _ apart_parts.0 in
        let p : same_bytes (class_name ws (text_of ws) d) (class_name ws (text_of ws) d) ≡ false = rw e at o in
        true≢false (sym (same_refl (class_name ws (text_of ws) d)) ∙ p)

    no_method : (m : ℕ) → class_first_method ws c ≤ m → m < class_first_method ws c + class_method_count ws c → class_first_method ws d ≤ m
        → m < class_first_method ws d + class_method_count ws d → ⊥
    unfolding methods_apart
    no_method m = apart-is _ _ _ _ apart_parts.1 m

    no_field : (f : ℕ) → class_first_field ws c ≤ f → f < class_first_field ws c + class_field_count ws c → class_first_field ws d ≤ f
        → f < class_first_field ws d + class_field_count ws d → ⊥
    unfolding fields_apart
    no_field f = apart-is _ _ _ _ apart_parts.2 f

-- a class and one before it, of a valid set, are apart
before-ok : (ws : List ℕ) → Valid ws → (d : ℕ) → IsClass ws d → apart_before ws (text_of ws) d ≡ true
unfolding apart_before classes_apart methods_apart fields_apart
before-ok ws v d k = all-if (d - 1) _ (λ i l. pair (i + 1) (omega arith, omega arith) (omega arith))
  where
    name : (c : ℕ) → IsClass ws c → c < d → same_bytes (class_name ws (text_of ws) c) (class_name ws (text_of ws) d) ≡ false
    name c j l =
        by (same_bytes (class_name ws (text_of ws) c) (class_name ws (text_of ws) d))
        (λ e. absurd (omega (arith, v.names c d j k (same-is _ _ e))))
        (λ e. e)

    pair : (c : ℕ) → IsClass ws c → c < d → classes_apart ws (text_of ws) c d ≡ true
    pair c j l =
        simp (
          name c j l,
          apart_if (class_first_method ws c) (class_method_count ws c) (class_first_method ws d) (class_method_count ws d)
              (λ m p q r s. omega (arith, v.methods c d m j k p q r s)),
          apart_if (class_first_field ws c) (class_field_count ws c) (class_first_field ws d) (class_field_count ws d)
              (λ f p q r s. omega (arith, v.fields c d f j k p q r s)),
        )

-- ---- class words

pub valid-class : (ws : List ℕ) → class_fits ws ≡ true → class_records ws (text_of ws) ≡ true → class_descriptors ws (text_of ws) ≡ true → Valid ws
unfolding class_records class_descriptors
valid-class ws f h t =
    let l = class.fits ws f in
    let p = and_5 (all_of (class_count ws) (λ i. class_record ws (text_of ws) (i + 1))) (all_of (method_count ws) (method_record ws (text_of ws)))
    (all_of (field_count ws) (field_record ws (text_of ws))) (all_of (interface_count ws) (interface_names ws))
    (all_of (class_count ws) (λ i. apart_before ws (text_of ws) (i + 1))) h in
    let q = and_both (all_of (method_count ws) (method_typed ws (text_of ws))) (all_of (field_count ws) (field_typed ws (text_of ws))) t in
    record {
      number_of_classes = l.0.classes;
      number_of_methods = l.0.methods;
      number_of_fields = l.0.fields;
      number_of_interfaces = l.0.interfaces;
      number_of_compilers = l.0.compilers;
      length_of_text = l.0.text;
      fits = l.1;
      class = λ c k.
          let e : c - 1 + 1 ≡ c = omega arith in
          class-is ws c (rw e at (all-each (class_count ws) (λ i. class_record ws (text_of ws) (i + 1)) p.0 (c - 1) (omega arith)));
      method = λ m k. method-is ws m (all-each _ _ p.1 m k) (all-each _ _ q.0 m k);
      field = λ m k. field_is_lem ws m (all-each _ _ p.2 m k) (all-each _ _ q.1 m k);
      interface = λ i k. interface-is ws i (all-each _ _ p.3 i k);
      names = λ c d j k e.
          same_class c d (λ o. names-differ ws p.4 c d k j.0 o e) (λ o. names-differ ws p.4 d c j k.0 o (sym e));
      methods = λ c d m j k a b a' b'.
          same_class c d (λ o. no_method ws p.4 c d k j.0 o m a b a' b') (λ o. no_method ws p.4 d c j k.0 o m a' b' a b);
      fields = λ c d m j k a b a' b'.
          same_class c d (λ o. no_field ws p.4 c d k j.0 o m a b a' b') (λ o. no_field ws p.4 d c j k.0 o m a' b' a b);
    }

-- a valid set passes rows 3, 4 and 5
pub class-tests : (ws : List ℕ) → Valid ws → (class_fits ws ≡ true) × (class_records ws (text_of ws) ≡ true) × (class_descriptors ws (text_of ws) ≡ true)
unfolding class_fits class_limits class_records class_descriptors
class-tests ws v = (
  simp (
    le-leb (class_count ws) class_limit v.number_of_classes,
    le-leb (method_count ws) method_limit v.number_of_methods,
    le-leb (field_count ws) field_limit v.number_of_fields,
    le-leb (interface_count ws) interface_limit v.number_of_interfaces,
    le-leb (compiler_count ws) compiler_limit v.number_of_compilers,
    le-leb (text_length ws) text_limit v.length_of_text,
    le-leb (content_end ws) (length ws) v.fits,
  ),
  simp (
    all-if (class_count ws) (λ i. class_record ws (text_of ws) (i + 1)) (λ i l. class-ok ws (i + 1) (v.class (i + 1) (omega arith, omega arith))),
    all-if (method_count ws) (method_record ws (text_of ws)) (λ m l. (method-ok ws m (v.method m l)).0),
    all-if (field_count ws) (field_record ws (text_of ws)) (λ f l. (field-ok ws f (v.field f l)).0),
    all-if (interface_count ws) (interface_names ws) (λ i l. interface-ok ws i (v.interface i l)),
    all-if (class_count ws) (λ i. apart_before ws (text_of ws) (i + 1)) (λ i l. before-ok ws v (i + 1) (omega arith, omega arith)),
  ),
  simp (
    all-if (method_count ws) (method_typed ws (text_of ws)) (λ m l. (method-ok ws m (v.method m l)).1),
    all-if (field_count ws) (field_typed ws (text_of ws)) (λ f l. (field-ok ws f (v.field f l)).1),
  ),
)

-- ---- ABI words

module _ (abi : List ℕ) where
  abi-class-is : (a : ℕ) → abi_class_record abi (abi_text_of abi) a ≡ true → ValidAbiClass abi a
  unfolding abi_class_record
  abi-class-is a h =
      let p = and_5 (part_ok (abi_text_of abi) (abi_class_name_start abi a) (abi_class_name_length abi a)) (leb (abi_class_table_size_plus_one abi a) 1025)
      (leb (abi_class_instance_words_plus_one abi a) 4097) (inside (abi_class_first_slot abi a) (abi_class_slot_count abi a) (abi_slot_count abi))
      (inside (abi_class_first_field abi a) (abi_class_field_count abi a) (abi_field_count abi)) h in
      record {
        name = (part _ _ _).0 p.0;
        size_plus_one = leb-true _ _ p.1;
        words_plus_one = leb-true _ _ p.2;
        slots = inside_is _ _ _ p.3;
        fields = inside_is _ _ _ p.4;
      }

  abi-class-ok : (a : ℕ) → ValidAbiClass abi a → abi_class_record abi (abi_text_of abi) a ≡ true
  unfolding abi_class_record inside
  abi-class-ok a v =
      simp (
        (part (abi_text_of abi) (abi_class_name_start abi a) (abi_class_name_length abi a)).1 v.name,
        le-leb (abi_class_table_size_plus_one abi a) 1025 v.size_plus_one,
        le-leb (abi_class_instance_words_plus_one abi a) 4097 v.words_plus_one,
        le-leb (abi_class_first_slot abi a + abi_class_slot_count abi a) (abi_slot_count abi) v.slots,
        le-leb (abi_class_first_field abi a + abi_class_field_count abi a) (abi_field_count abi) v.fields,
      )

  abi-slot-is : (s : ℕ) → abi_slot_record abi (abi_text_of abi) s ≡ true → abi_slot_typed abi (abi_text_of abi) s ≡ true → ValidAbiSlot abi s
  unfolding abi_slot_record abi_slot_typed
  abi-slot-is s h t = member_is _ _ _ _ _ (method-exact 0) (le-exact 1023) _ _ _ _ _ h t

  abi-slot-ok : (s : ℕ) → ValidAbiSlot abi s → (abi_slot_record abi (abi_text_of abi) s ≡ true) × (abi_slot_typed abi (abi_text_of abi) s ≡ true)
  unfolding abi_slot_record abi_slot_typed
  abi-slot-ok s v = member-ok _ _ _ _ _ (method-exact 0) (le-exact 1023) _ _ _ _ _ v

  abi-field-is : (f : ℕ) → abi_field_record abi (abi_text_of abi) f ≡ true → abi_field_typed abi (abi_text_of abi) f ≡ true → ValidAbiField abi f
  unfolding abi_field_record abi_field_typed
  abi-field-is f h t = member_is _ _ _ _ _ field-exact (le-exact 4095) _ _ _ _ _ h t

  abi-field-ok : (f : ℕ) → ValidAbiField abi f → (abi_field_record abi (abi_text_of abi) f ≡ true) × (abi_field_typed abi (abi_text_of abi) f ≡ true)
  unfolding abi_field_record abi_field_typed
  abi-field-ok f v = member-ok _ _ _ _ _ field-exact (le-exact 4095) _ _ _ _ _ v

pub valid-abi : (a : List ℕ) → abi_fits a ≡ true → abi_records a (abi_text_of a) ≡ true → abi_descriptors a (abi_text_of a) ≡ true → ValidAbi a
unfolding abi_records abi_descriptors
valid-abi a f h t =
    let l = abi.fits a f in
    let p = and_3 (all_of (abi_class_count a) (abi_class_record a (abi_text_of a))) (all_of (abi_slot_count a) (abi_slot_record a (abi_text_of a)))
    (all_of (abi_field_count a) (abi_field_record a (abi_text_of a))) h in
    let q = and_both (all_of (abi_slot_count a) (abi_slot_typed a (abi_text_of a))) (all_of (abi_field_count a) (abi_field_typed a (abi_text_of a))) t in
    record {
      number_of_classes = l.0.classes;
      slot_count = l.0.slots;
      number_of_fields = l.0.fields;
      length_of_text = l.0.text;
      fits = l.1;
      class = λ m k. abi-class-is a m (all-each _ _ p.0 m k);
      slot = λ m k. abi-slot-is a m (all-each _ _ p.1 m k) (all-each _ _ q.0 m k);
      field = λ m k. abi-field-is a m (all-each _ _ p.2 m k) (all-each _ _ q.1 m k);
    }

pub abi-tests : (a : List ℕ) → ValidAbi a → (abi_fits a ≡ true) × (abi_records a (abi_text_of a) ≡ true) × (abi_descriptors a (abi_text_of a) ≡ true)
unfolding abi_fits abi_limits abi_records abi_descriptors
abi-tests a v = (
  simp (
    le-leb (abi_class_count a) abi_class_limit v.number_of_classes,
    le-leb (abi_slot_count a) abi_slot_limit v.slot_count,
    le-leb (abi_field_count a) abi_field_limit v.number_of_fields,
    le-leb (abi_text_length a) abi_text_limit v.length_of_text,
    le-leb (abi_content_end a) (length a) v.fits,
  ),
  simp (
    all-if (abi_class_count a) (abi_class_record a (abi_text_of a)) (λ i l. abi-class-ok a i (v.class i l)),
    all-if (abi_slot_count a) (abi_slot_record a (abi_text_of a)) (λ i l. (abi-slot-ok a i (v.slot i l)).0),
    all-if (abi_field_count a) (abi_field_record a (abi_text_of a)) (λ i l. (abi-field-ok a i (v.field i l)).0),
  ),
  simp (
    all-if (abi_slot_count a) (abi_slot_typed a (abi_text_of a)) (λ i l. (abi-slot-ok a i (v.slot i l)).1),
    all-if (abi_field_count a) (abi_field_typed a (abi_text_of a)) (λ i l. (abi-field-ok a i (v.field i l)).1),
  ),
)

-- ---- both: what a link or an ask has passed once rows 3 to 5 do not refuse

pub valid : (ws a : List ℕ) → set_refusal ws a ≡ 0 → Valid ws × ValidAbi a
unfolding set_refusal records_refusal set_fits
valid ws a e =
    let p = passed (not (class_fits ws && abi_fits a)) 3 _ (omega arith) e in
    let q = passed (not (class_records ws (text_of ws) && abi_records a (abi_text_of a))) 4 _ (omega arith) p.1 in
    let r = passed (not (class_descriptors ws (text_of ws) && abi_descriptors a (abi_text_of a))) 5 _ (omega arith) q.1 in
    let f = and_both (class_fits ws) (abi_fits a) (not-false _ p.0) in
    let g = and_both (class_records ws (text_of ws)) (abi_records a (abi_text_of a)) (not-false _ q.0) in
    let h = and_both (class_descriptors ws (text_of ws)) (abi_descriptors a (abi_text_of a)) (not-false _ r.0) in
    (valid-class ws f.0 g.0 h.0, valid-abi a f.1 g.1 h.1)

-- and what is valid is accepted: rows 3, 4 and 5 refuse nothing else
pub accepted : (ws a : List ℕ) → Valid ws → ValidAbi a → set_refusal ws a ≡ 0
unfolding set_refusal records_refusal set_fits
accepted ws a v w =
    let p = class-tests ws v in let q = abi-tests a w in simp (p.0, q.0, p.1, q.1, p.2, q.2)

-- rows 3 to 5 accept two sheets' words if and only if they have the facts of specs/Valid.antt
pub valid_exactly : (ws a : List ℕ) → (set_refusal ws a ≡ 0) ↔ (Valid ws × ValidAbi a)
valid_exactly ws a = (valid ws a, λ v. accepted ws a v.0 v.1)
