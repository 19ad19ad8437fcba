-- What the step leaves is in order. Row 4 tests single records and pairs of them; a pair's test asks nothing of which comes first, and the order holds each
-- class once: so the tests of the new words are those of the old, but for the parent's place, which is earlier. Assumes nothing.
use mathlib.Core.Path.{◌≡◌, refl, sym, ap, ◌∙◌}
use mathlib.Core.Logic.{◌≢◌, ◌↔◌, ⊎_elim}
use mathlib.Core.Bool.{Bool, true, false, not, false≢true}
use mathlib.Core.List.{List}
use Prim.Native.Nat.{ℕ, ◌+◌, ◌-◌, ◌≤◌, ◌<◌}
use native.Mathlib.Omega.{arith}
use lib.ListN.{get_or}
use lib.Dec.{leb, ltb}
use borrow.Author.Tests.{le-leb, lt-ltb, ltb-true, ltb-false, not-true}
use Rattle.words.specs.Folds.{all_of}
use Rattle.words.proofs.Bools.{by, and_both, and_3}
use Rattle.words.proofs.FoldLaws.{all-each, all-if, all-ext}
use Rattle.text.specs.Text.{same_bytes, name_start_word, name_length_word}
use Rattle.text.proofs.Laws.{same-is, same_refl}
use Rattle.class_sheet.specs.ClassSheet.{class_count_number, compiler_count_number, compiler_slots_word, compiler_table_word, field_count_number, field_count_word, first_field_word, first_interface_word, first_method_word, flags_word, instance_words_word, interface_count_number, interface_count_word, kind_word, link_state_word, method_count_number, method_count_word, slot_count_word, table_place_word, text_length_number, parent_word, counts_width, class_width, member_width, count_at, class_count, method_count, field_count, interface_count, class_word, method_word, field_word, interface_word, text_of, class_parent, class_first_method, class_method_count, class_first_field, class_field_count, class_name}
use Rattle.apart.specs.Apart.{apart, methods_apart, fields_apart, classes_apart, apart_before}
use Rattle.apart.proofs.Laws.{apart-is, apart_if}
use Rattle.class_rules.specs.ClassRules.{class_limits, class_fits, all_fresh, own_numbers, class_numbers, class_lists, class_record, method_record, field_record, interface_names, class_records}
use Rattle.set_rules.specs.SetRules.{method_typed, field_typed, class_descriptors, set_refusal}
use Rattle.set_rules.specs.Valid.{IsClass, ValidAbi}
use Rattle.set_rules.proofs.Valid.{valid-class, class-tests, valid, accepted}
use Rattle.renumber.specs.Renumber.{order_of, new_number, renumbered, renumber_form}
use Rattle.renumber.specs.Places.{Before}
use Rattle.order.specs.Order.{Orderable, loose_numbers, loose_record, loose_records, InOrder}
use Rattle.renumber.proofs.OrderLaws.{each-order, element-class, element_settled}
use Rattle.order.proofs.Facts.{fits, formed, parents-named, interfaces-named, whole, distinct, class-stands}
use Rattle.renumber.proofs.Moved.{new-at, new-zero, word_moved, parent-moved, interface-moved, method-same, field-same, text_same, count_same, end_same, length-same}
use Rattle.order.proofs.Follows.{new-place}

same_bool : (a b : Bool) → (a ≡ true → b ≡ true) → (b ≡ true → a ≡ true) → a ≡ b
same_bool true b f g = sym (f refl)
same_bool false true f g = g refl
same_bool false false f g = refl

-- ---- two classes apart are apart the other way round

apart-turn : (f n g m : ℕ) → apart f n g m ≡ true → apart g m f n ≡ true
apart-turn f n g m h = apart_if g m f n (λ x a b c d. apart-is f n g m h x c d a b)

bytes-turn : (a b : List ℕ) → not (same_bytes a b) ≡ true → not (same_bytes b a) ≡ true
bytes-turn a b h =
    by (same_bytes b a)
    (λ t. let e = same-is b a t in let same : same_bytes a b ≡ true = rw e (same_refl a) in absurd (false≢true (sym (not-true _ h) ∙ same)))
    (λ f. rw f)

classes-turn : (ws text : List ℕ) (c d : ℕ) → classes_apart ws text c d ≡ true → classes_apart ws text d c ≡ true
unfolding classes_apart methods_apart fields_apart
classes-turn ws text c d h =
    let p = and_3 (not (same_bytes (class_name ws text c) (class_name ws text d))) (methods_apart ws c d) (fields_apart ws c d) h in
    rw (
      bytes-turn (class_name ws text c) (class_name ws text d) p.0,
      apart-turn (class_first_method ws c) (class_method_count ws c) (class_first_method ws d) (class_method_count ws d) p.1,
      apart-turn (class_first_field ws c) (class_field_count ws c) (class_first_field ws d) (class_field_count ws d) p.2,
    )

-- ---- the pairs of the first n classes

abbrev pairs_of : List ℕ → List ℕ → ℕ → Bool
pairs_of ws text n = all_of n (λ i. apart_before ws text (i + 1))

pair-before : (ws text : List ℕ) (n c d : ℕ) → pairs_of ws text n ≡ true → 1 ≤ c → c < d → d ≤ n → classes_apart ws text c d ≡ true
unfolding apart_before
pair-before ws text n c d all low less few =
    let e : d - 1 + 1 ≡ d = omega arith in
    let g : c - 1 + 1 ≡ c = omega arith in
    let p : apart_before ws text d ≡ true = rw e at (all-each n (λ i. apart_before ws text (i + 1)) all (d - 1) (omega arith)) in
    rw g at (all-each (d - 1) (λ i. classes_apart ws text (i + 1) d) p (c - 1) (omega arith))

pair-any : (ws text : List ℕ) (n c d : ℕ) → pairs_of ws text n ≡ true → 1 ≤ c → c ≤ n → 1 ≤ d → d ≤ n → c ≢ d → classes_apart ws text c d ≡ true
pair-any ws text n c d all a b e f other =
    by (ltb c d) (λ t. pair-before ws text n c d all a (ltb-true c d t) f)
    (λ g.
    by (ltb d c) (λ t. classes-turn ws text d c (pair-before ws text n d c all e (ltb-true d c t) b))
    (λ h. absurd (other (omega (arith, ltb-false c d g, ltb-false d c h)))))

pairs-if : (ws text : List ℕ) (n : ℕ) → ((c d : ℕ) → 1 ≤ c → c < d → d ≤ n → classes_apart ws text c d ≡ true) → pairs_of ws text n ≡ true
unfolding apart_before
pairs-if ws text n h =
    all-if n (λ i. apart_before ws text (i + 1))
    (λ i k. all-if (i + 1 - 1) (λ j. classes_apart ws text (j + 1) (i + 1)) (λ j g. h (j + 1) (i + 1) (omega arith) (omega arith) (omega arith)))

module _ (ws : List ℕ) (ok : Orderable ws) where
  abbrev l : List ℕ
  l = order_of ws

  abbrev new : List ℕ
  new = renumbered ws l

  abbrev n : ℕ
  n = class_count ws

  pub count : (k : ℕ) → k < counts_width → count_at new k ≡ count_at ws k
  count = count_same ws l (fits ws ok) (distinct ws ok) (whole ws ok)

  pub parent_below : (c : ℕ) → IsClass ws c → class_parent new c < c
  parent_below c k =
      let p = parent-moved ws l (fits ws ok) (distinct ws ok) (whole ws ok) c k in
      ⊎_elim (λ (e : class_parent ws (get_or l (c - 1) 0) ≡ 0). omega (arith, k.0, p, ap (new_number l) e, new-zero n l (distinct ws ok)))
      (λ (b : Before l (c - 1) (class_parent ws (get_or l (c - 1) 0))).
      omega (arith, p, ap (new_number l) (sym b.is), new-at n l (distinct ws ok) b.place (omega (arith, b.before, k.1, whole ws ok)), b.before))
      (element_settled ws l (each-order ws) (c - 1) (omega (arith, k.0, k.1, whole ws ok)))

  pub interface-class : (i : ℕ) → i < interface_count ws → IsClass ws (interface_word new i)
  interface-class i h =
      rw (interface-moved ws l (fits ws ok) (distinct ws ok) (whole ws ok) i h)
      (new-place ws ok (interface_word ws i) (interfaces-named ws ok i h)).0

  pub fits-new : class_fits new ≡ true
  unfolding renumber_form class_fits class_limits
  fits-new =
      rw (
        count class_count_number (omega arith),
        count method_count_number (omega arith),
        count field_count_number (omega arith),
        count interface_count_number (omega arith),
        count compiler_count_number (omega arith),
        count text_length_number (omega arith),
        end_same ws l (fits ws ok) (distinct ws ok) (whole ws ok),
        length-same ws l (fits ws ok) (distinct ws ok) (whole ws ok),
      )
      (and_both (class_fits ws) (all_fresh ws) (formed ws ok)).0

  -- ---- single records

  pub word_at : (i k : ℕ) → i < n → k < class_width → k ≢ parent_word → class_word new (i + 1) k ≡ class_word ws (get_or l i 0) k
  word_at i k h g o =
      let z : i + 1 - 1 ≡ i = omega arith in
      rw z at (word_moved ws l (fits ws ok) (distinct ws ok) (whole ws ok) (i + 1) k (omega arith, omega arith) g o)

  at-class : (i : ℕ) → i < n → IsClass ws (get_or l i 0)
  at-class i h = element-class ws l (each-order ws) i (rw (whole ws ok) h)

  record_at_lem : (text : List ℕ) (i : ℕ) → i < n → class_record new text (i + 1) ≡ loose_record ws text (get_or l i 0)
  unfolding class_record own_numbers class_numbers class_lists loose_record loose_numbers
  record_at_lem text i h =
      let below : ltb (class_parent new (i + 1)) (i + 1) ≡ true = lt-ltb _ _ (parent_below (i + 1) (omega arith, omega arith)) in
      let named : leb (class_parent ws (get_or l i 0)) n ≡ true = le-leb _ _ (parents-named ws ok (get_or l i 0) (at-class i h)) in
      simp (
        below,
        named,
        word_at i name_start_word h (omega arith) (λ e. omega arith),
        word_at i name_length_word h (omega arith) (λ e. omega arith),
        word_at i flags_word h (omega arith) (λ e. omega arith),
        word_at i kind_word h (omega arith) (λ e. omega arith),
        word_at i first_method_word h (omega arith) (λ e. omega arith),
        word_at i method_count_word h (omega arith) (λ e. omega arith),
        word_at i first_field_word h (omega arith) (λ e. omega arith),
        word_at i field_count_word h (omega arith) (λ e. omega arith),
        word_at i first_interface_word h (omega arith) (λ e. omega arith),
        word_at i interface_count_word h (omega arith) (λ e. omega arith),
        word_at i link_state_word h (omega arith) (λ e. omega arith),
        word_at i instance_words_word h (omega arith) (λ e. omega arith),
        word_at i compiler_table_word h (omega arith) (λ e. omega arith),
        word_at i compiler_slots_word h (omega arith) (λ e. omega arith),
        word_at i table_place_word h (omega arith) (λ e. omega arith),
        word_at i slot_count_word h (omega arith) (λ e. omega arith),
        count method_count_number (omega arith),
        count field_count_number (omega arith),
        count interface_count_number (omega arith),
        count compiler_count_number (omega arith),
      )

  -- a test of each class, in the order's order
  pub all-order : (p : ℕ → Bool) → all_of n (λ i. p (get_or l i 0)) ≡ all_of n (λ i. p (i + 1))
  all-order p =
      same_bool (all_of n (λ i. p (get_or l i 0))) (all_of n (λ i. p (i + 1)))
      (λ h.
      all-if n (λ i. p (i + 1))
      (λ i k.
      let b = class-stands ws ok (i + 1) (omega arith, omega arith) in
      rw b.is at (all-each n (λ i. p (get_or l i 0)) h b.place (omega (arith, b.before, whole ws ok)))))
      (λ h.
      all-if n (λ i. p (get_or l i 0))
      (λ i k.
      let c = at-class i k in
      let e : get_or l i 0 - 1 + 1 ≡ get_or l i 0 = omega (arith, c.0) in
      rw e at (all-each n (λ i. p (i + 1)) h (get_or l i 0 - 1) (omega (arith, c.0, c.1)))))

  records-new : (text : List ℕ) → all_of n (λ i. class_record new text (i + 1)) ≡ all_of n (λ i. loose_record ws text (i + 1))
  records-new text =
      all-ext n (λ i. class_record new text (i + 1)) (λ i. loose_record ws text (get_or l i 0)) (record_at_lem text) ∙ all-order (loose_record ws text)

  -- ---- members and interface words

  method : (m k : ℕ) → m < method_count ws → k < member_width → method_word new m k ≡ method_word ws m k
  method = method-same ws l (fits ws ok) (distinct ws ok) (whole ws ok)

  field : (f k : ℕ) → f < field_count ws → k < member_width → field_word new f k ≡ field_word ws f k
  field = field-same ws l (fits ws ok) (distinct ws ok) (whole ws ok)

  method-new : (text : List ℕ) (m : ℕ) → m < method_count ws → method_record new text m ≡ method_record ws text m
  unfolding method_record
  method-new text m h =
      simp (method m 0 h (omega arith), method m 1 h (omega arith), method m 2 h (omega arith), method m 3 h (omega arith), method m 4 h (omega arith))

  field-new : (text : List ℕ) (f : ℕ) → f < field_count ws → field_record new text f ≡ field_record ws text f
  unfolding field_record
  field-new text f h =
      simp (field f 0 h (omega arith), field f 1 h (omega arith), field f 2 h (omega arith), field f 3 h (omega arith), field f 4 h (omega arith))

  method_typed_lem : (text : List ℕ) (m : ℕ) → m < method_count ws → method_typed new text m ≡ method_typed ws text m
  unfolding method_typed
  method_typed_lem text m h = simp (method m 2 h (omega arith), method m 3 h (omega arith), method m 4 h (omega arith))

  field_typed_lem : (text : List ℕ) (f : ℕ) → f < field_count ws → field_typed new text f ≡ field_typed ws text f
  unfolding field_typed
  field_typed_lem text f h = simp (field f 2 h (omega arith), field f 3 h (omega arith))

  interface-new : (i : ℕ) → i < interface_count ws → interface_names new i ≡ interface_names ws i
  unfolding interface_names
  interface-new i h =
      let a = interface-class i h in
      let b = interfaces-named ws ok i h in
      rw (
        count class_count_number (omega arith),
        le-leb 1 (interface_word new i) a.0,
        le-leb (interface_word new i) n a.1,
        le-leb 1 (interface_word ws i) b.0,
        le-leb (interface_word ws i) n b.1,
      )

  -- ---- pairs

  pair-at : (text : List ℕ) (i j : ℕ) → i < n → j < n → classes_apart new text (i + 1) (j + 1) ≡ classes_apart ws text (get_or l i 0) (get_or l j 0)
  unfolding classes_apart methods_apart fields_apart
  pair-at text i j h g =
      simp (
        word_at i name_start_word h (omega arith) (λ e. omega arith),
        word_at i name_length_word h (omega arith) (λ e. omega arith),
        word_at i first_method_word h (omega arith) (λ e. omega arith),
        word_at i method_count_word h (omega arith) (λ e. omega arith),
        word_at i first_field_word h (omega arith) (λ e. omega arith),
        word_at i field_count_word h (omega arith) (λ e. omega arith),
        word_at j name_start_word g (omega arith) (λ e. omega arith),
        word_at j name_length_word g (omega arith) (λ e. omega arith),
        word_at j first_method_word g (omega arith) (λ e. omega arith),
        word_at j method_count_word g (omega arith) (λ e. omega arith),
        word_at j first_field_word g (omega arith) (λ e. omega arith),
        word_at j field_count_word g (omega arith) (λ e. omega arith),
      )

  pairs-new : (text : List ℕ) → pairs_of new text n ≡ pairs_of ws text n
  pairs-new text =
      same_bool (pairs_of new text n) (pairs_of ws text n)
      (λ all.
      pairs-if ws text n
      (λ c d low less few.
      let a = class-stands ws ok c (low, omega arith) in
      let b = class-stands ws ok d (omega arith, few) in
      let i : a.place < n = omega (arith, a.before, whole ws ok) in
      let j : b.place < n = omega (arith, b.before, whole ws ok) in
      let other : a.place + 1 ≢ b.place + 1 =
      λ e. let q : a.place ≡ b.place = omega arith in let z = sym a.is ∙ ap (λ (x : ℕ). get_or l x 0) q ∙ b.is in omega arith in
      rw (pair-at text a.place b.place i j, a.is, b.is) at
      (pair-any new text n (a.place + 1) (b.place + 1) all (omega arith) (omega arith) (omega arith) (omega arith) other)))
      (λ all.
      pairs-if new text n
      (λ c d low less few.
      let e : c - 1 + 1 ≡ c = omega arith in
      let f : d - 1 + 1 ≡ d = omega arith in
      let a = at-class (c - 1) (omega arith) in
      let b = at-class (d - 1) (omega arith) in
      let other : get_or l (c - 1) 0 ≢ get_or l (d - 1) 0 =
      λ q. let z = (distinct ws ok).once (c - 1) (d - 1) (omega (arith, whole ws ok)) (omega (arith, whole ws ok)) q in omega arith in
      rw (e, f) at
      (pair-at text (c - 1) (d - 1) (omega arith) (omega arith)
      ∙ pair-any ws text n (get_or l (c - 1) 0) (get_or l (d - 1) 0) all a.0 a.1 b.0 b.1 other)))

  -- ---- rows 4 and 5

  rows_4 : (text : List ℕ) → class_records new text ≡ loose_records ws text
  unfolding class_records loose_records
  rows_4 text =
      rw (
        count class_count_number (omega arith),
        count method_count_number (omega arith),
        count field_count_number (omega arith),
        count interface_count_number (omega arith),
        records-new text,
        all-ext (method_count ws) (method_record new text) (method_record ws text) (method-new text),
        all-ext (field_count ws) (field_record new text) (field_record ws text) (field-new text),
        all-ext (interface_count ws) (interface_names new) (interface_names ws) interface-new,
        pairs-new text,
      )

  rows_5 : (text : List ℕ) → class_descriptors new text ≡ class_descriptors ws text
  unfolding class_descriptors
  rows_5 text =
      rw (
        count method_count_number (omega arith),
        count field_count_number (omega arith),
        all-ext (method_count ws) (method_typed new text) (method_typed ws text) (method_typed_lem text),
        all-ext (field_count ws) (field_typed new text) (field_typed ws text) (field_typed_lem text),
      )

  -- rows 3 to 5 of a link
  links : (abi : List ℕ) → ValidAbi abi → class_records new (text_of new) ≡ loose_records ws (text_of ws)
      → class_descriptors new (text_of new) ≡ class_descriptors ws (text_of ws)
      → (set_refusal new abi ≡ 0) ↔ ((loose_records ws (text_of ws) ≡ true) × (class_descriptors ws (text_of ws) ≡ true))
  links abi v r d = (
    λ e. let t = class-tests new (valid new abi e).0 in (sym r ∙ t.1, sym d ∙ t.2),
    λ t. accepted new abi (valid-class new fits-new (r ∙ t.0) (d ∙ t.1)) v,
  )

  pub left_in_order : InOrder ws new
  left_in_order =
      let t = text_same ws l (fits ws ok) (distinct ws ok) (whole ws ok) in
      record {
        parent = parent_below;
        interface = λ i h. let k = interface-class i h in (k.0, rw (count class_count_number (omega arith)) k.1);
        fits = fits-new;
        records = rw t (rows_4 (text_of ws));
        descriptors = rw t (rows_5 (text_of ws));
        link = λ abi v. links abi v (rw t (rows_4 (text_of ws))) (rw t (rows_5 (text_of ws)));
      }
