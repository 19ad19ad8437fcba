-- Records and interface words are written over their sections, which lays out the renumbered words; then the call's answer. Assumes nothing.
use mathlib.Core.Path.{◌≡◌, refl, sym, ap, ◌∙◌}
use mathlib.Core.Bool.{Bool, not}
use mathlib.Core.List.{List, [], ◌∷◌, ◌++◌, map, map-append, append_assoc, append-nil}
use Prim.Native.Nat.{ℕ, zero, suc, ◌+◌, ◌*◌, ◌-◌, ◌≤◌, ◌<◌}
use native.Mathlib.Omega.{arith}
use native.Mathlib.Numerals.{add-one}
use native.Mathlib.Nat.{mul-zero, mul-suc}
use lib.ListN.{length, get_or, take, drop, set, drop_of_length-le, length-append, length-set, length-map}
use lib.Seq.{drop-cons, drop-drop, take-suc, take-length, take_all, take_at, drop_at, set-append_left, set_at, get_or_at, length-take-le}
use lib.Dec.{ltb}
use borrow.Author.Tests.{ne_eqb, ltb-false}
use Rattle.words.specs.Rows.{joined, cut}
use Rattle.words.specs.Words.{pasted, copy_elements}
use Rattle.words.proofs.Bools.{passed}
use Rattle.words.proofs.Laws.{room}
use Rattle.words.proofs.Lists.{length_part}
use Rattle.words.proofs.Rows.{joined-append}
use Rattle.class_sheet.specs.ClassSheet.{parent_word, counts_width, class_width, class_limit, class_count, interface_count, methods_at, fields_at, interfaces_at, compilers_at, text_at, content_end, class_parent}
use Rattle.class_sheet.specs.Sections.{Sections, Formed, sections_by, sections_of, with_classes}
use Rattle.class_sheet.proofs.Sections.{at-classes, at-methods, at-interfaces, counts_of, to_methods, to_interfaces, from_methods, from_interfaces, from_compilers, number_of_classes, number_of_interfaces, methods-start, interfaces-start, length-laid, laid_of, formed-of, sections-laid}
use Rattle.set_rules.specs.Valid.{IsClass}
use Rattle.renumber.specs.Renumber.{new_number, moved_record, renumbered, renumber_form, names_classes, cyclic, renumber_refusal, renumber_def, outcome}
use Rattle.std.specs.Prelude.{Result, Ok, Err}
use Rattle.refusal.specs.declared.Refusal.{Refusal}
use Rattle.refusal.specs.Rows.{row}
use Rattle.refusal.proofs.Rows.{row_above}
use Rattle.renumber.specs.Steps.{Complete, records_moved, with_interfaces, interfaces_mapped}
use Rattle.renumber.proofs.OrderLaws.{each-order, element-class, order-distinct}
use Rattle.renumber.proofs.Moved.{formed-moved}

-- ---- a record, moved

-- row i of those cut
cut-row : (w n i : ℕ) (l : List ℕ) → i < n → get_or (cut w n l) i [] ≡ take w (drop (w * i) l)
unfolding cut
cut-row w zero i l h = absurd (omega arith)
cut-row w (suc n) zero l h = rw (mul-zero w)
cut-row w (suc n) (suc i) l h =
    let e : w * suc i ≡ w + w * i = omega (arith, mul-suc w i) in
    cut-row w n i (drop w l) (omega arith) ∙ rw (e, drop-drop (w * i) w l)

module _ (ws l : List ℕ) (c : ℕ) (class : IsClass ws c) where
  abbrev record_at : ℕ
  record_at = counts_width + class_width * (c - 1)

  moved-is : moved_record ws l c ≡ set (take class_width (drop record_at ws)) parent_word (new_number l (class_parent ws c))
  unfolding moved_record sections_by
  moved-is = rw (cut-row class_width (class_count ws) (c - 1) (drop counts_width ws) (omega arith), drop-drop (class_width * (c - 1)) counts_width ws)

  module _ (content : content_end ws ≤ length ws) where
    record_inside : record_at + class_width ≤ length ws
    unfolding content_end text_at compilers_at interfaces_at fields_at methods_at
    record_inside = omega arith

    record_length : length (take class_width (drop record_at ws)) ≡ class_width
    record_length = length_part ws record_at class_width record_inside

    pub moved_length : length (moved_record ws l c) ≡ class_width
    moved_length = rw (moved-is, length-set) record_length

    -- as the code writes it: the record copied to the front of a part, and its parent's word stored
    pub record_put : (part : List ℕ) → class_width ≤ length part → {p q : ℕ} {r : Bool} {copied stored : List ℕ}
        {b : ℕ} → b ≡ c - 1 → (r, copied) ≡ copy_elements ws (counts_width + class_width * b) class_width part 0 → p ≡ class_parent ws c → q ≡ new_number l p
        → stored ≡ set copied parent_word q → stored ≡ moved_record ws l c ++ drop class_width part
    unfolding pasted
    record_put part h {p} {q} {r} {copied} {stored} {b} before copy parent number store =
        let all = rw before at copy ∙ sym (room ws record_at class_width part 0 record_inside (omega arith)) in
        let e : copied ≡ take class_width (drop record_at ws) ++ drop class_width part = ap (λ (x : Bool × List ℕ). x.1) all in
        store ∙ rw (e, number, parent, moved-is) (set-append_left (take class_width (drop record_at ws)) (drop class_width part) parent_word
        (new_number l (class_parent ws c)) (omega (arith, record_length)))

-- ---- the records, one after the other

-- one list more, mapped and joined
joined-more : (f : ℕ → List ℕ) (l : List ℕ) (i : ℕ) → i < length l → joined (map f (take (i + 1) l)) ≡ joined (map f (take i l)) ++ f (get_or l i 0)
unfolding joined
joined-more f l i h =
    let x : ℕ = get_or l i 0 in
    rw (add-one i, take-suc l i 0 h, map-append f (take i l) (x ∷ []), joined-append (map f (take i l)) (f x ∷ []), append-nil (f x))

module _ (ws l : List ℕ) (o : Complete ws l) where
  pub class-at : (i : ℕ) {c : ℕ} → i < length l → c ≡ get_or l i 0 → IsClass ws c
  class-at i h e = rw e (element-class ws l (rw o.order (each-order ws)) i h)

  -- a turn: record i is written over its words
  pub records-turn : (i : ℕ) (array : List ℕ) {c : ℕ} {ys next : List ℕ} → i < length l → c ≡ get_or l i 0 → length array ≡ class_width * class_limit
      → ys ≡ moved_record ws l c ++ drop class_width (take (class_width * class_limit - class_width * i) (drop (class_width * i) array))
      → next ≡ take (class_width * i) array ++ (ys ++ drop (class_width * class_limit - class_width * i) (drop (class_width * i) array))
      → take (class_width * i) array ≡ joined (map (moved_record ws l) (take i l))
      → take (class_width * (i + 1)) next ≡ joined (map (moved_record ws l) (take (i + 1) l))
  records-turn i array {c} {ys} {next} h e size put write inv =
      let at : ℕ = class_width * i in
      let m : List ℕ = moved_record ws l c in
      let a : List ℕ = drop class_width (take (class_width * class_limit - at) (drop at array)) in
      let b : List ℕ = drop (class_width * class_limit - at) (drop at array) in
      let n = moved_length ws l c (class-at i h e) o.fits in
      let front : length (take at array) ≡ at = length-take-le at array (omega (arith, o.few)) in
      let both : length (take at array ++ m) ≡ class_width * (i + 1) = omega (arith, length-append (take at array) m) in
      let split : next ≡ (take at array ++ m) ++ (a ++ b) = write ∙ rw (put, append_assoc m a b) (sym (append_assoc (take at array) m (a ++ b))) in
      rw (split, take_at (take at array ++ m) (a ++ b) (class_width * (i + 1)) both, joined-more (moved_record ws l) l i h, inv, e)

  pub records-end : (i : ℕ) (array : List ℕ) → length l ≤ i → i ≤ length l → take (class_width * i) array ≡ joined (map (moved_record ws l) (take i l))
      → take (class_width * length l) array ≡ joined (map (moved_record ws l) l)
  records-end i array h g inv =
      let e : i ≡ length l = omega arith in rw (take-length l) at (rw e at inv)

  -- ---- the records over their section

  abbrev old : Sections
  old = sections_of ws

  abbrev moved : List (List ℕ)
  moved = map (moved_record ws l) l

  formed-records : Formed class_width (with_classes old moved)
  formed-records =
      let f = formed-moved ws l o.fits (order-distinct ws l (rw o.order (each-order ws))) o.all in
      record { classes = f.classes; methods = f.methods; fields = f.fields; text = f.text }

  -- as many as before
  moved-count : length moved ≡ length old.classes
  moved-count = length-map l (moved_record ws l) ∙ o.all ∙ sym (ap class_count (laid_of ws o.fits)) ∙ number_of_classes old

  -- the methods begin after as many records
  methods-after : methods_at ws ≡ counts_width + class_width * length l
  unfolding methods_at
  methods-after = omega (arith, o.all)

  records-inside : counts_width + class_width * length l ≤ length ws
  unfolding content_end text_at compilers_at interfaces_at fields_at
  records-inside = omega (arith, o.fits, methods-after)

  -- as the code writes them: copied from an array
  pub records-over : (array : List ℕ) {out : List ℕ} {b : Bool} → length array ≡ class_width * class_limit
      → take (class_width * length l) array ≡ joined (map (moved_record ws l) l)
      → (b, out) ≡ copy_elements array 0 (class_width * length l) ws counts_width → out ≡ records_moved ws l
  unfolding pasted records_moved
  records-over array {out} {b} size records copy =
      let n : ℕ = class_width * length l in
      let laid = laid_of ws o.fits in
      let start : length (to_methods old) ≡ counts_width + n = methods-start old (formed-of ws o.fits) ∙ ap methods_at laid ∙ methods-after in
      let front : take counts_width ws ≡ counts_of old = ap (take counts_width) (sym laid ∙ at-classes old) in
      let back : drop (counts_width + n) ws ≡ from_methods old =
      ap (drop (counts_width + n)) (sym laid ∙ at-methods old) ∙ drop_at (to_methods old) (from_methods old) (counts_width + n) start in
      let all = copy ∙ sym (room array 0 n ws counts_width (omega (arith, o.few)) records-inside) in
      ap (λ (x : Bool × List ℕ). x.1) all
      ∙ rw (front, back, records, at-classes (with_classes old moved), moved-count) (append_assoc (counts_of old) (joined moved) (from_methods old))

-- ---- words mapped in place

-- the first i mapped
unfoldable pub mapped_to : (ℕ → ℕ) → List ℕ → ℕ → List ℕ
mapped_to f p i = map f (take i p) ++ drop i p

module _ (f : ℕ → ℕ) (p : List ℕ) where
  pub map-start : p ≡ mapped_to f p 0
  unfolding mapped_to
  map-start = refl

  pub map-turn : (i : ℕ) {c q : ℕ} {l m : List ℕ} → i < length p → l ≡ mapped_to f p i → c ≡ get_or l i 0 → q ≡ f c → m ≡ set l i q
      → m ≡ mapped_to f p (i + 1)
  unfolding mapped_to
  map-turn i {c} {q} {l} {m} h e w g s =
      let x : ℕ = get_or p i 0 in
      let done : List ℕ = map f (take i p) in
      let left : List ℕ = drop (suc i) p in
      let size : length done ≡ i = length-map (take i p) f ∙ length-take-le i p (omega arith) in
      let here : l ≡ done ++ (x ∷ left) = e ∙ rw (drop-cons p i 0 h) in
      let word : c ≡ x = w ∙ rw here (get_or_at done x left 0 i size) in
      s ∙ rw (here, g, word, set_at done x left (f x) i size, add-one i, take-suc p i 0 h, map-append f (take i p) (x ∷ []))
      (sym (append_assoc done (f x ∷ []) left))

  pub map-end : (i : ℕ) {l : List ℕ} → length p ≤ i → l ≡ mapped_to f p i → l ≡ map f p
  unfolding mapped_to
  map-end i h e = e ∙ rw (take_all i p h, drop_of_length-le p h, append-nil)

-- ---- the interface words over their section

pub interfaces-within : (ws : List ℕ) → content_end ws ≤ length ws → (interfaces_at ws ≤ compilers_at ws) × (compilers_at ws ≤ length ws)
unfolding content_end text_at compilers_at
interfaces-within ws content = omega arith

module _ (ws l : List ℕ) (content : content_end ws ≤ length ws) where
  abbrev cuts : Sections
  cuts = sections_of ws

  interface-length : length cuts.interfaces ≡ interface_count ws
  interface-length = sym (number_of_interfaces cuts) ∙ ap interface_count (laid_of ws content)

  pub interfaces-over : {at end : ℕ} {ys out : List ℕ} → at ≡ interfaces_at ws → end ≡ compilers_at ws
      → ys ≡ map (new_number l) (take (end - at) (drop at ws)) → out ≡ take at ws ++ (ys ++ drop (end - at) (drop at ws))
      → out ≡ interfaces_mapped ws l
  unfolding interfaces_mapped compilers_at
  interfaces-over {at} {end} {ys} {out} a e put write =
      let k : end - at ≡ interface_count ws = omega arith in
      let laid = laid_of ws content in
      let start : length (to_interfaces cuts) ≡ at = interfaces-start cuts (formed-of ws content) ∙ ap interfaces_at laid ∙ sym a in
      let split : ws ≡ to_interfaces cuts ++ from_interfaces cuts = sym laid ∙ at-interfaces cuts in
      let front : take at ws ≡ to_interfaces cuts = ap (take at) split ∙ take_at (to_interfaces cuts) (from_interfaces cuts) at start in
      let here : drop at ws ≡ from_interfaces cuts = ap (drop at) split ∙ drop_at (to_interfaces cuts) (from_interfaces cuts) at start in
      let new : List ℕ = map (new_number l) cuts.interfaces in
      let same : length new ≡ length cuts.interfaces = length-map cuts.interfaces (new_number l) in
      write
      ∙ rw (
        put,
        front,
        here,
        k,
        take_at cuts.interfaces (from_compilers cuts) (interface_count ws) interface-length,
        drop_at cuts.interfaces (from_compilers cuts) (interface_count ws) interface-length,
        at-interfaces (with_interfaces cuts new),
        same,
      )

-- ---- both

module _ (ws l : List ℕ) (o : Complete ws l) where
  moved-sections : sections_of (records_moved ws l) ≡ with_classes (sections_of ws) (map (moved_record ws l) l)
  unfolding records_moved
  moved-sections = sections-laid class_width (with_classes (sections_of ws) (map (moved_record ws l) l)) (formed-records ws l o)

  pub moved-fits : {out : List ℕ} → out ≡ records_moved ws l → content_end out ≤ length out
  unfolding records_moved
  moved-fits e = rw e (omega (arith, length-laid (with_classes (sections_of ws) (map (moved_record ws l) l)) (formed-records ws l o)))

  pub both-moved : {out end : List ℕ} → out ≡ records_moved ws l → end ≡ interfaces_mapped out l → end ≡ renumbered ws l
  unfolding interfaces_mapped renumbered
  both-moved e f = f ∙ rw (e, moved-sections)

-- the list in front of the lent one
pub list_put : (l order : List ℕ) {last : List ℕ} {b : Bool} → length l ≤ length order → (b, last) ≡ copy_elements l 0 (length l) order 0
    → last ≡ l ++ drop (length l) order
unfolding pasted
list_put l order {last} {b} h copy =
    let e : 0 + length l ≡ length l = omega arith in
    ap (λ (x : Bool × List ℕ). x.1) (copy ∙ sym (room l 0 (length l) order 0 (omega arith) (omega arith))) ∙ rw (take-length l, e)

-- ---- the call

module _ (ws order : List ℕ) where
  pub call_refused : (r : Refusal) {x : Result ℕ Refusal} → x ≡ Err r → row r ≡ renumber_refusal ws (length order) → outcome x ws order ≡ renumber_def ws order
  unfolding renumber_def
  call_refused r e f = rw (e, ← f, ne_eqb (row r) 0 (λ z. omega (arith, row_above r)))

  module _ (is : 0 ≡ renumber_refusal ws (length order)) where
    list-room : class_count ws ≤ length order
    unfolding renumber_refusal
    list-room =
        let a = passed (not (renumber_form ws)) 3 _ (omega arith) (sym is) in
        let b = passed (not (names_classes ws)) 4 _ (omega arith) a.1 in
        let c = passed (cyclic ws) 19 _ (omega arith) b.1 in
        ltb-false _ _ (passed (ltb (length order) (class_count ws)) 15 0 (omega arith) c.1).0

    module _ {l : List ℕ} (o : Complete ws l) where
      pub order-room : length l ≤ length order
      order-room = omega (arith, o.all, list-room)

      pub call-made : {n : ℕ} {out last : List ℕ} → n ≡ length l → out ≡ renumbered ws l → last ≡ l ++ drop (length l) order
          → outcome (Ok n) out last ≡ renumber_def ws order
      unfolding renumber_def
      call-made count records front = rw (← is, records, front, count, o.all, o.order)
