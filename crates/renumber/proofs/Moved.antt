-- The renumbered words are laid out from sections, so every named word of them is a word of a moved section. Assumes nothing.
use mathlib.Core.Path.{◌≡◌, refl, sym, ap, ◌∙◌}
use mathlib.Core.Logic.{◌≢◌}
use mathlib.Core.Bool.{false}
use mathlib.Core.List.{List, [], ◌∷◌, map}
use Prim.Native.Nat.{ℕ, zero, suc, ◌+◌, ◌-◌, ◌≤◌, ◌<◌}
use native.Mathlib.Omega.{arith}
use lib.ListN.{length, get_or, drop, length-set}
use lib.Seq.{get_or-set_same, get_or-set_other}
use lib.Dec.{eqb}
use borrow.Author.Tests.{eq-eqb, ne_eqb}
use Rattle.words.specs.Lists.{position, some}
use Rattle.words.specs.Rows.{Rows, no_rows, a_row}
use Rattle.std.specs.Prelude.{Some, None}
use Rattle.words.proofs.Bools.{by, or-neither}
use Rattle.words.proofs.Rows.{row-length}
use Rattle.class_sheet.specs.ClassSheet.{parent_word, counts_width, class_width, member_width, count_at, class_count, method_count, field_count, interface_count, compiler_count, text_length, content_end, class_word, method_word, field_word, interface_word, compiler_word, text_of, class_parent}
use Rattle.class_sheet.specs.Sections.{Sections, Formed, laid_out, sections_of}
use Rattle.class_sheet.proofs.Sections.{formed-of, laid_of, class_of, method-of, field_of, interface-of, compiler-of, text-of-words, number_of_classes, number_of_methods, number_of_fields, number_of_interfaces, number_of_compilers, length_of_text, end-at, class-word, method-word, field-word, interface-word, compiler-word, text-of, rest-is, length-laid}
use Rattle.set_rules.specs.Valid.{IsClass}
use Rattle.renumber.specs.Renumber.{placed, new_number, moved_record, renumbered}
use Rattle.renumber.proofs.Distinct.{Distinct, placed-place}

-- ---- new numbers

position_at : (l : List ℕ) (c k i : ℕ) → i < length l → get_or l i 0 ≡ c → ((j : ℕ) → j < i → get_or l j 0 ≡ c → ⊥) → position (eqb c) k l ≡ Some (k + i)
unfolding position
position_at [] c k i h e first = absurd (omega arith)
position_at (x ∷ l) c k zero h e first = let z : k + 0 ≡ k = omega arith in rw (eq-eqb c x (sym e), z)
position_at (x ∷ l) c k (suc i) h e first =
    let z : k + 1 + i ≡ k + suc i = omega arith in
    rw (ne_eqb c x (λ q. first 0 (omega arith) (sym q)), ← z)
    (position_at l c (k + 1) i (omega arith) e (λ j g. first (suc j) (omega arith)))

position-none : (l : List ℕ) (c k : ℕ) → placed l c ≡ false → position (eqb c) k l ≡ None
unfolding position placed some
position-none [] c k f = refl
position-none (x ∷ l) c k f =
    let b = or-neither (eqb c x) (some (eqb c) l) f in rw b.0 (position-none l c (k + 1) b.1)

pub new_none : (l : List ℕ) (c : ℕ) → placed l c ≡ false → new_number l c ≡ 0
unfolding new_number
new_none l c f = rw (position-none l c 1 f)

module _ (n : ℕ) (l : List ℕ) (d : Distinct n l) where
  pub new-at : (i : ℕ) → i < length l → new_number l (get_or l i 0) ≡ i + 1
  unfolding new_number
  new-at i h =
      rw (position_at l (get_or l i 0) 1 i h refl (λ j g e. let q = d.once j i (omega arith) h e in omega arith)) (omega arith)

  pub new-zero : new_number l 0 ≡ 0
  new-zero =
      new_none l 0 (by (placed l 0)
      (λ t. let b = placed-place l 0 t in let w = d.within b.place b.before in absurd (omega (arith, b.is, w.0))) (λ f. f))

-- ---- maps

pub map_at : {A B : Type 0} (f : A → B) (l : List A) (i : ℕ) (d : A) (e : B) → i < length l → get_or (map f l) i e ≡ f (get_or l i d)
map_at f [] i d e h = absurd (omega arith)
map_at f (x ∷ l) zero d e h = refl
map_at f (x ∷ l) (suc i) d e h = map_at f l i d e (omega arith)

pub length-map : {A B : Type 0} (f : A → B) (l : List A) → length (map f l) ≡ length l
length-map f [] = refl
length-map f (x ∷ l) = ap suc (length-map f l)

rows-map : (w : ℕ) (f : ℕ → List ℕ) (l : List ℕ) → ((i : ℕ) → i < length l → length (f (get_or l i 0)) ≡ w) → Rows w (map f l)
rows-map w f [] h = no_rows
rows-map w f (x ∷ l) h = a_row (h 0 (omega arith)) (rows-map w f l (λ i g. h (suc i) (omega arith)))

-- ---- the words

module _ (ws l : List ℕ) (fits : content_end ws ≤ length ws) (d : Distinct (class_count ws) l) (whole : length l ≡ class_count ws) where
  abbrev old : Sections
  old = sections_of ws

  abbrev moved : Sections
  moved = record {
    classes = map (moved_record ws l) l;
    methods = old.methods;
    fields = old.fields;
    interfaces = map (new_number l) old.interfaces;
    compilers = old.compilers;
    bytes = old.bytes;
    text = old.text;
    rest = old.rest;
  }

  pub moved-words : renumbered ws l ≡ laid_out moved
  unfolding renumbered
  moved-words = refl

  classes-old : length old.classes ≡ class_count ws
  classes-old = sym (number_of_classes old) ∙ ap class_count (laid_of ws fits)

  interfaces-old : length old.interfaces ≡ interface_count ws
  interfaces-old = sym (number_of_interfaces old) ∙ ap interface_count (laid_of ws fits)

  record_length : (c : ℕ) → IsClass ws c → length (moved_record ws l c) ≡ class_width
  unfolding moved_record
  record_length c k =
      length-set (get_or old.classes (c - 1) []) parent_word (new_number l (class_parent ws c))
      ∙ row-length (c - 1) (formed-of ws fits).classes (omega (arith, classes-old))

  pub formed-moved : Formed class_width moved
  formed-moved = record {
    classes = rows-map class_width (moved_record ws l) l (λ i h. record_length (get_or l i 0) (d.within i h));
    methods = (formed-of ws fits).methods;
    fields = (formed-of ws fits).fields;
    text = (formed-of ws fits).text;
  }

  classes-moved : length moved.classes ≡ class_count ws
  classes-moved = length-map (moved_record ws l) l ∙ whole

  interfaces-moved : length moved.interfaces ≡ interface_count ws
  interfaces-moved = length-map (new_number l) old.interfaces ∙ interfaces-old

  -- ---- the records

  old-class : (c : ℕ) → IsClass ws c → IsClass ws (get_or l (c - 1) 0)
  old-class c k = d.within (c - 1) (omega (arith, k.0, k.1))

  row_is : (c : ℕ) → IsClass ws c → get_or moved.classes (c - 1) [] ≡ moved_record ws l (get_or l (c - 1) 0)
  row_is c k = map_at (moved_record ws l) l (c - 1) 0 [] (omega (arith, k.0, k.1))

  moved_word : (c k : ℕ) → IsClass ws c → k < class_width → class_word (renumbered ws l) c k ≡ get_or (moved_record ws l (get_or l (c - 1) 0)) k 0
  moved_word c k h g =
      rw moved-words
      (class-word moved formed-moved c k h.0 (omega (arith, h.1, classes-moved)) g ∙ ap (λ (r : List ℕ). get_or r k 0) (row_is c h))

  pub word_moved : (c k : ℕ) → IsClass ws c → k < class_width → k ≢ parent_word → class_word (renumbered ws l) c k ≡ class_word ws (get_or l (c - 1) 0) k
  unfolding moved_record
  word_moved c k h g n =
      let o : IsClass ws (get_or l (c - 1) 0) = old-class c h in
      moved_word c k h g
      ∙ get_or-set_other (get_or old.classes (get_or l (c - 1) 0 - 1) []) parent_word k (new_number l (class_parent ws (get_or l (c - 1) 0))) 0 n
      ∙ sym (class_of ws fits (get_or l (c - 1) 0) k o.0 o.1 g)

  pub parent-moved : (c : ℕ) → IsClass ws c → class_parent (renumbered ws l) c ≡ new_number l (class_parent ws (get_or l (c - 1) 0))
  unfolding moved_record
  parent-moved c h =
      let o : IsClass ws (get_or l (c - 1) 0) = old-class c h in
      moved_word c parent_word h (omega arith)
      ∙ get_or-set_same (get_or old.classes (get_or l (c - 1) 0 - 1) []) parent_word (new_number l (class_parent ws (get_or l (c - 1) 0))) 0
      (omega (arith, row-length (get_or l (c - 1) 0 - 1) (formed-of ws fits).classes (omega (arith, classes-old, o.0, o.1))))

  pub interface-moved : (i : ℕ) → i < interface_count ws → interface_word (renumbered ws l) i ≡ new_number l (interface_word ws i)
  interface-moved i h =
      rw moved-words
      (interface-word moved formed-moved i (omega (arith, interfaces-moved))
      ∙ map_at (new_number l) old.interfaces i 0 0 (omega (arith, interfaces-old))
      ∙ ap (new_number l) (sym (interface-of ws fits i h)))

  -- ---- all else

  pub method-same : (m k : ℕ) → m < method_count ws → k < member_width → method_word (renumbered ws l) m k ≡ method_word ws m k
  method-same m k h g =
      rw moved-words
      (method-word moved formed-moved m k (omega (arith, number_of_methods old, ap method_count (laid_of ws fits))) g ∙ sym (method-of ws fits m k h g))

  pub field-same : (f k : ℕ) → f < field_count ws → k < member_width → field_word (renumbered ws l) f k ≡ field_word ws f k
  field-same f k h g =
      rw moved-words
      (field-word moved formed-moved f k (omega (arith, number_of_fields old, ap field_count (laid_of ws fits))) g ∙ sym (field_of ws fits f k h g))

  pub compiler-same : (i : ℕ) → i < compiler_count ws → compiler_word (renumbered ws l) i ≡ compiler_word ws i
  compiler-same i h =
      rw moved-words
      (compiler-word moved formed-moved i (omega (arith, number_of_compilers old, ap compiler_count (laid_of ws fits))) ∙ sym (compiler-of ws fits i h))

  pub text_same : text_of (renumbered ws l) ≡ text_of ws
  text_same = rw moved-words (text-of moved formed-moved ∙ sym (text-of-words ws fits))

  pub count_same : (k : ℕ) → k < counts_width → count_at (renumbered ws l) k ≡ count_at ws k
  count_same zero h = rw moved-words (number_of_classes moved ∙ classes-moved)
  count_same (suc zero) h = rw moved-words (number_of_methods moved ∙ sym (number_of_methods old) ∙ ap method_count (laid_of ws fits))
  count_same (suc (suc zero)) h = rw moved-words (number_of_fields moved ∙ sym (number_of_fields old) ∙ ap field_count (laid_of ws fits))
  count_same (suc (suc (suc zero))) h = rw moved-words (number_of_interfaces moved ∙ interfaces-moved)
  count_same (suc (suc (suc (suc zero)))) h = rw moved-words (number_of_compilers moved ∙ sym (number_of_compilers old) ∙ ap compiler_count (laid_of ws fits))
  count_same (suc (suc (suc (suc (suc zero))))) h = rw moved-words (length_of_text moved ∙ sym (length_of_text old) ∙ ap text_length (laid_of ws fits))
  count_same (suc (suc (suc (suc (suc (suc k)))))) h = absurd (omega arith)

  pub rest-same : drop (content_end (renumbered ws l)) (renumbered ws l) ≡ drop (content_end ws) ws
  rest-same =
      rw moved-words (rest-is moved formed-moved)
      ∙ sym (rest-is old (formed-of ws fits)) ∙ ap (λ (x : List ℕ). drop (content_end x) x) (laid_of ws fits)

  pub end_same : content_end (renumbered ws l) ≡ content_end ws
  end_same =
      rw moved-words
      (end-at moved ∙ rw (classes-moved, ← classes-old, interfaces-moved, ← interfaces-old) refl ∙ sym (end-at old) ∙ ap content_end (laid_of ws fits))

  pub length-same : length (renumbered ws l) ≡ length ws
  length-same =
      ap length moved-words ∙ length-laid moved formed-moved
      ∙ omega (arith, ap content_end moved-words, end_same, length-laid old (formed-of ws fits), ap length (laid_of ws fits), ap content_end (laid_of ws fits))
