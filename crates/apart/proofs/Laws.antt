-- Laws of keys and marks: how the code comes to them, and what they show of names and lists. Assumes nothing.
use mathlib.Core.Path.{◌≡◌, refl, sym, ap, ◌∙◌}
use mathlib.Core.Bool.{Bool, true, false, ◌&&◌, ◌||◌, not, and-false, false≢true}
use mathlib.Core.Logic.{◌≢◌, ◌⊎◌, inl, inr, ⊎_elim}
use mathlib.Core.List.{List, [], ◌∷◌, ◌++◌}
use Prim.Native.Nat.{ℕ, zero, suc, ◌+◌, ◌-◌, ◌≤◌, ◌<◌, max}
use native.Mathlib.Nat.{not-suc-le-zero, eq-or-lt_of_le, le_of_suc-le-suc}
use native.Mathlib.Numerals.{add-one}
use native.Mathlib.Omega.{arith}
use lib.ListN.{length, get_or, set, take, drop, length-set}
use borrow.Rule.Slice.PartMut.{put_mid}
use lib.Seq.{length-take-le, set-append_left, set_out, get_or-set_same, get_or-set_other}
use lib.Dec.{eqb, leb}
use Rattle.std.proofs.Common.{take-append-drop}
use Rattle.std.proofs.lemmas.List.{set-append_right}
use borrow.Author.Tests.{eqb-true, eqb-false, le-leb, lt-leb, leb-true, leb-false, not-true}
use Rattle.words.proofs.Bools.{by, and_both, or-either, or-neither}
use Rattle.words.proofs.Lists.{part_at, length_part}
use Rattle.words.proofs.ListLaws.{push_room}
use Rattle.words.specs.Folds.{all_of, table}
use Rattle.words.specs.Lists.{some}
use Rattle.std.specs.List.{list_any}
use Rattle.words.proofs.FoldLaws.{all-each, all-if, all-ext, all-turn, all-stop, all_done, length-table, get_d_table}
use Rattle.text.specs.Text.{same_bytes}
use Rattle.text.proofs.Laws.{same-is}
use Rattle.class_sheet.specs.ClassSheet.{class_count, class_limit, class_name}
use Rattle.apart.specs.Seen.{name_key, key_at, has_key, new_key, new_keys, free_at, free_list, marked, marks_after, free_after, method_start, method_total, field_start, field_total, free_class, free_lists}
use Rattle.apart.specs.Apart.{apart, methods_apart, fields_apart, classes_apart, apart_before}

-- ---- lists that are apart

-- they have no element in common
pub apart-is : (f n g m : ℕ) → apart f n g m ≡ true → (x : ℕ) → f ≤ x → x < f + n → g ≤ x → x < g + m → ⊥
unfolding apart
apart-is f n g m h x a b c d = first (or-either (eqb n 0 || eqb m 0 || leb (f + n) g) (leb (g + m) f) h)
  where
    third : ((eqb n 0 ≡ true) ⊎ (eqb m 0 ≡ true)) → ⊥
    third (inl e) = omega (arith, eqb-true n 0 e)
    third (inr e) = omega (arith, eqb-true m 0 e)

    second : (((eqb n 0 || eqb m 0) ≡ true) ⊎ (leb (f + n) g ≡ true)) → ⊥
    second (inl e) = third (or-either (eqb n 0) (eqb m 0) e)
    second (inr e) = omega (arith, leb-true (f + n) g e)

    first : (((eqb n 0 || eqb m 0 || leb (f + n) g) ≡ true) ⊎ (leb (g + m) f ≡ true)) → ⊥
    first (inl e) = second (or-either (eqb n 0 || eqb m 0) (leb (f + n) g) e)
    first (inr e) = omega (arith, leb-true (g + m) f e)

-- and where they have none they are apart: the greater of their firsts would be one
pub apart_if : (f n g m : ℕ) → ((x : ℕ) → f ≤ x → x < f + n → g ≤ x → x < g + m → ⊥) → apart f n g m ≡ true
unfolding apart
apart_if f n g m h =
    by (apart f n g m)
    (λ y. y)
    (λ y.
    let p = or-neither (eqb n 0 || eqb m 0 || leb (f + n) g) (leb (g + m) f) y in
    let q = or-neither (eqb n 0 || eqb m 0) (leb (f + n) g) p.0 in
    let r = or-neither (eqb n 0) (eqb m 0) q.0 in
    let some-n : n ≢ 0 = eqb-false n 0 r.0 in
    let some-m : m ≢ 0 = eqb-false m 0 r.1 in
    let low = leb-false (f + n) g q.1 in
    let high = leb-false (g + m) f p.1 in
    absurd (h (max g f) (omega arith) (omega arith) (omega arith) (omega arith)))

-- ---- a key among keys

pub key_found : (ks : List ℕ) (k : ℕ) → list_any (λ y. eqb y k) ks ≡ has_key ks k
unfolding has_key some
key_found [] k = refl
key_found (x ∷ ks) k = ap (λ (b : Bool). eqb x k || b) (key_found ks k)

-- a key that is not among them differs from each
has-not : (ks : List ℕ) (k : ℕ) → has_key ks k ≡ false → (i : ℕ) → i < length ks → get_or ks i 0 ≢ k
unfolding has_key some
has-not [] k h i l = absurd (not-suc-le-zero l)
has-not (x ∷ ks) k h zero l = eqb-false x k (or-neither (eqb x k) (some (λ y. eqb y k) ks) h).0
has-not (x ∷ ks) k h (suc i) l = has-not ks k (or-neither (eqb x k) (some (λ y. eqb y k) ks) h).1 i (le_of_suc-le-suc l)

-- ---- marks of a list, an element at a time

module _ (ms : List Bool) (f : ℕ) where
  pub marked-none : ms ≡ marked ms f 0
  unfolding marked
  marked-none = refl

  pub marked_turn : (k : ℕ) {a : List Bool} → a ≡ marked ms f k → set a (f + k) true ≡ marked ms f (k + 1)
  unfolding marked
  marked_turn k e = rw (add-one, e)

  length_marked : (n : ℕ) → length (marked ms f n) ≡ length ms
  unfolding marked
  length_marked zero = refl
  length_marked (suc n) = length-set (marked ms f n) (f + n) true ∙ length_marked n

  -- what is to be marked is as it was
  marked_ahead : (n k : ℕ) → n ≤ k → get_or (marked ms f n) (f + k) false ≡ get_or ms (f + k) false
  unfolding marked
  marked_ahead zero k l = refl
  marked_ahead (suc n) k l = get_or-set_other (marked ms f n) (f + n) (f + k) true false (omega arith) ∙ marked_ahead n k (omega arith)

  -- each element is marked
  marked-each : (n k : ℕ) → f + n ≤ length ms → k < n → get_or (marked ms f n) (f + k) false ≡ true
  unfolding marked
  marked-each zero k l h = absurd (not-suc-le-zero h)
  marked-each (suc n) k l h =
      ⊎_elim
      (λ (q : k ≡ n). rw q (get_or-set_same (marked ms f n) (f + n) true false (omega (arith, length_marked n))))
      (λ m. get_or-set_other (marked ms f n) (f + n) (f + k) true false (omega arith) ∙ marked-each n k (omega arith) m)
      (eq-or-lt_of_le (le_of_suc-le-suc h))

  -- the code's turns: the element was free, or it was not and the list is not
  pub free-turn : (k : ℕ) {a : List Bool} → a ≡ marked ms f k → get_or a (f + k) false ≡ false → all_of k (free_at ms f) ≡ true
      → all_of (k + 1) (free_at ms f) ≡ true
  unfolding free_at
  free-turn k {a = a} e z h =
      let y : get_or ms (f + k) false ≡ false = sym (marked_ahead k k (omega arith)) ∙ ap (λ (l : List Bool). get_or l (f + k) false) (sym e) ∙ z in
      all-turn k (free_at ms f) h refl (ap not y)

  pub free-stop : (n k : ℕ) {a : List Bool} → k < n → a ≡ marked ms f k → get_or a (f + k) false ≡ true → false ≡ free_list ms f n
  unfolding free_list free_at
  free-stop n k {a = a} l e z =
      let y : get_or ms (f + k) false ≡ true = sym (marked_ahead k k (omega arith)) ∙ ap (λ (l : List Bool). get_or l (f + k) false) (sym e) ∙ z in
      let t = all-stop n (free_at ms f) k l refl (ap not y) in
      simp (← t, and-false)

  pub free-past : (n : ℕ) → length ms < f + n → false ≡ free_list ms f n
  unfolding free_list
  free-past n h = simp (lt-leb (f + n) (length ms) h)

  pub free-done : (n k : ℕ) → f + n ≤ length ms → k ≡ n → all_of k (free_at ms f) ≡ true → true ≡ free_list ms f n
  unfolding free_list
  free-done n k l e h = simp (le-leb (f + n) (length ms) l) (all_done n (free_at ms f) k h e)

  -- what it says
  free-is : (n : ℕ) → free_list ms f n ≡ true → (f + n ≤ length ms) × ((k : ℕ) → k < n → get_or ms (f + k) false ≡ false)
  unfolding free_list free_at
  free-is n h =
      let p = and_both (leb (f + n) (length ms)) (all_of n (free_at ms f)) h in
      (leb-true (f + n) (length ms) p.0, λ k l. not-true (get_or ms (f + k) false) (all-each n (free_at ms f) p.1 k l))

-- the part of the marks that a list has: it is marked and free from its own front as the whole is from the list's first element on
module _ (ms : List Bool) (f n : ℕ) (fits : f + n ≤ length ms) where
  abbrev section : List Bool
  section = take n (drop f ms)

  section_free : (k : ℕ) → k ≤ n → all_of k (free_at section 0) ≡ all_of k (free_at ms f)
  unfolding free_at
  section_free k h =
      all-ext k (free_at section 0) (free_at ms f) (λ i l. let z : 0 + i ≡ i = omega arith in rw (z, part_at ms f n i false (omega arith)) refl)

  section_list : free_list section 0 n ≡ free_list ms f n
  unfolding free_list
  section_list =
      let e = length_part ms f n fits in
      rw (le-leb (0 + n) (length section) (omega arith), le-leb (f + n) (length ms) fits) (section_free n (omega arith))

  section_marked : (k : ℕ) → k ≤ n → put_mid f n ms (marked section 0 k) ≡ marked ms f k
  unfolding marked
  section_marked zero h = rw take-append-drop (take-append-drop f ms)
  section_marked (suc k) h =
      let q = marked section 0 k in
      let r = drop n (drop f ms) in
      let z : 0 + k ≡ k = omega arith in
      let e : f + k - f ≡ k = omega arith in
      let long : k < length q = omega (arith, length_marked section 0 k, length_part ms f n fits) in
      rw z (ap (λ l. take f ms ++ l) (sym (set-append_left q r k true long))
      ∙ sym (rw e at (set-append_right (take f ms) (q ++ r) f (f + k) true (length-take-le f ms (omega arith)) (omega arith)))
      ∙ ap (λ l. set l (f + k) true) (section_marked k (omega arith)))

  module _ {m : ℕ} (is : m ≡ n) {k : ℕ} {a : List Bool} (so_far : a ≡ marked (take m (drop f ms)) 0 k) where
    pub list-stop : k < n → get_or a k false ≡ true → false ≡ free_list ms f n
    list-stop l z =
        let y : 0 + k ≡ k = omega arith in
        free-stop section 0 n k l (rw is at so_far) (rw y z) ∙ section_list

    pub list-marked : k ≡ n → put_mid f m ms a ≡ marked ms f n
    list-marked e = rw (so_far, is, e) (section_marked n (omega arith))

    pub list-free : k ≡ n → all_of k (free_at (take m (drop f ms)) 0) ≡ true → true ≡ free_list ms f n
    list-free e h = free-done ms f n n fits refl (sym (section_free n (omega arith)) ∙ rw (is, e) at h)

-- what is marked stays marked
set_keeps : (l : List Bool) (i k : ℕ) → get_or l k false ≡ true → get_or (set l i true) k false ≡ true
set_keeps l i k h =
    by (eqb k i)
    (λ t.
    let e : k ≡ i = eqb-true k i t in
    by (leb (length l) i)
    (λ o. rw (set_out l i true (leb-true (length l) i o)) h)
    (λ o. rw e (get_or-set_same l i true false (leb-false (length l) i o))))
    (λ t. get_or-set_other l i k true false (eqb-false k i t) ∙ h)

marked-keeps : (ms : List Bool) (f n k : ℕ) → get_or ms k false ≡ true → get_or (marked ms f n) k false ≡ true
unfolding marked
marked-keeps ms f zero k h = h
marked-keeps ms f (suc n) k h = set_keeps (marked ms f n) (f + n) k (marked-keeps ms f n k h)

-- ---- keys, a class at a time

module _ (ws text : List ℕ) where
  pub key_at_lem : (i : ℕ) {s : List ℕ} {k : ℕ} → s ≡ class_name ws text (i + 1) → k ≡ name_key s → k ≡ key_at ws text i
  unfolding key_at
  key_at_lem i e f = rw (← e) f

  -- a key more, for which there is room
  pub key-pushed : (i : ℕ) {ks ls : List ℕ} {k : ℕ} → ks ≡ table i (key_at ws text) → k ≡ key_at ws text i → i < class_limit
      → ls ≡ take class_limit (ks ++ k ∷ []) → ls ≡ table (i + 1) (key_at ws text)
  unfolding table
  key-pushed i {ks} {ls} {k} e f h p =
      let few : length ks < class_limit = omega (arith, ap length e, length-table i (key_at ws text)) in
      p ∙ push_room class_limit ks k few ∙ rw (e, f, add-one) refl

  pub new_key_lem : (i : ℕ) {ks : List ℕ} {k : ℕ} {b : Bool} → ks ≡ table i (key_at ws text) → k ≡ key_at ws text i → b ≡ has_key ks k
      → not b ≡ new_key ws text i
  unfolding new_key
  new_key_lem i e f h = rw (h, e, f)

  pub new-past : {n : ℕ} → n ≡ class_count ws → class_limit < n → false ≡ new_keys ws text class_limit
  unfolding new_keys
  new-past {n = n} e h = rw (← e) (simp (lt-leb n class_limit h))

  pub new-stop : (i n : ℕ) {b : Bool} → n ≡ class_count ws → i < n → not b ≡ new_key ws text i → b ≡ true → false ≡ new_keys ws text class_limit
  unfolding new_keys
  new-stop i n e l q t = rw (← e) (let r = all-stop n (new_key ws text) i l q (ap not t) in simp (← r, and-false))

  pub new-done : (i n : ℕ) → n ≡ class_count ws → n ≤ class_limit → i ≡ n → all_of i (new_key ws text) ≡ true → true ≡ new_keys ws text class_limit
  unfolding new_keys
  new-done i n e l q h = rw (← e) (simp (le-leb n class_limit l) (all_done n (new_key ws text) i h q))

-- ---- marks, a list at a time

module _ (first count : ℕ → ℕ) (ms : List Bool) where
  pub after_none : ms ≡ marks_after first count ms 0
  unfolding marks_after
  after_none = refl

  pub after_turn : (i : ℕ) {a b : List Bool} {f n : ℕ} → a ≡ marks_after first count ms i → f ≡ first i → n ≡ count i → b ≡ marked a f n
      → b ≡ marks_after first count ms (i + 1)
  unfolding marks_after
  after_turn i e f g h = rw add-one cc

  -- lists that were free are marked
  after-each : (i : ℕ) → all_of i (free_after first count ms) ≡ true → (j k : ℕ) → j < i → k < count j
      → get_or (marks_after first count ms i) (first j + k) false ≡ true
  unfolding marks_after free_after all_of
  after-each zero h j k l m = absurd (not-suc-le-zero l)
  after-each (suc i) h j k l m =
      let p = and_both (all_of i (free_after first count ms)) (free_after first count ms i) h in
      ⊎_elim
      (λ (q : j ≡ i).
      let r = free-is (marks_after first count ms i) (first i) (count i) p.1 in
      rw q (marked-each (marks_after first count ms i) (first i) (count i) k r.0 (rw q at m)))
      (λ n.
      marked-keeps (marks_after first count ms i) (first i) (count i) (first j + k) (after-each i p.0 j k n m))
      (eq-or-lt_of_le (le_of_suc-le-suc l))

  -- a free list is apart from each before it: an element of both would be marked
  after-apart : (i : ℕ) → all_of i (free_after first count ms) ≡ true → free_after first count ms i ≡ true → (j : ℕ) → j < i
      → apart (first j) (count j) (first i) (count i) ≡ true
  unfolding free_after
  after-apart i h t j l =
      apart_if (first j) (count j) (first i) (count i)
      (λ x a b c d.
      let one = after-each i h j (x - first j) l (omega arith) in
      let none = (free-is (marks_after first count ms i) (first i) (count i) t).1 (x - first i) (omega arith) in
      let e : first j + (x - first j) ≡ first i + (x - first i) = omega arith in
      false≢true (sym none ∙ ap (λ (y : ℕ). get_or (marks_after first count ms i) y false) (sym e) ∙ one))

-- ---- both lists of a class

module _ (ws : List ℕ) (ms fs : List Bool) where
  pub free-class : (i : ℕ) {a c : List Bool} {f n g m : ℕ} {x y : Bool}
      → a ≡ marks_after (method_start ws) (method_total ws) ms i → f ≡ method_start ws i → n ≡ method_total ws i → x ≡ free_list a f n
      → c ≡ marks_after (field_start ws) (field_total ws) fs i → g ≡ field_start ws i → m ≡ field_total ws i → y ≡ free_list c g m
      → (x && y) ≡ free_class ws ms fs i
  unfolding free_class free_after
  free-class i e p q r e' p' q' r' = rw (r, r', e, e', p, q, p', q')

  pub free-class-stop : (i n : ℕ) {b : Bool} → n ≡ class_count ws → i < n → b ≡ free_class ws ms fs i → b ≡ false → false ≡ free_lists ws ms fs
  unfolding free_lists
  free-class-stop i n e l q t = rw (← e) (all-stop n (free_class ws ms fs) i l q t)

  pub free-class-done : (i n : ℕ) → n ≡ class_count ws → i ≡ n → all_of i (free_class ws ms fs) ≡ true → true ≡ free_lists ws ms fs
  unfolding free_lists
  free-class-done i n e q h = rw (← e) (all_done n (free_class ws ms fs) i h q)

-- ---- what new keys and free lists show

-- names of different keys differ
new_apart : (ws text : List ℕ) (i : ℕ) → new_key ws text i ≡ true → (j : ℕ) → j < i
    → same_bytes (class_name ws text (j + 1)) (class_name ws text (i + 1)) ≡ false
unfolding new_key key_at
new_apart ws text i h j l =
    by (same_bytes (class_name ws text (j + 1)) (class_name ws text (i + 1)))
    (λ t.
    let e : key_at ws text j ≡ key_at ws text i = ap name_key (same-is (class_name ws text (j + 1)) (class_name ws text (i + 1)) t) in
    let d = has-not (table i (key_at ws text)) (key_at ws text i) (not-true (has_key (table i (key_at ws text)) (key_at ws text i)) h) j
    (rw (length-table i (key_at ws text)) l) in
    absurd (d (get_d_table i (key_at ws text) j l ∙ e)))
    (λ f. f)

-- the lists of class i + 1, and of each before it, are free
free-both : (ws : List ℕ) (ms fs : List Bool) → free_lists ws ms fs ≡ true → (i : ℕ) → i < class_count ws
    → (free_after (method_start ws) (method_total ws) ms i ≡ true) × (free_after (field_start ws) (field_total ws) fs i ≡ true)
unfolding free_lists free_class
free-both ws ms fs h i l =
    and_both (free_after (method_start ws) (method_total ws) ms i) (free_after (field_start ws) (field_total ws) fs i)
    (all-each (class_count ws) (free_class ws ms fs) h i l)

free-apart : (ws : List ℕ) (ms fs : List Bool) → free_lists ws ms fs ≡ true → (i j : ℕ) → i < class_count ws → j < i
    → (methods_apart ws (j + 1) (i + 1) ≡ true) × (fields_apart ws (j + 1) (i + 1) ≡ true)
unfolding methods_apart fields_apart
free-apart ws ms fs h i j l m = (
  after-apart (method_start ws) (method_total ws) ms i
      (all-if i (free_after (method_start ws) (method_total ws) ms) (λ k o. (free-both ws ms fs h k (omega arith)).0))
      (free-both ws ms fs h i l).0 j m,
  after-apart (field_start ws) (field_total ws) fs i
      (all-if i (free_after (field_start ws) (field_total ws) fs) (λ k o. (free-both ws ms fs h k (omega arith)).1))
      (free-both ws ms fs h i l).1 j m,
)

-- new keys and free lists show that all classes are apart
pub all_seen : (ws text : List ℕ) (ms fs : List Bool) (room : ℕ) {a b : Bool} → a ≡ new_keys ws text room → a ≡ true → b ≡ free_lists ws ms fs → b ≡ true
    → all_of (class_count ws) (λ i. apart_before ws text (i + 1)) ≡ true
unfolding new_keys apart_before classes_apart
all_seen ws text ms fs room k k' f f' =
    let keys = (and_both (leb (class_count ws) room) (all_of (class_count ws) (new_key ws text)) (sym k ∙ k')).1 in
    all-if (class_count ws) (λ i. apart_before ws text (i + 1))
    (λ i l.
    let d : i + 1 - 1 ≡ i = omega arith in
    rw d
    (all-if i (λ j. classes_apart ws text (j + 1) (i + 1))
    (λ j m.
    let names = new_apart ws text i (all-each (class_count ws) (new_key ws text) keys i l) j m in
    let lists = free-apart ws ms fs (sym f ∙ f') i j l m in
    rw (names, lists.0, lists.1))))
