-- Laws of the marks that Reading gives, slot after slot and class after class. Assumes nothing.
use mathlib.Core.Path.{◌≡◌, refl, sym, ◌∙◌}
use mathlib.Core.Bool.{Bool, true, cond}
use mathlib.Core.List.{List, ◌++◌}
use Prim.Native.Nat.{ℕ, zero, suc, ◌+◌, ◌-◌, ◌*◌, ◌%◌, ◌≤◌, ◌<◌}
use native.Mathlib.Omega.{arith}
use lib.ListN.{length, get_or, set, drop, get_or-append}
use lib.Seq.{get_or-set_other, set-get_or, drop_at}
use lib.Dec.{eqb, ltb}
use borrow.Author.Tests.{ne_eqb, lt-ltb, eqb-true}
use Rattle.words.specs.Folds.{table, stores}
use Rattle.words.specs.Lists.{list_from, numbers, find, first_found}
use Rattle.std.specs.Option.{option_or}
use Rattle.std.specs.Prelude.{Option, Some, None}
use Rattle.words.proofs.FoldLaws.{length-table, stores-turn, stores-is, length-stores, stores_at}
use Rattle.words.proofs.ListLaws.{find-within}
use Rattle.words.proofs.Bools.{by}
use Rattle.class_sheet.specs.ClassSheet.{member_width, target_word, class_first_method, class_method_count, method_limit}
use Rattle.linking.specs.Signature.{Same}
use Rattle.linking.specs.Chain.{list_count, parent_of, chain, own_target, find_by_target}
use Rattle.linking.specs.Vtable.{own_fixed, find_by_index, read_entry}
use Rattle.chain.specs.Records.{method_records, record_word, first_target}
use Rattle.linking.proofs.ChainLaws.{chain_more, along-none, own-target-room, target_room, own-fixed-room}
use Rattle.chain.proofs.RecordLaws.{record_target}
use Rattle.reading.specs.Arrays.{mark_of, copy_mark, copy_marks, or_mark, marks_with, entry_at, entries_of, slot_read}
use Rattle.reading.proofs.ArrayLaws.{copy-method, copy-source}
use Rattle.reading.proofs.ReadLaws.{read_back}

-- ---- stores

pub stores-rest : (n : ℕ) (f : ℕ → ℕ) (d : List ℕ) (j : ℕ) → n ≤ j → get_or (stores n f d) j 0 ≡ get_or d j 0
unfolding stores
stores-rest zero f d j h = refl
stores-rest (suc n) f d j h =
    get_or-set_other (stores n f d) n j (f n) 0 (λ (e : j ≡ n). absurd (omega arith)) ∙ stores-rest n f d j (omega arith)

pub stores-ext : (n : ℕ) (f g : ℕ → ℕ) (d : List ℕ) → ((i : ℕ) → i < n → f i ≡ g i) → stores n f d ≡ stores n g d
unfolding stores
stores-ext zero f g d h = refl
stores-ext (suc n) f g d h = rw (stores-ext n f g d (λ i l. h i (omega arith)), h n (omega arith))

-- what lies past the stores stays
pub stores-past : (n : ℕ) (f : ℕ → ℕ) (d : List ℕ) → n ≤ length d → drop n (stores n f d) ≡ drop n d
stores-past n f d h = rw (stores-is n f d h) (drop_at (table n f) (drop n d) n (length-table n f))

-- what is stored twice
pub stores-twice : (n : ℕ) (f g : ℕ → ℕ) (d : List ℕ) → n ≤ length d → stores n g (stores n f d) ≡ stores n g d
stores-twice n f g d h =
    let l = length-stores n f d in
    stores-is n g (stores n f d) (omega arith) ∙ rw (stores-past n f d h) (sym (stores-is n g d h))

-- what is there already
pub stores_same : (n : ℕ) (f : ℕ → ℕ) (d : List ℕ) → ((i : ℕ) → f i ≡ get_or d i 0) → stores n f d ≡ d
unfolding stores
stores_same zero f d h = refl
stores_same (suc n) f d h = rw (stores_same n f d h, h n) (set-get_or d n 0)

-- ---- one mark

pub mark-none : (k : ℕ) (f : Option ℕ) → f ≡ None → or_mark k f ≡ k
unfolding or_mark mark_of
mark-none k f e = by (eqb k 0) (λ t. rw (e, t) (sym (eqb-true k 0 t))) (λ t. rw t)

-- a search after another
mark-after : (a b : Option ℕ) → ((m : ℕ) → a ≡ Some m → m < method_limit) → cond (eqb (mark_of a) 0) (mark_of b) (mark_of a) ≡ mark_of (option_or a b)
unfolding mark_of
mark-after (Some m) b h =
    let r = h m refl in
    let l : ltb m 4095 ≡ true = lt-ltb m 4095 (omega arith) in
    let n : (m + 1 ≡ 0 → ⊥) = λ (e : m + 1 ≡ 0). absurd (omega arith) in
    rw (l, ne_eqb (m + 1) 0 n)
mark-after None b h = refl

mark-then : (k : ℕ) (a b : Option ℕ) → ((m : ℕ) → a ≡ Some m → m < method_limit) → or_mark (or_mark k a) b ≡ or_mark k (option_or a b)
unfolding or_mark
mark-then k a b h = by (eqb k 0) (λ t. rw t (mark-after a b h)) (λ t. rw t (rw t refl))

-- ---- n marks

module _ (f : ℕ → Option ℕ) (n : ℕ) (ms : List ℕ) where
  pub length_marks : length (marks_with f n ms) ≡ length ms
  unfolding marks_with
  length_marks = length-stores n (λ i. or_mark (get_or ms i 0) (f i)) ms

  pub marks_at_lem : (i : ℕ) → i < n → n ≤ length ms → get_or (marks_with f n ms) i 0 ≡ or_mark (get_or ms i 0) (f i)
  unfolding marks_with
  marks_at_lem i h g = stores_at n (λ j. or_mark (get_or ms j 0) (f j)) ms i h g

  marks_past : n ≤ length ms → drop n (marks_with f n ms) ≡ drop n ms
  unfolding marks_with
  marks_past h = stores-past n (λ i. or_mark (get_or ms i 0) (f i)) ms h

  -- where nothing is found
  pub marks_none : ((i : ℕ) → f i ≡ None) → ms ≡ marks_with f n ms
  unfolding marks_with
  marks_none h = sym (stores_same n (λ i. or_mark (get_or ms i 0) (f i)) ms (λ i. mark-none (get_or ms i 0) (f i) (h i)))

  -- by one search and then another
  marks_then : (g h : ℕ → Option ℕ) → n ≤ length ms → ((i k : ℕ) → or_mark (or_mark k (f i)) (g i) ≡ or_mark k (h i))
      → marks_with g n (marks_with f n ms) ≡ marks_with h n ms
  unfolding marks_with
  marks_then g h l e =
      let v : ℕ → ℕ = λ i. or_mark (get_or ms i 0) (f i) in
      stores-ext n (λ i. or_mark (get_or (stores n v ms) i 0) (g i)) (λ i. or_mark (get_or ms i 0) (h i)) (stores n v ms)
      (λ i j. rw (stores_at n v ms i j l) (e i (get_or ms i 0)))
      ∙ stores-twice n v (λ i. or_mark (get_or ms i 0) (h i)) ms l

-- a turn of the loop that marks
pub marks_start : (f : ℕ → Option ℕ) (ms : List ℕ) → ms ≡ marks_with f 0 ms
unfolding marks_with stores
marks_start f ms = refl

pub marks_turn : (f : ℕ → Option ℕ) (i : ℕ) (ms : List ℕ) {ns us : List ℕ} {p q k v : ℕ} → ns ≡ marks_with f i ms → p ≡ i → k ≡ get_or ns p 0
    → v ≡ or_mark k (f i) → q ≡ i → us ≡ set ns q v → us ≡ marks_with f (i + 1) ms
unfolding marks_with
marks_turn f i ms e p k v q u =
    let d = stores-rest i (λ j. or_mark (get_or ms j 0) (f j)) ms i (omega arith) in
    stores-turn i (λ j. or_mark (get_or ms j 0) (f j)) ms (rw q at u) e (v ∙ rw (k, p, e, d))

-- ---- copies

pub sources-start : (ms : List ℕ) → ms ≡ copy_marks 0 ms
unfolding copy_marks stores
sources-start ms = refl

pub sources-turn : (i : ℕ) (ms : List ℕ) {ns us : List ℕ} {p q k : ℕ} → ns ≡ copy_marks i ms → p ≡ i → k ≡ get_or ns p 0 → q ≡ i
    → us ≡ set ns q (k % 4096 + 4096 * (i + 1)) → us ≡ copy_marks (i + 1) ms
unfolding copy_marks copy_mark
sources-turn i ms e p k q u =
    let f : ℕ → ℕ = λ j. copy_mark j (get_or ms j 0) in
    let d = stores-rest i f ms i (omega arith) in
    stores-turn i f ms (rw q at u) e (rw (k, p, e, d))

-- ---- by target, along the chain

-- one number more to look through
find-more : (p : ℕ → Bool) (m n : ℕ) → find p (numbers m (n + 1)) ≡ option_or (find p (numbers m n)) (cond (p (m + n)) (Some (m + n)) None)
unfolding find list_from
find-more p m zero = let e : m + 0 ≡ m = omega arith in rw e
find-more p m (suc n) =
    let e : m + 1 + n ≡ m + suc n = omega arith in
    let g : suc n + 1 ≡ suc (n + 1) = omega arith in
    let d = rw e at (find-more p (m + 1) n) in
    rw g (by (p m) (λ t. rw t) (λ f. rw f d))

-- the methods of a list, one after the other
module _ (records ts : List ℕ) (first : ℕ) where
  abbrev pub first_of : ℕ → ℕ → Option ℕ
  first_of j i = find (λ m. eqb (record_word records member_width m target_word) (get_or ts i 0)) (numbers first j)

module _ (records ts : List ℕ) (first n : ℕ) (ms : List ℕ) where
  turn : (j : ℕ) {ns us : List ℕ} {w : ℕ} → ns ≡ marks_with (first_of records ts first j) n ms → w ≡ record_word records member_width (first + j) target_word
      → us ≡ marks_with (λ i. cond (eqb w (get_or ts i 0)) (Some (first + j)) None) n ns → first + j < method_limit → n ≤ length ms
      → us ≡ marks_with (first_of records ts first (j + 1)) n ms
  turn j {w = w} e f u h l =
      u ∙ rw e (marks_then (first_of records ts first j) n ms (λ i. cond (eqb w (get_or ts i 0)) (Some (first + j)) None) (first_of records ts first (j + 1)) l
      (λ i k. rw (f, find-more (λ m. eqb (record_word records member_width m target_word) (get_or ts i 0)) first j)
      (mark-then k (first_of records ts first j i)
      (cond (eqb (record_word records member_width (first + j) target_word) (get_or ts i 0)) (Some (first + j)) None)
      (λ m q. let b = find-within (λ m. eqb (record_word records member_width m target_word) (get_or ts i 0)) first j m q in omega arith))))

  pub targets-start : ms ≡ marks_with (first_of records ts first (first - first)) n ms
  unfolding find list_from
  targets-start = let z : first - first ≡ 0 = omega arith in rw z (marks_none (λ i. None) n ms (λ i. refl))

  pub targets-turn : (m : ℕ) {ns us : List ℕ} {w : ℕ} → first ≤ m → ns ≡ marks_with (first_of records ts first (m - first)) n ms
      → w ≡ record_word records member_width m target_word
      → us ≡ marks_with (λ i. cond (eqb w (get_or ts i 0)) (Some m) None) n ns → m < method_limit → n ≤ length ms
      → us ≡ marks_with (first_of records ts first (m + 1 - first)) n ms
  targets-turn m {w = w} low e f u h l =
      let here : first + (m - first) ≡ m = omega arith in
      let next : m + 1 - first ≡ m - first + 1 = omega arith in
      rw next (turn (m - first) {w = w} e (rw here f) (rw here u) (omega arith) l)

  pub targets-end : (count : ℕ) {m : ℕ} {ns : List ℕ} → ns ≡ marks_with (first_of records ts first (m - first)) n ms
      → m ≡ first + list_count first count method_limit
      → ns ≡ marks_with (λ i. first_target records first count (get_or ts i 0)) n ms
  unfolding first_target
  targets-end count {m = m} e f = let z : m - first ≡ list_count first count method_limit = omega arith in rw z at e

module _ (ws ts : List ℕ) (c n : ℕ) (ms : List ℕ) where
  pub targets-none : c ≡ 0 → ms ≡ marks_with (λ i. find_by_target ws c (get_or ts i 0)) n ms
  unfolding find_by_target
  targets-none e = marks_none (λ i. first_found (own_target ws (get_or ts i 0)) (chain ws c)) n ms (λ i. along-none (own_target ws (get_or ts i 0)) ws c e)

  target-step : (t : ℕ) → 0 < c → find_by_target ws c t ≡ option_or (own_target ws t c) (find_by_target ws (parent_of ws c) t)
  unfolding find_by_target first_found
  target-step t h = rw (chain_more ws c h)

  pub targets-all : {r ns us : List ℕ} {first count p : ℕ} → r ≡ method_records ws → first ≡ class_first_method ws c
      → count ≡ class_method_count ws c → ns ≡ marks_with (λ i. first_target r first count (get_or ts i 0)) n ms → p ≡ parent_of ws c
      → us ≡ marks_with (λ i. find_by_target ws p (get_or ts i 0)) n ns → 0 < c → n ≤ length ms
      → us ≡ marks_with (λ i. find_by_target ws c (get_or ts i 0)) n ms
  targets-all {r = r} {first = first} {count = count} {p = p} e f g s q u h l =
      u ∙ rw s (marks_then (λ i. first_target r first count (get_or ts i 0)) n ms (λ i. find_by_target ws p (get_or ts i 0))
      (λ i. find_by_target ws c (get_or ts i 0)) l (λ i k. rw (record_target ws (get_or ts i 0) c e f g, q, target-step (get_or ts i 0) h)
      (mark-then k (own_target ws (get_or ts i 0) c) (find_by_target ws (parent_of ws c) (get_or ts i 0)) (own-target-room ws (get_or ts i 0) c))))

-- ---- by index, along the chain

module _ (same : Same) (ws text abi labels : List ℕ) (c n : ℕ) (ms : List ℕ) where
  pub indices-none : c ≡ 0 → ms ≡ marks_with (find_by_index same ws text abi labels c) n ms
  unfolding find_by_index
  indices-none e =
      marks_none (λ i. first_found (own_fixed same ws text abi labels i) (chain ws c)) n ms (λ i. along-none (own_fixed same ws text abi labels i) ws c e)

  index-step : (i : ℕ) → 0 < c → find_by_index same ws text abi labels c i
      ≡ option_or (own_fixed same ws text abi labels i c) (find_by_index same ws text abi labels (parent_of ws c) i)
  unfolding find_by_index first_found
  index-step i h = rw (chain_more ws c h)

  pub indices-all : {ns us : List ℕ} {p : ℕ} → ns ≡ marks_with (λ i. own_fixed same ws text abi labels i c) n ms → p ≡ parent_of ws c
      → us ≡ marks_with (find_by_index same ws text abi labels p) n ns → 0 < c → n ≤ length ms → us ≡ marks_with (find_by_index same ws text abi labels c) n ms
  indices-all {p = p} s q u h l =
      u ∙ rw s (marks_then (λ i. own_fixed same ws text abi labels i c) n ms (find_by_index same ws text abi labels p)
      (find_by_index same ws text abi labels c) l
      (λ i k. rw (q, index-step i h)
      (mark-then k (own_fixed same ws text abi labels i c) (find_by_index same ws text abi labels (parent_of ws c) i)
      (own-fixed-room same ws text abi labels i c))))

-- ---- a table's words, `method_of` by target and then by index, are its entries

pub list-from-ext {ℓ} : {A : Type ℓ} (f g : ℕ → A) (m n : ℕ) → ((i : ℕ) → i < m + n → f i ≡ g i) → list_from f m n ≡ list_from g m n
unfolding list_from
list-from-ext f g m zero h = refl
list-from-ext f g m (suc n) h = rw (h m (omega arith), list-from-ext f g (m + 1) n (λ i l. h i (omega arith)))

-- the slots of two arrays are those of longer ones that begin with them
pub front-entries : (us os xs ys : List ℕ) (n : ℕ) → length us ≡ n → length os ≡ n → entries_of (us ++ xs) (os ++ ys) n ≡ entries_of us os n
unfolding entries_of entry_at
front-entries us os xs ys n e f =
    list-from-ext (entry_at (us ++ xs) (os ++ ys)) (entry_at us os) 0 n
    (λ i h. rw (get_or-append us xs 0 i (omega arith), get_or-append os ys 0 i (omega arith)))

module _ (same : Same) (ws text abi labels area : List ℕ) (place c n : ℕ) (ts ms : List ℕ) where
  module _ {us ns ks ls os : List ℕ} (t : us ≡ stores n (λ i. get_or area (place + 1 + i) 0) ts)
      (z : ns ≡ stores n (λ i. 0) ms) (k : ks ≡ marks_with (λ i. find_by_target ws c (get_or us i 0)) n ns)
      (l : ls ≡ marks_with (find_by_index same ws text abi labels c) n ks) (o : os ≡ copy_marks n ls)
      (r : n ≤ length ts) (s : n ≤ length ms) where
    mark-read : (i w : ℕ) → i < n → get_or us i 0 ≡ w → get_or ls i 0 ≡ mark_of (read_entry same ws text abi labels c i w).method
    unfolding read_entry or_mark
    mark-read i w h e =
        let x : length ns ≡ length ms = rw z (length-stores n (λ i. 0) ms) in
        let y : length ks ≡ length ns = rw k (length_marks (λ i. find_by_target ws c (get_or us i 0)) n ns) in
        let a : get_or ns i 0 ≡ 0 = rw z (stores_at n (λ i. 0) ms i h s) in
        let p : get_or ks i 0 ≡ or_mark (get_or ns i 0) (find_by_target ws c (get_or us i 0)) =
        rw k (marks_at_lem (λ i. find_by_target ws c (get_or us i 0)) n ns i h (omega arith)) in
        let b : get_or ks i 0 ≡ or_mark 0 (find_by_target ws c w) = p ∙ rw (a, e) in
        let d : get_or ls i 0 ≡ or_mark (get_or ks i 0) (find_by_index same ws text abi labels c i) =
        rw l (marks_at_lem (find_by_index same ws text abi labels c) n ks i h (omega arith)) in
        d ∙ rw b (mark-then 0 (find_by_target ws c w) (find_by_index same ws text abi labels c i) (target_room ws c w))

    length_ls : length ls ≡ length ms
    length_ls =
        let x : length ns ≡ length ms = rw z (length-stores n (λ i. 0) ms) in
        let y : length ks ≡ length ns = rw k (length_marks (λ i. find_by_target ws c (get_or us i 0)) n ns) in
        let a : length ls ≡ length ks = rw l (length_marks (find_by_index same ws text abi labels c) n ks) in
        omega arith

    slot-is-read : (i : ℕ) → i < n → entry_at us os i ≡ slot_read same ws text abi labels area place c i
    unfolding entry_at slot_read copy_marks
    slot-is-read i h =
        let w : ℕ = get_or area (place + 1 + i) 0 in
        let e : get_or us i 0 ≡ w = rw t (stores_at n (λ i. get_or area (place + 1 + i) 0) ts i h r) in
        let b = length_ls in
        let f : get_or os i 0 ≡ copy_mark i (get_or ls i 0) = rw o (stores_at n (λ i. copy_mark i (get_or ls i 0)) ls i h (omega arith)) in
        rw (f, copy-method i (get_or ls i 0), copy-source i (get_or ls i 0), mark-read i w h e, e) (read_back same ws text abi labels c i w)

    slots_are_read : entries_of us os n ≡ list_from (slot_read same ws text abi labels area place c) 0 n
    unfolding entries_of
    slots_are_read = list-from-ext (entry_at us os) (slot_read same ws text abi labels area place c) 0 n (λ i h. slot-is-read i (omega arith))

    -- past them both arrays stay
    words_stay : drop n us ≡ drop n ts
    words_stay = rw t (stores-past n (λ i. get_or area (place + 1 + i) 0) ts r)

    marks_stay : drop n os ≡ drop n ms
    unfolding copy_marks
    marks_stay =
        let x : length ns ≡ length ms = rw z (length-stores n (λ i. 0) ms) in
        let y : length ks ≡ length ns = rw k (length_marks (λ i. find_by_target ws c (get_or us i 0)) n ns) in
        let a : drop n ls ≡ drop n ks = rw l (marks_past (find_by_index same ws text abi labels c) n ks (omega arith)) in
        let b : drop n ks ≡ drop n ns = rw k (marks_past (λ i. find_by_target ws c (get_or us i 0)) n ns (omega arith)) in
        let d : drop n ns ≡ drop n ms = rw z (stores-past n (λ i. 0) ms s) in
        let q = length_ls in
        let e : drop n os ≡ drop n ls = rw o (stores-past n (λ i. copy_mark i (get_or ls i 0)) ls (omega arith)) in
        e ∙ a ∙ b ∙ d

    pub all_read : (entries_of us os n ≡ list_from (slot_read same ws text abi labels area place c) 0 n) × ((drop n us ≡ drop n ts) × (drop n os ≡ drop n ms))
    all_read = (slots_are_read, (words_stay, marks_stay))
