-- Laws of the words that are written into the table area. Assumes nothing.
use mathlib.Core.Path.{◌≡◌, refl, sym, ap, ◌∙◌}
use mathlib.Core.Bool.{Bool, true, false}
use mathlib.Core.List.{List, [], ◌∷◌, ◌++◌, append-nil}
use Prim.Native.Nat.{ℕ, zero, suc, ◌+◌, ◌-◌, ◌≤◌, ◌<◌}
use native.Mathlib.Omega.{arith}
use lib.ListN.{length, get_or, set, take, drop, length-drop, length-set, drop_of_length-le}
use lib.Seq.{take_all, drop-drop}
use lib.Dec.{ltb}
use borrow.Author.Tests.{lt-ltb, le-ltb, ltb-true, ltb-false}
use Rattle.words.specs.Lists.{list_from}
use Rattle.words.proofs.Bools.{by, or-neither}
use Rattle.words.proofs.ListLaws.{length-list-from}
use Rattle.words.proofs.Ext.{list-more}
use Rattle.words.specs.Folds.{stores}
use Rattle.linking.proofs.Writes.{write-none, write-more, write-set, write-next}
use Rattle.linking.proofs.Rows.{Fits, fits}
use Rattle.linking.specs.Vtable.{slot_word, slot_words}
use Rattle.linking.specs.Link.{next_free, no_room, linked_area}
use Rattle.linking.specs.Set.{write_at}
use Rattle.linking.specs.Ask.{head_place, asked_area}
use Rattle.reading.specs.Arrays.{entry_at, entries_of}
use Rattle.reading.proofs.ArrayLaws.{length-entries}
use Rattle.area.specs.Area.{slots_of, table_words, node_words, may_not_write, table_written, node_written}

-- ---- room

-- what is left after a place is too little, as a sum
pub left-short : (l k n : ℕ) → ltb l (k + (n + 2)) ≡ ltb (l - k) (n + 2)
left-short l k n =
    by (ltb l (k + (n + 2)))
    (λ t. let h = ltb-true l (k + (n + 2)) t in t ∙ sym (lt-ltb (l - k) (n + 2) (omega arith)))
    (λ f. let h = ltb-false l (k + (n + 2)) f in f ∙ sym (le-ltb (l - k) (n + 2) (omega arith)))

pub few_stubs : (area stubs : List ℕ) (n : ℕ) → length stubs < n → ltb (length stubs) n ≡ no_room area stubs n
unfolding no_room
few_stubs area stubs n h = rw (lt-ltb (length stubs) n h)

pub few_words : (area stubs : List ℕ) (n : ℕ) {w : ℕ} → n ≤ length stubs → w ≡ next_free area → ltb (length area) (w + (n + 2)) ≡ no_room area stubs n
unfolding no_room
few_words area stubs n h e = rw (e, left-short (length area) (next_free area) n, le-ltb (length stubs) n h)

pub may_write : (area stubs : List ℕ) (n : ℕ) → may_not_write area stubs n ≡ false → (Fits area stubs n) × (length area ≤ 4294967295)
unfolding may_not_write
may_write area stubs n e =
    let p = or-neither (no_room area stubs n) (ltb 4294967295 (length area)) e in
    (fits area stubs n p.0, ltb-false 4294967295 (length area) p.1)

-- ---- the slots, word by word

length-slots : (ts stubs : List ℕ) (n : ℕ) → length (slots_of ts stubs n) ≡ n
unfolding slots_of
length-slots ts stubs n = length-list-from (λ i. slot_word (get_or ts i 0) (get_or stubs i 0)) 0 n

-- stores at the front of a list are words laid over it
stores_from : (f : ℕ → ℕ) (n : ℕ) (l : List ℕ) → n ≤ length l → stores n f l ≡ write_at l 0 (list_from f 0 n)
unfolding stores list_from
stores_from f zero l h = sym (write-none l 0)
stores_from f (suc n) l h =
    let g : length (list_from f 0 n) ≡ n = length-list-from f 0 n in
    let one : suc n ≡ n + 1 = omega arith in
    let m : list_from f 0 (suc n) ≡ list_from f 0 n ++ (f n ∷ []) = ap (list_from f 0) one ∙ list-more f n in
    rw (stores_from f n l (omega arith), m) (write-next l 0 (list_from f 0 n) n (f n) h (omega arith))

pub slots-stored : (l ts stubs : List ℕ) (n : ℕ) {m : List ℕ} → n ≤ length l
    → m ≡ stores n (λ i. slot_word (get_or ts i 0) (get_or stubs i 0)) l → m ≡ write_at l 0 (slots_of ts stubs n)
unfolding slots_of
slots-stored l ts stubs n h e = e ∙ stores_from (λ i. slot_word (get_or ts i 0) (get_or stubs i 0)) n l h

-- what a callee that was lent the part from k on wrote, in the whole
pub written-part : (l xs ys : List ℕ) (k : ℕ) → k ≤ length l → ys ≡ write_at (take (length l - k) (drop k l)) 0 xs
    → take k l ++ (ys ++ drop (length l - k) (drop k l)) ≡ write_at l k xs
unfolding write_at
written-part l xs ys k h e =
    let a : take (length l - k) (drop k l) ≡ drop k l = take_all (length l - k) (drop k l) (rw length-drop (omega arith)) in
    let b : drop (length l - k) (drop k l) ≡ [] = drop_of_length-le (drop k l) {i = length l - k} (rw length-drop (omega arith)) in
    let z : 0 + length xs ≡ length xs = omega arith in
    let f : ys ≡ xs ++ drop (length xs) (drop k l) = e ∙ rw (a, z) in
    rw (b, f, append-nil, drop-drop (length xs) k l)

-- ---- a part of the area that is filled

module _ (l ts stubs : List ℕ) (n : ℕ) (h : n + 2 ≤ length l) where
  pub table_filled : (c : ℕ) {l₁ ys l₃ : List ℕ} → l₁ ≡ set l 0 c → ys ≡ write_at (take (length l₁ - 1) (drop 1 l₁)) 0 (slots_of ts stubs n)
      → l₃ ≡ set (take 1 l₁ ++ (ys ++ drop (length l₁ - 1) (drop 1 l₁))) (n + 1) 0 → l₃ ≡ write_at l 0 (table_words c ts stubs n)
  unfolding table_words
  table_filled c {l₁ = l₁} {ys = ys} p q r =
      let s = length-slots ts stubs n in
      let k : length l₁ ≡ length l = rw p (length-set l 0 c) in
      let g = written-part l₁ (slots_of ts stubs n) ys 1 (omega arith) q in
      let a : set l 0 c ≡ write_at l 0 (c ∷ []) = write-set l 0 c (omega arith) in
      let b : write_at (write_at l 0 (c ∷ [])) 1 (slots_of ts stubs n) ≡ write_at l 0 (c ∷ slots_of ts stubs n) =
      write-more l 0 (c ∷ []) (slots_of ts stubs n) 1 (omega arith) refl in
      r ∙ rw (g, p, a, b) (write-next l 0 (c ∷ slots_of ts stubs n) (n + 1) 0 (omega arith) (omega arith))

  pub node_filled : (old i : ℕ) {l₁ l₂ ys : List ℕ} → l₁ ≡ set l 0 old → l₂ ≡ set l₁ 1 i
      → ys ≡ write_at (take (length l₂ - 2) (drop 2 l₂)) 0 (slots_of ts stubs n)
      → take 2 l₂ ++ (ys ++ drop (length l₂ - 2) (drop 2 l₂)) ≡ write_at l 0 (node_words old i ts stubs n)
  unfolding node_words
  node_filled old i {l₂ = l₂} {ys = ys} p q r =
      let k : length l₂ ≡ length l = rw (q, p) (length-set (set l 0 old) 1 i ∙ length-set l 0 old) in
      let g = written-part l₂ (slots_of ts stubs n) ys 2 (omega arith) r in
      let a : set l 0 old ≡ write_at l 0 (old ∷ []) = write-set l 0 old (omega arith) in
      let b : set (write_at l 0 (old ∷ [])) 1 i ≡ write_at l 0 (old ∷ i ∷ []) = write-next l 0 (old ∷ []) 1 i (omega arith) refl in
      g ∙ rw (q, p, a, b) (write-more l 0 (old ∷ i ∷ []) (slots_of ts stubs n) 2 (omega arith) refl)

-- ---- the area, as the code leaves it

-- where the code may write, n slots and two words fit after the next free word, and a place fits into a word
pub next_fits : (area stubs : List ℕ) (n : ℕ) {b : Bool} {k : ℕ} → b ≡ may_not_write area stubs n → b ≡ false → k ≡ next_free area
    → (k + n + 2 ≤ length area) × (length area ≤ 4294967295)
next_fits area stubs n test f e = let p = may_write area stubs n (sym test ∙ f) in (omega (arith, p.0.free), p.1)

module _ (area ts stubs : List ℕ) (n : ℕ) {b : Bool} (test : b ≡ may_not_write area stubs n) where
  pub table_not : (c : ℕ) → b ≡ true → area ≡ table_written area c ts n stubs
  unfolding table_written
  table_not c t = rw (← test, t)

  pub node_not : (head i : ℕ) → b ≡ true → area ≡ node_written area head i ts n stubs
  unfolding node_written
  node_not head i t = rw (← test, t)

  -- as the code reads it: the next free word k
  module _ {k : ℕ} (free : k ≡ next_free area) (f : b ≡ false) where
    start : k ≤ length area
    start = omega (arith, (next_fits area stubs n test f free).0)

    pub table_put : (c : ℕ) {ys l₂ : List ℕ} → ys ≡ write_at (take (length area - k) (drop k area)) 0 (table_words c ts stubs n)
        → l₂ ≡ set (take k area ++ (ys ++ drop (length area - k) (drop k area))) 0 (k + n + 2) → l₂ ≡ table_written area c ts n stubs
    unfolding table_written
    table_put c {ys = ys} p q =
        let g = written-part area (table_words c ts stubs n) ys k start p in
        q ∙ rw (g, ← test, f, free)

    pub node_put : (head i : ℕ) {old : ℕ} {ys l₂ l₃ : List ℕ} → old ≡ get_or area head 0
        → ys ≡ write_at (take (length area - k) (drop k area)) 0 (node_words old i ts stubs n)
        → l₂ ≡ set (take k area ++ (ys ++ drop (length area - k) (drop k area))) head k → l₃ ≡ set l₂ 0 (k + n + 2)
        → l₃ ≡ node_written area head i ts n stubs
    unfolding node_written
    node_put head i {old = old} {ys = ys} o p q r =
        let g = written-part area (node_words old i ts stubs n) ys k start p in
        r ∙ rw (q, g, ← test, f, o, free)

-- ---- what the definitions of link and ask say of it

slot-words-from : (ts ms stubs : List ℕ) (m n : ℕ)
    → slot_words stubs m (list_from (entry_at ts ms) m n) ≡ list_from (λ i. slot_word (get_or ts i 0) (get_or stubs i 0)) m n
unfolding slot_words list_from entry_at
slot-words-from ts ms stubs m zero = refl
slot-words-from ts ms stubs m (suc n) = rw (slot-words-from ts ms stubs (m + 1) n)

pub slot-words : (ts ms stubs : List ℕ) (n : ℕ) → slot_words stubs 0 (entries_of ts ms n) ≡ slots_of ts stubs n
unfolding entries_of slots_of
slot-words ts ms stubs n = slot-words-from ts ms stubs 0 n

module _ (area ts ms stubs : List ℕ) (n : ℕ) (room : no_room area stubs n ≡ false) (short : length area ≤ 4294967295) where
  writes : may_not_write area stubs n ≡ false
  unfolding may_not_write
  writes = rw (room, le-ltb 4294967295 (length area) short)

  -- a table of these entries is written as `link` says
  pub table-linked : (c : ℕ) → table_written area c ts n stubs ≡ linked_area area c (entries_of ts ms n) stubs
  unfolding table_written linked_area table_words
  table-linked c = rw (writes, slot-words ts ms stubs n, length-entries ts ms n)

  -- and a node as `interface_dispatch_table` says
  pub node-asked : (ws : List ℕ) (c head i : ℕ) → head ≡ head_place ws c
      → node_written area head i ts n stubs ≡ asked_area ws area c i (entries_of ts ms n) stubs
  unfolding node_written asked_area node_words
  node-asked ws c head i e = rw (e, writes, slot-words ts ms stubs n, length-entries ts ms n)
