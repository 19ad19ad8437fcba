-- What an accepted link and an ask leave in the area. Assumes nothing.
use Rattle.std.proofs.Common.{◌≡◌, ap, ◌∙◌, ◌≢◌, inl, List, [], ◌∷◌, ◌++◌, append_assoc, ℕ, suc, ◌+◌, ◌≤◌, ◌<◌, arith, length, get_or, set, take, drop, length-append, length-set, get_or-set_same, get_or-set_other, take_at, length-take-le}
use lib.ListN.{get_or-append}
use Rattle.words.proofs.Lists.{skip, part-set-other}
use Rattle.linking.proofs.Writes.{length-write, write-before, write-drop}
use Rattle.linking.specs.Vtable.{Entry, slot_words}
use Rattle.linking.specs.Link.{next_free, linked_area}
use Rattle.linking.specs.Set.{write_at}
use Rattle.linking.specs.Ask.{head_place, asked_area}
use Rattle.slots.proofs.ReadFacts.{length-words}

-- a word of those written
write_at_lem : (l : List ℕ) (k : ℕ) (xs : List ℕ) → k ≤ length l → (j : ℕ) → j < length xs → get_or (write_at l k xs) (k + j) 0 ≡ get_or xs j 0
unfolding write_at
write_at_lem l k xs h j b =
    skip (take k l) (xs ++ drop (k + length xs) l) (k + j) j 0 (omega (arith, length-take-le k l h)) ∙ get_or-append xs (drop (k + length xs) l) 0 j b

-- ---- an accepted link: "class number, slots, then a zero list head, into the part of the area from the next free word on"

module _ (area : List ℕ) (c : ℕ) (T : List Entry) (stubs : List ℕ) (some : next_free area ≢ 0) (room : next_free area + length T + 2 ≤ length area) where
  abbrev table : List ℕ
  table = c ∷ (slot_words stubs 0 T ++ (0 ∷ []))

  length-written : length table ≡ length T + 2
  length-written = omega (arith, length-append (slot_words stubs 0 T) (0 ∷ []), length-words stubs 0 T)

  pub linked-length : length (linked_area area c T stubs) ≡ length area
  unfolding linked_area
  linked-length =
      length-set (write_at area (next_free area) table) 0 (next_free area + length T + 2)
      ∙ length-write area (next_free area) table (omega (arith, length-written))

  pub linked-before : (i : ℕ) → 0 < i → i < next_free area → get_or (linked_area area c T stubs) i 0 ≡ get_or area i 0
  unfolding linked_area
  linked-before i pos h =
      get_or-set_other (write_at area (next_free area) table) 0 i (next_free area + length T + 2) 0 (omega arith)
      ∙ write-before area (next_free area) table (omega arith) i h

  -- the new table's slots
  pub linked-slots : take (length T) (drop (next_free area + 1) (linked_area area c T stubs)) ≡ slot_words stubs 0 T
  unfolding linked_area
  linked-slots =
      let ws : List ℕ = slot_words stubs 0 T in
      let rest : List ℕ = drop (next_free area + length table) area in
      part-set-other 0 (write_at area (next_free area) table) 0 (next_free area + length T + 2) (next_free area + 1) (length T) (inl (omega arith))
      ∙ ap (take (length T)) (write-drop area (next_free area) table (omega arith) 1)
      ∙ ap (take (length T)) (append_assoc ws (0 ∷ []) rest)
      ∙ take_at ws ((0 ∷ []) ++ rest) (length T) (length-words stubs 0 T)

  -- "then a zero list head", and word 0
  pub linked-head : get_or (linked_area area c T stubs) (next_free area + length T + 1) 0 ≡ 0
  unfolding linked_area
  linked-head =
      let n = length-words stubs 0 T in
      let e : next_free area + length T + 1 ≡ next_free area + suc (length T) = omega arith in
      get_or-set_other (write_at area (next_free area) table) 0 (next_free area + length T + 1) (next_free area + length T + 2) 0 (omega arith)
      ∙ rw e (write_at_lem area (next_free area) table (omega arith) (suc (length T)) (omega (arith, length-written)))
      ∙ skip (slot_words stubs 0 T) (0 ∷ []) (length T) 0 0 (omega arith)

  pub linked-free : next_free (linked_area area c T stubs) ≡ next_free area + length T + 2
  unfolding linked_area
  linked-free =
      let n = length-write area (next_free area) table (omega (arith, length-written)) in
      get_or-set_same (write_at area (next_free area) table) 0 (next_free area + length T + 2) 0 (omega arith)

-- ---- an ask that puts a node in front: "a node (old head, interface number, slots) goes in front"

module _ (ws area : List ℕ) (c i : ℕ) (T : List Entry) (stubs : List ℕ) (room : next_free area + length T + 2 ≤ length area) where
  abbrev node : List ℕ
  node = get_or area (head_place ws c) 0 ∷ i ∷ slot_words stubs 0 T

  length-node : length node ≡ length T + 2
  length-node = omega (arith, length-words stubs 0 T)

  pub asked-length : length (asked_area ws area c i T stubs) ≡ length area
  unfolding asked_area
  asked-length =
      length-set (set (write_at area (next_free area) node) (head_place ws c) (next_free area)) 0 (next_free area + length T + 2)
      ∙ length-set (write_at area (next_free area) node) (head_place ws c) (next_free area)
      ∙ length-write area (next_free area) node (omega (arith, length-node))

  pub asked-before : (j : ℕ) → 0 < j → j < next_free area → j ≢ head_place ws c → get_or (asked_area ws area c i T stubs) j 0 ≡ get_or area j 0
  unfolding asked_area
  asked-before j pos h n =
      get_or-set_other (set (write_at area (next_free area) node) (head_place ws c) (next_free area)) 0 j (next_free area + length T + 2) 0 (omega arith)
      ∙ get_or-set_other (write_at area (next_free area) node) (head_place ws c) j (next_free area) 0 n
      ∙ write-before area (next_free area) node (omega arith) j h

  -- the new node, the head that leads to it, and word 0
  module _ (some : next_free area ≢ 0) (below : head_place ws c < next_free area) where
    asked-node : (j : ℕ) → j < length T + 2 → get_or (asked_area ws area c i T stubs) (next_free area + j) 0 ≡ get_or node j 0
    unfolding asked_area
    asked-node j h =
        get_or-set_other (set (write_at area (next_free area) node) (head_place ws c) (next_free area)) 0 (next_free area + j) (next_free area + length T + 2) 0
        (omega arith)
        ∙ get_or-set_other (write_at area (next_free area) node) (head_place ws c) (next_free area + j) (next_free area) 0 (omega arith)
        ∙ write_at_lem area (next_free area) node (omega arith) j (omega (arith, length-node))

    pub asked-link : get_or (asked_area ws area c i T stubs) (next_free area) 0 ≡ get_or area (head_place ws c) 0
    asked-link = let e : next_free area + 0 ≡ next_free area = omega arith in rw e at (asked-node 0 (omega arith))

    pub asked-interface : get_or (asked_area ws area c i T stubs) (next_free area + 1) 0 ≡ i
    asked-interface = asked-node 1 (omega arith)

    pub asked-slots : take (length T) (drop (next_free area + 1 + 1) (asked_area ws area c i T stubs)) ≡ slot_words stubs 0 T
    unfolding asked_area
    asked-slots =
        let e : next_free area + 1 + 1 ≡ next_free area + 2 = omega arith in
        rw e
        (part-set-other 0 (set (write_at area (next_free area) node) (head_place ws c) (next_free area)) 0 (next_free area + length T + 2) (next_free area + 2)
        (length T) (inl (omega arith))
        ∙ part-set-other 0 (write_at area (next_free area) node) (head_place ws c) (next_free area) (next_free area + 2) (length T) (inl (omega arith))
        ∙ ap (take (length T)) (write-drop area (next_free area) node (omega arith) 2)
        ∙ take_at (slot_words stubs 0 T) (drop (next_free area + length node) area) (length T) (length-words stubs 0 T))

    pub asked-head : get_or (asked_area ws area c i T stubs) (head_place ws c) 0 ≡ next_free area
    unfolding asked_area
    asked-head =
        let n = length-write area (next_free area) node (omega (arith, length-node)) in
        get_or-set_other (set (write_at area (next_free area) node) (head_place ws c) (next_free area)) 0 (head_place ws c) (next_free area + length T + 2) 0
        (omega arith)
        ∙ get_or-set_same (write_at area (next_free area) node) (head_place ws c) (next_free area) 0 (omega arith)

    pub asked-free : next_free (asked_area ws area c i T stubs) ≡ next_free area + length T + 2
    unfolding asked_area
    asked-free =
        let n = length-write area (next_free area) node (omega (arith, length-node)) in
        let m = length-set (write_at area (next_free area) node) (head_place ws c) (next_free area) in
        get_or-set_same (set (write_at area (next_free area) node) (head_place ws c) (next_free area)) 0 (next_free area + length T + 2) 0 (omega arith)
