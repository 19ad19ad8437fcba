-- Laws of the marks that a class's own ABI entry gives, one slot record after the other: a slot is marked once a record with its index was
-- met, and for one whose index no record has the entry finds nothing. Assumes nothing.
use mathlib.Core.Path.{◌≡◌, refl, sym, ap, ◌∙◌}
use mathlib.Core.Bool.{Bool, true, false, cond, ◌||◌, true≢false}
use mathlib.Core.Logic.{◌≢◌}
use mathlib.Core.List.{List}
use Prim.Native.Nat.{ℕ, ◌+◌, ◌-◌, ◌≤◌, ◌<◌}
use native.Mathlib.Omega.{arith}
use lib.ListN.{length, get_or, set, length-set}
use lib.Seq.{ext_get_or, get_or-set_same, get_or-set_other}
use lib.Dec.{eqb}
use borrow.Author.Tests.{eqb-true, eqb-false}
use Rattle.std.specs.Prelude.{Option, Some, None, is_some}
use Rattle.std.proofs.lemmas.List.{set_past}
use Rattle.words.specs.Lists.{list_from, numbers, find, some}
use Rattle.words.proofs.Bools.{by}
use Rattle.words.proofs.ListLaws.{numbers-split, some-append, by-found, found-some}
use Rattle.abi_sheet.specs.AbiSheet.{abi_class_first_slot, abi_class_slot_count, abi_slot_limit}
use Rattle.linking.specs.Signature.{Same}
use Rattle.linking.specs.Chain.{list_count}
use Rattle.linking.specs.Abi.{abi_slots, slot_index, slot_at, class_abi}
use Rattle.linking.specs.Vtable.{own_fixed}
use Rattle.reading.specs.Arrays.{or_mark, marks_with, mark_of}
use Rattle.reading.proofs.MarkLaws.{mark-none, length_marks, marks_at_lem, marks_none, stores-ext}

-- marked once more by the same search
mark-again : (met : Bool) (k : ℕ) (f : Option ℕ) → or_mark (or_mark k (cond met f None)) f ≡ or_mark k f
unfolding or_mark
mark-again true k f = by (eqb k 0) (λ t. rw t (by (eqb (mark_of f) 0) (λ u. rw u) (λ u. rw u))) (λ t. rw t (rw t refl))
mark-again false k f = ap (λ m. or_mark m f) (mark-none k None refl)

module _ (index : ℕ → ℕ) (first : ℕ) where
  -- one of the n records from the first on has index i
  abbrev pub met : ℕ → ℕ → Bool
  met n i = some (λ s. eqb (index s) i) (numbers first n)

  met-more : (s i : ℕ) → first ≤ s → met (s + 1 - first) i ≡ (met (s - first) i || eqb (index s) i)
  unfolding some list_from
  met-more s i h =
      let n : s + 1 - first ≡ s - first + 1 = omega arith in
      let last : first + (s - first) ≡ s = omega arith in
      rw (n, numbers-split first (s - first) 1, some-append (λ s. eqb (index s) i) (numbers first (s - first)) (numbers (first + (s - first)) 1), last)
      (by (eqb (index s) i) (λ t. rw t) (λ t. rw t))

  met-here : (s i : ℕ) → first ≤ s → eqb (index s) i ≡ true → met (s + 1 - first) i ≡ true
  met-here s i h t = met-more s i h ∙ rw t (by (met (s - first) i) (λ u. rw u) (λ u. rw u))

  met-other : (s i : ℕ) → first ≤ s → eqb (index s) i ≡ false → met (s + 1 - first) i ≡ met (s - first) i
  met-other s i h f = met-more s i h ∙ rw f (by (met (s - first) i) (λ u. rw u) (λ u. rw u))

  module _ (own : ℕ → Option ℕ) where
    -- what is found at index i, if one of them has it
    abbrev pub fixed_by : ℕ → ℕ → Option ℕ
    fixed_by n i = cond (met n i) (own i) None

    pub fixed-start : (n : ℕ) (ms : List ℕ) → ms ≡ marks_with (fixed_by (first - first)) n ms
    unfolding some list_from
    fixed-start n ms = let z : first - first ≡ 0 = omega arith in rw z (marks_none (λ i. None) n ms (λ i. refl))

    -- a record's turn
    module _ (s : ℕ) (ms : List ℕ) {ns : List ℕ} {i : ℕ} (from : first ≤ s) (marks : ns ≡ marks_with (fixed_by (s - first)) (length ms) ms)
        (at : i ≡ index s) where
      length-now : length ns ≡ length ms
      length-now = rw marks (length_marks (fixed_by (s - first)) (length ms) ms)

      slot-now : (q : ℕ) → q < length ms → get_or ns q 0 ≡ or_mark (get_or ms q 0) (fixed_by (s - first) q)
      slot-now q h = rw marks (marks_at_lem (fixed_by (s - first)) (length ms) ms q h (omega arith))

      slot-next : (q : ℕ) → q < length ms
          → get_or (set ns i (or_mark (get_or ns i 0) (own i))) q 0 ≡ or_mark (get_or ms q 0) (fixed_by (s + 1 - first) q)
      slot-next q h =
          let l = length-now in
          let v : ℕ = or_mark (get_or ns i 0) (own i) in
          by (eqb (index s) q)
          (λ t.
          let e : i ≡ q = at ∙ eqb-true (index s) q t in
          rw (e, met-here s q from t)
          (get_or-set_same ns q (or_mark (get_or ns q 0) (own q)) 0 (omega arith)
          ∙ rw (slot-now q h) (mark-again (met (s - first) q) (get_or ms q 0) (own q))))
          (λ f.
          let n : q ≢ i = λ (z : q ≡ i). eqb-false (index s) q f (sym at ∙ sym z) in
          rw (met-other s q from f) (get_or-set_other ns i q v 0 n ∙ slot-now q h))

      pub fixed-turn : {us : List ℕ} {v : ℕ} → v ≡ or_mark (get_or ns i 0) (own i) → us ≡ set ns i v
          → us ≡ marks_with (fixed_by (s + 1 - first)) (length ms) ms
      fixed-turn {us = us} {v = v} w u =
          let l : length us ≡ length ms = rw u (length-set ns i v ∙ length-now) in
          let m = length_marks (fixed_by (s + 1 - first)) (length ms) ms in
          ext_get_or 0 us (marks_with (fixed_by (s + 1 - first)) (length ms) ms) (omega arith)
          (λ q r.
          let here : q < length ms = omega arith in
          rw (u, w) (slot-next q here) ∙ sym (marks_at_lem (fixed_by (s + 1 - first)) (length ms) ms q here (omega arith)))

      pub fixed-past : length ns ≤ i → ns ≡ marks_with (fixed_by (s + 1 - first)) (length ms) ms
      fixed-past h = fixed-turn {v = or_mark (get_or ns i 0) (own i)} refl (sym (set_past ns i (or_mark (get_or ns i 0) (own i)) h))

    -- after all records
    pub fixed-end : (n : ℕ) (ms : List ℕ) {ns : List ℕ} {s : ℕ} → s ≡ first + n → ns ≡ marks_with (fixed_by (s - first)) (length ms) ms
        → ((i : ℕ) → met n i ≡ false → own i ≡ None) → ns ≡ marks_with own (length ms) ms
    unfolding marks_with
    fixed-end n ms {s = s} e m h =
        let z : s - first ≡ n = omega arith in
        rw z at m
        ∙ stores-ext (length ms) (λ i. or_mark (get_or ms i 0) (fixed_by n i)) (λ i. or_mark (get_or ms i 0) (own i)) ms
        (λ i l. by (met n i) (λ t. rw t) (λ f. rw (f, h i f)))

-- an index that no record of the class's entry has
pub fixed-unmet : (same : Same) (ws text abi labels : List ℕ) (c i : ℕ) {a first n : ℕ} → Some a ≡ class_abi ws text abi labels c
    → first ≡ abi_class_first_slot abi a → n ≡ list_count (abi_class_first_slot abi a) (abi_class_slot_count abi a) abi_slot_limit
    → met (slot_index abi) first n i ≡ false → own_fixed same ws text abi labels i c ≡ None
unfolding own_fixed slot_at abi_slots
fixed-unmet same ws text abi labels c i {first = first} {n = n} e f m u =
    let p : ℕ → Bool = λ s. eqb (slot_index abi s) i in
    rw (← e, ← m, ← f)
    (by-found (find p (numbers first n))
    (λ s q. absurd (true≢false (sym (ap is_some q) ∙ found-some p (numbers first n) refl refl ∙ u)))
    (λ q. rw q))
