-- Laws of the lines of a class's slots, slot by slot as the code puts them. Assumes nothing.
use mathlib.Core.Path.{◌≡◌, sym, ap, ◌∙◌}
use mathlib.Core.Bool.{Bool, false, ◌||◌}
use mathlib.Core.List.{List, [], ◌∷◌, ◌++◌}
use Prim.Native.Nat.{ℕ, ◌+◌, ◌≤◌, ◌<◌, min}
use native.Mathlib.Omega.{arith}
use native.Mathlib.Numerals.{add-one}
use lib.ListN.{length, get_or, take, drop, drop_of_length-le}
use lib.Seq.{get_or-take, drop-cons}
use lib.Dec.{ltb}
use borrow.Author.Tests.{ltb-false}
use Rattle.words.proofs.Bools.{or-neither}
use Rattle.words.specs.Lists.{list_from}
use Rattle.words.proofs.ListLaws.{length-list-from, get_d_list_from}
use Rattle.class_sheet.specs.ClassSheet.{class_count, text_length, class_table_place, class_slot_count, class_limit, text_limit}
use Rattle.abi_sheet.specs.AbiSheet.{abi_text_length, abi_text_limit}
use Rattle.linking.specs.Signature.{Same}
use Rattle.linking.specs.Vtable.{Entry, empty, read_entry, read_slot, table_entries}
use Rattle.linking.specs.Link.{no_class}
use Rattle.linking.specs.Whose.{declaring_class, read_declared, slot_class}
use Rattle.lines.specs.Lines.{entry_line, slot_text, slot_texts, is_unlisted}

module _ (same : Same) (ws text abi labels : List ℕ) (c : ℕ) where
  -- the lines that are left at turn i of a table's slots
  unfoldable pub slots_from : List Entry → ℕ → List ℕ
  slots_from T i = slot_texts same ws text abi labels c i (drop i T)

  module _ (area : List ℕ) (T : List Entry) (cs : List ℕ) (n : ℕ) (count : length T ≡ n) (table : T ≡ table_entries same ws text abi labels area c)
      (classes : take n cs ≡ list_from (slot_class same ws text abi labels area c) 0 n) where
    pub slots-start : slot_texts same ws text abi labels c 0 (table_entries same ws text abi labels area c) ≡ slots_from T 0
    unfolding slots_from
    slots-start = rw (← table)

    -- slot i holds the area's word
    slot-word : (i : ℕ) → i < n → (get_or T i empty).word ≡ get_or area (class_table_place ws c + 1 + i) 0
    unfolding table_entries read_slot read_entry
    slot-word i h =
        let z : 0 + i ≡ i = omega arith in
        let slots : ℕ = min (class_slot_count ws c) 1024 in
        let l = ap length table in
        let k = length-list-from (read_slot same ws text abi labels area c) 0 slots in
        let e : get_or T i empty ≡ read_slot same ws text abi labels area c (0 + i) =
        ap (λ (U : List Entry). get_or U i empty) table ∙ get_d_list_from (read_slot same ws text abi labels area c) 0 slots i empty (omega arith) in
        rw z at (ap (λ (x : Entry). x.word) e)

    -- and its class is the one that declares what Reading finds there
    slot-class : (i : ℕ) → i < n → get_or cs i 0 ≡ declaring_class (read_declared same ws text abi labels c i (get_or T i empty).word)
    unfolding slot_class
    slot-class i h =
        let z : 0 + i ≡ i = omega arith in
        let e = get_d_list_from (slot_class same ws text abi labels area c) 0 n i 0 h in
        sym (get_or-take n cs i 0 h) ∙ ap (λ (l : List ℕ). get_or l i 0) classes ∙ e ∙ rw (z, slot-word i h)

    -- the line of slot i, and then those that are left
    pub slots-turn : (i : ℕ) → i < n
        → slots_from T i ≡ entry_line ws text abi labels c i (get_or T i empty) (get_or cs i 0) ++ slots_from T (i + 1)
    unfolding slots_from slot_texts slot_text
    slots-turn i h =
        let e : drop i T ≡ get_or T i empty ∷ drop (i + 1) T = rw (add-one i) (drop-cons T i empty (omega (arith, count))) in rw (e, slot-class i h)

  pub slots-end : (T : List Entry) (i : ℕ) → length T ≤ i → slots_from T i ≡ []
  unfolding slots_from slot_texts
  slots-end T i h = rw (drop_of_length-le T {i = i} h)

-- a class that is listed has texts within their limits
pub texts-short : (ws abi : List ℕ) (c : ℕ) {b : Bool} → b ≡ is_unlisted ws abi c → b ≡ false
    → (text_length ws ≤ text_limit) × (abi_text_length abi ≤ abi_text_limit)
unfolding is_unlisted
texts-short ws abi c e f =
    let q = or-neither (no_class ws c || ltb class_limit (class_count ws) || ltb text_limit (text_length ws))
    (ltb abi_text_limit (abi_text_length abi)) (sym e ∙ f) in
    let r = or-neither (no_class ws c || ltb class_limit (class_count ws)) (ltb text_limit (text_length ws)) q.0 in
    (ltb-false _ _ r.1, ltb-false _ _ q.1)
