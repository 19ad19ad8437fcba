-- How long the lines are: 293 bytes at most of a class, and 531 of a slot. Assumes nothing.
use mathlib.Core.Path.{◌≡◌, refl}
use mathlib.Core.List.{List, [], ◌∷◌}
use Prim.Native.Nat.{ℕ, zero, suc, ◌+◌, ◌*◌, ◌/◌, ◌%◌, min, ◌≤◌, ◌<◌}
use native.Mathlib.Omega.{arith}
use lib.ListN.{length, get_or, drop, length-append, length-take}
use lib.Dec.{ltb}
use borrow.Author.Tests.{ltb-false}
use Rattle.words.specs.Lists.{list_from}
use Rattle.std.specs.Prelude.{Option, Some, None}
use Rattle.words.proofs.Bools.{by}
use Rattle.words.proofs.ListLaws.{by-found}
use Rattle.text.specs.Text.{name_at}
use Rattle.descriptor.specs.Bytes.{text}
use Rattle.class_sheet.specs.ClassSheet.{class_name, class_name_start, class_name_length, class_instance_words, class_slot_count, class_table_place, method_name_length, method_descriptor_length, text_of}
use Rattle.abi_sheet.specs.AbiSheet.{abi_slot_name_length, abi_slot_descriptor_length, abi_text_of}
use Rattle.linking.specs.Signature.{Same}
use Rattle.linking.specs.Vtable.{read_entry, read_slot, table_entries}
use Rattle.linking.specs.Whose.{declaring_class, read_declared}
use Rattle.linking.proofs.Whose.{by-declared, read-class}
use Rattle.lines.specs.Bytes.{digits, decimal}
use Rattle.lines.specs.Lines.{numbered, class_line, shown, column, slot_line, class_refused, fixed_slot, slot_name, slot_descriptor, slot_text, slot_texts, lines_of, is_unlisted, class_lines_by}

-- ---- numbers

-- the least number of k + 2 digits
abbrev pub limit : ℕ → ℕ
limit zero = 10
limit (suc k) = 10 * limit k

digits-few : (k j n : ℕ) → n < limit k → length (digits j n) ≤ suc k
unfolding digits
digits-few k zero n h = omega arith
digits-few zero (suc j) n h = by (ltb n 10) (λ t. rw t (omega arith)) (λ f. absurd (omega (arith, ltb-false n 10 f)))
digits-few (suc k) (suc j) n h =
    by (ltb n 10) (λ t. rw t (omega arith))
    (λ f. rw f (omega (arith, length-append (digits j (n / 10)) ((48 + n % 10) ∷ []), digits-few k j (n / 10) (omega arith))))

pub decimal-few : (k n : ℕ) → n < limit k → length (decimal n) ≤ suc k
unfolding decimal
decimal-few k n h = digits-few k (suc n) n h

-- ---- lines

pub name-few : (text : List ℕ) (start len : ℕ) → len ≤ 255 → length (name_at text start len) ≤ 255
unfolding name_at
name-few text start len h = omega (arith, length-take len (drop start text))

shown-few : (part : List ℕ) → length part ≤ 255 → length (shown part) ≤ 255
shown-few [] h = omega arith
shown-few (b ∷ bs) h = h

pub class-line-few : (c : ℕ) (name : List ℕ) (words slots : ℕ) → c < limit 1 → length name ≤ 255 → words < limit 9 → slots < limit 3
    → length (class_line c name words slots) ≤ 293
unfolding class_line numbered
class-line-few c name words slots h n w s =
    let d = decimal-few 1 c h in
    let e = decimal-few 9 words w in
    let f = decimal-few 3 slots s in
    simp length-append (omega arith)

pub slot-line-few : (i : ℕ) (name descriptor : List ℕ) (target class : ℕ) → i < limit 3 → length name ≤ 255 → length descriptor ≤ 255
    → target < limit 9 → class < limit 1 → length (slot_line i name descriptor target class) ≤ 531
unfolding slot_line numbered column
slot-line-few i name descriptor target class h n d t k =
    let e = decimal-few 3 i h in
    let f = decimal-few 9 target t in
    let g = decimal-few 1 class k in
    let p = shown-few name n in
    let q = shown-few descriptor d in
    simp length-append (omega arith)

pub class-refused-few : (c row : ℕ) → c < limit 1 → row < limit 9 → length (class_refused c row) ≤ 28
unfolding class_refused numbered
class-refused-few c row h k =
    let d = decimal-few 1 c h in
    let e = decimal-few 9 row k in
    simp length-append (omega arith)

-- ---- a class whose own name, and the names and descriptors that its slots show, have at most 255 bytes

module _ (same : Same) (ws text abi labels : List ℕ) (c : ℕ) where
  pub record Short : Type 0 where
    pub name : class_name_length ws c ≤ 255
    pub method : (i w m : ℕ) → (read_entry same ws text abi labels c i w).method ≡ Some m
        → (method_name_length ws m ≤ 255) × (method_descriptor_length ws m ≤ 255)
    pub slot : (i s : ℕ) → fixed_slot ws text abi labels c i ≡ Some s → (abi_slot_name_length abi s ≤ 255) × (abi_slot_descriptor_length abi s ≤ 255)

  module _ (short : Short) where
    shows-few : (i w : ℕ) (f : Option ℕ) → (read_entry same ws text abi labels c i w).method ≡ f
        → (length (slot_name ws text abi labels c i f) ≤ 255) × (length (slot_descriptor ws text abi labels c i f) ≤ 255)
    unfolding slot_name slot_descriptor
    shows-few i w (Some m) e =
        let s = short.method i w m e in
        (name-few text _ (method_name_length ws m) s.0, name-few text _ (method_descriptor_length ws m) s.1)
    shows-few i w None e =
        by-found (fixed_slot ws text abi labels c i)
        (λ s f.
        let p = short.slot i s f in
        rw f (name-few labels _ (abi_slot_name_length abi s) p.0, name-few labels _ (abi_slot_descriptor_length abi s) p.1))
        (λ f. rw f (omega arith, omega arith))

    -- the declaring class is on the chain of a class of at most two digits
    class-few : (i w : ℕ) → c < limit 1 → declaring_class (read_declared same ws text abi labels c i w) < limit 1
    class-few i w h =
        by-declared (read_declared same ws text abi labels c i w)
        (λ d m e. let l = read-class same ws text abi labels c i w d m e in rw e (omega arith)) (λ e. rw e (omega arith))

    slot-few : (i w : ℕ) → i < limit 3 → w < limit 9 → c < limit 1
        → length (slot_text same ws text abi labels c i (read_entry same ws text abi labels c i w)) ≤ 531
    unfolding slot_text read_entry
    slot-few i w h k l =
        let s = shows-few i w (read_entry same ws text abi labels c i w).method refl in
        slot-line-few i _ _ w _ h s.0 s.1 k (class-few i w l)

    module _ (area : List ℕ) (words : (i : ℕ) → get_or area i 0 < limit 9) (few : c < limit 1) where
      slots-few : (i n : ℕ) → i + n ≤ 1024
          → length (slot_texts same ws text abi labels c i (list_from (read_slot same ws text abi labels area c) i n)) ≤ 531 * n
      unfolding slot_texts list_from read_slot
      slots-few i zero h = omega arith
      slots-few i (suc n) h =
          omega (
            arith,
            length-append (slot_text same ws text abi labels c i (read_entry same ws text abi labels c i (get_or area (class_table_place ws c + 1 + i) 0)))
                (slot_texts same ws text abi labels c (i + 1) (list_from (read_slot same ws text abi labels area c) (i + 1) n)),
            slot-few i (get_or area (class_table_place ws c + 1 + i) 0) (omega arith) (words (class_table_place ws c + 1 + i)) few,
            slots-few (i + 1) n (omega arith),
          )

      pub lines_few : class_instance_words ws c < limit 9 → class_slot_count ws c < limit 3
          → length (lines_of same ws text abi labels area c) ≤ 293 + 531 * class_slot_count ws c
      unfolding lines_of table_entries
      lines_few w s =
          let l = class-line-few c (class_name ws text c) (class_instance_words ws c) (class_slot_count ws c) few
          (name-few text (class_name_start ws c) (class_name_length ws c) short.name) w s in
          simp length-append (omega (arith, slots-few 0 (min (class_slot_count ws c) 1024) (omega arith)))

pub class_lines_few : (same : Same) (ws abi area : List ℕ) (c : ℕ) → Short same ws (text_of ws) abi (abi_text_of abi) c
    → ((i : ℕ) → get_or area i 0 < limit 9) → c < limit 1 → class_instance_words ws c < limit 9 → class_slot_count ws c < limit 3
    → length (class_lines_by same ws abi area c) ≤ 293 + 531 * class_slot_count ws c
unfolding class_lines_by
class_lines_few same ws abi area c short words h w s =
    by (is_unlisted ws abi c) (λ t. rw t (omega arith))
    (λ f. rw f (lines_few same ws (text_of ws) abi (abi_text_of abi) c short area words h w s))
