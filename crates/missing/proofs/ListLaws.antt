-- Laws of a class's 33 words, and of the list that they are written into. Assumes nothing.
use mathlib.Core.Path.{◌≡◌, sym, ap, ◌∙◌}
use mathlib.Core.Logic.{◌≢◌}
use mathlib.Core.Bool.{Bool, false, cond}
use mathlib.Core.List.{List, [], append-nil}
use Prim.Native.Nat.{ℕ, suc, ◌+◌, ◌*◌, ◌-◌, ◌≤◌, ◌<◌}
use native.Mathlib.Omega.{arith}
use lib.ListN.{length, get_or, set, take}
use lib.Seq.{take_all, drop-length}
use lib.Dec.{leb}
use borrow.Author.Tests.{le-leb, leb-true, leb-false, ltb-false}
use Rattle.words.specs.Words.{copy_elements}
use Rattle.words.proofs.Bools.{by}
use Rattle.words.proofs.Laws.{room, no_room_lem}
use Rattle.words.proofs.ListLaws.{length-list-from, get_d_list_from}
use Rattle.class_sheet.specs.ClassSheet.{class_count}
use Rattle.linking.specs.Chain.{parent_of}
use Rattle.linking.specs.Vtable.{Entry}
use Rattle.linking.specs.Set.{write_at}
use Rattle.linking.specs.Counts.{bits_of, bit_count, bits_from, pack_bits, missing_at, parent_bit, counted_after, missing_short}
use Rattle.linking.proofs.Writes.{write-pasted, write-none, each_turn, each-done}
use Rattle.missing.specs.Lists.{counted}

-- ---- the 33 words

pub pack_start : (out : List ℕ) → out ≡ write_at out 0 []
pack_start out = sym (write-none out 0)

module _ (bs : List Bool) where
  pub length_pack : length (pack_bits bs) ≡ 33
  unfolding pack_bits
  length_pack = ap suc (length-list-from (λ k. bits_from bs (32 * k) 32) 0 32)

  pub word_first : (j : ℕ) {w : ℕ} → j ≡ 0 → w ≡ bit_count bs → w ≡ get_or (pack_bits bs) j 0
  unfolding pack_bits
  word_first j e w = w ∙ rw e

  pub word_later : (j : ℕ) {w : ℕ} → j ≢ 0 → j < 33 → w ≡ bits_from bs (32 * (j - 1)) 32 → w ≡ get_or (pack_bits bs) j 0
  unfolding pack_bits
  word_later j h l w =
      let s : j ≡ suc (j - 1) = omega arith in
      let z : 0 + (j - 1) ≡ j - 1 = omega arith in
      let g = get_d_list_from (λ k. bits_from bs (32 * k) 32) 0 32 (j - 1) 0 (omega arith) in
      w ∙ sym (ap (λ (i : ℕ). get_or (pack_bits bs) i 0) s ∙ (rw z at g))

  module _ (out : List ℕ) where
    pub pack_turn : (j : ℕ) {d e : List ℕ} {w : ℕ} → length out ≡ 33 → j < 33 → d ≡ write_at out 0 (take j (pack_bits bs))
        → w ≡ get_or (pack_bits bs) j 0 → e ≡ set d j w → e ≡ write_at out 0 (take (j + 1) (pack_bits bs))
    pack_turn j l h d w e =
        let n = length_pack in
        let y : 0 + j ≡ j = omega arith in
        each_turn out 0 (pack_bits bs) j (omega arith) (omega arith) d w (rw y e)

    pub pack_end : (j : ℕ) {d : List ℕ} → length out ≡ 33 → 33 ≤ j → d ≡ write_at out 0 (take j (pack_bits bs)) → d ≡ pack_bits bs
    unfolding write_at
    pack_end j l h d =
        let n = length_pack in
        let e : 0 + length (pack_bits bs) ≡ length out = omega arith in
        each-done out 0 (pack_bits bs) j (omega arith) d ∙ rw (e, drop-length out) (append-nil (pack_bits bs))

-- ---- the list

-- words copied to a place, where there is room
put-by : (own list : List ℕ) (at : ℕ) {out : List ℕ} {b : Bool} → length own ≡ 33 → ◌≡◌ {A = Bool × List ℕ} (b, out) (copy_elements own 0 33 list at)
    → out ≡ cond (leb (at + 33) (length list)) (write_at list at own) list
put-by own list at l k =
    by (leb (at + 33) (length list))
    (λ q.
    let g = leb-true (at + 33) (length list) q in
    rw q (ap (λ (x : Bool × List ℕ). x.1) (k ∙ sym (room own 0 33 list at (omega arith) (omega arith))) ∙ write-pasted own 0 33 list at (omega arith)
    ∙ rw (take_all 33 own (omega arith))))
    (λ q. let g = leb-false (at + 33) (length list) q in rw q (ap (λ (x : Bool × List ℕ). x.1) (k ∙ sym (no_room_lem own 0 33 list at (omega arith)))))

module _ (list : List ℕ) (c p : ℕ) (T : List Entry) where
  pub class_put : {own out : List ℕ} {x : ℕ} {b : Bool} → own ≡ pack_bits (bits_of (parent_bit list p) T) → x ≡ missing_at c
      → ◌≡◌ {A = Bool × List ℕ} (b, out) (copy_elements own 0 33 list x) → out ≡ counted list c p T
  unfolding counted
  class_put {own = own} e x k =
      let l : length own ≡ 33 = rw e (length_pack (bits_of (parent_bit list p) T)) in
      put-by own list (missing_at c) l (rw x at k) ∙ rw e

module _ (list : List ℕ) (c p : ℕ) (T : List Entry) where
  -- a link's list is long enough for each class of the set
  pub counted-after : (ws : List ℕ) → p ≡ parent_of ws c → 1 ≤ c → c ≤ class_count ws → missing_short ws list ≡ false
      → counted list c p T ≡ counted_after ws list c T
  unfolding counted counted_after missing_short
  counted-after ws e l h s =
      let r = ltb-false (length list) (33 * class_count ws) s in
      rw (le-leb (missing_at c + 33) (length list) (omega arith), e)
