-- What an ask builds: how many entries, and that they are the same in the words that calls left, where the classes of both chains list their own
-- methods as before. Assumes nothing.
use mathlib.Core.Path.{◌≡◌, refl, sym, ap, ◌∙◌}
use mathlib.Core.List.{List, [], ◌∷◌, Memᴰ}
use Prim.Native.Nat.{ℕ, suc, ◌+◌, ◌≤◌, ◌<◌, min}
use native.Mathlib.Omega.{arith}
use lib.ListN.{length, get_or, length-append}
use Rattle.std.specs.Prelude.{Option, Some, None}
use Rattle.words.proofs.ListLaws.{length-list-from}
use Rattle.words.proofs.Lists.{part_at}
use Rattle.class_sheet.specs.ClassSheet.{class_count, method_count, text_of, class_table_place, class_slot_count}
use Rattle.set_rules.specs.Valid.{Valid}
use Rattle.linking.specs.Signature.{Same, by_bytes}
use Rattle.linking.specs.Chain.{on_found, chain}
use Rattle.linking.specs.Vtable.{Entry, Built, built, refused, read_slot, table_entries}
use Rattle.linking.specs.Ask.{implementation, dispatch_entry, cons_entry, dispatch_entries}
use Rattle.linking.proofs.Plans.{built-same, not-built}
use Rattle.linking.proofs.Renumbered.{entries-same}
use Rattle.linking.proofs.RenumberedAsk.{dispatch_same}
use Rattle.linking.proofs.Rebuilt.{Unmoved}
use Rattle.calls.specs.Calls.{table_at}
use Rattle.calls.proofs.Like.{Alike}
use Rattle.calls.proofs.Build.{own-built, kept, chain-kept}

-- ---- one entry for each of the interface's, or row 16

module _ (same : Same) (ws : List ℕ) where
  one_entry : (e : Entry) (f g : Option ℕ) (U : List Entry) → dispatch_entry ws e f g ≡ built U → length U ≡ 1
  one_entry e (Some m) (Some k) U q = ap length (sym (built-same q))
  one_entry e (Some m) None U q = not-built q
  one_entry e None g U q = ap length (sym (built-same q))

  one-refused : (e : Entry) (f g : Option ℕ) (n : ℕ) → dispatch_entry ws e f g ≡ refused n → n ≡ 16
  one-refused e (Some m) (Some k) n q = not-built (sym q)
  one-refused e (Some m) None n q = cc
  one-refused e None g n q = not-built (sym q)

  cons-length : (A B : Built) (U : List Entry) (j : ℕ) → ((X : List Entry) → A ≡ built X → length X ≡ 1) → ((X : List Entry) → B ≡ built X → length X ≡ j)
      → cons_entry A B ≡ built U → length U ≡ suc j
  cons-length (built X) (built Y) U j a b q =
      let p = a X refl in
      let r = b Y refl in
      ap length (sym (built-same q)) ∙ omega (arith, length-append X Y)
  cons-length (built X) (refused n) U j a b q = not-built q
  cons-length (refused n) B U j a b q = not-built q

  cons-refused : (A B : Built) (n : ℕ) → ((k : ℕ) → A ≡ refused k → k ≡ 16) → ((k : ℕ) → B ≡ refused k → k ≡ 16) → cons_entry A B ≡ refused n
      → n ≡ 16
  cons-refused (built X) (built Y) n a b q = not-built (sym q)
  cons-refused (built X) (refused k) n a b q = b n q
  cons-refused (refused k) B n a b q = a n q

  dispatch_length : (c : ℕ) (T U : List Entry) → dispatch_entries same ws c T ≡ built U → length U ≡ length T
  unfolding dispatch_entries
  dispatch_length c [] U q = ap length (sym (built-same q))
  dispatch_length c (e ∷ T) U q =
      cons-length (dispatch_entry ws e e.method (on_found e.method (implementation same ws c) None)) (dispatch_entries same ws c T) U (length T)
      (λ X r. one_entry e e.method (on_found e.method (implementation same ws c) None) X r) (λ X r. dispatch_length c T X r) q

  pub dispatch_refused : (c : ℕ) (T : List Entry) (n : ℕ) → dispatch_entries same ws c T ≡ refused n → n ≡ 16
  unfolding dispatch_entries
  dispatch_refused c [] n q = not-built (sym q)
  dispatch_refused c (e ∷ T) n q =
      cons-refused (dispatch_entry ws e e.method (on_found e.method (implementation same ws c) None)) (dispatch_entries same ws c T) n
      (λ k r. one-refused e e.method (on_found e.method (implementation same ws c) None) k r) (λ k r. dispatch_refused c T k r) q

-- as many as the interface has slots
pub built-size : (same : Same) (ws text abi labels area : List ℕ) (c i : ℕ) (U : List Entry) → class_slot_count ws i ≤ 1024
    → dispatch_entries same ws c (table_entries same ws text abi labels area i) ≡ built U → length U ≡ class_slot_count ws i
unfolding table_entries
built-size same ws text abi labels area c i U h e =
    dispatch_length same ws c (table_entries same ws text abi labels area i) U e
    ∙ length-list-from (read_slot same ws text abi labels area i) 0 (min (class_slot_count ws i) 1024) ∙ omega arith

-- ---- the same entries

module _ (old new : List ℕ) (valid : Valid old) (like : Alike old new) (abi labels area area' : List ℕ) (i : ℕ) (a : i ≤ class_count old)
    (still : (d : ℕ) → Memᴰ d (chain old i) → Unmoved old new d)
    (place : class_table_place new i ≡ class_table_place old i) (slots : class_slot_count new i ≡ class_slot_count old i)
    (table : table_at area' (class_table_place new i) (class_slot_count new i) ≡ table_at area (class_table_place old i) (class_slot_count old i)) where
  abbrev same : Same
  same = by_bytes old (text_of old) abi labels

  abbrev same' : Same
  same' = by_bytes new (text_of new) abi labels

  slot-word : (j : ℕ) → j < class_slot_count old i → get_or area (class_table_place old i + 1 + j) 0 ≡ get_or area' (class_table_place new i + 1 + j) 0
  slot-word j h =
      rw place
      (sym (part_at area (class_table_place old i + 1) (class_slot_count old i) j 0 h)
      ∙ ap (λ (l : List ℕ). get_or l j 0) (sym (rw (place, slots) at table))
      ∙ part_at area' (class_table_place old i + 1) (class_slot_count old i) j 0 h)

  pub built_alike : (c : ℕ) → c ≤ class_count old → ((d : ℕ) → Memᴰ d (chain old c) → Unmoved old new d)
      → dispatch_entries same' new c (table_entries same' new (text_of new) abi labels area' i)
      ≡ dispatch_entries same old c (table_entries same old (text_of old) abi labels area i)
  built_alike c b stills =
      let k = kept old new valid like abi labels in
      sym
      (own-built {n = method_count old}
      (dispatch_same k c (chain-kept old new valid like abi labels c b stills)
      (entries-same k i (chain-kept old new valid like abi labels i a still) area area' (sym slots) slot-word)))
