-- Where entries and words come from, and what Reading makes of the words that a link writes: a word that is a method's target reads as that
-- method, one that was lent reads by the ABI alone. Assumes nothing.
use Rattle.std.proofs.Common.{rules, ◌≡◌, refl, sym, ap, ◌∙◌, ◌⊎◌, inl, inr, ◌≢◌, List, [], ◌∷◌, ℕ, zero, suc, ◌+◌, ◌≤◌, ◌<◌, arith, length, get_or, ltb, ltb-true, ltb-false, Some, None}
use mathlib.Core.List.{Memᴰ}
use lib.ListN.{get_or-eq_default}
use Rattle.words.proofs.Bools.{by}
use Rattle.words.proofs.ListLaws.{length-list-from, get_d_list_from, not_found}
use Rattle.class_sheet.specs.ClassSheet.{class_kind, method_target}
use Rattle.linking.specs.Signature.{by_bytes}
use Rattle.linking.specs.Chain.{own_methods, parent_of, chain}
use Rattle.linking.specs.Abi.{class_abi}
use Rattle.linking.specs.Vtable.{Entry, empty, find_by_index, read_entry, slot_word, slot_words}
use Rattle.linking.proofs.ChainLaws.{along-none, target_none}
use Rattle.slots.specs.Slots.{Known, ChainMethod}
use Rattle.slots.specs.Made.{read_words, Conditions}
use Rattle.slots.proofs.ChainFacts.{method-up, conditions-up, target_absent, target-own}
use Rattle.slots.proofs.PlaceFacts.{Signature, OneIndex, Good, good-fixed}
use Rattle.slots.proofs.FixedFacts.{method_signature, Live, index_live, index-parent}
use Rattle.slots.proofs.EntryFacts.{at, own-word, stub-word, known-below, Shows}

-- ---- "A slot that is empty or of target 0 takes the stub word at its index."

pub length-words : (stubs : List ℕ) (k : ℕ) (T : List Entry) → length (slot_words stubs k T) ≡ length T
unfolding slot_words
length-words stubs k [] = refl
length-words stubs k (e ∷ T) = ap suc (length-words stubs (k + 1) T)

words-from : (stubs : List ℕ) (k : ℕ) (T : List Entry) (i j : ℕ) → i < length T → j ≡ k + i
    → get_or (slot_words stubs k T) i 0 ≡ slot_word (at T i).word (get_or stubs j 0)
unfolding slot_words
words-from stubs k [] i j h e = search rules
words-from stubs k (x ∷ T) zero j h e = search rules
words-from stubs k (x ∷ T) (suc i) j h e = search (rules, words-from stubs (k + 1) T i j)

pub word_at : (stubs : List ℕ) (T : List Entry) (i : ℕ) → i < length T
    → get_or (slot_words stubs 0 T) i 0 ≡ slot_word (at T i).word (get_or stubs i 0)
word_at stubs T i h = search (rules, words-from)

-- a word of class c's table is the target of a method of its chain, or was lent
pub data Origin (ws : List ℕ) (P : ℕ → Type 0) (c w : ℕ) : Type 0 where
  target : (m : ℕ) → ChainMethod ws c m → w ≡ method_target ws m → Origin ws P c w
  stub : P w → Origin ws P c w

module _ (ws text abi labels : List ℕ) where
  -- ---- a table's words, read

  module _ (c : ℕ) (t : List ℕ) where
    pub length-read : length (read_words ws text abi labels c t) ≡ length t
    unfolding read_words
    length-read = search (rules, length-list-from)

    pub read_at : (i : ℕ) → i < length t
        → at (read_words ws text abi labels c t) i ≡ read_entry (by_bytes ws text abi labels) ws text abi labels c i (get_or t i 0)
    unfolding read_words
    read_at i h = search (rules, get_d_list_from)

    pub read_known : (i m : ℕ) → (at (read_words ws text abi labels c t) i).method ≡ Some m → Known ws text abi labels c t i m
    read_known i m e =
        let h : i < length t = rw length-read at (known-below (read_words ws text abi labels c t) i m e) in
        record { slot = h; reads = ap (λ (x : Entry). x.method) (sym (read_at i h)) ∙ e }

    pub known_read : (i m : ℕ) → Known ws text abi labels c t i m → (at (read_words ws text abi labels c t) i).method ≡ Some m
    known_read i m k = search (rules, read_at)

  pub read_word : (c i w : ℕ) → (read_entry (by_bytes ws text abi labels) ws text abi labels c i w).word ≡ w
  unfolding read_entry
  read_word c i w = refl

  -- along no chain, nothing is known
  pub read_no_class : (i w : ℕ) → (read_entry (by_bytes ws text abi labels) ws text abi labels 0 i w).method ≡ None
  unfolding read_entry find_by_index
  read_no_class i w = search (rules, target_none, along-none)

  module _ (P : ℕ → Type 0) where
    -- ---- where an entry comes from

    -- an entry at index i of class c's table, before it is written, is a method's; or its word was lent, and if known it is so by what Reading's second
    -- rule says of a class without an ABI entry too; or it is empty
    pub data Firm (c i : ℕ) (e : Entry) : Type 0 where
      ours : (m : ℕ) → ChainMethod ws c m → e.method ≡ Some m → e.word ≡ method_target ws m → Firm c i e
      lent : P e.word → ((m : ℕ) → e.method ≡ Some m → class_abi ws text abi labels c ≡ None
          → find_by_index (by_bytes ws text abi labels) ws text abi labels c i ≡ Some m) → Firm c i e
      blank : e.word ≡ 0 → e.method ≡ None → Firm c i e

    -- the index does not matter where the class has an ABI entry
    pub firm-any : {c a : ℕ} → class_abi ws text abi labels c ≡ Some a → (i j : ℕ) (e : Entry) → Firm c i e → Firm c j e
    firm-any q i j e (ours m k f g) = ours m k f g
    firm-any q i j e (lent p f) = lent p (λ m k n. not_found (sym n ∙ q))
    firm-any q i j e (blank f g) = blank f g

    -- ---- Reading along a chain that meets the conditions

    module _ (c : ℕ) (k : Conditions ws text abi labels P c) (i w : ℕ) where
      pub read-target : (m : ℕ) → ChainMethod ws c m → w ≡ method_target ws m
          → (read_entry (by_bytes ws text abi labels) ws text abi labels c i w).method ≡ Some m
      unfolding read_entry
      read-target m h e = search (rules, target-own)

      pub read-stub : P w → (read_entry (by_bytes ws text abi labels) ws text abi labels c i w).method
          ≡ find_by_index (by_bytes ws text abi labels) ws text abi labels c i
      unfolding read_entry
      read-stub p = search (rules, target_absent)

    -- the parent's entries, as the child starts from them
    module _ (c : ℕ) (h : 0 < c) (k : Conditions ws text abi labels P c) where
      word-firm : (i w : ℕ) → Origin ws P (parent_of ws c) w → Firm c i (read_entry (by_bytes ws text abi labels) ws text abi labels (parent_of ws c) i w)
      word-firm i w (target m n e) =
          ours m (method-up ws c h n)
          (read-target (parent_of ws c) (conditions-up ws text abi labels c h k) i w m n e) (read_word (parent_of ws c) i w ∙ e)
      word-firm i w (stub p) =
          lent (rw (read_word (parent_of ws c) i w) p)
          (λ m e n.
          index-parent ws text abi labels c i h n ∙ sym (read-stub (parent_of ws c) (conditions-up ws text abi labels c h k) i w p) ∙ e)

      pub read-firm : (t : List ℕ) → ((i : ℕ) → i < length t → Origin ws P (parent_of ws c) (get_or t i 0))
          → (i : ℕ) → Firm c i (at (read_words ws text abi labels (parent_of ws c) t) i)
      read-firm t from i =
          by (ltb i (length t))
          (λ q. let l : i < length t = ltb-true i (length t) q in rw (read_at (parent_of ws c) t i l) (word-firm i (get_or t i 0) (from i l)))
          (λ q.
          let l : length t ≤ i = ltb-false i (length t) q in
          let e : at (read_words ws text abi labels (parent_of ws c) t) i ≡ empty =
          get_or-eq_default (read_words ws text abi labels (parent_of ws c) t) empty {n = i} (rw (length-read (parent_of ws c) t) l) in
          rw e (blank refl refl))

    -- ---- what is written for an entry

    data Written (c i : ℕ) (e : Entry) (w : ℕ) : Type 0 where
      method : (m : ℕ) → ChainMethod ws c m → e.method ≡ Some m → e.word ≡ w → w ≡ method_target ws m → Written c i e w
      other : P w → ((m : ℕ) → e.method ≡ Some m → e.word ≡ w)
          → ((m : ℕ) → e.method ≡ Some m → class_abi ws text abi labels c ≡ None
          → find_by_index (by_bytes ws text abi labels) ws text abi labels c i ≡ Some m) → Written c i e w

    module _ (c : ℕ) (k : Conditions ws text abi labels P c) where
      written : (i : ℕ) (e : Entry) (x : ℕ) → P x → Firm c i e → Written c i e (slot_word e.word x)
      written i e x p (ours m h f g) =
          let n : e.word ≢ 0 = λ z. k.nonzero_targets m h (sym g ∙ z) in method m h f (sym (own-word e.word x n)) (own-word e.word x n ∙ g)
      written i e x p (lent q f) =
          let n : e.word ≢ 0 = k.nonzero_stubs e.word q in
          let r : slot_word e.word x ≡ e.word = own-word e.word x n in
          other (rw r q) (λ m g. sym r) f
      written i e x p (blank f g) = other (rw (stub-word e.word x f) p) (λ m q. not_found (sym g ∙ q)) (λ m q. not_found (sym g ∙ q))

      written-origin : {i : ℕ} {e : Entry} {w : ℕ} → Written c i e w → Origin ws P c w
      written-origin (method m h f g r) = target m h r
      written-origin (other p f g) = stub p

      -- read back, it is the entry's method, or the ABI fixes it there
      written_back : ((d : ℕ) → Memᴰ d (chain ws c) → class_kind ws d ≡ 2 → own_methods ws d ≡ []) → (i : ℕ) (e : Entry) (w : ℕ) → Written c i e w
          → (n : ℕ) → (read_entry (by_bytes ws text abi labels) ws text abi labels c i w).method ≡ Some n
          → (e.method ≡ Some n) ⊎ Live ws text abi labels c (method_signature ws text n) i
      written_back bare i e w (method m h f g r) n q = search (rules, read-target)
      written_back bare i e w (other p f g) n q = search (rules, index_live, read-stub)

      -- a known entry of a class without an ABI entry reads back as it is
      written_on : class_abi ws text abi labels c ≡ None → (i : ℕ) (e : Entry) (w : ℕ) → Written c i e w
          → (n : ℕ) → e.method ≡ Some n → ((read_entry (by_bytes ws text abi labels) ws text abi labels c i w).method ≡ Some n) × (e.word ≡ w)
      written_on none i e w (method m h f g r) n q = search (rules, read-target)
      written_on none i e w (other p f g) n q = search (rules, read-stub)

      -- ---- a whole table, written and read back

      module _ (stubs : List ℕ) (T : List Entry) (enough : length T ≤ length stubs) (given : (i : ℕ) → i < length stubs → P (get_or stubs i 0))
          (firm : (i : ℕ) → Firm c i (at T i)) where
        each : (i : ℕ) → i < length T → Written c i (at T i) (get_or (slot_words stubs 0 T) i 0)
        each i h = rw (word_at stubs T i h) (written i (at T i) (get_or stubs i 0) (given i (omega arith)) (firm i))

        pub table-origin : (i : ℕ) → i < length (slot_words stubs 0 T) → Origin ws P c (get_or (slot_words stubs 0 T) i 0)
        table-origin i h = written-origin (each i (rw (length-words stubs 0 T) at h))

        pub table-good : ((d : ℕ) → Memᴰ d (chain ws c) → class_kind ws d ≡ 2 → own_methods ws d ≡ []) → OneIndex (Live ws text abi labels c)
            → Good (Live ws text abi labels c) (Shows ws text T)
            → Good (Live ws text abi labels c) (Shows ws text (read_words ws text abi labels c (slot_words stubs 0 T)))
        table-good bare one g = good-fixed one back g
          where
            back : (i : ℕ) (s : Signature) → Shows ws text (read_words ws text abi labels c (slot_words stubs 0 T)) i s
                → Shows ws text T i s ⊎ Live ws text abi labels c s i
            back i s h =
                let q = read_known c (slot_words stubs 0 T) i h.method h.holds in
                let l : i < length T = rw (length-words stubs 0 T) at q.slot in
                elim (written_back bare i (at T i) (get_or (slot_words stubs 0 T) i 0) (each i l) h.method q.reads) [
                  | inl e ↦ inl (record { method = h.method; holds = e; is = h.is })
                  | inr f ↦ inr (rw (← h.is) f)
                ]

        -- a known entry of a class without an ABI entry is known, and its word is written
        pub table-known : class_abi ws text abi labels c ≡ None → (i m : ℕ) → (at T i).method ≡ Some m → Known ws text abi labels c (slot_words stubs 0 T) i m
        table-known none i m e =
            let l = known-below T i m e in
            record { slot = rw (length-words stubs 0 T) l; reads = (written_on none i (at T i) (get_or (slot_words stubs 0 T) i 0) (each i l) m e).0 }

        pub table-word : class_abi ws text abi labels c ≡ None → (i m : ℕ) → (at T i).method ≡ Some m → get_or (slot_words stubs 0 T) i 0 ≡ (at T i).word
        table-word none i m e =
            let l = known-below T i m e in sym (written_on none i (at T i) (get_or (slot_words stubs 0 T) i 0) (each i l) m e).1
