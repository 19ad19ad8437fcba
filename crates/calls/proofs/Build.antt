-- The linker reads the same entries, and makes the same table of them, in the words that calls left as in the sheet at the list's start, along a chain
-- whose classes list their own methods as before: methods of the sheet are alike in both by their own numbers (`linking/proofs/Renumbered`).
-- Assumes nothing.
use Rattle.std.proofs.Common.{◌≡◌, refl, sym, List, ℕ, ◌+◌, ◌≤◌, ◌<◌, length, get_or, Option}
use mathlib.Core.List.{Memᴰ}
use Rattle.words.proofs.ListLaws.{by-found}
use Rattle.class_sheet.specs.ClassSheet.{class_count, method_count, text_of, class_kind}
use Rattle.set_rules.specs.Valid.{Valid}
use Rattle.linking.specs.Signature.{Same, by_bytes}
use Rattle.linking.specs.Chain.{own_methods, chain}
use Rattle.linking.specs.Abi.{class_abi, chain_abi}
use Rattle.linking.specs.Vtable.{Entry, Built, read_entry, add_methods}
use Rattle.linking.proofs.AbiLaws.{chain-abi-in}
use Rattle.linking.proofs.Pairs.{Both, both, neither, none, pair, pairs-from, pairs-same}
use Rattle.linking.proofs.Renumbered.{SameEntry, Tables, SameBuilt, both-built, both-refused, Keeps, SameParts, bytes_keep, SameClass, same-abi, SameChain, chain-abi-same, read_same, relayed-same, extended-same, adds_same}
use Rattle.linking.proofs.Rebuilt.{Unmoved}
use Rattle.slots.specs.Made.{read_words, start_from, table_from}
use Rattle.slots.proofs.ChainFacts.{chain-here}
use Rattle.calls.proofs.Like.{Alike}
use Rattle.calls.proofs.View.{chain-class, own_below, class-name, method-name, method-descriptor, method-flags, method-target, chain_same, own_same}

-- a method of a sheet of n methods, by its own number
pub record Own (n m k : ℕ) : Type 0 where
  pub same : k ≡ m
  pub below : m < n

-- tables that are alike so are equal
own-found : {n : ℕ} {f g : Option ℕ} → Both (Own n) f g → f ≡ g
own-found (both {m} {k} r) = rw r.same
own-found neither = refl

abbrev entry_of : ℕ → Option ℕ → Option ℕ → Entry
entry_of w m s = record { word = w; method = m; source = s }

own-entry : {n : ℕ} (e e' : Entry) → SameEntry (Own n) e e' → e ≡ e'
own-entry e e' s =
    let p : ◌≡◌ {A = Entry} (entry_of e.word e.method e.source) (entry_of e'.word e'.method e'.source) =
    rw (s.word, own-found s.method, s.source) in
    p

pub own-table : {n : ℕ} {T U : List Entry} → Tables (Own n) T U → T ≡ U
own-table none = refl
own-table (pair {x = e} {y = e'} s h) = rw (own-entry e e' s, own-table h)

pub own-built : {n : ℕ} {b b' : Built} → SameBuilt (Own n) b b' → b ≡ b'
own-built (both-built h) = rw (own-table h)
own-built both-refused = refl

module _ (old new : List ℕ) (valid : Valid old) (like : Alike old new) (abi labels : List ℕ) where
  abbrev R : ℕ → ℕ → Type 0
  R = Own (method_count old)

  abbrev same : Same
  same = by_bytes old (text_of old) abi labels

  abbrev same' : Same
  same' = by_bytes new (text_of new) abi labels

  pub kept : Keeps same same' (SameParts old (text_of old) new (text_of new) abi labels) old (text_of old) new (text_of new) abi labels R
  kept =
      bytes_keep old (text_of old) new (text_of new) abi labels R
      (record {
        name = λ m k r. rw r.same (sym (method-name old new valid like m r.below));
        descriptor = λ m k r. rw r.same (sym (method-descriptor old new valid like m r.below));
        flags = λ m k r. rw r.same (sym (method-flags old new valid like m r.below));
        target = λ m k r. rw r.same (sym (method-target old new valid like m r.below));
      })

  pub class-kept : (d : ℕ) → 1 ≤ d → d ≤ class_count old → Unmoved old new d → SameClass kept d
  class-kept d s a u = record {
    own = rw (own_same old new valid like d u)
        (pairs-same R (own_methods old d)
        (λ m i. record { same = refl; below = own_below old valid d s a m i }));
    name = sym (class-name old new valid like d s a);
  }

  -- along a chain whose classes list their own methods as before
  module _ (c : ℕ) (a : c ≤ class_count old) (still : (d : ℕ) → Memᴰ d (chain old c) → Unmoved old new d) where
    pub chain-kept : SameChain kept c
    chain-kept = record {
      along = sym (chain_same old new valid like c a);
      class = λ d i. let j = i in let k = chain-class old c d a j in class-kept d k.0 k.1 (still d j);
    }

    -- Reading
    pub read-words-kept : (t : List ℕ) → Tables R (read_words old (text_of old) abi labels c t) (read_words new (text_of new) abi labels c t)
    unfolding read_words
    read-words-kept t =
        pairs-from (λ i. read_entry same old (text_of old) abi labels c i (get_or t i 0))
        (λ i. read_entry same' new (text_of new) abi labels c i (get_or t i 0)) 0 0 (length t)
        (λ i h. read_same kept c chain-kept (0 + i) (get_or t (0 + i) 0))

    -- the table of entries that are alike, whatever the class's kind
    start-kept : 1 ≤ c → (P Q : List Entry) → Tables R P Q
        → Tables R (start_from old (text_of old) abi labels c P) (start_from new (text_of new) abi labels c Q)
    unfolding start_from
    start-kept s P Q h =
        let abis : List ℕ = chain_abi new (text_of new) abi labels c in
        rw (
          chain-abi-same kept c chain-kept,
          same-abi kept c (class-kept c s a (still c (chain-here old c s))),
        )
        (by-found (class_abi new (text_of new) abi labels c)
        (λ z e. rw e (relayed-same kept abis (chain-abi-in new (text_of new) abi labels c) h))
        (λ e. rw e (extended-same kept abis h)))

    pub built-same : 1 ≤ c → (P Q : List Entry) → Tables R P Q
        → add_methods same old (text_of old) abi (chain_abi old (text_of old) abi labels c) (own_methods old c) (start_from old (text_of old) abi labels c P)
        ≡ add_methods same' new (text_of new) abi (chain_abi new (text_of new) abi labels c) (own_methods new c)
        (start_from new (text_of new) abi labels c Q)
    built-same s P Q h =
        own-built {n = method_count old}
        (rw (chain-abi-same kept c chain-kept)
        (adds_same kept (chain_abi new (text_of new) abi labels c) (chain-abi-in new (text_of new) abi labels c)
        (class-kept c s a (still c (chain-here old c s))).own _ _ (start-kept s P Q h)))

    pub table_same : 1 ≤ c → class_kind new c ≡ class_kind old c → (P Q : List Entry) → Tables R P Q
        → table_from old (text_of old) abi labels c P ≡ table_from new (text_of new) abi labels c Q
    unfolding table_from
    table_same s kind P Q h = rw (kind, built-same s P Q h, own-table h)
