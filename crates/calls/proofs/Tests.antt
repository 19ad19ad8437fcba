-- The premises of demand 3 as tests, so that examples meet them by computation: where a test passes, its premise holds. Assumes nothing.
use Rattle.std.proofs.Common.{◌≡◌, refl, ◌⊎◌, inl, inr, ◌≢◌, Bool, true, false, not, ◌&&◌, ◌||◌, List, [], ◌∷◌, ◌++◌, ℕ, ◌+◌, ◌-◌, arith, eqb, eqb-true, eq-eqb}
use mathlib.Core.Bool.{false≢true}
use mathlib.Core.List.Memᴰ
use mathlib.Core.List.{Memᴰ}
use borrow.Author.Tests.{eqb-false, not-true}
use Rattle.words.specs.Folds.{all_of}
use Rattle.words.specs.Lists.{all_found}
use Rattle.words.proofs.Bools.{and_both, or-either}
use Rattle.words.proofs.FoldLaws.{all-each}
use Rattle.text.specs.Text.{same_bytes}
use Rattle.text.proofs.Laws.{same-is, same_refl}
use Rattle.class_sheet.specs.ClassSheet.{class_count, text_of, class_kind, class_flags, class_table_place, method_target}
use Rattle.abi_sheet.specs.AbiSheet.{abi_text_of, abi_slot_name, abi_slot_descriptor}
use Rattle.linking.specs.Signature.{place_number, place_at, by_numbers}
use Rattle.linking.specs.Numbers.{is_used, is_twin, number_at, numbers_of, numbers_short}
use Rattle.linking.specs.Numbered.{numbers_taken, numbers_after, link_numbered, ask_numbered}
use Rattle.linking.specs.Chain.{own_methods, chain, is_interface}
use Rattle.linking.specs.Abi.{abi_slots, slot_index, class_abi}
use Rattle.slots.specs.Slots.{OldRule, ChainMethod, ChainSlot, Orderly}
use Rattle.slots.proofs.ListFacts.{all_found_lem}
use Rattle.calls.specs.Calls.{Call, Way, State, outcome, way_after, step, run, numbers_run, Unlinked, Lent, lent_now, lent_later, stubs_of}
use Rattle.calls.specs.Demand.{BuiltOrArray, Conditions}

-- ---- lists

unfoldable pub every : (ℕ → Bool) → List ℕ → Bool
every p [] = true
every p (x ∷ xs) = p x && every p xs

pub every-each : (p : ℕ → Bool) {x : ℕ} {xs : List ℕ} → every p xs ≡ true → Memᴰ x xs → p x ≡ true
unfolding every
every-each p h (Memᴰ.head {x = y} {xs = xs} e) = rw e (and_both (p y) (every p xs) h).0
every-each p h (Memᴰ.tail {x = y} {xs = xs} i) = every-each p (and_both (p y) (every p xs) h).1 i

pub implied : (a b : Bool) → (not a || b) ≡ true → a ≡ true → b ≡ true
implied true b h e = h
implied false b h e = absurd (false≢true e)

unfoldable pub gather : (ℕ → List ℕ) → List ℕ → List ℕ
gather f [] = []
gather f (x ∷ xs) = f x ++ gather f xs

in_gather : (f : ℕ → List ℕ) {x y : ℕ} {xs : List ℕ} → Memᴰ x xs → Memᴰ y (f x) → Memᴰ y (gather f xs)
unfolding gather
in_gather f (Memᴰ.head {xs = xs} e) j = rw (← e) (Memᴰ.append_left (gather f xs) j)
in_gather f (Memᴰ.tail {x = z} i) j = Memᴰ.append_right (f z) (in_gather f i j)

-- ---- what the premises range over

unfoldable pub chain_methods : List ℕ → ℕ → List ℕ
chain_methods ws c = gather (own_methods ws) (chain ws c)

unfoldable pub chain_slots : List ℕ → List ℕ → ℕ → List ℕ
chain_slots ws abi c = gather (abi_slots abi) (all_found (class_abi ws (text_of ws) abi (abi_text_of abi)) (chain ws c))

unfoldable pub stubs_lent : List Call → List ℕ
stubs_lent [] = []
stubs_lent (k ∷ ks) = stubs_of k ++ stubs_lent ks

in_lent : {x : ℕ} {ks : List Call} → Lent x ks → Memᴰ x (stubs_lent ks)
unfolding stubs_lent
in_lent (lent_now {ks = ks} i) = Memᴰ.append_left (stubs_lent ks) i
in_lent (lent_later {k = k} i) = Memᴰ.append_right (stubs_of k) (in_lent i)

-- ---- the tests

unfoldable pub is_unlinked : List ℕ → Bool
is_unlinked ws = all_of (class_count ws) (λ i. eqb (class_table_place ws (i + 1)) 0)

module _ (ws abi : List ℕ) (calls : List Call) (c : ℕ) where
  abbrev labels : List ℕ
  labels = abi_text_of abi

  -- the premise of `unique`
  unfoldable pub by_old_rule : Bool
  by_old_rule = every (λ d. eqb (class_kind ws d) 0 || eqb (class_kind ws d) 2) (chain ws c)

  -- row by row as in `Conditions`
  unfoldable pub built_or_array : Bool
  built_or_array = every (λ d. eqb (class_kind ws d) 0 || (eqb (class_kind ws d) 2 || eqb (class_kind ws d) 3)) (chain ws c)

  unfoldable pub without_interface : Bool
  without_interface = every (λ d. not (is_interface (class_flags ws d))) (chain ws c)

  abbrev agrees_in_index : ℕ → ℕ → Bool
  agrees_in_index s z =
      not (same_bytes (abi_slot_name abi labels s) (abi_slot_name abi labels z)
      && same_bytes (abi_slot_descriptor abi labels s) (abi_slot_descriptor abi labels z))
      || eqb (slot_index abi s) (slot_index abi z)

  abbrev one_signature : ℕ → ℕ → Bool
  one_signature s z =
      not (eqb (slot_index abi s) (slot_index abi z))
      || (same_bytes (abi_slot_name abi labels s) (abi_slot_name abi labels z)
      && same_bytes (abi_slot_descriptor abi labels s) (abi_slot_descriptor abi labels z))

  -- the half "each signature (name and descriptor) has one index"
  unfoldable pub one_index_each : Bool
  one_index_each = every (λ s. every (λ z. agrees_in_index s z) (chain_slots ws abi c)) (chain_slots ws abi c)

  unfoldable pub is_orderly : Bool
  is_orderly = every (λ s. every (λ z. agrees_in_index s z && one_signature s z) (chain_slots ws abi c)) (chain_slots ws abi c)

  unfoldable pub targets_nonzero : Bool
  targets_nonzero = every (λ m. not (eqb (method_target ws m) 0)) (chain_methods ws c)

  unfoldable pub stubs_nonzero : Bool
  stubs_nonzero = every (λ x. not (eqb x 0)) (stubs_lent calls)

  unfoldable pub targets_different : Bool
  targets_different =
      every (λ m. every (λ k. not (eqb (method_target ws m) (method_target ws k)) || eqb m k) (chain_methods ws c)) (chain_methods ws c)

  unfoldable pub without_stub : Bool
  without_stub = every (λ x. every (λ m. not (eqb (method_target ws m) x)) (chain_methods ws c)) (stubs_lent calls)

  -- ---- where they pass

  pub a-method : {m : ℕ} → ChainMethod ws c m → Memᴰ m (chain_methods ws c)
  unfolding chain_methods
  a-method k = in_gather (own_methods ws) k.along k.own

  a-slot : {s : ℕ} → ChainSlot ws (text_of ws) abi (abi_text_of abi) c s → Memᴰ s (chain_slots ws abi c)
  unfolding chain_slots
  a-slot k = in_gather (abi_slots abi) (all_found_lem (class_abi ws (text_of ws) abi (abi_text_of abi)) k.along k.named) k.own

  kind-of : (k : ℕ) → (eqb k 0 || eqb k 2) ≡ true → (k ≡ 0) ⊎ (k ≡ 2)
  kind-of k h = elim (or-either (eqb k 0) (eqb k 2) h) [ inl e ↦ inl (eqb-true k 0 e) | inr e ↦ inr (eqb-true k 2 e) ]

  pub old-holds : by_old_rule ≡ true → OldRule ws c
  unfolding by_old_rule
  old-holds h d i = kind-of (class_kind ws d) (every-each (λ d. eqb (class_kind ws d) 0 || eqb (class_kind ws d) 2) h i)

  pub kinds_hold : built_or_array ≡ true → (d : ℕ) → Memᴰ d (chain ws c) → BuiltOrArray ws d
  unfolding built_or_array
  kinds_hold h d i =
      let e = every-each (λ d. eqb (class_kind ws d) 0 || (eqb (class_kind ws d) 2 || eqb (class_kind ws d) 3)) h i in
      elim (or-either (eqb (class_kind ws d) 0) (eqb (class_kind ws d) 2 || eqb (class_kind ws d) 3) e) [
        | inl t ↦ inl (eqb-true (class_kind ws d) 0 t)
        | inr t ↦ elim (or-either (eqb (class_kind ws d) 2) (eqb (class_kind ws d) 3) t) [
          | inl u ↦ inr (inl (eqb-true (class_kind ws d) 2 u))
          | inr u ↦ inr (inr (eqb-true (class_kind ws d) 3 u))
        ]
      ]

  pub flags_hold : without_interface ≡ true → (d : ℕ) → Memᴰ d (chain ws c) → is_interface (class_flags ws d) ≡ false
  unfolding without_interface
  flags_hold h d i = not-true (is_interface (class_flags ws d)) (every-each (λ d. not (is_interface (class_flags ws d))) h i)

  pair : is_orderly ≡ true → (s z : ℕ) → ChainSlot ws (text_of ws) abi (abi_text_of abi) c s → ChainSlot ws (text_of ws) abi (abi_text_of abi) c z
      → (agrees_in_index s z ≡ true) × (one_signature s z ≡ true)
  unfolding is_orderly
  pair h s z k l =
      and_both (agrees_in_index s z) (one_signature s z)
      (every-each (λ z. agrees_in_index s z && one_signature s z)
      (every-each (λ s. every (λ z. agrees_in_index s z && one_signature s z) (chain_slots ws abi c)) h (a-slot k)) (a-slot l))

  signature : is_orderly ≡ true → (s z : ℕ) → ChainSlot ws (text_of ws) abi (abi_text_of abi) c s → ChainSlot ws (text_of ws) abi (abi_text_of abi) c z
      → slot_index abi s ≡ slot_index abi z
      → (abi_slot_name abi labels s ≡ abi_slot_name abi labels z) × (abi_slot_descriptor abi labels s ≡ abi_slot_descriptor abi labels z)
  signature h s z k l e =
      let n : Bool = same_bytes (abi_slot_name abi labels s) (abi_slot_name abi labels z) in
      let d : Bool = same_bytes (abi_slot_descriptor abi labels s) (abi_slot_descriptor abi labels z) in
      let b = and_both n d
      (implied (eqb (slot_index abi s) (slot_index abi z)) (n && d) (pair h s z k l).1 (eq-eqb (slot_index abi s) (slot_index abi z) e)) in (
        same-is (abi_slot_name abi labels s) (abi_slot_name abi labels z) b.0,
        same-is (abi_slot_descriptor abi labels s) (abi_slot_descriptor abi labels z) b.1,
      )

  index-of : (s z : ℕ) → agrees_in_index s z ≡ true → abi_slot_name abi labels s ≡ abi_slot_name abi labels z
      → abi_slot_descriptor abi labels s ≡ abi_slot_descriptor abi labels z → slot_index abi s ≡ slot_index abi z
  index-of s z h e f =
      eqb-true (slot_index abi s) (slot_index abi z)
      (implied (same_bytes (abi_slot_name abi labels s) (abi_slot_name abi labels z)
      && same_bytes (abi_slot_descriptor abi labels s) (abi_slot_descriptor abi labels z))
      (eqb (slot_index abi s) (slot_index abi z)) h
      (rw (e, f, same_refl (abi_slot_name abi labels z), same_refl (abi_slot_descriptor abi labels z)) refl))

  abbrev pub OneIndex : Type 0
  OneIndex = (s z : ℕ) → ChainSlot ws (text_of ws) abi (abi_text_of abi) c s → ChainSlot ws (text_of ws) abi (abi_text_of abi) c z
      → abi_slot_name abi labels s ≡ abi_slot_name abi labels z → abi_slot_descriptor abi labels s ≡ abi_slot_descriptor abi labels z
      → slot_index abi s ≡ slot_index abi z

  pub one_index-holds : one_index_each ≡ true → OneIndex
  unfolding one_index_each
  one_index-holds h s z k l e f =
      index-of s z (every-each (λ z. agrees_in_index s z)
      (every-each (λ s. every (λ z. agrees_in_index s z) (chain_slots ws abi c)) h (a-slot k)) (a-slot l)) e f

  index : is_orderly ≡ true → OneIndex
  index h s z k l e f = index-of s z (pair h s z k l).0 e f

  pub orderly-holds : is_orderly ≡ true → Orderly ws (text_of ws) abi (abi_text_of abi) c
  orderly-holds h = record {
    one_index = index h;
    one_name = λ s z k l e. (signature h s z k l e).0;
    one_descriptor = λ s z k l e. (signature h s z k l e).1;
  }

  pub nonzero_hold : targets_nonzero ≡ true → (m : ℕ) → ChainMethod ws c m → method_target ws m ≢ 0
  unfolding targets_nonzero
  nonzero_hold h m k =
      eqb-false (method_target ws m) 0 (not-true (eqb (method_target ws m) 0) (every-each (λ m. not (eqb (method_target ws m) 0)) h (a-method k)))

  pub stubs_hold : stubs_nonzero ≡ true → (x : ℕ) → Lent x calls → x ≢ 0
  unfolding stubs_nonzero
  stubs_hold h x i = eqb-false x 0 (not-true (eqb x 0) (every-each (λ x. not (eqb x 0)) h (in_lent i)))

  pub different_hold : targets_different ≡ true → (m k : ℕ) → ChainMethod ws c m
      → ChainMethod ws c k → method_target ws m ≡ method_target ws k → m ≡ k
  unfolding targets_different
  different_hold h m k i j e =
      eqb-true m k
      (implied (eqb (method_target ws m) (method_target ws k)) (eqb m k)
      (every-each (λ k. not (eqb (method_target ws m) (method_target ws k)) || eqb m k)
      (every-each (λ m. every (λ k. not (eqb (method_target ws m) (method_target ws k)) || eqb m k) (chain_methods ws c)) h (a-method i)) (a-method j))
      (eq-eqb (method_target ws m) (method_target ws k) e))

  pub no_stub-holds : without_stub ≡ true → (x m : ℕ) → Lent x calls → ChainMethod ws c m → method_target ws m ≢ x
  unfolding without_stub
  no_stub-holds h x m i k =
      eqb-false (method_target ws m) x
      (not-true (eqb (method_target ws m) x)
      (every-each (λ m. not (eqb (method_target ws m) x))
      (every-each (λ x. every (λ m. not (eqb (method_target ws m) x)) (chain_methods ws c)) h (in_lent i)) (a-method k)))

pub unlinked-holds : (ws : List ℕ) → is_unlinked ws ≡ true → Unlinked ws
unfolding is_unlinked
unlinked-holds ws h c s a =
    let e : c - 1 + 1 ≡ c = omega arith in
    eqb-true (class_table_place ws c) 0 (rw e at (all-each (class_count ws) (λ i. eqb (class_table_place ws (i + 1)) 0) h (c - 1) (omega arith)))

-- all of them
pub record Passes (ws abi : List ℕ) (calls : List Call) (c : ℕ) : Type 0 where
  pub kinds : built_or_array ws abi calls c ≡ true
  pub no_interface : without_interface ws abi calls c ≡ true
  pub orderly : is_orderly ws abi calls c ≡ true
  pub nonzero_targets : targets_nonzero ws abi calls c ≡ true
  pub nonzero_stubs : stubs_nonzero ws abi calls c ≡ true
  pub different_targets : targets_different ws abi calls c ≡ true
  pub no_stub : without_stub ws abi calls c ≡ true

pub conditions : (ws abi : List ℕ) (calls : List Call) (c : ℕ) → Passes ws abi calls c → Conditions ws abi calls c
conditions ws abi calls c p = record {
  kinds = kinds_hold ws abi calls c p.kinds;
  no_interface = flags_hold ws abi calls c p.no_interface;
  orderly = orderly-holds ws abi calls c p.orderly;
  nonzero_targets = nonzero_hold ws abi calls c p.nonzero_targets;
  nonzero_stubs = stubs_hold ws abi calls c p.nonzero_stubs;
  different_targets = different_hold ws abi calls c p.different_targets;
  no_stub = no_stub-holds ws abi calls c p.no_stub;
}

-- their verdicts, in that order
unfoldable pub verdicts : List ℕ → List ℕ → List Call → ℕ → List Bool
verdicts ws abi calls c =
    built_or_array ws abi calls c ∷ without_interface ws abi calls c ∷ is_orderly ws abi calls c ∷ targets_nonzero ws abi calls c
    ∷ stubs_nonzero ws abi calls c ∷ targets_different ws abi calls c ∷ without_stub ws abi calls c ∷ []

-- the answers of a list: refusal, then place and slots of a link, place and nodes of an ask
unfoldable pub answers : Way → List ℕ → State → List Call → List (ℕ × ℕ × ℕ)
answers way abi s [] = []
answers way abi s (k ∷ ks) =
    ((outcome way abi s k).refusal, (outcome way abi s k).first, (outcome way abi s k).second) ∷ answers (way_after way abi s k) abi (step way abi s k) ks

-- what examples by computation open
unfoldable pub shown : ℕ
unfolding every gather chain_methods chain_slots stubs_lent is_unlinked by_old_rule built_or_array without_interface one_index_each is_orderly
    targets_nonzero stubs_nonzero targets_different without_stub verdicts answers step run
shown = 0

-- and of those by numbers
unfoldable pub numbering : ℕ
unfolding place_number place_at by_numbers is_used is_twin number_at numbers_of numbers_short numbers_taken numbers_after link_numbered ask_numbered
    numbers_run
numbering = 0
