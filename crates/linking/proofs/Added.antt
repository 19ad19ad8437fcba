-- A method that a link adds takes its signature from a method that the native view knows or from a slot of the ABI sheet: what holds of all
-- those, with the flags that it gets, holds of it (`added-known`). Of a class of the set these methods are records of the sheet
-- (`generated-each`). Of any number, where signatures are compared by their bytes, they are held by a class of the set, as the view is emptied of
-- others, or have the signature of an ABI slot: so each added method is within the limit of argument words (`added-within`). Assumes nothing.
use mathlib.Core.Path.{◌≡◌, refl, sym, ◌∙◌}
use mathlib.Core.Bool.{true, false, not, ◌&&◌, ◌||◌, false≢true, true≢false}
use mathlib.Core.List.{List, [], ◌∷◌, Memᴰ}
use Prim.Native.Nat.{ℕ, zero, suc, ◌+◌, ◌/◌, ◌%◌, ◌≤◌, ◌<◌}
use native.Mathlib.Omega.{arith}
use lib.ListN.{length, get_or, take}
use lib.Dec.{eqb, leb, ltb}
use borrow.Author.Tests.{eqb-true, ltb-true}
use Rattle.words.specs.Lists.{list_from, numbers, find, first_found, cons_found, all_found}
use Rattle.std.specs.Option.{option_and_then}
use Rattle.std.specs.Prelude.{Option, Some, None}
use Rattle.words.proofs.Bools.{by, and_both}
use Rattle.words.proofs.ListLaws.{by-found, found-by, find-passes, find-member, find-within, numbers-within, not_found}
use Rattle.text.specs.Text.{same_bytes}
use Rattle.text.proofs.Laws.{same-is}
use Rattle.descriptor.specs.Words.{receiver_words, is_method}
use Rattle.descriptor.proofs.Meaning.{meaning}
use Rattle.class_sheet.specs.ClassSheet.{class_count, method_count, class_first_method, class_method_count, class_compiler_table, interface_word, method_flags, method_descriptor, method_name, text_of, class_limit, method_limit}
use Rattle.abi_sheet.specs.AbiSheet.{abi_class_count, abi_slot_count, abi_slot_name, abi_class_first_slot, abi_class_slot_count, abi_slot_descriptor, abi_text_of, abi_slot_limit}
use Rattle.set_rules.specs.Valid.{IsClass, Valid, ValidAbi}
use Rattle.linking.specs.Signature.{Same, of_method, of_abi_slot, place_name, place_descriptor, by_bytes, by_sheets}
use Rattle.linking.specs.Chain.{on_found, list_count, own_methods, own_interfaces, is_abstract, parent_of, chain, own_target, find_by_target}
use Rattle.linking.specs.Abi.{abi_slots, slot_index, slot_at, vtable_index, fixed_index, class_abi, chain_abi}
use Rattle.linking.specs.Vtable.{Entry, empty, own_fixed, fixed_of, find_by_index, read_entry, read_slot, table_entries, parent_entries}
use Rattle.linking.specs.Compiler.{New, no_new, Taken, none_taken, members, without_abstract, holds, owner_state, is_emptied, view_from, native_view, from_method, from_slot, signature_sources, is_declared, add_named, add_from, added_from, added_methods, compiler_targets}
use Rattle.linking.specs.Link.{generated_methods}
use Rattle.linking.proofs.AbiLaws.{class-abi-room}
use Rattle.linking.proofs.Taken.{length-members, member_at}
use Rattle.linking.proofs.ChainLaws.{chain-within, own-target-member, own-method-member, parent-within}

-- each of the members to be added
abbrev pub EachNew : (New → Type 0) → List New → Type 0
EachNew R xs = (j : ℕ) → j < length xs → R (get_or xs j no_new)

-- each of the methods to be added, with the place whose signature it takes
abbrev pub EachTaken : (Taken → Type 0) → List Taken → Type 0
EachTaken R xs = (j : ℕ) → j < length xs → R (get_or xs j none_taken)

-- each method that a table knows
abbrev EachKnown : (ℕ → Type 0) → List Entry → Type 0
EachKnown S view = (i m : ℕ) → (get_or view i empty).method ≡ Some m → S m

pub none-new : (R : New → Type 0) → EachNew R []
none-new R j h = absurd (omega arith)

none-taken : (R : Taken → Type 0) → EachTaken R []
none-taken R j h = absurd (omega arith)

more-taken : (R : Taken → Type 0) (x : Taken) (xs : List Taken) → R x → EachTaken R xs → EachTaken R (x ∷ xs)
more-taken R x xs p q zero h = p
more-taken R x xs p q (suc j) h = q j (omega arith)

pub each_member : (R : New → Type 0) (xs : List Taken) → EachTaken (λ x. R x.member) xs → EachNew R (members xs)
each_member R xs h j k = rw (member_at xs j) (h j (rw (length-members xs) at k))

-- what is found along a list that is itself found
found-cons : {P : Type 0} (f : Option ℕ) (g : ℕ → Option ℕ) (rest : List ℕ) (s : ℕ) → ((a : ℕ) → f ≡ Some a → g a ≡ Some s → P)
    → (first_found g rest ≡ Some s → P) → first_found g (cons_found f rest) ≡ Some s → P
unfolding first_found
found-cons (Some a) g rest s h k e = by-found (g a) (λ n p. h a refl (p ∙ (rw p at e))) (λ p. k (rw p at e))
found-cons None g rest s h k e = k e

found_all : {P : Type 0} (f g : ℕ → Option ℕ) (xs : List ℕ) (s : ℕ) → ((x a : ℕ) → f x ≡ Some a → g a ≡ Some s → P)
    → first_found g (all_found f xs) ≡ Some s → P
unfolding all_found first_found
found_all f g [] s h e = not_found e
found_all f g (x ∷ xs) s h e = found-cons (f x) g (all_found f xs) s (h x) (found_all f g xs s h) e

-- ---- what Reading finds, and what an ABI entry fixes, is a record of the sheet, where each list lies in its section

module _ (same : Same) (ws text abi labels : List ℕ)
    (lists : (d : ℕ) → IsClass ws d → class_first_method ws d + class_method_count ws d ≤ method_count ws) where
  pub own_room : (d m : ℕ) → IsClass ws d → Memᴰ m (own_methods ws d) → m < method_count ws
  unfolding own_methods
  own_room d m k h =
      omega (
        arith,
        numbers-within (class_first_method ws d) (list_count (class_first_method ws d) (class_method_count ws d) method_limit) m h,
        lists d k,
      )

  fixed-room : (i d m : ℕ) → IsClass ws d → own_fixed same ws text abi labels i d ≡ Some m → m < method_count ws
  unfolding own_fixed
  fixed-room i d m k e =
      by-found (option_and_then (slot_at abi i) (class_abi ws text abi labels d))
      (λ s q. own_room d m k (own-method-member same ws _ d m (rw q at e)))
      (λ q. not_found (rw q at e))

  pub read-room : (c i w m : ℕ) → c ≤ class_count ws → (read_entry same ws text abi labels c i w).method ≡ Some m → m < method_count ws
  unfolding read_entry find_by_target find_by_index
  read-room c i w m h e =
      by-found (find_by_target ws c w)
      (λ k q.
      found-by (own_target ws w) (chain ws c) m
      (λ d t r. let z = chain-within ws c d t in own_room d m (omega arith, omega arith) (own-target-member ws w d m r)) (q ∙ (rw q at e)))
      (λ q.
      found-by (own_fixed same ws text abi labels i) (chain ws c) m
      (λ d t r. let z = chain-within ws c d t in fixed-room i d m (omega arith, omega arith) r) (rw q at e))

-- a slot that a class's own ABI entry or its interfaces' have at an index is one of an ABI class of the sheet
pub source-slot : (ws text abi labels : List ℕ) (c i z : ℕ) → first_found (slot_at abi i) (signature_sources ws text abi labels c) ≡ Some z
    → (a : ℕ) × ((a < abi_class_count abi) × Memᴰ z (abi_slots abi a))
unfolding signature_sources slot_at
source-slot ws text abi labels c i z e =
    found-cons (class_abi ws text abi labels c) (slot_at abi i) (all_found (λ k. class_abi ws text abi labels (interface_word ws k)) (own_interfaces ws c)) z
    (λ a q r. here c a q r)
    (λ g. found_all (λ k. class_abi ws text abi labels (interface_word ws k)) (slot_at abi i) (own_interfaces ws c) z
    (λ k a q r. here (interface_word ws k) a q r) g)
    e
  where
    here : (d a : ℕ) → class_abi ws text abi labels d ≡ Some a → slot_at abi i a ≡ Some z → (b : ℕ) × ((b < abi_class_count abi) × Memᴰ z (abi_slots abi b))
    here d a q r = (a, (class-abi-room ws text abi labels d a q, find-member (λ k. eqb (slot_index abi k) i) (abi_slots abi a) z r))

-- the slots of an ABI class are records of its section
pub listed-room : (abi : List ℕ) → ((a : ℕ) → a < abi_class_count abi → abi_class_first_slot abi a + abi_class_slot_count abi a ≤ abi_slot_count abi)
    → (a s : ℕ) → a < abi_class_count abi → Memᴰ s (abi_slots abi a) → s < abi_slot_count abi
unfolding abi_slots
listed-room abi slots a s n t =
    omega (
      arith,
      numbers-within (abi_class_first_slot abi a) (list_count (abi_class_first_slot abi a) (abi_class_slot_count abi a) abi_slot_limit) s t,
      slots a n,
    )

pub slot-room : (ws text abi labels : List ℕ)
    → ((a : ℕ) → a < abi_class_count abi → abi_class_first_slot abi a + abi_class_slot_count abi a ≤ abi_slot_count abi)
    → (i a s d : ℕ) → class_abi ws text abi labels d ≡ Some a → slot_at abi i a ≡ Some s → s < abi_slot_count abi
unfolding slot_at
slot-room ws text abi labels slots i a s d e f =
    listed-room abi slots a s (class-abi-room ws text abi labels d a e) (find-member (λ k. eqb (slot_index abi k) i) (abi_slots abi a) s f)

-- ---- each method that is added: `Source` holds of the methods that the native view knows

module _ (same : Same) (ws text abi labels : List ℕ) (Source : ℕ → Type 0) (R : Taken → Type 0)
    (method : (m target : ℕ) → Source m → R (from_method ws text m target))
    (slot : (a s target : ℕ) → a < abi_class_count abi → Memᴰ s (abi_slots abi a) → R (from_slot abi labels s target)) where
  named : (c : ℕ) (x : Taken) (xs : List Taken) → R x → EachTaken R xs → EachTaken R (add_named same ws c x xs)
  unfolding add_named
  named c x xs p q = by (is_declared same ws c x) (λ e. rw e q) (λ e. rw e (more-taken R x xs p q))

  from : (c i target : ℕ) (found : Option ℕ) (xs : List Taken) → ((m : ℕ) → found ≡ Some m → Source m) → EachTaken R xs
      → EachTaken R (add_from same ws text abi labels c i target found xs)
  from c i target found xs f h =
      by-found found
      (λ m e. rw e (named c (from_method ws text m target) xs (method m target (f m e)) h))
      (λ e.
      rw e
      (by-found (first_found (slot_at abi i) (signature_sources ws text abi labels c))
      (λ s q.
      let l = source-slot ws text abi labels c i s q in
      rw q (named c (from_slot abi labels s target) xs (slot l.0 s target l.1.0 l.1.1) h))
      (λ q. rw q h)))

  added-from : (c : ℕ) (view : List Entry) → EachKnown Source view → (i : ℕ) (ts : List ℕ)
      → EachTaken R (added_from same ws text abi labels c view i ts)
  unfolding added_from
  added-from c view h i [] = none-taken R
  added-from c view h i (t ∷ ts) =
      let g = added-from c view h (i + 1) ts in
      by (eqb t 0 || eqb t (get_or view i empty).word) (λ e. rw e g)
      (λ e. rw e (from c i t (get_or view i empty).method (added_from same ws text abi labels c view (i + 1) ts) (h i) g))

  added-known : (area : List ℕ) (c : ℕ) → EachKnown Source (native_view same ws text abi labels area c)
      → EachTaken R (added_methods same ws text abi labels area c)
  unfolding added_methods
  added-known area c h = added-from c (native_view same ws text abi labels area c) h 0 (compiler_targets ws c)

-- name and descriptor of each are those of the place that it takes its signature from
pub record Signs (ws text abi labels : List ℕ) (x : Taken) : Type 0 where
  pub name : x.member.name ≡ place_name ws text abi labels x.from
  pub descriptor : x.member.descriptor ≡ place_descriptor ws text abi labels x.from

pub added-signs : (same : Same) (ws text abi labels area : List ℕ) (c : ℕ) → EachTaken (Signs ws text abi labels) (added_methods same ws text abi labels area c)
unfolding place_name place_descriptor
added-signs same ws text abi labels area c =
    added-known same ws text abi labels (λ m. Unit {0}) (Signs ws text abi labels) (λ m target h. record { name = refl; descriptor = refl })
    (λ a s target n i. record { name = refl; descriptor = refl }) area c (λ i m e. tt)

-- ---- of a class of the set: what its native view knows is a record of the sheet

module _ (same : Same) (ws text abi labels : List ℕ)
    (lists : (d : ℕ) → IsClass ws d → class_first_method ws d + class_method_count ws d ≤ method_count ws) where
  abbrev Room : List Entry → Type 0
  Room = EachKnown (λ m. m < method_count ws)

  view-room : (abis : List ℕ) (j : ℕ) (es : List Entry) → Room es → Room (view_from same ws abi abis j es)
  unfolding view_from
  view-room abis j [] h i m e = h i m e
  view-room abis j (x ∷ es) h zero m e =
      by (is_emptied same ws abi abis j x) (λ q. not_found (rw q at e)) (λ q. h 0 m (rw q at e))
  view-room abis j (x ∷ es) h (suc i) m e = view-room abis (j + 1) es (λ k. h (suc k)) i m e

  entries-room : (area : List ℕ) (c i n : ℕ) → c ≤ class_count ws → Room (list_from (read_slot same ws text abi labels area c) i n)
  unfolding list_from read_slot
  entries-room area c i zero h j m e = not_found e
  entries-room area c i (suc n) h zero m e = read-room same ws text abi labels lists c i _ m h e
  entries-room area c i (suc n) h (suc j) m e = entries-room area c (i + 1) n h j m e

  parent-room : (area : List ℕ) (c : ℕ) → c ≤ class_count ws → Room (parent_entries same ws text abi labels area c)
  unfolding parent_entries table_entries
  parent-room area c h =
      let w = parent-within ws c in
      by (eqb (parent_of ws c) 0) (λ q. rw q (λ i m e. not_found e)) (λ q. rw q (entries-room area (parent_of ws c) 0 _ (omega arith)))

  native_room : (area : List ℕ) (c : ℕ) → c ≤ class_count ws → Room (native_view same ws text abi labels area c)
  unfolding native_view
  native_room area c h =
      view-room (chain_abi ws text abi labels (parent_of ws c)) 0 (parent_entries same ws text abi labels area c) (parent-room area c h)

  module _ (slots : (a : ℕ) → a < abi_class_count abi → abi_class_first_slot abi a + abi_class_slot_count abi a ≤ abi_slot_count abi) where
    added-each : (R : Taken → Type 0) → ((m target : ℕ) → m < method_count ws → R (from_method ws text m target))
        → ((s target : ℕ) → s < abi_slot_count abi → R (from_slot abi labels s target))
        → (area : List ℕ) (c : ℕ) → c ≤ class_count ws → EachTaken R (added_methods same ws text abi labels area c)
    added-each R method slot area c h =
        added-known same ws text abi labels (λ m. m < method_count ws) R method (λ a s target n i. slot s target (listed-room abi slots a s n i))
        area c (native_room area c h)

    pub generated_taken : (R : Taken → Type 0) → ((m target : ℕ) → m < method_count ws → R (from_method ws text m target))
        → ((s target : ℕ) → s < abi_slot_count abi → R (from_slot abi labels s target))
        → (area : List ℕ) (c : ℕ) → c ≤ class_count ws → EachTaken R (generated_methods same ws text abi labels area c)
    unfolding generated_methods
    generated_taken R method slot area c h =
        by (eqb (class_compiler_table ws c) 0) (λ q. rw q (none-taken R)) (λ q. rw q (added-each R method slot area c h))

    -- and of their members
    pub generated-each : (R : New → Type 0) → ((m target : ℕ) → m < method_count ws → R (from_method ws text m target).member)
        → ((s target : ℕ) → s < abi_slot_count abi → R (from_slot abi labels s target).member)
        → (area : List ℕ) (c : ℕ) → c ≤ class_count ws → EachNew R (members (generated_methods same ws text abi labels area c))
    generated-each R method slot area c h =
        each_member R (generated_methods same ws text abi labels area c) (generated_taken (λ x. R x.member) method slot area c h)

-- ---- their descriptors

-- only 0x0008 counts, and a method without 0x0400 keeps it
pub same_receiver : (a b : ℕ) (s : List ℕ) → receiver_words a ≡ receiver_words b → is_method a s ≡ is_method b s
unfolding is_method
same_receiver a b s e = rw e

pub abstract_receiver : (flags : ℕ) → receiver_words (without_abstract flags) ≡ receiver_words flags
abstract_receiver flags =
    by (is_abstract flags) (λ e. rw e (omega (arith, eqb-true (flags / 1024 % 2) 1 e))) (λ e. rw e)

-- ---- of any number: what stays in a native view is held by a class of the set, or has the signature of an ABI slot

found_take : {P : Type 0} (f : ℕ → Option ℕ) (n : ℕ) (xs : List ℕ) (s : ℕ) → (first_found f xs ≡ Some s → P) → first_found f (take n xs) ≡ Some s → P
unfolding first_found
found_take f zero xs s h e = not_found e
found_take f (suc n) [] s h e = not_found e
found_take f (suc n) (x ∷ xs) s h e =
    by-found (f x) (λ k q. h (rw q (rw q at e))) (λ q. found_take f n xs s (λ r. h (rw q r)) (rw q at e))

module _ (ws abi : List ℕ) (v : Valid ws) (w : ValidAbi abi) where
  abbrev text : List ℕ
  text = text_of ws

  abbrev labels : List ℕ
  labels = abi_text_of abi

  -- within the limit, by its own flags
  abbrev Within : ℕ → Type 0
  Within m = is_method (method_flags ws m) (method_descriptor ws text m) ≡ true

  method-within : (m : ℕ) → m < method_count ws → Within m
  method-within m h = meaning.valid_complete (method_descriptor ws text m) (method_flags ws m) (v.method m h).derivation

  slot-within : (s flags : ℕ) → s < abi_slot_count abi → is_method flags (abi_slot_descriptor abi labels s) ≡ true
  slot-within s flags h = meaning.static_more _ flags (meaning.valid_complete _ 0 (w.slot s h).derivation)

  -- its owner's link state is 3: a class of the set holds it
  owned_within : (m : ℕ) → eqb (owner_state ws m) 3 ≡ true → Within m
  unfolding owner_state holds
  owned_within m e =
      by-found (find (holds ws m) (numbers 1 (class_count ws)))
      (λ d q.
      let r = find-within (holds ws m) 1 (class_count ws) d q in
      let t = and_both (leb (class_first_method ws d) m) (ltb m (class_first_method ws d + class_method_count ws d))
      (find-passes (holds ws m) (numbers 1 (class_count ws)) d q) in
      method-within m (omega (arith, ltb-true m (class_first_method ws d + class_method_count ws d) t.1, (v.class d (omega arith, omega arith)).methods)))
      (λ q. absurd (false≢true (rw q at e)))

  -- its index is fixed: a slot of that ABI class has its signature
  signed-within : (m a k : ℕ) → a < abi_class_count abi
      → vtable_index (by_sheets ws abi) abi (of_method m) a ≡ Some k → Within m
  unfolding vtable_index by_bytes place_name place_descriptor
  signed-within m a k h e =
      by-found (find (λ s. by_sheets ws abi (of_abi_slot s) (of_method m)) (abi_slots abi a))
      (λ s q.
      let n = listed-room abi (λ a k. (w.class a k).slots) a s h (find-member _ (abi_slots abi a) s q) in
      let r = and_both (same_bytes (abi_slot_name abi labels s) (method_name ws text m))
      (same_bytes (abi_slot_descriptor abi labels s) (method_descriptor ws text m))
      (find-passes (λ s. by_sheets ws abi (of_abi_slot s) (of_method m)) (abi_slots abi a) s q) in
      rw (sym (same-is (abi_slot_descriptor abi labels s) (method_descriptor ws text m) r.1)) (slot-within s (method_flags ws m) n))
      (λ q. not_found (rw q at e))

  fixed-within : (m d k : ℕ) → fixed_of (by_sheets ws abi) abi (chain_abi ws text abi labels d) m ≡ Some k → Within m
  unfolding fixed_of fixed_index chain_abi
  fixed-within m d k e =
      found_take (vtable_index (by_sheets ws abi) abi (of_method m)) class_limit
      (all_found (class_abi ws text abi labels) (chain ws d)) k
      (found_all (class_abi ws text abi labels) (vtable_index (by_sheets ws abi) abi (of_method m)) (chain ws d) k
      (λ x a q r. signed-within m a k (class-abi-room ws text abi labels x a q) r))
      e

  -- a native view knows what it has not emptied
  kept-within : (d i : ℕ) (x : Entry) (m : ℕ) → x.method ≡ Some m → is_emptied (by_sheets ws abi) ws abi (chain_abi ws text abi labels d) i x ≡ false → Within m
  unfolding is_emptied
  kept-within d i x m q e =
      let f : (not (eqb (owner_state ws m) 3)
      && not (on_found (fixed_of (by_sheets ws abi) abi (chain_abi ws text abi labels d) m) (eqb i) false))
      ≡ false = rw q at e in
      by (eqb (owner_state ws m) 3) (owned_within m)
      (λ n.
      by-found (fixed_of (by_sheets ws abi) abi (chain_abi ws text abi labels d) m) (λ k. fixed-within m d k)
      (λ r. absurd (true≢false (rw (n, r) at f))))

  view-within : (d i : ℕ) (es : List Entry) → EachKnown Within (view_from (by_sheets ws abi) ws abi (chain_abi ws text abi labels d) i es)
  unfolding view_from
  view-within d i [] j m e = not_found e
  view-within d i (x ∷ es) zero m e =
      by (is_emptied (by_sheets ws abi) ws abi (chain_abi ws text abi labels d) i x) (λ q. not_found (rw q at e))
      (λ q. kept-within d i x m (rw q at e) q)
  view-within d i (x ∷ es) (suc j) m e = view-within d (i + 1) es j m e

  native_within : (area : List ℕ) (c : ℕ) → EachKnown Within (native_view (by_sheets ws abi) ws text abi labels area c)
  unfolding native_view
  native_within area c = view-within (parent_of ws c) 0 (parent_entries (by_sheets ws abi) ws text abi labels area c)

  -- each method that is added is within the limit of argument words, by its own flags: of any number, also of one above the class count
  pub added-within : (area : List ℕ) (c : ℕ)
      → EachNew (λ x. is_method x.flags x.descriptor ≡ true) (members (added_methods (by_sheets ws abi) ws text abi labels area c))
  added-within area c =
      each_member (λ x. is_method x.flags x.descriptor ≡ true) (added_methods (by_sheets ws abi) ws text abi labels area c)
      (added-known (by_sheets ws abi) ws text abi labels Within
      (λ x. is_method x.member.flags x.member.descriptor ≡ true)
      (λ m target h. same_receiver _ (method_flags ws m) _ (abstract_receiver (method_flags ws m)) ∙ h)
      (λ a s target n i. slot-within s 1 (listed-room abi (λ b k. (w.class b k).slots) a s n i)) area c (native_within area c))
