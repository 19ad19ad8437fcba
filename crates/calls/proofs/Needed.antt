-- Each premise of demand 3 is needed, and each half of orderly: a list for each, in which the class is linked, all premises but that one hold, and the
-- claim fails. The rows are proved of calls that compare bytes, and so of those by the list that a filling leaves; then three by a list of numbers that is not
-- filled from the very set and ABI sheet. Of the half "each index one signature" less is enough: no class of the chain inherits two signatures of one index
-- (`one-index-enough`, Theorem.antt). Assumes nothing.
use Rattle.std.proofs.Common.{◌≡◌, refl, sym, ap, ◌∙◌, inl, inr, ◌≢◌, ◌⊎◌, Bool, true, false, true≢false, List, [], ◌∷◌, ℕ, ◌<◌, arith, length, get_or, replicate, Some, None}
use mathlib.Core.List.Memᴰ
use Rattle.std.specs.Prelude.{Option}
use Rattle.class_sheet.specs.ClassSheet.{text_of, method_name, method_descriptor}
use Rattle.abi_sheet.specs.AbiSheet.{abi_text_of}
use Rattle.linking.specs.Signature.{by_sheets}
use Rattle.linking.specs.Chain.{own_methods, parent_of}
use Rattle.linking.specs.Abi.{class_abi}
use Rattle.linking.specs.Vtable.{read_entry}
use Rattle.linking.proofs.Assemble.{Class, AbiClass, method, flagged, built, compiled, having, linked_at, slot, abi, sized, class_sheet, abi_sheet, fresh, sevens}
use Rattle.linking.proofs.Packaged.{packaged, foo}
use Rattle.linking.specs.Numbers.{numbers_of, Filled}
use Rattle.linking.proofs.Opened.{opened}
use Rattle.slots.specs.Slots.{Unique, Known, Kept}
use Rattle.words.proofs.ListLaws.{not_found}
use Rattle.slots.proofs.ListFacts.{in_none}
use Rattle.calls.specs.Calls.{Call, link, Way, numbered, bytewise, State, start, left, Unlinked, now, later, table_at, lent_now}
use Rattle.calls.specs.Demand.{Conditions, table, Linked, Claim}
use Rattle.calls.proofs.Tests.{Passes, conditions, is_unlinked, unlinked-holds, by_old_rule, old-holds, OneIndex, one_index-holds, verdicts, shown, numbering}
use Rattle.calls.proofs.RunsAgree.{filling_filled, linked_by_numbers, faithful, left_as_bytes}
use Rattle.calls.proofs.ByNumbers.{claim_of_bytes}

pub record Case : Type 0 where
  pub set : List ℕ
  pub sheet : List ℕ
  pub area : List ℕ
  pub missing : List ℕ
  pub calls : List Call

abbrev pub from : List Class → List AbiClass → List Call → Case
from cs entries ks = record { set = class_sheet cs; sheet = abi_sheet entries; area = fresh 23; missing = sevens (length cs); calls = ks }

found-one : {m k : ℕ} → ◌≡◌ {A = Option ℕ} (Some m) (Some k) → m ≡ k
found-one e = cc

-- the list that a filling of the two sheets leaves
abbrev pub filling : Case → List ℕ
filling x = numbers_of x.set x.sheet

abbrev pub filled : Case → Way
filled x = numbered (filling x)

module _ (x : Case) where
  -- slot i of a table reads as method m
  abbrev pub Reads : ℕ → List ℕ → ℕ → ℕ → Type 0
  Reads c t i m = (read_entry (by_sheets x.set x.sheet) x.set (text_of x.set) x.sheet (abi_text_of x.sheet) c i (get_or t i 0)).method ≡ Some m

  a_known : (c : ℕ) (t u : List ℕ) → t ≡ u → (i m : ℕ) → i < length u → Reads c u i m
      → Known x.set (text_of x.set) x.sheet (abi_text_of x.sheet) c t i m
  a_known c t u e i m h r = rw e (record { slot = h; reads = r })

  -- a known slot of the parent's table is not known in the child's, or known with another name, or the child's target there is neither the parent's nor that
  -- of a method which the child declares

  abbrev pub KeptAt : ℕ → List ℕ → List ℕ → Type 0
  KeptAt c t q = Kept x.set (text_of x.set) x.sheet (abi_text_of x.sheet) c t q

  module _ (c : ℕ) (t q u v : List ℕ) (child : t ≡ u) (parent : q ≡ v) (i m : ℕ) (h : i < length v) (known : Reads (parent_of x.set c) v i m) where
    not_known : (read_entry (by_sheets x.set x.sheet) x.set (text_of x.set) x.sheet (abi_text_of x.sheet) c i (get_or u i 0)).method ≡ None → KeptAt c t q → ⊥
    not_known r kept =
        let g = kept i m (a_known (parent_of x.set c) q v parent i m h known) in
        not_found (sym r ∙ (rw child at g.known.reads))

    other-name : (k : ℕ) → Reads c u i k → method_name x.set (text_of x.set) k ≢ method_name x.set (text_of x.set) m → KeptAt c t q → ⊥
    other-name k r d kept =
        let g = kept i m (a_known (parent_of x.set c) q v parent i m h known) in
        let e : k ≡ g.method = found-one (sym r ∙ (rw child at g.known.reads)) in
        d (ap (method_name x.set (text_of x.set)) e ∙ g.signature.name)

    other-target : get_or u i 0 ≢ get_or v i 0 → own_methods x.set c ≡ [] → KeptAt c t q → ⊥
    other-target d bare kept =
        let g = kept i m (a_known (parent_of x.set c) q v parent i m h known) in
        elim g.target [
          | inl s ↦ d (ap (λ (t : List ℕ). get_or t i 0) (sym child) ∙ s ∙ ap (λ (t : List ℕ). get_or t i 0) parent)
          | inr s ↦ in_none bare s.own
        ]

module _ (x : Case) (way : Way) where
  abbrev pub LinkedAt : ℕ → ℕ → ℕ → Type 0
  LinkedAt c p n = Linked way x.set x.sheet x.area x.missing x.calls c p n

  abbrev pub final_table : ℕ → ℕ → List ℕ
  final_table p n = table way x.set x.sheet x.area x.missing x.calls p n

  abbrev pub Holds : ℕ → ℕ → ℕ → Type 0
  Holds c p n = Claim way x.set x.sheet x.area x.missing x.calls c p n

  -- two known slots have one signature
  not-unique : (c p n : ℕ) (u : List ℕ) → final_table p n ≡ u → (i j m k : ℕ) → i ≢ j → i < length u → j < length u → Reads x c u i m → Reads x c u j k
      → method_name x.set (text_of x.set) m ≡ method_name x.set (text_of x.set) k
      → method_descriptor x.set (text_of x.set) m ≡ method_descriptor x.set (text_of x.set) k
      → Unique x.set (text_of x.set) x.sheet (abi_text_of x.sheet) c (final_table p n) → ⊥
  not-unique c p n u e i j m k d hi hj ri rj a b unique =
      d
      (unique i j m k (a_known x c (final_table p n) u e i m hi ri) (a_known x c (final_table p n) u e j k hj rj)
      (record { name = a; descriptor = b }))

  -- so by the old rule
  twice : (c p n : ℕ) (u : List ℕ) → final_table p n ≡ u → (i j m k : ℕ) → i ≢ j → i < length u → j < length u → Reads x c u i m → Reads x c u j k
      → method_name x.set (text_of x.set) m ≡ method_name x.set (text_of x.set) k
      → method_descriptor x.set (text_of x.set) m ≡ method_descriptor x.set (text_of x.set) k
      → by_old_rule x.set x.sheet x.calls c ≡ true → Holds c p n → ⊥
  twice c p n u e i j m k d hi hj ri rj a b old claim =
      not-unique c p n u e i j m k d hi hj ri rj a b (claim.unique (old-holds x.set x.sheet x.calls c old))

  -- the parent's slots are not kept: then the claim fails
  module _ (c p n p' n' : ℕ) (has : parent_of x.set c ≢ 0)
      (none : class_abi x.set (text_of x.set) x.sheet (abi_text_of x.sheet) c ≡ None) (linked : LinkedAt (parent_of x.set c) p' n') where
    broken : (KeptAt x c (final_table p n) (final_table p' n') → ⊥) → Holds c p n → ⊥
    broken f claim = f ((claim.keeps_parent has none).kept p' n' linked)

-- the class is linked in the list; of the premises, `unlinked` and the tests in the order of `Conditions` are as written, so that demand 3 does not
-- speak to it; and the claim fails
pub record Breaks (x : Case) (way : Way) (c p n : ℕ) (unlinked : Bool) (tests : List Bool) : Type 0 where
  pub start_is : is_unlinked x.set ≡ unlinked
  pub premises : verdicts x.set x.sheet x.calls c ≡ tests
  pub outside : Unlinked x.set → Conditions x.set x.sheet x.calls c → ⊥
  pub linked : LinkedAt x way c p n
  pub fails : Holds x way c p n → ⊥

-- so is it by the list that a filling leaves, whose run is the one by bytes

by-filling : (x : Case) → Filled x.set x.sheet (filling x)
by-filling x = filling_filled x.set x.sheet

module _ (x : Case) where
  linked_filled : {c p n : ℕ} → LinkedAt x bytewise c p n → LinkedAt x (filled x) c p n
  linked_filled j =
      linked_by_numbers x.sheet x.calls (filling x) (start x.set x.area x.missing)
      (faithful x.set x.sheet x.area x.missing (filling x) (by-filling x)) j

  same-left : left (filled x) x.set x.sheet x.area x.missing x.calls ≡ left bytewise x.set x.sheet x.area x.missing x.calls
  same-left = left_as_bytes x.set x.sheet x.area x.missing (filling x) (by-filling x) x.calls

  same-table : (p n : ℕ) → final_table x (filled x) p n ≡ final_table x bytewise p n
  same-table p n = ap (λ (s : State). table_at s.area p n) same-left

  fails_filled : {c p n : ℕ} → (Holds x bytewise c p n → ⊥) → Holds x (filled x) c p n → ⊥
  fails_filled {c} {p} {n} f h =
      f (claim_of_bytes x.set x.sheet x.area x.missing (filling x)
      (faithful x.set x.sheet x.area x.missing (filling x) (by-filling x)) x.calls c p n same-left h)

  breaks_filled : {c p n : ℕ} {unlinked : Bool} {tests : List Bool} → Breaks x bytewise c p n unlinked tests → Breaks x (filled x) c p n unlinked tests
  breaks_filled b = record {
    start_is = b.start_is;
    premises = b.premises;
    outside = b.outside;
    linked = linked_filled b.linked;
    fails = fails_filled b.fails;
  }

-- m is not k
apart : {m k : ℕ} → m ≡ k → m ≢ k → ⊥
apart e n = n e

-- a is none of b, c and d
neither : {a b c d : ℕ} → (a ≡ b) ⊎ ((a ≡ c) ⊎ (a ≡ d)) → a ≢ b → a ≢ c → a ≢ d → ⊥
neither (inl e) m n o = m e
neither (inr (inl e)) m n o = n e
neither (inr (inr e)) m n o = o e

-- ---- "from an unlinked sheet": a table that lay in the area before holds one target twice

unfoldable pub linked_before : Case
linked_before =
    record {
      set = class_sheet (linked_at 1 2 (built "P" 0 (method "a" 5 ∷ []) []) ∷ built "C" 1 [] [] ∷ []);
      sheet = abi_sheet [];
      area = 5 ∷ 1 ∷ 5 ∷ 5 ∷ 0 ∷ replicate 10 0;
      missing = sevens 2;
      calls = link 2 (901 ∷ 902 ∷ []) ∷ [];
    }

unlinked-needed : Breaks linked_before bytewise 2 5 2 false (true ∷ true ∷ true ∷ true ∷ true ∷ true ∷ true ∷ [])
unfolding opened shown linked_before
unlinked-needed = record {
  start_is = refl;
  premises = refl;
  outside = λ u k. apart (u 1 (omega arith) (omega arith)) (omega arith);
  linked = now (901 ∷ 902 ∷ []) refl refl refl;
  fails = twice linked_before bytewise 2 5 2 (5 ∷ 5 ∷ []) refl 0 1 0 0 (omega arith) (omega arith) (omega arith) refl refl refl refl refl;
}

-- ---- "only built and array classes": a generated class's compiler table lies over the parent's slot

unfoldable pub generated_child : Case
generated_child =
    from (built "P" 0 (method "a" 5 ∷ []) [] ∷ compiled "G" 1 [] (7 ∷ []) ∷ []) [] (link 1 (901 ∷ []) ∷ link 2 (902 ∷ 903 ∷ []) ∷ [])

kinds-needed : Breaks generated_child bytewise 2 4 2 true (false ∷ true ∷ true ∷ true ∷ true ∷ true ∷ true ∷ [])
unfolding opened shown generated_child
kinds-needed = record {
  start_is = refl;
  premises = refl;
  outside = λ u k. neither (k.kinds 2 (Memᴰ.head refl)) (omega arith) (omega arith) (omega arith);
  linked = later (now (902 ∷ 903 ∷ []) refl refl refl);
  fails =
      broken generated_child bytewise 2 4 2 1 1 (omega arith) refl (now (901 ∷ []) refl refl refl)
      (not_known generated_child 2 (final_table generated_child bytewise 4 2)
      (final_table generated_child bytewise 1 1) (7 ∷ 5 ∷ []) (5 ∷ []) refl refl 0 0 (omega arith) refl refl);
}

-- ---- "none of them an interface": an interface's table has its own methods alone

unfoldable pub interface_child : Case
interface_child = from (built "P" 0 (method "a" 5 ∷ []) [] ∷ having 513 0 0 (built "I" 1 [] []) ∷ []) [] (link 1 (901 ∷ []) ∷ link 2 [] ∷ [])

no_interface-needed : Breaks interface_child bytewise 2 4 0 true (true ∷ false ∷ true ∷ true ∷ true ∷ true ∷ true ∷ [])
unfolding opened shown interface_child
no_interface-needed = record {
  start_is = refl;
  premises = refl;
  outside = λ u k. true≢false (k.no_interface 2 (Memᴰ.head refl));
  linked = later (now [] refl refl refl);
  fails =
      broken interface_child bytewise 2 4 0 1 1 (omega arith) refl (now (901 ∷ []) refl refl refl)
      (not_known interface_child 2 (final_table interface_child bytewise 4 0) (final_table interface_child bytewise 1 1) [] (5 ∷ []) refl refl 0 0
      (omega arith) refl refl);
}

-- ---- "under an orderly ABI sheet": "each signature (name and descriptor) has one index". Here one is fixed at two indices, and Reading knows the
-- empty one by its index

unfoldable pub two_indices : Case
two_indices = from (built "C" 0 (method "a" 5 ∷ []) [] ∷ []) (abi "C" (slot "a" 0 ∷ slot "a" 1 ∷ []) [] ∷ []) (link 1 (901 ∷ 902 ∷ []) ∷ [])

orderly-needed : Breaks two_indices bytewise 1 1 2 true (true ∷ true ∷ false ∷ true ∷ true ∷ true ∷ true ∷ [])
unfolding opened shown two_indices
orderly-needed = record {
  start_is = refl;
  premises = refl;
  outside = λ u k.
      apart
      (k.orderly.one_index 0 1 (record { class = 1; along = Memᴰ.head refl; entry = 0; named = refl; own = Memᴰ.head refl })
      (record { class = 1; along = Memᴰ.head refl; entry = 0; named = refl; own = Memᴰ.tail (Memᴰ.head refl) }) refl refl)
      (omega arith);
  linked = now (901 ∷ 902 ∷ []) refl refl refl;
  fails = twice two_indices bytewise 1 1 2 (5 ∷ 902 ∷ []) refl 0 1 0 0 (omega arith) (omega arith) (omega arith) refl refl refl refl refl;
}

-- ---- "and each index one signature". C inherits a, which is known by its index alone and stays at 0, and b, of the same index, which follows. Slot 0
-- then reads, by C's own entry, as the b that C declares, which is static: b is shown twice

unfoldable pub shared_index : Case
shared_index =
    from (built "P" 0 (flagged 9 "a" 5 ∷ method "b" 6 ∷ []) [] ∷ built "C" 1 (flagged 9 "b" 7 ∷ []) [] ∷ [])
    (abi "P" (slot "a" 0 ∷ []) [] ∷ abi "C" (slot "b" 0 ∷ slot "a" 0 ∷ []) [] ∷ [])
    (link 1 (901 ∷ 902 ∷ []) ∷ link 2 (911 ∷ 912 ∷ []) ∷ [])

pub record SharedIndex (way : Way) : Type 0 where
  pub breaks : Breaks shared_index way 2 5 2 true (true ∷ true ∷ false ∷ true ∷ true ∷ true ∷ true ∷ [])
  -- the other half holds
  pub one_index : OneIndex shared_index.set shared_index.sheet shared_index.calls 2

shared-index : SharedIndex bytewise
unfolding opened shown shared_index
shared-index = record {
  breaks = record {
    start_is = refl;
    premises = refl;
    outside = λ u k.
        apart
        (ap (λ (n : List ℕ). get_or n 0 0)
        (k.orderly.one_name 0 1 (record { class = 1; along = Memᴰ.tail (Memᴰ.head refl); entry = 0; named = refl; own = Memᴰ.head refl })
        (record { class = 2; along = Memᴰ.head refl; entry = 1; named = refl; own = Memᴰ.head refl }) refl))
        (omega arith);
    linked = later (now (911 ∷ 912 ∷ []) refl refl refl);
    fails = twice shared_index bytewise 2 5 2 (901 ∷ 6 ∷ []) refl 0 1 2 1 (omega arith) (omega arith) (omega arith) refl refl refl refl refl;
  };
  one_index = one_index-holds shared_index.set shared_index.sheet shared_index.calls 2 refl;
}

-- ---- "the chain's method targets and all stubs lent are nonzero", of the targets: a method of target 0 leaves a stub where the parent's slot was known

unfoldable pub zero_target : Case
zero_target =
    from (built "P" 0 (method "a" 5 ∷ []) [] ∷ built "C" 1 (method "a" 0 ∷ []) [] ∷ []) [] (link 1 (901 ∷ []) ∷ link 2 (902 ∷ []) ∷ [])

targets_nonzero-needed : Breaks zero_target bytewise 2 4 1 true (true ∷ true ∷ true ∷ false ∷ true ∷ true ∷ true ∷ [])
unfolding opened shown zero_target
targets_nonzero-needed = record {
  start_is = refl;
  premises = refl;
  outside = λ u k. k.nonzero_targets 1 (record { owner = 2; along = Memᴰ.head refl; own = Memᴰ.head refl }) refl;
  linked = later (now (902 ∷ []) refl refl refl);
  fails =
      broken zero_target bytewise 2 4 1 1 1 (omega arith) refl (now (901 ∷ []) refl refl refl)
      (not_known zero_target 2 (final_table zero_target bytewise 4 1) (final_table zero_target bytewise 1 1) (902 ∷ []) (5 ∷ []) refl refl 0 0
      (omega arith) refl refl);
}

-- ---- "all stubs lent are nonzero": a slot that is known by its index alone holds a stub 0, and the child's link puts its own stub there

unfoldable pub zero_stub : Case
zero_stub =
    from (built "P" 0 (flagged 9 "a" 5 ∷ []) [] ∷ built "C" 1 [] [] ∷ []) (abi "P" (slot "a" 0 ∷ []) [] ∷ [])
    (link 1 (0 ∷ []) ∷ link 2 (902 ∷ []) ∷ [])

stubs-nonzero-needed : Breaks zero_stub bytewise 2 4 1 true (true ∷ true ∷ true ∷ true ∷ false ∷ true ∷ true ∷ [])
unfolding opened shown zero_stub
stubs-nonzero-needed = record {
  start_is = refl;
  premises = refl;
  outside = λ u k. k.nonzero_stubs 0 (lent_now (Memᴰ.head refl)) refl;
  linked = later (now (902 ∷ []) refl refl refl);
  fails =
      broken zero_stub bytewise 2 4 1 1 1 (omega arith) refl (now (0 ∷ []) refl refl refl)
      (other-target zero_stub 2 (final_table zero_stub bytewise 4 1) (final_table zero_stub bytewise 1 1)
      (902 ∷ []) (0 ∷ []) refl refl 0 0 (omega arith) refl (omega arith) refl);
}

-- ---- "the targets all different": two methods of one target read as the first

unfoldable pub same_targets : Case
same_targets = from (built "C" 0 (method "a" 5 ∷ method "b" 5 ∷ []) [] ∷ []) [] (link 1 (901 ∷ 902 ∷ []) ∷ [])

targets_different-needed : Breaks same_targets bytewise 1 1 2 true (true ∷ true ∷ true ∷ true ∷ true ∷ false ∷ true ∷ [])
unfolding opened shown same_targets
targets_different-needed = record {
  start_is = refl;
  premises = refl;
  outside = λ u k.
      apart
      (k.different_targets 0 1 (record { owner = 1; along = Memᴰ.head refl; own = Memᴰ.head refl })
      (record { owner = 1; along = Memᴰ.head refl; own = Memᴰ.tail (Memᴰ.head refl) }) refl)
      (omega arith);
  linked = now (901 ∷ 902 ∷ []) refl refl refl;
  fails = twice same_targets bytewise 1 1 2 (5 ∷ 5 ∷ []) refl 0 1 0 0 (omega arith) (omega arith) (omega arith) refl refl refl refl refl;
}

-- ---- "and none of them a stub": a stub that is a method's target reads as that method

unfoldable pub stub_target : Case
stub_target = from (built "C" 0 (method "a" 902 ∷ []) [] ∷ []) (sized 2 (abi "C" [] []) ∷ []) (link 1 (901 ∷ 902 ∷ 903 ∷ []) ∷ [])

no_stub-needed : Breaks stub_target bytewise 1 1 3 true (true ∷ true ∷ true ∷ true ∷ true ∷ true ∷ false ∷ [])
unfolding opened shown stub_target
no_stub-needed = record {
  start_is = refl;
  premises = refl;
  outside = λ u k. k.no_stub 902 0 (lent_now (Memᴰ.tail (Memᴰ.head refl))) (record { owner = 1; along = Memᴰ.head refl; own = Memᴰ.head refl }) refl;
  linked = now (901 ∷ 902 ∷ 903 ∷ []) refl refl refl;
  fails = twice stub_target bytewise 1 1 3 (901 ∷ 902 ∷ 902 ∷ []) refl 1 2 0 0 (omega arith) (omega arith) (omega arith) refl refl refl refl refl;
}

-- ---- "In a child without an ABI entry": an entry moves the parent's known slot to its fixed index

unfoldable pub moved_slot : Case
moved_slot =
    from (built "P" 0 (method "a" 5 ∷ []) [] ∷ built "C" 1 [] [] ∷ []) (abi "C" (slot "a" 1 ∷ []) [] ∷ [])
    (link 1 (901 ∷ []) ∷ link 2 (902 ∷ 903 ∷ []) ∷ [])

pub record WithEntry (way : Way) : Type 0 where
  pub start_is : is_unlinked moved_slot.set ≡ true
  pub premises : verdicts moved_slot.set moved_slot.sheet moved_slot.calls 2 ≡ true ∷ true ∷ true ∷ true ∷ true ∷ true ∷ true ∷ []
  pub parent_linked : LinkedAt moved_slot way 1 1 1
  pub linked : LinkedAt moved_slot way 2 4 2
  pub fails : KeptAt moved_slot 2 (final_table moved_slot way 4 2) (final_table moved_slot way 1 1) → ⊥

without-entry-needed : WithEntry bytewise
unfolding opened shown moved_slot
without-entry-needed = record {
  start_is = refl;
  premises = refl;
  parent_linked = now (901 ∷ []) refl refl refl;
  linked = later (now (902 ∷ 903 ∷ []) refl refl refl);
  fails =
      not_known moved_slot 2 (final_table moved_slot bytewise 4 2) (final_table moved_slot bytewise 1 1) (902 ∷ 5 ∷ []) (5 ∷ []) refl refl 0 0
      (omega arith) refl refl;
}

-- ---- "The no-second-slot claim is made only for the old rule": a chain of kind 3 that meets every premise has two known slots of one signature

unfoldable pub second_slot : Case
second_slot =
    from (packaged "p/A" 0 (foo 0 10) ∷ packaged "q/B" 1 (foo 0 20) ∷ []) [] (link 1 (901 ∷ []) ∷ link 2 (902 ∷ 903 ∷ []) ∷ [])

pub record SecondSlot (way : Way) : Type 0 where
  pub start_is : is_unlinked second_slot.set ≡ true
  pub premises : verdicts second_slot.set second_slot.sheet second_slot.calls 2 ≡ true ∷ true ∷ true ∷ true ∷ true ∷ true ∷ true ∷ []
  pub parent_linked : LinkedAt second_slot way 1 1 1
  pub linked : LinkedAt second_slot way 2 4 2
  pub table_is : final_table second_slot way 4 2 ≡ 10 ∷ 20 ∷ []
  pub fails : Unique second_slot.set (text_of second_slot.set) second_slot.sheet (abi_text_of second_slot.sheet) 2 (final_table second_slot way 4 2) → ⊥

second-slot : SecondSlot bytewise
unfolding opened shown second_slot
second-slot = record {
  start_is = refl;
  premises = refl;
  parent_linked = now (901 ∷ []) refl refl refl;
  linked = later (now (902 ∷ 903 ∷ []) refl refl refl);
  table_is = refl;
  fails = not-unique second_slot bytewise 2 4 2 (10 ∷ 20 ∷ []) refl 0 1 0 1 (omega arith) (omega arith) (omega arith) refl refl refl refl;
}

-- ---- "The list is filled from the very set and ABI sheet that are then linked": all other premises hold, class c is linked by this list, and the claim fails

pub record Unfilled (x : Case) (ns : List ℕ) (c p n : ℕ) : Type 0 where
  pub unlinked : Unlinked x.set
  pub conditions : Conditions x.set x.sheet x.calls c
  pub linked : LinkedAt x (numbered ns) c p n
  pub fails : Holds x (numbered ns) c p n → ⊥

-- by zeros, or where the set was another, the child's b takes the slot of a
unfoldable pub two : Case
two = from (built "P" 0 (method "a" 5 ∷ []) [] ∷ built "C" 1 (method "b" 6 ∷ []) [] ∷ []) [] (link 1 (901 ∷ []) ∷ link 2 (902 ∷ 903 ∷ []) ∷ [])

unfoldable pub zeros : List ℕ
zeros = replicate 1024 0

unfoldable pub other_set : List ℕ
other_set =
    numbers_of (class_sheet (built "P" 0 (method "a" 5 ∷ []) [] ∷ built "C" 1 (method "a" 6 ∷ []) [] ∷ [])) (abi_sheet [])

two_passes : Passes two.set two.sheet two.calls 2
unfolding opened shown two
two_passes = record {
  kinds = refl;
  no_interface = refl;
  orderly = refl;
  nonzero_targets = refl;
  nonzero_stubs = refl;
  different_targets = refl;
  no_stub = refl;
}

two_unlinked : is_unlinked two.set ≡ true
unfolding opened shown two
two_unlinked = refl

filled-needed : Unfilled two zeros 2 4 1
unfolding opened shown numbering two zeros
filled-needed = record {
  unlinked = unlinked-holds two.set two_unlinked;
  conditions = conditions two.set two.sheet two.calls 2 two_passes;
  linked = later (now (902 ∷ 903 ∷ []) refl refl refl);
  fails =
      broken two (numbered zeros) 2 4 1 1 1 (omega arith) refl (now (901 ∷ []) refl refl refl)
      (other-name two 2 (final_table two (numbered zeros) 4 1) (final_table two (numbered zeros) 1 1) (6 ∷ []) (5 ∷ []) refl refl 0 0 (omega arith) refl 1 refl
      (λ e. apart (ap (λ (bs : List ℕ). get_or bs 0 0) e) (omega arith)));
}

set-needed : Unfilled two other_set 2 4 1
unfolding opened shown numbering two other_set
set-needed = record {
  unlinked = unlinked-holds two.set two_unlinked;
  conditions = conditions two.set two.sheet two.calls 2 two_passes;
  linked = later (now (902 ∷ 903 ∷ []) refl refl refl);
  fails =
      broken two (numbered other_set) 2 4 1 1 1 (omega arith) refl (now (901 ∷ []) refl refl refl)
      (other-name two 2 (final_table two (numbered other_set) 4 1) (final_table two (numbered other_set) 1 1) (6 ∷ []) (5 ∷ []) refl refl 0 0 (omega arith) refl
      1 refl (λ e. apart (ap (λ (bs : List ℕ). get_or bs 0 0) e) (omega arith)));
}

-- where the rows of the ABI sheet stood the other way round, a is put at the index of b, and its own index is a stub known as a
unfoldable pub own_sheet : Case
own_sheet =
    from (built "P" 0 (method "a" 5 ∷ []) [] ∷ []) (abi "P" (slot "b" 2 ∷ slot "a" 3 ∷ []) [] ∷ [])
    (link 1 (901 ∷ 902 ∷ 903 ∷ 904 ∷ 905 ∷ []) ∷ [])

unfoldable pub other_sheet : List ℕ
other_sheet =
    numbers_of (class_sheet (built "P" 0 (method "a" 5 ∷ []) [] ∷ [])) (abi_sheet (abi "P" (slot "a" 3 ∷ slot "b" 2 ∷ []) [] ∷ []))

own_passes : Passes own_sheet.set own_sheet.sheet own_sheet.calls 1
unfolding opened shown own_sheet
own_passes = record {
  kinds = refl;
  no_interface = refl;
  orderly = refl;
  nonzero_targets = refl;
  nonzero_stubs = refl;
  different_targets = refl;
  no_stub = refl;
}

own_unlinked : is_unlinked own_sheet.set ≡ true
unfolding opened shown own_sheet
own_unlinked = refl

sheet-needed : Unfilled own_sheet other_sheet 1 1 4
unfolding opened shown numbering own_sheet other_sheet
sheet-needed = record {
  unlinked = unlinked-holds own_sheet.set own_unlinked;
  conditions = conditions own_sheet.set own_sheet.sheet own_sheet.calls 1 own_passes;
  linked = now (901 ∷ 902 ∷ 903 ∷ 904 ∷ 905 ∷ []) refl refl refl;
  fails =
      twice own_sheet (numbered other_sheet) 1 1 4 (901 ∷ 902 ∷ 5 ∷ 904 ∷ []) refl 2 3 0 0 (omega arith) (omega arith) (omega arith) refl refl refl refl refl;
}

-- ---- as rows of one theorem

pub record Needed : Type 0 where
  pub unlinked : Breaks linked_before (filled linked_before) 2 5 2 false (true ∷ true ∷ true ∷ true ∷ true ∷ true ∷ true ∷ [])
  pub kinds : Breaks generated_child (filled generated_child) 2 4 2 true (false ∷ true ∷ true ∷ true ∷ true ∷ true ∷ true ∷ [])
  pub no_interface : Breaks interface_child (filled interface_child) 2 4 0 true (true ∷ false ∷ true ∷ true ∷ true ∷ true ∷ true ∷ [])
  pub orderly : Breaks two_indices (filled two_indices) 1 1 2 true (true ∷ true ∷ false ∷ true ∷ true ∷ true ∷ true ∷ [])
  pub one_signature : SharedIndex (filled shared_index)
  pub nonzero_targets : Breaks zero_target (filled zero_target) 2 4 1 true (true ∷ true ∷ true ∷ false ∷ true ∷ true ∷ true ∷ [])
  pub nonzero_stubs : Breaks zero_stub (filled zero_stub) 2 4 1 true (true ∷ true ∷ true ∷ true ∷ false ∷ true ∷ true ∷ [])
  pub different_targets : Breaks same_targets (filled same_targets) 1 1 2 true (true ∷ true ∷ true ∷ true ∷ true ∷ false ∷ true ∷ [])
  pub no_stub : Breaks stub_target (filled stub_target) 1 1 3 true (true ∷ true ∷ true ∷ true ∷ true ∷ true ∷ false ∷ [])
  pub without-entry : WithEntry (filled moved_slot)
  pub old_rule : SecondSlot (filled second_slot)
  -- the list of numbers
  pub filled : Unfilled two zeros 2 4 1
  pub very_set : Unfilled two other_set 2 4 1
  pub very_sheet : Unfilled own_sheet other_sheet 1 1 4

pub needed : Needed
needed = record {
  unlinked = breaks_filled linked_before unlinked-needed;
  kinds = breaks_filled generated_child kinds-needed;
  no_interface = breaks_filled interface_child no_interface-needed;
  orderly = breaks_filled two_indices orderly-needed;
  one_signature = record { breaks = breaks_filled shared_index shared-index.breaks; one_index = shared-index.one_index };
  nonzero_targets = breaks_filled zero_target targets_nonzero-needed;
  nonzero_stubs = breaks_filled zero_stub stubs-nonzero-needed;
  different_targets = breaks_filled same_targets targets_different-needed;
  no_stub = breaks_filled stub_target no_stub-needed;
  without-entry = record {
    start_is = without-entry-needed.start_is;
    premises = without-entry-needed.premises;
    parent_linked = linked_filled moved_slot without-entry-needed.parent_linked;
    linked = linked_filled moved_slot without-entry-needed.linked;
    fails = λ k. without-entry-needed.fails (rw (same-table moved_slot 4 2, same-table moved_slot 1 1) at k);
  };
  old_rule = record {
    start_is = second-slot.start_is;
    premises = second-slot.premises;
    parent_linked = linked_filled second_slot second-slot.parent_linked;
    linked = linked_filled second_slot second-slot.linked;
    table_is = same-table second_slot 4 2 ∙ second-slot.table_is;
    fails = λ u. second-slot.fails (rw (same-table second_slot 4 2) at u);
  };
  filled = filled-needed;
  very_set = set-needed;
  very_sheet = sheet-needed;
}
