-- Small sheets linked and asked by the numbers of a list, by computation: what a link leaves of it, a list that is too short, what it must be filled from, and
-- that each comparison goes by it. Assumes nothing.
use mathlib.Core.Path.{◌≡◌, refl}
use mathlib.Core.List.{List, [], ◌∷◌, ◌++◌}
use Prim.Native.Nat.{ℕ, ◌+◌, ◌-◌}
use lib.ListN.{length, get_or, set, take, drop, replicate}
use Rattle.class_sheet.specs.ClassSheet.{methods_at}
use Rattle.linking.specs.Signature.{place_number, place_at, by_numbers}
use Rattle.linking.specs.Numbers.{is_used, is_twin, number_at, numbers_of, numbers_short}
use Rattle.linking.specs.Link.{Outcome}
use Rattle.linking.specs.Numbered.{numbers_taken, numbers_after, NumberedOutcome, but_numbers, link_numbered, ask_numbered}
use Rattle.linking.proofs.Assemble.{Lent, method, built, interface, compiled, of_kind, linked_at, slot, abi, link, lent, on_set, on_area, spare, call, onto, table_of}
use Rattle.linking.proofs.Opened.{opened}

abbrev filling : Lent → List ℕ
filling x = numbers_of x.set x.abi

-- a link of class c by these numbers, and what is lent after it
abbrev linked : Lent → List ℕ → ℕ → NumberedOutcome
linked x ns c = link_numbered x.set x.abi ns c x.area x.stubs x.missing

abbrev next : Lent → List ℕ → ℕ → Lent
next x ns c = onto x (but_numbers (linked x ns c))

abbrev asked : Lent → List ℕ → ℕ → ℕ → Outcome
asked x ns c i = ask_numbered x.set x.abi ns c i x.area x.stubs

-- a link of class 2 after one of class 1, the list handed on; or by another list
abbrev second : Lent → List ℕ → NumberedOutcome
second x ns = linked (next x ns 1) (linked x ns 1).numbers 2

abbrev second_by : Lent → List ℕ → List ℕ → NumberedOutcome
second_by x ns other = linked (next x ns 1) other 2

abbrev table : Lent → NumberedOutcome → ℕ → List ℕ
table x o c = table_of c (onto x (but_numbers o))

-- n numbers of a list from place p on
abbrev part : List ℕ → ℕ → ℕ → List ℕ
part ns p n = take n (drop p ns)

abbrev zeros : List ℕ
zeros = replicate 1024 0

-- ---- "an added method carries the number of the signature it took, a copied one its own"

abbrev carried : Lent
carried = spare 40 (lent (compiled "G" 0 (method "a" 5 ∷ method "x" 6 ∷ []) (9 ∷ []) ∷ []) (abi "G" (slot "k" 0 ∷ []) [] ∷ []))

abbrev alone : Lent
alone = spare 40 (lent (compiled "G" 0 [] (9 ∷ []) ∷ []) (abi "G" (slot "k" 0 ∷ []) [] ∷ []))

pub record Carried : Type 0 where
  pub accepted : (linked carried (filling carried) 1).outcome.refusal ≡ 0
  -- a, x; their copies, and k of the ABI sheet
  pub numbers : part (linked carried (filling carried) 1).numbers 0 6 ≡ 0 ∷ 1 ∷ 0 ∷ 1 ∷ 512 ∷ 0 ∷ []
  -- a filling of the set that is left would give other numbers
  pub left : get_or (linked alone (filling alone) 1).numbers 0 7 ∷ get_or (linked alone (filling alone) 1).numbers 512 7 ∷ [] ≡ 512 ∷ 512 ∷ []
  pub anew : get_or (filling (next alone (filling alone) 1)) 0 7 ∷ get_or (filling (next alone (filling alone) 1)) 512 7 ∷ [] ≡ 0 ∷ 0 ∷ []

pub carried_rows : Carried
unfolding opened place_number place_at by_numbers is_used is_twin number_at numbers_of numbers_short numbers_taken numbers_after link_numbered
carried_rows = record { accepted = refl; numbers = refl; left = refl; anew = refl }

-- ---- row 3 takes a shorter list, at links and at asks, before row 4; the list stays

abbrev one : Lent
one = lent (built "P" 0 (method "a" 5 ∷ []) [] ∷ []) []

-- with a method whose name has no byte
abbrev nameless : Lent
nameless = on_set (λ ws. set ws (methods_at ws + 1) 0) one

pub record Short : Type 0 where
  pub link : (linked nameless (replicate 1023 7) 1).outcome.refusal ∷ (linked nameless (replicate 1024 7) 1).outcome.refusal ∷ [] ≡ 3 ∷ 4 ∷ []
  pub list : (linked one (replicate 3 7) 1).numbers ≡ 7 ∷ 7 ∷ 7 ∷ []
  pub ask : (asked nameless (replicate 1023 7) 1 1).refusal ∷ (asked nameless (replicate 1024 7) 1 1).refusal ∷ [] ≡ 3 ∷ 4 ∷ []

pub short_rows : Short
unfolding opened by_numbers numbers_short link_numbered ask_numbered
short_rows = record { link = refl; list = refl; ask = refl }

-- ---- "The list is filled from the very set and ABI sheet that are then linked, and no one else writes it"

-- (i) filled: a parent with a, a child with b
abbrev two : Lent
two = lent (built "P" 0 (method "a" 5 ∷ []) [] ∷ built "C" 1 (method "b" 6 ∷ []) [] ∷ []) []

-- (ii) from the very set: not from one where the child's name is a too
abbrev renamed : Lent
renamed = lent (built "P" 0 (method "a" 5 ∷ []) [] ∷ built "C" 1 (method "a" 6 ∷ []) [] ∷ []) []

-- (iii) from the very ABI sheet: not from one with its rows turned
abbrev sheet : Lent
sheet = lent (built "P" 0 (method "a" 5 ∷ []) [] ∷ []) (abi "P" (slot "b" 2 ∷ slot "a" 3 ∷ []) [] ∷ [])

abbrev turned : Lent
turned = lent (built "P" 0 (method "a" 5 ∷ []) [] ∷ []) (abi "P" (slot "a" 3 ∷ slot "b" 2 ∷ []) [] ∷ [])

-- (iv) as the last call left it: the first link adds j and k, and k's place was no method's
abbrev grown : Lent
grown = spare 40 (lent (compiled "G" 0 [] (8 ∷ 9 ∷ []) ∷ built "H" 1 (method "k" 7 ∷ []) [] ∷ []) (abi "G" (slot "j" 0 ∷ slot "k" 1 ∷ []) [] ∷ []))

pub record Premises : Type 0 where
  pub two_filled : table two (second two (filling two)) 2 ≡ 5 ∷ 6 ∷ []
  pub two_zeros : table two (second two zeros) 2 ≡ 6 ∷ []
  pub other_set : table two (second two (filling renamed)) 2 ≡ 6 ∷ []
  pub own_sheet : table sheet (linked sheet (filling sheet) 1) 1 ≡ 901 ∷ 902 ∷ 903 ∷ 5 ∷ []
  pub other_sheet : table sheet (linked sheet (filling turned) 1) 1 ≡ 901 ∷ 902 ∷ 5 ∷ 904 ∷ []
  pub handed_on : table grown (second grown (filling grown)) 2 ≡ 8 ∷ 7 ∷ []
  pub as_filled : (second_by grown (filling grown) (filling grown)).outcome.refusal ≡ 11

pub premises : Premises
unfolding opened place_number place_at by_numbers is_used is_twin number_at numbers_of numbers_short numbers_taken numbers_after link_numbered
premises =
    record { two_filled = refl; two_zeros = refl; other_set = refl; own_sheet = refl; other_sheet = refl; handed_on = refl; as_filled = refl }

-- ---- "Slots are matched by these numbers.": by lists that do not tell signatures apart as their bytes do. If one of the comparisons that stand over a row went
-- by bytes, the row would give something else

-- so many numbers of methods and of ABI slots, and zeros
abbrev numbering : List ℕ → List ℕ → List ℕ
numbering ms ss = ms ++ (replicate (512 - length ms) 0 ++ (ss ++ replicate (512 - length ss) 0))

-- the tables that a link of class 2 makes by these numbers, and by bytes
abbrev by_both : Lent → List ℕ → List (List ℕ)
by_both x ns = table x (linked x ns 2) 2 ∷ table_of 2 (onto x (call x (link 2))) ∷ []

-- of each of these the parent's table stands in the area at 1, with a word that is no method's target
abbrev laid : Lent
laid =
    on_area (5 ∷ 1 ∷ 6 ∷ 77 ∷ 0 ∷ replicate 19 0)
    (lent (linked_at 1 2 (built "P" 0 (method "a" 5 ∷ method "b" 6 ∷ []) []) ∷ built "C" 1 (method "c" 7 ∷ method "a" 8 ∷ []) [] ∷ [])
    (abi "P" (slot "c" 1 ∷ slot "d" 0 ∷ []) [] ∷ abi "C" (slot "d" 2 ∷ []) [] ∷ []))

abbrev prepared : Lent
prepared =
    spare 40
    (on_area (4 ∷ 1 ∷ 77 ∷ 0 ∷ replicate 20 0)
    (lent (linked_at 1 1 (built "P" 0 (method "a" 5 ∷ []) []) ∷ compiled "G" 1 (method "a" 7 ∷ method "b" 8 ∷ []) (9 ∷ []) ∷ [])
    (abi "P" (slot "c" 0 ∷ []) [] ∷ [])))

abbrev overriding : Lent
overriding =
    on_area (4 ∷ 1 ∷ 5 ∷ 0 ∷ replicate 20 0)
    (lent (linked_at 1 1 (of_kind 3 (built "P" 0 (method "a" 5 ∷ []) [])) ∷ of_kind 3 (built "C" 1 (method "b" 6 ∷ []) []) ∷ []) [])

-- an interface whose a has its target, and whose c has none, so that a stub stands there
abbrev implemented : Lent
implemented =
    lent (interface "I" (method "a" 7 ∷ method "c" 0 ∷ []) ∷ built "C" 0 (method "b" 5 ∷ method "a" 6 ∷ []) [] ∷ []) (abi "I" (slot "d" 1 ∷ []) [] ∷ [])

-- the slots of the node that class 2's ask for interface 1 puts in front, both linked by the filled list
abbrev found_by : List ℕ → List ℕ
found_by ns =
    let x : Lent = next (next implemented (filling implemented) 1) (filling implemented) 2 in
    let o : Outcome = asked x ns 2 1 in part o.area (o.first + 1) 2

pub record Matched : Type 0 where
  -- Reading's ABI rule; where a class lays out anew what it inherits, its signatures, their fixed indices and the ABI classes that these come from; and of its
  -- own methods the fixed index, the slot of the signature, and row 12
  pub built : by_both laid (numbering (0 ∷ 0 ∷ 1 ∷ 1 ∷ []) (0 ∷ 1 ∷ 1 ∷ [])) ≡ (901 ∷ 77 ∷ 8 ∷ []) ∷ (901 ∷ 7 ∷ 903 ∷ 6 ∷ 8 ∷ []) ∷ []
  -- a compiler table: Reading's ABI rule and the fixed index in the native view, "originally declared" in (b), "has no slot" in (d)
  pub generated : by_both prepared (numbering (0 ∷ 1 ∷ 1 ∷ []) (0 ∷ [])) ≡ (9 ∷ 7 ∷ []) ∷ (9 ∷ 7 ∷ 8 ∷ []) ∷ []
  -- kind 3: what a method overrides
  pub packages : by_both overriding zeros ≡ (6 ∷ []) ∷ (5 ∷ 6 ∷ []) ∷ []
  -- an ask: Reading's ABI rule, and the implementation of an interface's entry
  pub asked : found_by zeros ∷ found_by (filling implemented) ∷ [] ≡ (5 ∷ 5 ∷ []) ∷ (6 ∷ 902 ∷ []) ∷ []

pub matched : Matched
unfolding opened place_number place_at by_numbers is_used is_twin number_at numbers_of numbers_short numbers_taken numbers_after link_numbered ask_numbered
matched = record { built = refl; generated = refl; packages = refl; asked = refl }
