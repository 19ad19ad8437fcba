-- A list to which demand 3 speaks: links that are refused, a class that grows the field section, a generated class that grows the method section, an
-- interface, asks, and between them the chain of class 3. Assumes nothing.
use Rattle.std.proofs.Common.{◌≡◌, refl, true, List, [], ◌∷◌, ℕ, Some, None}
use Rattle.class_sheet.specs.ClassSheet.{method_count, field_count, text_length, text_of}
use Rattle.abi_sheet.specs.AbiSheet.{abi_text_of}
use Rattle.linking.specs.Signature.{by_sheets}
use Rattle.linking.specs.Vtable.{read_entry}
use Rattle.linking.proofs.Assemble as assemble
use Rattle.linking.proofs.Assemble.{method, built, interface, compiled, array, slot, fixed, abi, lent, spare, fresh}
use Rattle.linking.specs.Numbers.{numbers_of}
use Rattle.linking.proofs.Opened.{opened}
use Rattle.calls.specs.Calls.{Call, link, ask, numbered, bytewise, start, run, LinkedIn, now, later, table_at}
use Rattle.calls.specs.Demand.{Claim}
use Rattle.calls.proofs.Tests.{is_unlinked, unlinked-holds, Passes, conditions, answers, shown}
use Rattle.calls.proofs.RunsAgree.{filling_filled, linked_by_numbers, faithful}
use Rattle.calls.proofs.ByNumbers as by_numbers
use Rattle.calls.proofs.Theorem.{demand_3_by_bytes}

abbrev world : assemble.Lent
world =
    spare 60
    (lent
    (built "java/lang/Object" 0 (method "foo" 100 ∷ []) []
    ∷ array "[I" 1
    ∷ built "C" 2 (method "foo" 200 ∷ method "bar" 300 ∷ []) []
    ∷ built "F" 0 [] []
    ∷ compiled "G" 1 [] (0 ∷ 777 ∷ [])
    ∷ interface "I" (method "bar" 400 ∷ [])
    ∷ [])
    (abi "java/lang/Object" (slot "foo" 1 ∷ []) [] ∷ abi "[I" (slot "bar" 2 ∷ []) [] ∷ abi "F" [] (fixed "f" "I" 0 ∷ []) ∷ []))

unfoldable pub ws : List ℕ
ws = world.set

unfoldable pub sheet : List ℕ
sheet = world.abi

abbrev area : List ℕ
area = fresh 40

abbrev missing : List ℕ
missing = world.missing

-- class 3 before its parent, class 1, the field section grows, the method section grows, the interface, the array class, class 3, an ask that
-- puts a node, class 3 again, an ask that finds it, a number that is no class
abbrev calls : List Call
calls =
    link 3 (901 ∷ []) ∷ link 1 (902 ∷ 903 ∷ []) ∷ link 4 [] ∷ link 5 (904 ∷ 905 ∷ []) ∷ link 6 (906 ∷ []) ∷ link 2 (907 ∷ 908 ∷ [])
    ∷ link 3 (909 ∷ 910 ∷ 911 ∷ []) ∷ ask 3 6 (912 ∷ []) ∷ link 3 (913 ∷ []) ∷ ask 3 6 [] ∷ link 99 [] ∷ []

pub record Rows : Type 0 where
  pub answered : answers bytewise sheet (start ws area missing) calls
      ≡ (6, 0, 0) ∷ (0, 1, 2) ∷ (0, 5, 0) ∷ (0, 7, 2) ∷ (0, 11, 1) ∷ (0, 14, 2) ∷ (0, 18, 3) ∷ (0, 24, 0) ∷ (6, 0, 0) ∷ (0, 24, 1) ∷ (6, 0, 0) ∷ []
  pub first : table_at (run bytewise sheet calls (start ws area missing)).area 1 2 ≡ 902 ∷ 100 ∷ []
  pub second : table_at (run bytewise sheet calls (start ws area missing)).area 14 2 ≡ 902 ∷ 100 ∷ []
  pub third : table_at (run bytewise sheet calls (start ws area missing)).area 18 3 ≡ 902 ∷ 200 ∷ 300 ∷ []
  -- the known slots, by Reading at the start: those that demand 3's conclusions are about
  pub parent-known : (read_entry (by_sheets ws sheet) ws (text_of ws) sheet (abi_text_of sheet) 2 1 100).method ≡ Some 0
  pub child_known : (read_entry (by_sheets ws sheet) ws (text_of ws) sheet (abi_text_of sheet) 3 1 200).method ≡ Some 1
  pub child_new : (read_entry (by_sheets ws sheet) ws (text_of ws) sheet (abi_text_of sheet) 3 2 300).method ≡ Some 2
  pub child_unknown : (read_entry (by_sheets ws sheet) ws (text_of ws) sheet (abi_text_of sheet) 3 0 902).method ≡ None
  -- a field, a method and their names were added before classes 2 and 3 were linked
  pub methods : method_count ws ∷ method_count (run bytewise sheet calls (start ws area missing)).set ∷ [] ≡ 4 ∷ 5 ∷ []
  pub fields : field_count ws ∷ field_count (run bytewise sheet calls (start ws area missing)).set ∷ [] ≡ 0 ∷ 1 ∷ []
  pub bytes : text_length ws ∷ text_length (run bytewise sheet calls (start ws area missing)).set ∷ [] ≡ 46 ∷ 54 ∷ []

pub rows : Rows
unfolding opened shown ws sheet
rows = record {
  answered = refl;
  first = refl;
  second = refl;
  third = refl;
  parent-known = refl;
  child_known = refl;
  child_new = refl;
  child_unknown = refl;
  methods = refl;
  fields = refl;
  bytes = refl;
}

-- ---- so demand 3 speaks to class 3

unlinked : is_unlinked ws ≡ true
unfolding opened shown ws
unlinked = refl

passes : Passes ws sheet calls 3
unfolding opened shown ws sheet
passes = record {
  kinds = refl;
  no_interface = refl;
  orderly = refl;
  nonzero_targets = refl;
  nonzero_stubs = refl;
  different_targets = refl;
  no_stub = refl;
}

linked : LinkedIn sheet 3 18 3 bytewise (start ws area missing) calls
unfolding opened shown ws sheet
linked = later (later (later (later (later (later (now (909 ∷ 910 ∷ 911 ∷ []) refl refl refl))))))

pub instance : Claim bytewise ws sheet area missing calls 3 18 3
instance = demand_3_by_bytes ws sheet area missing (unlinked-holds ws unlinked) calls 3 18 3 linked (conditions ws sheet calls 3 passes)

-- so it does where the list of numbers is filled first and handed on: the generated class's link adds a method, and a number with it

abbrev filling : List ℕ
filling = numbers_of ws sheet

pub instance_filled : Claim (numbered filling) ws sheet area missing calls 3 18 3
instance_filled =
    by_numbers.demand_3 ws sheet area missing filling (filling_filled ws sheet) (unlinked-holds ws unlinked) calls 3 18 3
    (linked_by_numbers sheet calls filling (start ws area missing) (faithful ws sheet area missing filling (filling_filled ws sheet)) linked)
    (conditions ws sheet calls 3 passes)
