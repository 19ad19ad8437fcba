-- Kind 3 beside kind 0: a chain to which `AsKindZero` and `Throughout` speak; and each of their premises is needed: two lists for each, in which the class is
-- linked, all premises but that one hold, and the two kinds make other tables. All calls here are by the numbers of lists, each filled from the ABI sheet and from
-- its own class sheet (kind 3, or 0 in its stead) but in the two rows that show this to be needed. (That the lists are handed on has no row: only a generated
-- class's link writes them, at the places of the methods that it copies and adds, and none is in a chain of kind 3.) Assumes nothing.
use Rattle.std.proofs.Common.{◌≡◌, refl, ◌≢◌, Bool, true, false, not, ◌&&◌, ◌||◌, List, [], ◌∷◌, ℕ, arith, length, get_or, replicate, eqb, eqb-true}
use mathlib.Core.List.{Memᴰ}
use Rattle.words.proofs.Bools.{or-either}
use Rattle.class_sheet.specs.ClassSheet.{text_of, class_kind, is_packaged, method_flags}
use Rattle.linking.specs.Signature.{methods_same, by_bytes}
use Rattle.linking.specs.Numbers.{numbers_of}
use Rattle.linking.specs.Chain.{own_methods, chain, eligible}
use Rattle.linking.specs.Packages.{is_public, is_protected}
use Rattle.linking.proofs.Overriding.{same_true}
use Rattle.linking.proofs.Assemble.{Class, flagged, built, linked_at, sized, abi, class_sheet, abi_sheet, fresh, sevens}
use Rattle.linking.proofs.Packaged.{packaged}
use Rattle.linking.proofs.Opened.{opened}
use Rattle.calls.specs.Calls.{Call, link, Way, numbered, now, later}
use Rattle.calls.specs.Demand.{table, Linked}
use Rattle.calls.specs.KindZero.{as_built, unpackaged, Premises, SameSlots}
use Rattle.calls.proofs.Tests.{every, every-each, implied, chain_methods, a-method, is_unlinked, unlinked-holds, targets_nonzero, nonzero_hold, targets_different, different_hold, shown, numbering}
use Rattle.calls.proofs.RunsAgree.{filling_filled}
use Rattle.calls.proofs.ByNumbers.{as_kind_zero, throughout}

-- ---- the premises as tests, row by row as in `Premises`

module _ (ws : List ℕ) (c : ℕ) where
  unfoldable pub only_packaged : Bool
  only_packaged = every (λ d. is_packaged ws d) (chain ws c)

  unfoldable pub has_open_methods : Bool
  has_open_methods =
      every (λ m. not (eligible ws (text_of ws) m) || (is_public (method_flags ws m) || is_protected (method_flags ws m))) (chain_methods ws c)

  -- which ABI sheet is there is all one to methods
  abbrev alike : ℕ → ℕ → Bool
  alike = methods_same (by_bytes ws (text_of ws) [] [])

  abbrev again : ℕ → ℕ → Bool
  again m k = not (eligible ws (text_of ws) m && eligible ws (text_of ws) k && alike k m) || eqb m k

  unfoldable pub once : Bool
  once = every (λ d. every (λ m. every (again m) (own_methods ws d)) (own_methods ws d)) (chain ws c)

  module _ (abi : List ℕ) where
    unfoldable pub tests : List Bool
    tests = only_packaged ∷ has_open_methods ∷ once ∷ targets_nonzero ws abi [] c ∷ targets_different ws abi [] c ∷ []

    record Passes : Type 0 where
      packages : only_packaged ≡ true
      open_methods : has_open_methods ≡ true
      once-only : once ≡ true
      nonzero_targets : targets_nonzero ws abi [] c ≡ true
      different_targets : targets_different ws abi [] c ≡ true

    -- where they pass, the premises hold
    premises : Passes → Premises ws c
    unfolding only_packaged has_open_methods once
    premises p = record {
      packages = λ d i. eqb-true (class_kind ws d) 3 (every-each (λ d. is_packaged ws d) p.packages i);
      open_methods = λ m i e.
          or-either (is_public (method_flags ws m)) (is_protected (method_flags ws m))
          (implied (eligible ws (text_of ws) m) (is_public (method_flags ws m) || is_protected (method_flags ws m))
          (every-each (λ m. not (eligible ws (text_of ws) m) || (is_public (method_flags ws m) || is_protected (method_flags ws m))) p.open_methods
          (a-method ws abi [] c i))
          e);
      once = λ d m k i j l e f s.
          eqb-true m k
          (implied (eligible ws (text_of ws) m && eligible ws (text_of ws) k && alike k m) (eqb m k)
          (every-each (again m)
          (every-each (λ m. every (again m) (own_methods ws d))
          (every-each (λ d. every (λ m. every (again m) (own_methods ws d)) (own_methods ws d)) p.once-only i) j) l)
          (rw (e, f, same_true ws (text_of ws) [] [] s)));
      nonzero_targets = nonzero_hold ws abi [] c p.nonzero_targets;
      different_targets = different_hold ws abi [] c p.different_targets;
    }

-- what examples by computation open
unfoldable beside : ℕ
unfolding opened shown numbering as_built unpackaged only_packaged has_open_methods once tests
beside = 0

-- ---- a chain of three classes

abbrev three : List Class
three =
    packaged "p/A" 0 (flagged 1 "foo" 10 ∷ flagged 4 "bar" 11 ∷ [])
    ∷ packaged "q/B" 1 (flagged 1 "foo" 20 ∷ flagged 9 "bar" 21 ∷ [])
    ∷ packaged "r/C" 2 (flagged 1 "baz" 30 ∷ flagged 1 "bar" 31 ∷ flagged 2 "foo" 32 ∷ [])
    ∷ []

unfoldable pub sheet : List ℕ
sheet = class_sheet three

unfoldable pub none : List ℕ
none = abi_sheet []

abbrev area : List ℕ
area = fresh 23

abbrev missing : List ℕ
missing = sevens 3

abbrev calls : List Call
calls = link 1 (901 ∷ 902 ∷ []) ∷ link 2 (903 ∷ 904 ∷ []) ∷ link 3 (905 ∷ 906 ∷ 907 ∷ []) ∷ []

unlinked : is_unlinked sheet ≡ true
unfolding beside sheet
unlinked = refl

passes : Passes sheet 3 none
unfolding beside sheet none
passes = record { packages = refl; open_methods = refl; once-only = refl; nonzero_targets = refl; different_targets = refl }

abbrev filling₃ : List ℕ
filling₃ = numbers_of sheet none

abbrev filling₀ : List ℕ
filling₀ = numbers_of (unpackaged sheet) none

pub linked₃ : Linked (numbered filling₃) sheet none area missing calls 3 9 3
unfolding beside sheet none
linked₃ = later (later (now (905 ∷ 906 ∷ 907 ∷ []) refl refl refl))

pub linked₀ : Linked (numbered filling₀) (unpackaged sheet) none area missing calls 3 9 3
unfolding beside sheet none
linked₀ = later (later (now (905 ∷ 906 ∷ 907 ∷ []) refl refl refl))

-- the theorems speak to it

pub instance-words : table (numbered filling₃) sheet none area missing calls 9 3
    ≡ table (numbered filling₀) (unpackaged sheet) none area missing calls 9 3
instance-words =
    (as_kind_zero sheet none area area missing missing filling₃ filling₀ (filling_filled sheet none) (filling_filled (unpackaged sheet) none)
    (unlinked-holds sheet unlinked) calls calls 3 9 3 9 3 linked₃ linked₀ (premises sheet 3 none passes)).1

pub instance : (d : ℕ) → Memᴰ d (chain sheet 3)
    → SameSlots (numbered filling₃) (numbered filling₀) sheet none area area missing missing calls calls d
instance =
    throughout sheet none area area missing missing filling₃ filling₀ (filling_filled sheet none) (filling_filled (unpackaged sheet) none)
    (unlinked-holds sheet unlinked) calls calls 3 9 3 9 3 linked₃ linked₀ (premises sheet 3 none passes)

-- and so both tables are
pub record Three : Type 0 where
  pub packaged : table (numbered filling₃) sheet none area missing calls 9 3 ≡ 20 ∷ 31 ∷ 30 ∷ []
  pub built : table (numbered filling₀) (unpackaged sheet) none area missing calls 9 3 ≡ 20 ∷ 31 ∷ 30 ∷ []

pub three-classes : Three
unfolding beside sheet none
three-classes = record { packaged = refl; built = refl }

-- ---- needed

pub record Pair : Type 0 where
  pub set : List ℕ
  pub sheet : List ℕ
  pub area₃ : List ℕ
  pub area₀ : List ℕ
  pub missing : List ℕ
  pub calls₃ : List Call
  pub calls₀ : List Call

-- the lists of numbers that are filled from the sheet, and from the one with kind 0
abbrev pub filled₃ : Pair → Way
filled₃ x = numbered (numbers_of x.set x.sheet)

abbrev pub filled₀ : Pair → Way
filled₀ x = numbered (numbers_of (unpackaged x.set) x.sheet)

-- the class is linked in both lists; of the premises, `unlinked` and the tests in the order of `Premises` are as written; and the two tables are not
-- the same
pub record Apart (x : Pair) (way₃ way₀ : Way) (c p n q k : ℕ) (unlinked : Bool) (verdicts : List Bool) (t₃ t₀ : List ℕ) : Type 0 where
  pub start_is : is_unlinked x.set ≡ unlinked
  pub verdicts_are : tests x.set c x.sheet ≡ verdicts
  pub linked₃ : Linked way₃ x.set x.sheet x.area₃ x.missing x.calls₃ c p n
  pub linked₀ : Linked way₀ (unpackaged x.set) x.sheet x.area₀ x.missing x.calls₀ c q k
  pub table₃ : table way₃ x.set x.sheet x.area₃ x.missing x.calls₃ p n ≡ t₃
  pub table₀ : table way₀ (unpackaged x.set) x.sheet x.area₀ x.missing x.calls₀ q k ≡ t₀
  pub slot : ℕ
  pub apart : get_or t₃ slot 0 ≢ get_or t₀ slot 0

-- so by lists that are filled
abbrev pub Differs : Pair → ℕ → ℕ → ℕ → ℕ → ℕ → Bool → List Bool → List ℕ → List ℕ → Type 0
Differs x = Apart x (filled₃ x) (filled₀ x)

abbrev from : List Class → List Call → Pair
from cs ks = record { set = class_sheet cs; sheet = abi_sheet []; area₃ = fresh 23; area₀ = fresh 23; missing = sevens (length cs); calls₃ = ks; calls₀ = ks }

abbrev one : List Call
one = link 1 (901 ∷ 902 ∷ 903 ∷ []) ∷ []

abbrev two : List Call
two = link 1 (901 ∷ 902 ∷ 903 ∷ []) ∷ link 2 (904 ∷ 905 ∷ 906 ∷ []) ∷ []

-- "from an unlinked sheet": a table that lay in the area before
unfoldable pub linked_before : Pair
linked_before =
    record {
      set = class_sheet (linked_at 1 1 (packaged "A" 0 (flagged 1 "foo" 10 ∷ [])) ∷ packaged "B" 1 [] ∷ []);
      sheet = abi_sheet [];
      area₃ = 4 ∷ 1 ∷ 10 ∷ 0 ∷ replicate 8 0;
      area₀ = 4 ∷ 1 ∷ 11 ∷ 0 ∷ replicate 8 0;
      missing = sevens 2;
      calls₃ = link 2 (901 ∷ []) ∷ [];
      calls₀ = link 2 (901 ∷ []) ∷ [];
    }

-- "A kind 3 chain": a class of kind 0 with an empty slot takes the stub of its link
unfoldable pub kind_zero : Pair
kind_zero =
    record {
      set = class_sheet (built "A" 0 [] [] ∷ []);
      sheet = abi_sheet (sized 1 (abi "A" [] []) ∷ []);
      area₃ = fresh 23;
      area₀ = fresh 23;
      missing = sevens 1;
      calls₃ = link 1 (901 ∷ []) ∷ [];
      calls₀ = link 1 (902 ∷ []) ∷ [];
    }

-- "every eligible method is public"
unfoldable pub package_private : Pair
package_private = from (packaged "A" 0 (flagged 0 "b" 1 ∷ []) ∷ packaged "q/B" 1 (flagged 4 "b" 2 ∷ []) ∷ []) two

-- "no class declares a signature twice"
unfoldable pub twice : Pair
twice = from (packaged "A" 0 (flagged 1 "foo" 10 ∷ flagged 1 "foo" 11 ∷ []) ∷ []) one

-- "the chain's method targets and all stubs lent are nonzero", of the targets: a stub that is a target
unfoldable pub zero_target : Pair
zero_target =
    from (packaged "A" 0 (flagged 1 "a" 0 ∷ flagged 1 "b" 20000 ∷ []) ∷ packaged "B" 1 (flagged 1 "b" 20001 ∷ []) ∷ [])
    (link 1 (20000 ∷ 20001 ∷ []) ∷ link 2 (20000 ∷ 20001 ∷ []) ∷ [])

-- "the targets all different"
unfoldable pub same_targets : Pair
same_targets =
    from
    (packaged "A" 0 (flagged 1 "a" 3 ∷ []) ∷ packaged "B" 1 (flagged 1 "b" 3 ∷ []) ∷ packaged "C" 2 (flagged 1 "a" 1 ∷ []) ∷ [])
    (link 1 (901 ∷ []) ∷ link 2 (902 ∷ 903 ∷ []) ∷ link 3 (904 ∷ 905 ∷ 906 ∷ []) ∷ [])

-- the list of numbers is filled: by zeros B's `bar` takes the slot of `foo`
unfoldable pub two_names : Pair
two_names = from (packaged "A" 0 (flagged 1 "foo" 10 ∷ []) ∷ packaged "B" 1 (flagged 1 "bar" 20 ∷ []) ∷ []) two

abbrev pub zeros : Way
zeros = numbered (replicate 1024 0)

pub record BesideZero : Type 0 where
  pub unlinked : Differs linked_before 2 4 1 4 1 false (true ∷ true ∷ true ∷ true ∷ true ∷ []) (10 ∷ []) (11 ∷ [])
  pub packages : Differs kind_zero 1 1 1 1 1 true (false ∷ true ∷ true ∷ true ∷ true ∷ []) (901 ∷ []) (902 ∷ [])
  pub open_methods : Differs package_private 2 4 2 4 1 true (true ∷ false ∷ true ∷ true ∷ true ∷ []) (1 ∷ 2 ∷ []) (2 ∷ [])
  pub once : Differs twice 1 1 2 1 1 true (true ∷ true ∷ false ∷ true ∷ true ∷ []) (10 ∷ 11 ∷ []) (11 ∷ [])
  pub nonzero_targets : Differs zero_target 2 5 2 5 2 true (true ∷ true ∷ true ∷ false ∷ true ∷ []) (20001 ∷ 20001 ∷ []) (20001 ∷ 20000 ∷ [])
  pub different_targets : Differs same_targets 3 8 2 8 3 true (true ∷ true ∷ true ∷ true ∷ false ∷ []) (1 ∷ 3 ∷ []) (3 ∷ 3 ∷ 1 ∷ [])
  -- kind 3's list of numbers is not, and kind 0's
  pub filled_for₃ : Apart two_names zeros (filled₀ two_names) 2 4 1 4 2 true (true ∷ true ∷ true ∷ true ∷ true ∷ []) (20 ∷ []) (10 ∷ 20 ∷ [])
  pub filled_for₀ : Apart two_names (filled₃ two_names) zeros 2 4 2 4 1 true (true ∷ true ∷ true ∷ true ∷ true ∷ []) (10 ∷ 20 ∷ []) (20 ∷ [])

unlinked-needed : Differs linked_before 2 4 1 4 1 false (true ∷ true ∷ true ∷ true ∷ true ∷ []) (10 ∷ []) (11 ∷ [])
unfolding beside linked_before
unlinked-needed = record {
  start_is = refl;
  verdicts_are = refl;
  linked₃ = now (901 ∷ []) refl refl refl;
  linked₀ = now (901 ∷ []) refl refl refl;
  table₃ = refl;
  table₀ = refl;
  slot = 0;
  apart = omega arith;
}

packages-needed : Differs kind_zero 1 1 1 1 1 true (false ∷ true ∷ true ∷ true ∷ true ∷ []) (901 ∷ []) (902 ∷ [])
unfolding beside kind_zero
packages-needed = record {
  start_is = refl;
  verdicts_are = refl;
  linked₃ = now (901 ∷ []) refl refl refl;
  linked₀ = now (902 ∷ []) refl refl refl;
  table₃ = refl;
  table₀ = refl;
  slot = 0;
  apart = omega arith;
}

open_needed : Differs package_private 2 4 2 4 1 true (true ∷ false ∷ true ∷ true ∷ true ∷ []) (1 ∷ 2 ∷ []) (2 ∷ [])
unfolding beside package_private
open_needed = record {
  start_is = refl;
  verdicts_are = refl;
  linked₃ = later (now (904 ∷ 905 ∷ 906 ∷ []) refl refl refl);
  linked₀ = later (now (904 ∷ 905 ∷ 906 ∷ []) refl refl refl);
  table₃ = refl;
  table₀ = refl;
  slot = 0;
  apart = omega arith;
}

once-needed : Differs twice 1 1 2 1 1 true (true ∷ true ∷ false ∷ true ∷ true ∷ []) (10 ∷ 11 ∷ []) (11 ∷ [])
unfolding beside twice
once-needed = record {
  start_is = refl;
  verdicts_are = refl;
  linked₃ = now (901 ∷ 902 ∷ 903 ∷ []) refl refl refl;
  linked₀ = now (901 ∷ 902 ∷ 903 ∷ []) refl refl refl;
  table₃ = refl;
  table₀ = refl;
  slot = 0;
  apart = omega arith;
}

nonzero-needed : Differs zero_target 2 5 2 5 2 true (true ∷ true ∷ true ∷ false ∷ true ∷ []) (20001 ∷ 20001 ∷ []) (20001 ∷ 20000 ∷ [])
unfolding beside zero_target
nonzero-needed = record {
  start_is = refl;
  verdicts_are = refl;
  linked₃ = later (now (20000 ∷ 20001 ∷ []) refl refl refl);
  linked₀ = later (now (20000 ∷ 20001 ∷ []) refl refl refl);
  table₃ = refl;
  table₀ = refl;
  slot = 1;
  apart = omega arith;
}

different-needed : Differs same_targets 3 8 2 8 3 true (true ∷ true ∷ true ∷ true ∷ false ∷ []) (1 ∷ 3 ∷ []) (3 ∷ 3 ∷ 1 ∷ [])
unfolding beside same_targets
different-needed = record {
  start_is = refl;
  verdicts_are = refl;
  linked₃ = later (later (now (904 ∷ 905 ∷ 906 ∷ []) refl refl refl));
  linked₀ = later (later (now (904 ∷ 905 ∷ 906 ∷ []) refl refl refl));
  table₃ = refl;
  table₀ = refl;
  slot = 0;
  apart = omega arith;
}

filled_for₃-needed : Apart two_names zeros (filled₀ two_names) 2 4 1 4 2 true (true ∷ true ∷ true ∷ true ∷ true ∷ []) (20 ∷ []) (10 ∷ 20 ∷ [])
unfolding beside two_names
filled_for₃-needed = record {
  start_is = refl;
  verdicts_are = refl;
  linked₃ = later (now (904 ∷ 905 ∷ 906 ∷ []) refl refl refl);
  linked₀ = later (now (904 ∷ 905 ∷ 906 ∷ []) refl refl refl);
  table₃ = refl;
  table₀ = refl;
  slot = 0;
  apart = omega arith;
}

filled_for₀-needed : Apart two_names (filled₃ two_names) zeros 2 4 2 4 1 true (true ∷ true ∷ true ∷ true ∷ true ∷ []) (10 ∷ 20 ∷ []) (20 ∷ [])
unfolding beside two_names
filled_for₀-needed = record {
  start_is = refl;
  verdicts_are = refl;
  linked₃ = later (now (904 ∷ 905 ∷ 906 ∷ []) refl refl refl);
  linked₀ = later (now (904 ∷ 905 ∷ 906 ∷ []) refl refl refl);
  table₃ = refl;
  table₀ = refl;
  slot = 0;
  apart = omega arith;
}

pub beside-zero : BesideZero
beside-zero = record {
  unlinked = unlinked-needed;
  packages = packages-needed;
  open_methods = open_needed;
  once = once-needed;
  nonzero_targets = nonzero-needed;
  different_targets = different-needed;
  filled_for₃ = filled_for₃-needed;
  filled_for₀ = filled_for₀-needed;
}
