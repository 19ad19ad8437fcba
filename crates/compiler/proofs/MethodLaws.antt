-- Laws of methods of the sheet and added ones, as the code reads them. Assumes nothing.
use mathlib.Core.Path.{◌≡◌}
use mathlib.Core.Bool.{Bool, false}
use mathlib.Core.List.{List}
use Prim.Native.Nat.{ℕ, ◌-◌, ◌≤◌, ◌<◌}
use lib.ListN.{get_or, take, drop}
use lib.Dec.{eqb}
use borrow.Author.Tests.{lt-ltb, le-ltb}
use Rattle.std.specs.Prelude.{Option, Some, None, slice_get}
use Rattle.words.specs.Lists.{some}
use Rattle.class_sheet.specs.ClassSheet.{method_name, method_flags, method_target, method_limit}
use Rattle.linking.specs.Signature.{by_numbers}
use Rattle.linking.specs.Vtable.{Entry}
use Rattle.linking.specs.Compiler.{Taken, none_taken, place_of, name_of, flags_of, target_of, same_signature, has_slot}
use Rattle.growth.specs.declared.news.Member.{Member}
use Rattle.growth.specs.declared.news.Named.TheVariants.{Method}
use Rattle.growth.specs.News.{ref_place, ref_name, new_of, taken_of, added_of}
use Rattle.growth.proofs.NewsLaws.{added_got, added_out}
use Rattle.compiler.specs.Methods.{number_of, has_number}

-- ---- a method of the sheet

module _ (ws text : List ℕ) (new : List Taken) (m : ℕ) (h : m < method_limit) where
  pub name_own : {p : List ℕ} → p ≡ method_name ws text m → p ≡ name_of ws text new m
  unfolding name_of
  name_own e = simp (lt-ltb m method_limit h) e

module _ (ws : List ℕ) (new : List Taken) (m : ℕ) (h : m < method_limit) {x : ℕ} where
  pub flags_own : x ≡ method_flags ws m → x ≡ flags_of ws new m
  unfolding flags_of
  flags_own e = simp (lt-ltb m method_limit h) e

  pub target_own : x ≡ method_target ws m → x ≡ target_of ws new m
  unfolding target_of
  target_own e = simp (lt-ltb m method_limit h) e

pub place_own : (new : List Taken) (m : ℕ) → m < method_limit → ref_place (Method m) ≡ place_of new m
unfolding ref_place place_of
place_own new m h = simp (lt-ltb m method_limit h)

-- ---- an added one, or none

module _ (ws text abi labels : List ℕ) (members : List Member) (m : ℕ)
    (h : method_limit ≤ m) {o : Option Member} (e : o ≡ slice_get members (m - method_limit)) where
  module _ {x : Member} (f : o ≡ Some x) where
    got : get_or (added_of ws text abi labels members) (m - method_limit) none_taken ≡ taken_of ws text abi labels x
    got = added_got ws text abi labels members (m - method_limit) none_taken e f

    pub place_added : ref_place x.names ≡ place_of (added_of ws text abi labels members) m
    unfolding place_of taken_of
    place_added = simp (le-ltb m method_limit h) (rw got)

    pub name_added : {p : List ℕ} → p ≡ ref_name ws text abi labels x.names → p ≡ name_of ws text (added_of ws text abi labels members) m
    unfolding name_of taken_of new_of
    name_added g = simp (le-ltb m method_limit h) (rw got g)

    pub flags_added : x.flags ≡ flags_of ws (added_of ws text abi labels members) m
    unfolding flags_of taken_of new_of
    flags_added = simp (le-ltb m method_limit h) (rw got)

    pub target_added : x.last ≡ target_of ws (added_of ws text abi labels members) m
    unfolding target_of taken_of new_of
    target_added = simp (le-ltb m method_limit h) (rw got)

  module _ (f : o ≡ None) where
    none : get_or (added_of ws text abi labels members) (m - method_limit) none_taken ≡ none_taken
    none = added_out ws text abi labels members (m - method_limit) none_taken e f

    pub place_none : ref_place (Method 0) ≡ place_of (added_of ws text abi labels members) m
    unfolding ref_place place_of
    place_none = simp (le-ltb m method_limit h) (rw none)

    pub name_none : {p : List ℕ} → p ≡ take 0 (drop 0 text) → p ≡ name_of ws text (added_of ws text abi labels members) m
    unfolding name_of
    name_none g = simp (le-ltb m method_limit h) (rw none g)

    pub flags_none : 0 ≡ flags_of ws (added_of ws text abi labels members) m
    unfolding flags_of
    flags_none = simp (le-ltb m method_limit h) (rw none)

    pub target_none : 0 ≡ target_of ws (added_of ws text abi labels members) m
    unfolding target_of
    target_none = simp (le-ltb m method_limit h) (rw none)

-- ---- a number, as the code compares it

module _ (numbers : List ℕ) (new : List Taken) where
  module _ (n : ℕ) (e : Entry) {o : Option ℕ} (h : o ≡ e.method) where
    pub number_unknown : o ≡ None → false ≡ has_number numbers new n e
    unfolding has_number
    number_unknown f = rw (← h, f)

    pub number_known : {j k : ℕ} → o ≡ Some j → k ≡ number_of numbers new j → eqb n k ≡ has_number numbers new n e
    unfolding has_number
    number_known f g = rw g (rw (← h, f))

  pub has_is : (m : ℕ) (es : List Entry) {n : ℕ} {b : Bool} → n ≡ number_of numbers new m → b ≡ some (has_number numbers new n) es
      → b ≡ has_slot (by_numbers numbers) new m es
  unfolding has_slot same_signature has_number number_of by_numbers
  has_is m es e g = rw (g, e)
