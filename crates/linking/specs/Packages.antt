-- Class kind 3: a built class linked by 5.4.5 of the JVM Specification, package by package. The methods that a method overrides, by one walk up
-- the chain; the method that introduced a slot; the table; row 26; and beside the walk the section itself, as a type. The section is that of the
-- Java SE 8 edition, told here in our words (docs/DECISIONS.md has what earlier editions say). `same` compares the signatures of two methods. Assumes
-- nothing.
use Rattle.std.specs.Prelude.{ℕ, ◌<◌, min, ◌≡◌, ◌≢◌, ◌↔◌, Bool, true, false, cond, not, ◌&&◌, ◌||◌, length, get_or, set, take, eqb, ltb, Option, Some, None}
use mathlib.Core.List.{List, [], ◌∷◌, ◌++◌, Memᴰ}
use Rattle.words.specs.Lists.{numbers, fold, keep, some}
use Rattle.std.specs.Option.{option_or, option_and_then}
use Rattle.text.specs.Text.{same_bytes}
pub use Rattle.class_sheet.specs.Flags.{is_public, is_protected}
use Rattle.class_sheet.specs.ClassSheet.{class_limit, text_of, class_flags, is_packaged, class_table_place, class_slot_count, class_name, method_flags}
use Rattle.set_rules.specs.Valid.{IsClass, Valid}
use Rattle.linking.specs.Signature.{Same, by_bytes, methods_same}
use Rattle.linking.specs.Chain.{on_found, own_methods, parent_of, chain, is_private, is_static, is_interface, is_virtual, eligible, SameSignature}
use Rattle.linking.specs.Abi.{class_abi}
use Rattle.linking.specs.Vtable.{Entry, read_slot, parent_entries, method_entry}

-- ---- packages: "A package is the class name before its last slash, empty without one.": a byte belongs to it while a slash (0x2F) follows

unfoldable pub package_of : List ℕ → List ℕ
package_of [] = []
package_of (b ∷ bs) = cond (some (λ x. eqb x 47) bs) (b ∷ package_of bs) []

-- that this is so; `package_meaning` of proofs/PackageNames.antt proves it
pub record PackageMeaning : Type 0 where
  -- "before its last slash", which is at i
  pub before_last : (name : List ℕ) (i : ℕ) → i < length name → get_or name i 0 ≡ 47 → ((j : ℕ) → i < j → j < length name → get_or name j 0 ≢ 47)
      → package_of name ≡ take i name
  -- "empty without one"
  pub without : (name : List ℕ) → ((j : ℕ) → j < length name → get_or name j 0 ≢ 47) → package_of name ≡ []

module _ (ws text : List ℕ) where
  abbrev pub package_at : ℕ → List ℕ
  package_at c = package_of (class_name ws text c)

  -- method k of class a is open to class c: it is marked public, or protected, or is not marked private and a is of c's package
  unfoldable pub open_to : ℕ → ℕ → ℕ → Bool
  open_to k a c =
      is_public (method_flags ws k)
      || is_protected (method_flags ws k)
      || (not (is_private (method_flags ws k)) && same_bytes (package_at a) (package_at c))

-- ---- the methods that method m, as one of class c, overrides: none if m is static or private, else by one walk up the chain. The walk holds the
-- classes reached so far, at first c. Of each class above, the instance methods of m's signature that are open to a class reached are overridden; and if
-- one of these is not private, that class is reached too.

module _ (same : ℕ → ℕ → Bool) (ws text : List ℕ) where
  unfoldable pub is_overridden : ℕ → List ℕ → ℕ → ℕ → Bool
  is_overridden m reached a k = not (is_static (method_flags ws k)) && same k m && some (open_to ws text k a) reached

  unfoldable pub overridden_in : ℕ → List ℕ → ℕ → List ℕ
  overridden_in m reached a = keep (is_overridden m reached a) (own_methods ws a)

  unfoldable pub reached_with : ℕ → List ℕ → ℕ → List ℕ
  reached_with m reached a =
      cond (some (λ k. not (is_private (method_flags ws k))) (overridden_in m reached a)) (reached ++ (a ∷ [])) reached

  unfoldable pub overridden_along : ℕ → List ℕ → List ℕ → List ℕ
  overridden_along m reached [] = []
  overridden_along m reached (a ∷ rest) = overridden_in m reached a ++ overridden_along m (reached_with m reached a) rest

  unfoldable pub overridden : ℕ → ℕ → List ℕ
  overridden c m = cond (is_virtual (method_flags ws m)) (overridden_along m (c ∷ []) (chain ws (parent_of ws c))) []

-- ---- "A slot's introducing method is what Reading finds there in the topmost chain class whose table has it."

-- the topmost class of a chain that passes the test: a chain has the nearest class first, so the topmost is the last
unfoldable pub topmost : (ℕ → Bool) → List ℕ → Option ℕ
topmost p [] = None
topmost p (x ∷ xs) = option_or (topmost p xs) (cond (p x) (Some x) None)

-- class c is linked, and its table has slot i
unfoldable pub table_has : List ℕ → ℕ → ℕ → Bool
table_has ws i c = not (eqb (class_table_place ws c) 0) && ltb i (min (class_slot_count ws c) 1024)

module _ (same : Same) (ws text abi labels : List ℕ) where
  -- of slot i in the table of class p
  unfoldable pub introducing : List ℕ → ℕ → ℕ → Option ℕ
  introducing area p i =
      option_and_then (λ d. (read_slot same ws text abi labels area d i).method) (topmost (table_has ws i) (chain ws p))

-- ---- the table: "An eligible method takes every inherited slot whose introducing method it overrides by that section, and a new last slot if there
-- is none."

-- the slots below n whose introducing method is one of these methods
unfoldable pub taken_slots : (ℕ → Option ℕ) → List ℕ → ℕ → List ℕ
taken_slots introduced ks n = keep (λ i. on_found (introduced i) (λ k. some (λ j. eqb j k) ks) false) (numbers 0 n)

-- the entry at each of these indices, or after the last
unfoldable pub put_taken : Entry → List Entry → List ℕ → List Entry
put_taken e T [] = T ++ (e ∷ [])
put_taken e T (i ∷ is) = fold (λ U j. set U j e) (set T i e) is

module _ (same : ℕ → ℕ → Bool) (ws text : List ℕ) where
  -- `introduced` gives the introducing methods of the n inherited slots
  unfoldable pub take_slots : (ℕ → Option ℕ) → ℕ → ℕ → List Entry → ℕ → List Entry
  take_slots introduced n c T m =
      cond (eligible ws text m) (put_taken (method_entry ws m) T (taken_slots introduced (overridden same ws text c m) n)) T

  -- over the parent's entries
  unfoldable pub packages_over : (ℕ → Option ℕ) → ℕ → List Entry → List Entry
  packages_over introduced c P = fold (take_slots introduced (length P) c) P (own_methods ws c)

module _ (same : Same) (ws text abi labels : List ℕ) where
  -- (rows 3 and 6 refuse a class number above `class_limit`: it has no table)
  unfoldable pub build_packages : List ℕ → ℕ → List Entry
  build_packages area c =
      cond (ltb class_limit c)
      []
      (packages_over (methods_same same) ws text (introducing same ws text abi labels area (parent_of ws c)) c
      (parent_entries same ws text abi labels area c))

-- ---- row 26: "if a kind 3 class's chain has an ABI entry, an interface or another kind, or another class's chain has kind 3"

module _ (ws text abi labels : List ℕ) where
  unfoldable pub unfit_for_packages : ℕ → Bool
  unfit_for_packages c =
      on_found (class_abi ws text abi labels c) (λ a. true) false || is_interface (class_flags ws c) || not (is_packaged ws c)

  unfoldable pub bad_packages : ℕ → Bool
  bad_packages c = cond (is_packaged ws c) (some unfit_for_packages (chain ws c)) (some (is_packaged ws) (chain ws c))

-- ---- JVMS 5.4.5 as a type: when an instance method m declared in class c overrides an instance method k declared in class a

-- c is a subclass of a, a proper one. (That two methods have the same name and descriptor is `SameSignature` of Chain.antt.)
abbrev pub Above : List ℕ → ℕ → ℕ → Type 0
Above ws a c = Memᴰ a (chain ws (parent_of ws c))

-- k is an instance method that class a declares
pub record Instance (ws : List ℕ) (a k : ℕ) : Type 0 where
  pub own : Memᴰ k (own_methods ws a)
  pub not_static : is_static (method_flags ws k) ≡ false

-- m is such a method of class c, and is not marked private
pub record Virtual (ws : List ℕ) (c m : ℕ) : Type 0 where
  pub declared : Instance ws c m
  pub not_private : is_private (method_flags ws m) ≡ false

module _ (ws text : List ℕ) where
  -- k is marked public; or protected; or none of public, protected and private, and a is in the run-time package of c. (Of a method marked public or
  -- protected the third says nothing new.)
  pub data Open (k a c : ℕ) : Type 0 where
    public : is_public (method_flags ws k) ≡ true → Open k a c
    protected : is_protected (method_flags ws k) ≡ true → Open k a c
    in_package : is_private (method_flags ws k) ≡ false → package_at ws text a ≡ package_at ws text c → Open k a c

  -- or else m overrides a third method n, which overrides k. (The section has n distinct from m and from k: in a valid set it is, as n's class lies
  -- between theirs and no method is of two classes.)
  pub data Overrides : ℕ → ℕ → ℕ → ℕ → Type 0 where
    open_method : {c m a k : ℕ} → Above ws a c → Virtual ws c m → Instance ws a k → SameSignature ws text m k → Open k a c → Overrides c m a k
    through : {c m a k : ℕ} (b n : ℕ) → Overrides c m b n → Overrides b n a k → Overrides c m a k

-- the walk finds what the section says, where signatures are compared by their bytes: on a valid set, for m in c's list, a above c and k in a's list
abbrev pub OverridesMeaning : Type 0
OverridesMeaning =
    (ws abi labels : List ℕ) → Valid ws → (c m a k : ℕ) → IsClass ws c → Memᴰ m (own_methods ws c) → Above ws a c → Memᴰ k (own_methods ws a)
    → Memᴰ k (overridden (methods_same (by_bytes ws (text_of ws) abi labels)) ws (text_of ws) c m) ↔ Overrides ws (text_of ws) c m a k
