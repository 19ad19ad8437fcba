-- A class's own members, its parents, and what its methods are. Every definition is total: a list that runs past its section's limit,
-- which row 4 refuses, is cut there, and a parent that is not below its child, which row 4 refuses too, counts as none. Assumes nothing.
use Rattle.std.specs.Prelude.{ℕ, zero, suc, ◌-◌, min, ◌≡◌, Bool, cond, not, ◌&&◌, List, [], ◌∷◌, get_or, eqb, ltb, Option, Some, None}
use Rattle.words.specs.Lists.{numbers, find, first_found}
pub use Rattle.class_sheet.specs.Flags.{is_private, is_static, is_interface, is_abstract}
use Rattle.class_sheet.specs.ClassSheet.{class_parent, class_first_method, class_method_count, class_first_field, class_field_count, class_first_interface, class_interface_count, method_name, method_descriptor, method_flags, method_target, method_limit, field_limit, interface_limit}
use Rattle.linking.specs.Signature.{Same, Place, of_method}

-- what is made of a number that was found, or what stands for nothing
abbrev pub on_found {ℓ} : {A : Type ℓ} → Option ℕ → (ℕ → A) → A → A
on_found (Some n) f otherwise = f n
on_found None f otherwise = otherwise

-- how many of `count` elements from `first` on lie below the limit
abbrev pub list_count : ℕ → ℕ → ℕ → ℕ
list_count first count limit = min count (limit - first)

-- the numbers of a class's own methods, fields and interface words, in order
unfoldable pub own_methods : List ℕ → ℕ → List ℕ
own_methods ws c = numbers (class_first_method ws c) (list_count (class_first_method ws c) (class_method_count ws c) method_limit)

unfoldable pub own_fields : List ℕ → ℕ → List ℕ
own_fields ws c = numbers (class_first_field ws c) (list_count (class_first_field ws c) (class_field_count ws c) field_limit)

unfoldable pub own_interfaces : List ℕ → ℕ → List ℕ
own_interfaces ws c = numbers (class_first_interface ws c) (list_count (class_first_interface ws c) (class_interface_count ws c) interface_limit)

-- the parent's number, 0 without one
unfoldable pub parent_of : List ℕ → ℕ → ℕ
parent_of ws c = cond (ltb (class_parent ws c) c) (class_parent ws c) 0

-- the class and its ancestors, nearest first. Numbers fall along it, so the class's own number bounds its length.
unfoldable pub chain_of : List ℕ → ℕ → ℕ → List ℕ
chain_of ws zero c = []
chain_of ws (suc k) zero = []
chain_of ws (suc k) (suc c) = suc c ∷ chain_of ws k (parent_of ws (suc c))

unfoldable pub chain : List ℕ → ℕ → List ℕ
chain ws c = chain_of ws c c

-- ---- flags

-- not static, not private (0x0002)
unfoldable pub is_virtual : ℕ → Bool
is_virtual flags = not (is_static flags) && not (is_private flags)

-- "Eligible: not static, not private (0x0002), name not starting with `<`."
unfoldable pub is_eligible : ℕ → List ℕ → Bool
is_eligible flags name = is_virtual flags && not (eqb (get_or name 0 0) 60)

unfoldable pub eligible : List ℕ → List ℕ → ℕ → Bool
eligible ws text m = is_eligible (method_flags ws m) (method_name ws text m)

-- ---- signatures: "signature (name and descriptor)"

-- two methods have one name and one descriptor
pub record SameSignature (ws text : List ℕ) (m k : ℕ) : Type 0 where
  pub name : method_name ws text m ≡ method_name ws text k
  pub descriptor : method_descriptor ws text m ≡ method_descriptor ws text k

-- ---- searches along the chain: "class first, then ancestors"

-- the class's first method with this target
unfoldable pub own_target : List ℕ → ℕ → ℕ → Option ℕ
own_target ws t c = find (λ m. eqb (method_target ws m) t) (own_methods ws c)

unfoldable pub find_by_target : List ℕ → ℕ → ℕ → Option ℕ
find_by_target ws c t = first_found (own_target ws t) (chain ws c)

-- the class's first method of the signature of place p, of any flags
unfoldable pub own_method : Same → List ℕ → Place → ℕ → Option ℕ
own_method same ws p c = find (λ m. same (of_method m) p) (own_methods ws c)
