-- Whose a method is: "Each chain search for a method, by target or signature, shall answer the declaring class's number together with the
-- method, and the nearest class on the chain counts." The searches, and the theorems on them as one record. Assumes nothing.
use Rattle.std.specs.Prelude.{ℕ, ◌+◌, ◌≤◌, ◌<◌, ◌≡◌, ◌↔◌, true, get_or, Option, Some, None, option_map}
use mathlib.Core.List.{List, [], ◌∷◌, ◌++◌, Memᴰ}
use Rattle.words.specs.Lists.{numbers, find, first_found}
use Rattle.std.specs.Option.{option_or}
use Rattle.class_sheet.specs.ClassSheet.{class_count, class_first_method, class_method_count, class_link_state, class_table_place, method_flags, method_target}
use Rattle.set_rules.specs.Valid.{IsClass}
use Rattle.linking.specs.declared.Declared.{Declared}
use Rattle.linking.specs.Signature.{Same, of_method, of_abi_slot}
use Rattle.linking.specs.Chain.{own_methods, chain, is_virtual, own_target}
use Rattle.linking.specs.Abi.{class_abi, slot_at}
use Rattle.linking.specs.Vtable.{own_fixed, read_entry, read_slot}
use Rattle.linking.specs.Compiler.{holds, owner_state}
use Rattle.linking.specs.Ask.{own_implementation, implementation}

-- ---- what is answered

-- method m of class c
abbrev pub declared : ℕ → ℕ → Option Declared
declared c m = Some (record { class = c; method = m })

-- the method alone
abbrev pub method_of : Option Declared → Option ℕ
method_of found = option_map (λ d. d.method) found

-- the class alone, 0 for nobody
abbrev pub declaring_class : Option Declared → ℕ
declaring_class (Some d) = d.class
declaring_class None = 0

-- what class c's own search found
abbrev pub declared_in : ℕ → Option ℕ → Option Declared
declared_in c found = option_map (λ m. record { class = c; method = m }) found

-- ---- the searches: "class first, then ancestors"

-- the first class of the list whose search finds a method, and that method
unfoldable pub first_declared : (ℕ → Option ℕ) → List ℕ → Option Declared
first_declared f [] = None
first_declared f (c ∷ cs) = option_or (declared_in c (f c)) (first_declared f cs)

unfoldable pub declared_by_target : List ℕ → ℕ → ℕ → Option Declared
declared_by_target ws c t = first_declared (own_target ws t) (chain ws c)

unfoldable pub declared_implementation : Same → List ℕ → ℕ → ℕ → Option Declared
declared_implementation same ws c m = first_declared (own_implementation same ws (of_method m)) (chain ws c)

module _ (same : Same) (ws text abi labels : List ℕ) where
  unfoldable pub declared_by_index : ℕ → ℕ → Option Declared
  declared_by_index c i = first_declared (own_fixed same ws text abi labels i) (chain ws c)

  -- Reading: by target over the whole chain, and failing that by index
  unfoldable pub read_declared : ℕ → ℕ → ℕ → Option Declared
  read_declared c i w = option_or (declared_by_target ws c w) (declared_by_index c i)

  -- the class of slot i of class c's table, as the area holds it: "0 for an unknown slot"
  unfoldable pub slot_class : List ℕ → ℕ → ℕ → ℕ
  slot_class area c i = declaring_class (read_declared c i (get_or area (class_table_place ws c + 1 + i) 0))

-- ---- the theorems, whatever compares the signatures

-- the search finds method m in class d of the list, and in none before it
pub record Nearest (f : ℕ → Option ℕ) (cs : List ℕ) (d m : ℕ) : Type 0 where
  pub before : List ℕ
  pub after : List ℕ
  pub parts : cs ≡ before ++ (d ∷ after)
  pub finds : f d ≡ Some m
  pub nearer : (e : ℕ) → Memᴰ e before → f e ≡ None

-- class d is on class c's chain, and method m in its list
pub record Declares (ws : List ℕ) (c d m : ℕ) : Type 0 where
  pub along : Memᴰ d (chain ws c)
  pub member : Memᴰ m (own_methods ws d)

-- no method is in the lists of two classes: row 4 asks it of each set, and links and asks leave it so (`Owners`, crate `calls`)
abbrev pub MethodsApart : List ℕ → Type 0
MethodsApart ws =
    (c d m : ℕ) → IsClass ws c → IsClass ws d
    → class_first_method ws c ≤ m → m < class_first_method ws c + class_method_count ws c
    → class_first_method ws d ≤ m → m < class_first_method ws d + class_method_count ws d → c ≡ d

-- method m has the signature of the first slot row with index i in class d's ABI entry
pub record FixedThere (same : Same) (ws text abi labels : List ℕ) (d i m : ℕ) : Type 0 where
  pub entry : ℕ
  pub row : ℕ
  pub entry_found : class_abi ws text abi labels d ≡ Some entry
  pub row_is : slot_at abi i entry ≡ Some row
  pub signature : same (of_method m) (of_abi_slot row) ≡ true

-- a slot's last column, where Reading finds this method along class c's chain: "0 for an unknown slot", else the class that declares the method
pub data Column (ws : List ℕ) (c : ℕ) : Option ℕ → ℕ → Type 0 where
  unknown_slot : Column ws c None 0
  known_slot : {d m : ℕ} → Declares ws c d m → Column ws c (Some m) d

pub record Whose : Type 0 where
  -- every answer remains
  pub remains : (f : ℕ → Option ℕ) (cs : List ℕ) → method_of (first_declared f cs) ≡ first_found f cs
  pub reading_remains : (same : Same) (ws text abi labels : List ℕ) (c i w : ℕ)
      → method_of (read_declared same ws text abi labels c i w) ≡ (read_entry same ws text abi labels c i w).method
  pub implementation_remains : (same : Same) (ws : List ℕ) (c m : ℕ) → method_of (declared_implementation same ws c m) ≡ implementation same ws c m
  -- the nearest counts
  pub nearest : (f : ℕ → Option ℕ) (cs : List ℕ) (d m : ℕ) → first_declared f cs ≡ declared d m → Nearest f cs d m
  -- it declares the method: by target, by index, of an implementation
  pub by_target : (ws : List ℕ) (c t d m : ℕ) → declared_by_target ws c t ≡ declared d m → Declares ws c d m × (method_target ws m ≡ t)
  pub by_index : (same : Same) (ws text abi labels : List ℕ) (c i d m : ℕ) → declared_by_index same ws text abi labels c i ≡ declared d m
      → Declares ws c d m × FixedThere same ws text abi labels d i m
  pub implements : (same : Same) (ws : List ℕ) (c k d m : ℕ) → declared_implementation same ws c k ≡ declared d m
      → Declares ws c d m × (is_virtual (method_flags ws m) ≡ true) × (same (of_method m) (of_method k) ≡ true)
  -- and no other does: it is the class whose list holds the method
  pub no_other : (ws : List ℕ) (c d m : ℕ) → MethodsApart ws → IsClass ws c → Declares ws c d m
      → (find (holds ws m) (numbers 1 (class_count ws)) ≡ Some d) × (owner_state ws m ≡ class_link_state ws d)
  -- the method that Reading finds at a slot's word and the number that the listing prints beside it belong together
  pub column : (same : Same) (ws text abi labels : List ℕ) (c i w : ℕ)
      → Column ws c (read_entry same ws text abi labels c i w).method (declaring_class (read_declared same ws text abi labels c i w))
  -- 0 is unknown
  pub unknown : (same : Same) (ws text abi labels area : List ℕ) (c i : ℕ)
      → (slot_class same ws text abi labels area c i ≡ 0) ↔ ((read_slot same ws text abi labels area c i).method ≡ None)
