-- What is asked of methods of the sheet and of added ones, entry by entry, as the code asks it. Assumes nothing.
use Rattle.std.specs.Prelude.{ℕ, Bool, false, not, ◌&&◌, List, get_or, eqb}
use Rattle.linking.specs.Signature.{Same, place_number, by_numbers}
use Rattle.linking.specs.Chain.{on_found, is_eligible}
use Rattle.linking.specs.Vtable.{Entry}
use Rattle.linking.specs.Compiler.{Taken, place_of, name_of, flags_of, target_of, has_slot}
use Rattle.linking.specs.Sheets.{of_sheets}
use Rattle.compiler.specs.declared.Members.{Members}
use Rattle.growth.specs.News.{added_of}

-- what f says of the methods that are added, where the code has these members
abbrev pub of_added {ℓ} : {A : Type ℓ} → (List Taken → A) → Members → A
of_added f m = f (of_sheets added_of m.sheets m.news.now)

-- of class words and those methods
abbrev pub of_methods {ℓ} : {A : Type ℓ} → (List ℕ → List Taken → A) → Members → A
of_methods f m = of_added (f m.sheets.set.now) m

-- and of their text
abbrev pub of_members {ℓ} : {A : Type ℓ} → (List ℕ → List ℕ → List Taken → A) → Members → A
of_members f m = of_added (f m.sheets.set.now m.sheets.text.now) m

-- how signatures are compared: by their numbers
abbrev pub compared : Members → Same
compared m = by_numbers m.sheets.numbers.now

-- the entry's method has target t; no where there is none
unfoldable pub has_target : List ℕ → List Taken → ℕ → Entry → Bool
has_target ws new t e = on_found e.method (λ m. eqb (target_of ws new m) t) false

-- the number of method m's signature
unfoldable pub number_of : List ℕ → List Taken → ℕ → ℕ
number_of numbers new m = get_or numbers (place_number (place_of new m)) 0

-- the entry's method has this number; no where there is none
unfoldable pub has_number : List ℕ → List Taken → ℕ → Entry → Bool
has_number numbers new n e = on_found e.method (λ m. eqb n (number_of numbers new m)) false

-- method m is eligible, and none of these entries is of its signature
unfoldable pub takes_slot : Same → List ℕ → List ℕ → List Taken → List Entry → ℕ → Bool
takes_slot same ws text new es m = is_eligible (flags_of ws new m) (name_of ws text new m) && not (has_slot same new m es)
