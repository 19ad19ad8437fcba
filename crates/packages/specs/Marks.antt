-- What the table of a class of kind 3 is built with: overridden methods as marks in an array, and the introducing methods as an array of the marks
-- that Reading gives. Assumes nothing.
use Rattle.std.specs.Prelude.{ℕ, ◌<◌, ◌≡◌, Bool, true, false, List, [], ◌∷◌, cond, get_or, set, Option}
use Rattle.words.specs.Lists.{numbers, keep}
use Rattle.linking.specs.Signature.{Same, methods_same, by_numbers}
use Rattle.linking.specs.declared.Sheets.{Sheets}
use Rattle.linking.specs.Chain.{on_found, chain}
use Rattle.linking.specs.Vtable.{read_slot}
use Rattle.linking.specs.Packages.{topmost, table_has, introducing}
use Rattle.reading.specs.Arrays.{method_of}

-- what f says of the walk, by the signatures of the sheets' methods
abbrev pub of_walk {ℓ} : {A : Type ℓ} → ((ℕ → ℕ → Bool) → List ℕ → List ℕ → A) → Sheets → A
of_walk f sheets = f (methods_same (by_numbers sheets.numbers.now)) sheets.set.now sheets.text.now

-- method k is marked
unfoldable pub mark : List Bool → ℕ → List Bool
mark ms k = set ms k true

-- the method is one of those marked
unfoldable pub taken_by : Option ℕ → List Bool → Bool
taken_by f marks = on_found f (λ m. get_or marks m false) false

-- the introducing method of slot i
unfoldable pub top_of : List ℕ → ℕ → Option ℕ
top_of tops i = method_of (get_or tops i 0)

-- the slots below n whose introducing method is marked
unfoldable pub taken_in : List ℕ → List Bool → ℕ → List ℕ
taken_in tops marks n = keep (λ i. taken_by (top_of tops i) marks) (numbers 0 n)

abbrev pub is_some : List ℕ → Bool
is_some [] = false
is_some (x ∷ xs) = true

-- once class d's table is laid over the array `tops`, it is `new`: where the table has a slot, the mark is of the method that Reading finds there
abbrev pub Laid : Same → List ℕ → List ℕ → List ℕ → List ℕ → List ℕ → ℕ → List ℕ → List ℕ → Type 0
Laid same ws text abi labels area d tops new =
    (i : ℕ) → i < 1024
    → method_of (get_or new i 0) ≡ cond (table_has ws i d) (read_slot same ws text abi labels area d i).method (method_of (get_or tops i 0))

-- once the tables of d's chain are laid over the array `tops`, it is `new`
abbrev pub LaidUp : Same → List ℕ → List ℕ → List ℕ → List ℕ → List ℕ → ℕ → List ℕ → List ℕ → Type 0
LaidUp same ws text abi labels area d tops new =
    (i : ℕ) → i < 1024
    → top_of new i ≡ on_found (topmost (table_has ws i) (chain ws d)) (λ e. (read_slot same ws text abi labels area e i).method) (top_of tops i)

-- the array holds the introducing methods of the slots of class p's table
abbrev pub Tops : Same → List ℕ → List ℕ → List ℕ → List ℕ → List ℕ → ℕ → List ℕ → Type 0
Tops same ws text abi labels area p tops = (i : ℕ) → i < 1024 → top_of tops i ≡ introducing same ws text abi labels area p i
