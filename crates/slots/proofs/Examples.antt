-- A chain on which the premises hold, tables that links wrote, and what the claims then say of them. Assumes nothing.
use Rattle.std.proofs.Common.{◌≡◌, refl, sym, ap, ◌∙◌, ◌⊎◌, inl, inr, ◌≢◌, List, [], ◌∷◌, ℕ, suc, ◌+◌, ◌-◌, ◌*◌, ◌≤◌, ◌<◌, arith, get_or, Some, None}
use mathlib.Core.List.Memᴰ
use mathlib.Core.List.{Memᴰ}
use Rattle.class_sheet.specs.ClassSheet.{text_of, class_kind, method_target}
use Rattle.abi_sheet.specs.AbiSheet.{abi_text_of, abi_slot_name}
use Rattle.linking.specs.Chain.{own_methods, parent_of, chain}
use Rattle.linking.specs.Abi.{abi_slots, slot_index, class_abi}
use Rattle.linking.specs.Vtable.{empty, method_entry}
use Rattle.linking.proofs.Assemble.{Lent, method, built, array, slot, abi, lent, link, answers, after, table_of}
use Rattle.linking.proofs.Opened.{opened}
use Rattle.words.proofs.ListLaws.{get_d_list_from, not_found}
use Rattle.slots.specs.Slots.{OldRule, Unique, Keeps, Kept, ChainMethod, ChainSlot}
use Rattle.slots.specs.Made.{Made, Conditions, read_words, start_from, table_from, inherited_from, made_from, Calm}
use Rattle.slots.proofs.ListFacts.{found-same, in_none}
use Rattle.slots.proofs.Tables.{table-unique, table_kept}

-- class 1 declares foo, which its ABI entry fixes at 1; class 2 is an array of it whose ABI entry fixes bar at 2; class 3 declares foo and bar
abbrev world : Lent
world =
    lent
    (built "java/lang/Object" 0 (method "foo" 100 ∷ []) []
    ∷ array "[I" 1
    ∷ built "C" 2 (method "foo" 200 ∷ method "bar" 300 ∷ []) []
    ∷ [])
    (abi "java/lang/Object" (slot "foo" 1 ∷ []) [] ∷ abi "[I" (slot "bar" 2 ∷ []) [] ∷ [])

unfoldable pub ws : List ℕ
ws = world.set

unfoldable pub text : List ℕ
text = text_of world.set

unfoldable pub sheet : List ℕ
sheet = world.abi

unfoldable pub labels : List ℕ
labels = abi_text_of world.abi

-- the tables that the links write
abbrev tables : ℕ → List ℕ
tables c = get_or ([] ∷ (901 ∷ 100 ∷ []) ∷ (901 ∷ 100 ∷ []) ∷ (901 ∷ 200 ∷ 300 ∷ []) ∷ []) c []

-- the stubs lent
abbrev P : ℕ → Type 0
P x = (901 ≤ x) × (x ≤ 908)

pub record Rows : Type 0 where
  pub accepted : answers world (link 1 ∷ link 2 ∷ link 3 ∷ []) ≡ (0, 1, 2) ∷ (0, 5, 2) ∷ (0, 9, 3) ∷ []
  pub first : table_of 1 (after world (link 1 ∷ link 2 ∷ link 3 ∷ [])) ≡ tables 1
  pub second : table_of 2 (after world (link 1 ∷ link 2 ∷ link 3 ∷ [])) ≡ tables 2
  pub third : table_of 3 (after world (link 1 ∷ link 2 ∷ link 3 ∷ [])) ≡ tables 3

pub rows : Rows
unfolding opened
rows = record { accepted = refl; first = refl; second = refl; third = refl }

-- ---- the chain of class 3

along : chain ws 3 ≡ 3 ∷ 2 ∷ 1 ∷ []
unfolding opened ws
along = refl

-- a method of the chain: its number and target
record Method (m : ℕ) : Type 0 where
  small : m ≤ 2
  target : method_target ws m ≡ 100 * suc m

-- a slot record of the chain: its number, its index, and its name's first letter, f or b
record Slot (s : ℕ) : Type 0 where
  small : s ≤ 1
  index : slot_index sheet s ≡ suc s
  letter : get_or (abi_slot_name sheet labels s) 0 0 ≡ 102 - 4 * s

-- what holds of each element of a list that is written out
abbrev All : (ℕ → Type 0) → List ℕ → Type 0
All R [] = Unit {0}
All R (x ∷ xs) = R x × All R xs

each : (R : ℕ → Type 0) (xs : List ℕ) → All R xs → (x : ℕ) → Memᴰ x xs → R x
each R [] h x i = in_none refl i
each R (y ∷ xs) h x i = elim (Memᴰ.cases_cons i) [ inl e ↦ rw e h.0 | inr j ↦ each R xs h.1 x j ]

the_methods : (c : ℕ) → Memᴰ c (3 ∷ 2 ∷ 1 ∷ []) → (m : ℕ) → Memᴰ m (own_methods ws c) → Method m
unfolding opened ws
the_methods =
    each (λ c. (m : ℕ) → Memᴰ m (own_methods ws c) → Method m) (3 ∷ 2 ∷ 1 ∷ []) (
      (each Method (1 ∷ 2 ∷ []) (record { small = omega arith; target = refl }, (record { small = omega arith; target = refl }, tt))),
      ((each Method [] tt), ((each Method (0 ∷ []) (record { small = omega arith; target = refl }, tt)), tt)),
    )

the_slots : (c : ℕ) → Memᴰ c (3 ∷ 2 ∷ 1 ∷ []) → (a : ℕ) → class_abi ws text sheet labels c ≡ Some a → (s : ℕ) → Memᴰ s (abi_slots sheet a) → Slot s
unfolding opened ws text sheet labels
the_slots =
    each (λ c. (a : ℕ) → class_abi ws text sheet labels c ≡ Some a → (s : ℕ) → Memᴰ s (abi_slots sheet a) → Slot s) (3 ∷ 2 ∷ 1 ∷ []) (
      (λ a e. not_found e),
      (
        (λ a e. let q : 1 ≡ a = found-same e in rw (← q) (each Slot (1 ∷ []) (record { small = omega arith; index = refl; letter = refl }, tt))),
        ((λ a e. let q : 0 ≡ a = found-same e in rw (← q) (each Slot (0 ∷ []) (record { small = omega arith; index = refl; letter = refl }, tt))), tt),
      ),
    )

a-method : (m : ℕ) → ChainMethod ws 3 m → Method m
a-method m k = the_methods k.owner (rw along at k.along) m k.own

a-slot : (s : ℕ) → ChainSlot ws text sheet labels 3 s → Slot s
a-slot s k = the_slots k.class (rw along at k.along) k.entry k.named s k.own

conditions : Conditions ws text sheet labels P 3
conditions = record {
  one_index = λ s z k l n d.
      let a = a-slot s k in let b = a-slot z l in
      let e : get_or (abi_slot_name sheet labels s) 0 0 ≡ get_or (abi_slot_name sheet labels z) 0 0 = ap (λ (x : List ℕ). get_or x 0 0) n in
      a.index ∙ omega (arith, a.small, b.small, a.letter, b.letter, e) ∙ sym b.index;
  nonzero_targets = λ m k e. omega (arith, (a-method m k).target, e);
  different_targets = λ m n k l e. omega (arith, (a-method m k).target, (a-method n l).target, e);
  nonzero_stubs = λ x p e. omega (arith, p.0, e);
  no_stub = λ x m p k e. omega (arith, p.0, (a-method m k).target, (a-method m k).small, e);
}

-- ---- its tables

lent-stubs : (i : ℕ) → i < 8 → P (get_or world.stubs i 0)
lent-stubs i h = rw (get_d_list_from (λ k. 901 + k) 0 8 i 0 h) (omega arith, omega arith)

made : (c : ℕ) → Memᴰ c (3 ∷ 2 ∷ 1 ∷ []) → Made ws text sheet labels tables P c
unfolding opened ws text sheet labels start_from table_from inherited_from made_from read_words
made = each (Made ws text sheet labels tables P) (3 ∷ 2 ∷ 1 ∷ []) (third, (second, (first, tt)))
  where
    first : Made ws text sheet labels tables P 1
    first = record {
      entries = empty ∷ method_entry ws 0 ∷ [];
      stubs = world.stubs;
      enough = omega arith;
      lent = lent-stubs;
      bare = λ (e : ◌≡◌ {A = ℕ} 0 2). absurd (omega arith);
      from = refl;
      words = refl;
    }

    second : Made ws text sheet labels tables P 2
    second = record {
      entries = record { word = 901; method = None; source = Some 0 } ∷ record { word = method_target ws 0; method = Some 0; source = Some 1 } ∷ [];
      stubs = world.stubs;
      enough = omega arith;
      lent = lent-stubs;
      bare = λ e. refl;
      from = refl;
      words = refl;
    }

    third : Made ws text sheet labels tables P 3
    third = record {
      entries = record { word = 901; method = None; source = Some 0 } ∷ method_entry ws 1 ∷ method_entry ws 2 ∷ [];
      stubs = world.stubs;
      enough = omega arith;
      lent = lent-stubs;
      bare = λ (e : ◌≡◌ {A = ℕ} 0 2). absurd (omega arith);
      from = refl;
      words = refl;
    }

-- no class of the chain inherits two signatures of one index
calm : (c : ℕ) → Memᴰ c (3 ∷ 2 ∷ 1 ∷ []) → Calm ws text sheet labels tables c
unfolding opened ws text sheet labels inherited_from read_words
calm = each (Calm ws text sheet labels tables) (3 ∷ 2 ∷ 1 ∷ []) (refl, (refl, (refl, tt)))

-- ---- slot 1 of class 3: the child's foo over its parent's

pub overridden : Keeps ws text sheet labels 3 (tables 3) (tables 2) 1 0
unfolding opened ws text sheet labels
overridden = record {
  method = 1;
  known = record { slot = omega arith; reads = refl };
  signature = record { name = refl; descriptor = refl };
  target = inr (record { method = 1; own = Memᴰ.head refl; eligible = refl; signature = record { name = refl; descriptor = refl }; target_is = refl });
}

-- ---- so the claims hold of them

the_kinds : (d : ℕ) → Memᴰ d (3 ∷ 2 ∷ 1 ∷ []) → (class_kind ws d ≡ 0) ⊎ (class_kind ws d ≡ 2)
unfolding opened ws
the_kinds =
    each (λ d. (class_kind ws d ≡ 0) ⊎ (class_kind ws d ≡ 2)) (3 ∷ 2 ∷ 1 ∷ []) (inl refl, (inr refl, (inl refl, tt)))

kinds : OldRule ws 3
kinds d i = the_kinds d (rw along at i)

pub unique : Unique ws text sheet labels 3 (tables 3)
unique = table-unique ws text sheet labels tables P 3 (omega arith) kinds conditions (λ d i. made d (rw along at i)) (λ d i. calm d (rw along at i))

pub kept : Kept ws text sheet labels 3 (tables 3) (tables (parent_of ws 3))
kept = table_kept ws text sheet labels tables P 3 (omega arith) kinds conditions (λ d i. made d (rw along at i)) (λ d i. calm d (rw along at i))
    some-parent no_entry
  where
    some-parent : parent_of ws 3 ≢ 0
    some-parent e = let p : parent_of ws 3 ≡ 2 = unfold opened in unfold ws in refl in omega arith

    no_entry : class_abi ws text sheet labels 3 ≡ None
    no_entry = unfold opened in unfold ws in unfold text in unfold sheet in unfold labels in refl
