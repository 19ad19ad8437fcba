-- Laws of the ABI lookups: a chain of ABI classes is not cut where row 3 does not refuse, they are classes of the ABI sheet, what an index finds, and what
-- a class asks for. Assumes nothing.
use mathlib.Core.Path.{◌≡◌, refl}
use mathlib.Core.Logic.{⊎_elim}
use mathlib.Core.List.Memᴰ
use mathlib.Core.List.{List, [], ◌∷◌, Memᴰ}
use Prim.Native.Nat.{ℕ, zero, suc, ◌≤◌, ◌<◌}
use native.Mathlib.Omega.{arith}
use lib.ListN.{take}
use lib.Seq.{take_all}
use lib.Dec.{eqb}
use borrow.Author.Tests.{eqb-true}
use Rattle.class_sheet.specs.ClassSheet.{class_limit, class_name}
use Rattle.abi_sheet.specs.AbiSheet.{abi_class_count, abi_class_name}
use Rattle.text.specs.Text.{same_bytes}
use Rattle.words.specs.Lists.{all_found}
use Rattle.std.specs.Prelude.{Option, Some}
use Rattle.words.proofs.ListLaws.{by-found, find-passes, find-within, all-found-length, largest_member}
use Rattle.linking.specs.Chain.{chain}
use Rattle.linking.specs.Abi.{abi_named, abi_slots, slot_index, slot_at, class_size, class_abi, chain_abi, minimum_size}
use Rattle.linking.proofs.ChainLaws.{chain_length}

pub chain-abi-whole : (ws text abi labels : List ℕ) (c : ℕ) → c ≤ class_limit
    → chain_abi ws text abi labels c ≡ all_found (class_abi ws text abi labels) (chain ws c)
unfolding chain_abi
chain-abi-whole ws text abi labels c h =
    take_all class_limit (all_found (class_abi ws text abi labels) (chain ws c))
    (omega (arith, all-found-length (class_abi ws text abi labels) (chain ws c), chain_length ws c))

-- a class's ABI entry is a class of the ABI sheet
pub class-abi-room : (ws text abi labels : List ℕ) (c a : ℕ) → class_abi ws text abi labels c ≡ Some a → a < abi_class_count abi
unfolding class_abi abi_named
class-abi-room ws text abi labels c a e =
    omega (arith, find-within (λ k. same_bytes (abi_class_name abi labels k) (class_name ws text c)) 0 (abi_class_count abi) a e)

-- so are those that a chain names
abbrev pub InSheet : List ℕ → List ℕ → Type 0
InSheet abi abis = (a : ℕ) → Memᴰ a abis → a < abi_class_count abi

founds-in : (abi : List ℕ) (f : ℕ → Option ℕ) (xs : List ℕ) → ((x a : ℕ) → f x ≡ Some a → a < abi_class_count abi) → InSheet abi (all_found f xs)
unfolding all_found
founds-in abi f [] h a i = absurd (Memᴰ.not-nil i)
founds-in abi f (x ∷ xs) h a i =
    by-found (f x)
    (λ b e.
    ⊎_elim (λ (q : a ≡ b). rw q (h x b e)) (λ j. founds-in abi f xs h a j) (Memᴰ.cases_cons (rw e at i)))
    (λ e. founds-in abi f xs h a (rw e at i))

take_in : (abi : List ℕ) (n : ℕ) (xs : List ℕ) → InSheet abi xs → InSheet abi (take n xs)
take_in abi zero xs h a i = absurd (Memᴰ.not-nil i)
take_in abi (suc n) [] h a i = absurd (Memᴰ.not-nil i)
take_in abi (suc n) (x ∷ xs) h a i =
    ⊎_elim (λ (q : a ≡ x). rw q (h x (Memᴰ.head refl))) (λ j. take_in abi n xs (λ b k. h b (Memᴰ.tail k)) a j) (Memᴰ.cases_cons i)

pub chain-abi-in : (ws text abi labels : List ℕ) (c : ℕ) → InSheet abi (chain_abi ws text abi labels c)
unfolding chain_abi
chain-abi-in ws text abi labels c =
    take_in abi class_limit (all_found (class_abi ws text abi labels) (chain ws c))
    (founds-in abi (class_abi ws text abi labels) (chain ws c) (λ x a e. class-abi-room ws text abi labels x a e))

pub slot-at-is : (abi : List ℕ) (a i s : ℕ) → slot_at abi i a ≡ Some s → slot_index abi s ≡ i
unfolding slot_at
slot-at-is abi a i s e = eqb-true _ _ (find-passes (λ k. eqb (slot_index abi k) i) (abi_slots abi a) s e)

-- an ABI class of the chain asks for no more than the chain does
pub minimum_size-member : (abi abis : List ℕ) (a : ℕ) → Memᴰ a abis → class_size abi a ≤ minimum_size abi abis
unfolding minimum_size
minimum_size-member abi abis a h = largest_member (class_size abi) abis 0 a h
