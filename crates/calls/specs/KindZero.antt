-- KIND 3 AS KIND 0: `AsKindZero` and `Throughout`, at the end, are the statements; proofs/KindZero.antt proves them. "A kind 3 chain linked as in
-- demand 3 gets the same slots as kind 0 throughout, where both links are accepted, every eligible method is public, no class declares a signature
-- twice, and targets and stubs are as the old claim needs them." Of stubs nothing is needed: in a chain without ABI entries no slot is empty, and
-- targets are nonzero. Assumes nothing.
use Rattle.std.specs.Prelude.{ℕ, ◌≡◌, ◌≢◌, ◌⊎◌, true, cond, List}
use mathlib.Core.List.{Memᴰ}
use Rattle.words.specs.Lists.{numbers, fold}
use Rattle.class_sheet.specs.ClassSheet.{class_count, text_of, is_packaged, put_class_kind, method_flags, method_target}
use Rattle.linking.specs.Chain.{own_methods, chain, eligible, SameSignature}
use Rattle.linking.specs.Packages.{is_public, is_protected}
use Rattle.slots.specs.Slots.{PackageRule, ChainMethod}
use Rattle.linking.specs.Numbers.{Filled}
use Rattle.calls.specs.Calls.{Call, Way, numbered, Unlinked}
use Rattle.calls.specs.Demand.{table, Linked}

-- the sheet with each kind 3 written as 0
unfoldable pub as_built : List ℕ → ℕ → List ℕ
as_built ws c = cond (is_packaged ws c) (put_class_kind ws c 0) ws

unfoldable pub unpackaged : List ℕ → List ℕ
unpackaged ws = fold as_built ws (numbers 1 (class_count ws))

module _ (ws : List ℕ) where
  pub record Premises (c : ℕ) : Type 0 where
    -- "A kind 3 chain"
    pub packages : PackageRule ws c
    -- "every eligible method is public": or protected
    pub open_methods : (m : ℕ) → ChainMethod ws c m → eligible ws (text_of ws) m ≡ true
        → (is_public (method_flags ws m) ≡ true) ⊎ (is_protected (method_flags ws m) ≡ true)
    -- "no class declares a signature twice": no two eligible methods
    pub once : (d m k : ℕ) → Memᴰ d (chain ws c) → Memᴰ m (own_methods ws d) → Memᴰ k (own_methods ws d) → eligible ws (text_of ws) m ≡ true
        → eligible ws (text_of ws) k ≡ true → SameSignature ws (text_of ws) m k → m ≡ k
    -- "targets and stubs are as the old claim needs them", of targets
    pub nonzero_targets : (m : ℕ) → ChainMethod ws c m → method_target ws m ≢ 0
    pub different_targets : (m k : ℕ) → ChainMethod ws c m → ChainMethod ws c k
        → method_target ws m ≡ method_target ws k → m ≡ k

-- class c is linked in both lists, of the sheet and of the sheet with kind 0, whatever the areas, the lists of missing slots and the stubs lent
module _ (way₃ way₀ : Way) (ws abi area₃ area₀ missing₃ missing₀ : List ℕ) (calls₃ calls₀ : List Call) where
  -- with as many slots, and the same words in them
  pub record SameSlots (c : ℕ) : Type 0 where
    pub place₃ : ℕ
    pub place₀ : ℕ
    pub slots : ℕ
    pub linked₃ : Linked way₃ ws abi area₃ missing₃ calls₃ c place₃ slots
    pub linked₀ : Linked way₀ (unpackaged ws) abi area₀ missing₀ calls₀ c place₀ slots
    pub words : table way₃ ws abi area₃ missing₃ calls₃ place₃ slots ≡ table way₀ (unpackaged ws) abi area₀ missing₀ calls₀ place₀ slots

  abbrev pub SameWords : Type 0
  SameWords =
      (c p n q k : ℕ) → Linked way₃ ws abi area₃ missing₃ calls₃ c p n → Linked way₀ (unpackaged ws) abi area₀ missing₀ calls₀ c q k → Premises ws c
      → (n ≡ k) × (table way₃ ws abi area₃ missing₃ calls₃ p n ≡ table way₀ (unpackaged ws) abi area₀ missing₀ calls₀ q k)

  -- "throughout": so for each class of its chain
  abbrev pub SameChains : Type 0
  SameChains =
      (c p n q k : ℕ) → Linked way₃ ws abi area₃ missing₃ calls₃ c p n → Linked way₀ (unpackaged ws) abi area₀ missing₀ calls₀ c q k → Premises ws c
      → (d : ℕ) → Memᴰ d (chain ws c) → SameSlots d

-- each sheet's list of numbers is filled from it
abbrev pub AsKindZero : Type 0
AsKindZero =
    (ws abi area₃ area₀ missing₃ missing₀ ns₃ ns₀ : List ℕ) → Filled ws abi ns₃ → Filled (unpackaged ws) abi ns₀ → Unlinked ws → (calls₃ calls₀ : List Call)
    → SameWords (numbered ns₃) (numbered ns₀) ws abi area₃ area₀ missing₃ missing₀ calls₃ calls₀

abbrev pub Throughout : Type 0
Throughout =
    (ws abi area₃ area₀ missing₃ missing₀ ns₃ ns₀ : List ℕ) → Filled ws abi ns₃ → Filled (unpackaged ws) abi ns₀ → Unlinked ws → (calls₃ calls₀ : List Call)
    → SameChains (numbered ns₃) (numbered ns₀) ws abi area₃ area₀ missing₃ missing₀ calls₃ calls₀
