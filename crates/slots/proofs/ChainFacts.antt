-- A chain class by class: its methods and slot records are the class's own or its parent's, so a chain's conditions are its parent's too; and
-- what Reading's first rule finds along it. Assumes nothing.
use Rattle.std.proofs.Common.{◌≡◌, sym, ap, ◌∙◌, refl, ◌⊎◌, ◌≢◌, List, ℕ, ◌<◌, eqb, eqb-true, Some, None}
use mathlib.Core.List.Memᴰ
use mathlib.Core.List.{Memᴰ}
use borrow.Author.Tests.{eqb-false}
use Rattle.words.proofs.ListLaws.{by-found, find-member, find-passes}
use Rattle.class_sheet.specs.ClassSheet.{method_target}
use Rattle.linking.specs.Chain.{own_methods, parent_of, chain, own_target, find_by_target}
use Rattle.linking.proofs.ChainLaws.{chain_more}
use Rattle.slots.specs.Slots.{ChainMethod, ChainSlot}
use Rattle.slots.specs.Made.{Conditions}
use Rattle.slots.proofs.ListFacts.{find-misses, found_in, found-only}

-- ---- the chain's classes

module _ (ws : List ℕ) (c : ℕ) (h : 0 < c) where
  pub chain-here : Memᴰ c (chain ws c)
  chain-here = rw (chain_more ws c h) (Memᴰ.head refl)

  pub chain-up : {d : ℕ} → Memᴰ d (chain ws (parent_of ws c)) → Memᴰ d (chain ws c)
  chain-up i = rw (chain_more ws c h) (Memᴰ.tail i)

  pub chain-cases : {d : ℕ} → Memᴰ d (chain ws c) → (d ≡ c) ⊎ Memᴰ d (chain ws (parent_of ws c))
  chain-cases i = Memᴰ.cases_cons (rw (chain_more ws c h) at i)

-- ---- what its classes have

module _ (ws : List ℕ) (c : ℕ) (h : 0 < c) where
  pub method-here : {m : ℕ} → Memᴰ m (own_methods ws c) → ChainMethod ws c m
  method-here i = record { owner = c; along = chain-here ws c h; own = i }

  pub method-up : {m : ℕ} → ChainMethod ws (parent_of ws c) m → ChainMethod ws c m
  method-up k = record { owner = k.owner; along = chain-up ws c h k.along; own = k.own }

module _ (ws text abi labels : List ℕ) where
  module _ (c : ℕ) (h : 0 < c) where
    pub slot-up : {s : ℕ} → ChainSlot ws text abi labels (parent_of ws c) s → ChainSlot ws text abi labels c s
    slot-up k = record { class = k.class; along = chain-up ws c h k.along; entry = k.entry; named = k.named; own = k.own }

    pub conditions-up : {P : ℕ → Type 0} → Conditions ws text abi labels P c → Conditions ws text abi labels P (parent_of ws c)
    conditions-up k = record {
      one_index = λ s z i j. k.one_index s z (slot-up i) (slot-up j);
      nonzero_targets = λ m i. k.nonzero_targets m (method-up ws c h i);
      different_targets = λ m n i j. k.different_targets m n (method-up ws c h i) (method-up ws c h j);
      nonzero_stubs = k.nonzero_stubs;
      no_stub = λ x m p i. k.no_stub x m p (method-up ws c h i);
    }

-- ---- Reading's first rule: "the first with that target, class first, then ancestors"

module _ (ws : List ℕ) (c t : ℕ) where
  record Targeted (m : ℕ) : Type 0 where
    method : ChainMethod ws c m
    target : method_target ws m ≡ t

  own-target-of : {d m : ℕ} → Memᴰ d (chain ws c) → own_target ws t d ≡ Some m → Targeted m
  unfolding own_target
  own-target-of {d} {m} i e = record {
    method = record { owner = d; along = i; own = (find-member (λ k. eqb (method_target ws k) t) (own_methods ws d) m e) };
    target = eqb-true (method_target ws m) t (find-passes (λ k. eqb (method_target ws k) t) (own_methods ws d) m e);
  }

  target-of : {m : ℕ} → find_by_target ws c t ≡ Some m → Targeted m
  unfolding find_by_target
  target-of {m} e = let r = found_in (own_target ws t) (chain ws c) m e in own-target-of r.along r.finds

  -- nothing, where no method of the chain has the target
  pub target_absent : ((m : ℕ) → ChainMethod ws c m → method_target ws m ≢ t) → find_by_target ws c t ≡ None
  target_absent none = by-found (find_by_target ws c t) (λ m e. let r = target-of e in absurd (none m r.method r.target)) (λ e. e)

  -- the method itself, where the chain's targets are all different
  pub target-own : ((m n : ℕ) → ChainMethod ws c m → ChainMethod ws c n → method_target ws m ≡ method_target ws n → m ≡ n)
      → (m : ℕ) → ChainMethod ws c m → method_target ws m ≡ t → find_by_target ws c t ≡ Some m
  unfolding find_by_target
  target-own different m i e = found-only (own_target ws t) m i.along first (λ d n j f. only n (own-target-of j f))
    where
      only : (n : ℕ) → Targeted n → n ≡ m
      only n r = different n m r.method i (r.target ∙ sym e)

      misses : own_target ws t i.owner ≡ None → ⊥
      misses f = eqb-false (method_target ws m) t (find-misses (λ n. eqb (method_target ws n) t) i.own (unfold own_target in f)) e

      first : own_target ws t i.owner ≡ Some m
      first = by-found (own_target ws t i.owner) (λ n f. f ∙ ap Some (only n (own-target-of i.along f))) (λ f. absurd (misses f))
