-- Signatures at indices: what is fixed, F, against what a table shows, K. A table is good if each signature that it shows is where it is
-- fixed, if at all, and is shown once. Assumes nothing.
use Rattle.std.proofs.Common.{◌≡◌, sym, ◌∙◌, ◌⊎◌, inl, inr, List, ℕ}

pub record Signature : Type 0 where
  pub name : List ℕ
  pub descriptor : List ℕ

pub same_parts : {n m d e : List ℕ} → n ≡ m → d ≡ e
    → ◌≡◌ {A = Signature} (record { name = n; descriptor = d }) (record { name = m; descriptor = e })
same_parts p q = cc

-- each signature has one index
abbrev pub OneIndex : (Signature → ℕ → Type 0) → Type 0
OneIndex F = (s : Signature) (i j : ℕ) → F s i → F s j → i ≡ j

-- s is fixed at i, if at all
abbrev pub Placed : (Signature → ℕ → Type 0) → Signature → ℕ → Type 0
Placed F s i = (j : ℕ) → F s j → j ≡ i

pub record Good (F : Signature → ℕ → Type 0) (K : ℕ → Signature → Type 0) : Type 0 where
  pub placed : (i : ℕ) (s : Signature) → K i s → Placed F s i
  pub unique : (i j : ℕ) (s : Signature) → K i s → K j s → i ≡ j

-- ---- less is fixed

module _ {F G : Signature → ℕ → Type 0} (sub : (s : Signature) (i : ℕ) → F s i → G s i) where
  pub one-sub : OneIndex G → OneIndex F
  one-sub o s i j f g = o s i j (sub s i f) (sub s j g)

  pub good-sub : {K : ℕ → Signature → Type 0} → Good G K → Good F K
  good-sub g = record { placed = λ i s k j f. g.placed i s k j (sub s j f); unique = g.unique }

-- ---- another table

module _ {F : Signature → ℕ → Type 0} {K L : ℕ → Signature → Type 0} where
  -- it shows no more
  pub good_less : ((i : ℕ) (s : Signature) → L i s → K i s) → Good F K → Good F L
  good_less less g = record { placed = λ i s k. g.placed i s (less i s k); unique = λ i j s k l. g.unique i j s (less i s k) (less j s l) }

  -- it shows one signature more, or again, at index i, where no other index shows it
  pub good_more : (i : ℕ) (s : Signature) → Placed F s i → ((j : ℕ) → K j s → j ≡ i)
      → ((j : ℕ) (z : Signature) → L j z → ((j ≡ i) × (z ≡ s)) ⊎ K j z) → Good F K → Good F L
  good_more i s p alone more g = record {
    placed = λ j z l. at j z (more j z l);
    unique = λ j k z l m. one j k z (more j z l) (more k z m);
  }
    where
      Case : ℕ → Signature → Type 0
      Case j z = ((j ≡ i) × (z ≡ s)) ⊎ K j z

      at : (j : ℕ) (z : Signature) → Case j z → Placed F z j
      at j z (inl e) = rw (e.0, e.1) p
      at j z (inr k) = g.placed j z k

      one : (j k : ℕ) (z : Signature) → Case j z → Case k z → j ≡ k
      one j k z (inl e) (inl f) = e.0 ∙ sym f.0
      one j k z (inl e) (inr f) = e.0 ∙ sym (alone k (rw e.1 at f))
      one j k z (inr e) (inl f) = alone j (rw f.1 at e) ∙ sym f.0
      one j k z (inr e) (inr f) = g.unique j k z e f

  -- it shows no more but what is fixed there
  pub good-fixed : OneIndex F → ((i : ℕ) (s : Signature) → L i s → K i s ⊎ F s i) → Good F K → Good F L
  good-fixed o less g = record {
    placed = λ i s l. at i s (less i s l);
    unique = λ i j s l m. one i j s (less i s l) (less j s m);
  }
    where
      at : (i : ℕ) (s : Signature) → K i s ⊎ F s i → Placed F s i
      at i s (inl k) = g.placed i s k
      at i s (inr f) = λ j h. o s j i h f

      one : (i j : ℕ) (s : Signature) → K i s ⊎ F s i → K j s ⊎ F s j → i ≡ j
      one i j s (inl k) (inl l) = g.unique i j s k l
      one i j s (inl k) (inr f) = sym (g.placed i s k j f)
      one i j s (inr f) (inl k) = g.placed j s k i f
      one i j s (inr f) (inr h) = o s i j f h

pub good_none : {F : Signature → ℕ → Type 0} {K : ℕ → Signature → Type 0} → ((i : ℕ) (s : Signature) → K i s → ⊥) → Good F K
good_none none = record { placed = λ i s k. absurd (none i s k); unique = λ i j s k l. absurd (none i s k) }
