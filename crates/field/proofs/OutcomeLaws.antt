-- What a caller has of the answer: for a built class, and for a generated one. Assumes nothing.
use Rattle.std.proofs.Common.{◌≡◌, ℕ, true, false, eqb, List, eqb-true}
use Rattle.std.specs.Prelude.{Result, Ok, Err}
use Rattle.words.proofs.Bools.{by}
use Rattle.linking.specs.Abi.{class_abi}
use Rattle.linking.specs.Fields.{number_fields, built_words, too_many_words, generated_refusal, generated_indices}
use Rattle.field.specs.Numbers.{numbering_of, fields_by, built_fields, generated_fields}
use Rattle.field.specs.declared.Numbered.{Numbered}

module _ (ws text abi labels : List ℕ) (c : ℕ) where
  abbrev accepted : Numbered
  accepted =
      numbering_of (number_fields ws text abi labels (class_abi ws text abi labels c) c).indices
      (built_words ws text abi labels (class_abi ws text abi labels c) c)

  pub built-accepted : {f : Numbered} → ◌≡◌ {A = Result Numbered ℕ} (Ok f) (built_fields ws text abi labels c)
      → (too_many_words ws text abi labels (class_abi ws text abi labels c) c ≡ false) × (f ≡ accepted)
  unfolding fields_by
  built-accepted {f = f} is =
      by (too_many_words ws text abi labels (class_abi ws text abi labels c) c)
      (λ t. let e : ◌≡◌ {A = Result Numbered ℕ} (Ok f) (Err 10) = rw t at is in cc)
      (λ t. let e : ◌≡◌ {A = Result Numbered ℕ} (Ok f) (Ok accepted) = rw t at is in (t, cc))

  pub built-refused : {n : ℕ} → ◌≡◌ {A = Result Numbered ℕ} (Err n) (built_fields ws text abi labels c)
      → (too_many_words ws text abi labels (class_abi ws text abi labels c) c ≡ true) × (n ≡ 10)
  unfolding fields_by
  built-refused {n = n} is =
      by (too_many_words ws text abi labels (class_abi ws text abi labels c) c)
      (λ t. let e : ◌≡◌ {A = Result Numbered ℕ} (Err n) (Err 10) = rw t at is in (t, cc))
      (λ t. let e : ◌≡◌ {A = Result Numbered ℕ} (Err n) (Ok accepted) = rw t at is in cc)

module _ (ws text : List ℕ) (c : ℕ) where
  pub generated-accepted : {f : Numbered} → ◌≡◌ {A = Result Numbered ℕ} (Ok f) (generated_fields ws text c)
      → (generated_refusal ws text c ≡ 0) × (f ≡ numbering_of (generated_indices ws text c) 0)
  unfolding generated_fields
  generated-accepted {f = f} is =
      by (eqb (generated_refusal ws text c) 0)
      (λ t.
      let e : ◌≡◌ {A = Result Numbered ℕ} (Ok f) (Ok (numbering_of (generated_indices ws text c) 0)) = rw t at is in
      (eqb-true (generated_refusal ws text c) 0 t, cc))
      (λ t. let e : ◌≡◌ {A = Result Numbered ℕ} (Ok f) (Err (generated_refusal ws text c)) = rw t at is in cc)

  pub generated-refused : {n : ℕ} → ◌≡◌ {A = Result Numbered ℕ} (Err n) (generated_fields ws text c) → n ≡ generated_refusal ws text c
  unfolding generated_fields
  generated-refused {n = n} is =
      by (eqb (generated_refusal ws text c) 0)
      (λ t. let e : ◌≡◌ {A = Result Numbered ℕ} (Err n) (Ok (numbering_of (generated_indices ws text c) 0)) = rw t at is in cc)
      (λ t. let e : ◌≡◌ {A = Result Numbered ℕ} (Err n) (Err (generated_refusal ws text c)) = rw t at is in cc)
