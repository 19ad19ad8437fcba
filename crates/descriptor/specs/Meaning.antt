-- What is claimed of the definitions that the contracts cite: they are the Specification's grammar and its count of words.
-- proofs/Meaning.antt proves it. Assumes nothing.
use Rattle.std.specs.Prelude.{◌≡◌, true, List, ◌↔◌, ℕ, ◌≤◌, length, Result}
use Rattle.descriptor.specs.Grammar.{FieldDescriptor, field_spelling, FieldDerivation, MethodDescriptor, method_spelling, MethodDerivation}
use Rattle.descriptor.specs.Machine.{is_field_descriptor, is_method_descriptor}
use Rattle.descriptor.specs.Words.{field_words, argument_words, argument_limit, ValidDescriptor, width, is_method, counted, answer, argument_answer}
use Rattle.refusal.specs.declared.Refusal.{Refusal}

pub record Meaning : Type 0 where
  -- bytes are accepted if and only if a derivation spells them
  pub field_sound : (s : List ℕ) → is_field_descriptor s ≡ true → FieldDerivation s
  pub field_complete : (s : List ℕ) → FieldDerivation s → is_field_descriptor s ≡ true
  pub method_sound : (s : List ℕ) → is_method_descriptor s ≡ true → MethodDerivation s
  pub method_complete : (s : List ℕ) → MethodDerivation s → is_method_descriptor s ≡ true
  -- only one derivation spells them
  pub field_unique : (t u : FieldDescriptor) → field_spelling t ≡ field_spelling u → t ≡ u
  pub method_unique : (t u : MethodDescriptor) → method_spelling t ≡ method_spelling u → t ≡ u
  -- a field's words are its derivation's
  pub width_is : (t : FieldDescriptor) → width (field_spelling t) ≡ field_words t
  -- a method's descriptor is accepted if and only if a derivation spells it whose words, with the receiver's, are within the limit
  pub valid_sound : (s : List ℕ) (flags : ℕ) → is_method flags s ≡ true → ValidDescriptor flags s
  pub valid_complete : (s : List ℕ) (flags : ℕ) → ValidDescriptor flags s → is_method flags s ≡ true
  -- one that is good for an instance method is good for any; and bytes too few to pass the limit are good if the grammar has them
  pub static_more : (s : List ℕ) (flags : ℕ) → is_method 0 s ≡ true → is_method flags s ≡ true
  pub short_within : (s : List ℕ) (flags : ℕ) → is_method_descriptor s ≡ true → length s ≤ 127 → is_method flags s ≡ true
  -- a method's argument words are the sum over its derivation's parameters and the receiver; and the bytes are refused, by 5, just where
  -- they are no valid descriptor
  pub argument_words_exact : (t : MethodDescriptor) (flags : ℕ) → argument_words t flags ≤ argument_limit
      → argument_answer (method_spelling t) flags ≡ counted (argument_words t flags)
  pub argument_words_refused : (s : List ℕ) (flags : ℕ) → ((argument_answer s flags).refusal ≡ 5) ↔ (ValidDescriptor flags s → ⊥)
  -- different answers mean different things, so the contracts determine what the functions answer
  pub answer_unique : (a b : Result ℕ Refusal) → answer a ≡ answer b → a ≡ b
