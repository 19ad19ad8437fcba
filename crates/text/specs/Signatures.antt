-- A signature where a name and a descriptor are asked for. Assumes nothing.
use Rattle.std.specs.Prelude.{ℕ, List}
use Rattle.text.specs.declared.Signature.{Signature}

-- what f says of a name and a descriptor
abbrev pub of_signature {ℓ} : {A : Type ℓ} → (List ℕ → List ℕ → A) → Signature → A
of_signature f signature = f signature.name.now signature.descriptor.now
