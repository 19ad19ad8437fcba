-- What is claimed of the definition that judges a class file's form: it is the Specification's. `derived` of proofs/Derived.antt proves it. Assumes nothing.
use Rattle.std.specs.Prelude.{ℕ, ◌≡◌, List}
use Rattle.words.specs.Words.{AreBytes}
use Rattle.class_form.specs.Form.{form_refusal}
use Rattle.file_form.specs.Grammar.{Constant, ClassFile, file_spelling, Stands, Derivation}

pub record Derived : Type 0 where
  -- bytes are accepted if and only if a class file, whose used references hold, spells them
  pub sound : (bs : List ℕ) → AreBytes bs → form_refusal bs ≡ 0 → Derivation bs
  pub complete : (bs : List ℕ) → Derivation bs → form_refusal bs ≡ 0
  -- only one spells them
  pub unique : (f g : ClassFile) → file_spelling f ≡ file_spelling g → f ≡ g
  -- an index of the pool names one constant, so a reference that holds has one string
  pub one_constant : (pool : List Constant) (i : ℕ) (c d : Constant) → Stands c i 1 pool → Stands d i 1 pool → c ≡ d
