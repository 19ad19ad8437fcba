-- The targets play no part in what refuses a file: of a member the rows ask for its name, descriptor and flags alone. So the six words are the
-- same with the lists and without. Assumes nothing.
use mathlib.Core.Path.{◌≡◌, refl}
use mathlib.Core.Bool.{Bool}
use mathlib.Core.List.{List, [], ◌∷◌}
use Prim.Native.Nat.{ℕ, ◌+◌}
use lib.ListN.{length, get_or}
use Rattle.linking.specs.Compiler.{New}
use Rattle.linking.specs.Set.{new_text}
use Rattle.class_form.specs.declared.Member.{Member}
use Rattle.class_form.specs.Parts.{member_at}
use Rattle.class_members.specs.Members.{method_places, new_of, members_at, file_methods, file_text, method_ok, method_typed, every, names_ok, descriptors_ok, sheet_holds, file_refusal}

-- a test that does not ask for the last word
module _ (bs : List ℕ) (p : New → Bool) (same : (m : Member) (a b : ℕ) → p (new_of bs m a) ≡ p (new_of bs m b)) where
  every-targets : (ls : List ℕ) (k : ℕ) (ps : List ℕ) → every p (members_at bs ls k ps) ≡ every p (members_at bs [] k ps)
  unfolding every members_at
  every-targets ls k [] = refl
  every-targets ls k (q ∷ ps) = rw (every-targets ls (k + 1) ps, same (member_at bs q) (get_or ls k 0) (get_or [] k 0))

text-targets : (bs ls : List ℕ) (k : ℕ) (ps : List ℕ) → new_text (members_at bs ls k ps) ≡ new_text (members_at bs [] k ps)
unfolding new_text members_at
text-targets bs ls k [] = refl
text-targets bs ls k (q ∷ ps) = rw (text-targets bs ls (k + 1) ps)

length-targets : (bs ls : List ℕ) (k : ℕ) (ps : List ℕ) → length (members_at bs ls k ps) ≡ length (members_at bs [] k ps)
unfolding members_at
length-targets bs ls k [] = refl
length-targets bs ls k (q ∷ ps) = rw (length-targets bs ls (k + 1) ps)

module _ (bs targets : List ℕ) where
  methods-named : every method_ok (file_methods bs targets) ≡ every method_ok (file_methods bs [])
  unfolding file_methods method_ok
  methods-named = every-targets bs method_ok (λ m a b. refl) targets 0 (method_places bs)

  methods_typed : every method_typed (file_methods bs targets) ≡ every method_typed (file_methods bs [])
  unfolding file_methods method_typed
  methods_typed = every-targets bs method_typed (λ m a b. refl) targets 0 (method_places bs)

  pub methods-text : new_text (file_methods bs targets) ≡ new_text (file_methods bs [])
  unfolding file_methods
  methods-text = text-targets bs targets 0 (method_places bs)

  pub methods-length : length (file_methods bs targets) ≡ length (file_methods bs [])
  unfolding file_methods
  methods-length = length-targets bs targets 0 (method_places bs)

  pub text_same : file_text bs targets ≡ file_text bs []
  unfolding file_text
  text_same = rw methods-text

  names_same : names_ok bs targets ≡ names_ok bs []
  unfolding names_ok
  names_same = rw methods-named

  descriptors-same : descriptors_ok bs targets ≡ descriptors_ok bs []
  unfolding descriptors_ok
  descriptors-same = rw methods_typed

  sheet-same : sheet_holds bs targets ≡ sheet_holds bs []
  unfolding sheet_holds
  sheet-same = rw (methods-length, text_same)

  pub refusal-same : file_refusal bs targets ≡ file_refusal bs []
  unfolding file_refusal
  refusal-same = rw (names_same, descriptors-same, sheet-same)
