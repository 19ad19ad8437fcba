-- The words that the bytes begin are those of the derivation's parameters. Bytes by number: 41 ) 68 D 74 J 86 V. Assumes nothing.
use mathlib.Core.Path.{◌≡◌, refl, ap, ◌∙◌}
use mathlib.Core.Bool.{false, ◌||◌}
use mathlib.Core.List.{List, [], ◌∷◌, ◌++◌, append_assoc}
use Prim.Native.Nat.{ℕ, ◌+◌, ◌*◌, ◌≤◌}
use native.Mathlib.Omega.{arith}
use lib.Dec.{eqb}
use lib.ListN.{length, length-append}
use Rattle.words.proofs.Bools.{by}
use Rattle.descriptor.specs.declared.FieldState.{FieldState}
use Rattle.descriptor.specs.declared.FieldState.TheVariants.{Open, Done}
use Rattle.descriptor.specs.declared.MethodState.TheVariants.{Begin, Parameters, Return, Returned}
use Rattle.descriptor.specs.Grammar.{FieldType, type_spelling, FieldDescriptor, field, field_spelling, ParameterDescriptor, parameter, parameter_spelling, parameters_spelling, result_spelling, MethodDescriptor, method_spelling}
use Rattle.descriptor.specs.Machine.{field_next, method_next}
use Rattle.descriptor.specs.Words.{type_words, field_words, parameter_words, parameters_words, byte_width, width, begun_words, begun_from}
use Rattle.descriptor.proofs.Fields.{Steps, type_read, headed}

pub width_is : (d : FieldDescriptor) → width (field_spelling d) ≡ field_words d
unfolding width field_spelling field_words
width_is (field t) = let h = headed t in rw h.is h.words

-- ---- none begin in the return descriptor

returned_begins : (q : FieldState) (s : List ℕ) → begun_from (Returned q) s ≡ 0
unfolding begun_from begun_words method_next
returned_begins q [] = refl
returned_begins q (b ∷ s) = omega (arith, returned_begins (field_next q b) s)

return_begins : (s : List ℕ) → begun_from Return s ≡ 0
unfolding begun_from begun_words method_next
return_begins [] = refl
return_begins (b ∷ s) =
    by (eqb b 86) (λ e. rw (e, begun_from) (omega (arith, returned_begins Done s)))
    (λ e. rw (e, begun_from) (omega (arith, returned_begins (field_next Open b) s)))

-- ---- a parameter begins once

begun_steps : Steps (λ (q : FieldState) (s : List ℕ). begun_from (Parameters q) s)
unfolding begun_from begun_words method_next
begun_steps = record { open_step = λ b s. omega arith; start-step = λ b s. omega arith; inside-step = λ b s. omega arith }

another-begins : (b : ℕ) (s : List ℕ) → eqb b 41 ≡ false → begun_from (Parameters Done) (b ∷ s) ≡ byte_width b + begun_from (Parameters Open) (b ∷ s)
unfolding begun_from begun_words method_next
another-begins b s e = rw (e, begun_from) (omega arith)

type_begins : (t : FieldType) (k : List ℕ) → begun_from (Parameters Done) (type_spelling t ++ k) ≡ type_words t + begun_from (Parameters Done) k
type_begins t k =
    let h = headed t in
    let r = type_read (λ (q : FieldState) (s : List ℕ). begun_from (Parameters q) s) begun_steps t k in
    rw (← r, h.is, ← h.words) (another-begins h.byte (h.rest ++ k) h.no_close)

parameters_begin : (ts : List ParameterDescriptor) (k : List ℕ) → begun_from (Parameters Done) (parameters_spelling ts ++ (41 ∷ k)) ≡ parameters_words ts
unfolding parameter_spelling parameters_spelling parameter_words parameters_words begun_from begun_words method_next
parameters_begin [] k = omega (arith, return_begins k)
parameters_begin (parameter t ∷ ts) k =
    rw (append_assoc (type_spelling t) (parameters_spelling ts) (41 ∷ k))
    (type_begins t (parameters_spelling ts ++ (41 ∷ k)) ∙ ap (λ (n : ℕ). type_words t + n) (parameters_begin ts k))

pub method-begins : (d : MethodDescriptor) → begun_from Begin (method_spelling d) ≡ parameters_words d.parameters
unfolding method_spelling begun_from begun_words method_next
method-begins d = omega (arith, parameters_begin d.parameters (result_spelling d.result))

-- ---- they are at most two for each byte

pub byte_small : (b : ℕ) → byte_width b ≤ 2
unfolding byte_width
byte_small b = by (eqb b 74 || eqb b 68) (λ e. rw e (omega arith)) (λ e. rw e (omega arith))

parameters-small : (ts : List ParameterDescriptor) → parameters_words ts ≤ 2 * length (parameters_spelling ts)
unfolding parameter_words parameters_words parameter_spelling parameters_spelling
parameters-small [] = omega arith
parameters-small (parameter t ∷ ts) =
    let h = headed t in
    omega (arith, parameters-small ts, length-append (type_spelling t) (parameters_spelling ts), ap length h.is, h.words, byte_small h.byte)

pub method-small : (d : MethodDescriptor) → parameters_words d.parameters ≤ 2 * length (method_spelling d)
unfolding method_spelling
method-small d =
    omega (arith, parameters-small d.parameters, length-append (parameters_spelling d.parameters) (41 ∷ result_spelling d.result))
