-- The two machines accept what the grammar derives, and nothing else. Bytes by number: 40 ( 41 ) 86 V. Assumes nothing.
use mathlib.Core.Path.{◌≡◌, refl, sym, ap, ◌∙◌}
use mathlib.Core.Bool.{Bool, true, false, false≢true}
use mathlib.Core.List.{List, [], ◌∷◌, ◌++◌, append_assoc, append-nil}
use Prim.Native.Nat.{ℕ, zero, suc, ◌<◌}
use native.Mathlib.Omega.{arith}
use lib.Dec.{eqb}
use lib.ListN.{length, length-append}
use borrow.Author.Tests.{eqb-true}
use Rattle.words.specs.Lists.{fold}
use Rattle.words.proofs.Bools.{by}
use Rattle.descriptor.specs.declared.FieldState.{FieldState}
use Rattle.descriptor.specs.declared.FieldState.TheVariants.{Open, Done, Bad}
use Rattle.descriptor.specs.declared.MethodState.{MethodState}
use Rattle.descriptor.specs.declared.MethodState.TheVariants.{Begin, Parameters, Return, Returned}
use Rattle.descriptor.specs.Grammar.{FieldType, type_spelling, FieldDescriptor, field, field_spelling, FieldDerivation, ParameterDescriptor, parameter, parameter_spelling, parameters_spelling, «V», ReturnDescriptor, value, void, void_spelling, result_spelling, MethodDescriptor, method_spelling, MethodDerivation}
use Rattle.descriptor.specs.Machine.{field_next, field_done, is_field_descriptor, method_next, method_done, is_method_descriptor}
use Rattle.descriptor.proofs.Fields.{type_read, Accepts, type_of, headed}

-- ---- field descriptors

abbrev field-ends : FieldState → List ℕ → Bool
field-ends q s = field_done (fold field_next q s)

bad-stays : (s : List ℕ) → fold field_next Bad s ≡ Bad
unfolding fold field_next
bad-stays [] = refl
bad-stays (b ∷ s) = bad-stays s

field-accepts : Accepts field-ends
unfolding fold
field-accepts =
    record {
      steps = record { open_step = λ b s. refl; start-step = λ b s. refl; inside-step = λ b s. refl };
      open_end = refl;
      start-end = refl;
      inside-end = refl;
      bad = λ s. rw (bad-stays s);
    }

done-ends : (s : List ℕ) → field_done (fold field_next Done s) ≡ true → s ≡ []
unfolding fold field_next
done-ends [] h = refl
done-ends (b ∷ s) h = absurd (false≢true (rw (bad-stays s) at h))

-- the bytes are a type, to the last
abbrev Whole-of : List ℕ → Type 0
Whole-of s = (t : FieldType) × (type_spelling t ≡ s)

whole_of : (s : List ℕ) → field-ends Open s ≡ true → Whole-of s
whole_of s h =
    let r = type_of field-ends field-accepts s h in
    (r.0, sym (r.2 ∙ ap (λ (l : List ℕ). type_spelling r.0 ++ l) (done-ends r.1 r.3) ∙ append-nil (type_spelling r.0)))

pub field_sound : (s : List ℕ) → is_field_descriptor s ≡ true → FieldDerivation s
unfolding is_field_descriptor field_spelling
field_sound s h = let r = whole_of s h in (field r.0, r.1)

field-ends-at : (t : FieldType) → field-ends Open (type_spelling t) ≡ true
unfolding fold
field-ends-at t = rw append-nil at (type_read field-ends field-accepts.steps t [])

pub field_complete : (d : FieldDescriptor) → is_field_descriptor (field_spelling d) ≡ true
unfolding is_field_descriptor field_spelling
field_complete (field t) = field-ends-at t

-- ---- the return descriptor

pub returned : (q : FieldState) (s : List ℕ) → fold method_next (Returned q) s ≡ Returned (fold field_next q s)
unfolding fold method_next
returned q [] = refl
returned q (b ∷ s) = returned (field_next q b) s

abbrev method-ends : MethodState → List ℕ → Bool
method-ends q s = method_done (fold method_next q s)

abbrev Result-of : List ℕ → Type 0
Result-of s = (r : ReturnDescriptor) × (result_spelling r ≡ s)

void-of : (s : List ℕ) → field-ends Done s ≡ true → Result-of (86 ∷ s)
unfolding result_spelling void_spelling
void-of s h = (void «V», rw (done-ends s h))

value_of : (s : List ℕ) → field-ends Open s ≡ true → Result-of s
unfolding result_spelling
value_of s h = let r = whole_of s h in (value r.0, r.1)

return_void : (s : List ℕ) → fold method_next Return (86 ∷ s) ≡ Returned (fold field_next Done s)
unfolding fold method_next
return_void s = returned Done s

return_value : (b : ℕ) (s : List ℕ) → eqb b 86 ≡ false → fold method_next Return (b ∷ s) ≡ Returned (fold field_next Open (b ∷ s))
unfolding fold method_next
return_value b s e = rw (e, fold) (returned (field_next Open b) s)

result-of : (s : List ℕ) → method-ends Return s ≡ true → Result-of s
unfolding fold
result-of [] h = absurd (false≢true h)
result-of (b ∷ s) h =
    by (eqb b 86) (λ e. let f = eqb-true b 86 e in rw f (void-of s (rw (f, return_void s) at h)))
    (λ e. value_of (b ∷ s) (rw (return_value b s e) at h))

result-ends : (r : ReturnDescriptor) → method-ends Return (result_spelling r) ≡ true
unfolding result_spelling void_spelling fold
result-ends (void «V») = rw (return_void [])
result-ends (value t) = let h = headed t in rw (h.is, return_value h.byte h.rest h.no_void) (rw h.is at (field-ends-at t))

-- ---- the parameters

abbrev parameter-ends : FieldState → List ℕ → Bool
parameter-ends q s = method-ends (Parameters q) s

bad-parameter : (s : List ℕ) → fold method_next (Parameters Bad) s ≡ Parameters Bad
unfolding fold method_next
bad-parameter [] = refl
bad-parameter (b ∷ s) = bad-parameter s

parameter-accepts : Accepts parameter-ends
unfolding fold method_next
parameter-accepts =
    record {
      steps = record { open_step = λ b s. refl; start-step = λ b s. refl; inside-step = λ b s. refl };
      open_end = refl;
      start-end = refl;
      inside-end = refl;
      bad = λ s. rw (bad-parameter s);
    }

another : (b : ℕ) (s : List ℕ) → eqb b 41 ≡ false → fold method_next (Parameters Done) (b ∷ s) ≡ fold method_next (Parameters Open) (b ∷ s)
unfolding fold method_next
another b s e = rw (e, fold)

-- the parameters, and what follows the closing parenthesis
abbrev Parameters-of : List ℕ → Type 0
Parameters-of s = (ts : List ParameterDescriptor) × (k : List ℕ) × (s ≡ parameters_spelling ts ++ (41 ∷ k)) × (method-ends Return k ≡ true)

no_parameter : (s : List ℕ) → method-ends Return s ≡ true → Parameters-of (41 ∷ s)
unfolding parameters_spelling
no_parameter s h = ([], s, refl, h)

more-parameter : (t : FieldType) (k s : List ℕ) → s ≡ type_spelling t ++ k → Parameters-of k → Parameters-of s
unfolding parameter_spelling parameters_spelling
more-parameter t k s e r = (
  parameter t ∷ r.0,
  r.1,
  e ∙ ap (λ (l : List ℕ). type_spelling t ++ l) r.2 ∙ sym (append_assoc (type_spelling t) (parameters_spelling r.0) (41 ∷ r.1)),
  r.3,
)

type_longer : (t : FieldType) (k s : List ℕ) → s ≡ type_spelling t ++ k → length k < length s
type_longer t k s e =
    let h = headed t in omega (arith, simp (h.is, length-append) at (ap length e), length-append (type_spelling t) k, ap length h.is)

parameters-step : (s : List ℕ) → ((k : List ℕ) → length k < length s → parameter-ends Done k ≡ true → Parameters-of k)
    → parameter-ends Done s ≡ true → Parameters-of s
unfolding fold method_next
parameters-step [] rest h = absurd (false≢true h)
parameters-step (b ∷ s) rest h =
    by (eqb b 41) (λ e. let f = eqb-true b 41 e in rw f (no_parameter s (rw f at h)))
    (λ e. let r = type_of parameter-ends parameter-accepts (b ∷ s) (rw (another b s e) at h) in
    more-parameter r.0 r.1 (b ∷ s) r.2 (rest r.1 (type_longer r.0 r.1 (b ∷ s) r.2) r.3))

parameters-of : (n : ℕ) (s : List ℕ) → length s < n → parameter-ends Done s ≡ true → Parameters-of s
parameters-of zero s l h = absurd (omega arith)
parameters-of (suc n) s l h = parameters-step s (λ k m. parameters-of n k (omega arith)) h

parameter-ends-at : (t : FieldType) (k : List ℕ) → parameter-ends Done (type_spelling t ++ k) ≡ parameter-ends Done k
parameter-ends-at t k =
    let h = headed t in
    rw h.is
    (ap method_done (another h.byte (h.rest ++ k) h.no_close) ∙ (rw h.is at (type_read parameter-ends parameter-accepts.steps t k)))

parameters-end-at : (ts : List ParameterDescriptor) (k : List ℕ) → parameter-ends Done (parameters_spelling ts ++ (41 ∷ k)) ≡ method-ends Return k
unfolding parameter_spelling parameters_spelling fold method_next
parameters-end-at [] k = refl
parameters-end-at (parameter t ∷ ts) k =
    rw (append_assoc (type_spelling t) (parameters_spelling ts) (41 ∷ k))
    (parameter-ends-at t (parameters_spelling ts ++ (41 ∷ k)) ∙ parameters-end-at ts k)

-- ---- method descriptors

method-of : (s : List ℕ) → parameter-ends Done s ≡ true → MethodDerivation (40 ∷ s)
unfolding method_spelling
method-of s h =
    let p = parameters-of (suc (length s)) s (omega arith) h in
    let r = result-of p.1 p.3 in (
      record { parameters = p.0; result = r.0 },
      ap (λ (l : List ℕ). 40 ∷ l) (ap (λ (l : List ℕ). parameters_spelling p.0 ++ (41 ∷ l)) r.1 ∙ sym p.2),
    )

method-begins : (s : List ℕ) → method-ends Begin s ≡ true → MethodDerivation s
unfolding fold method_next
method-begins [] h = absurd (false≢true h)
method-begins (b ∷ s) h =
    by (eqb b 40) (λ e. rw (eqb-true b 40 e) (method-of s (simp e at h)))
    (λ e. absurd (false≢true (simp (e, bad-parameter s) at h)))

pub method_sound : (s : List ℕ) → is_method_descriptor s ≡ true → MethodDerivation s
unfolding is_method_descriptor
method_sound s h = method-begins s h

pub method_complete : (d : MethodDescriptor) → is_method_descriptor (method_spelling d) ≡ true
unfolding is_method_descriptor method_spelling fold method_next
method_complete d = parameters-end-at d.parameters (result_spelling d.result) ∙ result-ends d.result
