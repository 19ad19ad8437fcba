-- A derivation is unique: two that spell the same bytes are the same. Each step goes by bytes that are to follow, since a type ends
-- where its derivation says, and a name at the first byte that no name has. Bytes by number: 41 ) 47 / 59 ; 76 L 86 V 91 [.
-- Assumes nothing.
use mathlib.Core.Path.{◌≡◌, refl, sym, ap, ◌∙◌}
use mathlib.Core.Bool.{Bool, true, false, not, So, So-prop, cond, false≢true}
use mathlib.Core.HLevel.{is_prop→PathP}
use mathlib.Core.List.{List, [], ◌∷◌, ◌++◌, append_assoc, append-nil}
use Prim.Native.Nat.{ℕ}
use native.Mathlib.Omega.{arith}
use lib.Dec.{eqb}
use borrow.Author.Tests.{eqb-false}
use Rattle.words.specs.Lists.{some}
use Rattle.descriptor.specs.Bytes.{is_base_byte, is_name_byte}
use Rattle.descriptor.specs.Grammar.{NameByte, UnqualifiedName, ClassName, BaseType, B, C, D, F, I, J, S, Z, ObjectType, L, FieldType, base, object, array, ArrayType, of, ComponentType, component, FieldDescriptor, field, ParameterDescriptor, parameter, «V», ReturnDescriptor, value, void, MethodDescriptor, name_bytes, name_spelling, rest_spelling, class_spelling, base_byte, object_spelling, type_spelling, array_spelling, component_spelling, field_spelling, parameter_spelling, parameters_spelling, void_spelling, result_spelling, method_spelling}
use Rattle.descriptor.proofs.Fields.{headed}

head : {a b : ℕ} {s t : List ℕ} → a ∷ s ≡ b ∷ t → a ≡ b
head e = cc

tail : {a b : ℕ} {s t : List ℕ} → a ∷ s ≡ b ∷ t → s ≡ t
tail e = cc

-- ---- names

name-byte : (x y : NameByte) → x.code ≡ y.code → x ≡ y
name-byte x y e =
    λ i.
    record {
      code = e i;
      allowed = is_prop→PathP (λ j. So (is_name_byte (e j))) (λ j. So-prop (is_name_byte (e j))) x.allowed y.allowed i;
    }

-- no name goes on here
abbrev stops : List ℕ → Bool
stops [] = true
stops (b ∷ s) = not (is_name_byte b)

goes_on : (y : NameByte) (k s : List ℕ) → stops k ≡ true → k ≡ y.code ∷ s → ⊥
goes_on y k s h e = let g : stops (y.code ∷ s) ≡ true = rw e at h in false≢true (rw y.allowed at g)

bytes-unique : (xs ys : List NameByte) (k l : List ℕ) → stops k ≡ true → stops l ≡ true → name_bytes xs ++ k ≡ name_bytes ys ++ l → (xs ≡ ys) × (k ≡ l)
unfolding name_bytes
bytes-unique [] [] k l g h e = (refl, e)
bytes-unique [] (y ∷ ys) k l g h e = absurd (goes_on y k (name_bytes ys ++ l) g e)
bytes-unique (x ∷ xs) [] k l g h e = absurd (goes_on x l (name_bytes xs ++ k) h (sym e))
bytes-unique (x ∷ xs) (y ∷ ys) k l g h e =
    let p = name-byte x y (head e) in
    let r = bytes-unique xs ys k l g h (tail e) in
    (λ i. p i ∷ r.0 i, r.1)

name-unique : (m n : UnqualifiedName) (k l : List ℕ) → stops k ≡ true → stops l ≡ true → name_spelling m ++ k ≡ name_spelling n ++ l → (m ≡ n) × (k ≡ l)
unfolding name_spelling
name-unique m n k l g h e =
    let p = name-byte m.first n.first (head e) in
    let r = bytes-unique m.rest n.rest k l g h (tail e) in
    (λ i. record { first = p i; rest = r.0 i }, r.1)

rest-stops : (ns : List UnqualifiedName) (k : List ℕ) → stops (rest_spelling ns ++ (59 ∷ k)) ≡ true
unfolding rest_spelling is_name_byte some
rest-stops [] k = refl
rest-stops (n ∷ ns) k = refl

names-unique : (m n : UnqualifiedName) (ms ns : List UnqualifiedName) (k l : List ℕ)
    → (name_spelling m ++ rest_spelling ms) ++ (59 ∷ k) ≡ (name_spelling n ++ rest_spelling ns) ++ (59 ∷ l)
    → (m ≡ n) × (rest_spelling ms ++ (59 ∷ k) ≡ rest_spelling ns ++ (59 ∷ l))
names-unique m n ms ns k l e =
    name-unique m n (rest_spelling ms ++ (59 ∷ k)) (rest_spelling ns ++ (59 ∷ l)) (rest-stops ms k) (rest-stops ns l)
    (sym (append_assoc (name_spelling m) (rest_spelling ms) (59 ∷ k)) ∙ e ∙ append_assoc (name_spelling n) (rest_spelling ns) (59 ∷ l))

rest-unique : (ms ns : List UnqualifiedName) (k l : List ℕ) → rest_spelling ms ++ (59 ∷ k) ≡ rest_spelling ns ++ (59 ∷ l) → (ms ≡ ns) × (k ≡ l)
unfolding rest_spelling
rest-unique [] [] k l e = (refl, tail e)
rest-unique [] (n ∷ ns) k l e = absurd (omega (arith, head e))
rest-unique (m ∷ ms) [] k l e = absurd (omega (arith, head e))
rest-unique (m ∷ ms) (n ∷ ns) k l e =
    let p = names-unique m n ms ns k l (tail e) in
    let r = rest-unique ms ns k l p.1 in
    (λ i. p.0 i ∷ r.0 i, r.1)

class-unique : (c d : ClassName) (k l : List ℕ) → class_spelling c ++ (59 ∷ k) ≡ class_spelling d ++ (59 ∷ l) → (c ≡ d) × (k ≡ l)
unfolding class_spelling
class-unique c d k l e =
    let p = names-unique c.first d.first c.rest d.rest k l e in
    let r = rest-unique c.rest d.rest k l p.1 in
    (λ i. record { first = p.0 i; rest = r.0 i }, r.1)

-- ---- types

base-at : ℕ → BaseType
base-at x =
    cond (eqb x 66) B (cond (eqb x 67) C (cond (eqb x 68) D (cond (eqb x 70) F (cond (eqb x 73) I (cond (eqb x 74) J (cond (eqb x 83) S Z))))))

base_back : (b : BaseType) → base-at (base_byte b) ≡ b
unfolding base-at base_byte
base_back B = refl
base_back C = refl
base_back D = refl
base_back F = refl
base_back I = refl
base_back J = refl
base_back S = refl
base_back Z = refl

base-is : (b : BaseType) → is_base_byte (base_byte b) ≡ true
unfolding is_base_byte some base_byte
base-is B = refl
base-is C = refl
base-is D = refl
base-is F = refl
base-is I = refl
base-is J = refl
base-is S = refl
base-is Z = refl

base-not : (b : BaseType) (x : ℕ) → is_base_byte x ≡ false → base_byte b ≡ x → ⊥
base-not b x h e = false≢true (sym h ∙ ap is_base_byte (sym e) ∙ base-is b)

base-unique : (a b : BaseType) → base_byte a ≡ base_byte b → a ≡ b
base-unique a b e = sym (base_back a) ∙ ap base-at e ∙ base_back b

object-unique : (o p : ObjectType) (k l : List ℕ) → object_spelling o ++ k ≡ object_spelling p ++ l → (o ≡ p) × (k ≡ l)
unfolding object_spelling
object-unique (L c) (L d) k l e =
    let r =
    class-unique c d k l
    (sym (append_assoc (class_spelling c) (59 ∷ []) k) ∙ tail e ∙ append_assoc (class_spelling d) (59 ∷ []) l) in
    (ap L r.0, r.1)

base-object : (b : BaseType) (o : ObjectType) (k l : List ℕ) → base_byte b ∷ k ≡ object_spelling o ++ l → ⊥
unfolding object_spelling is_base_byte some
base-object b (L c) k l e = base-not b 76 refl (head e)

base-array : (b : BaseType) (a : ArrayType) (k l : List ℕ) → base_byte b ∷ k ≡ array_spelling a ++ l → ⊥
unfolding array_spelling is_base_byte some
base-array b (of c) k l e = base-not b 91 refl (head e)

object-array : (o : ObjectType) (a : ArrayType) (k l : List ℕ) → object_spelling o ++ k ≡ array_spelling a ++ l → ⊥
unfolding object_spelling array_spelling
object-array (L c) (of d) k l e = omega (arith, head e)

mutual
  unfolding type_spelling

  type_unique : (t u : FieldType) (k l : List ℕ) → type_spelling t ++ k ≡ type_spelling u ++ l → (t ≡ u) × (k ≡ l)
  type_unique (base a) (base b) k l e = (ap base (base-unique a b (head e)), tail e)
  type_unique (base a) (object p) k l e = absurd (base-object a p k l e)
  type_unique (base a) (array y) k l e = absurd (base-array a y k l e)
  type_unique (object o) (base b) k l e = absurd (base-object b o l k (sym e))
  type_unique (object o) (object p) k l e = let r = object-unique o p k l e in (ap object r.0, r.1)
  type_unique (object o) (array y) k l e = absurd (object-array o y k l e)
  type_unique (array x) (base b) k l e = absurd (base-array b x l k (sym e))
  type_unique (array x) (object p) k l e = absurd (object-array p x l k (sym e))
  type_unique (array x) (array y) k l e = let r = array-unique x y k l e in (ap array r.0, r.1)

  array-unique : (x y : ArrayType) (k l : List ℕ) → array_spelling x ++ k ≡ array_spelling y ++ l → (x ≡ y) × (k ≡ l)
  array-unique (of c) (of d) k l e = let r = component-unique c d k l (tail e) in (ap of r.0, r.1)

  component-unique : (c d : ComponentType) (k l : List ℕ) → component_spelling c ++ k ≡ component_spelling d ++ l → (c ≡ d) × (k ≡ l)
  component-unique (component t) (component u) k l e = let r = type_unique t u k l e in (ap component r.0, r.1)

whole_unique : (t u : FieldType) → type_spelling t ≡ type_spelling u → t ≡ u
whole_unique t u e = (type_unique t u [] [] (ap (λ (s : List ℕ). s ++ []) e)).0

pub field_unique : (c d : FieldDescriptor) → field_spelling c ≡ field_spelling d → c ≡ d
unfolding field_spelling
field_unique (field t) (field u) e = ap field (whole_unique t u e)

-- ---- methods

-- a byte that begins no type
head-not : (t : FieldType) (x : ℕ) (k l : List ℕ) → eqb (headed t).byte x ≡ false → x ∷ k ≡ type_spelling t ++ l → ⊥
head-not t x k l h e =
    let f : x ∷ k ≡ (headed t).byte ∷ ((headed t).rest ++ l) = rw (headed t).is at e in
    eqb-false (headed t).byte x h (sym (head f))

parameters-unique : (ts us : List ParameterDescriptor) (k l : List ℕ) → parameters_spelling ts ++ (41 ∷ k) ≡ parameters_spelling us ++ (41 ∷ l)
    → (ts ≡ us) × (k ≡ l)
unfolding parameter_spelling parameters_spelling
parameters-unique [] [] k l e = (refl, tail e)
parameters-unique [] (parameter u ∷ us) k l e =
    absurd
    (head-not u 41 k (parameters_spelling us ++ (41 ∷ l)) (headed u).no_close
    (e ∙ append_assoc (type_spelling u) (parameters_spelling us) (41 ∷ l)))
parameters-unique (parameter t ∷ ts) [] k l e =
    absurd
    (head-not t 41 l (parameters_spelling ts ++ (41 ∷ k)) (headed t).no_close
    (sym e ∙ append_assoc (type_spelling t) (parameters_spelling ts) (41 ∷ k)))
parameters-unique (parameter t ∷ ts) (parameter u ∷ us) k l e =
    let p =
    type_unique t u (parameters_spelling ts ++ (41 ∷ k)) (parameters_spelling us ++ (41 ∷ l))
    (sym (append_assoc (type_spelling t) (parameters_spelling ts) (41 ∷ k)) ∙ e
    ∙ append_assoc (type_spelling u) (parameters_spelling us) (41 ∷ l)) in
    let r = parameters-unique ts us k l p.1 in
    (λ i. parameter (p.0 i) ∷ r.0 i, r.1)

value-void : (t : FieldType) → 86 ∷ [] ≡ type_spelling t → ⊥
value-void t e = head-not t 86 [] [] (headed t).no_void (e ∙ sym (append-nil (type_spelling t)))

result-unique : (q r : ReturnDescriptor) → result_spelling q ≡ result_spelling r → q ≡ r
unfolding result_spelling void_spelling
result-unique (value t) (value u) e = ap value (whole_unique t u e)
result-unique (value t) (void «V») e = absurd (value-void t (sym e))
result-unique (void «V») (value u) e = absurd (value-void u e)
result-unique (void «V») (void «V») e = refl

pub method_unique : (t u : MethodDescriptor) → method_spelling t ≡ method_spelling u → t ≡ u
unfolding method_spelling
method_unique t u e =
    let p = parameters-unique t.parameters u.parameters (result_spelling t.result) (result_spelling u.result) (tail e) in
    let r = result-unique t.result u.result p.1 in
    λ i. record { parameters = p.0 i; result = r i }
