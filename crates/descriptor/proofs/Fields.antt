-- Readers of a field type: whatever goes by `field_next` while it is in one reads just what the grammar derives. The field machine is
-- such a reader, and so are the method machine and its sum of words in a parameter. Bytes by number: 41 ) 47 / 59 ; 76 L 86 V 91 [.
-- Assumes nothing.
use mathlib.Core.Path.{◌≡◌, refl, sym, ap, ◌∙◌}
use mathlib.Core.Bool.{Bool, true, false, false≢true}
use mathlib.Core.List.{List, [], ◌∷◌, ◌++◌, append_assoc, map}
use Prim.Native.Nat.{ℕ}
use lib.Dec.{eqb}
use borrow.Author.Tests.{ne_eqb, eqb-true}
use Rattle.words.specs.Lists.{some}
use Rattle.words.proofs.Bools.{by}
use Rattle.descriptor.specs.declared.FieldState.{FieldState}
use Rattle.descriptor.specs.declared.FieldState.TheVariants.{Open, Start, Inside, Done, Bad}
use Rattle.descriptor.specs.Bytes.{is_base_byte, is_name_byte}
use Rattle.descriptor.specs.Machine.{field_next}
use Rattle.descriptor.specs.Words.{byte_width, type_words}
use Rattle.descriptor.specs.Grammar.{NameByte, UnqualifiedName, ClassName, BaseType, B, C, D, F, I, J, S, Z, ObjectType, L, FieldType, base, object, array, ArrayType, of, ComponentType, component, name_bytes, name_spelling, rest_spelling, class_spelling, base_byte, object_spelling, type_spelling, array_spelling, component_spelling}

-- ---- a step at a byte of the grammar

not-semicolon : (b : NameByte) → eqb b.code 59 ≡ false
unfolding is_name_byte some
not-semicolon b = let h = b.allowed in ne_eqb b.code 59 (λ e. false≢true (rw e at h))

not-slash : (b : NameByte) → eqb b.code 47 ≡ false
unfolding is_name_byte some
not-slash b = let h = b.allowed in ne_eqb b.code 47 (λ e. false≢true (rw e at h))

start-name : (b : NameByte) → field_next Start b.code ≡ Inside
unfolding field_next
start-name b = simp b.allowed

inside-name : (b : NameByte) → field_next Inside b.code ≡ Inside
unfolding field_next
inside-name b = simp (not-semicolon b, not-slash b, b.allowed)

open_base : (b : BaseType) → field_next Open (base_byte b) ≡ Done
unfolding field_next base_byte is_base_byte some
open_base B = refl
open_base C = refl
open_base D = refl
open_base F = refl
open_base I = refl
open_base J = refl
open_base S = refl
open_base Z = refl

-- ---- what the grammar derives is read

-- a reader, whatever it answers
pub record Steps {X : Type 0} (A : FieldState → List ℕ → X) : Type 0 where
  pub open_step : (b : ℕ) (s : List ℕ) → A Open (b ∷ s) ≡ A (field_next Open b) s
  pub start-step : (b : ℕ) (s : List ℕ) → A Start (b ∷ s) ≡ A (field_next Start b) s
  pub inside-step : (b : ℕ) (s : List ℕ) → A Inside (b ∷ s) ≡ A (field_next Inside b) s

module _ {X : Type 0} (A : FieldState → List ℕ → X) (steps : Steps A) where
  bytes_read : (bs : List NameByte) (k : List ℕ) → A Inside (name_bytes bs ++ k) ≡ A Inside k
  unfolding name_bytes
  bytes_read [] k = refl
  bytes_read (b ∷ bs) k = steps.inside-step b.code (name_bytes bs ++ k) ∙ rw (inside-name b) (bytes_read bs k)

  name-read : (n : UnqualifiedName) (k : List ℕ) → A Start (name_spelling n ++ k) ≡ A Inside k
  unfolding name_spelling
  name-read n k = steps.start-step n.first.code (name_bytes n.rest ++ k) ∙ rw (start-name n.first) (bytes_read n.rest k)

  rest_read : (ns : List UnqualifiedName) (k : List ℕ) → A Inside (rest_spelling ns ++ k) ≡ A Inside k
  unfolding rest_spelling field_next
  rest_read [] k = refl
  rest_read (n ∷ ns) k =
      steps.inside-step 47 ((name_spelling n ++ rest_spelling ns) ++ k)
      ∙ rw (append_assoc (name_spelling n) (rest_spelling ns) k) (name-read n (rest_spelling ns ++ k) ∙ rest_read ns k)

  class-read : (c : ClassName) (k : List ℕ) → A Start (class_spelling c ++ k) ≡ A Inside k
  unfolding class_spelling
  class-read c k =
      rw (append_assoc (name_spelling c.first) (rest_spelling c.rest) k)
      (name-read c.first (rest_spelling c.rest ++ k) ∙ rest_read c.rest k)

  object-read : (o : ObjectType) (k : List ℕ) → A Open (object_spelling o ++ k) ≡ A Done k
  unfolding object_spelling field_next
  object-read (L c) k =
      steps.open_step 76 ((class_spelling c ++ (59 ∷ [])) ++ k)
      ∙ rw (append_assoc (class_spelling c) (59 ∷ []) k) (class-read c (59 ∷ k) ∙ steps.inside-step 59 k)

  mutual
    unfolding type_spelling field_next

    pub type_read : (t : FieldType) (k : List ℕ) → A Open (type_spelling t ++ k) ≡ A Done k
    type_read (base b) k = steps.open_step (base_byte b) k ∙ rw (open_base b)
    type_read (object o) k = object-read o k
    type_read (array a) k = array-read a k

    array-read : (a : ArrayType) (k : List ℕ) → A Open (array_spelling a ++ k) ≡ A Done k
    array-read (of c) k = steps.open_step 91 (component_spelling c ++ k) ∙ component-read c k

    component-read : (c : ComponentType) (k : List ℕ) → A Open (component_spelling c ++ k) ≡ A Done k
    component-read (component t) k = type_read t k

-- ---- what is read, the grammar derives

-- a reader that accepts or not, and only past a whole type
pub record Accepts (A : FieldState → List ℕ → Bool) : Type 0 where
  pub steps : Steps A
  pub open_end : A Open [] ≡ false
  pub start-end : A Start [] ≡ false
  pub inside-end : A Inside [] ≡ false
  pub bad : (s : List ℕ) → A Bad s ≡ false

among : (b : ℕ) (ts : List BaseType) → some (λ (x : ℕ). eqb x b) (map base_byte ts) ≡ true → (t : BaseType) × (base_byte t ≡ b)
unfolding some
among b [] h = absurd (false≢true h)
among b (t ∷ ts) h = by (eqb (base_byte t) b) (λ e. (t, eqb-true (base_byte t) b e)) (λ e. among b ts (simp e at h))

base-of : (b : ℕ) → is_base_byte b ≡ true → (t : BaseType) × (base_byte t ≡ b)
unfolding is_base_byte base_byte
base-of b h = among b (B ∷ C ∷ D ∷ F ∷ I ∷ J ∷ S ∷ Z ∷ []) h

module _ (A : FieldState → List ℕ → Bool) (reads : Accepts A) where
  -- a name goes on, and a name begins: what follows up to the semicolon, and the rest
  abbrev Inside-of : List ℕ → Type 0
  Inside-of s =
      (bs : List NameByte) × (ns : List UnqualifiedName) × (k : List ℕ)
      × (s ≡ name_bytes bs ++ (rest_spelling ns ++ (59 ∷ k))) × (A Done k ≡ true)

  abbrev Class-of : List ℕ → Type 0
  Class-of s = (c : ClassName) × (k : List ℕ) × (s ≡ class_spelling c ++ (59 ∷ k)) × (A Done k ≡ true)

  never : {Y : Type 0} (s : List ℕ) → A Bad s ≡ true → Y
  never s h = absurd (false≢true (sym (reads.bad s) ∙ h))

  more_byte : (b : ℕ) (s : List ℕ) → is_name_byte b ≡ true → Inside-of s → Inside-of (b ∷ s)
  unfolding name_bytes
  more_byte b s g r = (record { code = b; allowed = g } ∷ r.0, r.1, r.2, ap (λ (l : List ℕ). b ∷ l) r.3, r.4)

  more-name : (s : List ℕ) → Class-of s → Inside-of (47 ∷ s)
  unfolding name_bytes rest_spelling class_spelling
  more-name s r =
      ([], r.0.first ∷ r.0.rest, r.1, ap (λ (l : List ℕ). 47 ∷ l) r.2, r.3)

  first-name : (b : ℕ) (s : List ℕ) → is_name_byte b ≡ true → Inside-of s → Class-of (b ∷ s)
  unfolding name_spelling class_spelling
  first-name b s g r = (
    record { first = record { first = record { code = b; allowed = g }; rest = r.0 }; rest = r.1 },
    r.2,
    ap (λ (l : List ℕ). b ∷ l) (r.3 ∙ sym (append_assoc (name_bytes r.0) (rest_spelling r.1) (59 ∷ r.2))),
    r.4,
  )

  inside-more : (b : ℕ) (s : List ℕ) → (A Inside s ≡ true → Inside-of s) → (A Start s ≡ true → Class-of s) → A (field_next Inside b) s ≡ true
      → Inside-of (b ∷ s)
  unfolding field_next name_bytes rest_spelling
  inside-more b s inside start h =
      by (eqb b 59) (λ e. ([], [], s, ap (λ (x : ℕ). x ∷ s) (eqb-true b 59 e), simp e at h))
      (λ e. by (eqb b 47) (λ f. rw (eqb-true b 47 f) (more-name s (start (simp (e, f) at h))))
      (λ f. by (is_name_byte b) (λ g. more_byte b s g (inside (simp (e, f, g) at h))) (λ g. never s (simp (e, f, g) at h))))

  start-more : (b : ℕ) (s : List ℕ) → (A Inside s ≡ true → Inside-of s) → A (field_next Start b) s ≡ true → Class-of (b ∷ s)
  unfolding field_next
  start-more b s inside h =
      by (is_name_byte b) (λ g. first-name b s g (inside (simp g at h))) (λ g. never s (simp g at h))

  names : (s : List ℕ) → (A Inside s ≡ true → Inside-of s) × (A Start s ≡ true → Class-of s)
  names [] = (λ h. absurd (false≢true (sym reads.inside-end ∙ h)), λ h. absurd (false≢true (sym reads.start-end ∙ h)))
  names (b ∷ s) =
      let r = names s in (
        λ h. inside-more b s r.0 r.1 (sym (reads.steps.inside-step b s) ∙ h),
        λ h. start-more b s r.0 (sym (reads.steps.start-step b s) ∙ h),
      )

  -- a type begins: it, and the rest
  abbrev pub Type-of : List ℕ → Type 0
  Type-of s = (t : FieldType) × (k : List ℕ) × (s ≡ type_spelling t ++ k) × (A Done k ≡ true)

  array_of : (s : List ℕ) → Type-of s → Type-of (91 ∷ s)
  unfolding type_spelling
  array_of s r = (array (of (component r.0)), r.1, ap (λ (l : List ℕ). 91 ∷ l) r.2, r.3)

  object_of : (s : List ℕ) → Class-of s → Type-of (76 ∷ s)
  unfolding type_spelling object_spelling
  object_of s r =
      (object (L r.0), r.1, ap (λ (l : List ℕ). 76 ∷ l) (r.2 ∙ sym (append_assoc (class_spelling r.0) (59 ∷ []) r.1)), r.3)

  base_type : (b : ℕ) (s : List ℕ) → is_base_byte b ≡ true → A Done s ≡ true → Type-of (b ∷ s)
  unfolding type_spelling
  base_type b s g h = let t = base-of b g in (base t.0, s, ap (λ (x : ℕ). x ∷ s) (sym t.1), h)

  open_more : (b : ℕ) (s : List ℕ) → (A Open s ≡ true → Type-of s) → A (field_next Open b) s ≡ true → Type-of (b ∷ s)
  unfolding field_next
  open_more b s rest h =
      by (eqb b 91) (λ e. rw (eqb-true b 91 e) (array_of s (rest (simp e at h))))
      (λ e. by (eqb b 76) (λ f. rw (eqb-true b 76 f) (object_of s ((names s).1 (simp (e, f) at h))))
      (λ f. by (is_base_byte b) (λ g. base_type b s g (simp (e, f, g) at h)) (λ g. never s (simp (e, f, g) at h))))

  pub type_of : (s : List ℕ) → A Open s ≡ true → Type-of s
  type_of [] h = absurd (false≢true (sym reads.open_end ∙ h))
  type_of (b ∷ s) h = open_more b s (type_of s) (sym (reads.steps.open_step b s) ∙ h)

-- ---- the first byte of a type

pub record Headed (t : FieldType) : Type 0 where
  pub byte : ℕ
  pub rest : List ℕ
  pub is : type_spelling t ≡ byte ∷ rest
  pub words : byte_width byte ≡ type_words t
  pub no_close : eqb byte 41 ≡ false
  pub no_void : eqb byte 86 ≡ false

base-headed : (b : BaseType) → (byte_width (base_byte b) ≡ type_words (base b)) × (eqb (base_byte b) 41 ≡ false) × (eqb (base_byte b) 86 ≡ false)
unfolding base_byte byte_width type_words
base-headed B = (refl, refl, refl)
base-headed C = (refl, refl, refl)
base-headed D = (refl, refl, refl)
base-headed F = (refl, refl, refl)
base-headed I = (refl, refl, refl)
base-headed J = (refl, refl, refl)
base-headed S = (refl, refl, refl)
base-headed Z = (refl, refl, refl)

pub headed : (t : FieldType) → Headed t
unfolding type_spelling object_spelling byte_width type_words
headed (base b) =
    let h = base-headed b in record { byte = base_byte b; rest = []; is = refl; words = h.0; no_close = h.1; no_void = h.2 }
headed (object (L c)) =
    record { byte = 76; rest = class_spelling c ++ (59 ∷ []); is = refl; words = refl; no_close = refl; no_void = refl }
headed (array (of c)) = record { byte = 91; rest = component_spelling c; is = refl; words = refl; no_close = refl; no_void = refl }
