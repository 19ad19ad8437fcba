-- The grammar of descriptors, JVMS 4.3.2 and 4.3.3, and of the class names in them, 4.2.1 and 4.2.2: for each production a type of
-- derivations under the Specification's name, and the bytes that a derivation spells. In the Specification's notation {x} is x any
-- number of times, here a list. Bytes are numbers; those of a slice are below 256. Assumes nothing.
use Rattle.std.specs.Prelude.{ℕ, ◌≡◌, List, [], ◌∷◌, ◌++◌}
use Rattle.std.proofs.Math.Bool.{So}
use Rattle.descriptor.specs.Bytes.{byte, is_name_byte}

-- ---- names, JVMS 4.2

-- a byte of an unqualified name
pub record NameByte : Type 0 where
  pub code : ℕ
  pub allowed : So (is_name_byte code)

-- "An unqualified name must contain at least one Unicode code point and must not contain any of the ASCII
-- characters . ; [ /" (4.2.2)
pub record UnqualifiedName : Type 0 where
  pub first : NameByte
  pub rest : List NameByte

-- "In this internal form, the ASCII periods (.) that normally separate the identifiers which make up the binary name are replaced by
-- ASCII forward slashes (/). The identifiers themselves must be unqualified names" (4.2.1)
pub record ClassName : Type 0 where
  pub first : UnqualifiedName
  pub rest : List UnqualifiedName

-- ---- field descriptors, JVMS 4.3.2

-- BaseType: (one of) B C D F I J S Z
pub data BaseType : Type 0 where
  B C D F I J S Z : BaseType

-- ObjectType: L ClassName ;
pub data ObjectType : Type 0 where
  L : ClassName → ObjectType

mutual
  -- FieldType: BaseType | ObjectType | ArrayType
  pub data FieldType : Type 0 where
    base : BaseType → FieldType
    object : ObjectType → FieldType
    array : ArrayType → FieldType

  -- ArrayType: [ ComponentType
  pub data ArrayType : Type 0 where
    of : ComponentType → ArrayType

  -- ComponentType: FieldType
  pub data ComponentType : Type 0 where
    component : FieldType → ComponentType

-- FieldDescriptor: FieldType
pub data FieldDescriptor : Type 0 where
  field : FieldType → FieldDescriptor

-- ---- method descriptors, JVMS 4.3.3

-- ParameterDescriptor: FieldType
pub data ParameterDescriptor : Type 0 where
  parameter : FieldType → ParameterDescriptor

-- VoidDescriptor: V
pub data VoidDescriptor : Type 0 where
  «V» : VoidDescriptor

-- ReturnDescriptor: FieldType | VoidDescriptor
pub data ReturnDescriptor : Type 0 where
  value : FieldType → ReturnDescriptor
  void : VoidDescriptor → ReturnDescriptor

-- MethodDescriptor: ( {ParameterDescriptor} ) ReturnDescriptor
pub record MethodDescriptor : Type 0 where
  pub parameters : List ParameterDescriptor
  pub result : ReturnDescriptor

-- ---- what a derivation spells

unfoldable pub name_bytes : List NameByte → List ℕ
name_bytes [] = []
name_bytes (b ∷ bs) = b.code ∷ name_bytes bs

unfoldable pub name_spelling : UnqualifiedName → List ℕ
name_spelling n = n.first.code ∷ name_bytes n.rest

unfoldable pub rest_spelling : List UnqualifiedName → List ℕ
rest_spelling [] = []
rest_spelling (n ∷ ns) = byte "/" ∷ (name_spelling n ++ rest_spelling ns)

unfoldable pub class_spelling : ClassName → List ℕ
class_spelling c = name_spelling c.first ++ rest_spelling c.rest

unfoldable pub base_byte : BaseType → ℕ
base_byte B = byte "B"
base_byte C = byte "C"
base_byte D = byte "D"
base_byte F = byte "F"
base_byte I = byte "I"
base_byte J = byte "J"
base_byte S = byte "S"
base_byte Z = byte "Z"

unfoldable pub object_spelling : ObjectType → List ℕ
object_spelling (L c) = byte "L" ∷ (class_spelling c ++ (byte ";" ∷ []))

unfoldable mutual
  pub type_spelling : FieldType → List ℕ
  type_spelling (base b) = base_byte b ∷ []
  type_spelling (object o) = object_spelling o
  type_spelling (array a) = array_spelling a

  pub array_spelling : ArrayType → List ℕ
  array_spelling (of c) = byte "[" ∷ component_spelling c

  pub component_spelling : ComponentType → List ℕ
  component_spelling (component t) = type_spelling t

unfoldable pub field_spelling : FieldDescriptor → List ℕ
field_spelling (field t) = type_spelling t

unfoldable pub parameter_spelling : ParameterDescriptor → List ℕ
parameter_spelling (parameter t) = type_spelling t

unfoldable pub parameters_spelling : List ParameterDescriptor → List ℕ
parameters_spelling [] = []
parameters_spelling (p ∷ ps) = parameter_spelling p ++ parameters_spelling ps

unfoldable pub void_spelling : VoidDescriptor → List ℕ
void_spelling «V» = byte "V" ∷ []

unfoldable pub result_spelling : ReturnDescriptor → List ℕ
result_spelling (value t) = type_spelling t
result_spelling (void v) = void_spelling v

unfoldable pub method_spelling : MethodDescriptor → List ℕ
method_spelling d = byte "(" ∷ (parameters_spelling d.parameters ++ (byte ")" ∷ result_spelling d.result))

-- ---- a derivation of the bytes

abbrev pub FieldDerivation : List ℕ → Type 0
FieldDerivation s = (d : FieldDescriptor) × (field_spelling d ≡ s)

abbrev pub MethodDerivation : List ℕ → Type 0
MethodDerivation s = (d : MethodDescriptor) × (method_spelling d ≡ s)
