-- The form of a class file as types, JVMS 4.1 and 4.4 to 4.7: each structure of the Specification, its items in their order, and the bytes that
-- it spells. Counts and lengths are those of the lists. Assumes nothing.
use Rattle.std.specs.Prelude.{ℕ, ◌+◌, ◌/◌, ◌%◌, ◌≤◌, ◌≡◌, ◌⊎◌, List, [], ◌∷◌, ◌++◌, length}

-- ---- "Multibyte data items are always stored in big-endian order, where the high bytes come first." (4)

unfoldable pub u2_bytes : ℕ → List ℕ
u2_bytes n = n / 256 ∷ n % 256 ∷ []

unfoldable pub u4_bytes : ℕ → List ℕ
u4_bytes n = u2_bytes (n / 65536) ++ u2_bytes (n % 65536)

-- one after the other, and with their count before them
unfoldable pub each : {A : Type 0} → (A → List ℕ) → List A → List ℕ
each spelling [] = []
each spelling (x ∷ xs) = spelling x ++ each spelling xs

unfoldable pub counted : {A : Type 0} → (A → List ℕ) → List A → List ℕ
counted spelling xs = u2_bytes (length xs) ++ each spelling xs

-- ---- the constant pool, JVMS 4.4

-- cp_info { u1 tag; u1 info[]; }: the eleven of major versions 45 to 48
pub data Constant : Type 0 where
  -- u2 length; u1 bytes[length] (4.4.7)
  Utf8 : (bytes : List ℕ) → Constant
  -- u4 bytes (4.4.4)
  Integer Float : (bytes : ℕ) → Constant
  -- u4 high_bytes; u4 low_bytes (4.4.5)
  Long Double : (high low : ℕ) → Constant
  -- u2 name_index (4.4.1); u2 string_index (4.4.3)
  Class String : (index : ℕ) → Constant
  -- u2 class_index; u2 name_and_type_index (4.4.2)
  Fieldref Methodref InterfaceMethodref : (class nameAndType : ℕ) → Constant
  -- u2 name_index; u2 descriptor_index (4.4.6)
  NameAndType : (name descriptor : ℕ) → Constant

-- Table 4.4-A
unfoldable pub tag_of : Constant → ℕ
tag_of (Utf8 s) = 1
tag_of (Integer n) = 3
tag_of (Float n) = 4
tag_of (Long h l) = 5
tag_of (Double h l) = 6
tag_of (Class i) = 7
tag_of (String i) = 8
tag_of (Fieldref c n) = 9
tag_of (Methodref c n) = 10
tag_of (InterfaceMethodref c n) = 11
tag_of (NameAndType n d) = 12

unfoldable pub info_of : Constant → List ℕ
info_of (Utf8 s) = u2_bytes (length s) ++ s
info_of (Integer n) = u4_bytes n
info_of (Float n) = u4_bytes n
info_of (Long h l) = u4_bytes h ++ u4_bytes l
info_of (Double h l) = u4_bytes h ++ u4_bytes l
info_of (Class i) = u2_bytes i
info_of (String i) = u2_bytes i
info_of (Fieldref c n) = u2_bytes c ++ u2_bytes n
info_of (Methodref c n) = u2_bytes c ++ u2_bytes n
info_of (InterfaceMethodref c n) = u2_bytes c ++ u2_bytes n
info_of (NameAndType n d) = u2_bytes n ++ u2_bytes d

unfoldable pub constant_spelling : Constant → List ℕ
constant_spelling c = tag_of c ∷ info_of c

-- "All 8-byte constants take up two entries in the constant_pool table of the class file." (4.4.5)
unfoldable pub entries_of : Constant → ℕ
entries_of (Utf8 s) = 1
entries_of (Integer n) = 1
entries_of (Float n) = 1
entries_of (Long h l) = 2
entries_of (Double h l) = 2
entries_of (Class i) = 1
entries_of (String i) = 1
entries_of (Fieldref c n) = 1
entries_of (Methodref c n) = 1
entries_of (InterfaceMethodref c n) = 1
entries_of (NameAndType n d) = 1

unfoldable pub pool_entries : List Constant → ℕ
pool_entries [] = 0
pool_entries (c ∷ cs) = entries_of c + pool_entries cs

-- "The value of the constant_pool_count item is equal to the number of entries in the constant_pool table plus one." (4.1)
unfoldable pub pool_spelling : List Constant → List ℕ
pool_spelling cs = u2_bytes (1 + pool_entries cs) ++ each constant_spelling cs

-- ---- members and attributes, JVMS 4.5 to 4.7

-- attribute_info { u2 attribute_name_index; u4 attribute_length; u1 info[attribute_length]; }
pub record Attribute : Type 0 where
  pub name : ℕ
  pub info : List ℕ

-- field_info and method_info { u2 access_flags; u2 name_index; u2 descriptor_index; u2 attributes_count; attribute_info attributes[attributes_count]; }
pub record Member : Type 0 where
  pub flags : ℕ
  pub name : ℕ
  pub descriptor : ℕ
  pub attributes : List Attribute

unfoldable pub attribute_spelling : Attribute → List ℕ
attribute_spelling a = u2_bytes a.name ++ u4_bytes (length a.info) ++ a.info

unfoldable pub member_spelling : Member → List ℕ
member_spelling m = u2_bytes m.flags ++ u2_bytes m.name ++ u2_bytes m.descriptor ++ counted attribute_spelling m.attributes

-- ---- the file, JVMS 4.1

pub record ClassFile : Type 0 where
  pub minor : ℕ
  pub major : ℕ
  pub pool : List Constant
  pub flags : ℕ
  pub this : ℕ
  pub super : ℕ
  pub interfaces : List ℕ
  pub fields : List Member
  pub methods : List Member
  pub attributes : List Attribute

-- "The magic item supplies the magic number identifying the class file format; it has the value 0xCAFEBABE."
unfoldable pub file_spelling : ClassFile → List ℕ
file_spelling f =
    u4_bytes 0xCAFEBABE ++ u2_bytes f.minor ++ u2_bytes f.major
    ++ pool_spelling f.pool
    ++ (u2_bytes f.flags ++ u2_bytes f.this ++ u2_bytes f.super ++ counted u2_bytes f.interfaces)
    ++ (counted member_spelling f.fields ++ counted member_spelling f.methods ++ counted attribute_spelling f.attributes)

-- ---- which references hold: "Only the class's and parent's references and the members' names and descriptors are looked up"

-- the constant of index i is c, where the first of the list has index j
pub data Stands (c : Constant) (i : ℕ) : ℕ → List Constant → Type 0 where
  here : {cs : List Constant} → Stands c i i (c ∷ cs)
  there : {j : ℕ} {d : Constant} {cs : List Constant} → Stands c i (j + entries_of d) cs → Stands c i j (d ∷ cs)

-- "must be a valid index into the constant_pool table. The constant_pool entry at that index must be a CONSTANT_Utf8_info structure" (4.5, 4.6):
-- indices go from 1 to the pool's count less one (4.1)
abbrev pub IsUtf8 : List Constant → ℕ → List ℕ → Type 0
IsUtf8 pool i s = Stands (Utf8 s) i 1 pool

-- "a CONSTANT_Class_info structure", whose name_index is that of a CONSTANT_Utf8_info (4.4.1): the class of this name
pub record IsClassInfo (pool : List Constant) (i : ℕ) (s : List ℕ) : Type 0 where
  pub index : ℕ
  pub class : Stands (Class index) i 1 pool
  pub name : IsUtf8 pool index s

pub record MemberHolds (pool : List Constant) (m : Member) : Type 0 where
  pub name : (s : List ℕ) × IsUtf8 pool m.name s
  pub descriptor : (s : List ℕ) × IsUtf8 pool m.descriptor s

-- of all elements
pub data All {A : Type 0} (P : A → Type 0) : List A → Type 0 where
  all_none : All P []
  all_more : {x : A} {xs : List A} → P x → All P xs → All P (x ∷ xs)

pub record Holds (f : ClassFile) : Type 0 where
  pub oldest : 45 ≤ f.major
  pub newest : f.major ≤ 48
  pub this : (s : List ℕ) × IsClassInfo f.pool f.this s
  -- "parent name (none if its reference is 0)"
  pub super : (f.super ≡ 0) ⊎ ((s : List ℕ) × IsClassInfo f.pool f.super s)
  pub fields : All (MemberHolds f.pool) f.fields
  pub methods : All (MemberHolds f.pool) f.methods

-- ---- a class file that spells the bytes

pub record Derivation (bs : List ℕ) : Type 0 where
  pub file : ClassFile
  pub spells : file_spelling file ≡ bs
  pub holds : Holds file
