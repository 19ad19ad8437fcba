-- What a class file yields is its own: "the class name, parent name (none if its reference is 0), flags, fields and methods with their names and descriptors,
-- in file order". `own` of proofs/Own.antt proves it. Assumes nothing.
use Rattle.std.specs.Prelude.{ℕ, ◌≡◌, ◌≢◌, List, [], ◌∷◌}
use Rattle.linking.specs.Compiler.{New}
use Rattle.class_members.specs.Members.{file_flags, file_name, file_parent, file_fields, file_methods}
use Rattle.file_form.specs.Grammar.{Constant, Member, ClassFile, IsUtf8, IsClassInfo, Derivation}

-- x has m's flags, and the strings that its references name
pub record IsMember (pool : List Constant) (m : Member) (x : New) : Type 0 where
  pub name : IsUtf8 pool m.name x.name
  pub descriptor : IsUtf8 pool m.descriptor x.descriptor
  pub flags : x.flags ≡ m.flags

-- one by one, in their order
pub data AreMembers (pool : List Constant) : List Member → List New → Type 0 where
  no_members : AreMembers pool [] []
  a_member : {m : Member} {ms : List Member} {x : New} {xs : List New} → IsMember pool m x → AreMembers pool ms xs → AreMembers pool (m ∷ ms) (x ∷ xs)

-- what is read of bs, with the lent targets, is what f says
pub record ReadsAs (bs targets : List ℕ) (f : ClassFile) : Type 0 where
  pub name : IsClassInfo f.pool f.this (file_name bs)
  pub no_parent : f.super ≡ 0 → file_parent bs ≡ []
  pub parent : f.super ≢ 0 → IsClassInfo f.pool f.super (file_parent bs)
  pub flags : file_flags bs ≡ f.flags
  pub fields : AreMembers f.pool f.fields (file_fields bs)
  pub methods : AreMembers f.pool f.methods (file_methods bs targets)

-- of all bytes that a class file spells, so of all that are accepted (`Derived` of crate `file_form`)
abbrev pub Own : Type 0
Own = (bs targets : List ℕ) (d : Derivation bs) → ReadsAs bs targets d.file
