-- Two small files as class files, so that the types have what they are for. Assumes nothing.
use mathlib.Core.Path.{◌≡◌, refl}
use mathlib.Core.Logic.{inl, inr}
use mathlib.Core.List.{List, [], ◌∷◌, ◌++◌}
use Prim.Native.Nat.{ℕ}
use native.Mathlib.Omega.{arith}
use Rattle.class_form.specs.Form.{form_refusal}
use Rattle.file_form.specs.Grammar.{u2_bytes, u4_bytes, each, counted, Utf8, Class, tag_of, info_of, constant_spelling, entries_of, pool_entries, pool_spelling, attribute_spelling, member_spelling, ClassFile, file_spelling, here, there, all_none, all_more, Holds}
use Rattle.file_form.proofs.Derived.{derived}

-- magic and version 48.0, the pool's count, a Class of name 2 and the Utf8 A
abbrev start : ℕ → List ℕ
start count = 202 ∷ 254 ∷ 186 ∷ 190 ∷ 0 ∷ 0 ∷ 0 ∷ 48 ∷ 0 ∷ count ∷ 7 ∷ 0 ∷ 2 ∷ 1 ∷ 0 ∷ 1 ∷ 65 ∷ []

-- class A, no parent, no members: 31 bytes
abbrev bytes_a : List ℕ
bytes_a = start 3 ++ (0 ∷ 33 ∷ 0 ∷ 1 ∷ 0 ∷ 0 ∷ 0 ∷ 0 ∷ 0 ∷ 0 ∷ 0 ∷ 0 ∷ 0 ∷ 0 ∷ [])

abbrev file_a : ClassFile
file_a =
    record {
      minor = 0;
      major = 48;
      pool = Class 2 ∷ Utf8 (65 ∷ []) ∷ [];
      flags = 33;
      this = 1;
      super = 0;
      interfaces = [];
      fields = [];
      methods = [];
      attributes = [];
    }

-- A under B, private field x I, public static method f (J)V: 73 bytes
abbrev bytes_ab : List ℕ
bytes_ab =
    start 9
    ++ (7 ∷ 0 ∷ 4 ∷ 1 ∷ 0 ∷ 1 ∷ 66 ∷ 1 ∷ 0 ∷ 1 ∷ 120 ∷ 1 ∷ 0 ∷ 1 ∷ 73 ∷ 1 ∷ 0 ∷ 1 ∷ 102 ∷ 1 ∷ 0 ∷ 4 ∷ 40 ∷ 74 ∷ 41 ∷ 86 ∷ [])
    ++ (0 ∷ 33 ∷ 0 ∷ 1 ∷ 0 ∷ 3 ∷ 0 ∷ 0 ∷ [])
    ++ (0 ∷ 1 ∷ 0 ∷ 2 ∷ 0 ∷ 5 ∷ 0 ∷ 6 ∷ 0 ∷ 0 ∷ 0 ∷ 1 ∷ 0 ∷ 9 ∷ 0 ∷ 7 ∷ 0 ∷ 8 ∷ 0 ∷ 0 ∷ 0 ∷ 0 ∷ [])

abbrev file_ab : ClassFile
file_ab =
    record {
      minor = 0;
      major = 48;
      pool =
          Class 2 ∷ Utf8 (65 ∷ []) ∷ Class 4 ∷ Utf8 (66 ∷ []) ∷ Utf8 (120 ∷ []) ∷ Utf8 (73 ∷ []) ∷ Utf8 (102 ∷ []) ∷ Utf8 (40 ∷ 74 ∷ 41 ∷ 86 ∷ []) ∷ [];
      flags = 33;
      this = 1;
      super = 3;
      interfaces = [];
      fields = record { flags = 2; name = 5; descriptor = 6; attributes = [] } ∷ [];
      methods = record { flags = 9; name = 7; descriptor = 8; attributes = [] } ∷ [];
      attributes = [];
    }

holds-A : Holds file_a
unfolding entries_of
holds-A =
    record {
      oldest = omega arith;
      newest = omega arith;
      this = (65 ∷ [], record { index = 2; class = here; name = there here });
      super = inl refl;
      fields = all_none;
      methods = all_none;
    }

holds-AB : Holds file_ab
unfolding entries_of
holds-AB =
    record {
      oldest = omega arith;
      newest = omega arith;
      this = (65 ∷ [], record { index = 2; class = here; name = there here });
      super = inr (66 ∷ [], record { index = 4; class = there (there here); name = there (there (there here)) });
      fields =
          all_more
          (record {
            name = (120 ∷ [], there (there (there (there here))));
            descriptor = (73 ∷ [], there (there (there (there (there here)))));
          })
          all_none;
      methods =
          all_more
          (record {
            name = (102 ∷ [], there (there (there (there (there (there here))))));
            descriptor = (40 ∷ 74 ∷ 41 ∷ 86 ∷ [], there (there (there (there (there (there (there here)))))));
          })
          all_none;
    }

pub record Examples : Type 0 where
  pub a : form_refusal bytes_a ≡ 0
  pub ab : form_refusal bytes_ab ≡ 0

pub examples : Examples
unfolding u2_bytes u4_bytes each counted tag_of info_of constant_spelling entries_of pool_entries pool_spelling attribute_spelling member_spelling file_spelling
examples =
    record {
      a = derived.complete bytes_a (record { file = file_a; spells = refl; holds = holds-A });
      ab = derived.complete bytes_ab (record { file = file_ab; spells = refl; holds = holds-AB });
    }
