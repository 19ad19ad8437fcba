-- The examples that the user marked M, "The desk's examples", computed on the definitions: whole links and asks on assembled sets, rows of
-- one theorem. Assumes nothing.
use mathlib.Core.Path.{◌≡◌, refl}
use mathlib.Core.List.{List, [], ◌∷◌}
use Prim.Native.Nat.{ℕ}
use lib.ListN.{replicate}
use Rattle.descriptor.specs.Bytes.{text}
use Rattle.descriptor.specs.Words.{argument_answer, counted, refused}
use Rattle.linking.proofs.Assemble.{Lent, Call, Member, method, field, built, interface, generated, compiled, implementing, slot, abi, worded, lent, link, ask, answers, after, indices_of, words_of, table_of}
use Rattle.linking.proofs.Opened.{opened}

-- ---- fields

-- fields a, b, c with the descriptors I, J, I and these indices
abbrev pub three : ℕ → ℕ → ℕ → List Member
three i j k = field "a" "I" i ∷ field "b" "J" j ∷ field "c" "I" k ∷ []

-- a class of these fields, under a class of 3 instance words; and alone, with an ABI entry that gives 3 instance words
abbrev pub under_three : Lent
under_three = lent (generated "P" 0 [] [] 3 ∷ built "C" 1 [] (three 0 0 0) ∷ []) []

abbrev pub given-three : Lent
given-three = lent (built "C" 0 [] (three 0 0 0) ∷ []) (worded 3 (abi "C" [] []) ∷ [])

-- a generated class of these fields with the total
abbrev pub generated-of : ℕ → List Member → Lent
generated-of total fields = lent (generated "G" 0 [] fields total ∷ []) []

-- ---- tables

-- "P (built) has ABI foo `()V` at 3 and no methods; Q generated under it": "Q declares foo, target 9000, compiler slots 0, 0, 0, 0, 0,
-- 9000"; and a built child of Q that declares foo
abbrev pub compiler-slot : Lent
compiler-slot =
    lent
    (built "P" 0 [] []
    ∷ compiled "Q" 1 (method "foo" 9000 ∷ []) (0 ∷ 0 ∷ 0 ∷ 0 ∷ 0 ∷ 9000 ∷ [])
    ∷ built "R" 2 (method "foo" 9100 ∷ []) []
    ∷ [])
    (abi "P" (slot "foo" 3 ∷ []) [] ∷ [])

-- an interface of one method, and a class of two that implements it
abbrev pub interface-class : Lent
interface-class =
    lent
    (interface "I" (method "run" 100 ∷ [])
    ∷ implementing (1 ∷ []) (built "C" 0 (method "run" 200 ∷ method "stop" 216 ∷ []) [])
    ∷ [])
    []

abbrev pub both : List Call
both = link 1 ∷ link 2 ∷ []

abbrev pub all_three : List Call
all_three = link 1 ∷ link 2 ∷ link 3 ∷ []

abbrev pub linked-and-asked : List Call
linked-and-asked = link 1 ∷ link 2 ∷ ask 2 1 ∷ []

-- answers are the refusal, 0 for none, then place and slots of a link, place and nodes of an ask
pub record Marked : Type 0 where
  -- "parent words 3, fields I, J, I: 3, 4, 6; words 7"
  pub parent-words : answers under_three both ≡ (0, 1, 0) ∷ (0, 3, 0) ∷ []
  pub parent-words-indices : indices_of 2 (after under_three both) ≡ 3 ∷ 4 ∷ 6 ∷ []
  pub parent_words_total : words_of 2 (after under_three both) ≡ 7
  -- "ABI words 3, runtime words 0: 4294967295, 4294967294, 4294967292; words 3"
  pub abi-words : answers given-three (link 1 ∷ []) ≡ (0, 1, 0) ∷ []
  pub abi-words-indices : indices_of 1 (after given-three (link 1 ∷ [])) ≡ 4294967295 ∷ 4294967294 ∷ 4294967292 ∷ []
  pub abi_words_total : words_of 1 (after given-three (link 1 ∷ [])) ≡ 3
  -- "total 7, indices 0, 1, 3 become 3, 4, 6"
  pub relative : answers (generated-of 7 (three 0 1 3)) (link 1 ∷ []) ≡ (0, 1, 0) ∷ []
  pub relative-indices : indices_of 1 (after (generated-of 7 (three 0 1 3)) (link 1 ∷ [])) ≡ 3 ∷ 4 ∷ 6 ∷ []
  -- "0, 4, 6: refusal 9", "total 3: refusal 8"; "unchanged lent memory"
  pub mixed : answers (generated-of 7 (three 0 4 6)) (link 1 ∷ []) ≡ (9, 0, 0) ∷ []
  pub mixed_unchanged : after (generated-of 7 (three 0 4 6)) (link 1 ∷ []) ≡ generated-of 7 (three 0 4 6)
  pub short_total : answers (generated-of 3 (three 0 1 3)) (link 1 ∷ []) ≡ (8, 0, 0) ∷ []
  pub short_total_unchanged : after (generated-of 3 (three 0 1 3)) (link 1 ∷ []) ≡ generated-of 3 (three 0 1 3)
  -- "`(IJ)V` instance: 4 argument words; static: 3", "`(V)V`: 5"
  pub instance-arguments : argument_answer (text "(IJ)V") 1 ≡ counted 4
  pub static-arguments : argument_answer (text "(IJ)V") 9 ≡ counted 3
  pub void_argument : argument_answer (text "(V)V") 1 ≡ refused
  -- "Q declares foo, target 9000, compiler slots 0, 0, 0, 0, 0, 9000; built child declares foo: 11"
  pub compiler_slots : answers compiler-slot all_three ≡ (0, 1, 4) ∷ (0, 7, 6) ∷ (11, 0, 0) ∷ []
  pub compiler-table : table_of 2 (after compiler-slot both) ≡ 901 ∷ 902 ∷ 903 ∷ 904 ∷ 905 ∷ 9000 ∷ []
  pub child_unchanged : after compiler-slot all_three ≡ after compiler-slot both
  -- "fresh area; interface 1, one slot, at 1; class 2, two slots, at 4; ask: place 9, nodes 0, next free 11. Again: 9, nodes 1."
  pub asked : answers interface-class (link 1 ∷ link 2 ∷ ask 2 1 ∷ ask 2 1 ∷ []) ≡ (0, 1, 1) ∷ (0, 4, 2) ∷ (0, 9, 0) ∷ (0, 9, 1) ∷ []
  pub asked-area : (after interface-class linked-and-asked).area
      ≡ 11 ∷ 1 ∷ 100 ∷ 0 ∷ 2 ∷ 200 ∷ 216 ∷ 8 ∷ 0 ∷ 1 ∷ 200 ∷ replicate 13 0

pub marked : Marked
unfolding opened
marked =
    record {
      parent-words = refl;
      parent-words-indices = refl;
      parent_words_total = refl;
      abi-words = refl;
      abi-words-indices = refl;
      abi_words_total = refl;
      relative = refl;
      relative-indices = refl;
      mixed = refl;
      mixed_unchanged = refl;
      short_total = refl;
      short_total_unchanged = refl;
      instance-arguments = refl;
      static-arguments = refl;
      void_argument = refl;
      compiler_slots = refl;
      compiler-table = refl;
      child_unchanged = refl;
      asked = refl;
      asked-area = refl;
    }
