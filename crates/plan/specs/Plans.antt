-- What a link comes to before anything is written, as the code has it. Assumes nothing.
use Rattle.std.specs.Prelude.{ℕ, cond, List, [], ◌≡◌, ◌≢◌, length, ltb, Result, Ok, Err}
use Rattle.class_sheet.specs.ClassSheet.{class_kind, is_built_kind}
use Rattle.linking.specs.Signature.{Same}
use Rattle.linking.specs.Vtable.{Entry, Built, built, refused}
use Rattle.linking.specs.Compiler.{New, Taken, members}
use Rattle.linking.specs.Link as L
use Rattle.refusal.specs.declared.Refusal.{Refusal}
use Rattle.field.specs.Numbers.{numbering_of, by_row, no_fields}
use Rattle.growth.specs.News.{added_of}
use Rattle.reading.specs.Tables.{entries}
use Rattle.plan.specs.declared.Plan.{Plan}
use Rattle.field.specs.declared.Numbered.{Numbered}

-- row 13: "more than 1,024 slots"
abbrev pub few_slots : Built → Built
few_slots (built T) = cond (ltb 1024 (length T)) (refused 13) (built T)
few_slots (refused n) = refused n

-- a built class adds fields, any other methods
abbrev pub methods_of : List ℕ → ℕ → List Taken → List Taken
methods_of ws c new = cond (is_built_kind (class_kind ws c)) [] new

abbrev pub fields_of : List ℕ → ℕ → List Taken → List New
fields_of ws c new = cond (is_built_kind (class_kind ws c)) (members new) []

-- what it answers of what a link comes to that gives the class so many instance words
abbrev pub answer_of : ℕ → L.Planned → Result Numbered ℕ
answer_of words (L.planned p) = Ok (numbering_of p.indices words)
answer_of words (L.unplanned row) = Err row

-- the table, and the members to add, fields of a built class or methods of another. Of a refused link they are any, and the row is not 0.
module _ (ws : List ℕ) (c : ℕ) (T : List Entry) (new : List Taken) where
  abbrev pub Filled : L.Planned → Type 0
  Filled (L.planned p) = (T ≡ p.table) × (p.added ≡ methods_of ws c new) × (p.new_fields ≡ fields_of ws c new)
  Filled (L.unplanned row) = row ≢ 0

-- the code's answer r, table and new members are those of a link that comes to P and gives so many instance words
pub record Planning (ws : List ℕ) (c words : ℕ) (P : L.Planned) (r : Result Numbered Refusal) (T : List Entry) (new : List Taken) : Type 0 where
  pub answer : by_row r ≡ answer_of words P
  pub filled : Filled ws c T new P

-- a plan by kind of class, over any comparison
abbrev pub ByKind : Type 0
ByKind = Same → List ℕ → List ℕ → List ℕ → List ℕ → List ℕ → ℕ → L.Planned

-- the same of what a definition says of class c, and the class's new instance words
abbrev pub Plans : ByKind → Same → List ℕ → List ℕ → List ℕ → List ℕ → List ℕ → ℕ → Result Numbered Refusal → List Entry → List Taken → Type 0
Plans of same ws text abi labels area c r T new =
    Planning ws c (L.new_words ws text abi labels c) (of same ws text abi labels area c) r T new

-- and of a plan that the code made
abbrev pub Leaves : ByKind → Same → List ℕ → List ℕ → List ℕ → List ℕ → List ℕ → ℕ → Result Numbered Refusal → Plan → Type 0
Leaves of same ws text abi labels area c r p = Plans of same ws text abi labels area c r (entries p.table) (added_of ws text abi labels p.news)

-- a plan of nothing: no slots, no indices, no members
pub record Nothing (p : Plan) : Type 0 where
  pub table : entries p.table ≡ []
  pub fields : p.fields ≡ no_fields
  pub news : p.news ≡ []
