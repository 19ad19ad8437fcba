-- Laws of the plans of each kind of class: what the code has of its fields and its table is what the definition says. Assumes nothing.
use mathlib.Core.Path.{◌≡◌, refl, ap, ◌∙◌}
use mathlib.Core.Bool.{Bool, true, false}
use mathlib.Core.Logic.{◌≢◌}
use mathlib.Core.List.{List, []}
use Prim.Native.Nat.{ℕ, ◌≤◌, ◌<◌}
use native.Mathlib.Omega.{arith}
use lib.ListN.{length}
use lib.Dec.{eqb, ltb}
use borrow.Author.Tests.{lt-ltb, le-ltb, ne_eqb}
use Rattle.words.proofs.Bools.{by}
use Rattle.class_sheet.specs.ClassSheet.{class_kind, is_built_kind}
use Rattle.linking.specs.Signature.{Same}
use Rattle.linking.specs.Vtable.{Entry, Built, built, refused, parent_entries}
use Rattle.linking.specs.Abi.{class_abi}
use Rattle.linking.specs.Compiler.{New, Taken, members}
use Rattle.linking.specs.Fields.{number_fields, built_words, generated_refusal, generated_indices}
use Rattle.linking.specs.Link as L
use Rattle.reading.specs.Arrays.{entries_of}
use Rattle.reading.proofs.ArrayLaws.{length-entries}
use Rattle.field.specs.Numbers.{added_to, members_of, numbering_of, no_fields, with_fields, built_fields, generated_fields}
use Rattle.field.specs.declared.Numbered.{Numbered}
use Rattle.field.proofs.OutcomeLaws.{built-accepted, built-refused, generated-accepted, generated-refused}
use Rattle.field.proofs.AddedLaws.{members_are}
use Rattle.growth.specs.declared.news.Member.{Member}
use Rattle.growth.specs.News.{added_of}
use Rattle.growth.proofs.NewsLaws.{added_none, members-added}
use Rattle.std.specs.Prelude.{Result, Ok, Err}
use Rattle.refusal.specs.declared.Refusal.{Refusal}
use Rattle.refusal.specs.Rows.{row}
use Rattle.refusal.proofs.Rows.{row_above}
use Rattle.vtable.specs.Tables.{step_of}
use Rattle.plan.specs.Plans.{few_slots, methods_of, fields_of, Planning}

-- ---- row 13

pub few_many : (ts ms : List ℕ) (n : ℕ) → 1024 < n → refused 13 ≡ few_slots (built (entries_of ts ms n))
few_many ts ms n h = rw (length-entries ts ms n, lt-ltb 1024 n h)

pub few_left : (ts ms : List ℕ) (n : ℕ) → n ≤ 1024 → built (entries_of ts ms n) ≡ few_slots (built (entries_of ts ms n))
few_left ts ms n h = rw (length-entries ts ms n, le-ltb 1024 n h)

-- a table that it does not refuse
few-passes : (T : List Entry) → built T ≡ few_slots (built T) → ltb 1024 (length T) ≡ false
few-passes T e =
    by (ltb 1024 (length T))
    (λ l. let f : built T ≡ refused 13 = rw l at e in cc)
    (λ l. l)

-- a table that it refuses, or that has a row of its own
table-stops : (m : ℕ) (B : Built) (is : List ℕ) (ms : List Taken) (fs : List New) → refused m ≡ few_slots B
    → L.on_table B (λ T. L.within_slots (record { table = T; indices = is; added = ms; new_fields = fs })) ≡ L.unplanned m
unfolding L.within_slots
table-stops m (built T) is ms fs e =
    by (ltb 1024 (length T))
    (λ l. let f : refused m ≡ refused 13 = rw l at e in let g : m ≡ 13 = cc in rw (l, g))
    (λ l. let f : refused m ≡ built T = rw l at e in cc)
table-stops m (refused n) is ms fs e = let g : m ≡ n = cc in rw g

pub row_first : {m : ℕ} {B : Built} → refused m ≡ B → refused m ≡ few_slots B
row_first e = rw (← e)

pub row_then : {m : ℕ} {T : List Entry} {B : Built} → built T ≡ B → refused m ≡ few_slots (built T) → refused m ≡ few_slots B
row_then {T = T} {B = B} e h = h ∙ ap (λ (x : Built). few_slots x) {x = built T} {y = B} e

-- ---- the answer, the table and the new members of a plan

module _ (ws : List ℕ) (c words : ℕ) (T : List Entry) (new : List Taken) where
  refused-plan : (refusal : Refusal) {P : L.Planned} → P ≡ L.unplanned (row refusal) → Planning ws c words P (Err refusal) T new
  refused-plan refusal f = rw f (record { answer = refl; filled = (let a = row_above refusal in λ z. omega arith) })

  accepted-plan : (p : L.Plan) (f : Numbered) {P : L.Planned} → P ≡ L.planned p → f ≡ numbering_of p.indices words → T ≡ p.table
      → p.added ≡ methods_of ws c new → p.new_fields ≡ fields_of ws c new → Planning ws c words P (Ok f) T new
  accepted-plan p f e k t m l = rw e (record { answer = rw k; filled = (t, m, l) })

module _ (same : Same) (ws text abi labels area : List ℕ) (c : ℕ) where
  -- ---- a built class

  pub built-row : (words : ℕ) (T : List Entry) (new : List Taken) (refusal : Refusal)
      → ◌≡◌ {A = Result Numbered ℕ} (Err (row refusal)) (built_fields ws text abi labels c)
      → Planning ws c words (L.plan_built same ws text abi labels area c) (Err refusal) T new
  unfolding L.plan_built
  built-row words T new refusal numbers =
      let p = built-refused ws text abi labels c numbers in
      refused-plan ws c words T new refusal (rw (p.1, p.0))

  module _ (f : Numbered) (numbers : ◌≡◌ {A = Result Numbered ℕ} (Ok f) (built_fields ws text abi labels c)) where
    abbrev gs : List ℕ
    gs = added_to ws text abi labels c

    pub built-stops : (words : ℕ) (T : List Entry) (new : List Taken) (refusal : Refusal)
        → refused (row refusal) ≡ few_slots (L.built_table same ws text abi labels area c)
        → Planning ws c words (L.plan_built same ws text abi labels area c) (Err refusal) T new
    unfolding L.plan_built
    built-stops words T new refusal table =
        refused-plan ws c words T new refusal
        (rw (built-accepted ws text abi labels c numbers).0 (table-stops (row refusal) (L.built_table same ws text abi labels area c) _ _ _ table))

    module _ (T : List Entry) (table : built T ≡ L.built_table same ws text abi labels area c) (few : built T ≡ few_slots (built T)) where
      abbrev plan-of : L.Plan
      plan-of =
          record {
            table = T;
            indices = (number_fields ws text abi labels (class_abi ws text abi labels c) c).indices;
            added = [];
            new_fields = L.new_fields_of abi labels gs;
          }

      built-passes : L.plan_built same ws text abi labels area c ≡ L.planned plan-of
      unfolding L.plan_built L.within_slots
      built-passes = rw ((built-accepted ws text abi labels c numbers).0, ← table, few-passes T few)

      built-words : is_built_kind (class_kind ws c) ≡ true
          → L.new_words ws text abi labels c ≡ built_words ws text abi labels (class_abi ws text abi labels c) c
      unfolding L.new_words
      built-words k = rw k

      pub built-plan : {ms : List Member} → is_built_kind (class_kind ws c) ≡ true → ms ≡ members_of abi gs
          → Planning ws c (L.new_words ws text abi labels c) (L.plan_built same ws text abi labels area c) (Ok f) T (added_of ws text abi labels ms)
      built-plan {ms = ms} kind e =
          let m : members (added_of ws text abi labels ms) ≡ L.new_fields_of abi labels gs =
          members-added ws text abi labels ms ∙ rw e (members_are ws text abi labels gs) in
          accepted-plan ws c (L.new_words ws text abi labels c) T (added_of ws text abi labels ms) plan-of f built-passes
          (rw (built-words kind) (built-accepted ws text abi labels c numbers).1) refl (rw kind) (rw (kind, m))

    -- row 13 of its table refuses, or the plan stands
    pub built-done : (T : List Entry) (r : Result (Unit {0}) Refusal) {ms : List Member} → built T ≡ L.built_table same ws text abi labels area c
        → step_of r T ≡ few_slots (built T) → is_built_kind (class_kind ws c) ≡ true → ms ≡ members_of abi gs
        → Planning ws c (L.new_words ws text abi labels c) (L.plan_built same ws text abi labels area c) (with_fields r f) T (added_of ws text abi labels ms)
    built-done T (Ok u) table few kind e = built-plan T table few kind e
    built-done T (Err refusal) table few kind e = built-stops _ T _ refusal (row_then table few)

  -- ---- a class that gets no instance words

  no_words : is_built_kind (class_kind ws c) ≡ false → L.new_words ws text abi labels c ≡ 0
  unfolding L.new_words
  no_words h = rw h

  -- ---- an array class

  pub array_plan : (ps qs : List ℕ) (n : ℕ) {ms : List Member} → is_built_kind (class_kind ws c) ≡ false → n ≤ 1024
      → entries_of ps qs n ≡ parent_entries same ws text abi labels area c → ms ≡ []
      → Planning ws c (L.new_words ws text abi labels c) (L.plan_array same ws text abi labels area c)
      (Ok no_fields) (entries_of ps qs n) (added_of ws text abi labels ms)
  unfolding L.plan_array L.within_slots
  array_plan ps qs n {ms = ms} kind few table none =
      let m : added_of ws text abi labels ms ≡ [] = rw none (added_none ws text abi labels) in
      rw (no_words kind, m)
      (accepted-plan ws c 0 (entries_of ps qs n) []
      (record { table = parent_entries same ws text abi labels area c; indices = []; added = []; new_fields = [] })
      no_fields
      (rw (← table, length-entries ps qs n, le-ltb 1024 n few)) refl table (rw kind) (rw kind))

  -- ---- a generated class

  pub generated-row : (words : ℕ) (T : List Entry) (new : List Taken) (refusal : Refusal)
      → ◌≡◌ {A = Result Numbered ℕ} (Err (row refusal)) (generated_fields ws text c)
      → Planning ws c words (L.plan_generated same ws text abi labels area c) (Err refusal) T new
  unfolding L.plan_generated
  generated-row words T new refusal numbers =
      let p = generated-refused ws text c numbers in
      let a = row_above refusal in
      let n : generated_refusal ws text c ≢ 0 = (λ z. omega arith) in
      refused-plan ws c words T new refusal (rw p (simp (ne_eqb (generated_refusal ws text c) 0 n)))

  module _ (f : Numbered) (numbers : ◌≡◌ {A = Result Numbered ℕ} (Ok f) (generated_fields ws text c)) where
    pub generated-stops : (words : ℕ) (T : List Entry) (new : List Taken) (refusal : Refusal)
        → refused (row refusal) ≡ few_slots (L.generated_table same ws text abi labels area c)
        → Planning ws c words (L.plan_generated same ws text abi labels area c) (Err refusal) T new
    unfolding L.plan_generated
    generated-stops words T new refusal table =
        refused-plan ws c words T new refusal
        (rw (generated-accepted ws text c numbers).0 (table-stops (row refusal) (L.generated_table same ws text abi labels area c) _ _ _ table))

    module _ (T : List Entry) (table : built T ≡ L.generated_table same ws text abi labels area c) (few : built T ≡ few_slots (built T)) where
      abbrev made_of : L.Plan
      made_of =
          record {
            table = T;
            indices = generated_indices ws text c;
            added = L.generated_methods same ws text abi labels area c;
            new_fields = [];
          }

      generated-passes : L.plan_generated same ws text abi labels area c ≡ L.planned made_of
      unfolding L.plan_generated L.within_slots
      generated-passes = rw ((generated-accepted ws text c numbers).0, ← table, few-passes T few)

      pub generated-plan : {new : List Taken} → is_built_kind (class_kind ws c) ≡ false → new ≡ L.generated_methods same ws text abi labels area c
          → Planning ws c (L.new_words ws text abi labels c) (L.plan_generated same ws text abi labels area c) (Ok f) T new
      generated-plan {new = new} kind e =
          rw (no_words kind)
          (accepted-plan ws c 0 T new made_of f generated-passes (generated-accepted ws text c numbers).1 refl
          (rw (kind, e)) (rw kind))

    -- row 13 of its table refuses, or the plan stands
    pub generated-done : (T : List Entry) (r : Result (Unit {0}) Refusal) {new : List Taken} → built T ≡ L.generated_table same ws text abi labels area c
        → step_of r T ≡ few_slots (built T) → is_built_kind (class_kind ws c) ≡ false → new ≡ L.generated_methods same ws text abi labels area c
        → Planning ws c (L.new_words ws text abi labels c) (L.plan_generated same ws text abi labels area c) (with_fields r f) T new
    generated-done T (Ok u) table few kind e = generated-plan T table few kind e
    generated-done T (Err refusal) table few kind e = generated-stops _ T _ refusal (row_then table few)

  -- ---- by the kind

  pub kind_built : {b : Bool} {r : Result Numbered Refusal} {T : List Entry} {new : List Taken} {words : ℕ} → b ≡ is_built_kind (class_kind ws c) → b ≡ true
      → Planning ws c words (L.plan_built same ws text abi labels area c) r T new → Planning ws c words (L.plan same ws text abi labels area c) r T new
  unfolding L.plan
  kind_built e h p = rw (← e, h) p

  pub kind_generated : {b d : Bool} {r : Result Numbered Refusal} {T : List Entry} {new : List Taken} {words : ℕ} → b ≡ is_built_kind (class_kind ws c)
      → b ≡ false → d ≡ eqb (class_kind ws c) 1 → d ≡ true
      → Planning ws c words (L.plan_generated same ws text abi labels area c) r T new → Planning ws c words (L.plan same ws text abi labels area c) r T new
  unfolding L.plan
  kind_generated e h f k p = rw (← e, h, ← f, k) p

  pub kind_array : {b d : Bool} {r : Result Numbered Refusal} {T : List Entry} {new : List Taken} {words : ℕ} → b ≡ is_built_kind (class_kind ws c)
      → b ≡ false → d ≡ eqb (class_kind ws c) 1 → d ≡ false
      → Planning ws c words (L.plan_array same ws text abi labels area c) r T new → Planning ws c words (L.plan same ws text abi labels area c) r T new
  unfolding L.plan
  kind_array e h f k p = rw (← e, h, ← f, k) p
