-- Laws of a built class's fields: what a field's index is, the indices of all, and what the fields come to. Assumes nothing.
use Rattle.std.proofs.Common.{◌≡◌, ℕ, suc, ◌+◌, ◌-◌, ◌<◌, ◌≤◌, true, false, ◌||◌, eqb, ltb, List, [], ◌∷◌, ◌++◌, ap, ◌∙◌, arith, max}
use Rattle.std.specs.Option.{option_and_then}
use Rattle.std.specs.Prelude.{Option, Result, Ok, Err}
use Rattle.words.proofs.Bools.{by}
use Rattle.words.specs.Lists.{list_from, numbers, fold}
use Rattle.words.proofs.ListLaws.{by-found}
use Rattle.class_sheet.specs.ClassSheet.{class_first_field, class_field_count, field_name, field_descriptor, field_flags, field_limit}
use Rattle.linking.specs.Chain.{on_found, list_count, own_fields, is_static}
use Rattle.linking.specs.Abi.{fixed_field, given_words, class_abi}
use Rattle.linking.specs.Fields.{Numbering, number_field, number_fields, added_fields, raised, built_words, too_many_words}
use Rattle.field.specs.Numbers.{counting, first_numbering, given_or, fields_by, built_fields}
use Rattle.field.specs.declared.Counters.{Counters}
use Rattle.field.specs.declared.Numbered.{Numbered}

-- ---- all fields: what the numbering after turn i of the n fields from m on comes to

module _ (ws text abi labels : List ℕ) (own : Option ℕ) where
  -- an index goes after those before it
  abbrev after : List ℕ → Numbering → Numbering
  after xs n = record { indices = xs ++ n.indices; statics = n.statics; runtime = n.runtime; running = n.running }

  number-after : (xs : List ℕ) (k : Counters) (f : ℕ)
      → after xs (number_field ws text abi labels own (counting [] k) f) ≡ number_field ws text abi labels own (counting xs k) f
  unfolding number_field
  number-after xs k f =
      by (is_static (field_flags ws f)) (λ t. rw t)
      (λ t.
      rw t
      (by-found (option_and_then (fixed_field abi labels (field_name ws text f) (field_descriptor ws text f)) own) (λ g q. rw q)
      (λ q. rw q (by (eqb (on_found own (given_words abi) 0) 0) (λ z. rw z) (λ z. rw z)))))

  -- what is left at field f, of those below `end`
  unfoldable pub number_at : ℕ → List ℕ → Counters → ℕ → Numbering
  number_at end l k f = fold (number_field ws text abi labels own) (counting l k) (numbers f (end - f))

  pub number-start : (c : ℕ) (k : Counters) {l : List ℕ} {m n : ℕ} → m ≡ class_first_field ws c
      → n ≡ list_count (class_first_field ws c) (class_field_count ws c) field_limit → counting [] k ≡ first_numbering ws text c → l ≡ []
      → number_at (m + n) l k m ≡ number_fields ws text abi labels own c
  unfolding number_at number_fields first_numbering own_fields
  number-start c k {m = m} {n = n} e f h g = let z : m + n - m ≡ n = omega arith in rw (g, h, z, f, e)

  pub number-turn : (end f : ℕ) (l : List ℕ) (k r : Counters) {l' : List ℕ} {x : ℕ} → f < end
      → counting (x ∷ []) r ≡ number_field ws text abi labels own (counting [] k) f → l' ≡ l ++ (x ∷ [])
      → number_at end l' r (f + 1) ≡ number_at end l k f
  unfolding number_at fold list_from
  number-turn end f l k r h e g =
      let more : end - f ≡ suc (end - (f + 1)) = omega arith in
      let turn = ap (after l) e ∙ number-after l k f in rw (more, g, turn)

  pub number-end : (end f : ℕ) (l : List ℕ) (k : Counters) → end ≤ f → counting l k ≡ number_at end l k f
  unfolding number_at fold list_from
  number-end end f l k h = let z : end - f ≡ 0 = omega arith in rw z

-- field f's turn gives it index x, and makes r of the counters k, which stay small
pub record Turn (ws text abi labels : List ℕ) (own : Option ℕ) (f : ℕ) (k : Counters) (x : ℕ) (r : Counters) : Type 0 where
  pub is : counting (x ∷ []) r ≡ number_field ws text abi labels own (counting [] k) f
  pub statics : r.statics ≤ k.statics + 2
  pub runtime : r.runtime ≤ k.runtime + 2
  pub running : r.running ≤ max 4097 (k.running + 2)

-- ---- what the fields come to

module _ (ws text abi labels : List ℕ) (c : ℕ) (own : Option ℕ) (k : Counters) (l : List ℕ) (holds : counting l k ≡ number_fields ws text abi labels own c)
    {v : ℕ} (word : v ≡ raised abi labels k.running (added_fields ws text abi labels own c))
    {w : ℕ} (words : w ≡ given_or abi own v) where
  words_are : w ≡ built_words ws text abi labels own c
  unfolding built_words raised
  words_are =
      let e : k.running ≡ (number_fields ws text abi labels own c).running = ap (λ (n : Numbering). n.running) holds in
      rw (← e, ← word) words

  many_are : too_many_words ws text abi labels own c ≡ (ltb 65535 w || ltb 65535 k.runtime)
  unfolding too_many_words
  many_are =
      let e : k.runtime ≡ (number_fields ws text abi labels own c).runtime = ap (λ (n : Numbering). n.runtime) holds in
      rw (← words_are, ← e)

  pub row_10 : (ltb 65535 w || ltb 65535 k.runtime) ≡ true → ◌≡◌ {A = Result Numbered ℕ} (Err 10) (fields_by ws text abi labels own c)
  unfolding fields_by
  row_10 t = rw (many_are, t)

  pub built-is : (ltb 65535 w || ltb 65535 k.runtime) ≡ false
      → ◌≡◌ {A = Result Numbered ℕ} (Ok (record { indices = l; words = w })) (fields_by ws text abi labels own c)
  unfolding fields_by
  built-is t =
      let e : l ≡ (number_fields ws text abi labels own c).indices = ap (λ (n : Numbering). n.indices) holds in
      rw (many_are, t, ← words_are, ← e)

  -- by the class's own entry they are those of the class
  module _ (entry : own ≡ class_abi ws text abi labels c) where
    pub class_row_10 : (ltb 65535 w || ltb 65535 k.runtime) ≡ true → ◌≡◌ {A = Result Numbered ℕ} (Err 10) (built_fields ws text abi labels c)
    class_row_10 t = rw (← entry) (row_10 t)

    pub class_built : (ltb 65535 w || ltb 65535 k.runtime) ≡ false
        → ◌≡◌ {A = Result Numbered ℕ} (Ok (record { indices = l; words = w })) (built_fields ws text abi labels c)
    class_built t = rw (← entry) (built-is t)
