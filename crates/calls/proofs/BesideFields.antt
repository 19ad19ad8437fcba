-- Two sets in which some classes are alike (`Beside`): such a class's fields are numbered alike, the same ones are added, and the same rows refuse them.
-- Assumes nothing.
use mathlib.Core.Path.{◌≡◌, refl, ap}
use mathlib.Core.Logic.{◌≢◌}
use mathlib.Core.Bool.{cond, not, ◌&&◌}
use mathlib.Core.List.{List, [], ◌∷◌, Memᴰ}
use Prim.Native.Nat.{ℕ, ◌≤◌, max}
use native.Mathlib.Omega.{arith}
use lib.Dec.{eqb}
use borrow.Author.Tests.{eqb-false}
use Rattle.words.specs.Lists.{fold}
use Rattle.std.specs.Prelude.{Option, Some}
use Rattle.words.proofs.Bools.{by}
use Rattle.words.proofs.ListLaws.{by-found}
use Rattle.class_sheet.specs.ClassSheet.{instance_words_word, field_count_word, class_count, text_of, class_first_field, class_field_count, field_flags, field_name, field_descriptor, field_limit}
use Rattle.abi_sheet.specs.AbiSheet.{abi_text_of}
use Rattle.set_rules.specs.Valid.{IsClass}
use Rattle.linking.specs.Chain.{list_count, own_fields, parent_of, chain, is_static}
use Rattle.linking.specs.Abi.{abi_fields, field_is}
use Rattle.linking.specs.Fields.{runtime_end, own_runtime, runtime_words, instance_words, Numbering, number_field, number_fields, declares_field, added_fields, raised, built_words, too_many_words, add_static, static_words, add_width, declared_words, stand_from, generated_base, generated_refusal, moved_index, indices_plus, generated_indices}
use Rattle.linking.proofs.ChainLaws.{parent-within, chain-within, chain_more}
use Rattle.linking.proofs.Pairs.{Pairs, none, pair, pairs-from, pairs-some, pairs-fold}
use Rattle.linking.proofs.RenumberedPackages.{keep-ext}
use Rattle.calls.proofs.Beside.{SameField, Sets, parent-same, chain_same}

fold-ext : {S : Type 0} (f g : S → ℕ → S) (xs : List ℕ) → ((s : S) (x : ℕ) → Memᴰ x xs → f s x ≡ g s x) → (s : S) → fold f s xs ≡ fold g s xs
unfolding fold
fold-ext f g [] h s = refl
fold-ext f g (x ∷ xs) h s = rw (h s x (Memᴰ.head refl)) (fold-ext f g xs (λ t y i. h t y (Memᴰ.tail i)) (g s x))

module _ (ws ws' abi : List ℕ) (E : ℕ → Type 0) (sets : Sets ws ws' abi E) where
  abbrev text : List ℕ
  text = text_of ws

  abbrev text' : List ℕ
  text' = text_of ws'

  abbrev labels : List ℕ
  labels = abi_text_of abi

  abbrev Field : ℕ → ℕ → Type 0
  Field = SameField ws ws' abi E

  own-fields : (d : ℕ) → IsClass ws d → E d → Pairs Field (own_fields ws d) (own_fields ws' d)
  unfolding own_fields
  own-fields d l e =
      let n : class_field_count ws d ≡ class_field_count ws' d =
      sets.word d field_count_word l e (omega arith) (record { method = omega arith; field = omega arith; place = omega arith }) in
      let v = (sets.valid.class d l).fields in
      let w = sets.valid.number_of_fields in
      let v' = (sets.valid'.class d (l.0, omega (arith, l.1, sets.classes))).fields in
      let w' = sets.valid'.number_of_fields in
      let a : list_count (class_first_field ws d) (class_field_count ws d) field_limit ≡ class_field_count ws d = omega arith in
      let b : list_count (class_first_field ws' d) (class_field_count ws' d) field_limit ≡ class_field_count ws d = omega arith in
      rw (a, b)
      (pairs-from (λ m. m) (λ m. m) (class_first_field ws d) (class_first_field ws' d) (class_field_count ws d) (λ j h. sets.field d j l e h))

  -- ---- runtime words

  runtime-end : (f g : ℕ) → Field f g → runtime_end ws text f ≡ runtime_end ws' text' g
  unfolding runtime_end
  runtime-end f g r = rw (r.flags, r.index, r.descriptor) refl

  own-runtime : (n d : ℕ) → IsClass ws d → E d → own_runtime ws text n d ≡ own_runtime ws' text' n d
  unfolding own_runtime
  own-runtime n d l e =
      pairs-fold (λ a b. a ≡ b) (λ k f. max k (runtime_end ws text f)) (λ k f. max k (runtime_end ws' text' f))
      (λ s t x y q r. rw (q, runtime-end x y r) refl) (own-fields d l e) refl

  runtime-words : (d : ℕ) → d ≤ class_count ws → ((e : ℕ) → Memᴰ e (chain ws d) → E e) → runtime_words ws text d ≡ runtime_words ws' text' d
  unfolding runtime_words
  runtime-words d a all =
      rw (← chain_same ws ws' abi E sets d a)
      (fold-ext (own_runtime ws text) (own_runtime ws' text') (chain ws d)
      (λ n e i. let b = chain-within ws d e i in own-runtime n e (omega arith, omega arith) (all e i)) 0)

  -- ---- a built class

  number-field : (own : Option ℕ) (n : Numbering) (f g : ℕ) → Field f g → number_field ws text abi labels own n f ≡ number_field ws' text' abi labels own n g
  unfolding number_field
  number-field own n f g r = rw (r.flags, r.name, r.descriptor) refl

  module _ (d : ℕ) (l : IsClass ws d) (here : E d) where
    above : (e : ℕ) → Memᴰ e (chain ws (parent_of ws d)) → E e
    above e i = sets.up d e l here (rw (chain_more ws d l.0) (Memᴰ.tail i))

    parent-words : parent_of ws d ≢ 0 → instance_words ws (parent_of ws d) ≡ instance_words ws' (parent_of ws d)
    parent-words n =
        let w = parent-within ws d in
        let e = above (parent_of ws d) (rw (chain_more ws (parent_of ws d) (omega arith)) (Memᴰ.head refl)) in
        rw (sets.word (parent_of ws d) instance_words_word (omega arith, omega (arith, l.1)) e (omega arith)
        (record { method = omega arith; field = omega arith; place = omega arith })) refl

    running-same : cond (eqb (parent_of ws d) 0) 0 (instance_words ws (parent_of ws d))
        ≡ cond (eqb (parent_of ws' d) 0) 0 (instance_words ws' (parent_of ws' d))
    running-same =
        rw (← parent-same ws ws' abi E sets d l)
        (by (eqb (parent_of ws d) 0) (λ t. rw t refl) (λ t. rw t (parent-words (eqb-false (parent_of ws d) 0 t))))

    above-runtime : runtime_words ws text (parent_of ws d) ≡ runtime_words ws' text' (parent_of ws' d)
    above-runtime =
        let w = parent-within ws d in
        rw (← parent-same ws ws' abi E sets d l) (runtime-words (parent_of ws d) (omega (arith, l.1)) above)

    pub number-fields : (own : Option ℕ) → number_fields ws text abi labels own d ≡ number_fields ws' text' abi labels own d
    unfolding number_fields
    number-fields own =
        pairs-fold (λ a b. a ≡ b) (number_field ws text abi labels own) (number_field ws' text' abi labels own)
        (λ s t x y q r. rw q (number-field own t x y r)) (own-fields d l here) (rw (above-runtime, running-same) refl)

    declares_same : (own : Option ℕ) (g : ℕ) → declares_field ws text abi labels d g ≡ declares_field ws' text' abi labels d g
    unfolding declares_field
    declares_same own g =
        pairs-some (λ f. not (is_static (field_flags ws f)) && field_is abi labels g (field_name ws text f) (field_descriptor ws text f))
        (λ f. not (is_static (field_flags ws' f)) && field_is abi labels g (field_name ws' text' f) (field_descriptor ws' text' f))
        (λ f h r. rw (r.flags, r.name, r.descriptor) refl) (own-fields d l here)

    pub added-fields : (own : Option ℕ) → added_fields ws text abi labels own d ≡ added_fields ws' text' abi labels own d
    unfolding added_fields
    added-fields own =
        by-found own
        (λ a e. rw e (keep-ext (λ g. not (declares_field ws text abi labels d g)) (λ g. not (declares_field ws' text' abi labels d g))
        (abi_fields abi a) (λ g i. ap not (declares_same (Some a) g))))
        (λ e. rw e refl)

    pub built-words : (own : Option ℕ) → built_words ws text abi labels own d ≡ built_words ws' text' abi labels own d
    unfolding built_words raised
    built-words own = rw (number-fields own, added-fields own) refl

    pub too_many : (own : Option ℕ) → too_many_words ws text abi labels own d ≡ too_many_words ws' text' abi labels own d
    unfolding too_many_words
    too_many own = rw (built-words own, number-fields own) refl

    pub static-words : static_words ws text d ≡ static_words ws' text' d
    unfolding static_words add_static
    static-words =
        pairs-fold (λ a b. a ≡ b) (add_static ws text) (add_static ws' text') (λ s t x y q r. rw (q, r.flags, r.descriptor) refl) (own-fields d l here) refl

    -- ---- a generated class

    add-width : (n f g : ℕ) → Field f g → add_width ws text n f ≡ add_width ws' text' n g
    unfolding add_width
    add-width n f g r = rw (r.flags, r.descriptor) refl

    declared-words : declared_words ws text d ≡ declared_words ws' text' d
    unfolding declared_words
    declared-words = pairs-fold (λ a b. a ≡ b) (add_width ws text) (add_width ws' text') (λ s t x y q r. rw q (add-width t x y r)) (own-fields d l here) refl

    own-words : instance_words ws d ≡ instance_words ws' d
    own-words =
        rw (sets.word d instance_words_word l here (omega arith) (record { method = omega arith; field = omega arith; place = omega arith })) refl

    stand-from : (at : ℕ) {fs gs : List ℕ} → Pairs Field fs gs → stand_from ws text at fs ≡ stand_from ws' text' at gs
    unfolding stand_from
    stand-from at none = refl
    stand-from at (pair {x = f} {y = g} r h) = rw (r.flags, r.index, add-width at f g r, stand-from (add_width ws' text' at g) h) refl

    pub generated-refusal : generated_refusal ws text d ≡ generated_refusal ws' text' d
    unfolding generated_refusal
    generated-refusal =
        rw (own-words, declared-words, stand-from (generated_base ws' text' d) (own-fields d l here), stand-from 0 (own-fields d l here)) refl

    indices_plus_lem : (base : ℕ) {fs gs : List ℕ} → Pairs Field fs gs → indices_plus ws base fs ≡ indices_plus ws' base gs
    unfolding indices_plus moved_index
    indices_plus_lem base none = refl
    indices_plus_lem base (pair r h) = rw (r.flags, r.index, indices_plus_lem base h) refl

    pub generated-indices : generated_indices ws text d ≡ generated_indices ws' text' d
    unfolding generated_indices
    generated-indices =
        rw (own-words, declared-words, stand-from (generated_base ws' text' d) (own-fields d l here))
        (indices_plus_lem (cond (stand_from ws' text' (generated_base ws' text' d) (own_fields ws' d)) 0 (generated_base ws' text' d)) (own-fields d l here))
