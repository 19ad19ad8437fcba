-- Laws of the ABI fields that are added to a class: which are, how far they raise the running word, and their records. Assumes nothing.
use Rattle.std.proofs.Common.{◌≡◌, ℕ, ◌+◌, ◌<◌, ◌≤◌, max, Bool, true, false, not, List, [], ◌∷◌, ◌++◌, length, take, refl, sym, ◌∙◌, append_assoc, append-nil, length-append, arith}
use Rattle.words.specs.Lists.{numbers, fold, keep}
use Rattle.std.specs.Prelude.{Option, Some, None}
use Rattle.words.proofs.Bools.{by}
use Rattle.words.proofs.ListLaws.{push_room, length-list-from, rest_from, rest-start, rest-turn, rest_end}
use Rattle.abi_sheet.specs.AbiSheet.{abi_class_first_field, abi_class_field_count, abi_field_limit, abi_field_descriptor}
use Rattle.descriptor.specs.Words.{width}
use Rattle.linking.specs.Chain.{list_count}
use Rattle.linking.specs.Abi.{abi_fields, fixed_field_index}
use Rattle.linking.specs.Fields.{declares_field, added_fields, raised}
use Rattle.linking.specs.Link.{new_fields_of}
use Rattle.growth.specs.declared.news.Member.{Member}
use Rattle.growth.specs.declared.news.Named.TheVariants.{Field}
use Rattle.growth.specs.News.{ref_name, ref_descriptor, new_of, news_of}
use Rattle.field.specs.Numbers.{undeclared, field_member, members_of}

-- ---- lists of them, one after the other

module _ (abi : List ℕ) where
  members-append : (xs ys : List ℕ) → members_of abi (xs ++ ys) ≡ members_of abi xs ++ members_of abi ys
  unfolding members_of
  members-append [] ys = refl
  members-append (x ∷ xs) ys = rw (members-append xs ys)

  members-none : members_of abi [] ≡ []
  unfolding members_of
  members-none = refl

module _ (abi labels : List ℕ) where
  raised-append : (w : ℕ) (xs ys : List ℕ) → raised abi labels w (xs ++ ys) ≡ raised abi labels (raised abi labels w xs) ys
  unfolding raised fold
  raised-append w [] ys = refl
  raised-append w (x ∷ xs) ys = raised-append (max w (fixed_field_index abi x + width (abi_field_descriptor abi labels x))) xs ys

  raised-none : (w : ℕ) → w ≡ raised abi labels w []
  unfolding raised fold
  raised-none w = refl

module _ (ws text abi labels : List ℕ) (c : ℕ) where
  -- ---- one that the class matches or that is added

  module _ (g : ℕ) {b : Bool} (e : b ≡ declares_field ws text abi labels c g) where
    pub field_matched : (ms : List Member) → b ≡ true → ms ≡ ms ++ members_of abi (undeclared ws text abi labels c g)
    unfolding members_of
    field_matched ms t = rw (← e, t) (sym (append-nil ms))

    pub word_matched : (w : ℕ) → b ≡ true → w ≡ raised abi labels w (undeclared ws text abi labels c g)
    unfolding raised fold
    word_matched w t = rw (← e, t)

    pub field_added : (ms : List Member) {v : ℕ} {ns : List Member} → b ≡ false → length ms < 1024 → v ≡ fixed_field_index abi g
        → ns ≡ take 1024 (ms ++ record { names = Field g; flags = 2; last = v } ∷ []) → ns ≡ ms ++ members_of abi (undeclared ws text abi labels c g)
    unfolding members_of
    field_added ms f h q k = k ∙ rw (← e, f, q) (push_room 1024 ms (field_member abi g) h)

    pub word_added : (w : ℕ) {v : ℕ} → b ≡ false → v ≡ fixed_field_index abi g + width (abi_field_descriptor abi labels g)
        → max w v ≡ raised abi labels w (undeclared ws text abi labels c g)
    unfolding raised fold
    word_added w f q = rw (← e, f, q)

  few-more : (g : ℕ) → length (members_of abi (undeclared ws text abi labels c g)) ≤ 1
  unfolding members_of
  few-more g = by (declares_field ws text abi labels c g) (λ t. rw t (omega arith)) (λ t. rw t (omega arith))

  -- ---- all: those of the n fields from m on that are still to come at turn i

  unfoldable pub to_add : ℕ → ℕ → ℕ → List ℕ
  to_add m n i = keep (λ g. not (declares_field ws text abi labels c g)) (rest_from (λ j. j) m n i)

  to-add-turn : (m n i : ℕ) → i < n → to_add m n i ≡ undeclared ws text abi labels c (m + i) ++ to_add m n (i + 1)
  unfolding to_add keep
  to-add-turn m n i h =
      rw (rest-turn (λ (j : ℕ). j) m n i h) (by (declares_field ws text abi labels c (m + i)) (λ t. rw t) (λ t. rw t))

  to-add-end : (m n i : ℕ) → n ≤ i → to_add m n i ≡ []
  unfolding to_add keep
  to-add-end m n i h = rw (rest_end (λ (j : ℕ). j) m n i h)

  module _ (a : ℕ) {m n : ℕ} (e : m ≡ abi_class_first_field abi a)
      (f : n ≡ list_count (abi_class_first_field abi a) (abi_class_field_count abi a) abi_field_limit) where
    to-add-start : to_add m n 0 ≡ added_fields ws text abi labels (Some a) c
    unfolding to_add added_fields abi_fields declares_field
    to-add-start = rw (rest-start (λ (j : ℕ). j) m n, f, e)

    pub members-start : {ms : List Member} → ms ≡ [] → ms ++ members_of abi (to_add m n 0) ≡ members_of abi (added_fields ws text abi labels (Some a) c)
    members-start g = rw (g, to-add-start)

    pub word-start : (w : ℕ) → raised abi labels w (to_add m n 0) ≡ raised abi labels w (added_fields ws text abi labels (Some a) c)
    word-start w = rw to-add-start

  pub members-turn : (m n i : ℕ) (ms : List Member) {ns : List Member} → i < n → ns ≡ ms ++ members_of abi (undeclared ws text abi labels c (m + i))
      → ns ++ members_of abi (to_add m n (i + 1)) ≡ ms ++ members_of abi (to_add m n i)
  members-turn m n i ms h e =
      rw (e, to-add-turn m n i h, members-append abi (undeclared ws text abi labels c (m + i)) (to_add m n (i + 1)))
      (append_assoc ms (members_of abi (undeclared ws text abi labels c (m + i))) (members_of abi (to_add m n (i + 1))))

  pub word-turn : (m n i w : ℕ) {v : ℕ} → i < n → v ≡ raised abi labels w (undeclared ws text abi labels c (m + i))
      → raised abi labels v (to_add m n (i + 1)) ≡ raised abi labels w (to_add m n i)
  word-turn m n i w h e =
      rw (e, to-add-turn m n i h) (sym (raised-append abi labels w (undeclared ws text abi labels c (m + i)) (to_add m n (i + 1))))

  pub few-turn : (g i : ℕ) (ms : List Member) {ns : List Member} → length ms ≤ i → ns ≡ ms ++ members_of abi (undeclared ws text abi labels c g)
      → length ns ≤ i + 1
  few-turn g i ms h e = rw e (omega (arith, length-append ms (members_of abi (undeclared ws text abi labels c g)), few-more g))

  pub members-end : (m n i : ℕ) (ms : List Member) → n ≤ i → ms ≡ ms ++ members_of abi (to_add m n i)
  members-end m n i ms h = rw (to-add-end m n i h, members-none abi) (sym (append-nil ms))

  pub word-end : (m n i w : ℕ) → n ≤ i → w ≡ raised abi labels w (to_add m n i)
  word-end m n i w h = rw (to-add-end m n i h) (raised-none abi labels w)

  -- ---- a sheet has no more than 256 of them

  length-keep : (p : ℕ → Bool) (xs : List ℕ) → length (keep p xs) ≤ length xs
  unfolding keep
  length-keep p [] = omega arith
  length-keep p (x ∷ xs) =
      let h = length-keep p xs in by (p x) (λ t. rw t (omega arith)) (λ t. rw t (omega arith))

  pub added-few : (own : Option ℕ) → length (added_fields ws text abi labels own c) ≤ abi_field_limit
  unfolding added_fields abi_fields
  added-few (Some a) =
      let m = abi_class_first_field abi a in
      let n = list_count (abi_class_first_field abi a) (abi_class_field_count abi a) abi_field_limit in
      omega (arith, length-keep (λ g. not (declares_field ws text abi labels c g)) (numbers m n), length-list-from (λ (j : ℕ). j) m n)
  added-few None = omega arith

-- ---- what their records stand for

module _ (ws text abi labels : List ℕ) where
  pub members_are : (gs : List ℕ) → news_of ws text abi labels (members_of abi gs) ≡ new_fields_of abi labels gs
  unfolding members_of news_of new_of ref_name ref_descriptor new_fields_of
  members_are [] = refl
  members_are (g ∷ gs) =
      rw (members_are gs) refl
