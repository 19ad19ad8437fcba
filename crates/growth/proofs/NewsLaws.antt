-- Laws of new members: what names them, and lists of them a member at a time. Assumes nothing.
use mathlib.Core.Path.{◌≡◌, refl, sym, ap, ◌∙◌}
use mathlib.Core.List.{List, [], ◌∷◌, ◌++◌, append_assoc, append-nil}
use Prim.Native.Nat.{ℕ, zero, suc, ◌+◌, ◌*◌, ◌^◌, ◌≤◌, ◌<◌}
use native.Mathlib.Omega.{arith}
use native.Mathlib.Numerals.{add-one}
use lib.ListN.{length, get_or, take, drop, length-append, length-take}
use Rattle.std.specs.Prelude.{Option, Some, None, slice_get}
use Rattle.std.proofs.Common.{take-append-drop}
use Rattle.std.proofs.Math.Seq.{take-suc}
use Rattle.std.proofs.lemmas.List.{take_all}
use Rattle.text.specs.Text.{name_at}
use Rattle.class_sheet.specs.ClassSheet.{member_width, member_words}
use Rattle.class_sheet.specs.declared.MemberRecord.{MemberRecord}
use Rattle.linking.specs.Compiler.{New, Taken, members}
use Rattle.linking.specs.Set.{write_at, new_text, new_record, new_records}
use Rattle.growth.specs.declared.news.Member.{Member}
use Rattle.growth.specs.News.{ref_name, ref_descriptor, new_of, news_of, taken_of, added_of}
use Rattle.linking.proofs.Writes.{write-none, write-more}
use Rattle.words.proofs.ListLaws.{push_room}

-- ---- what names a member: parts no longer than a word can say

pub part_small : (text : List ℕ) (s n : ℕ) {p : List ℕ} → p ≡ name_at text s n → n < 2 ^ 32 → length p < 2 ^ 32
unfolding name_at
part_small text s n e h = rw e (omega (arith, length-take n (drop s text)))

-- ---- the text and the records of members that follow one another

pub text-append : (xs ys : List New) → new_text (xs ++ ys) ≡ new_text xs ++ new_text ys
unfolding new_text
text-append [] ys = refl
text-append (x ∷ xs) ys =
    rw (text-append xs ys)
    (ap (λ (l : List ℕ). x.name ++ l) (sym (append_assoc x.descriptor (new_text xs) (new_text ys)))
    ∙ sym (append_assoc x.name (x.descriptor ++ new_text xs) (new_text ys)))

pub records-append : (at : ℕ) (xs ys : List New) → new_records at (xs ++ ys) ≡ new_records at xs ++ new_records (at + length (new_text xs)) ys
unfolding new_text new_records
records-append at [] ys = let e : at + 0 ≡ at = omega arith in rw e
records-append at (x ∷ xs) ys =
    let e : at + length x.name + length x.descriptor + length (new_text xs) ≡ at + length (x.name ++ (x.descriptor ++ new_text xs)) =
    omega (arith, length-append x.name (x.descriptor ++ new_text xs), length-append x.descriptor (new_text xs)) in
    let i = records-append (at + length x.name + length x.descriptor) xs ys in
    rw (← e, i)

pub length-records : (at : ℕ) (xs : List New) → length (new_records at xs) ≡ member_width * length xs
unfolding new_records
length-records at [] = refl
length-records at (x ∷ xs) =
    let i = length-records (at + length x.name + length x.descriptor) xs in omega arith

-- ---- the members of a list, one by one

module _ (ws text abi labels : List ℕ) where
  pub news-append : (xs ys : List Member) → news_of ws text abi labels (xs ++ ys) ≡ news_of ws text abi labels xs ++ news_of ws text abi labels ys
  unfolding news_of
  news-append [] ys = refl
  news-append (x ∷ xs) ys = rw (news-append xs ys)

  pub length-news : (xs : List Member) → length (news_of ws text abi labels xs) ≡ length xs
  unfolding news_of
  length-news [] = refl
  length-news (x ∷ xs) = ap suc (length-news xs)

-- ---- methods to be added, one by one

module _ (ws text abi labels : List ℕ) where
  added-append : (xs ys : List Member) → added_of ws text abi labels (xs ++ ys) ≡ added_of ws text abi labels xs ++ added_of ws text abi labels ys
  unfolding added_of
  added-append [] ys = refl
  added-append (x ∷ xs) ys = rw (added-append xs ys)

  pub length-added : (xs : List Member) → length (added_of ws text abi labels xs) ≡ length xs
  unfolding added_of
  length-added [] = refl
  length-added (x ∷ xs) = ap suc (length-added xs)

  pub members-added : (xs : List Member) → members (added_of ws text abi labels xs) ≡ news_of ws text abi labels xs
  unfolding members added_of news_of taken_of
  members-added [] = refl
  members-added (x ∷ xs) = rw (members-added xs)

  pub added_none : added_of ws text abi labels [] ≡ []
  unfolding added_of
  added_none = refl

  -- one is added, where there is room
  pub added_push : (xs : List Member) (m : Member) {ys : List Member} → length xs < 1024 → ys ≡ take 1024 (xs ++ m ∷ [])
      → added_of ws text abi labels ys ≡ added_of ws text abi labels xs ++ (taken_of ws text abi labels m ∷ [])
  unfolding added_of
  added_push xs m h e = rw (e, push_room 1024 xs m h) (added-append xs (m ∷ []))

  -- the i-th, and past the end
  added_at : (xs : List Member) (i : ℕ) (d : Taken) {m : Member} → slice_get xs i ≡ Some m
      → get_or (added_of ws text abi labels xs) i d ≡ taken_of ws text abi labels m
  unfolding added_of
  added_at [] i d e = cc
  added_at (x ∷ xs) zero d e = ap (taken_of ws text abi labels) (cc)
  added_at (x ∷ xs) (suc i) d e = added_at xs i d e

  added_past : (xs : List Member) (i : ℕ) (d : Taken) → slice_get xs i ≡ None → get_or (added_of ws text abi labels xs) i d ≡ d
  unfolding added_of
  added_past [] i d e = refl
  added_past (x ∷ xs) zero d e = cc
  added_past (x ∷ xs) (suc i) d e = added_past xs i d e

  -- as the code reads them
  pub added_got : (xs : List Member) (i : ℕ) (d : Taken) {o : Option Member} {m : Member} → o ≡ slice_get xs i → o ≡ Some m
      → get_or (added_of ws text abi labels xs) i d ≡ taken_of ws text abi labels m
  added_got xs i d e h = added_at xs i d (sym e ∙ h)

  pub added_out : (xs : List Member) (i : ℕ) (d : Taken) {o : Option Member} → o ≡ slice_get xs i → o ≡ None
      → get_or (added_of ws text abi labels xs) i d ≡ d
  added_out xs i d e h = added_past xs i d (sym e ∙ h)

-- the text of the first n, and their records: names of their own, so that antt finds their arguments
unfoldable pub text_to : List ℕ → List ℕ → List ℕ → List ℕ → List Member → ℕ → List ℕ
text_to ws text abi labels ms n = new_text (news_of ws text abi labels (take n ms))

unfoldable pub records_to : ℕ → List ℕ → List ℕ → List ℕ → List ℕ → List Member → ℕ → List ℕ
records_to start ws text abi labels ms n = new_records start (news_of ws text abi labels (take n ms))

-- the record of a new member, whose name p begins at byte a and its descriptor q behind it
abbrev pub record_at : ℕ → List ℕ → List ℕ → Member → MemberRecord
record_at a p q m = new_record a (record { name = p; descriptor = q; flags = m.flags; last = m.last })

module _ (ws text abi labels : List ℕ) (ms : List Member) where
  first-more : (i : ℕ) (m d : Member) → i < length ms → m ≡ get_or ms i d
      → news_of ws text abi labels (take (i + 1) ms) ≡ news_of ws text abi labels (take i ms) ++ (new_of ws text abi labels m ∷ [])
  unfolding news_of
  first-more i m d h e =
      rw (add-one, take-suc ms i d h, ← e) (news-append ws text abi labels (take i ms) (m ∷ []))

  pub text-zero : text_to ws text abi labels ms 0 ≡ []
  unfolding text_to news_of new_text
  text-zero = refl

  pub text-all : (i : ℕ) → length ms ≤ i → text_to ws text abi labels ms i ≡ new_text (news_of ws text abi labels ms)
  unfolding text_to
  text-all i h = rw (take_all i ms h)

  length_to : (start i : ℕ) → i ≤ length ms → length (records_to start ws text abi labels ms i) ≡ member_width * i
  unfolding records_to
  length_to start i h =
      let k = length-records start (news_of ws text abi labels (take i ms)) in
      omega (arith, length-news ws text abi labels (take i ms), length-take i ms)

  pub records-none : (start : ℕ) (l : List ℕ) (k : ℕ) → l ≡ write_at l k (records_to start ws text abi labels ms 0)
  unfolding records_to news_of new_records
  records-none start l k = sym (write-none l k)

  pub records-done : (start : ℕ) (l : List ℕ) (k i : ℕ) {xs : List Member} {d : List ℕ} → xs ≡ ms → length xs ≤ i
      → d ≡ write_at l k (records_to start ws text abi labels ms i)
      → d ≡ write_at l k (new_records start (news_of ws text abi labels ms))
  unfolding records_to
  records-done start l k i all h p = p ∙ rw (take_all i ms (rw all at h))

  pub names-none : (l : List ℕ) (k : ℕ) → l ≡ write_at l k (text_to ws text abi labels ms 0)
  names-none l k = rw text-zero (sym (write-none l k))

  pub names-done : (l : List ℕ) (k i : ℕ) {xs : List Member} {d : List ℕ} → xs ≡ ms → length xs ≤ i → d ≡ write_at l k (text_to ws text abi labels ms i)
      → d ≡ write_at l k (new_text (news_of ws text abi labels ms))
  names-done l k i all h p = p ∙ rw (text-all i (rw all at h))

  pub length-done : (i : ℕ) {xs : List Member} {s : ℕ} → xs ≡ ms → length xs ≤ i → s ≡ length (text_to ws text abi labels ms i)
      → s ≡ length (new_text (news_of ws text abi labels ms))
  length-done i all h p = p ∙ rw (text-all i (rw all at h))

  -- ---- turns of the loops over the new members

  pub length_none : 0 ≡ length (text_to ws text abi labels ms 0)
  length_none = rw text-zero

  pub next-none : (k : ℕ) → k ≡ k + length (text_to ws text abi labels ms 0)
  next-none k = omega (arith, length_none)

  -- member i, as the code reads it off the list, and its name and descriptor
  module _ (i : ℕ) (m d : Member) {xs : List Member} {p q : List ℕ} (all : xs ≡ ms) (among : i < length xs) (read : m ≡ get_or xs i d)
      (name : p ≡ ref_name ws text abi labels m.names) (descriptor : q ≡ ref_descriptor ws text abi labels m.names) where
    one-more : news_of ws text abi labels (take (i + 1) ms) ≡ news_of ws text abi labels (take i ms) ++ (new_of ws text abi labels m ∷ [])
    one-more = first-more i m d (rw all at among) (rw all at read)

    both-more : text_to ws text abi labels ms (i + 1) ≡ text_to ws text abi labels ms i ++ (p ++ q)
    unfolding text_to new_text new_of
    both-more = rw (one-more, text-append, append-nil, name, descriptor)

    -- and it and those before it are no longer than all
    both-within : length (text_to ws text abi labels ms i) + (length p + length q) ≤ length (new_text (news_of ws text abi labels ms))
    unfolding text_to new_text new_of
    both-within =
        let e : new_text (news_of ws text abi labels (take (i + 1) ms)) ++ new_text (news_of ws text abi labels (drop (i + 1) ms))
        ≡ new_text (news_of ws text abi labels ms) =
        sym (text-append (news_of ws text abi labels (take (i + 1) ms)) (news_of ws text abi labels (drop (i + 1) ms)))
        ∙ ap new_text (sym (news-append ws text abi labels (take (i + 1) ms) (drop (i + 1) ms)))
        ∙ ap (λ (l : List Member). new_text (news_of ws text abi labels l)) (take-append-drop (i + 1) ms) in
        let a = ap length both-more in
        rw (← e)
        (omega (
          arith,
          length-append (new_text (news_of ws text abi labels (take (i + 1) ms))) (new_text (news_of ws text abi labels (drop (i + 1) ms))),
          length-append (text_to ws text abi labels ms i) (p ++ q),
          length-append p q,
          a,
        ))

    pub length-turn : {s : ℕ} → s ≡ length (text_to ws text abi labels ms i) → s + (length p + length q) ≡ length (text_to ws text abi labels ms (i + 1))
    length-turn h = rw both-more (omega (arith, length-append (text_to ws text abi labels ms i) (p ++ q), length-append p q))

    -- the place a where member i's text begins, in a text that begins at k and ends by b: where the next one's begins, which is no further
    module _ (k : ℕ) {a : ℕ} (begins : a ≡ k + length (text_to ws text abi labels ms i)) where
      pub parts-turn : a + (length p + length q) ≡ k + length (text_to ws text abi labels ms (i + 1))
      parts-turn = omega (arith, length-turn refl)

      pub parts_within : {b : ℕ} → k + length (new_text (news_of ws text abi labels ms)) ≤ b → a + (length p + length q) ≤ b
      parts_within e = omega (arith, both-within)

      pub names-turn : (l : List ℕ) (x : ℕ) {d e : List ℕ} → k + x ≤ length l → d ≡ write_at l k (text_to ws text abi labels ms i)
          → e ≡ write_at d a (p ++ q) → e ≡ write_at l k (text_to ws text abi labels ms (i + 1))
      names-turn l x h f r = r ∙ rw (f, both-more) (write-more l k (text_to ws text abi labels ms i) (p ++ q) a (omega arith) begins)

    module _ (start : ℕ) {a : ℕ} (begins : a ≡ start + length (text_to ws text abi labels ms i)) where
      records-more : records_to start ws text abi labels ms (i + 1) ≡ records_to start ws text abi labels ms i ++ member_words (record_at a p q m)
      unfolding records_to text_to new_records new_of
      records-more =
          rw (one-more, records-append, name, descriptor, begins)

      pub records-turn : (l : List ℕ) (k x : ℕ) {d o : List ℕ} → k + x ≤ length l
          → d ≡ write_at l k (records_to start ws text abi labels ms i)
          → o ≡ write_at d (k + member_width * i) (member_words (record_at a p q m))
          → o ≡ write_at l k (records_to start ws text abi labels ms (i + 1))
      records-turn l k x h f b =
          let n : length (records_to start ws text abi labels ms i) ≡ member_width * i =
          length_to start i (let a : i < length ms = rw all at among in omega arith) in
          b
          ∙ rw (f, records-more)
          (write-more l k (records_to start ws text abi labels ms i) (member_words (record_at a p q m))
          (k + member_width * i) (omega arith) (omega arith))
