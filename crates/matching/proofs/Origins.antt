-- What an accepted link leaves of the signatures: each used place of the set that it leaves has the parts of a place of the set that there was, its origin. Of
-- a record that was there that is itself, of a copied one the record copied, of an added one the place that it took its signature from. Assumes nothing.
use mathlib.Core.Path.{◌≡◌, refl, ap, ◌∙◌}
use mathlib.Core.Bool.{true, false, not, ◌&&◌}
use mathlib.Core.List.{List}
use Prim.Native.Nat.{ℕ, ◌+◌, ◌≤◌, ◌<◌}
use native.Mathlib.Omega.{arith}
use lib.ListN.{length, get_or}
use lib.Dec.{ltb}
use borrow.Author.Tests.{ltb-false}
use Rattle.words.specs.Words.{AreBytes}
use Rattle.words.proofs.Bools.{or-neither}
use Rattle.class_sheet.specs.ClassSheet.{class_count, method_count, field_count, text_of, text_words, text_length, class_first_method, class_method_count, class_first_field, class_kind, method_limit, member_limit, text_limit}
use Rattle.abi_sheet.specs.AbiSheet.{abi_text_of, abi_text_words, abi_text_length}
use Rattle.set_rules.specs.Valid.{Valid, ValidAbi}
use Rattle.set_rules.proofs.Valid.{valid}
use Rattle.linking.specs.Signature.{Place, of_method, of_abi_slot, Same, place_name, place_descriptor}
use Rattle.linking.specs.Numbers.{is_used}
use Rattle.linking.specs.Compiler.{none_taken, members}
use Rattle.linking.specs.Set.{new_text, section_full}
use Rattle.linking.specs.Link.{next_free, Plan, is_none, new_words, new_statics, lists_full, linked_words, LinkOutcome}
use Rattle.linking.proofs.Packed.{text-bytes}
use Rattle.linking.proofs.Taken.{length-members, member_at}
use Rattle.linking.proofs.Added.{EachTaken, generated_taken, Signs}
use Rattle.linking.proofs.Plans.{Plans, plans}
use Rattle.linking.proofs.LinkRead as read
use Rattle.linking.proofs.LinkRead.{After, link-after, link-count, link-added, record_name, record_descriptor}
use Rattle.matching.specs.Filling.{Used}
use Rattle.matching.proofs.Rows.{Accepted}
use Rattle.matching.proofs.Filling.{filling}

-- where a place of the new set has its parts from
pub record Origin (ws abi new : List ℕ) (p q : Place) : Type 0 where
  pub used : Used ws abi q
  pub name : place_name new (text_of new) abi (abi_text_of abi) p ≡ place_name ws (text_of ws) abi (abi_text_of abi) q
  pub descriptor : place_descriptor new (text_of new) abi (abi_text_of abi) p ≡ place_descriptor ws (text_of ws) abi (abi_text_of abi) q

module _ (same : Same) (ws abi : List ℕ) (c : ℕ) (area stubs missing : List ℕ) (o : LinkOutcome) (acc : Accepted same ws abi c area stubs missing o) where
  abbrev pub text : List ℕ
  text = text_of ws

  abbrev pub labels : List ℕ
  labels = abi_text_of abi

  abbrev pub p : Plan
  p = acc.coming

  abbrev pub new : List ℕ
  new = o.outcome.set

  abbrev pub first : ℕ
  first = class_first_method ws c

  abbrev pub own : ℕ
  own = class_method_count ws c

  abbrev pub count : ℕ
  count = method_count ws

  v : Valid ws
  v = (valid ws abi acc.valid).0

  w : ValidAbi abi
  w = (valid ws abi acc.valid).1

  some : 1 ≤ c
  some = acc.class.some

  among : c ≤ class_count ws
  among = acc.class.among

  planning : Plans same ws text abi labels area c p
  planning = plans same ws text abi labels area c p acc.comes

  pub listed : first + own ≤ count
  listed = (v.class c (some, among)).methods

  inside : class_first_field ws c + length p.indices ≤ field_count ws
  inside = let i = planning.indices in let f = (v.class c (some, among)).fields in omega arith

  method-bytes : AreBytes (new_text (members p.added))
  method-bytes = planning.method-bytes (text-bytes (text_words ws) (text_length ws)) (text-bytes (abi_text_words abi) (abi_text_length abi))

  field-bytes : AreBytes (new_text p.new_fields)
  field-bytes = planning.field-bytes (text-bytes (text_words ws) (text_length ws)) (text-bytes (abi_text_words abi) (abi_text_length abi))

  after : After ws new c
  after =
      rw acc.new-set
      (link-after ws c (next_free area) (new_words ws text abi labels c) (new_statics ws text c) p some among v.fits listed
      (v.class c (some, among)).fields inside method-bytes field-bytes)

  -- ---- records that were there

  pub old : (m : ℕ) → m < count → Origin ws abi new (of_method m) (of_method m)
  unfolding place_name place_descriptor
  old m h = record {
    used = filling.methods ws abi acc.valid m h;
    name = record_name ws new c v after m m h (λ k b. after.method m k h b);
    descriptor = record_descriptor ws new c v after m m h (λ k b. after.method m k h b);
  }

  pub slot : (s : ℕ) → Used new abi (of_abi_slot s) → Origin ws abi new (of_abi_slot s) (of_abi_slot s)
  unfolding place_name place_descriptor is_used
  slot s u = record { used = u; name = refl; descriptor = refl }

  -- where no method is added, no method record is

  pub still : is_none (members p.added) ≡ true → method_count new ≡ count
  still u =
      rw acc.new-set
      (link-count ws c (next_free area) (new_words ws text abi labels c) (new_statics ws text c) p some among v.fits listed
      (v.class c (some, among)).fields inside method-bytes field-bytes u)

  -- ---- a method list that grows

  module _ (u : is_none (members p.added) ≡ false) where
    kind : class_kind ws c ≡ 1
    kind = planning.generated u

    no-fields : is_none p.new_fields ≡ true
    no-fields = ap is_none (planning.grows kind).1

    grown-words : (x : List ℕ) → x ≡ linked_words ws c (next_free area) (new_words ws text abi labels c) (new_statics ws text c) p
        → read.Added ws x c (members p.added)
    grown-words x e =
        rw e
        (link-added ws c (next_free area) (new_words ws text abi labels c) (new_statics ws text c) p some among v.fits listed
        (v.class c (some, among)).fields inside method-bytes field-bytes no-fields u)

    grown : read.Added ws new c (members p.added)
    grown = grown-words new acc.new-set

    pub many : method_count new ≡ count + (own + length p.added)
    many = omega (arith, grown.methods, length-members p.added)

    -- row 14
    pub room : count + (own + length p.added) ≤ method_limit
    unfolding lists_full section_full
    room =
        let a = (or-neither (not (is_none (members p.added)) && section_full ws count own (members p.added)) _ acc.lists).0 in
        let b : section_full ws count own (members p.added) ≡ false = rw u at a in
        let d =
        (or-neither (ltb member_limit (count + (own + length (members p.added)))) (ltb text_limit (text_length ws + length (new_text (members p.added)))) b).0
        in
        omega (arith, ltb-false member_limit (count + (own + length (members p.added))) d, length-members p.added)

    pub copied : (j : ℕ) → j < own → Origin ws abi new (of_method (count + j)) (of_method (first + j))
    unfolding place_name place_descriptor
    copied j h =
        let l : first + j < count = omega (arith, listed) in
        record {
          used = filling.methods ws abi acc.valid (first + j) l;
          name = record_name ws new c v after (first + j) (count + j) l (λ k b. grown.copied j k h b);
          descriptor = record_descriptor ws new c v after (first + j) (count + j) l (λ k b. grown.copied j k h b);
        }

    -- an added method takes its signature from a used place, and has its parts
    sources : EachTaken (λ x. Used ws abi x.from × Signs ws text abi labels x) p.added
    unfolding place_name place_descriptor
    sources =
        rw (planning.grows kind).0
        (generated_taken same ws text abi labels (λ d k. (v.class d k).methods) (λ a k. (w.class a k).slots)
        (λ x. Used ws abi x.from × Signs ws text abi labels x)
        (λ m target h. (filling.methods ws abi acc.valid m h, record { name = refl; descriptor = refl }))
        (λ s target h. (filling.slots ws abi acc.valid s h, record { name = refl; descriptor = refl })) area c among)

    pub added : (j : ℕ) → j < length p.added → Origin ws abi new (of_method (count + (own + j))) (get_or p.added j none_taken).from
    unfolding place_name place_descriptor
    added j h =
        let s = sources j h in
        let l : j < length (members p.added) = omega (arith, length-members p.added) in
        record {
          used = s.0;
          name = grown.new-name j l ∙ ap (λ x. x.name) (member_at p.added j) ∙ s.1.name;
          descriptor = grown.new-descriptor j l ∙ ap (λ x. x.descriptor) (member_at p.added j) ∙ s.1.descriptor;
        }
