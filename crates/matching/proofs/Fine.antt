-- What a link adds is fine: names and descriptors that are there, flags and descriptors that rows 4 and 5 accept. Assumes nothing.
use Rattle.std.proofs.Common.{refl, ◌∙◌, not, List, [], ◌∷◌, ℕ, zero, suc, ◌/◌, ◌%◌, ◌≤◌, ◌<◌, arith, eqb-true}
use mathlib.Core.List.Memᴰ
use mathlib.Core.List.{Memᴰ}
use Rattle.words.proofs.Bools.{by}
use Rattle.words.proofs.ListLaws.{by-found, numbers-within}
use Rattle.descriptor.specs.Grammar.{FieldDerivation}
use Rattle.descriptor.specs.Words.{ValidDescriptor}
use Rattle.descriptor.proofs.Meaning.{meaning}
use Rattle.class_sheet.specs.ClassSheet.{class_count, method_count, text_of, method_flags, method_descriptor}
use Rattle.abi_sheet.specs.AbiSheet.{abi_slot_count, abi_field_count, abi_field_limit, abi_class_first_field, abi_class_field_count, abi_slot_descriptor, abi_text_of}
use Rattle.set_rules.specs.Valid.{MethodFlags, Valid, ValidAbi}
use Rattle.linking.specs.Signature.{Same}
use Rattle.linking.specs.Chain.{list_count, is_abstract}
use Rattle.linking.specs.Abi.{abi_fields, class_abi}
use Rattle.linking.specs.Fields.{declares_field, added_fields}
use Rattle.linking.specs.Compiler.{New, members, without_abstract, from_method, from_slot}
use Rattle.linking.specs.Link.{new_fields_of, generated_methods}
use Rattle.linking.proofs.AbiLaws.{class-abi-room}
use Rattle.linking.proofs.Added.{EachNew, generated-each, same_receiver, abstract_receiver}
use Rattle.linking.proofs.Overriding.{keep-of}
use Rattle.matching.proofs.Members.{part-word, Fine}

-- ---- flags without 0x0400 are flags of a method

without-flags : (flags : ℕ) → MethodFlags flags → MethodFlags (without_abstract flags)
without-flags flags h =
    by (is_abstract flags)
    (λ e. let a = eqb-true (flags / 1024 % 2) 1 e in rw e (omega (arith, h.0), omega (arith, h.1)))
    (λ e. rw e h)

module _ (ws abi : List ℕ) (v : Valid ws) (w : ValidAbi abi) where
  abbrev text : List ℕ
  text = text_of ws

  abbrev labels : List ℕ
  labels = abi_text_of abi

  -- ---- methods

  abbrev pub FineMethod : New → Type 0
  FineMethod = Fine ValidDescriptor MethodFlags

  from-method : (m target : ℕ) → m < method_count ws → FineMethod (from_method ws text m target).member
  from-method m target h =
      let r = v.method m h in
      record {
        name = part-word text _ _ r.name;
        descriptor = part-word text _ _ r.descriptor;
        number = without-flags (method_flags ws m) r.number;
        derivation = meaning.valid_sound (method_descriptor ws text m) (without_abstract (method_flags ws m))
            (same_receiver (without_abstract (method_flags ws m)) (method_flags ws m) (method_descriptor ws text m) (abstract_receiver (method_flags ws m))
            ∙ meaning.valid_complete (method_descriptor ws text m) (method_flags ws m) r.derivation);
      }

  from-slot : (s target : ℕ) → s < abi_slot_count abi → FineMethod (from_slot abi labels s target).member
  from-slot s target h =
      let r = w.slot s h in
      record {
        name = part-word labels _ _ r.name;
        descriptor = part-word labels _ _ r.descriptor;
        number = (omega arith, refl);
        derivation = meaning.valid_sound (abi_slot_descriptor abi labels s) 1
            (meaning.static_more (abi_slot_descriptor abi labels s) 1 (meaning.valid_complete (abi_slot_descriptor abi labels s) 0 r.derivation));
      }

  pub fine_methods : (same : Same) (area : List ℕ) (c : ℕ) → c ≤ class_count ws
      → EachNew FineMethod (members (generated_methods same ws text abi labels area c))
  fine_methods same area c h =
      generated-each same ws text abi labels (λ d k. (v.class d k).methods) (λ a k. (w.class a k).slots) FineMethod from-method from-slot area c h

  -- ---- fields

  abbrev pub FineField : New → Type 0
  FineField = Fine (λ flags s. FieldDerivation s) (λ n. n ≤ 65535)

  fine_fields : (gs : List ℕ) → ((g : ℕ) → Memᴰ g gs → g < abi_field_count abi) → EachNew FineField (new_fields_of abi labels gs)
  unfolding new_fields_of
  fine_fields [] h j b = absurd (omega arith)
  fine_fields (g ∷ gs) h zero b =
      let r = w.field g (h g (Memᴰ.head refl)) in
      record { name = part-word labels _ _ r.name; descriptor = part-word labels _ _ r.descriptor; number = omega arith; derivation = r.derivation }
  fine_fields (g ∷ gs) h (suc j) b = fine_fields gs (λ x i. h x (Memᴰ.tail i)) j (omega arith)

  added-room : (c g : ℕ) → Memᴰ g (added_fields ws text abi labels (class_abi ws text abi labels c) c) → g < abi_field_count abi
  unfolding added_fields abi_fields
  added-room c g i =
      by-found (class_abi ws text abi labels c)
      (λ a e.
      let j = (keep-of (λ f. not (declares_field ws text abi labels c f)) (abi_fields abi a) (rw e at i)).0 in
      let n = numbers-within (abi_class_first_field abi a) (list_count (abi_class_first_field abi a) (abi_class_field_count abi a) abi_field_limit) g j in
      let r = (w.class a (class-abi-room ws text abi labels c a e)).fields in
      omega arith)
      (λ e. absurd (Memᴰ.not-nil (rw e at i)))

  pub fine_added : (c : ℕ) → EachNew FineField (new_fields_of abi labels (added_fields ws text abi labels (class_abi ws text abi labels c) c))
  fine_added c = fine_fields (added_fields ws text abi labels (class_abi ws text abi labels c) c) (added-room c)
