-- Laws of what row 5 remembers. Assumes nothing.
use mathlib.Core.Path.{◌≡◌, refl, sym, ◌∙◌}
use mathlib.Core.Bool.{Bool, true, false, not, ◌&&◌}
use mathlib.Core.List.{List, []}
use Prim.Native.Nat.{ℕ, ◌+◌, ◌*◌, ◌≤◌, ◌<◌}
use native.Mathlib.Omega.{arith}
use lib.ListN.{length, get_or, set, replicate, get_or-eq_default}
use lib.Dec.{eqb, ltb}
use lib.Seq.{set_out, get_or-set_same, get_or-set_other}
use borrow.Author.Tests.{eqb-true, eqb-false, ltb-true, ltb-false, not-false}
use Rattle.words.proofs.Bools.{by}
use Rattle.text.specs.Text.{name_at}
use Rattle.descriptor.specs.Machine.{is_field_descriptor, is_method_descriptor}
use Rattle.descriptor.specs.Words.{is_method}
use Rattle.descriptor.proofs.Meaning.{meaning}
use Rattle.set_rules.specs.declared.Members.{Members}
use Rattle.set_rules.specs.declared.Members.TheVariants.{Methods, Slots, Fields}
use Rattle.set_rules.specs.Known.{is_descriptor, is_known, Known, record_typed}
use Rattle.set_rules.specs.SetRules.{method_typed, field_typed, class_descriptors, abi_slot_typed, abi_field_typed, abi_descriptors}
use Rattle.class_sheet.specs.ClassSheet.{member_width, method_count, field_count, methods_at, fields_at, method_word, field_word}
use Rattle.abi_sheet.specs.AbiSheet.{abi_member_width, abi_slot_count, abi_field_count, abi_slots_at, abi_fields_at, abi_slot_word, abi_field_word}
use Rattle.words.specs.Folds.{all_of}
use Rattle.words.specs.Lists.{fold}
use Rattle.words.proofs.FoldLaws.{all-ext}
use Rattle.words.proofs.Lists.{zeros}

-- a method's descriptor, a slot's, and a field's
module _ (n : ℕ) (s : List ℕ) {kind : Members} {r : Bool} where
  pub of-method : kind ≡ Methods → r ≡ is_method n s → r ≡ is_descriptor kind n s
  unfolding is_descriptor
  of-method e h = rw e h

  pub of-slot : kind ≡ Slots → r ≡ is_method 0 s → r ≡ is_descriptor kind n s
  unfolding is_descriptor
  of-slot e h = rw e h

  pub of_field : kind ≡ Fields → r ≡ is_field_descriptor s → r ≡ is_descriptor kind n s
  unfolding is_descriptor
  of_field e h = rw e h

-- what is good for an instance method is good for any
any-number : (kind : Members) (n : ℕ) (s : List ℕ) → is_descriptor kind 0 s ≡ true → is_descriptor kind n s ≡ true
unfolding is_descriptor
any-number Methods n s h = meaning.static_more s n h
any-number Slots n s h = h
any-number Fields n s h = h

-- nothing is known
pub known-none : (n : ℕ) (kind : Members) (text : List ℕ) → Known kind text (replicate n 0)
known-none n kind text = record { good = λ s l e. absurd (omega (arith, zeros n s)) }

module _ (kind : Members) (text known : List ℕ) (k : Known kind text known) where
  -- what is known is a descriptor
  pub known_typed : (n start len : ℕ) {b : Bool} → b ≡ is_known known start len → b ≡ true → true ≡ is_descriptor kind n (name_at text start len)
  unfolding is_known
  known_typed n start len e t = sym (any-number kind n _ (k.good start len (eqb-true (get_or known start 0) (len + 1) (sym e ∙ t))))

  -- at the place of a store, and elsewhere
  at_store : (start len s l : ℕ) → is_descriptor kind 0 (name_at text start len) ≡ true → start < length known → s ≡ start
      → get_or (set known start (len + 1)) s 0 ≡ l + 1 → is_descriptor kind 0 (name_at text s l) ≡ true
  at_store start len s l h b e g =
      let q : l ≡ len = omega (arith, rw e at g, get_or-set_same known start (len + 1) 0 b) in rw (e, q) h

  elsewhere : (start v s l : ℕ) → (s ≡ start → ⊥) → get_or (set known start v) s 0 ≡ l + 1 → is_descriptor kind 0 (name_at text s l) ≡ true
  elsewhere start v s l n g = k.good s l (sym (get_or-set_other known start s v 0 n) ∙ g)

  stored : (start len : ℕ) → is_descriptor kind 0 (name_at text start len) ≡ true → start < length known
      → Known kind text (set known start (len + 1))
  stored start len h b =
      record {
        good =
            λ s l g. by (eqb s start) (λ e. at_store start len s l h b (eqb-true s start e) g)
            (λ e. elsewhere start (len + 1) s l (eqb-false s start e) g);
      }

  -- a descriptor that is put there
  pub known_more : (start len : ℕ) {good : Bool} {part after : List ℕ} → part ≡ name_at text start len → good ≡ is_descriptor kind 0 part
      → not good ≡ false → after ≡ set known start (len + 1) → Known kind text after
  known_more start len {good = good} f e t a =
      rw a
      (by (ltb start (length known)) (λ q. stored start len (rw (← f) (sym e ∙ not-false good t)) (ltb-true start (length known) q))
      (λ q. rw (set_out known start (len + 1) (ltb-false start (length known) q)) k))

-- a part that was read and is good for an instance method
pub read_typed : (kind : Members) (n : ℕ) (text : List ℕ) (start len : ℕ) {good : Bool} {part : List ℕ} → part ≡ name_at text start len
    → good ≡ is_descriptor kind 0 part → not good ≡ false → true ≡ is_descriptor kind n (name_at text start len)
read_typed kind n text start len {good = good} f e t = sym (any-number kind n _ (rw (← f) (sym e ∙ not-false good t)))

-- no part without bytes is a descriptor
none_typed : (kind : Members) (n : ℕ) → is_descriptor kind n [] ≡ false
unfolding is_descriptor is_method is_method_descriptor is_field_descriptor fold
none_typed Methods n = refl
none_typed Slots n = refl
none_typed Fields n = refl

-- ---- the records, a turn at a time, at the code's `at`

module _ (kind : Members) (ws : List ℕ) (first width : ℕ) (text : List ℕ) (i : ℕ) where
  pub record_typed_lem : (at : ℕ) {b : Bool} {n : ℕ} → at ≡ first + width * i → n ≡ get_or ws (at + 4) 0
      → b ≡ is_descriptor kind n (name_at text (get_or ws (at + 2) 0) (get_or ws (at + 3) 0)) → b ≡ record_typed kind ws first width text i
  unfolding record_typed
  record_typed_lem at e f h = h ∙ rw (f, e) refl

  pub past_typed : {at : ℕ} → at ≡ first + width * i → length ws ≤ at + 3 → false ≡ record_typed kind ws first width text i
  unfolding record_typed name_at
  past_typed e l = rw (get_or-eq_default ws 0 {n = first + width * i + 3} (omega arith)) (sym (none_typed kind _))

-- ---- the records of each sheet

pub methods_typed : (ws text : List ℕ) (n : ℕ) → all_of n (record_typed Methods ws (methods_at ws) member_width text) ≡ all_of n (method_typed ws text)
unfolding record_typed is_descriptor method_typed method_word
methods_typed ws text n = all-ext n _ _ (λ i l. refl)

pub fields_typed : (ws text : List ℕ) (n : ℕ) → all_of n (record_typed Fields ws (fields_at ws) member_width text) ≡ all_of n (field_typed ws text)
unfolding record_typed is_descriptor field_typed field_word
fields_typed ws text n = all-ext n _ _ (λ i l. refl)

pub slots_typed : (abi text : List ℕ) (n : ℕ) → all_of n (record_typed Slots abi (abi_slots_at abi) abi_member_width text) ≡ all_of n (abi_slot_typed abi text)
unfolding record_typed is_descriptor abi_slot_typed abi_slot_word
slots_typed abi text n = all-ext n _ _ (λ i l. refl)

pub abi-fields_typed : (abi text : List ℕ) (n : ℕ)
    → all_of n (record_typed Fields abi (abi_fields_at abi) abi_member_width text) ≡ all_of n (abi_field_typed abi text)
unfolding record_typed is_descriptor abi_field_typed abi_field_word
abi-fields_typed abi text n = all-ext n _ _ (λ i l. refl)

pub class_typed : (ws text : List ℕ) {m n f k : ℕ} {a b : Bool}
    → m ≡ methods_at ws → n ≡ method_count ws → a ≡ all_of n (record_typed Methods ws m member_width text)
    → f ≡ fields_at ws → k ≡ field_count ws → b ≡ all_of k (record_typed Fields ws f member_width text) → (a && b) ≡ class_descriptors ws text
unfolding class_descriptors
class_typed ws text e₁ e₂ p e₃ e₄ q = rw (p, q, e₁, e₂, e₃, e₄, methods_typed, fields_typed)

pub abi_typed : (abi text : List ℕ) {s n f k : ℕ} {a b : Bool}
    → s ≡ abi_slots_at abi → n ≡ abi_slot_count abi → a ≡ all_of n (record_typed Slots abi s abi_member_width text)
    → f ≡ abi_fields_at abi → k ≡ abi_field_count abi → b ≡ all_of k (record_typed Fields abi f abi_member_width text) → (a && b) ≡ abi_descriptors abi text
unfolding abi_descriptors
abi_typed abi text e₁ e₂ p e₃ e₄ q = rw (p, q, e₁, e₂, e₃, e₄, slots_typed, abi-fields_typed)
