-- Theorems 2 and 3: each turn of the numbering adds to the static count what the sum adds, and gives a static field the count before it. Assumes nothing.
use Rattle.std.proofs.Common.{◌≡◌, refl, sym, ap, ◌∙◌, true, cond, ◌||◌, List, [], ◌∷◌, ◌++◌, append-nil, append_assoc, ℕ, zero, suc, ◌+◌, ◌*◌, ◌≤◌, ◌<◌, arith, length, get_or, take, eqb, Option}
use mathlib.Core.Bool.{false≢true}
use Rattle.words.specs.Lists.{fold}
use Rattle.std.specs.Option.{option_and_then}
use Rattle.words.proofs.Bools.{by}
use Rattle.words.proofs.ListLaws.{by-found}
use Rattle.descriptor.specs.Bytes.{byte}
use Rattle.descriptor.specs.Words.{byte_width, width}
use Rattle.class_sheet.specs.ClassSheet.{field_name, field_descriptor, field_flags}
use Rattle.linking.specs.Chain.{own_fields, is_static, parent_of}
use Rattle.linking.specs.Abi.{fixed_field_index, fixed_field}
use Rattle.linking.specs.Fields.{below_zero, field_width, Numbering, number_instance, own_given, number_field, number_fields, add_static, static_words, runtime_words, instance_words}
use Rattle.linking.proofs.ChainLaws.{own-fields-length}

-- ---- the sum

module _ (ws text : List ℕ) where
  width_room : (f : ℕ) → field_width ws text f ≤ 2
  unfolding width byte_width
  width_room f =
      let s : List ℕ = field_descriptor ws text f in
      by (eqb (get_or s 0 0) (byte "J") || eqb (get_or s 0 0) (byte "D")) (λ t. rw t (omega arith)) (λ q. rw q (omega arith))

  add-room : (n f : ℕ) → (n ≤ add_static ws text n f) × (add_static ws text n f ≤ n + 2)
  unfolding add_static
  add-room n f =
      let r = width_room f in
      by (is_static (field_flags ws f)) (λ t. rw t (omega arith, omega arith)) (λ q. rw q (omega arith, omega arith))

  sum_room : (fs : List ℕ) (n : ℕ) → (n ≤ fold (add_static ws text) n fs) × (fold (add_static ws text) n fs ≤ n + 2 * length fs)
  unfolding fold
  sum_room [] n = (omega arith, omega arith)
  sum_room (f ∷ fs) n =
      let a = add-room n f in
      let r = sum_room fs (add_static ws text n f) in
      (omega arith, omega arith)

  pub most : (c : ℕ) → static_words ws text c ≤ 1024
  unfolding static_words
  most c = let r = sum_room (own_fields ws c) 0 in omega (arith, own-fields-length ws c)

  -- the words before a static field, and its own, are part of the sum
  sum-end : (fs : List ℕ) (n i : ℕ) → i < length fs → is_static (field_flags ws (get_or fs i 0)) ≡ true
      → fold (add_static ws text) n (take i fs) + field_width ws text (get_or fs i 0) ≤ fold (add_static ws text) n fs
  unfolding fold add_static
  sum-end [] n i h s = absurd (omega arith)
  sum-end (f ∷ fs) n zero h s = rw s (sum_room fs (n + field_width ws text f)).0
  sum-end (f ∷ fs) n (suc i) h s = sum-end fs (add_static ws text n f) i (omega arith) s

-- ---- the numbering

module _ (ws text abi labels : List ℕ) (own : Option ℕ) where
  -- a turn: one index more, and a static field's is the count so far
  record Turn (n : Numbering) (f : ℕ) (m : Numbering) : Type 0 where
    pub index : ℕ
    pub indices : m.indices ≡ n.indices ++ (index ∷ [])
    pub counts : m.statics ≡ add_static ws text n.statics f
    pub static : is_static (field_flags ws f) ≡ true → index ≡ n.statics

  -- an instance field's index, whatever it is, leaves the count
  instance-turn : (n : Numbering) (fixed : Option ℕ) (w : ℕ)
      → (index : ℕ) × ((number_instance abi own fixed w n).indices ≡ n.indices ++ (index ∷ []))
      × ((number_instance abi own fixed w n).statics ≡ n.statics)
  instance-turn n fixed w =
      by-found fixed
      (λ g e. rw e (fixed_field_index abi g, refl, refl))
      (λ e.
      rw e
      (by (eqb (own_given abi own) 0)
      (λ t. rw t (n.running, refl, refl))
      (λ t. rw t (below_zero n.runtime, refl, refl))))

  turn : (n : Numbering) (f : ℕ) → Turn n f (number_field ws text abi labels own n f)
  unfolding number_field add_static
  turn n f =
      by (is_static (field_flags ws f))
      (λ t. rw t (record { index = n.statics; indices = refl; counts = rw t; static = λ s. refl }))
      (λ q.
      let r = instance-turn n (option_and_then (fixed_field abi labels (field_name ws text f) (field_descriptor ws text f)) own) (field_width ws text f) in
      rw q
      (record { index = r.0; indices = r.1; counts = r.2 ∙ rw q; static = λ s. absurd (false≢true (sym q ∙ s)) }))

  -- all turns
  record Turns (n : Numbering) (fs : List ℕ) (m : Numbering) : Type 0 where
    pub more : List ℕ
    pub many : length more ≡ length fs
    pub indices : m.indices ≡ n.indices ++ more
    pub counts : m.statics ≡ fold (add_static ws text) n.statics fs
    pub static : (i : ℕ) → i < length fs → is_static (field_flags ws (get_or fs i 0)) ≡ true
        → get_or more i 0 ≡ fold (add_static ws text) n.statics (take i fs)

  static-turn : (n m : Numbering) (f : ℕ) (fs : List ℕ) (index : ℕ) (more : List ℕ) → m.statics ≡ add_static ws text n.statics f
      → (is_static (field_flags ws f) ≡ true → index ≡ n.statics)
      → ((i : ℕ) → i < length fs → is_static (field_flags ws (get_or fs i 0)) ≡ true → get_or more i 0 ≡ fold (add_static ws text) m.statics (take i fs))
      → (i : ℕ) → i < length (f ∷ fs) → is_static (field_flags ws (get_or (f ∷ fs) i 0)) ≡ true
      → get_or (index ∷ more) i 0 ≡ fold (add_static ws text) n.statics (take i (f ∷ fs))
  unfolding fold
  static-turn n m f fs index more e a r zero h s = a s
  static-turn n m f fs index more e a r (suc i) h s = r i (omega arith) s ∙ rw e

  turns : (fs : List ℕ) (n : Numbering) → Turns n fs (fold (number_field ws text abi labels own) n fs)
  unfolding fold
  turns [] n = record { more = []; many = refl; indices = sym (append-nil n.indices); counts = refl; static = λ i h s. absurd (omega arith) }
  turns (f ∷ fs) n =
      let a = turn n f in
      let r = turns fs (number_field ws text abi labels own n f) in
      record {
        more = a.index ∷ r.more;
        many = ap suc r.many;
        indices = r.indices ∙ ap (λ (l : List ℕ). l ++ r.more) a.indices ∙ append_assoc n.indices (a.index ∷ []) r.more;
        counts = r.counts ∙ rw a.counts;
        static = static-turn n (number_field ws text abi labels own n f) f fs a.index r.more a.counts a.static r.static;
      }

  module _ (c : ℕ) where
    abbrev first : Numbering
    first = record {
      indices = [];
      statics = 0;
      runtime = runtime_words ws text (parent_of ws c);
      running = cond (eqb (parent_of ws c) 0) 0 (instance_words ws (parent_of ws c));
    }

    pub counted : (number_fields ws text abi labels own c).statics ≡ static_words ws text c
    unfolding number_fields static_words
    counted = (turns (own_fields ws c) first).counts

    pub indices-length : length (number_fields ws text abi labels own c).indices ≡ length (own_fields ws c)
    unfolding number_fields
    indices-length = let t = turns (own_fields ws c) first in ap length t.indices ∙ t.many

    pub begins : (i : ℕ) → i < length (own_fields ws c) → is_static (field_flags ws (get_or (own_fields ws c) i 0)) ≡ true
        → get_or (number_fields ws text abi labels own c).indices i 0 ≡ fold (add_static ws text) 0 (take i (own_fields ws c))
    unfolding number_fields
    begins i h s =
        let t = turns (own_fields ws c) first in
        ap (λ (l : List ℕ). get_or l i 0) t.indices ∙ t.static i h s

    pub ends : (i : ℕ) → i < length (own_fields ws c) → is_static (field_flags ws (get_or (own_fields ws c) i 0)) ≡ true
        → get_or (number_fields ws text abi labels own c).indices i 0 + field_width ws text (get_or (own_fields ws c) i 0) ≤ static_words ws text c
    unfolding static_words
    ends i h s = omega (arith, begins i h s, sum-end ws text (own_fields ws c) 0 i h s)
