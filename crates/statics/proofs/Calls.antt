-- Theorem 4: a class keeps its record until its link, and that link finds the fields of the list's start, as no link of another class changes a field's
-- flags or descriptor; after its link no call changes the word. Assumes nothing.
use Rattle.std.proofs.Common.{◌≡◌, refl, sym, ◌∙◌, ◌≢◌, inl, inr, List, [], ◌∷◌, ℕ, ◌≤◌, ◌<◌, arith, eqb, eqb-true}
use mathlib.Core.List.{Memᴰ}
use borrow.Author.Tests.{eqb-false}
use Rattle.words.specs.Lists.{fold}
use Rattle.words.proofs.Bools.{by}
use Rattle.words.proofs.ListLaws.{numbers-within}
use Rattle.text.specs.Text.{descriptor_start_word, descriptor_length_word}
use Rattle.class_sheet.specs.ClassSheet.{class_width, kind_word, first_field_word, field_count_word, table_place_word, static_words_word, index_word, field_limit, field_count, text_of, class_word, class_kind, class_first_field, class_field_count, class_table_place, field_word}
use Rattle.set_rules.specs.Valid.{IsClass, Valid}
use Rattle.linking.specs.Chain.{list_count, own_fields}
use Rattle.linking.specs.Fields.{add_static, static_words}
use Rattle.linking.specs.Signature.{Same}
use Rattle.linking.specs.Link.{LinkOutcome}
use Rattle.calls.specs.Calls as begin
use Rattle.calls.specs.Calls.{Call, link, ask, Way, way_after, State, step, run}
use Rattle.matching.proofs.Rows.{Accepted}
use Rattle.calls.proofs.Like.{Like, like-same, like-next, alike}
use Rattle.calls.proofs.View.{name-same}
use Rattle.calls.proofs.Ways.{same_of, left_by, link-ends, ask-leaves}
use Rattle.statics.specs.Statics.{Start, After}
use Rattle.statics.proofs.Linked.{leaves, left, more-fields, field-kept}

pub fold-ext : (f g : ℕ → ℕ → ℕ) (xs : List ℕ) (n : ℕ) → ((k x : ℕ) → Memᴰ x xs → f k x ≡ g k x) → fold f n xs ≡ fold g n xs
unfolding fold
fold-ext f g [] n h = refl
fold-ext f g (x ∷ xs) n h = rw (h n x (Memᴰ.head refl)) (fold-ext f g xs (g n x) (λ k y i. h k y (Memᴰ.tail i)))

-- a class's own fields are of the sheet
pub own_below : (ws : List ℕ) → Valid ws → (c f : ℕ) → IsClass ws c → Memᴰ f (own_fields ws c) → f < field_count ws
unfolding own_fields
own_below ws valid c f k i =
    let v = (valid.class c k).fields in
    omega (arith, numbers-within (class_first_field ws c) (list_count (class_first_field ws c) (class_field_count ws c) field_limit) f i)

module _ (ws abi : List ℕ) (start : Start ws) where
  -- what a list of calls has left
  record Inv (now : List ℕ) : Type 0 where
    pub like : Like ws now
    pub fields : field_count ws ≤ field_count now
    pub field : (f k : ℕ) → f < field_count ws → k < index_word → field_word now f k ≡ field_word ws f k
    pub still : (c k : ℕ) → IsClass ws c → class_table_place now c ≡ 0 → k < class_width → class_word now c k ≡ class_word ws c k
    pub after : (c : ℕ) → IsClass ws c → After ws now c

  start-inv : Inv ws
  start-inv = record {
    like = like-same ws;
    fields = omega arith;
    field = λ f k h l. refl;
    still = λ c k i z l. refl;
    after = λ c i.
        record {
          unlinked = λ k z. start.clean c i k;
          built = λ k n. absurd (n (start.unlinked c i.0 i.1));
          array = λ k. start.clean c i (λ e. omega arith);
          generated = λ k. refl;
        };
  }

  -- ---- the sum is that of the list's start

  module _ (now : List ℕ) (inv : Inv now) where
    add_same : (n f : ℕ) → f < field_count ws → add_static now (text_of now) n f ≡ add_static ws (text_of ws) n f
    unfolding add_static
    add_same n f h =
        let p = (start.valid.field f h).descriptor.inside in
        rw (
          inv.field f 4 h (omega arith),
          inv.field f descriptor_start_word h (omega arith),
          inv.field f descriptor_length_word h (omega arith),
          name-same ws now start.valid (alike inv.like) _ _ p,
        )

    own_same : (c : ℕ) → IsClass ws c → class_table_place now c ≡ 0 → own_fields now c ≡ own_fields ws c
    unfolding own_fields
    own_same c k z = rw (inv.still c first_field_word k z (omega arith), inv.still c field_count_word k z (omega arith))

    sum_same : (c : ℕ) → IsClass ws c → class_table_place now c ≡ 0 → static_words now (text_of now) c ≡ static_words ws (text_of ws) c
    unfolding static_words
    sum_same c k z =
        rw (own_same c k z)
        (fold-ext (add_static now (text_of now)) (add_static ws (text_of ws)) (own_fields ws c) 0 (λ n f i. add_same n f (own_below ws start.valid c f k i)))

  -- ---- an accepted link

  module _ (same : Same) (s : State) (inv : Inv s.set) (c : ℕ) (stubs : List ℕ) (o : LinkOutcome)
      (acc : Accepted same s.set abi c s.area stubs s.missing o) where
    abbrev new : List ℕ
    new = o.outcome.set

    here : (d : ℕ) → IsClass ws d → IsClass s.set d
    here d k = (k.0, omega (arith, k.1, inv.like.classes))

    own-class : IsClass ws c
    own-class = (acc.class.some, omega (arith, acc.class.among, inv.like.classes))

    other : (d k : ℕ) → IsClass ws d → d ≢ c → k < class_width → class_word new d k ≡ class_word s.set d k
    other d k i n h = (leaves same s.set abi c s.area stubs s.missing o acc).others d k i.0 (here d i).1 h n

    -- its class is linked now
    placed : class_table_place new c ≢ 0
    placed = rw (leaves same s.set abi c s.area stubs s.missing o acc).place acc.lent.some

    kind-is : (d : ℕ) → IsClass ws d → class_kind s.set d ≡ class_kind ws d
    kind-is d i = inv.like.word d kind_word i.0 i.1 (omega arith)

    own-after : After ws new c
    own-after =
        let l = left same s.set abi c s.area stubs s.missing o acc in
        record {
          unlinked = λ k z. absurd (placed z);
          built = λ k n. l.built (rw (kind-is c own-class) k) ∙ sum_same s.set inv c own-class acc.class.new;
          array = λ k. l.array (kind-is c own-class ∙ k);
          generated = λ k. l.generated (kind-is c own-class ∙ k) ∙ (inv.after c own-class).generated k;
        }

    other_after : (d : ℕ) → IsClass ws d → d ≢ c → After ws new d
    other_after d i n =
        let a = inv.after d i in
        let place = other d table_place_word i n (omega arith) in
        let word = other d static_words_word i n (omega arith) in
        record {
          unlinked = λ k z. word ∙ a.unlinked k (sym place ∙ z);
          built = λ k m. word ∙ a.built k (λ z. m (place ∙ z));
          array = λ k. word ∙ a.array k;
          generated = λ k. word ∙ a.generated k;
        }

    link-inv : Inv new
    link-inv = record {
      like = like-next ws s.set new inv.like (leaves same s.set abi c s.area stubs s.missing o acc).like;
      fields = omega (arith, inv.fields, more-fields same s.set abi c s.area stubs s.missing o acc);
      field = λ f k h l. field-kept same s.set abi c s.area stubs s.missing o acc f k (omega (arith, h, inv.fields)) l ∙ inv.field f k h l;
      still = λ d k i z h.
          by (eqb d c)
          (λ t. let e : d ≡ c = eqb-true d c t in absurd (placed (rw e at z)))
          (λ q.
          let n = eqb-false d c q in
          other d k i n h ∙ inv.still d k i (sym (other d table_place_word i n (omega arith)) ∙ z) h);
      after = λ d i.
          by (eqb d c) (λ t. let e : d ≡ c = eqb-true d c t in rw e own-after) (λ q. other_after d i (eqb-false d c q));
    }

  -- ---- any list

  same-inv : (now then : List ℕ) → then ≡ now → Inv now → Inv then
  same-inv now then e i = rw e i

  step-inv : (way : Way) (s : State) (k : Call) → Inv s.set → Inv (step way abi s k).set
  unfolding step
  step-inv way s (link c stubs) i =
      elim (link-ends way abi s c stubs) [
        | inl r ↦ same-inv s.set _ r.same_set i
        | inr a ↦ link-inv (same_of way s.set abi) s i c stubs (left_by way abi s c stubs) a
      ]
  step-inv way s (ask c j stubs) i = same-inv s.set _ (ask-leaves way abi s c j stubs) i

  run-inv : (way : Way) (ks : List Call) (s : State) → Inv s.set → Inv (run way abi ks s).set
  unfolding run
  run-inv way [] s i = i
  run-inv way (k ∷ ks) s i = run-inv (way_after way abi s k) ks (step way abi s k) (step-inv way s k i)

  pub after_calls : (way : Way) (area missing : List ℕ) (calls : List Call) (c : ℕ) → IsClass ws c → After ws (begin.left way ws abi area missing calls).set c
  after_calls way area missing calls c k = (run-inv way calls (begin.start ws area missing) start-inv).after c k
