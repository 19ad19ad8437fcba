-- What an accepted link leaves of the class words, whichever of its lists grow: its sections are those that were there, but for the class's record and
-- what is added (`linked-left`), and each named word is read off them. Assumes nothing.
use Rattle.std.proofs.Common.{◌≡◌, sym, ap, ◌∙◌, ◌≢◌, ◌⊎◌, inl, inr, ⊎_elim, false, List, ◌++◌, ℕ, ◌+◌, ◌-◌, ◌≤◌, ◌<◌, arith, length, get_or, eqb, eqb-true}
use borrow.Author.Tests.{eqb-false}
use Rattle.words.proofs.Bools.{by}
use Rattle.class_sheet.specs.ClassSheet.{class_width, member_width, first_method_word, method_count_word, first_field_word, field_count_word, table_place_word, slot_count_word, class_count, method_count, field_count, content_end, class_word, class_kind, class_first_method, class_method_count, class_first_field, class_field_count, class_table_place, class_slot_count, method_word}
use Rattle.words.specs.Rows.{row_word}
use Rattle.words.specs.Words.{AreBytes}
use Rattle.class_sheet.specs.Sections.{Sections, laid_out, sections_of}
use Rattle.class_sheet.proofs.Sections.{number_of_classes, number_of_methods, class-word, method-word, text-of, formed-of, class_of, method-of, text-of-words}
use Rattle.linking.specs.Compiler.{members}
use Rattle.linking.specs.Set.{new_text}
use Rattle.linking.specs.Link.{Plan, is_none, linked_words}
use Rattle.linking.specs.Grown.{linked_sections}
use Rattle.linking.proofs.LinkedSections.{lies-of, linked-laid}
use Rattle.linking.proofs.LinkedBack.{Left, early, linked-left, linked-still, linked-own}
use Rattle.linking.proofs.Rebuilt.{Unmoved}
use Rattle.calls.proofs.Like.{Like}

-- all records but class c's are left, which has its place and its slots
pub record Leaves (old new : List ℕ) (c p n : ℕ) : Type 0 where
  pub like : Like old new
  pub others : (d k : ℕ) → 1 ≤ d → d ≤ class_count old → k < class_width → d ≢ c → class_word new d k ≡ class_word old d k
  pub place : class_table_place new c ≡ p
  pub slots : class_slot_count new c ≡ n

-- every other class lists its own methods as before
pub unmoved-other : {old new : List ℕ} {c p n : ℕ} → Leaves old new c p n → (d : ℕ) → 1 ≤ d → d ≤ class_count old → d ≢ c → Unmoved old new d
unmoved-other l d s a n = record {
  first = l.others d first_method_word s a (omega arith) n;
  many = l.others d method_count_word s a (omega arith) n;
}

module _ (ws : List ℕ) (c place words statics : ℕ) (p : Plan) (some : 1 ≤ c) (among : c ≤ class_count ws) (fits : content_end ws ≤ length ws)
    (methods : class_first_method ws c + class_method_count ws c ≤ method_count ws) (fields : class_first_field ws c + class_field_count ws c ≤ field_count ws)
    (inside : class_first_field ws c + length p.indices ≤ field_count ws) (generated : is_none (members p.added) ≡ false → class_kind ws c ≡ 1)
    (method-bytes : AreBytes (new_text (members p.added))) (field-bytes : AreBytes (new_text p.new_fields)) where
  abbrev s : Sections
  s = sections_of ws

  abbrev g : Sections
  g = linked_sections s c place words statics p

  -- a word of class c's record
  own : (k : ℕ) → k < class_width → class_word ws c k ≡ row_word s.classes (c - 1) k
  own k h = class_of ws fits c k some among h

  within : c ≤ length s.classes
  within = omega (arith, (lies-of ws fits).classes)

  linked : (more : List ℕ) × Left s g c place (length p.table) more
  linked =
      linked-left s (formed-of ws fits) c place words statics p some within
      (omega (arith, methods, own first_method_word (omega arith), own method_count_word (omega arith), (lies-of ws fits).methods))
      (omega (arith, fields, own first_field_word (omega arith), own field_count_word (omega arith), (lies-of ws fits).fields)) method-bytes field-bytes

  abbrev left : Left s g c place (length p.table) linked.0
  left = linked.1

  -- a class word of the new sections, and one that is left
  at-class : (d k : ℕ) → 1 ≤ d → d ≤ class_count ws → k < class_width → class_word (laid_out g) d k ≡ row_word g.classes (d - 1) k
  at-class d k l h b = class-word g left.formed d k l (omega (arith, left.classes, (lies-of ws fits).classes)) b

  kept : (d k : ℕ) → 1 ≤ d → d ≤ class_count ws → k < class_width → row_word g.classes (d - 1) k ≡ row_word s.classes (d - 1) k
      → class_word (laid_out g) d k ≡ class_word ws d k
  kept d k l h b e = at-class d k l h b ∙ e ∙ sym (class_of ws fits d k l h b)

  other : (d k : ℕ) → 1 ≤ d → d ≤ class_count ws → k < class_width → d ≢ c → class_word (laid_out g) d k ≡ class_word ws d k
  other d k l h b n = kept d k l h b (left.others (d - 1) k (λ e. n (omega arith)))

  -- its method list grows only where it is generated
  still : (k : ℕ) → k < first_field_word → class_kind ws c ≢ 1 → class_word (laid_out g) c k ≡ class_word ws c k
  still k h n =
      by (is_none (members p.added))
      (λ t. kept c k some among (omega arith) (linked-still s (formed-of ws fits) c place words statics p some within t k h))
      (λ f. absurd (n (generated f)))

  method : (m k : ℕ) → m < method_count ws → k < member_width → method_word (laid_out g) m k ≡ method_word ws m k
  method m k h b =
      method-word g left.formed m k (omega (arith, left.more-methods, (lies-of ws fits).methods)) b
      ∙ ap (λ (r : List ℕ). get_or r k 0) (left.methods m (omega (arith, (lies-of ws fits).methods))) ∙ sym (method-of ws fits m k h b)

  leaves : Leaves ws (laid_out g) c place (length p.table)
  leaves = record {
    like = record {
      classes = number_of_classes g ∙ left.classes ∙ sym (lies-of ws fits).classes;
      methods = omega (arith, number_of_methods g, left.more-methods, (lies-of ws fits).methods);
      word = λ d k l h b.
          by (eqb d c)
          (λ t. let e : d ≡ c = eqb-true d c t in rw e (kept c k some among (omega arith) (left.kept k (early k b))))
          (λ f. other d k l h (omega arith) (eqb-false d c f));
      listed = λ d k l h n b.
          by (eqb d c)
          (λ t. let e : d ≡ c = eqb-true d c t in rw e (still k b (rw e at n)))
          (λ f. other d k l h (omega arith) (eqb-false d c f));
      method = method;
      more = linked.0;
      text = text-of g left.formed ∙ left.text ∙ ap (λ (t : List ℕ). t ++ linked.0) (sym (text-of-words ws fits));
    };
    others = other;
    place = at-class c table_place_word some among (omega arith) ∙ left.place;
    slots = at-class c slot_count_word some among (omega arith) ∙ left.slots;
  }

  pub link_leaves : Leaves ws (linked_words ws c place words statics p) c place (length p.table)
  link_leaves = rw (linked-laid ws fits c place words statics p some among inside methods fields) leaves

  -- its method list is where it was, or begins where the section ended
  own-list : ((class_first_method (laid_out g) c ≡ class_first_method ws c) × (class_method_count (laid_out g) c ≡ class_method_count ws c))
      ⊎ (class_first_method (laid_out g) c ≡ method_count ws)
  own-list =
      ⊎_elim
      (λ same. inl (
        kept c first_method_word some among (omega arith) (same first_method_word (omega arith)),
        kept c method_count_word some among (omega arith) (same method_count_word (omega arith)),
      ))
      (λ past. inr (at-class c first_method_word some among (omega arith) ∙ past ∙ sym (lies-of ws fits).methods))
      (linked-own s (formed-of ws fits) c place words statics p some within)

  pub link-own :
      ((class_first_method (linked_words ws c place words statics p) c ≡ class_first_method ws c)
      × (class_method_count (linked_words ws c place words statics p) c ≡ class_method_count ws c))
      ⊎ (class_first_method (linked_words ws c place words statics p) c ≡ method_count ws)
  link-own = rw (linked-laid ws fits c place words statics p some among inside methods fields) own-list
