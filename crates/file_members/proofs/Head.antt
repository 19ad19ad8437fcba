-- The rows of a reading are those of the head, with 14 by the lists after them, and targets play no part in the head's rows and words: by cases on
-- what refuses. Assumes nothing.
use mathlib.Core.Path.{◌≡◌, sym, ◌∙◌}
use mathlib.Core.Logic.{inl, inr}
use mathlib.Core.Bool.{true, cond, not}
use mathlib.Core.List.{List, []}
use Prim.Native.Nat.{ℕ, ◌*◌}
use native.Mathlib.Omega.{arith}
use lib.ListN.{length}
use lib.Dec.{eqb, leb}
use borrow.Author.Tests.{eqb-true, eqb-false, leb-true, le-leb, eq-eqb, ne_eqb}
use Rattle.words.proofs.Bools.{by, and_4}
use Rattle.class_sheet.specs.ClassSheet.{member_width}
use Rattle.class_members.specs.Members.{members_by, file_fields, file_methods, file_text, lists_hold, file_refusal, read_refusal, read_class_file, class_file_head}
use Rattle.class_members.proofs.Targets.{methods-length, text_same, refusal-same}
use Rattle.file_members.specs.Head.{answer_words, Lent, Head}

-- an outcome's row is the number that refuses
module _ (bs : List ℕ) where
  head-row : (class_file_head bs).refusal ≡ file_refusal bs []
  unfolding class_file_head
  head-row = by (eqb (file_refusal bs []) 0) (λ e. rw e (sym (eqb-true (file_refusal bs []) 0 e))) (λ e. rw e)

  head-accepted : file_refusal bs [] ≡ 0 → class_file_head bs ≡ members_by bs [] [] [] []
  unfolding class_file_head
  head-accepted e = rw e

  module _ (targets fields methods text : List ℕ) where
    read-row : (read_class_file bs targets fields methods text).refusal ≡ read_refusal bs targets fields methods text
    unfolding read_class_file
    read-row =
        by (eqb (read_refusal bs targets fields methods text) 0)
        (λ e. rw e (sym (eqb-true (read_refusal bs targets fields methods text) 0 e)))
        (λ e. rw e)

    -- a file that is accepted without lists
    read-lists : file_refusal bs [] ≡ 0 → read_refusal bs targets fields methods text ≡ cond (not (lists_hold bs targets fields methods text)) 14 0
    unfolding read_refusal
    read-lists e = rw (refusal-same bs targets, e)

    refused-alike : (file_refusal bs [] ≡ 0 → ⊥) → read_refusal bs targets fields methods text ≡ file_refusal bs []
    unfolding read_refusal
    refused-alike n = rw (refusal-same bs targets, ne_eqb (file_refusal bs []) 0 n)

    words-alike : read_refusal bs targets fields methods text ≡ 0 → file_refusal bs [] ≡ 0
        → answer_words (read_class_file bs targets fields methods text) ≡ answer_words (class_file_head bs)
    unfolding read_class_file class_file_head
    words-alike e h = rw (e, h, methods-length bs targets, text_same bs targets)

    -- the lists hold the file just where they hold what the head's words tell
    lent-holds : file_refusal bs [] ≡ 0 → Lent (class_file_head bs) targets fields methods text → lists_hold bs targets fields methods text ≡ true
    unfolding lists_hold
    lent-holds e l =
        let k : Lent (members_by bs [] [] [] []) targets fields methods text = rw (head-accepted e) at l in
        rw (
          methods-length bs targets,
          text_same bs targets,
          le-leb _ _ k.fields_room,
          le-leb _ _ k.methods_room,
          le-leb _ _ k.text_room,
          eq-eqb _ _ k.each_target,
        )

    holds-lent : file_refusal bs [] ≡ 0 → lists_hold bs targets fields methods text ≡ true → Lent (class_file_head bs) targets fields methods text
    unfolding lists_hold
    holds-lent e h =
        let p =
        and_4 (leb (member_width * length (file_fields bs)) (length fields)) (leb (member_width * length (file_methods bs [])) (length methods))
        (leb (length (file_text bs [])) (4 * length text)) (eqb (length targets) (length (file_methods bs [])))
        (rw (methods-length bs targets, text_same bs targets) at h) in
        let k : Lent (members_by bs [] [] [] []) targets fields methods text =
        record {
          fields_room = leb-true _ _ p.0;
          methods_room = leb-true _ _ p.1;
          text_room = leb-true _ _ p.2;
          each_target = eqb-true _ _ p.3;
        } in
        rw (head-accepted e) k

    by-lists : file_refusal bs [] ≡ 0 → lists_hold bs targets fields methods text ≡ true → read_refusal bs targets fields methods text ≡ 0
    by-lists e h = read-lists e ∙ rw h

    -- 0 without lists where it is 0 with them
    accepted-alike : read_refusal bs targets fields methods text ≡ 0 → file_refusal bs [] ≡ 0
    accepted-alike e =
        by (eqb (file_refusal bs []) 0) (eqb-true (file_refusal bs []) 0)
        (λ n. sym (refused-alike (eqb-false (file_refusal bs []) 0 n)) ∙ e)

pub head : Head
head bs targets fields methods text =
    let h = head-row bs in
    let r = read-row bs targets fields methods text in
    record {
      refused = λ n. r ∙ (refused-alike bs targets fields methods text (λ e. n (h ∙ e)) ∙ sym h);
      accepted = λ e.
          by (lists_hold bs targets fields methods text)
          (λ t.
          let z = by-lists bs targets fields methods text (sym h ∙ e) t in
          inr (r ∙ z, words-alike bs targets fields methods text z (sym h ∙ e)))
          (λ f. inl (r ∙ (read-lists bs targets fields methods text (sym h ∙ e) ∙ rw f)));
      enough = λ e l. r ∙ by-lists bs targets fields methods text (sym h ∙ e) (lent-holds bs targets fields methods text (sym h ∙ e) l);
      short = λ e.
          let z = accepted-alike bs targets fields methods text (sym r ∙ e) in
          by (lists_hold bs targets fields methods text) (holds-lent bs targets fields methods text z)
          (λ f. let w : ◌≡◌ {A = ℕ} 14 0 = sym (read-lists bs targets fields methods text z ∙ rw f) ∙ (sym r ∙ e) in absurd (omega arith));
    }
