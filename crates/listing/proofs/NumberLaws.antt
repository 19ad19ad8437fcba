-- The listing's links and lines go by the numbers of signatures, and its text is defined by their bytes: they are the same. Assumes nothing.
use mathlib.Core.Path.{◌≡◌, refl, sym, ap, ◌∙◌}
use mathlib.Core.Logic.{inl, inr}
use mathlib.Core.Bool.{false, ◌||◌}
use mathlib.Core.List.{List, [], ◌∷◌}
use Prim.Native.Nat.{ℕ, ◌+◌, ◌≤◌}
use native.Mathlib.Omega.{arith}
use lib.ListN.{replicate, length-replicate}
use lib.Dec.{eqb, ltb}
use borrow.Author.Tests.{ltb-false}
use Rattle.words.proofs.Bools.{by, or-neither}
use Rattle.std.specs.Prelude.{Result, Ok, Err}
use Rattle.refusal.specs.declared.Refusal.{Refusal}
use Rattle.refusal.specs.Rows.{row}
use Rattle.refusal.proofs.Rows.{row_above}
use Rattle.class_sheet.specs.ClassSheet.{class_count, text_of, text_length, class_limit, text_limit}
use Rattle.abi_sheet.specs.AbiSheet.{abi_text_of, abi_text_length, abi_text_limit}
use Rattle.set_rules.specs.SetRules.{set_refusal}
use Rattle.linking.specs.Signature.{by_sheets, by_numbers}
use Rattle.linking.specs.Vtable.{Entry}
use Rattle.linking.specs.Link.{no_class, LinkOutcome, link_def}
use Rattle.linking.specs.Numbers.{fill_def}
use Rattle.linking.specs.Numbered.{NumberedOutcome, but_numbers, link_numbered}
use Rattle.area.specs.declared.Answer.{Answer}
use Rattle.link.specs.Stored.{link_outcome, numbered_outcome}
use Rattle.signatures.specs.Keys.{outcome}
use Rattle.matching.specs.Matching.{Agree}
use Rattle.matching.proofs.Parts.{faithful-agrees}
use Rattle.matching.proofs.Filling.{filling}
use Rattle.matching.proofs.Theorem.{matching}
use Rattle.matching.proofs.Numbered.{long-enough}
use Rattle.calls.proofs.Rows.{link-cases}
use Rattle.lines.specs.Lines.{slot_text, slot_texts, lines_of, is_unlisted, class_lines_by, class_lines}
use Rattle.listing.specs.Small.{Matched}

-- ---- a link

-- what a link leaves, by its answer
left-set : (a : Result Answer Refusal) (s t u v : List ℕ) → (numbered_outcome a s t u v).outcome.set ≡ s
left-set (Ok a) s t u v = refl
left-set (Err r) s t u v = refl

module _ (ws abi numbers : List ℕ) (m : Matched ws abi numbers) (c : ℕ) (area stubs missing s t u v : List ℕ) where
  abbrev done : NumberedOutcome
  done = link_numbered ws abi numbers c area stubs missing

  -- it is the link by bytes
  pub link-bytes : (a : Result Answer Refusal) → numbered_outcome a s t u v ≡ done → link_outcome a s t u ≡ link_def ws abi c area stubs missing
  link-bytes a e = ap but_numbers e ∙ matching.link_numbered_agrees ws abi numbers m.faithful c area stubs missing

  -- an accepted one leaves sheets that rows 3 to 5 accept, and a refused one leaves them
  still-accepted : (a : Result Answer Refusal) → numbered_outcome a s t u v ≡ done → set_refusal s abi ≡ 0
  still-accepted (Ok a) e =
      let z : done.outcome.refusal ≡ 0 = sym (ap (λ (o : NumberedOutcome). o.outcome.refusal) e) in
      let k : s ≡ done.outcome.set = ap (λ (o : NumberedOutcome). o.outcome.set) e in
      rw k (matching.numbered_stays ws abi numbers c area stubs missing z)
  still-accepted (Err r) e =
      let l = link-bytes (Err r) e in
      let n : row r ≡ (link_def ws abi c area stubs missing).outcome.refusal = ap (λ (o : LinkOutcome). o.outcome.refusal) l in
      let k : s ≡ (link_def ws abi c area stubs missing).outcome.set = ap (λ (o : LinkOutcome). o.outcome.set) l in
      elim (link-cases ws abi c area stubs missing) [
        | inl x ↦ rw (k ∙ x.same_set) m.accepted
        | inr x ↦ let g = row_above r in let z = x.number in absurd (omega arith)
      ]

  pub still-matched : (a : Result Answer Refusal) → numbered_outcome a s t u v ≡ done → Matched s abi v
  still-matched a e =
      let k : s ≡ done.outcome.set = sym (left-set a s t u v) ∙ ap (λ (o : NumberedOutcome). o.outcome.set) e in
      let n : v ≡ done.numbers = ap (λ (o : NumberedOutcome). o.numbers) e in
      record {
        accepted = still-accepted a e;
        faithful = rw (k, n) (matching.link_faithful ws abi numbers m.faithful c area stubs missing);
      }

-- ---- the lines of a class

module _ (ws abi numbers : List ℕ) (m : Matched ws abi numbers) where
  agree : Agree ws abi (by_numbers numbers) (by_sheets ws abi)
  agree = faithful-agrees ws abi numbers m.faithful

  texts-agree : (c i : ℕ) (T : List Entry) → c ≤ class_count ws
      → slot_texts (by_numbers numbers) ws (text_of ws) abi (abi_text_of abi) c i T ≡ slot_texts (by_sheets ws abi) ws (text_of ws) abi (abi_text_of abi) c i T
  unfolding slot_texts slot_text
  texts-agree c i [] h = refl
  texts-agree c i (e ∷ T) h =
      rw (
        matching.declared_agrees (by_numbers numbers) (by_sheets ws abi) ws abi agree m.accepted c i e.word h,
        texts-agree c (i + 1) T h,
      )

  -- a class that has lines is one of the set
  among : (c : ℕ) → is_unlisted ws abi c ≡ false → c ≤ class_count ws
  unfolding is_unlisted no_class
  among c e =
      let p = or-neither (no_class ws c || ltb class_limit (class_count ws) || ltb text_limit (text_length ws)) (ltb abi_text_limit (abi_text_length abi)) e in
      let q = or-neither (no_class ws c || ltb class_limit (class_count ws)) (ltb text_limit (text_length ws)) p.0 in
      let r = or-neither (no_class ws c) (ltb class_limit (class_count ws)) q.0 in
      let s = or-neither (eqb c 0) (ltb (class_count ws) c) r.0 in
      ltb-false (class_count ws) c s.1

  pub lines-bytes : (area : List ℕ) (c : ℕ) → class_lines_by (by_numbers numbers) ws abi area c ≡ class_lines ws abi area c
  unfolding class_lines class_lines_by lines_of
  lines-bytes area c =
      by (is_unlisted ws abi c) (λ t. rw t)
      (λ t.
      let h = among c t in
      rw (
        t,
        matching.entries_agree (by_numbers numbers) (by_sheets ws abi) ws abi agree m.accepted area c h,
        texts-agree c 0 _ h,
      ))

-- ---- the filling

module _ (ws abi : List ℕ) (accepted : set_refusal ws abi ≡ 0) where
  fills : (fill_def ws abi (replicate 1024 0)).refusal ≡ 0
  unfolding fill_def
  fills = rw (long-enough (replicate 1024 0) (omega (arith, length-replicate {0} {A = ℕ} 1024 0)), accepted)

  pub filled : (r : Result (Unit {0}) Refusal) {left : List ℕ} → outcome r left ≡ fill_def ws abi (replicate 1024 0) → Matched ws abi left
  filled r {left} e =
      let f = filling.filled ws abi (replicate 1024 0) fills in
      record { accepted = accepted; faithful = rw (ap (λ o. o.numbers) e) (filling.fill_faithful ws abi _ f.1) }
