-- A link moves at most its own class's method list, and then to the section's end, where no other list is. Assumes nothing.
use Rattle.std.proofs.Common.{◌≡◌, sym, ◌∙◌, subst, ◌≢◌, ◌⊎◌, ⊎_elim, List, [], ◌∷◌, ℕ, ◌+◌, ◌≤◌, ◌<◌, arith, length, eqb, eqb-true}
use borrow.Author.Tests.{eqb-false}
use Rattle.words.proofs.Bools.{by}
use Rattle.class_sheet.specs.ClassSheet.{first_method_word, method_count_word, method_count, text_length, text_words, text_of, class_first_method, class_method_count}
use Rattle.abi_sheet.specs.AbiSheet.{abi_text_length, abi_text_words, abi_text_of}
use Rattle.set_rules.specs.Valid.{IsClass, Valid}
use Rattle.set_rules.proofs.Valid.{valid}
use Rattle.linking.specs.Signature.{Same}
use Rattle.linking.specs.Link.{next_free, new_words, new_statics, linked_words, LinkOutcome}
use Rattle.linking.specs.Whose.{MethodsApart}
use Rattle.linking.proofs.Plans.{Plans, plans}
use Rattle.linking.proofs.Whose.{whose}
use Rattle.linking.proofs.Packed.{text-bytes}
use Rattle.calls.specs.Calls.{Call, link, ask, Way, State, way_after, step, run}
use Rattle.calls.specs.Owners.{Owners}
use Rattle.calls.proofs.Linked.{Leaves, link_leaves, link-own}
use Rattle.matching.proofs.Rows.{Accepted}
use Rattle.calls.proofs.Ways.{same_of, left_by, link-ends, ask-leaves}

-- class c's method list in the new words: where it was, or past all that was there
abbrev Own : List ℕ → List ℕ → ℕ → Type 0
Own old new c =
    ((class_first_method new c ≡ class_first_method old c) × (class_method_count new c ≡ class_method_count old c))
    ⊎ (class_first_method new c ≡ method_count old)

-- ---- one link that is accepted

module _ (same : Same) (ws abi : List ℕ) (c : ℕ) (area stubs missing : List ℕ) (o : LinkOutcome) (acc : Accepted same ws abi c area stubs missing o) where
  valid-now : Valid ws
  valid-now = (valid ws abi acc.valid).0

  abbrev planning : Plans same ws (text_of ws) abi (abi_text_of abi) area c acc.coming
  planning = plans same ws (text_of ws) abi (abi_text_of abi) area c acc.coming acc.comes

  abbrev left : List ℕ
  left = linked_words ws c (next_free area) (new_words ws (text_of ws) abi (abi_text_of abi) c) (new_statics ws (text_of ws) c) acc.coming

  both : Leaves ws left c (next_free area) (length acc.coming.table) × Own ws left c
  both =
      let v = valid-now.class c (acc.class.some, acc.class.among) in
      let i = planning.indices in
      let t = text-bytes (text_words ws) (text_length ws) in
      let l = text-bytes (abi_text_words abi) (abi_text_length abi) in (
        link_leaves ws c (next_free area) (new_words ws (text_of ws) abi (abi_text_of abi) c) (new_statics ws (text_of ws) c) acc.coming
            acc.class.some acc.class.among valid-now.fits v.methods v.fields (omega (arith, i, v.fields)) planning.generated
            (planning.method-bytes t l) (planning.field-bytes t l),
        link-own ws c (next_free area) (new_words ws (text_of ws) abi (abi_text_of abi) c) (new_statics ws (text_of ws) c) acc.coming
            acc.class.some acc.class.among valid-now.fits v.methods v.fields (omega (arith, i, v.fields)) planning.generated
            (planning.method-bytes t l) (planning.field-bytes t l),
      )

  -- another class's list is where it was
  other-first : (d : ℕ) → IsClass ws d → d ≢ c → class_first_method left d ≡ class_first_method ws d
  other-first d k n = both.0.others d first_method_word k.0 k.1 (omega arith) n

  other-count : (d : ℕ) → IsClass ws d → d ≢ c → class_method_count left d ≡ class_method_count ws d
  other-count d k n = both.0.others d method_count_word k.0 k.1 (omega arith) n

  here : (d : ℕ) → IsClass left d → IsClass ws d
  here d k = (k.0, omega (arith, k.1, both.0.like.classes))

  -- class c's list and another's
  own-other : (d m : ℕ) → IsClass left d → d ≢ c
      → class_first_method left c ≤ m → m < class_first_method left c + class_method_count left c
      → class_first_method left d ≤ m → m < class_first_method left d + class_method_count left d → c ≡ d
  own-other d m k n a b x y =
      let f = other-first d (here d k) n in
      let g = other-count d (here d k) n in
      let v = (valid-now.class d (here d k)).methods in
      ⊎_elim
      (λ same.
      valid-now.methods c d m (acc.class.some, acc.class.among) (here d k) (omega (arith, same.0)) (omega (arith, same.0, same.1)) (omega arith)
      (omega arith))
      (λ past. absurd (omega arith))
      both.1

  left-apart : MethodsApart left
  left-apart d e m k l a b x y =
      by (eqb d c)
      (λ t.
      let p : d ≡ c = eqb-true d c t in
      by (eqb e c)
      (λ u. p ∙ sym (eqb-true e c u))
      (λ u. p ∙ own-other e m l (eqb-false e c u) (rw p at a) (rw p at b) x y))
      (λ t.
      let n = eqb-false d c t in
      by (eqb e c)
      (λ u. let q : e ≡ c = eqb-true e c u in sym (own-other d m k n (rw q at x) (rw q at y) a b) ∙ sym q)
      (λ u.
      let r = eqb-false e c u in
      let f = other-first d (here d k) n in
      let g = other-count d (here d k) n in
      let f' = other-first e (here e l) r in
      let g' = other-count e (here e l) r in
      valid-now.methods d e m (here d k) (here e l) (omega arith) (omega arith) (omega arith) (omega arith)))

  linked-apart : MethodsApart o.outcome.set
  linked-apart = subst MethodsApart (sym acc.new-set) left-apart

-- ---- any list of calls

step-apart : (way : Way) (abi : List ℕ) (s : State) (k : Call) → MethodsApart s.set → MethodsApart (step way abi s k).set
unfolding step
step-apart way abi s (link c stubs) a =
    ⊎_elim
    (λ r. subst MethodsApart (sym r.same_set) a)
    (λ l. linked-apart (same_of way s.set abi) s.set abi c s.area stubs s.missing (left_by way abi s c stubs) l)
    (link-ends way abi s c stubs)
step-apart way abi s (ask c i stubs) a = subst MethodsApart (sym (ask-leaves way abi s c i stubs)) a

run-apart : (way : Way) (abi : List ℕ) (calls : List Call) (s : State) → MethodsApart s.set → MethodsApart (run way abi calls s).set
unfolding run
run-apart way abi [] s a = a
run-apart way abi (k ∷ ks) s a = run-apart (way_after way abi s k) abi ks (step way abi s k) (step-apart way abi s k a)

pub owners : Owners
owners = record {
  valid = λ ws v. v.methods;
  apart = run-apart;
  owner = λ way abi calls s c d m v k e.
      (whose.no_other (run way abi calls s).set c d m (run-apart way abi calls s v.methods) k e).0;
}
