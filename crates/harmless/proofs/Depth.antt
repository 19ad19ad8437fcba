-- Numbers fall along a chain, so that it has no more classes than its first one's number (`chain_length`), which by row 6 is at most the count, and that by
-- row 3 at most 64. Assumes nothing.
use Rattle.std.proofs.Common.{◌≡◌, refl, ◌≢◌, ⊎_elim, Bool, true, false, cond, not, ◌&&◌, ◌||◌, List, [], ◌∷◌, ℕ, ◌*◌, ◌/◌, ◌≤◌, arith, length, replicate, eqb, ltb, eqb-true, ltb-false}
use borrow.Author.Tests.{eqb-false}
use Rattle.words.specs.Lists.{list_from}
use Rattle.words.proofs.Bools.{by, or-neither}
use Rattle.class_sheet.specs.ClassSheet.{class_width, class_count, text_of}
use Rattle.abi_sheet.specs.AbiSheet.{abi_text_of}
use Rattle.class_rules.specs.ClassRules.{class_records}
use Rattle.abi_rules.specs.AbiRules.{abi_records}
use Rattle.set_rules.specs.SetRules.{set_fits, class_descriptors, abi_descriptors, records_refusal, set_refusal}
use Rattle.set_rules.proofs.Valid.{valid_exactly}
use Rattle.convert.proofs.Few.{at_most}
use Rattle.linking.specs.Signature.{Same, by_numbers}
use Rattle.linking.specs.Chain.{parent_of, chain}
use Rattle.linking.specs.Link.{no_class, is_linked, bad_array, bad_class, Outcome, refused_call, LinkOutcome, refused_link, link_by}
use Rattle.linking.specs.Ask.{bad_ask, ask_by}
use Rattle.linking.specs.Numbers.{numbers_short}
use Rattle.linking.specs.Numbered.{link_numbered, ask_numbered}
use Rattle.linking.proofs.ChainLaws.{chain_length}
use Rattle.linking.proofs.Opened.{opened}
use Rattle.harmless.specs.Depth.{Passed, Short, Shallow}

-- ---- rows 3 and 6

class-short : (ws : List ℕ) (c : ℕ) → class_count ws ≤ 64 → no_class ws c ≡ false → Short ws c
unfolding no_class
class-short ws c few h d l =
    let among = ltb-false (class_count ws) c (or-neither (eqb c 0) (ltb (class_count ws) c) h).1 in omega (arith, chain_length ws d)

-- ---- rows 3 to 6 of a call

set-rows : (ws abi : List ℕ) → set_refusal ws abi ≤ 5
unfolding set_refusal records_refusal
set-rows ws abi =
    at_most 5 (not (set_fits ws abi)) 3 _ (omega arith)
    (at_most 5 (not (class_records ws (text_of ws) && abi_records abi (abi_text_of abi))) 4 _ (omega arith)
    (at_most 5 (not (class_descriptors ws (text_of ws) && abi_descriptors abi (abi_text_of abi))) 5 0 (omega arith) (omega arith)))

-- a number from 1 to 6 has not passed
refused : (row : ℕ) → row ≢ 0 → row ≤ 6 → Passed row → ⊥
refused row n l p = ⊎_elim n (λ h. absurd (omega arith)) p

-- a call that `row` or 6 refuses first: it passed both
both-passed : {O : Type 0} (number : O → ℕ) (R : ℕ → O) → ((n : ℕ) → number (R n) ≡ n) → (row : ℕ) (none bad : Bool) (o : O) → eqb row 0 ≡ none → row ≤ 5
    → Passed (number (cond (not none) (R row) (cond bad (R 6) o))) → (row ≡ 0) × (bad ≡ false)
both-passed number R tells row true true o e l p = absurd (refused 6 (omega arith) (omega arith) (rw (tells 6) at p))
both-passed number R tells row true false o e l p = (eqb-true row 0 e, refl)
both-passed number R tells row false bad o e l p = absurd (refused row (eqb-false row 0 e) (omega arith) (rw (tells row) at p))

link-short : (same : Same) (ws abi : List ℕ) (c : ℕ) (area stubs missing : List ℕ) → Passed (link_by same ws abi c area stubs missing).outcome.refusal
    → Short ws c
unfolding link_by bad_class
link-short same ws abi c area stubs missing p =
    let number : LinkOutcome → ℕ = λ o. o.outcome.refusal in
    let q = both-passed number (λ n. refused_link n ws area missing) (λ n. refl)
    (set_refusal ws abi) _ (bad_class ws (text_of ws) c) _ refl (set-rows ws abi) p in
    let a = or-neither (no_class ws c || is_linked ws c || (not (eqb (parent_of ws c) 0) && not (is_linked ws (parent_of ws c))))
    (bad_array ws (text_of ws) c) q.1 in
    let b = or-neither (no_class ws c || is_linked ws c) (not (eqb (parent_of ws c) 0) && not (is_linked ws (parent_of ws c))) a.0 in
    class-short ws c (((valid_exactly ws abi).0 q.0).0.number_of_classes) (or-neither (no_class ws c) (is_linked ws c) b.0).0

ask-short : (same : Same) (ws abi : List ℕ) (c i : ℕ) (area stubs : List ℕ) → Passed (ask_by same ws abi c i area stubs).refusal → Short ws c × Short ws i
unfolding ask_by bad_ask
ask-short same ws abi c i area stubs p =
    let number : Outcome → ℕ = λ o. o.refusal in
    let q = both-passed number (λ n. refused_call n ws area) (λ n. refl) (set_refusal ws abi) _ (bad_ask ws c i) _ refl (set-rows ws abi) p in
    let a = or-neither (no_class ws c || no_class ws i || not (is_linked ws c)) (not (is_linked ws i)) q.1 in
    let b = or-neither (no_class ws c || no_class ws i) (not (is_linked ws c)) a.0 in
    let d = or-neither (no_class ws c) (no_class ws i) b.0 in
    let few = ((valid_exactly ws abi).0 q.0).0.number_of_classes in
    (class-short ws c few d.0, class-short ws i few d.1)

-- ---- by numbers: a list that is too short has not passed either

numbered-short : (ws abi numbers : List ℕ) (c : ℕ) (area stubs missing : List ℕ)
    → Passed (link_numbered ws abi numbers c area stubs missing).outcome.refusal → Short ws c
unfolding link_numbered link_by
numbered-short ws abi numbers c area stubs missing p =
    by (numbers_short numbers) (λ t. absurd (refused 3 (omega arith) (omega arith) (rw t at p)))
    (λ t. link-short (by_numbers numbers) ws abi c area stubs missing (rw t at p))

asked-short : (ws abi numbers : List ℕ) (c i : ℕ) (area stubs : List ℕ) → Passed (ask_numbered ws abi numbers c i area stubs).refusal
    → Short ws c × Short ws i
unfolding ask_numbered
asked-short ws abi numbers c i area stubs p =
    by (numbers_short numbers) (λ t. absurd (refused 3 (omega arith) (omega arith) (rw t at p)))
    (λ t. ask-short (by_numbers numbers) ws abi c i area stubs (rw t at p))

-- ---- THE THEOREM

pub shallow : Shallow
shallow = record { link = numbered-short; ask = asked-short; class = class-short }

-- ---- 64 is reached, and each of the two rows is needed. Links and asks that pass are those of `marked` (linking/proofs/Marked.antt).

-- the count n, and 65 records, each under the one before
abbrev line : ℕ → List ℕ
line n = n ∷ 0 ∷ 0 ∷ 0 ∷ 0 ∷ 0 ∷ list_from (λ k. k / class_width) 0 (class_width * 65)

pub record Depths : Type 0 where
  pub reached : length (chain (line 64) 64) ≡ 64
  -- 65 classes, which row 3 refuses
  pub too_many : length (chain (line 65) 65) ≡ 65
  pub refused_3 : (link_numbered (line 65) [] (replicate 1024 0) 65 [] [] []).outcome.refusal ≡ 3
  -- a number above the count, which row 6 refuses
  pub above : length (chain (line 64) 65) ≡ 65
  pub no_class_lem : no_class (line 64) 65 ≡ true

pub depths : Depths
unfolding opened numbers_short link_numbered
depths = record { reached = refl; too_many = refl; refused_3 = refl; above = refl; no_class_lem = refl }
