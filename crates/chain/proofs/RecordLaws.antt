-- Laws of member records that are read from the part of the words that begins with the first of them. Assumes nothing.
use mathlib.Core.Path.{◌≡◌, ◌∙◌}
use mathlib.Core.List.{List}
use Prim.Native.Nat.{ℕ, ◌+◌, ◌*◌}
use native.Mathlib.Omega.{arith}
use lib.ListN.{length, get_or, take, drop}
use lib.Seq.{get_or-drop}
use lib.Dec.{eqb}
use Rattle.words.proofs.Ext.{find-ext}
use Rattle.words.proofs.Laws.{part-rest}
use Rattle.words.specs.Lists.{numbers}
use Rattle.class_sheet.specs.ClassSheet.{member_width, method_limit, target_word, methods_at, method_word, class_first_method, class_method_count, method_target}
use Rattle.linking.specs.Chain.{list_count, own_methods, own_target}
use Rattle.chain.specs.Records.{method_records, record_word, first_target}

-- ---- the records of a section, whose first word is word `at`

-- the words from the section on, as the code takes them
pub section_words : (ws : List ℕ) (at : ℕ) {a n : ℕ} {r : List ℕ} → a ≡ at → n ≡ length ws → r ≡ take n (drop a ws) → r ≡ drop at ws
section_words ws at e f g = g ∙ rw (f, e) (part-rest ws at)

-- word k of record m
pub section_record : (ws : List ℕ) (at width m k : ℕ) → record_word (drop at ws) width m k ≡ get_or ws (at + width * m + k) 0
unfolding record_word
section_record ws at width m k =
    let e : at + (width * m + k) ≡ at + width * m + k = omega arith in get_or-drop at ws (width * m + k) 0 ∙ rw e

-- ---- the method records

pub records_are : (ws : List ℕ) {a n : ℕ} {r : List ℕ} → a ≡ methods_at ws → n ≡ length ws → r ≡ take n (drop a ws) → r ≡ method_records ws
unfolding method_records
records_are ws = section_words ws (methods_at ws)

pub method_record_lem : (ws : List ℕ) (m k : ℕ) → record_word (method_records ws) member_width m k ≡ method_word ws m k
unfolding method_records method_word
method_record_lem ws m k = section_record ws (methods_at ws) member_width m k

pub record_target : (ws : List ℕ) (t c : ℕ) {r : List ℕ} {f n : ℕ} → r ≡ method_records ws → f ≡ class_first_method ws c → n ≡ class_method_count ws c
    → first_target r f n t ≡ own_target ws t c
unfolding first_target own_target own_methods
record_target ws t c e g h =
    rw (e, g, h)
    (find-ext (λ m. eqb (record_word (method_records ws) member_width m target_word) t) (λ m. eqb (method_target ws m) t)
    (numbers (class_first_method ws c) (list_count (class_first_method ws c) (class_method_count ws c) method_limit))
    (λ m i. rw (method_record_lem ws m target_word)))
