-- Laws of row 3 for a class sheet, the reading's form as the code tests it, and of row 4's records as it reads them. Assumes nothing.
use mathlib.Core.Path.{◌≡◌, refl, ◌∙◌}
use mathlib.Core.Logic.{◌≢◌}
use mathlib.Core.Bool.{Bool, true, false, not, ◌||◌, false≢true}
use mathlib.Core.List.{List}
use Prim.Native.Nat.{ℕ, zero, suc, ◌+◌, ◌*◌, ◌/◌, ◌%◌, ◌≤◌}
use Rattle.std.proofs.Common.{bit_and}
use Rattle.std.proofs.lemmas.Nat.Bits.{and_high}
use native.Mathlib.Omega.{arith}
use lib.ListN.{length, get_or, take, drop}
use lib.Dec.{eqb, leb}
use borrow.Author.Tests.{ne_eqb, eqb-true, leb-true, not-true, not-false}
use Rattle.words.proofs.Bools.{and_both, and_4, and_6}
use Rattle.words.proofs.Laws.{part-rest}
use Rattle.words.specs.Folds.{all_of}
use Rattle.words.proofs.FoldLaws.{all-ext}
use Rattle.block.specs.Block.{least_fit}
use Rattle.text.specs.Text.{number_word, zero_rest, printable, signature_clean, member_clean}
use Rattle.text.proofs.Laws.{signature-is, member_is}
use Rattle.class_sheet.specs.ClassSheet.{member_width, class_limit, method_limit, field_limit, interface_limit, compiler_limit, text_limit, class_count, method_count, field_count, interface_count, compiler_count, text_length, methods_at, fields_at, text_at, content_end, method_word, field_word, class_kind, class_table_place, class_slot_count, class_static_words, is_built_kind}
use Rattle.class_sheet.proofs.Laws.{Within}
use Rattle.class_rules.specs.ClassRules.{class_limits, class_fits, unlinked, statics_clean, fresh, all_fresh, class_form, method_flags_ok, method_record, field_record}

-- ---- what the tests say

pub limits : (ws : List ℕ) → class_limits ws ≡ true → Within ws
unfolding class_limits
limits ws h =
    let p = and_6 (leb (class_count ws) class_limit) (leb (method_count ws) method_limit) (leb (field_count ws) field_limit)
    (leb (interface_count ws) interface_limit) (leb (compiler_count ws) compiler_limit) (leb (text_length ws) text_limit) h in
    record {
      classes = leb-true _ _ p.0;
      methods = leb-true _ _ p.1;
      fields = leb-true _ _ p.2;
      interfaces = leb-true _ _ p.3;
      compilers = leb-true _ _ p.4;
      text = leb-true _ _ p.5;
    }

pub fits : (ws : List ℕ) → class_fits ws ≡ true → Within ws × (content_end ws ≤ length ws)
unfolding class_fits
fits ws h = let p = and_both (class_limits ws) (leb (content_end ws) (length ws)) h in (limits ws p.0, leb-true _ _ p.1)

pub formed : (ws : List ℕ) → class_form ws ≡ true → Within ws
unfolding class_form
formed ws h =
    limits ws
    (and_4 (class_limits ws) (least_fit (content_end ws) (length ws)) (zero_rest ws (4 * text_at ws + text_length ws)) (all_fresh ws) h).0

or_left : (a b : Bool) → b ≡ true → (a || not b) ≡ true → a ≡ true
or_left true b h e = refl
or_left false b h e = absurd (false≢true (rw h at e))

-- a class is fresh by four words of its record
pub fresh-same : (ws us : List ℕ) (c d : ℕ) → class_kind ws c ≡ class_kind us d → class_table_place ws c ≡ class_table_place us d
    → class_slot_count ws c ≡ class_slot_count us d → class_static_words ws c ≡ class_static_words us d → fresh ws c ≡ fresh us d
unfolding fresh unlinked statics_clean
fresh-same ws us c d kind place slots statics = rw (kind, place, slots, statics)

some-kind : (k : ℕ) → k ≤ 3 → k ≢ 1 → (is_built_kind k || eqb k 2) ≡ true
unfolding is_built_kind
some-kind zero h n = refl
some-kind (suc zero) h n = absurd (n refl)
some-kind (suc (suc zero)) h n = refl
some-kind (suc (suc (suc zero))) h n = refl
some-kind (suc (suc (suc (suc k)))) h n = absurd (omega arith)

-- what it says: no table, and no static words of a class of any kind but generated
abbrev pub Fresh : List ℕ → ℕ → Type 0
Fresh ws c =
    (class_table_place ws c ≡ 0) × (class_slot_count ws c ≡ 0) × (class_kind ws c ≤ 3 → class_kind ws c ≢ 1 → class_static_words ws c ≡ 0)

pub fresh-says : (ws : List ℕ) (c : ℕ) → fresh ws c ≡ true → Fresh ws c
unfolding fresh unlinked statics_clean
fresh-says ws c h =
    let p = and_both (unlinked ws c) (statics_clean ws c) h in
    let q = and_both (eqb (class_table_place ws c) 0) (eqb (class_slot_count ws c) 0) p.0 in (
      eqb-true _ _ q.0,
      eqb-true _ _ q.1,
      λ k n. eqb-true _ _ (or_left (eqb (class_static_words ws c) 0) _ (some-kind (class_kind ws c) k n) p.1),
    )

-- ---- row 4's records, as the code reads them: from their section's beginning on, told whether the text is printable

module _ (ws text : List ℕ) {clean : Bool} (told : clean ≡ printable text) where
  module _ (m : ℕ) {at w : ℕ} {s : Bool} (section : at ≡ methods_at ws) (number : w ≡ m) (both : s ≡ signature_clean ws (at + member_width * w) text clean) where
    pub method-stop : not s ≡ true → false ≡ method_record ws text m
    unfolding method_record method_word
    method-stop h = let q = rw (section, number) at both in rw (← (signature-is ws text told (methods_at ws + member_width * m)), ← q, not-true s h)

    pub method_on : not s ≡ false → {f : ℕ} {g : Bool} → f ≡ get_or ws (at + member_width * w + number_word) 0 → g ≡ method_flags_ok f → g ≡ method_record ws text m
    unfolding method_record method_word
    method_on h e k =
        let q = rw (section, number) at both in
        rw (← (signature-is ws text told (methods_at ws + member_width * m)), ← q, not-false s h) (k ∙ rw (e, section, number))

  pub fields_are : {at n : ℕ} {p : List ℕ} {r : Bool} → at ≡ fields_at ws → p ≡ take (length ws) (drop at ws) → n ≡ field_count ws
      → r ≡ all_of n (member_clean p member_width 65535 text clean) → r ≡ all_of (field_count ws) (field_record ws text)
  unfolding field_record field_word
  fields_are {p = p} e q f g =
      let rest : p ≡ drop (fields_at ws) ws = q ∙ rw e (part-rest ws (fields_at ws)) in
      g ∙ rw f (all-ext (field_count ws) _ _ (λ i l. member_is ws text told (fields_at ws) member_width 65535 i rest))

-- ---- a flag that is masked is the bit of its definition

worth : (q : ℕ) → eqb (q * 512) 0 ≡ eqb q 0
worth zero = refl
worth (suc q) = rw (ne_eqb (suc q * 512) 0 (omega arith), ne_eqb (suc q) 0 (omega arith)) refl

pub flag_9 : (n : ℕ) → eqb (bit_and n 512) 0 ≡ eqb (n / 512 % 2) 0
flag_9 n = rw (and_high n 1 9) (worth (n / 512 % 2))
