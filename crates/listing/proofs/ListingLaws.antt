-- Laws of the listing, as the code makes it. Assumes nothing.
use mathlib.Core.Path.{◌≡◌, refl, ap, ◌∙◌}
use mathlib.Core.List.{List, [], ◌∷◌, ◌++◌, append_assoc, append-nil}
use Prim.Native.Nat.{ℕ, ◌+◌, ◌-◌, ◌≤◌, ◌<◌}
use native.Mathlib.Omega.{arith}
use native.Mathlib.Numerals.{add-one}
use lib.ListN.{length, get_or, take, drop, set, replicate, drop_of_length-le, get_or-map}
use lib.Seq.{take_all, take-suc-set, drop-cons}
use borrow.Author.Tests.{ne_eqb}
use Rattle.std.specs.Prelude.{map, Option, None, Result, Ok, Err}
use Rattle.std.specs.Result.{result_err}
use Rattle.std.proofs.lemmas.List.{map-set, length-map}
use Rattle.refusal.specs.declared.Refusal.{Refusal}
use Rattle.refusal.specs.Rows.{row}
use Rattle.refusal.proofs.Rows.{row_above}
use Rattle.abi_sheet.specs.AbiSheet.{abi_sheet_words}
use Rattle.words.specs.Folds.{table, stores}
use Rattle.words.proofs.FoldLaws.{stores-is}
use Rattle.words.proofs.ListLaws.{rest-suc}
use Rattle.descriptor.specs.Bytes.{text}
use Rattle.class_sheet.specs.ClassSheet.{sheet_words}
use Rattle.sheet.specs.Sheet.{read_class_sheet, read_abi_sheet}
use Rattle.sheet.specs.Sheet as sheet
use Rattle.link.specs.Stored.{link_outcome}
use Rattle.area.specs.declared.Answer.{Answer}
use Rattle.linking.specs.Link.{link_def}
use Rattle.lines.specs.Lines.{class_refused, sheet_refused}
use Rattle.listing.specs.Listing.{link_row, stub_words, linked, link_one, Links, links, link_all, class_text, class_texts, set_text, abi_line, classes_text, listing}

-- ---- the stub words

pub stubs_are : (i : ℕ) {s : List ℕ} → s ≡ stores i (λ k. 4026531840 + k) (replicate 1024 0) → i ≡ 1024 → s ≡ stub_words
unfolding stub_words
stubs_are i e h =
    e ∙ (ap (λ j. stores j (λ k. 4026531840 + k) (replicate 1024 0)) h
    ∙ (stores-is 1024 (λ k. 4026531840 + k) (replicate 1024 0) (omega arith)
    ∙ append-nil (table 1024 (λ k. 4026531840 + k))))

-- ---- the links, class by class

-- no refusal is the row 0
refused_not : (r : Refusal) → row r ≡ 0 → ⊥
refused_not r e = let h = row_above r in omega arith

-- what a link answers and leaves
link-listed : (a : Result Answer Refusal) (s t u ws abi area stubs missing : List ℕ) (c : ℕ)
    → link_outcome a s t u ≡ link_def ws abi c area stubs missing → linked (link_row (result_err a)) s t u ≡ link_one abi stubs c ws area missing
unfolding link_one
link-listed (Ok a) s t u ws abi area stubs missing c e = rw (← e) refl
link-listed (Err r) s t u ws abi area stubs missing c e = rw (← e) refl

-- the rows, with one kept more
take_next : (rs : List (Option Refusal)) (i : ℕ) (r : Option Refusal) → i < length rs
    → take (i + 1) (map link_row (set rs i r)) ≡ take i (map link_row rs) ++ (link_row r ∷ [])
take_next rs i r h =
    rw (add-one i, map-set link_row rs i r) (take-suc-set (map link_row rs) i (link_row r) (rw (length-map rs link_row) h))

append-one : (l : List ℕ) (b : ℕ) (m : List ℕ) → (l ++ (b ∷ [])) ++ m ≡ l ++ (b ∷ m)
append-one l b m = append_assoc l (b ∷ []) m

module _ (abi stubs : List ℕ) (n : ℕ) where
  -- what is left to link at turn i of the n classes, with the rows of those before
  unfoldable pub links_from : ℕ → List ℕ → List ℕ → List ℕ → List ℕ → Links
  links_from i rows ws area missing =
      let rest : Links = link_all abi stubs (n - i) (i + 1) ws area missing in links (take i rows ++ rest.rows) rest.set rest.area rest.missing

  pub links-start : (rows ws area missing : List ℕ) → links_from 0 rows ws area missing ≡ link_all abi stubs n 1 ws area missing
  unfolding links_from
  links-start rows ws area missing = let g : n - 0 ≡ n = omega arith in rw g

  pub links-turn : (i : ℕ) (rs : List (Option Refusal)) (a : Result Answer Refusal) {r : Option Refusal} (s t u ws area missing : List ℕ) → i < n
      → n ≤ length rs
      → link_outcome a s t u ≡ link_def ws abi (i + 1) area stubs missing → r ≡ result_err a
      → links_from (i + 1) (map link_row (set rs i r)) s t u ≡ links_from i (map link_row rs) ws area missing
  unfolding links_from link_all
  links-turn i rs a {r} s t u ws area missing h l e f =
      rw (rest-suc n i h, take_next rs i r (omega arith), append-one (take i (map link_row rs)) (link_row r))
      (rw (← link-listed a s t u ws abi area stubs missing (i + 1) e, f) refl)

  pub links-end : (i : ℕ) (rs : List (Option Refusal)) (ws area missing : List ℕ) → n ≤ i → length rs ≡ n
      → links_from i (map link_row rs) ws area missing ≡ links (map link_row rs) ws area missing
  unfolding links_from link_all
  links-end i rs ws area missing h l =
      let g : n - i ≡ 0 = omega arith in
      let t : take i (map link_row rs) ≡ map link_row rs = take_all i (map link_row rs) (omega (arith, length-map rs link_row)) in
      rw (g, t, append-nil (map link_row rs)) refl

-- ---- the texts, class by class

module _ (ws abi area : List ℕ) where
  pub class-refused : (c : ℕ) (r : Refusal) → class_text ws abi area c (row r) ≡ class_refused c (row r)
  unfolding class_text
  class-refused c r = rw (ne_eqb (row r) 0 (refused_not r))

  module _ (rs : List (Option Refusal)) where
    -- what is left to put at turn i of the classes
    unfoldable pub texts_from : ℕ → List ℕ
    texts_from i = class_texts ws abi area (i + 1) (drop i (map link_row rs))

    pub texts-start : texts_from 0 ≡ class_texts ws abi area 1 (map link_row rs)
    unfolding texts_from
    texts-start = refl

    next_row : (i : ℕ) → i < length rs → drop i (map link_row rs) ≡ link_row (get_or rs i None) ∷ drop (i + 1) (map link_row rs)
    next_row i h =
        drop-cons (map link_row rs) i 0 (omega (arith, length-map rs link_row)) ∙ rw (get_or-map link_row rs i None, ← add-one i)

    pub texts-turn : (i : ℕ) → i < length rs → texts_from i ≡ class_text ws abi area (i + 1) (link_row (get_or rs i None)) ++ texts_from (i + 1)
    unfolding texts_from class_texts
    texts-turn i h = rw (next_row i h)

    pub texts-end : (i : ℕ) → length rs ≤ i → texts_from i ≡ []
    unfolding texts_from class_texts
    texts-end i h =
        let d : drop i (map link_row rs) ≡ [] = drop_of_length-le (map link_row rs) {i = i} (omega (arith, length-map rs link_row)) in rw d

-- ---- the sheets

module _ (abi m : List ℕ) where
  module _ (n : ℕ) (read : sheet.outcome (Ok n) m ≡ read_abi_sheet abi (replicate abi_sheet_words 0)) where
    pub abi-good : abi_line abi ≡ []
    unfolding abi_line
    abi-good = rw (← read)

    pub listing-good : (classes : List ℕ) → listing abi classes ≡ classes_text m classes
    unfolding listing
    listing-good classes = rw (← read)

  module _ (r : Refusal) (read : sheet.outcome (Err r) m ≡ read_abi_sheet abi (replicate abi_sheet_words 0)) where
    pub abi-bad : abi_line abi ≡ sheet_refused (text "abi") (row r)
    unfolding abi_line
    abi-bad = rw (← read, ne_eqb (row r) 0 (refused_not r))

    pub listing-bad : (classes : List ℕ) → listing abi classes ≡ sheet_refused (text "abi") (row r)
    unfolding listing
    listing-bad classes = rw (← read, ne_eqb (row r) 0 (refused_not r), ← abi-bad)

module _ (abi classes m : List ℕ) where
  pub classes-good : (n : ℕ) → sheet.outcome (Ok n) m ≡ read_class_sheet classes (replicate sheet_words 0) → classes_text abi classes ≡ set_text m abi
  unfolding classes_text
  classes-good n read = rw (← read)

  pub classes-bad : (r : Refusal) → sheet.outcome (Err r) m ≡ read_class_sheet classes (replicate sheet_words 0)
      → classes_text abi classes ≡ sheet_refused (text "classes") (row r)
  unfolding classes_text
  classes-bad r read = rw (← read, ne_eqb (row r) 0 (refused_not r))
