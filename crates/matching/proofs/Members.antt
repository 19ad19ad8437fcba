-- Rows of members: what makes them valid stays where text is appended, rows are copied, indices are stored, and rows of new members follow whose names
-- are appended to the text. Assumes nothing.
use Rattle.std.proofs.Common.{◌≡◌, refl, ap, List, [], ◌++◌, ℕ, ◌+◌, ◌-◌, ◌≤◌, ◌<◌, arith, length, get_or, take, drop, length-append, length-take, length-drop, ltb, ltb-true, ltb-false}
use lib.ListN.{get_or-append}
use Rattle.words.proofs.Bools.{by}
use Rattle.words.proofs.Lists.{skip, part_at, length_part}
use Rattle.words.specs.Rows.{row_word}
use Rattle.text.specs.Text.{name_at}
use Rattle.class_sheet.specs.ClassSheet.{index_word}
use Rattle.set_rules.specs.Valid.{Part, ValidMember}
use Rattle.linking.specs.Compiler.{New, no_new}
use Rattle.linking.specs.Set.{new_text}
use Rattle.linking.specs.Grown.{new_members, row_indices}
use Rattle.linking.proofs.Grown.{length-members, length-row-indices, index-other}
use Rattle.linking.proofs.Appended.{member-row, new-name, new-descriptor, name-front}

-- ---- the bytes of a name or a descriptor

pub record Word (bs : List ℕ) : Type 0 where
  pub some : 1 ≤ length bs
  pub short : length bs ≤ 255
  pub printable : (i : ℕ) → i < length bs → (33 ≤ get_or bs i 0) × (get_or bs i 0 ≤ 126)

part_length : (text : List ℕ) (start len : ℕ) → start + len ≤ length text → length (name_at text start len) ≡ len
unfolding name_at
part_length text start len h = length_part text start len h

part-byte : (text : List ℕ) (start len i : ℕ) → i < len → get_or (name_at text start len) i 0 ≡ get_or text (start + i) 0
unfolding name_at
part-byte text start len i h = part_at text start len i 0 h

pub part-word : (text : List ℕ) (start len : ℕ) → Part text start len → Word (name_at text start len)
part-word text start len p =
    let e = part_length text start len p.inside in
    record {
      some = omega (arith, p.some);
      short = omega (arith, p.short);
      printable = λ i h. rw (part-byte text start len i (omega arith)) (p.printable i (omega arith));
    }

-- a part of a text that has these bytes
pub word-part : (text : List ℕ) (start len : ℕ) (bs : List ℕ) → name_at text start len ≡ bs → len ≡ length bs → Word bs → Part text start len
unfolding name_at
word-part text start len bs e l w =
    let n = length-take len (drop start text) in
    let d = length-drop start text in
    let q = ap length e in
    record {
      some = omega (arith, w.some);
      short = omega (arith, w.short);
      inside = omega (arith, w.some);
      printable = λ i h. rw (← part_at text start len i 0 h, e) (w.printable i (omega arith));
    }

pub part-more : (text more : List ℕ) (start len : ℕ) → Part text start len → Part (text ++ more) start len
part-more text more start len p =
    record {
      some = p.some;
      short = p.short;
      inside = omega (arith, p.inside, length-append text more);
      printable = λ i h. rw (get_or-append text more 0 (start + i) (omega (arith, p.inside))) (p.printable i h);
    }

-- ---- rows, by their words

abbrev pub AllRows : ((ℕ → ℕ) → Type 0) → List (List ℕ) → Type 0
AllRows P rows = (i : ℕ) → i < length rows → P (row_word rows i)

module _ (Derived : ℕ → List ℕ → Type 0) (Within : ℕ → Type 0) where
  abbrev pub Row : List ℕ → (ℕ → ℕ) → Type 0
  Row text w = ValidMember text (Derived (w 4)) Within (w 0) (w 1) (w 2) (w 3) (w 4)

  -- a row of the same first five words
  pub row_same : (text : List ℕ) (v w : ℕ → ℕ) → ((k : ℕ) → k < index_word → v k ≡ w k) → Row text w → Row text v
  row_same text v w e r =
      rw (e 0 (omega arith), e 1 (omega arith), e 2 (omega arith), e 3 (omega arith), e 4 (omega arith)) r

  row_more : (text more : List ℕ) (w : ℕ → ℕ) → Row text w → Row (text ++ more) w
  row_more text more w r =
      record {
        name = part-more text more (w 0) (w 1) r.name;
        descriptor = part-more text more (w 2) (w 3) r.descriptor;
        number = r.number;
        derivation = rw (name-front text more (w 2) (w 3) r.descriptor.inside) r.derivation;
      }

  pub rows_more : (text more : List ℕ) (rows : List (List ℕ)) → AllRows (Row text) rows → AllRows (Row (text ++ more)) rows
  rows_more text more rows h i b = row_more text more (row_word rows i) (h i b)

  pub rows_append : (text : List ℕ) (a b : List (List ℕ)) → AllRows (Row text) a → AllRows (Row text) b → AllRows (Row text) (a ++ b)
  rows_append text a b p q i h =
      by (ltb i (length a))
      (λ t.
      let l = ltb-true i (length a) t in
      row_same text (row_word (a ++ b) i) (row_word a i) (λ k g. ap (λ (r : List ℕ). get_or r k 0) (get_or-append a b [] i l)) (p i l))
      (λ t.
      let l = ltb-false i (length a) t in
      row_same text (row_word (a ++ b) i) (row_word b (i - length a))
      (λ k g. ap (λ (r : List ℕ). get_or r k 0) (skip a b i (i - length a) [] (omega arith)))
      (q (i - length a) (omega (arith, length-append a b))))

  pub rows-part : (text : List ℕ) (rows : List (List ℕ)) (first own : ℕ) → first + own ≤ length rows → AllRows (Row text) rows
      → AllRows (Row text) (take own (drop first rows))
  rows-part text rows first own l h i b =
      let n = length_part rows first own l in
      row_same text (row_word (take own (drop first rows)) i) (row_word rows (first + i))
      (λ k g. ap (λ (r : List ℕ). get_or r k 0) (part_at rows first own i [] (omega arith))) (h (first + i) (omega arith))

  pub rows_indexed : (text : List ℕ) (rows : List (List ℕ)) (first : ℕ) (is : List ℕ) → AllRows (Row text) rows → AllRows (Row text) (row_indices first is rows)
  rows_indexed text rows first is h i b =
      row_same text (row_word (row_indices first is rows) i) (row_word rows i) (λ k g. index-other first is rows i k (omega arith))
      (h i (omega (arith, length-row-indices first is rows)))

  -- ---- new members

  pub record Fine (x : New) : Type 0 where
    pub name : Word x.name
    pub descriptor : Word x.descriptor
    pub number : Within x.flags
    pub derivation : Derived x.flags x.descriptor

  pub rows_new : (text : List ℕ) (n : ℕ) → length text ≡ n → (new : List New) → ((j : ℕ) → j < length new → Fine (get_or new j no_new))
      → AllRows (Row (text ++ new_text new)) (new_members n new)
  rows_new text n e new fine i b =
      let h : i < length new = omega (arith, length-members n new) in
      let x : New = get_or new i no_new in
      let at : ℕ = n + length (new_text (take i new)) in
      let f = fine i h in
      rw (member-row n new i h)
      (record {
        name = word-part (text ++ new_text new) at (length x.name) x.name (new-name text n e new i h) refl f.name;
        descriptor = word-part (text ++ new_text new) (at + length x.name) (length x.descriptor) x.descriptor (new-descriptor text n e new i h) refl
            f.descriptor;
        number = f.number;
        derivation = rw (new-descriptor text n e new i h) f.derivation;
      })
