-- Rows 4, 5 and 14 of the whole: the walk over the parts of a file in form gives the file's refusal, or its six words. Assumes nothing.
use mathlib.Core.Path.{◌≡◌, refl, ap, ◌∙◌}
use mathlib.Core.Bool.{Bool, true, false, cond, not, ◌&&◌, ◌||◌}
use mathlib.Core.List.{List, []}
use Prim.Native.Nat.{ℕ, ◌+◌}
use native.Mathlib.Omega.{arith}
use lib.ListN.{length, length-append}
use lib.Dec.{eqb, leb, ltb}
use Rattle.refusal.proofs.Rows.{row_above}
use borrow.Author.Tests.{ne_eqb, leb-true, leb-false, lt-ltb, le-ltb}
use Rattle.std.specs.Prelude.{Result, Ok, Err}
use Rattle.words.proofs.Bools.{by}
use Rattle.refusal.specs.declared.Refusal.{Refusal}
use Rattle.refusal.specs.declared.Refusal.TheVariants.{Record, Descriptor, FullLists}
use Rattle.refusal.specs.Rows.{row}
use Rattle.class_sheet.specs.ClassSheet.{method_limit, field_limit, text_limit}
use Rattle.linking.specs.Compiler.{New}
use Rattle.linking.specs.Set.{new_text}
use Rattle.class_form.specs.declared.Places.{Places}
use Rattle.class_form.specs.Form.{◌>>=◌, u2, form_refusal}
use Rattle.class_members.specs.declared.FileHead.{FileHead}
use Rattle.class_members.specs.Members.{member_places, field_places, method_places, class_bytes, file_flags, file_name, parent_index, file_parent, members_at, file_fields, file_methods, file_text, string_ok, field_ok, method_ok, every, names_ok, descriptors_ok, sheet_holds, file_refusal, file_outcome, class_file_head}
use Rattle.class_file.proofs.Laws.{length_members}
use Rattle.class_file.specs.Walk.{row_five, tally, parent_of, head_walked, Parted}

-- ---- a file's parts, by their places

module _ (bs : List ℕ) (at : Places) (parted : Parted bs at) where
  pub name_is : file_name bs ≡ class_bytes bs (u2 bs (at.head + 2))
  unfolding file_name
  name_is = rw parted.head_is

  pub index_is : parent_index bs ≡ u2 bs (at.head + 4)
  unfolding parent_index
  index_is = rw parted.head_is

  pub parent_is : file_parent bs ≡ parent_of bs (u2 bs (at.head + 4))
  unfolding file_parent parent_of
  parent_is = rw index_is

  pub flags_are : file_flags bs ≡ u2 bs at.head
  unfolding file_flags
  flags_are = rw parted.head_is

  pub fields_are : file_fields bs ≡ members_at bs [] 0 (member_places bs at.fields)
  unfolding file_fields field_places
  fields_are = rw parted.fields_is

  pub methods_are : (targets : List ℕ) → file_methods bs targets ≡ members_at bs targets 0 (member_places bs at.methods)
  unfolding file_methods method_places
  methods_are targets = rw parted.methods_is

  pub fields_counted : length (file_fields bs) ≡ u2 bs at.fields
  fields_counted = ap length fields_are ∙ length_members bs [] at.fields

  pub methods_counted : (targets : List ℕ) → length (file_methods bs targets) ≡ u2 bs at.methods
  methods_counted targets = ap length (methods_are targets) ∙ length_members bs targets at.methods

-- ---- the walk over them

-- the six words of an accepted file
unfoldable pub words_of : List ℕ → FileHead
words_of bs =
    record {
      name = length (file_name bs);
      parent = length (file_parent bs);
      flags = file_flags bs;
      fields = length (file_fields bs);
      methods = length (file_methods bs []);
      text = length (file_text bs []);
    }

-- the answer is that of the rows
abbrev pub Judges : List ℕ → Result FileHead Refusal → Type 0
Judges bs (Ok h) = (file_refusal bs [] ≡ 0) × (h ≡ words_of bs)
Judges bs (Err r) = file_refusal bs [] ≡ row r

not_leb : (a b : ℕ) → ltb b a ≡ not (leb a b)
not_leb a b =
    by (leb a b)
    (λ t. rw (le-ltb b a (leb-true a b t), t))
    (λ t. rw (lt-ltb b a (leb-false a b t), t))

not_three : (a b c : Bool) → (a && b && c) ≡ not (not a || not b || not c)
not_three true true true = refl
not_three true true false = refl
not_three true false c = refl
not_three false b c = refl

module _ (bs : List ℕ) where
  abbrev fs : List New
  fs = file_fields bs

  abbrev ms : List New
  ms = file_methods bs []

  abbrev named : Bool
  named = string_ok (file_name bs) && (eqb (parent_index bs) 0 || string_ok (file_parent bs))

  abbrev text : ℕ
  text = length (file_name bs) + length (file_parent bs) + (length (new_text fs) + length (new_text ms))

  text_is : length (file_text bs []) ≡ text
  unfolding file_text
  text_is = simp length-append (omega arith)

  abbrev big : Bool
  big = ltb field_limit (length fs) || ltb method_limit (length ms) || ltb text_limit text

  big_is : sheet_holds bs [] ≡ not big
  unfolding sheet_holds
  big_is =
      rw (text_is, not_leb (length fs) field_limit, not_leb (length ms) method_limit, not_leb text text_limit)
      (not_three (leb (length fs) field_limit) (leb (length ms) method_limit) (leb text text_limit))

  abbrev head_of : Result FileHead Refusal
  head_of =
      cond named (tally false fs) (Err Record) >>= (λ f.
      tally true ms >>= (λ m.
      cond (not (f.typed && m.typed)) (Err Descriptor)
      (cond (ltb field_limit f.members || ltb method_limit m.members || ltb text_limit (length (file_name bs) + length (file_parent bs) + (f.text + m.text)))
      (Err FullLists)
      (Ok (record {
        name = length (file_name bs);
        parent = length (file_parent bs);
        flags = file_flags bs;
        fields = f.members;
        methods = m.members;
        text = length (file_name bs) + length (file_parent bs) + (f.text + m.text);
      })))))

  judged : form_refusal bs ≡ 0 → Judges bs head_of
  unfolding tally names_ok descriptors_ok file_refusal words_of
  judged form =
      by named
      (λ a.
      by (every field_ok fs)
      (λ b.
      by (every method_ok ms)
      (λ c.
      by (every (row_five false) fs && every (row_five true) ms)
      (λ d.
      by big
      (λ e. rw (a, b, c, d, e, form, a, b, c, d, big_is, e))
      (λ e. rw (a, b, c, d, e) (rw (form, a, b, c, d, big_is, e), rw text_is)))
      (λ d. rw (a, b, c, d, form, a, b, c, d)))
      (λ c. rw (a, b, c, form, a, b, c)))
      (λ b. rw (a, b, form, a, b)))
      (λ a. rw (a, form, a))

pub head_is : (bs : List ℕ) (at : Places) → Parted bs at → Judges bs (head_walked bs at)
unfolding head_walked
head_is bs at parted =
    rw (
      ← (fields_are bs at parted),
      ← (methods_are bs at parted []),
    )
    (judged bs parted.form)

pub judged_outcome : (bs : List ℕ) (r : Result FileHead Refusal) → Judges bs r → file_outcome r [] [] [] ≡ class_file_head bs
unfolding class_file_head words_of
judged_outcome bs (Ok h) e = rw (e.0, e.1)
judged_outcome bs (Err r) e = let n = row_above r in rw (e, ne_eqb (row r) 0 (λ z. omega arith))

pub head_outcome : (bs : List ℕ) (at : Places) → Parted bs at → file_outcome (head_walked bs at) [] [] [] ≡ class_file_head bs
head_outcome bs at parted = judged_outcome bs (head_walked bs at) (head_is bs at parted)

-- what the walk answers is the rows' answer
pub head_told : (bs : List ℕ) (at : Places) → Parted bs at → {r : Result FileHead Refusal} → r ≡ head_walked bs at → Judges bs r
head_told bs at parted e = rw e (head_is bs at parted)
