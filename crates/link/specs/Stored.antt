-- What a link stores in the class words, as the code goes: what grows, then the record, then the indices; its last rows, and what it answers. Assumes
-- nothing.
use Rattle.std.specs.Prelude.{ℕ, ◌+◌, ◌≤◌, ◌≡◌, ◌≢◌, true, false, cond, not, ◌&&◌, ◌||◌, List, [], length, eqb, Result, Ok, Err}
use Rattle.class_sheet.specs.ClassSheet.{method_limit, method_count, text_of, class_kind, is_built_kind, class_first_method, class_method_count, class_first_field, fields_at}
use Rattle.abi_sheet.specs.AbiSheet.{abi_text_of}
use Rattle.set_rules.specs.SetRules.{set_fits, set_refusal}
use Rattle.linking.specs.Signature.{Same, by_numbers}
use Rattle.linking.specs.Compiler.{New, Taken, members}
use Rattle.linking.specs.Set.{write_at, put_indices}
use Rattle.linking.specs.Numbered.{NumberedOutcome, leaving, numbers_planned}
use Rattle.linking.specs.Packages.{bad_packages}
use Rattle.linking.specs.Counts.{missing_short}
use Rattle.linking.specs.Link.{Plan, is_none, linked_record, lists_full, set_short, no_room, bad_class, bad_area, plan, link_by, refused_link, LinkOutcome}
use Rattle.growth.specs.declared.news.Member.{Member}
use Rattle.growth.specs.Growth.{methods_grown, fields_grown, growing, numbers_grown}
use Rattle.area.specs.Area.{outcome}
use Rattle.area.specs.declared.Answer.{Answer}
use Rattle.plan.specs.Plans.{methods_of, fields_of, Leaves}
use Rattle.plan.specs.declared.Plan as P
use Rattle.growth.specs.News.{added_of}
use Rattle.linking.specs.Sheets.{of_sheets}
use Rattle.link.specs.declared.Growing.{Growing}
use Rattle.refusal.specs.declared.Refusal.{Refusal}
use Rattle.refusal.specs.Rows.{row}

-- a plan by its new members alone: what row 14 and the set's part of row 15 ask for
abbrev pub members_plan : List ℕ → ℕ → List Taken → Plan
members_plan ws c new = record { table = []; indices = []; added = methods_of ws c new; new_fields = fields_of ws c new }

-- what f says of class words, a class and that plan, where the code has the class and its new members
abbrev pub of_growing {ℓ} : {A : Type ℓ} → (List ℕ → ℕ → Plan → A) → Growing → A
of_growing f g = f g.sheets.set.now g.c (members_plan g.sheets.set.now g.c (of_sheets added_of g.sheets g.news.now))

-- ---- the class words

-- the record and the indices of the class's own fields, where they now stand
unfoldable pub numbered : List ℕ → ℕ → ℕ → ℕ → ℕ → ℕ → List ℕ → List ℕ
numbered ws c place slots words statics indices =
    put_indices (fields_at ws) (class_first_field ws c) indices (linked_record ws c place slots words statics)

unfoldable pub with_methods : List ℕ → ℕ → List New → List ℕ
with_methods ws c new = cond (is_none new) ws (methods_grown ws c new)

unfoldable pub stored : List ℕ → ℕ → ℕ → ℕ → ℕ → ℕ → List ℕ → List New → List New → List ℕ
stored ws c place slots words statics indices methods fields =
    cond (is_none fields)
    (numbered (with_methods ws c methods) c place slots words statics indices)
    (linked_record (fields_grown ws c indices fields) c place slots words statics)

abbrev pub stored_news : List ℕ → ℕ → ℕ → ℕ → ℕ → ℕ → List ℕ → List Taken → List ℕ
stored_news ws c place slots words statics indices new =
    stored ws c place slots words statics indices (members (methods_of ws c new)) (fields_of ws c new)

-- ---- the list of numbers: it grows with the methods of a class that is not built

unfoldable pub numbers_stored : List ℕ → ℕ → List ℕ → List Member → List ℕ
numbers_stored ws c numbers ms =
    cond (not (is_built_kind (class_kind ws c)) && not (eqb (length ms) 0))
    (write_at numbers (growing ws c).count (numbers_grown numbers (growing ws c) ms)) numbers

-- there is room for them
pub record Storable (ws : List ℕ) (c : ℕ) (numbers : List ℕ) (ms : List Member) : Type 0 where
  pub long : method_limit ≤ length numbers
  pub list : is_built_kind (class_kind ws c) ≡ false → length ms ≢ 0
      → (class_first_method ws c + class_method_count ws c ≤ method_count ws)
      × (method_count ws + (class_method_count ws c + length ms) ≤ method_limit)

-- ---- rows 14 and 15 of a plan whose table has n slots: the number that refuses it, or 0

unfoldable pub room_row : List ℕ → ℕ → Plan → List ℕ → List ℕ → List ℕ → ℕ → ℕ
room_row ws c p area stubs missing n =
    cond (lists_full ws c p) 14 (cond (no_room area stubs n || set_short ws c p || missing_short ws missing) 15 0)

-- ---- what a link answers and leaves

abbrev pub link_outcome : Result Answer Refusal → List ℕ → List ℕ → List ℕ → LinkOutcome
link_outcome r ws area missing = record { outcome = outcome r ws area; missing = missing }

abbrev pub numbered_outcome : Result Answer Refusal → List ℕ → List ℕ → List ℕ → List ℕ → NumberedOutcome
numbered_outcome r ws area missing numbers = leaving (link_outcome r ws area missing) numbers

-- a link by the numbers of a list that is long enough, and the list that it leaves
unfoldable pub link_long : List ℕ → List ℕ → List ℕ → ℕ → List ℕ → List ℕ → List ℕ → NumberedOutcome
link_long ws abi numbers c area stubs missing =
    let done : LinkOutcome = link_by (by_numbers numbers) ws abi c area stubs missing in
    leaving done
    (cond (eqb done.outcome.refusal 0) (numbers_planned ws numbers c (plan (by_numbers numbers) ws (text_of ws) abi (abi_text_of abi) area c)) numbers)

-- row 3 accepts the sheets, and the texts are theirs
pub record Fitting (ws abi text labels : List ℕ) : Type 0 where
  pub fits : set_fits ws abi ≡ true
  pub text_is : text ≡ text_of ws
  pub labels_are : labels ≡ abi_text_of abi

-- rows 3 to 5 accept them
pub record Texts (ws abi text labels : List ℕ) : Type 0 where
  pub set : set_refusal ws abi ≡ 0
  pub text_is : text ≡ text_of ws
  pub labels_are : labels ≡ abi_text_of abi

-- and rows 6, 7 and 26 the class and the area
pub record Accepted (ws abi : List ℕ) (c : ℕ) (area text labels : List ℕ) : Type 0 where
  pub texts : Texts ws abi text labels
  pub class : bad_class ws (text_of ws) c ≡ false
  pub tables : bad_area ws area ≡ false
  pub packages : bad_packages ws (text_of ws) abi (abi_text_of abi) c ≡ false

-- a plan that rows 14 and 15 do not refuse
pub record Roomy (same : Same) (ws text abi labels : List ℕ) (c : ℕ) (area stubs missing : List ℕ) (p : P.Plan) : Type 0 where
  pub planned : Leaves plan same ws text abi labels area c (Ok p.fields) p
  pub room : 0 ≡ room_row ws c (members_plan ws c (added_of ws text abi labels p.news)) area stubs missing p.table.len

-- what rows 8 to 15 say: a plan, or a row that refuses the link
abbrev pub Judged : Same → List ℕ → List ℕ → List ℕ → List ℕ → ℕ → List ℕ → List ℕ → List ℕ → Result (Unit {0}) Refusal → P.Plan → Type 0
Judged same ws text abi labels c area stubs missing (Ok u) p = Roomy same ws text abi labels c area stubs missing p
Judged same ws text abi labels c area stubs missing (Err r) p = refused_link (row r) ws area missing ≡ link_by same ws abi c area stubs missing
