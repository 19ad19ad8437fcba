-- Refused calls do no harm (specs/Harmless.antt). Assumes nothing.
use Rattle.std.proofs.Common.{◌≡◌, refl, sym, ap, subst, ◌≢◌, ◌⊎◌, inl, inr, Bool, true, false, cond, not, ◌&&◌, ◌||◌, List, [], ◌∷◌, ◌++◌, ℕ, ◌+◌, ◌*◌, ◌≤◌, arith, length, get_or, drop, eqb, ltb, ne_eqb, Option, Some, None}
use Rattle.words.specs.Folds.{all_of}
use Rattle.block.specs.Block.{block_count, check_ok, shape_ok, sheet_words}
use Rattle.class_sheet.specs.ClassSheet.{block_limit, is_built_kind, is_generated, is_packaged, class_kind, class_flags, class_compiler_table, text_of}
use Rattle.abi_sheet.specs.AbiSheet.{abi_block_limit, abi_text_of}
use Rattle.class_rules.specs.ClassRules.{class_form, class_records}
use Rattle.abi_rules.specs.AbiRules.{abi_form, abi_records}
use Rattle.set_rules.specs.SetRules.{class_descriptors, abi_descriptors, abi_refusal, set_fits, records_refusal, set_refusal}
use Rattle.descriptor.specs.Words as descriptor
use Rattle.descriptor.specs.Words.{is_method, argument_answer}
use Rattle.references.specs.References as references
use Rattle.references.specs.References.{too_few, marked_words, read_references, count_references}
use Rattle.sheet.specs.Sheet as sheet
use Rattle.sheet.specs.Sheet.{block_refusal, sheet_refusal, read_sheet, class_rows, loose_rows, abi_rows, class_sheet_refusal, unordered_sheet_refusal, abi_sheet_refusal, read_class_sheet, read_unordered_sheet, read_abi_sheet}
use Rattle.writer.specs.Writer as writer
use Rattle.writer.specs.Writer.{write_refusal, write_class_sheet}
use Rattle.renumber.specs.Renumber as renumber
use Rattle.renumber.specs.Renumber.{renumber_refusal, renumber_def}
use Rattle.convert.proofs.Few.{at_most, class-few}
use Rattle.convert.specs.Convert.{blocks_or_row, forward, narrowed, widen_refusal, widen_sheet, narrow_refusal, narrow_sheet}
use Rattle.linking.specs.Signature.{Same, of_method, by_numbers}
use Rattle.linking.specs.Chain.{is_interface, eligible, on_found, own_fields}
use Rattle.linking.specs.Abi.{class_abi}
use Rattle.linking.specs.Packages.{bad_packages}
use Rattle.linking.specs.Fields.{too_many_words, stand_from, generated_base, generated_refusal, instance_words, declared_words}
use Rattle.linking.specs.Vtable.{Entry, Built, built, refused, on_built, entry_is_other, empty, put_method, add_method, add_methods, build_methods, table_entries}
use Rattle.linking.specs.Link.{Plan, Planned, planned, unplanned, within_slots, plan_built, plan_generated, plan_array, plan, built_table, generated_table, lists_full, set_short, no_room, refused_call, finish_link, on_plan, on_table, bad_class, bad_area, link_by, Outcome, LinkOutcome, refused_link, no_class, is_linked}
use Rattle.linking.specs.Counts.{missing_short}
use Rattle.linking.specs.Missing.{Missing, turned_away, missing_def}
use Rattle.linking.specs.Numbers.{numbers_short, FillOutcome, refused_filling, fill_def}
use Rattle.linking.specs.Numbered.{NumberedOutcome, leaving, link_numbered, ask_numbered}
use Rattle.linking.specs.Ask.{Walk, hit, missed, broken, walk, head_place, implementation, dispatch_entry, cons_entry, dispatch_entries, on_dispatch, build_node, on_walk, bad_ask, ask_by}
use Rattle.class_members.specs.Members.{FileOutcome, refused_by, read_refusal, file_refusal, read_class_file, class_file_head}
use Rattle.harmless.specs.Harmless.{Refused, refused_reading, refused_writing, refused_renumbering, refused_bitmap, refused_count, Harmless}

-- ---- outcomes by tests

module _ {O : Type 0} (row : O → ℕ) (R : ℕ → O) (tells : (n : ℕ) → row (R n) ≡ n) where
  accepts : (o : O) → row o ≡ 0 → Refused row R o
  accepts o e h = absurd (h e)

  refuses : (n : ℕ) → Refused row R (R n)
  refuses n h = sym (ap R (tells n))

  either : (b : Bool) (x y : O) → Refused row R x → Refused row R y → Refused row R (cond b x y)
  either true x y p q = p
  either false x y p q = q

  -- the first outcome, or the number that refuses
  one_test : (b : Bool) (x : O) (n : ℕ) → row x ≡ 0 → Refused row R (cond b x (R n))
  one_test b x n e = either b x (R n) (accepts x e) (refuses n)

-- ---- calls that are one test, or two

read-harmless : (refusal : List ℕ → ℕ → ℕ) (bs ws : List ℕ) → Refused (λ o. o.refusal) (refused_reading ws) (read_sheet refusal bs ws)
unfolding read_sheet
read-harmless refusal bs ws =
    one_test {O = sheet.Outcome} (λ o. o.refusal) (refused_reading ws) (λ n. refl) (eqb (refusal bs (length ws)) 0) _ (refusal bs (length ws)) refl

write-harmless : (ws bs : List ℕ) → Refused (λ o. o.refusal) (refused_writing bs) (write_class_sheet ws bs)
unfolding write_class_sheet
write-harmless ws bs =
    one_test {O = writer.Outcome} (λ o. o.refusal) (refused_writing bs) (λ n. refl) (eqb (write_refusal ws (length bs)) 0) _ (write_refusal ws (length bs)) refl

blocks-harmless : (row : ℕ) (ws out : List ℕ) → Refused (λ o. o.refusal) (refused_writing out) (blocks_or_row row ws out)
unfolding blocks_or_row
blocks-harmless row ws out = one_test {O = writer.Outcome} (λ o. o.refusal) (refused_writing out) (λ n. refl) (eqb row 0) _ row refl

renumber-harmless : (ws list : List ℕ) → Refused (λ o. o.refusal) (refused_renumbering ws list) (renumber_def ws list)
unfolding renumber_def
renumber-harmless ws list =
    one_test {O = renumber.Outcome} (λ o. o.refusal) (refused_renumbering ws list) (λ n. refl) (eqb (renumber_refusal ws (length list)) 0) _
    (renumber_refusal ws (length list)) refl

references-harmless : (bitmap : List ℕ) (n : ℕ) (list : List ℕ) → Refused (λ o. o.refusal) (refused_bitmap list) (read_references bitmap n list)
unfolding read_references
references-harmless bitmap n list =
    let row : references.Outcome → ℕ = λ o. o.refusal in
    either row (refused_bitmap list) (λ n. refl) (too_few bitmap n) _ _ (refuses row (refused_bitmap list) (λ n. refl) 24)
    (either row (refused_bitmap list) (λ n. refl) (ltb (length list) (length (marked_words bitmap n))) _ _ (refuses row (refused_bitmap list) (λ n. refl) 25)
    (accepts row (refused_bitmap list) (λ n. refl) _ refl))

count-harmless : (bitmap : List ℕ) (n : ℕ) → Refused (λ o. o.refusal) (refused_bitmap []) (count_references bitmap n)
unfolding count_references
count-harmless bitmap n =
    let row : references.Outcome → ℕ = λ o. o.refusal in
    either row (refused_bitmap []) (λ n. refl) (too_few bitmap n) _ _ (refuses row (refused_bitmap []) (λ n. refl) 24)
    (accepts row (refused_bitmap []) (λ n. refl) _ refl)

arguments-harmless : (s : List ℕ) (flags : ℕ) → Refused (λ o. o.refusal) refused_count (argument_answer s flags)
unfolding argument_answer
arguments-harmless s flags = one_test {O = descriptor.Answer} (λ o. o.refusal) refused_count (λ n. refl) (is_method flags s) _ 5 refl

file-harmless : (bs targets fields methods text : List ℕ)
    → Refused (λ o. o.refusal) (λ n. refused_by n fields methods text) (read_class_file bs targets fields methods text)
unfolding read_class_file
file-harmless bs targets fields methods text =
    one_test {O = FileOutcome} (λ o. o.refusal) (λ n. refused_by n fields methods text) (λ n. refl) (eqb (read_refusal bs targets fields methods text) 0) _
    (read_refusal bs targets fields methods text) refl

head-harmless : (bs : List ℕ) → Refused (λ o. o.refusal) (λ n. refused_by n [] [] []) (class_file_head bs)
unfolding class_file_head
head-harmless bs =
    one_test {O = FileOutcome} (λ o. o.refusal) (λ n. refused_by n [] [] []) (λ n. refl) (eqb (file_refusal bs []) 0) _ (file_refusal bs []) refl

-- ---- a link and an ask: the refused outcome, and a number of which Q holds

-- numbers, and what carries them
module _ (Q : ℕ → Type 0) where
  abbrev Num : ℕ → Type 0
  Num n = n ≢ 0 → Q n

  none : Num 0
  none h = absurd (h refl)

  num-either : (b : Bool) (x y : ℕ) → Num x → Num y → Num (cond b x y)
  num-either true x y p q = p
  num-either false x y p q = q

  data Table : Built → Type 0 where
    a-table : (T : List Entry) → Table (built T)
    no_table : (n : ℕ) → Num n → Table (refused n)

  table-either : (b : Bool) (x y : Built) → Table x → Table y → Table (cond b x y)
  table-either true x y p q = p
  table-either false x y p q = q

  data Plans : Planned → Type 0 where
    a-plan : (p : Plan) → Plans (planned p)
    no_plan_lem : (n : ℕ) → Num n → Plans (unplanned n)

  plans-either : (b : Bool) (x y : Planned) → Plans x → Plans y → Plans (cond b x y)
  plans-either true x y p q = p
  plans-either false x y p q = q

  on_table_lem : {b : Built} {f : List Entry → Planned} → Table b → ((T : List Entry) → Plans (f T)) → Plans (on_table b f)
  on_table_lem (a-table T) q = q T
  on_table_lem (no_table n h) q = no_plan_lem n h

-- an outcome, where `row` is its number and `R n` the refused one of number n
module _ (Q : ℕ → Type 0) {O : Type 0} (row : O → ℕ) (R : ℕ → O) (tells : (n : ℕ) → row (R n) ≡ n) where
  record Ends (o : O) : Type 0 where
    same : Refused row R o
    number : Num Q (row o)

  ends-either : (b : Bool) (x y : O) → Ends x → Ends y → Ends (cond b x y)
  ends-either true x y p q = p
  ends-either false x y p q = q

  ends-refused : (n : ℕ) → Num Q n → Ends (R n)
  ends-refused n h = record { same = refuses row R tells n; number = subst (Num Q) (sym (tells n)) h }

  ends-accepted : (o : O) → row o ≡ 0 → Ends o
  ends-accepted o e = record { same = accepts row R tells o e; number = λ h. absurd (h e) }

-- ---- rows 3 to 5

within-set : (Q : ℕ → Type 0) → Q 3 → Q 4 → Q 5 → (ws abi : List ℕ) → Num Q (set_refusal ws abi)
unfolding set_refusal records_refusal
within-set Q three four five ws abi =
    num-either Q (not (set_fits ws abi)) 3 _ (λ h. three)
    (num-either Q (not (class_records ws (text_of ws) && abi_records abi (abi_text_of abi))) 4 _ (λ h. four)
    (num-either Q (not (class_descriptors ws (text_of ws) && abi_descriptors abi (abi_text_of abi))) 5 0 (λ h. five) (none Q)))

-- ---- rows 8 to 13, of a plan

module _ (Q : ℕ → Type 0) (all : (n : ℕ) → 3 ≤ n → n ≤ 15 → Q n) (same : Same) (ws text abi labels area : List ℕ) where
  put-row : (fixed slot : Option ℕ) (m : ℕ) (T : List Entry) → Table Q (put_method same ws fixed slot m T)
  unfolding put_method
  put-row (Some i) slot m T =
      table-either Q (on_found slot (λ j. not (eqb j i)) false) (refused 11) _ (no_table 11 (λ h. all 11 (omega arith) (omega arith)))
      (table-either Q (entry_is_other same (of_method m) (get_or T i empty)) (refused 12) _
      (no_table 12 (λ h. all 12 (omega arith) (omega arith))) (a-table _))
  put-row None (Some j) m T = a-table _
  put-row None None m T = a-table _

  add_row : (abis : List ℕ) (m : ℕ) (T : List Entry) → Table Q (add_method same ws text abi abis m T)
  unfolding add_method
  add_row abis m T = table-either Q (eligible ws text m) _ _ (put-row _ _ m T) (a-table T)

  on_built_lem : {b : Built} {f : List Entry → Built} → Table Q b → ((T : List Entry) → Table Q (f T)) → Table Q (on_built b f)
  on_built_lem (a-table T) q = q T
  on_built_lem (no_table n h) q = no_table n h

  adds-row : (abis ms : List ℕ) (T : List Entry) → Table Q (add_methods same ws text abi abis ms T)
  unfolding add_methods
  adds-row abis [] T = a-table T
  adds-row abis (m ∷ ms) T = on_built_lem (add_row abis m T) (adds-row abis ms)

  build-row : (c : ℕ) → Table Q (build_methods same ws text abi labels area c)
  unfolding build_methods
  build-row c = adds-row _ _ _

  slots-row : (p : Plan) → Plans Q (within_slots p)
  unfolding within_slots
  slots-row p = plans-either Q (ltb 1024 (length p.table)) (unplanned 13) (planned p) (no_plan_lem 13 (λ h. all 13 (omega arith) (omega arith))) (a-plan p)

  built-row : (c : ℕ) → Plans Q (plan_built same ws text abi labels area c)
  unfolding plan_built built_table
  built-row c =
      plans-either Q (too_many_words ws text abi labels (class_abi ws text abi labels c) c)
      (unplanned 10) _ (no_plan_lem 10 (λ h. all 10 (omega arith) (omega arith)))
      (on_table_lem Q (table-either Q (is_packaged ws c) _ _ (a-table _) (table-either Q (is_interface (class_flags ws c)) _ _ (a-table _) (build-row c)))
      (λ T. slots-row _))

  fields-row : (c : ℕ) → Num Q (generated_refusal ws text c)
  unfolding generated_refusal
  fields-row c =
      num-either Q (ltb (instance_words ws c) (declared_words ws text c)) 8 _ (λ h. all 8 (omega arith) (omega arith))
      (num-either Q (stand_from ws text (generated_base ws text c) (own_fields ws c) || stand_from ws text 0 (own_fields ws c)) 0 9
      (none Q) (λ h. all 9 (omega arith) (omega arith)))

  generated-row : (c : ℕ) → Plans Q (plan_generated same ws text abi labels area c)
  unfolding plan_generated generated_table
  generated-row c =
      plans-either Q (eqb (generated_refusal ws text c) 0) _ (unplanned (generated_refusal ws text c))
      (on_table_lem Q (table-either Q (eqb (class_compiler_table ws c) 0) _ _ (build-row c) (a-table _)) (λ T. slots-row _)) (no_plan_lem _ (fields-row c))

  plan-row : (c : ℕ) → Plans Q (plan same ws text abi labels area c)
  unfolding plan plan_array
  plan-row c =
      plans-either Q (is_built_kind (class_kind ws c)) _ _ (built-row c) (plans-either Q (is_generated ws c) _ _ (generated-row c) (slots-row _))

-- ---- a link

module _ (Q : ℕ → Type 0) (all : (n : ℕ) → 3 ≤ n → n ≤ 15 → Q n) (packages : Q 26) (same : Same) (ws abi : List ℕ) (c : ℕ)
    (area stubs missing : List ℕ) where
  abbrev link_row : LinkOutcome → ℕ
  link_row o = o.outcome.refusal

  abbrev turned : ℕ → LinkOutcome
  turned n = refused_link n ws area missing

  abbrev LinkEnds : LinkOutcome → Type 0
  LinkEnds = Ends Q link_row turned (λ n. refl)

  or-refused : (b : Bool) (n : ℕ) (o : LinkOutcome) → Num Q n → LinkEnds o → LinkEnds (cond b (turned n) o)
  or-refused b n o h e = ends-either Q link_row turned (λ n. refl) b (turned n) o (ends-refused Q link_row turned (λ n. refl) n h) e

  finish-ends : (p : Plan) → LinkEnds (finish_link ws abi c area stubs missing p)
  unfolding finish_link
  finish-ends p =
      or-refused (lists_full ws c p) 14 _ (λ h. all 14 (omega arith) (omega arith))
      (or-refused (no_room area stubs (length p.table) || set_short ws c p || missing_short ws missing) 15 _ (λ h. all 15 (omega arith) (omega arith))
      (ends-accepted Q link_row turned (λ n. refl) _ refl))

  on_plan_lem : {p : Planned} → Plans Q p → LinkEnds (on_plan p (finish_link ws abi c area stubs missing) (λ n. refused_link n ws area missing))
  on_plan_lem (a-plan p) = finish-ends p
  on_plan_lem (no_plan_lem n h) = ends-refused Q link_row turned (λ n. refl) n h

  link-ends : LinkEnds (link_by same ws abi c area stubs missing)
  unfolding link_by
  link-ends =
      or-refused (not (eqb (set_refusal ws abi) 0)) (set_refusal ws abi) _
      (within-set Q (all 3 (omega arith) (omega arith)) (all 4 (omega arith) (omega arith)) (all 5 (omega arith) (omega arith)) ws abi)
      (or-refused (bad_class ws (text_of ws) c) 6 _ (λ h. all 6 (omega arith) (omega arith))
      (or-refused (bad_area ws area) 7 _ (λ h. all 7 (omega arith) (omega arith))
      (or-refused (bad_packages ws (text_of ws) abi (abi_text_of abi) c) 26 _ (λ h. packages)
      (on_plan_lem (plan-row Q all same ws (text_of ws) abi (abi_text_of abi) area c)))))

-- ---- asking for a count

module _ (Q : ℕ → Type 0) (three : Q 3) (four : Q 4) (five : Q 5) (six : Q 6) (fifteen : Q 15) (ws abi missing : List ℕ) (c : ℕ) where
  abbrev count_row : Missing → ℕ
  count_row o = o.refusal

  or-away : (b : Bool) (n : ℕ) (o : Missing) → Num Q n → Ends Q count_row turned_away (λ n. refl) o
      → Ends Q count_row turned_away (λ n. refl) (cond b (turned_away n) o)
  or-away b n o h e = ends-either Q count_row turned_away (λ n. refl) b (turned_away n) o (ends-refused Q count_row turned_away (λ n. refl) n h) e

  missing-ends : Ends Q count_row turned_away (λ n. refl) (missing_def ws abi missing c)
  unfolding missing_def
  missing-ends =
      or-away (not (eqb (set_refusal ws abi) 0)) (set_refusal ws abi) _ (within-set Q three four five ws abi)
      (or-away (no_class ws c || not (is_linked ws c)) 6 _ (λ h. six)
      (or-away (missing_short ws missing) 15 _ (λ h. fifteen) (ends-accepted Q count_row turned_away (λ n. refl) _ refl)))

-- ---- a filling of the list of numbers

abbrev OfFill : ℕ → Type 0
OfFill n = (3 ≤ n) × (n ≤ 5)

module _ (ws abi ns : List ℕ) where
  abbrev FillEnds : FillOutcome → Type 0
  FillEnds = Ends OfFill {O = FillOutcome} (λ o. o.refusal) (λ n. refused_filling n ns) (λ n. refl)

  fill-turned : (b : Bool) (n : ℕ) (o : FillOutcome) → Num OfFill n → FillEnds o → FillEnds (cond b (refused_filling n ns) o)
  fill-turned b n o h e =
      ends-either OfFill {O = FillOutcome} (λ o. o.refusal) (λ n. refused_filling n ns) (λ n. refl) b (refused_filling n ns) o
      (ends-refused OfFill {O = FillOutcome} (λ o. o.refusal) (λ n. refused_filling n ns) (λ n. refl) n h) e

  of-fill : FillEnds (fill_def ws abi ns)
  unfolding fill_def
  of-fill =
      fill-turned (numbers_short ns) 3 _ (λ h. (omega arith, omega arith))
      (fill-turned (not (eqb (set_refusal ws abi) 0)) (set_refusal ws abi) _
      (within-set OfFill (omega arith, omega arith) (omega arith, omega arith) (omega arith, omega arith) ws abi)
      (ends-accepted OfFill {O = FillOutcome} (λ o. o.refusal) (λ n. refused_filling n ns) (λ n. refl) _ refl))

-- ---- an ask

module _ (Q : ℕ → Type 0) (three : Q 3) (four : Q 4) (five : Q 5) (six : Q 6) (seven : Q 7) (fifteen : Q 15) (sixteen : Q 16) (same : Same)
    (ws abi : List ℕ) (c i : ℕ) (area stubs : List ℕ) where
  entry_row : (e : Entry) (m k : Option ℕ) (b : Built) → Table Q b → Table Q (cons_entry (dispatch_entry ws e m k) b)
  entry_row e (Some m) (Some k) (built T) p = a-table _
  entry_row e (Some m) (Some k) (refused n) p = p
  entry_row e (Some m) None b p = no_table 16 (λ h. sixteen)
  entry_row e None k (built T) p = a-table _
  entry_row e None k (refused n) p = p

  entries-row : (T : List Entry) → Table Q (dispatch_entries same ws c T)
  unfolding dispatch_entries
  entries-row [] = a-table _
  entries-row (e ∷ T) =
      entry_row e e.method (on_found e.method (implementation same ws c) None) (dispatch_entries same ws c T) (entries-row T)

  abbrev ask_row : Outcome → ℕ
  ask_row o = o.refusal

  abbrev away : ℕ → Outcome
  away n = refused_call n ws area

  abbrev AskEnds : Outcome → Type 0
  AskEnds = Ends Q ask_row away (λ n. refl)

  refused-ask : (n : ℕ) → Num Q n → AskEnds (away n)
  refused-ask n h = ends-refused Q ask_row away (λ n. refl) n h

  or-none : (b : Bool) (n : ℕ) (o : Outcome) → Num Q n → AskEnds o → AskEnds (cond b (away n) o)
  or-none b n o h e = ends-either Q ask_row away (λ n. refl) b (away n) o (refused-ask n h) e

  on_dispatch_lem : {b : Built} {f : List Entry → Outcome} → Table Q b → ((T : List Entry) → AskEnds (f T))
      → AskEnds (on_dispatch b f (λ n. refused_call n ws area))
  on_dispatch_lem (a-table T) k = k T
  on_dispatch_lem (no_table n h) k = refused-ask n h

  node-ends : (nodes : ℕ) → AskEnds (build_node same ws abi c i area stubs nodes)
  unfolding build_node
  node-ends nodes =
      on_dispatch_lem (entries-row (table_entries same ws (text_of ws) abi (abi_text_of abi) area i))
      (λ T. or-none (no_room area stubs (length T)) 15 _ (λ h. fifteen) (ends-accepted Q ask_row away (λ n. refl) _ refl))

  walk_ends : (w : Walk)
      → AskEnds (on_walk w (λ n nodes. record { refusal = 0; first = n + 1; second = nodes; set = ws; area = area })
      (build_node same ws abi c i area stubs) (refused_call 7 ws area))
  walk_ends (hit n nodes) = ends-accepted Q ask_row away (λ n. refl) _ refl
  walk_ends (missed nodes) = node-ends nodes
  walk_ends broken = refused-ask 7 (λ h. seven)

  ask-ends : AskEnds (ask_by same ws abi c i area stubs)
  unfolding ask_by
  ask-ends =
      or-none (not (eqb (set_refusal ws abi) 0)) (set_refusal ws abi) _ (within-set Q three four five ws abi)
      (or-none (bad_ask ws c i) 6 _ (λ h. six)
      (or-none (bad_area ws area) 7 _ (λ h. seven) (walk_ends (walk area i 64 0 (get_or area (head_place ws c) 0)))))

-- ---- the numbers of a reading

sheet-few : (most limit : ℕ) (rows : List ℕ → ℕ) (bs : List ℕ) (room : ℕ) → 2 ≤ most → ((ws : List ℕ) → rows ws ≤ most)
    → sheet_refusal limit rows bs room ≤ most
unfolding sheet_refusal block_refusal
sheet-few most limit rows bs room l few =
    at_most most (eqb (block_refusal bs room limit) 0) _ _ (few (sheet_words bs))
    (at_most most (not (shape_ok (length bs) room limit)) 1 _ (omega arith) (at_most most (not (all_of (block_count bs) (check_ok bs))) 2 0 l (omega arith)))

read-few : (most : ℕ) (refusal : List ℕ → ℕ → ℕ) (bs ws : List ℕ) → refusal bs (length ws) ≤ most → (read_sheet refusal bs ws).refusal ≤ most
unfolding read_sheet
read-few most refusal bs ws h = chosen (eqb (refusal bs (length ws)) 0)
  where
    chosen : (b : Bool)
        → (cond {A = sheet.Outcome} b (record { refusal = 0; words = 127 * block_count bs; memory = sheet_words bs ++ drop (127 * block_count bs) ws })
        (record { refusal = refusal bs (length ws); words = 0; memory = ws })).refusal ≤ most
    chosen true = omega arith
    chosen false = h

loose_few : (ws : List ℕ) → loose_rows ws ≤ 3
unfolding loose_rows
loose_few ws = at_most 3 (not (class_form ws)) 3 0 (omega arith) (omega arith)

abi-few : (abi : List ℕ) → abi_rows abi ≤ 5
unfolding abi_rows abi_refusal
abi-few abi =
    at_most 5 (not (abi_form abi)) 3 _ (omega arith)
    (at_most 5 (not (abi_records abi (abi_text_of abi))) 4 _ (omega arith)
    (at_most 5 (not (abi_descriptors abi (abi_text_of abi))) 5 0 (omega arith) (omega arith)))

-- ---- THE THEOREM

abbrev OfLink : ℕ → Type 0
OfLink n = ((3 ≤ n) × (n ≤ 15)) ⊎ (n ≡ 26)

abbrev OfAsk : ℕ → Type 0
OfAsk n = ((3 ≤ n) × (n ≤ 7)) ⊎ ((15 ≤ n) × (n ≤ 16))

abbrev OfCount : ℕ → Type 0
OfCount n = ((3 ≤ n) × (n ≤ 6)) ⊎ (n ≡ 15)

of-link : (ws abi numbers : List ℕ) (c : ℕ) (area stubs missing : List ℕ)
    → Ends OfLink {O = NumberedOutcome} (λ o. o.outcome.refusal) (λ n. leaving (refused_link n ws area missing) numbers) (λ n. refl)
    (link_numbered ws abi numbers c area stubs missing)
unfolding link_numbered link_by
of-link ws abi numbers c area stubs missing =
    let ends = link-ends OfLink (λ n h k. inl (h, k)) (inr refl) (by_numbers numbers) ws abi c area stubs missing in
    ends-either OfLink {O = NumberedOutcome} (λ o. o.outcome.refusal) (λ n. leaving (refused_link n ws area missing) numbers) (λ n. refl)
    (numbers_short numbers) _ _
    (ends-refused OfLink {O = NumberedOutcome} (λ o. o.outcome.refusal) (λ n. leaving (refused_link n ws area missing) numbers) (λ n. refl) 3
    (λ h. inl (omega arith, omega arith)))
    (record {
      same = λ h. rw (ne_eqb _ 0 h) (ap (λ (o : LinkOutcome). leaving o numbers) (ends.same h));
      number = ends.number;
    })

of-count : (ws abi missing : List ℕ) (c : ℕ) → Ends OfCount {O = Missing} (λ o. o.refusal) turned_away (λ n. refl) (missing_def ws abi missing c)
of-count ws abi missing c =
    missing-ends OfCount (inl (omega arith, omega arith)) (inl (omega arith, omega arith)) (inl (omega arith, omega arith)) (inl (omega arith, omega arith))
    (inr refl) ws abi missing c

of-ask : (ws abi numbers : List ℕ) (c i : ℕ) (area stubs : List ℕ)
    → Ends OfAsk {O = Outcome} (λ o. o.refusal) (λ n. refused_call n ws area) (λ n. refl) (ask_numbered ws abi numbers c i area stubs)
unfolding ask_numbered
of-ask ws abi numbers c i area stubs =
    ends-either OfAsk {O = Outcome} (λ o. o.refusal) (λ n. refused_call n ws area) (λ n. refl) (numbers_short numbers) _ _
    (ends-refused OfAsk {O = Outcome} (λ o. o.refusal) (λ n. refused_call n ws area) (λ n. refl) 3 (λ h. inl (omega arith, omega arith)))
    (ask-ends OfAsk (inl (omega arith, omega arith)) (inl (omega arith, omega arith)) (inl (omega arith, omega arith)) (inl (omega arith, omega arith))
    (inl (omega arith, omega arith)) (inr (omega arith, omega arith)) (inr (omega arith, omega arith)) (by_numbers numbers) ws abi c i area stubs)

pub harmless : Harmless
unfolding read_class_sheet read_unordered_sheet read_abi_sheet class_sheet_refusal unordered_sheet_refusal abi_sheet_refusal widen_sheet narrow_sheet
harmless = record {
  read_classes = λ bs ws. read-harmless class_sheet_refusal bs ws;
  read_unordered = λ bs ws. read-harmless unordered_sheet_refusal bs ws;
  read_abi = λ bs ws. read-harmless abi_sheet_refusal bs ws;
  write = write-harmless;
  widen = λ bs out. blocks-harmless (widen_refusal bs (length out)) (forward (sheet_words bs)) out;
  narrow = λ bs out. blocks-harmless (narrow_refusal bs (length out)) (narrowed (sheet_words bs)) out;
  renumber = renumber-harmless;
  link = λ ws abi numbers c area stubs missing. (of-link ws abi numbers c area stubs missing).same;
  missing = λ ws abi missing c. (of-count ws abi missing c).same;
  fill = λ ws abi ns. (of-fill ws abi ns).same;
  ask = λ ws abi numbers c i area stubs. (of-ask ws abi numbers c i area stubs).same;
  references = references-harmless;
  count = count-harmless;
  arguments = arguments-harmless;
  class_file = file-harmless;
  file_head = head-harmless;
  rows_of_link = λ ws abi numbers c area stubs missing. (of-link ws abi numbers c area stubs missing).number;
  missing_rows = λ ws abi missing c. (of-count ws abi missing c).number;
  fill_rows = λ ws abi ns. (of-fill ws abi ns).number;
  ask_rows = λ ws abi numbers c i area stubs. (of-ask ws abi numbers c i area stubs).number;
  rows_of_classes = λ bs ws. read-few 5 class_sheet_refusal bs ws (sheet-few 5 block_limit class_rows bs (length ws) (omega arith) class-few);
  rows_of_abi = λ bs ws. read-few 5 abi_sheet_refusal bs ws (sheet-few 5 abi_block_limit abi_rows bs (length ws) (omega arith) abi-few);
  unordered_rows = λ bs ws. read-few 3 unordered_sheet_refusal bs ws (sheet-few 3 block_limit loose_rows bs (length ws) (omega arith) loose_few);
}
