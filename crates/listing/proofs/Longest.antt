-- The longest listing. Each accepted link takes its slots and two words of the area, so all tables of an area of 4,096 words have 4,093 slots at
-- most; a slot's line has 531 bytes at most, and a class's 293. Assumes nothing.
use mathlib.Core.Path.{◌≡◌, refl, ap, ◌∙◌}
use mathlib.Core.Logic.{◌≢◌, inl, inr}
use mathlib.Core.Bool.{cond}
use mathlib.Core.List.{List, [], ◌∷◌, ◌++◌}
use Prim.Native.Nat.{ℕ, zero, suc, ◌+◌, ◌*◌, ◌^◌, ◌≤◌, ◌<◌, min}
use native.Mathlib.Omega.{arith}
use lib.ListN.{length, get_or, take, length-append, length-set, length-take, length-replicate, get_or-map}
use lib.Seq.{get_or-set_same}
use lib.Dec.{eqb}
use borrow.Author.Tests.{eqb-true, eqb-false, eq-eqb}
use Rattle.words.proofs.Bools.{by}
use Rattle.class_sheet.specs.ClassSheet.{class_count, class_word, class_instance_words, class_slot_count, text_of, class_limit}
use Rattle.abi_sheet.specs.AbiSheet.{abi_text_of}
use Rattle.set_rules.specs.SetRules.{set_refusal}
use Rattle.set_rules.specs.Valid.{IsClass, ValidAbi}
use Rattle.set_rules.proofs.Valid.{valid}
use Rattle.linking.specs.Signature.{by_sheets}
use Rattle.linking.specs.Vtable.{Entry, slot_words}
use Rattle.linking.specs.Compiler.{members}
use Rattle.linking.specs.Link.{next_free, Plan, linked_area, new_words, new_statics, LinkOutcome, link_def}
use Rattle.linking.specs.Set.{write_at}
use Rattle.calls.proofs.Area.{linked-length}
use Rattle.linking.proofs.Plans.{plans}
use Rattle.linking.proofs.Taken.{no_members}
use Rattle.calls.proofs.Rows.{Refused, Accepted, link-cases}
use Rattle.lines.proofs.Lengths.{limit, decimal-few, class-refused-few, class_lines_few}
use Rattle.lines.proofs.Bounded.{Bounded, valid-bounded, class-short, ShortNews, news-short, link_leaves}
use Rattle.descriptor.specs.Bytes.{text}
use Rattle.sheet.specs.Sheet.{read_class_sheet, read_abi_sheet}
use Rattle.sheet.specs.Sheet as sheet
use Rattle.std.specs.Prelude.{map, Option, Some, None, Ok}
use Rattle.refusal.specs.declared.Refusal.{Refusal}
use Rattle.refusal.specs.Rows.{row}
use Rattle.sheet.proofs.Valid.{read-accepted}
use Rattle.lines.specs.Lines.{numbered, sheet_refused, class_lines}
use Rattle.listing.specs.Listing.{link_row, fresh_area, fresh_counts, stub_words, Linked, linked, link_one, Links, links, link_all, class_text, class_texts, set_text}
use Rattle.listing.specs.Small.{Small, Accepts}

none-short : ShortNews []
none-short j h = absurd (omega arith)

-- ---- one link

-- the area's next free word moves past the table
next-after : (area : List ℕ) (c : ℕ) (T : List Entry) (stubs : List ℕ) → 0 < length (linked_area area c T stubs)
    → next_free (linked_area area c T stubs) ≡ next_free area + length T + 2
unfolding linked_area
next-after area c T stubs h =
    let l : List ℕ = write_at area (next_free area) (c ∷ (slot_words stubs 0 T ++ (0 ∷ []))) in
    get_or-set_same l 0 (next_free area + length T + 2) 0 (omega (arith, length-set l 0 (next_free area + length T + 2)))

-- what is kept of the set and the area, and how many slots the class has: 0 where it is refused
pub record Step (ws area : List ℕ) (c : ℕ) (o : Linked) : Type 0 where
  pub bounded : Bounded o.set
  pub classes : class_count o.set ≡ class_count ws
  pub others : (d : ℕ) → IsClass ws d → d ≢ c → class_slot_count o.set d ≡ class_slot_count ws d
  pub room : length o.area ≡ length area
  pub refused : o.row ≢ 0 → next_free o.area ≡ next_free area
  pub taken : o.row ≡ 0 → next_free o.area ≡ next_free area + class_slot_count o.set c + 2
  pub within : next_free o.area ≤ length area

module _ (ws abi : List ℕ) (b : Bounded ws) (c : ℕ) (area stubs missing : List ℕ) (free : next_free area ≤ length area) where
  step-refused : (o : LinkOutcome) → Refused o ws area missing → Step ws area c (linked o.outcome.refusal o.outcome.set o.outcome.area o.missing)
  step-refused o r = record {
    bounded = rw r.same_set b;
    classes = rw r.same_set;
    others = λ d k n. rw r.same_set;
    room = rw r.same_area;
    refused = λ n. rw r.same_area;
    taken = λ z. absurd (r.number z);
    within = rw r.same_area free;
  }

  step-accepted : (o : LinkOutcome) → Accepted ws abi c area stubs missing o → Step ws area c (linked o.outcome.refusal o.outcome.set o.outcome.area o.missing)
  step-accepted o a =
      let v = valid ws abi a.valid in
      let k : IsClass ws c = (a.class.some, a.class.among) in
      let p : Plan = a.coming in
      let q = plans (by_sheets ws abi) ws (text_of ws) abi (abi_text_of abi) area c p a.comes in
      let i = q.indices in
      let short : ShortNews (members p.added) =
      elim q.methods [
        | inl e ↦ rw (e, no_members) none-short
        | inr e ↦ rw e (news-short (by_sheets ws abi) ws (text_of ws) abi (abi_text_of abi) (valid-bounded ws v.0) v.1 area c k.1)
      ] in
      let l = link_leaves ws v.0 c (next_free area) (new_words ws (text_of ws) abi (abi_text_of abi) c) (new_statics ws (text_of ws) c)
      p k short (omega (arith, (v.0.class c k).fields)) in
      let w = a.room.free in
      let f = a.lent.some in
      let t = a.lent.within in
      let n = linked-length area c p.table stubs f (omega arith) in
      let x = next-after area c p.table stubs (omega arith) in
      let s : class_slot_count o.outcome.set c ≡ length p.table = rw a.new-set l.own in
      record {
        bounded = rw a.new-set l.bounded;
        classes = rw a.new-set l.classes;
        others = λ d i e. rw a.new-set (l.others d i e);
        room = rw a.new-area n;
        refused = λ e. absurd (e a.number);
        taken = λ z. rw a.new-area (omega arith);
        within = rw a.new-area (omega arith);
      }

  step : Step ws area c (link_one abi stubs c ws area missing)
  unfolding link_one
  step =
      elim (link-cases ws abi c area stubs missing) [
        | inl r ↦ step-refused (link_def ws abi c area stubs missing) r
        | inr a ↦ step-accepted (link_def ws abi c area stubs missing) a
      ]

-- ---- all links

-- the slots of the classes from class c on that were accepted
unfoldable pub slots_in : List ℕ → ℕ → List ℕ → ℕ
slots_in ws c [] = 0
slots_in ws c (row ∷ rows) = cond (eqb row 0) (class_slot_count ws c) 0 + slots_in ws (c + 1) rows

pub record All (ws area : List ℕ) (c n : ℕ) (all : Links) : Type 0 where
  pub bounded : Bounded all.set
  pub classes : class_count all.set ≡ class_count ws
  pub before : (d : ℕ) → IsClass ws d → d < c → class_slot_count all.set d ≡ class_slot_count ws d
  pub rows : length all.rows ≡ n
  -- a slot has a table, and a table two words beside its slots
  pub slots : slots_in all.set c all.rows + 2 * min 1 (slots_in all.set c all.rows) + next_free area ≤ next_free all.area
  pub within : next_free all.area ≤ length area

module _ (abi stubs : List ℕ) where
  pub links-all : (n c : ℕ) (ws area missing : List ℕ) → Bounded ws → next_free area ≤ length area → 1 ≤ c → c + n ≤ class_count ws + 1
      → All ws area c n (link_all abi stubs n c ws area missing)
  unfolding link_all slots_in
  links-all zero c ws area missing b h s m = record {
    bounded = b;
    classes = refl;
    before = λ d k l. refl;
    rows = refl;
    slots = omega arith;
    within = h;
  }
  links-all (suc n) c ws area missing b h s m =
      let o : Linked = link_one abi stubs c ws area missing in
      let t = step ws abi b c area stubs missing h in
      let e = t.classes in
      let r = t.room in
      let w = t.within in
      let i = links-all n (c + 1) o.set o.area o.missing t.bounded (omega arith) (omega arith) (omega arith) in
      let y = i.slots in
      let z = i.within in
      let own : class_slot_count (link_all abi stubs n (c + 1) o.set o.area o.missing).set c ≡ class_slot_count o.set c =
      i.before c (omega arith, omega arith) (omega arith) in
      record {
        bounded = i.bounded;
        classes = i.classes ∙ e;
        before = λ d k l. i.before d (k.0, omega arith) (omega arith) ∙ t.others d k (λ x. omega arith);
        rows = ap suc i.rows;
        slots =
            by (eqb o.row 0)
            (λ q. rw q (omega (arith, t.taken (eqb-true o.row 0 q))))
            (λ q. rw q (omega (arith, t.refused (eqb-false o.row 0 q))));
        within = omega arith;
      }

-- ---- the texts

module _ (ws abi area : List ℕ) (b : Bounded ws) (v : ValidAbi abi) (few : class_count ws ≤ class_limit) (words : (i : ℕ) → get_or ws i 0 < limit 9)
    (area-words : (i : ℕ) → get_or area i 0 < limit 9) where
  instance-few : (c : ℕ) → class_instance_words ws c < limit 9
  unfolding class_word
  instance-few c = words _

  text-few : (c row : ℕ) → IsClass ws c → row < limit 9 → (row ≡ 0 → class_slot_count ws c < limit 3)
      → length (class_text ws abi area c row) ≤ 293 + 531 * cond (eqb row 0) (class_slot_count ws c) 0
  unfolding class_text class_lines
  text-few c row k h s =
      by (eqb row 0)
      (λ t.
      rw t
      (class_lines_few (by_sheets ws abi) ws abi area c (class-short (by_sheets ws abi) ws (text_of ws) abi (abi_text_of abi) b v c k) area-words
      (omega (arith, k.1)) (instance-few c) (s (eqb-true row 0 t))))
      (λ t. rw t (omega (arith, class-refused-few c row (omega (arith, k.1)) h)))

  texts-few : (c : ℕ) (rows : List ℕ) → 1 ≤ c → c + length rows ≤ class_count ws + 1 → ((i : ℕ) → get_or rows i 0 < limit 9)
      → slots_in ws c rows < limit 3 → length (class_texts ws abi area c rows) ≤ 293 * length rows + 531 * slots_in ws c rows
  unfolding class_texts slots_in
  texts-few c [] s m r n = omega arith
  texts-few c (row ∷ rows) s m r n =
      let own : ℕ = cond (eqb row 0) (class_slot_count ws c) 0 in
      let h = text-few c row (s, omega arith) (r 0) (λ z. let q = rw (eq-eqb row 0 z) at n in omega arith) in
      let g = texts-few (c + 1) rows (omega arith) (omega arith) (λ i. r (suc i)) (omega arith) in
      omega (arith, length-append (class_text ws abi area c row) (class_texts ws abi area (c + 1) rows))

-- ---- the whole

-- each word is below 2^32
small-limit : (ws : List ℕ) → Small ws → (i : ℕ) → get_or ws i 0 < limit 9
unfolding Small
small-limit ws h i = omega (arith, h i)

-- a refusal's number is small, and so are the rows of links
row-few : (r : Refusal) → row r < limit 9
row-few r = grind arith

link-few : (r : Option Refusal) → link_row r < limit 9
link-few None = omega arith
link-few (Some r) = row-few r

rows-few : (rs : List (Option Refusal)) (i : ℕ) → get_or (map link_row rs) i 0 < limit 9
rows-few rs i = rw (get_or-map link_row rs i None) (link-few (get_or rs i None))

fresh_facts : (next_free fresh_area ≡ 1) × (length fresh_area ≡ 4096)
unfolding fresh_area
fresh_facts = (refl, ap suc (length-replicate {0} {A = ℕ} 4095 0))

module _ (ws abi : List ℕ) {s t u : List ℕ} where
  -- all links make the text
  pub set-lines : (rows : List ℕ) → links rows s t u ≡ link_all abi stub_words (class_count ws) 1 ws fresh_area fresh_counts
      → set_text ws abi ≡ class_texts s abi t 1 rows
  unfolding set_text
  set-lines rows k = rw (← k)

  pub set-few : (rs : List (Option Refusal)) → set_refusal ws abi ≡ 0
      → links (map link_row rs) s t u ≡ link_all abi stub_words (class_count ws) 1 ws fresh_area fresh_counts → Small s → Small t
      → length (class_texts s abi t 1 (map link_row rs)) ≤ 2192135
  set-few rs r k hs ht =
      let v = valid ws abi r in
      let z = fresh_facts in
      let a : All ws fresh_area 1 (class_count ws) (link_all abi stub_words (class_count ws) 1 ws fresh_area fresh_counts) =
      links-all abi stub_words (class_count ws) 1 ws fresh_area fresh_counts (valid-bounded ws v.0) (omega arith) (omega arith) (omega arith) in
      let x : All ws fresh_area 1 (class_count ws) (links (map link_row rs) s t u) = rw k a in
      let few : class_count s ≤ class_limit = omega (arith, x.classes, v.0.number_of_classes) in
      let l = x.rows in
      let y : slots_in s 1 (map link_row rs) ≤ 4093 = omega (arith, x.slots, x.within) in
      let w = texts-few s abi t x.bounded v.1 few (small-limit s hs) (small-limit t ht) 1 (map link_row rs) (omega arith)
      (omega (arith, x.classes)) (rows-few rs) (omega arith) in
      omega (arith, w, v.0.number_of_classes)

sheet-few : (sheet : List ℕ) (r : Refusal) → length sheet ≤ 7 → length (sheet_refused sheet (row r)) ≤ 27
unfolding sheet_refused numbered
sheet-few sheet r l = let d = decimal-few 9 (row r) (row-few r) in simp length-append (omega arith)

-- the lines of a refused sheet
pub classes-few : (r : Refusal) → length (sheet_refused (text "classes") (row r)) ≤ 2192135
classes-few r = omega (arith, sheet-few (text "classes") r (omega arith))

pub abi-few : (r : Refusal) → length (sheet_refused (text "abi") (row r)) ≤ 2192135
abi-few r = omega (arith, sheet-few (text "abi") r (omega arith))

-- ---- what two accepted readings leave is accepted

pub read-good : (n : ℕ) (bs out m abi : List ℕ) → Accepts abi → sheet.outcome (Ok n) m ≡ read_class_sheet bs out → set_refusal m abi ≡ 0
unfolding Accepts
read-good n bs out m abi h e = rw (← e) at (h bs out (rw (← e) refl))

pub abi-good : (n : ℕ) (bs out m : List ℕ) → sheet.outcome (Ok n) m ≡ read_abi_sheet bs out → Accepts m
unfolding Accepts
abi-good n bs out m e = λ cs o g. let h = read-accepted cs o bs out g (rw (← e) refl) in rw (← e) at h

-- each word is below 2^32
pub each-small : (ws : List ℕ) → ((i : ℕ) → get_or ws i 0 < 2 ^ 32) → Small ws
unfolding Small
each-small ws h = h

-- a set that is accepted has at most 64 classes, so that many refusals are enough
pub set-fits : (ws abi : List ℕ) → set_refusal ws abi ≡ 0 → class_count ws ≤ 64
set-fits ws abi r = let v = (valid ws abi r).0.number_of_classes in omega arith

-- so many of some places are no more than there can be classes
pub part-fits : {A : Type 0} (l : List A) (n : ℕ) {m : ℕ} → m ≡ length (take n l) → n ≤ 64 → m ≤ class_limit
part-fits l n e h = let t = length-take n l in omega (arith, e)
