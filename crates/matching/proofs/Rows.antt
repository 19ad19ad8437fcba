-- What the rows that an accepted link has passed say, in plain words, whatever compares the signatures; and that a refused one leaves everything. Assumes
-- nothing.
use Rattle.std.proofs.Common.{◌≡◌, refl, ◌⊎◌, inl, inr, ◌≢◌, true, false, not, ◌&&◌, ◌||◌, List, ℕ, ◌*◌, ◌≤◌, arith, length, eqb, ltb, eqb-true, eq-eqb, ne_eqb, ltb-false}
use borrow.Author.Tests.{eqb-false, not-true, not-false}
use Rattle.words.proofs.Bools.{by, or-neither}
use Rattle.text.specs.Text.{same_bytes}
use Rattle.class_sheet.specs.ClassSheet.{class_count, text_of, class_kind, class_name, class_method_count, class_field_count, class_table_place}
use Rattle.abi_sheet.specs.AbiSheet.{abi_text_of}
use Rattle.set_rules.specs.SetRules.{set_refusal}
use Rattle.linking.specs.Signature.{Same}
use Rattle.linking.specs.Chain.{parent_of}
use Rattle.linking.specs.Packages.{bad_packages}
use Rattle.linking.specs.Counts.{missing_width, counted_after, missing_short}
use Rattle.linking.specs.Link.{object_name, no_class, is_linked, bad_array, bad_class, next_free, bad_area, Plan, Planned, planned, unplanned, plan, new_words, new_statics, lists_full, set_short, no_room, linked_area, linked_words, LinkOutcome, refused_link, finish_link, on_plan, link_by}
use Rattle.linking.proofs.Plans.{unplanned-number}
use Rattle.linking.proofs.Rows.{Fits, fits, Sound, sound}

-- ---- row 6

pub in-set : (ws : List ℕ) (c : ℕ) → no_class ws c ≡ false → (1 ≤ c) × (c ≤ class_count ws)
unfolding no_class
in-set ws c e =
    let p = or-neither (eqb c 0) (ltb (class_count ws) c) e in
    let n : c ≢ 0 = eqb-false c 0 p.0 in
    (omega arith, ltb-false (class_count ws) c p.1)

pub is-linked : (ws : List ℕ) (c : ℕ) → is_linked ws c ≡ true → class_table_place ws c ≢ 0
is-linked ws c e = eqb-false (class_table_place ws c) 0 (not-true (eqb (class_table_place ws c) 0) e)

not-linked : (ws : List ℕ) (c : ℕ) → is_linked ws c ≡ false → class_table_place ws c ≡ 0
not-linked ws c e = eqb-true (class_table_place ws c) 0 (not-false (eqb (class_table_place ws c) 0) e)

pub record ClassOk (ws : List ℕ) (c : ℕ) : Type 0 where
  pub some : 1 ≤ c
  pub among : c ≤ class_count ws
  pub new : class_table_place ws c ≡ 0
  pub parent : parent_of ws c ≢ 0 → class_table_place ws (parent_of ws c) ≢ 0
  pub bare : class_kind ws c ≡ 2 → class_method_count ws c ≡ 0

bare-array : (ws text : List ℕ) (c : ℕ) → bad_array ws text c ≡ false → class_kind ws c ≡ 2 → class_method_count ws c ≡ 0
unfolding bad_array
bare-array ws text c e k =
    let r = rw (eq-eqb (class_kind ws c) 2 k) at e in
    let p = or-neither (not (eqb (class_method_count ws c) 0) || not (eqb (class_field_count ws c) 0) || eqb (parent_of ws c) 0)
    (not (same_bytes (class_name ws text (parent_of ws c)) object_name)) r in
    let q = or-neither (not (eqb (class_method_count ws c) 0) || not (eqb (class_field_count ws c) 0)) (eqb (parent_of ws c) 0) p.0 in
    let s = or-neither (not (eqb (class_method_count ws c) 0)) (not (eqb (class_field_count ws c) 0)) q.0 in
    eqb-true (class_method_count ws c) 0 (not-false (eqb (class_method_count ws c) 0) s.0)

pub class-ok : (ws text : List ℕ) (c : ℕ) → bad_class ws text c ≡ false → ClassOk ws c
unfolding bad_class
class-ok ws text c e =
    let p = or-neither (no_class ws c || is_linked ws c || (not (eqb (parent_of ws c) 0) && not (is_linked ws (parent_of ws c)))) (bad_array ws text c) e in
    let q = or-neither (no_class ws c || is_linked ws c) (not (eqb (parent_of ws c) 0) && not (is_linked ws (parent_of ws c))) p.0 in
    let r = or-neither (no_class ws c) (is_linked ws c) q.0 in
    let n = in-set ws c r.0 in
    record {
      some = n.0;
      among = n.1;
      new = not-linked ws c r.1;
      parent = λ h. is-linked ws (parent_of ws c) (not-false (is_linked ws (parent_of ws c)) (rw (ne_eqb (parent_of ws c) 0 h) at q.1));
      bare = bare-array ws text c p.1;
    }

-- ---- a link

-- it is refused, and leaves the set, the area and the counts
pub record Refused (o : LinkOutcome) (ws area missing : List ℕ) : Type 0 where
  pub number : o.outcome.refusal ≢ 0
  pub same_set : o.outcome.set ≡ ws
  pub same_area : o.outcome.area ≡ area
  pub same-missing : o.missing ≡ missing

pub record Accepted (same : Same) (ws abi : List ℕ) (c : ℕ) (area stubs missing : List ℕ) (o : LinkOutcome) : Type 0 where
  pub valid : set_refusal ws abi ≡ 0
  pub class : ClassOk ws c
  pub lent : Sound ws area
  pub packages : bad_packages ws (text_of ws) abi (abi_text_of abi) c ≡ false
  pub coming : Plan
  pub comes : plan same ws (text_of ws) abi (abi_text_of abi) area c ≡ planned coming
  pub lists : lists_full ws c coming ≡ false
  pub room : Fits area stubs (length coming.table)
  pub long : missing_width * class_count ws ≤ length missing
  pub number : o.outcome.refusal ≡ 0
  pub answers-place : o.outcome.first ≡ next_free area
  pub answers-slots : o.outcome.second ≡ length coming.table
  pub new-set : o.outcome.set ≡ linked_words ws c (next_free area) (new_words ws (text_of ws) abi (abi_text_of abi) c) (new_statics ws (text_of ws) c) coming
  pub new-area : o.outcome.area ≡ linked_area area c coming.table stubs
  pub new-missing : o.missing ≡ counted_after ws missing c coming.table

refused-link : (ws area missing : List ℕ) (n : ℕ) → n ≢ 0 → Refused (refused_link n ws area missing) ws area missing
refused-link ws area missing n h = record { number = h; same_set = refl; same_area = refl; same-missing = refl }

long-enough : (ws missing : List ℕ) → missing_short ws missing ≡ false → missing_width * class_count ws ≤ length missing
unfolding missing_short
long-enough ws missing e = ltb-false (length missing) (missing_width * class_count ws) e

module _ (same : Same) (ws abi : List ℕ) (c : ℕ) (area stubs missing : List ℕ) where
  abbrev Either : LinkOutcome → Type 0
  Either o = Refused o ws area missing ⊎ Accepted same ws abi c area stubs missing o

  finish : set_refusal ws abi ≡ 0 → ClassOk ws c → Sound ws area → bad_packages ws (text_of ws) abi (abi_text_of abi) c ≡ false → (p : Plan)
      → plan same ws (text_of ws) abi (abi_text_of abi) area c ≡ planned p
      → Either (finish_link ws abi c area stubs missing p)
  unfolding finish_link
  finish v k a f p e =
      by (lists_full ws c p) (λ t. rw t (inl (refused-link ws area missing 14 (omega arith))))
      (λ t.
      rw t
      (by (no_room area stubs (length p.table) || set_short ws c p || missing_short ws missing)
      (λ u. rw u (inl (refused-link ws area missing 15 (omega arith))))
      (λ u.
      let q = or-neither (no_room area stubs (length p.table) || set_short ws c p) (missing_short ws missing) u in
      rw u
      (inr (record {
        valid = v;
        class = k;
        lent = a;
        packages = f;
        coming = p;
        comes = e;
        lists = t;
        room = fits area stubs (length p.table) (or-neither (no_room area stubs (length p.table)) (set_short ws c p) q.0).0;
        long = long-enough ws missing q.1;
        number = refl;
        answers-place = refl;
        answers-slots = refl;
        new-set = refl;
        new-area = refl;
        new-missing = refl;
      })))))

  go_on : set_refusal ws abi ≡ 0 → ClassOk ws c → Sound ws area → bad_packages ws (text_of ws) abi (abi_text_of abi) c ≡ false → (q : Planned)
      → plan same ws (text_of ws) abi (abi_text_of abi) area c ≡ q
      → Either (on_plan q (finish_link ws abi c area stubs missing) (λ n. refused_link n ws area missing))
  go_on v k a f (planned p) e = finish v k a f p e
  go_on v k a f (unplanned n) e = inl (refused-link ws area missing n (unplanned-number same ws (text_of ws) abi (abi_text_of abi) area c n e))

  pub link-cases : Either (link_by same ws abi c area stubs missing)
  unfolding link_by
  link-cases =
      by (eqb (set_refusal ws abi) 0)
      (λ v.
      rw v
      (by (bad_class ws (text_of ws) c) (λ t. rw t (inl (refused-link ws area missing 6 (omega arith))))
      (λ t.
      rw t
      (by (bad_area ws area) (λ u. rw u (inl (refused-link ws area missing 7 (omega arith))))
      (λ u.
      rw u
      (by (bad_packages ws (text_of ws) abi (abi_text_of abi) c) (λ k. rw k (inl (refused-link ws area missing 26 (omega arith))))
      (λ k.
      rw k
      (go_on (eqb-true (set_refusal ws abi) 0 v) (class-ok ws (text_of ws) c t) (sound ws area u) k
      (plan same ws (text_of ws) abi (abi_text_of abi) area c) refl))))))))
      (λ v. rw v (inl (refused-link ws area missing (set_refusal ws abi) (eqb-false (set_refusal ws abi) 0 v))))
