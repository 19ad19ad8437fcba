-- What the rows that an accepted call has passed say, in plain words; and that a refused call leaves everything. Assumes nothing.
use Rattle.std.proofs.Common.{◌≡◌, refl, ◌⊎◌, inl, inr, ◌≢◌, true, false, cond, not, ◌||◌, List, ℕ, ◌+◌, ◌≤◌, arith, length, get_or, eqb, eqb-true, ne_eqb, le-leb, le-ltb}
use borrow.Author.Tests.{eqb-false, not-false}
use Rattle.words.specs.Folds.{all_of}
use Rattle.words.proofs.Bools.{by, or-neither}
use Rattle.words.proofs.FoldLaws.{all-if}
use Rattle.class_sheet.specs.ClassSheet.{class_count, text_of, class_table_place, class_slot_count}
use Rattle.abi_sheet.specs.AbiSheet.{abi_text_of}
use Rattle.set_rules.specs.SetRules.{set_refusal}
use Rattle.linking.specs.Signature.{Same, by_sheets}
use Rattle.linking.specs.Vtable.{Entry, Built, built, refused, table_entries}
use Rattle.linking.specs.Link.{HasTable, no_class, is_linked, next_free, ends_below, bad_area, no_room, Outcome, refused_call, LinkOutcome, link_def}
use Rattle.linking.specs.Ask.{Walk, hit, missed, broken, walk, head_place, dispatch_entries, asked_area, on_dispatch, build_node, on_walk, bad_ask, ask_def, ask_by}
use Rattle.matching.proofs.Rows as links
pub use Rattle.matching.proofs.Rows.{ClassOk, class-ok, Refused}
use Rattle.matching.proofs.Rows.{in-set, is-linked}
use Rattle.linking.proofs.Rows.{Fits, fits, Sound, sound}
use Rattle.calls.proofs.Dispatch.{dispatch_refused}

-- ---- a link, by the bytes of the signatures

abbrev pub Accepted : List ℕ → List ℕ → ℕ → List ℕ → List ℕ → List ℕ → LinkOutcome → Type 0
Accepted ws abi = links.Accepted (by_sheets ws abi) ws abi

pub link-cases : (ws abi : List ℕ) (c : ℕ) (area stubs missing : List ℕ)
    → Refused (link_def ws abi c area stubs missing) ws area missing ⊎ Accepted ws abi c area stubs missing (link_def ws abi c area stubs missing)
unfolding link_def
link-cases ws abi c area stubs missing = links.link-cases (by_sheets ws abi) ws abi c area stubs missing

-- a call leaves the set and the area
pub record Untouched (o : Outcome) (ws area : List ℕ) : Type 0 where
  pub same_set : o.set ≡ ws
  pub same_area : o.area ≡ area

-- ---- an ask

-- it finds its node, and answers the place after the link word and the nodes read
pub record Hits (ws abi : List ℕ) (c i : ℕ) (area : List ℕ) (o : Outcome) : Type 0 where
  pub valid : set_refusal ws abi ≡ 0
  pub class : HasTable ws c
  pub interface : HasTable ws i
  pub lent : Sound ws area
  pub asks : bad_ask ws c i ≡ false
  pub sits : bad_area ws area ≡ false
  pub node : ℕ
  pub nodes : ℕ
  pub walks : walk area i 64 0 (get_or area (head_place ws c) 0) ≡ hit node nodes
  pub answers-place : o.first ≡ node + 1
  pub answers-nodes : o.second ≡ nodes

-- it is refused, or finds its node
pub record Idle (ws abi : List ℕ) (c i : ℕ) (area : List ℕ) (o : Outcome) : Type 0 where
  pub same_set : o.set ≡ ws
  pub same_area : o.area ≡ area
  pub hits : o.refusal ≡ 0 → Hits ws abi c i area o

-- it puts a node in front, whose table is made by this comparison
pub record Puts (same : Same) (ws abi : List ℕ) (c i : ℕ) (area stubs : List ℕ) (o : Outcome) : Type 0 where
  pub valid : set_refusal ws abi ≡ 0
  pub class : HasTable ws c
  pub interface : HasTable ws i
  pub lent : Sound ws area
  pub asks : bad_ask ws c i ≡ false
  pub sits : bad_area ws area ≡ false
  pub nodes : ℕ
  pub walks : walk area i 64 0 (get_or area (head_place ws c) 0) ≡ missed nodes
  pub entries : List Entry
  pub builds : dispatch_entries same ws c (table_entries same ws (text_of ws) abi (abi_text_of abi) area i) ≡ built entries
  pub room : Fits area stubs (length entries)
  pub number : o.refusal ≡ 0
  pub answers-place : o.first ≡ next_free area + 1
  pub answers-nodes : o.second ≡ nodes
  pub same_set : o.set ≡ ws
  pub new-area : o.area ≡ asked_area ws area c i entries stubs

-- by the bytes of the signatures
abbrev pub PutsNode : List ℕ → List ℕ → ℕ → ℕ → List ℕ → List ℕ → Outcome → Type 0
PutsNode ws abi = Puts (by_sheets ws abi) ws abi

pub untouched : (ws abi : List ℕ) (c i : ℕ) (area : List ℕ) (n : ℕ) → n ≢ 0 → Idle ws abi c i area (refused_call n ws area)
untouched ws abi c i area n h = record { same_set = refl; same_area = refl; hits = λ e. absurd (h e) }

pub ask-classes : (ws : List ℕ) (c i : ℕ) → bad_ask ws c i ≡ false → HasTable ws c × HasTable ws i
unfolding bad_ask
ask-classes ws c i e =
    let p = or-neither (no_class ws c || no_class ws i || not (is_linked ws c)) (not (is_linked ws i)) e in
    let q = or-neither (no_class ws c || no_class ws i) (not (is_linked ws c)) p.0 in
    let r = or-neither (no_class ws c) (no_class ws i) q.0 in
    let n = in-set ws c r.0 in
    let m = in-set ws i r.1 in (
      record { some = n.0; among = n.1; has = is-linked ws c (not-false (is_linked ws c) q.1) },
      record { some = m.0; among = m.1; has = is-linked ws i (not-false (is_linked ws i) p.1) },
    )

module _ (same : Same) (ws abi : List ℕ) (c i : ℕ) (area stubs : List ℕ) where
  abbrev Any : Outcome → Type 0
  Any o = Idle ws abi c i area o ⊎ Puts same ws abi c i area stubs o

  module _ (v : set_refusal ws abi ≡ 0) (asks : bad_ask ws c i ≡ false) (sits : bad_area ws area ≡ false) where
    put-node : (nodes : ℕ) → walk area i 64 0 (get_or area (head_place ws c) 0) ≡ missed nodes → (b : Built)
        → dispatch_entries same ws c (table_entries same ws (text_of ws) abi (abi_text_of abi) area i) ≡ b
        → Any (on_dispatch b
        (λ T. cond (no_room area stubs (length T))
        (refused_call 15 ws area)
        (record { refusal = 0; first = next_free area + 1; second = nodes; set = ws; area = asked_area ws area c i T stubs }))
        (λ n. refused_call n ws area))
    put-node nodes w (built T) e =
        by (no_room area stubs (length T)) (λ t. rw t (inl (untouched ws abi c i area 15 (omega arith))))
        (λ t.
        rw t
        (inr (record {
          valid = v;
          class = (ask-classes ws c i asks).0;
          interface = (ask-classes ws c i asks).1;
          lent = sound ws area sits;
          asks = asks;
          sits = sits;
          nodes = nodes;
          walks = w;
          entries = T;
          builds = e;
          room = fits area stubs (length T) t;
          number = refl;
          answers-place = refl;
          answers-nodes = refl;
          same_set = refl;
          new-area = refl;
        })))
    put-node nodes w (refused n) e =
        let m : n ≡ 16 = dispatch_refused same ws c (table_entries same ws (text_of ws) abi (abi_text_of abi) area i) n e in
        inl (untouched ws abi c i area n (λ z. omega arith))

    walked : (w : Walk) → walk area i 64 0 (get_or area (head_place ws c) 0) ≡ w
        → Any (on_walk w (λ n nodes. record { refusal = 0; first = n + 1; second = nodes; set = ws; area = area })
        (build_node same ws abi c i area stubs) (refused_call 7 ws area))
    unfolding build_node
    walked (hit n nodes) e =
        inl (record {
          same_set = refl;
          same_area = refl;
          hits = λ z. record {
            valid = v;
            class = (ask-classes ws c i asks).0;
            interface = (ask-classes ws c i asks).1;
            lent = sound ws area sits;
            asks = asks;
            sits = sits;
            node = n;
            nodes = nodes;
            walks = e;
            answers-place = refl;
            answers-nodes = refl;
          };
        })
    walked (missed nodes) e =
        put-node nodes e (dispatch_entries same ws c (table_entries same ws (text_of ws) abi (abi_text_of abi) area i)) refl
    walked broken e = inl (untouched ws abi c i area 7 (omega arith))

  pub cases_by : Any (ask_by same ws abi c i area stubs)
  unfolding ask_by
  cases_by =
      by (eqb (set_refusal ws abi) 0)
      (λ v.
      rw v
      (by (bad_ask ws c i) (λ t. rw t (inl (untouched ws abi c i area 6 (omega arith))))
      (λ t.
      rw t
      (by (bad_area ws area) (λ u. rw u (inl (untouched ws abi c i area 7 (omega arith))))
      (λ u.
      rw u
      (walked (eqb-true (set_refusal ws abi) 0 v) t u (walk area i 64 0 (get_or area (head_place ws c) 0)) refl))))))
      (λ v. rw v (inl (untouched ws abi c i area (set_refusal ws abi) (eqb-false (set_refusal ws abi) 0 v))))

pub ask-cases : (ws abi : List ℕ) (c i : ℕ) (area stubs : List ℕ)
    → Idle ws abi c i area (ask_def ws abi c i area stubs) ⊎ PutsNode ws abi c i area stubs (ask_def ws abi c i area stubs)
unfolding ask_def
ask-cases ws abi c i area stubs = cases_by (by_sheets ws abi) ws abi c i area stubs

-- ---- row 7 the other way: what it asks for is all that it asks for

end_below : (ws area : List ℕ) → Sound ws area → (d : ℕ) → 1 ≤ d → d ≤ class_count ws → ends_below ws area d ≡ true
unfolding ends_below
end_below ws area a d h k =
    by (eqb (class_table_place ws d) 0) (λ t. rw t refl)
    (λ t.
    let z = a.below d (record { some = h; among = k; has = eqb-false (class_table_place ws d) 0 t }) in
    rw (t, le-leb (class_table_place ws d + class_slot_count ws d + 2) (next_free area) z) refl)

pub silent : (ws area : List ℕ) → Sound ws area → bad_area ws area ≡ false
unfolding bad_area
silent ws area a =
    let w = a.within in
    let z = a.some in
    let all : all_of (class_count ws) (λ j. ends_below ws area (j + 1)) ≡ true =
    all-if (class_count ws) (λ j. ends_below ws area (j + 1)) (λ j b. end_below ws area a (j + 1) (omega arith) (omega arith)) in
    rw (
      ne_eqb (length area) 0 (λ e. omega arith),
      le-ltb 4294967295 (length area) a.short,
      ne_eqb (next_free area) 0 z,
      le-ltb (length area) (next_free area) w,
      all,
    )
    refl
