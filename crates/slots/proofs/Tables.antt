-- The table half of demand 3: of tables that links made along a chain, class by class from its root. No two known slots have one signature, and a
-- child without an ABI entry keeps its parent's known slots. Assumes nothing.
use Rattle.std.proofs.Common.{rules, ◌≡◌, refl, sym, ap, ◌∙◌, inl, inr, ◌≢◌, List, [], ℕ, zero, suc, ◌≤◌, ◌<◌, arith, length, get_or, eqb, eqb-true, Some, None}
use mathlib.Core.List.{Memᴰ}
use borrow.Author.Tests.{eqb-false}
use Rattle.words.proofs.Bools.{by}
use Rattle.words.proofs.ListLaws.{by-found, not_found}
use Rattle.class_sheet.specs.ClassSheet.{class_kind}
use Rattle.linking.specs.Signature.{by_bytes}
use Rattle.linking.specs.Chain.{own_methods, parent_of, chain}
use Rattle.linking.specs.Abi.{class_abi, chain_abi, minimum_size}
use Rattle.linking.specs.Vtable.{Entry, built, read_entry, relayed, extended, add_methods, slot_words}
use Rattle.linking.specs.Before.{relayed_before}
use Rattle.linking.proofs.Comparing.{bytes_compare}
use Rattle.linking.proofs.ChainLaws.{parent_below, parent-within}
use Rattle.linking.proofs.Plans.{built-same}
use Rattle.linking.proofs.Before.{relayed_as_before}
use Rattle.slots.specs.Slots.{OldRule, Unique, Redeclares, Keeps, Kept}
use Rattle.slots.specs.Made.{read_words, start_from, table_from, inherited_from, made_from, Made, Conditions, Calm}
use Rattle.slots.proofs.ChainFacts.{chain-here, chain-up, method-here, conditions-up}
use Rattle.slots.proofs.PlaceFacts.{OneIndex, Good, one-sub, good-sub, good_none}
use Rattle.slots.proofs.FixedFacts.{method_signature, same_signature_lem, signature-same, Fixes, Live, live_fixes, fixes-once, live_up}
use Rattle.slots.proofs.EntryFacts.{at, Shows}
use Rattle.slots.proofs.AddFacts.{adds, adds-good, adds-each, Declared, Stays, stays_same, adds-stays}
use Rattle.slots.proofs.StartFacts.{extended-same, extended-room, extended-good, relayed-good, relayed-room, relayed-each}
use Rattle.slots.proofs.ReadFacts.{read_at, known_read, read_word, read_no_class, Origin, Firm, ours, blank, firm-any, read-firm, table-origin, table-good, table-known, table-word}

module _ (ws text abi labels : List ℕ) (tables : ℕ → List ℕ) (P : ℕ → Type 0) where
  -- what a class's table has, for its children and for the claim
  record Linked (c : ℕ) : Type 0 where
    origin : (i : ℕ) → i < length (tables c) → Origin ws P c (get_or (tables c) i 0)
    good : Good (Live ws text abi labels c) (Shows ws text (read_words ws text abi labels c (tables c)))
    kept : parent_of ws c ≢ 0 → class_abi ws text abi labels c ≡ None → Kept ws text abi labels c (tables c) (tables (parent_of ws c))

  -- ---- one class over its parent

  module _ (c : ℕ) (h : 0 < c) (within : c ≤ 64) (old : OldRule ws c) (k : Conditions ws text abi labels P c)
      (made : (d : ℕ) → Memᴰ d (chain ws c) → Made ws text abi labels tables P d) (calm : Calm ws text abi labels tables c)
      (parent : parent_of ws c ≢ 0 → Linked (parent_of ws c)) where
    abbrev inherited : List Entry
    inherited = inherited_from ws text abi labels tables c

    one : OneIndex (Fixes ws text abi labels c)
    one = fixes-once ws text abi labels k.one_index

    -- the parent's entries: none, or its table's, read

    no_parent : parent_of ws c ≡ 0 → ◌≡◌ {A = List Entry} inherited []
    unfolding inherited_from
    no_parent e = cc

    some-parent : parent_of ws c ≢ 0 → inherited ≡ read_words ws text abi labels (parent_of ws c) (tables (parent_of ws c))
    unfolding inherited_from
    some-parent n = search rules

    inherited-firm : (i : ℕ) → Firm ws text abi labels P c i (at inherited i)
    inherited-firm i =
        by (eqb (parent_of ws c) 0)
        (λ q. rw (no_parent (eqb-true (parent_of ws c) 0 q)) (blank refl refl))
        (λ q.
        let n = eqb-false (parent_of ws c) 0 q in
        rw (some-parent n) (read-firm ws text abi labels P c h k (tables (parent_of ws c)) (parent n).origin i))

    inherited-good : Good (Live ws text abi labels (parent_of ws c)) (Shows ws text inherited)
    inherited-good =
        by (eqb (parent_of ws c) 0)
        (λ q. rw (no_parent (eqb-true (parent_of ws c) 0 q)) (good_none (λ i s r. not_found r.holds)))
        (λ q. let n = eqb-false (parent_of ws c) 0 q in rw (some-parent n) (parent n).good)

    -- the entries that a link makes of them

    record Makes (T : List Entry) : Type 0 where
      good : Good (Live ws text abi labels c) (Shows ws text T)
      firm : (i : ℕ) → Firm ws text abi labels P c i (at T i)
      stays : class_abi ws text abi labels c ≡ None → (i m : ℕ) → (at inherited i).method ≡ Some m
          → Stays ws text abi labels (own_methods ws c) (method_signature ws text m) (at inherited i) (at T i)

    -- "Array: the parent's entries."
    array_makes : class_kind ws c ≡ 2 → Makes inherited
    array_makes e = record {
      good = good-sub (live_up ws text abi labels c h (inl e)) inherited-good;
      firm = inherited-firm;
      stays = λ n i m q. stays_same ws text abi labels (own_methods ws c) (at inherited i) (at inherited i) m q refl;
    }

    -- what a built class's own methods are added to

    record Starts (T : List Entry) : Type 0 where
      good : Good (Live ws text abi labels c) (Shows ws text T)
      room : minimum_size abi (chain_abi ws text abi labels c) ≤ length T
      firm : (i : ℕ) → Firm ws text abi labels P c i (at T i)
      same : class_abi ws text abi labels c ≡ None → (i : ℕ) → at T i ≡ at inherited i

    before-starts : (a : ℕ) → class_abi ws text abi labels c ≡ Some a
        → Starts (relayed_before (by_bytes ws text abi labels) abi (chain_abi ws text abi labels c) inherited)
    before-starts a e = record {
      good = good-sub (live_fixes ws text abi labels c) (relayed-good ws text abi labels c within one inherited inherited-good.unique);
      room = relayed-room ws text abi labels c within one inherited inherited-good.unique;
      firm = relayed-each ws text abi labels c within one inherited inherited-good.unique (λ i e. Firm ws text abi labels P c i e)
          (firm-any ws text abi labels P e) (λ i. blank refl refl) inherited-firm;
      same = λ n. not_found (sym n ∙ e);
    }

    relayed-starts : (a : ℕ) → class_abi ws text abi labels c ≡ Some a
        → Starts (relayed (by_bytes ws text abi labels) abi (chain_abi ws text abi labels c) inherited)
    relayed-starts a e =
        rw (relayed_as_before (by_bytes ws text abi labels) abi (chain_abi ws text abi labels c) (bytes_compare ws text abi labels) inherited calm)
        (before-starts a e)

    extended-starts : class_abi ws text abi labels c ≡ None → Starts (extended abi (chain_abi ws text abi labels c) inherited)
    extended-starts e = record {
      good = extended-good ws text abi (chain_abi ws text abi labels c) inherited (good-sub (live_up ws text abi labels c h (inr e)) inherited-good);
      room = extended-room abi (chain_abi ws text abi labels c) inherited;
      firm = λ i. rw (extended-same abi (chain_abi ws text abi labels c) inherited i) (inherited-firm i);
      same = λ n. extended-same abi (chain_abi ws text abi labels c) inherited;
    }

    starts : Starts (start_from ws text abi labels c inherited)
    unfolding start_from
    starts = by-found (class_abi ws text abi labels c) (λ a q. rw q (relayed-starts a q)) (λ q. rw q (extended-starts q))

    built-makes : (T : List Entry)
        → add_methods (by_bytes ws text abi labels) ws text abi (chain_abi ws text abi labels c) (own_methods ws c)
        (start_from ws text abi labels c inherited) ≡ built T → Makes T
    built-makes T e =
        let a =
        adds ws text abi labels c within one (own_methods ws c) (start_from ws text abi labels c inherited) T starts.room e in
        record {
          good = adds-good ws text abi labels a starts.good;
          firm = adds-each ws text abi labels (λ i e. Firm ws text abi labels P c i e) a
              (λ m i o. ours m (method-here ws c h o) refl refl) starts.firm;
          stays = λ n i m q.
              let s = starts.same n i in
              rw s at
              (adds-stays ws text abi labels (own_methods ws c) a (λ m o. o) i m (ap (λ (x : Entry). x.method) s ∙ q));
        }

    makes : (T : List Entry) → table_from ws text abi labels c inherited ≡ built T → Makes T
    unfolding table_from
    makes T e =
        by (eqb (class_kind ws c) 2)
        (λ q. rw (← built-same (rw q at e)) (array_makes (eqb-true (class_kind ws c) 2 q)))
        (λ q. built-makes T (rw q at e))

    old-from : (T : List Entry) → made_from ws text abi labels tables c ≡ built T → table_from ws text abi labels c inherited ≡ built T
    unfolding made_from
    old-from T e = search (rules, chain-here)

    -- ---- its words, written and read back

    bare : (d : ℕ) → Memᴰ d (chain ws c) → class_kind ws d ≡ 2 → own_methods ws d ≡ []
    bare d i e = (made d i).bare e

    kept-one : (stubs : List ℕ) (T : List Entry) → length T ≤ length stubs → ((i : ℕ) → i < length stubs → P (get_or stubs i 0)) → Makes T
        → parent_of ws c ≢ 0 → class_abi ws text abi labels c ≡ None
        → Kept ws text abi labels c (slot_words stubs 0 T) (tables (parent_of ws c))
    kept-one stubs T enough given makes n none i m known = keep (makes.stays none i m holds)
      where
        read : at inherited i ≡ read_entry (by_bytes ws text abi labels) ws text abi labels (parent_of ws c) i (get_or (tables (parent_of ws c)) i 0)
        read = rw (some-parent n) (read_at ws text abi labels (parent_of ws c) (tables (parent_of ws c)) i known.slot)

        holds : (at inherited i).method ≡ Some m
        holds = ap (λ (x : Entry). x.method) read ∙ known.reads

        word : (at inherited i).word ≡ get_or (tables (parent_of ws c)) i 0
        word =
            ap (λ (x : Entry). x.word) read ∙ read_word ws text abi labels (parent_of ws c) i (get_or (tables (parent_of ws c)) i 0)

        redeclares : (w : ℕ) → Declared ws text abi labels (own_methods ws c) (method_signature ws text m) w → Redeclares ws text c m w
        redeclares w d = record {
          method = d.method;
          own = d.own;
          eligible = d.eligible;
          signature = signature-same ws text d.is;
          target_is = d.target;
        }

        keep : Stays ws text abi labels (own_methods ws c) (method_signature ws text m) (at inherited i) (at T i)
            → Keeps ws text abi labels c (slot_words stubs 0 T) (tables (parent_of ws c)) i m
        keep s =
            let w = table-word ws text abi labels P c k stubs T enough given makes.firm none i s.method s.holds in
            record {
              method = s.method;
              known = table-known ws text abi labels P c k stubs T enough given makes.firm none i s.method s.holds;
              signature = signature-same ws text s.is;
              target = elim s.word [ inl e ↦ inl (w ∙ e ∙ word) | inr d ↦ inr (rw w (redeclares (at T i).word d)) ];
            }

    link : Linked c
    link =
        let t = made c (chain-here ws c h) in
        let m = makes t.entries (old-from t.entries t.from) in
        record {
          origin = rw t.words (table-origin ws text abi labels P c k t.stubs t.entries t.enough t.lent m.firm);
          good = rw t.words
              (table-good ws text abi labels P c k t.stubs t.entries t.enough t.lent m.firm bare
              (one-sub (live_fixes ws text abi labels c) one) m.good);
          kept = λ n none. rw t.words (kept-one t.stubs t.entries t.enough t.lent m n none);
        }

  -- ---- along the chain, from its root

  all : (bound c : ℕ) → c ≤ bound → 0 < c → c ≤ 64 → OldRule ws c → Conditions ws text abi labels P c
      → ((d : ℕ) → Memᴰ d (chain ws c) → Made ws text abi labels tables P d) → ((d : ℕ) → Memᴰ d (chain ws c) → Calm ws text abi labels tables d) → Linked c
  all zero c b h within old k made calm = absurd (omega arith)
  all (suc bound) c b h within old k made calm =
      let f = parent_below ws c h in
      link c h within old k made (calm c (chain-here ws c h))
      (λ n.
      all bound (parent_of ws c) (omega arith) (omega arith) (omega arith) (λ d i. old d (chain-up ws c h i)) (conditions-up ws text abi labels c h k)
      (λ d i. made d (chain-up ws c h i)) (λ d i. calm d (chain-up ws c h i)))

  -- ---- the claims

  -- "no two known slots in a class's table have one signature"
  pub table-unique : (c : ℕ) → c ≤ 64 → OldRule ws c → Conditions ws text abi labels P c
      → ((d : ℕ) → Memᴰ d (chain ws c) → Made ws text abi labels tables P d) → ((d : ℕ) → Memᴰ d (chain ws c) → Calm ws text abi labels tables d)
      → Unique ws text abi labels c (tables c)
  table-unique zero within old k made calm i j m n p q s = not_found (sym (read_no_class ws text abi labels i (get_or (tables 0) i 0)) ∙ p.reads)
  table-unique (suc c) within old k made calm i j m n p q s =
      let l = all (suc c) (suc c) (omega arith) (omega arith) within old k made calm in
      let a = known_read ws text abi labels (suc c) (tables (suc c)) i m p in
      let b = known_read ws text abi labels (suc c) (tables (suc c)) j n q in
      l.good.unique i j (method_signature ws text n)
      (record { method = m; holds = a; is = same_signature_lem ws text s }) (record { method = n; holds = b; is = refl })

  -- "In a child without an ABI entry, each known slot of its parent's table is known at the same index with the same signature, and the child's
  -- target there is the parent's or that of an eligible method of that signature which the child declares."
  pub table_kept : (c : ℕ) → c ≤ 64 → OldRule ws c → Conditions ws text abi labels P c
      → ((d : ℕ) → Memᴰ d (chain ws c) → Made ws text abi labels tables P d) → ((d : ℕ) → Memᴰ d (chain ws c) → Calm ws text abi labels tables d)
      → parent_of ws c ≢ 0 → class_abi ws text abi labels c ≡ None
      → Kept ws text abi labels c (tables c) (tables (parent_of ws c))
  table_kept c within old k made calm n none =
      let f = parent-within ws c in
      (all c c (omega arith) (omega arith) within old k made calm).kept n none
