-- Under demand 3's conditions a slot is counted if and only if its word is the target of no method of the chain (`NoRealMethod`, specs/Missing.antt). Each
-- entry that a link writes is a copy of a slot of the parent's table, an own method's, or empty (`From`); so, from the root down, the word of a counted slot
-- is a stub that was lent, and that of any other a method's target (`Real`). Assumes nothing.
use Rattle.std.proofs.Common.{◌≡◌, refl, sym, ap, ◌∙◌, subst, inl, inr, ◌≢◌, ◌↔◌, Bool, true, false, cond, true≢false, List, [], ◌∷◌, ℕ, zero, suc, ◌+◌, ◌≤◌, ◌<◌, arith, length, get_or, eqb, eqb-true, eq-eqb, ne_eqb, Some, None}
use mathlib.Core.List.{Memᴰ}
use borrow.Author.Tests.{eqb-false}
use Rattle.words.specs.Lists.{list_from}
use Rattle.words.proofs.Bools.{by}
use Rattle.words.proofs.ListLaws.{by-found, length-list-from, get_d_list_from}
use Rattle.class_sheet.specs.ClassSheet.{text_of, is_packaged, is_array, method_target}
use Rattle.abi_sheet.specs.AbiSheet.{abi_text_of}
use Rattle.set_rules.specs.Valid.{Valid}
use Rattle.set_rules.proofs.Valid.{valid}
use Rattle.linking.specs.Signature.{by_sheets}
use Rattle.linking.specs.Chain.{own_methods, parent_of}
use Rattle.linking.specs.Abi.{class_abi, chain_abi}
use Rattle.linking.specs.Vtable.{Entry, empty, built, read_entry, method_entry, slot_word, slot_words}
use Rattle.linking.specs.Counts.{is_counted, bits_of, missing_bit, parent_bit}
use Rattle.linking.specs.Link.{HasTable, Outcome, LinkOutcome, link_def}
use Rattle.linking.specs.Ask.{ask_def}
use Rattle.linking.specs.Missing.{recounted_along, recounted}
use Rattle.linking.proofs.ChainLaws.{parent_below, chain-none}
use Rattle.linking.proofs.Plans.{built-same}
use Rattle.linking.proofs.MissingLaws.{bits-ext, bit-read, bits_at}
use Rattle.slots.specs.Slots.{ChainMethod}
use Rattle.slots.specs.Made.{read_words, start_from, table_from, inherited_from, introduced_from, packages_from, made_from}
use Rattle.slots.proofs.ChainFacts.{chain-here, chain-up}
use Rattle.slots.proofs.EntryFacts.{own-word, stub-word}
use Rattle.slots.proofs.ReadFacts.{length-words, word_at}
use Rattle.calls.specs.Calls.{Call, link, ask, bytewise, ByBytes, State, start, step, run, Unlinked, LinkedIn, table_at, Lent, lent_now, lent_later, stubs_of}
use Rattle.calls.specs.Demand.{Conditions}
use Rattle.calls.specs.Missing.{bits_now, NoRealBy}
use Rattle.calls.proofs.Rows.{Accepted, link-cases, ask-cases}
use Rattle.calls.proofs.Tables.{table_of, Keeps, none-linked, tables_start, link-keeps, new-table, was, same-state}
use Rattle.calls.proofs.Runs.{Plain, plain-up, Inv, in_at, link-inv, new-from, parent_is, parent-linked₀, parent-of}
use Rattle.calls.proofs.Lists.{Goes, step-goes}
use Rattle.calls.proofs.Fits.{one_rule}
use Rattle.calls.proofs.Sources.{All, none, all-at, all-each, relayed-all, extended-all, adds-all, packages-all}
use Rattle.calls.proofs.Missing.{Holds, link-holds, ask_holds, bits-other, bits_c, parent-bits, bits-kept, missing_by_bytes, start-accepted}
use Rattle.calls.proofs.Stays.{stays-accepted}
use Rattle.calls.proofs.Theorem.{start-inv, after, table_is, whole_is, link_fits, linked-valid}

-- ---- one bit

module _ (f : ℕ → Bool) (e : Entry) where
  counted-zero : e.word ≡ 0 → is_counted f e ≡ true
  counted-zero z = rw (eq-eqb e.word 0 z)

  counted_none : e.word ≢ 0 → e.source ≡ None → is_counted f e ≡ false
  counted_none n s = rw (ne_eqb e.word 0 n, s)

  counted-copy : (j : ℕ) → e.word ≢ 0 → e.source ≡ Some j → is_counted f e ≡ f j
  counted-copy j n s = rw (ne_eqb e.word 0 n, s)

-- ---- where an entry of class d's table is from, by the words of the parent's table

pub data From (ws : List ℕ) (parent : List ℕ) (d : ℕ) (e : Entry) : Type 0 where
  copy : (j : ℕ) → j < length parent → e.word ≡ get_or parent j 0 → e.source ≡ Some j → From ws parent d e
  own : (m : ℕ) → Memᴰ m (own_methods ws d) → e ≡ method_entry ws m → From ws parent d e
  hole : e ≡ empty → From ws parent d e

module _ (ws abi : List ℕ) (tables : ℕ → List ℕ) (d : ℕ) where
  abbrev text : List ℕ
  text = text_of ws

  abbrev labels : List ℕ
  labels = abi_text_of abi

  abbrev pub parent_table : List ℕ
  parent_table = cond (eqb (parent_of ws d) 0) [] (tables (parent_of ws d))

  abbrev Here : Entry → Type 0
  Here = From ws parent_table d

  read-copy : (p j : ℕ) (t : List ℕ) → j < length t → From ws t d (read_entry (by_sheets ws abi) ws text abi labels p j (get_or t j 0))
  unfolding read_entry
  read-copy p j t h = copy j h refl refl

  inherited-all : All Here (inherited_from ws text abi labels tables d)
  unfolding inherited_from read_words
  inherited-all =
      by (eqb (parent_of ws d) 0) (λ t. rw t none)
      (λ t.
      let p : ℕ = parent_of ws d in
      let n : ℕ = length (tables p) in
      let f : ℕ → Entry = λ i. read_entry (by_sheets ws abi) ws text abi labels p i (get_or (tables p) i 0) in
      let l = length-list-from f 0 n in
      rw t
      (all-each (list_from f 0 n)
      (λ j h.
      let q : get_or (list_from f 0 n) j empty ≡ f (0 + j) = get_d_list_from f 0 n j empty (omega arith) in
      let z : 0 + j ≡ j = omega arith in
      rw (q, z) (read-copy p j (tables p) (omega arith)))))

  start-all : All Here (start_from ws text abi labels d (inherited_from ws text abi labels tables d))
  unfolding start_from
  start-all =
      by-found (class_abi ws text abi labels d)
      (λ a e. rw e (relayed-all (by_sheets ws abi) ws text abi Here (hole refl) (chain_abi ws text abi labels d) inherited-all))
      (λ e. rw e (extended-all (by_sheets ws abi) ws text abi Here (hole refl) (chain_abi ws text abi labels d) inherited-all))

  own-entry : (m : ℕ) → Memᴰ m (own_methods ws d) → Here (method_entry ws m)
  own-entry m i = own m i refl

  pub from-made : (T : List Entry) → made_from ws text abi labels tables d ≡ built T → All Here T
  unfolding made_from packages_from table_from
  from-made T e =
      by (is_packaged ws d)
      (λ t.
      subst (All Here) (built-same (rw t at e))
      (packages-all (by_sheets ws abi) ws text abi Here (hole refl) (introduced_from ws text abi labels tables (parent_of ws d)) d own-entry inherited-all))
      (λ t.
      let r = rw t at e in
      by (is_array ws d) (λ u. subst (All Here) (built-same (rw u at r)) inherited-all)
      (λ u.
      adds-all (by_sheets ws abi) ws text abi Here (hole refl) (chain_abi ws text abi labels d) (own_methods ws d) own-entry
      (start_from ws text abi labels d (inherited_from ws text abi labels tables d)) T (rw u at r) start-all))

-- ---- kept by every call: the entries that a linked class's table was written from

module _ (ws₀ abi : List ℕ) (valid₀ : Valid ws₀) (P : ℕ → Type 0) where
  pub record Witness (s : State) (d : ℕ) : Type 0 where
    pub entries : List Entry
    pub stubs : List ℕ
    pub lent : (i : ℕ) → i < length entries → P (get_or stubs i 0)
    pub words : table_of s d ≡ slot_words stubs 0 entries
    pub origins : All (From ws₀ (parent_table ws₀ abi (table_of s) d) d) entries
    pub bits : bits_now abi s d ≡ bits_of (λ j. get_or (bits_now abi s (parent_of ws₀ d)) j false) entries

  no_bits : (s : State) → bits_now abi s 0 ≡ []
  unfolding recounted recounted_along
  no_bits s = rw (chain-none s.set 0 refl)

  module _ (s s' : State) (keeps : Keeps s s') (same : (e : ℕ) → HasTable s.set e → bits_now abi s e ≡ bits_now abi s' e) (d : ℕ)
      (parent : parent_of ws₀ d ≢ 0 → HasTable s.set (parent_of ws₀ d)) where
    same-parent : parent_table ws₀ abi (table_of s') d ≡ parent_table ws₀ abi (table_of s) d
    same-parent =
        by (eqb (parent_of ws₀ d) 0) (λ t. rw t)
        (λ t. rw (t, keeps.table (parent_of ws₀ d) (parent (eqb-false (parent_of ws₀ d) 0 t))))

    same_bits : bits_now abi s (parent_of ws₀ d) ≡ bits_now abi s' (parent_of ws₀ d)
    same_bits =
        by (eqb (parent_of ws₀ d) 0)
        (λ t. let e : parent_of ws₀ d ≡ 0 = eqb-true (parent_of ws₀ d) 0 t in rw e (no_bits s ∙ sym (no_bits s')))
        (λ t. same (parent_of ws₀ d) (parent (eqb-false (parent_of ws₀ d) 0 t)))

    pub witness-next : HasTable s.set d → Witness s d → Witness s' d
    witness-next l w = record {
      entries = w.entries;
      stubs = w.stubs;
      lent = w.lent;
      words = keeps.table d l ∙ w.words;
      origins = subst (λ (t : List ℕ). All (From ws₀ t d) w.entries) (sym same-parent) w.origins;
      bits = sym (same d l) ∙ w.bits ∙ ap (λ (bs : List Bool). bits_of (λ j. get_or bs j false) w.entries) same_bits;
    }

  pub record Stands (s : State) : Type 0 where
    pub holds : Holds abi s
    pub inv : Inv ws₀ abi valid₀ P s
    pub witness : (d : ℕ) → HasTable s.set d → Plain ws₀ d → Witness s d

  -- an accepted link

  module _ (s : State) (st : Stands s) (c : ℕ) (stubs : List ℕ) (o : LinkOutcome) (acc : Accepted s.set abi c s.area stubs s.missing o)
      (lent : (x : ℕ) → Memᴰ x stubs → P x) where
    abbrev next : State
    next = record { set = o.outcome.set; area = o.outcome.area; missing = o.missing }

    keeps : Keeps s next
    keeps = link-keeps abi s c stubs o acc

    same : (e : ℕ) → HasTable s.set e → bits_now abi s e ≡ bits_now abi next e
    same = bits-other abi s c stubs o acc st.holds.tables

    abbrev T : List Entry
    T = acc.coming.table

    bits-here : bits_now abi next c ≡ bits_of (λ j. get_or (bits_now abi next (parent_of ws₀ c)) j false) T
    bits-here =
        let p : ℕ = parent_of s.set c in
        bits_c abi s c stubs o acc st.holds.tables st.holds.counted
        ∙ bits-ext (parent_bit s.missing p) (λ j. get_or (bits_now abi next p) j false)
        (λ j. sym (parent-bits abi s c stubs o acc st.holds.tables st.holds.counted j)) T
        ∙ ap (λ (q : ℕ). bits_of (λ j. get_or (bits_now abi next q) j false) T) (parent_is ws₀ abi valid₀ P s st.inv c stubs o acc lent)

    witness-here : Plain ws₀ c → Witness next c
    witness-here p = record {
      entries = T;
      stubs = stubs;
      lent = λ i h. lent (get_or stubs i 0) (in_at stubs i (omega (arith, acc.room.stubbed)));
      words = new-table abi s c stubs o acc;
      origins = subst (λ (t : List ℕ). All (From ws₀ t c) T)
          (sym (same-parent s next keeps same c (parent-linked₀ ws₀ abi valid₀ P s st.inv c stubs o acc lent)))
          (from-made ws₀ abi (table_of s) c T (new-from ws₀ abi valid₀ P s st.inv c stubs o acc lent p));
      bits = bits-here;
    }

    link-stands : Stands next
    link-stands = record {
      holds = link-holds abi s st.holds c stubs o acc;
      inv = link-inv ws₀ abi valid₀ P s st.inv c stubs o acc lent;
      witness = λ d l p.
          by (eqb d c)
          (λ t. let e : d ≡ c = eqb-true d c t in rw e (witness-here (rw e at p)))
          (λ t.
          let m = was abi s c stubs o acc d (eqb-false d c t) l in
          witness-next s next keeps same d (parent-of ws₀ abi valid₀ P st.inv d m) m (st.witness d m p));
    }

  -- an ask

  ask-stands : (s : State) → Stands s → (c i : ℕ) (stubs : List ℕ) → ((x : ℕ) → Memᴰ x stubs → P x) → Stands (step bytewise abi s (ask c i stubs))
  unfolding step
  ask-stands s st c i stubs lent =
      let o : Outcome = ask_def s.set abi c i s.area stubs in
      let e : o.set ≡ s.set = elim (ask-cases s.set abi c i s.area stubs) [ inl r ↦ r.same_set | inr a ↦ a.same_set ] in
      let g : Goes ws₀ abi valid₀ P s (record { set = o.set; area = o.area; missing = s.missing }) =
      unfold step in step-goes ws₀ abi valid₀ P s st.inv (ask c i stubs) lent in
      let g' : Goes ws₀ abi valid₀ P s (record { set = s.set; area = o.area; missing = s.missing }) =
      subst (λ (x : List ℕ). Goes ws₀ abi valid₀ P s (record { set = x; area = o.area; missing = s.missing })) e g in
      let h : Holds abi (record { set = o.set; area = o.area; missing = s.missing }) =
      unfold step in ask_holds abi s st.holds c i stubs in
      subst (λ (x : List ℕ). Stands (record { set = x; area = o.area; missing = s.missing })) (sym e)
      (record {
        holds = subst (λ (x : List ℕ). Holds abi (record { set = x; area = o.area; missing = s.missing })) e h;
        inv = g'.inv;
        witness = λ d l p.
            witness-next s (record { set = s.set; area = o.area; missing = s.missing }) g'.keeps
            (bits-kept abi s st.holds.tables o.area g'.keeps) d (parent-of ws₀ abi valid₀ P st.inv d l) l (st.witness d l p);
      })

  step-stands : (s : State) → Stands s → (k : Call) → ((x : ℕ) → Memᴰ x (stubs_of k) → P x) → Stands (step bytewise abi s k)
  unfolding step
  step-stands s st (link c stubs) lent =
      let o : LinkOutcome = link_def s.set abi c s.area stubs s.missing in
      elim (link-cases s.set abi c s.area stubs s.missing) [
        | inl r ↦ subst (λ (x : State). Stands x)
            (sym (same-state s o.outcome.set o.outcome.area o.missing r.same_set r.same_area r.same-missing)) st
        | inr a ↦ link-stands s st c stubs o a lent
      ]
  step-stands s st (ask c i stubs) lent = unfold step in ask-stands s st c i stubs lent

  pub run-stands : (ks : List Call) (s : State) → Stands s → ((x : ℕ) → Lent x ks → P x) → Stands (run bytewise abi ks s)
  unfolding run
  run-stands [] s st lent = st
  run-stands (k ∷ ks) s st lent =
      run-stands ks (step bytewise abi s k) (step-stands s st k (λ x i. lent x (lent_now i))) (λ x i. lent x (lent_later i))

  -- ---- along the chain

  -- the word of a counted slot was lent, that of another is the target of a method of the chain
  pub data Real (d : ℕ) : Bool → ℕ → Type 0 where
    stub : {w : ℕ} → P w → Real d true w
    real : {w : ℕ} (m : ℕ) → ChainMethod ws₀ d m → method_target ws₀ m ≡ w → Real d false w

  real-some : {d w : ℕ} {b : Bool} → ((x : ℕ) → P x → x ≢ 0) → ((m : ℕ) → ChainMethod ws₀ d m → method_target ws₀ m ≢ 0) → Real d b w → w ≢ 0
  real-some {w = w} f g (stub p) = f w p
  real-some f g (real m i e) = λ z. g m i (e ∙ z)

  real-up : {d w : ℕ} {b : Bool} → 1 ≤ d → Real (parent_of ws₀ d) b w → Real d b w
  real-up h (stub p) = stub p
  real-up {d} h (real m i e) = real m (record { owner = i.owner; along = chain-up ws₀ d h i.along; own = i.own }) e

  pub real_true : {d w : ℕ} {b : Bool} → Real d b w → b ≡ true → P w
  real_true (stub p) e = p
  real_true (real m i q) e = absurd (true≢false (sym e))

  pub real_false : {d w : ℕ} {b : Bool} → Real d b w → ((m : ℕ) → ChainMethod ws₀ d m → method_target ws₀ m ≢ w) → b ≡ true
  real_false (stub p) f = refl
  real_false (real m i q) f = absurd (f m i q)

  module _ (nonzero : (x : ℕ) → P x → x ≢ 0) (s : State) (st : Stands s) where
    abbrev SlotReal : ℕ → ℕ → Type 0
    SlotReal d i = Real d (get_or (bits_now abi s d) i false) (get_or (table_of s d) i 0)

    entry-real : (d : ℕ) → 1 ≤ d → ((m : ℕ) → ChainMethod ws₀ d m → method_target ws₀ m ≢ 0)
        → (parent_of ws₀ d ≢ 0 → (j : ℕ) → j < length (table_of s (parent_of ws₀ d)) → SlotReal (parent_of ws₀ d) j)
        → (e : Entry) (x : ℕ) → P x → From ws₀ (parent_table ws₀ abi (table_of s) d) d e
        → Real d (is_counted (λ j. get_or (bits_now abi s (parent_of ws₀ d)) j false) e) (slot_word e.word x)
    entry-real d h targets up e x p (hole q) =
        let z : e.word ≡ 0 = ap (λ (y : Entry). y.word) q in
        rw (counted-zero (λ j. get_or (bits_now abi s (parent_of ws₀ d)) j false) e z, stub-word e.word x z) (stub p)
    entry-real d h targets up e x p (own m i q) =
        let here : ChainMethod ws₀ d m = record { owner = d; along = chain-here ws₀ d h; own = i } in
        let t : method_target ws₀ m ≡ e.word = sym (ap (λ (y : Entry). y.word) q) in
        let n : e.word ≢ 0 = λ z. targets m here (t ∙ z) in
        let s₀ : e.source ≡ None = ap (λ (y : Entry). y.source) q in
        rw (counted_none (λ j. get_or (bits_now abi s (parent_of ws₀ d)) j false) e n s₀, own-word e.word x n) (real m here t)
    entry-real d h targets up e x p (copy j b w q) =
        by (eqb (parent_of ws₀ d) 0) (λ t. absurd (let z = rw t at b in omega arith))
        (λ t.
        let r : SlotReal (parent_of ws₀ d) j = up (eqb-false (parent_of ws₀ d) 0 t) j (rw t at b) in
        let v : e.word ≡ get_or (table_of s (parent_of ws₀ d)) j 0 = rw t at w in
        let here : Real d (get_or (bits_now abi s (parent_of ws₀ d)) j false) e.word = rw v (real-up h r) in
        let n = real-some nonzero targets here in
        rw (counted-copy (λ j. get_or (bits_now abi s (parent_of ws₀ d)) j false) e j n q, own-word e.word x n) here)

    pub slots-real : (bound d : ℕ) → d ≤ bound → HasTable s.set d → Plain ws₀ d → ((m : ℕ) → ChainMethod ws₀ d m → method_target ws₀ m ≢ 0) → (i : ℕ)
        → i < length (table_of s d) → SlotReal d i
    slots-real zero d b l p targets i h = absurd (omega (arith, l.some))
    slots-real (suc bound) d b l p targets i h =
        let f = parent_below ws₀ d l.some in
        let w = st.witness d l p in
        let k : i < length w.entries = omega (arith, h, ap length w.words, length-words w.stubs 0 w.entries) in
        let bit : get_or (bits_now abi s d) i false ≡ is_counted (λ j. get_or (bits_now abi s (parent_of ws₀ d)) j false) (get_or w.entries i empty) =
        ap (λ (bs : List Bool). get_or bs i false) w.bits ∙ bits_at (λ j. get_or (bits_now abi s (parent_of ws₀ d)) j false) w.entries i k in
        let word : get_or (table_of s d) i 0 ≡ slot_word (get_or w.entries i empty).word (get_or w.stubs i 0) =
        ap (λ (t : List ℕ). get_or t i 0) w.words ∙ word_at w.stubs w.entries i k in
        rw (bit, word)
        (entry-real d l.some targets
        (λ n j c.
        slots-real bound (parent_of ws₀ d) (omega arith) (parent-of ws₀ abi valid₀ P st.inv d l n) (plain-up l.some p)
        (λ m y. targets m (record { owner = y.owner; along = chain-up ws₀ d l.some y.along; own = y.own })) j c)
        (get_or w.entries i empty) (get_or w.stubs i 0) (w.lent i k) (all-at w.origins i k))

-- ---- THE THEOREM

module _ (ws abi area missing : List ℕ) (unlinked : Unlinked ws) (calls : List Call) (c place slots : ℕ)
    (linked : LinkedIn abi c place slots bytewise (start ws area missing) calls) (k : Conditions ws abi calls c) where
  valid₀ : Valid ws
  valid₀ = linked-valid ws abi area missing calls c place slots linked

  abbrev P : ℕ → Type 0
  P x = Lent x calls

  abbrev final : State
  final = run bytewise abi calls (start ws area missing)

  stands : Stands ws abi valid₀ P final
  stands =
      run-stands ws abi valid₀ P calls (start ws area missing)
      (record {
        holds = record {
          tables = tables_start ws area missing unlinked;
          rebuilt = λ d l. absurd (none-linked unlinked l);
          counted = λ d l. absurd (none-linked unlinked l);
        };
        inv = start-inv ws abi area missing valid₀ unlinked P;
        witness = λ d l. absurd (none-linked unlinked l);
      })
      (λ x i. i)

  now : HasTable final.set c
  now = (after ws abi area missing valid₀ unlinked calls linked).linked

  plain : Plain ws c
  plain =
      let fits = link_fits ws abi area missing valid₀ unlinked calls linked in
      record { kinds = one_rule ws (text_of ws) abi (abi_text_of abi) c fits k.kinds; flags = λ d i q. k.no_interface d i }

  table-now : table_of final c ≡ table_at final.area place slots
  table-now = table_is ws abi area missing valid₀ unlinked calls linked

  real-slot : (i : ℕ) → i < slots → Real ws abi valid₀ P c (get_or (bits_now abi final c) i false) (get_or (table_at final.area place slots) i 0)
  real-slot i h =
      rw (← table-now)
      (slots-real ws abi valid₀ P k.nonzero_stubs final stands c c (omega arith) now plain k.nonzero_targets i
      (omega (arith, h, ap length table-now, whole_is ws abi area missing valid₀ unlinked calls linked)))

  within : (i : ℕ) → i < slots → i < 1024
  within i h =
      let e = stays-accepted bytewise abi calls (start ws area missing) (start-accepted ws abi area missing unlinked calls c now) in
      let v = ((valid final.set abi e).0.class c (now.some, now.among)).slots now.has in
      omega (arith, (after ws abi area missing valid₀ unlinked calls linked).slots)

  bit_is : (i : ℕ) → i < slots → missing_bit final.missing c i ≡ get_or (bits_now abi final c) i false
  bit_is i h = bit-read final.missing c (bits_now abi final c) ((missing_by_bytes ws abi area missing).counted unlinked calls c now).words i (within i h)

  no_real : (i : ℕ) → i < slots
      → (missing_bit final.missing c i ≡ true)
      ↔ ((m : ℕ) → ChainMethod ws c m → method_target ws m ≢ get_or (table_at final.area place slots) i 0)
  no_real i h = (
    λ e m y. k.no_stub (get_or (table_at final.area place slots) i 0) m (real_true ws abi valid₀ P (real-slot i h) (sym (bit_is i h) ∙ e)) y,
    λ f. bit_is i h ∙ real_false ws abi valid₀ P (real-slot i h) f,
  )

pub no_real_by_bytes : ByBytes NoRealBy
no_real_by_bytes ws abi area missing unlinked calls c place slots linked k i h = no_real ws abi area missing unlinked calls c place slots linked k i h
