-- Laws of the list of numbers: when a link has room for those of the methods that it copies and adds, and what it leaves. Assumes nothing.
use mathlib.Core.Path.{◌≡◌, refl, sym, ◌∙◌}
use mathlib.Core.Logic.{◌≢◌}
use mathlib.Core.Bool.{Bool, true, false, not, ◌&&◌}
use mathlib.Core.List.{List}
use Prim.Native.Nat.{ℕ, ◌+◌, ◌≤◌}
use native.Mathlib.Omega.{arith}
use lib.ListN.{length}
use lib.Dec.{eqb, ltb}
use borrow.Author.Tests.{ne_eqb, ltb-false, eqb-false, not-true}
use Rattle.words.proofs.Bools.{by, and_both, or-neither}
use Rattle.class_sheet.specs.ClassSheet.{class_count, method_count, text_length, class_kind, is_built_kind, class_method_count, text_of, member_limit, text_limit}
use Rattle.abi_sheet.specs.AbiSheet.{abi_text_of}
use Rattle.set_rules.specs.Valid.{Valid}
use Rattle.linking.specs.Signature.{by_numbers}
use Rattle.linking.specs.Compiler.{New, members}
use Rattle.linking.specs.Set.{new_text, section_full}
use Rattle.linking.specs.Link.{is_none, lists_full, plan, LinkOutcome, refused_link, link_by}
use Rattle.linking.specs.Numbers.{numbers_short}
use Rattle.linking.specs.Numbered.{NumberedOutcome, leaving, numbers_after, numbers_planned, link_numbered}
use Rattle.growth.specs.declared.news.Member.{Member}
use Rattle.growth.specs.declared.Section.{Section}
use Rattle.growth.specs.News.{news_of, added_of}
use Rattle.growth.specs.Growth as growth
use Rattle.growth.specs.Growth.{growing, numbers_grown, numbers_put}
use Rattle.growth.proofs.NewsLaws.{length-news, members-added}
use Rattle.growth.proofs.NumberLaws.{Fit, put-fit, numbers-taken}
use Rattle.plan.specs.Plans.{methods_of}
use Rattle.link.specs.Stored.{members_plan, link_long, numbers_stored, Storable}
use Rattle.link.proofs.StoreLaws.{some_more, news-is}

-- ---- what is stored

other-list : (ws : List ℕ) (c : ℕ) → is_built_kind (class_kind ws c) ≡ false → growing ws c ≡ growth.methods_of ws c
unfolding growing
other-list ws c k = rw k

module _ (ws : List ℕ) (c : ℕ) (numbers : List ℕ) (ms : List Member) {b : Bool} {n : ℕ} (kind : b ≡ is_built_kind (class_kind ws c))
    (size : n ≡ length ms) where
  -- what row 14 gives is the room that the growth of the list asks for
  pub numbers-put : (not b && not (eqb n 0)) ≡ true → {g : Section} → g ≡ growing ws c → Storable ws c numbers ms
      → {l : List ℕ} → l ≡ numbers_put numbers g ms → l ≡ numbers_stored ws c numbers ms
  unfolding numbers_stored
  numbers-put grows {g} list s e =
      let t = and_both (not b) (not (eqb n 0)) grows in
      let k : is_built_kind (class_kind ws c) ≡ false = sym kind ∙ not-true b t.0 in
      let r = s.list k (λ z. eqb-false n 0 (not-true (eqb n 0) t.1) (size ∙ z)) in
      let f : Fit numbers g ms = rw (list ∙ other-list ws c k) (record { own = r.0; members = r.1; long = s.long }) in
      e ∙ put-fit numbers g ms f ∙ rw (← kind, ← size, grows, list)

  pub numbers-left : (not b && not (eqb n 0)) ≡ false → numbers ≡ numbers_stored ws c numbers ms
  unfolding numbers_stored
  numbers-left e = rw (← kind, ← size, e)

-- it is what a link leaves that adds these methods
pub stored-after : (ws text abi labels : List ℕ) (c : ℕ) (numbers : List ℕ) (ms : List Member)
    → numbers_stored ws c numbers ms ≡ numbers_after ws numbers c (methods_of ws c (added_of ws text abi labels ms))
unfolding numbers_stored numbers_after numbers_grown growing members
stored-after ws text abi labels c numbers ms =
    by (is_built_kind (class_kind ws c)) (λ k. rw k)
    (λ k.
    rw (k, members-added ws text abi labels ms, news-is ws text abi labels ms refl, numbers-taken numbers ws text abi labels ms)
    (by (eqb (length ms) 0) (λ z. rw z) (λ z. rw z)))

-- there is room where row 14 does not refuse
module _ (ws text abi labels : List ℕ) (c : ℕ) (ms : List Member) (valid : Valid ws) (among : (1 ≤ c) × (c ≤ class_count ws)) where
  abbrev new : List New
  new = news_of ws text abi labels ms

  pub storable : (numbers : List ℕ) → numbers_short numbers ≡ false
      → lists_full ws c (members_plan ws c (added_of ws text abi labels ms)) ≡ false → Storable ws c numbers ms
  unfolding numbers_short lists_full section_full
  storable numbers short full =
      let l = ltb-false _ _ short in
      record {
        long = omega arith;
        list = λ k n.
            let h = rw (k, members-added ws text abi labels ms) at full in
            let z = length-news ws text abi labels ms in
            let f = (or-neither (not (is_none new) && section_full ws (method_count ws) (class_method_count ws c) new) false h).0 in
            let s : section_full ws (method_count ws) (class_method_count ws c) new ≡ false =
            rw (some_more new (λ e. n (omega arith))) at f in
            let q = or-neither (ltb member_limit (method_count ws + (class_method_count ws c + length new)))
            (ltb text_limit (text_length ws + length (new_text new))) s in
            ((valid.class c among).methods, omega (arith, ltb-false _ _ q.0));
      }

-- ---- the call

module _ (ws abi numbers : List ℕ) (c : ℕ) (area stubs missing : List ℕ) where
  pub long_refused : (n : ℕ) → n ≢ 0 → refused_link n ws area missing ≡ link_by (by_numbers numbers) ws abi c area stubs missing
      → leaving (refused_link n ws area missing) numbers ≡ link_long ws abi numbers c area stubs missing
  unfolding link_long
  long_refused n h e = rw (← e) (simp (ne_eqb n 0 h))

  pub long-done : {o : LinkOutcome} {left : List ℕ} → o ≡ link_by (by_numbers numbers) ws abi c area stubs missing → o.outcome.refusal ≡ 0
      → left ≡ numbers_planned ws numbers c (plan (by_numbers numbers) ws (text_of ws) abi (abi_text_of abi) area c)
      → leaving o left ≡ link_long ws abi numbers c area stubs missing
  unfolding link_long
  long-done e z f = rw (← e, z, f)

  module _ {b : Bool} (short : b ≡ numbers_short numbers) where
    pub link_short : b ≡ true → leaving (refused_link 3 ws area missing) numbers ≡ link_numbered ws abi numbers c area stubs missing
    unfolding link_numbered
    link_short e = rw (← short, e)

    pub link-is-long : {o : NumberedOutcome} → b ≡ false → o ≡ link_long ws abi numbers c area stubs missing
        → o ≡ link_numbered ws abi numbers c area stubs missing
    unfolding link_numbered link_long link_by
    link-is-long e f = f ∙ rw (← short, e)
