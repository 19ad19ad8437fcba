-- The theorems on the order in which a class file is judged: each verdict from what the file comes to. Assumes nothing.
use mathlib.Core.Path.{◌≡◌, refl, sym, ap, ◌∙◌}
use mathlib.Core.Logic.{◌≢◌, ◌⊎◌, inl, inr}
use mathlib.Core.Bool.{true, false}
use mathlib.Core.List.{List, ◌∷◌, ◌++◌}
use Prim.Native.Nat.{ℕ, ◌+◌, ◌-◌, ◌≤◌, ◌<◌}
use native.Mathlib.Omega.{arith}
use lib.ListN.{length, take, replicate, length-append, length-take, length-replicate}
use lib.Seq.{take-take, take-length, length-take-le, take-append-le, take-append-add, get_or-take}
use lib.Dec.{eqb, leb}
use borrow.Author.Tests.{eqb-true, eqb-false, eq-eqb, ne_eqb, leb-true, leb-false, le-leb, lt-leb}
use Rattle.words.proofs.Bools.{by}
use Rattle.words.proofs.Bytes.{all-bytes, append-bytes}
use Rattle.words.specs.Words.{AreBytes}
use Rattle.words.proofs.Lists.{zeros}
use Rattle.std.specs.Prelude.{Ok, Err}
use Rattle.refusal.specs.declared.Refusal.TheVariants.{WrongEnd, WrongPool}
use Rattle.class_form.specs.Form.{Step, after_file, version_ok, end_refusal, form_refusal}
use Rattle.file_form.specs.FrontToBack.{MetAt, EndsEarly, Open, Continues, Alone, FrontToBack}
use Rattle.file_form.proofs.Outcome.{agree_less, agree-u2, agree-u4, agree-length, Held, Before, Outcome, goes, met, early}
use Rattle.file_form.proofs.File.{file}
use Rattle.file_form.proofs.Longest.{longest}

-- ---- the first eight bytes

few : (cs : List ℕ) → length cs < 8 → form_refusal cs ≡ 21
unfolding form_refusal
few cs h = rw (lt-leb 8 (length cs) h)

wrong : (cs : List ℕ) → 8 ≤ length cs → version_ok cs ≡ false → form_refusal cs ≡ 20
unfolding form_refusal
wrong cs h v = rw (le-leb 8 (length cs) h, v)

right : (cs : List ℕ) (s : Step) → 8 ≤ length cs → version_ok cs ≡ true → after_file cs ≡ s → form_refusal cs ≡ end_refusal cs s
unfolding form_refusal
right cs s h v e = rw (le-leb 8 (length cs) h, v, e)

version-same : (bs cs : List ℕ) → take 8 cs ≡ take 8 bs → version_ok cs ≡ version_ok bs
unfolding version_ok
version-same bs cs a = rw (agree-u4 bs cs 8 0 (omega arith) a, agree-u2 bs cs 8 6 (omega arith) a)

-- ---- what is true of bytes by their verdict

data Verdict (bs : List ℕ) : Type 0 where
  accepted : form_refusal bs ≡ 0 → Alone bs → Verdict bs
  version-met : form_refusal bs ≡ 20 → MetAt bs 20 8 → Verdict bs
  ended : form_refusal bs ≡ 21 → EndsEarly bs ⊎ Continues bs → Verdict bs
  pool-met : form_refusal bs ≡ 22 → (q : ℕ) → MetAt bs 22 q → Verdict bs

module _ (bs : List ℕ) (eight : 8 ≤ length bs) where
  front-few : (n : ℕ) → n < 8 → form_refusal (take n bs) ≡ 21
  front-few n h = few (take n bs) (omega (arith, length-take n bs))

  wrong-verdict : version_ok bs ≡ false → Verdict bs
  wrong-verdict v =
      version-met (wrong bs eight v)
      (record {
        there = eight;
        held = λ cs a. wrong cs (agree-length bs cs 8 eight a) (version-same bs cs a ∙ v);
        before = front-few;
      })

  module _ (v : version_ok bs ≡ true) where
    -- bytes that agree in the first q, of which there are eight
    judged : (q : ℕ) (s : Step) → 8 ≤ q → q ≤ length bs → Held bs after_file q s → (cs : List ℕ) → take q cs ≡ take q bs
        → form_refusal cs ≡ end_refusal cs s
    judged q s low there held cs a =
        right cs s (omega (arith, agree-length bs cs q there a)) (version-same bs cs (agree_less bs cs 8 q low a) ∙ v) (held cs a)

    -- bytes that end before q
    front-short : (q : ℕ) → q ≤ length bs + 1 → Before bs 8 after_file q → (n : ℕ) → n < q → form_refusal (take n bs) ≡ 21
    front-short q there before n h =
        by (leb 8 n)
        (λ t.
        let g = leb-true 8 n t in
        right (take n bs) (Err WrongEnd) (omega (arith, length-take-le n bs (omega arith))) (version-same bs (take n bs) (take-take 8 n bs g) ∙ v)
        (before n g h))
        (λ t. front-few n (leb-false 8 n t))

    accepts : (cs : List ℕ) (q : ℕ) → q ≡ length cs → end_refusal cs (Ok q) ≡ 0
    accepts cs q e = rw (eq-eqb q (length cs) e)

    continues : (cs : List ℕ) (q : ℕ) → q < length cs → end_refusal cs (Ok q) ≡ 21
    continues cs q h = rw (ne_eqb q (length cs) (λ e. omega arith))

    right-verdict : Outcome bs 8 after_file → Verdict bs
    right-verdict (goes q low there held before) =
        by (eqb q (length bs))
        (λ t.
        let e = eqb-true q (length bs) t in
        accepted (judged q (Ok q) low there held bs refl ∙ accepts bs q e)
        (record {
          front = λ n h. front-short q (omega arith) before n (omega arith);
          more =
              λ b rest.
              judged q (Ok q) low there held (bs ++ (b ∷ rest)) (take-append-le q bs (b ∷ rest) there)
              ∙ continues (bs ++ (b ∷ rest)) q (omega (arith, length-append bs (b ∷ rest)));
        }))
        (λ t.
        let e = eqb-false q (length bs) t in
        let less : q < length bs = omega arith in
        ended (judged q (Ok q) low there held bs refl ∙ continues bs q less)
        (inr (
          q,
          less,
          judged q (Ok q) low there held (take q bs) (take-take q q bs (omega arith))
              ∙ accepts (take q bs) q (sym (length-take-le q bs there)),
        )))
    right-verdict (met q low there held before) =
        pool-met (judged q (Err WrongPool) low there held bs refl) q
        (record {
          there = there;
          held = judged q (Err WrongPool) low there held;
          before = front-short q (omega arith) before;
        })
    right-verdict (early before) =
        let short = front-short (length bs + 1) (omega arith) before in
        ended (sym (ap form_refusal (take-length bs)) ∙ short (length bs) (omega arith)) (inl (λ n h. short n (omega arith)))

verdict : (bs : List ℕ) → Verdict bs
verdict bs =
    by (leb 8 (length bs))
    (λ t.
    let eight = leb-true 8 (length bs) t in
    by (version_ok bs) (λ v. right-verdict bs eight v (file bs)) (λ v. wrong-verdict bs eight v))
    (λ t.
    let less = leb-false 8 (length bs) t in
    ended (few bs less) (inl (λ n h. few (take n bs) (omega (arith, length-take n bs)))))

-- ---- bytes that end early, with zeros after them

zero-bytes : (n : ℕ) → AreBytes (replicate n 0)
zero-bytes n i = rw (zeros n i) (omega arith)

module _ (bs : List ℕ) (small : AreBytes bs) (ends : EndsEarly bs) where
  -- as many zeros as no file can ask for
  abbrev many : ℕ
  many = 8 + longest.0

  abbrev zs : List ℕ
  zs = replicate many 0

  abbrev cs : List ℕ
  cs = bs ++ zs

  length-cs : length cs ≡ length bs + many
  length-cs = length-append bs zs ∙ ap (λ (n : ℕ). length bs + n) (length-replicate {A = ℕ} many 0)

  eight : 8 ≤ length cs
  eight = omega (arith, length-cs)

  some-zeros : (k : ℕ) → AreBytes (take k zs)
  some-zeros k = all-bytes (take k zs) (λ i h. rw (get_or-take k zs i 0 (omega (arith, length-take k zs))) (zero-bytes many i))

  -- a front that is a class file is longer than bs
  up_to : (q : ℕ) → form_refusal (take q cs) ≡ 0 → Open bs
  up_to q e =
      by (leb q (length bs))
      (λ t.
      let h = leb-true q (length bs) t in
      absurd (let z : ◌≡◌ {A = ℕ} 21 0 = sym (ends q h) ∙ (rw (take-append-le q bs zs h) at e) in omega arith))
      (λ t.
      let n : length bs + (q - length bs) ≡ q = omega (arith, leb-false q (length bs) t) in
      let f : form_refusal (bs ++ take (q - length bs) zs) ≡ 0 = rw (← n, take-append-add bs zs (q - length bs)) at e in
      record {
        more = take (q - length bs) zs;
        bytes = some-zeros (q - length bs);
        other = λ z. let w : ◌≡◌ {A = ℕ} 0 21 = sym f ∙ z in omega arith;
      })

  by_row : (row : ℕ) → row ≢ 21 → form_refusal cs ≡ row → Open bs
  by_row row other e =
      record {
        more = zs;
        bytes = zero-bytes many;
        other = λ z. other (sym e ∙ z);
      }

  after-eight : version_ok cs ≡ true → Outcome cs 8 after_file → Open bs
  after-eight v (goes q low there held before) =
      up_to q
      (judged cs eight v q (Ok q) low there held (take q cs) (take-take q q cs (omega arith))
      ∙ accepts cs eight v (take q cs) q (sym (length-take-le q cs there)))
  after-eight v (met q low there held before) =
      by_row 22 (λ z. omega arith) (judged cs eight v q (Err WrongPool) low there held cs refl)
  after-eight v (early before) =
      let stop : after_file cs ≡ Err WrongEnd = sym (ap after_file (take-length cs)) ∙ before (length cs) eight (omega arith) in
      let few = (longest.1 cs (append-bytes bs zs small (zero-bytes many))).ends stop in
      absurd (omega (arith, few, length-cs))

  goes_on : Open bs
  goes_on =
      by (version_ok cs) (λ v. after-eight v (file cs)) (λ v. by_row 20 (λ z. omega arith) (wrong cs eight v))

-- ---- the theorems

told : (bs : List ℕ) → Verdict bs → FrontToBack bs
told bs (accepted e alone) = record {
  answers = inl e;
  version = λ h. absurd (omega arith);
  pool = λ h. absurd (omega arith);
  ends = λ h. absurd (omega arith);
  unmet = goes_on bs;
  alone = λ h. alone;
}
told bs (version-met e at) = record {
  answers = inr (inl e);
  version = λ h. at;
  pool = λ h. absurd (omega arith);
  ends = λ h. absurd (omega arith);
  unmet = goes_on bs;
  alone = λ h. absurd (omega arith);
}
told bs (ended e how) = record {
  answers = inr (inr (inl e));
  version = λ h. absurd (omega arith);
  pool = λ h. absurd (omega arith);
  ends = λ h. how;
  unmet = goes_on bs;
  alone = λ h. absurd (omega arith);
}
told bs (pool-met e q at) = record {
  answers = inr (inr (inr e));
  version = λ h. absurd (omega arith);
  pool = λ h. (q, at);
  ends = λ h. absurd (omega arith);
  unmet = goes_on bs;
  alone = λ h. absurd (omega arith);
}

pub front_to_back : (bs : List ℕ) → FrontToBack bs
front_to_back bs = told bs (verdict bs)
