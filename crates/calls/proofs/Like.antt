-- What a list of calls leaves of the class words: names, parents, flags and kinds, the method lists of classes that are not generated, method
-- records, and the text as the beginning of the new one. Assumes nothing.
use Rattle.std.proofs.Common.{◌≡◌, refl, sym, ap, ◌∙◌, ◌≢◌, List, [], ◌++◌, append-nil, append_assoc, ℕ, ◌≤◌, ◌<◌, arith}
use Rattle.class_sheet.specs.ClassSheet.{member_width, kind_word, first_method_word, method_count_word, first_field_word, class_count, method_count, text_of, class_word, class_kind, method_word}
use Rattle.linking.proofs.Rebuilt.{Unmoved}

pub record Like (old new : List ℕ) : Type 0 where
  pub classes : class_count new ≡ class_count old
  pub methods : method_count old ≤ method_count new
  pub word : (c k : ℕ) → 1 ≤ c → c ≤ class_count old → k < first_method_word → class_word new c k ≡ class_word old c k
  pub listed : (c k : ℕ) → 1 ≤ c → c ≤ class_count old → class_kind old c ≢ 1 → k < first_field_word → class_word new c k ≡ class_word old c k
  pub method : (m k : ℕ) → m < method_count old → k < member_width → method_word new m k ≡ method_word old m k
  pub more : List ℕ
  pub text : text_of new ≡ text_of old ++ more

pub like-same : (ws : List ℕ) → Like ws ws
like-same ws = record {
  classes = refl;
  methods = omega arith;
  word = λ c k s a h. refl;
  listed = λ c k s a n h. refl;
  method = λ m k h l. refl;
  more = [];
  text = sym (append-nil (text_of ws));
}

pub like-next : (a b c : List ℕ) → Like a b → Like b c → Like a c
like-next a b c p q =
    let e = p.classes in
    let m = p.methods in
    let m' = q.methods in
    record {
      classes = q.classes ∙ p.classes;
      methods = omega arith;
      word = λ d k s h l. q.word d k s (omega arith) l ∙ p.word d k s h l;
      listed = λ d k s h n l.
          q.listed d k s (omega arith) (λ f. n (sym (p.word d kind_word s h (omega arith)) ∙ f)) l ∙ p.listed d k s h n l;
      method = λ i k h l. q.method i k (omega arith) l ∙ p.method i k h l;
      more = p.more ++ q.more;
      text = q.text ∙ ap (λ (t : List ℕ). t ++ q.more) p.text ∙ append_assoc (text_of a) p.more q.more;
    }

-- the same but for kinds: what chains, methods and Reading go by
pub record Alike (old new : List ℕ) : Type 0 where
  pub classes : class_count new ≡ class_count old
  pub word : (c k : ℕ) → 1 ≤ c → c ≤ class_count old → k < kind_word → class_word new c k ≡ class_word old c k
  pub listed : (c k : ℕ) → 1 ≤ c → c ≤ class_count old → class_kind old c ≢ 1 → kind_word < k → k < first_field_word → class_word new c k ≡ class_word old c k
  pub method : (m k : ℕ) → m < method_count old → k < member_width → method_word new m k ≡ method_word old m k
  pub more : List ℕ
  pub text : text_of new ≡ text_of old ++ more

pub alike : {old new : List ℕ} → Like old new → Alike old new
alike l = record {
  classes = l.classes;
  word = λ c k s a h. l.word c k s a (omega arith);
  listed = λ c k s a n g h. l.listed c k s a n h;
  method = l.method;
  more = l.more;
  text = l.text;
}

-- the own methods of a class that is not generated are listed as before
pub unmoved-kind : {old new : List ℕ} {d : ℕ} → Alike old new → 1 ≤ d → d ≤ class_count old → class_kind old d ≢ 1 → Unmoved old new d
unmoved-kind {d = d} like s a n = record {
  first = like.listed d first_method_word s a n (omega arith) (omega arith);
  many = like.listed d method_count_word s a n (omega arith) (omega arith);
}
