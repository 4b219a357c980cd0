-- R-5: what moves where rule 22 is tested ahead of rule 21.
use mathlib.Core.Path.{◌≡◌, refl, ap, sym, ◌∙◌}
use mathlib.Core.Bool.{Bool, true, false, not, cond, ◌&&◌, false≢true}
use mathlib.Core.List.{List, [], ◌∷◌, ◌++◌}
use Prim.Native.Nat.{ℕ}
use native.Mathlib.Omega.{arith}
use borrow.Author.Tests.{eqb-true, not-true, not-false}
use lib.ListN.{length, get_or}
use Rattle.texts.specs.Quoted.{Text}
use Rattle.texts.specs.Texts.{every, any, same, are, among, blank, ◌is◌, ◌is_one_of◌, ◌begins◌}
use Rattle.texts.specs.Answers.{Answer, success, refusal, ◌refuses◌, answer_by}
use Rattle.texts.proofs.Bools.{both, alike}
use Rattle.texts.proofs.Codes.{same_true}
use Rattle.texts.proofs.Every.{every-member}
use Rattle.sheets.specs.Sheet.{Sheet, well_formed, ◌⟨◌⟩}
use Rattle.sheets.specs.Forms.{◌⇒◌, uin}
use Rattle.sheets.specs.Lists.{account03212, courts_group}
use Rattle.sheets.specs.Dates.{dates_fit}
use Rattle.sheets.specs.declared.dates.Dates.{Dates}
use Rattle.rules.specs.Rules.{budget, rules, order, status, test_of, field_of, keeps, first_not, class_of}
use Rattle.rules.specs.Verdicts.{class_name, broken_rule, check_tests, checked}
use Rattle.rules.specs.Requests.Before.{tests_by, checked_by, broken}
use Rattle.rules.specs.Requests.R5.{up_to20, from23, order_before, caught, before, Moved}

exchange-step : (x y m : ℕ) (h k : Bool) → (not h && not k) ≡ false → cond h (cond k m y) x ≡ cond k (cond h m x) y
exchange-step x y m true true e = refl
exchange-step x y m true false e = refl
exchange-step x y m false true e = refl
exchange-step x y m false false e = absurd (false≢true (sym e))

behind-step : (a k l : ℕ) (h r t : Bool) → ((r && t) ≡ false → k ≡ l) → ((h && r) && t) ≡ false → cond h k a ≡ cond h l a
behind-step a k l true r t f e = f e
behind-step a k l false r t f e = refl

module _ (p : ℕ → Bool) (x : ℕ) where
  -- two can be exchanged, unless both are broken and those before them are kept
  first-exchanged : (y : ℕ) (zs ks : List ℕ) → (every p ks && (not (p x) && not (p y))) ≡ false → first_not p (ks ++ (x ∷ y ∷ zs)) ≡ first_not p (ks ++ (y ∷ x ∷ zs))
  unfolding every first_not
  first-exchanged y zs [] e = exchange-step x y (first_not p zs) (p x) (p y) e
  first-exchanged y zs (a ∷ ks) e = behind-step a _ _ (p a) (every p ks) (not (p x) && not (p y)) (first-exchanged y zs ks) e

  -- a broken one behind rules that are kept is the first
  first-broken : (zs ks : List ℕ) → every p ks ≡ true → not (p x) ≡ true → first_not p (ks ++ (x ∷ zs)) ≡ x
  unfolding every first_not
  first-broken zs [] e f = rw (not-true (p x) f)
  first-broken zs (a ∷ ks) e f = let q = both (p a) (every p ks) e in rw q.0 (first-broken zs ks q.1 f)

exchange-and : (a b c : Bool) → (a && (b && c)) ≡ (b && (a && c))
exchange-and true b c = refl
exchange-and false true c = refl
exchange-and false false c = refl

pub every-exchanged : (p : ℕ → Bool) (x y : ℕ) (zs ks : List ℕ) → every p (ks ++ (x ∷ y ∷ zs)) ≡ every p (ks ++ (y ∷ x ∷ zs))
unfolding every
every-exchanged p x y zs [] = exchange-and (p x) (p y) (every p zs)
every-exchanged p x y zs (a ∷ ks) = ap (λ (b : Bool). p a && b) (every-exchanged p x y zs ks)

-- ---- when rules 21 and 22 are both broken

refused : (b c d : Bool) → (b ⇒ (c ⇒ d)) ≡ false → (c ≡ true) × (d ≡ false)
refused true true d e = (refl, e)
refused true false d e = absurd (false≢true (sym e))
refused false c d e = absurd (false≢true (sym e))

-- an order of no class has no status
classed : (b : Bool) (t : Text) → (not b ⇒ blank t) ≡ true → (t is_one_of courts_group) ≡ true → b ≡ true
unfolding ◌is_one_of◌ any same
classed true t e h = refl
classed false [] e h = absurd (false≢true h)
classed false (x ∷ xs) e h = let z = eqb-true (length (x ∷ xs)) 0 e in absurd (omega arith)

not-uin : (t : Text) → (t is "0") ≡ true → uin t ≡ false
unfolding every are
not-uin t e = ap uin (same_true t (48 ∷ []) e)

-- they are, behind rules that are kept, of exactly these sheets
caught-is : (D : Dates) (s : Sheet) → caught D s ≡ (every (keeps D s) up_to20 && (not (keeps D s 21) && not (keeps D s 22)))
unfolding keeps test_of rules any are among
caught-is D s = alike _ _ forth back
  where
    f17 : Bool
    f17 = s ⟨ 17 ⟩ begins account03212

    f22 : Bool
    f22 = s ⟨ 22 ⟩ is "0"

    forth : caught D s ≡ true → (every (keeps D s) up_to20 && (not (keeps D s 21) && not (keeps D s 22))) ≡ true
    forth c =
        let q = both (f17 && status s courts_group) (f22 && every (keeps D s) up_to20) c in
        let f = both f17 (status s courts_group) q.0 in
        let g = both f22 (every (keeps D s) up_to20) q.1 in
        let b = classed (budget s) (s ⟨ 101 ⟩) (every-member (keeps D s) up_to20 4 refl g.1) f.1 in
        rw (g.1, b, f.1, not-uin (s ⟨ 22 ⟩) g.0, f.0, g.0)

    back : (every (keeps D s) up_to20 && (not (keeps D s 21) && not (keeps D s 22))) ≡ true → caught D s ≡ true
    back c =
        let q = both (every (keeps D s) up_to20) (not (keeps D s 21) && not (keeps D s 22)) c in
        let r = both (not (keeps D s 21)) (not (keeps D s 22)) q.1 in
        let a = refused (budget s) (status s courts_group) (uin (s ⟨ 22 ⟩)) (not-true (keeps D s 21) r.0) in
        let b = refused (budget s) f17 (not f22) (not-true (keeps D s 22) r.1) in
        rw (b.0, a.0, not-false f22 b.1, q.0)

-- ---- the answers

abbrev second : Answer → ℕ
second (success vs) = 0
second (refusal n vs) = get_or vs 1 0

module _ (D : Dates) (s : Sheet) where
  -- by the first broken rule
  abbrev answer_of : ℕ → Answer
  answer_of n = answer_by ((not (well_formed s) refuses 1) ∷ (not (dates_fit D) refuses 12) ∷ broken_rule rules n s ∷ []) (class_name (class_of s))

  before-is : before D s ≡ answer_of (first_not (keeps D s) order_before)
  unfolding checked_by tests_by keeps
  before-is = refl

  now-is : checked D s ≡ answer_of (first_not (keeps D s) order)
  unfolding checked check_tests
  now-is = refl

  pub malformed-still : well_formed s ≡ false → before D s ≡ checked D s
  malformed-still w = let e : answer_of (first_not (keeps D s) order_before) ≡ answer_of (first_not (keeps D s) order) = rw w in before-is ∙ e ∙ sym now-is

  pub undated-still : dates_fit D ≡ false → before D s ≡ checked D s
  undated-still w = let e : answer_of (first_not (keeps D s) order_before) ≡ answer_of (first_not (keeps D s) order) = rw w in before-is ∙ e ∙ sym now-is

  pub moved-case : (b : Bool) → well_formed s ≡ true → dates_fit D ≡ true → caught D s ≡ b → Moved D s (checked D s)
  unfolding field_of rules broken
  moved-case false w t c =
      let q = before-is ∙ ap answer_of (first-exchanged (keeps D s) 21 22 from23 up_to20 (sym (caught-is D s) ∙ c)) ∙ sym now-is in
      let no : caught D s ≡ true → ⊥ = λ d. false≢true (sym c ∙ d) in
      record { exactly = (λ n. absurd (n q), λ d. absurd (no d)); was = λ d. absurd (no d); becomes = λ d. absurd (no d); stays = λ z. q }
  moved-case true w t c =
      let q = both (every (keeps D s) up_to20) (not (keeps D s 21) && not (keeps D s 22)) (sym (caught-is D s) ∙ c) in
      let r = both (not (keeps D s 21)) (not (keeps D s 22)) q.1 in
      let u : before D s ≡ broken 22 21 = before-is ∙ ap answer_of (first-broken (keeps D s) 21 (22 ∷ from23) up_to20 q.0 r.0) ∙ rw (w, t) in
      let v : checked D s ≡ broken 22 22 = now-is ∙ ap answer_of (first-broken (keeps D s) 22 (21 ∷ from23) up_to20 q.0 r.1) ∙ rw (w, t) in
      record {
        exactly = (λ n. c, λ d q. let z : ◌≡◌ {A = ℕ} 21 22 = ap second (sym u ∙ q ∙ v) in absurd (omega arith));
        was = λ d. u;
        becomes = λ d. v;
        stays = λ z. absurd (false≢true (sym z ∙ c));
      }
