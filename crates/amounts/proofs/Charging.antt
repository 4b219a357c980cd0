-- What a charge promises, by its definition, and the ways through `charge`.
use mathlib.Core.Path.{◌≡◌, refl, sym, ap, ◌∙◌, subst}
use mathlib.Core.Bool.{Bool, true, false, cond, ◌&&◌, true≢false}
use mathlib.Core.List.{[], ◌∷◌}
use Prim.Native.Nat.{ℕ, ◌≤◌}
use native.Mathlib.Nat.{mul-le-mul_right}
use native.Mathlib.Omega.{arith}
use borrow.Author.Tests.{leb-true, le-leb, ltb-true, ltb-false, not-false}
use lib.Dec.{leb, ltb}
use Rattle.texts.specs.Answers.{success, number_of}
use Rattle.texts.specs.Refusals.{refusal_number}
use Rattle.texts.specs.declared.answers.Refusal.{Refusal}
use Rattle.texts.proofs.Bools.{both, and2}
use Rattle.texts.proofs.Refusals.{none_of, succeeded, Way, way_out}
use Rattle.amounts.specs.Amount.{most_kopecks, is_amount}
use Rattle.amounts.specs.Charge.{chargeable, rounded, raised_to, lowered_to, limited, charge_tests, charging, charge_answer, InRange, IsCharge, Charges}
use Rattle.amounts.specs.declared.amount.Kopecks.{Kopecks}
use Rattle.std.specs.Prelude.{Result, Ok, Err}
use Rattle.amounts.proofs.Ranges.{sole, no_number, amount-is, is-amount}

-- ---- the limits

raise-cases : (l c : ℕ) (b : Bool) → ltb c l ≡ b → (l ≤ cond b l c) × (c ≤ cond b l c) × (l ≤ c → cond b l c ≡ c) × (c ≤ l → cond b l c ≡ l)
raise-cases l c true e = let q = ltb-true c l e in (omega arith, omega arith, λ h. omega arith, λ h. refl)
raise-cases l c false e = let q = ltb-false c l e in (omega arith, omega arith, λ h. refl, λ h. omega arith)

lower-cases : (g c : ℕ) (b : Bool) → ltb g c ≡ b → (cond b g c ≤ g) × (cond b g c ≤ c) × (c ≤ g → cond b g c ≡ c) × (g ≤ c → cond b g c ≡ g)
lower-cases g c true e = let q = ltb-true g c e in (omega arith, omega arith, λ h. omega arith, λ h. refl)
lower-cases g c false e = let q = ltb-false g c e in (omega arith, omega arith, λ h. refl, λ h. omega arith)

module _ (l g k : ℕ) (o : l ≤ g) where
  raises : (l ≤ raised_to l k) × (k ≤ raised_to l k) × (l ≤ k → raised_to l k ≡ k) × (k ≤ l → raised_to l k ≡ l)
  raises = raise-cases l k (ltb k l) refl

  lowers : (limited l g k ≤ g) × (limited l g k ≤ raised_to l k) × (raised_to l k ≤ g → limited l g k ≡ raised_to l k) × (g ≤ raised_to l k → limited l g k ≡ g)
  lowers = lower-cases g (raised_to l k) (ltb g (raised_to l k)) refl

lower-keeps : (l g x : ℕ) (b : Bool) → l ≤ g → l ≤ x → l ≤ cond b g x
lower-keeps l g x true o h = o
lower-keeps l g x false o h = h

raise-rises : (l c d : ℕ) (b e : Bool) → ltb c l ≡ b → ltb d l ≡ e → c ≤ d → cond b l c ≤ cond e l d
raise-rises l c d true true p q o = omega arith
raise-rises l c d true false p q o = omega (arith, ltb-false d l q)
raise-rises l c d false true p q o = omega (arith, ltb-false c l p, ltb-true d l q)
raise-rises l c d false false p q o = o

lower-rises : (g c d : ℕ) (b e : Bool) → ltb g c ≡ b → ltb g d ≡ e → c ≤ d → cond b g c ≤ cond e g d
lower-rises g c d true true p q o = omega arith
lower-rises g c d true false p q o = omega (arith, ltb-true g c p, ltb-false g d q)
lower-rises g c d false true p q o = omega (arith, ltb-false g c p)
lower-rises g c d false false p q o = o

limited-rises : (l g c d : ℕ) → c ≤ d → limited l g c ≤ limited l g d
limited-rises l g c d o = lower-rises g (raised_to l c) (raised_to l d) _ _ refl refl (raise-rises l c d _ _ refl refl o)

-- ---- the arguments

module _ (a r l g : ℕ) where
  in-range : chargeable a r l g ≡ true → InRange a r l g
  in-range e =
      let q = both ((is_amount a && leb r 10000) && leb g most_kopecks) (leb l g) e in
      let p = both (is_amount a && leb r 10000) (leb g most_kopecks) q.0 in
      let o = both (is_amount a) (leb r 10000) p.0 in
      let n = amount-is a o.0 in
      let ordered = leb-true l g q.1 in
      let upper = leb-true g most_kopecks p.1 in
      record {
        some = n.0;
        most = n.1;
        rates = leb-true r 10000 o.1;
        lower = omega arith;
        upper = upper;
        ordered = ordered;
      }

  range-in : InRange a r l g → chargeable a r l g ≡ true
  range-in i =
      and2 ((is_amount a && leb r 10000) && leb g most_kopecks) (leb l g)
      (and2 (is_amount a && leb r 10000) (leb g most_kopecks)
      (and2 (is_amount a) (leb r 10000) (is-amount a i.some i.most) (le-leb _ _ i.rates))
      (le-leb _ _ i.upper))
      (le-leb _ _ i.ordered)

  answered : InRange a r l g → charging a r l g ≡ success (limited l g (rounded a r) ∷ [])
  unfolding charging charge_tests
  answered i = rw (range-in i)

  is-charge : InRange a r l g → IsCharge a r l g (limited l g (rounded a r))
  is-charge i =
      let k = rounded a r in
      let u = raises l g k i.ordered in
      let w = lowers l g k i.ordered in
      record {
        whole = k;
        below = omega arith;
        above = omega arith;
        at_least = lower-keeps l g (raised_to l k) (ltb g (raised_to l k)) i.ordered u.0;
        at_most = w.0;
        between = λ x y. w.2 (omega (arith, u.2 x)) ∙ u.2 x;
        raised = λ x. w.2 (omega (arith, u.3 x, i.ordered)) ∙ u.3 x;
        lowered = λ x. w.3 (omega (arith, u.1));
      }

  -- a charge is made of arguments in range
  made_of : (c : ℕ) → charging a r l g ≡ success (c ∷ []) → InRange a r l g × (c ≡ limited l g (rounded a r))
  unfolding charging charge_tests
  made_of c e =
      let q = succeeded (limited l g (rounded a r) ∷ []) (c ∷ []) (charge_tests a r l g) (sym e) in
      let z : c ≡ limited l g (rounded a r) = cc q.1 in
      (in-range (not-false _ (none_of (charge_tests a r l g) q.0).0), z)

  -- a charge that is made, and a refusal
  holds_by : (x : Result Kopecks Refusal) → charge_answer x ≡ charging a r l g → (c : Kopecks) → x ≡ Ok c → InRange a r l g × IsCharge a r l g c.0
  unfolding charge_answer
  holds_by x e c h =
      let q = made_of c.0 (sym e ∙ ap charge_answer h) in
      (q.0, subst (IsCharge a r l g) (sym q.1) (is-charge q.0))

  number_by : (x : Result Kopecks Refusal) → charge_answer x ≡ charging a r l g → (n : Refusal) → x ≡ Err n → (refusal_number n ≡ 14) × (InRange a r l g → ⊥)
  unfolding charging charge_tests charge_answer
  number_by x e n h =
      let q = sole (chargeable a r l g) 14 (refusal_number n) _ [] (sym e ∙ ap charge_answer h) in
      (q.0, λ i. true≢false (sym (range-in i) ∙ q.1))

  -- the promise, from the equation that the code is proved to meet
  charges-by : (x : Result Kopecks Refusal) → charge_answer x ≡ charging a r l g → Charges a r l g x
  unfolding charging charge_tests
  charges-by x e = record {
    answer = e;
    exactly = (λ z. in-range (no_number (chargeable a r l g) 14 _ (λ k. omega arith) (ap number_of (sym e) ∙ z)), λ i. ap number_of (e ∙ answered i));
    refused = λ n vs h. (sole (chargeable a r l g) 14 n _ vs (sym e ∙ h)).0;
    charged = λ c h. let q = made_of c (sym e ∙ h) in subst (IsCharge a r l g) (sym q.1) (is-charge q.0);
    holds = holds_by x e;
    number = number_by x e;
    rises = λ m c d o h k.
        let p = (made_of c (sym e ∙ h)).1 in
        let q = (succeeded (limited l g (rounded m r) ∷ []) (d ∷ []) (charge_tests m r l g) (sym k)).1 in
        let q1 : d ≡ limited l g (rounded m r) = cc in
        let o1 = mul-le-mul_right r o in
        let o2 : rounded a r ≤ rounded m r = omega (arith, o1) in
        omega (arith, p, q1, limited-rises l g (rounded a r) (rounded m r) o2);
  }

-- ---- the ways out of `charge`

pub charge-out : (k a r l g : ℕ) (x : Result Kopecks Refusal) → Way (limited l g (rounded a r) ∷ []) [] [] (charge_answer x) [] (Charges a r l g x) k (charge_tests a r l g)
unfolding charging
charge-out k a r l g x = way_out _ [] [] _ [] _ k (charge_tests a r l g) (λ p q. charges-by a r l g x p)

pub charged : (a r l g k u c : ℕ) → c ≡ lowered_to g u → u ≡ raised_to l k → k ≡ rounded a r → success (c ∷ []) ≡ success (limited l g (rounded a r) ∷ [])
charged a r l g k u c ec eu ek = ap (λ (n : ℕ). success (n ∷ [])) (ec ∙ ap (lowered_to g) (eu ∙ ap (raised_to l) ek))
