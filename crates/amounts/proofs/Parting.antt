-- What a part promises, by its definition, and the ways through `part`.
use mathlib.Core.Path.{◌≡◌, sym, ap, ◌∙◌, subst}
use mathlib.Core.Bool.{true, ◌&&◌, true≢false}
use mathlib.Core.List.{[], ◌∷◌}
use Prim.Native.Nat.{ℕ, ◌+◌, ◌*◌, ◌<◌}
use native.Mathlib.Nat.{div-add-mod', mod-lt}
use native.Mathlib.Omega.{arith}
use borrow.Author.Tests.{leb-true, le-leb}
use lib.Dec.{leb}
use Rattle.texts.specs.Answers.{success, number_of}
use Rattle.texts.specs.Refusals.{refusal_number}
use Rattle.texts.specs.declared.answers.Refusal.{Refusal}
use Rattle.texts.proofs.Bools.{both, and2}
use Rattle.texts.proofs.Refusals.{Way, way_out}
use Rattle.amounts.specs.Amount.{is_amount}
use Rattle.amounts.specs.Part.{is_year, partable, quotient_of, remainder_of, part_tests, parting, part_answer, PartRange, IsPart, Parts}
use Rattle.std.specs.Prelude.{Result, Ok, Err}
use Rattle.amounts.specs.declared.part.Portion.{Portion}
use Rattle.amounts.proofs.Ranges.{sole, no_number, amount-is, is-amount, year-is, is-year, year-bound}

module _ (a d y : ℕ) where
  part-range : partable a d y ≡ true → PartRange a d y
  part-range e =
      let q = both ((is_amount a && is_year y) && leb 1 d) (leb d y) e in
      let p = both (is_amount a && is_year y) (leb 1 d) q.0 in
      let o = both (is_amount a) (is_year y) p.0 in
      let n = amount-is a o.0 in
      record { some = n.0; most = n.1; years = year-is y o.1; first = leb-true 1 d p.1; last = leb-true d y q.1 }

  range-part : PartRange a d y → partable a d y ≡ true
  range-part i =
      and2 ((is_amount a && is_year y) && leb 1 d) (leb d y)
      (and2 (is_amount a && is_year y) (leb 1 d)
      (and2 (is_amount a) (is_year y) (is-amount a i.some i.most) (is-year y i.years))
      (le-leb _ _ i.first))
      (le-leb _ _ i.last)

  parted-by : PartRange a d y → parting a d y ≡ success (quotient_of a d y ∷ remainder_of a d y ∷ [])
  unfolding parting part_tests
  parted-by i = rw (range-part i)

  is-part : PartRange a d y → IsPart a d y (quotient_of a d y) (remainder_of a d y)
  is-part i = record { exactly = div-add-mod' (a * d) y; below = mod-lt (a * d) (year-bound y i.years).0 }

  in-range : number_of (parting a d y) ≡ 0 → PartRange a d y
  unfolding parting part_tests
  in-range z = part-range (no_number (partable a d y) 15 _ (λ k. omega arith) z)

  -- a part is of arguments in range
  made_of : (q r : ℕ) → parting a d y ≡ success (q ∷ r ∷ []) → PartRange a d y × IsPart a d y q r
  made_of q r h =
      let i = in-range (ap number_of h) in
      let z : success (quotient_of a d y ∷ remainder_of a d y ∷ []) ≡ success (q ∷ r ∷ []) = sym (parted-by i) ∙ h in
      let zq : quotient_of a d y ≡ q = cc in
      let zr : remainder_of a d y ≡ r = cc in
      let p = is-part i in
      (i, record { exactly = (λ k. sym zq k * y + sym zr k) ∙ p.exactly; below = subst (λ (n : ℕ). n < y) zr p.below })

  module _ (x : Result Portion Refusal) (e : part_answer x ≡ parting a d y) where
    -- a part that is made, and a refusal
    holds_by : (p : Portion) → x ≡ Ok p → PartRange a d y × IsPart a d y p.kopecks.0 p.remainder.0
    unfolding part_answer
    holds_by p h = made_of p.kopecks.0 p.remainder.0 (sym e ∙ ap part_answer h)

    number_by : (n : Refusal) → x ≡ Err n → (refusal_number n ≡ 15) × (PartRange a d y → ⊥)
    unfolding parting part_tests part_answer
    number_by n h =
        let q = sole (partable a d y) 15 (refusal_number n) _ [] (sym e ∙ ap part_answer h) in
        (q.0, λ i. true≢false (sym (range-part i) ∙ q.1))

    -- the promise, from the equation that the code is proved to meet
    parts-by : Parts a d y x
    unfolding parting part_tests
    parts-by = record {
      answer = e;
      exactly = (λ z. in-range (ap number_of (sym e) ∙ z), λ i. ap number_of (e ∙ parted-by i));
      refused = λ n vs h. (sole (partable a d y) 15 n _ vs (sym e ∙ h)).0;
      parted = λ q r h. (made_of q r (sym e ∙ h)).1;
      holds = holds_by;
      number = number_by;
    }

-- ---- the ways out of `part`

pub part_out : (k a d y : ℕ) (x : Result Portion Refusal) → Way (quotient_of a d y ∷ remainder_of a d y ∷ []) [] [] (part_answer x) [] (Parts a d y x) k (part_tests a d y)
unfolding parting
part_out k a d y x = way_out _ [] [] _ [] _ k (part_tests a d y) (λ p q. parts-by a d y x p)

pub parted : (a d y q r e z : ℕ) → q ≡ quotient_of a e z → r ≡ remainder_of a e z → e ≡ d → z ≡ y → success (q ∷ r ∷ []) ≡ success (quotient_of a d y ∷ remainder_of a d y ∷ [])
parted a d y q r e z eq er ee ez = rw (eq, er, ee, ez)
