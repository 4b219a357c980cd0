-- R-10: the bank's charge, and what it promises.
use Rattle.std.specs.Prelude.{◌≡◌, ◌↔◌, Bool, not, cond, ◌&&◌, List, [], ◌∷◌, ℕ, ◌+◌, ◌*◌, ◌/◌, ◌≤◌, ◌<◌, leb, ltb, Result, Ok, Err}
use Rattle.texts.specs.Answers.{Answer, success, refusal, number_of, Test, ◌refuses◌, answer_by}
use Rattle.texts.specs.Refusals.{refusal_number}
use Rattle.texts.specs.declared.answers.Refusal.{Refusal}
use Rattle.amounts.specs.Amount.{most_kopecks, is_amount}
use Rattle.amounts.specs.declared.amount.Kopecks.{Kopecks}

-- "From an amount of 1 to 10^12 kopecks, a rate of 0 to 10,000 hundredths of a percent, and a least and a greatest charge of at most 10^12
-- kopecks", and no "least above the greatest"
abbrev pub chargeable : ℕ → ℕ → ℕ → ℕ → Bool
chargeable amount rate least greatest =
    ((is_amount amount && leb rate 10000) && leb greatest most_kopecks) && leb least greatest

-- "amount times rate over 10,000, halves upward to the whole kopeck"
abbrev pub rounded : ℕ → ℕ → ℕ
rounded amount rate = (amount * rate + 5000) / 10000

-- "raised to the least, then lowered to the greatest"
abbrev pub raised_to : ℕ → ℕ → ℕ
raised_to least c = cond (ltb c least) least c

abbrev pub lowered_to : ℕ → ℕ → ℕ
lowered_to greatest c = cond (ltb greatest c) greatest c

abbrev pub limited : ℕ → ℕ → ℕ → ℕ
limited least greatest c = lowered_to greatest (raised_to least c)

-- "14 for an argument out of range or a least above the greatest"
unfoldable pub charge_tests : ℕ → ℕ → ℕ → ℕ → List Test
charge_tests amount rate least greatest = (not (chargeable amount rate least greatest) refuses 14) ∷ []

unfoldable pub charging : ℕ → ℕ → ℕ → ℕ → Answer
charging amount rate least greatest = answer_by (charge_tests amount rate least greatest) (limited least greatest (rounded amount rate) ∷ [])

-- the paper's number and values for each case
unfoldable pub charge_answer : Result Kopecks Refusal → Answer
charge_answer (Ok c) = success (c.0 ∷ [])
charge_answer (Err n) = refusal (refusal_number n) []

-- what the arguments must be, said one by one
pub record InRange (amount rate least greatest : ℕ) : Type 0 where
  pub some : 1 ≤ amount
  pub most : amount ≤ most_kopecks
  pub rates : rate ≤ 10000
  pub lower : least ≤ most_kopecks
  pub upper : greatest ≤ most_kopecks
  pub ordered : least ≤ greatest

-- what a charge c of an amount is: `whole` is it before the limits, said without the division
pub record IsCharge (amount rate least greatest c : ℕ) : Type 0 where
  pub whole : ℕ
  pub below : 10000 * whole ≤ amount * rate + 5000
  pub above : amount * rate + 5000 < 10000 * (whole + 1)
  pub at_least : least ≤ c
  pub at_most : c ≤ greatest
  pub between : least ≤ whole → whole ≤ greatest → c ≡ whole
  pub raised : whole ≤ least → c ≡ least
  pub lowered : greatest ≤ whole → c ≡ greatest

-- the promise of `charge`: it answered x
pub record Charges (amount rate least greatest : ℕ) (x : Result Kopecks Refusal) : Type 0 where
  pub answer : charge_answer x ≡ charging amount rate least greatest
  -- there is a charge exactly where each argument is in range; else 14
  pub exactly : (number_of (charge_answer x) ≡ 0) ↔ InRange amount rate least greatest
  pub refused : (n : ℕ) (vs : List ℕ) → charge_answer x ≡ refusal n vs → n ≡ 14
  pub charged : (c : ℕ) → charge_answer x ≡ success (c ∷ []) → IsCharge amount rate least greatest c
  -- the same of each case itself, whatever numbers stand for it
  pub holds : (c : Kopecks) → x ≡ Ok c → InRange amount rate least greatest × IsCharge amount rate least greatest c.0
  pub number : (n : Refusal) → x ≡ Err n → (refusal_number n ≡ 14) × (InRange amount rate least greatest → ⊥)
  -- it never falls when the amount rises
  pub rises : (more c d : ℕ) → amount ≤ more → charge_answer x ≡ success (c ∷ []) → charging more rate least greatest ≡ success (d ∷ []) → c ≤ d
