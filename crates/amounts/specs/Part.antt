-- R-11: part of a year, and what it promises.
use Rattle.std.specs.Prelude.{◌≡◌, Bool, not, ◌&&◌, ◌||◌, List, [], ◌∷◌, ◌⊎◌, ◌↔◌, ℕ, ◌+◌, ◌*◌, ◌/◌, ◌%◌, ◌≤◌, ◌<◌, leb, eqb, Result, Ok, Err}
use Rattle.texts.specs.Answers.{Answer, success, refusal, number_of, Test, ◌refuses◌, answer_by}
use Rattle.texts.specs.Refusals.{refusal_number}
use Rattle.texts.specs.declared.answers.Refusal.{Refusal}
use Rattle.amounts.specs.Amount.{most_kopecks, is_amount}
use Rattle.amounts.specs.declared.part.Portion.{Portion}

-- no "year length other than 365 or 366"
abbrev pub is_year : ℕ → Bool
is_year n = eqb n 365 || eqb n 366

-- nor "days outside 1 to that length", "or an amount out of range"
abbrev pub partable : ℕ → ℕ → ℕ → Bool
partable amount days year = ((is_amount amount && is_year year) && leb 1 days) && leb days year

-- "amount × days / year length, in whole kopecks, with the remainder"
abbrev pub quotient_of : ℕ → ℕ → ℕ → ℕ
quotient_of amount days year = amount * days / year

abbrev pub remainder_of : ℕ → ℕ → ℕ → ℕ
remainder_of amount days year = amount * days % year

unfoldable pub part_tests : ℕ → ℕ → ℕ → List Test
part_tests amount days year = (not (partable amount days year) refuses 15) ∷ []

unfoldable pub parting : ℕ → ℕ → ℕ → Answer
parting amount days year = answer_by (part_tests amount days year) (quotient_of amount days year ∷ remainder_of amount days year ∷ [])

-- the paper's number and values for each case
unfoldable pub part_answer : Result Portion Refusal → Answer
part_answer (Ok p) = success (p.kopecks.0 ∷ p.remainder.0 ∷ [])
part_answer (Err n) = refusal (refusal_number n) []

-- what the arguments must be, said one by one
pub record PartRange (amount days year : ℕ) : Type 0 where
  pub some : 1 ≤ amount
  pub most : amount ≤ most_kopecks
  pub years : (year ≡ 365) ⊎ (year ≡ 366)
  pub first : 1 ≤ days
  pub last : days ≤ year

-- "the remainder, below the year length, so that quotient × year length + remainder = amount × days exactly"
pub record IsPart (amount days year quotient remainder : ℕ) : Type 0 where
  pub exactly : quotient * year + remainder ≡ amount * days
  pub below : remainder < year

-- the promise of `part`: it answered x
pub record Parts (amount days year : ℕ) (x : Result Portion Refusal) : Type 0 where
  pub answer : part_answer x ≡ parting amount days year
  -- there is a part exactly where each argument is in range; else 15
  pub exactly : (number_of (part_answer x) ≡ 0) ↔ PartRange amount days year
  pub refused : (n : ℕ) (vs : List ℕ) → part_answer x ≡ refusal n vs → n ≡ 15
  pub parted : (q r : ℕ) → part_answer x ≡ success (q ∷ r ∷ []) → IsPart amount days year q r
  -- the same of each case itself, whatever numbers stand for it
  pub holds : (p : Portion) → x ≡ Ok p → PartRange amount days year × IsPart amount days year p.kopecks.0 p.remainder.0
  pub number : (n : Refusal) → x ≡ Err n → (refusal_number n ≡ 15) × (PartRange amount days year → ⊥)
