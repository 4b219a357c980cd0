-- R-11: a year's amount shared among periods, and what it promises.
use Rattle.std.specs.Prelude.{◌≡◌, Bool, not, ◌&&◌, List, [], ◌∷◌, ◌++◌, ◌⊎◌, ◌↔◌, ℕ, ◌+◌, ◌-◌, ◌≤◌, ◌<◌, leb, eqb, length, take, get_or, replicate, Result, Ok, Err}
use Rattle.texts.specs.Texts.{every}
use Rattle.texts.specs.Answers.{Answer, success, refusal, number_of, Test, ◌refuses◌, answer_by, buffer_by}
use Rattle.texts.specs.Refusals.{refusal_number}
use Rattle.texts.specs.declared.answers.Refusal.{Refusal}
use Rattle.amounts.specs.Amount.{most_kopecks, is_amount}
use Rattle.amounts.specs.Part.{is_year, quotient_of}

-- the sum of a list
abbrev pub total : List ℕ → ℕ
total [] = 0
total (n ∷ ns) = n + total ns

-- "of 12 places for shares"
abbrev pub place_count : ℕ
place_count = 12

-- "periods of at least one day"
abbrev pub all_some : List ℕ → Bool
all_some ps = every (leb 1) ps

-- no "0 or over 12 periods, periods not summing to the year"
abbrev pub are_periods : ℕ → List ℕ → Bool
are_periods year ps = (leb 1 (length ps) && leb (length ps) place_count) && (all_some ps && eqb (total ps) year)

abbrev pub sharable : ℕ → ℕ → List ℕ → Bool
sharable amount year ps = (is_amount amount && is_year year) && are_periods year ps

-- "each share is the difference of running quotients": those of the periods ps, that many days having gone before
abbrev pub shares_from : ℕ → ℕ → ℕ → List ℕ → List ℕ
shares_from amount year before [] = []
shares_from amount year before (p ∷ ps) =
    (quotient_of amount (before + p) year - quotient_of amount before year) ∷ shares_from amount year (before + p) ps

-- "of 12 places for shares, those past the last period are 0"
unfoldable pub places_of : ℕ → ℕ → List ℕ → List ℕ
places_of amount year ps = shares_from amount year 0 ps ++ replicate (place_count - length ps) 0

unfoldable pub share_tests : ℕ → ℕ → List ℕ → List Test
share_tests amount year ps = (not (sharable amount year ps) refuses 15) ∷ []

unfoldable pub sharing : ℕ → ℕ → List ℕ → Answer
sharing amount year ps = answer_by (share_tests amount year ps) []

-- what the lent places b hold afterwards
unfoldable pub shared_to : ℕ → ℕ → List ℕ → List ℕ → List ℕ
shared_to amount year ps b = buffer_by (share_tests amount year ps) (places_of amount year ps) b

-- the paper's number for each case
unfoldable pub share_answer : Result Unit Refusal → Answer
share_answer (Ok u) = success []
share_answer (Err n) = refusal (refusal_number n) []

-- what the arguments must be, said one by one
pub record ShareRange (amount year : ℕ) (ps : List ℕ) : Type 0 where
  pub some : 1 ≤ amount
  pub most : amount ≤ most_kopecks
  pub years : (year ≡ 365) ⊎ (year ≡ 366)
  pub first : 1 ≤ length ps
  pub last : length ps ≤ place_count
  pub days : (i : ℕ) → i < length ps → 1 ≤ get_or ps i 0
  pub whole : total ps ≡ year

-- what places e with the shares are
pub record AreShares (amount year : ℕ) (ps e : List ℕ) : Type 0 where
  -- "the shares sum to the amount"
  pub sums : total e ≡ amount
  -- the first k sum to the quotient of the first k periods' days, for every k
  pub running : (k : ℕ) → total (take k e) ≡ quotient_of amount (total (take k ps)) year
  -- "those past the last period are 0"
  pub past : (i : ℕ) → length ps ≤ i → get_or e i 0 ≡ 0

-- the promise of `shares`: it answered x and left e in the places that held b
pub record Shares (amount year : ℕ) (ps b : List ℕ) (x : Result Unit Refusal) (e : List ℕ) : Type 0 where
  pub answer : share_answer x ≡ sharing amount year ps
  pub places : e ≡ shared_to amount year ps b
  -- there are shares exactly where each argument is in range; else 15, and no place is written
  pub exactly : (number_of (share_answer x) ≡ 0) ↔ ShareRange amount year ps
  pub refused : (n : ℕ) (vs : List ℕ) → share_answer x ≡ refusal n vs → (n ≡ 15) × (e ≡ b)
  pub shared : share_answer x ≡ success [] → AreShares amount year ps e
  -- the same of each case itself, whatever number stands for it
  pub holds : x ≡ Ok tt → ShareRange amount year ps × AreShares amount year ps e
  pub number : (n : Refusal) → x ≡ Err n → (refusal_number n ≡ 15) × (ShareRange amount year ps → ⊥) × (e ≡ b)
