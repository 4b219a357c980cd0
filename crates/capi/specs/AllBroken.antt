-- All broken rules for C: the numbers that a caller reads, and the promise.
use Rattle.std.specs.Prelude.{◌≡◌, List, [], ◌∷◌, ℕ, get_or}
use Rattle.texts.specs.Answers.{Answer, success, refusal}
use Rattle.sheets.specs.declared.dates.Dates.{Dates}
use Rattle.rules.specs.AllBroken.{breaking}
use Rattle.capi.specs.Numbers.{numbered}
use Rattle.capi.specs.declared.AllBroken.{AllBroken}

-- the set of rules, bit n for rule n
unfoldable pub broken_numbers : Answer → AllBroken
broken_numbers (success vs) = record { number = 0; rules = get_or vs 0 0 }
broken_numbers (refusal n vs) = record { number = n; rules = 0 }

unfoldable pub broken_from : AllBroken → Answer
broken_from r = numbered r.number (r.rules ∷ []) []

-- asking for all rules that the sheet s breaks at the dates D returned r
pub record BrokenRulesReturns (D : Dates) (s : List ℕ) (r : AllBroken) : Type 0 where
  pub numbers : r ≡ broken_numbers (breaking D s)
  pub answer : broken_from r ≡ breaking D s
  -- what each field holds
  pub made : (set : ℕ) → breaking D s ≡ success (set ∷ []) → r ≡ record { number = 0; rules = set }
  pub refused : (n : ℕ) (vs : List ℕ) → breaking D s ≡ refusal n vs → r ≡ record { number = n; rules = 0 }
