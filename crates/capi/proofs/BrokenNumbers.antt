-- All broken rules for C: the answer is read back from its numbers.
use mathlib.Core.Path.{◌≡◌, refl, ap, ◌∙◌}
use mathlib.Core.List.{List}
use Prim.Native.Nat.{ℕ}
use Rattle.sheets.specs.declared.dates.Dates.{Dates}
use Rattle.rules.specs.AllBroken.{broken_answer, break_tests, breaking, BreaksRules}
use Rattle.std.specs.Prelude.{Result}
use Rattle.texts.specs.declared.answers.Refusal.{Refusal}
use Rattle.capi.specs.Numbers.{numbered}
use Rattle.capi.specs.AllBroken.{broken_numbers, broken_from, BrokenRulesReturns}
use Rattle.capi.specs.declared.AllBroken.{AllBroken}
use Rattle.capi.proofs.Numbers.{Back, tested, at}

broken-back : (D : Dates) (s : List ℕ) → Back broken_numbers broken_from (breaking D s)
unfolding breaking break_tests broken_numbers broken_from numbered
broken-back D s = tested (Back broken_numbers broken_from) (break_tests D s) _ refl (search depth 12)

module _ (D E : Dates) (z : E ≡ D) (s : List ℕ) (v : Result ℕ Refusal) (p : BreaksRules E s v) (r : AllBroken) (q : r ≡ broken_numbers (broken_answer v)) where
  broken-numbers : r ≡ broken_numbers (breaking D s)
  broken-numbers = cc

  pub broken-is : BrokenRulesReturns D s r
  unfolding broken_numbers
  broken-is = record {
    numbers = broken-numbers;
    answer = ap broken_from broken-numbers ∙ broken-back D s;
    made = λ n. at broken_numbers broken-numbers;
    refused = λ n vs. at broken_numbers broken-numbers;
  }
