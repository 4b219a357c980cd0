-- What checking a sheet answered before a request: by other rules, or in another order of testing.
use Rattle.std.specs.Prelude.{◌≡◌, refl, not, cond, Bool, List, [], ◌∷◌, ℕ, eqb}
use Rattle.texts.specs.Answers.{Answer, refusal, Test, ◌refuses◌, answer_by}
use Rattle.sheets.specs.Sheet.{Sheet, well_formed}
use Rattle.sheets.specs.Dates.{dates_fit}
use Rattle.sheets.specs.declared.dates.Dates.{Dates}
use Rattle.rules.specs.Rules.{Rule, class_of, rules, order, test_of, keeps, first_not}
use Rattle.rules.specs.Verdicts.{class_name, broken_rule, check_tests, checked}

-- the answer that names a field and the rule that is broken
unfoldable pub broken : ℕ → ℕ → Answer
broken f r = refusal 8 (f ∷ r ∷ [])

-- a rule with another test, if it has this number
abbrev pub replaced : ℕ → (Sheet → Bool) → Rule → Rule
replaced n t r = record { number = r.number; field = r.field; test = λ D s. cond (eqb r.number n) (t s) (r.test D s) }

-- the first broken one of the rules rs, in the order ns
abbrev pub first_by : List Rule → List ℕ → Dates → Sheet → ℕ
first_by rs ns D s = first_not (λ (n : ℕ). test_of rs n D s) ns

-- checking by the rules rs, in the order ns: said as `checked`
unfoldable pub tests_by : List Rule → List ℕ → Dates → Sheet → List Test
tests_by rs ns D s =
    (not (well_formed s) refuses 1)
    ∷ (not (dates_fit D) refuses 12)
    ∷ broken_rule rs (first_by rs ns D s) s
    ∷ []

unfoldable pub checked_by : List Rule → List ℕ → Dates → Sheet → Answer
checked_by rs ns D s = answer_by (tests_by rs ns D s) (class_name (class_of s))

-- by the rules and in the order of now it is `checked`
pub now : (D : Dates) (s : Sheet) → checked_by rules order D s ≡ checked D s
unfolding checked_by tests_by checked check_tests keeps
now D s = refl
