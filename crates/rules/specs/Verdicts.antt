-- What checking a sheet answers.
use Rattle.std.specs.Prelude.{not, List, [], ◌∷◌, ℕ, eqb, Result, Ok, Err}
use Rattle.texts.specs.Quoted.{bytes}
use Rattle.texts.specs.Refusals.{refusal_number}
use Rattle.texts.specs.Answers.{Answer, success, refusal, Test, ◌refuses◌, ◌refuses◌with◌, answer_by}
use Rattle.sheets.specs.Sheet.{well_formed, Sheet}
use Rattle.sheets.specs.Dates.{dates_fit}
use Rattle.sheets.specs.declared.dates.Dates.{Dates}
use Rattle.rules.specs.Rules.{Rule, class_of, rules, order, field_of, first_broken}
use Rattle.rules.specs.declared.class.Class.{Class}
use Rattle.rules.specs.declared.class.Class.TheVariants.{A, B, O}
use Rattle.rules.specs.declared.check.Rejection.{Rejection}
use Rattle.rules.specs.declared.check.Rejection.TheVariants.{Broken, Refused}

-- "Acceptance returns the class"
abbrev pub class_name : Class → List ℕ
class_name A = bytes "A"
class_name B = bytes "B"
class_name O = bytes "O"

-- document 01's number and values for each case of a rejection
unfoldable pub rejection_answer : Rejection → Answer
rejection_answer (Broken f r) = refusal 8 (f.0 ∷ r.0 ∷ [])
rejection_answer (Refused n) = refusal (refusal_number n) []

-- and of a verdict
unfoldable pub verdict_answer : Result Class Rejection → Answer
verdict_answer (Ok c) = success (class_name c)
verdict_answer (Err e) = rejection_answer e

-- "a broken rule", n, with its field in the sheet s; 0 is none
abbrev pub broken_rule : List Rule → ℕ → Sheet → Test
broken_rule rs n s = not (eqb n 0) refuses 8 with (field_of rs n s ∷ n ∷ [])

-- "draft or sheet malformed"; 12, "just before 8"; "the first broken one is named with the field in brackets"
unfoldable pub check_tests : Dates → Sheet → List Test
check_tests D s =
    (not (well_formed s) refuses 1)
    ∷ (not (dates_fit D) refuses 12)
    ∷ broken_rule rules (first_broken D s order) s
    ∷ []

unfoldable pub checked : Dates → Sheet → Answer
checked D s = answer_by (check_tests D s) (class_name (class_of s))
