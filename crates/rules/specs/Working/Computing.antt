-- What a computation of the rules unfolds, as one name.
use Rattle.sheets.specs.Working.Computing.{sheets_computing}
use Rattle.rules.specs.Rules.{class_of, first_blank, rules, test_of, field_of, keeps, keeps_all, first_not}
use Rattle.rules.specs.Verdicts.{check_tests, checked}

unfoldable pub rules_computing : Unit {0}
unfolding sheets_computing class_of first_blank rules test_of field_of keeps keeps_all first_not check_tests checked
rules_computing = tt
