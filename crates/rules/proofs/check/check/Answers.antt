use Rattle.rules.specs.Verdicts.{rejection_answer, verdict_answer, check_tests}
use Rattle.rules.proofs.Judging.{check-out, checks, facts-read, first-is}
use Rattle.rules.proofs.check.check.Goals as goal

pub returns-then-not-well_formed : goal.returns-then-not-well_formed
unfolding rejection_answer verdict_answer check_tests
returns-then-not-well_formed c = search (checks, check-out 0)

pub returns-then-not-are_fit : goal.returns-then-not-are_fit
unfolding rejection_answer verdict_answer check_tests
returns-then-not-are_fit c = search (checks, check-out 1)

pub returns-in-Some : goal.returns-in-Some
unfolding rejection_answer verdict_answer check_tests
returns-in-Some c =
    let e = first-is _ _ _ _ c.well_formed-2.ensures c.if-not-well_formed.false-raw c.facts_of-f.ensures.0 _ c.in-Some.ensures.0 in
    search (checks, check-out 2)

pub returns-in-None : goal.returns-in-None
unfolding rejection_answer verdict_answer check_tests
returns-in-None c =
    let o = facts-read _ _ _ _ c.well_formed-2.ensures c.if-not-well_formed.false-raw c.facts_of-f.ensures.0 in
    let e = first-is _ _ _ _ c.well_formed-2.ensures c.if-not-well_formed.false-raw c.facts_of-f.ensures.0 _ c.in-None.ensures.0 in
    search (checks, check-out 3)
