use Rattle.rules.specs.AllBroken.{broken_answer, break_tests}
use Rattle.rules.proofs.Judging.{facts-read}
use Rattle.rules.proofs.AllBroken.{breaks-out, breaks}
use Rattle.rules.proofs.all_broken.broken_rules.Goals as goal

pub returns-then-not-well_formed : goal.returns-then-not-well_formed
unfolding broken_answer break_tests
returns-then-not-well_formed c = search (breaks, breaks-out 0)

pub returns-then-not-are_fit : goal.returns-then-not-are_fit
unfolding broken_answer break_tests
returns-then-not-are_fit c = search (breaks, breaks-out 1)

pub returns : goal.returns
unfolding broken_answer break_tests
returns c =
    let o = facts-read _ _ _ _ c.well_formed-2.ensures c.if-not-well_formed.false-raw c.facts_of-f.ensures.0 in
    search (breaks, breaks-out 2)
