use borrow.Author.Rules.{rules}
use Rattle.rules.proofs.First.{true-more, true-all}
use Rattle.rules.proofs.groups.all_true.Goals as goal

pub loop-kept-preserved : goal.loop-kept-preserved
loop-kept-preserved c = search (rules, true-more)

pub returns : goal.returns
returns c = search (rules, true-all)
