use borrow.Author.Rules.{rules}
use Rattle.rules.proofs.AllBroken.{all-judged}
use Rattle.rules.proofs.all_broken.all_broken.Goals as goal

pub returns-then-is_ordinary : goal.returns-then-is_ordinary
returns-then-is_ordinary c = search (rules, all-judged)

pub returns : goal.returns
returns c = search (rules, all-judged)
