use Rattle.std.proofs.Common.{rules, ℕ, not}
use borrow.Author.Tests.{tests}
use Rattle.std.proofs.lemmas.Iterator.{YieldsList-from_slice}
use Rattle.std.proofs.lemmas.Iterator.Consumers.{YieldsList-from_copied}
use Rattle.std.proofs.lemmas.Iterator.Search.{find_from_yields_List}
use Rattle.rules.specs.Working.Tests.{kept}
use Rattle.rules.proofs.First.{mapped}
use Rattle.rules.proofs.check.first_broken.Goals as goal

pub returns : goal.returns
returns c =
    let found = find_from_yields_List (λ (n : ℕ). not (kept c.args.outcomes.now n)) _ _ c.find.result c.find.ensures.ran (YieldsList-from_copied (YieldsList-from_slice c.args.order.now (search rules))) (λ x b q k. search (rules, tests)) in
    mapped _ (λ x y k. search rules) c.find.result _ _ found c.map.ensures.cases
