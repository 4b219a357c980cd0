use Rattle.std.proofs.Common.{rules, ℕ, not}
use borrow.Author.Tests.{tests}
use Rattle.std.proofs.lemmas.Iterator.{YieldsList-from_slice}
use Rattle.std.proofs.lemmas.Iterator.Consumers.{YieldsList-from_copied}
use Rattle.std.proofs.lemmas.Iterator.Search.{find_from_yields_List}
use Rattle.sheets.specs.Sheet.{given}
use Rattle.rules.proofs.Judging.{blank-named}
use Rattle.rules.proofs.rules.first_blank.Goals as goal

pub returns : goal.returns
returns c =
    let found = find_from_yields_List (λ (k : ℕ). not (given c.args.sheet.now k)) _ _ c.find.result c.find.ensures.ran (YieldsList-from_copied (YieldsList-from_slice c.args.slots.now (search rules))) (λ x b q k. search (rules, tests)) in
    blank-named c.args.sheet.now c.args.slots.now c.find.result _ _ found c.map_or.ensures (λ k p. search rules)
