use Rattle.std.proofs.Common.{rules, tests, ◌∙◌}
use Rattle.std.proofs.lemmas.Iterator.{YieldsList-from_slice}
use Rattle.std.proofs.lemmas.Iterator.Search.{all_from_yields_List}
use Rattle.texts.proofs.Std.{every-list_all}
use Rattle.sheets.specs.Sheet.{given}
use Rattle.sheets.specs.Working.Facts.{fixed}
use Rattle.sheets.proofs.facts.all_given.Goals as goal

pub returns : goal.returns
unfolding given
returns c =
    all_from_yields_List (given c.args.sheet.now) _ _ c.all.result c.all.ensures.ran (YieldsList-from_slice fixed cc) (λ x b q k. search (rules, tests))
    ∙ every-list_all (given c.args.sheet.now) fixed
