use Rattle.std.proofs.Common.{rules, leb, ◌∙◌}
use Rattle.std.proofs.lemmas.Iterator.{YieldsList-from_slice}
use Rattle.std.proofs.lemmas.Iterator.Search.{all_from_yields_List}
use Rattle.texts.proofs.Std.{every-list_all}
use Rattle.amounts.proofs.shares.all_some.Goals as goal

pub returns : goal.returns
returns c =
    all_from_yields_List (leb 1) _ _ _ c.all.ensures.ran (YieldsList-from_slice c.args.periods.now cc) (λ x b q k. search rules)
    ∙ every-list_all (leb 1) c.args.periods.now
