use Rattle.std.proofs.Common.{rules, ◌∙◌}
use Rattle.std.proofs.lemmas.Iterator.{YieldsList-from_slice}
use Rattle.std.proofs.lemmas.Iterator.Search.{all_from_yields_List}
use Rattle.texts.specs.Texts.{are}
use Rattle.texts.proofs.Std.{every-list_all}
use Rattle.texts.proofs.comparisons.all_are.Goals as goal

pub returns : goal.returns
unfolding are
returns c = all_from_yields_List (are c.args.b) _ _ _ c.all.ensures.ran (YieldsList-from_slice c.args.t.now cc) (λ x b q k. search rules) ∙ every-list_all (are c.args.b) c.args.t.now
