use Rattle.std.proofs.Common.{rules, ◌∙◌}
use Rattle.std.proofs.lemmas.Iterator.Consumers.{fold_from_yields_List}
use Rattle.std.proofs.lemmas.Iterator.Adapters.{YieldsList-from_rev_slice}
use Rattle.rules.proofs.AllBroken.{bit_in, bits-folded}
use Rattle.rules.proofs.all_broken.failed_bits.Goals as goal

pub returns : goal.returns
returns c = fold_from_yields_List _ bit_in 0 c.fold.result c.fold.ensures.ran (YieldsList-from_rev_slice c.args.outcomes.now (search rules)) (λ a x b q k. search rules) ∙ bits-folded c.args.outcomes.now c.requires
