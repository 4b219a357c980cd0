use Rattle.texts.specs.Texts.{between}
use Rattle.swift.proofs.Cells.{payee-put}
use Rattle.swift.proofs.read.put_payee_texts.Goals as goal

pub returns : goal.returns
unfolding between
returns c = payee-put _ _ _ _ _ c.requires.0 c.requires.2 c.put_text.ensures c.put_text-2.ensures c.put_text-3.ensures
