use Rattle.texts.specs.Texts.{between}
use Rattle.swift.proofs.Cells.{bank-put}
use Rattle.swift.proofs.read.put_bank_texts.Goals as goal

pub returns : goal.returns
unfolding between
returns c = bank-put _ _ _ _ _ _ c.requires.0 c.put_text.ensures c.put_text-2.ensures c.put_text-3.ensures c.put_text-4.ensures
