use Rattle.swift.proofs.Reading.{fit_is}
use Rattle.swift.proofs.read.is_fit.Goals as goal

pub returns : goal.returns
returns c = fit_is _ _ _ _ _ c.any_status.ensures c.facts_of-f.ensures.0 c.kept_lines.ensures.0 c.is_class_a.ensures.0
