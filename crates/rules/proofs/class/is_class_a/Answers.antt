use mathlib.Core.Path.{refl}
use Rattle.rules.proofs.Judging.{class-a-is}
use Rattle.rules.proofs.class.is_class_a.Goals as goal

pub returns : goal.returns
returns c = (λ D s o. class-a-is D _ s o, refl)
