use Rattle.texts.proofs.Numerals.{numerals}
use Rattle.texts.proofs.digits.number.Goals as goal

pub returns-then-not-has_digits-clause-value : goal.returns-then-not-has_digits-clause-value
returns-then-not-has_digits-clause-value g c = λ h. search numerals

pub returns-clause-value : goal.returns-clause-value
returns-clause-value g c = λ h. search numerals
