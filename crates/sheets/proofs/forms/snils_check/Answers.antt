use mathlib.Core.Path.{ap, ◌∙◌}
use Prim.Native.Nat.{ℕ, ◌%◌}
use Rattle.texts.specs.Texts.{between}
use Rattle.sheets.specs.Forms.{snils_check}
use Rattle.sheets.proofs.Ways.{two_digits}
use Rattle.sheets.proofs.forms.snils_check.Goals as goal

pub returns : goal.returns
unfolding snils_check between
returns c = ap (λ (s : ℕ). s % 101 % 100) c.weighted_sum.ensures ∙ two_digits _
