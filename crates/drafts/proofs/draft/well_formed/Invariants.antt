use mathlib.Core.Path.{◌≡◌}
use Rattle.drafts.specs.Working.Steps.{heads_fit}
use Rattle.drafts.proofs.draft.well_formed.Given as goal

abbrev pub invariant-loop-slot : goal.invariant-loop-slot
invariant-loop-slot l = l.fit ≡ heads_fit l.draft l.slot
