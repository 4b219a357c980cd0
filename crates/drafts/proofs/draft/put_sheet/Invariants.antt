use mathlib.Core.Path.{◌≡◌}
use Rattle.drafts.specs.Draft.{cells}
use Rattle.texts.specs.Buffers.{put}
use Rattle.drafts.proofs.draft.put_sheet.Given as goal

abbrev pub invariant-loop-slot : goal.invariant-loop-slot
invariant-loop-slot l = l.sheet ≡ put l.initial.sheet 0 (cells l.draft l.slot)
