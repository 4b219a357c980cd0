use mathlib.Core.Path.{◌≡◌}
use lib.ListN.{length}
use Rattle.drafts.specs.History.{posted_from}
use Rattle.orders.specs.TakeUp.{proposals}
use Rattle.orders.specs.Working.Upto.{Postable}
use Rattle.orders.proofs.take_up.take_all.Given as goal

abbrev pub invariant-loop-slot : goal.invariant-loop-slot
invariant-loop-slot l = (l.draft ≡ posted_from l.initial.draft (proposals l.initial.draft l.sheet l.set l.slot)) × Postable l.initial.draft l.sheet l.set × (length l.draft ≡ length l.initial.draft)
