use Rattle.std.proofs.Common.{rules}
use mathlib.Core.Path.{◌≡◌, ap, ◌∙◌, sym}
use mathlib.Core.Bool.{true≢false}
use mathlib.Core.List.{◌∷◌}
use lib.ListN.{length}
use Rattle.orders.specs.Stream.{messages_of}
use Rattle.orders.proofs.Streaming.{messages-none, given}
use Rattle.orders.proofs.stream.MessagesIterator.next.Goals as goal
use Rattle.orders.proofs.stream.MessagesIterator.next.Goals.{After-part-self, then-ends_stream, else-ends_stream}

-- what is given and what is left
step : (c : After-part-self) → messages_of c.args.self.now.rest.now ≡ c.piece-message.result.now ∷ messages_of c.part-self.result.now
step c =
    given _ _ _ (search rules) c.piece-message.ensures _ c.ends_stream.ensures _ c.part-self.ensures
    (λ t. elim c.if-ends_stream.branch [ then-ends_stream w ↦ w.end-is | else-ends_stream w ↦ absurd (true≢false (sym t ∙ w.if-ends_stream.false)) ])
    (λ f. elim c.if-ends_stream.branch [ then-ends_stream w ↦ absurd (true≢false (sym w.if-ends_stream.true ∙ f)) | else-ends_stream w ↦ w.end-is ])

pub returns-then-is_empty-clause-steps : goal.returns-then-is_empty-clause-steps
returns-then-is_empty-clause-steps c = let e = messages-none c.args.self.now.rest.now (search rules) in (e, e)

pub returns-clause-steps : goal.returns-clause-steps
returns-clause-steps c = step (goal.at.returns-clause-steps c).After-part-self

pub returns-clause-goes : goal.returns-clause-goes
returns-clause-goes c = let shorter = ap length (step (goal.at.returns-clause-goes c).After-part-self) in search rules
