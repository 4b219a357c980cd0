use mathlib.Core.Path.{refl}
use Rattle.orders.proofs.Completing.{Prepared, prepared}
use Rattle.orders.proofs.Pretesting.{ahead-1, ahead-unpaid, ahead_none, ahead-named}
use Rattle.orders.proofs.pretest.pretest.Goals as goal
use Rattle.orders.proofs.pretest.pretest.Goals.{After-facts_of_payment}

-- what is known of the draft once its facts were asked
begun : (c : After-facts_of_payment) → Prepared c.args.draft.now c.fill_zeros.new.sheet
begun c = prepared _ c.if-not-well_formed.ensures _ _ refl c.put_sheet.ensures _ c.fill_zeros.ensures

pub returns-then-not-well_formed : goal.returns-then-not-well_formed
returns-then-not-well_formed c D = ahead-1 D _ c.if-not-well_formed.ensures

pub returns-in_err-facts_of_payment : goal.returns-in_err-facts_of_payment
returns-in_err-facts_of_payment c = ahead-unpaid _ (begun (goal.at.returns-in_err-facts_of_payment c).After-facts_of_payment) _ c.in_err-facts_of_payment.ensures _ c.from_residual.ensures.1

-- the first filling, looked at
pub returns-in-None : goal.returns-in-None
returns-in-None c =
    ahead_none _ (begun (goal.at.returns-in-None c).After-facts_of_payment) _ c.in_ok-facts_of_payment.ensures _ c.fill_picked.ensures _ c.facts_of.ensures.0 _ c.broken_ahead.ensures.0 c.in-None.is

pub returns-in-Some : goal.returns-in-Some
returns-in-Some c =
    ahead-named _ (begun (goal.at.returns-in-Some c).After-facts_of_payment) _ c.in_ok-facts_of_payment.ensures _ c.fill_picked.ensures _ c.facts_of.ensures.0 _ c.broken_ahead.ensures.0
    _ c.in-Some.is _ c.field_of.ensures
