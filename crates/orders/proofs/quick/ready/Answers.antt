use borrow.Author.Rules.{rules}
use Rattle.orders.proofs.Completing.{Prepared, prepared, payable}
use Rattle.orders.proofs.Quickening.{ready-1, ready-7, ready-12, ready-by}
use Rattle.orders.proofs.quick.ready.Goals as goal
use Rattle.orders.proofs.quick.ready.Goals.{After-facts_of_payment}

-- what is known of the draft once its facts were asked
begun : (c : After-facts_of_payment) → Prepared c.args.draft.now c.fill_zeros.new.sheet
begun c = prepared _ c.if-not-well_formed.ensures _ _ c.told-work c.put_sheet.ensures _ c.fill_zeros.ensures

pub returns-then-not-well_formed : goal.returns-then-not-well_formed
returns-then-not-well_formed c = ready-1 _ _ _ c.if-not-well_formed.ensures

pub returns-then-size-ne-SHEET_SIZE : goal.returns-then-size-ne-SHEET_SIZE
returns-then-size-ne-SHEET_SIZE c = ready-7 _ _ _ c.if-not-well_formed.ensures c.if-size-ne-SHEET_SIZE.true

-- that the tests before were passed is searched for: where a wrong program makes them later, it is not there
pub returns-then-not-are_fit : goal.returns-then-not-are_fit
returns-then-not-are_fit c = ready-12 _ _ _ (search rules) (search rules) c.if-not-are_fit.ensures

pub returns-in_err-facts : goal.returns-in_err-facts
returns-in_err-facts c = ready-by _ _ _ (search rules) (search rules) (search rules) _ (begun (goal.at.returns-in_err-facts c).After-facts_of_payment) _ c.in_err-facts.ensures _ c.from_residual.ensures.1

pub returns : goal.returns
returns c = payable c.if-size-ne-SHEET_SIZE.false c.if-not-are_fit.ensures (begun (goal.at.returns c).After-facts_of_payment) _ c.in_ok-facts.ensures
