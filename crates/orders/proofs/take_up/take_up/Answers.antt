use Rattle.sheets.specs.Dates.{program_dates}
use Rattle.orders.proofs.TakeUp.{take-malformed, take-sized, take-sheet, take-unfit, postable, take-made}
use Rattle.orders.proofs.take_up.take_up.Goals as goal

pub returns-then-not-well_formed : goal.returns-then-not-well_formed
returns-then-not-well_formed c D = take-malformed c.if-not-well_formed.ensures

pub returns-then-sheet-ne-SHEET_SIZE : goal.returns-then-sheet-ne-SHEET_SIZE
returns-then-sheet-ne-SHEET_SIZE c D = take-sized c.if-not-well_formed.ensures c.if-sheet-ne-SHEET_SIZE.true

pub returns-then-not-well_formed-2 : goal.returns-then-not-well_formed-2
returns-then-not-well_formed-2 c D = take-sheet c.if-not-well_formed.ensures c.if-sheet-ne-SHEET_SIZE.false c.if-not-well_formed-2.ensures

-- stated by themselves, so that a wrong answer is refused here
pub returns-in-Some : goal.returns-in-Some
returns-in-Some c D = take-unfit c.if-not-well_formed.ensures c.if-sheet-ne-SHEET_SIZE.false c.if-not-well_formed-2.ensures _ (c.first_unfit.ensures D) _ c.in-Some.is _ c.field_in.ensures

pub take_all-requires : goal.take_all-requires
take_all-requires c = postable c.if-not-well_formed.ensures c.if-sheet-ne-SHEET_SIZE.false c.if-not-well_formed-2.ensures _ (c.first_unfit.ensures program_dates) c.in-None.is

pub returns-in-None : goal.returns-in-None
returns-in-None c D = take-made c.if-not-well_formed.ensures c.if-sheet-ne-SHEET_SIZE.false c.if-not-well_formed-2.ensures _ (c.first_unfit.ensures D) c.in-None.is _ c.take_all.ensures
