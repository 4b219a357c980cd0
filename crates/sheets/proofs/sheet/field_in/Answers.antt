use Rattle.sheets.proofs.sheet.field_in.Goals as goal

pub returns : goal.returns
returns c = cc
