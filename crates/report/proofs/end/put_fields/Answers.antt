use native.Mathlib.Omega.{arith}
use Rattle.report.proofs.Pages.{puts-length}
use Rattle.report.proofs.Writing.{field-short, field_put, fields_none, fields_next, fields_done}
use Rattle.report.proofs.end.put_fields.Goals as goal

pub loop-slot-init : goal.loop-slot-init
loop-slot-init c = (fields_none _ c.args.page.now c.args.page.now (omega arith), omega arith)

pub put_line-requires : goal.put_line-requires
put_line-requires c =
    let i = c.loop-slot.invariant in
    omega (arith, i.1, c.loop-slot-test.true, puts-length _ _ _ i.0 (omega (arith, i.1)), field-short _ _ _ _ _ c.field_in.ensures c.from.ensures c.shown.ensures)

pub loop-slot-preserved : goal.loop-slot-preserved
loop-slot-preserved c =
    let i = c.loop-slot.invariant in
    let w = field_put _ _ _ _ _ c.field_in.ensures c.from.ensures c.shown.ensures c.loop-slot.page _ c.put_line.ensures in
    (fields_next _ _ _ _ i.0 _ c.loop-slot-test.true w.0 (omega (arith, i.1, w.1)), omega (arith, i.1, w.1))

pub returns : goal.returns
returns c = let i = c.loop-slot.invariant in (fields_done _ _ _ _ i.0 c.loop-slot-test.false, omega (arith, i.1))
