use borrow.Author.Rules.{rules}
use mathlib.Core.Path.{ap}
use native.Mathlib.Omega.{arith}
use lib.ListN.{length}
use Rattle.report.proofs.Pages.{puts-length}
use Rattle.report.proofs.Ending.{fresh-is, report-long, report-small, report-whole}
use Rattle.report.proofs.report.Goals as goal

pub returns-then-input-gt-INPUT_SIZE : goal.returns-then-input-gt-INPUT_SIZE
returns-then-input-gt-INPUT_SIZE c = report-long _ _ c.if-input-gt-INPUT_SIZE.true

pub returns-then-out-lt-REPORT_SIZE : goal.returns-then-out-lt-REPORT_SIZE
returns-then-out-lt-REPORT_SIZE c = report-small _ _ c.if-out-lt-REPORT_SIZE.true

pub put_messages-requires-clause-draft_value : goal.put_messages-requires-clause-draft_value
put_messages-requires-clause-draft_value c = fresh-is _ _ _ c.fresh.ensures (search rules)

pub put_end-requires : goal.put_end-requires
put_end-requires c =
    let T = c.put_messages.ensures in
    let e = ap length c.new-page.ensures.buffer in
    omega (arith, e, T.short, c.if-out-lt-REPORT_SIZE.false, puts-length _ _ _ T.puts (omega (arith, e, T.short, c.if-out-lt-REPORT_SIZE.false)))

pub returns : goal.returns
returns c =
    let P = c.new-page.ensures in
    let T = c.put_messages.ensures in
    let w = c.put_end.ensures in
    report-whole _ _ _ _ c.new-page.result _ _ c.if-input-gt-INPUT_SIZE.false c.if-out-lt-REPORT_SIZE.false P.buffer P.len T w.0
    (omega (arith, T.short, w.1, c.if-out-lt-REPORT_SIZE.false)) (search rules)
