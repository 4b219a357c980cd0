use Rattle.std.proofs.Common.{rules}
use Rattle.report.proofs.Pages.{number-room, number_put}
use Rattle.report.proofs.lines.Page.put_item.Goals as goal

pub put-requires-in-Number : goal.put-requires-in-Number
put-requires-in-Number c = number-room c.args.self.now c.in-Number.n c.decimal_of-decimal.result.digits c.decimal_of-decimal.result.from c.decimal_of-decimal.ensures.0 (search rules)

pub returns-in-Number : goal.returns-in-Number
returns-in-Number c = rw c.in-Number.is (number_put c.args.self.now c.in-Number.n c.decimal_of-decimal.result.digits c.decimal_of-decimal.result.from c.decimal_of-decimal.ensures.0 _ c.put-in-Number.ensures)
