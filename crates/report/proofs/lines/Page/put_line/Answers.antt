use Rattle.report.proofs.Pages.{line-first, line-none, line-room, line-done, item-room, line-more}
use Rattle.report.proofs.lines.Page.put_line.Goals as goal

pub put_item-requires : goal.put_item-requires
put_item-requires c = line-first c.args.self.now _ _ c.requires

pub loop-other-init : goal.loop-other-init
loop-other-init c = line-none c.args.self.now _ c.args.others.now c.requires _ c.put_item.ensures

pub put-requires : goal.put-requires
put-requires c = line-room c.args.self.now _ c.args.others.now c.requires _ _ c.loop-other.invariant

pub put_item-requires-in-loop-other : goal.put_item-requires-in-loop-other
put_item-requires-in-loop-other c = item-room c.args.self.now _ c.args.others.now c.requires _ _ c.loop-other.invariant _ c.loop-other-test.true _ c.put.ensures

pub loop-other-preserved : goal.loop-other-preserved
loop-other-preserved c =
    line-more c.args.self.now _ c.args.others.now c.requires _ _ c.loop-other.invariant _ c.loop-other-test.true _ c.put.ensures _ c.put_item-in-loop-other.ensures

pub put-requires-2 : goal.put-requires-2
put-requires-2 c = line-room c.args.self.now _ c.args.others.now c.requires _ _ c.loop-other.invariant

pub returns : goal.returns
returns c = line-done c.args.self.now _ c.args.others.now c.requires _ _ c.loop-other.invariant _ c.loop-other-test.false c.put-2.ensures
