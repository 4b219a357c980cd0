use Rattle.amounts.proofs.Sharing.{periods-are, share-done}
use Rattle.amounts.proofs.shares.shares_of.Goals as goal

pub returns : goal.returns
returns c =
    let a = c.args in
    share-done a.amount a.year a.periods.now c.loop-i.i _ c.loop-i.days c.loop-i.invariant.3 c.loop-i-test.false (periods-are a.year a.periods.now c.requires.2).1
