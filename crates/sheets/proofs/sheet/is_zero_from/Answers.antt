use native.Mathlib.Omega.{arith}
use Rattle.sheets.proofs.Windows.{cover}
use Rattle.sheets.proofs.sheet.is_zero_from.Goals as goal

pub returns : goal.returns
returns g c =
    let r = c.requires in
    cover c.args.c.now _ _ c.args.n g.row.W _ _ (omega (arith, r.0)) (omega (arith, r.1)) c.part.ensures c.all_zero.ensures c.part-2.ensures c.all_zero-2.ensures
