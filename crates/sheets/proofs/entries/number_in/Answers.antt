use borrow.Author.Rules.{rules}
use native.Mathlib.Omega.{arith}
use Rattle.texts.specs.Texts.{every, value_of, value, number}
use Prim.Native.Nat.{◌+◌}
use mathlib.Core.Bool.{not, ◌&&◌}
use lib.Dec.{leb}
use Rattle.std.specs.Int.{from_bool}
use Rattle.sheets.proofs.InForce.{one-most, count-bounds}
use Rattle.sheets.proofs.Listed.{number-made}
use Rattle.sheets.proofs.entries.number_in.Goals as goal

pub overflow_add-a : goal.overflow_add-a
overflow_add-a c =
    let f = c.args.force in
    omega (arith, (count-bounds f).1, one-most (leb 1 c.args.k && not f.s02))

pub overflow_add-b : goal.overflow_add-b
overflow_add-b c =
    let f = c.args.force in
    let k = c.args.k in
    let x = from_bool (leb 1 k && not f.s02) in
    omega (arith, (count-bounds f).1, one-most (leb 1 k && not f.s02), one-most (leb 21 (k + c.from.result) && not f.s32))

pub returns : goal.returns
unfolding every number value value_of
returns c = search (rules, number-made)
