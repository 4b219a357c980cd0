use mathlib.Core.Path.{sym, ◌∙◌}
use borrow.Author.Tests.{eqb-true, eqb-false, not-true, not-false}
use borrow.Author.Rules.{sfits_of}
use mir.Syntax.{w64}
use mir.Val.{to_z, of_z}
use mir.Facts.{to_z-of_z}
use Rattle.registers.proofs.Promises.{Passed, refused-7, refused-16, differs-17, made-0}
use Rattle.registers.proofs.pool.pool.Goals as goal
use Rattle.registers.proofs.pool.pool.Goals.{Else-not-is_register-is_order}

-- what is known once register and order are right
passed : (c : Else-not-is_register-is_order) → Passed c.args.register.now c.args.amount.0 c.args.output.now
passed c = record {
  room = c.if-output-lt-OUTPUT_SIZE.false;
  right = rw (← c.is_register.ensures, ← c.is_order.ensures) c.if-not-is_register-is_order.false;
}

pub returns-then-output-lt-OUTPUT_SIZE : goal.returns-then-output-lt-OUTPUT_SIZE
returns-then-output-lt-OUTPUT_SIZE c = refused-7 _ _ _ c.if-output-lt-OUTPUT_SIZE.true

pub returns-then-not-is_register-is_order : goal.returns-then-not-is_register-is_order
returns-then-not-is_register-is_order c = refused-16 _ _ _ c.if-output-lt-OUTPUT_SIZE.false _ _ c.is_register.ensures c.is_order.ensures c.if-not-is_register-is_order.true

pub returns-then-ne : goal.returns-then-ne
returns-then-ne c =
    let differ = eqb-false _ _ (not-true _ (sym c.ne.ensures ∙ c.if-ne.true)) in
    differs-17 _ _ _ (passed (goal.at.returns-then-ne c).Else-not-is_register-is_order) c.total_of-total.result.0 c.total_of-total.ensures.0 differ (to_z w64 (of_z w64 c.difference.result))
    (rw (to_z-of_z {w = w64} {z = c.difference.result} (sfits_of c.difference.type_inv)) c.difference.ensures)

pub returns : goal.returns
returns c =
    let agree = eqb-true _ _ (not-false _ (sym c.ne.ensures ∙ c.if-ne.false)) in
    made-0 _ _ _ (passed (goal.at.returns c).Else-not-is_register-is_order) c.total_of-total.result.0 c.total_of-total.ensures.0 agree c.pool_lines.result _ c.pool_lines.ensures
