use mathlib.Core.Path.{◌≡◌, refl, sym, subst}
use mathlib.Core.List.{append-nil}
use Prim.Native.Nat.{ℕ}
use native.Mathlib.Omega.{arith}
use lib.ListN.{length-set, drop}
use Rattle.report.specs.Lines.{decimal}
use Rattle.report.proofs.Decimals.{digits-all, digit-last, digit-more}
use Rattle.report.proofs.lines.decimal_of.Goals as goal

pub loop-from-init : goal.loop-from-init
unfolding decimal
loop-from-init c = (omega arith, refl, sym (append-nil _))

pub returns-then-rest-lt10 : goal.returns-then-rest-lt10
returns-then-rest-lt10 c = let i = c.loop-from.invariant in (digit-last _ _ _ i.1 _ (omega arith) i.0 c.if-rest-lt10.true i.2, simp length-set (omega (arith, i.0, i.1)))

pub loop-from-preserved : goal.loop-from-preserved
loop-from-preserved c = let i = c.loop-from.invariant in (omega (arith, i.0), simp length-set i.1, digit-more _ _ _ i.1 _ (omega arith) i.0 c.if-rest-lt10.false i.2)

pub returns : goal.returns
returns c =
    let i = c.loop-from.invariant in
    let z : c.loop-from.from ≡ 0 = omega arith in
    (subst (λ (f : ℕ). drop f c.loop-from.digits ≡ decimal c.args.n) z (digits-all _ _ _ i.1 _ (omega arith) i.2), omega arith)
