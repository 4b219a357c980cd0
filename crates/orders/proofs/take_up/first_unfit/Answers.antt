use mathlib.Core.Path.{◌≡◌, sym, subst}
use mathlib.Core.Bool.{true}
use Prim.Native.Nat.{ℕ}
use native.Mathlib.Decide.{ℕ_discrete}
use native.Mathlib.Omega.{arith}
use Rattle.orders.specs.TakeUp.{spared}
use Rattle.orders.proofs.TakeUp.{unfit-at, fit_at, first-some, first-none}
use Rattle.orders.proofs.take_up.first_unfit.Goals as goal

pub returns-then-is_in_set-is_fit : goal.returns-then-is_in_set-is_fit
returns-then-is_in_set-is_fit c D = first-some D _ _ _ _ (omega arith) (c.loop-slot.invariant D) (unfit-at D _ _ _ _ _ _ c.is_in_set.ensures (c.is_fit.ensures D) c.if-is_in_set-is_fit.true)

-- the slot just tested, or an earlier one
pub loop-slot-preserved : goal.loop-slot-preserved
loop-slot-preserved c D i h =
    let a = c.args in
    elim (ℕ_discrete i c.loop-slot.slot) [
      | yes e ↦ subst (λ (k : ℕ). spared D a.draft.now a.sheet.now a.set k ≡ true) (sym e) (fit_at D a.draft.now a.sheet.now a.set _ _ _ c.is_in_set.ensures (c.is_fit.ensures D) c.if-is_in_set-is_fit.false)
      | no n ↦ c.loop-slot.invariant D i (omega arith)
    ]

pub returns : goal.returns
returns c D = first-none D _ _ _ (λ i h. c.loop-slot.invariant D i (omega arith))
