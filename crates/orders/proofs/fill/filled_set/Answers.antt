use native.Mathlib.Omega.{arith}
use mathlib.Core.Path.{refl, sym, ap, ◌∙◌}
use mathlib.Core.Bool.{true, false}
use Prim.Native.Nat.{◌+◌}
use borrow.Author.Tests.{eq-eqb, ne_eqb}
use Rattle.orders.proofs.BlankSlots.{counted-none, counted-fits, counted-step, counted-all, bit-small}
use Rattle.orders.proofs.fill.filled_set.Goals as goal
use Rattle.orders.proofs.fill.filled_set.Goals.{then-is_some+then-length_in-eq0, else-is_some, else-is_some-via-then-is_some+else-length_in-eq0, else-is_some-via-else-is_some}

pub loop-slot-init : goal.loop-slot-init
loop-slot-init c = counted-none _

pub overflow_add-set : goal.overflow_add-set
overflow_add-set c = counted-fits _ _ _ c.loop-slot-test.true c.loop-slot.invariant

pub loop-slot-preserved : goal.loop-slot-preserved
loop-slot-preserved c =
    let more = counted-step _ _ _ c.loop-slot-test.true c.loop-slot.invariant _ c.list_in.ensures in
    elim c.if-is_some.branch [
      | then-is_some+then-length_in-eq0 w ↦ more true (rw (sym c.is_some.ensures ∙ w.if-is_some.true) (eq-eqb _ 0 (sym w.length_in.ensures ∙ w.if-length_in-eq0.true))) _ (w.set-is ∙ ap (λ k. c.loop-slot.set + k) (bit-small _ c.loop-slot-test.true))
      | else-is_some w ↦
          elim w.else-is_some.branch [
            | else-is_some-via-then-is_some+else-length_in-eq0 v ↦ more false (rw (sym c.is_some.ensures ∙ v.if-is_some.true) (ne_eqb _ 0 (λ z. v.if-length_in-eq0.false (v.length_in.ensures ∙ z)))) _ (omega (arith, w.set-is))
            | else-is_some-via-else-is_some v ↦ more false (rw (sym c.is_some.ensures ∙ v.if-is_some.false) refl) _ (omega (arith, w.set-is))
          ]
    ]

pub returns : goal.returns
returns c = counted-all _ _ _ c.loop-slot.invariant c.loop-slot-test.false (omega arith)
