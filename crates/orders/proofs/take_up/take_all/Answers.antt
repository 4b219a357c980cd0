use mathlib.Core.Path.{◌≡◌, refl, sym, ap, ◌∙◌}
use Prim.Native.Nat.{ℕ}
use native.Mathlib.Omega.{arith}
use Rattle.sheets.specs.Sheet.{slot_count}
use Rattle.drafts.specs.History.{posted_from}
use Rattle.orders.specs.TakeUp.{proposals}
use Rattle.orders.proofs.TakeUp.{take-can, take_more, take_none}
use Rattle.orders.proofs.take_up.take_all.Goals as goal
use Rattle.orders.proofs.take_up.take_all.Goals.{then-is_in_set, else-is_in_set}

pub loop-slot-init : goal.loop-slot-init
loop-slot-init c = (refl, c.requires, refl)

pub take-requires : goal.take-requires
take-requires c =
    let i = c.loop-slot.invariant in
    take-can _ _ _ i.1 _ c.loop-slot-test.true _ i.0 (sym c.is_in_set.ensures ∙ c.if-is_in_set.true)

pub loop-slot-preserved : goal.loop-slot-preserved
loop-slot-preserved c =
    let i = c.loop-slot.invariant in
    let l = c.loop-slot-test.true in
    let q = c.is_in_set.ensures in
    let n = c.loop-slot.slot in
    elim c.if-is_in_set.branch [
      | then-is_in_set w ↦ (take_more _ _ _ i.1 n l _ i.0 _ (sym q ∙ w.if-is_in_set.true) (w.draft-is ∙ w.take.ensures), i.1, c.if-is_in_set.auto.draft ∙ i.2)
      | else-is_in_set w ↦ (take_none _ _ _ i.1 n l _ i.0 _ (sym q ∙ w.if-is_in_set.false) w.draft-is, i.1, c.if-is_in_set.auto.draft ∙ i.2)
    ]

pub returns : goal.returns
returns c = let i = c.loop-slot.invariant in let n : c.loop-slot.slot ≡ slot_count = omega arith in let a = c.args in i.0 ∙ ap (λ (k : ℕ). posted_from a.draft.now (proposals a.draft.now a.sheet.now a.set k)) n
