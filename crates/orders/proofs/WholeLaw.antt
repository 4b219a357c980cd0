-- Demand 3: its whole promise, from its parts. It stands by itself, so that an edit of the parts' file is refused by the part that it makes false.
use mathlib.Core.Path.{refl}
use mathlib.Core.List.{List}
use Prim.Native.Nat.{ℕ}
use Rattle.sheets.specs.declared.dates.Dates.{Dates}
use Rattle.drafts.specs.Draft.{draft_sheet}
use Rattle.drafts.specs.Promises.{Postings}
use Rattle.drafts.proofs.Held.{held_by}
use Rattle.orders.specs.Fillings.{first_filling}
use Rattle.orders.specs.Complete.{completing, completed}
use Rattle.orders.specs.Whole.{Whole}
use Rattle.orders.proofs.Whole.{length-draftSheet, left-formed, answer-is, sheet-is, refused-by, filled-by, all-by, answered-by, unpaid-by}

pub whole-law : (D : Dates) (ms : List (List ℕ)) (d b : List ℕ) → Postings ms d → Whole D ms d b (completing D d b) (completed D d b)
whole-law D ms d b L =
    let s = draft_sheet d in
    let f = left-formed ms d L in
    let z = length-draftSheet d f in
    record {
      held = held_by ms d L;
      refused = λ l t p. rw (answer-is D d b f l t p) (refused-by D s b z (first_filling D s) refl);
      all = λ l t p. rw (answer-is D d b f l t p) (all-by D s b z (first_filling D s) refl);
      filled = λ l t p. rw (answer-is D d b f l t p, sheet-is D d b f l t p) (filled-by D s b z (first_filling D s) refl);
      answered = λ l t p. rw (answer-is D d b f l t p) (answered-by D s b z (first_filling D s));
      unpaid = λ l t p. unpaid-by D d b f l t p;
    }
