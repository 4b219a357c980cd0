-- The draft's sheet is a well-formed sheet, and has the draft's texts.
use mathlib.Core.Path.{◌≡◌, refl, ap, sym, ◌∙◌}
use mathlib.Core.Bool.{true}
use mathlib.Core.List.{List, ◌++◌}
use Prim.Native.Nat.{ℕ, zero, suc, ◌*◌, ◌<◌, ◌≤◌}
use native.Mathlib.Decide.{dec_lt}
use native.Mathlib.Omega.{arith}
use borrow.Author.Tests.{ltb-true, eq-eqb}
use lib.Dec.{ltb, eqb}
use lib.ListN.{length, drop, length-append, length-drop}
use lib.Seq.{length-take-le, take_all, drop_at, take-append-le, drop-append-le}
use Rattle.texts.specs.Texts.{between, every, blank}
use Rattle.texts.proofs.Bools.{both}
use Rattle.sheets.proofs.Frames.{cell-part}
use Rattle.sheets.specs.Sheet.{slot_count, cell_size, sheet_size, cell_ok, cell_of, text_of, slot_ok, well_formed}
use Rattle.drafts.specs.Draft.{cell_place, draft_size, slot_in, slot_cell, slot_text, slot_formed, draft_formed, cells, draft_sheet}
use Rattle.drafts.specs.Working.Steps.{length_in, sheet_into}
use Rattle.drafts.proofs.Slots.{at_slot, length-slot-in, text-blank, formed-means}

module _ (d : List ℕ) (size : length d ≡ draft_size) where
  pub length-cell : (n : ℕ) → n < slot_count → length (slot_cell (slot_in d n)) ≡ cell_size
  unfolding slot_cell between
  length-cell n h = length-take-le cell_size (drop cell_place (slot_in d n)) (omega (arith, length-drop cell_place (slot_in d n), length-slot-in d size n h))

  pub length-cells : (n : ℕ) → n ≤ slot_count → length (cells d n) ≡ n * cell_size
  unfolding cells
  length-cells zero h = refl
  length-cells (suc n) h =
      length-append (cells d n) (slot_cell (slot_in d n)) ∙ rw (length-cells n (omega arith), length-cell n (omega arith)) (omega arith)

  cell_at : (n i : ℕ) → i < n → n ≤ slot_count → cell_of (cells d n) i ≡ slot_cell (slot_in d i)
  unfolding cells
  cell_at zero i h l = absurd (omega arith)
  cell_at (suc n) i h l =
      let x = cells d n in
      let c = slot_cell (slot_in d n) in
      let lx : length x ≡ n * cell_size = length-cells n (omega arith) in
      let ld = length-drop (i * cell_size) x in
      elim (dec_lt i n) [
        | yes p ↦
            rw (cell-part (x ++ c) i, drop-append-le (i * cell_size) x c (omega arith), take-append-le cell_size (drop (i * cell_size) x) c (omega arith))
            (sym (cell-part x i) ∙ cell_at n i p (omega arith))
        | no q ↦
            let e : i ≡ n = omega arith in
            rw (cell-part (x ++ c) i, e, drop_at x c (n * cell_size) lx) (take_all cell_size c (omega (arith, length-cell n (omega arith))))
      ]

  pub length-sheet : length (draft_sheet d) ≡ sheet_size
  unfolding draft_sheet
  length-sheet = length-cells slot_count (omega arith)

-- by cells, for what stands in a slot
pub sheet-cell : (d : List ℕ) → length d ≡ draft_size → (i : ℕ) → i < slot_count → cell_of (draft_sheet d) i ≡ slot_cell (slot_in d i)
unfolding draft_sheet
sheet-cell d z i l = cell_at d z slot_count i l (omega arith)

pub sheet-made : (d : List ℕ) → draft_formed d ≡ true → (well_formed (draft_sheet d) ≡ true) × ((i : ℕ) → i < slot_count → text_of (draft_sheet d) i ≡ slot_text (slot_in d i))
unfolding draft_sheet slot_formed slot_ok every text_of slot_text
sheet-made d w =
    let F = formed-means d w in
    let is : (i : ℕ) → i < slot_count → cell_of (cells d slot_count) i ≡ slot_cell (slot_in d i) = λ i l. cell_at d F.sized slot_count i l (omega arith) in
    let ok : (i : ℕ) → ltb i slot_count ≡ true → cell_ok (cell_of (cells d slot_count) i) ≡ true =
    λ i t. let l = ltb-true i slot_count t in rw (is i l) (both (cell_ok (slot_cell (slot_in d i))) _ (F.slot i l)).0 in
    (simp (eq-eqb _ _ (length-sheet d F.sized), ok), λ i l. rw (is i l))

-- a text of the draft's sheet is blank exactly if the byte before it in the draft is 0
pub blank-in : (d : List ℕ) → draft_formed d ≡ true → (i : ℕ) → i < slot_count → blank (text_of (draft_sheet d) i) ≡ eqb (length_in d i) 0
blank-in d w i l =
    ap blank ((sheet-made d w).1 i l)
    ∙ text-blank (slot_in d i) (length-slot-in d (formed-means d w).sized i l)
    ∙ ap (λ (n : ℕ). eqb n 0) (at_slot d i cell_place (omega arith))

pub sheet-into : (d s : List ℕ) → length d ≡ draft_size → length s ≡ sheet_size → sheet_into d s ≡ draft_sheet d
unfolding sheet_into
sheet-into d s l z = simp (eq-eqb (length d) draft_size l, eq-eqb (length s) sheet_size z)
