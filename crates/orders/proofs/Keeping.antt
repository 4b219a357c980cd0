-- Entries put into a sheet leave its other fields. The fillings of a sheet are what its picks make of the base, so that the first pick
-- that passes makes the first filling that keeps all rules.
use mathlib.Core.Path.{◌≡◌, refl, sym, ap, ◌∙◌, subst}
use mathlib.Core.Bool.{Bool, false, cond}
use mathlib.Core.List.Memᴰ
use mathlib.Core.List.{List, [], ◌∷◌, map, map_congr_left, Memᴰ}
use Prim.Native.Nat.{ℕ}
use native.Mathlib.Omega.{arith}
use borrow.Author.Tests.{eqb-false}
use lib.Dec.{eqb}
use lib.ListN.{length, get_or}
use Rattle.texts.specs.Texts.{blank, every, any, are, among}
use Rattle.sheets.specs.Working.Entries.{filled_at, basis_count, zero_count}
use Rattle.rules.specs.Working.Groups.{AlikeBut}
use Rattle.sheets.specs.Sheet.{Sheet, cell, slots, slot_of, cell_of, text_of, ◌⟨◌⟩, sheet_size}
use Rattle.sheets.specs.Lists.{basis_texts, zero_texts}
use Rattle.sheets.specs.Dates.{status_texts, status_count}
use Rattle.rules.proofs.Reading.{spared, spared-class}
use Rattle.rules.specs.Rules.{budget, rules, basic, test_of, keeps, keeps_all, first_not, first_broken}
use Rattle.sheets.proofs.Frames.{status-sized, basis-sized, zero-sized, filled-length, filled-other}
use Rattle.sheets.specs.declared.dates.Dates.{Dates}
use Rattle.drafts.proofs.Messages.{neither}
use Rattle.fillings.specs.Fillings as of
use Rattle.fillings.specs.Fillings.{width, joined, look}
use Rattle.fillings.specs.Working.Parts.{map_look}
use Rattle.fillings.specs.Working.Entering.{Entry, filled_with, slots_of}
use Rattle.fillings.proofs.Cells.{Cells, Fit, fill_cells, joined-cells, sized-cells, filled-joined}
use Rattle.fillings.proofs.EveryFilling.{of-filling}
use Rattle.fillings.proofs.Linking.{pick_cell}
use Rattle.fillings.proofs.Looking.{look-map}
use Rattle.orders.specs.Fillings.{list_of, Filling, fillings, first_filling}
use Rattle.orders.specs.Working.Search.{passes_at, picks, first_pick}
use Rattle.orders.specs.Working.Quick.{with_status}
use Rattle.orders.specs.Working.Entering.{zero_entries, base_of, pick_entries, picked_of, varying}
use Rattle.orders.proofs.Lists.{proper, status-blank}
use Rattle.orders.proofs.Linking.{cells_with, cells_at, fillings-picked}

-- the entries fit
pub zeros-fit : Fit 15 zero_entries
unfolding cell
zeros-fit =
    ((omega arith, refl), ((omega arith, refl), ((omega arith, refl), ((omega arith, refl), ((omega arith, refl), ((omega arith, refl), tt))))))

pub picks-fit : (D : Dates) (q : List ℕ) → Fit 15 (pick_entries D q)
unfolding every
picks-fit D q = (
  (omega arith, status-sized D (get_or q 0 0)),
  ((omega arith, basis-sized (get_or q 1 0)), ((omega arith, zero-sized (get_or q 2 0)), ((omega arith, zero-sized (get_or q 3 0)), tt))),
)

-- entries put in leave a sheet's size, and the texts of all slots but theirs
pub filled-alike : (es : List Entry) (u : Sheet) → length u ≡ sheet_size → Fit 15 es → (length (filled_with u es) ≡ sheet_size) × AlikeBut (slots_of es) u (filled_with u es)
unfolding any are among
filled-alike [] u z f = (z, λ j h. refl)
filled-alike (e ∷ es) u z f =
    let (lk, lx) = f.0 in
    let r = filled-alike es (filled_at u e.0 e.1) (filled-length u e.1 e.0 z lk lx) f.1 in (
      r.0,
      λ j h.
          let q = neither (eqb e.0 j) (any (are j) (slots_of es)) h in
          sym (filled-other u e.1 e.0 z lk lx j (λ k. eqb-false e.0 j q.0 (sym k))) ∙ r.1 j q.1,
    )

pub picked-alike : (D : Dates) (u : Sheet) (q : List ℕ) → length u ≡ sheet_size → (length (picked_of D u q) ≡ sheet_size) × AlikeBut varying u (picked_of D u q)
unfolding picked_of
picked-alike D u q size = filled-alike (pick_entries D q) u size (picks-fit D q)

pub status-alike : (D : Dates) (u : Sheet) → length u ≡ sheet_size → (a : ℕ) → (length (with_status D u a) ≡ sheet_size) × AlikeBut (6 ∷ []) u (with_status D u a)
status-alike D u size a = filled-alike ((6, cell (get_or (status_texts D) a [])) ∷ []) u size ((omega arith, status-sized D a), tt)

-- what a pick puts in after its status
abbrev pub later_entries : List ℕ → List Entry
later_entries t = (11, cell (get_or basis_texts (get_or t 0 0) [])) ∷ (13, cell (get_or zero_texts (get_or t 1 0) [])) ∷ (14, cell (get_or zero_texts (get_or t 2 0) [])) ∷ []

abbrev base_cells : List ℕ → Cells
base_cells s = fill_cells (map (cell_of s) slots) zero_entries

module _ (D : Dates) (s : List ℕ) (size : length s ≡ sheet_size) where
  base-alike : (length (base_of s) ≡ sheet_size) × AlikeBut (slots_of zero_entries) s (base_of s)
  unfolding base_of
  base-alike = filled-alike zero_entries s size zeros-fit

  pub base-length : length (base_of s) ≡ sheet_size
  base-length = base-alike.0

  pub base-text : (k : ℕ) → among k (slots_of zero_entries) ≡ false → text_of (base_of s) k ≡ text_of s k
  base-text k h = sym (base-alike.1 k h)

  -- 14, 15 and 17 stay in the base, and so do the rules of completion and the class
  pub base-budget : budget (base_of s) ≡ budget s
  unfolding every any are among
  base-budget = sym (spared-class D (slots_of zero_entries) s (base_of s) base-alike.1 refl)

  pub base-broken : first_broken D (base_of s) basic ≡ first_broken D s basic
  unfolding any are among first_not keeps rules test_of ◌⟨◌⟩ slot_of
  base-broken = cc (base-text 0 refl, base-text 1 refl, base-text 2 refl)

  pub base-basic : every (keeps D (base_of s)) basic ≡ every (keeps D s) basic
  unfolding every any are among
  base-basic = sym (spared D (slots_of zero_entries) s (base_of s) base-alike.1 basic refl)

  -- a pick's filling by its cells
  -- that of 101, whatever the date
  pick-status : (i : ℕ) → pick_cell (list_of D) s 6 i ≡ cond (blank (text_of s 6)) (cell (get_or (status_texts D) i [])) (cell_of s 6)
  unfolding pick_cell list_of
  pick-status i = ap (λ (b : Bool). cond b (cell (get_or (status_texts D) i [])) (cell_of s 6)) (status-blank D s)

  picked-joined : (q : List ℕ) → picked_of D (base_of s) q ≡ joined (cells_at D s q)
  unfolding base_of picked_of pick_cell of.to_fill list_of text_of
  picked-joined q =
      let base = filled-joined zero_entries (map (cell_of s) slots) (sized-cells s size) zeros-fit in
      ap (λ (t : List ℕ). filled_with t (pick_entries D q)) (ap (λ (t : List ℕ). filled_with t zero_entries) (sym (joined-cells s size)) ∙ base.0)
      ∙ (filled-joined (pick_entries D q) (base_cells s) base.1 (picks-fit D q)).0
      ∙ ap (λ (c : List ℕ). joined (cells_with D s q c)) (sym (pick-status (get_or q 0 0)))

  pub fillings-are : fillings D s ≡ map (picked_of D (base_of s)) (picks D (base_of s))
  unfolding any are among picks of.to_fill list_of
  fillings-are =
      let w : (k n : ℕ) → among k (slots_of zero_entries) ≡ false → width (blank (text_of (base_of s) k)) n ≡ width (blank (text_of s k)) n = λ k n h. rw (base-text k h) in
      fillings-picked D s _ _ _ _ (w 6 (status_count D) refl ∙ ap (λ (b : Bool). width b (status_count D)) (sym (status-blank D s))) (w 11 basis_count refl) (w 13 zero_count refl) (w 14 zero_count refl)
      ∙ map_congr_left {l = picks D (base_of s)} (λ q m. sym (picked-joined q))

  -- the search through the picks is the search through the fillings
  pub first-is : first_filling D s ≡ map_look (picked_of D (base_of s)) (first_pick D (base_of s))
  unfolding of.first_filling first_pick passes_at
  first-is = ap (look (keeps_all D) 0) fillings-are ∙ look-map (keeps_all D) (picked_of D (base_of s)) (picks D (base_of s)) 0

  pub picked-length : (q : List ℕ) → length (picked_of D (base_of s) q) ≡ sheet_size
  picked-length q = (picked-alike D (base_of s) q base-length).0

  -- no other field than 101, 106, 108 and 109 differs in a filling
  pub of-base : (f : Sheet) → Filling D s f → AlikeBut varying (base_of s) f
  of-base f w =
      let m = subst (Memᴰ f) fillings-are (of-filling (proper D) s size f w) in
      let q = Memᴰ.of_map (picked_of D (base_of s)) (picks D (base_of s)) m in
      subst (AlikeBut varying (base_of s)) q.2 (picked-alike D (base_of s) q.0 base-length).1
