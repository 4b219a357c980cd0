-- The fillings of a sheet are what the picks make of its base: only 101, 106, 108 and 109 have more than one entry.
use mathlib.Core.Path.{◌≡◌, refl, ap, ◌∙◌}
use mathlib.Core.List.{List, [], ◌∷◌, map, map-map}
use Prim.Native.Nat.{ℕ, ◌*◌}
use native.Mathlib.Nat.{mul-one}
use lib.ListN.{length, get_or}
use lib.Seq.{get_or-drop, drop-drop}
use Rattle.sheets.specs.Working.Entries.{basis_count, zero_count}
use Rattle.sheets.specs.Dates.{status_count}
use Rattle.sheets.specs.declared.dates.Dates.{Dates}
use Rattle.fillings.specs.Fillings as of
use Rattle.fillings.specs.Fillings.{width, product, joined}
use Rattle.fillings.specs.Working.Places.{places}
use Rattle.fillings.proofs.Cells.{Cells}
use Rattle.fillings.proofs.EveryFilling.{length-places}
use Rattle.fillings.proofs.Counting.{length-product}
use Rattle.fillings.proofs.Linking.{pick_cell, Made, listed, single, width_one}
use Rattle.orders.specs.Fillings.{list_of, to_fill, fillings}

-- the product of the places of four lists
pub length-picks : (a b c d : ℕ) → length (product (places a 0 ∷ places b 0 ∷ places c 0 ∷ places d 0 ∷ [])) ≡ a * (b * (c * d))
length-picks a b c d = simp (length-product, length-places, mul-one)

-- the cells that a pick gives, with c for 101
abbrev pub cells_with : (D : Dates) → List ℕ → List ℕ → List ℕ → Cells
cells_with D s q c =
    pick_cell (list_of D) s 0 0 ∷ pick_cell (list_of D) s 1 0 ∷ pick_cell (list_of D) s 2 0 ∷ pick_cell (list_of D) s 3 0 ∷ pick_cell (list_of D) s 4 0 ∷ pick_cell (list_of D) s 5 0 ∷ c
    ∷ pick_cell (list_of D) s 7 0 ∷ pick_cell (list_of D) s 8 0 ∷ pick_cell (list_of D) s 9 0 ∷ pick_cell (list_of D) s 10 0 ∷ pick_cell (list_of D) s 11 (get_or q 1 0) ∷ pick_cell (list_of D) s 12 0
    ∷ pick_cell (list_of D) s 13 (get_or q 2 0) ∷ pick_cell (list_of D) s 14 (get_or q 3 0) ∷ []

abbrev pub cells_at : (D : Dates) → List ℕ → List ℕ → Cells
cells_at D s q = cells_with D s q (pick_cell (list_of D) s 6 (get_or q 0 0))

module _ (D : Dates) (s : List ℕ) (n101 n106 n108 n109 : ℕ) (w6 : n101 ≡ width (to_fill D s 6) (status_count D)) (w11 : n106 ≡ width (to_fill D s 11) basis_count) (w13 : n108 ≡ width (to_fill D s 13) zero_count) (w14 : n109 ≡ width (to_fill D s 14) zero_count) where
  pub fillings-picked : fillings D s ≡ map (λ (q : List ℕ). joined (cells_at D s q)) (product (places n101 0 ∷ places n106 0 ∷ places n108 0 ∷ places n109 0 ∷ []))
  unfolding of.fillings of.to_fill list_of
  fillings-picked =
      let none : Made [] (λ (r : List ℕ). []) ([] ∷ []) = record { eq = refl } in
      let e14 = listed (list_of D) s none 14 n109 w14 in
      let e13 = listed (list_of D) s e14 13 n108 w13 in
      let e12 = single (list_of D) s e13 12 (width_one (to_fill D s 12)) in
      let e11 = listed (list_of D) s e12 11 n106 w11 in
      let e10 = single (list_of D) s e11 10 (width_one (to_fill D s 10)) in
      let e9 = single (list_of D) s e10 9 (width_one (to_fill D s 9)) in
      let e8 = single (list_of D) s e9 8 refl in
      let e7 = single (list_of D) s e8 7 (width_one (to_fill D s 7)) in
      let e6 = listed (list_of D) s e7 6 n101 w6 in
      let e5 = single (list_of D) s e6 5 refl in
      let e4 = single (list_of D) s e5 4 (width_one (to_fill D s 4)) in
      let e3 = single (list_of D) s e4 3 (width_one (to_fill D s 3)) in
      let e2 = single (list_of D) s e3 2 refl in
      let e1 = single (list_of D) s e2 1 refl in
      ap (map joined) (single (list_of D) s e1 0 refl).eq ∙ simp (map-map, drop-drop, get_or-drop)
