-- How the code makes a filling: an entry is put into a slot if that is blank. A reader of the promise needs none of this.
use Rattle.std.specs.Prelude.{List, [], ◌∷◌, ℕ, get_or, replicate}
use Rattle.texts.specs.Quoted.{bytes}
use Rattle.sheets.specs.Sheet.{cell}
use Rattle.sheets.specs.Lists.{basis_texts, zero_texts}
use Rattle.sheets.specs.Dates.{status_texts}
use Rattle.sheets.specs.declared.dates.Dates.{Dates}
use Rattle.fillings.specs.Working.Entering.{Entry, filled_with}

-- a table's row as a cell
abbrev pub row_cell : List ℕ → List ℕ
row_cell r = get_or r 0 0 ∷ get_or r 1 0 ∷ get_or r 2 0 ∷ replicate 23 0

abbrev pub zero_cell : List ℕ
zero_cell = cell (bytes "0")

-- "0" in each blank field whose list is "0" alone: 22, 60, 102, 104, 105, 107
abbrev pub zero_entries : List Entry
zero_entries = (3, zero_cell) ∷ (4, zero_cell) ∷ (7, zero_cell) ∷ (9, zero_cell) ∷ (10, zero_cell) ∷ (12, zero_cell) ∷ []

unfoldable pub base_of : List ℕ → List ℕ
base_of s = filled_with s zero_entries

-- the entries at four places in the lists of 101, 106, 108 and 109
abbrev pub pick_entries : Dates → List ℕ → List Entry
pick_entries D p =
    (6, cell (get_or (status_texts D) (get_or p 0 0) []))
    ∷ (11, cell (get_or basis_texts (get_or p 1 0) []))
    ∷ (13, cell (get_or zero_texts (get_or p 2 0) []))
    ∷ (14, cell (get_or zero_texts (get_or p 3 0) []))
    ∷ []

unfoldable pub picked_of : Dates → List ℕ → List ℕ → List ℕ
picked_of D s p = filled_with s (pick_entries D p)

-- the slots of 101, 106, 108 and 109, whatever is picked
abbrev pub varying : List ℕ
varying = 6 ∷ 11 ∷ 13 ∷ 14 ∷ []
