-- Cells that stand in a text at equal distances, as one loop tests them: a sheet's, and those of a draft.
use Rattle.std.specs.Prelude.{Bool, true, ◌&&◌, List, ℕ, zero, suc, ◌+◌, leb, length}
use Rattle.texts.specs.Texts.{between}
use Rattle.sheets.specs.Sheet.{cell_size, cell_ok}

-- at place a of t a cell stands whole, and it is as it must be
unfoldable pub cell_at : List ℕ → ℕ → Bool
cell_at t a = leb (a + cell_size) (length t) && cell_ok (between t a (a + cell_size))

-- so do n cells, the first at place a, each next w further
unfoldable pub cells_at : ℕ → ℕ → List ℕ → ℕ → Bool
cells_at w zero t a = true
cells_at w (suc n) t a = cell_at t a && cells_at w n t (a + w)
