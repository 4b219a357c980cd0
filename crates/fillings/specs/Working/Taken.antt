-- R-9: taking up part of a proposal.
use Rattle.std.specs.Prelude.{◌≡◌, Bool, not, cond, ◌&&◌, ℕ, ◌<◌, ◌≤◌, length}
use Rattle.sheets.specs.Sheet.{Sheet, slot_count, sheet_size, cell_of}
use Rattle.fillings.specs.Fillings.{Lists, to_fill, found, first_filling}

-- u is s with a choice of what f has in the fields that were to be filled
pub record Taken (L : Lists) (chosen : ℕ → Bool) (s f u : Sheet) : Type 0 where
  pub sized : length u ≡ sheet_size
  pub slot : (k : ℕ) → k < slot_count → cell_of u k ≡ cond (to_fill L s k && chosen k) (cell_of f k) (cell_of s k)

-- "the draft must then complete to the very same sheet, and its count must be no larger than before": and what is filled is what was
-- filled and not taken up
pub record Again (L : Lists) (good : Sheet → Bool) (chosen : ℕ → Bool) (s f u : Sheet) (n : ℕ) : Type 0 where
  pub count : ℕ
  pub same : first_filling L good u ≡ found count f
  pub less : count ≤ n
  pub filled : (k : ℕ) → k < slot_count → to_fill L u k ≡ (to_fill L s k && not (chosen k))
