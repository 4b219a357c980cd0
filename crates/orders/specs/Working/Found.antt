-- What the search over facts answers.
use Rattle.std.specs.Prelude.{Bool, cond, List, ℕ, ◌+◌, get_or, Some, None}
use Rattle.texts.specs.Texts.{blank}
use Rattle.sheets.specs.Sheet.{Sheet, text_of}
use Rattle.sheets.specs.Dates.{status_count}
use Rattle.sheets.specs.declared.dates.Dates.{Dates}
use Rattle.fillings.specs.Fillings.{width, Look, found, none}
use Rattle.fillings.specs.Filled.{tally}
use Rattle.fillings.specs.Working.Places.{places}
use Rattle.orders.specs.Working.Search.{first_pick}
use Rattle.orders.specs.Working.Quick.{skips}
use Rattle.orders.specs.declared.search.Pace.{Pace}
use Rattle.orders.specs.declared.search.Pick.{Pick}
use Rattle.orders.specs.declared.search.Found.{Found}

abbrev pub pick_of : List ℕ → Pick
pick_of p = record { status = get_or p 0 0; basis = get_or p 1 0; document = get_or p 2 0; day = get_or p 3 0 }

-- "With a sheet or 10 it also returns how many statuses it skipped: of those up to the sheet's, with 10 of all" w
abbrev pub found_by : (ℕ → Bool) → ℕ → Look (List ℕ) → Found
found_by p w (found n q) = record { pick = Some (pick_of q); count = n; skipped = tally p (places (get_or q 0 0 + 1) 0) }
found_by p w (none n) = record { pick = None; count = n; skipped = tally p (places w 0) }

unfoldable pub found_of : Dates → Sheet → Found
found_of D s = found_by (skips D s) (width (blank (text_of s 6)) (status_count D)) (first_pick D s)

-- a status whose rules are kept is gone through; of another its fillings are passed over, and counted
unfoldable pub pace_of : Bool → ℕ → ℕ → Pace
pace_of kept bases fillings =
    cond kept (record { bases = bases; fillings = 0; statuses = 0 }) (record { bases = 0; fillings = fillings; statuses = 1 })
