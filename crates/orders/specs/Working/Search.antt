-- The search: only 101, 106, 108 and 109 of the base vary, so it goes through places in their lists. A reader of the promise needs none
-- of this.
use Rattle.std.specs.Prelude.{◌≡◌, Bool, true, List, [], ◌∷◌, ℕ}
use Rattle.texts.specs.Texts.{blank, every}
use Rattle.sheets.specs.Sheet.{Sheet, text_of}
use Rattle.sheets.specs.Working.Entries.{basis_count, zero_count}
use Rattle.sheets.specs.Dates.{status_count}
use Rattle.sheets.specs.declared.dates.Dates.{Dates}
use Rattle.sheets.specs.Working.Facts.{Read}
use Rattle.sheets.specs.declared.facts.Facts.{Facts}
use Rattle.rules.specs.Rules.{budget, basic, keeps, keeps_all}
use Rattle.fillings.specs.Fillings.{width, product, look, Look}
use Rattle.fillings.specs.Working.Places.{places}
use Rattle.orders.specs.Working.Entering.{picked_of}

-- the places in the four lists: as many as are listed where the field is blank, one where it is not
unfoldable pub picks : Dates → Sheet → List (List ℕ)
picks D s =
    product
    (places (width (blank (text_of s 6)) (status_count D)) 0
    ∷ places (width (blank (text_of s 11)) basis_count) 0
    ∷ places (width (blank (text_of s 13)) zero_count) 0
    ∷ places (width (blank (text_of s 14)) zero_count) 0
    ∷ [])

-- the sheet with the entries at these four places keeps all rules
unfoldable pub passes_at : Dates → Sheet → List ℕ → Bool
passes_at D s p = keeps_all D (picked_of D s p)

unfoldable pub first_pick : Dates → Sheet → Look (List ℕ)
first_pick D s = look (passes_at D s) 0 (picks D s)

-- f was read of s, a budget payment that keeps rules 1 to 3
pub record Payment (D : Dates) (f : Facts) (s : Sheet) : Type 0 where
  pub read : Read D f s
  pub class : budget s ≡ true
  pub basics : every (keeps D s) basic ≡ true
