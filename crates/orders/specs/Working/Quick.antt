-- R-14: which statuses the search passes over. A reader of the promise needs none of this.
use Rattle.std.specs.Prelude.{◌≡◌, Bool, true, not, List, [], ◌∷◌, ◌++◌, ℕ, get_or}
use Rattle.texts.specs.Texts.{blank, every}
use Rattle.sheets.specs.Sheet.{Sheet, cell, text_of}
use Rattle.sheets.specs.Working.Entries.{basis_count, zero_count, filled_at}
use Rattle.sheets.specs.Dates.{status_texts}
use Rattle.sheets.specs.declared.dates.Dates.{Dates}
use Rattle.sheets.specs.declared.facts.Facts.{Facts}
use Rattle.sheets.specs.Working.Facts.{Read}
use Rattle.rules.specs.Rules.{budget, keeps}
use Rattle.rules.specs.Working.Groups.{fixed_rules, status_rules}
use Rattle.fillings.specs.Fillings.{width, product}
use Rattle.fillings.specs.Working.Places.{places}

-- s with entry a of 101
abbrev pub with_status : Dates → Sheet → ℕ → Sheet
with_status D s a = filled_at s 6 (cell (get_or (status_texts D) a []))

-- the rules that read neither 106, 108 nor 109, by groups
abbrev pub early_rules : List ℕ
early_rules = fixed_rules ++ status_rules

-- a payment of which the facts were read keeps the rules that read none of the four fields
abbrev pub KeepsFixed : Facts → Type 0
KeepsFixed f = (D : Dates) (s : Sheet) → Read D f s → budget s ≡ true → true ≡ every (keeps D s) fixed_rules

unfoldable pub skips : Dates → Sheet → ℕ → Bool
skips D s a = not (every (keeps D (with_status D s a)) early_rules)

-- the places in the lists of 106, 108 and 109
unfoldable pub rest_picks : Sheet → List (List ℕ)
rest_picks s =
    product
    (places (width (blank (text_of s 11)) basis_count) 0
    ∷ places (width (blank (text_of s 13)) zero_count) 0
    ∷ places (width (blank (text_of s 14)) zero_count) 0
    ∷ [])
