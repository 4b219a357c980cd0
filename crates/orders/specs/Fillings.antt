-- The fillings of document 01 ("Completion"): the crate fillings, of its lists and its rules at a date (R-7).
use Rattle.std.specs.Prelude.{Bool, List, [], ◌∷◌, ℕ, get_or}
use Rattle.texts.specs.Quoted.{Text, words}
use Rattle.sheets.specs.Sheet.{Sheet}
use Rattle.sheets.specs.Lists.{basis_texts, zero_texts}
use Rattle.sheets.specs.Dates.{status_texts}
use Rattle.sheets.specs.declared.dates.Dates.{Dates}
use Rattle.rules.specs.Rules.{keeps_all}
use Rattle.fillings.specs.Fillings as of
use Rattle.fillings.specs.Filled as set

-- "Lists: 22, 60, 102, 104, 105, 107: "0". 101: rule 10's order. 106: rule 15's order. 108 and 109: "0", "00". Fields 14, 15, 17, 61, 103 have no
-- list and stay as given": by slot, no entry for a field that has no list; ts is that of 101
abbrev pub lists : List Text → List (List Text)
lists ts =
    [] ∷ [] ∷ [] ∷ words "0" ∷ words "0" ∷ [] ∷ ts ∷ words "0" ∷ [] ∷ words "0" ∷ words "0" ∷ basis_texts ∷ words "0" ∷ zero_texts
    ∷ zero_texts ∷ []

unfoldable pub list_of : Dates → ℕ → List Text
list_of D k = get_or (lists (status_texts D)) k []

abbrev pub to_fill : Dates → Sheet → ℕ → Bool
to_fill D s k = of.to_fill (list_of D) s k

abbrev pub Filling : Dates → Sheet → Sheet → Type 0
Filling D s f = of.Filling (list_of D) s f

abbrev pub All : Dates → Sheet → ℕ → Type 0
All D s n = of.All (list_of D) s n

abbrev pub fillings : Dates → Sheet → List Sheet
fillings D s = of.fillings (list_of D) s

-- "the first filling that keeps all rules": found by looking through them, and said without a search
abbrev pub first_filling : Dates → Sheet → of.Look Sheet
first_filling D s = of.first_filling (list_of D) (keeps_all D) s

abbrev pub FirstFilling : Dates → Sheet → Sheet → ℕ → Type 0
FirstFilling D s t n = of.FirstFilling (list_of D) (keeps_all D) s t n

-- "a 16-bit set of the filled slots (bit i for slot i)": the same at all dates, since the list of 101 is never empty
abbrev pub set_of : Dates → Sheet → ℕ
set_of D s = set.set_of (list_of D) s

abbrev pub FilledSet : Dates → Sheet → ℕ → ℕ → Type 0
FilledSet D s n k = set.FilledSet (list_of D) s n k
