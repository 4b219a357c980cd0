-- Entries put into blank slots, one after another.
use Rattle.std.specs.Prelude.{List, [], ◌∷◌, map, ℕ}
use Rattle.sheets.specs.Sheet.{Sheet}
use Rattle.sheets.specs.Working.Entries.{filled_at}

-- a slot and the cell that goes into it
abbrev pub Entry : Type 0
Entry = ℕ × List ℕ

abbrev pub filled_with : Sheet → List Entry → Sheet
filled_with s [] = s
filled_with s (e ∷ es) = filled_with (filled_at s e.0 e.1) es

abbrev pub slots_of : List Entry → List ℕ
slots_of es = map (λ (e : Entry). e.0) es
