-- What the laws of fillings ask of lists.
use Rattle.std.specs.Prelude.{◌≡◌, Bool, true, ◌&&◌, ℕ, leb, length}
use Rattle.texts.specs.Quoted.{Text}
use Rattle.texts.specs.Texts.{every}
use Rattle.sheets.specs.Sheet.{text_max}
use Rattle.fillings.specs.Fillings.{Lists, distinct}

-- an entry fits a cell and is no blank; none stands in a list twice
abbrev pub entry : Text → Bool
entry t = leb 1 (length t) && leb (length t) text_max

pub record Proper (L : Lists) : Type 0 where
  pub entries : (k : ℕ) → every entry (L k) ≡ true
  pub once : (k : ℕ) → distinct (L k) ≡ true
