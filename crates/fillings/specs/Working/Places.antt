-- Places in a list, one after another.
use Rattle.std.specs.Prelude.{List, [], ◌∷◌, ℕ, zero, suc}

-- n places from i on
unfoldable pub places : ℕ → ℕ → List ℕ
places zero i = []
places (suc n) i = i ∷ places n (suc i)
