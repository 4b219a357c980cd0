-- Looking through what is made of a list, and through a list part by part.
use Rattle.std.specs.Prelude.{Bool, cond, List, [], ◌∷◌, ℕ, ◌+◌, length}
use Rattle.fillings.specs.Fillings.{Look, found, none, look}

abbrev pub map_look : {X Y : Type 0} → (X → Y) → Look X → Look Y
map_look h (found n x) = found n (h x)
map_look h (none n) = none n

-- what was found, or what is found after as many as were passed
abbrev pub or_else : {A : Type 0} → Look A → (ℕ → Look A) → Look A
or_else (found n x) k = found n x
or_else (none n) k = k n

-- part by part: of a part that is skipped the members are counted, and none is looked at
unfoldable pub look_by : {A X : Type 0} → (A → Bool) → (X → List A) → (X → Bool) → ℕ → List X → Look A
look_by p part skip n [] = none n
look_by p part skip n (x ∷ xs) =
    cond (skip x) (look_by p part skip (n + length (part x)) xs) (or_else (look p n (part x)) (λ (m : ℕ). look_by p part skip m xs))
