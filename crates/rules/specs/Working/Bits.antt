-- Outcomes as the bits of a number. A reader of the promise needs none of this.
use Rattle.std.specs.Prelude.{Bool, cond, List, [], ◌∷◌, ℕ, ◌+◌, ◌*◌}

-- 1 for an outcome that is false
abbrev pub failed_bit : Bool → ℕ
failed_bit b = cond b 0 1

-- the first outcome's bit is the lowest
unfoldable pub failed_bits : List Bool → ℕ
failed_bits [] = 0
failed_bits (b ∷ bs) = failed_bits bs * 2 + failed_bit b
