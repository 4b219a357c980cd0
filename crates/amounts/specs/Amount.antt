-- The range of an amount (R-10, "Amounts as in R-10" in R-11).
use Rattle.std.specs.Prelude.{Bool, ◌&&◌, ℕ, leb}

-- 10^12
abbrev pub most_kopecks : ℕ
most_kopecks = 1000000000000

-- "an amount of 1 to 10^12 kopecks"
abbrev pub is_amount : ℕ → Bool
is_amount n = leb 1 n && leb n most_kopecks
