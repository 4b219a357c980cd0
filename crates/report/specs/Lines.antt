-- Lines of items (document 01, "Writer and program").
use Rattle.std.specs.Prelude.{◌≡◌, true, cond, List, [], ◌∷◌, ◌++◌, ℕ, zero, suc, ◌+◌, ◌/◌, ◌%◌, ◌<◌, ltb, length, get_or}
use Rattle.texts.specs.Quoted.{Text, bytes}
use Rattle.texts.specs.Texts.{every, digit, value}

-- the last k digits of a number at most, without zeros in front
unfoldable pub decimal_in : ℕ → ℕ → Text
decimal_in zero n = []
decimal_in (suc k) n = cond (ltb n 10) ((48 + n) ∷ []) (decimal_in k (n / 10) ++ ((48 + n % 10) ∷ []))

-- a number of 64 bits has at most 20 digits
unfoldable pub decimal : ℕ → Text
decimal n = decimal_in 20 n

-- t is the number n in decimal: one digit at least, none but digits, which make n, and no zero in front of others
pub record IsDecimal (n : ℕ) (t : Text) : Type 0 where
  pub some : 0 < length t
  pub digits : every digit t ≡ true
  pub makes : value 0 t ≡ n
  pub front : get_or t 0 0 ≡ 48 → t ≡ bytes "0"

abbrev pub space : ℕ
space = 32

abbrev pub newline : ℕ
newline = 10

-- an item and the byte after it
unfoldable pub item : Text → ℕ → Text
item t b = t ++ (b ∷ [])

-- "Items on a line are parted by one space"
abbrev pub line : Text → List Text → Text
line t [] = item t newline
line t (u ∷ us) = item t space ++ line u us
