-- Big-endian numbers of any width.
use Rattle.std.specs.Prelude.{List, [], ◌∷◌, ℕ, zero, suc, ◌+◌, ◌*◌, ◌/◌, ◌%◌, ◌<◌, get_or}

-- a byte string: every element is below 256
abbrev pub Bytes : List ℕ → Type 0
Bytes t = (j : ℕ) → get_or t j 0 < 256

-- the number that bytes make, the highest first; and after bytes that make n
abbrev pub big_from : ℕ → List ℕ → ℕ
big_from n [] = n
big_from n (b ∷ bs) = big_from (n * 256 + b) bs

abbrev pub big : List ℕ → ℕ
big [] = 0
big (b ∷ bs) = big_from b bs

-- the k lowest bytes of n, the highest first; and bs behind them
abbrev pub bytes_before : ℕ → ℕ → List ℕ → List ℕ
bytes_before zero n bs = bs
bytes_before (suc k) n bs = bytes_before k (n / 256) (n % 256 ∷ bs)

abbrev pub bytes_of : ℕ → ℕ → List ℕ
bytes_of k n = bytes_before k n []

-- the k bytes of t from place i on, 0 past its end
abbrev pub bytes_at : List ℕ → ℕ → ℕ → List ℕ
bytes_at t i zero = []
bytes_at t i (suc k) = get_or t i 0 ∷ bytes_at t (suc i) k
