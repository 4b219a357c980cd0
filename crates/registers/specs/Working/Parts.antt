-- What the private functions of `pool` promise each other.
use Rattle.std.specs.Prelude.{◌≡◌, List, ℕ, ◌*◌, ◌%◌, ◌≤◌, ◌<◌, length, take, drop, get_or, Option, Some, None}
use Rattle.texts.specs.Numbers.{big}
use Rattle.registers.specs.Register.{line_size, kopecks_size, Line, line_of}

-- line i of a register, counted from 0
abbrev pub line_at : List ℕ → ℕ → Line
line_at t i = line_of (take line_size (drop (i * line_size) t))

-- the number of the eight bytes from place at on
abbrev pub big_at : List ℕ → ℕ → ℕ
big_at t at = big (take kopecks_size (drop at t))

-- r is a place of n among the first `count` of ns, where n is among them
pub record Finds (ns : List ℕ) (count n : ℕ) (r : Option ℕ) : Type 0 where
  pub found : (k : ℕ) → r ≡ Some k → (k < count) × (get_or ns k 0 ≡ n)
  pub missing : r ≡ None → (j : ℕ) → j < count → get_or ns j 0 ≡ n → ⊥

-- the hint of each remainder stands behind all places of numbers with that remainder among the first `count` of ns
pub record Hinted (ns hints : List ℕ) (count : ℕ) : Type 0 where
  pub size : length hints ≡ 2048
  pub within : (d : ℕ) → get_or hints d 0 ≤ count
  pub behind : (j : ℕ) → j < count → j < get_or hints (get_or ns j 0 % 2048) 0
