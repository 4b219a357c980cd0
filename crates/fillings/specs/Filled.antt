-- The set of the filled slots (document 01, "Completion").
use Rattle.std.specs.Prelude.{◌≡◌, Bool, cond, List, [], ◌∷◌, ℕ, ◌+◌, ◌/◌, ◌%◌, ◌^◌, ◌<◌}
use Rattle.sheets.specs.Sheet.{Sheet, slots, slot_count}
use Rattle.fillings.specs.Fillings.{Lists, to_fill}

-- "a 16-bit set of the filled slots (bit i for slot i)"
abbrev pub bits : Lists → Sheet → List ℕ → ℕ
bits L s [] = 0
bits L s (k ∷ ks) = cond (to_fill L s k) (2 ^ k) 0 + bits L s ks

unfoldable pub set_of : Lists → Sheet → ℕ
set_of L s = bits L s slots

-- how many of a list pass a test
abbrev pub tally : {A : Type 0} → (A → Bool) → List A → ℕ
tally p [] = 0
tally p (x ∷ xs) = cond (p x) 1 0 + tally p xs

-- "a 16-bit set of the filled slots (bit i for slot i), and how many bits are set": bit i is 1 exactly if slot i is blank and has a list
pub record FilledSet (L : Lists) (s : Sheet) (set k : ℕ) : Type 0 where
  pub bit : (i : ℕ) → i < slot_count → set / 2 ^ i % 2 ≡ cond (to_fill L s i) 1 0
  pub below : set < 2 ^ slot_count
  pub ones : k ≡ tally (to_fill L s) slots
