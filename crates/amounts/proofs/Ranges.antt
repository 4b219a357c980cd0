-- The one test that refuses, and the range of an amount and of a year's length, taken apart.
use mathlib.Core.Path.{◌≡◌, refl, sym}
use mathlib.Core.Bool.{Bool, true, false, not, ◌||◌}
use mathlib.Core.List.{List, [], ◌∷◌}
use mathlib.Core.Logic.{◌⊎◌, inl, inr}
use Prim.Native.Nat.{ℕ, ◌≤◌, ◌<◌}
use native.Mathlib.Omega.{arith}
use borrow.Author.Tests.{leb-true, le-leb, eqb-true}
use lib.Dec.{leb, eqb}
use Rattle.texts.specs.Answers.{refusal, number_of, ◌refuses◌, answer_by}
use Rattle.texts.proofs.Bools.{both, and2}
use Rattle.texts.proofs.Refusals.{no-success}
use Rattle.amounts.specs.Amount.{most_kopecks, is_amount}
use Rattle.amounts.specs.Part.{is_year}

pub sole : (b : Bool) (k n : ℕ) (ws vs : List ℕ) → answer_by ((not b refuses k) ∷ []) ws ≡ refusal n vs → (n ≡ k) × (b ≡ false)
sole true k n ws vs e = absurd (no-success n vs ws (sym e))
sole false k n ws vs e = let y : n ≡ k = cc in (y, refl)

pub no_number : (b : Bool) (k : ℕ) (ws : List ℕ) → (k ≡ 0 → ⊥) → number_of (answer_by ((not b refuses k) ∷ []) ws) ≡ 0 → b ≡ true
no_number true k ws h e = refl
no_number false k ws h e = absurd (h e)

pub amount-is : (a : ℕ) → is_amount a ≡ true → (1 ≤ a) × (a ≤ most_kopecks)
amount-is a e = let q = both (leb 1 a) (leb a most_kopecks) e in (leb-true 1 a q.0, leb-true a most_kopecks q.1)

pub is-amount : (a : ℕ) → 1 ≤ a → a ≤ most_kopecks → is_amount a ≡ true
is-amount a h k = and2 (leb 1 a) (leb a most_kopecks) (le-leb 1 a h) (le-leb a most_kopecks k)

pub one_of : (b c : Bool) → (b || c) ≡ true → (b ≡ true) ⊎ (c ≡ true)
one_of true c e = inl refl
one_of false c e = inr e

pub year-is : (y : ℕ) → is_year y ≡ true → (y ≡ 365) ⊎ (y ≡ 366)
year-is y e = go (one_of (eqb y 365) (eqb y 366) e)
  where
    go : (eqb y 365 ≡ true) ⊎ (eqb y 366 ≡ true) → (y ≡ 365) ⊎ (y ≡ 366)
    go (inl h) = inl (eqb-true y 365 h)
    go (inr h) = inr (eqb-true y 366 h)

pub is-year : (y : ℕ) → (y ≡ 365) ⊎ (y ≡ 366) → is_year y ≡ true
is-year y (inl e) = rw e
is-year y (inr e) = rw e

pub year-bound : (y : ℕ) → (y ≡ 365) ⊎ (y ≡ 366) → (0 < y) × (y ≤ 366)
year-bound y (inl e) = (omega (arith, e), omega (arith, e))
year-bound y (inr e) = (omega (arith, e), omega (arith, e))
