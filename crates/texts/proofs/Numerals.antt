-- Texts of digits and their numbers.
use mathlib.Core.Path.{◌≡◌, refl, ap, sym, ◌∙◌, subst}
use mathlib.Core.Bool.{Bool, true, false, not, ◌&&◌}
use mathlib.Core.List.{List, [], ◌∷◌}
use Prim.Native.Nat.{ℕ, zero, suc, ◌+◌, ◌*◌, ◌^◌, ◌≤◌, ◌<◌}
use native.Mathlib.Omega.{arith}
use borrow.Author.Tests.{eqb-true, not-true, not-false}
use borrow.Author.Rules.{rules}
use lib.Dec.{eqb}
use lib.ListN.{length, get_or, drop, drop_of_length-le, length-take}
use lib.Pow.{pow-add}
use native.Mathlib.Nat.{mul-le-mul, pow-le-pow_right}
use lib.Seq.{drop-cons, drop-nil}
use native.Mathlib.Numerals.{add-one}
use Rattle.texts.proofs.Bools.{both}
use Rattle.texts.specs.Texts.{every, between, digit, digits, value_of, value, number, weighted}

-- ---- the digit tests of the code

-- digits (d) that are not something else (c), as in digits_not_zero and digits_not_00; b is what the code found for d
module _ (b c d : Bool) (e : b ≡ d) where
  pub but-other : not b ≡ true → false ≡ (d && not c)
  but-other h = cc (not-true b h)

  pub but-these : (a : Bool) → not b ≡ false → a ≡ c → not a ≡ (d && not c)
  but-these a h f = cc (not-false b h)

pub number-other : (t : List ℕ) (n z : ℕ) (b : Bool) → b ≡ digits n t → not b ≡ true → z ≡ 10 ^ n → z ≡ number n t
unfolding number
number-other t n z b e h f = cc (not-true b h)

-- ---- value_of: what the digits up to i make, and what is left from i

module _ (t : List ℕ) (i n : ℕ) (s : length t ≤ 18) (l : n < 10 ^ i) (h : i < length t) where
  -- so many digits fit 64 bits
  pub value-adds : (m : ℕ) → m ≤ 9 → n * 10 + m < 2 ^ 64
  value-adds m k =
      let q : i ≤ 17 = omega arith in
      let p : 10 ^ i ≤ 10 ^ 17 = pow-le-pow_right (omega arith) q in
      omega arith

  pub value-shifts : n * 10 < 2 ^ 64
  value-shifts = omega (arith, value-adds 0 (omega arith))

  pub value-more : (x m : ℕ) → value 0 t ≡ value n (drop i t) → (x ≡ value_of (get_or t i 0)) × (x ≤ 9) → m ≡ x
      → (value 0 t ≡ value (n * 10 + m) (drop (i + 1) t)) × (n * 10 + m < 10 ^ (i + 1))
  unfolding value
  value-more x m e v w = (e ∙ rw (add-one, drop-cons t i 0, w, v.0), rw (pow-add 10 i 1) (omega (arith, v.1)))

pub value-done : (t : List ℕ) (i n : ℕ) → value 0 t ≡ value n (drop i t) → n < 10 ^ i → i ≤ length t → length t ≤ i → (n ≡ value 0 t) × (n < 10 ^ length t)
unfolding value
value-done t i n e l h k =
    let f : i ≡ length t = omega arith in
    (sym (e ∙ rw (drop_of_length-le t k)), subst (λ (j : ℕ). n < 10 ^ j) f l)

-- ---- number

module _ (t : List ℕ) (n : ℕ) (b : Bool) (e : b ≡ digits n t) (h : not b ≡ false) where
  pub digits-sized : length t ≡ n
  digits-sized = eqb-true (length t) n (both (eqb (length t) n) (every digit t) (sym e ∙ not-false b h)).0

  pub digits-short : n ≤ 18 → length t ≤ 18
  digits-short k = omega (arith, digits-sized)

  pub number_is : (r : ℕ) → (r ≡ value 0 t) × (r < 10 ^ length t) → r ≡ number n t
  unfolding number
  number_is r v = cc (not-false b h, v.0)

  pub number-below : (r : ℕ) → (r ≡ value 0 t) × (r < 10 ^ length t) → r < 10 ^ n
  number-below r v = subst (λ (j : ℕ). r < 10 ^ j) digits-sized v.1

-- ---- weigh

pub weigh-fits : (w y : ℕ) → w ≤ 255 → y ≤ 9 → w * y ≤ 2295
weigh-fits w y h k = mul-le-mul h k

-- ---- weighted_sum: the sum up to i, and what is left from i

pub weights-short : (w l : List ℕ) → w ≡ between l 0 25 → length w ≤ 25
unfolding between
weights-short w l e = rw (e, length-take 25 l) (omega arith)

weighted-step : (ws t : List ℕ) (i : ℕ) → i < length ws → weighted (drop i ws) (drop i t) ≡ get_or ws i 0 * value_of (get_or t i 0) + weighted (drop (suc i) ws) (drop (suc i) t)
unfolding weighted value_of
weighted-step [] t i h = absurd (omega arith)
weighted-step (w ∷ []) [] zero h = omega arith
weighted-step (w ∷ v ∷ ws) [] zero h = omega arith
weighted-step (w ∷ ws) (x ∷ xs) zero h = refl
weighted-step (w ∷ ws) [] (suc i) h = ap (weighted (drop i ws)) (sym (drop-nil i)) ∙ weighted-step ws [] i (omega arith)
weighted-step (w ∷ ws) (x ∷ xs) (suc i) h = weighted-step ws xs i (omega arith)

module _ (ws t : List ℕ) (i s : ℕ) (e : weighted ws t ≡ s + weighted (drop i ws) (drop i t)) where
  pub weighted-more : (b y : ℕ) → i < length ws → b ≡ get_or t i 0 → y ≡ get_or ws i 0 * value_of b → weighted ws t ≡ s + y + weighted (drop (i + 1) ws) (drop (i + 1) t)
  weighted-more b y h eb ey = rw (add-one, ey, eb) (omega (arith, weighted-step ws t i h))

  pub weighted-done : length ws ≤ i → s ≡ weighted ws t
  unfolding weighted
  weighted-done h = sym (e ∙ rw (drop_of_length-le ws h) (omega arith))

pub ruleset numerals =
    (rules, but-other, but-these, number-other, digits-short, number_is, number-below)
