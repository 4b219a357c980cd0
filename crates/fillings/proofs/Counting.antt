-- How many fillings there are: the product of what each field may hold; and the bits of the set of filled slots.
use mathlib.Core.Path.{◌≡◌, refl, sym, ap, ◌∙◌}
use mathlib.Core.Bool.{Bool, true, false, cond, ◌&&◌}
use mathlib.Core.List.{List, [], ◌∷◌, map, map-map}
use Prim.Native.Nat.{ℕ, zero, suc, ◌+◌, ◌*◌, ◌/◌, ◌%◌, ◌^◌, ◌<◌, ◌≤◌}
use native.Mathlib.Nat.{mul_comm, div-one, div-div-eq-div-mul, suc-mul, add_comm, mul-le-mul, zero-mul, one-mul, pow-suc}
use native.Mathlib.Omega.{arith}
use borrow.Author.Tests.{ltb-true}
use lib.Count.{ones, ones_in, ones_step}
use lib.Dec.{ltb}
use lib.ListN.{length, get_or, length-append, length-map}
use Rattle.texts.specs.Texts.{blank}
use Rattle.sheets.specs.Sheet.{Sheet, cell, cell_of, text_of, slots}
use Rattle.fillings.specs.Fillings.{Lists, to_fill, choices, each, product, joined, width, times, most_fillings, fillings}
use Rattle.fillings.specs.Filled.{set_of, tally, FilledSet}
use Rattle.fillings.proofs.EveryFilling.{at_slots}

-- ---- how many fillings

length-each : {A : Type 0} (c : List A) (rest : List (List A)) → length (each c rest) ≡ length c * length rest
length-each [] rest = sym (zero-mul (length rest))
length-each (x ∷ c) rest = simp (length-append, length-map, length-each c rest, suc-mul) (add_comm _ _)

pub length-product : {A : Type 0} (cs : List (List A)) → length (product cs) ≡ times (map length cs)
length-product [] = refl
length-product (c ∷ cs) = length-each c (product cs) ∙ ap (λ (n : ℕ). length c * n) (length-product cs)

module _ (f g : ℕ → ℕ) where
  times-alike : ((k : ℕ) → f k ≡ g k) → (ks : List ℕ) → times (map f ks) ≡ times (map g ks)
  times-alike e [] = refl
  times-alike e (k ∷ ks) = λ i. e k i * times-alike e ks i

  times-most : ((k : ℕ) → f k ≤ g k) → (ks : List ℕ) → times (map f ks) ≤ times (map g ks)
  times-most h [] = omega arith
  times-most h (k ∷ ks) = mul-le-mul (h k) (times-most h ks)

times-one : (ks : List ℕ) → times (map (λ (k : ℕ). 1) ks) ≡ 1
times-one [] = refl
times-one (k ∷ ks) = one-mul _ ∙ times-one ks

width-most : (a b : Bool) (n : ℕ) → (a ≡ true → 1 ≤ n) → width (a && b) n ≤ width a n
width-most true true n h = omega arith
width-most true false n h = h refl
width-most false b n h = omega arith

module _ (L : Lists) (s : Sheet) where
  pub length-choices : (k : ℕ) → length (choices L s k) ≡ width (to_fill L s k) (length (L k))
  unfolding choices
  length-choices k = go (to_fill L s k)
    where
      go : (b : Bool) → length (cond b (map cell (L k)) (cell_of s k ∷ [])) ≡ width b (length (L k))
      go true = length-map (L k) cell
      go false = refl

  -- the count of all is a product
  pub length-fillings : length (fillings L s) ≡ times (map (λ (k : ℕ). width (to_fill L s k) (length (L k))) slots)
  unfolding fillings
  length-fillings =
      length-map (product (map (choices L s) slots)) joined
      ∙ length-product (map (choices L s) slots)
      ∙ ap times (map-map length (choices L s) slots)
      ∙ times-alike (λ (k : ℕ). length (choices L s k)) (λ (k : ℕ). width (to_fill L s k) (length (L k))) length-choices slots

  pub fillings-most : length (fillings L s) ≤ most_fillings L
  unfolding to_fill
  fillings-most =
      rw length-fillings
      (times-most (λ (k : ℕ). width (to_fill L s k) (length (L k))) (λ (k : ℕ). width (ltb 0 (length (L k))) (length (L k)))
      (λ k. width-most (ltb 0 (length (L k))) (blank (text_of s k)) (length (L k)) (ltb-true 0 (length (L k)))) slots)

  pub fillings-one : ((k : ℕ) → to_fill L s k ≡ false) → length (fillings L s) ≡ 1
  fillings-one h =
      length-fillings
      ∙ times-alike (λ (k : ℕ). width (to_fill L s k) (length (L k))) (λ (k : ℕ). 1) (λ k. ap (λ (b : Bool). width b (length (L k))) (h k)) slots
      ∙ times-one slots

-- ---- the set

abbrev bit : Bool → ℕ
bit b = cond b 1 0

-- a bit in front of a number, taken apart
bit-front : (b : Bool) (m : ℕ) → ((m * 2 + bit b) % 2 ≡ bit b) × ((m * 2 + bit b) / 2 ≡ m)
bit-front true m = (omega arith, omega arith)
bit-front false m = (omega arith, omega arith)

-- the number whose bits are what some slots pass, the first slot's the lowest
module _ (p : ℕ → Bool) where
  sums : List ℕ → ℕ
  sums [] = 0
  sums (k ∷ ks) = sums ks * 2 + bit (p k)

  sums-below : (ks : List ℕ) → sums ks < 2 ^ length ks
  unfolding sums
  sums-below [] = omega arith
  sums-below (k ∷ ks) = rw pow-suc (omega (arith, sums-below ks, (bit-front (p k) (sums ks)).0))

  sums-ones : (ks : List ℕ) → ones (sums ks) ≡ tally p ks
  unfolding sums ones ones_in
  sums-ones [] = refl
  sums-ones (k ∷ ks) = ones_step (sums ks * 2 + bit (p k)) ∙ rw ((bit-front (p k) (sums ks)).0, (bit-front (p k) (sums ks)).1, sums-ones ks)

  sums-bit : (ks : List ℕ) (i : ℕ) → i < length ks → sums ks / 2 ^ i % 2 ≡ bit (p (get_or ks i 0))
  unfolding sums
  sums-bit [] i h = absurd (omega arith)
  sums-bit (k ∷ ks) zero h = rw div-one (bit-front (p k) (sums ks)).0
  sums-bit (k ∷ ks) (suc i) h = rw (pow-suc, mul_comm (2 ^ i) 2, ← div-div-eq-div-mul, (bit-front (p k) (sums ks)).1) (sums-bit ks i (omega arith))

module _ (L : Lists) (s : Sheet) where
  set-sums : set_of L s ≡ sums (to_fill L s) slots
  unfolding set_of sums
  set-sums =
      let b : (k m : ℕ) → cond (to_fill L s k) m 0 ≡ bit (to_fill L s k) * m = λ k m. weighed (to_fill L s k) m in
      omega (arith, b 0 1, b 1 2, b 2 4, b 3 8, b 4 16, b 5 32, b 6 64, b 7 128, b 8 256, b 9 512, b 10 1024, b 11 2048, b 12 4096, b 13 8192, b 14 16384)
    where
      weighed : (x : Bool) (m : ℕ) → cond x m 0 ≡ bit x * m
      weighed true m = sym (one-mul m)
      weighed false m = sym (zero-mul m)

  pub filled-set : FilledSet L s (set_of L s) (ones (set_of L s))
  filled-set = record {
    bit = λ i h. rw set-sums (sums-bit (to_fill L s) slots i h ∙ ap (λ (k : ℕ). bit (to_fill L s k)) (at_slots (λ (k : ℕ). k) 0 i h));
    below = rw set-sums (sums-below (to_fill L s) slots);
    ones = ap ones set-sums ∙ sums-ones (to_fill L s) slots;
  }
