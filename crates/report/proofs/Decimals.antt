-- A number's digits: how many there are, that they are std's, and that they make the number.
use mathlib.Core.Path.{◌≡◌, refl, sym, ap, ◌∙◌}
use mathlib.Core.Bool.{true}
use mathlib.Core.List.{List, [], ◌∷◌, ◌++◌, append_assoc}
use Prim.Native.Nat.{ℕ, zero, suc, ◌+◌, ◌-◌, ◌*◌, ◌^◌, ◌/◌, ◌%◌, ◌<◌, ◌≤◌}
use native.Mathlib.Decide.{dec_le}
use native.Mathlib.Omega.{arith}
use borrow.Author.Tests.{lt-ltb, le-ltb, le-leb}
use lib.ListN.{length, get_or, drop, set, length-append}
use Rattle.std.specs.Fmt.{decimal as printed}
use Rattle.std.proofs.lemmas.Fmt.{decimal_from_appends_wide, decimal_by_steps_wide, length-decimal-le_wide}
use Rattle.texts.specs.Texts.{every, digit, value_of, value}
use Rattle.texts.proofs.Every.{every_append}
use Rattle.report.specs.Lines.{decimal_in, decimal, IsDecimal}

drop-set : (l : List ℕ) (k x : ℕ) → k < length l → drop k (set l k x) ≡ x ∷ drop (suc k) l
drop-set [] k x h = absurd (omega arith)
drop-set (y ∷ ys) zero x h = refl
drop-set (y ∷ ys) (suc k) x h = drop-set ys k x (omega arith)

small : (n : ℕ) → n < 10 → n % 10 ≡ n
small n h = omega arith

-- the digits from place f on are found, and rest is the number before them
module _ (n rest : ℕ) (ds : List ℕ) (l : length ds ≡ 20) where
  pub digits-all : (f : ℕ) → f ≤ 0 → decimal n ≡ decimal_in f rest ++ drop f ds → drop f ds ≡ decimal n
  unfolding decimal_in
  digits-all zero z e = sym e
  digits-all (suc k) z e = absurd (omega arith)

  pub digit-last : (f : ℕ) → 0 < f → f ≤ 20 → rest < 10 → decimal n ≡ decimal_in f rest ++ drop f ds → drop (f - 1) (set ds (f - 1) (48 + rest % 10)) ≡ decimal n
  unfolding decimal_in
  digit-last zero p q h e = absurd (omega arith)
  digit-last (suc k) p q h e =
      let z : suc k - 1 ≡ k = omega arith in
      rw z (drop-set ds k (48 + rest % 10) (omega arith) ∙ rw (small rest h) (sym (e ∙ rw (lt-ltb rest 10 h))))

  pub digit-more : (f : ℕ) → 0 < f → f ≤ 20 → 10 ≤ rest → decimal n ≡ decimal_in f rest ++ drop f ds
      → decimal n ≡ decimal_in (f - 1) (rest / 10) ++ drop (f - 1) (set ds (f - 1) (48 + rest % 10))
  unfolding decimal_in
  digit-more zero p q h e = absurd (omega arith)
  digit-more (suc k) p q h e =
      let z : suc k - 1 ≡ k = omega arith in
      e
      ∙ rw (le-ltb rest 10 h, z)
      (append_assoc (decimal_in k (rest / 10)) ((48 + rest % 10) ∷ []) (drop (suc k) ds)
      ∙ ap (λ (t : List ℕ). decimal_in k (rest / 10) ++ t) (sym (drop-set ds k (48 + rest % 10) (omega arith))))

-- a digit more for a number ten times as high
short-step : (k n p : ℕ) → (10 ≤ n → length (decimal_in k (n / 10)) ≤ p) → length (decimal_in (suc k) n) ≤ suc p
unfolding decimal_in
short-step k n p h =
    elim (dec_le 10 n) [
      | yes l ↦ rw (le-ltb n 10 l, length-append (decimal_in k (n / 10)) ((48 + n % 10) ∷ [])) (omega (arith, h l))
      | no q ↦ rw (lt-ltb n 10 (omega arith)) (omega arith)
    ]

within : (k n : ℕ) → length (decimal_in k n) ≤ k
unfolding decimal_in
within zero n = omega arith
within (suc k) n = short-step k n k (λ h. within k (n / 10))

pub decimal-within : (n : ℕ) → length (decimal n) ≤ 20
unfolding decimal
decimal-within n = within 20 n

-- ---- the same digits as std's

step-one : (k n : ℕ) → n < 10 → decimal_in (suc k) n ≡ (48 + n) ∷ []
unfolding decimal_in
step-one k n h = rw (lt-ltb n 10 h) refl

step-more : (k n : ℕ) → 10 ≤ n → decimal_in (suc k) n ≡ decimal_in k (n / 10) ++ ((48 + n % 10) ∷ [])
unfolding decimal_in
step-more k n h = rw (le-ltb n 10 h) refl

pub decimal_std : (n : ℕ) → n < 10 ^ 20 → decimal n ≡ printed n
unfolding decimal
decimal_std n h =
    decimal_from_appends_wide decimal_in (record { one = step-one; more = step-more }) 20 n (omega arith) (length-decimal-le_wide 20 n (omega arith) h (omega arith))

pub decimal-short : (n : ℕ) → n < 10000 → length (decimal n) ≤ 4
decimal-short n h = omega (arith, ap length (decimal_std n (omega arith)), length-decimal-le_wide 4 n (omega arith) h (omega arith))

-- ---- the digits make the number

value-last : (a x : ℕ) (t : List ℕ) → value a (t ++ (x ∷ [])) ≡ value a t * 10 + value_of x
unfolding value
value-last a x [] = refl
value-last a x (y ∷ t) = value-last (a * 10 + value_of y) x t

no_value : value 0 (48 ∷ []) ≡ 0
unfolding value value_of
no_value = refl

front-append : (t u : List ℕ) → 0 < length t → get_or (t ++ u) 0 0 ≡ get_or t 0 0
front-append [] u h = absurd (omega arith)
front-append (x ∷ t) u h = refl

module _ (m : ℕ) (h : m < 10) where
  digit-is : digit (48 + m) ≡ true
  digit-is = rw (le-leb 48 (48 + m) (omega arith), le-leb (48 + m) 57 (omega arith))

  digit_value : value_of (48 + m) ≡ m
  unfolding value_of
  digit_value = rw digit-is (omega arith)

one-digit : (n : ℕ) → n < 10 → IsDecimal n ((48 + n) ∷ [])
unfolding every value
one-digit n h = record {
  some = omega arith;
  digits = rw (digit-is n h);
  makes = omega (arith, digit_value n h);
  front = λ e. ap (λ (x : ℕ). x ∷ []) e;
}

more-digits : (n : ℕ) (t : List ℕ) → 10 ≤ n → IsDecimal (n / 10) t → IsDecimal n (t ++ ((48 + n % 10) ∷ []))
unfolding every value
more-digits n t h T =
    let x = 48 + n % 10 in
    let m : n % 10 < 10 = omega arith in
    record {
      some = omega (arith, length-append t (x ∷ []), T.some);
      digits = sym (every_append digit t (x ∷ [])) ∙ rw (T.digits, digit-is (n % 10) m);
      makes = value-last 0 x t ∙ rw (T.makes, digit_value (n % 10) m) (omega arith);
      front =
          λ e.
          let z : value 0 t ≡ 0 = ap (value 0) (T.front (sym (front-append t (x ∷ []) T.some) ∙ e)) ∙ no_value in
          absurd (omega (arith, T.makes));
    }

pub decimal-is : (n : ℕ) → n < 10 ^ 20 → IsDecimal n (decimal n)
decimal-is n h = rw (decimal_std n h) (decimal_by_steps_wide IsDecimal one-digit more-digits n (omega arith))
