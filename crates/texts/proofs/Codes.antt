-- A text of n digits is one of some exactly if its number is one of theirs: one law for every width.
use mathlib.Core.Path.{◌≡◌, refl, sym, ◌∙◌}
use mathlib.Core.Bool.{Bool, true, false, not, ◌&&◌, true≢false}
use mathlib.Core.List.{List, [], ◌∷◌, map}
use Prim.Native.Nat.{ℕ, suc, ◌+◌, ◌-◌, ◌*◌, ◌^◌, ◌≤◌, ◌<◌}
use native.Mathlib.Nat.{add-zero, zero-add}
use Prim.Native.String.{String}
use native.Mathlib.Omega.{arith}
use borrow.Author.Tests.{eqb-true, eq-eqb, ne_eqb, leb-true, not-true}
use lib.Dec.{eqb, leb}
use lib.ListN.{length}
use Rattle.texts.proofs.Bools.{both, alike}
use Rattle.texts.specs.Quoted.{Text, bytes, words}
use Rattle.texts.specs.Texts.{every, any, are, among, same, between, starts_with, digit, digits, value_of, value, number, ◌begins◌, ◌is_one_of◌, ◌begins_one_of◌}

pub same_true : (t u : Text) → same t u ≡ true → t ≡ u
unfolding same
same_true [] [] e = refl
same_true [] (y ∷ ys) e = cc
same_true (x ∷ xs) [] e = cc
same_true (x ∷ xs) (y ∷ ys) e =
    let p = both (eqb x y) (same xs ys) e in
    cc (eqb-true x y p.0, same_true xs ys p.1)

pub same_self : (t : Text) → same t t ≡ true
unfolding same
same_self [] = refl
same_self (x ∷ xs) = cc (eq-eqb x x refl, same_self xs)

-- a digit is its value
pub digit_value : (b : ℕ) → digit b ≡ true → (b ≡ 48 + value_of b) × (value_of b ≤ 9)
unfolding value_of
digit_value b e =
    let p = both (leb 48 b) (leb b 57) e in
    let h = leb-true 48 b p.0 in
    let k = leb-true b 57 p.1 in
    let v : value_of b ≡ b - 48 = cc in
    (omega arith, omega arith)

-- digits after equal numbers make equal numbers only if they are the same
value_same : (a b : ℕ) (t u : Text) → length t ≡ length u → every digit t ≡ true → every digit u ≡ true → value a t ≡ value b u → (a ≡ b) × (t ≡ u)
unfolding every value
value_same a b [] [] l dt du e = (e, refl)
value_same a b [] (y ∷ ys) l dt du e = absurd (omega arith)
value_same a b (x ∷ xs) [] l dt du e = absurd (omega arith)
value_same a b (x ∷ xs) (y ∷ ys) l dt du e =
    let p = both (digit x) (every digit xs) dt in
    let q = both (digit y) (every digit ys) du in
    let r = value_same (a * 10 + value_of x) (b * 10 + value_of y) xs ys (omega arith) p.1 q.1 e in
    let v = digit_value x p.0 in
    let w = digit_value y q.0 in
    let f : x ≡ y = omega arith in
    let g = r.1 in
    (omega arith, cc)

-- u is n digits, and its number is not the one that stands for none
abbrev pub coded : ℕ → Text → Bool
coded n u = digits n u && not (eqb (number n u) (10 ^ n))

-- digits after a number below 10 ^ k
value-below : (k a : ℕ) (t : Text) → every digit t ≡ true → a < 10 ^ k → value a t < 10 ^ (length t + k)
unfolding every value
value-below k a [] d h = rw (zero-add k) h
value-below k a (x ∷ xs) d h =
    let p = both (digit x) (every digit xs) d in
    let l : length xs + suc k ≡ suc (length xs) + k = omega arith in
    rw (← l) (value-below (suc k) (a * 10 + value_of x) xs p.1 (omega (arith, (digit_value x p.0).1)))

-- every n digits are such a text
pub digits-coded : (n : ℕ) (u : Text) → digits n u ≡ true → coded n u ≡ true
unfolding number
digits-coded n u d =
    let p = both (eqb (length u) n) (every digit u) d in
    let b : value 0 u < 10 ^ n = rw (← (eqb-true (length u) n p.0), ← (add-zero (length u))) (value-below 0 0 u p.1 (omega arith)) in
    rw (d, ne_eqb (value 0 u) (10 ^ n) (λ e. omega arith))

module _ (n : ℕ) (t u : Text) (c : coded n u ≡ true) where
  -- the number of n digits is that of no other text; d tells whether t is n digits
  one-text : (d : Bool) → digits n t ≡ d → number n u ≡ number n t → t ≡ u
  unfolding number
  one-text true hd e =
      let hu = (both (digits n u) (not (eqb (number n u) (10 ^ n))) c).0 in
      let p = both (eqb (length t) n) (every digit t) hd in
      let q = both (eqb (length u) n) (every digit u) hu in
      let l = eqb-true (length t) n p.0 in
      let m = eqb-true (length u) n q.0 in
      (value_same 0 0 t u (omega arith) p.1 q.1 (cc)).1
  one-text false hd e =
      let hn = not-true (eqb (number n u) (10 ^ n)) (both (digits n u) (not (eqb (number n u) (10 ^ n))) c).1 in
      absurd (true≢false (sym (eq-eqb (number n u) (10 ^ n) cc) ∙ hn))

  pub is_number : same t u ≡ eqb (number n u) (number n t)
  is_number =
      alike (same t u) (eqb (number n u) (number n t)) (λ s. eq-eqb (number n u) (number n t) (cc (same_true t u s)))
      (λ e. cc (one-text (digits n t) refl (eqb-true (number n u) (number n t) e), same_self t))

-- where t begins with u, its first n bytes are u
begins-number : (n : ℕ) (t u : Text) → coded n u ≡ true → starts_with t u ≡ eqb (number n u) (number n (between t 0 n))
begins-number n t u c =
    let p = both (digits n u) (not (eqb (number n u) (10 ^ n))) c in
    let q = both (eqb (length u) n) (every digit u) p.0 in
    cc (eqb-true (length u) n q.0, is_number n (between t 0 n) u c)

-- where p asks whether the number is k, one of some texts passes p exactly if k is one of their numbers
one_of : (n k : ℕ) (p : Text → Bool) → ((u : Text) → coded n u ≡ true → p u ≡ eqb (number n u) k) → (us : List Text) → every (coded n) us ≡ true
    → any p us ≡ any (are k) (map (number n) us)
unfolding every any are
one_of n k p f [] c = refl
one_of n k p f (u ∷ us) c =
    let q = both (coded n u) (every (coded n) us) c in
    cc (f u q.0, one_of n k p f us q.1)

-- the same of quoted texts: the code asks for the number, the paper for the text
module _ (n : ℕ) (t : Text) (q : String) (c : every (coded n) (words q) ≡ true) where
  pub is-one-of : among (number n t) (map (number n) (words q)) ≡ (t is_one_of q)
  unfolding among ◌is_one_of◌
  is-one-of = sym (one_of n (number n t) (same t) (is_number n t) (words q) c)

  pub begins-one-of : among (number n (between t 0 n)) (map (number n) (words q)) ≡ (t begins_one_of q)
  unfolding among ◌begins_one_of◌
  begins-one-of = sym (one_of n (number n (between t 0 n)) (starts_with t) (begins-number n t) (words q) c)

pub begins-this : (n : ℕ) (t : Text) (q : String) → coded n (bytes q) ≡ true → eqb (number n (bytes q)) (number n (between t 0 n)) ≡ (t begins q)
begins-this n t q c = sym (begins-number n t (bytes q) c)
