-- Nine digits not beginning 00 are a KPP.
use mathlib.Core.Path.{◌≡◌, refl, ap, sym, ◌∙◌}
use mathlib.Core.Bool.{Bool, true, not, ◌&&◌, ◌||◌, and-true}
use mathlib.Core.List.{List, [], ◌∷◌}
use Prim.Native.Nat.{ℕ, zero, suc, ◌<◌}
use native.Mathlib.Omega.{arith}
use borrow.Author.Tests.{eqb-true, eq-eqb}
use lib.Dec.{eqb}
use lib.ListN.{length, get_or, take, drop, length-drop}
use lib.Seq.{length-take-le}
use Rattle.texts.specs.Quoted.{Text}
use Rattle.texts.specs.Texts.{every, between, starts_with, digit, digits, digits_not_00, ◌begins◌}
use Rattle.texts.proofs.Bools.{both, and2}
use Rattle.sheets.specs.Forms.{digit_or_capital, kpp}

module _ (p : ℕ → Bool) where
  every_take : (n : ℕ) (l : List ℕ) → every p l ≡ true → every p (take n l) ≡ true
  unfolding every
  every_take zero l e = refl
  every_take (suc n) [] e = refl
  every_take (suc n) (x ∷ xs) e = let b = both (p x) (every p xs) e in and2 (p x) (every p (take n xs)) b.0 (every_take n xs b.1)

  every_drop : (n : ℕ) (l : List ℕ) → every p l ≡ true → every p (drop n l) ≡ true
  unfolding every
  every_drop zero l e = e
  every_drop (suc n) [] e = refl
  every_drop (suc n) (x ∷ xs) e = every_drop n xs (both (p x) (every p xs) e).1

  every-place : (l : List ℕ) (i : ℕ) → every p l ≡ true → i < length l → p (get_or l i 0) ≡ true
  unfolding every
  every-place [] i e h = absurd (omega arith)
  every-place (x ∷ xs) zero e h = (both (p x) (every p xs) e).0
  every-place (x ∷ xs) (suc i) e h = every-place xs i (both (p x) (every p xs) e).1 (omega arith)

or_left : (x y : Bool) → x ≡ true → (x || y) ≡ true
or_left x y e = rw e

-- nine digits are digits at every place
unfoldable sides : Text → Bool
sides t = digits 4 (between t 0 4) && ((digit_or_capital (get_or t 4 0) && digit_or_capital (get_or t 5 0)) && digits 3 (between t 6 9))

nine-sides : (t : Text) → digits 9 t ≡ true → sides t ≡ true
unfolding sides between
nine-sides t h =
    let r = both (eqb (length t) 9) (every digit t) h in
    let l = eqb-true (length t) 9 r.0 in
    let a = length-take-le 4 t (omega arith) in
    let b : length (take 3 (drop 6 t)) ≡ 3 = length-take-le 3 (drop 6 t) (omega (arith, length-drop 6 t)) in
    let m4 = or_left (digit (get_or t 4 0)) _ (every-place digit t 4 r.1 (omega arith)) in
    let m5 = or_left (digit (get_or t 5 0)) _ (every-place digit t 5 r.1 (omega arith)) in
    let d = and2 (eqb (length (take 4 t)) 4) (every digit (take 4 t)) (eq-eqb _ _ a) (every_take digit 4 t r.1) in
    let g = and2 (eqb (length (take 3 (drop 6 t))) 3) (every digit (take 3 (drop 6 t))) (eq-eqb _ _ b) (every_take digit 3 (drop 6 t) (every_drop digit 6 t r.1)) in
    and2 _ _ d (and2 _ _ (and2 _ _ m4 m5) g)

between2 : (x y z : Bool) → x ≡ true → z ≡ true → ((x && y) && z) ≡ y
between2 x y z e f = rw (e, f) (and-true y)

-- is_kpp, where the digits are told at once
pub kpp-nine : (t : Text) (b z : Bool) → b ≡ digits 9 t → b ≡ true → z ≡ starts_with t (48 ∷ 48 ∷ []) → not z ≡ kpp t
unfolding sides
kpp-nine t b z e h ez =
    let d = sym e ∙ h in
    ap not ez ∙ sym (between2 (eqb (length t) 9) _ (sides t) (both (eqb (length t) 9) (every digit t) d).0 (nine-sides t d))

-- nine digits not beginning 00 are a KPP
pub kpp-wider : (t : Text) → digits_not_00 9 t ≡ true → kpp t ≡ true
kpp-wider t h =
    let q = both (digits 9 t) (not (t begins "00")) h in
    sym (kpp-nine t (digits 9 t) (t begins "00") refl q.0 refl) ∙ q.1
