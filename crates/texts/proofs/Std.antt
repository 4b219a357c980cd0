-- This repository's words for lists in those of std, which the contracts of its methods use.
use Rattle.std.proofs.Common.{◌≡◌, refl, ap, sym, ◌∙◌, Bool, ◌&&◌, ◌||◌, List, [], ◌∷◌, ℕ, length, take, ◌-◌}
use Rattle.std.specs.List.{list_all, list_any}
use Rattle.std.specs.Cmp.Lexicographic.{pointwise}
use borrow.Author.Tests.{eqb-true, eq-eqb}
use native.Mathlib.Omega.{arith}
use lib.Dec.{eqb}
use Rattle.texts.proofs.Bools.{alike}
use Rattle.texts.specs.Texts.{every, any, same, between, starts_with}

module _ {A : Type 0} (p : A → Bool) where
  pub every-list_all : (t : List A) → list_all p t ≡ every p t
  unfolding every
  every-list_all [] = refl
  every-list_all (x ∷ xs) = ap (λ (b : Bool). p x && b) (every-list_all xs)

  pub any-list_any : (t : List A) → list_any p t ≡ any p t
  unfolding any
  any-list_any [] = refl
  any-list_any (x ∷ xs) = ap (λ (b : Bool). p x || b) (any-list_any xs)

pub same_pointwise : (t u : List ℕ) → pointwise eqb t u ≡ same t u
unfolding same
same_pointwise [] [] = refl
same_pointwise [] (y ∷ ys) = refl
same_pointwise (x ∷ xs) [] = refl
same_pointwise (x ∷ xs) (y ∷ ys) = ap (λ (b : Bool). eqb x y && b) (same_pointwise xs ys)

eqb_turned : (x y : ℕ) → eqb x y ≡ eqb y x
eqb_turned x y = alike (eqb x y) (eqb y x) (λ e. eq-eqb y x (sym (eqb-true x y e))) (λ e. eq-eqb x y (sym (eqb-true y x e)))

-- the text that begins stands first there, and second here
same_turned : (t u : List ℕ) → same t u ≡ same u t
unfolding same
same_turned [] [] = refl
same_turned [] (y ∷ ys) = refl
same_turned (x ∷ xs) [] = refl
same_turned (x ∷ xs) (y ∷ ys) = rw (eqb_turned x y, same_turned xs ys)

pub begins_pointwise : (t u : List ℕ) → pointwise eqb u (take (length u) t) ≡ starts_with t u
unfolding between
begins_pointwise t u =
    let k : length u - 0 ≡ length u = omega arith in
    same_pointwise u (take (length u) t) ∙ same_turned u (take (length u) t) ∙ rw k
