-- What the arms of a `match` on a number know.
use mathlib.Core.Path.{◌≡◌, ap, sym, ◌∙◌}
use mathlib.Core.Logic.{◌⊎◌, inl, inr, ⊎_elim}
use mathlib.Core.Bool.{false}
use mathlib.Core.List.{List, [], ◌∷◌}
use Prim.Native.Nat.{ℕ}
use borrow.Author.Tests.{ne_eqb}
use Rattle.texts.specs.Texts.{any, are, among}

-- x is k or one of ks, as an arm `k | .. =>` knows it
abbrev pub AnyOf : ℕ → ℕ → List ℕ → Type 0
AnyOf x k [] = x ≡ k
AnyOf x k (l ∷ ls) = (x ≡ k) ⊎ AnyOf x l ls

-- f is v at k and at each of ks
abbrev pub Each : {X : Type 0} → (ℕ → X) → X → ℕ → List ℕ → Type 0
Each f v k [] = v ≡ f k
Each f v k (l ∷ ls) = (v ≡ f k) × Each f v l ls

-- what holds at each of an arm's numbers holds in the arm
pub arm : {X : Type 0} (f : ℕ → X) (v : X) (x k : ℕ) (ks : List ℕ) → Each f v k ks → AnyOf x k ks → v ≡ f x
arm f v x k [] e a = e ∙ ap f (sym a)
arm f v x k (l ∷ ls) e a = ⊎_elim (λ p. e.0 ∙ ap f (sym p)) (λ q. arm f v x l ls e.1 q) a

-- outside the arm
pub outside : (x k : ℕ) (ks : List ℕ) → (AnyOf x k ks → ⊥) → among x (k ∷ ks) ≡ false
unfolding among any are
outside x k [] n = simp (ne_eqb k x (λ e. n (sym e)))
outside x k (l ∷ ls) n = simp (ne_eqb k x (λ e. n (inl (sym e)))) (outside x l ls (λ q. n (inr q)))

-- what the last arm, `_`, knows of a `match` with one number in each other arm: x is none of ks
abbrev pub Rest : Type 0 → ℕ → List ℕ → Type 0
Rest acc x [] = acc
Rest acc x (k ∷ ks) = Rest (acc × (x ≡ k → ⊥)) x ks

rest-acc : (acc : Type 0) (x : ℕ) (ks : List ℕ) → Rest acc x ks → acc
rest-acc acc x [] t = t
rest-acc acc x (k ∷ ks) t = (rest-acc (acc × (x ≡ k → ⊥)) x ks t).0

pub rest-first : (acc : Type 0) (x k : ℕ) (ks : List ℕ) → Rest acc x (k ∷ ks) → x ≡ k → ⊥
rest-first acc x k ks t = (rest-acc (acc × (x ≡ k → ⊥)) x ks t).1
