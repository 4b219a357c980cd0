-- A test passed by every number of a list: of lists joined, and of lists with the same members.
use mathlib.Core.Path.{◌≡◌, refl, ap, sym, ◌∙◌}
use mathlib.Core.Bool.{Bool, true, false, ◌&&◌, ◌||◌, and_assoc, false≢true}
use mathlib.Core.List.{List, [], ◌∷◌, ◌++◌}
use Prim.Native.Nat.{ℕ}
use borrow.Author.Tests.{eqb-true}
use lib.Dec.{eqb}
use Rattle.texts.proofs.Bools.{both, alike}
use Rattle.texts.specs.Texts.{every, any, are, among}

module _ (p : ℕ → Bool) where
  pub every_append : (ks ls : List ℕ) → (every p ks && every p ls) ≡ every p (ks ++ ls)
  unfolding every
  every_append [] ls = refl
  every_append (k ∷ ks) ls = and_assoc (p k) (every p ks) (every p ls) ∙ ap (λ (b : Bool). p k && b) (every_append ks ls)

  pub every-member : (ks : List ℕ) (k : ℕ) → among k ks ≡ true → every p ks ≡ true → p k ≡ true
  unfolding every any are among
  every-member [] k m a = absurd (false≢true m)
  every-member (y ∷ ys) k m a = go (eqb y k) refl m (λ n. every-member ys k n (both (p y) (every p ys) a).1)
    where
      go : (e : Bool) → eqb y k ≡ e → (e || any (are k) ys) ≡ true → (any (are k) ys ≡ true → p k ≡ true) → p k ≡ true
      go true h n f = ap p (sym (eqb-true y k h)) ∙ (both (p y) (every p ys) a).0
      go false h n f = f n

  -- each of ls is one of ks
  abbrev within : List ℕ → List ℕ → Bool
  within ks ls = every (λ (k : ℕ). among k ks) ls

  pub every-within : (ks ls : List ℕ) → within ks ls ≡ true → every p ks ≡ true → every p ls ≡ true
  unfolding every
  every-within ks [] m a = refl
  every-within ks (l ∷ ls) m a =
      let q = both (among l ks) (within ks ls) m in
      cc (every-member ks l q.0 a, every-within ks ls q.1 a)

  pub every-same : (ks ls : List ℕ) → within ks ls ≡ true → within ls ks ≡ true → every p ks ≡ every p ls
  every-same ks ls m n = alike (every p ks) (every p ls) (every-within ks ls m) (every-within ls ks n)
