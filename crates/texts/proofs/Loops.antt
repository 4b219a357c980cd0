-- What each loop over a text keeps: the answer for the whole is what was found so far and the answer for what is left
-- from i. One set of laws serves every test.
use mathlib.Core.Path.{◌≡◌, refl, ap}
use mathlib.Core.Bool.{Bool, false, ◌&&◌, ◌||◌, and-false, and-true, and_assoc, or-false, or_assoc}
use mathlib.Core.List.{List, [], ◌∷◌}
use Prim.Native.Nat.{ℕ, suc, ◌+◌, ◌≤◌, ◌<◌}
use native.Mathlib.Numerals.{add-one}
use native.Mathlib.Omega.{arith}
use borrow.Author.Rules.{rules}
use lib.Dec.{eqb}
use lib.ListN.{length, get_or, drop, drop_of_length-le}
use lib.Seq.{drop-cons}
use Rattle.texts.specs.Texts.{every, any, are, same}

-- the loop's head: i bytes are passed, and g was found so far
abbrev pub AllSoFar : (ℕ → Bool) → List ℕ → Bool → ℕ → Type 0
AllSoFar p t g i = (i ≤ length t) × (every p t ≡ (g && every p (drop i t)))

module _ (p : ℕ → Bool) (t : List ℕ) (i : ℕ) (g : Bool) where
  pub every_more : (b : Bool) → every p t ≡ (g && every p (drop i t)) → i < length t → b ≡ p (get_or t i 0)
      → every p t ≡ ((g && b) && every p (drop (i + 1) t))
  unfolding every
  every_more b e h q = rw (e, q, add-one, drop-cons t i 0, and_assoc)

  pub every-kept : every p t ≡ (g && every p (drop i t)) → length t ≤ i → g ≡ every p t
  unfolding every
  every-kept e h = rw e (rw (drop_of_length-le t h, and-true g))

-- one of a list of anything, d standing past its end
module _ {A : Type 0} (p : A → Bool) (t : List A) (i : ℕ) (g : Bool) (d : A) where
  pub any-more : (b : Bool) → any p t ≡ (g || any p (drop i t)) → i < length t → b ≡ p (get_or t i d)
      → any p t ≡ ((g || b) || any p (drop (i + 1) t))
  unfolding any
  any-more b e h q = rw (e, q, add-one, drop-cons t i d, or_assoc)

  pub any-done : any p t ≡ (g || any p (drop i t)) → length t ≤ i → g ≡ any p t
  unfolding any
  any-done e h = rw e (rw (drop_of_length-le t h, or-false g))

-- where the loop compares the byte itself
module _ (b : ℕ) (t : List ℕ) (i : ℕ) (g : Bool) where
  pub are-more : every (are b) t ≡ (g && every (are b) (drop i t)) → i < length t
      → every (are b) t ≡ ((g && eqb (get_or t i 0) b) && every (are b) (drop (i + 1) t))
  unfolding are
  are-more e h = every_more (are b) t i g (eqb (get_or t i 0) b) e h refl

  pub found-more : any (are b) t ≡ (g || any (are b) (drop i t)) → i < length t
      → any (are b) t ≡ ((g || eqb (get_or t i 0) b) || any (are b) (drop (i + 1) t))
  unfolding are
  found-more e h = any-more (are b) t i g 0 (eqb (get_or t i 0) b) e h refl

module _ (t u : List ℕ) (i : ℕ) (g : Bool) where
  pub same_more : same t u ≡ (g && same (drop i t) (drop i u)) → length t ≡ length u → i < length t
      → same t u ≡ ((g && eqb (get_or t i 0) (get_or u i 0)) && same (drop (i + 1) t) (drop (i + 1) u))
  unfolding same
  same_more e l h =
      let k : i < length u = omega arith in
      rw (e, add-one, drop-cons t i 0, drop-cons u i 0, and_assoc)

  pub same_kept : same t u ≡ (g && same (drop i t) (drop i u)) → length t ≡ length u → length t ≤ i → g ≡ same t u
  unfolding same
  same_kept e l h =
      let k : length u ≤ i = omega arith in
      rw e (rw (drop_of_length-le t h, drop_of_length-le u k, and-true g))

-- texts of different lengths differ
pub same_length : (t u : List ℕ) → (length t ≡ length u → ⊥) → false ≡ same t u
unfolding same
same_length [] [] n = absurd (n refl)
same_length [] (y ∷ ys) n = refl
same_length (x ∷ xs) [] n = refl
same_length (x ∷ xs) (y ∷ ys) n = cc (same_length xs ys (λ e. n (ap suc e)), and-false (eqb x y))

pub ruleset loops =
    (rules, every_more, every-kept, any-more, any-done, are-more, found-more, same_more, same_kept, same_length)
