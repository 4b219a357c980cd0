-- Two windows that overlap, one that begins at n and one that ends at 26, hold together what stands from n to 26.
use mathlib.Core.Path.{◌≡◌, refl, ap, ◌∙◌}
use mathlib.Core.Bool.{Bool, true, false, ◌&&◌, and_assoc}
use mathlib.Core.List.{List, [], ◌∷◌}
use Prim.Native.Nat.{ℕ, zero, suc, ◌+◌, ◌-◌, ◌*◌, ◌≤◌}
use native.Mathlib.Nat.{zero-add, suc-add}
use native.Mathlib.Omega.{arith}
use lib.ListN.{take, drop}
use lib.Seq.{take-nil, drop-drop}
use Rattle.texts.specs.Texts.{between, every, are}

twice : (x a b : Bool) → ((x && a) && (x && b)) ≡ (x && (a && b))
twice true a b = refl
twice false a b = refl

module _ (p : ℕ → Bool) where
  every-none : (k : ℕ) → every p (take k []) ≡ true
  unfolding every
  every-none k = rw take-nil

  -- a front and a longer front
  every-within : (v w : ℕ) (d : List ℕ) → v ≤ w → (every p (take v d) && every p (take w d)) ≡ every p (take w d)
  unfolding every
  every-within zero w d h = refl
  every-within (suc v) w [] h = cc (every-none w)
  every-within (suc v) zero (x ∷ xs) h = absurd (omega arith)
  every-within (suc v) (suc w) (x ∷ xs) h = twice (p x) (every p (take v xs)) (every p (take w xs)) ∙ ap (λ (b : Bool). p x && b) (every-within v w xs (omega arith))

  -- a front of v, and w from a place j within it
  every-cover : (j v w : ℕ) (d : List ℕ) → j ≤ v → v ≤ j + w → (every p (take v d) && every p (take w (drop j d))) ≡ every p (take (j + w) d)
  unfolding every
  every-cover zero v w d h k = rw zero-add (every-within v w d (omega arith))
  every-cover (suc j) zero w d h k = absurd (omega arith)
  every-cover (suc j) (suc v) w [] h k = cc (every-none w, every-none (suc j + w))
  every-cover (suc j) (suc v) w (x ∷ xs) h k = rw suc-add (and_assoc (p x) (every p (take v xs)) (every p (take w (drop j xs))) ∙ ap (λ (b : Bool). p x && b) (every-cover j v w xs (omega arith) (omega arith)))

-- the windows from n on and the last, both w wide
module _ (c t u : List ℕ) (n w : ℕ) (a b : Bool) where
  pub cover : n + w ≤ 26 → 26 ≤ n + 2 * w → t ≡ between c n (n + w) → a ≡ every (are 0) t → u ≡ between c (26 - w) 26 → b ≡ every (are 0) u → (a && b) ≡ every (are 0) (between c n 26)
  unfolding between
  cover h k ht ha hu hb =
      let m = 26 - w in
      let e : n + w - n ≡ w = omega arith in
      let f : 26 - m ≡ w = omega arith in
      let g : 26 - n ≡ m - n + w = omega arith in
      let i : n + (m - n) ≡ m = omega arith in
      cc (drop-drop (m - n) n c, every-cover (are 0) (m - n) w w (drop n c) (omega arith) (omega arith))
