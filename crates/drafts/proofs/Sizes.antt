-- The sizes that a message of either version may have.
use mathlib.Core.Path.{◌≡◌, refl, ap}
use mathlib.Core.Bool.{Bool, true, false, not, ◌||◌, false≢true}
use mathlib.Core.List.{List}
use Prim.Native.Nat.{ℕ, ◌+◌, ◌<◌, ◌≤◌}
use native.Mathlib.Omega.{arith}
use borrow.Author.Tests.{lt-ltb, le-ltb, eq-eqb, ne_eqb, ltb-true, eqb-true}
use lib.Dec.{eqb, ltb}
use lib.ListN.{length}
use Rattle.texts.proofs.Bools.{cases, alike}
use Rattle.drafts.specs.Message.{least_l, most_l, length_of, misframed, disallowed}
use Rattle.drafts.specs.Working.Steps.{takes}
use Rattle.drafts.proofs.Messages.{frame-means, frame-by}

module _ (m : List ℕ) where
  pub framed-short : length m < least_l 1 + 2 → false ≡ not (misframed m)
  framed-short u = cases (misframed m) (λ t. rw t) (λ f. absurd (omega (arith, frame-means m f)))

  pub framed-long : most_l 2 + 2 < length m → false ≡ not (misframed m)
  framed-long u = cases (misframed m) (λ t. rw t) (λ f. absurd (omega (arith, frame-means m f)))

  pub framed-rest : least_l 1 + 2 ≤ length m → length m ≤ most_l 2 + 2 → (l : ℕ) → l ≡ length_of m → eqb (l + 2) (length m) ≡ not (misframed m)
  framed-rest u h l el = alike (eqb (l + 2) (length m)) (not (misframed m)) fits rest
    where
      fits : eqb (l + 2) (length m) ≡ true → not (misframed m) ≡ true
      fits t = let e = eqb-true (l + 2) (length m) t in rw (frame-by m (omega arith) (omega arith) (omega arith))

      rest : not (misframed m) ≡ true → eqb (l + 2) (length m) ≡ true
      rest t = cases (misframed m) (λ x. absurd (false≢true (rw x at t))) (λ f. eq-eqb (l + 2) (length m) (omega (arith, frame-means m f)))

pub twice : (b : Bool) → not (not b) ≡ b
twice true = refl
twice false = refl

or-none : (b : Bool) → (b || false) ≡ b
or-none true = refl
or-none false = refl

-- `takes` of version 2, and of another
module _ (w n : ℕ) where
  pub takes-second : w ≡ 2 → not (eqb n (least_l 1 + 2)) ≡ takes w n
  unfolding takes
  takes-second e = rw e

  pub takes_first : (w ≡ 2 → ⊥) → not (eqb n (most_l 2 + 2)) ≡ takes w n
  unfolding takes
  takes_first e = rw (ne_eqb w 2 e)

-- of the sizes that one of either version may have, each takes those that it allows
pub takes-is : (n l : ℕ) → l + 2 ≡ n → least_l 1 ≤ l → l ≤ most_l 2 → (w : ℕ) → takes w n ≡ not (disallowed w l)
unfolding takes
takes-is n l e low high w =
    cases (eqb w 2)
    (λ t. rw (t, le-ltb (most_l 2) l high, or-none (ltb l (least_l 2)))
    (ap not (alike (eqb n (least_l 1 + 2)) (ltb l (least_l 2)) (λ q. lt-ltb l (least_l 2) (omega (arith, eqb-true n (least_l 1 + 2) q))) (λ q. eq-eqb n (least_l 1 + 2) (omega (arith, ltb-true l (least_l 2) q))))))
    (λ f. rw (f, le-ltb l (least_l 1) low)
    (ap not (alike (eqb n (most_l 2 + 2)) (ltb (most_l 1) l) (λ q. lt-ltb (most_l 1) l (omega (arith, eqb-true n (most_l 2 + 2) q))) (λ q. eq-eqb n (most_l 2 + 2) (omega (arith, ltb-true (most_l 1) l q))))))
