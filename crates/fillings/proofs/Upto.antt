-- The entries of a list up to one of them, and how many of these pass a test, by places.
use mathlib.Core.Path.{◌≡◌, refl, sym, ap, ◌∙◌, subst}
use mathlib.Core.Logic.{⊎_elim}
use mathlib.Core.Bool.{Bool, true, not, cond}
use mathlib.Core.List.{List, [], ◌∷◌, map, Memᴰ}
use Prim.Native.Nat.{ℕ, zero, suc, ◌+◌, ◌<◌, ◌≤◌}
use native.Mathlib.Omega.{arith}
use lib.ListN.{length, get_or, take}
use Rattle.texts.specs.Texts.{any, same}
use Rattle.texts.proofs.Bools.{both}
use Rattle.texts.proofs.Codes.{same_self}
use Rattle.fillings.specs.Fillings.{distinct, entry_place}
use Rattle.fillings.specs.Filled.{tally}
use Rattle.fillings.specs.Working.Places.{places}
use Rattle.fillings.proofs.Distinct.{distinct-not}

module _ {A : Type 0} (z : A) where
  -- an entry stands in its list
  pub entry_in : (l : List A) (k : ℕ) → k < length l → Memᴰ (get_or l k z) l
  entry_in [] k h = absurd (omega arith)
  entry_in (x ∷ l) zero h = mathlib.Core.List.Memᴰ.head refl
  entry_in (x ∷ l) (suc k) h = mathlib.Core.List.Memᴰ.tail (entry_in l k (omega arith))

  pub map_at : {B : Type 0} (g : A → B) (y : B) (l : List A) (k : ℕ) → k < length l → get_or (map g l) k y ≡ g (get_or l k z)
  map_at g y [] k h = absurd (omega arith)
  map_at g y (x ∷ l) zero h = refl
  map_at g y (x ∷ l) (suc k) h = map_at g y l k (omega arith)

-- where none stands twice, the place of an entry is where it stands
pub place_at : (c : List (List ℕ)) → distinct c ≡ true → (a : ℕ) → a < length c → entry_place c (get_or c a []) ≡ a
unfolding distinct
place_at [] h a l = absurd (omega arith)
place_at (x ∷ c) h zero l = rw (same_self x)
place_at (x ∷ c) h (suc a) l =
    let p = both (not (any (same x) c)) (distinct c) h in
    let n = (distinct-not x c p.0 (get_or c a []) (entry_in [] c a (omega arith))).0 in
    rw n (ap suc (place_at c p.1 a (omega arith)))

-- ---- places

pub place-below : (n i x : ℕ) → Memᴰ x (places n i) → (i ≤ x) × (x < i + n)
unfolding places
place-below zero i x m = absurd (mathlib.Core.List.Memᴰ.not-nil m)
place-below (suc n) i x m =
    ⊎_elim
    (λ (e : x ≡ i). (omega (arith, e), omega (arith, e)))
    (λ (k : Memᴰ x (places n (suc i))). let w = place-below n (suc i) x k in (omega (arith, w.0), omega (arith, w.1)))
    (mathlib.Core.List.Memᴰ.cases_cons m)

pub below-place : (n i k : ℕ) → k < n → Memᴰ (i + k) (places n i)
unfolding places
below-place zero i k l = absurd (omega arith)
below-place (suc n) i zero l = let e : i + 0 ≡ i = omega arith in mathlib.Core.List.Memᴰ.head e
below-place (suc n) i (suc k) l =
    let e : suc i + k ≡ i + suc k = omega arith in
    mathlib.Core.List.Memᴰ.tail (subst (λ (x : ℕ). Memᴰ x (places n (suc i))) e (below-place n (suc i) k (omega arith)))

-- ---- how many pass

pub tally-alike : (p q : ℕ → Bool) (n i : ℕ) → ((a : ℕ) → i ≤ a → a < i + n → p a ≡ q a) → tally p (places n i) ≡ tally q (places n i)
unfolding places
tally-alike p q zero i h = refl
tally-alike p q (suc n) i h = λ j. cond (h i (omega arith) (omega arith) j) 1 0 + tally-alike p q n (suc i) (λ a l k. h a (omega arith) (omega arith)) j

tally-shift : (p : ℕ → Bool) (n i : ℕ) → tally p (places n (suc i)) ≡ tally (λ (a : ℕ). p (suc a)) (places n i)
unfolding places
tally-shift p zero i = refl
tally-shift p (suc n) i = ap (λ (x : ℕ). cond (p (suc i)) 1 0 + x) (tally-shift p n (suc i))

pub tally-take : {A : Type 0} (z : A) (p : A → Bool) (c : List A) (n : ℕ) → n ≤ length c → tally p (take n c) ≡ tally (λ (a : ℕ). p (get_or c a z)) (places n 0)
unfolding places
tally-take z p c zero h = refl
tally-take z p [] (suc n) h = absurd (omega arith)
tally-take z p (x ∷ c) (suc n) h =
    ap (λ (y : ℕ). cond (p x) 1 0 + y) (tally-take z p c n (omega arith) ∙ sym (tally-shift (λ (a : ℕ). p (get_or (x ∷ c) a z)) n 0))

pub take_all : {A : Type 0} (c : List A) → take (length c) c ≡ c
take_all [] = refl
take_all {A} (x ∷ c) = ap (λ (l : List A). x ∷ l) (take_all c)
