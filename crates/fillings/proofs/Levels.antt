-- What a level of the search does to the list of picks: one set of laws for all four.
use mathlib.Core.Path.{◌≡◌, sym, ap, ◌∙◌}
use mathlib.Core.Bool.{Bool, true, false}
use mathlib.Core.List.{List, [], ◌∷◌, ◌++◌, map, map-append, map-map, append_assoc}
use Prim.Native.Nat.{ℕ, suc, ◌+◌, ◌-◌, ◌<◌, ◌≤◌}
use lib.ListN.{length}
use native.Mathlib.Numerals.{add-one}
use native.Mathlib.Omega.{arith}
use Rattle.fillings.specs.Fillings.{each, found, none, look}
use Rattle.fillings.specs.Working.Places.{places}
use Rattle.fillings.proofs.Looking.{NonePass, look-found, look_none, look-over}

abbrev pub Picks : Type 0
Picks = List (List ℕ)

-- looking through l after n passes over all of it and goes on after m
pub record Passed (p : List ℕ → Bool) (n : ℕ) (l : Picks) (m : ℕ) : Type 0 where
  pub on : (r : Picks) → look p n (l ++ r) ≡ look p m r

-- it ends at s, in place m
pub record Hit (p : List ℕ → Bool) (n : ℕ) (l : Picks) (m : ℕ) (s : List ℕ) : Type 0 where
  pub ends : (r : Picks) → look p n (l ++ r) ≡ found m s

module _ (p : List ℕ → Bool) (n : ℕ) (s : List ℕ) where
  pub one-passed : p s ≡ false → Passed p n (s ∷ []) (n + 1)
  unfolding look
  one-passed h = record { on = λ r. simp h }

  pub one_hit : p s ≡ true → Hit p n (s ∷ []) (n + 1) s
  unfolding look
  one_hit h = record { ends = λ r. simp h }

-- by a look through the part alone, or where nothing of it passes
module _ (p : List ℕ → Bool) (n : ℕ) (l : Picks) where
  pub over-passed : NonePass p l → Passed p n l (n + length l)
  over-passed h = record { on = λ r. look-over p l r n h }

  pub part-passed : (c : ℕ) → look p 0 l ≡ none c → Passed p n l (n + c)
  part-passed c e =
      let w = look_none p l c e in
      record { on = λ r. look-over p l r n w.1 ∙ ap (λ (k : ℕ). look p (n + k) r) (sym w.0) }

  pub part-hit : (c : ℕ) (t : List ℕ) → look p 0 l ≡ found c t → Hit p n l (n + c) t
  unfolding look
  part-hit c t e =
      let w = look-found p l c t e in
      record {
        ends = λ r.
            ap (λ (k : Picks). look p n (k ++ r)) w.split
            ∙ ap (look p n) (append_assoc w.before (t ∷ w.after) r)
            ∙ look-over p w.before (t ∷ (w.after ++ r)) n w.fails
            ∙ rw w.passes (ap (λ (k : ℕ). found k t) (omega (arith, w.place)));
      }

-- h puts the places of the levels above in front; R is what the levels below go through; N places, n₀ passed at the beginning; after k
-- of the places n have been passed
pub record Left (p : List ℕ → Bool) (h : List ℕ → List ℕ) (R : Picks) (N n₀ k n : ℕ) : Type 0 where
  pub looks : (r : Picks) → look p n₀ (map h (each (places N 0) R) ++ r) ≡ look p n (map h (each (places (N - k) k) R) ++ r)

module _ {p : List ℕ → Bool} {h : List ℕ → List ℕ} {R : Picks} {N n₀ : ℕ} where
  pub left-none : Left p h R N n₀ 0 n₀
  left-none = record { looks = λ r. let e : N - 0 ≡ N = omega arith in rw e }

  module _ {k n : ℕ} (left : Left p h R N n₀ k n) where
    opened : k < N → (r : Picks) → look p n₀ (map h (each (places N 0) R) ++ r) ≡ look p n (map (λ (t : List ℕ). h (k ∷ t)) R ++ (map h (each (places (N - (k + 1)) (k + 1)) R) ++ r))
    unfolding places
    opened l r = let e : N - k ≡ suc (N - suc k) = omega arith in left.looks r ∙ rw (e, add-one) (simp (map-append, map-map, append_assoc))

    pub turn : {m : ℕ} → k < N → Passed p n (map (λ (t : List ℕ). h (k ∷ t)) R) m → Left p h R N n₀ (k + 1) m
    turn l q = record { looks = λ r. opened l r ∙ q.on (map h (each (places (N - (k + 1)) (k + 1)) R) ++ r) }

    pub hit : {m : ℕ} {s : List ℕ} → k < N → Hit p n (map (λ (t : List ℕ). h (k ∷ t)) R) m s → Hit p n₀ (map h (each (places N 0) R)) m s
    hit l q = record { ends = λ r. opened l r ∙ q.ends (map h (each (places (N - (k + 1)) (k + 1)) R) ++ r) }

    pub all : N ≤ k → Passed p n₀ (map h (each (places N 0) R)) n
    unfolding places
    all l = let e : N - k ≡ 0 = omega arith in record { on = λ r. left.looks r ∙ rw e }
