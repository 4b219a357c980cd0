-- Pooled lines: each INN once, in the order of first appearance, with the sum of its lines; and what one line more makes of
-- them.
use mathlib.Core.Path.{◌≡◌, refl, ap, sym, ◌∙◌}
use mathlib.Core.Logic.{⊎_elim}
use mathlib.Core.Bool.{false, cond}
use mathlib.Core.List.Memᴰ
use mathlib.Core.List.{List, [], ◌∷◌, ◌++◌, map, append-nil, Memᴰ}
use Prim.Native.Nat.{ℕ, zero, suc, ◌+◌, ◌≤◌, ◌<◌}
use native.Mathlib.Nat.{add-zero, zero-add, add_assoc}
use native.Mathlib.Omega.{arith}
use lib.ListN.{length, get_or, set, get_or-map}
use lib.Seq.{append_snoc}
use Rattle.texts.specs.Quoted.{Text}
use Rattle.texts.specs.Texts.{same}
use Rattle.texts.proofs.Bools.{cases, alike}
use Rattle.texts.proofs.Codes.{same_true, same_self}
use Rattle.registers.specs.Register.{Line, without, appearing, inns_of, sum_of, pooled, total_of}
use Rattle.registers.specs.Pool.{first_at, IsPool}

same_turn : (t u : Text) → same t u ≡ same u t
same_turn t u = alike (same t u) (same u t) (λ e. ap (same u) (same_true t u e) ∙ same_self u) (λ e. ap (same t) (same_true u t e) ∙ same_self t)

different : (t u : Text) → (u ≡ t → ⊥) → same t u ≡ false
different t u n = cases (same t u) (λ e. absurd (n (sym (same_true t u e)))) (λ e. e)

-- ---- the first line taken off

-- the lines that have another INN than t
abbrev pub others : Text → List Line → List Line
others t [] = []
others t (p ∷ ps) = cond (same p.0 t) (others t ps) (p ∷ others t ps)

pub pooled-none : pooled [] ≡ []
unfolding pooled appearing
pooled-none = refl

module _ (l : Line) (ls : List Line) where
  sums-others : (us : List Text) → map (λ (t : Text). (t, sum_of t (l ∷ ls))) (without l.0 us) ≡ others l.0 (map (λ (t : Text). (t, sum_of t ls)) us)
  unfolding without sum_of
  sums-others [] = refl
  sums-others (u ∷ us) =
      cases (same u l.0) (λ e. rw e (sums-others us))
      (λ e. cc (e, same_turn l.0 u, zero-add (sum_of u ls), sums-others us))

  pub pooled-first : pooled (l ∷ ls) ≡ (l.0, l.1 + sum_of l.0 ls) ∷ others l.0 (pooled ls)
  unfolding pooled appearing sum_of
  pooled-first = cc (same_self l.0, sums-others (appearing (inns_of ls)))

-- ---- a line more: to the line of its INN, or behind all

abbrev add_to : List Line → Line → List Line
add_to [] l = l ∷ []
add_to (p ∷ ps) l = cond (same l.0 p.0) ((p.0, p.1 + l.1) ∷ ps) (p ∷ add_to ps l)

others-add : (t : Text) (ps : List Line) (l : Line) → others t (add_to ps l) ≡ cond (same l.0 t) (others t ps) (add_to (others t ps) l)
others-add t [] l = refl
others-add t (p ∷ ps) l =
    let r = others-add t ps l in
    cases (same l.0 p.0)
    (λ e. let q = ap (λ (u : Text). same u t) (same_true l.0 p.0 e) in cases (same p.0 t) (λ f. cc) (λ f. cc))
    (λ e. cases (same p.0 t) (λ f. cc) (λ f. cases (same l.0 t) (λ g. cc) (λ g. cc)))

sum_more : (t : Text) (ls : List Line) (l : Line) → sum_of t (ls ++ l ∷ []) ≡ sum_of t ls + cond (same l.0 t) l.1 0
unfolding sum_of
sum_more t [] l = omega arith
sum_more t (k ∷ ks) l = omega (arith, sum_more t ks l)

pooled-more : (ls : List Line) (l : Line) → pooled (ls ++ l ∷ []) ≡ add_to (pooled ls) l
unfolding sum_of
pooled-more [] l = rw (pooled-first l [], pooled-none, add-zero)
pooled-more (k ∷ ks) l =
    let a = pooled-first k (ks ++ l ∷ []) in
    let b = pooled-first k ks in
    let c = pooled-more ks l in
    let d = others-add k.0 (pooled ks) l in
    let s = sum_more k.0 ks l in
    cases (same l.0 k.0) (λ e. cc (add_assoc k.1 (sum_of k.0 ks) l.1)) (λ e. cc (add-zero (sum_of k.0 ks)))

-- ---- the total

total-add : (ps : List Line) (l : Line) → total_of (add_to ps l) ≡ total_of ps + l.1
unfolding total_of
total-add [] l = omega arith
total-add (p ∷ ps) l = cases (same l.0 p.0) (λ e. rw e (omega arith)) (λ e. rw e (omega (arith, total-add ps l)))

total-from : (rs ls : List Line) → total_of (pooled (rs ++ ls)) ≡ total_of (pooled rs) + total_of ls
unfolding total_of
total-from rs [] = rw (append-nil rs) (omega arith)
total-from rs (l ∷ ls) = rw (← append_snoc rs l ls) (omega (arith, total-from (rs ++ l ∷ []) ls, ap total_of (pooled-more rs l), total-add (pooled rs) l))

pub pooled-total : (ls : List Line) → total_of (pooled ls) ≡ total_of ls
unfolding total_of
pooled-total ls = omega (arith, total-from [] ls, ap total_of pooled-none)

-- ---- in order: each comes after those before it

-- the INN of each of ps stands first in ls at place n or later, and later than that of the one before it
abbrev InTurn : List Line → ℕ → List Line → Type 0
InTurn ls n [] = Unit
InTurn ls n (p ∷ ps) = (n ≤ first_at p.0 ls) × InTurn ls (suc (first_at p.0 ls)) ps

module _ (ls : List Line) where
  turn_at : (n : ℕ) (ps : List Line) → InTurn ls n ps → (j : ℕ) → j < length ps → n ≤ first_at (get_or ps j ([], 0)).0 ls
  turn_at n [] t j h = absurd (omega arith)
  turn_at n (p ∷ ps) t zero h = t.0
  turn_at n (p ∷ ps) t (suc j) h = omega (arith, t.0, turn_at (suc (first_at p.0 ls)) ps t.1 j (omega arith))

  in_order : (n : ℕ) (ps : List Line) → InTurn ls n ps → (i j : ℕ) → i < j → j < length ps
      → first_at (get_or ps i ([], 0)).0 ls < first_at (get_or ps j ([], 0)).0 ls
  in_order n [] t i j h k = absurd (omega arith)
  in_order n (p ∷ ps) t i zero h k = absurd (omega arith)
  in_order n (p ∷ ps) t zero (suc j) h k = turn_at (suc (first_at p.0 ls)) ps t.1 j (omega arith)
  in_order n (p ∷ ps) t (suc i) (suc j) h k = in_order (suc (first_at p.0 ls)) ps t.1 i j (omega arith) (omega arith)

  turn-others : (l : Line) (m n : ℕ) (ps : List Line) → m ≤ suc n → InTurn ls n ps → InTurn (l ∷ ls) m (others l.0 ps)
  unfolding first_at
  turn-others l m n [] h t = tt
  turn-others l m n (p ∷ ps) h t =
      cases (same p.0 l.0) (λ e. rw e (turn-others l m (suc (first_at p.0 ls)) ps (omega (arith, t.0)) t.1))
      (λ e. rw (e, same_turn l.0 p.0, e) (omega (arith, t.0), turn-others l (suc (suc (first_at p.0 ls))) (suc (first_at p.0 ls)) ps (omega arith) t.1))

in-turn : (ls : List Line) → InTurn ls 0 (pooled ls)
unfolding first_at
in-turn [] = rw pooled-none tt
in-turn (l ∷ ls) = rw (pooled-first l ls, same_self l.0) (omega arith, turn-others ls l 1 0 (pooled ls) (omega arith) (in-turn ls))

-- ---- what pooled lines are

mem-others : (t u : Text) (ps : List Line) → Memᴰ t (inns_of (others u ps)) → Memᴰ t (inns_of ps)
mem-others t u [] m = m
mem-others t u (p ∷ ps) m =
    cases (same p.0 u) (λ e. Memᴰ.tail (mem-others t u ps (rw e at m)))
    (λ e. ⊎_elim (λ h. Memᴰ.head h) (λ n. Memᴰ.tail (mem-others t u ps n)) (Memᴰ.cases_cons (rw e at m)))

others-mem : (t u : Text) (ps : List Line) → same t u ≡ false → Memᴰ t (inns_of ps) → Memᴰ t (inns_of (others u ps))
others-mem t u [] n m = m
others-mem t u (p ∷ ps) n m =
    let r = others-mem t u ps n in
    ⊎_elim (λ h. rw (rw h at n) (Memᴰ.head h)) (λ k. cases (same p.0 u) (λ e. rw e (r k)) (λ e. rw e (Memᴰ.tail (r k))))
    (Memᴰ.cases_cons m)

module _ (t : Text) where
  among-lines : (ls : List Line) → Memᴰ t (inns_of (pooled ls)) → Memᴰ t (inns_of ls)
  among-lines [] m = rw pooled-none at m
  among-lines (l ∷ ls) m =
      ⊎_elim (λ h. Memᴰ.head h) (λ k. Memᴰ.tail (among-lines ls (mem-others t l.0 (pooled ls) k)))
      (Memᴰ.cases_cons (rw (pooled-first l ls) at m))

  among-pooled : (ls : List Line) → Memᴰ t (inns_of ls) → Memᴰ t (inns_of (pooled ls))
  among-pooled [] m = rw pooled-none m
  among-pooled (l ∷ ls) m =
      rw (pooled-first l ls)
      (⊎_elim (λ h. Memᴰ.head h)
      (λ k. cases (same t l.0) (λ e. Memᴰ.head (same_true t l.0 e)) (λ e. Memᴰ.tail (others-mem t l.0 (pooled ls) e (among-pooled ls k))))
      (Memᴰ.cases_cons m))

module _ (ls : List Line) where
  appears-at : (i j : ℕ) → i < j → j < length (pooled ls) → first_at (get_or (pooled ls) i ([], 0)).0 ls < first_at (get_or (pooled ls) j ([], 0)).0 ls
  appears-at = in_order ls 0 (pooled ls) (in-turn ls)

  pub is-pool : IsPool ls (pooled ls)
  unfolding pooled
  is-pool =
      let at : (n : ℕ) → get_or (inns_of (pooled ls)) n [] ≡ (get_or (pooled ls) n ([], 0)).0 = λ n. get_or-map (λ (p : Line). p.0) (pooled ls) n ([], 0) in
      record {
        those = λ t. (among-lines t ls, among-pooled t ls);
        appears = λ i j h k. rw (at i, at j) (appears-at i j h k);
        sums = λ t k m. let q = (Memᴰ.of_map (λ (u : Text). (u, sum_of u ls)) (appearing (inns_of ls)) m).2 in sym (ap (λ (p : Line). p.1) q) ∙ ap (λ (p : Line). sum_of p.0 ls) q;
        total = pooled-total ls;
      }

-- ---- where the line is added: at the place k that has its INN, or behind all where none has it

module _ (l : Line) where
  -- place j of ps has the INN
  abbrev pub HasAt : List Line → ℕ → Type 0
  HasAt ps j = (get_or ps j ([], 0)).0 ≡ l.0

  add_at : (ps : List Line) (k : ℕ) → k < length ps → HasAt ps k → ((j : ℕ) → j < k → HasAt ps j → ⊥)
      → add_to ps l ≡ set ps k ((get_or ps k ([], 0)).0, (get_or ps k ([], 0)).1 + l.1)
  add_at [] k h e f = absurd (omega arith)
  add_at (p ∷ ps) zero h e f = rw (ap (same l.0) e ∙ same_self l.0)
  add_at (p ∷ ps) (suc k) h e f = cc (different l.0 p.0 (f 0 (omega arith)), add_at ps k (omega arith) e (λ j i. f (suc j) (omega arith)))

  add-new : (ps : List Line) → ((j : ℕ) → j < length ps → HasAt ps j → ⊥) → add_to ps l ≡ ps ++ l ∷ []
  add-new [] f = refl
  add-new (p ∷ ps) f = cc (different l.0 p.0 (f 0 (omega arith)), add-new ps (λ j i. f (suc j) (omega arith)))

  pub pooled-at : (ls : List Line) (k : ℕ) → k < length (pooled ls) → HasAt (pooled ls) k
      → pooled (ls ++ l ∷ []) ≡ set (pooled ls) k ((get_or (pooled ls) k ([], 0)).0, (get_or (pooled ls) k ([], 0)).1 + l.1)
  pooled-at ls k h e = pooled-more ls l ∙ add_at (pooled ls) k h e (λ j i f. omega (arith, appears-at ls j k i h, ap (λ (t : Text). first_at t ls) (f ∙ sym e)))

  pub pooled-new : (ls : List Line) → ((j : ℕ) → j < length (pooled ls) → HasAt (pooled ls) j → ⊥) → pooled (ls ++ l ∷ []) ≡ pooled ls ++ l ∷ []
  pooled-new ls f = pooled-more ls l ∙ add-new (pooled ls) f
