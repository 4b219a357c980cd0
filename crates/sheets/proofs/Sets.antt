-- Sets of numbers below 64 as bits: that a bit is set exactly if the number is one of a list is one computation.
use mathlib.Core.Path.{◌≡◌, refl, ap, sym, ◌∙◌}
use mathlib.Core.Bool.{Bool, true, false, ◌||◌, or-false}
use mathlib.Core.List.{List, [], ◌∷◌, map}
use Prim.Native.Nat.{ℕ, zero, suc, ◌+◌, ◌-◌, ◌/◌, ◌%◌, ◌^◌, ◌≤◌, ◌<◌}
use native.Mathlib.Decide.{dec_lt, ℕ_discrete}
use native.Mathlib.Omega.{arith}
use borrow.Author.Tests.{lt-ltb, le-ltb, ltb-true, eq-eqb, ne_eqb}
use lib.Dec.{eqb, ltb}
use lib.ListN.{get_or}
use Rattle.texts.specs.Texts.{every, any, are, among, value_of, value, number}
use Rattle.texts.proofs.Bools.{both}
use Rattle.sheets.specs.Lists.{accounts_a, statuses, customs_group, treasury_group, courts_group, personal_group}
use Rattle.sheets.specs.Working.Facts.{numbers_of, in_set, groups_by}

-- n numbers from i on
abbrev up_from : ℕ → ℕ → List ℕ
up_from zero i = []
up_from (suc n) i = i ∷ up_from n (suc i)

at_up : {A : Type 0} (g : ℕ → A) (z : A) (n i k : ℕ) → k < n → get_or (map g (up_from n i)) k z ≡ g (i + k)
at_up g z zero i k l = absurd (omega arith)
at_up g z (suc n) i zero l = ap g (omega arith)
at_up g z (suc n) i (suc k) l = at_up g z n (suc i) k (omega arith) ∙ ap g (omega arith)

-- a number that is not below a bound is none of a list of such
past : (m : ℕ) (l : List ℕ) (n : ℕ) → every (λ (k : ℕ). ltb k m) l ≡ true → m ≤ n → among n l ≡ false
unfolding every any are among
past m [] n e h = refl
past m (k ∷ l) n e h =
    let q = both (ltb k m) (every (λ (j : ℕ). ltb j m) l) e in
    let b : k < m = ltb-true k m q.0 in
    rw (ne_eqb k n (λ z. omega arith)) (past m l n q.1 h)

module _ (set : ℕ) (l : List ℕ) (e : map (λ (n : ℕ). eqb (set / 2 ^ n % 2) 1) (up_from 64 0) ≡ map (λ (n : ℕ). among n l) (up_from 64 0)) (b : every (λ (k : ℕ). ltb k 64) l ≡ true) where
  pub in-set : (n : ℕ) → in_set set n ≡ among n l
  unfolding in_set
  in-set n =
      elim (dec_lt n 64) [
        | yes h ↦
            let z : 0 + n ≡ n = omega arith in
            simp (lt-ltb n 64 h)
            (ap (λ (k : ℕ). eqb (set / 2 ^ k % 2) 1) (sym z) ∙ sym (at_up (λ (k : ℕ). eqb (set / 2 ^ k % 2) 1) false 64 0 n h)
            ∙ ap (λ (m : List Bool). get_or m n false) e ∙ at_up (λ (k : ℕ). among k l) false 64 0 n h ∙ ap (λ (k : ℕ). among k l) z)
        | no h ↦ simp (le-ltb n 64 (omega arith)) (sym (past 64 l n b (omega arith)))
      ]

-- all statuses, and the groups that rules name
pub all_set : (n : ℕ) → in_set 17072628222 n ≡ among n (numbers_of 2 statuses)
unfolding every any are among number value value_of
all_set = in-set 17072628222 (numbers_of 2 statuses) refl refl

pub customs-set : (n : ℕ) → in_set 5637341376 n ≡ among n (numbers_of 2 customs_group)
unfolding every any are among number value value_of
customs-set = in-set 5637341376 (numbers_of 2 customs_group) refl refl

pub treasury-set : (n : ℕ) → in_set 5637349590 n ≡ among n (numbers_of 2 treasury_group)
unfolding every any are among number value value_of
treasury-set = in-set 5637349590 (numbers_of 2 treasury_group) refl refl

pub courts-set : (n : ℕ) → in_set 10737418240 n ≡ among n (numbers_of 2 courts_group)
unfolding every any are among number value value_of
courts-set = in-set 10737418240 (numbers_of 2 courts_group) refl refl

pub personal-set : (n : ℕ) → in_set 18350088 n ≡ among n (numbers_of 2 personal_group)
unfolding every any are among number value value_of
personal-set = in-set 18350088 (numbers_of 2 personal_group) refl refl

-- numbers from a least one on: a number below it is none of them, and one that is not is one exactly if the rest is
below : (m : ℕ) (l : List ℕ) (n : ℕ) → n < m → among n (map (λ (k : ℕ). m + k) l) ≡ false
unfolding any are among
below m [] n h = refl
below m (k ∷ l) n h = rw (ne_eqb (m + k) n (λ z. omega arith)) (below m l n h)

rest_of : (m : ℕ) (l : List ℕ) (n : ℕ) → m ≤ n → among n (map (λ (k : ℕ). m + k) l) ≡ among (n - m) l
unfolding any are among
rest_of m [] n h = refl
rest_of m (k ∷ l) n h =
    elim (ℕ_discrete k (n - m)) [
      | yes e ↦ simp (eq-eqb k (n - m) e, eq-eqb (m + k) n (omega arith))
      | no f ↦ simp (ne_eqb k (n - m) f, ne_eqb (m + k) n (λ z. f (omega arith))) (rest_of m l n h)
    ]

-- is_lead_a: what 17 begins with in class A is 03100, or 03212 and one of these more
abbrev beyond : List ℕ
beyond = 0 ∷ 10 ∷ 20 ∷ 30 ∷ 40 ∷ 50 ∷ 60 ∷ 2 ∷ 12 ∷ 22 ∷ 32 ∷ []

leads : (n : ℕ) → among n (numbers_of 5 accounts_a) ≡ (eqb 3100 n || among n (map (λ (k : ℕ). 3212 + k) beyond))
unfolding any are among every number value value_of
leads n = refl

pub lead_low : (n : ℕ) → n < 3212 → eqb 3100 n ≡ among n (numbers_of 5 accounts_a)
lead_low n h = sym (leads n ∙ ap (λ (b : Bool). eqb 3100 n || b) (below 3212 beyond n h) ∙ or-false (eqb 3100 n))

lead-from : (n : ℕ) → 3212 ≤ n → among n (numbers_of 5 accounts_a) ≡ among (n - 3212) beyond
lead-from n h = leads n ∙ rw (ne_eqb 3100 n (λ z. omega arith)) (rest_of 3212 beyond n h)

pub lead-in : (n : ℕ) (r : Bool) → 3212 ≤ n → r ≡ in_set 1154048509399274501 (n - 3212) → r ≡ among n (numbers_of 5 accounts_a)
unfolding every any are among
lead-in n r h e = e ∙ in-set 1154048509399274501 beyond refl refl (n - 3212) ∙ sym (lead-from n h)

-- groups_of
pub groups-made : (n : ℕ) (a b c d : Bool) → a ≡ in_set 5637341376 n → b ≡ in_set 5637349590 n → c ≡ in_set 10737418240 n → d ≡ in_set 18350088 n
    → record { customs = a; treasury = b; courts = c; personal = d; is01 = eqb 1 n; is13 = eqb 13 n; is31 = eqb 31 n } ≡ groups_by n
unfolding groups_by among any are every number value value_of
groups-made n a b c d ea eb ec ed =
    let fa : a ≡ among n (numbers_of 2 customs_group) = ea ∙ customs-set n in
    let fb : b ≡ among n (numbers_of 2 treasury_group) = eb ∙ treasury-set n in
    let fc : c ≡ among n (numbers_of 2 courts_group) = ec ∙ courts-set n in
    let fd : d ≡ among n (numbers_of 2 personal_group) = ed ∙ personal-set n in
    let one = λ (k : ℕ). sym (or-false (eqb k n)) in
    λ i. record { customs = fa i; treasury = fb i; courts = fc i; personal = fd i; is01 = one 1 i; is13 = one 13 i; is31 = one 31 i }
