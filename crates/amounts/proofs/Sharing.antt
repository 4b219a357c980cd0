-- What shares promise, by their definition; the loops and the ways through `shares`.
use mathlib.Core.Path.{◌≡◌, refl, sym, ap, ◌∙◌, subst}
use mathlib.Core.Bool.{true, ◌&&◌, true≢false}
use mathlib.Core.List.{List, [], ◌∷◌, ◌++◌}
use Prim.Native.Nat.{ℕ, zero, suc, ◌+◌, ◌-◌, ◌*◌, ◌/◌, ◌≤◌, ◌<◌}
use native.Mathlib.Nat.{zero-add, mul-zero, zero-div, mul-le-mul_left, le-div_iff_mul-le, div-mul-le_self, mul-div_cancel}
use native.Mathlib.Omega.{arith}
use borrow.Author.Tests.{leb-true, le-leb, eqb-true, eq-eqb}
use lib.Dec.{leb, eqb}
use lib.ListN.{length, take, drop, get_or, replicate, length-append, length-replicate, drop_of_length-le}
use lib.Seq.{take_all, sets, sets-eq, get_or-append-add}
use Rattle.texts.specs.Texts.{every}
use Rattle.texts.specs.Answers.{success, refusal, number_of}
use Rattle.texts.specs.Refusals.{refusal_number}
use Rattle.texts.specs.declared.answers.Refusal.{Refusal}
use Rattle.texts.proofs.Bools.{both, and2}
use Rattle.texts.proofs.Refusals.{Way, way_out}
use Rattle.amounts.specs.Amount.{is_amount}
use Rattle.amounts.specs.Part.{is_year, quotient_of}
use Rattle.amounts.specs.Shares.{total, all_some, are_periods, sharable, shares_from, places_of, share_tests, sharing, shared_to, share_answer, ShareRange, AreShares, Shares}
use Rattle.std.specs.Prelude.{Result, Ok, Err, sum}
use Rattle.std.proofs.lemmas.List.{drop-replicate}
use Rattle.std.proofs.lemmas.List.Recursion.{is_sum_by}
use Rattle.amounts.proofs.Ranges.{sole, no_number, amount-is, is-amount, year-is, is-year, year-bound}

zeros-total : (k n : ℕ) → total (take k (replicate n 0)) ≡ 0
zeros-total zero n = refl
zeros-total (suc k) zero = refl
zeros-total (suc k) (suc n) = zero-add _ ∙ zeros-total k n

pub zeros-at : (n i : ℕ) → get_or {A = ℕ} (replicate n 0) i 0 ≡ 0
zeros-at zero i = refl
zeros-at (suc n) zero = refl
zeros-at (suc n) (suc i) = zeros-at n i

sum-zero : (b : ℕ) → b + 0 ≡ b
sum-zero b = omega arith

sum_first : (b p t : ℕ) → b + (p + t) ≡ b + p + t
sum_first b p t = omega arith

-- n less m, with m taken first
less-more : (m n t : ℕ) → m ≤ n → m + (n - m + t) ≡ n + t
less-more m n t h = omega arith

pub quotient-none : (a y : ℕ) → quotient_of a 0 y ≡ 0
quotient-none a y = ap (λ (n : ℕ). n / y) (mul-zero a) ∙ zero-div y

shares-length : (a y b : ℕ) (ps : List ℕ) → length (shares_from a y b ps) ≡ length ps
shares-length a y b [] = refl
shares-length a y b (p ∷ ps) = ap suc (shares-length a y (b + p) ps)

module _ (a y : ℕ) (pos : 0 < y) where
  -- the running quotients rise
  pub quotient-rises : (d e : ℕ) → d ≤ e → quotient_of a d y ≤ quotient_of a e y
  quotient-rises d e h =
      let m = mul-le-mul_left a h in
      let l = div-mul-le_self (a * d) y in
      (le-div_iff_mul-le pos).1 (omega (arith, m, l))

  -- the one induction over the periods
  running-from : (k n b : ℕ) (ps : List ℕ) → quotient_of a b y + total (take k (shares_from a y b ps ++ replicate n 0)) ≡ quotient_of a (b + total (take k ps)) y
  running-from zero n b ps = sum-zero _ ∙ ap (λ (d : ℕ). quotient_of a d y) (sym (sum-zero b))
  running-from (suc k) n b [] =
      ap (λ (t : ℕ). quotient_of a b y + t) (zeros-total (suc k) n) ∙ sum-zero _ ∙ ap (λ (d : ℕ). quotient_of a d y) (sym (sum-zero b))
  running-from (suc k) n b (p ∷ ps) =
      less-more (quotient_of a b y) (quotient_of a (b + p) y) _ (quotient-rises b (b + p) (omega arith))
      ∙ running-from k n (b + p) ps
      ∙ ap (λ (d : ℕ). quotient_of a d y) (sym (sum_first b p (total (take k ps))))

  -- ---- what the places are

  module _ (ps : List ℕ) (few : length ps ≤ 12) (sum : total ps ≡ y) where
    places-length : length (places_of a y ps) ≡ 12
    unfolding places_of
    places-length =
        let l = length-append (shares_from a y 0 ps) (replicate (12 - length ps) 0) in
        let m = shares-length a y 0 ps in
        let n = length-replicate {A = ℕ} (12 - length ps) 0 in
        omega (arith, l, m, n)

    runs : (k : ℕ) → total (take k (places_of a y ps)) ≡ quotient_of a (total (take k ps)) y
    unfolding places_of
    runs k =
        sym (zero-add _) ∙ ap (λ (t : ℕ). t + total (take k (shares_from a y 0 ps ++ replicate (12 - length ps) 0))) (sym (quotient-none a y))
        ∙ running-from k (12 - length ps) 0 ps
        ∙ ap (λ (d : ℕ). quotient_of a d y) (zero-add _)

    behind : (i : ℕ) → length ps ≤ i → get_or (places_of a y ps) i 0 ≡ 0
    unfolding places_of
    behind i h =
        let m = shares-length a y 0 ps in
        let e : i ≡ length (shares_from a y 0 ps) + (i - length ps) = omega (arith, m) in
        ap (λ (j : ℕ). get_or (shares_from a y 0 ps ++ replicate (12 - length ps) 0) j 0) e
        ∙ get_or-append-add (shares_from a y 0 ps) (replicate (12 - length ps) 0) (i - length ps) 0
        ∙ zeros-at (12 - length ps) (i - length ps)

    pub are-shares : AreShares a y ps (places_of a y ps)
    are-shares = record {
      sums =
          ap total (sym (take_all 12 (places_of a y ps) (omega (arith, places-length))))
          ∙ runs 12
          ∙ ap (λ (l : List ℕ). quotient_of a (total l) y) (take_all 12 ps few)
          ∙ ap (λ (d : ℕ). quotient_of a d y) sum
          ∙ mul-div_cancel a pos;
      running = runs;
      past = behind;
    }

-- ---- the arguments

some_at : (ps : List ℕ) → all_some ps ≡ true → (i : ℕ) → i < length ps → 1 ≤ get_or ps i 0
unfolding every
some_at [] e i h = absurd (omega arith)
some_at (p ∷ ps) e zero h = leb-true 1 p (both (leb 1 p) (every (leb 1) ps) e).0
some_at (p ∷ ps) e (suc i) h = some_at ps (both (leb 1 p) (every (leb 1) ps) e).1 i (omega arith)

at_some : (ps : List ℕ) → ((i : ℕ) → i < length ps → 1 ≤ get_or ps i 0) → all_some ps ≡ true
unfolding every
at_some [] f = refl
at_some (p ∷ ps) f = and2 (leb 1 p) (every (leb 1) ps) (le-leb 1 p (f 0 (omega arith))) (at_some ps (λ i h. f (suc i) (omega arith)))

pub periods-are : (y : ℕ) (ps : List ℕ) → are_periods y ps ≡ true → (1 ≤ length ps) × (length ps ≤ 12) × (all_some ps ≡ true) × (total ps ≡ y)
periods-are y ps e =
    let q = both (leb 1 (length ps) && leb (length ps) 12) (all_some ps && eqb (total ps) y) e in
    let o = both (leb 1 (length ps)) (leb (length ps) 12) q.0 in
    let p = both (all_some ps) (eqb (total ps) y) q.1 in
    (leb-true _ _ o.0, leb-true _ _ o.1, p.0, eqb-true _ _ p.1)

module _ (a y : ℕ) (ps : List ℕ) where
  pub parts-of : sharable a y ps ≡ true → (is_amount a ≡ true) × (is_year y ≡ true) × (are_periods y ps ≡ true)
  parts-of e =
      let q = both (is_amount a && is_year y) (are_periods y ps) e in
      let o = both (is_amount a) (is_year y) q.0 in
      (o.0, o.1, q.1)

  range-share : ShareRange a y ps → sharable a y ps ≡ true
  range-share i =
      and2 (is_amount a && is_year y) (are_periods y ps)
      (and2 (is_amount a) (is_year y) (is-amount a i.some i.most) (is-year y i.years))
      (and2 (leb 1 (length ps) && leb (length ps) 12) (all_some ps && eqb (total ps) y)
      (and2 (leb 1 (length ps)) (leb (length ps) 12) (le-leb _ _ i.first) (le-leb _ _ i.last))
      (and2 (all_some ps) (eqb (total ps) y) (at_some ps i.days) (eq-eqb _ _ i.whole)))

  share-range : sharable a y ps ≡ true → ShareRange a y ps
  share-range e =
      let p = parts-of e in
      let m = amount-is a p.0 in
      let q = periods-are y ps p.2 in
      record { some = m.0; most = m.1; years = year-is y p.1; first = q.0; last = q.1; days = some_at ps q.2; whole = q.3 }

  -- the promise, from the equations that the code is proved to meet
  module _ (b e : List ℕ) (x : Result Unit Refusal) (ha : share_answer x ≡ sharing a y ps) (he : e ≡ shared_to a y ps b) where
    in-range : number_of (share_answer x) ≡ 0 → sharable a y ps ≡ true
    unfolding sharing share_tests
    in-range z = no_number (sharable a y ps) 15 [] (λ k. omega arith) (ap number_of (sym ha) ∙ z)

    accepted : ShareRange a y ps → number_of (share_answer x) ≡ 0
    unfolding sharing share_tests
    accepted i = ap number_of ha ∙ simp (range-share i)

    shared-by : share_answer x ≡ success [] → AreShares a y ps e
    unfolding shared_to share_tests
    shared-by h =
        let s = in-range (ap number_of h) in
        let i = share-range s in
        let k : shared_to a y ps b ≡ places_of a y ps = rw s in
        subst (AreShares a y ps) (sym (he ∙ k)) (are-shares a y (year-bound y i.years).0 ps i.last i.whole)

    refused-by : (n : ℕ) (vs : List ℕ) → share_answer x ≡ refusal n vs → (n ≡ 15) × (ShareRange a y ps → ⊥) × (e ≡ b)
    unfolding sharing shared_to share_tests
    refused-by n vs h =
        let q = sole (sharable a y ps) 15 n [] vs (sym ha ∙ h) in
        (q.0, λ i. true≢false (sym (range-share i) ∙ q.1), he ∙ simp q.1)

    holds_by : x ≡ Ok tt → ShareRange a y ps × AreShares a y ps e
    unfolding share_answer
    holds_by h = let k = ap share_answer h in (share-range (in-range (ap number_of k)), shared-by k)

    number_by : (n : Refusal) → x ≡ Err n → (refusal_number n ≡ 15) × (ShareRange a y ps → ⊥) × (e ≡ b)
    unfolding share_answer
    number_by n h = refused-by (refusal_number n) [] (ap share_answer h)

    shares-by : Shares a y ps b x e
    shares-by = record { answer = ha; places = he; exactly = (λ z. share-range (in-range z), accepted); refused = λ n vs h. let q = refused-by n vs h in (q.0, q.2); shared = shared-by; holds = holds_by; number = number_by }

-- ---- the ways out of `shares`

pub share-out : (k a y : ℕ) (ps b : List ℕ) (x : Result Unit Refusal) (e : List ℕ) → Way [] (places_of a y ps) b (share_answer x) e (Shares a y ps b x e) k (share_tests a y ps)
unfolding sharing shared_to
share-out k a y ps b x e = way_out _ _ _ _ e _ k (share_tests a y ps) (shares-by a y ps b e x)

pub shared : (a y z : ℕ) (ps e : List ℕ) → e ≡ places_of a z ps → z ≡ y → e ≡ places_of a y ps
shared a y z ps e he ez = rw (← ez) he

-- ---- the loops

-- the shares so far are in the places, and those of the periods from i on will be put behind them
abbrev pub zeros : List ℕ
zeros = replicate 12 0

module _ (a y : ℕ) (ps : List ℕ) (i : ℕ) (places : List ℕ) (days : ℕ) where
  abbrev pub Putting : Type 0
  Putting = sets places i (shares_from a y days (drop i ps)) ≡ sets zeros 0 (shares_from a y 0 ps)

  pub share-done : Putting → length ps ≤ i → length ps ≤ 12 → places ≡ places_of a y ps
  unfolding places_of
  share-done e h few =
      sym (ap (λ (l : List ℕ). sets places i (shares_from a y days l)) (drop_of_length-le ps h))
      ∙ e
      ∙ sets-eq (shares_from a y 0 ps) zeros 0 (omega (arith, shares-length a y 0 ps, few))
      ∙ ap (λ (l : List ℕ). shares_from a y 0 ps ++ l) (drop-replicate (0 + length (shares_from a y 0 ps)) 12 0 ∙ ap (λ (k : ℕ). replicate {A = ℕ} (12 - k) 0) (zero-add _ ∙ shares-length a y 0 ps))

-- the sum that the code makes
pub sum-total : (ps : List ℕ) (s : ℕ) → s ≡ sum ps → s ≡ total ps
sum-total ps s e = e ∙ sym (is_sum_by total (λ (x : ℕ). x) refl (λ _ _. refl) ps)
