-- The set of all broken rules: its bits, and the ways through the functions that make it.
use mathlib.Core.Path.{◌≡◌, refl, ap, sym, ◌∙◌, fun_ext}
use mathlib.Core.Logic.{◌↔◌}
use mathlib.Core.Bool.{Bool, true, false, not, cond}
use mathlib.Core.List.{List, [], ◌∷◌, ◌++◌, map, reverse}
use Prim.Native.Nat.{ℕ, zero, suc, ◌+◌, ◌*◌, ◌/◌, ◌%◌, ◌^◌, ◌≤◌, ◌<◌}
use native.Mathlib.Nat.{mul_comm, mul_assoc, mul_right_comm, add-mul, zero-mul, one-mul, zero-div, div-one, div-div-eq-div-mul, pow-suc}
use native.Mathlib.Omega.{arith}
use borrow.Author.Tests.{eqb-true}
use lib.Dec.{eqb}
use lib.ListN.{length, get_or}
use lib.Pow.{pow_mono}
use Rattle.std.specs.Prelude.{fold, bit_or}
use Rattle.std.proofs.lemmas.List.{reverse-append}
use Rattle.std.proofs.lemmas.List.Sums.{fold-append}
use Rattle.std.proofs.lemmas.Grind.{or_after_shift}
use Rattle.texts.specs.Texts.{every, any, are, among}
use Rattle.texts.specs.Answers.{Answer, success, refusal, number_of, ◌refuses◌}
use Rattle.texts.proofs.Bools.{both, cases}
use Rattle.texts.proofs.Every.{every-same}
use Rattle.texts.proofs.Refusals.{Way, way_out, tested, never}
use Rattle.sheets.specs.Sheet.{Sheet, well_formed}
use Rattle.sheets.specs.Dates.{dates_fit}
use Rattle.sheets.specs.Forms.{◌⇒◌}
use Rattle.sheets.specs.declared.dates.Dates.{Dates}
use Rattle.sheets.specs.declared.facts.Facts.{Facts}
use Rattle.sheets.specs.Working.Facts.{facts_of, Read}
use Rattle.rules.specs.Requests.R5.{up_to20, from23}
use Rattle.rules.specs.Rules.{Rule, rules, order, keeps, keeps_all, first_not}
use Rattle.rules.specs.AllBroken.{bits_of, broken_set, bit_of, BrokenSet, broken_answer, break_tests, breaking, BreaksRules}
use Rattle.rules.specs.Working.Tests.{ordinary, general_on, special_on, outcomes_on, judged_on, all_true}
use Rattle.rules.specs.Working.Bits.{failed_bit, failed_bits}
use Rattle.texts.specs.declared.answers.Refusal.{Refusal}
use Rattle.texts.specs.declared.answers.Refusal.TheVariants.{Malformed, Undated}
use Rattle.rules.proofs.Numbers.{refusal_of, refusal-back}
use Rattle.std.specs.Prelude.{Result, Ok, Err}
use Rattle.rules.proofs.On.{tests_of, counted, rules-counted, none-at, verdicts_on, tests-on, keeps_on}

-- ---- the bits of outcomes

-- a bit in front of a number, taken apart
bit-front : (b : Bool) (m : ℕ) → ((m * 2 + failed_bit b) % 2 ≡ failed_bit b) × ((m * 2 + failed_bit b) / 2 ≡ m)
bit-front true m = (omega arith, omega arith)
bit-front false m = (omega arith, omega arith)

bits_below : (os : List Bool) → failed_bits os < 2 ^ length os
unfolding failed_bits
bits_below [] = omega arith
bits_below (b ∷ bs) = rw pow-suc (omega (arith, bits_below bs, (bit-front b (failed_bits bs)).0))

-- an outcome past the end is true
bits_at : (os : List Bool) (n : ℕ) → failed_bits os / 2 ^ n % 2 ≡ failed_bit (get_or os n true)
unfolding failed_bits
bits_at [] n = rw zero-div
bits_at (b ∷ bs) zero = rw div-one (bit-front b (failed_bits bs)).0
bits_at (b ∷ bs) (suc n) = rw (pow-suc, mul_comm (2 ^ n) 2, ← div-div-eq-div-mul, (bit-front b (failed_bits bs)).1) (bits_at bs n)

-- those behind that are true add nothing
bits-end : (os qs : List Bool) → failed_bits (os ++ map (λ (q : Bool). true) qs) ≡ failed_bits os
unfolding failed_bits
bits-end [] [] = refl
bits-end [] (q ∷ qs) = ap (λ (n : ℕ). n * 2 + 0) (bits-end [] qs)
bits-end (o ∷ os) qs = ap (λ (n : ℕ). n * 2 + failed_bit o) (bits-end os qs)

bits_none : (os : List Bool) → all_true os ≡ true → failed_bits os ≡ 0
unfolding failed_bits all_true
bits_none [] e = refl
bits_none (b ∷ bs) e = let q = both b (all_true bs) e in rw (q.0, bits_none bs q.1)

-- ---- failed_bits: the last is put in first

abbrev pub bit_in : ℕ → Bool → ℕ
bit_in n b = bit_or (n * 2 % 2 ^ 64) (cond (not b) 1 0)

bit-in : (n : ℕ) (b : Bool) → n < 2 ^ 63 → bit_in n b ≡ n * 2 + failed_bit b
bit-in n true h = or_after_shift n 2 (2 ^ 64) 0 refl (omega arith) (omega arith)
bit-in n false h = or_after_shift n 2 (2 ^ 64) 1 refl (omega arith) (omega arith)

pub bits-folded : (os : List Bool) → length os ≤ 64 → fold bit_in 0 (reverse os) ≡ failed_bits os
unfolding failed_bits
bits-folded [] l = refl
bits-folded (b ∷ bs) l =
    let h : failed_bits bs < 2 ^ 63 = let k : length bs ≤ 63 = omega arith in omega (arith, bits_below bs, pow_mono k) in
    ap (fold bit_in 0) (reverse-append (b ∷ []) bs) ∙ fold-append bit_in 0 (reverse bs) (b ∷ []) ∙ ap (λ (n : ℕ). bit_in n b) (bits-folded bs (omega arith)) ∙ bit-in (failed_bits bs) b h

-- ---- the set

-- bit 0 is no rule's
whole-bits : (os : List Bool) → failed_bits os * 2 ^ 1 ≡ failed_bits (true ∷ os)
unfolding failed_bits
whole-bits os = omega arith

kept_by : (b : Bool) → failed_bit b ≡ 0 → b ≡ true
kept_by true e = refl
kept_by false e = absurd (omega arith)

unset : (b : Bool) → eqb (failed_bit b) 0 ≡ b
unset true = refl
unset false = refl

all-kept : (p : ℕ → Bool) (ks : List ℕ) → ((n : ℕ) → p n ≡ true) → every p ks ≡ true
unfolding every
all-kept p [] h = refl
all-kept p (k ∷ ks) h = rw (h k) (all-kept p ks h)

abbrev up_to35 : List ℕ
up_to35 = up_to20 ++ (21 ∷ 22 ∷ from23)

-- the tests of rules whose numbers go up by one
module _ (D : Dates) (s : Sheet) where
  weighed : (b : Bool) (m p : ℕ) → cond b 0 p + m * (p * 2) ≡ (m * 2 + failed_bit b) * p
  weighed b m p = rw (add-mul, mul_right_comm m 2 p, mul_assoc m p 2) (go b)
    where
      go : (b : Bool) → cond b 0 p + m * (p * 2) ≡ m * (p * 2) + failed_bit b * p
      go true = rw zero-mul (omega arith)
      go false = rw one-mul (omega arith)

  summed : (k : ℕ) (rs : List Rule) → counted k rs ≡ true → bits_of D s rs ≡ failed_bits (tests_of D s rs) * 2 ^ k
  unfolding bits_of failed_bits tests_of
  summed k [] c = sym (zero-mul (2 ^ k))
  summed k (r ∷ rs) c =
      let q = both (eqb r.number k) (counted (suc k) rs) c in
      let m = failed_bits (tests_of D s rs) in
      let e : bits_of D s rs ≡ m * (2 ^ k * 2) = summed (suc k) rs q.1 ∙ ap (λ (n : ℕ). m * n) (pow-suc 2 k) in
      (λ i. cond (r.test D s) 0 (2 ^ eqb-true r.number k q.0 i) + e i) ∙ weighed (r.test D s) m (2 ^ k)

  -- the set has the bits of the outcomes of all rules
  set_on : broken_set D s ≡ failed_bits (verdicts_on (facts_of D s))
  unfolding broken_set
  set_on = summed 1 rules rules-counted ∙ whole-bits (tests_of D s rules) ∙ ap failed_bits (tests-on D s)

  -- all rules are kept where all outcomes are true
  all-on : keeps_all D s ≡ all_true (verdicts_on (facts_of D s))
  unfolding keeps_all every any are among all_true
  all-on =
      every-same (keeps D s) order up_to35 refl refl
      ∙ ap (λ (p : ℕ → Bool). every p up_to35) (fun_ext (keeps_on D s))

  bit-on : (n : ℕ) → bit_of (broken_set D s) n ≡ failed_bit (keeps D s n)
  bit-on n = ap (λ (m : ℕ). bit_of m n) set_on ∙ bits_at (verdicts_on (facts_of D s)) n ∙ ap failed_bit (sym (keeps_on D s n))

  pub broken-set : BrokenSet D s (broken_set D s)
  unfolding keeps_all
  broken-set = record {
    bit = bit-on;
    only = (
      ap (λ (n : ℕ). n % 2) (sym (div-one (broken_set D s))) ∙ bit-on 0 ∙ ap failed_bit (none-at D s),
      rw set_on (bits_below (verdicts_on (facts_of D s))),
    );
    none = (
      λ z. all-kept (keeps D s) order (λ n. kept_by (keeps D s n) (sym (bit-on n) ∙ ap (λ (m : ℕ). bit_of m n) z ∙ ap (λ (m : ℕ). m % 2) (zero-div (2 ^ n)))),
      λ k. set_on ∙ bits_none (verdicts_on (facts_of D s)) (sym all-on ∙ k),
    );
    first = ap (λ (p : ℕ → Bool). first_not p order) (fun_ext (λ n. ap (λ (m : ℕ). eqb m 0) (bit-on n) ∙ unset (keeps D s n)));
  }

-- the code looks at those that count
bits-judged : (f : Facts) → failed_bits (verdicts_on f) ≡ failed_bits (judged_on f)
bits-judged f = go (ordinary f)
  where
    go : (o : Bool) → failed_bits (general_on f ++ map (λ (b : Bool). not o ⇒ b) (special_on f)) ≡ failed_bits (cond o (general_on f) (outcomes_on f))
    go true = bits-end (general_on f) (special_on f)
    go false = refl

-- all_broken
pub all-judged : (f : Facts) (o b : Bool) (os : List Bool) (r : ℕ) → o ≡ ordinary f → o ≡ b → os ≡ cond b (general_on f) (outcomes_on f) → r ≡ failed_bits os
    → (D : Dates) (s : Sheet) → Read D f s → r ≡ broken_set D s
all-judged f o b os r e t h i D s x =
    let j : r ≡ failed_bits (judged_on f) = cc in
    j ∙ ap (λ (g : Facts). failed_bits (judged_on g)) x.facts ∙ sym (bits-judged (facts_of D s)) ∙ sym (set_on D s)

-- ---- broken_rules

broken_of : Answer → Result ℕ Refusal
broken_of (success vs) = Ok (get_or vs 0 0)
broken_of (refusal n vs) = Err (refusal_of n)

broken-of : (r : Result ℕ Refusal) (a : Answer) → broken_answer r ≡ a → r ≡ broken_of a
unfolding broken_answer broken_of
broken-of (Ok n) a p = ap broken_of p
broken-of (Err n) a p = ap Err (sym (refusal-back n)) ∙ ap broken_of p

module _ (D : Dates) (s : Sheet) (r : Result ℕ Refusal) (e : broken_answer r ≡ breaking D s) where
  found : (a : Answer) → breaking D s ≡ a → r ≡ broken_of a
  found a q = broken-of r a (e ∙ q)

  malforms : (r ≡ Err Malformed) ↔ (well_formed s ≡ false)
  unfolding breaking break_tests broken_answer broken_of
  malforms = (
    λ h.
        cases (well_formed s)
        (λ w. absurd (never 1 (broken_set D s ∷ []) ((not (dates_fit D) refuses 12) ∷ []) (λ z. omega arith) refl (ap number_of (rw w at (sym e ∙ ap broken_answer h)))))
        (λ w. w),
    λ w. found (refusal 1 []) (rw w),
  )

  undates : well_formed s ≡ true → (r ≡ Err Undated) ↔ (dates_fit D ≡ false)
  unfolding breaking break_tests broken_answer broken_of
  undates w = (
    λ h.
        cases (dates_fit D)
        (λ d. absurd (never 12 (broken_set D s ∷ []) [] (λ z. omega arith) refl (ap number_of (rw (w, d) at (sym e ∙ ap broken_answer h)))))
        (λ d. d),
    λ d. found (refusal 12 []) (rw (w, d)),
  )

  sets : well_formed s ≡ true → dates_fit D ≡ true → (n : ℕ) × (r ≡ Ok n) × BrokenSet D s n
  unfolding breaking break_tests broken_of
  sets w d = (broken_set D s, found (success (broken_set D s ∷ [])) (rw (w, d)), broken-set D s)

  breaks-by : BreaksRules D s r
  breaks-by = record { answer = e; set = sets; malformed = malforms; undated = undates }

-- its ways out
pub breaks-out : (k : ℕ) (D : Dates) (s : Sheet) (r : Result ℕ Refusal) → Way (broken_set D s ∷ []) [] [] (broken_answer r) [] (BreaksRules D s r) k (break_tests D s)
unfolding breaking
breaks-out k D s r = way_out _ [] [] _ [] _ k (break_tests D s) (λ p q. breaks-by D s r p)

pub set-as : (D : Dates) (s : Sheet) (x : Facts) (n : ℕ) → Read D x s → ((D : Dates) (s : Sheet) → Read D x s → n ≡ broken_set D s) → success (n ∷ []) ≡ success (broken_set D s ∷ [])
set-as D s x n o h = ap (λ (m : ℕ). success (m ∷ [])) (h D s o)

pub ruleset breaks = (tested, set-as)
