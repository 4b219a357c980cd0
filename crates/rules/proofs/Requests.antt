-- What requests say of the answers before and after.
use mathlib.Core.Path.{◌≡◌, refl, ap, sym, ◌∙◌}
use mathlib.Core.Bool.{Bool, true, false, not, ◌&&◌, ◌||◌, or-true}
use mathlib.Core.List.{List, [], ◌∷◌}
use Prim.Native.Nat.{ℕ, zero, suc}
use borrow.Author.Tests.{eqb-true, not-false}
use lib.ListN.{get_or, set}
use Rattle.texts.specs.Quoted.{Text}
use Rattle.texts.specs.Texts.{every, digits_not_00, ◌is◌}
use Rattle.texts.specs.Answers.{success}
use Rattle.texts.proofs.Bools.{both, and2}
use Rattle.texts.proofs.Refusals.{none_of, succeeded}
use Rattle.sheets.specs.Sheet.{Sheet, well_formed, ◌⟨◌⟩}
use Rattle.sheets.specs.Forms.{◌⇒◌, uin, foreign_code, weights10, weights11, weights12, check_digit, inn10, inn12, inn, person}
use Rattle.sheets.specs.Lists.{personal_group, want_inn, want_ten, want_twelve, want_zero}
use Rattle.sheets.proofs.Kpps.{kpp-wider}
use Rattle.sheets.specs.Dates.{dates_fit}
use Rattle.sheets.specs.declared.dates.Dates.{Dates}
use Rattle.rules.specs.Rules.{Rule, budget, rules, order, status, test_of, rule8, rule9, rule11, rule12, rule23, rule24, rule25, class_of}
use Rattle.rules.specs.Verdicts.{class_name, checked}
use Rattle.rules.specs.Requests.Before.{tests_by, checked_by, now}
use Rattle.rules.specs.Requests.R2 as r2
use Rattle.rules.specs.Requests.R4 as r4
use Rattle.rules.proofs.First.{none_kept, kept-none}
use Rattle.rules.proofs.On.{tests_of, counted, tests-at}
use Rattle.rules.proofs.Means.{order-numbered}

-- ---- rules of which some ask less than others

every-implied : (p q : ℕ → Bool) → ((n : ℕ) → p n ≡ true → q n ≡ true) → (ns : List ℕ) → every p ns ≡ true → every q ns ≡ true
unfolding every
every-implied p q i [] e = refl
every-implied p q i (n ∷ ns) e =
    let b = both (p n) (every p ns) e in
    and2 (q n) (every q ns) (i n b.0) (every-implied p q i ns b.1)

-- an outcome replaced by one that it implies
set-implies : (xs : List Bool) (i : ℕ) (a b : Bool) → (a ≡ true → b ≡ true) → (j : ℕ) → get_or (set xs i a) j true ≡ true → get_or (set xs i b) j true ≡ true
set-implies [] i a b h j e = refl
set-implies (x ∷ xs) zero a b h zero e = h e
set-implies (x ∷ xs) zero a b h (suc j) e = e
set-implies (x ∷ xs) (suc i) a b h zero e = e
set-implies (x ∷ xs) (suc i) a b h (suc j) e = set-implies xs i a b h j e

and_both : (a b x y : Bool) → (a ≡ true → x ≡ true) → (b ≡ true → y ≡ true) → (a && b) ≡ true → (x && y) ≡ true
and_both a b x y h k e = let q = both a b e in and2 x y (h q.0) (k q.1)

or-both : (a b x y : Bool) → (a ≡ true → x ≡ true) → (b ≡ true → y ≡ true) → (a || b) ≡ true → (x || y) ≡ true
or-both true b x y h k e = rw (h refl)
or-both false b x y h k e = rw (k e) (or-true x)

or-implied : (x y z : Bool) → (y ≡ true → z ≡ true) → (x || y) ≡ true → (x || z) ≡ true
or-implied x y z h e = or-both x y x z (λ k. k) h e

if-implied : (a b c : Bool) → (b ≡ true → c ≡ true) → (a ⇒ b) ≡ true → (a ⇒ c) ≡ true
if-implied a = or-implied (not a)

-- where the outcomes by rs imply those by qs, a sheet accepted by rs is accepted by qs
module _ (rs qs : List Rule) (a : counted 1 rs ≡ true) (b : counted 1 qs ≡ true) (D : Dates) (s : Sheet) (z : test_of qs 0 D s ≡ true) (h : (n : ℕ) → get_or (tests_of D s rs) n true ≡ true → get_or (tests_of D s qs) n true ≡ true) where
  implied-at : (n : ℕ) → test_of rs n D s ≡ true → test_of qs n D s ≡ true
  implied-at zero e = z
  implied-at (suc n) e = tests-at D s n qs b ∙ h n (sym (tests-at D s n rs a) ∙ e)

  accepted-too : (c : List ℕ) → checked_by rs order D s ≡ success c → checked_by qs order D s ≡ success c
  unfolding checked_by tests_by
  accepted-too c e =
      let q = succeeded (class_name (class_of s)) c (tests_by rs order D s) (sym e) in
      let o = none_of (tests_by rs order D s) q.0 in
      let k = none_kept (λ (n : ℕ). test_of rs n D s) order order-numbered (eqb-true _ _ (not-false _ o.1.1.0)) in
      let f = kept-none (λ (n : ℕ). test_of qs n D s) order (every-implied (λ (n : ℕ). test_of rs n D s) (λ (n : ℕ). test_of qs n D s) implied-at order k) in
      let w : well_formed s ≡ true = not-false _ o.0 in
      let d : dates_fit D ≡ true = not-false _ o.1.0 in
      rw (w, d, f) (ap success (sym q.1))

-- ---- R-2

-- before, the outcomes of the rules were those of now with two replaced
implied-before : (D : Dates) (s : Sheet) (n : ℕ) → get_or (tests_of D s r2.rules_before) n true ≡ true → get_or (tests_of D s rules) n true ≡ true
unfolding tests_of r2.rules_before rules
implied-before D s n e =
    let b = budget s in
    let with11 = set (tests_of D s rules) 10 (b ⇒ r2.rule11_before s) in
    set-implies (tests_of D s rules) 10 _ (b ⇒ rule11 s) (if-implied b (r2.rule11_before s) _ (or-implied (s ⟨ 102 ⟩ is "0") _ _ (kpp-wider (s ⟨ 102 ⟩)))) n
    (set-implies with11 11 (b ⇒ r2.rule12_before s) (b ⇒ rule12 s) (if-implied b _ _ (kpp-wider (s ⟨ 103 ⟩))) n e)

pub still-accepted : (D : Dates) (s : Sheet) → r2.StillAccepted D s (checked D s)
unfolding test_of rules r2.rules_before
still-accepted D s c e = sym (now D s) ∙ accepted-too r2.rules_before rules refl refl D s refl (implied-before D s) c e

-- ---- R-4

-- what has right check digits is so many digits not beginning 00
inn10-plain : (t : Text) → inn10 t ≡ true → r4.inn10_before t ≡ true
inn10-plain t e = (both (digits_not_00 10 t) (check_digit weights10 t) e).0

inn12-plain : (t : Text) → inn12 t ≡ true → r4.inn12_before t ≡ true
inn12-plain t e = (both (digits_not_00 12 t) (check_digit weights11 t && check_digit weights12 t) e).0

inn-plain : (t : Text) → inn t ≡ true → r4.inn_before t ≡ true
inn-plain t e = or-both (inn10 t) (inn12 t) (r4.inn10_before t) (r4.inn12_before t) (inn10-plain t) (inn12-plain t) e

rule23-plain : (s : Sheet) → rule23 s ≡ true → r4.rule23_before s ≡ true
rule23-plain s =
    let t = s ⟨ 60 ⟩ in
    and_both _ _ _ _ (if-implied (status s want_inn) _ _ (inn-plain t))
    (and_both _ _ _ _ (if-implied (status s want_ten) _ _ (inn10-plain t))
    (and_both _ (status s want_zero ⇒ t is "0") _ _ (if-implied (status s want_twelve) _ _ (inn12-plain t)) (λ z. z)))

rule24-plain : (s : Sheet) → rule24 s ≡ true → r4.rule24_before s ≡ true
rule24-plain s = if-implied (status s "13") _ _ (or-both _ (uin (s ⟨ 22 ⟩)) _ _ (inn-plain (s ⟨ 60 ⟩)) (λ z. z))

rule25-plain : (s : Sheet) → rule25 s ≡ true → r4.rule25_before s ≡ true
rule25-plain s =
    if-implied (status s personal_group) _ _ (or-implied (person (s ⟨ 108 ⟩)) _ _
    (and_both (s ⟨ 108 ⟩ is "0") _ _ _ (λ z. z) (or-both _ (uin (s ⟨ 22 ⟩)) _ _ (inn12-plain (s ⟨ 60 ⟩)) (λ z. z))))

-- before, the outcomes of the rules were those of now with five replaced
plain-implied : (D : Dates) (s : Sheet) (n : ℕ) → get_or (tests_of D s rules) n true ≡ true → get_or (tests_of D s r4.rules_before) n true ≡ true
unfolding tests_of r4.rules_before rules
plain-implied D s n e =
    let b = budget s in
    let t = s ⟨ 60 ⟩ in
    let with25 = set (tests_of D s rules) 24 (b ⇒ r4.rule25_before s) in
    let with24 = set with25 23 (b ⇒ r4.rule24_before s) in
    let with23 = set with24 22 (b ⇒ r4.rule23_before s) in
    let with9 = set with23 8 (b ⇒ r4.rule9_before s) in
    set-implies with9 7 (b ⇒ rule8 s) (b ⇒ r4.rule8_before s) (if-implied b _ _ (or-implied (t is "0" || foreign_code t) _ _ (inn-plain t))) n
    (set-implies with23 8 (b ⇒ rule9 s) (b ⇒ r4.rule9_before s) (if-implied b _ _ (inn10-plain (s ⟨ 61 ⟩))) n
    (set-implies with24 22 (b ⇒ rule23 s) (b ⇒ r4.rule23_before s) (if-implied b _ _ (rule23-plain s)) n
    (set-implies with25 23 (b ⇒ rule24 s) (b ⇒ r4.rule24_before s) (if-implied b _ _ (rule24-plain s)) n
    (set-implies (tests_of D s rules) 24 (b ⇒ rule25 s) (b ⇒ r4.rule25_before s) (if-implied b _ _ (rule25-plain s)) n e))))

pub accepted-before : (D : Dates) (s : Sheet) → r4.AcceptedBefore D s (checked D s)
unfolding test_of rules r4.rules_before
accepted-before D s c e = accepted-too rules r4.rules_before refl refl D s refl (plain-implied D s) c (now D s ∙ e)
