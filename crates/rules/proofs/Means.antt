-- What the answer of `check` means: accepted exactly when every rule is kept, else the first broken rule.
use mathlib.Core.Path.{◌≡◌, refl, ap, sym, ◌∙◌}
use mathlib.Core.Logic.{◌↔◌}
use mathlib.Core.Bool.{Bool, true, false, not, cond}
use mathlib.Core.List.{List, [], ◌∷◌, ◌++◌}
use Prim.Native.Nat.{ℕ}
use native.Mathlib.Omega.{arith}
use borrow.Author.Tests.{eqb-true, ne_eqb, not-false}
use lib.Dec.{eqb}
use lib.ListN.{get_or}
use Rattle.std.specs.Prelude.{Result, Ok, Err}
use Rattle.texts.specs.Texts.{every}
use Rattle.texts.specs.declared.answers.Refusal.{Refusal}
use Rattle.texts.specs.declared.answers.Refusal.TheVariants.{Malformed, Undated}
use Rattle.texts.specs.Answers.{Answer, success, refusal, number_of, ◌refuses◌}
use Rattle.texts.proofs.Refusals.{none_of, succeeded, never}
use Rattle.sheets.specs.Sheet.{well_formed, Sheet}
use Rattle.sheets.specs.Dates.{dates_fit}
use Rattle.sheets.specs.declared.dates.Dates.{Dates}
use Rattle.rules.specs.Rules.{class_of, rules, order, field_of, keeps, keeps_all, first_broken}
use Rattle.rules.specs.Verdicts.{class_name, broken_rule, rejection_answer, verdict_answer, check_tests, checked}
use Rattle.rules.proofs.Numbers.{refusal_of, refusal-back}
use Rattle.rules.proofs.First.{numbered, none_kept, kept-none, split}
use Rattle.rules.specs.declared.class.Class.TheVariants.{A, B, O}
use Rattle.rules.specs.declared.class.Class.{Class}
use Rattle.rules.specs.declared.check.Rejection.{Rejection}
use Rattle.rules.specs.declared.check.Rejection.TheVariants.{Broken, Refused}

-- the verdict that has an answer
abbrev rejection_of : ℕ → List ℕ → Rejection
rejection_of n [] = Refused (refusal_of n)
rejection_of n (f ∷ vs) = Broken (record { 0 = f }) (record { 0 = get_or vs 0 0 })

abbrev verdict_of : Answer → Result Class Rejection
verdict_of (success l) = Ok (cond (eqb (get_or l 0 0) 65) A (cond (eqb (get_or l 0 0) 66) B O))
verdict_of (refusal n vs) = Err (rejection_of n vs)

answered : (v : Result Class Rejection) → verdict_of (verdict_answer v) ≡ v
unfolding verdict_answer rejection_answer
answered (Ok A) = refl
answered (Ok B) = refl
answered (Ok O) = refl
answered (Err (Broken f r)) = refl
answered (Err (Refused n)) = ap (λ (m : Refusal). Err (Refused m)) (refusal-back n)

-- so verdicts with the same answer are the same
same-verdict : (v w : Result Class Rejection) → verdict_answer v ≡ verdict_answer w → v ≡ w
same-verdict v w e = sym (answered v) ∙ ap verdict_of e ∙ answered w

pub order-numbered : every numbered order ≡ true
unfolding every
order-numbered = refl

module _ (D : Dates) (s : Sheet) (v : Result Class Rejection) (e : verdict_answer v ≡ checked D s) where
  pub accepts : well_formed s ≡ true → dates_fit D ≡ true → (v ≡ Ok (class_of s)) ↔ (keeps_all D s ≡ true)
  unfolding checked check_tests keeps_all verdict_answer rejection_answer
  accepts w d = (
    (λ a.
        let q = none_of (check_tests D s) (succeeded _ _ (check_tests D s) (ap verdict_answer (sym a) ∙ e)).0 in
        none_kept (keeps D s) order order-numbered (eqb-true _ _ (not-false _ q.1.1.0))),
    (λ k. same-verdict v (Ok (class_of s)) (e ∙ rw (w, d, kept-none (keeps D s) order k))),
  )

  pub names : well_formed s ≡ true → dates_fit D ≡ true → (keeps_all D s ≡ true → ⊥)
      → (before : List ℕ) × (n : ℕ) × (after : List ℕ)
      × (order ≡ before ++ (n ∷ after))
      × (every (keeps D s) before ≡ true)
      × (keeps D s n ≡ false)
      × (v ≡ Err (Broken (record { 0 = field_of rules n s }) (record { 0 = n })))
  unfolding checked check_tests keeps_all verdict_answer rejection_answer
  names w d f =
      let (b, n, a, o, p, k, i) = split (keeps D s) order f in
      let z : n ≡ 0 → ⊥ = λ q. f (none_kept (keeps D s) order order-numbered (i ∙ q)) in
      (b, n, a, o, p, k, same-verdict v (Err (Broken (record { 0 = field_of rules n s }) (record { 0 = n }))) (e ∙ rw (w, d, i, ne_eqb n 0 z)))

  pub malforms : (v ≡ Err (Refused Malformed)) ↔ (well_formed s ≡ false)
  unfolding verdict_answer rejection_answer checked check_tests
  malforms = (
    (λ a. go (well_formed s) refl (sym e ∙ ap verdict_answer a)),
    (λ w. same-verdict v (Err (Refused Malformed)) (e ∙ rw w)),
  )
    where
      go : (b : Bool) → well_formed s ≡ b → checked D s ≡ refusal 1 [] → b ≡ false
      go false w h = refl
      go true w h =
          absurd
          (never 1 (class_name (class_of s))
          ((not (dates_fit D) refuses 12) ∷ broken_rule rules (first_broken D s order) s ∷ [])
          (λ z. omega arith) refl (ap number_of (rw w at h)))

  pub undates : well_formed s ≡ true → (v ≡ Err (Refused Undated)) ↔ (dates_fit D ≡ false)
  unfolding verdict_answer rejection_answer checked check_tests
  undates w = (
    (λ a. go (dates_fit D) refl (sym e ∙ ap verdict_answer a)),
    (λ d. same-verdict v (Err (Refused Undated)) (e ∙ rw (w, d))),
  )
    where
      go : (b : Bool) → dates_fit D ≡ b → checked D s ≡ refusal 12 [] → b ≡ false
      go false d h = refl
      go true d h =
          absurd
          (never 12 (class_name (class_of s))
          (broken_rule rules (first_broken D s order) s ∷ [])
          (λ z. omega arith) refl (ap number_of (rw (w, d) at h)))
